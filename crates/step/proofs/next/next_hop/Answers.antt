-- `step::next::next_hop`: 8, 9, 10; 19; the hop.
use Rattle.refusals.proofs.ReasonLaws.{reason-some}
use Rattle.step.specs.Steps.{entry, flag_at}
use Rattle.step.proofs.NextLaws.{refuses_hop, refuses_closed, takes}
use Rattle.step.proofs.next.next_hop.Goals as goal

pub returns-in-Err : goal.returns-in-Err
returns-in-Err c = refuses_hop _ _ _ _ _ c.requires.0 _ c.in-Err.ensures (reason-some _) _ c.at.ensures

pub returns-then-table-flag-ne-AVAILABLE : goal.returns-then-table-flag-ne-AVAILABLE
unfolding entry flag_at
returns-then-table-flag-ne-AVAILABLE c = refuses_closed _ _ _ _ _ c.requires.0 _ c.in-Ok.ensures c.if-table-flag-ne-AVAILABLE.true _ c.at-then-table-flag-ne-AVAILABLE.ensures

pub returns : goal.returns
unfolding entry flag_at
returns c = takes _ _ _ _ _ c.requires.0 _ c.in-Ok.ensures c.if-table-flag-ne-AVAILABLE.false
