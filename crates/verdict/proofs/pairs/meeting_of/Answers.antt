-- `verdict::pairs::meeting_of`: a hop meets one of the other's, or none does.
use Rattle.verdict.proofs.MeetingLaws.{met-here, none-met-end}
use Rattle.verdict.proofs.pairs.meeting_of.Goals as goal

pub returns-then-place-other_hops : goal.returns-then-place-other_hops
returns-then-place-other_hops c =
    met-here _ _ _ c.loop-i.invariant c.loop-i-test.true _ c.met_at-place.ensures c.if-place-other_hops.true

pub returns : goal.returns
returns c = none-met-end _ _ _ c.loop-i.invariant c.loop-i-test.false
