-- `room::tests::pair_refusal`: the one, then the other.
use Rattle.std.proofs.Common.{rules}
use Rattle.refusals.proofs.ReasonLaws.{told-passed}
use Rattle.room.specs.Refusals.{pair_refusal}
use Rattle.room.proofs.RefusalLaws.{second-passed, second-failed}
use Rattle.room.proofs.tests.pair_refusal.Goals as goal

pub returns-in_err-server_refusal : goal.returns-in_err-server_refusal
unfolding pair_refusal
returns-in_err-server_refusal c = told-passed _ _ c.from_residual.ensures.1 _ _ c.in_err-server_refusal.ensures

pub returns-then-other-server_count : goal.returns-then-other-server_count
returns-then-other-server_count c = search (rules, second-passed)

pub returns : goal.returns
returns c = search (rules, second-failed)
