-- `room::tests::ends_refusal`: the shape, both ends in one go, then one of them, or they are the same.
use Rattle.std.proofs.Common.{rules}
use Rattle.refusals.proofs.ReasonLaws.{told-passed, reason-stops}
use Rattle.room.specs.Refusals.{server_refusal, pair_refusal, ends_refusal}
use Rattle.room.proofs.RefusalLaws.{ends_there, ends_same}
use Rattle.room.proofs.tests.ends_refusal.Goals as goal

pub returns-in_err-shape_refusal : goal.returns-in_err-shape_refusal
unfolding ends_refusal pair_refusal server_refusal
returns-in_err-shape_refusal c = told-passed _ _ c.from_residual.ensures.1 _ _ (reason-stops _ _ _ (reason-stops _ _ _ c.in_err-shape_refusal.ensures))

pub returns-then-are_ends : goal.returns-then-are_ends
returns-then-are_ends c = search (rules, ends_there)

pub returns-in_err-pair_refusal : goal.returns-in_err-pair_refusal
unfolding ends_refusal
returns-in_err-pair_refusal c = told-passed _ _ c.from_residual-in_err-pair_refusal.ensures.1 _ _ c.in_err-pair_refusal.ensures

pub returns : goal.returns
returns c = search (rules, ends_same)
