-- `verdict::checks::check_list`: 1, 2, 26, 3 to 7, or what the arrays are refused for.
use Rattle.std.proofs.Common.{refl}
use Rattle.refusals.specs.Refusals.{none, plain}
use Rattle.refusals.proofs.ReasonLaws.{where-refused}
use Rattle.refusals.proofs.AnswerLaws.{answer-given}
use Rattle.verdict.specs.Checks.{check_answer}
use Rattle.verdict.proofs.checks.check_list.Goals as goal

pub returns-in_err-list_refusal : goal.returns-in_err-list_refusal
unfolding check_answer
returns-in_err-list_refusal c = where-refused (λ r. r) (λ x. none) _ _ c.from_residual.ensures.1 _ _ c.in_err-list_refusal.ensures

pub returns : goal.returns
unfolding check_answer
returns c = answer-given _ _ plain _ _ c.in_ok-list_refusal.ensures refl c.check_arrays.ensures
