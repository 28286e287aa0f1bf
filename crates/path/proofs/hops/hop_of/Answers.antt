-- `path::hops::hop_of`: 1, 2, 26, 3, 4; then the hop, or 8, 9, 10.
use Prim.Native.Nat.{ℕ}
use borrow.Author.Rules.{rules}
use mathlib.Core.Path.{refl}
use Rattle.refusals.proofs.ReasonLaws.{where-refused}
use Rattle.refusals.specs.Refusals.{plain}
use Rattle.refusals.proofs.AnswerLaws.{answer-given}
use Rattle.path.specs.Answers.{no_hop, the_hop, hop_answer}
use Rattle.path.proofs.HopLaws.{hop_told}
use Rattle.path.proofs.hops.hop_of.Goals as goal

pub returns-in_err-server_refusal : goal.returns-in_err-server_refusal
unfolding hop_answer
returns-in_err-server_refusal c = where-refused no_hop the_hop _ _ c.from_residual.ensures.1 _ _ c.in_err-server_refusal.ensures

pub returns : goal.returns
unfolding hop_answer
returns c = answer-given 0 _ (λ (r : ℕ). no_hop (plain r)) _ _ c.in_ok-server_refusal.ensures refl (hop_told _ _ _ _ c.hop_from.ensures _ c.map_err.ensures.cases (λ e q h. search rules))
