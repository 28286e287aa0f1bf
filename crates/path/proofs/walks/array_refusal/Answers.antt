-- `path::walks::array_refusal`: the ends, then the length.
use Rattle.refusals.proofs.ReasonLaws.{told-passed}
use Rattle.refusals.proofs.ChainLaws.{chain_on, same-passed, apart-refused}
use Rattle.path.specs.Answers.{array_refusal}
use Rattle.path.proofs.walks.array_refusal.Goals as goal

pub returns-in_err-ends_refusal : goal.returns-in_err-ends_refusal
unfolding array_refusal
returns-in_err-ends_refusal c = told-passed _ _ c.from_residual.ensures.1 _ _ c.in_err-ends_refusal.ensures

pub returns-then-path-eq-MOST_HOPS : goal.returns-then-path-eq-MOST_HOPS
unfolding array_refusal
returns-then-path-eq-MOST_HOPS c = chain_on _ _ _ c.in_ok-ends_refusal.ensures (same-passed _ _ _ c.if-path-eq-MOST_HOPS.true)

pub returns : goal.returns
unfolding array_refusal
returns c = chain_on _ _ _ c.in_ok-ends_refusal.ensures (apart-refused _ _ _ c.if-path-eq-MOST_HOPS.false)
