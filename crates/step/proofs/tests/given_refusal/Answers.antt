-- `step::tests::given_refusal`: the pair, then the table, then the path.
use Rattle.refusals.proofs.ReasonLaws.{told-passed, reason-stops}
use Rattle.refusals.proofs.ChainLaws.{chain_stops, chain_on, same-passed, apart-refused}
use native.Mathlib.Omega.{arith}
use Rattle.step.specs.Steps.{given_refusal}
use Rattle.step.proofs.tests.given_refusal.Goals as goal

pub returns-in_err-pair_refusal : goal.returns-in_err-pair_refusal
unfolding given_refusal
returns-in_err-pair_refusal c = told-passed _ _ c.from_residual.ensures.1 _ _ (reason-stops _ _ _ c.in_err-pair_refusal.ensures)

pub returns-then-table-ne-TABLE_BYTES : goal.returns-then-table-ne-TABLE_BYTES
unfolding given_refusal
returns-then-table-ne-TABLE_BYTES c = chain_stops _ _ _ (chain_on _ _ _ c.in_ok-pair_refusal.ensures (apart-refused _ _ _ c.if-table-ne-TABLE_BYTES.true)) (λ z. omega arith)

pub returns-then-path-ne-MOST_HOPS : goal.returns-then-path-ne-MOST_HOPS
unfolding given_refusal
returns-then-path-ne-MOST_HOPS c = chain_on _ _ _ (chain_on _ _ _ c.in_ok-pair_refusal.ensures (same-passed _ _ _ c.if-table-ne-TABLE_BYTES.false)) (apart-refused _ _ _ c.if-path-ne-MOST_HOPS.true)

pub returns : goal.returns
unfolding given_refusal
returns c = chain_on _ _ _ (chain_on _ _ _ c.in_ok-pair_refusal.ensures (same-passed _ _ _ c.if-table-ne-TABLE_BYTES.false)) (same-passed _ _ _ c.if-path-ne-MOST_HOPS.false)
