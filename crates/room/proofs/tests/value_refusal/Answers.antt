-- `room::tests::value_refusal`: the link, then the value.
use Rattle.std.proofs.Common.{rules}
use Rattle.refusals.proofs.ReasonLaws.{told-passed}
use Rattle.refusals.proofs.ChainLaws.{chain_on, under, over}
use Rattle.room.specs.Refusals.{value_refusal}
use Rattle.room.proofs.tests.value_refusal.Goals as goal

pub returns-in_err-link_refusal : goal.returns-in_err-link_refusal
unfolding value_refusal
returns-in_err-link_refusal c = told-passed _ _ c.from_residual.ensures.1 _ _ c.in_err-link_refusal.ensures

pub returns-then-value-digit_bound : goal.returns-then-value-digit_bound
unfolding value_refusal
returns-then-value-digit_bound c = search (rules, chain_on, under)

pub returns : goal.returns
unfolding value_refusal
returns c = search (rules, chain_on, over)
