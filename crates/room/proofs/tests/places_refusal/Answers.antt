-- `room::tests::places_refusal`: the shape, then the places.
use Rattle.std.proofs.Common.{rules}
use Rattle.refusals.proofs.ReasonLaws.{told-passed}
use Rattle.refusals.proofs.ChainLaws.{chain_on, test_failed, test_passed}
use Rattle.room.specs.Refusals.{places_refusal}
use Rattle.room.proofs.tests.places_refusal.Goals as goal

pub returns-in_err-shape_refusal : goal.returns-in_err-shape_refusal
unfolding places_refusal
returns-in_err-shape_refusal c = told-passed _ _ c.from_residual.ensures.1 _ _ c.in_err-shape_refusal.ensures

pub returns-then-places_fit : goal.returns-then-places_fit
unfolding places_refusal
returns-then-places_fit c = search (rules, chain_on, test_passed)

pub returns : goal.returns
unfolding places_refusal
returns c = search (rules, chain_on, test_failed)
