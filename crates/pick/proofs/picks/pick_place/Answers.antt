-- `pick::picks::pick_place`: 1, 2, 26, 3 to 7; a place of the fresh list, or of the kept one; 16.
use Rattle.std.proofs.Common.{arith, ◌∙◌}
use Rattle.refusals.proofs.ReasonLaws.{tells-passed}
use Rattle.pick.specs.Places.{no_place, the_place}
use Rattle.pick.proofs.LengthLaws.{lists_room}
use Rattle.pick.proofs.UsableLaws.{position-some}
use Rattle.pick.proofs.PickLaws.{place-answered, stands-fresh, stands-kept, stands-nowhere}
use Rattle.pick.proofs.picks.pick_place.Goals as goal

pub returns-in_err-lists_refusal : goal.returns-in_err-lists_refusal
returns-in_err-lists_refusal c = tells-passed no_place the_place _ _ c.from_residual.ensures.1 _ _ c.in_err-lists_refusal.ensures ∙ place-answered _ _ _ _ _ _

pub invariant_of-ends : goal.invariant_of-ends
invariant_of-ends c = record { room = lists_room _ _ _ _ _ _ c.in_ok-lists_refusal.ensures }

pub overflow_add-result : goal.overflow_add-result
overflow_add-result c = omega (arith, (position-some _ _ _ _ _ _ c.in-Some.ensures).1)

pub returns-in-Some : goal.returns-in-Some
returns-in-Some c = stands-fresh _ _ _ _ _ _ c.in_ok-lists_refusal.ensures _ c.in-Some.ensures

pub overflow_add-result-in-Some-first_usable : goal.overflow_add-result-in-Some-first_usable
overflow_add-result-in-Some-first_usable c = omega (arith, (position-some _ _ _ _ _ _ c.in-Some-first_usable.ensures).1)

pub returns-in-Some-first_usable : goal.returns-in-Some-first_usable
returns-in-Some-first_usable c = stands-kept _ _ _ _ _ _ c.in_ok-lists_refusal.ensures c.in_default.ensures _ c.in-Some-first_usable.ensures

pub returns : goal.returns
returns c = stands-nowhere _ _ _ _ _ _ c.in_ok-lists_refusal.ensures c.in_default.ensures c.in_default-first_usable.ensures
