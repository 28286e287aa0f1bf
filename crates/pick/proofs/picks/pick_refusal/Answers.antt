-- `pick::picks::pick_refusal`: the refusal of the place, or none.
use Rattle.std.proofs.Common.{ap, ◌∙◌}
use Rattle.refusals.specs.Refusals.{plain}
use Rattle.refusals.proofs.ReasonLaws.{told-is}
use Rattle.pick.proofs.PickLaws.{place-says}
use Rattle.pick.proofs.picks.pick_refusal.Goals as goal

pub returns-in_err-pick_place : goal.returns-in_err-pick_place
returns-in_err-pick_place c = ap plain (told-is _ _ c.from_residual.ensures.1) ∙ place-says _ _ _ _ _ _ _ c.in_err-pick_place.ensures

pub returns : goal.returns
returns c = place-says _ _ _ _ _ _ _ c.in_ok-pick_place.ensures
