-- `pick::picks::pick_route`: the empty part on a refusal; the eight bytes of the place, in the fresh list or in the kept one.
use Rattle.std.proofs.Common.{arith, ap}
use Rattle.pick.specs.Places.{list_number}
use Rattle.pick.proofs.PlaceLaws.{fresh-inside, kept-inside, part_fresh, part_kept, part_none, end_within}
use Rattle.pick.proofs.picks.pick_route.Goals as goal

pub returns-in_default : goal.returns-in_default
returns-in_default c = part_none _ _ _ _ _ _ _ _ _ c.in_default.ensures

pub overflow_mul-end : goal.overflow_mul-end
overflow_mul-end c = omega (arith, end_within _ _ _ _ _ _ _ _ c.in-Ok.ensures)

pub overflow_sub-result : goal.overflow_sub-result
overflow_sub-result c = omega (arith, (fresh-inside _ _ _ _ _ _ _ c.in-Ok.ensures (ap list_number c.in-Fresh.is)).start)

pub slice_bounds-result-end-in-Fresh : goal.slice_bounds-result-end-in-Fresh
slice_bounds-result-end-in-Fresh c = omega (arith, (fresh-inside _ _ _ _ _ _ _ c.in-Ok.ensures (ap list_number c.in-Fresh.is)).end)

pub returns-in-Fresh : goal.returns-in-Fresh
returns-in-Fresh c = part_fresh _ _ _ _ _ _ _ c.in-Ok.ensures _ _ (ap list_number c.in-Fresh.is)

pub overflow_sub-result-in-Kept : goal.overflow_sub-result-in-Kept
overflow_sub-result-in-Kept c = omega (arith, (kept-inside _ _ _ _ _ _ _ c.in-Ok.ensures (ap list_number c.in-Kept.is)).start)

pub slice_bounds-result-end-in-Kept : goal.slice_bounds-result-end-in-Kept
slice_bounds-result-end-in-Kept c = omega (arith, (kept-inside _ _ _ _ _ _ _ c.in-Ok.ensures (ap list_number c.in-Kept.is)).end)

pub returns-in-Kept : goal.returns-in-Kept
returns-in-Kept c = part_kept _ _ _ _ _ _ _ c.in-Ok.ensures _ _ (ap list_number c.in-Kept.is)
