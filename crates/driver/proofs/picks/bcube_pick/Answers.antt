-- `driver::picks::bcube_pick`: the list and the place fit.
use Rattle.std.proofs.Common.{arith}
use Rattle.driver.proofs.PickSmall.{pick_small}
use Rattle.driver.proofs.picks.bcube_pick.Goals as goal

pub overflow_add-list_number : goal.overflow_add-list_number
overflow_add-list_number c = let h = pick_small _ _ _ _ _ _ _ c.in-Ok.ensures in omega (arith, h.value, c.list_number.ensures)

pub value_word-requires : goal.value_word-requires
value_word-requires c = let h = pick_small _ _ _ _ _ _ _ c.in-Ok.ensures in omega (arith, h.value, c.list_number.ensures)
