-- `summary::order::Order::place_of`: those before its level, and its number.
use Rattle.summary.proofs.PlaceLaws.{level-fits, place-made, place-fits}
use Rattle.summary.proofs.order.Order.place_of.Goals as goal

pub overflow_mul-result : goal.overflow_mul-result
overflow_mul-result c = search level-fits

pub overflow_add-result : goal.overflow_add-result
overflow_add-result c = search place-fits

pub returns : goal.returns
returns c = search place-made
