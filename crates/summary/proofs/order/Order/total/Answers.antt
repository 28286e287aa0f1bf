-- `summary::order::Order::total`: those below level k, and those at it.
use Rattle.summary.proofs.PlaceLaws.{total_made, total-fits}
use Rattle.summary.proofs.order.Order.total.Goals as goal

pub overflow_add-result : goal.overflow_add-result
overflow_add-result c = search total-fits

pub returns : goal.returns
returns c = search total_made
