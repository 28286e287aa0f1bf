-- `summary::order::Order::switch_in`: from the place of level k on, and before it.
use Rattle.summary.proofs.PlaceLaws.{stands-top, each-some, stands-below}
use Rattle.summary.proofs.order.Order.switch_in.Goals as goal

pub returns-then-self-place : goal.returns-then-self-place
returns-then-self-place c = search stands-top

pub nonzero_div-result : goal.nonzero_div-result
nonzero_div-result c = search each-some

pub nonzero_rem-result : goal.nonzero_rem-result
nonzero_rem-result c = search each-some

pub returns : goal.returns
returns c = search stands-below
