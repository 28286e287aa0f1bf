-- `summary::order::Order::of`: N over n, and as many at each level below k.
use Rattle.std.proofs.Common.{arith}
use Rattle.summary.proofs.PlaceLaws.{each-ports, each-made, before-made, before-fits}
use Rattle.summary.proofs.order.Order.of.Goals as goal

pub nonzero_div-each : goal.nonzero_div-each
nonzero_div-each c = search each-ports

pub overflow_mul-result : goal.overflow_mul-result
overflow_mul-result c = before-fits _ c.requires _ _ (omega arith) (each-made _ c.requires _ c.server_count.ensures)

pub invariant_of-result : goal.invariant_of-result
invariant_of-result c =
    let each = each-made _ c.requires _ c.server_count.ensures in
    record { lies = record { room = c.requires; each_is = each; top_is = before-made _ c.requires _ _ (omega arith) each } }
