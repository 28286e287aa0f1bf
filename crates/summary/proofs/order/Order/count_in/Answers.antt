-- `summary::order::Order::count_in`: the count of the switch there.
use Rattle.summary.proofs.EntryLaws.{entry-count}
use Rattle.summary.proofs.order.Order.count_in.Goals as goal

pub returns : goal.returns
returns c = search entry-count
