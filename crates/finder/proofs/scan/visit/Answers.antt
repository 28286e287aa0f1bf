-- `finder::scan::visit`: the queue has room for one server more, or the link is failed.
use Rattle.finder.proofs.Tables.{vacant}
use Rattle.finder.proofs.Hops.{tried_shut, tried-new}
use Rattle.finder.proofs.scan.visit.Goals as goal

pub bounds-queue-tail : goal.bounds-queue-tail
bounds-queue-tail c = search vacant

pub returns-then-is_live : goal.returns-then-is_live
returns-then-is_live c = search tried-new

pub returns : goal.returns
returns c = search tried_shut
