-- `finder::scan::search`: what is known before a server of the queue, before a level of it, and before a value of that.
use Rattle.std.proofs.Common.{suc, ◌-◌}
use Rattle.finder.proofs.Scanning.{AtServer, AtLevel, AtValue}
use Rattle.finder.proofs.scan.search.Given as goal

abbrev pub invariant-scan : goal.invariant-scan
invariant-scan l = AtServer l.shape l.table l.source l.destination l.back l.queue l.marks l.head l.tail

abbrev pub decreases-scan : goal.decreases-scan
decreases-scan l = 4096 - l.head

abbrev pub invariant-loop-level : goal.invariant-loop-level
invariant-loop-level l = AtLevel l.shape l.table l.source l.destination l.here l.back l.queue l.marks l.head l.tail (suc l.level)

abbrev pub invariant-loop-v : goal.invariant-loop-v
invariant-loop-v l = AtValue l.shape l.table l.source l.destination l.here l.side l.initial.marks l.back l.queue l.marks l.head l.tail l.level l.v l.w
