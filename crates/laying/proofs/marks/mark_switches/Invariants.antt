-- `laying::marks::mark_switches`: the switches of the hops before this one are marked, and the hops from this one on are left.
use Rattle.std.proofs.Common.{length}
use Rattle.laying.proofs.MarkLaws.{MarkedSwitches, HopsLeft}
use Rattle.laying.proofs.marks.mark_switches.Given as goal

abbrev pub invariant-loop-from : goal.invariant-loop-from
invariant-loop-from l =
    MarkedSwitches l.fn.shape l.fn.copy l.fn.servers (length l.yielded) l.copy
    × HopsLeft l.fn.servers (length l.yielded) l.from-iterator.a.rest.now l.from-iterator.b.rest.now
