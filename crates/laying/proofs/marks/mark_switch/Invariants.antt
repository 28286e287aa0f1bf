-- `laying::marks::mark_switch`: so many of the switch's servers are marked, and the next is at hand.
use Rattle.laying.proofs.MarkLaws.{MarkedSide}
use Rattle.laying.proofs.marks.mark_switch.Given as goal

abbrev pub invariant-loop-value : goal.invariant-loop-value
invariant-loop-value l = MarkedSide l.fn.copy l.server l.level l.side l.copy l._value l.other
