-- `laying::marks::mark_switch`: a server more, and the last.
use Rattle.std.proofs.Common.{arith}
use Rattle.laying.proofs.MarkLaws.{side_near, side_step, side_done}
use Rattle.laying.proofs.marks.mark_switch.Goals as goal

pub overflow_add-other : goal.overflow_add-other
overflow_add-other c =
    let n = side_near c.requires.0 c.side_of-side.ensures c.loop-value.invariant c.loop-value-test.true in
    omega arith

pub loop-value-preserved : goal.loop-value-preserved
loop-value-preserved c = side_step c.loop-value.invariant c.loop-value-test.true _ c.mark.ensures

pub returns : goal.returns
returns c = side_done c.requires.0 c.side_of-side.ensures c.loop-value.invariant c.requires.1 (omega arith)
