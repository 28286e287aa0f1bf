-- `laying::marks::mark_server`: none is marked, then one more, to all.
use Rattle.std.proofs.Common.{arith}
use Rattle.laying.proofs.MarkLaws.{up_start, up_step, up_done}
use Rattle.laying.proofs.marks.mark_server.Goals as goal

pub loop-level-init : goal.loop-level-init
loop-level-init c = up_start _ c.requires.1

pub loop-level-preserved : goal.loop-level-preserved
loop-level-preserved c = up_step c.requires.0 (omega arith) c.mark.ensures c.loop-level.invariant

pub returns-2 : goal.returns-2
returns-2 c = up_done _ _ (omega arith) (up_step c.requires.0 (omega arith) c.mark.ensures c.loop-level.invariant)
