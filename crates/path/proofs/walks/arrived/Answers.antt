-- `path::walks::arrived`: a byte that is not zero: 14; the next; none is left.
use Rattle.std.proofs.Common.{arith}
use mathlib.Core.Path.{refl}
use Rattle.refusals.specs.Refusals.{none}
use Rattle.path.proofs.WalkLaws.{ending_stop, ending_next, ending_done}
use Rattle.path.proofs.walks.arrived.Goals as goal

pub returns-then-path-i-ne0 : goal.returns-then-path-i-ne0
returns-then-path-i-ne0 c = ending_stop c.loop-i.invariant c.requires.1 (omega arith) c.if-path-i-ne0.true _ c.at.ensures _ refl

pub loop-i-preserved : goal.loop-i-preserved
loop-i-preserved c = search ending_next

pub returns : goal.returns
returns c = ending_done c.loop-i.invariant c.requires.1 (omega arith) none refl
