-- `select::slots::Slots::lay_arrays`: a route more, and the last.
use Rattle.std.proofs.Common.{arith}
use Rattle.select.proofs.HeldLaws.{lay_more, lay_ends}
use Rattle.select.proofs.slots.Slots.lay_arrays.Goals as goal

pub loop-place-preserved : goal.loop-place-preserved
loop-place-preserved c = lay_more c.loop-place.invariant (omega arith) _ c.array_at-array.ensures c.lay_route.ensures

pub returns : goal.returns
returns c = lay_ends c.loop-place.invariant (omega arith)
