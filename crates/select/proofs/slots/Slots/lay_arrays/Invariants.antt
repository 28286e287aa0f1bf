-- `select::slots::Slots::lay_arrays`: the routes from this place on are still to be laid.
use Rattle.select.proofs.HeldLaws.{StillToLay}
use Rattle.select.proofs.slots.Slots.lay_arrays.Given as goal

abbrev pub invariant-loop-place : goal.invariant-loop-place
invariant-loop-place l = StillToLay l.self.shape l.self.source l.self.destination l.set l.first l.end l.fn.copy l.place l.copy
