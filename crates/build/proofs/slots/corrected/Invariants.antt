-- `build::slots::corrected`: the bytes made, and those of the turns to come, are the whole.
use Rattle.std.proofs.Common.{suc, ◌-◌, ◌++◌, take}
use Rattle.build.proofs.SlotLaws.{fixing, Correcting}
use Rattle.build.proofs.slots.corrected.Given as goal

abbrev pub invariant-loop-turn : goal.invariant-loop-turn
invariant-loop-turn l =
    Correcting l.k l.from l.to (take l.count l.fn.made ++ fixing l.k l.from l.to (suc l.k) l.first) l.bytes l.hops l.level (suc l.k - l._turn)
