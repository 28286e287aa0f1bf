-- `select::slots::Slots::settle`: this slot and those below it are to come.
use Rattle.std.proofs.Common.{suc}
use Rattle.select.specs.Inside.{ToCome}
use Rattle.select.proofs.slots.Slots.settle.Given as goal

abbrev pub invariant-loop-slot : goal.invariant-loop-slot
invariant-loop-slot l = ToCome l.self (suc l.slot) l.settled
