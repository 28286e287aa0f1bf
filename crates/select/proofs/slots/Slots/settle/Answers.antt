-- `select::slots::Slots::settle`: before slot k nothing is settled, and after a slot the next lower one is to come.
use Rattle.std.proofs.Common.{arith}
use Rattle.select.proofs.SlotCode.{so_starts, so_lower}
use Rattle.select.proofs.slots.Slots.settle.Goals as goal

pub loop-slot-init : goal.loop-slot-init
loop-slot-init c = so_starts _ _ _ _ _ c.new-settled.ensures

pub loop-slot-preserved : goal.loop-slot-preserved
loop-slot-preserved c = so_lower c.settle_slot-settled.ensures (omega arith)
