-- `select::slots::Slots::alternate`: the settled routes and the built routes of the lower slots lie in the copy that is searched.
use Rattle.select.proofs.SlotCode.{around-slot, around-asked}
use Rattle.select.proofs.slots.Slots.alternate.Goals as goal

pub returns : goal.returns
returns c p = around-slot c.args.self.now.room c.args.self.now.whole p c.copy_from_slice.ensures.after c.lay_arrays.ensures c.lay_arrays-2.ensures _ c.in-Ok.ensures

pub unreachable-requires : goal.unreachable-requires
unreachable-requires c = around-asked c.args.self.now.room c.args.self.now.whole c.requires c.copy_from_slice.ensures.after c.lay_arrays.ensures c.lay_arrays-2.ensures _ c.in-Err.ensures.0
