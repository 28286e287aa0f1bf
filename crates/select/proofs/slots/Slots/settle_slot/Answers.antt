-- `select::slots::Slots::settle_slot`: the built route is walked and kept; else the alternate takes its place, or there is none.
use Rattle.select.proofs.SlotCode.{walk_goes, walk_stops, so_kept, so_replaced, so_nothing}
use Rattle.select.proofs.slots.Slots.settle_slot.Goals as goal

pub returns-then-is_ok : goal.returns-then-is_ok
returns-then-is_ok c = so_kept c.args.self.now.room c.args.self.now.whole c.requires _ c.array_at-array.ensures _ c.walk.ensures (walk_goes _ c.if-is_ok.ensures.value) _ c.with_route.ensures

pub returns-in-Some : goal.returns-in-Some
returns-in-Some c = so_replaced c.args.self.now.room c.args.self.now.whole c.requires _ c.array_at-array.ensures _ c.walk.ensures (walk_stops _ c.if-is_ok.ensures.value) c.in-Some.found c.in-Some.ensures _ c.with_route-in-Some.ensures

pub returns-in-None : goal.returns-in-None
returns-in-None c = so_nothing c.args.self.now.room c.args.self.now.whole c.requires _ c.array_at-array.ensures _ c.walk.ensures (walk_stops _ c.if-is_ok.ensures.value) c.in-None.ensures
