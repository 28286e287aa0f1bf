-- `build::routes::all_routes`: from no array, an array more for each slot, to all.
use Rattle.std.proofs.Common.{arith}
use Rattle.room.proofs.RefusalLaws.{ends_of}
use Rattle.build.proofs.ArrayLaws.{gather_start, gather_next, gather_lower, gather_end}
use Rattle.build.proofs.SlotLaws.{laid-built, places_small}
use Rattle.build.proofs.routes.all_routes.Goals as goal

pub places_of-from-requires : goal.places_of-from-requires
places_of-from-requires c = (ends_of _ _ _ c.requires).source

pub places_of-to-requires : goal.places_of-to-requires
places_of-to-requires c = (ends_of _ _ _ c.requires).destination

pub loop-slot-init : goal.loop-slot-init
loop-slot-init c = gather_start _ _ _ _ c.requires c.new-set.ensures

pub route_bytes-route-requires : goal.route_bytes-route-requires
route_bytes-route-requires c =
    let e = c.loop-slot.invariant.ends in
    (e.source.valid, omega arith, places_small e.source _ c.places_of-from.ensures, places_small e.destination _ c.places_of-to.ensures)

pub loop-slot-preserved : goal.loop-slot-preserved
loop-slot-preserved c =
    gather_lower
    (gather_next c.loop-slot.invariant _ _ c.with_route-set.ensures
    (laid-built _ _ _ _ (omega arith) _ _ c.places_of-from.ensures c.places_of-to.ensures _ c.route_bytes-route.ensures))
    (omega arith)

pub returns-2 : goal.returns-2
returns-2 c =
    gather_end
    (gather_next c.loop-slot.invariant _ _ c.with_route-set.ensures
    (laid-built _ _ _ _ (omega arith) _ _ c.places_of-from.ensures c.places_of-to.ensures _ c.route_bytes-route.ensures))
    (omega arith)
