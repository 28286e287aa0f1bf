-- `build::slots::route_bytes`: where the slot's digit is the same, the route goes to the digit after it, and on from the level after.
use Rattle.std.proofs.Common.{rules, arith, get_or}
use Rattle.room.proofs.RoomLaws.{bound_le}
use Rattle.build.proofs.ServerWords.{plus_lt}
use Rattle.build.proofs.SlotLaws.{detour-bytes}
use Rattle.build.proofs.slots.route_bytes.Goals as goal

pub byte_of-requires : goal.byte_of-requires
byte_of-requires c =
    let a = c.args in
    let v = c.requires.0 in
    omega (arith, c.value_after-other.ensures, plus_lt v a.slot (get_or a.from a.slot 0), bound_le v a.slot)

pub returns : goal.returns
returns c = search (rules, detour-bytes)
