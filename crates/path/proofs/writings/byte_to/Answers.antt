-- `path::writings::byte_to`: the level times 64 and the digit, which no test refuses.
use Rattle.std.proofs.Common.{arith}
use Rattle.path.proofs.WriteLaws.{byte_small, byte_fits, byte_is, byte-there}
use Rattle.path.proofs.writings.byte_to.Goals as goal

pub overflow_add-result : goal.overflow_add-result
overflow_add-result c = byte_fits c.requires _ c.level_to-level.ensures _ c.in-Ok.ensures

pub overflow_cast-result : goal.overflow_cast-result
overflow_cast-result c = omega (arith, byte_small c.requires _ c.level_to-level.ensures _ c.in-Ok.ensures)

pub unreachable-requires : goal.unreachable-requires
unreachable-requires c = byte-there c.requires _ c.level_to-level.ensures _ c.in-Err.ensures

pub returns : goal.returns
returns c = byte_is c.requires _ c.level_to-level.ensures _ c.in-Ok.ensures
