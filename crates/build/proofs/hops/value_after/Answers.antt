-- `build::hops::value_after`: the next value, or round to 0; a level's bound is not 0.
use Rattle.std.proofs.Common.{rules, arith}
use Rattle.room.proofs.RoomLaws.{bound-two}
use Rattle.build.proofs.ServerWords.{plus_below, plus_round}
use Rattle.build.proofs.hops.value_after.Goals as goal

pub returns-then-after-most : goal.returns-then-after-most
returns-then-after-most c = search (rules, plus_below)

pub nonzero_rem-result : goal.nonzero_rem-result
nonzero_rem-result c = omega (arith, bound-two c.requires.0 c.args.level)

pub returns : goal.returns
returns c = search (rules, plus_round)
