-- `links::bits::put_bit`: the bit of the level is set or reset, the others are as they were.
use Rattle.std.proofs.Common.{arith}
use Rattle.links.proofs.LinkLaws.{or_sets, and_resets}
use Rattle.links.proofs.bits.put_bit.Goals as goal

pub returns-then-failed : goal.returns-then-failed
returns-then-failed c = rw c.if-failed.true (or_sets _ _ c.requires (omega arith))

pub returns : goal.returns
returns c = rw c.if-failed.false (and_resets _ _ c.requires (omega arith))
