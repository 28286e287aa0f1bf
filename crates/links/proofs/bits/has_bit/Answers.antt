-- `links::bits::has_bit`: the bit by the mask of its weight, and none above a byte.
use Rattle.std.proofs.Common.{arith, ◌∙◌}
use borrow.Author.Tests.{le-ltb}
use Rattle.links.proofs.LinkLaws.{bit_past, weight_at, bit_by_weight}
use Rattle.links.proofs.bits.has_bit.Goals as goal

pub returns-then-level-lt8 : goal.returns-then-level-lt8
returns-then-level-lt8 c = bit_by_weight _ _ _ (weight_at _ c.if-level-lt8.true)

pub returns-else-level-lt8 : goal.returns-else-level-lt8
returns-else-level-lt8 c = le-ltb _ _ c.if-level-lt8.false ∙ bit_past _ _ (omega arith) c.if-level-lt8.false
