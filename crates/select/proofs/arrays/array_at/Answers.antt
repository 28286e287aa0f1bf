-- `select::arrays::array_at`: the set's bytes in eights are its arrays.
use Rattle.std.proofs.Common.{rules, ◌≡◌, length}
use Rattle.select.proofs.HeldLaws.{array_of_chunks}
use Rattle.select.proofs.arrays.array_at.Goals as goal

pub returns : goal.returns
returns c = let l : length c.args.set.bytes ≡ 32 = search rules in array_of_chunks _ c.args.set c.requires l c.as_chunks.ensures.front
