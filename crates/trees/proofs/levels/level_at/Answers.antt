-- `trees::levels::level_at`: the levels on from the tree, and round after k.
use Rattle.std.proofs.Common.{arith}
use Rattle.trees.proofs.LevelLaws.{at_in, at-round}
use Rattle.trees.proofs.levels.level_at.Goals as goal

pub returns-then-level-k : goal.returns-then-level-k
returns-then-level-k c = search at_in

pub returns : goal.returns
returns c = at-round _ _ _ c.requires.1 (omega (arith, c.requires.2)) (omega arith)
