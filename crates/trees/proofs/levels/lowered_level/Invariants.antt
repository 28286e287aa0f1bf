-- `trees::levels::lowered_level`: what is left to look at, from a place down, gives the answer.
use Rattle.std.proofs.Common.{◌≡◌}
use Rattle.trees.specs.Trees.{last_apart, lowered_at}
use Rattle.trees.specs.Inside.{alike_in}
use Rattle.trees.proofs.levels.lowered_level.Given as goal

abbrev pub invariant-loop-place : goal.invariant-loop-place
invariant-loop-place l = last_apart (alike_in l.from l.own) l.k l.tree l.place ≡ lowered_at (alike_in l.from l.own) l.k l.tree
