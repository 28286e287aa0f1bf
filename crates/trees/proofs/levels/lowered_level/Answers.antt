-- `trees::levels::lowered_level`: its own level, the first from the last place down that differs, or else its own again.
use Rattle.std.proofs.Common.{arith}
use borrow.Author.Tests.{eq-eqb, ne_eqb}
use Rattle.trees.proofs.LevelLaws.{lowered-own, going_start, going_on, going-here, going_end}
use Rattle.trees.proofs.levels.lowered_level.Goals as goal

pub returns-then-from-tree : goal.returns-then-from-tree
returns-then-from-tree c = lowered-own _ _ _ (eq-eqb _ _ c.if-from-tree.true)

pub loop-place-init : goal.loop-place-init
loop-place-init c = going_start _ _ _ (ne_eqb _ _ c.if-from-tree.false)

pub returns-then-from-level : goal.returns-then-from-level
returns-then-from-level c =
    going-here _ _ _ _ _ _ c.loop-place.invariant c.loop-place-test.true c.level_at-level.ensures (ne_eqb _ _ c.if-from-level.true)

pub loop-place-preserved : goal.loop-place-preserved
loop-place-preserved c =
    going_on _ _ _ _ _ _ c.loop-place.invariant c.loop-place-test.true c.level_at-level.ensures (eq-eqb _ _ c.if-from-level.false)

pub returns : goal.returns
returns c = going_end _ _ _ c.requires.1 _ _ c.loop-place.invariant (omega arith)
