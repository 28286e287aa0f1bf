-- The answers of the spanning trees fit the result word.
use Prim.Native.Nat.{ℕ}
use mathlib.Core.Path.{refl}
use native.Mathlib.Omega.{arith}
use Rattle.refusals.proofs.NumberLaws.{one_le}
use Rattle.room.specs.declared.Shape.{Shape}
use Rattle.room.specs.Shapes.{servers_of}
use Rattle.room.specs.Refusals.{link_refusal}
use Rattle.room.proofs.RefusalLaws.{link_of}
use Rattle.room.proofs.NumberLaws.{link-numbers}
use Rattle.trees.specs.Trees.{parent_of}
use Rattle.trees.specs.Answers.{parent_refusal, parent_answer, tree_answer}
use Rattle.trees.proofs.NumberLaws.{parent-numbers}
use Rattle.trees.proofs.ParentLaws.{child_of}
use Rattle.trees.proofs.HopLaws.{parent-server}
use Rattle.driver.specs.Words.{Small}
use Rattle.driver.proofs.WordLaws.{number_small}

pub parent-small : (s : Shape) (a l x : ℕ) → Small (parent_answer s a l x).refusal (parent_answer s a l x).value
unfolding parent_answer
parent-small s a l x =
    number_small (parent_refusal s a l x) (parent_of s a l x) (one_le 255 refl (parent-numbers s a l x))
    (λ z. let h = parent-server (child_of s a l x z) in omega (arith, h.below, h.valid.small))

pub tree-small : (s : Shape) (a l : ℕ) → Small (tree_answer s a l).refusal (tree_answer s a l).value
unfolding tree_answer
tree-small s a l =
    number_small (link_refusal s a l) (servers_of s) (one_le 255 refl (link-numbers s a l))
    (λ z. let h = link_of s a l z in omega (arith, h.server.valid.small))

pub ruleset tree_numbers = (parent-small, tree-small)
