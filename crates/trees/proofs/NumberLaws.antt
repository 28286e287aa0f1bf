-- The chain of a parent gives one of its numbers.
use Prim.Native.Nat.{ℕ}
use mathlib.Core.Bool.{not}
use lib.Dec.{leb, eqb}
use Rattle.refusals.specs.Refusals.{OneOf}
use Rattle.refusals.proofs.NumberLaws.{test_one, chain_one}
use Rattle.room.specs.declared.Shape.{Shape}
use Rattle.room.proofs.NumberLaws.{pair_numbers}
use Rattle.trees.specs.Answers.{parent_refusal, parent_numbers}

pub parent-numbers : (s : Shape) (a l x : ℕ) → OneOf parent_numbers (parent_refusal s a l x)
unfolding parent_refusal
parent-numbers s a l x =
    chain_one _ _ (chain_one _ _ (pair_numbers s a x) (test_one 20 (leb l s.k))) (test_one 5 (not (eqb a x)))
