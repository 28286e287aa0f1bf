-- Each chain of a step gives one of its numbers.
use Prim.Native.Nat.{ℕ}
use mathlib.Core.Path.{refl}
use mathlib.Core.Bool.{Bool, true, false, cond}
use mathlib.Core.List.{List}
use lib.Dec.{ltb, eqb}
use lib.ListN.{length, get_or}
use Rattle.refusals.specs.Refusals.{OneOf, nought}
use Rattle.refusals.proofs.NumberLaws.{test_one, chain_one}
use Rattle.room.specs.declared.Shape.{Shape}
use Rattle.room.proofs.NumberLaws.{pair_numbers}
use Rattle.path.proofs.NumberLaws.{hop-numbers}
use Rattle.step.specs.Steps.{flag_at, given_refusal, given_numbers, byte_refusal, byte_numbers, away_refusal, away_numbers, step_refusal, step_numbers}

module _ (s : Shape) (a : ℕ) where
  pub given-numbers : (d : ℕ) (bs e : List ℕ) → OneOf given_numbers (given_refusal s a d bs e)
  unfolding given_refusal
  given-numbers d bs e =
      chain_one _ _ (chain_one _ _ (pair_numbers s a d) (test_one 17 (eqb (length e) 2048))) (test_one 7 (eqb (length bs) 8))

  pub byte-numbers : (e : List ℕ) (b : ℕ) → OneOf byte_numbers (byte_refusal s a e b)
  unfolding byte_refusal
  byte-numbers e b = chain_one _ _ (hop-numbers s a b) (test_one 19 (eqb (flag_at e b) 1))

  away-numbers : (i : ℕ) (bs e : List ℕ) → OneOf away_numbers (away_refusal s a i bs e)
  unfolding away_refusal
  away-numbers i bs e = chain_one _ _ (test_one 18 (ltb i 8)) (byte-numbers e (get_or bs i 0))

  pub step-numbers : (d i : ℕ) (bs e : List ℕ) → OneOf step_numbers (step_refusal s a d i bs e)
  unfolding step_refusal
  step-numbers d i bs e = chain_one _ _ (given-numbers d bs e) (unless_here (eqb a d))
    where
      unless_here : (t : Bool) → OneOf away_numbers (cond t 0 (away_refusal s a i bs e))
      unless_here true = nought refl
      unless_here false = away-numbers i bs e
