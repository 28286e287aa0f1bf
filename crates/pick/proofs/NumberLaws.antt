-- Each chain of picking gives one of its numbers.
use Prim.Native.Nat.{ℕ}
use mathlib.Core.Path.{refl}
use mathlib.Core.Bool.{false, ◌&&◌}
use mathlib.Core.List.{List, [], ◌∷◌}
use lib.ListN.{length}
use Rattle.refusals.specs.Refusals.{OneOf, nought}
use Rattle.refusals.proofs.NumberLaws.{test_one, chain_one}
use Rattle.room.specs.declared.Shape.{Shape}
use Rattle.links.proofs.NumberLaws.{room-numbers}
use Rattle.pick.specs.Picks.{fits, lists_refusal, lists_numbers, Source, in_fresh, in_kept, nowhere, found, missing, pick_refusal, pick_numbers}

missing-numbers : (x : Source) → OneOf (16 ∷ []) (missing x)
missing-numbers (in_fresh i) = nought refl
missing-numbers (in_kept i) = nought refl
missing-numbers nowhere = test_one 16 false

module _ (s : Shape) (t : List ℕ) (a d : ℕ) (fs ks : List ℕ) where
  pub lists-numbers : OneOf lists_numbers (lists_refusal s t a d fs ks)
  unfolding lists_refusal
  lists-numbers = chain_one _ _ (room-numbers s t a d) (test_one 7 (fits s (length fs) && fits s (length ks)))

  pub pick-numbers : OneOf pick_numbers (pick_refusal s t a d fs ks)
  unfolding pick_refusal
  pick-numbers = chain_one _ _ lists-numbers (missing-numbers (found s t a d fs ks))
