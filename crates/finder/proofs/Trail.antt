-- The way back, one hop at a time.
use Prim.Native.Nat.{ℕ, zero, suc, ◌*◌, ◌/◌, ◌%◌, ◌<◌, ◌≤◌}
use native.Mathlib.Omega.{arith}
use mathlib.Core.Path.{◌≡◌, refl, ap}
use mathlib.Core.List.{List, [], ◌∷◌, ◌++◌}
use Rattle.finder.specs.State.{trail}

module _ (key : ℕ → ℕ) (n : ℕ) (back : (i : ℕ) → 0 < i → i < n → key i < i * 256) where
  -- fuel beyond the place changes nothing
  trail_fuel : (f g i : ℕ) → i < n → i ≤ f → i ≤ g → trail key f i ≡ trail key g i
  unfolding trail
  trail_fuel zero zero zero b hf hg = refl
  trail_fuel zero (suc g) zero b hf hg = refl
  trail_fuel zero zero (suc i) b hf hg = refl
  trail_fuel zero (suc g) (suc i) b hf hg = absurd (omega arith)
  trail_fuel (suc f) zero zero b hf hg = refl
  trail_fuel (suc f) (suc g) zero b hf hg = refl
  trail_fuel (suc f) zero (suc i) b hf hg = absurd (omega arith)
  trail_fuel (suc f) (suc g) (suc i) b hf hg =
      let k : key (suc i) < suc i * 256 = back (suc i) (omega arith) b in
      ap (λ (l : List ℕ). l ++ (key (suc i) % 256 ∷ []))
      (trail_fuel f g (key (suc i) / 256) (omega arith) (omega arith) (omega arith))

  pub trail-step : (i : ℕ) → 0 < i → i < n → trail key i i ≡ trail key (key i / 256) (key i / 256) ++ (key i % 256 ∷ [])
  unfolding trail
  trail-step zero h b = absurd (omega arith)
  trail-step (suc i) h b =
      let k : key (suc i) < suc i * 256 = back (suc i) (omega arith) b in
      ap (λ (l : List ℕ). l ++ (key (suc i) % 256 ∷ [])) (trail_fuel i (key (suc i) / 256) (key (suc i) / 256) (omega arith) (omega arith) (omega arith))

pub trail-zero : (key : ℕ → ℕ) → trail key 0 0 ≡ []
unfolding trail
trail-zero key = refl
