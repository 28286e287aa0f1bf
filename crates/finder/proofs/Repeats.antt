-- Lists with and without repeats.
use Prim.Native.Nat.{ℕ, zero, suc, ◌<◌}
use native.Mathlib.Omega.{arith}
use native.Mathlib.Decide.{ℕ_discrete}
use mathlib.Core.Path.{◌≡◌}
use mathlib.Core.Logic.{◌≢◌, ◌⊎◌, inl, inr, ⊎_elim}
use mathlib.Core.List.{List, [], ◌∷◌}
use lib.ListN.{length, get_or}
use Rattle.lists.specs.Lists.{Once}

-- two places that hold the same
pub record Twice (xs : List ℕ) : Type 0 where
  pub i : ℕ
  pub j : ℕ
  pub order : i < j
  pub inside : j < length xs
  pub same : get_or xs i 0 ≡ get_or xs j 0

held : (x : ℕ) (xs : List ℕ) → ((j : ℕ) × (j < length xs) × (x ≡ get_or xs j 0)) ⊎ ((j : ℕ) → j < length xs → x ≢ get_or xs j 0)
held x [] = inr (λ j h. absurd (omega arith))
held x (y ∷ ys) =
    elim (ℕ_discrete x y) [
      | yes e ↦ inl (0, omega arith, e)
      | no n ↦ ⊎_elim (λ f. inl (suc f.0, omega (arith, f.1), f.2)) (λ f. inr (apart n f)) (held x ys)
    ]
  where
    apart : x ≢ y → ((j : ℕ) → j < length ys → x ≢ get_or ys j 0) → (j : ℕ) → j < length (y ∷ ys) → x ≢ get_or (y ∷ ys) j 0
    apart n f zero h e = n e
    apart n f (suc j) h e = f j (omega arith) e

-- a list has a repeat or has none
pub repeats : (xs : List ℕ) → Twice xs ⊎ Once xs
repeats [] = inr (record { apart = λ i j h b. absurd (omega arith) })
repeats (x ∷ xs) =
    ⊎_elim
    (λ f. inl (record { i = 0; j = suc f.0; order = omega arith; inside = omega (arith, f.1); same = f.2 }))
    (λ f. ⊎_elim (λ t. inl (record { i = suc t.i; j = suc t.j; order = omega (arith, t.order); inside = omega (arith, t.inside); same = t.same })) (λ o. inr (record { apart = more f o })) (repeats xs))
    (held x xs)
  where
    more : ((j : ℕ) → j < length xs → x ≢ get_or xs j 0) → Once xs → (i j : ℕ) → i < j → j < length (x ∷ xs) → get_or (x ∷ xs) i 0 ≢ get_or (x ∷ xs) j 0
    more f o i zero h b e = omega arith
    more f o zero (suc j) h b e = f j (omega arith) e
    more f o (suc i) (suc j) h b e = o.apart i j (omega arith) (omega arith) e
