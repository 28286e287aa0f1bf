-- What the programs over four places compute.
use Prim.Native.Nat.{ℕ, zero, suc, ◌+◌, ◌*◌, ◌≤◌, ◌<◌}
use mathlib.Core.Path.{◌≡◌, refl, sym, ap, ◌∙◌}
use mathlib.Core.Bool.{true, cond}
use mathlib.Core.List.{List, [], ◌∷◌, ◌++◌}
use native.Mathlib.Omega.{arith}
use native.Mathlib.Nat.{mul-zero, add-zero}
use lib.ListN.{length, get_or, drop}
use lib.Dec.{eqb}
use borrow.Author.Tests.{eq-eqb, ne_eqb}
use Rattle.refusals.specs.Refusals.{none}
use Rattle.room.specs.Told.{Between}
use Rattle.room.specs.Digits.{address_of, strike, differ_from, Below}
use Rattle.std.specs.Prelude.{Some, None}
use Rattle.room.specs.Answers.{between, only_level, no_between}
use Rattle.room.proofs.DigitLaws.{address_lt, pow_small}
use Rattle.room.proofs.RoomLaws.{differ-step, differ-here, differ-end}

-- ---- reading four places as a number, from the top

pub from-top : (n : ℕ) (ds : List ℕ) → length ds ≡ 4 → get_or ds 0 0 + n * (get_or ds 1 0 + n * (get_or ds 2 0 + n * get_or ds 3 0)) ≡ address_of n ds
unfolding address_of
from-top n [] l = let z : ⊥ = omega arith in absurd z
from-top n (p ∷ []) l = let z : ⊥ = omega arith in absurd z
from-top n (p ∷ q ∷ []) l = let z : ⊥ = omega arith in absurd z
from-top n (p ∷ q ∷ r ∷ []) l = let z : ⊥ = omega arith in absurd z
from-top n (p ∷ q ∷ r ∷ t ∷ []) l = simp (mul-zero, add-zero)
from-top n (p ∷ q ∷ r ∷ t ∷ u ∷ ds) l = let z : ⊥ = omega arith in absurd z

pub four_small : (n : ℕ) (ds : List ℕ) → n ≤ 64 → Below n ds → length ds ≡ 4 → address_of n ds ≤ 16777216
four_small n ds h b l = omega (arith, address_lt n ds b, pow_small n (length ds) h (omega arith))

-- ---- striking one out

-- the places of four by a choice of three
abbrev pub three_of : List ℕ → ℕ → ℕ → ℕ → List ℕ
three_of ds i j k = get_or ds i 0 ∷ get_or ds j 0 ∷ get_or ds k 0 ∷ 0 ∷ []

abbrev pub struck_of : ℕ → List ℕ → List ℕ
struck_of zero ds = three_of ds 1 2 3
struck_of (suc zero) ds = three_of ds 0 2 3
struck_of (suc (suc zero)) ds = three_of ds 0 1 3
struck_of (suc (suc (suc l))) ds = three_of ds 0 1 2

pub struck_places : (l : ℕ) (ds : List ℕ) → l ≤ 3 → length ds ≡ 4 → struck_of l ds ≡ strike l ds ++ (0 ∷ [])
struck_places l [] h e = let z : ⊥ = omega arith in absurd z
struck_places l (p ∷ []) h e = let z : ⊥ = omega arith in absurd z
struck_places l (p ∷ q ∷ []) h e = let z : ⊥ = omega arith in absurd z
struck_places l (p ∷ q ∷ r ∷ []) h e = let z : ⊥ = omega arith in absurd z
struck_places zero (p ∷ q ∷ r ∷ t ∷ []) h e = refl
struck_places (suc zero) (p ∷ q ∷ r ∷ t ∷ []) h e = refl
struck_places (suc (suc zero)) (p ∷ q ∷ r ∷ t ∷ []) h e = refl
struck_places (suc (suc (suc zero))) (p ∷ q ∷ r ∷ t ∷ []) h e = refl
struck_places (suc (suc (suc (suc l)))) (p ∷ q ∷ r ∷ t ∷ []) h e = let z : ⊥ = omega arith in absurd z
struck_places l (p ∷ q ∷ r ∷ t ∷ u ∷ ds) h e = let z : ⊥ = omega arith in absurd z

-- as the program finds the level
pub struck-at : (m l : ℕ) (ds : List ℕ) → l ≡ m → m ≤ 3 → length ds ≡ 4 → struck_of m ds ≡ strike l ds ++ (0 ∷ [])
struck-at m l ds e h n = rw e (struck_places m ds h n)

-- ---- counting the places that differ: c so far, l the last, and these to come

unfoldable pub tally : ℕ → ℕ → List ℕ → Between
tally c l [] = cond (eqb c 1) (record { refusal = none; adjacent = true; level = l }) (no_between 0)
tally c l (x ∷ xs) = tally (c + 1) x xs

tally_many : (c l : ℕ) (xs : List ℕ) → 2 ≤ c → tally c l xs ≡ no_between 0
unfolding tally
tally_many c l [] h = rw (ne_eqb c 1 (λ e. omega arith))
tally_many c l (x ∷ xs) h = tally_many (c + 1) x xs (omega arith)

tally_whole : (xs : List ℕ) → tally 0 0 xs ≡ only_level xs
unfolding tally
tally_whole [] = refl
tally_whole (x ∷ []) = refl
tally_whole (x ∷ y ∷ ys) = tally_many 2 y ys (omega arith)

tally_next : (c l x : ℕ) (xs : List ℕ) → tally c l (x ∷ xs) ≡ tally (c + 1) x xs
unfolding tally
tally_next c l x xs = refl

tally_none : (c l : ℕ) → (c ≡ 1 → ⊥) → tally c l [] ≡ no_between 0
unfolding tally
tally_none c l h = rw (ne_eqb c 1 h)

tally_one : (c l : ℕ) → c ≡ 1 → tally c l [] ≡ record { refusal = none; adjacent = true; level = l }
unfolding tally
tally_one c l h = rw (eq-eqb c 1 h)

-- the loop's invariant: c of the first i places differ, the last of them at l, and the rest to come
pub record Differs (ds es : List ℕ) (c l i : ℕ) : Type 0 where
  pub within : i ≤ 4
  pub few : c ≤ i
  pub left : length ds ≡ 4
  pub right : length es ≡ 4
  pub same : tally c l (differ_from i (drop i ds) (drop i es)) ≡ tally 0 0 (differ_from 0 ds es)

pub differs_start : (ds es : List ℕ) → length ds ≡ 4 → length es ≡ 4 → Differs ds es 0 0 0
differs_start ds es p q = record { within = omega arith; few = omega arith; left = p; right = q; same = refl }

module _ {ds es : List ℕ} {c l i : ℕ} (g : Differs ds es c l i) where
  pub differs_here : i < 4 → (get_or ds i 0 ≡ get_or es i 0 → ⊥) → Differs ds es (c + 1) i (i + 1)
  differs_here h n =
      record {
        within = omega arith;
        few = omega (arith, g.few);
        left = g.left;
        right = g.right;
        same = sym (tally_next c l i _) ∙ ap (tally c l) (sym (differ-here i ds es (omega (arith, g.left)) (omega (arith, g.right)) n)) ∙ g.same;
      }

  pub differs_not : i < 4 → get_or ds i 0 ≡ get_or es i 0 → Differs ds es c l (i + 1)
  differs_not h e =
      record {
        within = omega arith;
        few = omega (arith, g.few);
        left = g.left;
        right = g.right;
        same = ap (tally c l) (sym (differ-step i ds es (omega (arith, g.left)) (omega (arith, g.right)) e)) ∙ g.same;
      }

  module _ (h : 4 ≤ i) where
    whole : tally c l [] ≡ only_level (differ_from 0 ds es)
    whole = ap (tally c l) (sym (differ-end i ds es (omega (arith, g.left)))) ∙ g.same ∙ tally_whole (differ_from 0 ds es)

    pub differs_many : (c ≡ 1 → ⊥) → between None ≡ only_level (differ_from 0 ds es)
    differs_many n = sym (tally_none c l n) ∙ whole

    pub differs_once : c ≡ 1 → between (Some l) ≡ only_level (differ_from 0 ds es)
    differs_once e = sym (tally_one c l e) ∙ whole
