-- On a built route each digit takes two values only: the source's, and one other. So a route is a walk over lists of Bool, where false is the
-- source's value and true the other, and what is claimed of the built routes is one test over all patterns of k + 1 digits, k at most 3.
use Prim.Native.Nat.{ℕ, zero, suc, ◌+◌, ◌≤◌, ◌<◌}
use mathlib.Core.Path.{◌≡◌, sym, subst}
use mathlib.Core.Logic.{◌≢◌}
use mathlib.Core.Bool.{Bool, true, false, not, cond, ◌&&◌, ◌||◌, beq}
use mathlib.Core.List.{List, [], ◌∷◌}
use native.Mathlib.Omega.{arith}
use native.Mathlib.Decide.{ℕ_discrete}
use borrow.Author.Tests.{ne_eqb}
use lib.Dec.{T, eqb, leb}
use lib.ListN.{length, get_or, set, replicate}
use Rattle.lists.specs.Lists.{down_from}
use Rattle.lists.proofs.ListLaws.{every}
use Rattle.build.specs.Built.{route_over}
use Rattle.build.proofs.ListLaws.{and_left, and_right, or_right, once, apart, inner}

abbrev pub Word : Type 0
Word = List Bool

abbrev pub zeros_b : ℕ → Word
zeros_b k = replicate (suc k) false

-- the hops of route i, from all false to the pattern p
abbrev pub hops_b : ℕ → ℕ → Word → List (ℕ × Bool)
hops_b k i p = route_over beq false (λ l b. not b) k i (zeros_b k) p

-- the servers met, the links left by, and the last server
abbrev pub met_b : Word → List (ℕ × Bool) → List Word
met_b x [] = x ∷ []
met_b x (h ∷ hs) = x ∷ met_b (set x h.0 h.1) hs

abbrev pub left_b : Word → List (ℕ × Bool) → List (ℕ × Word)
left_b x [] = []
left_b x (h ∷ hs) = (h.0, x) ∷ left_b (set x h.0 h.1) hs

abbrev pub last_b : Word → List (ℕ × Bool) → Word
last_b x [] = x
last_b x (h ∷ hs) = last_b (set x h.0 h.1) hs

-- each hop is at a level up to k and changes something
abbrev pub fits_b : ℕ → Word → List (ℕ × Bool) → Bool
fits_b k x [] = true
fits_b k x (h ∷ hs) = leb h.0 k && (not (beq (get_or x h.0 false) h.1) && fits_b k (set x h.0 h.1) hs)

abbrev pub same_word : Word → Word → Bool
same_word [] [] = true
same_word [] (y ∷ ys) = false
same_word (x ∷ xs) [] = false
same_word (x ∷ xs) (y ∷ ys) = beq x y && same_word xs ys

-- the same but in place l
abbrev pub same_but : ℕ → Word → Word → Bool
same_but l [] [] = true
same_but l [] (y ∷ ys) = false
same_but l (x ∷ xs) [] = false
same_but zero (x ∷ xs) (y ∷ ys) = same_word xs ys
same_but (suc l) (x ∷ xs) (y ∷ ys) = beq x y && same_but l xs ys

-- two links are on the same switch
abbrev pub same_switch : ℕ × Word → ℕ × Word → Bool
same_switch u v = eqb u.0 v.0 && same_but u.0 u.1 v.1

-- how many digits differ from the source's
abbrev pub count : Word → ℕ
count [] = 0
count (true ∷ p) = suc (count p)
count (false ∷ p) = count p

-- ---- the tests: of route i; of routes i and j
abbrev pub route_b : ℕ → Word → ℕ → Bool
route_b k p i =
    fits_b k (zeros_b k) (hops_b k i p)
    && (same_word (last_b (zeros_b k) (hops_b k i p)) p
    && (once same_word (met_b (zeros_b k) (hops_b k i p)) && once same_switch (left_b (zeros_b k) (hops_b k i p))))

abbrev pub count_b : ℕ → Word → ℕ → Bool
count_b k p i =
    eqb (length (hops_b k i p)) (cond (get_or p i false) (count p) (count p + 2)) && leb (length (hops_b k i p)) (k + 2)

abbrev pub pair_b : ℕ → Word → ℕ → ℕ → Bool
pair_b k p i j =
    eqb i j
    || (apart same_word (inner (met_b (zeros_b k) (hops_b k i p))) (inner (met_b (zeros_b k) (hops_b k j p)))
    && apart same_switch (left_b (zeros_b k) (hops_b k i p)) (left_b (zeros_b k) (hops_b k j p)))

abbrev pub slot_b : ℕ → Word → ℕ → Bool
slot_b k p i = route_b k p i && (count_b k p i && every (pair_b k p i) (down_from (suc k)))

-- where the ends differ
abbrev pub test_b : ℕ → Word → Bool
test_b k p = eqb (count p) 0 || every (slot_b k p) (down_from (suc k))

-- every pattern of m digits passes the test f
abbrev pub all_b : ℕ → (Word → Bool) → Bool
all_b zero f = f []
all_b (suc m) f = all_b m (λ p. f (true ∷ p)) && all_b m (λ p. f (false ∷ p))

pub tested : (k : ℕ) → k ≤ 3 → T (all_b (suc k) (test_b k))
tested zero h = tt
tested (suc zero) h = tt
tested (suc (suc zero)) h = tt
tested (suc (suc (suc zero))) h = tt
tested (suc (suc (suc (suc k)))) h = let z : ⊥ = omega arith in absurd z

all_b_at : (f : Word → Bool) (p : Word) → T (all_b (length p) f) → T (f p)
all_b_at f [] t = t
all_b_at f (true ∷ p) t =
    all_b_at (λ q. f (true ∷ q)) p (and_left (all_b (length p) (λ q. f (true ∷ q))) (all_b (length p) (λ q. f (false ∷ q))) t)
all_b_at f (false ∷ p) t =
    all_b_at (λ q. f (false ∷ q)) p (and_right (all_b (length p) (λ q. f (true ∷ q))) (all_b (length p) (λ q. f (false ∷ q))) t)

every_down : (f : ℕ → Bool) (m : ℕ) → T (every f (down_from m)) → (i : ℕ) → i < m → T (f i)
every_down f zero t i h = let z : ⊥ = omega arith in absurd z
every_down f (suc m) t i h =
    elim (ℕ_discrete i m) [
      | yes e ↦ subst (λ (x : ℕ). T (f x)) (sym e) (and_left (f m) (every f (down_from m)) t)
      | no e ↦ every_down f m (and_right (f m) (every f (down_from m)) t) i (omega arith)
    ]

-- ---- what the test tells of a pattern that is not all false
module _ (k : ℕ) (hk : k ≤ 3) (p : Word) (long : length p ≡ suc k) (some : count p ≢ 0) (i : ℕ) (hi : i ≤ k) where
  slot_holds : T (slot_b k p i)
  slot_holds =
      every_down (slot_b k p) (suc k)
      (or_right (eqb (count p) 0) (every (slot_b k p) (down_from (suc k))) (ne_eqb (count p) 0 some)
      (all_b_at (test_b k) p (subst (λ (m : ℕ). T (all_b m (test_b k))) (sym long) (tested k hk))))
      i (omega arith)

  pub route_holds : T (route_b k p i)
  route_holds = and_left (route_b k p i) (count_b k p i && every (pair_b k p i) (down_from (suc k))) slot_holds

  rest_holds : T (count_b k p i && every (pair_b k p i) (down_from (suc k)))
  rest_holds = and_right (route_b k p i) (count_b k p i && every (pair_b k p i) (down_from (suc k))) slot_holds

  pub count_holds : T (count_b k p i)
  count_holds = and_left (count_b k p i) (every (pair_b k p i) (down_from (suc k))) rest_holds

  pub pair_holds : (j : ℕ) → j ≤ k → T (pair_b k p i j)
  pair_holds j hj =
      every_down (pair_b k p i) (suc k) (and_right (count_b k p i) (every (pair_b k p i) (down_from (suc k))) rest_holds) j (omega arith)
