-- Small laws of lists: tests that hold of all elements, nothing twice, nothing in both.
use Prim.Native.Nat.{ℕ, zero, suc, ◌-◌, ◌<◌}
use mathlib.Core.Path.{◌≡◌, refl, sym, ap, subst}
use mathlib.Core.Logic.{◌≢◌}
use mathlib.Core.Bool.{Bool, true, false, not, ◌&&◌, ◌||◌}
use mathlib.Core.List.{List, [], ◌∷◌, map}
use native.Mathlib.Omega.{arith}
use native.Mathlib.Nat.{le_of_suc-le-suc}
use lib.Dec.{T, T_not}
use lib.ListN.{length, get_or, take, drop, length-map}
use Rattle.lists.specs.Lists.{Once, Apart, middle}
use Rattle.lists.proofs.ListLaws.{All}

-- ---- tests
pub and_left : (a b : Bool) → T (a && b) → T a
and_left true b t = tt
and_left false b t = t

pub and_right : (a b : Bool) → T (a && b) → T b
and_right true b t = t
and_right false b t = absurd t

pub or_right : (a b : Bool) → a ≡ false → T (a || b) → T b
or_right true b e t = let z : T false = subst T e tt in absurd z
or_right false b e t = t

pub T_true : (b : Bool) → T b → b ≡ true
T_true true t = refl
T_true false t = absurd t

pub T_false : (b : Bool) → T (not b) → b ≡ false
T_false true t = absurd t
T_false false t = refl

pub true_T : (b : Bool) → b ≡ true → T b
true_T b e = subst T (sym e) tt

or-none : (a b : Bool) → T (not (a || b)) → T (not a) × T (not b)
or-none true b h = (h, absurd h)
or-none false b h = (tt, h)

module _ {X : Type 0} where
  -- ---- nothing twice, nothing in both, by a test `same`
  module _ (same : X → X → Bool) where
    abbrev pub among : X → List X → Bool
    among x [] = false
    among x (y ∷ ys) = same x y || among x ys

    abbrev pub once : List X → Bool
    once [] = true
    once (x ∷ xs) = not (among x xs) && once xs

    abbrev pub apart : List X → List X → Bool
    apart [] ys = true
    apart (x ∷ xs) ys = not (among x ys) && apart xs ys

    -- and so of the numbers f x, where equal numbers mean that the test finds them the same
    module _ (f : X → ℕ) (P : X → Type 0) (inj : (x y : X) → P x → P y → f x ≡ f y → T (same x y)) where
      among-map : (x : X) (ys : List X) → P x → All P ys → T (not (among x ys)) → (j : ℕ) → j < length (map f ys) → f x ≢ get_or (map f ys) j 0
      among-map x [] p a t j h e = omega arith
      among-map x (y ∷ ys) p a t zero h e = T_not (same x y) (or-none (same x y) (among x ys) t).0 (inj x y p a.0 e)
      among-map x (y ∷ ys) p a t (suc j) h e =
          among-map x ys p a.1 (or-none (same x y) (among x ys) t).1 j (le_of_suc-le-suc h) e

      once-at : (xs : List X) → All P xs → T (once xs) → (i j : ℕ) → i < j → j < length (map f xs) → get_or (map f xs) i 0 ≢ get_or (map f xs) j 0
      once-at [] a t i j l h e = omega arith
      once-at (x ∷ xs) a t i zero l h e = omega arith
      once-at (x ∷ xs) a t zero (suc j) l h e =
          among-map x xs a.0 a.1 (and_left (not (among x xs)) (once xs) t) j (le_of_suc-le-suc h) e
      once-at (x ∷ xs) a t (suc i) (suc j) l h e =
          once-at xs a.1 (and_right (not (among x xs)) (once xs) t) i j (le_of_suc-le-suc l) (le_of_suc-le-suc h) e

      apart-at : (xs ys : List X) → All P xs → All P ys → T (apart xs ys) → (i j : ℕ) → i < length (map f xs) → j < length (map f ys) → get_or (map f xs) i 0 ≢ get_or (map f ys) j 0
      apart-at [] ys a b t i j l h e = omega arith
      apart-at (x ∷ xs) ys a b t zero j l h e =
          among-map x ys a.0 b (and_left (not (among x ys)) (apart xs ys) t) j h e
      apart-at (x ∷ xs) ys a b t (suc i) j l h e =
          apart-at xs ys a.1 b (and_right (not (among x ys)) (apart xs ys) t) i j (le_of_suc-le-suc l) h e

      pub once-map : (xs : List X) → All P xs → T (once xs) → Once (map f xs)
      once-map xs a t = record { apart = once-at xs a t }

      pub apart-map : (xs ys : List X) → All P xs → All P ys → T (apart xs ys) → Apart (map f xs) (map f ys)
      apart-map xs ys a b t = record { apart = apart-at xs ys a b t }

-- ---- lists without their ends
module _ {X Y : Type 0} (f : X → Y) where
  pub drop-map : (n : ℕ) (xs : List X) → drop n (map f xs) ≡ map f (drop n xs)
  drop-map zero xs = refl
  drop-map (suc n) [] = refl
  drop-map (suc n) (x ∷ xs) = drop-map n xs

  pub take-map : (n : ℕ) (xs : List X) → take n (map f xs) ≡ map f (take n xs)
  take-map zero xs = refl
  take-map (suc n) [] = refl
  take-map (suc n) (x ∷ xs) = ap (λ (r : List Y). f x ∷ r) (take-map n xs)

-- a list with the first and the last left out
abbrev pub inner : {X : Type 0} → List X → List X
inner xs = take (length xs - 2) (drop 1 xs)

pub middle-map : {X : Type 0} (f : X → ℕ) (xs : List X) → middle (map f xs) ≡ map f (inner xs)
unfolding middle
middle-map f xs =
    rw (length-map xs f, drop-map f 1 xs) (take-map f (length xs - 2) (drop 1 xs))
