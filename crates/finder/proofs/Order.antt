-- The order of walks as the order of one number: a walk's labels are its digits, each one more, to the base 256. Labels are below 256.
use Prim.Native.Nat.{ℕ, ◌+◌, ◌*◌, ◌<◌, ◌≤◌}
use native.Mathlib.Omega.{arith}
use native.Mathlib.Decide.{dec_lt}
use mathlib.Core.Path.{◌≡◌, refl}
use mathlib.Core.Logic.{◌⊎◌, inl, inr, ⊎_elim}
use mathlib.Core.List.{List, [], ◌∷◌, ◌++◌}
use lib.ListN.{length}
use Rattle.finder.specs.Walks.{Lex, Shortlex}

unfoldable pub rank : ℕ → List ℕ → ℕ
rank r [] = r
rank r (x ∷ xs) = rank (r * 256 + x + 1) xs

abbrev pub Low : List ℕ → Type 0
Low [] = Unit {0}
Low (x ∷ xs) = (x < 256) × Low xs

-- which of two numbers is less
pub split : (a b : ℕ) → (a < b) ⊎ (b ≤ a)
split a b = elim (dec_lt a b) [ yes h ↦ inl h | no h ↦ inr (omega (arith, h)) ]

pub rank_grows : (r : ℕ) (xs : List ℕ) → r ≤ rank r xs
unfolding rank
rank_grows r [] = omega arith
rank_grows r (x ∷ xs) = omega (arith, rank_grows (r * 256 + x + 1) xs)

pub rank_snoc : (r : ℕ) (xs : List ℕ) (x : ℕ) → rank r (xs ++ (x ∷ [])) ≡ rank r xs * 256 + x + 1
unfolding rank
rank_snoc r [] x = refl
rank_snoc r (y ∷ xs) x = rank_snoc (r * 256 + y + 1) xs x

-- a smaller start with no more digits stays smaller
pub rank_less : (a b : ℕ) (ys xs : List ℕ) → a < b → Low ys → length ys ≤ length xs → rank a ys < rank b xs
unfolding rank
rank_less a b [] xs h l e = omega (arith, rank_grows b xs)
rank_less a b (y ∷ ys) [] h l e = omega arith
rank_less a b (y ∷ ys) (x ∷ xs) h l e = rank_less (a * 256 + y + 1) (b * 256 + x + 1) ys xs (omega arith) l.1 (omega arith)

rank_short : (ys xs : List ℕ) → Low ys → length ys < length xs → rank 0 ys < rank 0 xs
unfolding rank
rank_short ys [] l e = omega arith
rank_short ys (x ∷ xs) l e = rank_less 0 (0 * 256 + x + 1) ys xs (omega arith) l (omega arith)

rank_lex : (a : ℕ) (xs ys : List ℕ) → Low ys → length xs ≡ length ys → rank a xs ≤ rank a ys → Lex xs ys
unfolding rank
rank_lex a [] ys l e h = tt
rank_lex a (x ∷ xs) [] l e h = omega arith
rank_lex a (x ∷ xs) (y ∷ ys) l e h =
    ⊎_elim inl
    (λ ge.
    ⊎_elim
    (λ lt. absurd (omega (arith, rank_less (a * 256 + y + 1) (a * 256 + x + 1) ys xs (omega arith) l.1 (omega arith))))
    (λ le. let p : x ≡ y = omega arith in inr (p, rank_lex (a * 256 + y + 1) xs ys l.1 (omega arith) (rw p at h)))
    (split y x))
    (split x y)

-- the order of the numbers is the order of the walks
pub rank_shortlex : (xs ys : List ℕ) → Low ys → rank 0 xs ≤ rank 0 ys → Shortlex xs ys
rank_shortlex xs ys l h =
    ⊎_elim inl
    (λ ge. ⊎_elim (λ lt. absurd (omega (arith, rank_short ys xs l lt))) (λ le. let e : length xs ≡ length ys = omega arith in inr (e, rank_lex 0 xs ys l e h)) (split (length ys) (length xs)))
    (split (length xs) (length ys))
