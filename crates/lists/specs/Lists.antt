-- Lists: what is in them and where, what is in them twice, what they share, and lists in a fixed number of places.
use Rattle.std.specs.Prelude.{ℕ, zero, suc, ◌-◌, ◌<◌, ◌≢◌, List, [], ◌∷◌, ◌++◌, Bool, true, false, cond, ◌&&◌, ◌||◌, eqb, length, get_or, take, drop, replicate}

-- whether x is in a list
unfoldable pub is_in : ℕ → List ℕ → Bool
is_in x [] = false
is_in x (y ∷ ys) = eqb x y || is_in x ys

-- the first of 0, .. , m-1 at which a test holds; m where it holds at none
unfoldable pub first_where : (ℕ → Bool) → ℕ → ℕ
first_where test zero = zero
first_where test (suc m) = cond (test 0) 0 (suc (first_where (λ i. test (suc i)) m))

-- the first place of x in a list, counted from 0; the list's length where x is not in it
unfoldable pub place_in : ℕ → List ℕ → ℕ
place_in x xs = first_where (λ i. eqb x (get_or xs i 0)) (length xs)

-- whether two lists are the same
unfoldable pub same : List ℕ → List ℕ → Bool
same [] [] = true
same [] (y ∷ ys) = false
same (x ∷ xs) [] = false
same (x ∷ xs) (y ∷ ys) = eqb x y && same xs ys

-- nothing stands in the list twice
pub record Once (xs : List ℕ) : Type 0 where
  pub apart : (i j : ℕ) → i < j → j < length xs → get_or xs i 0 ≢ get_or xs j 0

-- nothing stands in both lists
pub record Apart (xs ys : List ℕ) : Type 0 where
  pub apart : (i j : ℕ) → i < length xs → j < length ys → get_or xs i 0 ≢ get_or ys j 0

-- what f gives of each two elements in a row
unfoldable pub in_turn : (ℕ → ℕ → ℕ) → List ℕ → List ℕ
in_turn f [] = []
in_turn f (x ∷ []) = []
in_turn f (x ∷ y ∷ ys) = f x y ∷ in_turn f (y ∷ ys)

-- a list with the first and the last left out
unfoldable pub middle : List ℕ → List ℕ
middle xs = take (length xs - 2) (drop 1 xs)

-- a list in m places, with zeros past its end
unfoldable pub filled : ℕ → List ℕ → List ℕ
filled m xs = xs ++ replicate (m - length xs) 0

-- m-1, .. , 0
abbrev pub down_from : ℕ → List ℕ
down_from zero = []
down_from (suc m) = m ∷ down_from m

-- f 0, .. , f (m-1)
unfoldable pub in_order : {A : Type 0} → (ℕ → A) → ℕ → List A
in_order f zero = []
in_order f (suc m) = in_order f m ++ (f m ∷ [])
