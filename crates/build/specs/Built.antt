-- The built routes: for each slot i from k down to 0, the order in which the digits are corrected, and the hops that this takes.
use Rattle.std.specs.Prelude.{ℕ, zero, suc, ◌+◌, ◌%◌, List, [], ◌∷◌, map, Bool, cond, eqb, get_or, set}
use Rattle.lists.specs.Lists.{filled, down_from}
use Rattle.room.specs.declared.Shape.{Shape}
use Rattle.room.specs.Shapes.{bound}
use Rattle.room.specs.Addresses.{digits, with_digit}
use Rattle.path.specs.Routes.{byte_of}

-- the level after l: the next lower one, and k after 0
abbrev pub next : ℕ → ℕ → ℕ
next k zero = k
next k (suc l) = l

-- m levels from l on, downwards, and on from k after 0
abbrev pub round : ℕ → ℕ → ℕ → List ℕ
round k zero l = []
round k (suc m) l = l ∷ round k m (next k l)

-- i, i-1, .. , 0, k, .. , i+1 (rule 4.2)
abbrev pub first_in : ℕ → ℕ → List ℕ
first_in k i = round k (suc k) i

-- i-1, .. , 0, k, .. , i (rule 4.3)
abbrev pub last_in : ℕ → ℕ → List ℕ
last_in k i = round k (suc k) (next k i)

-- digits of any type A, least first: `same` tells whether two are the same, `o` stands past the end of a list
module _ {A : Type 0} (same : A → A → Bool) (o : A) where
  -- the hops that correct the digits x to those of y in the order of a list that has each level once, skipping those already right
  abbrev pub correct : List ℕ → List A → List A → List (ℕ × A)
  correct [] x y = []
  correct (l ∷ ls) x y =
      cond (same (get_or x l o) (get_or y l o)) (correct ls x y) ((l, get_or y l o) ∷ correct ls x y)

  -- `other` is the value that digit i is first set to where the ends have the same there
  module _ (other : ℕ → A → A) where
    -- first to another value of digit i, which then comes last (rule 4.3)
    abbrev pub detour : ℕ → ℕ → List A → List A → List (ℕ × A)
    detour k i x y =
        (i, other i (get_or x i o)) ∷ correct (last_in k i) (set x i (other i (get_or x i o))) y

    -- the hops of route i from x to y (rule 4.1)
    abbrev pub route_over : ℕ → ℕ → List A → List A → List (ℕ × A)
    route_over k i x y =
        cond (same (get_or x i o) (get_or y i o)) (detour k i x y) (correct (first_in k i) x y)

-- the value of a detour: the digit's own + 1, and 0 after the last that the level has (rule 4.3)
unfoldable pub plus_one : Shape → ℕ → ℕ → ℕ
plus_one s l x = (x + 1) % bound s l

-- the hops of the built route of slot i from server a to server d: each a level and a new value
unfoldable pub built_hops : Shape → ℕ → ℕ → ℕ → List (ℕ × ℕ)
built_hops s i a d = route_over eqb 0 (plus_one s) s.k i (digits s a) (digits s d)

-- the servers that hops meet from server a on
unfoldable pub met_by : Shape → ℕ → List (ℕ × ℕ) → List ℕ
met_by s a [] = a ∷ []
met_by s a (h ∷ hs) = a ∷ met_by s (with_digit s h.0 h.1 a) hs

-- the path bytes of hops
unfoldable pub bytes_of : List (ℕ × ℕ) → List ℕ
bytes_of [] = []
bytes_of (h ∷ hs) = byte_of h.0 h.1 ∷ bytes_of hs

-- the built route of slot i, by the servers that it meets, and by its eight path bytes
unfoldable pub built_route : Shape → ℕ → ℕ → ℕ → List ℕ
built_route s i a d = met_by s a (built_hops s i a d)

unfoldable pub built_bytes : Shape → ℕ → ℕ → ℕ → List ℕ
built_bytes s i a d = filled 8 (bytes_of (built_hops s i a d))

-- all of them, slots k down to 0
unfoldable pub built_routes : Shape → ℕ → ℕ → List (List ℕ)
built_routes s a d = map (λ i. built_route s i a d) (down_from (suc s.k))

unfoldable pub built_arrays : Shape → ℕ → ℕ → List (List ℕ)
built_arrays s a d = map (λ i. built_bytes s i a d) (down_from (suc s.k))
