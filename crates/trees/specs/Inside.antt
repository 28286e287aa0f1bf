-- What only the functions inside the crate promise each other.
use Rattle.std.specs.Prelude.{ℕ, ◌+◌, List, [], ◌∷◌, Bool, cond, ltb, eqb, get_or}
use Rattle.room.specs.declared.Shape.{Shape}
use Rattle.room.specs.Shapes.{power_of}
use Rattle.trees.specs.Trees.{lowered_at, lowered}

-- the strides of levels 0 to 3, which are the powers of n
abbrev pub strides_of : ℕ → List ℕ
strides_of n = power_of n 0 ∷ power_of n 1 ∷ power_of n 2 ∷ power_of n 3 ∷ []

-- whether two lists have the same at place i
abbrev pub alike_in : List ℕ → List ℕ → ℕ → Bool
alike_in xs ys i = eqb (get_or xs i 0) (get_or ys i 0)

-- the parent in tree l of server x, whose digits are ds, where those of the source are es
abbrev pub parent_by : Shape → ℕ → List ℕ → List ℕ → ℕ → ℕ
parent_by s l es ds x = lowered s (lowered_at (alike_in es ds) s.k l) x

-- the digits of the next number to the base n
unfoldable pub next_digits : ℕ → List ℕ → List ℕ
next_digits n [] = []
next_digits n (d ∷ ds) = cond (ltb (d + 1) n) ((d + 1) ∷ ds) (0 ∷ next_digits n ds)
