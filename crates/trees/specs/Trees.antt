-- The k+1 spanning trees of a source: at which level a server hangs in each, and its parent there (rules 13.1 to 13.3).
use Rattle.std.specs.Prelude.{ℕ, zero, suc, ◌+◌, ◌-◌, ◌%◌, ◌≢◌, Bool, cond, eqb}
use Rattle.room.specs.declared.Shape.{Shape}
use Rattle.room.specs.Shapes.{bound, Server, Link}
use Rattle.room.specs.Addresses.{digit, with_digit}

-- ---- the order of the levels: tree l takes them as l, l+1, .. (mod k+1)

-- the level at place i of the order of tree l
unfoldable pub level_at : ℕ → ℕ → ℕ → ℕ
level_at k l i = (l + i) % suc k

-- the level at the last of the places 0 to i at which two servers differ, and at place 0 where no later one is; `same` tells the
-- levels at which they agree
unfoldable pub last_apart : (ℕ → Bool) → ℕ → ℕ → ℕ → ℕ
last_apart same k l zero = level_at k l zero
last_apart same k l (suc i) = cond (same (level_at k l (suc i))) (last_apart same k l i) (level_at k l (suc i))

-- the level at which tree l lowers a digit: l where they agree at l, else the last of its order at which they differ
unfoldable pub lowered_at : (ℕ → Bool) → ℕ → ℕ → ℕ
lowered_at same k l = cond (same l) l (last_apart same k l k)

-- ---- parents

-- whether two servers have the same digit i
abbrev pub alike : Shape → ℕ → ℕ → ℕ → Bool
alike s a x i = eqb (digit s i a) (digit s i x)

-- the level at which server x hangs in tree l of source a
unfoldable pub hangs_at : Shape → ℕ → ℕ → ℕ → ℕ
hangs_at s a l x = lowered_at (alike s a x) s.k l

-- server x with digit j lowered by one, and the greatest value of level j below 0
unfoldable pub lowered : Shape → ℕ → ℕ → ℕ
lowered s j x = with_digit s j ((digit s j x + (bound s j - 1)) % bound s j) x

-- the parent of server x in tree l of source a: the server that hands it the file
unfoldable pub parent_of : Shape → ℕ → ℕ → ℕ → ℕ
parent_of s a l x = lowered s (hangs_at s a l x) x

-- server x has a parent in tree l of source a: both are servers, the tree is one of the room's, and x is not the source. No contract needs
-- it; laws speak by it
pub record Child (s : Shape) (a l x : ℕ) : Type 0 where
  pub source : Server s a
  pub link : Link s x l
  pub apart : a ≢ x
