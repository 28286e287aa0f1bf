-- What the search keeps in its two tables. `back` has a key for each server found and `no_parent` for the others; `queue` has the servers in the order in which they were found.
use Rattle.std.specs.Prelude.{ℕ, suc, ◌<◌, ◌≤◌, ◌≡◌, Bool, true, false, List, [], ◌∷◌, length, get_or, eqb}
use Rattle.finder.specs.State.{State}

-- what stands for a server that is not found
abbrev pub no_parent : ℕ
no_parent = 4294967295

unfoldable pub one_more_unless : Bool → ℕ → ℕ
one_more_unless true m = m
one_more_unless false m = suc m

-- how many entries are not `no_parent`
unfoldable pub occupied : List ℕ → ℕ
occupied [] = 0
occupied (x ∷ xs) = one_more_unless (eqb x no_parent) (occupied xs)

abbrev pub queued : List ℕ → ℕ → ℕ
queued queue i = get_or queue i 0

abbrev pub keyed : List ℕ → List ℕ → ℕ → ℕ
keyed back queue i = get_or back (get_or queue i 0) 0

-- a table with nothing in it
pub record Blank (back : List ℕ) : Type 0 where
  pub long : length back ≡ 4096
  pub none : (w : ℕ) → w < 4096 → get_or back w 0 ≡ no_parent
  pub count : occupied back ≡ 0

-- servers are below `size`
pub record Kept (step : ℕ → ℕ → ℕ) (ok : ℕ → ℕ → Type 0) (size root : ℕ) (back queue : List ℕ) (n t : ℕ) : Type 0 where
  pub state : State step ok root (queued queue) (keyed back queue) n t
  pub inside : (i : ℕ) → i < n → get_or queue i 0 < size
  pub known : (i : ℕ) → i < n → get_or back (get_or queue i 0) 0 < 1048576
  pub marked : (w : ℕ) → w < 4096 → (get_or back w 0 ≡ no_parent → ⊥) → (i : ℕ) × (i < n) × (get_or queue i 0 ≡ w)
  pub within : size ≤ 4096
  pub count : occupied back ≡ n
  pub fits : n ≤ 4096
  pub long_back : length back ≡ 4096
  pub long_queue : length queue ≡ 4096
