-- The summary beside the failed-link table: an entry for each switch, which counts the servers that hang on it by a failed link.
use Rattle.std.specs.Prelude.{ℕ, zero, suc, ◌+◌, ◌≤◌, ◌<◌, List, [], ◌∷◌, ◌++◌, map, Bool, cond, ◌&&◌, eqb, length, get_or, set}
use Rattle.room.specs.declared.Shape.{Shape}
use Rattle.room.specs.Shapes.{servers_of, bound, Valid}
use Rattle.room.specs.Addresses.{switch_of, switches_at}
use Rattle.links.specs.Table.{failed}

-- ---- the switches of a room, each by its level and its number: lower level first, then lower number (rule 2.4)

-- the first m switches of level l
unfoldable pub numbered : ℕ → ℕ → List (ℕ × ℕ)
numbered l zero = []
numbered l (suc m) = numbered l m ++ ((l, m) ∷ [])

-- the switches of the levels below l
unfoldable pub switches_below : Shape → ℕ → List (ℕ × ℕ)
switches_below s zero = []
switches_below s (suc l) = switches_below s l ++ numbered l (switches_at s l)

-- all of them
unfoldable pub switches_in : Shape → List (ℕ × ℕ)
switches_in s = switches_below s (suc s.k)

-- the place of switch w of level l among them
unfoldable pub place_of : Shape → ℕ → ℕ → ℕ
place_of s l w = length (switches_below s l) + w

-- level l of the room has a switch w
pub record IsSwitch (s : Shape) (l w : ℕ) : Type 0 where
  pub valid : Valid s
  pub level : l ≤ s.k
  pub number : w < switches_at s l

-- ---- counts

-- how many of the servers below x are at switch w of level l and have their link there failed
unfoldable pub count_below : Shape → List ℕ → ℕ → ℕ → ℕ → ℕ
count_below s t l w zero = 0
count_below s t l w (suc x) = count_below s t l w x + cond (eqb (switch_of s l x) w && failed t x l) 1 0

-- how many of all servers (rule 2.5)
unfoldable pub count_at : Shape → List ℕ → ℕ → ℕ → ℕ
count_at s t l w = count_below s t l w (servers_of s)

-- the summary of a table: the count of each switch
unfoldable pub summary_of : Shape → List ℕ → List ℕ
summary_of s t = map (λ (p : ℕ × ℕ). count_at s t p.0 p.1) (switches_in s)

-- summary c says that switch w of level l is dead: its entry is the bound of the level, so all its servers' links there are failed (rule 2.7)
unfoldable pub is_dead : Shape → List ℕ → ℕ → ℕ → Bool
is_dead s c l w = eqb (get_or c (place_of s l w) 0) (bound s l)

-- ---- one link changed

-- summary c with the entry of the switch of server a at level l counted in table t, and no other entry changed (rule 2.6)
unfoldable pub recounted : Shape → List ℕ → ℕ → ℕ → List ℕ → List ℕ
recounted s t a l c = set c (place_of s l (switch_of s l a)) (count_at s t l (switch_of s l a))

-- the same of its switches at the levels below l
unfoldable pub recounted_below : Shape → List ℕ → ℕ → ℕ → List ℕ → List ℕ
recounted_below s t a zero c = c
recounted_below s t a (suc l) c = recounted s t a l (recounted_below s t a l c)
