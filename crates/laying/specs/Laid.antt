-- What routes take up of a room, and a failed-link table with that marked: a search over such a table keeps away from the routes.
use Rattle.std.specs.Prelude.{ℕ, ◌≡◌, List, [], ◌∷◌, Bool, false, ◌||◌}
use Rattle.lists.specs.Lists.{is_in, middle}
use Rattle.room.specs.declared.Shape.{Shape}
use Rattle.room.specs.Shapes.{Link}
use Rattle.links.specs.Table.{failed, TableOf}
use Rattle.path.specs.Routes.{switch_at, switches_of}

-- whether the link of server x at level l is one that route vs takes up: x is a middle server of it, or it uses the link's switch
unfoldable pub takes : Shape → List ℕ → ℕ → ℕ → Bool
takes s vs x l = is_in x (middle vs) || is_in (switch_at s l x) (switches_of s vs)

-- or one of these routes
unfoldable pub taken : Shape → List (List ℕ) → ℕ → ℕ → Bool
taken s [] x l = false
taken s (vs ∷ vss) x l = takes s vs x l || taken s vss x l

-- u is the failed-link table t with these links marked besides
pub record Marks (s : Shape) (t : List ℕ) (links : ℕ → ℕ → Bool) (u : List ℕ) : Type 0 where
  pub table : TableOf s u
  pub marks : (x l : ℕ) → Link s x l → failed u x l ≡ (failed t x l || links x l)

-- u is the failed-link table t with these routes laid into it: each link of their middle servers is marked, and each link to a switch
-- that they use
abbrev pub Laid : Shape → List ℕ → List (List ℕ) → List ℕ → Type 0
Laid s t routes u = Marks s t (taken s routes) u
