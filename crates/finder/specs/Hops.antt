-- The hops of the search, named by labels: 64 times the levels down from k, plus the value, so that the smaller label comes first.
use Rattle.std.specs.Prelude.{ℕ, ◌+◌, ◌-◌, ◌*◌, ◌/◌, ◌%◌, ◌<◌, ◌≤◌, ◌≡◌, ◌≢◌, List, true}
use Rattle.room.specs.declared.Shape.{Shape}
use Rattle.room.specs.Shapes.{bound, Server}
use Rattle.room.specs.Addresses.{with_digit}
use Rattle.links.specs.Table.{live}

-- a label's path byte, and a path byte's label
unfoldable pub turned : ℕ → ℕ → ℕ
turned k x = (k - x / 64) * 64 + x % 64

-- where the hop with the label x leads
unfoldable pub step_of : Shape → ℕ → ℕ → ℕ
step_of s u x = with_digit s (s.k - x / 64) (x % 64) u

-- which hops are allowed: a level and a value of the room, to another server, over two live links
pub record Ok (s : Shape) (t : List ℕ) (u x : ℕ) : Type 0 where
  pub server : Server s u
  pub level : x / 64 ≤ s.k
  pub value : x % 64 < bound s (s.k - x / 64)
  pub moves : step_of s u x ≢ u
  pub alive : live t (s.k - x / 64) u (step_of s u x) ≡ true
