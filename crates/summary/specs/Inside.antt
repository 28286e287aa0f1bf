-- What private functions of the crate ask and answer.
use Rattle.std.specs.Prelude.{ℕ, suc, ◌/◌, ◌≡◌, List, true, length}
use Rattle.room.specs.declared.Shape.{Shape}
use Rattle.room.specs.declared.Switch.{Switch}
use Rattle.room.specs.Shapes.{servers_of, Server, Link}
use Rattle.room.specs.Refusals.{shape_refusal}
use Rattle.links.specs.Table.{TableOf}
use Rattle.summary.specs.Counts.{switches_below, place_of, IsSwitch}
use Rattle.summary.specs.Refusals.{has_entries, is_counted, are_counted}

-- s is a room's shape; each level below k has N / n switches, and this many stand before those of level k
pub record IsOrder (s : Shape) (each top : ℕ) : Type 0 where
  pub room : shape_refusal s ≡ 0
  pub each_is : each ≡ servers_of s / s.n
  pub top_is : top ≡ length (switches_below s s.k)

-- the entry at place i is that of switch x
pub record StandsAt (s : Shape) (i : ℕ) (x : Switch) : Type 0 where
  pub switch : IsSwitch s x.level x.number
  pub place : place_of s x.level x.number ≡ i

-- a link of a room with its table and a summary whose entry of the link's switch is what the table counts
pub record CountedLink (s : Shape) (t c : List ℕ) (a l : ℕ) : Type 0 where
  pub link : Link s a l
  pub table : TableOf s t
  pub entries : has_entries s c ≡ true
  pub counted : is_counted s t c a l ≡ true

-- the same of a server and its switches at all levels
pub record CountedServer (s : Shape) (t c : List ℕ) (a : ℕ) : Type 0 where
  pub server : Server s a
  pub table : TableOf s t
  pub entries : has_entries s c ≡ true
  pub counted : are_counted s t c a (suc s.k) ≡ true
