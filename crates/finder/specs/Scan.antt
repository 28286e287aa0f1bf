-- What the parts of the scan are given and give.
use Rattle.std.specs.Prelude.{ℕ, ◌+◌, ◌-◌, ◌*◌, ◌<◌, ◌≤◌, ◌≡◌, ◌≢◌, ◌⊎◌, true, false, List, length, get_or}
use Rattle.room.specs.declared.Shape.{Shape}
use Rattle.room.specs.declared.Side.{Side}
use Rattle.room.specs.Shapes.{servers_of, bound, Valid, Server}
use Rattle.room.specs.Addresses.{with_digit, switch_of}
use Rattle.links.specs.Table.{failed}
use Rattle.finder.specs.Hops.{step_of, Ok}
use Rattle.finder.specs.Kept.{no_parent, Kept}

-- where the mark of server u at level l stands: four places for each server
abbrev pub mark_at : ℕ → ℕ → ℕ
mark_at l u = u * 4 + l

-- the switch of server u at level l has been scanned: each server at it whose link there is live is among the n that are found
pub record Scanned (s : Shape) (t queue : List ℕ) (n l u : ℕ) : Type 0 where
  pub met : (w : ℕ) → Server s w → switch_of s l w ≡ switch_of s l u → failed t w l ≡ false → (i : ℕ) × (i < n) × (get_or queue i 0 ≡ w)

-- where a server is marked at a level, its switch there has been scanned
pub record Swept (s : Shape) (t marks queue : List ℕ) (n : ℕ) : Type 0 where
  pub long : length marks ≡ 16384
  pub scanned : (l u : ℕ) → l ≤ s.k → Server s u → get_or marks (mark_at l u) 0 ≢ 0 → Scanned s t queue n l u

-- the servers at the switch of server u at level l, and how many of them to try: all, or none where the link of u is failed or
-- u is marked
pub record Sided (s : Shape) (t marks : List ℕ) (u l : ℕ) (side : Side) : Type 0 where
  pub reach : (v : ℕ) → v < side.count → side.first + v * side.stride ≡ with_digit s l v u
  pub short : side.stride ≤ 16777216
  pub most : side.count ≤ bound s l
  pub all : 0 < side.count → (side.count ≡ bound s l) × (failed t u l ≡ false)
  pub none : side.count ≡ 0 → (failed t u l ≡ true) ⊎ (get_or marks (mark_at l u) 0 ≢ 0)

-- the next hop to try: from the server at the place `head`, whose link is live, at a level, with the value v, to server w, which
-- is not found yet
pub record Visiting (s : Shape) (t back queue : List ℕ) (head tail l v w : ℕ) : Type 0 where
  pub valid : Valid s
  pub place : head < tail
  pub level : l ≤ s.k
  pub value : v < bound s l
  pub small : v < 64
  pub leads : w ≡ with_digit s l v (get_or queue head 0)
  pub inside : w < 4096
  pub alive : failed t (get_or queue head 0) l ≡ false
  pub new : get_or back w 0 ≡ no_parent
  pub kept : Kept (step_of s) (Ok s t) (servers_of s) (get_or queue 0 0) back queue tail (head * 256 + ((s.k - l) * 64 + v))

-- after that hop was tried: r servers are found
pub record Visited (s : Shape) (t queue back' queue' : List ℕ) (head tail r l v : ℕ) : Type 0 where
  pub grows : tail ≤ r
  pub same : (i : ℕ) → i < tail → get_or queue' i 0 ≡ get_or queue i 0
  pub kept : Kept (step_of s) (Ok s t) (servers_of s) (get_or queue 0 0) back' queue' r (head * 256 + ((s.k - l) * 64 + v) + 1)
