-- Shapes: how many servers a room has, what a digit is below, and which servers, links and values a room has.
use Rattle.std.specs.Prelude.{ℕ, ◌*◌, ◌^◌, ◌≤◌, ◌<◌, ◌≢◌, cond, ◌&&◌, leb, eqb}
use Rattle.room.specs.declared.Shape.{Shape}

-- the room of n ports a switch and levels 0 to k whose digit k has m values (rule 1.1)
abbrev pub shape_of : ℕ → ℕ → ℕ → Shape
shape_of n k m = record { n = n; k = k; m = m }

-- the full room: digit k has as many values as the others
abbrev pub full_room : ℕ → ℕ → Shape
full_room n k = shape_of n k n

-- N, the number of servers (rule 1.1)
unfoldable pub servers_of : Shape → ℕ
servers_of s = s.m * s.n ^ s.k

-- digit l of an address is below this: m at level k, n at the others (rule 1.3)
unfoldable pub bound : Shape → ℕ → ℕ
bound s l = cond (eqb l s.k) s.m s.n

-- n to the power of a level where n is among 1 to 64 and the level at most 3, else 0: what a program computes with no test of a shape
unfoldable pub power_of : ℕ → ℕ → ℕ
power_of n l = cond (leb 1 n && (leb n 64 && leb l 3)) (n ^ l) 0

-- N, where the power is there and m is not above n; else 0
unfoldable pub server_count : Shape → ℕ
server_count s = cond (leb s.m s.n) (s.m * power_of s.n s.k) 0

-- the shapes that a room can have (rule 1.1)
pub record Valid (s : Shape) : Type 0 where
  pub two : 2 ≤ s.n
  pub ports : s.n ≤ 64
  pub levels : s.k ≤ 3
  pub some : 2 ≤ s.m
  pub most : s.m ≤ s.n
  pub small : servers_of s ≤ 4096

-- a is a server of the room (rule 1.2)
pub record Server (s : Shape) (a : ℕ) : Type 0 where
  pub valid : Valid s
  pub below : a < servers_of s

-- a and d are two servers of the room
pub record Ends (s : Shape) (a d : ℕ) : Type 0 where
  pub source : Server s a
  pub destination : Server s d
  pub differ : a ≢ d

-- server a has a link at level l (rule 1.6)
pub record Link (s : Shape) (a l : ℕ) : Type 0 where
  pub server : Server s a
  pub level : l ≤ s.k

-- digit l of server a can take the value v
pub record Value (s : Shape) (a l v : ℕ) : Type 0 where
  pub link : Link s a l
  pub value : v < bound s l
