-- Routes, declaratively: servers in turn, the switches and path bytes of their hops, and when two routes are parallel.
use Rattle.std.specs.Prelude.{ℕ, suc, ◌+◌, ◌-◌, ◌*◌, ◌/◌, ◌%◌, ◌≤◌, ◌<◌, ◌≡◌, List, true, length, get_or}
use Rattle.lists.specs.Lists.{Once, Apart, in_turn, middle, filled}
use Rattle.room.specs.declared.Shape.{Shape}
use Rattle.room.specs.Shapes.{Server}
use Rattle.room.specs.Addresses.{digit, switch_of, differing, Neighbours}
use Rattle.links.specs.Table.{live}

-- a path byte: the level in its two high bits, the new value in the six low ones; and what it names (rule 3.3)
unfoldable pub byte_of : ℕ → ℕ → ℕ
byte_of l v = 64 * l + v

abbrev pub level_of : ℕ → ℕ
level_of b = b / 64

abbrev pub value_of : ℕ → ℕ
value_of b = b % 64

-- a switch as one number: its level, and its number there, which is below 4,096
unfoldable pub switch_at : Shape → ℕ → ℕ → ℕ
switch_at s l a = 4096 * l + switch_of s l a

-- the level of the hop from server a to its neighbour b: the one in which they differ
unfoldable pub level_to : Shape → ℕ → ℕ → ℕ
level_to s a b = get_or (differing s a b) 0 0

-- the switch that the hop from a to b uses, and its path byte
unfoldable pub switch_to : Shape → ℕ → ℕ → ℕ
switch_to s a b = switch_at s (level_to s a b) a

unfoldable pub byte_to : Shape → ℕ → ℕ → ℕ
byte_to s a b = byte_of (level_to s a b) (digit s (level_to s a b) b)

-- the switches that a route uses, and its eight path bytes (rule 3.3)
unfoldable pub switches_of : Shape → List ℕ → List ℕ
switches_of s vs = in_turn (switch_to s) vs

unfoldable pub encode : Shape → List ℕ → List ℕ
encode s vs = filled 8 (in_turn (byte_to s) vs)

-- a route over the live links of a table, by the servers that it meets: 1 to 8 hops, each to a neighbour over two links
-- that are not failed, no server met twice, no switch used twice. Over the table with no bytes every link is live. (rule 3.1)
pub record Route (s : Shape) (t vs : List ℕ) : Type 0 where
  pub some : 2 ≤ length vs
  pub few : length vs ≤ 9
  pub servers : (i : ℕ) → i < length vs → Server s (get_or vs i 0)
  pub hops : (i : ℕ) → suc i < length vs → Neighbours s (level_to s (get_or vs i 0) (get_or vs (suc i) 0)) (get_or vs i 0) (get_or vs (suc i) 0)
  pub alive : (i : ℕ) → suc i < length vs → live t (level_to s (get_or vs i 0) (get_or vs (suc i) 0)) (get_or vs i 0) (get_or vs (suc i) 0) ≡ true
  pub servers_once : Once vs
  pub switches_once : Once (switches_of s vs)

-- the beginning of a route: servers in turn as on a route, of any number of hops, none at all with them
pub record Prefix (s : Shape) (t vs : List ℕ) : Type 0 where
  pub some : 1 ≤ length vs
  pub servers : (i : ℕ) → i < length vs → Server s (get_or vs i 0)
  pub hops : (i : ℕ) → suc i < length vs → Neighbours s (level_to s (get_or vs i 0) (get_or vs (suc i) 0)) (get_or vs i 0) (get_or vs (suc i) 0)
  pub alive : (i : ℕ) → suc i < length vs → live t (level_to s (get_or vs i 0) (get_or vs (suc i) 0)) (get_or vs i 0) (get_or vs (suc i) 0) ≡ true
  pub servers_once : Once vs
  pub switches_once : Once (switches_of s vs)

-- a route from server a to server d
pub record RouteTo (s : Shape) (t : List ℕ) (a d : ℕ) (vs : List ℕ) : Type 0 where
  pub route : Route s t vs
  pub source : get_or vs 0 0 ≡ a
  pub arrives : get_or vs (length vs - 1) 0 ≡ d

-- two routes between the same ends are parallel: they share no switch and no server other than the ends (rule 3.2)
pub record Parallel (s : Shape) (us vs : List ℕ) : Type 0 where
  pub switches : Apart (switches_of s us) (switches_of s vs)
  pub servers : Apart (middle us) (middle vs)

-- bs are the eight path bytes of a route from server a to server d, which meets the servers vs
pub record Encodes (s : Shape) (t : List ℕ) (a d : ℕ) (bs vs : List ℕ) : Type 0 where
  pub route : RouteTo s t a d vs
  pub bytes : bs ≡ encode s vs
