-- The alternate: the route that comes first in the order of rule 5.1, among all routes over the live links of a table.
use Rattle.std.specs.Prelude.{ℕ, ◌<◌, ◌≡◌, ◌⊎◌, List, [], ◌∷◌, length}
use Rattle.lists.specs.Lists.{in_turn}
use Rattle.room.specs.declared.Shape.{Shape}
use Rattle.path.specs.Routes.{byte_to, RouteTo, level_of, value_of}

-- the path bytes of a route's hops, in turn
unfoldable pub hop_bytes : Shape → List ℕ → List ℕ
hop_bytes s vs = in_turn (byte_to s) vs

-- of two hops, by their path bytes: the higher level comes first, then the lower value (rule 5.1)
abbrev pub Sooner : ℕ → ℕ → Type 0
Sooner b c = (level_of c < level_of b) ⊎ ((level_of b ≡ level_of c) × (value_of b < value_of c))

-- hop by hop from the source: at the first hop in which they differ, the first comes sooner (rule 5.1)
abbrev pub HopByHop : List ℕ → List ℕ → Type 0
HopByHop [] cs = ⊥
HopByHop (b ∷ bs) [] = ⊥
HopByHop (b ∷ bs) (c ∷ cs) = Sooner b c ⊎ ((b ≡ c) × HopByHop bs cs)

-- route us comes before route vs: it has fewer hops, or as many and comes first hop by hop (rule 5.1)
abbrev pub Before : Shape → List ℕ → List ℕ → Type 0
Before s us vs = (length us < length vs) ⊎ ((length us ≡ length vs) × HopByHop (hop_bytes s us) (hop_bytes s vs))

-- the alternate from a to d over the live links of table t: a route, of eight hops at most, and no route comes before it (rule 5.1)
pub record Alternate (s : Shape) (t : List ℕ) (a d : ℕ) (vs : List ℕ) : Type 0 where
  pub route : RouteTo s t a d vs
  pub first : (us : List ℕ) → RouteTo s t a d us → Before s us vs → ⊥
