-- What the private functions of this crate answer and ask. No public contract cites this file.
use Rattle.std.specs.Prelude.{ℕ, suc, ◌+◌, ◌≤◌, ◌<◌, ◌≡◌, Option, Some, None, length, get_or}
use mathlib.Core.List.{List, [], map, Memᴰ as In}
use Rattle.room.specs.declared.Shape.{Shape}
use Rattle.path.specs.Routes.{encode, RouteTo, Parallel}
use Rattle.build.specs.declared.RouteSet.{RouteSet}
use Rattle.build.specs.Built.{built_route}
use Rattle.build.specs.Sets.{set_of}
use Rattle.laying.specs.Avoids.{Avoids}
use Rattle.finder.specs.declared.Found.{Found}
use Rattle.select.specs.declared.slots.Slots.{Slots}
use Rattle.select.specs.Avoided.{avoided}
use Rattle.select.specs.Selection.{Unbroken, Replaces, SlotBySlot}

-- a set holds these routes from a to d
pub record Holds (s : Shape) (a d : ℕ) (set : RouteSet) (routes : List (List ℕ)) : Type 0 where
  pub written : set ≡ set_of (map (encode s) routes)
  pub each : (vs : List ℕ) → In vs routes → RouteTo s [] a d vs

-- routes settled with slots i-1, .. , 0 to come: over live links, every two parallel, and each parallel to the built routes to come
-- that have no failed link
pub record Settled (s : Shape) (t : List ℕ) (a d i : ℕ) (routes : List (List ℕ)) : Type 0 where
  pub each : (vs : List ℕ) → In vs routes → RouteTo s t a d vs
  pub apart : (j m : ℕ) → j < m → m < length routes → Parallel s (get_or routes j []) (get_or routes m [])
  pub clear : (vs : List ℕ) → In vs routes → (m : ℕ) → m < i → Unbroken s t (built_route s m a d) → Parallel s vs (built_route s m a d)
  pub few : length routes + i ≤ suc s.k

-- what a set holds with slots i-1, .. , 0 to come: what they will come to after its routes, all slots come to; and the number that the
-- program computes with
pub record SoFar (s : Shape) (t : List ℕ) (a d i : ℕ) (set : RouteSet) : Type 0 where
  pub routes : List (List ℕ)
  pub written : set ≡ set_of (map (encode s) routes)
  pub settled : Settled s t a d i routes
  pub onward : (all : List (List ℕ)) → SlotBySlot s t a d i routes all → SlotBySlot s t a d (suc s.k) [] all
  pub count : set.count + i ≤ suc s.k

-- the alternate around these routes, or that there is none
abbrev pub Around : Shape → List ℕ → ℕ → ℕ → List (List ℕ) → Option Found → Type 0
Around s t a d routes (Some f) = (vs : List ℕ) × Replaces s t a d routes vs × (f.bytes ≡ encode s vs)
Around s t a d routes None = (vs : List ℕ) → RouteTo s t a d vs → Avoids s routes vs → ⊥

-- the same of the slots of two servers
abbrev pub ToCome : Slots → ℕ → RouteSet → Type 0
ToCome x i set = SoFar x.shape x.table.now x.source x.destination i set

-- the alternate for slot i after the routes of a set, or that there is none
abbrev pub Alternate : Slots → ℕ → RouteSet → Option Found → Type 0
Alternate x i set r =
    (p : ToCome x (suc i) set) → Around x.shape x.table.now x.source x.destination (avoided x.shape x.table.now x.source x.destination i p.routes) r
