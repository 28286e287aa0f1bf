-- Selection: slots k down to 0, each with its built route, an alternate, or nothing.
use Rattle.std.specs.Prelude.{ℕ, zero, suc, ◌<◌, ◌≡◌, ◌≢◌, List, [], ◌∷◌, ◌++◌, map, true, length, get_or}
use Rattle.refusals.specs.Refusals.{none, plain}
use Rattle.room.specs.declared.Shape.{Shape}
use Rattle.links.specs.Table.{live, room_refusal}
use Rattle.path.specs.Routes.{level_to, encode, RouteTo}
use Rattle.build.specs.Built.{built_route}
use Rattle.build.specs.declared.RouteSet.{RouteSet}
use Rattle.build.specs.Sets.{empty_set, set_of}
use Rattle.laying.specs.Avoids.{Avoids}
use Rattle.finder.specs.Alternates.{Before}
use Rattle.select.specs.Told.{Selection}
use Rattle.select.specs.Avoided.{avoided}

-- a route without a failed link: each hop is live (rule 5.2)
pub record Unbroken (s : Shape) (t vs : List ℕ) : Type 0 where
  pub alive : (i : ℕ) → suc i < length vs → live t (level_to s (get_or vs i 0) (get_or vs (suc i) 0)) (get_or vs i 0) (get_or vs (suc i) 0) ≡ true

-- the alternate: of all routes from a to d over live links that avoid these routes, the one that no other comes before (rule 5.2)
pub record Replaces (s : Shape) (t : List ℕ) (a d : ℕ) (routes : List (List ℕ)) (vs : List ℕ) : Type 0 where
  pub route : RouteTo s t a d vs
  pub avoids : Avoids s routes vs
  pub first : (us : List ℕ) → RouteTo s t a d us → Avoids s routes us → Before s us vs → ⊥

-- what slot i gives after the routes settled so far: its built route where that has no failed link; else the alternate; else nothing (rule 5.2)
pub data Slot (s : Shape) (t : List ℕ) (a d i : ℕ) (settled : List (List ℕ)) : List (List ℕ) → Type 0 where
  kept : Unbroken s t (built_route s i a d) → Slot s t a d i settled (built_route s i a d ∷ [])
  replaced : {vs : List ℕ} → (Unbroken s t (built_route s i a d) → ⊥) → Replaces s t a d (avoided s t a d i settled) vs → Slot s t a d i settled (vs ∷ [])
  nothing : (Unbroken s t (built_route s i a d) → ⊥) → ((vs : List ℕ) → RouteTo s t a d vs → Avoids s (avoided s t a d i settled) vs → ⊥) → Slot s t a d i settled []

-- what slots m-1, .. , 0, one after another, come to after the routes settled so far
abbrev pub SlotBySlot : Shape → List ℕ → ℕ → ℕ → ℕ → List (List ℕ) → List (List ℕ) → Type 0
SlotBySlot s t a d zero settled routes = settled ≡ routes
SlotBySlot s t a d (suc i) settled routes =
    (given : List (List ℕ)) × Slot s t a d i settled given × SlotBySlot s t a d i (settled ++ given) routes

abbrev pub no_selection : ℕ → Selection
no_selection r = record { refusal = plain r; routes = empty_set }

abbrev pub a_selection : RouteSet → Selection
a_selection x = record { refusal = none; routes = x }

-- these routes in their order, closed up; 16 where there is none (rule 5.3)
abbrev pub selection : Shape → List (List ℕ) → Selection
selection s [] = no_selection 16
selection s (vs ∷ vss) = record { refusal = none; routes = set_of (map (encode s) (vs ∷ vss)) }

-- the routes of slots k down to 0, and the answer that gives them
pub record GivesRoutes (s : Shape) (t : List ℕ) (a d : ℕ) (r : Selection) : Type 0 where
  pub routes : List (List ℕ)
  pub slots : SlotBySlot s t a d (suc s.k) [] routes
  pub answer : r ≡ selection s routes

-- what selection answers
pub record Selecting (s : Shape) (t : List ℕ) (a d : ℕ) (r : Selection) : Type 0 where
  pub refused : room_refusal s t a d ≢ 0 → r ≡ no_selection (room_refusal s t a d)
  pub given : room_refusal s t a d ≡ 0 → GivesRoutes s t a d r
