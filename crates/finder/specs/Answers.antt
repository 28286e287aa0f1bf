-- What the search for the alternate answers. On a refusal all but the refusal is zero.
use Rattle.std.specs.Prelude.{ℕ, ◌-◌, ◌<◌, ◌≡◌, ◌≢◌, Result, Ok, Err, Option, Some, None, List, length, replicate}
use Rattle.refusals.specs.declared.Reason.{Reason}
use Rattle.refusals.specs.Refusals.{none, plain}
use Rattle.room.specs.declared.Shape.{Shape}
use Rattle.links.specs.Table.{room_refusal}
use Rattle.path.specs.Routes.{encode, RouteTo}
use Rattle.finder.specs.declared.Found.{Found as Route}
use Rattle.finder.specs.Told.{Found}
use Rattle.finder.specs.Alternates.{Alternate}

-- no route, with or without a refusal
abbrev pub no_route : ℕ → Found
no_route r = record { refusal = plain r; hops = 0; bytes = replicate 8 0 }

-- the route vs, by its path bytes
abbrev pub a_route : Shape → List ℕ → Found
a_route s vs = record { refusal = none; hops = length vs - 1; bytes = encode s vs }

-- what is told of a route that is found, or that there is none
abbrev pub what_found : Option Route → Found
what_found None = no_route 0
what_found (Some f) = record { refusal = none; hops = f.hops; bytes = f.bytes }

-- a route that is found has a hop at least
abbrev pub HasHops : Result (Option Route) Reason → Type 0
HasHops (Ok (Some f)) = 0 < f.hops
HasHops (Ok None) = Unit {0}
HasHops (Err r) = Unit {0}

-- the alternate, by its servers, and the answer that gives it
pub record GivesAlternate (s : Shape) (t : List ℕ) (a d : ℕ) (r : Found) : Type 0 where
  pub servers : List ℕ
  pub alternate : Alternate s t a d servers
  pub answer : r ≡ a_route s servers

-- what the search answers: the refusal; or the alternate; or, where no route is, no hops
pub record Finding (s : Shape) (t : List ℕ) (a d : ℕ) (r : Found) : Type 0 where
  pub refused : room_refusal s t a d ≢ 0 → r ≡ no_route (room_refusal s t a d)
  pub given : room_refusal s t a d ≡ 0 → 0 < r.hops → GivesAlternate s t a d r
  pub none : room_refusal s t a d ≡ 0 → r.hops ≡ 0 → (r ≡ no_route 0) × ((vs : List ℕ) → RouteTo s t a d vs → ⊥)
