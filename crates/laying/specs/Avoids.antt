-- What it is for a route to avoid others.
use Rattle.std.specs.Prelude.{ℕ}
use mathlib.Core.List.{List, Memᴰ as In}
use Rattle.room.specs.declared.Shape.{Shape}
use Rattle.path.specs.Routes.{Parallel}

-- route us avoids every switch and every middle server of these routes; the ends, which all have, do not count
pub record Avoids (s : Shape) (routes : List (List ℕ)) (us : List ℕ) : Type 0 where
  pub each : (vs : List ℕ) → In vs routes → Parallel s us vs
