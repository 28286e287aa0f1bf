-- What a slot avoids.
use Rattle.std.specs.Prelude.{ℕ, List, ◌++◌, map}
use Rattle.lists.specs.Lists.{down_from}
use Rattle.room.specs.declared.Shape.{Shape}
use Rattle.build.specs.Built.{built_route}

-- what slot i avoids over the failed-link table t, whatever that holds: the routes settled so far, and the built routes of the lower slots (rule 5.2)
unfoldable pub avoided : Shape → List ℕ → ℕ → ℕ → ℕ → List (List ℕ) → List (List ℕ)
avoided s t a d i settled = settled ++ map (λ j. built_route s j a d) (down_from i)
