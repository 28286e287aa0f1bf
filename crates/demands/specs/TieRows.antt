-- Rows in which the tie rule decides: of routes with as few hops, hop by hop from the source, the higher level comes first, then the
-- lower value. No number worked by hand tells this from other rules; these rows do.
use Rattle.std.specs.Prelude.{ℕ, ◌≡◌, ◌↔◌, List, [], ◌∷◌, ◌++◌, length, replicate}
use Rattle.refusals.specs.Refusals.{none}
use Rattle.room.specs.declared.Shape.{Shape}
use Rattle.room.specs.Shapes.{full_room}
use Rattle.build.specs.Sets.{set_of}
use Rattle.finder.specs.Told.{Found}
use Rattle.finder.specs.Answers.{Finding}
use Rattle.select.specs.Told.{Selection}
use Rattle.select.specs.Selection.{Selecting}
use Rattle.demands.specs.Demand2.{Selected}
use Rattle.demands.specs.ProvedTable.{array}

-- the search from a to d answers these hops and nothing else
abbrev pub Finds : Shape → List ℕ → ℕ → ℕ → List ℕ → Type 0
Finds s t a d bs = (r : Found) → Finding s t a d r ↔ (r ≡ record { refusal = none; hops = length bs; bytes = array bs })

-- a failed-link table of the (3,2) room: 000 has no link at levels 1 and 2, 210 none at level 0, 221 none at level 1
abbrev pub three_failed : List ℕ
three_failed = 6 ∷ replicate 20 0 ++ (1 ∷ 0 ∷ 0 ∷ 0 ∷ 2 ∷ 0 ∷ [])

-- a failed-link table of the (4,1) room: 01 and 03 have no link at level 1, 10, 12, 23 and 30 none at level 0
abbrev pub many_failed : List ℕ
many_failed = 0 ∷ 2 ∷ 0 ∷ 2 ∷ 1 ∷ 0 ∷ 1 ∷ 0 ∷ 0 ∷ 0 ∷ 0 ∷ 1 ∷ 1 ∷ 0 ∷ 0 ∷ 0 ∷ []

pub record TieRows : Type 0 where
  -- (3,1), no link failed, 00 to 21: 42 01, where the lower level or the lower value first would be 01 42
  pub level_then_value : Finds (full_room 3 1) (replicate 9 0) 0 7 (0x42 ∷ 0x01 ∷ [])
  -- (3,1), the link of 00 at level 0 failed, 00 to 01: 41 01 40, where the higher value first would be 42 01 40
  pub lower_value : Finds (full_room 3 1) (1 ∷ replicate 8 0) 0 1 (0x41 ∷ 0x01 ∷ 0x40 ∷ [])
  -- (2,2), the link of 110 at level 1 failed, which 81 41 01 would cross, 000 to 111: 81 01 41, where the lower level first would be
  -- 01 41 81, and from the destination's end the higher level first 01 41 81, the lower 41 81 01
  pub from_the_source : Finds (full_room 2 2) (0 ∷ 0 ∷ 0 ∷ 0 ∷ 0 ∷ 0 ∷ 2 ∷ 0 ∷ []) 0 7 (0x81 ∷ 0x01 ∷ 0x41 ∷ [])
  -- (3,2), those links failed, 000 to 220: 01 82 00 42, where the levels of all hops before any value would be 02 82 42 00
  pub level_and_value : Finds (full_room 3 2) three_failed 0 24 (0x01 ∷ 0x82 ∷ 0x00 ∷ 0x42 ∷ [])
  -- (4,1), 00 to 13, both built routes broken, each of which gives way to its own alternate: 42 01 41 03, then 02 43 03 41
  pub both-broken : (r : Selection)
      → Selecting (full_room 4 1) many_failed 0 7 r
      ↔ (r ≡ record { refusal = none; routes = set_of (array (0x42 ∷ 0x01 ∷ 0x41 ∷ 0x03 ∷ []) ∷ array (0x02 ∷ 0x43 ∷ 0x03 ∷ 0x41 ∷ []) ∷ []) })
  -- and the words of demand 2 for it admit no other routes
  pub no_other : (r : Selection)
      → Selected (full_room 4 1) many_failed 0 7 r
      → r.routes ≡ set_of (array (0x42 ∷ 0x01 ∷ 0x41 ∷ 0x03 ∷ []) ∷ array (0x02 ∷ 0x43 ∷ 0x03 ∷ 0x41 ∷ []) ∷ [])
