-- What building answers. On a refusal all but the refusal is zero.
use Rattle.std.specs.Prelude.{ℕ}
use Rattle.refusals.specs.Refusals.{none, plain, answer}
use Rattle.room.specs.declared.Shape.{Shape}
use Rattle.room.specs.Refusals.{ends_refusal}
use Rattle.build.specs.Told.{Building}
use Rattle.build.specs.declared.RouteSet.{RouteSet}
use Rattle.build.specs.Built.{built_arrays}
use Rattle.build.specs.Sets.{empty_set, set_of}

abbrev pub no_building : ℕ → Building
no_building r = record { refusal = plain r; routes = empty_set }

abbrev pub a_building : RouteSet → Building
a_building x = record { refusal = none; routes = x }

-- 1, 2, 26, 3, 4, 5; else the built routes, slots k down to 0
unfoldable pub build_answer : Shape → ℕ → ℕ → Building
build_answer s a d = answer (ends_refusal s a d) no_building (a_building (set_of (built_arrays s a d)))
