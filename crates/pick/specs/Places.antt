-- Where the picked route stands: the list, 1 the fresh and 2 the kept one, and its place there, counted from 1.
use Rattle.std.specs.Prelude.{ℕ, ◌+◌, List}
use Rattle.refusals.specs.Refusals.{none, plain}
use Rattle.room.specs.declared.Shape.{Shape}
use Rattle.pick.specs.declared.List.{List as WhichList}
use Rattle.pick.specs.declared.List.TheVariants.{Fresh, Kept}
use Rattle.pick.specs.declared.Place.{Place as PlaceIn}
use Rattle.pick.specs.Told.{Place}
use Rattle.pick.specs.Picks.{Source, in_fresh, in_kept, nowhere, pick_source, pick_refusal}

abbrev pub no_place : ℕ → Place
no_place r = record { refusal = plain r; list = 0; route = 0 }

abbrev pub a_place : ℕ → ℕ → Place
a_place l i = record { refusal = none; list = l; route = i }

-- the number of a list
abbrev pub list_number : WhichList → ℕ
list_number Fresh = 1
list_number Kept = 2

-- what is told of a place
abbrev pub the_place : PlaceIn → Place
the_place p = a_place (list_number p.list) p.route

-- the place of a source, or the refusal r where there is none
abbrev pub place_of : ℕ → Source → Place
place_of r (in_fresh i) = a_place 1 (i + 1)
place_of r (in_kept i) = a_place 2 (i + 1)
place_of r nowhere = no_place r

unfoldable pub place_answer : Shape → List ℕ → ℕ → ℕ → List ℕ → List ℕ → Place
place_answer s t a d fs ks = place_of (pick_refusal s t a d fs ks) (pick_source s t a d fs ks)
