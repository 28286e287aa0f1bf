-- Each public function's contract determines its answer: whatever meets it on some arguments is the one answer to them. Of a returned
-- part that is its bytes and the place where it lies.
use mathlib.Core.Path.{◌≡◌, ◌∙◌, sym}
use borrow.Fn.Kinds.{Dens, ended_of, res_t}
use denote.Triple.Clauses.{AtExit}
use contract.Lifetimes.{Lfts}
use Rattle.refusals.specs.Determined.{Determined}
use Rattle.pick.proofs.ToldLaws.{place-same, plain-same}
use Rattle.pick.proofs.picks.pick_route.Reads as pick_route
use Rattle.pick.proofs.picks.pick_route.Kinds as pick_route_kinds
use Rattle.pick.proofs.picks.pick_place.Reads as pick_place
use Rattle.pick.proofs.picks.pick_place.Kinds as pick_place_kinds
use Rattle.pick.proofs.picks.pick_refusal.Reads as pick-refusal
use Rattle.pick.proofs.picks.pick_refusal.Kinds as pick_refusal_kinds

pub pick-place-unique : Determined 3 pick_place_kinds.ps pick_place_kinds.r pick_place.Post
pick-place-unique κs a x y s t e f = place-same x y (e ∙ sym f)

pub pick-refusal-unique : Determined 3 pick_refusal_kinds.ps pick_refusal_kinds.r pick-refusal.Post
pick-refusal-unique κs a x y s t e f = plain-same x y (e ∙ sym f)

pub pick-route-unique : (κs : Lfts 2) (a : Dens κs pick_route_kinds.ps) (x y : (res_t pick_route_kinds.r κs).Denot) (s t : AtExit (ended_of 2 pick_route_kinds.ps pick_route_kinds.r) κs) → pick_route.Post κs a x s → pick_route.Post κs a y t → (x.now ≡ y.now) × (x.ref_ptr ≡ y.ref_ptr)
pick-route-unique κs a x y s t e f = (e.0 ∙ sym f.0, e.1 ∙ sym f.1)
