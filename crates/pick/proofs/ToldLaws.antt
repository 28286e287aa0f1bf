-- Two results of picking that tell the same are one.
use Prim.Native.Nat.{ℕ}
use mathlib.Core.Path.{◌≡◌, refl, ap}
use lib.Dec.{eqb}
use mathlib.Core.Bool.{cond}
use Rattle.std.specs.Prelude.{Result}
use Rattle.refusals.specs.declared.Reason.{Reason}
use Rattle.refusals.specs.Refusals.{Refusal, plain}
use Rattle.refusals.specs.Reasons.{told, tells}
use Rattle.refusals.proofs.ReasonLaws.{told-same, tells-same}
use Rattle.pick.specs.declared.List.{List as WhichList}
use Rattle.pick.specs.declared.List.TheVariants.{Fresh, Kept}
use Rattle.pick.specs.declared.Place.{Place as PlaceIn}
use Rattle.pick.specs.Told.{Place}
use Rattle.pick.specs.Places.{no_place, list_number, the_place}

-- a list from its number
abbrev list_of : ℕ → WhichList
list_of n = cond (eqb n 1) Fresh Kept

list-back : (l : WhichList) → list_of (list_number l) ≡ l
list-back Fresh = refl
list-back Kept = refl

pub place-same : (x y : Result PlaceIn Reason) → tells no_place the_place x ≡ tells no_place the_place y → x ≡ y
place-same =
    tells-same no_place the_place (λ (x : Place). x.refusal.number) (λ (x : Place). record { list = list_of x.list; route = x.route })
    (λ r. refl) (λ x. refl) (λ x. ap (λ (l : WhichList). record { list = l; route = x.route }) (list-back x.list))

pub plain-same : (x y : Result (Unit {0}) Reason) → plain (told x) ≡ plain (told y) → x ≡ y
plain-same x y e = told-same x y (ap (λ (r : Refusal). r.number) e)
