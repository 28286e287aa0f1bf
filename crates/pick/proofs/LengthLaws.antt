-- The tests that come before any reading.
use Prim.Native.Nat.{ℕ, ◌+◌, ◌*◌, ◌%◌}
use mathlib.Core.Path.{◌≡◌, sym}
use mathlib.Core.Bool.{Bool, true, false, ◌&&◌}
use mathlib.Core.List.{List}
use lib.Dec.{leb, eqb}
use borrow.Author.Tests.{eq-eqb, ne_eqb}
use Rattle.refusals.specs.Refusals.{◌unless◌}
use Rattle.refusals.proofs.ChainLaws.{or_else_zero}
use Rattle.room.specs.declared.Shape.{Shape}
use Rattle.links.specs.Table.{room_refusal}
use Rattle.pick.specs.Picks.{fits, lists_refusal}

pub fits_not : (s : Shape) (n : ℕ) → (n % 8 ≡ 0 → ⊥) → eqb (n % 8) 0 ≡ fits s n
unfolding fits
fits_not s n h = rw (ne_eqb (n % 8) 0 h)

pub fits_by : (s : Shape) (n : ℕ) → n % 8 ≡ 0 → leb n (8 * (s.k + 1)) ≡ fits s n
unfolding fits
fits_by s n h = rw (eq-eqb (n % 8) 0 h)

-- both lists tested, one after the other
pub both_fit : (t u f g : Bool) → t ≡ f → t ≡ true → u ≡ g → u ≡ true → 0 ≡ 7 unless (f && g)
both_fit t u f g e x h y = rw (← e, ← h, x, y)

pub first_unfit : (t f g : Bool) → t ≡ f → t ≡ false → 7 ≡ 7 unless (f && g)
first_unfit t f g e x = rw (← e, x)

pub second_unfit : (t u f g : Bool) → t ≡ f → t ≡ true → u ≡ g → u ≡ false → 7 ≡ 7 unless (f && g)
second_unfit t u f g e x h y = rw (← e, ← h, x, y)

-- what no refusal of the lists tells
pub lists_room : (s : Shape) (t : List ℕ) (a d : ℕ) (fs ks : List ℕ) → 0 ≡ lists_refusal s t a d fs ks → room_refusal s t a d ≡ 0
unfolding lists_refusal
lists_room s t a d fs ks e = (or_else_zero (room_refusal s t a d) _ (sym e)).0
