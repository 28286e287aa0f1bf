-- A contract that is an equation: the answer is computed, and some number of it is not that of the wrong answer.
use Prim.Native.Nat.{ℕ}
use mathlib.Core.Path.{◌≡◌, sym, ap, ◌∙◌}
use mathlib.Core.Bool.{Bool, false, cond}
use mathlib.Core.List.{List}
use lib.Dec.{eqb}
use lib.ListN.{get_or}
use borrow.Author.Tests.{eqb-false}

-- two of which f gives different numbers are not the same
pub differ : {R : Type 0} (f : R → ℕ) {r a : R} → eqb (f r) (f a) ≡ false → r ≡ a → ⊥
differ f {r} {a} n e = eqb-false (f r) (f a) n (ap f e)

-- so the wrong result r is not the answer a, whatever else
pub clash : {K X R : Type 0} (f : R → ℕ) {r a : R} → eqb (f r) (f a) ≡ false → K → X → r ≡ a → ⊥
clash f n κ x = differ f n

-- the wrong bytes bs differ at place i from those that are left, `left`
pub clash_left : {now left bs : List ℕ} (i : ℕ) → eqb (get_or left i 0) (get_or bs i 0) ≡ false → now ≡ left → now ≡ bs → ⊥
clash_left i n p e = differ (λ (l : List ℕ). get_or l i 0) n (sym p ∙ e)

-- a result that is the answer a does not tell the number v where a does not
pub tells : {R : Type 0} (f : R → ℕ) {r a : R} {v : ℕ} → eqb (f a) v ≡ false → r ≡ a → f r ≡ v → ⊥
tells f {r} {a} {v} n p e = eqb-false (f a) v n (sym (ap f p) ∙ e)

-- what a call tells is the answer a, and so not the wrong v
pub clash_told : {K X R Y : Type 0} (told : R → Y) (f : Y → ℕ) {a v : Y} → eqb (f a) (f v) ≡ false → K → (r : R) → X → told r ≡ a → told r ≡ v → ⊥
clash_told told f n κ r x p e = differ f n (sym p ∙ e)

-- a truth value as a number
abbrev pub bit : Bool → ℕ
bit b = cond b 1 0
