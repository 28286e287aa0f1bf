-- Laws of the bits of a byte: what putting one does to it and to the others. b is what it is put to, true where it is set.
use Prim.Native.Nat.{ℕ, zero, suc, ◌+◌, ◌-◌, ◌*◌, ◌/◌, ◌%◌, ◌^◌, ◌≤◌, ◌<◌, suc-le-suc}
use mathlib.Core.Path.{◌≡◌, refl, sym, ap, ◌∙◌}
use mathlib.Core.Logic.{◌≢◌, ◌⊎◌, inl, inr, ⊎_elim}
use mathlib.Core.Bool.{Bool, true, false, cond}
use native.Mathlib.Omega.{arith}
use native.Mathlib.Decide.{ℕ_discrete, dec_le}
use native.Mathlib.Nat.{mod-lt, pow-zero, pow-succ', div-one, div-eq_of_lt, pow-le-pow_right, le_of_suc-le-suc, lt_of_lt_of_le}
use lib.Dec.{eqb, lit<}
use borrow.Author.Tests.{eq-eqb, eqb-true, eqb-false}
use Rattle.room.proofs.DigitLaws.{low, high, rest_lt, rest-div}
use Rattle.links.specs.Table.{bit, with_bit}

-- a test holds or fails
pub either : (t : Bool) → (t ≡ true) ⊎ (t ≡ false)
either true = inl refl
either false = inr refl

-- ---- the lowest bit and the rest

bit-zero : (x : ℕ) → bit 0 x ≡ eqb (x % 2) 1
unfolding bit
bit-zero x = rw (pow-zero, div-one)

bit-suc : (l x : ℕ) → bit (suc l) x ≡ bit l (x / 2)
unfolding bit
bit-suc l x = ap (λ (y : ℕ). eqb (y % 2) 1) (sym (rest-div 2 l x))

bit-low : (d x : ℕ) → d < 2 → bit 0 (d + 2 * x) ≡ eqb d 1
bit-low d x h = bit-zero (d + 2 * x) ∙ ap (λ (y : ℕ). eqb y 1) (low x h)

bit_high : (l d x : ℕ) → d < 2 → bit (suc l) (d + 2 * x) ≡ bit l x
bit_high l d x h = bit-suc l (d + 2 * x) ∙ ap (bit l) (high x h)

two : (x : ℕ) → x % 2 < 2
two x = mod-lt x (lit< tt)

-- a bit above all that are set
pub bit-none : (m l x : ℕ) → x < 2 ^ m → m ≤ l → bit l x ≡ false
unfolding bit
bit-none m l x h p =
    let q : x < 2 ^ l = lt_of_lt_of_le h (pow-le-pow_right (lit< tt) p) in ap (λ (y : ℕ). eqb (y % 2) 1) (div-eq_of_lt q)

-- a bit that is set weighs no more than the whole
pub bit_le : (l x : ℕ) → bit l x ≡ true → 2 ^ l ≤ x
unfolding bit
bit_le l x e =
    elim (dec_le (2 ^ l) x) [
      | yes h ↦ h
      | no h ↦ let q : x < 2 ^ l = omega arith in let z : x / 2 ^ l ≡ 0 = div-eq_of_lt q in
          let o : x / 2 ^ l % 2 ≡ 1 = eqb-true _ _ e in omega arith
    ]

-- ---- putting a bit

-- as it is
pub put_same : (b : Bool) (l x : ℕ) → bit l x ≡ b → with_bit b l x ≡ x
unfolding with_bit
put_same true l x e = rw e
put_same false l x e = rw e

pub put-raised : (l x : ℕ) → bit l x ≡ false → with_bit true l x ≡ x + 2 ^ l
unfolding with_bit
put-raised l x e = rw e

pub put-lowered : (l x : ℕ) → bit l x ≡ true → with_bit false l x ≡ x - 2 ^ l
unfolding with_bit
put-lowered l x e = rw e

-- the lowest bit as a number
abbrev flag : Bool → ℕ
flag b = cond b 1 0

flag_small : (b : Bool) → flag b < 2
flag_small true = lit< tt
flag_small false = lit< tt

flag_bit : (b : Bool) → eqb (flag b) 1 ≡ b
flag_bit true = refl
flag_bit false = refl

put-zero : (b : Bool) (x : ℕ) → with_bit b 0 x ≡ flag b + 2 * (x / 2)
put-zero true x =
    ⊎_elim
    (λ e. put_same true 0 x e ∙ (let o : x % 2 ≡ 1 = eqb-true _ _ (sym (bit-zero x) ∙ e) in omega arith))
    (λ e. put-raised 0 x e ∙ (let o : (x % 2 ≡ 1 → ⊥) = eqb-false _ _ (sym (bit-zero x) ∙ e) in omega (arith, pow-zero 2, o)))
    (either (bit 0 x))
put-zero false x =
    ⊎_elim
    (λ e. put-lowered 0 x e ∙ (let o : x % 2 ≡ 1 = eqb-true _ _ (sym (bit-zero x) ∙ e) in omega (arith, pow-zero 2)))
    (λ e. put_same false 0 x e ∙ (let o : (x % 2 ≡ 1 → ⊥) = eqb-false _ _ (sym (bit-zero x) ∙ e) in omega (arith, o)))
    (either (bit 0 x))

put-suc : (b : Bool) (l x : ℕ) → with_bit b (suc l) x ≡ x % 2 + 2 * with_bit b l (x / 2)
put-suc true l x =
    ⊎_elim
    (λ e. put_same true (suc l) x (bit-suc l x ∙ e) ∙ omega (arith, put_same true l (x / 2) e))
    (λ e. put-raised (suc l) x (bit-suc l x ∙ e) ∙ omega (arith, pow-succ' 2 l, put-raised l (x / 2) e))
    (either (bit l (x / 2)))
put-suc false l x =
    ⊎_elim
    (λ e. put-lowered (suc l) x (bit-suc l x ∙ e) ∙ omega (arith, pow-succ' 2 l, bit_le l (x / 2) e, put-lowered l (x / 2) e))
    (λ e. put_same false (suc l) x (bit-suc l x ∙ e) ∙ omega (arith, put_same false l (x / 2) e))
    (either (bit l (x / 2)))

-- the bit is what it is put to
pub put-bit : (b : Bool) (l x : ℕ) → bit l (with_bit b l x) ≡ b
put-bit b zero x = ap (bit 0) (put-zero b x) ∙ bit-low (flag b) (x / 2) (flag_small b) ∙ flag_bit b
put-bit b (suc l) x = ap (bit (suc l)) (put-suc b l x) ∙ bit_high l (x % 2) (with_bit b l (x / 2)) (two x) ∙ put-bit b l (x / 2)

-- and every other is as it was
pub put_other : (b : Bool) (l m x : ℕ) → m ≢ l → bit m (with_bit b l x) ≡ bit m x
put_other b zero zero x h = absurd (h refl)
put_other b zero (suc m) x h = ap (bit (suc m)) (put-zero b x) ∙ bit_high m (flag b) (x / 2) (flag_small b) ∙ sym (bit-suc m x)
put_other b (suc l) zero x h = ap (bit 0) (put-suc b l x) ∙ bit-low (x % 2) (with_bit b l (x / 2)) (two x) ∙ sym (bit-zero x)
put_other b (suc l) (suc m) x h =
    ap (bit (suc m)) (put-suc b l x)
    ∙ bit_high m (x % 2) (with_bit b l (x / 2)) (two x)
    ∙ put_other b l m (x / 2) (λ e. h (ap suc e))
    ∙ sym (bit-suc m x)

-- a byte of m bits stays one
pub put_lt : (b : Bool) (m l x : ℕ) → l < m → x < 2 ^ m → with_bit b l x < 2 ^ m
put_lt b zero l x h g = let z : ⊥ = omega arith in absurd z
put_lt b (suc m) zero x h g = omega (arith, put-zero b x, flag_small b, rest_lt 2 m x (lit< tt) g, pow-succ' 2 m)
put_lt b (suc m) (suc l) x h g =
    omega (arith, put-suc b l x, put_lt b m l (x / 2) (le_of_suc-le-suc h) (rest_lt 2 m x (lit< tt) g), two x, pow-succ' 2 m)

-- of two, one after the other, the later counts
pub put-again : (b c : Bool) (l x : ℕ) → with_bit c l (with_bit b l x) ≡ with_bit c l x
put-again b c zero x =
    ap (with_bit c 0) (put-zero b x) ∙ put-zero c (flag b + 2 * (x / 2)) ∙ ap (λ (y : ℕ). flag c + 2 * y) (high (x / 2) (flag_small b)) ∙ sym (put-zero c x)
put-again b c (suc l) x =
    let w = with_bit b l (x / 2) in
    ap (with_bit c (suc l)) (put-suc b l x)
    ∙ put-suc c l (x % 2 + 2 * w)
    ∙ rw (low w (two x), high w (two x), put-again b c l (x / 2)) (sym (put-suc c l x))

-- two numbers below 2^m with the same bits below m are the same
low_same : (x y : ℕ) → eqb (x % 2) 1 ≡ eqb (y % 2) 1 → x % 2 ≡ y % 2
low_same x y e =
    elim (ℕ_discrete (x % 2) 1) [
      | yes p ↦ p ∙ sym (eqb-true (y % 2) 1 (sym e ∙ eq-eqb (x % 2) 1 p))
      | no p ↦ elim (ℕ_discrete (y % 2) 1) [
        | yes q ↦ eqb-true (x % 2) 1 (e ∙ eq-eqb (y % 2) 1 q) ∙ sym q
        | no q ↦ omega arith
      ]
    ]

pub bits_same : (m x y : ℕ) → x < 2 ^ m → y < 2 ^ m → ((l : ℕ) → l < m → bit l x ≡ bit l y) → x ≡ y
bits_same zero x y hx hy h = omega (arith, pow-zero 2)
bits_same (suc m) x y hx hy h =
    let low : x % 2 ≡ y % 2 = low_same x y (sym (bit-zero x) ∙ h 0 (omega arith) ∙ bit-zero y) in
    let high : x / 2 ≡ y / 2 =
    bits_same m (x / 2) (y / 2) (rest_lt 2 m x (lit< tt) hx) (rest_lt 2 m y (lit< tt) hy) (λ l k. sym (bit-suc l x) ∙ h (suc l) (suc-le-suc k) ∙ bit-suc l y) in
    omega arith
