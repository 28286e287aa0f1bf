-- Demand 2, proved: which lists of bytes are tables of a room.
use Prim.Native.Nat.{ℕ, zero, suc, ◌/◌, ◌%◌, ◌^◌, ◌≤◌, ◌<◌, suc-le-suc, zero-le}
use mathlib.Core.Path.{◌≡◌, sym, ap, ◌∙◌}
use mathlib.Core.Bool.{true, false}
use native.Mathlib.Omega.{arith}
use native.Mathlib.Decide.{dec_lt}
use native.Mathlib.Nat.{pow-zero, pow-succ', div-one, one-le-pow}
use lib.Dec.{eqb, lit<}
use lib.ListN.{length, get_or, get_or-eq_default}
use borrow.Author.Tests.{eqb-false}
use Rattle.room.specs.Shapes.{servers_of}
use Rattle.room.proofs.DigitLaws.{rest-div}
use Rattle.links.specs.Table.{bit, failed, fits_levels}
use Rattle.links.proofs.TableLaws.{lt_fits, table-above}
use Rattle.demands.specs.Demand2.{TableExactly}

-- ---- a number whose bits from m on are reset is below 2^m

-- the bits of half of it
half : (l x : ℕ) → bit (suc l) x ≡ false → bit l (x / 2) ≡ false
unfolding bit
half l x e = ap (λ (y : ℕ). eqb (y % 2) 1) (rest-div 2 l x) ∙ e

even : (x : ℕ) → bit 0 x ≡ false → x % 2 ≡ 0
unfolding bit
even x e =
    let h : (x % 2 ≡ 1 → ⊥) = eqb-false (x % 2) 1 (ap (λ (y : ℕ). eqb (y % 2) 1) (sym (div-one x)) ∙ e) in omega (arith, h)

no_bits : (f x : ℕ) → x ≤ f → ((l : ℕ) → bit l x ≡ false) → x ≡ 0
no_bits zero x p h = omega arith
no_bits (suc f) x p h =
    let z = no_bits f (x / 2) (omega arith) (λ l. half l x (h (suc l))) in let e = even x (h 0) in omega arith

bits_below : (m x : ℕ) → ((l : ℕ) → m ≤ l → bit l x ≡ false) → x < 2 ^ m
bits_below zero x h = let z = no_bits x x (omega arith) (λ l. h l zero-le) in omega (arith, pow-zero 2)
bits_below (suc m) x h =
    let z = bits_below m (x / 2) (λ l p. half l x (h (suc l) (suc-le-suc p))) in omega (arith, pow-succ' 2 m)

-- ---- the table

pub table-exactly : TableExactly
unfolding failed
table-exactly s t = (λ h. (h.long, λ a l p q. table-above h a l q), λ p. record { long = p.0; fits = fits p })
  where
    fits : (length t ≡ servers_of s) × ((a l : ℕ) → a < servers_of s → s.k < l → failed t a l ≡ false) → (a : ℕ) → fits_levels s.k (get_or t a 0) ≡ true
    fits p a =
        elim (dec_lt a (servers_of s)) [
          | yes q ↦ lt_fits s.k (get_or t a 0) (bits_below (suc s.k) (get_or t a 0) (λ l o. p.1 a l q o))
          | no q ↦ let e : get_or t a 0 ≡ 0 = get_or-eq_default t 0 (omega (arith, p.0)) in
              ap (fits_levels s.k) e ∙ lt_fits s.k 0 (one-le-pow (suc s.k) 2 (lit< tt))
        ]
