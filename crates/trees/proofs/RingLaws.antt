-- Laws of one digit: lowering and raising it, round a bound b, and how far it stands from another.
use Prim.Native.Nat.{ℕ, suc, ◌+◌, ◌-◌, ◌%◌, ◌≤◌, ◌<◌}
use mathlib.Core.Path.{◌≡◌, refl, ap, ◌∙◌}
use mathlib.Core.Logic.{◌≢◌}
use native.Mathlib.Omega.{arith}
use native.Mathlib.Nat.{mod-lt, mod-eq_of_lt, add-mod_right}
use native.Mathlib.Decide.{dec_le, dec_lt}

-- once round changes nothing
around : (b r x : ℕ) → r < b → x ≡ r + b → x % b ≡ r
around b r x h e = ap (λ (y : ℕ). y % b) e ∙ add-mod_right r b ∙ mod-eq_of_lt h

inside : (b r x : ℕ) → r < b → x ≡ r → x % b ≡ r
inside b r x h e = ap (λ (y : ℕ). y % b) e ∙ mod-eq_of_lt h

-- ---- lowered

pub less_pos : (b v : ℕ) → v < b → 0 < v → (v + (b - 1)) % b ≡ v - 1
less_pos b v h p = around b (v - 1) (v + (b - 1)) (omega arith) (omega arith)

pub less_zero : (b v : ℕ) → v < b → v ≡ 0 → (v + (b - 1)) % b ≡ b - 1
less_zero b v h p = inside b (b - 1) (v + (b - 1)) (omega arith) (omega arith)

pub less_other : (b v : ℕ) → 2 ≤ b → v < b → (v + (b - 1)) % b ≢ v
less_other b v two h e =
    elim (dec_lt 0 v) [ yes p ↦ omega (arith, less_pos b v h p) | no p ↦ omega (arith, less_zero b v h (omega arith)) ]

-- ---- raised t times

pub more_in : (b p t : ℕ) → p + t < b → (p + t) % b ≡ p + t
more_in b p t h = mod-eq_of_lt h

pub more_out : (b p t : ℕ) → p < b → t ≤ b → b ≤ p + t → (p + t) % b ≡ p + t - b
more_out b p t h q g = around b (p + t - b) (p + t) (omega arith) (omega arith)

-- ---- how far v stands above p

gap_up : (b p v : ℕ) → p < b → v < b → p ≤ v → (v + (b - p)) % b ≡ v - p
gap_up b p v hp hv h = around b (v - p) (v + (b - p)) (omega arith) (omega arith)

gap_down : (b p v : ℕ) → p < b → v < b → v < p → (v + (b - p)) % b ≡ v + (b - p)
gap_down b p v hp hv h = inside b (v + (b - p)) (v + (b - p)) (omega arith) refl

pub gap-none : (b p v : ℕ) → p < b → p ≡ v → (v + (b - p)) % b ≡ 0
gap-none b p v h e = gap_up b p v h (omega arith) (omega arith) ∙ omega arith

pub gap-some : (b p v : ℕ) → p < b → v < b → p ≢ v → 0 < (v + (b - p)) % b
gap-some b p v hp hv e =
    elim (dec_le p v) [ yes h ↦ omega (arith, gap_up b p v hp hv h) | no h ↦ omega (arith, gap_down b p v hp hv (omega arith)) ]

-- lowering brings it nearer by one
pub gap_less : (b p v w : ℕ) → p < b → v < b → p ≢ v → w ≡ (v + (b - 1)) % b → suc ((w + (b - p)) % b) ≡ (v + (b - p)) % b
gap_less b p v w hp hv e q =
    elim (dec_lt 0 v) [
      | yes z ↦ let u : w ≡ v - 1 = q ∙ less_pos b v hv z in
          elim (dec_le p v) [
            | yes h ↦ omega (arith, gap_up b p v hp hv h, gap_up b p w hp (omega arith) (omega arith))
            | no h ↦ omega (arith, gap_down b p v hp hv (omega arith), gap_down b p w hp (omega arith) (omega arith))
          ]
      | no z ↦ let u : w ≡ b - 1 = q ∙ less_zero b v hv (omega arith) in
          omega (arith, gap_down b p v hp hv (omega arith), gap_up b p w hp (omega arith) (omega arith))
    ]

-- from p itself it goes to the far end
pub gap_wrap : (b p v w : ℕ) → p < b → p ≡ v → w ≡ (v + (b - 1)) % b → suc ((w + (b - p)) % b) ≡ b
gap_wrap b p v w hp e q =
    elim (dec_lt 0 v) [
      | yes z ↦ let u : w ≡ v - 1 = q ∙ less_pos b v (omega arith) z in omega (arith, gap_down b p w hp (omega arith) (omega arith))
      | no z ↦ let u : w ≡ b - 1 = q ∙ less_zero b v (omega arith) (omega arith) in
          omega (arith, gap_up b p w hp (omega arith) (omega arith))
    ]

-- raised from p as often as it stands above p, it is v
pub more_gap : (b p v : ℕ) → p < b → v < b → (p + (v + (b - p)) % b) % b ≡ v
more_gap b p v hp hv =
    elim (dec_le p v) [
      | yes h ↦ inside b v (p + (v + (b - p)) % b) hv (omega (arith, gap_up b p v hp hv h))
      | no h ↦ around b v (p + (v + (b - p)) % b) hv (omega (arith, gap_down b p v hp hv (omega arith)))
    ]

-- raised at least once, and less than once round, it is another
pub more_other : (b p t : ℕ) → p < b → 0 < t → t < b → (p + t) % b ≢ p
more_other b p t hp z h e =
    elim (dec_lt (p + t) b) [ yes q ↦ omega (arith, more_in b p t q) | no q ↦ omega (arith, more_out b p t hp (omega arith) (omega arith)) ]

-- lowering undoes raising
pub less_more : (b p t : ℕ) → p < b → suc t ≤ b → ((p + suc t) % b + (b - 1)) % b ≡ (p + t) % b
less_more b p t hp h =
    elim (dec_lt (p + suc t) b) [
      | yes q ↦ around b ((p + t) % b) ((p + suc t) % b + (b - 1)) (mod-lt (p + t) (omega arith)) (omega (arith, more_in b p (suc t) q, more_in b p t (omega arith)))
      | no q ↦ elim (dec_lt (p + t) b) [
        | yes r ↦ inside b ((p + t) % b) ((p + suc t) % b + (b - 1)) (mod-lt (p + t) (omega arith)) (omega (arith, more_out b p (suc t) hp h (omega arith), more_in b p t r))
        | no r ↦ around b ((p + t) % b) ((p + suc t) % b + (b - 1)) (mod-lt (p + t) (omega arith)) (omega (arith, more_out b p (suc t) hp h (omega arith), more_out b p t hp (omega arith) (omega arith)))
      ]
    ]

-- and raising undoes lowering
pub more_less : (b v : ℕ) → v < b → ((v + (b - 1)) % b + 1) % b ≡ v
more_less b v h =
    elim (dec_lt 0 v) [
      | yes p ↦ inside b v ((v + (b - 1)) % b + 1) h (omega (arith, less_pos b v h p))
      | no p ↦ around b v ((v + (b - 1)) % b + 1) h (omega (arith, less_zero b v h (omega arith)))
    ]

pub less_raised : (b p : ℕ) → p < b → ((p + 1) % b + (b - 1)) % b ≡ p
less_raised b p h = less_more b p 0 h (omega arith) ∙ more_in b p 0 (omega arith) ∙ omega arith

-- one up and one up again is the same only round two values
pub two_values : (b p x : ℕ) → 2 ≤ b → p < b → x < b → x ≡ (p + 1) % b → p ≡ (x + 1) % b → b ≡ 2
two_values b p x two hp hx e f =
    elim (dec_lt (p + 1) b) [
      | yes u ↦ elim (dec_lt (x + 1) b) [
        | yes w ↦ let z : ⊥ = omega (arith, e, f, more_in b p 1 u, more_in b x 1 w) in absurd z
        | no w ↦ omega (arith, e, f, more_in b p 1 u, more_out b x 1 hx (omega arith) (omega arith))
      ]
      | no u ↦ elim (dec_lt (x + 1) b) [
        | yes w ↦ omega (arith, e, f, more_out b p 1 hp (omega arith) (omega arith), more_in b x 1 w)
        | no w ↦ omega (arith, e, f, more_out b p 1 hp (omega arith) (omega arith), more_out b x 1 hx (omega arith) (omega arith))
      ]
    ]
