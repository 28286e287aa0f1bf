-- How far neighbours are apart tells their level: at level l by n ^ l or more, and by less than n ^ suc l.
use Prim.Native.Nat.{ℕ, suc, ◌+◌, ◌-◌, ◌*◌, ◌/◌, ◌^◌, ◌≤◌, ◌<◌}
use mathlib.Core.Path.{◌≡◌, refl, ◌∙◌}
use native.Mathlib.Omega.{arith}
use native.Mathlib.Decide.{dec_le}
use native.Mathlib.Nat.{mul-add, mul-one, mul-le-mul_left, pow-zero, pow-suc, pow-le-pow_right}
use Rattle.room.specs.declared.Shape.{Shape}
use Rattle.room.specs.Shapes.{Link}
use Rattle.room.specs.Addresses.{digit}
use Rattle.room.proofs.DigitLaws.{power-one, power-two, power_three}
use Rattle.room.proofs.RoomLaws.{positive, bound_le, digit_lt, with_own, beside_with, with_closed_at, weight_pos}
use Rattle.path.specs.Routes.{level_to}
use Rattle.path.specs.Inside.{Next}

-- d is how far the servers of a hop are apart
module _ {s : Shape} {a b : ℕ} (h : Next s a b) (d : ℕ) (e : d ≡ (a - b) + (b - a)) where
  abbrev l : ℕ
  l = level_to s a b

  abbrev p : ℕ
  p = s.n ^ l

  here : Link s a l
  here = record { server = h.from; level = h.hop.level }

  -- both have the same digits below the level and above it: they differ by the power, as often as their digits there do
  apart : (p ≤ d) × (d < p * s.n)
  apart =
      let x = digit s l a in
      let y = digit s l b in
      let q = s.n * (a / p / s.n) in
      let dx = digit_lt h.from l h.hop.level in
      let dy = digit_lt h.to l h.hop.level in
      let most = bound_le h.from.valid l in
      let ea = with_closed_at (record { link = here; value = dx }) p refl ∙ with_own h.from l in
      let eb = with_closed_at (record { link = here; value = dy }) p refl ∙ beside_with here h.to h.hop.beside in
      let mx = mul-add p x q in
      let my = mul-add p y q in
      let nx = mul-add p x 1 in
      let ny = mul-add p y 1 in
      let one = mul-one p in
      let some = weight_pos h.from.valid l p refl in
      let tx : p * (x + 1) ≤ p * s.n = mul-le-mul_left p (omega arith) in
      let ty : p * (y + 1) ≤ p * s.n = mul-le-mul_left p (omega arith) in
      elim (dec_le (x + 1) y) [
        | yes g ↦ let m = mul-le-mul_left p g in (omega arith, omega arith)
        | no g ↦
            elim (dec_le (y + 1) x) [
              | yes f ↦ let m = mul-le-mul_left p f in (omega arith, omega arith)
              | no f ↦ absurd (h.hop.differ (omega arith))
            ]
      ]

  level_is : (i : ℕ) → s.n ^ i ≤ d → d < s.n ^ suc i → i ≡ l
  level_is i f g =
      let z = positive h.from.valid in
      let t = pow-suc s.n l in
      let r = apart in
      elim (dec_le (suc l) i) [
        | yes u ↦ let m = pow-le-pow_right z u in let w : ⊥ = omega arith in absurd w
        | no u ↦
            elim (dec_le (suc i) l) [
              | yes v ↦ let m = pow-le-pow_right z v in let w : ⊥ = omega arith in absurd w
              | no v ↦ omega arith
            ]
      ]

  pub level-zero : d < s.n → 0 ≡ l
  level-zero g =
      let r = apart in
      let some = weight_pos h.from.valid l p refl in
      level_is 0 (omega (arith, pow-zero s.n)) (omega (arith, power-one s.n))

  pub level-one : s.n ≤ d → d < s.n * s.n → 1 ≡ l
  level-one f g = level_is 1 (omega (arith, power-one s.n)) (omega (arith, power-two s.n))

  pub level-two : s.n * s.n ≤ d → d < s.n * s.n * s.n → 2 ≡ l
  level-two f g = level_is 2 (omega (arith, power-two s.n)) (omega (arith, power_three s.n))

  pub level_three : s.n * s.n * s.n ≤ d → 3 ≡ l
  level_three f =
      let z = positive h.from.valid in
      let t = pow-suc s.n l in
      let r = apart in
      elim (dec_le (suc l) 3) [
        | yes u ↦ let m = pow-le-pow_right z u in let w : ⊥ = omega (arith, power_three s.n) in absurd w
        | no u ↦ omega (arith, h.hop.level, h.from.valid.levels)
      ]

pub ruleset hop_levels = (level-zero, level-one, level-two, level_three)
