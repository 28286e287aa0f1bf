-- No room has more than 2,592 switches: so many has the room of 12 ports a switch, levels 0 to 3 and 2 values of digit 3.
use Prim.Native.Nat.{ℕ, zero, suc, ◌+◌, ◌-◌, ◌*◌, ◌^◌, ◌≤◌}
use mathlib.Core.Path.{sym, ap, subst}
use native.Mathlib.Omega.{arith}
use native.Mathlib.Decide.{ℕ_discrete, dec_le}
use native.Mathlib.Nat.{mul_left_comm, mul-le-mul, mul-le-mul_right, pow-zero, pow-succ', pow-le-pow_left}
use lib.ListN.{length}
use Rattle.room.specs.declared.Shape.{Shape}
use Rattle.room.specs.Shapes.{Valid}
use Rattle.room.proofs.DigitLaws.{power-one}
use Rattle.room.proofs.RoomLaws.{servers_are}
use Rattle.summary.specs.Counts.{switches_in}
use Rattle.summary.proofs.KeptLaws.{total-power, total-single}

module _ (n m : ℕ) (some : 2 ≤ m) (most : m ≤ n) where
  -- one power more: x times as many
  next : (x j : ℕ) → x ≤ n → x * (m * n ^ j) ≤ m * n ^ suc j
  next x j h =
      omega (arith, mul-le-mul_right (m * n ^ j) h, mul_left_comm n m (n ^ j), ap (λ (y : ℕ). m * y) (pow-succ' n j))

  -- levels 0 and 1, 0 to 2, 0 to 3
  line : n ≤ 64 → 1 * (m * n ^ 0) + n ^ 1 ≤ 2592
  line h = omega (arith, ap (λ (x : ℕ). m * x) (pow-zero n), power-one n)

  plane : m * n ^ 2 ≤ 4096 → 2 * (m * n ^ 1) + n ^ 2 ≤ 2592
  plane h =
      elim (dec_le 16 n) [
        | yes p ↦ omega (arith, h, mul-le-mul_right (n ^ 2) some, next 16 1 p)
        | no p ↦
            let q : n ≤ 15 = omega (arith, p) in
            let r : m ≤ 15 = omega (arith, q) in
            omega (arith, mul-le-mul r (pow-le-pow_left q 1), pow-le-pow_left q 2)
      ]

  space : m * n ^ 3 ≤ 4096 → 3 * (m * n ^ 2) + n ^ 3 ≤ 2592
  space h =
      elim (dec_le 13 n) [
        | yes p ↦ omega (arith, h, mul-le-mul_right (n ^ 3) some, pow-le-pow_left p 3)
        | no p ↦ elim (ℕ_discrete n 12) [
          | yes e ↦ subst (λ (x : ℕ). m * x ^ 3 ≤ 4096 → 3 * (m * x ^ 2) + x ^ 3 ≤ 2592) (sym e) (λ g. omega (arith, g)) h
          | no f ↦ elim (ℕ_discrete n 11) [
            | yes e ↦ subst (λ (x : ℕ). m * x ^ 3 ≤ 4096 → 3 * (m * x ^ 2) + x ^ 3 ≤ 2592) (sym e) (λ g. omega (arith, g)) h
            | no g ↦ elim (dec_le 8 n) [
              | yes q ↦ let r : n ≤ 10 = omega (arith, p, f, g) in omega (arith, h, next 8 2 q, pow-le-pow_left r 3)
              | no q ↦
                  let r : n ≤ 7 = omega (arith, q) in
                  let t : m ≤ 7 = omega (arith, r) in
                  omega (arith, mul-le-mul t (pow-le-pow_left r 2), pow-le-pow_left r 3)
            ]
          ]
        ]
      ]

  levels : (k : ℕ) → 1 ≤ k → k ≤ 3 → n ≤ 64 → m * n ^ k ≤ 4096 → k * (m * n ^ (k - 1)) + n ^ k ≤ 2592
  levels zero p q h g = let z : ⊥ = omega arith in absurd z
  levels (suc zero) p q h g = line h
  levels (suc (suc zero)) p q h g = plane g
  levels (suc (suc (suc zero))) p q h g = space g
  levels (suc (suc (suc (suc k)))) p q h g = let z : ⊥ = omega arith in absurd z

pub total-most : {s : Shape} → Valid s → length (switches_in s) ≤ 2592
total-most {s} v =
    elim (ℕ_discrete s.k 0) [
      | yes e ↦ omega (arith, total-single v e)
      | no n ↦
          let p : 1 ≤ s.k = omega (arith, n) in
          omega (arith, total-power v p, levels s.n s.m v.some v.most s.k p v.levels v.ports (omega (arith, v.small, servers_are s)))
    ]
