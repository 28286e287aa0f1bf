-- Powers of n and the number of servers, as a program computes them with no test of a shape.
use Prim.Native.Nat.{ℕ, zero, suc, ◌+◌, ◌*◌, ◌%◌, ◌^◌, ◌≤◌, ◌<◌}
use mathlib.Core.Path.{◌≡◌, sym, ap, ◌∙◌}
use mathlib.Core.Logic.{◌≢◌, ◌⊎◌, inl, inr, ⊎_elim}
use mathlib.Core.Bool.{cond}
use native.Mathlib.Omega.{arith}
use native.Mathlib.Decide.{dec_le}
use native.Mathlib.Nat.{pow-zero, mul-one, one-mul, mul-zero, mul-le-mul, le_trans}
use lib.Dec.{leb, eqb}
use mir.Syntax.{w64}
use mir.Val.{Fits}
use borrow.Author.Tests.{le-leb, lt-leb}
use Rattle.room.specs.declared.Shape.{Shape}
use Rattle.room.specs.Shapes.{servers_of, power_of, server_count, Valid}
use Rattle.room.proofs.DigitLaws.{pow_small, next_power, power-one, power-two, power_three}

-- ---- the limits

pub no_ports : (n l : ℕ) → n < 1 → 0 ≡ power_of n l
unfolding power_of
no_ports n l a = rw (lt-leb 1 n a)

pub past-ports : (n l : ℕ) → 1 ≤ n → 64 < n → 0 ≡ power_of n l
unfolding power_of
past-ports n l a b = rw (le-leb 1 n a, lt-leb n 64 b)

pub past-levels : (n l : ℕ) → 1 ≤ n → n ≤ 64 → 3 < l → 0 ≡ power_of n l
unfolding power_of
past-levels n l a b d = rw (le-leb 1 n a, le-leb n 64 b, lt-leb l 3 d)

pub power-within : (n l : ℕ) → 1 ≤ n → n ≤ 64 → l ≤ 3 → power_of n l ≡ n ^ l
unfolding power_of
power-within n l a b d = rw (le-leb 1 n a, le-leb n 64 b, le-leb l 3 d)

-- n and l are in their limits, or the power is 0
power_cases : (n l : ℕ) → ((1 ≤ n) × (n ≤ 64) × (l ≤ 3)) ⊎ (0 ≡ power_of n l)
power_cases n l =
    elim (dec_le 1 n) [
      | yes a ↦ elim (dec_le n 64) [
        | yes b ↦ elim (dec_le l 3) [ yes d ↦ inl (a, b, d) | no d ↦ inr (past-levels n l a b (omega arith)) ]
        | no b ↦ inr (past-ports n l a (omega arith))
      ]
      | no a ↦ inr (no_ports n l (omega arith))
    ]

pub power-some : (n l : ℕ) → power_of n l ≢ 0 → 1 ≤ n
power-some n l h = ⊎_elim (λ p. p.0) (λ z. absurd (h (sym z))) (power_cases n l)

-- p is the power that a program found, and some: once more by n it still fits
pub power_on : (n l p : ℕ) → p ≡ power_of n l → p ≢ 0 → p * n ≤ 16777216
power_on n l p e h =
    ⊎_elim
    (λ g. omega (arith, next_power n l p (e ∙ power-within n l g.0 g.1 g.2), pow_small n (l + 1) g.1 (omega arith)))
    (λ z. absurd (h (e ∙ sym z)))
    (power_cases n l)

-- ---- as the program makes it

-- the square of n from 2 on, and n once more where l is odd
product : (n l : ℕ) → l ≤ 3 → cond (leb 2 l) n 1 * cond (leb 2 l) n 1 * cond (eqb (l % 2) 1) n 1 ≡ n ^ l
product n zero h = sym (pow-zero n)
product n (suc zero) h = one-mul n ∙ power-one n
product n (suc (suc zero)) h = mul-one (n * n) ∙ power-two n
product n (suc (suc (suc zero))) h = power_three n
product n (suc (suc (suc (suc l)))) h = let z : ⊥ = omega arith in absurd z

-- x is the root and y the factor that it found
pub power-made : (n l : ℕ) → 1 ≤ n → n ≤ 64 → l ≤ 3 → (x : ℕ) → x ≡ cond (leb 2 l) n 1 → (y : ℕ) → y ≡ cond (eqb (l % 2) 1) n 1 → x * x * y ≡ power_of n l
power-made n l a b d x ex y ey = rw (ex, ey) (product n l d ∙ sym (power-within n l a b d))

-- ---- the number of servers

pub count-within : (s : Shape) → 2 ≤ s.n → s.n ≤ 64 → s.k ≤ 3 → s.m ≤ s.n → server_count s ≡ servers_of s
unfolding server_count servers_of
count-within s a b d f = rw (le-leb s.m s.n f, power-within s.n s.k (omega arith) b d)

pub count-servers : {s : Shape} → Valid s → server_count s ≡ servers_of s
count-servers {s} v = count-within s v.two v.ports v.levels v.most

pub count_none : (s : Shape) → s.n < s.m → 0 ≡ server_count s
unfolding server_count
count_none s h = rw (lt-leb s.m s.n h)

-- p is the power that the program found
module _ (s : Shape) (h : s.m ≤ s.n) (p : ℕ) (e : p ≡ power_of s.n s.k) where
  pub count_fits : Fits w64 (s.m * p)
  count_fits =
      ⊎_elim
      (λ g. let q : p ≤ 16777216 = omega (arith, power-within s.n s.k g.0 g.1 g.2, pow_small s.n s.k g.1 (omega arith)) in omega (arith, mul-le-mul (le_trans h g.1) q))
      (λ z. let q : s.m * p ≡ 0 = ap (λ (x : ℕ). s.m * x) (e ∙ sym z) ∙ mul-zero s.m in omega arith)
      (power_cases s.n s.k)

  pub count-made : s.m * p ≡ server_count s
  unfolding server_count
  count-made = rw (le-leb s.m s.n h, ← e)
