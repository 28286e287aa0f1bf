-- Laws of chains: an earlier refusal is the whole chain's; with none it is the next test's; and what each test tells.
use Prim.Native.Nat.{ℕ, zero, suc, ◌≤◌, ◌<◌}
use mathlib.Core.Path.{◌≡◌, refl, sym}
use mathlib.Core.Bool.{Bool, true, false, not, ◌&&◌}
use native.Mathlib.Omega.{arith}
use lib.Dec.{ltb, leb, eqb}
use borrow.Author.Tests.{lt-ltb, le-ltb, le-leb, lt-leb, eq-eqb, ne_eqb}
use Rattle.refusals.specs.Refusals.{◌or_else◌, ◌unless◌}

pub or_else_left : (p q : ℕ) → (p ≡ 0 → ⊥) → p or_else q ≡ p
unfolding ◌or_else◌
or_else_left zero q h = absurd (h refl)
or_else_left (suc p) q h = refl

pub or_else_zero : (p q : ℕ) → p or_else q ≡ 0 → (p ≡ 0) × (q ≡ 0)
unfolding ◌or_else◌
or_else_zero zero q e = (refl, e)
or_else_zero (suc p) q e = omega arith

-- the second refuses nothing that the first lets pass
pub or_else_passed : (p q : ℕ) → (p ≡ 0 → q ≡ 0) → p or_else q ≡ p
unfolding ◌or_else◌
or_else_passed zero q f = f refl
or_else_passed (suc p) q f = refl

-- r is what a call found of the first of two tests
pub chain_stops : (r p q : ℕ) → r ≡ p → (r ≡ 0 → ⊥) → r ≡ p or_else q
chain_stops r p q e h = rw (← e) (sym (or_else_left r q h))

pub chain_goes : (r p q x : ℕ) → r ≡ p → r ≡ 0 → x ≡ q → x ≡ p or_else q
unfolding ◌or_else◌
chain_goes r p q x e z g = rw (← e, z) g

-- the first of two tests refuses nothing, and x is what the second gives
pub chain_on : (p q x : ℕ) → 0 ≡ p → x ≡ q → x ≡ p or_else q
chain_on p q x e g = chain_goes 0 p q x e refl g

-- ---- tests

pub test_held : (t : Bool) (r : ℕ) → suc r unless t ≡ 0 → t ≡ true
test_held true r e = refl
test_held false r e = let z : ⊥ = omega arith in absurd z

-- a test against what a call gave
pub under : (a p q r : ℕ) → p ≡ q → a < p → 0 ≡ r unless ltb a q
under a p q r e h = let k : a < q = omega arith in simp (lt-ltb a q k)

pub over : (a p q r : ℕ) → p ≡ q → p ≤ a → r ≡ r unless ltb a q
over a p q r e h = let k : q ≤ a = omega arith in simp (le-ltb a q k)

-- a test that a call made
pub test_passed : (r : ℕ) (t u : Bool) → t ≡ u → t ≡ true → 0 ≡ r unless u
test_passed r t u e h = rw (← e, h)

pub test_failed : (r : ℕ) (t u : Bool) → t ≡ u → t ≡ false → r ≡ r unless u
test_failed r t u e h = rw (← e, h)

-- tests in one go, as a conjunction: a test fails and the rest is not asked, or it holds and the rest decides
module _ (x y : ℕ) (rest : Bool) where
  pub at-most_fails : y < x → leb x y ≡ (leb x y && rest)
  at-most_fails h = rw (lt-leb x y h)

  pub at-most_holds : x ≤ y → (t : Bool) → t ≡ rest → t ≡ (leb x y && rest)
  at-most_holds h t e = rw (le-leb x y h) e

  pub below_fails : y ≤ x → ltb x y ≡ (ltb x y && rest)
  below_fails h = rw (le-ltb x y h)

  pub below_holds : x < y → (t : Bool) → t ≡ rest → t ≡ (ltb x y && rest)
  below_holds h t e = rw (lt-ltb x y h) e

-- two tests, the second asked where the first holds
module _ (r : ℕ) (t u q : Bool) (e : t ≡ u) where
  pub first-failed : t ≡ false → r ≡ r unless (u && q)
  first-failed h = rw (← e, h)

  pub second-failed : t ≡ true → (v : Bool) → v ≡ q → v ≡ false → r ≡ r unless (u && q)
  second-failed h v f g = rw (← e, h, ← f, g)

  pub both_passed : t ≡ true → (v : Bool) → v ≡ q → v ≡ true → 0 ≡ r unless (u && q)
  both_passed h v f g = rw (← e, h, ← f, g)

-- a test that two numbers are the same, or not
module _ (r x y : ℕ) where
  pub same-refused : x ≡ y → r ≡ r unless not (eqb x y)
  same-refused e = rw (eq-eqb x y e)

  pub apart-passed : (x ≡ y → ⊥) → 0 ≡ r unless not (eqb x y)
  apart-passed h = rw (ne_eqb x y h)

  pub same-passed : x ≡ y → 0 ≡ r unless eqb x y
  same-passed e = rw (eq-eqb x y e)

  pub apart-refused : (x ≡ y → ⊥) → r ≡ r unless eqb x y
  apart-refused h = rw (ne_eqb x y h)
