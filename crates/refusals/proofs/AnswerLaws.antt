-- Laws of answers: a refusal and zeros, or what was asked for.
use Prim.Native.Nat.{ℕ, zero, suc}
use mathlib.Core.Path.{◌≡◌, refl, sym, ap, ◌∙◌}
use mathlib.Core.Logic.{◌≢◌}
use native.Mathlib.Omega.{arith}
use Rattle.refusals.specs.Refusals.{◌or_else◌, answer}

module _ {X : Type 0} where
  pub answer-refused : (r q : ℕ) (refused : ℕ → X) (x y : X) → x ≡ refused r → r ≡ q → (r ≡ 0 → ⊥) → x ≡ answer q refused y
  answer-refused zero q refused x y e g h = absurd (h refl)
  answer-refused (suc r) q refused x y e g h = rw (← g) e

  pub answer-given : (r q : ℕ) (refused : ℕ → X) (x y : X) → r ≡ q → r ≡ 0 → x ≡ y → x ≡ answer q refused y
  answer-given r q refused x y g z e = rw (← g, z) e

  -- where there is no refusal, the answer is what was asked for
  pub answer-none : (q : ℕ) (refused : ℕ → X) (y : X) → 0 ≡ q → answer q refused y ≡ y
  answer-none q refused y e = rw (← e)

  -- two answers to the same refusal, which they make the same of
  pub answer-same : (q : ℕ) (refused other : ℕ → X) (x y : X) → (q ≢ 0 → refused q ≡ other q) → x ≡ y → answer q refused x ≡ answer q other y
  answer-same zero refused other x y h e = e
  answer-same (suc q) refused other x y h e = h (λ z. omega arith)

  -- two chains, one after the other
  pub answer_chain : (p q : ℕ) (refused : ℕ → X) (y : X) → answer (p or_else q) refused y ≡ answer p refused (answer q refused y)
  unfolding ◌or_else◌
  answer_chain zero q refused y = refl
  answer_chain (suc p) q refused y = refl

  -- for a caller, who sees the number of an answer
  module _ (number : X → ℕ) (refused : ℕ → X) (same : (r : ℕ) → number (refused r) ≡ r) where
    -- it is the number of the refusal
    pub answer-number : (q : ℕ) (y : X) → number y ≡ 0 → number (answer q refused y) ≡ q
    answer-number zero y z = z
    answer-number (suc q) y z = same (suc q)

    -- where it is 0 there is no refusal, and the answer is what was asked for
    pub answered : (q : ℕ) (x y : X) → x ≡ answer q refused y → number x ≡ 0 → (q ≡ 0) × (x ≡ y)
    answered zero x y e z = (refl, e)
    answered (suc q) x y e z = let w : suc q ≡ 0 = sym (same (suc q)) ∙ ap number (sym e) ∙ z in let n : ⊥ = omega arith in absurd n
