-- Chains of tests, in the rules' order: the first that fails gives its number, and the others are not asked.
use Rattle.std.specs.Prelude.{ℕ, ◌≡◌, ◌≢◌, ◌↔◌, ◌⊎◌, List, [], ◌∷◌, ◌++◌}
use Rattle.refusals.specs.Refusals.{Refusal, none, plain}

infixl 30 ◌then◌
-- tests in their order: each the number that is given where it fails, and the condition that it tests
abbrev pub Tests : Type 1
Tests = List (ℕ × Type 0)

-- these tests, then one more
abbrev pub ◌then◌ : Tests → ℕ × Type 0 → Tests
tests then test = tests ++ (test ∷ [])

-- r is what `refused` makes of the number of the first test that fails; where all hold, r is as `Else` says
abbrev pub Refused : {R : Type 0} → (ℕ → R) → Tests → (R → Type 0) → R → Type 0
Refused refused [] Else r = Else r
Refused refused (test ∷ tests) Else r =
    (test.1 × Refused refused tests Else r) ⊎ ((test.1 → ⊥) × (r ≡ refused test.0))

-- a number alone: 0 where all hold
abbrev pub Number : Tests → ℕ → Type 0
Number tests = Refused (λ n. n) tests (λ r. r ≡ 0)

-- a refusal of the call as a whole: none where all hold
abbrev pub Whole : Tests → Refusal → Type 0
Whole tests = Refused plain tests (λ r. r ≡ none)

-- x meets P, and nothing else does
abbrev pub Exactly : {R : Type 0} → R → (R → Type 0) → Type 0
Exactly {R} x P = (r : R) → (x ≡ r) ↔ P r

-- ---- what such a chain says of each of its numbers

-- all of these hold
abbrev pub Hold : Tests → Type 0
Hold [] = Unit {0}
Hold (test ∷ tests) = test.1 × Hold tests

-- none of these gives what x is
abbrev pub Others : {R : Type 0} → (ℕ → R) → Tests → R → Type 0
Others refused [] x = Unit {0}
Others refused (test ∷ tests) x = (refused test.0 ≢ x) × Others refused tests x

-- n is given exactly where all tests before its own hold and its own fails, if neither another test nor `Else` gives it; and what no test
-- gives, exactly where all hold and `Else` says it
pub record ChainMeans : Type 1 where
  pub number : {R : Type 0} (refused : ℕ → R) (before after : Tests) (n : ℕ) (P : Type 0) (Else : R → Type 0) (x : R)
      → Exactly x (Refused refused (before ++ ((n, P) ∷ after)) Else)
      → Others refused before (refused n)
      → Others refused after (refused n)
      → (Else (refused n) → ⊥)
      → (x ≡ refused n) ↔ (Hold before × (P → ⊥))
  pub otherwise : {R : Type 0} (refused : ℕ → R) (tests : Tests) (Else : R → Type 0) (x r : R)
      → Exactly x (Refused refused tests Else)
      → Others refused tests r
      → (x ≡ r) ↔ (Hold tests × Else r)
