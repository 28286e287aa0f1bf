-- Laws of numbers: a chain of tests gives one of its numbers, and what holds of them all holds of the one that it gives.
use Prim.Native.Nat.{ℕ, zero, suc, ◌≤◌}
use mathlib.Core.Path.{◌≡◌, refl, ap, ◌∙◌}
use mathlib.Core.Logic.{◌≢◌}
use mathlib.Core.Bool.{Bool, true, false, not}
use mathlib.Core.List.{List, [], ◌∷◌, ◌++◌}
use native.Mathlib.Omega.{arith}
use lib.Dec.{leb, eqb}
use borrow.Author.Tests.{eq-eqb, eqb-false, le-leb, leb-true, not-true}
use Rattle.lists.specs.Lists.{is_in}
use Rattle.lists.proofs.ListLaws.{every, every-at, in_left, in_right}
use Rattle.refusals.specs.Refusals.{◌or_else◌, ◌unless◌, OneOf, nought, listed}

-- one test
pub test_one : (r : ℕ) (t : Bool) → OneOf (r ∷ []) (r unless t)
unfolding is_in
test_one r true = nought refl
test_one r false = listed (rw (eq-eqb r r refl))

-- two in turn
pub chain_one : {A B : List ℕ} (p q : ℕ) → OneOf A p → OneOf B q → OneOf (A ++ B) (p or_else q)
unfolding ◌or_else◌
chain_one {A} {B} zero q h (nought e) = nought e
chain_one {A} {B} zero q h (listed e) = listed (in_right q A B e)
chain_one {A} {B} (suc p) q (nought e) k = let z : ⊥ = omega arith in absurd z
chain_one {A} {B} (suc p) q (listed e) k = listed (in_left (suc p) A B e)

-- the same numbers, or more
pub one_of : {A B : List ℕ} {r : ℕ} → every (λ x. is_in x B) A ≡ true → OneOf A r → OneOf B r
one_of h (nought e) = nought e
one_of {A} {B} {r} h (listed e) = listed (every-at (λ x. is_in x B) A r h e)

-- a test that each of the numbers passes
pub one_passes : {A : List ℕ} {r : ℕ} (f : ℕ → Bool) → f 0 ≡ true → every f A ≡ true → OneOf A r → f r ≡ true
one_passes f z h (nought e) = ap f e ∙ z
one_passes {A} {r} f z h (listed e) = every-at f A r h e

pub refused_passes : {A : List ℕ} {r : ℕ} (f : ℕ → Bool) → every f A ≡ true → OneOf A r → (r ≡ 0 → ⊥) → f r ≡ true
refused_passes f h (nought e) n = absurd (n e)
refused_passes {A} {r} f h (listed e) n = every-at f A r h e

-- what is none of the numbers is not given
pub one-not : {A : List ℕ} {r : ℕ} (m : ℕ) → not (eqb 0 m) ≡ true → every (λ x. not (eqb x m)) A ≡ true → OneOf A r → r ≢ m
one-not {A} {r} m z h k = eqb-false r m (not-true _ (one_passes (λ x. not (eqb x m)) z h k))

-- none of the numbers is above m
pub one_le : {A : List ℕ} {r : ℕ} (m : ℕ) → every (λ x. leb x m) A ≡ true → OneOf A r → r ≤ m
one_le {A} {r} m h k = leb-true r m (one_passes (λ x. leb x m) (le-leb 0 m (omega arith)) h k)
