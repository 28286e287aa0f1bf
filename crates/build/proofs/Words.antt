-- Words, lists of Bool: when two are the same, or the same but in one place, and the pattern in which two lists of digits differ.
use Prim.Native.Nat.{ℕ, zero, suc, ◌<◌, suc-le-suc, zero-le}
use mathlib.Core.Path.{◌≡◌, refl, sym, ap, ap₂, subst}
use mathlib.Core.Logic.{◌≢◌}
use mathlib.Core.Bool.{Bool, true, false, not, ◌&&◌, beq}
use mathlib.Core.List.{List, [], ◌∷◌}
use native.Mathlib.Omega.{arith}
use native.Mathlib.Decide.{ℕ_discrete}
use borrow.Author.Tests.{eq-eqb, ne_eqb}
use lib.Dec.{T, eqb}
use lib.ListN.{length, get_or}
use Rattle.room.specs.Digits.{differ_from}
use Rattle.build.proofs.ListLaws.{and_left, and_right, T_true}
use Rattle.build.proofs.Symbolic.{Word, same_word, same_but, count}

pub beq_true : (x y : Bool) → beq x y ≡ true → x ≡ y
beq_true true true e = refl
beq_true true false e = sym e
beq_true false true e = e
beq_true false false e = refl

pub beq_same : (x y : Bool) → x ≡ y → T (beq x y)
beq_same true true e = tt
beq_same true false e = let z : T false = subst T e tt in absurd z
beq_same false true e = let z : T false = subst T (sym e) tt in absurd z
beq_same false false e = tt

pub both : (a b : Bool) → T a → T b → T (a && b)
both true b p q = q
both false b p q = p

pub same_word_lem : (x y : Word) → T (same_word x y) → x ≡ y
same_word_lem [] [] t = refl
same_word_lem [] (b ∷ y) t = absurd t
same_word_lem (a ∷ x) [] t = absurd t
same_word_lem (a ∷ x) (b ∷ y) t =
    ap₂ {B = Word} (λ (h : Bool) (r : Word). h ∷ r)
    (beq_true a b (T_true (beq a b) (and_left (beq a b) (same_word x y) t)))
    (same_word_lem x y (and_right (beq a b) (same_word x y) t))

pub word_same : (x y : Word) → length x ≡ length y → ((l : ℕ) → l < length x → get_or x l false ≡ get_or y l false) → T (same_word x y)
word_same [] [] h g = tt
word_same [] (b ∷ y) h g = omega arith
word_same (a ∷ x) [] h g = omega arith
word_same (a ∷ x) (b ∷ y) h g =
    both (beq a b) (same_word x y) (beq_same a b (g zero (suc-le-suc zero-le))) (word_same x y (omega arith) (λ l p. g (suc l) (suc-le-suc p)))

pub word_but : (j : ℕ) (x y : Word) → length x ≡ length y → ((l : ℕ) → l < length x → l ≢ j → get_or x l false ≡ get_or y l false) → T (same_but j x y)
word_but j [] [] h g = tt
word_but j [] (b ∷ y) h g = omega arith
word_but j (a ∷ x) [] h g = omega arith
word_but zero (a ∷ x) (b ∷ y) h g = word_same x y (omega arith) (λ l p. g (suc l) (suc-le-suc p) (λ q. omega arith))
word_but (suc j) (a ∷ x) (b ∷ y) h g =
    both (beq a b) (same_but j x y) (beq_same a b (g zero (suc-le-suc zero-le) (λ q. omega arith)))
    (word_but j x y (omega arith) (λ l p q. g (suc l) (suc-le-suc p) (λ e. q (omega arith))))

-- which digits of two lists differ
abbrev pub pattern : List ℕ → List ℕ → Word
pattern [] es = []
pattern (d ∷ ds) [] = []
pattern (d ∷ ds) (e ∷ es) = not (eqb d e) ∷ pattern ds es

pub pattern_long : (ds es : List ℕ) → length ds ≡ length es → length (pattern ds es) ≡ length ds
pattern_long [] es h = refl
pattern_long (d ∷ ds) [] h = let z : ⊥ = omega arith in absurd z
pattern_long (d ∷ ds) (e ∷ es) h = ap suc (pattern_long ds es (omega arith))

pub pattern_at : (ds es : List ℕ) → length ds ≡ length es → (l : ℕ) → get_or (pattern ds es) l false ≡ not (eqb (get_or ds l 0) (get_or es l 0))
pattern_at [] [] h l = refl
pattern_at [] (e ∷ es) h l = let z : ⊥ = omega arith in absurd z
pattern_at (d ∷ ds) [] h l = let z : ⊥ = omega arith in absurd z
pattern_at (d ∷ ds) (e ∷ es) h zero = refl
pattern_at (d ∷ ds) (e ∷ es) h (suc l) = pattern_at ds es (omega arith) l

pub pattern_count : (o : ℕ) (ds es : List ℕ) → length ds ≡ length es → length (differ_from o ds es) ≡ count (pattern ds es)
unfolding differ_from
pattern_count o [] es h = refl
pattern_count o (d ∷ ds) [] h = let z : ⊥ = omega arith in absurd z
pattern_count o (d ∷ ds) (e ∷ es) h =
    elim (ℕ_discrete d e) [
      | yes q ↦ rw (eq-eqb d e q) (pattern_count (suc o) ds es (omega arith))
      | no q ↦ rw (ne_eqb d e q) (ap suc (pattern_count (suc o) ds es (omega arith)))
    ]

pub count_none : (p : Word) → count p ≡ 0 → (l : ℕ) → get_or p l false ≡ false
count_none [] e l = refl
count_none (true ∷ p) e l = let z : ⊥ = omega arith in absurd z
count_none (false ∷ p) e zero = refl
count_none (false ∷ p) e (suc l) = count_none p e l

pub not-false : (b : Bool) → not b ≡ false → b ≡ true
not-false true e = refl
not-false false e = sym e
