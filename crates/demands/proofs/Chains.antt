-- Laws of chains of tests.
use Prim.Native.Nat.{ℕ, zero, suc, ◌≤◌, ◌<◌}
use mathlib.Core.Path.{◌≡◌, refl, sym, ap, ◌∙◌, subst}
use mathlib.Core.Logic.{◌≢◌, ◌↔◌, inl, inr}
use mathlib.Core.Bool.{Bool, true, false, not, ◌&&◌, ◌||◌}
use mathlib.Core.List.{List, [], ◌∷◌, ◌++◌}
use native.Mathlib.Omega.{arith}
use lib.Dec.{ltb, leb, eqb}
use borrow.Author.Tests.{lt-ltb, ltb-true, le-leb, leb-true, eq-eqb, ne_eqb, eqb-true, eqb-false, not-true}
use Rattle.lists.proofs.ListLaws.{both_held}
use Rattle.lists.specs.Lists.{is_in}
use Rattle.refusals.specs.Refusals.{◌or_else◌, ◌unless◌, answer, OneOf, nought, listed}
use Rattle.demands.specs.Tests.{Tests, Refused, Number, Exactly, Hold, Others, ChainMeans}

pub or_right : (x y : Bool) → y ≡ true → x || y ≡ true
or_right true y e = refl
or_right false y e = e

-- ---- one chain

pub front : (A B : Tests) → Hold (A ++ B) → Hold A
front [] B h = tt
front (t ∷ A) B h = (h.0, front A B h.1)

pub back : (A B : Tests) → Hold (A ++ B) → Hold B
back [] B h = h
back (t ∷ A) B h = back A B h.1

pub hold_both : (A B : Tests) → Hold A → Hold B → Hold (A ++ B)
hold_both [] B h k = k
hold_both (t ∷ A) B h k = (h.0, hold_both A B h.1 k)

module _ {R : Type 0} (refused : ℕ → R) where
  module _ (Else : R → Type 0) where
    -- all hold
    pub held : (A : Tests) (r : R) → Hold A → Else r → Refused refused A Else r
    held [] r h e = e
    held (t ∷ A) r h e = inl (h.0, held A r h.1 e)

    -- where the first tests hold, what follows decides
    pub skip : (A : Tests) (r : R) → Hold A → Refused refused A Else r → Else r
    skip [] r h k = k
    skip (t ∷ A) r h (inl k) = skip A r h.1 k.1
    skip (t ∷ A) r h (inr k) = absurd (k.0 h.0)

    -- a chain allows one answer where its end does
    pub same : (A : Tests) (x y : R) → (Hold A → Else x → Else y → x ≡ y) → Refused refused A Else x → Refused refused A Else y → x ≡ y
    same [] x y f h k = f tt h k
    same (t ∷ A) x y f (inl h) (inl k) = same A x y (λ a. f (h.0, a)) h.1 k.1
    same (t ∷ A) x y f (inl h) (inr k) = absurd (k.0 h.0)
    same (t ∷ A) x y f (inr h) (inl k) = absurd (h.0 k.0)
    same (t ∷ A) x y f (inr h) (inr k) = h.1 ∙ sym k.1

    pub exactly : (A : Tests) (x : R) → ((y : R) → Hold A → Else x → Else y → x ≡ y) → Refused refused A Else x → Exactly x (Refused refused A Else)
    exactly A x f h r = (λ e. subst (Refused refused A Else) e h, same A x r (f r) h)

    -- what no test of a chain gives comes from its end
    pub others : (A : Tests) (r : R) → Others refused A r → Refused refused A Else r → Hold A × Else r
    others [] r o h = (tt, h)
    others (t ∷ A) r o (inl h) = let w = others A r o.1 h.1 in ((h.0, w.0), w.1)
    others (t ∷ A) r o (inr h) = absurd (o.0 (sym h.1))

  -- two chains in turn are one
  pub join : (Else : R → Type 0) (A B : Tests) (r : R) → Refused refused A (Refused refused B Else) r → Refused refused (A ++ B) Else r
  join Else [] B r h = h
  join Else (t ∷ A) B r (inl h) = inl (h.0, join Else A B r h.1)
  join Else (t ∷ A) B r (inr h) = inr h

  pub split : (Else : R → Type 0) (A B : Tests) (r : R) → Refused refused (A ++ B) Else r → Refused refused A (Refused refused B Else) r
  split Else [] B r h = h
  split Else (t ∷ A) B r (inl h) = inl (h.0, split Else A B r h.1)
  split Else (t ∷ A) B r (inr h) = inr h

  -- another end
  pub ends : (Else Or : R → Type 0) (A : Tests) (r : R) → (Hold A → Else r → Or r) → Refused refused A Else r → Refused refused A Or r
  ends Else Or [] r f h = f tt h
  ends Else Or (t ∷ A) r f (inl h) = inl (h.0, ends Else Or A r (λ a. f (h.0, a)) h.1)
  ends Else Or (t ∷ A) r f (inr h) = inr h

-- ---- what a chain means

means_number : {R : Type 0} (refused : ℕ → R) (before after : Tests) (n : ℕ) (P : Type 0) (Else : R → Type 0) (x : R) → Exactly x (Refused refused (before ++ ((n, P) ∷ after)) Else) → Others refused before (refused n) → Others refused after (refused n) → (Else (refused n) → ⊥) → (x ≡ refused n) ↔ (Hold before × (P → ⊥))
means_number refused before after n P Else x e o u k = (there, back)
  where
    there : x ≡ refused n → Hold before × (P → ⊥)
    there q =
        let w = others refused (Refused refused ((n, P) ∷ after) Else) before (refused n) o (split refused Else before ((n, P) ∷ after) (refused n) ((e (refused n)).0 q)) in
        (w.0, go w.1)
      where
        go : Refused refused ((n, P) ∷ after) Else (refused n) → P → ⊥
        go (inl h) p = k (others refused Else after (refused n) u h.1).1
        go (inr h) p = h.0 p

    back : Hold before × (P → ⊥) → x ≡ refused n
    back h =
        (e (refused n)).1 (join refused Else before ((n, P) ∷ after) (refused n) (held refused (Refused refused ((n, P) ∷ after) Else) before (refused n) h.0 (inr (h.1, refl))))

pub chain_means : ChainMeans
chain_means =
    record {
      number = means_number;
      otherwise = λ refused tests Else x r e o. (λ q. others refused Else tests r o ((e r).0 q), λ h. (e r).1 (held refused Else tests r h.0 h.1));
    }

-- ---- numbers

-- f makes of each number of a chain what is refused with it
abbrev pub Makes : {R : Type 0} → (ℕ → R) → (ℕ → R) → Tests → Type 0
Makes f refused [] = Unit {0}
Makes f refused (t ∷ A) = (f t.0 ≡ refused t.0) × Makes f refused A

-- then f makes of the chain's number the chain's refusal
pub carry : {R : Type 0} (refused f : ℕ → R) (Else : R → Type 0) (A : Tests) (q : ℕ) → Makes f refused A → Number A q → (Hold A → Else (f 0)) → Refused refused A Else (f q)
carry refused f Else [] q m h k = subst (λ (x : ℕ). Else (f x)) (sym h) (k tt)
carry refused f Else (t ∷ A) q m (inl h) k = inl (h.0, carry refused f Else A q m.1 h.1 (λ a. k (h.0, a)))
carry refused f Else (t ∷ A) q m (inr h) k = inr (h.0, ap f h.1 ∙ m.0)

-- where f makes what is refused of every number but 0, it does so for chains without 0
abbrev pub some : Tests → Bool
some [] = true
some (t ∷ A) = not (eqb t.0 0) && some A

pub made : {R : Type 0} (refused f : ℕ → R) (A : Tests) → ((n : ℕ) → f (suc n) ≡ refused (suc n)) → some A ≡ true → Makes f refused A
made refused f [] e m = tt
made refused f (t ∷ A) e m =
    let w = both_held (not (eqb t.0 0)) (some A) m in
    (of t.0 (eqb-false t.0 0 (not-true _ w.0)), made refused f A e w.1)
  where
    of : (n : ℕ) → n ≢ 0 → f n ≡ refused n
    of zero z = absurd (z refl)
    of (suc n) z = e n

-- one test
pub test : {P : Type 0} (n : ℕ) (t : Bool) → (t ≡ true) ↔ P → Number ((n, P) ∷ []) (n unless t)
test n true e = inl (e.0 refl, refl)
test n false e = inr (λ p. let h = e.1 p in let z : ◌≡◌ {A = ℕ} 0 1 = cc in omega arith, refl)

-- two chains in turn; the second may count on the first
pub chain : (A B : Tests) (p q : ℕ) → some A ≡ true → Number A p → (Hold A → Number B q) → Number (A ++ B) (p or_else q)
unfolding ◌or_else◌
chain A B p q m h k =
    join (λ n. n) (λ r. r ≡ 0) A B (p or_else q) (carry (λ n. n) (λ n. n or_else q) (Number B) A p (made (λ n. n) (λ n. n or_else q) A (λ n. refl) m) h k)

module _ (A B : Tests) (q : ℕ) where
  -- what is left of a chain whose first tests hold
  pub after : Hold A → Number (A ++ B) q → Number B q
  after h k = skip (λ n. n) (Number B) A q h (split (λ n. n) (λ r. r ≡ 0) A B q k)

  -- other tests after the first
  pub under : (C : Tests) → (Hold A → Number B q → Number C q) → Number (A ++ B) q → Number (A ++ C) q
  under C f k = join (λ n. n) (λ r. r ≡ 0) A C q (ends (λ n. n) (Number B) (Number C) A q f (split (λ n. n) (λ r. r ≡ 0) A B q k))

module _ (n : ℕ) (P Q : Type 0) (A : Tests) (q : ℕ) where
  -- two tests with one number are one
  pub merge : Number ((n, P) ∷ (n, Q) ∷ A) q → Number ((n, P × Q) ∷ A) q
  merge (inl h) = go h.1
    where
      go : Number ((n, Q) ∷ A) q → Number ((n, P × Q) ∷ A) q
      go (inl k) = inl ((h.0, k.0), k.1)
      go (inr k) = inr (λ p. k.0 p.1, k.1)
  merge (inr h) = inr (λ p. h.0 p.0, h.1)

  -- the same condition in other words
  pub reword : P ↔ Q → Number ((n, P) ∷ A) q → Number ((n, Q) ∷ A) q
  reword e (inl h) = inl (e.0 h.0, h.1)
  reword e (inr h) = inr (λ x. h.0 (e.1 x), h.1)

-- a test that always holds
pub idle : (n : ℕ) (P : Type 0) (A : Tests) (q : ℕ) → P → Number ((n, P) ∷ A) q → Number A q
idle n P A q p (inl h) = h.1
idle n P A q p (inr h) = absurd (h.0 p)

-- ---- 0, and the others

-- where all hold the number is 0, and where it is 0 all hold
pub zero_of : (A : Tests) (q : ℕ) → Number A q → Hold A → q ≡ 0
zero_of A q h a = skip (λ n. n) (λ r. r ≡ 0) A q a h

pub hold_of : (A : Tests) (q : ℕ) → some A ≡ true → Number A q → q ≡ 0 → Hold A
hold_of [] q m h e = tt
hold_of (t ∷ A) q m (inl h) e = (h.0, hold_of A q (both_held (not (eqb t.0 0)) (some A) m).1 h.1 e)
hold_of (t ∷ A) q m (inr h) e =
    absurd (eqb-false t.0 0 (not-true _ (both_held (not (eqb t.0 0)) (some A) m).0) (sym h.1 ∙ e))

-- a chain in which some test fails
pub fails : {R : Type 0} (refused : ℕ → R) (A : Tests) (q : ℕ) (r : R) → some A ≡ true → Number A q → Refused refused A (λ x. ⊥) r → (q ≢ 0) × (r ≡ refused q)
fails refused [] q r m h k = absurd k
fails refused (t ∷ A) q r m (inl h) (inl k) = fails refused A q r (both_held (not (eqb t.0 0)) (some A) m).1 h.1 k.1
fails refused (t ∷ A) q r m (inl h) (inr k) = absurd (k.0 h.0)
fails refused (t ∷ A) q r m (inr h) (inl k) = absurd (h.0 k.0)
fails refused (t ∷ A) q r m (inr h) (inr k) = (λ z. eqb-false t.0 0 (not-true _ (both_held (not (eqb t.0 0)) (some A) m).0) (sym h.1 ∙ z), k.1 ∙ ap refused (sym h.1))

pub failing : {R : Type 0} (refused : ℕ → R) (A : Tests) (q : ℕ) → some A ≡ true → Number A q → q ≢ 0 → Refused refused A (λ x. ⊥) (refused q)
failing refused A q m h n = carry refused refused (λ x. ⊥) A q (made refused refused A (λ k. refl) m) h (λ a. n (zero_of A q h a))

-- a test fails, and all before it hold; numbers of its own
module _ (A B : Tests) (n : ℕ) (P : Type 0) where
  pub at_fails : Hold A → (P → ⊥) → Refused (λ x. x) (A ++ ((n, P) ∷ B)) (λ x. ⊥) n
  at_fails h k = join (λ x. x) (λ x. ⊥) A ((n, P) ∷ B) n (held (λ x. x) (Refused (λ x. x) ((n, P) ∷ B) (λ x. ⊥)) A n h (inr (k, refl)))

  pub fails_at : Others (λ x. x) A n → Refused (λ x. x) (A ++ ((n, P) ∷ B)) (λ x. ⊥) n → Hold A
  fails_at o h = (others (λ x. x) (Refused (λ x. x) ((n, P) ∷ B) (λ x. ⊥)) A n o (split (λ x. x) (λ x. ⊥) A ((n, P) ∷ B) n h)).0

-- ---- answers

-- an answer that is a refusal of the whole, or what was asked for
pub answers : {X R : Type 0} (refusal : X → R) (bare : ℕ → X) (refused : ℕ → R) (Else : R → Type 0) (A : Tests) (q : ℕ) (x : X) → ((r : ℕ) → refusal (bare r) ≡ refused r) → some A ≡ true → Number A q → (Hold A → Else (refusal x)) → Refused refused A Else (refusal (answer q bare x))
answers refusal bare refused Else A q x e m h k =
    carry refused (λ n. refusal (answer n bare x)) Else A q (made refused (λ n. refusal (answer n bare x)) A (λ n. e (suc n)) m) h k

-- whether f holds of all of a list
abbrev pub all : (ℕ → Bool) → List ℕ → Bool
all f [] = true
all f (a ∷ A) = f a && all f A

-- the numbers of a chain
abbrev pub numbers_of : Tests → List ℕ
numbers_of [] = []
numbers_of (t ∷ A) = t.0 ∷ numbers_of A

pub one-listed : (A : Tests) (q : ℕ) → Number A q → OneOf (numbers_of A) q
unfolding is_in
one-listed [] q h = nought h
one-listed (t ∷ A) q (inl h) = go (one-listed A q h.1)
  where
    go : OneOf (numbers_of A) q → OneOf (t.0 ∷ numbers_of A) q
    go (nought e) = nought e
    go (listed e) = listed (or_right (eqb q t.0) (is_in q (numbers_of A)) e)
one-listed (t ∷ A) q (inr h) = listed (rw (eq-eqb q t.0 h.1))

-- ---- tests that are computed

pub le : (a b : ℕ) → (leb a b ≡ true) ↔ (a ≤ b)
le a b = (leb-true a b, le-leb a b)

pub lt : (a b : ℕ) → (ltb a b ≡ true) ↔ (a < b)
lt a b = (ltb-true a b, lt-ltb a b)

pub eq : (a b : ℕ) → (eqb a b ≡ true) ↔ (a ≡ b)
eq a b = (eqb-true a b, eq-eqb a b)

pub ne : (a b : ℕ) → (not (eqb a b) ≡ true) ↔ (a ≢ b)
ne a b = (λ e. eqb-false a b (not-true _ e), λ n. ap not (ne_eqb a b n))

pub both : {P Q : Type 0} (t u : Bool) → (t ≡ true) ↔ P → (u ≡ true) ↔ Q → ((t && u) ≡ true) ↔ (P × Q)
both t u e f = (λ h. let w = both_held t u h in (e.0 w.0, f.0 w.1), λ p. go t u (e.1 p.0) (f.1 p.1))
  where
    go : (t u : Bool) → t ≡ true → u ≡ true → (t && u) ≡ true
    go t u h k = rw (h, k)

-- ---- numbers of a chain

-- a number that a chain fails with is one of its own
pub fails_in : (A : Tests) (n : ℕ) → Refused (λ x. x) A (λ x. ⊥) n → is_in n (numbers_of A) ≡ true
unfolding is_in
fails_in [] n h = absurd h
fails_in (t ∷ A) n (inl h) = or_right (eqb n t.0) (is_in n (numbers_of A)) (fails_in A n h.1)
fails_in (t ∷ A) n (inr h) = rw (eq-eqb n t.0 h.1)
