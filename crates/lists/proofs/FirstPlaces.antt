-- Laws of first places: the first at which a test holds, and the first of an element in a list.
use Prim.Native.Nat.{ℕ, zero, suc, ◌+◌, ◌≤◌, ◌<◌, zero-le, suc-le-suc}
use mathlib.Core.Path.{◌≡◌, refl, sym, ap, ◌∙◌, subst}
use mathlib.Core.Logic.{◌≢◌}
use mathlib.Core.Bool.{Bool, true, false, cond}
use mathlib.Core.List.{List, [], ◌∷◌, ◌++◌}
use native.Mathlib.Nat.{le_of_suc-le-suc}
use native.Mathlib.Omega.{arith}
use native.Mathlib.Decide.{dec_lt}
use lib.Dec.{eqb}
use lib.ListN.{length, get_or}
use borrow.Author.Tests.{eq-eqb, ne_eqb, eqb-true, eqb-false}
use Rattle.lists.specs.Lists.{is_in, Once, first_where, place_in}
use Rattle.lists.proofs.ListLaws.{in_among, at_in, missing_in, snoc_at, length_snoc}

-- what holds of all before i, and of i, holds of all before i + 1
pub all_on : (P : ℕ → Type 0) (i : ℕ) → ((j : ℕ) → j < i → P j) → P i → (j : ℕ) → j < i + 1 → P j
all_on P i f h j p = elim (dec_lt j i) [ yes y ↦ f j y | no y ↦ (let q : i ≡ j = omega arith in subst P q h) ]

-- ---- the first at which a test holds

pub where_most : (f : ℕ → Bool) (m : ℕ) → first_where f m ≤ m
unfolding first_where
where_most f zero = zero-le
where_most f (suc m) = go (f 0) (where_most (λ i. f (suc i)) m)
  where
    go : (b : Bool) {n : ℕ} → n ≤ m → cond b 0 (suc n) ≤ suc m
    go true h = zero-le
    go false h = suc-le-suc h

-- it holds there, where it holds at all
pub where_holds : (f : ℕ → Bool) (m : ℕ) → first_where f m < m → f (first_where f m) ≡ true
unfolding first_where
where_holds f zero h = let z : ⊥ = omega arith in absurd z
where_holds f (suc m) h = go (f 0) refl (where_holds (λ i. f (suc i)) m) h
  where
    go : (b : Bool) {n : ℕ} → f 0 ≡ b → (n < m → f (suc n) ≡ true) → cond b 0 (suc n) < suc m → f (cond b 0 (suc n)) ≡ true
    go true e k q = e
    go false e k q = k (le_of_suc-le-suc q)

-- and at none before
pub where_before : (f : ℕ → Bool) (m i : ℕ) → i < first_where f m → f i ≡ false
unfolding first_where
where_before f zero i h = let z : ⊥ = omega arith in absurd z
where_before f (suc m) i h = go (f 0) refl (where_before (λ j. f (suc j)) m) i h
  where
    go : (b : Bool) {n : ℕ} → f 0 ≡ b → ((j : ℕ) → j < n → f (suc j) ≡ false) → (j : ℕ) → j < cond b 0 (suc n) → f j ≡ false
    go true e k j q = let z : ⊥ = omega arith in absurd z
    go false e k zero q = e
    go false e k (suc j) q = k j (le_of_suc-le-suc q)

-- there is no other such place
pub where_is : (f : ℕ → Bool) (m i : ℕ) → i ≤ m → ((j : ℕ) → j < i → f j ≡ false) → (i < m → f i ≡ true) → first_where f m ≡ i
unfolding first_where
where_is f zero i h before here = omega arith
where_is f (suc m) zero h before here = rw (here (suc-le-suc zero-le))
where_is f (suc m) (suc i) h before here =
    rw (before 0 (suc-le-suc zero-le))
    (ap suc (where_is (λ j. f (suc j)) m i (le_of_suc-le-suc h) (λ j p. before (suc j) (suc-le-suc p)) (λ p. here (suc-le-suc p))))

-- two tests that are the same
pub where_same : (f g : ℕ → Bool) (m : ℕ) → ((j : ℕ) → j < m → f j ≡ g j) → first_where f m ≡ first_where g m
where_same f g m e =
    where_is f m (first_where g m) (where_most g m)
    (λ j p. e j (omega (arith, where_most g m)) ∙ where_before g m j p)
    (λ p. e (first_where g m) p ∙ where_holds g m p)

-- ---- the first place of an element

module _ (x : ℕ) (xs : List ℕ) where
  pub place-most : place_in x xs ≤ length xs
  unfolding place_in
  place-most = where_most _ (length xs)

  -- it is there
  pub place-there : place_in x xs < length xs → get_or xs (place_in x xs) 0 ≡ x
  unfolding place_in
  place-there h = sym (eqb-true x _ (where_holds (λ i. eqb x (get_or xs i 0)) (length xs) h))

  -- and at no place before
  pub place-before : (i : ℕ) → i < place_in x xs → get_or xs i 0 ≢ x
  unfolding place_in
  place-before i h e = eqb-false x _ (where_before (λ j. eqb x (get_or xs j 0)) (length xs) i h) (sym e)

  -- the first i places do not hold it
  pub record Passed (i : ℕ) : Type 0 where
    pub within : i ≤ length xs
    pub not_yet : (j : ℕ) → j < i → get_or xs j 0 ≢ x

  pub passed_none : Passed 0
  passed_none = record { within = zero-le; not_yet = λ j p. absurd (let z : ⊥ = omega arith in z) }

  pub passed_on : (i : ℕ) → Passed i → i < length xs → (get_or xs i 0 ≡ x → ⊥) → Passed (i + 1)
  passed_on i g h n = record { within = omega arith; not_yet = all_on (λ j. get_or xs j 0 ≢ x) i g.not_yet n }

  pub passed_here : (i : ℕ) → Passed i → i < length xs → get_or xs i 0 ≡ x → i ≡ place_in x xs
  unfolding place_in
  passed_here i g h e =
      sym (where_is (λ j. eqb x (get_or xs j 0)) (length xs) i g.within (λ j p. ne_eqb x _ (λ q. g.not_yet j p (sym q))) (λ p. eq-eqb x _ (sym e)))

  pub passed-all : (i : ℕ) → Passed i → length xs ≤ i → i ≡ place_in x xs
  unfolding place_in
  passed-all i g h =
      sym (where_is (λ j. eqb x (get_or xs j 0)) (length xs) i g.within (λ j p. ne_eqb x _ (λ q. g.not_yet j p (sym q))) (λ p. absurd (let z : ⊥ = omega arith in z)))

  -- it is in the list exactly where it has a place there
  pub place_found : place_in x xs < length xs → is_in x xs ≡ true
  place_found h = at_in x xs (place_in x xs) h (place-there h)

  pub place-missing : length xs ≤ place_in x xs → is_in x xs ≡ false
  place-missing h = missing_in x xs (record { not_at = λ i p. place-before i (omega arith) })

  pub place-in : is_in x xs ≡ true → place_in x xs < length xs
  place-in e =
      let a = in_among x xs e in
      elim (dec_lt (place_in x xs) (length xs)) [
        | yes y ↦ y
        | no n ↦ absurd (place-before a.place (omega (arith, a.inside)) a.there)
      ]

  -- where nothing stands twice, every place of it is the first
  pub place-once : Once xs → (i : ℕ) → i < length xs → get_or xs i 0 ≡ x → i ≡ place_in x xs
  place-once h i p e =
      passed_here i (record { within = omega arith; not_yet = λ j q k. h.apart j i q p (k ∙ sym e) }) p e

  -- a list with one more keeps the places that it had
  pub place_snoc : (y : ℕ) → is_in x xs ≡ true → place_in x (xs ++ (y ∷ [])) ≡ place_in x xs
  unfolding place_in
  place_snoc y e =
      let p = place-in e in
      let l = length_snoc xs y in
      where_is (λ j. eqb x (get_or (xs ++ (y ∷ [])) j 0)) (length (xs ++ (y ∷ []))) (place_in x xs) (omega arith)
      (λ j q. let k : j < length xs = omega (arith, place-most) in rw (snoc_at xs y j k) (ne_eqb x _ (λ w. place-before j q (sym w))))
      (λ q. rw (snoc_at xs y (place_in x xs) p) (eq-eqb x _ (sym (place-there p))))
