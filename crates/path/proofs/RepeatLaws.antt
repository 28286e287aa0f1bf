-- Laws of what comes on a route again: 28 and 29, and the earlier hop that each names.
use Prim.Native.Nat.{ℕ, zero, suc, ◌+◌, ◌≤◌, ◌<◌}
use mathlib.Core.Path.{◌≡◌, refl, sym, ap, ◌∙◌}
use mathlib.Core.Logic.{◌≢◌}
use mathlib.Core.Bool.{Bool, true, false, not, cond, ◌||◌, or-false}
use mathlib.Core.List.{List, [], ◌∷◌, ◌++◌}
use native.Mathlib.Omega.{arith}
use lib.ListN.{length, get_or}
use lib.Dec.{eqb}
use borrow.Author.Tests.{ne_eqb, not-true}
use Rattle.std.specs.Prelude.{Option, Some, None, MatchOption}
use Rattle.std.specs.Option.{unwrap_or}
use Rattle.lists.specs.Lists.{is_in, place_in}
use Rattle.lists.proofs.ListLaws.{in_snoc}
use Rattle.lists.proofs.FirstPlaces.{passed_here, passed-all, place-most, place_found, place-missing, place_snoc}
use Rattle.refusals.specs.Refusals.{Refusal}
use Rattle.refusals.specs.Refusals.{refused_at, with_earlier, ◌or_else◌, ◌unless◌, OneOf}
use Rattle.refusals.proofs.AnswerLaws.{answer-refused, answer-number, answered}
use Rattle.refusals.proofs.ChainLaws.{or_else_zero, test_held}
use Rattle.refusals.proofs.NumberLaws.{test_one, chain_one}
use Rattle.path.specs.Walks.{again, again_numbers, earlier_of, stops_at}
use Rattle.path.specs.Told.{Tried}
use Rattle.path.specs.Inside.{no_try, adds, added, newly}

-- the first place of x in a list, or none where it is not there
pub place-of : (x : ℕ) (xs : List ℕ) (p : Option ℕ) → MatchOption p ((j : ℕ) → j < length xs → get_or xs j 0 ≢ x) (λ i. (i < length xs) × (get_or xs i 0 ≡ x) × ((j : ℕ) → j < i → get_or xs j 0 ≢ x)) → unwrap_or p (length xs) ≡ place_in x xs
place-of x xs None h = passed-all x xs (length xs) (record { within = omega arith; not_yet = h }) (omega arith)
place-of x xs (Some i) h = passed_here x xs i (record { within = omega (arith, h.0); not_yet = h.2 }) h.0 h.1

module _ (met used : List ℕ) (b w : ℕ) where
  pub again-none : again met used b w ≡ 0 → (is_in b met ≡ false) × (is_in w used ≡ false)
  unfolding again
  again-none e =
      let p = or_else_zero (28 unless not (is_in b met)) (29 unless not (is_in w used)) e in
      (not-true _ (test_held _ 27 p.0), not-true _ (test_held _ 28 p.1))

  pub again-new : is_in b met ≡ false → is_in w used ≡ false → again met used b w ≡ 0
  unfolding again ◌or_else◌
  again-new e f = rw (e, f)

  pub again-server : is_in b met ≡ true → again met used b w ≡ 28
  unfolding again ◌or_else◌
  again-server e = rw e

  pub again-switch : is_in b met ≡ false → is_in w used ≡ true → again met used b w ≡ 29
  unfolding again ◌or_else◌
  again-switch e f = rw (e, f)

  -- and what each says
  pub again-met : again met used b w ≡ 28 → is_in b met ≡ true
  again-met e = go (is_in b met) (is_in w used) refl refl
    where
      go : (x y : Bool) → is_in b met ≡ x → is_in w used ≡ y → is_in b met ≡ true
      go true y h k = h
      go false true h k = let z : ◌≡◌ {A = ℕ} 29 28 = sym (again-switch h k) ∙ e in absurd (let n : ⊥ = omega arith in n)
      go false false h k = let z : ◌≡◌ {A = ℕ} 0 28 = sym (again-new h k) ∙ e in absurd (let n : ⊥ = omega arith in n)

  pub again_used : again met used b w ≡ 29 → is_in w used ≡ true
  again_used e = go (is_in b met) (is_in w used) refl refl
    where
      go : (x y : Bool) → is_in b met ≡ x → is_in w used ≡ y → is_in w used ≡ true
      go true y h k = let z : ◌≡◌ {A = ℕ} 28 29 = sym (again-server h) ∙ e in absurd (let n : ⊥ = omega arith in n)
      go false true h k = k
      go false false h k = let z : ◌≡◌ {A = ℕ} 0 29 = sym (again-new h k) ∙ e in absurd (let n : ⊥ = omega arith in n)

  -- a chain that ends with it gives 28 or 29 by it alone
  pub again_last : (p n : ℕ) → p ≢ n → p or_else again met used b w ≡ n → again met used b w ≡ n
  unfolding ◌or_else◌
  again_last zero n m e = e
  again_last (suc p) n m e = absurd (m e)

  pub again-one : OneOf again_numbers (again met used b w)
  unfolding again
  again-one = chain_one _ _ (test_one 28 (not (is_in b met))) (test_one 29 (not (is_in w used)))

  -- the earlier hop
  pub earlier-server : earlier_of 28 met used b w ≡ place_in b met
  unfolding earlier_of
  earlier-server = refl

  pub earlier-switch : earlier_of 29 met used b w ≡ suc (place_in w used)
  unfolding earlier_of
  earlier-switch = refl

  pub earlier-none : (r : ℕ) → r ≢ 28 → r ≢ 29 → earlier_of r met used b w ≡ 0
  unfolding earlier_of
  earlier-none r n m = rw (ne_eqb r 28 n, ne_eqb r 29 m)

  pub earlier-most : (r m : ℕ) → length met ≤ m → length used < m → earlier_of r met used b w ≤ m
  unfolding earlier_of
  earlier-most r m h k = go (eqb r 28) (eqb r 29)
    where
      go : (x y : Bool) → cond x (place_in b met) (cond y (suc (place_in w used)) 0) ≤ m
      go true y = omega (arith, place-most b met)
      go false true = omega (arith, place-most w used)
      go false false = omega arith

  -- ---- what a hop adds

  newly-server : is_in b met ≡ true → newly met used b w ≡ no_try (place_in b met) 28
  unfolding newly
  newly-server e = rw (again-server e) (ap (λ (x : ℕ). no_try x 28) earlier-server)

  newly-switch : is_in b met ≡ false → is_in w used ≡ true → newly met used b w ≡ no_try (suc (place_in w used)) 29
  unfolding newly
  newly-switch e f = rw (again-switch e f) (ap (λ (x : ℕ). no_try x 29) earlier-switch)

  newly-new : is_in b met ≡ false → is_in w used ≡ false → newly met used b w ≡ adds w
  unfolding newly
  newly-new e f = rw (again-new e f)

  -- p is the place of the server among those met, and q that of the switch among those used
  module _ (p : ℕ) (e : p ≡ place_in b met) where
    pub server_again : p < length met → (r : Tried) → r ≡ no_try p 28 → r ≡ newly met used b w
    server_again h r k = k ∙ sym (newly-server (place_found b met (rw (← e) h)) ∙ ap (λ (x : ℕ). no_try x 28) (sym e))

    module _ (h : length met ≤ p) (q : ℕ) (f : q ≡ place_in w used) where
      new : is_in b met ≡ false
      new = place-missing b met (rw (← e) h)

      pub switch_again : q < length used → (r : Tried) → r ≡ no_try (q + 1) 29 → r ≡ newly met used b w
      switch_again g r k =
          let n : suc (place_in w used) ≡ q + 1 = omega arith in
          k ∙ sym (newly-switch new (place_found w used (rw (← f) g)) ∙ ap (λ (x : ℕ). no_try x 29) n)

      pub both_new : length used ≤ q → adds w ≡ newly met used b w
      both_new g = sym (newly-new new (place-missing w used (rw (← f) g)))

-- a server that the hop does not lead to makes no difference, where it comes last
pub newly_snoc : (met used : List ℕ) (b w a : ℕ) → b ≢ a → newly met used b w ≡ newly (met ++ (a ∷ [])) used b w
newly_snoc met used b w a n = go (is_in b met) (is_in w used) refl refl
  where
    on : List ℕ
    on = met ++ (a ∷ [])

    same : is_in b on ≡ is_in b met
    same = in_snoc b met a ∙ ap (λ (x : Bool). is_in b met || x) (ne_eqb b a n) ∙ or-false (is_in b met)

    go : (x y : Bool) → is_in b met ≡ x → is_in w used ≡ y → newly met used b w ≡ newly on used b w
    go true y e f = newly-server met used b w e ∙ sym (newly-server on used b w (same ∙ e) ∙ ap (λ (z : ℕ). no_try z 28) (place_snoc b met a e))
    go false true e f = newly-switch met used b w e f ∙ sym (newly-switch on used b w (same ∙ e) f)
    go false false e f = newly-new met used b w e f ∙ sym (newly-new on used b w (same ∙ e) f)

-- x is what was found of a hop to server b over switch w, which r refuses
module _ (r : ℕ) (met used : List ℕ) (b w : ℕ) (x : Tried) (e : x ≡ added r met used b w) where
  pub added-number : x.number ≡ r
  added-number = ap (λ (y : Tried). y.number) e ∙ answer-number (λ (y : Tried). y.number) (λ n. no_try (earlier_of n met used b w) n) (λ n. refl) r (adds w) refl

  pub added-switch : x.number ≡ 0 → x.switch ≡ w
  added-switch z =
      ap (λ (y : Tried). y.switch) (answered (λ (y : Tried). y.number) (λ n. no_try (earlier_of n met used b w) n) (λ n. refl) r x (adds w) e z).1

  module _ (z : x.number ≢ 0) where
    stopped_by : x ≡ no_try (earlier_of r met used b w) r
    stopped_by = e ∙ sym (answer-refused r r (λ i. no_try (earlier_of i met used b w) i) _ (adds w) refl refl (λ q. z (added-number ∙ q)))

    pub added-earlier : x.earlier ≡ earlier_of r met used b w
    added-earlier = ap (λ (i : Tried). i.earlier) stopped_by

    -- as refusal n at hop h, with the earlier hop beside it
    pub added-refusal : (h : ℕ) (n : Refusal) → n ≡ refused_at x.number 1 h → (m : Refusal) → m ≡ with_earlier 0 x.earlier n → m ≡ stops_at r h met used b w
    added-refusal h n f m k = k ∙ ap (with_earlier 0 x.earlier) f ∙ ap (λ (i : Tried). with_earlier 0 i.earlier (refused_at i.number 1 h)) stopped_by
