-- What picking answers: one law for each way through the code.
use Prim.Native.Nat.{ℕ, zero, suc, ◌+◌, ◌/◌, ◌≤◌, ◌<◌}
use mathlib.Core.Path.{◌≡◌, refl, ap, ◌∙◌}
use mathlib.Core.List.{List}
use lib.ListN.{length}
use borrow.Author.Tests.{lt-ltb, le-ltb}
use Rattle.std.specs.Prelude.{Some, None, position}
use Rattle.refusals.specs.Refusals.{plain, ◌or_else◌, answer}
use Rattle.refusals.proofs.AnswerLaws.{answer-refused, answer-given}
use Rattle.room.specs.declared.Shape.{Shape}
use Rattle.verdict.specs.Checks.{arrays}
use Rattle.pick.specs.Picks.{usable, first_usable_in, Source, in_fresh, in_kept, nowhere, found, lists_refusal, pick_source, missing, pick_refusal, pick_answer, picked_bytes, picked_at}
use Rattle.pick.specs.Told.{Place}
use Rattle.pick.specs.Places.{no_place, a_place, place_of, place_answer}
use Rattle.pick.proofs.UsableLaws.{position-some, position-none}

module _ (s : Shape) (t : List ℕ) (a d : ℕ) (fs ks : List ℕ) where
  -- ---- where the code is when it returns: refused, found in one list, found in none

  pub from-refused : (r : ℕ) → r ≡ lists_refusal s t a d fs ks → (r ≡ 0 → ⊥) → nowhere ≡ pick_source s t a d fs ks
  unfolding pick_source
  from-refused r e n = answer-refused r _ (λ q. nowhere) nowhere _ refl e n

  pub from_found : (r : ℕ) → r ≡ lists_refusal s t a d fs ks → r ≡ 0 → found s t a d fs ks ≡ pick_source s t a d fs ks
  unfolding pick_source
  from_found r e z = answer-given r _ (λ q. nowhere) _ _ e z refl

  pub found-fresh : (i : ℕ) → i ≡ first_usable_in s t a d fs → i < length fs / 8 → in_fresh i ≡ found s t a d fs ks
  unfolding found
  found-fresh i e h = rw (← e, lt-ltb i (length fs / 8) h)

  pub found-kept : (i j : ℕ) → i ≡ first_usable_in s t a d fs → length fs / 8 ≤ i → j ≡ first_usable_in s t a d ks → j < length ks / 8 → in_kept j ≡ found s t a d fs ks
  unfolding found
  found-kept i j e h f g = rw (← e, le-ltb i (length fs / 8) h, ← f, lt-ltb j (length ks / 8) g)

  pub found_none : (i j : ℕ) → i ≡ first_usable_in s t a d fs → length fs / 8 ≤ i → j ≡ first_usable_in s t a d ks → length ks / 8 ≤ j → nowhere ≡ found s t a d fs ks
  unfolding found
  found_none i j e h f g = rw (← e, le-ltb i (length fs / 8) h, ← f, le-ltb j (length ks / 8) g)

  -- ---- the part that is returned, of lists that lie at p and q

  -- the bytes and the place of the part of a source
  abbrev pub Lies : ℕ × ℕ → ℕ × ℕ → List ℕ → ℕ × ℕ → Type 0
  Lies p q bs at = (bs ≡ picked_bytes (pick_source s t a d fs ks) fs ks) × (at ≡ picked_at (pick_source s t a d fs ks) p q)

  pub lies : (p q : ℕ × ℕ) (x : Source) → x ≡ pick_source s t a d fs ks → Lies p q (picked_bytes x fs ks) (picked_at x p q)
  lies p q x e = (ap (λ (y : Source). picked_bytes y fs ks) e, ap (λ (y : Source). picked_at y p q) e)

  -- ---- where the route stands, and what the companion question says

  -- the answer by its tests
  pub place-answered : answer (lists_refusal s t a d fs ks) no_place (place_of (missing (found s t a d fs ks)) (found s t a d fs ks)) ≡ place_answer s t a d fs ks
  unfolding place_answer pick_refusal pick_source ◌or_else◌
  place-answered = both (lists_refusal s t a d fs ks) (found s t a d fs ks)
    where
      both : (q : ℕ) (y : Source) → answer q no_place (place_of (missing y) y) ≡ place_of (q or_else missing y) (answer q (λ z. nowhere) y)
      both zero y = refl
      both (suc q) y = refl

  module _ (e : 0 ≡ lists_refusal s t a d fs ks) where
    -- the answer for a source that was found
    stands-found : (y : Source) → y ≡ found s t a d fs ks → place_of (missing y) y ≡ place_answer s t a d fs ks
    stands-found y f =
        answer-given 0 _ no_place _ _ e refl (ap (λ (z : Source). place_of (missing z) z) f) ∙ place-answered

    pub stands-fresh : (i : ℕ) → Some i ≡ position (usable s t a d) (arrays (length fs / 8) fs) → a_place 1 (i + 1) ≡ place_answer s t a d fs ks
    stands-fresh i f = let z = position-some s t a d fs i f in stands-found (in_fresh i) (found-fresh i z.0 z.1)

    module _ (n : None ≡ position (usable s t a d) (arrays (length fs / 8) fs)) where
      pub stands-kept : (i : ℕ) → Some i ≡ position (usable s t a d) (arrays (length ks / 8) ks) → a_place 2 (i + 1) ≡ place_answer s t a d fs ks
      stands-kept i f =
          let z = position-some s t a d ks i f in
          stands-found (in_kept i) (found-kept _ i refl (position-none s t a d fs n) z.0 z.1)

      pub stands-nowhere : None ≡ position (usable s t a d) (arrays (length ks / 8) ks) → no_place 16 ≡ place_answer s t a d fs ks
      stands-nowhere f =
          stands-found nowhere (found_none _ _ refl (position-none s t a d fs n) refl (position-none s t a d ks f))

  -- the refusal of a place is the companion's answer
  pub place-refusal : (place_answer s t a d fs ks).refusal ≡ pick_answer s t a d fs ks
  unfolding place_answer pick_answer pick_refusal pick_source ◌or_else◌
  place-refusal = both (lists_refusal s t a d fs ks) (found s t a d fs ks)
    where
      both : (q : ℕ) (y : Source) → (place_of (q or_else missing y) (answer q (λ z. nowhere) y)).refusal ≡ plain (q or_else missing y)
      both zero (in_fresh i) = refl
      both zero (in_kept i) = refl
      both zero nowhere = refl
      both (suc q) y = refl

  pub place-says : (x : Place) → x ≡ place_answer s t a d fs ks → x.refusal ≡ pick_answer s t a d fs ks
  place-says x e = ap (λ (y : Place). y.refusal) e ∙ place-refusal
