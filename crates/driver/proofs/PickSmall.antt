-- The answer of picking fits the result word.
use Prim.Native.Nat.{ℕ, ◌+◌, ◌*◌, ◌%◌, ◌≤◌}
use native.Mathlib.Omega.{arith}
use native.Mathlib.Decide.{ℕ_discrete}
use mathlib.Core.Path.{◌≡◌, refl, sym, subst}
use mathlib.Core.List.{List}
use lib.Dec.{leb, eqb}
use lib.ListN.{length}
use borrow.Author.Tests.{leb-true}
use Rattle.lists.proofs.ListLaws.{both_held}
use Rattle.refusals.proofs.ChainLaws.{or_else_zero, test_held}
use Rattle.refusals.proofs.NumberLaws.{one_le}
use Rattle.room.specs.declared.Shape.{Shape}
use Rattle.room.specs.Refusals.{ends_refusal}
use Rattle.room.proofs.RefusalLaws.{ends_of}
use Rattle.links.specs.Table.{table_refusal, room_refusal}
use Rattle.pick.specs.Told.{Place}
use Rattle.pick.specs.Picks.{fits, lists_refusal, Source, in_fresh, in_kept, nowhere, pick_source, pick_refusal}
use Rattle.pick.specs.Chosen.{Chosen}
use Rattle.pick.specs.Places.{place_of, place_answer}
use Rattle.pick.proofs.PickLaws.{from-refused}
use Rattle.pick.proofs.NumberLaws.{pick-numbers}
use Rattle.pick.proofs.Promises.{source_chosen}
use Rattle.driver.specs.Words.{Small}
use Rattle.driver.proofs.WordLaws.{none-small, plain-small}

module _ (s : Shape) (t : List ℕ) (a d : ℕ) (fs ks : List ℕ) where
  -- lists that are not refused have at most four arrays
  lists_short : lists_refusal s t a d fs ks ≡ 0 → (length fs ≤ 32) × (length ks ≤ 32)
  unfolding lists_refusal room_refusal fits
  lists_short z =
      let p = or_else_zero (room_refusal s t a d) _ z in
      let e = ends_of s a d (or_else_zero (ends_refusal s a d) (table_refusal s t) p.0).0 in
      let q = both_held (fits s (length fs)) (fits s (length ks)) (test_held _ 6 p.1) in
      let f = leb-true (length fs) (8 * (s.k + 1)) (both_held (eqb (length fs % 8) 0) (leb (length fs) (8 * (s.k + 1))) q.0).1 in
      let g = leb-true (length ks) (8 * (s.k + 1)) (both_held (eqb (length ks % 8) 0) (leb (length ks) (8 * (s.k + 1))) q.1).1 in
      (omega (arith, e.source.valid.levels, f), omega (arith, e.source.valid.levels, g))

  place_of-small : (r : ℕ) → r ≤ 255 → (x : Source) → Chosen s t a d fs ks x → (length fs ≤ 32) × (length ks ≤ 32) → Small (place_of r x).refusal (256 * (place_of r x).list + (place_of r x).route)
  place_of-small r h (in_fresh i) c l = let w = c.within in none-small (256 * 1 + (i + 1)) (omega (arith, l.0))
  place_of-small r h (in_kept i) c l = let w = c.1.within in none-small (256 * 2 + (i + 1)) (omega (arith, l.1))
  place_of-small r h nowhere c l = plain-small r h

  place-answer-small : Small (place_answer s t a d fs ks).refusal (256 * (place_answer s t a d fs ks).list + (place_answer s t a d fs ks).route)
  unfolding place_answer
  place-answer-small =
      elim (ℕ_discrete (lists_refusal s t a d fs ks) 0) [
        | yes z ↦ place_of-small (pick_refusal s t a d fs ks) (one_le 255 refl (pick-numbers s t a d fs ks)) (pick_source s t a d fs ks) (source_chosen s t a d fs ks z) (lists_short z)
        | no n ↦
            subst (λ (x : Source). Small (place_of (pick_refusal s t a d fs ks) x).refusal (256 * (place_of (pick_refusal s t a d fs ks) x).list + (place_of (pick_refusal s t a d fs ks) x).route))
            (from-refused s t a d fs ks (lists_refusal s t a d fs ks) refl n)
            (plain-small (pick_refusal s t a d fs ks) (one_le 255 refl (pick-numbers s t a d fs ks)))
      ]

  pub pick_small : (x : Place) → x ≡ place_answer s t a d fs ks → Small x.refusal (256 * x.list + x.route)
  pick_small x e = subst (λ (y : Place). Small y.refusal (256 * y.list + y.route)) (sym e) place-answer-small
