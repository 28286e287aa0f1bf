-- Demand 2, proved: what picking gives.
use Prim.Native.Nat.{ℕ, ◌/◌, ◌<◌}
use mathlib.Core.Path.{◌≡◌, refl, sym, ap, ◌∙◌}
use mathlib.Core.Logic.{◌≢◌, ◌⊎◌, inl, inr}
use mathlib.Core.Bool.{Bool, true, false}
use mathlib.Core.List.{List, [], ◌∷◌}
use native.Mathlib.Omega.{arith}
use lib.Dec.{eqb}
use lib.ListN.{length}
use Rattle.refusals.specs.Refusals.{Refusal, none}
use Rattle.refusals.proofs.ChainLaws.{or_else_zero}
use Rattle.room.specs.declared.Shape.{Shape}
use Rattle.room.specs.Shapes.{Ends}
use Rattle.links.specs.Table.{room_refusal, TableOf}
use Rattle.links.proofs.TableLaws.{room_of, room-none}
use Rattle.verdict.specs.Checks.{check_answer}
use Rattle.verdict.proofs.AcceptLaws.{of_accepted}
use Rattle.pick.specs.Picks.{usable, Source, in_fresh, in_kept, nowhere, lists_refusal, pick_source, pick_refusal, pick_answer, array_at, picked_bytes, picked_at}
use Rattle.pick.specs.Chosen.{FirstUsable, NoneUsable, Chosen}
use Rattle.pick.specs.Places.{place_of, place_answer}
use Rattle.pick.proofs.LengthLaws.{lists_room}
use Rattle.pick.proofs.UsableLaws.{usable_accepted, array_long, clash}
use Rattle.pick.proofs.Promises.{source_chosen, sixteen-exactly}
use Rattle.demands.specs.Tests.{◌then◌}
use Rattle.demands.specs.Refusals.{room_tests, Arrays}
use Rattle.demands.proofs.Chains.{back, hold_both, zero_of, hold_of}
use Rattle.demands.proofs.Numbers.{room-number, lists_number}
use Rattle.demands.specs.Demand2.{FirstTaken, NoneTaken, PicksAt, PicksFirst, NonePickedExactly}

-- usable is what checking takes as a list of one

takes-usable : (s : Shape) (t : List ℕ) (a d : ℕ) (bs : List ℕ) → check_answer s t a d bs ≡ none → usable s t a d bs ≡ true
unfolding usable
takes-usable s t a d bs e = ap (λ (r : Refusal). eqb r.number 0) e

not_taken : (s : Shape) (t : List ℕ) (a d : ℕ) (bs : List ℕ) → usable s t a d bs ≡ false → check_answer s t a d bs ≢ none
not_taken s t a d bs u e = clash _ (takes-usable s t a d bs e) u

module _ (s : Shape) (t : List ℕ) (a d : ℕ) (room : room_refusal s t a d ≡ 0) where
  usable-taken : (bs : List ℕ) → length bs ≡ 8 → usable s t a d bs ≡ true → check_answer s t a d bs ≡ none
  usable-taken bs l u = of_accepted s t a d bs room (usable_accepted s t a d bs room l u)

  first_taken : (bs : List ℕ) (i : ℕ) → FirstUsable s t a d bs i → FirstTaken s t a d bs i
  first_taken bs i h =
      record {
        within = h.within;
        here = usable-taken (array_at i bs) (array_long i bs h.within) h.here;
        before = λ j p. not_taken s t a d (array_at j bs) (h.before j p);
      }

  none-usable : (bs : List ℕ) → NoneTaken s t a d bs → NoneUsable s t a d bs
  none-usable bs h = record { each = λ j p. unusable j p (usable s t a d (array_at j bs)) refl }
    where
      unusable : (j : ℕ) → j < length bs / 8 → (b : Bool) → usable s t a d (array_at j bs) ≡ b → usable s t a d (array_at j bs) ≡ false
      unusable j p true e = absurd (h j p (usable-taken (array_at j bs) (array_long j bs p) e))
      unusable j p false e = e

none-taken : (s : Shape) (t : List ℕ) (a d : ℕ) (bs : List ℕ) → NoneUsable s t a d bs → NoneTaken s t a d bs
none-taken s t a d bs h j p = not_taken s t a d (array_at j bs) (h.each j p)

-- refusals 1, 2, 26 and 3 to 7 do not apply exactly when the ends, the table and the lists are as they have to be
module _ (s : Shape) (t : List ℕ) (a d : ℕ) (fs ks : List ℕ) where
  lists_of : lists_refusal s t a d fs ks ≡ 0 → Ends s a d × TableOf s t × (Arrays s fs × Arrays s ks)
  lists_of z =
      let k = room_of s t a d (lists_room s t a d fs ks (sym z)) in
      let h = hold_of (room_tests s t a d then (7, Arrays s fs × Arrays s ks)) (lists_refusal s t a d fs ks) refl (lists_number s t a d fs ks) z in
      (k.0, k.1, (back (room_tests s t a d) ((7, Arrays s fs × Arrays s ks) ∷ []) h).0)

  lists_none : Ends s a d → TableOf s t → Arrays s fs × Arrays s ks → lists_refusal s t a d fs ks ≡ 0
  lists_none e h p =
      let given = hold_of (room_tests s t a d) (room_refusal s t a d) refl (room-number s t a d) (sym (room-none e h)) in
      zero_of (room_tests s t a d then (7, Arrays s fs × Arrays s ks)) (lists_refusal s t a d fs ks) (lists_number s t a d fs ks)
      (hold_both (room_tests s t a d) ((7, Arrays s fs × Arrays s ks) ∷ []) given (p, tt))

pub none_picked_exactly : NonePickedExactly
unfolding pick_answer
none_picked_exactly s t a d fs ks =
    let x = sixteen-exactly s t a d fs ks in (
      λ e. let p = x.0 e in
          let l = lists_of s t a d fs ks p.0 in
          (l.0, l.1, l.2, (none-taken s t a d fs p.1.0, none-taken s t a d ks p.1.1)),
      λ p. let l = lists_none s t a d fs ks p.0 p.1 p.2 in
          let r = lists_room s t a d fs ks (sym l) in
          x.1 (l, (none-usable s t a d r fs p.3.0, none-usable s t a d r ks p.3.1)),
    )

pub picks_first : PicksFirst
unfolding pick_answer pick_refusal place_answer
picks_first s t a d fs ks z = from (pick_source s t a d fs ks) refl (source_chosen s t a d fs ks lists)
  where
    lists : lists_refusal s t a d fs ks ≡ 0
    lists = (or_else_zero (lists_refusal s t a d fs ks) _ z).0

    room : room_refusal s t a d ≡ 0
    room = lists_room s t a d fs ks (sym lists)

    from : (x : Source) → pick_source s t a d fs ks ≡ x → Chosen s t a d fs ks x → ((i : ℕ) × PicksAt s t a d fs ks 1 fs (λ p q. p) i) ⊎ (NoneTaken s t a d fs × ((i : ℕ) × PicksAt s t a d fs ks 2 ks (λ p q. q) i))
    from (in_fresh i) e c =
        inl (i, record { first = first_taken s t a d room fs i c; bytes = ap (λ (x : Source). picked_bytes x fs ks) e; told = ap (place_of _) e; lies = λ p q. ap (λ (x : Source). picked_at x p q) e })
    from (in_kept i) e c =
        inr (none-taken s t a d fs c.0, (i, record { first = first_taken s t a d room ks i c.1; bytes = ap (λ (x : Source). picked_bytes x fs ks) e; told = ap (place_of _) e; lies = λ p q. ap (λ (x : Source). picked_at x p q) e }))
    from nowhere e c = let y : ◌≡◌ {A = ℕ} 16 0 = sym ((sixteen-exactly s t a d fs ks).1 (lists, c)) ∙ z in let n : ⊥ = omega arith in absurd n
