-- What a caller of picking may count on.
use Prim.Native.Nat.{ℕ, ◌/◌, ◌≤◌, ◌<◌}
use mathlib.Core.Path.{◌≡◌, refl, sym, ap, subst, ◌∙◌}
use mathlib.Core.Logic.{◌≢◌, ◌↔◌}
use mathlib.Core.Bool.{true, not}
use mathlib.Core.List.{List, []}
use native.Mathlib.Omega.{arith}
use native.Mathlib.Decide.{dec_lt, ℕ_discrete}
use lib.Dec.{eqb}
use lib.ListN.{length}
use borrow.Author.Tests.{eqb-false, not-true}
use Rattle.refusals.proofs.ChainLaws.{or_else_zero, or_else_left, chain_goes}
use Rattle.refusals.proofs.NumberLaws.{one_passes}
use Rattle.room.specs.declared.Shape.{Shape}
use Rattle.links.specs.Table.{room_refusal}
use Rattle.verdict.specs.Accepted.{Accepted}
use Rattle.pick.specs.Picks.{usable, first_usable_in, Source, in_fresh, in_kept, nowhere, found, lists_refusal, pick_source, missing, pick_refusal, array_at, picked_bytes}
use Rattle.pick.specs.Chosen.{FirstUsable, NoneUsable, Chosen}
use Rattle.pick.proofs.NumberLaws.{lists-numbers}
use Rattle.pick.proofs.LengthLaws.{lists_room}
use Rattle.pick.proofs.UsableLaws.{usable_accepted, array_long, clash, found_first, found-not, first_found, not_found}
use Rattle.pick.proofs.PickLaws.{from-refused, from_found, found-fresh, found-kept, found_none}

module _ (s : Shape) (t : List ℕ) (a d : ℕ) (fs ks : List ℕ) where
  -- ---- the source is the first usable route, the fresh list before the kept one, and there is no other

  found_chosen : Chosen s t a d fs ks (found s t a d fs ks)
  found_chosen =
      elim (dec_lt (first_usable_in s t a d fs) (length fs / 8)) [
        | yes h ↦ subst (Chosen s t a d fs ks) (found-fresh s t a d fs ks _ refl h) (found_first s t a d fs h)
        | no n ↦
            let f : length fs / 8 ≤ first_usable_in s t a d fs = omega arith in
            elim (dec_lt (first_usable_in s t a d ks) (length ks / 8)) [
              | yes h ↦ subst (Chosen s t a d fs ks) (found-kept s t a d fs ks _ _ refl f refl h) (found-not s t a d fs f, found_first s t a d ks h)
              | no m ↦
                  let g : length ks / 8 ≤ first_usable_in s t a d ks = omega arith in
                  subst (Chosen s t a d fs ks) (found_none s t a d fs ks _ _ refl f refl g) (found-not s t a d fs f, found-not s t a d ks g)
            ]
      ]

  chosen_found : (x : Source) → Chosen s t a d fs ks x → x ≡ found s t a d fs ks
  chosen_found (in_fresh i) h = found-fresh s t a d fs ks i (first_found s t a d fs i h) h.within
  chosen_found (in_kept i) h =
      found-kept s t a d fs ks _ i refl (not_found s t a d fs h.0) (first_found s t a d ks i h.1) h.1.within
  chosen_found nowhere h =
      found_none s t a d fs ks _ _ refl (not_found s t a d fs h.0) refl (not_found s t a d ks h.1)

  module _ (e : lists_refusal s t a d fs ks ≡ 0) where
    source-found : found s t a d fs ks ≡ pick_source s t a d fs ks
    source-found = from_found s t a d fs ks (lists_refusal s t a d fs ks) refl e

    pub source_chosen : Chosen s t a d fs ks (pick_source s t a d fs ks)
    source_chosen = subst (Chosen s t a d fs ks) source-found found_chosen

    pub chosen_source : (x : Source) → Chosen s t a d fs ks x → pick_source s t a d fs ks ≡ x
    chosen_source x h = sym (chosen_found x h ∙ source-found)

    -- picking prefers the fresh list: whatever usable route it has, the part is its first
    pub prefers_fresh : (i : ℕ) → i < length fs / 8 → usable s t a d (array_at i fs) ≡ true → (j : ℕ) × ((j ≤ i) × FirstUsable s t a d fs j × (pick_source s t a d fs ks ≡ in_fresh j))
    prefers_fresh i h u =
        elim (dec_lt (first_usable_in s t a d fs) (length fs / 8)) [
          | yes l ↦
              let g = found_first s t a d fs l in
              (first_usable_in s t a d fs, (not_after (first_usable_in s t a d fs) g, g, chosen_source (in_fresh (first_usable_in s t a d fs)) g))
          | no n ↦ absurd (clash _ u ((found-not s t a d fs (omega arith)).each i h))
        ]
      where
        not_after : (j : ℕ) → FirstUsable s t a d fs j → j ≤ i
        not_after j g =
            elim (dec_lt i j) [
              | yes l ↦ absurd (clash _ u (g.before i l))
              | no n ↦ omega arith
            ]

  -- ---- what is picked

  refusal_parts : pick_refusal s t a d fs ks ≡ 0 → (lists_refusal s t a d fs ks ≡ 0) × (missing (found s t a d fs ks) ≡ 0)
  unfolding pick_refusal
  refusal_parts = or_else_zero (lists_refusal s t a d fs ks) _

  chosen_accepted : room_refusal s t a d ≡ 0 → (x : Source) → missing x ≡ 0 → Chosen s t a d fs ks x → Accepted s t a d (picked_bytes x fs ks) × (length (picked_bytes x fs ks) ≡ 8)
  chosen_accepted r (in_fresh i) z h =
      let l = array_long i fs h.within in (usable_accepted s t a d (array_at i fs) r l h.here, l)
  chosen_accepted r (in_kept i) z h =
      let l = array_long i ks h.1.within in (usable_accepted s t a d (array_at i ks) r l h.1.here, l)
  chosen_accepted r nowhere z h = let n : ⊥ = omega arith in absurd n

  picked : pick_refusal s t a d fs ks ≡ 0 → Accepted s t a d (picked_bytes (pick_source s t a d fs ks) fs ks) × (length (picked_bytes (pick_source s t a d fs ks) fs ks) ≡ 8)
  picked e =
      let z = refusal_parts e in
      chosen_accepted (lists_room s t a d fs ks (sym z.0)) (pick_source s t a d fs ks) (ap missing (sym (source-found z.0)) ∙ z.1) (source_chosen z.0)

  -- with no refusal the bytes are accepted as a list of one
  pub picked_accepted : pick_refusal s t a d fs ks ≡ 0 → Accepted s t a d (picked_bytes (pick_source s t a d fs ks) fs ks)
  picked_accepted e = (picked e).0

  pub picked_eight : pick_refusal s t a d fs ks ≡ 0 → length (picked_bytes (pick_source s t a d fs ks) fs ks) ≡ 8
  picked_eight e = (picked e).1

  missing-nowhere : (x : Source) → missing x ≢ 0 → picked_bytes x fs ks ≡ []
  missing-nowhere (in_fresh i) n = absurd (n refl)
  missing-nowhere (in_kept i) n = absurd (n refl)
  missing-nowhere nowhere n = refl

  refused_empty : pick_refusal s t a d fs ks ≢ 0 → picked_bytes (pick_source s t a d fs ks) fs ks ≡ []
  unfolding pick_refusal
  refused_empty n =
      elim (ℕ_discrete (lists_refusal s t a d fs ks) 0) [
        | yes e ↦
            ap (λ (x : Source). picked_bytes x fs ks) (sym (source-found e))
            ∙ missing-nowhere (found s t a d fs ks) (λ z. n (sym (chain_goes 0 (lists_refusal s t a d fs ks) _ 0 (sym e) refl (sym z))))
        | no m ↦ ap (λ (x : Source). picked_bytes x fs ks) (sym (from-refused s t a d fs ks (lists_refusal s t a d fs ks) refl m))
      ]

  -- the part is empty exactly when there is a refusal
  pub empty_exactly : (picked_bytes (pick_source s t a d fs ks) fs ks ≡ []) ↔ (pick_refusal s t a d fs ks ≢ 0)
  empty_exactly = (λ b e. let l = picked_eight e in let n : ◌≡◌ {A = ℕ} 8 0 = sym l ∙ ap length b in omega arith, refused_empty)

  -- ---- 16

  missing-only : (x : Source) → missing x ≡ 16 → Chosen s t a d fs ks x → NoneUsable s t a d fs × NoneUsable s t a d ks
  missing-only (in_fresh i) z h = let n : ⊥ = omega arith in absurd n
  missing-only (in_kept i) z h = let n : ⊥ = omega arith in absurd n
  missing-only nowhere z h = h

  sixteen_of : pick_refusal s t a d fs ks ≡ 16 → (lists_refusal s t a d fs ks ≡ 0) × (NoneUsable s t a d fs × NoneUsable s t a d ks)
  unfolding pick_refusal
  sixteen_of z =
      elim (ℕ_discrete (lists_refusal s t a d fs ks) 0) [
        | yes e ↦ (e, missing-only (found s t a d fs ks) (chain_goes 0 (lists_refusal s t a d fs ks) _ _ (sym e) refl refl ∙ z) found_chosen)
        | no m ↦
            let k : lists_refusal s t a d fs ks ≡ 16 = sym (or_else_left (lists_refusal s t a d fs ks) _ m) ∙ z in
            absurd (eqb-false _ 16 (not-true _ (one_passes (λ r. not (eqb r 16)) refl refl (lists-numbers s t a d fs ks))) k)
      ]

  of_sixteen : (lists_refusal s t a d fs ks ≡ 0) × (NoneUsable s t a d fs × NoneUsable s t a d ks) → pick_refusal s t a d fs ks ≡ 16
  unfolding pick_refusal
  of_sixteen h =
      sym (chain_goes 0 (lists_refusal s t a d fs ks) _ 16 (sym h.0) refl (ap missing (chosen_found nowhere h.1)))

  -- 16 exactly when rooms and lengths are fine and no array of either list is usable
  pub sixteen-exactly : (pick_refusal s t a d fs ks ≡ 16) ↔ ((lists_refusal s t a d fs ks ≡ 0) × (NoneUsable s t a d fs × NoneUsable s t a d ks))
  sixteen-exactly = (sixteen_of, of_sixteen)
