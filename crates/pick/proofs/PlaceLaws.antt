-- The part of a list that a place tells of.
use Prim.Native.Nat.{ℕ, ◌+◌, ◌-◌, ◌*◌, ◌/◌, ◌≤◌, ◌<◌}
use mathlib.Core.Path.{◌≡◌, refl, sym, ap, subst, ◌∙◌}
use mathlib.Core.Logic.{◌≢◌}
use mathlib.Core.List.{List, []}
use native.Mathlib.Omega.{arith}
use native.Mathlib.Decide.{ℕ_discrete}
use lib.ListN.{length, take, drop}
use Rattle.room.specs.declared.Shape.{Shape}
use Rattle.pick.specs.declared.List.{List as WhichList}
use Rattle.pick.specs.declared.List.TheVariants.{Fresh, Kept}
use Rattle.pick.specs.Told.{Place}
use Rattle.pick.specs.Picks.{Source, in_fresh, in_kept, nowhere, lists_refusal, pick_source, pick_refusal, array_at, lies_at}
use Rattle.pick.specs.Chosen.{Chosen}
use Rattle.pick.specs.Places.{no_place, a_place, list_number, place_of, place_answer}
use Rattle.pick.proofs.PickLaws.{from-refused, Lies, lies}
use Rattle.pick.proofs.Promises.{source_chosen}

-- a source in the fresh list, with its route's place there; and in the kept list
pub record FromFresh (y : Source) (i : ℕ) : Type 0 where
  pub index : ℕ
  pub source : in_fresh index ≡ y
  pub route : i ≡ index + 1

pub record FromKept (y : Source) (i : ℕ) : Type 0 where
  pub index : ℕ
  pub source : in_kept index ≡ y
  pub route : i ≡ index + 1

fresh_of : (r : ℕ) (y : Source) → (place_of r y).list ≡ 1 → FromFresh y (place_of r y).route
fresh_of r (in_fresh i) e = record { index = i; source = refl; route = refl }
fresh_of r (in_kept i) e = let z : ⊥ = omega arith in absurd z
fresh_of r nowhere e = let z : ⊥ = omega arith in absurd z

kept_of : (r : ℕ) (y : Source) → (place_of r y).list ≡ 2 → FromKept y (place_of r y).route
kept_of r (in_fresh i) e = let z : ⊥ = omega arith in absurd z
kept_of r (in_kept i) e = record { index = i; source = refl; route = refl }
kept_of r nowhere e = let z : ⊥ = omega arith in absurd z

nowhere_of : (r : ℕ) (y : Source) → (place_of r y).list ≢ 1 → (place_of r y).list ≢ 2 → nowhere ≡ y
nowhere_of r (in_fresh i) f k = absurd (f refl)
nowhere_of r (in_kept i) f k = absurd (k refl)
nowhere_of r nowhere f k = refl

-- the eight bytes that end with array r of a list, counted from 1, and where they lie
abbrev part_at : ℕ → List ℕ → List ℕ
part_at r bs = take (8 * r - (8 * r - 8)) (drop (8 * r - 8) bs)

abbrev part_lies : ℕ → ℕ × ℕ → ℕ × ℕ
part_lies r p = (p.0, 8 * r - 8 + p.1)

-- they lie in the list
pub record Inside (r : ℕ) (bs : List ℕ) : Type 0 where
  pub start : 8 ≤ 8 * r
  pub end : 8 * r ≤ length bs

part_is : (bs : List ℕ) (r i : ℕ) → r ≡ i + 1 → part_at r bs ≡ array_at i bs
part_is bs r i e =
    let m : 8 * r - 8 ≡ 8 * i = omega arith in
    let n : 8 * r - (8 * r - 8) ≡ 8 = omega arith in
    rw (n, m)

part_lies_lem : (p : ℕ × ℕ) (r i : ℕ) → r ≡ i + 1 → part_lies r p ≡ lies_at i p
part_lies_lem p r i e = let m : 8 * r - 8 ≡ 8 * i = omega arith in ap (λ (z : ℕ). (p.0, z + p.1)) m

module _ (s : Shape) (t : List ℕ) (a d : ℕ) (fs ks : List ℕ) where
  -- a source within its list
  abbrev Within : Source → Type 0
  Within (in_fresh i) = i < length fs / 8
  Within (in_kept i) = i < length ks / 8
  Within nowhere = 0 ≤ 0

  chosen_within : (y : Source) → Chosen s t a d fs ks y → Within y
  chosen_within (in_fresh i) h = h.within
  chosen_within (in_kept i) h = h.1.within
  chosen_within nowhere h = omega arith

  within : Within (pick_source s t a d fs ks)
  within =
      elim (ℕ_discrete (lists_refusal s t a d fs ks) 0) [
        | yes z ↦ chosen_within (pick_source s t a d fs ks) (source_chosen s t a d fs ks z)
        | no n ↦ subst Within (from-refused s t a d fs ks (lists_refusal s t a d fs ks) refl n) (omega arith)
      ]

  module _ (x : Place) (e : x ≡ place_answer s t a d fs ks) where
    pub in-fresh : x.list ≡ 1 → FromFresh (pick_source s t a d fs ks) x.route
    unfolding place_answer
    in-fresh h =
        subst (λ (y : Place). FromFresh (pick_source s t a d fs ks) y.route) (sym e)
        (fresh_of (pick_refusal s t a d fs ks) (pick_source s t a d fs ks) (sym (ap (λ (y : Place). y.list) e) ∙ h))

    pub in_kept_lem : x.list ≡ 2 → FromKept (pick_source s t a d fs ks) x.route
    unfolding place_answer
    in_kept_lem h =
        subst (λ (y : Place). FromKept (pick_source s t a d fs ks) y.route) (sym e)
        (kept_of (pick_refusal s t a d fs ks) (pick_source s t a d fs ks) (sym (ap (λ (y : Place). y.list) e) ∙ h))

    in_none : x.list ≢ 1 → x.list ≢ 2 → nowhere ≡ pick_source s t a d fs ks
    unfolding place_answer
    in_none f k =
        nowhere_of (pick_refusal s t a d fs ks) (pick_source s t a d fs ks) (λ z. f (ap (λ (y : Place). y.list) e ∙ z)) (λ z. k (ap (λ (y : Place). y.list) e ∙ z))

    pub fresh-inside : x.list ≡ 1 → Inside x.route fs
    fresh-inside h =
        let f = in-fresh h in
        let w : f.index < length fs / 8 = subst Within (sym f.source) within in
        record { start = omega (arith, f.route); end = omega (arith, f.route) }

    pub kept-inside : x.list ≡ 2 → Inside x.route ks
    kept-inside h =
        let f = in_kept_lem h in
        let w : f.index < length ks / 8 = subst Within (sym f.source) within in
        record { start = omega (arith, f.route); end = omega (arith, f.route) }

    module _ (p q : ℕ × ℕ) where
      pub part_fresh : x.list ≡ 1 → Lies s t a d fs ks p q (part_at x.route fs) (part_lies x.route p)
      part_fresh h =
          let f = in-fresh h in
          let l = lies s t a d fs ks p q (in_fresh f.index) f.source in
          (part_is fs x.route f.index f.route ∙ l.0, part_lies_lem p x.route f.index f.route ∙ l.1)

      pub part_kept : x.list ≡ 2 → Lies s t a d fs ks p q (part_at x.route ks) (part_lies x.route q)
      part_kept h =
          let f = in_kept_lem h in
          let l = lies s t a d fs ks p q (in_kept f.index) f.source in
          (part_is ks x.route f.index f.route ∙ l.0, part_lies_lem q x.route f.index f.route ∙ l.1)

  -- no place at all
  pub part_none : (p q : ℕ × ℕ) (r : ℕ) → no_place r ≡ place_answer s t a d fs ks → Lies s t a d fs ks p q [] p
  part_none p q r e =
      let n = in_none (no_place r) e (λ z. let k : ⊥ = omega arith in k) (λ z. let k : ⊥ = omega arith in k) in
      lies s t a d fs ks p q nowhere n

  -- the end of the eight bytes, whichever list they are in
  pub end_within : (l : WhichList) (r : ℕ) → a_place (list_number l) r ≡ place_answer s t a d fs ks → 8 * r ≤ length fs + length ks
  end_within Fresh r e = omega (arith, (fresh-inside (a_place 1 r) e refl).end)
  end_within Kept r e = omega (arith, (kept-inside (a_place 2 r) e refl).end)
