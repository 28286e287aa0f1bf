-- What is usable, told by walking; and the search for the first usable array.
use Prim.Native.Nat.{ℕ, zero, suc, ◌+◌, ◌*◌, ◌/◌, ◌≤◌, ◌<◌}
use mathlib.Core.Path.{◌≡◌, refl, sym, ap, ◌∙◌}
use mathlib.Core.Bool.{Bool, true, false, not, cond}
use mathlib.Core.List.{List, [], ◌∷◌, map}
use native.Mathlib.Omega.{arith}
use native.Mathlib.Decide.{dec_lt}
use lib.Dec.{eqb}
use lib.ListN.{length, take, drop, length-drop}
use lib.Seq.{take_all, drop-drop, length-take-le}
use borrow.Author.Tests.{eq-eqb, ne_eqb, eqb-true, le-leb, lt-ltb, le-ltb}
use Rattle.std.specs.Prelude.{Some, None, Result, Ok, Err, is_ok}
use Rattle.std.specs.List.{position, position_or_len}
use Rattle.refusals.specs.declared.Refused.{Refused}
use Rattle.refusals.specs.Refusals.{Refusal, none, plain, of_route}
use Rattle.refusals.specs.Reasons.{number_of, tells_where}
use Rattle.refusals.proofs.ReasonLaws.{reason-some}
use Rattle.refusals.proofs.ChainLaws.{chain_goes}
use Rattle.refusals.proofs.AnswerLaws.{answer-none}
use Rattle.room.specs.declared.Shape.{Shape}
use Rattle.links.specs.Table.{room_refusal}
use Rattle.path.specs.declared.Walked.{Walked as WalkedArray}
use Rattle.path.specs.Told.{Walked}
use Rattle.path.specs.Answers.{no_walk, the_walk, walk_answer}
use Rattle.verdict.specs.Checks.{arrays, first_stop, first_meeting, first_of, first_pair, list_refusal, walks_of, check_answer}
use Rattle.verdict.specs.Accepted.{Accepted}
use Rattle.verdict.proofs.AcceptLaws.{accepted_of, arrays-long}
use Rattle.pick.specs.Picks.{usable, first_usable, first_usable_in, array_at}
use Rattle.pick.specs.Chosen.{FirstUsable, NoneUsable}

-- ---- an array of eight bytes, checked as a list of one

-- the refusal of one walked array as route 1
abbrev one_stop : Refusal → Refusal
one_stop r = cond (eqb r.number 0) none (of_route 1 r)

one-first : (r : Refusal) → first_of (one_stop r) none ≡ one_stop r
unfolding first_of
one-first r = go (eqb r.number 0) refl
  where
    go : (t : Bool) → eqb r.number 0 ≡ t → (let x = cond t none (of_route 1 r) in cond (eqb x.number 0) none x ≡ x)
    go true e = refl
    go false e = rw e

one_number : (r : Refusal) → eqb (one_stop r).number 0 ≡ eqb r.number 0
one_number r = go (eqb r.number 0) refl
  where
    go : (t : Bool) → eqb r.number 0 ≡ t → eqb (cond t none (of_route 1 r)).number 0 ≡ t
    go true e = refl
    go false e = e

one_list : (s : Shape) (t : List ℕ) (a d : ℕ) (bs : List ℕ) → room_refusal s t a d ≡ 0 → length bs ≡ 8 → 0 ≡ list_refusal s t a d bs
unfolding list_refusal
one_list s t a d bs e l = chain_goes _ _ _ _ (sym e) refl (rw (l, le-leb 8 (8 * suc s.k) (omega arith)))

one-walk : (s : Shape) (t : List ℕ) (a d : ℕ) (bs : List ℕ) → length bs ≡ 8 → walks_of s t a d bs ≡ walk_answer s t a d bs ∷ []
unfolding walks_of arrays
one-walk s t a d bs l =
    let m : length bs / 8 ≡ 1 = omega arith in
    ap (λ (x : ℕ). map (walk_answer s t a d) (arrays x bs)) m
    ∙ ap (λ (x : List ℕ). walk_answer s t a d x ∷ []) (take_all 8 bs (omega arith))

pub check-one : (s : Shape) (t : List ℕ) (a d : ℕ) (bs : List ℕ) → room_refusal s t a d ≡ 0 → length bs ≡ 8 → check_answer s t a d bs ≡ one_stop (walk_answer s t a d bs).refusal
unfolding check_answer first_stop first_pair first_meeting first_of
check-one s t a d bs e l =
    answer-none _ plain _ (one_list s t a d bs e l)
    ∙ ap (λ (ws : List Walked). first_of (first_stop 1 ws) (first_pair 1 ws)) (one-walk s t a d bs l)
    ∙ one-first (walk_answer s t a d bs).refusal

-- where the room is not refused, an array is usable exactly when walking it meets no refusal
pub usable-walk : (s : Shape) (t : List ℕ) (a d : ℕ) (bs : List ℕ) → room_refusal s t a d ≡ 0 → length bs ≡ 8 → usable s t a d bs ≡ eqb (walk_answer s t a d bs).refusal.number 0
unfolding usable
usable-walk s t a d bs e l =
    ap (λ (r : Refusal). eqb r.number 0) (check-one s t a d bs e l)
    ∙ one_number (walk_answer s t a d bs).refusal

-- the same of what the walk gave
pub walk-usable : (s : Shape) (t : List ℕ) (a d : ℕ) (bs : List ℕ) → room_refusal s t a d ≡ 0 → length bs ≡ 8 → (x : Result WalkedArray Refused) → tells_where no_walk the_walk x ≡ walk_answer s t a d bs → is_ok x ≡ usable s t a d bs
walk-usable s t a d bs e l x f =
    ok_by x ∙ ap (λ (w : Walked). eqb w.refusal.number 0) f ∙ sym (usable-walk s t a d bs e l)
  where
    ok_by : (x : Result WalkedArray Refused) → is_ok x ≡ eqb (tells_where no_walk the_walk x).refusal.number 0
    ok_by (Ok w) = refl
    ok_by (Err r) = sym (ne_eqb (number_of r.reason) 0 (reason-some r.reason))

-- and then it is accepted as a list of one
pub usable_accepted : (s : Shape) (t : List ℕ) (a d : ℕ) (bs : List ℕ) → room_refusal s t a d ≡ 0 → length bs ≡ 8 → usable s t a d bs ≡ true → Accepted s t a d bs
usable_accepted s t a d bs e l u =
    let x = (walk_answer s t a d bs).refusal.number in
    let z : x ≡ 0 = eqb-true x 0 (sym (usable-walk s t a d bs e l) ∙ u) in
    accepted_of s t a d bs (check-one s t a d bs e l ∙ ap (λ (b : Bool). cond b none (of_route 1 (walk_answer s t a d bs).refusal)) (eq-eqb x 0 z))

-- ---- the array at a place

pub array_long : (i : ℕ) (bs : List ℕ) → i < length bs / 8 → length (array_at i bs) ≡ 8
array_long i bs h = length-take-le 8 (drop (8 * i) bs) (omega (arith, length-drop (8 * i) bs))

pub array-next : (i : ℕ) (bs : List ℕ) → array_at i (drop 8 bs) ≡ array_at (suc i) bs
array-next i bs =
    let e : 8 + 8 * i ≡ 8 * suc i = omega arith in
    ap (take 8) (drop-drop (8 * i) 8 bs ∙ ap (λ (x : ℕ). drop x bs) e)

-- ---- the place of the first usable array, or the number of all

module _ (s : Shape) (t : List ℕ) (a d : ℕ) where
  one_more : (b : Bool) (n k : ℕ) → n ≡ k → cond (not b) (1 + n) 0 ≡ cond b 0 (suc k)
  one_more true n k e = refl
  one_more false n k e = omega arith

  place-first : (bss : List (List ℕ)) → position_or_len (usable s t a d) bss ≡ first_usable s t a d bss
  unfolding first_usable
  place-first [] = refl
  place-first (bs ∷ bss) = one_more (usable s t a d bs) _ _ (place-first bss)

  module _ (bs : List ℕ) where
    abbrev all : List (List ℕ)
    all = arrays (length bs / 8) bs

    -- it is at place i
    pub position-some : (i : ℕ) → Some i ≡ position (usable s t a d) (arrays (length bs / 8) bs) → (i ≡ first_usable_in s t a d bs) × (i < length bs / 8)
    unfolding first_usable_in
    position-some i e =
        elim (dec_lt (position_or_len (usable s t a d) all) (length all)) [
          | yes l ↦
              let f : Some i ≡ Some (position_or_len (usable s t a d) all) = rw (lt-ltb (position_or_len (usable s t a d) all) (length all) l) at e in
              let g : i ≡ position_or_len (usable s t a d) all = cc in
              (g ∙ place-first all, omega (arith, arrays-long (length bs / 8) bs))
          | no n ↦ let f : Some i ≡ None = rw (le-ltb (position_or_len (usable s t a d) all) (length all) (omega arith)) at e in cc
        ]

    -- none is
    pub position-none : None ≡ position (usable s t a d) (arrays (length bs / 8) bs) → length bs / 8 ≤ first_usable_in s t a d bs
    unfolding first_usable_in
    position-none e =
        elim (dec_lt (position_or_len (usable s t a d) all) (length all)) [
          | yes l ↦
              let f : None ≡ Some (position_or_len (usable s t a d) all) = rw (lt-ltb (position_or_len (usable s t a d) all) (length all) l) at e in cc
          | no n ↦ omega (arith, place-first all, arrays-long (length bs / 8) bs)
        ]

-- ---- the first usable array is the one that is found

-- a test has one answer
pub clash : (b : Bool) → b ≡ true → b ≡ false → ⊥
clash true p q = let n : ◌≡◌ {A = ℕ} 0 1 = cc in omega arith
clash false p q = let n : ◌≡◌ {A = ℕ} 0 1 = cc in omega arith

module _ (s : Shape) (t : List ℕ) (a d : ℕ) where
  -- the first of m + 1 arrays, and the place among the others
  first_cut : (m : ℕ) (bs : List ℕ) (b : Bool) → usable s t a d (take 8 bs) ≡ b → first_usable s t a d (arrays (suc m) bs) ≡ cond b 0 (suc (first_usable s t a d (arrays m (drop 8 bs))))
  unfolding first_usable arrays
  first_cut m bs b e = ap (λ (x : Bool). cond x 0 (suc (first_usable s t a d (arrays m (drop 8 bs))))) e

  first-none : (bs : List ℕ) → first_usable s t a d (arrays 0 bs) ≡ 0
  unfolding first_usable arrays
  first-none bs = refl

  pub first-here : (m : ℕ) (bs : List ℕ) (i : ℕ) → i ≡ first_usable s t a d (arrays m bs) → i < m → usable s t a d (array_at i bs) ≡ true
  first-here zero bs i e h = let z : ⊥ = omega arith in absurd z
  first-here (suc m) bs i e h = at (first-here m (drop 8 bs)) (usable s t a d (take 8 bs)) i refl e h
    where
      at : ((i : ℕ) → i ≡ first_usable s t a d (arrays m (drop 8 bs)) → i < m → usable s t a d (array_at i (drop 8 bs)) ≡ true) → (b : Bool) (i : ℕ) → usable s t a d (take 8 bs) ≡ b → i ≡ first_usable s t a d (arrays (suc m) bs) → i < suc m → usable s t a d (array_at i bs) ≡ true
      at g true zero u e h = u
      at g true (suc i) u e h = let z : ⊥ = omega (arith, first_cut m bs true u) in absurd z
      at g false zero u e h = let z : ⊥ = omega (arith, first_cut m bs false u) in absurd z
      at g false (suc i) u e h =
          ap (usable s t a d) (sym (array-next i bs)) ∙ g i (omega (arith, first_cut m bs false u)) (omega arith)

  pub first-before : (m : ℕ) (bs : List ℕ) (j : ℕ) → j < first_usable s t a d (arrays m bs) → usable s t a d (array_at j bs) ≡ false
  first-before zero bs j h = let z : ⊥ = omega (arith, first-none bs) in absurd z
  first-before (suc m) bs j h = at (first-before m (drop 8 bs)) (usable s t a d (take 8 bs)) j refl h
    where
      at : ((j : ℕ) → j < first_usable s t a d (arrays m (drop 8 bs)) → usable s t a d (array_at j (drop 8 bs)) ≡ false) → (b : Bool) (j : ℕ) → usable s t a d (take 8 bs) ≡ b → j < first_usable s t a d (arrays (suc m) bs) → usable s t a d (array_at j bs) ≡ false
      at g true j u h = let z : ⊥ = omega (arith, first_cut m bs true u) in absurd z
      at g false zero u h = u
      at g false (suc j) u h =
          ap (usable s t a d) (sym (array-next j bs)) ∙ g j (omega (arith, first_cut m bs false u))

  pub found_first : (bs : List ℕ) → first_usable_in s t a d bs < length bs / 8 → FirstUsable s t a d bs (first_usable_in s t a d bs)
  unfolding first_usable_in
  found_first bs h =
      record { within = h; here = first-here (length bs / 8) bs _ refl h; before = first-before (length bs / 8) bs }

  pub found-not : (bs : List ℕ) → length bs / 8 ≤ first_usable_in s t a d bs → NoneUsable s t a d bs
  unfolding first_usable_in
  found-not bs h = record { each = λ j p. first-before (length bs / 8) bs j (omega arith) }

  none_before_lem : (bs : List ℕ) (j : ℕ) → j < first_usable_in s t a d bs → usable s t a d (array_at j bs) ≡ false
  unfolding first_usable_in
  none_before_lem bs j l = first-before (length bs / 8) bs j l

  -- and there is no other
  pub first_found : (bs : List ℕ) (i : ℕ) → FirstUsable s t a d bs i → i ≡ first_usable_in s t a d bs
  first_found bs i h =
      elim (dec_lt (first_usable_in s t a d bs) i) [
        | yes l ↦ absurd (clash _ (found_first bs (omega (arith, h.within))).here (h.before (first_usable_in s t a d bs) l))
        | no m ↦
            elim (dec_lt i (first_usable_in s t a d bs)) [
              | yes l ↦ absurd (clash _ h.here (none_before_lem bs i l))
              | no n ↦ omega arith
            ]
      ]

  pub not_found : (bs : List ℕ) → NoneUsable s t a d bs → length bs / 8 ≤ first_usable_in s t a d bs
  not_found bs h =
      elim (dec_lt (first_usable_in s t a d bs) (length bs / 8)) [
        | yes l ↦ absurd (clash _ (found_first bs l).here (h.each (first_usable_in s t a d bs) l))
        | no n ↦ omega arith
      ]
