-- Each call gives exactly the refusal of the first test that fails, proved.
use Prim.Native.Nat.{ℕ, zero, suc, ◌+◌, ◌/◌, ◌<◌}
use mathlib.Core.Path.{◌≡◌, refl, sym, ap, ◌∙◌, subst}
use mathlib.Core.Logic.{◌≢◌, ◌↔◌, ◌⊎◌, inl, inr}
use mathlib.Core.Bool.{Bool, true, false, cond}
use mathlib.Core.List.{List, [], ◌∷◌, ◌++◌}
use native.Mathlib.Omega.{arith}
use native.Mathlib.Decide.{ℕ_discrete}
use lib.Dec.{ltb, eqb}
use lib.ListN.{length, get_or}
use borrow.Author.Tests.{eq-eqb, ne_eqb, eqb-true}
use Rattle.refusals.specs.Refusals.{Refusal, none, plain, refused_at, ◌or_else◌, ◌unless◌, answer}
use Rattle.refusals.proofs.AnswerLaws.{answer-none}
use Rattle.room.specs.declared.Shape.{Shape}
use Rattle.room.specs.Told.{Number as Numbered, Digits, Switch, Between}
use Rattle.room.specs.Addresses.{differing}
use Rattle.room.specs.Refusals.{shape_refusal, level_refusal, server_refusal, pair_refusal, link_refusal, value_refusal, places_refusal, ends_refusal}
use Rattle.room.specs.Answers.{no_number, no_digits, no_switch, no_between, only_level, servers_answer, bound_answer, digits_answer, digit_answer, address_answer, switch_answer, neighbour_answer, between_answer}
use Rattle.room.specs.Wiring.{port_refusal, switches_answer, server_at_answer}
use Rattle.links.specs.Told.{Asked}
use Rattle.trees.specs.Answers.{parent_refusal, parent_answer, tree_answer}
use Rattle.links.specs.Table.{room_table_refusal, table_link_refusal, table_server_refusal, TableOf, room_refusal, room_refusal as layRoom}
use Rattle.links.specs.Answers.{not_asked, failed_answer}
use Rattle.summary.specs.Told.{DeadSwitch}
use Rattle.summary.specs.Counts.{switches_in}
use Rattle.summary.specs.Refusals.{counted_link_refusal, counted_server_refusal, summary_refusal, entries_refusal}
use Rattle.summary.specs.Answers.{link_answer, server_answer, none_dead, dead_answer, fresh_answer}
use Rattle.summary.proofs.AnswerLaws.{first-refusal}
use Rattle.path.specs.Routes.{level_of, value_of}
use Rattle.path.specs.Told.{Hop, Parts, Walked, Writing}
use Rattle.path.specs.Bytes.{made_refusal, byte_answer, parts_refusal, no_parts, some_parts, parts_answer}
use Rattle.path.specs.Walks.{Walk, stopped, arrived, walk, hop_refusal}
use Rattle.path.specs.Answers.{no_hop, hop_by, hop_from, hop_answer, array_refusal, no_walk, walked, walk_answer, read_answer, no_writing, reversed, reverse_answer}
use Rattle.path.proofs.CodecLaws.{walk-exactly}
use Rattle.build.specs.Told.{Building}
use Rattle.build.specs.Answers.{no_building, build_answer}
use Rattle.laying.specs.Answers.{lay_refusal, Lays}
use Rattle.finder.specs.Told.{Found}
use Rattle.finder.specs.Answers.{Finding}
use Rattle.select.specs.Told.{Selection}
use Rattle.select.specs.Selection.{selection, Selecting}
use Rattle.select.proofs.SlotLaws.{member_at}
use Rattle.select.proofs.SelectLaws.{gives, none-selected-exactly}
use Rattle.pick.specs.Picks.{usable, Source, in_fresh, in_kept, nowhere, found, lists_refusal, pick_source, missing, pick_refusal, pick_answer, array_at}
use Rattle.pick.specs.Chosen.{FirstUsable, NoneUsable, Chosen}
use Rattle.pick.specs.Places.{place_of, place_answer}
use Rattle.pick.proofs.UsableLaws.{usable-walk, array_long, clash}
use Rattle.pick.proofs.Promises.{source_chosen}
use Rattle.step.specs.Steps.{given_refusal, byte_refusal, away_refusal, step_refusal, at_hop, with_place, no_step, delivery, forwarded, step_answer}
use Rattle.demands.specs.Tests.{Tests, Refused, Number, Whole, Exactly}
use Rattle.demands.specs.Refusals.{shape_tests, level_tests, server_tests, pair_tests, link_tests, parent_tests, value_tests, port_tests, made_tests, parts_tests, places_tests, table_tests, table_link_tests, table_server_tests, counted_link_tests, counted_server_tests, summary_tests, entries_tests, ends_tests, room_tests, array_tests, lay_tests, Joined, select_tests, Arrays, IsRead, SomeRead, pick_tests, hop_tests, Reads, given_tests, step_tests, Steps, RefusedExactly}
use Rattle.demands.proofs.Chains.{front, back, held, skip, same, join, split, exactly, made, carry, some, chain, zero_of, hold_of, answers, test, lt}
use Rattle.demands.proofs.Numbers.{shape-number, level-number, server-number, pair_number, link-number, parent-number, value-number, port-number, made-number, parts_number, places_number, table-number, table-link-number, table-server-number, counted-link-number, counted-server-number, summary_number, entries-number, ends_number, ends_hold, array-number, room-number, lists_number, hop-number, given-number, byte-number}
use Rattle.demands.proofs.Hops.{walk_reads, reads_walk}
use Rattle.demands.proofs.Written.{write_path}
use Rattle.demands.proofs.Places.{check_list}

-- ---- refusals of the whole

-- a number
numbered : (A : Tests) (q : ℕ) → Number A q → Exactly q (Number A)
numbered A q h = exactly (λ n. n) (λ r. r ≡ 0) A q (λ y a e f. e ∙ sym f) h

-- an answer
module _ {X : Type 0} (refusal : X → Refusal) (bare : ℕ → X) (same : (r : ℕ) → refusal (bare r) ≡ plain r) where
  whole : (A : Tests) (q : ℕ) (x : X) → some A ≡ true → Number A q → refusal x ≡ none → Exactly (refusal (answer q bare x)) (Whole A)
  whole A q x m h e =
      exactly plain (λ r. r ≡ none) A (refusal (answer q bare x)) (λ y a f g. f ∙ sym g)
      (answers refusal bare plain (λ r. r ≡ none) A q x same m h (λ a. e))

only_none : (ls : List ℕ) → (only_level ls).refusal ≡ none
only_none [] = refl
only_none (l ∷ []) = refl
only_none (l ∷ m ∷ ls) = refl

-- a number that is the whole answer
plainly : (A : Tests) (q : ℕ) → some A ≡ true → Number A q → Exactly (plain q) (Whole A)
plainly A q m h =
    exactly plain (λ r. r ≡ none) A (plain q) (λ y a f g. f ∙ sym g)
    (carry plain plain (λ r. r ≡ none) A q (made plain plain A (λ n. refl) m) h (λ a. refl))

-- an answer that is said by its number
declared : (Else : Refusal → Type 0) (A : Tests) (q : ℕ) (x : Refusal) → some A ≡ true → Number A q → (q ≢ 0 → x ≡ plain q) → (q ≡ 0 → Else x) → Refused plain A Else x
declared Else A q x m h f g =
    elim (ℕ_discrete q 0) [
      | yes z ↦ held plain Else A x (hold_of A q m h z) (g z)
      | no n ↦ subst (Refused plain A Else) (sym (f n)) (carry plain plain Else A q (made plain plain A (λ k. refl) m) h (λ a. absurd (n (zero_of A q h a))))
    ]

-- ---- reading

module _ {X : Type 0} (refusal : X → Refusal) (bare : ℕ → X) (same : (r : ℕ) → refusal (bare r) ≡ plain r) (make : Walk → X) (alike : (w : Walk) → refusal (make w) ≡ (walked w).refusal) where
  reads : (s : Shape) (t : List ℕ) (a d : ℕ) (bs : List ℕ) → Exactly (refusal (answer (array_refusal s a d bs) bare (make (walk s t a d bs)))) (Refused plain (array_tests s a d bs) (Reads s t a d bs))
  reads s t a d bs =
      exactly plain (Reads s t a d bs) (array_tests s a d bs) _ (λ y h f g. sym (reads_walk f) ∙ reads_walk g)
      (answers refusal bare plain (Reads s t a d bs) (array_tests s a d bs) (array_refusal s a d bs) (make (walk s t a d bs)) same refl (array-number s a d bs)
      (λ h. subst (Reads s t a d bs) (sym (alike (walk s t a d bs))) (walk_reads t bs (ends_hold s a d (front (ends_tests s a d) ((7, length bs ≡ 8) ∷ []) h)) (back (ends_tests s a d) ((7, length bs ≡ 8) ∷ []) h).0)))

walk_path : (s : Shape) (t : List ℕ) (a d : ℕ) (bs : List ℕ) → Exactly (walk_answer s t a d bs).refusal (Refused plain (array_tests s a d bs) (Reads s t a d bs))
unfolding walk_answer
walk_path = reads (λ (x : Walked). x.refusal) (λ r. no_walk (plain r)) (λ r. refl) walked (λ w. refl)

reverse_path : (s : Shape) (a d : ℕ) (bs : List ℕ) → Exactly (reverse_answer s a d bs).refusal (Refused plain (array_tests s a d bs) (Reads s [] a d bs))
unfolding reverse_answer
reverse_path s = reads (λ (x : Writing). x.refusal) (λ r. no_writing (plain r)) (λ r. refl) (reversed s) alike s []
  where
    alike : (w : Walk) → (reversed s w).refusal ≡ (walked w).refusal
    alike (stopped r) = refl
    alike (arrived vs ws) = refl

read_path : (s : Shape) (a d : ℕ) (bs : List ℕ) → Exactly (read_answer s a d bs).refusal (Refused plain (array_tests s a d bs) (Reads s [] a d bs))
unfolding read_answer
read_path s a d bs = walk_path s [] a d bs

hop_of : (s : Shape) (a b : ℕ) → Exactly (hop_answer s a b).refusal (Refused plain (server_tests s a) (Refused (λ n. refused_at n 1 1) (hop_tests s a b) (λ r. r ≡ none)))
unfolding hop_answer hop_from
hop_of s a b =
    let Else : Refusal → Type 0 = Refused (λ n. refused_at n 1 1) (hop_tests s a b) (λ r. r ≡ none) in
    exactly plain Else (server_tests s a) (hop_answer s a b).refusal (λ y h f g. same (λ n. refused_at n 1 1) (λ r. r ≡ none) (hop_tests s a b) _ y (λ k u v. u ∙ sym v) f g)
    (answers (λ (x : Hop). x.refusal) (λ r. no_hop (plain r)) plain Else (server_tests s a) (server_refusal s a) _ (λ r. refl) refl (server-number s a)
    (λ h. answers (λ (x : Hop). x.refusal) (λ r. no_hop (refused_at r 1 1)) (λ n. refused_at n 1 1) (λ r. r ≡ none) (hop_tests s a b) (hop_refusal s a b) (hop_by s a b) (λ r. refl) refl (hop-number s a b) (λ k. refl)))

parts_of : (s : Shape) (b : ℕ) → Exactly (parts_answer s b).refusal (Refused plain (shape_tests s) (Refused (λ n. refused_at n 1 1) (parts_tests s b) (λ r. r ≡ none)))
unfolding parts_answer
parts_of s b =
    let Else : Refusal → Type 0 = Refused (λ n. refused_at n 1 1) (parts_tests s b) (λ r. r ≡ none) in
    exactly plain Else (shape_tests s) (parts_answer s b).refusal (λ y h f g. same (λ n. refused_at n 1 1) (λ r. r ≡ none) (parts_tests s b) _ y (λ k u v. u ∙ sym v) f g)
    (answers (λ (x : Parts). x.refusal) (λ r. no_parts (plain r)) plain Else (shape_tests s) (shape_refusal s) _ (λ r. refl) refl (shape-number s)
    (λ h. answers (λ (x : Parts). x.refusal) (λ r. no_parts (refused_at r 1 1)) (λ n. refused_at n 1 1) (λ r. r ≡ none) (parts_tests s b) (parts_refusal s b) (some_parts (level_of b) (value_of b)) (λ r. refl) refl (parts_number s b) (λ k. refl)))

-- ---- laying, finding and selecting

lay_route : (s : Shape) (t : List ℕ) (a d : ℕ) (bs : List ℕ) (r : Refusal) (u : List ℕ) → Lays s t a d bs r u → Exactly r (Refused plain (lay_tests s t a d bs) (Reads s [] a d bs))
unfolding lay_refusal layRoom
lay_route s t a d bs r u h =
    let read : Tests = (7, length bs ≡ 8) ∷ [] in
    exactly plain (Reads s [] a d bs) (lay_tests s t a d bs) r (λ y k f g. sym (reads_walk f) ∙ reads_walk g)
    (subst (Refused plain (lay_tests s t a d bs) (Reads s [] a d bs)) (sym h.refusal)
    (join plain (Reads s [] a d bs) (room_tests s t a d) read _
    (answers (λ x. x) plain plain (Refused plain read (Reads s [] a d bs)) (room_tests s t a d) (layRoom s t a d) (read_answer s a d bs).refusal (λ n. refl) refl (room-number s t a d)
    (λ k. skip plain (Refused plain read (Reads s [] a d bs)) (ends_tests s a d) _ (front (ends_tests s a d) ((6, TableOf s t) ∷ []) k) (split plain (Reads s [] a d bs) (ends_tests s a d) read _ ((read_path s a d bs _).0 refl))))))

find_route : (s : Shape) (t : List ℕ) (a d : ℕ) (x : Found) → Finding s t a d x → Exactly x.refusal (Whole (room_tests s t a d))
unfolding room_refusal
find_route s t a d x f =
    exactly plain (λ r. r ≡ none) (room_tests s t a d) x.refusal (λ y h e g. e ∙ sym g)
    (declared (λ r. r ≡ none) (room_tests s t a d) (room_refusal s t a d) x.refusal refl (room-number s t a d) (λ n. ap (λ (y : Found). y.refusal) (f.refused n)) given)
  where
    given : room_refusal s t a d ≡ 0 → x.refusal ≡ none
    given z =
        elim (ℕ_discrete x.hops 0) [
          | yes o ↦ ap (λ (y : Found). y.refusal) (f.none z o).0
          | no o ↦ ap (λ (y : Found). y.refusal) (f.given z (omega arith)).answer
        ]

select_routes : (s : Shape) (t : List ℕ) (a d : ℕ) (x : Selection) → Selecting s t a d x → Exactly x.refusal (Whole (select_tests s t a d))
unfolding room_refusal
select_routes s t a d x f =
    exactly plain (λ r. r ≡ none) (select_tests s t a d) x.refusal (λ y h e g. e ∙ sym g)
    (join plain (λ r. r ≡ none) (room_tests s t a d) ((16, Joined s t a d) ∷ []) x.refusal
    (declared (Whole ((16, Joined s t a d) ∷ [])) (room_tests s t a d) (room_refusal s t a d) x.refusal refl (room-number s t a d) (λ n. ap (λ (y : Selection). y.refusal) (f.refused n)) given))
  where
    given : room_refusal s t a d ≡ 0 → Whole ((16, Joined s t a d) ∷ []) x.refusal
    given z = go (f.given z).routes (f.given z).answer
      where
        go : (vss : List (List ℕ)) → x ≡ selection s vss → Whole ((16, Joined s t a d) ∷ []) x.refusal
        go [] e =
            inr (λ j. (none-selected-exactly s t a d x z f).0 (ap (λ (y : Selection). y.refusal.number) e) j.0 j.1, ap (λ (y : Selection). y.refusal) e)
        go (vs ∷ vss) e =
            let g = gives f (ap (λ (y : Selection). y.refusal.number) e) in
            inl ((get_or g.routes 0 [], g.settled.each (get_or g.routes 0 []) (member_at g.routes 0 g.some)), ap (λ (y : Selection). y.refusal) e)

-- ---- picking

module _ (s : Shape) (t : List ℕ) (a d : ℕ) where
  usable-read : (bs : List ℕ) (i : ℕ) → room_refusal s t a d ≡ 0 → i < length bs / 8 → (usable s t a d (array_at i bs) ≡ true) ↔ IsRead s t a d bs i
  usable-read bs i z h = (
    λ u. (walk-exactly s t a d (array_at i bs)).0 (eqb-true (walk_answer s t a d (array_at i bs)).refusal.number 0 (sym w ∙ u)),
    λ k. w ∙ eq-eqb (walk_answer s t a d (array_at i bs)).refusal.number 0 ((walk-exactly s t a d (array_at i bs)).1 k),
  )
    where
      w : usable s t a d (array_at i bs) ≡ eqb (walk_answer s t a d (array_at i bs)).refusal.number 0
      w = usable-walk s t a d (array_at i bs) z (array_long i bs h)

  first_read : (bs : List ℕ) (i : ℕ) → room_refusal s t a d ≡ 0 → FirstUsable s t a d bs i → SomeRead s t a d bs
  first_read bs i z h = (i, h.within, (usable-read bs i z h.within).0 h.here)

  none_read : (bs : List ℕ) → room_refusal s t a d ≡ 0 → NoneUsable s t a d bs → SomeRead s t a d bs → ⊥
  none_read bs z h k = clash _ ((usable-read bs k.0 z k.1).1 k.2) (h.each k.0 k.1)

  module _ (fs ks : List ℕ) where
    abbrev EitherRead : Type 0
    EitherRead = SomeRead s t a d fs ⊎ SomeRead s t a d ks

    missing-number : room_refusal s t a d ≡ 0 → (x : Source) → Chosen s t a d fs ks x → Number ((16, EitherRead) ∷ []) (missing x)
    missing-number z (in_fresh i) h = inl (inl (first_read fs i z h), refl)
    missing-number z (in_kept i) h = inl (inr (first_read ks i z h.1), refl)
    missing-number z nowhere h = inr (λ g. go g, refl)
      where
        go : EitherRead → ⊥
        go (inl k) = none_read fs z h.0 k
        go (inr k) = none_read ks z h.1 k

    pick-number : Number (pick_tests s t a d fs ks) (pick_refusal s t a d fs ks)
    unfolding pick_refusal pick_source room_refusal
    pick-number =
        chain (room_tests s t a d ++ ((7, Arrays s fs × Arrays s ks) ∷ [])) ((16, EitherRead) ∷ []) (lists_refusal s t a d fs ks) (missing (found s t a d fs ks)) refl (lists_number s t a d fs ks)
        (λ h.
        let e = zero_of (room_tests s t a d ++ ((7, Arrays s fs × Arrays s ks) ∷ [])) (lists_refusal s t a d fs ks) (lists_number s t a d fs ks) h in
        let z : room_refusal s t a d ≡ 0 = zero_of (room_tests s t a d) (room_refusal s t a d) (room-number s t a d) (front (room_tests s t a d) ((7, Arrays s fs × Arrays s ks) ∷ []) h) in
        missing-number z (found s t a d fs ks) (subst (Chosen s t a d fs ks) (answer-none _ (λ r. nowhere) _ (sym e)) (source_chosen s t a d fs ks e)))

    pick-refusal : Exactly (pick_answer s t a d fs ks) (Whole (pick_tests s t a d fs ks))
    unfolding pick_answer
    pick-refusal = plainly (pick_tests s t a d fs ks) (pick_refusal s t a d fs ks) refl pick-number

    place-refusal : (place_answer s t a d fs ks).refusal ≡ pick_answer s t a d fs ks
    unfolding place_answer pick_answer pick_refusal pick_source ◌or_else◌
    place-refusal = go (lists_refusal s t a d fs ks) (found s t a d fs ks)
      where
        go : (q : ℕ) (x : Source) → (place_of (q or_else missing x) (answer q (λ r. nowhere) x)).refusal ≡ plain (q or_else missing x)
        go zero (in_fresh i) = refl
        go zero (in_kept i) = refl
        go zero nowhere = refl
        go (suc q) x = refl

    pick_place : Exactly (place_answer s t a d fs ks).refusal (Whole (pick_tests s t a d fs ks))
    pick_place = subst (λ (r : Refusal). Exactly r (Whole (pick_tests s t a d fs ks))) (sym place-refusal) pick-refusal

-- ---- a step

module _ (s : Shape) (a d i : ℕ) (bs e : List ℕ) where
  abbrev byte : ℕ
  byte = get_or bs i 0

  step-with_place : with_place i (step_refusal s a d i bs e) ≡ (step_answer s a d i bs e).refusal
  unfolding step_answer with_place at_hop
  step-with_place = go (step_refusal s a d i bs e) (eqb a d)
    where
      go : (q : ℕ) (x : Bool) → with_place i q ≡ (answer q (λ r. no_step (with_place i r)) (cond x delivery (forwarded s a i e byte))).refusal
      go zero true = refl
      go zero false = refl
      go (suc q) x = refl

  byte-steps : Refused (λ n. refused_at n 1 (i + 1)) (step_tests s a e byte) (λ r. r ≡ none) (with_place i (byte_refusal s a e byte))
  unfolding with_place at_hop
  byte-steps = carry (λ n. refused_at n 1 (i + 1)) (with_place i) (λ r. r ≡ none) (step_tests s a e byte) (byte_refusal s a e byte) (refl, (refl, (refl, (refl, tt)))) (byte-number s a e byte) (λ h. refl)

  abbrev Away : Refusal → Type 0
  Away = Refused plain ((18, i < 8) ∷ []) (Refused (λ n. refused_at n 1 (i + 1)) (step_tests s a e byte) (λ r. r ≡ none))

  away-steps : Away (with_place i (away_refusal s a i bs e))
  unfolding away_refusal with_place at_hop ◌or_else◌
  away-steps =
      carry plain (λ n. with_place i (n or_else byte_refusal s a e byte)) (Refused (λ n. refused_at n 1 (i + 1)) (step_tests s a e byte) (λ r. r ≡ none)) ((18, i < 8) ∷ []) (18 unless ltb i 8) (refl, tt) (test 18 (ltb i 8) (lt i 8)) (λ h. byte-steps)

  steps : Steps s a d i bs e (with_place i (cond (eqb a d) 0 (away_refusal s a i bs e)))
  unfolding with_place at_hop
  steps =
      elim (ℕ_discrete a d) [
        | yes q ↦ inl (q, ap (λ (x : Bool). with_place i (cond x 0 (away_refusal s a i bs e))) (eq-eqb a d q))
        | no n ↦ inr (n, subst (λ (x : Bool). Away (with_place i (cond x 0 (away_refusal s a i bs e)))) (sym (ne_eqb a d n)) away-steps)
      ]

  one-step : (x y : Refusal) → Steps s a d i bs e x → Steps s a d i bs e y → x ≡ y
  one-step x y (inl h) (inl k) = h.1 ∙ sym k.1
  one-step x y (inl h) (inr k) = absurd (k.0 h.0)
  one-step x y (inr h) (inl k) = absurd (h.0 k.0)
  one-step x y (inr h) (inr k) =
      same plain (Refused (λ n. refused_at n 1 (i + 1)) (step_tests s a e byte) (λ r. r ≡ none)) ((18, i < 8) ∷ []) x y
      (λ p. same (λ n. refused_at n 1 (i + 1)) (λ r. r ≡ none) (step_tests s a e byte) x y (λ q f g. f ∙ sym g)) h.1 k.1

  step_once : Exactly (step_answer s a d i bs e).refusal (Refused plain (given_tests s a d bs e) (Steps s a d i bs e))
  unfolding step_refusal with_place at_hop ◌or_else◌
  step_once =
      subst (λ (r : Refusal). Exactly r (Refused plain (given_tests s a d bs e) (Steps s a d i bs e))) step-with_place
      (exactly plain (Steps s a d i bs e) (given_tests s a d bs e) (with_place i (step_refusal s a d i bs e)) (λ y h. one-step _ y)
      (carry plain (λ n. with_place i (n or_else cond (eqb a d) 0 (away_refusal s a i bs e))) (Steps s a d i bs e) (given_tests s a d bs e) (given_refusal s a d bs e)
      (refl, (refl, (refl, (refl, (refl, (refl, (refl, tt))))))) (given-number s a d bs e) (λ h. steps)))

-- ---- every call

pub refused-exactly : RefusedExactly
unfolding servers_answer bound_answer digits_answer digit_answer address_answer switch_answer neighbour_answer between_answer switches_answer server_at_answer parent_answer tree_answer failed_answer link_answer server_answer dead_answer fresh_answer byte_answer build_answer
refused-exactly =
    record {
      shape-refusal = λ s. numbered (shape_tests s) (shape_refusal s) (shape-number s);
      server-refusal = λ s a. numbered (server_tests s a) (server_refusal s a) (server-number s a);
      pair-refusal = λ s a b. numbered (pair_tests s a b) (pair_refusal s a b) (pair_number s a b);
      ends-refusal = λ s a d. numbered (ends_tests s a d) (ends_refusal s a d) (ends_number s a d);
      link-refusal = λ s a l. numbered (link_tests s a l) (link_refusal s a l) (link-number s a l);
      servers-of = λ s. whole (λ (x : Numbered). x.refusal) no_number (λ r. refl) (shape_tests s) (shape_refusal s) _ refl (shape-number s) refl;
      bound_of = λ s l. whole (λ (x : Numbered). x.refusal) no_number (λ r. refl) (level_tests s l) (level_refusal s l) _ refl (level-number s l) refl;
      digits_of = λ s a. whole (λ (x : Digits). x.refusal) no_digits (λ r. refl) (server_tests s a) (server_refusal s a) _ refl (server-number s a) refl;
      digit_of = λ s a l. whole (λ (x : Numbered). x.refusal) no_number (λ r. refl) (link_tests s a l) (link_refusal s a l) _ refl (link-number s a l) refl;
      address-of = λ s ds. whole (λ (x : Numbered). x.refusal) no_number (λ r. refl) (places_tests s ds) (places_refusal s ds) _ refl (places_number s ds) refl;
      switch-of = λ s a l. whole (λ (x : Switch). x.refusal) no_switch (λ r. refl) (link_tests s a l) (link_refusal s a l) _ refl (link-number s a l) refl;
      neighbour_of = λ s a l v. whole (λ (x : Numbered). x.refusal) no_number (λ r. refl) (value_tests s a l v) (value_refusal s a l v) _ refl (value-number s a l v) refl;
      level_between = λ s a b. whole (λ (x : Between). x.refusal) no_between (λ r. refl) (pair_tests s a b) (pair_refusal s a b) _ refl (pair_number s a b) (only_none (differing s a b));
      switches-of = λ s l. whole (λ (x : Numbered). x.refusal) no_number (λ r. refl) (level_tests s l) (level_refusal s l) _ refl (level-number s l) refl;
      server-at = λ s l w v. whole (λ (x : Numbered). x.refusal) no_number (λ r. refl) (port_tests s l w v) (port_refusal s l w v) _ refl (port-number s l w v) refl;
      parent-of = λ s a l x. whole (λ (y : Numbered). y.refusal) no_number (λ r. refl) (parent_tests s a l x) (parent_refusal s a l x) _ refl (parent-number s a l x) refl;
      write_tree = λ s a l. whole (λ (y : Numbered). y.refusal) no_number (λ r. refl) (link_tests s a l) (link_refusal s a l) _ refl (link-number s a l) refl;
      table-refusal = λ s t. numbered (table_tests s t) (room_table_refusal s t) (table-number s t);
      room-refusal = λ s t a d. numbered (room_tests s t a d) (room_refusal s t a d) (room-number s t a d);
      failed_link = λ s t a l. whole (λ (x : Asked). x.refusal) not_asked (λ r. refl) (table_link_tests s t a l) (table_link_refusal s t a l) _ refl (table-link-number s t a l) refl;
      table-link-refusal = λ s t a l. numbered (table_link_tests s t a l) (table_link_refusal s t a l) (table-link-number s t a l);
      table-server-refusal = λ s t a. numbered (table_server_tests s t a) (table_server_refusal s t a) (table-server-number s t a);
      mark_or_clear = λ s t c a l. plainly (counted_link_tests s t c a l) (counted_link_refusal s t c a l) refl (counted-link-number s t c a l);
      mark_or_clear_server = λ s t c a. plainly (counted_server_tests s t c a) (counted_server_refusal s t c a) refl (counted-server-number s t c a);
      dead-switch = λ s t c. whole (λ (x : DeadSwitch). x.refusal) none_dead (λ r. refl) (summary_tests s t c) (summary_refusal s t c) _ refl (summary_number s t c) (first-refusal s c (switches_in s));
      summarize = λ s t c. plainly (entries_tests s t c) (entries_refusal s t c) refl (entries-number s t c);
      byte-of = λ s l v. whole (λ (x : Numbered). x.refusal) no_number (λ r. refl) (made_tests s l v) (made_refusal s l v) _ refl (made-number s l v) refl;
      parts_of = parts_of;
      hop_of = hop_of;
      walk = walk_path;
      read_path = read_path;
      reverse_path = reverse_path;
      write_path = write_path;
      check_list = check_list;
      build_routes = λ s a d. whole (λ (x : Building). x.refusal) no_building (λ r. refl) (ends_tests s a d) (ends_refusal s a d) _ refl (ends_number s a d) refl;
      lay_route = lay_route;
      find_route = find_route;
      select_routes = select_routes;
      pick-refusal = pick-refusal;
      pick_place = pick_place;
      step_once = step_once;
    }
