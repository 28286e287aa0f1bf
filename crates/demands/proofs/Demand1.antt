-- Demand 1, proved: what each call can refuse with, from what it refuses exactly.
use Prim.Native.Nat.{ℕ, suc, ◌+◌, ◌-◌, ◌/◌, ◌≤◌, ◌<◌}
use mathlib.Core.Path.{◌≡◌, refl, sym, ap, ◌∙◌, subst}
use mathlib.Core.Logic.{◌≢◌, inl, inr}
use mathlib.Core.Bool.{Bool, true, false, cond}
use mathlib.Core.List.{List, [], ◌∷◌, ◌++◌}
use native.Mathlib.Omega.{arith}
use native.Mathlib.Decide.{dec_lt, ℕ_discrete}
use lib.Dec.{eqb}
use lib.ListN.{length, get_or, replicate, length-append, get_or-eq_default}
use Rattle.lists.specs.Lists.{is_in, in_turn}
use Rattle.lists.proofs.ListLaws.{length_turn, in_left, in_right}
use Rattle.refusals.specs.Refusals.{Refusal, none, plain, refused_at, of_route, with_earlier, OneOf, listed}
use Rattle.room.specs.declared.Shape.{Shape}
use Rattle.room.specs.Shapes.{servers_of}
use Rattle.room.specs.Refusals.{shape_refusal, level_refusal, server_refusal, pair_refusal, link_refusal, value_refusal, places_refusal, ends_refusal}
use Rattle.room.specs.Addresses.{differing}
use Rattle.room.specs.Answers.{only_level, servers_answer, bound_answer, digits_answer, digit_answer, address_answer, switch_answer, neighbour_answer, between_answer}
use Rattle.room.specs.Wiring.{port_refusal, switches_answer, server_at_answer}
use Rattle.trees.specs.Answers.{parent_refusal, parent_answer, tree_answer}
use Rattle.links.specs.Table.{table_link_refusal, room_refusal}
use Rattle.links.specs.Answers.{failed_answer}
use Rattle.summary.specs.Counts.{switches_in}
use Rattle.summary.specs.Refusals.{summary_refusal}
use Rattle.summary.specs.Answers.{dead_answer}
use Rattle.summary.proofs.AnswerLaws.{first-refusal}
use Rattle.path.specs.Told.{Hop}
use Rattle.path.specs.Bytes.{made_refusal, byte_answer, parts_refusal, no_parts, some_parts, parts_answer}
use Rattle.path.specs.Routes.{byte_to, switch_at, switch_to, switches_of, encode, level_of, value_of}
use Rattle.path.specs.Walks.{Walk, stopped, arrived, walk, hop_to, hop_refusal, fault}
use Rattle.path.specs.Answers.{no_hop, hop_by, hop_from, hop_answer, array_refusal, no_walk, walked, walk_answer, reading, read_answer, no_writing, a_writing, reversed, reverse_answer, write_refusal, written, on_the_way, write_answer}
use Rattle.path.proofs.NumberLaws.{fault-numbers}
use Rattle.verdict.specs.Checks.{check_answer}
use Rattle.build.specs.Sets.{empty_set}
use Rattle.build.specs.Answers.{build_answer}
use Rattle.laying.specs.Answers.{Lays}
use Rattle.finder.specs.Told.{Found}
use Rattle.finder.specs.Answers.{Finding}
use Rattle.select.specs.Told.{Selection}
use Rattle.select.specs.Selection.{selection, Selecting}
use Rattle.pick.specs.Picks.{Source, in_fresh, in_kept, nowhere, pick_source, pick_refusal, pick_answer}
use Rattle.pick.specs.Places.{place_of, place_answer}
use Rattle.pick.proofs.UsableLaws.{array_long}
use Rattle.pick.proofs.Promises.{empty_exactly}
use Rattle.step.specs.Told.{Step}
use Rattle.step.specs.Steps.{step_refusal, with_place, no_step, delivery, forwarded, step_answer}
use Rattle.demands.specs.Tests.{Refused, Exactly}
use Rattle.demands.specs.Demand1.{of_a_hop, at-hop, no_arrival, server_again, switch_again, meeting, PartsOf, WalkedOf, ReadingOf, WritingOf, FoundOf, SelectionOf, PlaceOf, StepOf, RefusalOf, HopOf, EveryCall}
use Rattle.demands.specs.Meetings.{Earlier, server, switch, no-hop, Meet, at_switch, at_server}
use Rattle.demands.specs.Refusals.{FailsWith, shape_tests, level_tests, server_tests, pair_tests, link_tests, parent_tests, value_tests, port_tests, made_tests, parts_tests, places_tests, table_tests, table_link_tests, table_server_tests, counted_link_tests, counted_server_tests, summary_tests, entries_tests, ends_tests, room_tests, array_tests, lay_tests, check_tests, select_tests, pick_tests, end_of, hop_tests, read_tests, write_tests, servers_tests, given_tests, step_tests, Stops, hop_fails, never_arrives, goes_on, Reads, Writes, Checks, Steps}
use Rattle.demands.proofs.Chains.{back, all, one-listed, fails, fails_in}
use Rattle.demands.proofs.Refusing.{all-at, apart_in, Of, none_of, some_of, hop_of, chain_of, whole_of, bare_none, bare_is, bare_answer, refuses, answer_refuses}
use Rattle.demands.proofs.Numbers.{read_number, plain-numbers}
use Rattle.demands.proofs.Exactly.{refused-exactly}

-- what a call refuses meets its chain
meets : {R : Type 0} {x : R} {P : R → Type 0} → Exactly x P → P x
meets {R} {x} h = (h x).0 refl

-- a refusal alone
alone : (m : ℕ) (F : List ℕ) (r : Refusal) → Of m F r → RefusalOf m F r
alone m F r h = refuses (λ x. x) (λ x. x) (λ x. refl) m F r h (λ n. refl)

-- ---- reading

-- F are the numbers of a hop but 28 and 29, B all numbers of the call
module _ (s : Shape) (t F B : List ℕ) (hops : all of_a_hop F ≡ true) (some : all (λ x. is_in x B) (F ++ (28 ∷ 29 ∷ 13 ∷ 14 ∷ [])) ≡ true) (numbers : (met used : List ℕ) (a b : ℕ) → OneOf (F ++ (28 ∷ 29 ∷ [])) (fault s t met used a b)) where
  -- a number of the call
  among : {n : ℕ} → is_in n (F ++ (28 ∷ 29 ∷ 13 ∷ 14 ∷ [])) ≡ true → OneOf B n
  among {n} e = listed (all-at (λ x. is_in x B) (F ++ (28 ∷ 29 ∷ 13 ∷ 14 ∷ [])) n some e)

  -- an array that stops does so at a hop of its route
  stops_of : {a d : ℕ} {bs : List ℕ} {r : Refusal} (m i : ℕ) → 1 ≤ i → i ≤ m → length bs ≡ 8 → Stops s t a d bs r → Of m B (of_route i r)
  unfolding is_in
  stops_of {a} {d} {bs} {r} m i p q l (hop_fails {vs} {b} {left} h k e) = go k e
    where
      few : length vs ≤ 8
      few =
          let count : length bs ≡ length vs - 1 + suc (length left) = ap length h.bytes ∙ length-append (in_turn (byte_to s) vs) (b ∷ left) ∙ ap (λ (x : ℕ). x + suc (length left)) (length_turn (byte_to s) vs) in
          omega (arith, h.way.some)

      go : {n g : ℕ} → FailsWith (read_tests s t vs b) n → Earlier s vs (hop_to s (end_of vs) b) (switch_at s (level_of b) (end_of vs)) n g → Of m B (of_route i (with_earlier 0 g (refused_at n 1 (length vs))))
      go k (server x) = (among (in_right 28 F (28 ∷ 29 ∷ 13 ∷ 14 ∷ []) refl), server_again p q x.within few)
      go k (switch x) = (among (in_right 29 F (28 ∷ 29 ∷ 13 ∷ 14 ∷ []) refl), switch_again p q x.some x.within few)
      go {n} k (no-hop x y) =
          let w = fails (λ z. z) (read_tests s t vs b) (fault s t vs (switches_of s vs) (end_of vs) b) n refl (read_number s t vs b) k in
          let z = apart_in F n x y (subst (λ (f : ℕ). is_in f (F ++ (28 ∷ 29 ∷ [])) ≡ true) (sym w.1) (some_of (numbers vs (switches_of s vs) (end_of vs) b) w.0)) in
          (among (in_left n F (28 ∷ 29 ∷ 13 ∷ 14 ∷ []) z), at-hop (all-at of_a_hop F n hops z) p q h.way.some few)
  stops_of m i p q l (never_arrives h) = (among (in_right 13 F (28 ∷ 29 ∷ 13 ∷ 14 ∷ []) refl), no_arrival p q)
  stops_of {a} {d} {bs} m i p q l (goes_on {p = j} h) = (
    among (in_right 14 F (28 ∷ 29 ∷ 13 ∷ 14 ∷ []) refl),
    at-hop {h = suc j} refl p q (omega arith) (elim (dec_lt j 8) [
      | yes y ↦ y
      | no n ↦ absurd (h.here (get_or-eq_default bs 0 {n = j} (omega arith)))
    ]),
  )

  -- a single array is route 1
  stops-route : {a d : ℕ} {bs : List ℕ} {r : Refusal} → Stops s t a d bs r → of_route 1 r ≡ r
  stops-route (hop_fails h k e) = refl
  stops-route (never_arrives h) = refl
  stops-route (goes_on h) = refl

  reads_of : {a d : ℕ} {bs : List ℕ} {r : Refusal} → length bs ≡ 8 → Reads s t a d bs r → Of 1 B r
  reads_of l (inl h) = none_of h.1
  reads_of {a} {d} {bs} {r} l (inr h) = subst (Of 1 B) (stops-route h) (stops_of 1 1 (omega arith) (omega arith) l h)

  array_of : {a d : ℕ} {bs : List ℕ} {r : Refusal} → all (λ x. is_in x B) (1 ∷ 2 ∷ 26 ∷ 3 ∷ 4 ∷ 5 ∷ 7 ∷ []) ≡ true → Refused plain (array_tests s a d bs) (Reads s t a d bs) r → Of 1 B r
  array_of {a} {d} {bs} {r} u h = whole_of 1 B (array_tests s a d bs) (Reads s t a d bs) r refl u (λ k. reads_of (back (ends_tests s a d) ((7, length bs ≡ 8) ∷ []) k).0) h

module _ (s : Shape) where
  parts_of : (b : ℕ) → PartsOf (1 ∷ 2 ∷ 26 ∷ 3 ∷ 8 ∷ 9 ∷ []) (parts_answer s b)
  unfolding parts_answer is_in
  parts_of b =
      let Else : Refusal → Type 0 = Refused (λ n. refused_at n 1 1) (parts_tests s b) (λ r. r ≡ none) in
      refuses _ _ (λ r. refl) 1 _ (parts_answer s b)
      (whole_of 1 _ (shape_tests s) Else _ refl refl
      (λ k. chain_of (λ n. refused_at n 1 1) 1 _ (parts_tests s b) (λ r. r ≡ none) _
      (λ n e. hop_of (8 ∷ 9 ∷ []) (1 ∷ 2 ∷ 26 ∷ 3 ∷ 8 ∷ 9 ∷ []) n 1 1 refl refl e (omega arith) (omega arith) (omega arith) (omega arith)) (λ h. none_of))
      (meets (refused-exactly.parts_of s b)))
      (bare_answer (λ x. x.refusal) no_parts (λ r. refl) plain (shape_refusal s) _
      (bare_answer (λ x. x.refusal) no_parts (λ r. refl) (λ r. refused_at r 1 1) (parts_refusal s b) (some_parts (level_of b) (value_of b)) (bare_none (λ x. x.refusal) no_parts (λ r. refl) (some_parts (level_of b) (value_of b)) refl)))

  bare_walked : (w : Walk) → (walked w).refusal.number ≢ 0 → walked w ≡ no_walk (walked w).refusal
  bare_walked (stopped r) n = refl
  bare_walked (arrived vs ws) n = absurd (n refl)

  bare_reversed : (w : Walk) → (reversed s w).refusal.number ≢ 0 → reversed s w ≡ no_writing (reversed s w).refusal
  bare_reversed (stopped r) n = refl
  bare_reversed (arrived vs ws) n = absurd (n refl)

  walk_of : (t : List ℕ) (a d : ℕ) (bs : List ℕ) → WalkedOf (1 ∷ 2 ∷ 26 ∷ 3 ∷ 4 ∷ 5 ∷ 7 ∷ 8 ∷ 9 ∷ 10 ∷ 11 ∷ 28 ∷ 29 ∷ 13 ∷ 14 ∷ []) (walk_answer s t a d bs)
  unfolding walk_answer is_in
  walk_of t a d bs =
      refuses _ _ (λ r. refl) 1 _ (walk_answer s t a d bs) (array_of s t (8 ∷ 9 ∷ 10 ∷ 11 ∷ []) _ refl refl (fault-numbers s t) refl (meets (refused-exactly.walk s t a d bs)))
      (bare_answer (λ x. x.refusal) no_walk (λ r. refl) plain (array_refusal s a d bs) (walked (walk s t a d bs)) (bare_walked (walk s t a d bs)))

  read_path : (a d : ℕ) (bs : List ℕ) → ReadingOf (1 ∷ 2 ∷ 26 ∷ 3 ∷ 4 ∷ 5 ∷ 7 ∷ 8 ∷ 9 ∷ 10 ∷ 28 ∷ 29 ∷ 13 ∷ 14 ∷ []) (read_answer s a d bs)
  unfolding read_answer is_in
  read_path a d bs =
      refuses _ _ (λ r. refl) 1 _ (read_answer s a d bs) (array_of s [] (8 ∷ 9 ∷ 10 ∷ []) _ refl refl (plain-numbers s) refl (meets (refused-exactly.read_path s a d bs)))
      (λ n. ap reading ((walk_of [] a d bs).nothing_else n))

  reverse_path : (a d : ℕ) (bs : List ℕ) → WritingOf (1 ∷ 2 ∷ 26 ∷ 3 ∷ 4 ∷ 5 ∷ 7 ∷ 8 ∷ 9 ∷ 10 ∷ 28 ∷ 29 ∷ 13 ∷ 14 ∷ []) (reverse_answer s a d bs)
  unfolding reverse_answer is_in
  reverse_path a d bs =
      refuses _ _ (λ r. refl) 1 _ (reverse_answer s a d bs) (array_of s [] (8 ∷ 9 ∷ 10 ∷ []) _ refl refl (plain-numbers s) refl (meets (refused-exactly.reverse_path s a d bs)))
      (bare_answer (λ x. x.refusal) no_writing (λ r. refl) plain (array_refusal s a d bs) (reversed s (walk s [] a d bs)) (bare_reversed (walk s [] a d bs)))

  hop-one : (a b : ℕ) → HopOf (1 ∷ 2 ∷ 26 ∷ 3 ∷ 4 ∷ 8 ∷ 9 ∷ 10 ∷ []) (hop_answer s a b)
  unfolding hop_answer hop_from is_in
  hop-one a b =
      let Else : Refusal → Type 0 = Refused (λ n. refused_at n 1 1) (hop_tests s a b) (λ r. r ≡ none) in
      let goes : Hop = hop_by s a b in
      refuses _ _ (λ r. refl) 1 _ (hop_answer s a b)
      (whole_of 1 _ (server_tests s a) Else _ refl refl
      (λ k. chain_of (λ n. refused_at n 1 1) 1 _ (hop_tests s a b) (λ r. r ≡ none) _
      (λ n e. hop_of (8 ∷ 9 ∷ 10 ∷ []) (1 ∷ 2 ∷ 26 ∷ 3 ∷ 4 ∷ 8 ∷ 9 ∷ 10 ∷ []) n 1 1 refl refl e (omega arith) (omega arith) (omega arith) (omega arith)) (λ h. none_of))
      (meets (refused-exactly.hop_of s a b)))
      (bare_answer (λ x. x.refusal) no_hop (λ r. refl) plain (server_refusal s a) _
      (bare_answer (λ x. x.refusal) no_hop (λ r. refl) (λ r. refused_at r 1 1) (hop_refusal s a b) goes (bare_none (λ x. x.refusal) no_hop (λ r. refl) goes refl)))

  lay_route : (t : List ℕ) (a d : ℕ) (bs : List ℕ) (r : Refusal) (u : List ℕ) → Lays s t a d bs r u → RefusalOf 1 (1 ∷ 2 ∷ 26 ∷ 3 ∷ 4 ∷ 5 ∷ 6 ∷ 7 ∷ 8 ∷ 9 ∷ 10 ∷ 28 ∷ 29 ∷ 13 ∷ 14 ∷ []) r
  unfolding is_in
  lay_route t a d bs r u h =
      alone _ _ _ (whole_of 1 _ (lay_tests s t a d bs) (Reads s [] a d bs) r refl refl
      (λ k. reads_of s [] (8 ∷ 9 ∷ 10 ∷ []) _ refl refl (plain-numbers s) (back (room_tests s t a d) ((7, length bs ≡ 8) ∷ []) k).0) (meets (refused-exactly.lay_route s t a d bs r u h)))

  -- ---- writing

  writes_of : {vs : List ℕ} {r : Refusal} → length vs ≤ 9 → Writes s vs r → Of 1 (1 ∷ 2 ∷ 26 ∷ 3 ∷ 22 ∷ 4 ∷ 5 ∷ 23 ∷ 28 ∷ 29 ∷ []) r
  unfolding is_in
  writes_of l (inl h) = none_of h.1
  writes_of {vs} {r} l (inr h) = subst (Of 1 _) (sym h.here) (go h.refused h.names)
    where
      few : length h.before ≤ 8
      few = let count = ap length h.servers ∙ length-append h.before (h.next ∷ h.rest) in omega arith

      go : {n g : ℕ} → FailsWith (write_tests s h.before h.next) n → Earlier s h.before h.next (switch_to s (end_of h.before) h.next) n g → Of 1 (1 ∷ 2 ∷ 26 ∷ 3 ∷ 22 ∷ 4 ∷ 5 ∷ 23 ∷ 28 ∷ 29 ∷ []) (with_earlier 0 g (refused_at n 1 (length h.before)))
      go k (server x) = (listed refl, server_again {i = 1} (omega arith) (omega arith) x.within few)
      go k (switch x) = (listed refl, switch_again {i = 1} (omega arith) (omega arith) x.some x.within few)
      go {n} k (no-hop x y) =
          hop_of (23 ∷ []) _ n 1 (length h.before) refl refl (apart_in (23 ∷ []) n x y (fails_in (write_tests s h.before h.next) n k)) (omega arith) (omega arith) h.way.some few

  bare_written : (vs : List ℕ) (r : Refusal) → (written s vs r).refusal.number ≢ 0 → written s vs r ≡ no_writing (written s vs r).refusal
  bare_written vs r = go (eqb r.number 0)
    where
      go : (x : Bool) → (cond x (a_writing (encode s vs)) (no_writing r)).refusal.number ≢ 0 → cond x (a_writing (encode s vs)) (no_writing r) ≡ no_writing (cond x (a_writing (encode s vs)) (no_writing r)).refusal
      go true n = absurd (n refl)
      go false n = refl

  write_path : (vs : List ℕ) → WritingOf (1 ∷ 2 ∷ 26 ∷ 3 ∷ 22 ∷ 4 ∷ 5 ∷ 23 ∷ 28 ∷ 29 ∷ []) (write_answer s vs)
  unfolding write_answer is_in
  write_path vs =
      refuses _ _ (λ r. refl) 1 _ (write_answer s vs) (whole_of 1 _ (servers_tests s vs) (Writes s vs) _ refl refl (λ k. writes_of (back (shape_tests s) ((22, (2 ≤ length vs) × (length vs ≤ 9)) ∷ (4, (i : ℕ) → i < length vs → get_or vs i 0 < servers_of s) ∷ (5, get_or vs 0 0 ≢ end_of vs) ∷ []) k).0.1) (meets (refused-exactly.write_path s vs)))
      (bare_answer (λ x. x.refusal) no_writing (λ r. refl) plain (write_refusal s vs) (written s vs (on_the_way s vs)) (bare_written vs (on_the_way s vs)))

  -- ---- lists

  -- hops that meet are hops of the routes
  met-hops : {us vs : List ℕ} {g h : ℕ} → Meet s us vs g h → (1 ≤ g) × (g < length us) × (1 ≤ h) × (h < length vs)
  met-hops (at_switch w a b) = (a.some, a.within, b.some, b.within)
  met-hops (at_server w a b) = (a.some, omega (arith, a.within), b.some, omega (arith, b.within))

  checks_of : {t : List ℕ} {a d : ℕ} {bs : List ℕ} {r : Refusal} → Checks s t a d bs r → Of (length bs / 8) (1 ∷ 2 ∷ 26 ∷ 3 ∷ 4 ∷ 5 ∷ 6 ∷ 7 ∷ 8 ∷ 9 ∷ 10 ∷ 11 ∷ 28 ∷ 29 ∷ 13 ∷ 14 ∷ 15 ∷ []) r
  unfolding is_in
  checks_of (inl h) = none_of h.1
  checks_of {t} {a} {d} {bs} {r} (inr (inl h)) =
      subst (Of (length bs / 8) _) (sym h.here)
      (stops_of s t (8 ∷ 9 ∷ 10 ∷ 11 ∷ []) _ refl refl (fault-numbers s t) (length bs / 8) (suc h.place) (omega arith) h.within (array_long h.place bs h.within) h.stops)
  checks_of {t} {a} {d} {bs} {r} (inr (inr h)) =
      let a = met-hops h.meet.meet in
      let f = (h.read h.first (omega (arith, h.order, h.within))).route.route.few in
      let g = (h.read h.second h.within).route.route.few in
      subst (Of (length bs / 8) _) (sym h.here) (listed refl, meeting (omega arith) (omega (arith, h.order)) h.within a.0 (omega (arith, a.1)) a.2 (omega (arith, a.3)))

  check_list : (t : List ℕ) (a d : ℕ) (bs : List ℕ) → RefusalOf (length bs / 8) (1 ∷ 2 ∷ 26 ∷ 3 ∷ 4 ∷ 5 ∷ 6 ∷ 7 ∷ 8 ∷ 9 ∷ 10 ∷ 11 ∷ 28 ∷ 29 ∷ 13 ∷ 14 ∷ 15 ∷ []) (check_answer s t a d bs)
  unfolding is_in
  check_list t a d bs = alone _ _ _ (whole_of _ _ (check_tests s t a d bs) (Checks s t a d bs) _ refl refl (λ k. checks_of) (meets (refused-exactly.check_list s t a d bs)))

  find_route : (t : List ℕ) (a d : ℕ) (x : Found) → Finding s t a d x → FoundOf (1 ∷ 2 ∷ 26 ∷ 3 ∷ 4 ∷ 5 ∷ 6 ∷ []) x
  unfolding is_in
  find_route t a d x f =
      refuses _ _ (λ r. refl) 0 _ x (whole_of 0 _ (room_tests s t a d) (λ r. r ≡ none) _ refl refl (λ k. none_of) (meets (refused-exactly.find_route s t a d x f)))
      (elim (ℕ_discrete (room_refusal s t a d) 0) [
        | no n ↦ bare_is (λ y. y.refusal) bare (λ r. refl) x (plain (room_refusal s t a d)) (f.refused n)
        | yes z ↦ elim (ℕ_discrete x.hops 0) [
          | yes o ↦ bare_is (λ y. y.refusal) bare (λ r. refl) x none (f.none z o).0
          | no o ↦ bare_none (λ y. y.refusal) bare (λ r. refl) x (ap (λ (y : Found). y.refusal) (f.given z (omega arith)).answer)
        ]
      ])
    where
      bare : Refusal → Found
      bare r = record { refusal = r; hops = 0; bytes = replicate 8 0 }

  bare_selection : (vss : List (List ℕ)) → (selection s vss).refusal.number ≢ 0 → selection s vss ≡ record { refusal = (selection s vss).refusal; routes = empty_set }
  bare_selection [] n = refl
  bare_selection (vs ∷ vss) n = absurd (n refl)

  select_routes : (t : List ℕ) (a d : ℕ) (x : Selection) → Selecting s t a d x → SelectionOf (1 ∷ 2 ∷ 26 ∷ 3 ∷ 4 ∷ 5 ∷ 6 ∷ 16 ∷ []) x
  unfolding is_in
  select_routes t a d x f =
      refuses _ _ (λ r. refl) 0 _ x (whole_of 0 _ (select_tests s t a d) (λ r. r ≡ none) _ refl refl (λ k. none_of) (meets (refused-exactly.select_routes s t a d x f)))
      (elim (ℕ_discrete (room_refusal s t a d) 0) [
        | no n ↦ bare_is (λ y. y.refusal) (λ r. record { refusal = r; routes = empty_set }) (λ r. refl) x (plain (room_refusal s t a d)) (f.refused n)
        | yes z ↦ subst (λ (y : Selection). y.refusal.number ≢ 0 → y ≡ record { refusal = y.refusal; routes = empty_set }) (sym (f.given z).answer) (bare_selection (f.given z).routes)
      ])

  pick-refusal : (t : List ℕ) (a d : ℕ) (fs ks : List ℕ) → RefusalOf 0 (1 ∷ 2 ∷ 26 ∷ 3 ∷ 4 ∷ 5 ∷ 6 ∷ 7 ∷ 16 ∷ []) (pick_answer s t a d fs ks)
  unfolding is_in
  pick-refusal t a d fs ks = alone _ _ _ (whole_of 0 _ (pick_tests s t a d fs ks) (λ r. r ≡ none) _ refl refl (λ k. none_of) (meets (refused-exactly.pick-refusal s t a d fs ks)))

  bare_place : (r : ℕ) (x : Source) → (place_of r x).refusal.number ≢ 0 → place_of r x ≡ record { refusal = (place_of r x).refusal; list = 0; route = 0 }
  bare_place r (in_fresh i) n = absurd (n refl)
  bare_place r (in_kept i) n = absurd (n refl)
  bare_place r nowhere n = refl

  pick_place : (t : List ℕ) (a d : ℕ) (fs ks : List ℕ) → PlaceOf (1 ∷ 2 ∷ 26 ∷ 3 ∷ 4 ∷ 5 ∷ 6 ∷ 7 ∷ 16 ∷ []) (place_answer s t a d fs ks)
  unfolding place_answer is_in
  pick_place t a d fs ks =
      refuses _ _ (λ r. refl) 0 _ (place_answer s t a d fs ks) (whole_of 0 _ (pick_tests s t a d fs ks) (λ r. r ≡ none) _ refl refl (λ k. none_of) (meets (refused-exactly.pick_place s t a d fs ks)))
      (bare_place (pick_refusal s t a d fs ks) (pick_source s t a d fs ks))

  -- ---- a step

  module _ (a d i : ℕ) (bs e : List ℕ) where
    steps_of : {r : Refusal} → Steps s a d i bs e r → Of 1 (1 ∷ 2 ∷ 26 ∷ 3 ∷ 4 ∷ 17 ∷ 7 ∷ 18 ∷ 8 ∷ 9 ∷ 10 ∷ 19 ∷ []) r
    unfolding is_in
    steps_of (inl h) = none_of h.1
    steps_of {r} (inr h) =
        whole_of 1 _ ((18, i < 8) ∷ []) (Refused (λ n. refused_at n 1 (i + 1)) (step_tests s a e (get_or bs i 0)) (λ x. x ≡ none)) r refl refl
        (λ k. chain_of (λ n. refused_at n 1 (i + 1)) 1 _ (step_tests s a e (get_or bs i 0)) (λ x. x ≡ none) r
        (λ n z. hop_of (8 ∷ 9 ∷ 10 ∷ 19 ∷ []) (1 ∷ 2 ∷ 26 ∷ 3 ∷ 4 ∷ 17 ∷ 7 ∷ 18 ∷ 8 ∷ 9 ∷ 10 ∷ 19 ∷ []) n 1 (i + 1) refl refl z (omega arith) (omega arith) (omega arith) (omega (arith, k.0))) (λ j. none_of))
        h.1

    step_once : StepOf (1 ∷ 2 ∷ 26 ∷ 3 ∷ 4 ∷ 17 ∷ 7 ∷ 18 ∷ 8 ∷ 9 ∷ 10 ∷ 19 ∷ []) (step_answer s a d i bs e)
    unfolding step_answer is_in
    step_once =
        refuses _ _ (λ r. refl) 1 _ (step_answer s a d i bs e) (whole_of 1 _ (given_tests s a d bs e) (Steps s a d i bs e) _ refl refl (λ k. steps_of) (meets (refused-exactly.step_once s a d i bs e)))
        (bare_answer (λ x. x.refusal) no_step (λ r. refl) (with_place i) (step_refusal s a d i bs e) went (went-none (eqb a d)))
      where
        went : Step
        went = cond (eqb a d) delivery (forwarded s a i e (get_or bs i 0))

        went-none : (x : Bool) → (cond x delivery (forwarded s a i e (get_or bs i 0))).refusal.number ≢ 0 → cond x delivery (forwarded s a i e (get_or bs i 0)) ≡ no_step (cond x delivery (forwarded s a i e (get_or bs i 0))).refusal
        went-none true n = absurd (n refl)
        went-none false n = absurd (n refl)

-- ---- every call

only_none : (ls : List ℕ) → (only_level ls).refusal ≡ none
only_none [] = refl
only_none (l ∷ []) = refl
only_none (l ∷ m ∷ ls) = refl

pub every_call : EveryCall
unfolding servers_answer bound_answer digits_answer digit_answer address_answer switch_answer neighbour_answer between_answer switches_answer server_at_answer parent_answer tree_answer failed_answer dead_answer byte_answer build_answer pick_answer is_in
every_call =
    record {
      shape-refusal = λ s. one-listed (shape_tests s) _ (meets (refused-exactly.shape-refusal s));
      server-refusal = λ s a. one-listed (server_tests s a) _ (meets (refused-exactly.server-refusal s a));
      pair-refusal = λ s a b. one-listed (pair_tests s a b) _ (meets (refused-exactly.pair-refusal s a b));
      ends-refusal = λ s a d. one-listed (ends_tests s a d) _ (meets (refused-exactly.ends-refusal s a d));
      link-refusal = λ s a l. one-listed (link_tests s a l) _ (meets (refused-exactly.link-refusal s a l));
      servers-of = λ s. answer_refuses _ _ (λ r. refl) 0 _ (shape_tests s) (shape_refusal s) _ refl refl (meets (refused-exactly.servers-of s)) refl;
      bound_of = λ s l. answer_refuses _ _ (λ r. refl) 0 _ (level_tests s l) (level_refusal s l) _ refl refl (meets (refused-exactly.bound_of s l)) refl;
      digits_of = λ s a. answer_refuses _ _ (λ r. refl) 0 _ (server_tests s a) (server_refusal s a) _ refl refl (meets (refused-exactly.digits_of s a)) refl;
      digit_of = λ s a l. answer_refuses _ _ (λ r. refl) 0 _ (link_tests s a l) (link_refusal s a l) _ refl refl (meets (refused-exactly.digit_of s a l)) refl;
      address-of = λ s ds. answer_refuses _ _ (λ r. refl) 0 _ (places_tests s ds) (places_refusal s ds) _ refl refl (meets (refused-exactly.address-of s ds)) refl;
      switch-of = λ s a l. answer_refuses _ _ (λ r. refl) 0 _ (link_tests s a l) (link_refusal s a l) _ refl refl (meets (refused-exactly.switch-of s a l)) refl;
      neighbour_of = λ s a l v. answer_refuses _ _ (λ r. refl) 0 _ (value_tests s a l v) (value_refusal s a l v) _ refl refl (meets (refused-exactly.neighbour_of s a l v)) refl;
      level_between = λ s a b. answer_refuses _ _ (λ r. refl) 0 _ (pair_tests s a b) (pair_refusal s a b) _ refl refl (meets (refused-exactly.level_between s a b)) (only_none (differing s a b));
      switches-of = λ s l. answer_refuses _ _ (λ r. refl) 0 _ (level_tests s l) (level_refusal s l) _ refl refl (meets (refused-exactly.switches-of s l)) refl;
      server-at = λ s l w v. answer_refuses _ _ (λ r. refl) 0 _ (port_tests s l w v) (port_refusal s l w v) _ refl refl (meets (refused-exactly.server-at s l w v)) refl;
      parent-of = λ s a l x. answer_refuses _ _ (λ r. refl) 0 _ (parent_tests s a l x) (parent_refusal s a l x) _ refl refl (meets (refused-exactly.parent-of s a l x)) refl;
      write_tree = λ s a l. answer_refuses _ _ (λ r. refl) 0 _ (link_tests s a l) (link_refusal s a l) _ refl refl (meets (refused-exactly.write_tree s a l)) refl;
      table-refusal = λ s t. one-listed (table_tests s t) _ (meets (refused-exactly.table-refusal s t));
      room-refusal = λ s t a d. one-listed (room_tests s t a d) _ (meets (refused-exactly.room-refusal s t a d));
      failed_link = λ s t a l. answer_refuses _ _ (λ r. refl) 0 _ (table_link_tests s t a l) (table_link_refusal s t a l) _ refl refl (meets (refused-exactly.failed_link s t a l)) refl;
      table-link-refusal = λ s t a l. one-listed (table_link_tests s t a l) _ (meets (refused-exactly.table-link-refusal s t a l));
      table-server-refusal = λ s t a. one-listed (table_server_tests s t a) _ (meets (refused-exactly.table-server-refusal s t a));
      mark_or_clear = λ s t c a l. alone _ _ _ (whole_of 0 _ (counted_link_tests s t c a l) (λ r. r ≡ none) _ refl refl (λ k. none_of) (meets (refused-exactly.mark_or_clear s t c a l)));
      mark_or_clear_server = λ s t c a. alone _ _ _ (whole_of 0 _ (counted_server_tests s t c a) (λ r. r ≡ none) _ refl refl (λ k. none_of) (meets (refused-exactly.mark_or_clear_server s t c a)));
      dead-switch = λ s t c. answer_refuses _ _ (λ r. refl) 0 _ (summary_tests s t c) (summary_refusal s t c) _ refl refl (meets (refused-exactly.dead-switch s t c)) (first-refusal s c (switches_in s));
      summarize = λ s t c. alone _ _ _ (whole_of 0 _ (entries_tests s t c) (λ r. r ≡ none) _ refl refl (λ k. none_of) (meets (refused-exactly.summarize s t c)));
      byte-of = λ s l v. answer_refuses _ _ (λ r. refl) 0 _ (made_tests s l v) (made_refusal s l v) _ refl refl (meets (refused-exactly.byte-of s l v)) refl;
      parts_of = parts_of;
      hop_of = hop-one;
      walk = walk_of;
      read_path = read_path;
      reverse_path = reverse_path;
      write_path = write_path;
      check_list = check_list;
      build_routes = λ s a d. answer_refuses _ _ (λ r. refl) 0 _ (ends_tests s a d) (ends_refusal s a d) _ refl refl (meets (refused-exactly.build_routes s a d)) refl;
      lay_route = lay_route;
      find_route = find_route;
      select_routes = select_routes;
      pick-refusal = pick-refusal;
      pick_place = pick_place;
      pick_route = λ s t a d fs ks. (empty_exactly s t a d fs ks).1;
      step_once = step_once;
    }
