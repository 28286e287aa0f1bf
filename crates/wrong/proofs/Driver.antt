-- Wrong answers of `driver`, refuted.
use Prim.Native.Nat.{ℕ, zero, suc, ◌-◌, ◌≤◌, ◌<◌}
use mathlib.Core.Path.{◌≡◌, refl, sym, ap, ◌∙◌, subst}
use mathlib.Core.Logic.{◌≢◌, ◌⊎◌, inl, inr}
use mathlib.Core.Bool.{true, false}
use mathlib.Core.List.{List, [], ◌∷◌}
use native.Mathlib.Omega.{arith}
use native.Mathlib.Decide.{ℕ_discrete}
use lib.Dec.{eqb}
use lib.ListN.{length, get_or, take}
use Rattle.lists.specs.Lists.{filled, is_in, first_where, place_in, same, in_turn, middle}
use Rattle.refusals.specs.Refusals.{Refusal, plain, ◌or_else◌}
use Rattle.room.specs.declared.Shape.{Shape}
use Rattle.room.specs.Shapes.{servers_of, bound, full_room}
use Rattle.room.specs.Digits.{digits_of, address_of, differ_from}
use Rattle.room.specs.Addresses.{digits, digit, with_digit, switch_of, switches_at, differing}
use Rattle.room.specs.Refusals.{shape_refusal, level_refusal, server_refusal, pair_refusal, link_refusal, value_refusal, place_bound, places_fit, places_refusal, ends_refusal}
use Rattle.room.specs.Answers.{servers_answer, bound_answer, digits_answer, digit_answer, address_answer, switch_answer, neighbour_answer, between_answer}
use Rattle.room.specs.Wiring.{server_at, port_refusal, switches_answer, server_at_answer}
use Rattle.links.specs.Table as links
use Rattle.links.specs.Table.{room_refusal}
use Rattle.links.specs.Answers.{failed_answer}
use Rattle.links.proofs.TableLaws.{dead-to}
use Rattle.trees.specs.Trees.{level_at, last_apart, lowered_at, hangs_at, lowered, parent_of}
use Rattle.trees.specs.Answers.{parent_refusal, parent_answer, tree_answer}
use Rattle.summary.specs.Counts.{numbered, switches_below, switches_in as switchesInRoom, place_of, count_below, count_at, summary_of, is_dead, recounted, recounted_below}
use Rattle.summary.specs.Refusals.{has_entries, is_counted, are_counted, counted_link_refusal, counted_server_refusal, summary_refusal, entries_refusal}
use Rattle.summary.specs.Answers.{link_answer, link_table, link_summary, all_bits, changed_server, server_answer, server_table, server_summary, first_dead, dead_answer, fresh_answer, fresh_summary}
use Rattle.path.specs.Routes.{byte_of, switch_at, level_to, switch_to, byte_to, encode, RouteTo}
use Rattle.path.specs.Walks.{stopped, arrived, hop_to, hop_refusal, again, earlier_of, fault, ended, walk_from, walk, write_fault, write_from}
use Rattle.path.specs.Bytes.{made_refusal, byte_answer, parts_refusal, parts_answer}
use Rattle.path.specs.Answers.{hop_from, hop_answer, array_refusal, walk_answer, read_answer, reverse_answer, servers_refusal, write_refusal, on_the_way, write_answer}
use Rattle.verdict.specs.Checks.{arrays, disjoint, switches_in, between, parallel, same_at, meets, met_at, meets_first, meeting, first_stop, first_meeting, first_of, first_pair, list_refusal, walks_of, check_answer}
use Rattle.build.specs.Built.{plus_one, built_hops, bytes_of as builtBytesOf, built_bytes, built_arrays}
use Rattle.build.specs.Sets.{joined, set_of, array_in}
use Rattle.build.specs.Answers.{build_answer}
use Rattle.finder.specs.Told.{Found}
use Rattle.finder.specs.Alternates.{hop_bytes, Before}
use Rattle.finder.specs.Answers.{Finding}
use Rattle.select.specs.Told.{Selection}
use Rattle.select.specs.Selection.{Selecting}
use Rattle.select.proofs.SelectLaws.{none-selected-exactly}
use Rattle.pick.specs.Picks.{usable, first_usable, first_usable_in, found, fits, lists_refusal, pick_source, pick_refusal}
use Rattle.pick.specs.Places.{place_answer}
use Rattle.step.specs.Told.{Step}
use Rattle.step.specs.Steps.{entry, mac_at, port_at, flag_at, given_refusal, byte_refusal, away_refusal, step_refusal, at_hop, with_place, step_answer}
use Rattle.driver.specs.declared.Room.{Room}
use Rattle.driver.specs.declared.Answer.{Answer}
use Rattle.driver.specs.declared.Stepped.{Stepped}
use Rattle.driver.specs.Rooms.{held, room_of, shape_in}
use Rattle.driver.specs.Words.{word, refusal_in, value_in, left, between_word, asked_word, dead_word}
use Rattle.driver.specs.Packed.{Bytes, bytes_number, mac_number, step_word, packed, unpacked}
use Rattle.driver.specs.Routes.{FoundWord, SelectedWord}
use Rattle.driver.proofs.WordLaws.{refusal-back, value-back, left-given, left_lent}
use Rattle.driver.proofs.PackLaws.{word_fields, step_small, step_unpacks}
use Rattle.driver.proofs.RouteSmall.{find-small, select-small}
use Rattle.wrong.specs.Never.{Loan}
use Rattle.wrong.specs.Examples.{array, failing, direct, tied, stale}
use Rattle.wrong.specs.Driver.{Driver}
use Rattle.wrong.proofs.Clash.{differ, clash, clash_left, tells, bit}
use Rattle.wrong.proofs.Routes.{Walks, walks}
use Rattle.wrong.proofs.Finder.{no-route, beaten, fewest, no_refusal, some-hops}
use Rattle.wrong.proofs.Select.{straight, first_walks, one-route, slot_1_first}
use Rattle.wrong.proofs.Step.{nothing_left}
use Rattle.wrong.proofs.Trees.{rows, held_number}

-- the whole word of an answer
abbrev said : Answer → ℕ
said x = x.word

-- ---- the search, where there is a route vs

module _ {s : Shape} {t : List ℕ} {a d : ℕ} {w : Answer} {lent path vs xs : List ℕ} (taken : room_refusal s t a d ≡ 0) (k : Walks s t a d vs xs) (x : FoundWord s t a d w lent path) where
  some : 0 < x.answer.hops
  some = some-hops taken k x.finding

  hops : value_in w ≡ x.answer.hops
  hops = ap value_in x.says ∙ value-back x.answer.refusal x.answer.hops (find-small x.answer x.finding)

  written : {bs : List ℕ} → path ≡ bs → x.answer.bytes ≡ bs
  written e = left-given x.answer.refusal.number lent x.answer.bytes (no_refusal taken some x.finding) ∙ sym x.leaves ∙ e

  -- its hops are told, and are not more than those of vs
  find-some : value_in w ≡ 0 → ⊥
  find-some z = omega (arith, some, hops)

  find_fewest : length vs ≤ value_in w → ⊥
  find_fewest l = fewest taken some x.finding k (omega (arith, hops))

  -- its bytes are written: a route, and one that vs does not come before
  find-no_route : {bs : List ℕ} {q : Refusal} → walk s t a d bs ≡ stopped q → path ≡ bs → ⊥
  find-no_route c e = no-route taken some x.finding (ap (walk s t a d) (written e) ∙ c)

  find_beaten : {bs us ws : List ℕ} → walk s t a d bs ≡ arrived us ws → Before s vs us → path ≡ bs → ⊥
  find_beaten c b e = beaten taken some x.finding (ap (walk s t a d) (written e) ∙ c) k b

-- ---- the search, where there may be none

-- the bytes that it writes are zeros or walk to the destination
find-nothing : {s : Shape} {t : List ℕ} {a d : ℕ} {w : Answer} {lent path bs : List ℕ} {q : Refusal} → room_refusal s t a d ≡ 0 → FoundWord s t a d w lent path → walk s t a d bs ≡ stopped q → eqb 0 (get_or bs 0 0) ≡ false → path ≡ bs → ⊥
find-nothing {s} {t} {a} {d} {lent = lent} taken x c n e =
    elim (ℕ_discrete x.answer.hops 0) [
      | yes z ↦ clash_left 0 n (x.leaves ∙ ap (λ (y : Found). left y.refusal.number lent y.bytes) (x.finding.none taken z).0) e
      | no m ↦
          let some : 0 < x.answer.hops = omega arith in
          let f = left-given x.answer.refusal.number lent x.answer.bytes (no_refusal taken some x.finding) ∙ sym x.leaves ∙ e in
          no-route taken some x.finding (ap (walk s t a d) f ∙ c)
    ]

-- ---- selection

module _ {s : Shape} {t : List ℕ} {a d : ℕ} {w : Answer} {lent routes : List ℕ} (x : SelectedWord s t a d w lent routes) where
  number : (refusal_in w).number ≡ x.answer.refusal.number
  number = ap (λ (r : Refusal). r.number) (ap refusal_in x.says ∙ refusal-back x.answer.refusal x.answer.routes.count (select-small x.answer x.selecting))

  count : value_in w ≡ x.answer.routes.count
  count = ap value_in x.says ∙ value-back x.answer.refusal x.answer.routes.count (select-small x.answer x.selecting)

  -- what it writes begins with a route, where it is not what was lent
  select-first_walks : {bs : List ℕ} {q : Refusal} → walk s t a d (take 8 bs) ≡ stopped q → eqb (get_or lent 0 0) (get_or bs 0 0) ≡ false → routes ≡ bs → ⊥
  unfolding array_in
  select-first_walks c n e =
      elim (ℕ_discrete x.answer.refusal.number 0) [
        | yes z ↦
            let f = left-given x.answer.refusal.number lent x.answer.routes.bytes z ∙ sym x.leaves ∙ e in
            first_walks x.selecting z (ap (λ (y : List ℕ). walk s t a d (take 8 y)) f ∙ c)
        | no m ↦ clash_left 0 n (x.leaves ∙ sym (left_lent x.answer.refusal.number lent x.answer.routes.bytes m)) e
      ]

-- no route leads to a dead server
dead_end : {s : Shape} {t : List ℕ} {a d : ℕ} → links.Dead s t d → (vs : List ℕ) → RouteTo s t a d vs → ⊥
dead_end {s} {t} {a} {d} h vs r =
    let i : ℕ = length vs - 2 in
    let p : suc i < length vs = omega (arith, r.route.some) in
    let e : suc i ≡ length vs - 1 = omega (arith, r.route.some) in
    let f : get_or vs (suc i) 0 ≡ d = ap (λ (j : ℕ). get_or vs j 0) e ∙ r.arrives in
    differ bit refl
    (sym (dead-to h (level_to s (get_or vs i 0) (get_or vs (suc i) 0)) (get_or vs i 0) (r.route.hops i p).level)
    ∙ subst (λ (y : ℕ). links.live t (level_to s (get_or vs i 0) (get_or vs (suc i) 0)) (get_or vs i 0) y ≡ true) f (r.route.alive i p))

-- the first array of what selection writes, 00 to 13 of (4,1) with server 03 dead
first-array : {w : Answer} {lent routes : List ℕ} → SelectedWord (full_room 4 1) (failing 3 3) 0 7 w lent routes → take 8 routes ≡ direct
unfolding array_in
first-array {w} {lent} x =
    let k = slot_1_first x.selecting in
    ap (take 8) (x.leaves ∙ sym (left-given x.answer.refusal.number lent x.answer.routes.bytes k.0)) ∙ k.1

-- ---- refused

-- where the room, its ends or its table are refused, the word of the search and of selection says so
module _ {s : Shape} {t : List ℕ} {a d : ℕ} {w : Answer} {lent put : List ℕ} (h : room_refusal s t a d ≢ 0) where
  pub find-refused : FoundWord s t a d w lent put → w ≡ word (plain (room_refusal s t a d)) 0
  find-refused x = x.says ∙ ap (λ (y : Found). word y.refusal y.hops) (x.finding.refused h)

  pub select-refused : SelectedWord s t a d w lent put → w ≡ word (plain (room_refusal s t a d)) 0
  select-refused x = x.says ∙ ap (λ (y : Selection). word y.refusal y.routes.count) (x.selecting.refused h)

refused_5 : {r : Found} → Finding (full_room 2 2) tied 7 7 r → r.refusal.number ≢ 0
unfolding room_refusal ends_refusal pair_refusal server_refusal shape_refusal servers_of ◌or_else◌
refused_5 h z = differ (λ y. y) refl (sym z ∙ ap (λ (r : Found). r.refusal.number) (h.refused (λ e. differ (λ y. y) refl e)))

refused_16 : {r : Selection} → Selecting (full_room 4 1) (failing 7 3) 0 7 r → r.refusal.number ≢ 0
unfolding room_refusal links.bit links.failed links.table_refusal links.bits_fit links.fits_levels ends_refusal pair_refusal server_refusal shape_refusal servers_of ◌or_else◌
refused_16 {r} h z =
    differ (λ y. y) refl (sym z ∙ (none-selected-exactly (full_room 4 1) (failing 7 3) 0 7 r refl h).1 (dead_end dead))
  where
    each : (l : ℕ) → l ≤ 1 → links.failed (failing 7 3) 7 l ≡ true
    each zero p = refl
    each (suc zero) p = refl
    each (suc (suc l)) p = let n : ⊥ = omega arith in absurd n

    dead : links.Dead (full_room 4 1) (failing 7 3) 7
    dead = record { all = each }

-- ---- the way back

-- at a delivery, or on a refusal, the highest byte of a step's word is zero
no_back : (c : Room) (a d i : ℕ) (bs es : List ℕ) {y : Stepped} → Bytes es → y ≡ packed (step_answer (shape_in c) a d i bs es) → ((unpacked y).delivered ≡ true) ⊎ ((unpacked y).refusal.number ≢ 0) → 72057594037927936 ≤ y.word → ⊥
unfolding packed byte_of
no_back c a d i bs es {y} h p o f =
    let x = step_answer (shape_in c) a d i bs es in
    let u : unpacked y ≡ x = ap unpacked p ∙ step_unpacks (shape_in c) a d i bs es h in
    let z = nothing_left (shape_in c) a d i bs es u o in
    let b = (word_fields x (step_small (shape_in c) a d i bs es h)).back in
    let l : x.level ≡ 0 = sym (ap (λ (w : Step). w.level) u) ∙ z.0 in
    let v : x.old ≡ 0 = sym (ap (λ (w : Step). w.old) u) ∙ z.1 in
    let w : y.word ≡ step_word x = ap (λ (k : Stepped). k.word) p in
    omega (arith, b, l, v, w, f)

-- ---- all of them

pub wrong_driver : (o q b : Loan) → Driver o q b
unfolding servers_of bound digits_of address_of filled differ_from digits digit with_digit switch_of differing ◌or_else◌ shape_refusal level_refusal server_refusal pair_refusal link_refusal value_refusal place_bound places_fit places_refusal servers_answer bound_answer digits_answer digit_answer address_answer switch_answer neighbour_answer between_answer links.bit links.failed links.live links.with_bit links.changed links.bits_fit links.fits_levels links.table_refusal links.room_table_refusal links.table_link_refusal links.table_server_refusal failed_answer numbered switches_below switchesInRoom place_of count_below count_at summary_of is_dead recounted recounted_below has_entries is_counted are_counted counted_link_refusal counted_server_refusal summary_refusal entries_refusal link_answer link_table link_summary all_bits changed_server server_answer server_table server_summary first_dead dead_answer fresh_answer fresh_summary same is_in first_where place_in in_turn middle byte_of switch_at level_to switch_to byte_to encode hop_to hop_refusal again earlier_of fault ended walk_from walk write_fault write_from ends_refusal hop_from hop_answer array_refusal walk_answer read_answer reverse_answer servers_refusal write_refusal on_the_way write_answer arrays disjoint switches_in between parallel same_at meets met_at meets_first meeting first_stop first_meeting first_of first_pair room_refusal list_refusal walks_of check_answer plus_one built_hops builtBytesOf built_bytes built_arrays joined set_of array_in build_answer hop_bytes usable first_usable first_usable_in found fits lists_refusal pick_source pick_refusal place_answer entry mac_at port_at flag_at given_refusal byte_refusal away_refusal step_refusal at_hop with_place step_answer switches_at server_at port_refusal switches_answer server_at_answer made_refusal byte_answer parts_refusal parts_answer level_at last_apart lowered_at hangs_at lowered parent_of parent_refusal parent_answer tree_answer held room_of shape_in word refusal_in value_in between_word asked_word dead_word bytes_number mac_number step_word packed
wrong_driver o q b =
    record {
      version_in_bytes = clash (λ y. y) refl;
      version_before = clash (λ y. y) refl;
      version_first_alone = clash (λ y. y) refl;
      full_room_n_and_k_exchanged = clash (λ (y : Room). y.number) refl;
      full_room_k_for_m = clash (λ (y : Room). y.number) refl;
      full_room_without_m = clash (λ (y : Room). y.number) refl;
      room_n_and_k_exchanged = clash (λ (y : Room). y.number) refl;
      room_k_and_m_exchanged = clash (λ (y : Room). y.number) refl;
      room_m_forgotten = clash (λ (y : Room). y.number) refl;
      room_without_m = clash (λ (y : Room). y.number) refl;
      room_n_wraps = clash (λ (y : Room). y.number) refl;
      room_k_wraps = clash (λ (y : Room). y.number) refl;
      room_m_wraps = clash (λ (y : Room). y.number) refl;
      room_n_not_held = clash (λ (y : Room). y.number) refl;
      room_k_not_held = clash (λ (y : Room). y.number) refl;
      room_m_not_held = clash (λ (y : Room). y.number) refl;
      room_n_cut = clash (λ (y : Room). y.number) refl;
      room_m_cut = clash (λ (y : Room). y.number) refl;
      shape_n_and_k_exchanged = clash said refl;
      shape_servers_not_bounded = clash said refl;
      shape_above_m_ignored = clash said refl;
      shape_without_m = clash said refl;
      shape_256_levels = clash said refl;
      shape_number_as_value = clash said refl;
      shape_servers_before_fill = clash said refl;
      shape_fill_before_levels = clash said refl;
      shape_full_room_refused = clash said refl;
      shape_fill_1_taken = clash said refl;
      shape_fill_above_n_taken = clash said refl;
      shape_largest_fill_taken = clash said refl;
      shape_of_the_full_room = clash said refl;
      servers_one_level_less = clash said refl;
      servers_value_low = clash said refl;
      servers_of_the_full_room = clash said refl;
      servers_m_at_every_level = clash said refl;
      servers_told_before_fill = clash said refl;
      servers_without_m = clash said refl;
      bound_is_k = clash said refl;
      bound_above_k = clash said refl;
      bound_level_cut = clash said refl;
      bound_m_at_level_0 = clash said refl;
      bound_n_at_level_k = clash said refl;
      switches_ports_counted = clash said refl;
      switches_one_level_less = clash said refl;
      switches_servers_counted = clash said refl;
      switches_all_levels = clash said refl;
      switches_above_k = clash said refl;
      switches_of_n_at_level_k = clash said refl;
      switches_of_m_at_level_0 = clash said refl;
      digits_address_wraps = λ κ x p. differ said refl p.0;
      digits_counted = λ κ x p. differ said refl p.0;
      digits_reversed = λ κ r x p. clash_left 1 refl p.1;
      digits_not_written = λ κ r x p. clash_left 0 refl p.1;
      digits_touched = λ κ r x p. clash_left 0 refl p.1;
      digits_of_the_full_room = λ κ r x p. clash_left 0 refl p.1;
      digits_to_the_base_m = λ κ r x p. clash_left 0 refl p.1;
      digit_from_the_other_end = clash said refl;
      digit_server_and_level_exchanged = clash said refl;
      digit_server_cut = clash said refl;
      digit_of_the_full_room = clash said refl;
      digit_to_the_base_m = clash said refl;
      address_reversed = clash said refl;
      address_place_above_k = clash said refl;
      address_digit_cut = clash said refl;
      address_digit_k_bounded_by_n = clash said refl;
      address_digit_2_bounded_by_m = clash said refl;
      address_digit_0_bounded_by_m = clash said refl;
      switch_not_closed_up = clash said refl;
      switch_with_level = clash said refl;
      switch_of_the_full_room = clash said refl;
      switch_to_the_base_m = clash said refl;
      server_at_switch_and_port_exchanged = clash said refl;
      server_at_digit_0 = clash said refl;
      server_at_not_moved_up = clash said refl;
      server_at_port_not_bounded = clash said refl;
      server_at_switch_not_bounded = clash said refl;
      server_at_port_cut = clash said refl;
      server_at_port_m_at_level_k = clash said refl;
      server_at_port_5_refused = clash said refl;
      server_at_switch_256 = clash said refl;
      server_at_switch_256_refused = clash said refl;
      neighbour_level_and_value_exchanged = clash said refl;
      neighbour_value_not_bounded = clash said refl;
      neighbour_value_cut = clash said refl;
      neighbour_value_5_refused = clash said refl;
      neighbour_value_m_at_level_k = clash said refl;
      neighbour_in_the_full_room = clash said refl;
      between_from_0 = clash said refl;
      between_two_digits_apart = clash said refl;
      between_in_the_full_room = clash said refl;
      between_to_the_base_m = clash said refl;
      failed_told_as_live = clash said refl;
      failed_another_link = clash said refl;
      failed_in_full_table = clash said refl;
      marked_above_k = λ κ x p. differ said refl p.0;
      mark_counted = λ κ x p. differ said refl p.0;
      mark_count_told = λ κ x p. differ said refl p.0;
      mark_level_cut = λ κ x p. differ said refl p.0;
      mark_summary_before_table = λ κ x p. differ said refl p.0;
      mark_long_summary = λ κ x p. differ said refl p.0;
      mark_entry_not_tested = λ κ x p. differ said refl p.0;
      mark_elsewhere_tested = λ κ x p. differ said refl p.0;
      mark_m_servers_counted = λ κ x p. differ said refl p.0;
      marks_nothing = λ κ r x p. clash_left 3 refl p.1;
      mark_server_and_level_exchanged = λ κ r x p. clash_left 0 refl p.1;
      mark_touched = λ κ r x p. clash_left 3 refl p.1;
      mark_table_touched = λ κ r x p. clash_left 5 refl p.1;
      marked_in_full_table = λ κ r x p. clash_left 8 refl p.1;
      mark_not_counted = λ κ r x p. clash_left 3 refl p.2;
      mark_counted_twice = λ κ r x p. clash_left 3 refl p.2;
      mark_place_by_power = λ κ r x p. clash_left 3 refl p.2;
      mark_elsewhere_corrected = λ κ r x p. clash_left 0 refl p.2;
      mark_summary_touched = λ κ r x p. clash_left 3 refl p.2;
      cleared_above_k = λ κ x p. differ said refl p.0;
      clear_level_before_address = λ κ x p. differ said refl p.0;
      clear_summary_before_table = λ κ x p. differ said refl p.0;
      clear_long_summary = λ κ x p. differ said refl p.0;
      clear_entry_not_tested = λ κ x p. differ said refl p.0;
      clear_elsewhere_tested = λ κ x p. differ said refl p.0;
      clears_all = λ κ r x p. clash_left 3 refl p.1;
      clears_level_k = λ κ r x p. clash_left 3 refl p.1;
      clear_touched = λ κ r x p. clash_left 3 refl p.1;
      clear_table_touched = λ κ r x p. clash_left 5 refl p.1;
      cleared_in_full_table = λ κ r x p. clash_left 8 refl p.1;
      clearing_not_counted = λ κ r x p. clash_left 3 refl p.2;
      clear_unmarked_subtracted = λ κ r x p. clash_left 3 refl p.2;
      clear_place_by_power = λ κ r x p. clash_left 3 refl p.2;
      clear_elsewhere_corrected = λ κ r x p. clash_left 0 refl p.2;
      clear_summary_touched = λ κ r x p. clash_left 3 refl p.2;
      mark_all_n = λ κ x p. differ said refl p.0;
      mark_all_table_before_address = λ κ x p. differ said refl p.0;
      mark_all_cut = λ κ x p. differ said refl p.0;
      mark_all_summary_before_table = λ κ x p. differ said refl p.0;
      mark_all_long_summary = λ κ x p. differ said refl p.0;
      mark_all_level_k_not_tested = λ κ x p. differ said refl p.0;
      mark_all_entry_not_tested = λ κ x p. differ said refl p.0;
      mark_all_elsewhere_tested = λ κ x p. differ said refl p.0;
      marks_no_server = λ κ r x p. clash_left 3 refl p.1;
      marks_one_link = λ κ r x p. clash_left 3 refl p.1;
      marks_whole_byte = λ κ r x p. clash_left 3 refl p.1;
      mark_all_touched = λ κ r x p. clash_left 3 refl p.1;
      mark_all_table_touched = λ κ r x p. clash_left 5 refl p.1;
      server_marked_in_full_table = λ κ r x p. clash_left 8 refl p.1;
      mark_all_level_0_alone = λ κ r x p. clash_left 3 refl p.2;
      mark_all_counted_twice = λ κ r x p. clash_left 1 refl p.2;
      mark_all_place_by_power = λ κ r x p. clash_left 3 refl p.2;
      mark_all_elsewhere_corrected = λ κ r x p. clash_left 0 refl p.2;
      mark_all_summary_touched = λ κ r x p. clash_left 1 refl p.2;
      clear_all_n = λ κ x p. differ said refl p.0;
      clear_all_table_before_address = λ κ x p. differ said refl p.0;
      clear_all_counted = λ κ x p. differ said refl p.0;
      clear_all_summary_before_table = λ κ x p. differ said refl p.0;
      clear_all_long_summary = λ κ x p. differ said refl p.0;
      clear_all_level_k_not_tested = λ κ x p. differ said refl p.0;
      clear_all_entry_not_tested = λ κ x p. differ said refl p.0;
      clear_all_elsewhere_tested = λ κ x p. differ said refl p.0;
      clears_no_server = λ κ r x p. clash_left 3 refl p.1;
      clears_one_link = λ κ r x p. clash_left 3 refl p.1;
      clears_whole_table = λ κ r x p. clash_left 7 refl p.1;
      clear_all_touched = λ κ r x p. clash_left 3 refl p.1;
      clear_all_table_touched = λ κ r x p. clash_left 5 refl p.1;
      server_cleared_in_full_table = λ κ r x p. clash_left 8 refl p.1;
      clear_all_level_0_alone = λ κ r x p. clash_left 3 refl p.2;
      clear_all_unmarked_subtracted = λ κ r x p. clash_left 3 refl p.2;
      clear_all_place_by_power = λ κ r x p. clash_left 3 refl p.2;
      clear_all_elsewhere_corrected = λ κ r x p. clash_left 0 refl p.2;
      clear_all_summary_touched = λ κ r x p. clash_left 1 refl p.2;
      dead_first_as_0 = clash said refl;
      dead_none_as_first = clash said refl;
      dead_not_said_found = clash said refl;
      dead_level_and_number_exchanged = clash said refl;
      dead_place_for_number = clash said refl;
      dead_level_by_power = clash said refl;
      dead_n_for_m = clash said refl;
      dead_m_for_n = clash said refl;
      dead_later_given = clash said refl;
      dead_higher_level_first = clash said refl;
      dead_over_wrong_entries = clash said refl;
      dead_tested_to_the_first = clash said refl;
      dead_summary_before_table = clash said refl;
      dead_long_summary = clash said refl;
      dead_beside_refusal = clash said refl;
      dead_full_table = clash said refl;
      fresh_old_entries_tested = λ κ x p. differ said refl p.0;
      fresh_marks_told = λ κ x p. differ said refl p.0;
      fresh_summary_before_table = λ κ x p. differ said refl p.0;
      fresh_long_summary = λ κ x p. differ said refl p.0;
      fresh_not_written = λ κ r x p. clash_left 0 refl p.1;
      fresh_added = λ κ r x p. clash_left 3 refl p.1;
      fresh_other_level = λ κ r x p. clash_left 1 refl p.1;
      fresh_place_by_power = λ κ r x p. clash_left 3 refl p.1;
      fresh_m_servers = λ κ r x p. clash_left 0 refl p.1;
      fresh_touched = λ κ r x p. clash_left 0 refl p.1;
      fresh_touched_by_table = λ κ r x p. clash_left 0 refl p.1;
      path_byte_position_low = clash said refl;
      path_byte_level_and_value_exchanged = clash said refl;
      path_byte_value_not_bounded = clash said refl;
      path_byte_nine_for_21 = clash said refl;
      path_byte_value_m_at_level_k = clash said refl;
      path_byte_value_5_refused = clash said refl;
      parts_level_and_value_exchanged = clash said refl;
      parts_byte_told = clash said refl;
      parts_number_cut = clash said refl;
      parts_no_place = clash said refl;
      parts_value_m_at_level_k = clash said refl;
      parts_value_5_refused = clash said refl;
      hop_level_and_old_exchanged = clash said refl;
      hop_byte_itself = clash said refl;
      hop_byte_highest = clash said refl;
      hop_byte_lowest = clash said refl;
      hop_byte_not_told = clash said refl;
      hop_level_not_told = clash said refl;
      hop_old_not_told = clash said refl;
      hop_level_apart = clash said refl;
      hop_old_at_the_level_below = clash said refl;
      hop_stays = clash said refl;
      hop_number_cut = clash said refl;
      hop_byte_cut = clash said refl;
      hop_server_cut = clash said refl;
      hop_zero_byte_is_no_hop = clash said refl;
      hop_zero_byte_leaves_nothing = clash said refl;
      hop_eight_with_no_place = clash said refl;
      hop_nine_with_no_place = clash said refl;
      hop_ten_with_no_place = clash said refl;
      hop_eight_at_route_0 = clash said refl;
      hop_nine_at_hop_2 = clash said refl;
      hop_ten_at_hop_0 = clash said refl;
      hop_four_with_a_place = clash said refl;
      hop_value_before_position = clash said refl;
      hop_position_before_address = clash said refl;
      hop_next_with_10 = clash said refl;
      hop_byte_with_10 = clash said refl;
      hop_next_with_9 = clash said refl;
      hop_byte_with_9 = clash said refl;
      hop_to_value_m = clash said refl;
      hop_four_for_nine = clash said refl;
      hop_value_5_refused = clash said refl;
      hop_new_value_at_level_k = clash said refl;
      hop_old_to_the_base_m = clash said refl;
      hop_in_the_full_room = clash said refl;
      read_hops_for_servers = λ κ x p. differ said refl p.0;
      read_route_and_hop_exchanged = λ κ x p. differ said refl p.0;
      read_not_written = λ κ r x p. clash_left 0 refl p.1;
      read_zeros_forgotten = λ κ r x p. clash_left 3 refl p.1;
      read_touched = λ κ r x p. clash_left 0 refl p.1;
      read_by_value_m = λ κ r x p. clash_left 0 refl p.1;
      read_four_for_nine = λ κ x p. differ said refl p.0;
      read_by_value_3_refused = λ κ x p. differ said refl p.0;
      read_in_the_full_room = λ κ x p. differ said refl p.0;
      read_earlier_byte_zero = λ κ x p. differ said refl p.0;
      read_earlier_halves_exchanged = λ κ x p. differ said refl p.0;
      read_hop_bytes_exchanged = λ κ x p. differ said refl p.0;
      read_earlier_as_value = λ κ x p. differ said refl p.0;
      read_count_told_with_29 = λ κ x p. differ said refl p.0;
      write_nine_refused = λ κ x p. differ said refl p.0;
      write_place_one_off = λ κ x p. differ said refl p.0;
      write_position_low = λ κ r x p. clash_left 0 refl p.1;
      write_not_written = λ κ r x p. clash_left 0 refl p.1;
      write_touched = λ κ r x p. clash_left 0 refl p.1;
      written_in_the_full_room = λ κ r x p. clash_left 0 refl p.1;
      write_earlier_byte_zero = λ κ x p. differ said refl p.0;
      write_earlier_halves_exchanged = λ κ x p. differ said refl p.0;
      write_hop_bytes_exchanged = λ κ x p. differ said refl p.0;
      write_earlier_as_value = λ κ x p. differ said refl p.0;
      reverse_read_from_destination = λ κ x p. differ said refl p.0;
      reverse_hops_told = λ κ x p. differ said refl p.0;
      reverse_is_identity = λ κ r x p. clash_left 0 refl p.1;
      reverse_bytes_turned_round = λ κ r x p. clash_left 0 refl p.1;
      reverse_not_written = λ κ r x p. clash_left 0 refl p.1;
      reverse_touched = λ κ r x p. clash_left 0 refl p.1;
      reverse_bytes_turned_round_at_level_k = λ κ r x p. clash_left 0 refl p.1;
      reverse_trace_not_turned_round = λ κ r x p. clash_left 0 refl p.1;
      reverse_last_hop_left_out = λ κ r x p. clash_left 0 refl p.1;
      reverse_first_hop_left_out = λ κ r x p. clash_left 1 refl p.1;
      reverse_zeros_before = λ κ r x p. clash_left 0 refl p.1;
      reverse_zeros_forgotten = λ κ r x p. clash_left 2 refl p.1;
      reverse_zero_byte_is_the_end = λ κ x p. differ said refl p.0;
      reverse_nothing_before_a_zero_byte = λ κ r x p. clash_left 0 refl p.1;
      reverse_zero_byte_left_out = λ κ r x p. clash_left 0 refl p.1;
      reverse_way_back_cut = λ κ r x p. clash_left 4 refl p.1;
      reverse_way_back_on_refusal = λ κ r x p. clash_left 1 refl p.1;
      reversed_by_value_m = λ κ r x p. clash_left 0 refl p.1;
      reverse_by_value_3_refused = λ κ x p. differ said refl p.0;
      reversed_in_the_full_room = λ κ r x p. clash_left 0 refl p.1;
      reverse_earlier_byte_zero = λ κ x p. differ said refl p.0;
      reverse_earlier_halves_exchanged = λ κ x p. differ said refl p.0;
      reverse_hop_bytes_exchanged = λ κ x p. differ said refl p.0;
      reverse_earlier_as_value = λ κ x p. differ said refl p.0;
      check_middle_servers_only = clash said refl;
      check_earlier_of_the_pair = λ κ r x. tells (λ (y : Answer). (refusal_in y).route) refl;
      check_receiver_forgotten = clash said refl;
      check_full_table_accepted = clash said refl;
      check_half_filled_table_refused = clash said refl;
      check_value_m_accepted = clash said refl;
      check_value_3_refused = clash said refl;
      check_server_again_before_link = clash said refl;
      check_earlier_byte_zero = clash said refl;
      check_earlier_halves_exchanged = clash said refl;
      check_earlier_by_tens = clash said refl;
      check_earlier_route_alone = clash said refl;
      check_earlier_hop_alone = clash said refl;
      check_earlier_in_two_bytes = clash said refl;
      check_earlier_as_value = clash said refl;
      build_room_counted = λ κ x p. differ said refl p.0;
      build_same_ends = λ κ x p. differ said refl p.0;
      build_lower_slots_first = λ κ r x p. clash_left 0 refl p.1;
      build_not_written = λ κ r x p. clash_left 0 refl p.1;
      build_zeros_forgotten = λ κ r x p. clash_left 16 refl p.1;
      build_touched = λ κ r x p. clash_left 0 refl p.1;
      build_detour_mod_n = λ κ r x p. clash_left 0 refl p.1;
      build_detour_mod_m = λ κ r x p. clash_left 24 refl p.1;
      build_in_the_full_room = λ κ x p. differ said refl p.0;
      find_servers_for_hops = λ κ x p. find_fewest refl (walks direct _ _ refl refl refl) p (omega arith);
      find_denied = λ κ x p. find-some refl (walks (array (0x41 ∷ 0x01 ∷ 0x40 ∷ [])) _ _ refl refl refl) p refl;
      find_lower_level_first = λ κ r x p. find_beaten refl (walks (array (0x81 ∷ 0x41 ∷ 0x01 ∷ [])) _ _ refl refl refl) p refl (inr (refl, inl (inl (omega arith))));
      find_tie_from_the_other_end = λ κ r x p. find_beaten refl (walks (array (0x81 ∷ 0x41 ∷ 0x01 ∷ [])) _ _ refl refl refl) p refl (inr (refl, inl (inl (omega arith))));
      find_not_written = λ κ r x p. find-no_route refl (walks (array (0x81 ∷ 0x41 ∷ 0x01 ∷ [])) _ _ refl refl refl) p refl;
      find_touched = λ κ r x p. clash_left 0 refl (p.leaves ∙ sym (left_lent p.answer.refusal.number (stale 8) p.answer.bytes (refused_5 p.finding)));
      find_value_m_tried = λ κ r x p. find-nothing refl p refl refl;
      find_value_3_not_tried = λ κ x p. find-some refl (walks (array (0x03 ∷ [])) _ _ refl refl refl) p refl;
      find_in_the_full_room = λ κ x p. differ said refl (find-refused (differ (λ y. y) refl) p);
      find_over_full_table = λ κ x p. differ said refl (find-refused (differ (λ y. y) refl) p);
      select_sixteen_with_a_route = λ κ x p. (none-selected-exactly _ _ _ _ _ refl p.selecting).0 (sym (number p)) _ straight.route;
      select_denied = λ κ x p. one-route p.selecting (sym (number p)) (sym (count p));
      select_lower_slots_first = λ κ r x p e. differ (λ (y : List ℕ). get_or y 0 0) refl (sym (first-array p) ∙ ap (take 8) e);
      select_not_written = λ κ r x p e. differ (λ (y : List ℕ). get_or y 0 0) refl (sym (first-array p) ∙ ap (take 8) e);
      select_touched = λ κ r x p. clash_left 0 refl (p.leaves ∙ sym (left_lent p.answer.refusal.number (stale 32) p.answer.routes.bytes (refused_16 p.selecting)));
      select_detour_mod_n = λ κ r x p. select-first_walks p refl refl;
      select_value_m_tried = λ κ r x p. select-first_walks p refl refl;
      select_sixteen_for_value_3 = λ κ x p. (none-selected-exactly _ _ _ _ _ refl p.selecting).0 (sym (number p)) _ (walks (array (0x03 ∷ [])) _ _ refl refl refl).route;
      select_in_the_full_room = λ κ x p. differ said refl (select-refused (differ (λ y. y) refl) p);
      select_over_full_table = λ κ x p. differ said refl (select-refused (differ (λ y. y) refl) p);
      pick_kept_before_fresh = clash said refl;
      pick_list_and_place_exchanged = clash said refl;
      pick_sixteen_before_seven = clash said refl;
      pick_value_m_usable = clash said refl;
      pick_value_3_not_usable = clash said refl;
      pick_over_full_table = clash said refl;
      step_index_before_arrival = clash (λ (y : Stepped). y.word) refl;
      step_delivery_not_told = clash (λ (y : Stepped). y.word) refl;
      step_index_not_raised = clash (λ (y : Stepped). y.word) refl;
      step_server_and_port_exchanged = clash (λ (y : Stepped). y.word) refl;
      step_index_cut = clash (λ (y : Stepped). y.word) refl;
      step_here_cut = clash (λ (y : Stepped). y.word) refl;
      step_mac_turned_round = clash (λ (y : Stepped). y.mac) refl;
      step_mac_halves_exchanged = clash (λ (y : Stepped). y.mac) refl;
      step_mac_on_refusal = clash (λ (y : Stepped). y.mac) refl;
      step_mac_at_delivery = clash (λ (y : Stepped). y.mac) refl;
      step_value_m_taken = clash (λ (y : Stepped). y.word) refl;
      step_four_for_nine = clash (λ (y : Stepped). y.word) refl;
      step_value_3_refused = clash (λ (y : Stepped). y.word) refl;
      step_in_the_full_room = clash (λ (y : Stepped). y.word) refl;
      step_back_not_told = clash (λ (y : Stepped). y.word) refl;
      step_byte_itself = clash (λ (y : Stepped). y.word) refl;
      step_new_value_at_level_k = clash (λ (y : Stepped). y.word) refl;
      step_old_of_the_destination = clash (λ (y : Stepped). y.word) refl;
      step_level_and_old_exchanged = clash (λ (y : Stepped). y.word) refl;
      step_level_not_told = clash (λ (y : Stepped). y.word) refl;
      step_old_not_told = clash (λ (y : Stepped). y.word) refl;
      step_level_of_the_next_byte = clash (λ (y : Stepped). y.word) refl;
      step_level_told_as_port = clash (λ (y : Stepped). y.word) refl;
      step_port_and_back_exchanged = clash (λ (y : Stepped). y.word) refl;
      step_byte_at_delivery = clash (λ (y : Stepped). y.word) refl;
      step_level_at_delivery = clash (λ (y : Stepped). y.word) refl;
      step_old_at_delivery = clash (λ (y : Stepped). y.word) refl;
      step_last_back_at_delivery = clash (λ (y : Stepped). y.word) refl;
      step_back_with_19 = clash (λ (y : Stepped). y.word) refl;
      step_back_with_18 = clash (λ (y : Stepped). y.word) refl;
      step_back_with_10 = clash (λ (y : Stepped). y.word) refl;
      step_any_back_at_delivery = λ c a d i bs es y h t f κ x p. no_back c a d i bs es h p (inl t) f;
      step_any_back_on_refusal = λ c a d i bs es y h n f κ x p. no_back c a d i bs es h p (inr n) f;
      parent_value_low = clash said refl;
      parent_source_cut = clash said refl;
      parent_tree_cut = clash said refl;
      parent_server_cut = clash said refl;
      parent_number_as_value = clash said refl;
      parent_with_level = clash said refl;
      parent_tree_as_route = clash said refl;
      tree_value_low = λ κ x p. differ said refl p.0;
      tree_source_cut = λ κ x p. differ said refl p.0;
      tree_tree_cut = λ κ x p. differ said refl p.0;
      tree_number_as_value = λ κ x p. differ said refl p.0;
      tree_in_bytes = λ κ r x p. tells (λ y. y) refl (held_number rows.root (stale 4096) p.1);
      tree_bytes_turned_round = λ κ r x p. tells (λ y. y) refl (held_number rows.both (stale 4096) p.1);
    }
