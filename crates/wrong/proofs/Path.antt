-- Wrong answers of `path`, refuted.
use Prim.Native.Nat.{ℕ, zero, suc, ◌<◌}
use mathlib.Core.Path.{◌≡◌, refl, sym, ap, ◌∙◌}
use mathlib.Core.Logic.{◌≢◌}
use mathlib.Core.List.{List}
use native.Mathlib.Omega.{arith}
use lib.ListN.{length, get_or}
use Rattle.lists.specs.Lists.{is_in, first_where, place_in, in_turn, filled}
use Rattle.lists.proofs.FirstPlaces.{place-most, place-there, place-before}
use Rattle.refusals.specs.Refusals.{plain, refused_at, earlier_hop, ◌or_else◌, answer}
use Rattle.room.specs.declared.Shape.{Shape}
use Rattle.room.specs.Told.{Number}
use Rattle.room.specs.Shapes.{servers_of, bound}
use Rattle.room.specs.Digits.{digits_of, address_of, differ_from}
use Rattle.room.specs.Addresses.{digits, digit, with_digit, switch_of, differing}
use Rattle.room.specs.Refusals.{shape_refusal, level_refusal, server_refusal, pair_refusal, ends_refusal}
use Rattle.room.proofs.RefusalLaws.{server_of}
use Rattle.links.specs.Table as links
use Rattle.path.specs.Told.{Parts, Hop, Walked, Reading, Writing}
use Rattle.path.specs.Routes.{byte_of, level_of, switch_at, level_to, switch_to, byte_to, encode}
use Rattle.path.specs.Bytes.{made_refusal, byte_answer, parts_refusal, parts_answer}
use Rattle.path.specs.Walks.{hop_to, hop_refusal, again, earlier_of, fault, ended, walk_from, walk, write_fault, write_from}
use Rattle.path.specs.Answers.{no_hop, a_hop, hop_from, hop_answer, array_refusal, walk_answer, read_answer, reverse_answer, servers_refusal, write_refusal, on_the_way, write_answer}
use Rattle.path.proofs.HopLaws.{hop-exactly, hop-number, hop-made, hop-known, hop-neighbours}
use Rattle.wrong.specs.Never.{Loan}
use Rattle.wrong.specs.Path.{Path}
use Rattle.wrong.proofs.Clash.{clash, clash_told, differ}

-- ---- any list

-- at the place of x stands x, where it is in the list
place-elsewhere : (x : ℕ) (xs : List ℕ) {p : ℕ} → p < length xs → get_or xs p 0 ≢ x → p ≡ place_in x xs → ⊥
place-elsewhere x xs {p} l n e = n (ap (λ (i : ℕ). get_or xs i 0) e ∙ place-there x xs (omega (arith, e)))

-- ---- any hop

-- the old value of a hop that is made
old-left : (s : Shape) (a b : ℕ) {y : Hop} → server_refusal s a ≡ 0 → hop_refusal s a b ≡ 0 → y ≡ hop_answer s a b → y.old ≡ digit s (level_of b) a
old-left s a b {y} z n e =
    let k = hop-known (server_of s a z) b y e in
    ap (λ (h : Hop). h.old) (hop-made s a b y k (hop-number s a b y k ∙ n))

-- a refusal, and what is told beside it
nothing-beside : (s : Shape) (a b : ℕ) {y : Hop} → y ≡ hop_answer s a b → y.refusal.number ≢ 0 → (y.next ≡ 0) × (y.level ≡ 0) × (y.old ≡ 0)
unfolding hop_from hop_answer
nothing-beside s a b {y} e n = go (server_refusal s a) (hop_refusal s a b) e
  where
    Nothing : Hop → Type 0
    Nothing h = (h.next ≡ 0) × (h.level ≡ 0) × (h.old ≡ 0)

    go : (p r : ℕ) → y ≡ answer p (λ i. no_hop (plain i)) (answer r (λ i. no_hop (refused_at i 1 1)) (a_hop (hop_to s a b) (level_of b) (digit s (level_of b) a))) → Nothing y
    go zero zero f = absurd (n (ap (λ (h : Hop). h.refusal.number) f))
    go zero (suc r) f = (ap (λ (h : Hop). h.next) f, ap (λ (h : Hop). h.level) f, ap (λ (h : Hop). h.old) f)
    go (suc p) r f = (ap (λ (h : Hop). h.next) f, ap (λ (h : Hop). h.level) f, ap (λ (h : Hop). h.old) f)

-- ---- all of them

pub wrong_path : (o q : Loan) → Path o q
unfolding servers_of bound digits_of address_of differ_from digits digit with_digit switch_of differing ◌or_else◌ shape_refusal server_refusal pair_refusal links.bit links.failed links.live is_in first_where place_in in_turn filled byte_of switch_at level_to switch_to byte_to encode hop_to hop_refusal again earlier_of fault ended walk_from walk write_fault write_from hop_from hop_answer ends_refusal array_refusal walk_answer read_answer reverse_answer servers_refusal write_refusal on_the_way write_answer level_refusal made_refusal byte_answer parts_refusal parts_answer
wrong_path o q =
    record {
      made_in_low_bits = clash_told _ (λ (y : Number). y.value) refl;
      value_not_bounded = clash_told _ (λ (y : Number). y.value) refl;
      level_above_k = clash_told _ (λ (y : Number). y.value) refl;
      value_before_level = clash_told _ (λ (y : Number). y.refusal.number) refl;
      value_m_at_level_k = clash_told _ (λ (y : Number). y.value) refl;
      value_5_at_level_0_refused = clash_told _ (λ (y : Number). y.refusal.number) refl;
      parts_in_low_bits = clash_told _ (λ (y : Parts). y.level) refl;
      parts_exchanged = clash_told _ (λ (y : Parts). y.level) refl;
      parts_fields_exchanged = λ κ x e. differ (λ (y : Parts). y.level) refl e;
      number_cut = clash_told _ (λ (y : Parts). y.refusal.number) refl;
      parts_value_before_position = clash_told _ (λ (y : Parts). y.refusal.number) refl;
      parts_no_place = clash_told _ (λ (y : Parts). y.refusal.hop) refl;
      parts_value_m_at_level_k = clash_told _ (λ (y : Parts). y.value) refl;
      parts_value_5_refused = clash_told _ (λ (y : Parts). y.refusal.number) refl;
      position_in_low_bits = λ l v. clash_told _ (λ (y : Hop). y.next) refl;
      hop_stays = clash_told _ (λ (y : Hop). y.next) refl;
      new_value_told = clash_told _ (λ (y : Hop). y.old) refl;
      new_value_told_at_level_k = clash_told _ (λ (y : Hop). y.old) refl;
      any_new_value_told = λ s a b z n κ y x e f. ((hop-exactly (server_of s a z) b).0 n).1 (sym (old-left s a b z n e) ∙ f);
      any_digit_of_the_next_told = λ s a b z n κ y x e f. (hop-neighbours (server_of s a z) b n).differ (sym (old-left s a b z n e) ∙ f);
      hop_fields_exchanged = λ κ x e. differ (λ (y : Hop). y.level) refl e;
      value_for_position = λ κ x e. differ (λ (y : Hop). y.refusal.number) refl e;
      hop_level_and_old_exchanged = clash_told _ (λ (y : Hop). y.level) refl;
      hop_level_from_1 = clash_told _ (λ (y : Hop). y.level) refl;
      hop_level_below = clash_told _ (λ (y : Hop). y.level) refl;
      old_at_the_level_below = clash_told _ (λ (y : Hop). y.old) refl;
      old_from_the_other_end = clash_told _ (λ (y : Hop). y.old) refl;
      old_to_the_base_m = clash_told _ (λ (y : Hop). y.old) refl;
      old_mod_m_at_level_0 = clash_told _ (λ (y : Hop). y.old) refl;
      zero_byte_is_no_hop = clash_told _ (λ (y : Hop). y.refusal.number) refl;
      zero_byte_leaves_nothing = clash_told _ (λ (y : Hop). y.old) refl;
      nine_for_eight = clash_told _ (λ (y : Hop). y.refusal.number) refl;
      eight_for_nine = clash_told _ (λ (y : Hop). y.refusal.number) refl;
      value_before_position = clash_told _ (λ (y : Hop). y.refusal.number) refl;
      position_before_address = clash_told _ (λ (y : Hop). y.refusal.number) refl;
      hop_to_value_m = clash_told _ (λ (y : Hop). y.refusal.number) refl;
      four_for_nine = clash_told _ (λ (y : Hop). y.refusal.number) refl;
      hop_to_value_5_refused = clash_told _ (λ (y : Hop). y.refusal.number) refl;
      hop_in_the_full_room = clash_told _ (λ (y : Hop). y.refusal.number) refl;
      hop_number_cut = clash_told _ (λ (y : Hop). y.refusal.number) refl;
      hop_256_is_zero = clash_told _ (λ (y : Hop). y.refusal.number) refl;
      nine_by_the_low_byte = clash_told _ (λ (y : Hop). y.refusal.number) refl;
      eight_with_no_place = clash_told _ (λ (y : Hop). y.refusal.hop) refl;
      nine_with_no_place = clash_told _ (λ (y : Hop). y.refusal.hop) refl;
      ten_with_no_place = clash_told _ (λ (y : Hop). y.refusal.hop) refl;
      eight_at_route_0 = clash_told _ (λ (y : Hop). y.refusal.route) refl;
      nine_at_hop_2 = clash_told _ (λ (y : Hop). y.refusal.hop) refl;
      ten_at_hop_0 = clash_told _ (λ (y : Hop). y.refusal.hop) refl;
      four_with_a_place = clash_told _ (λ (y : Hop). y.refusal.hop) refl;
      level_told_with_8 = clash_told _ (λ (y : Hop). y.level) refl;
      next_told_with_9 = clash_told _ (λ (y : Hop). y.next) refl;
      old_told_with_9 = clash_told _ (λ (y : Hop). y.old) refl;
      next_told_with_10 = clash_told _ (λ (y : Hop). y.next) refl;
      level_told_with_10 = clash_told _ (λ (y : Hop). y.level) refl;
      old_told_with_10 = clash_told _ (λ (y : Hop). y.old) refl;
      level_told_with_4 = clash_told _ (λ (y : Hop). y.level) refl;
      any_next_on_refusal = λ s a b y n h κ r x e q. h (nothing-beside s a b (sym q ∙ e) n).0;
      any_level_on_refusal = λ s a b y n h κ r x e q. h (nothing-beside s a b (sym q ∙ e) n).1;
      any_old_on_refusal = λ s a b y n h κ r x e q. h (nothing-beside s a b (sym q ∙ e) n).2;
      last_not_looked_at = clash (λ y. y) refl;
      first_not_looked_at = clash (λ y. y) refl;
      place_from_1 = clash (λ y. y) refl;
      last_of_two_places = clash (λ y. y) refl;
      missing_at_0 = clash (λ y. y) refl;
      past_the_end = clash (λ y. y) refl;
      any_place_of_another = λ xs x p l n κ y e. place-elsewhere x xs l n e;
      any_later_place = λ xs x i p l f h κ y e. place-before x xs i (omega (arith, e)) f;
      any_place_past_the_length = λ xs x p l κ y e. omega (arith, place-most x xs, e);
      same_ends_taken = clash_told _ (λ y. y) refl;
      destination_not_tested = clash_told _ (λ y. y) refl;
      same_ends_before_address = clash_told _ (λ y. y) refl;
      ends_in_the_full_room = clash_told _ (λ y. y) refl;
      walked_hops_counted = λ κ x e. differ (λ (y : Walked). y.count) refl e;
      receiver_forgotten = clash_told _ (λ (y : Walked). y.refusal.number) refl;
      zero_byte_is_the_end = clash_told _ (λ (y : Walked). y.refusal.number) refl;
      server_again_for_thirteen = λ g. clash_told _ (λ (y : Walked). y.refusal.number) refl;
      switch_again_for_thirteen = λ g. clash_told _ (λ (y : Walked). y.refusal.number) refl;
      server_again_before_link = clash_told _ (λ (y : Walked). y.refusal.number) refl;
      switch_again_before_link = clash_told _ (λ (y : Walked). y.refusal.number) refl;
      earlier_hop_told_with_11 = clash_told _ (λ (y : Walked). earlier_hop y.refusal) refl;
      servers_told_with_29 = clash_told _ (λ (y : Walked). y.count) refl;
      switches_told_with_28 = clash_told _ (λ (y : Walked). get_or y.switches 1 0) refl;
      walk_by_value_m = clash_told _ (λ (y : Walked). y.refusal.number) refl;
      walk_by_value_3_refused = clash_told _ (λ (y : Walked). y.refusal.number) refl;
      walk_in_the_full_room = clash_told _ (λ (y : Walked). y.refusal.number) refl;
      read_hops_counted = λ κ x e. differ (λ (y : Reading). y.count) refl e;
      switch_used_twice = clash_told _ (λ (y : Reading). y.refusal.number) refl;
      read_servers_told_with_29 = clash_told _ (λ (y : Reading). y.count) refl;
      after_arrival_goes_by = clash_told _ (λ (y : Reading). y.refusal.number) refl;
      after_arrival_one_off = clash_told _ (λ (y : Reading). y.refusal.hop) refl;
      not_arrived_one_off = clash_told _ (λ (y : Reading). y.refusal.hop) refl;
      destination_left_out = clash_told _ (λ (y : Reading). y.count) refl;
      read_by_value_m = clash_told _ (λ (y : Reading). y.refusal.number) refl;
      read_four_for_nine = clash_told _ (λ (y : Reading). y.refusal.number) refl;
      read_by_value_3_refused = clash_told _ (λ (y : Reading). y.refusal.number) refl;
      read_in_the_full_room = clash_told _ (λ (y : Reading). y.refusal.number) refl;
      written_in_low_bits = clash_told _ (λ (y : Writing). get_or y.bytes 0 0) refl;
      digit_left_behind = clash_told _ (λ (y : Writing). get_or y.bytes 0 0) refl;
      repeats_before_neighbours = λ g. clash_told _ (λ (y : Writing). y.refusal.number) refl;
      bytes_told_with_29 = clash_told _ (λ (y : Writing). get_or y.bytes 0 0) refl;
      same_ends_before_count = clash_told _ (λ (y : Writing). y.refusal.number) refl;
      written_in_the_full_room = clash_told _ (λ (y : Writing). y.refusal.number) refl;
      written_to_the_base_m = clash_told _ (λ (y : Writing). get_or y.bytes 0 0) refl;
      reversal_is_identity = clash_told _ (λ (y : Writing). get_or y.bytes 0 0) refl;
      bytes_turned_round = clash_told _ (λ (y : Writing). get_or y.bytes 0 0) refl;
      bytes_turned_round_at_level_k = clash_told _ (λ (y : Writing). get_or y.bytes 0 0) refl;
      trace_not_turned_round = clash_told _ (λ (y : Writing). get_or y.bytes 0 0) refl;
      trace_not_turned_round_at_level_k = clash_told _ (λ (y : Writing). get_or y.bytes 0 0) refl;
      reversed_levels_and_values_exchanged = clash_told _ (λ (y : Writing). get_or y.bytes 0 0) refl;
      last_hop_left_out = clash_told _ (λ (y : Writing). get_or y.bytes 0 0) refl;
      first_hop_left_out = clash_told _ (λ (y : Writing). get_or y.bytes 1 0) refl;
      zeros_before = clash_told _ (λ (y : Writing). get_or y.bytes 0 0) refl;
      reversal_zero_byte_is_the_end = clash_told _ (λ (y : Writing). y.refusal.number) refl;
      nothing_before_a_zero_byte = clash_told _ (λ (y : Writing). get_or y.bytes 0 0) refl;
      zero_byte_left_out = clash_told _ (λ (y : Writing). get_or y.bytes 0 0) refl;
      way_back_cut = clash_told _ (λ (y : Writing). get_or y.bytes 4 0) refl;
      way_back_on_refusal = clash_told _ (λ (y : Writing). get_or y.bytes 1 0) refl;
      way_back_told_with_28 = clash_told _ (λ (y : Writing). get_or y.bytes 0 0) refl;
      reversed_by_value_m = clash_told _ (λ (y : Writing). y.refusal.number) refl;
      reversal_by_value_3_refused = clash_told _ (λ (y : Writing). y.refusal.number) refl;
      reversed_in_the_full_room = clash_told _ (λ (y : Writing). y.refusal.number) refl;
    }
