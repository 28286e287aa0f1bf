-- Wrong answers of `room`, refuted.
use mathlib.Core.Path.{refl, sym, ap, ◌∙◌}
use native.Mathlib.Omega.{arith}
use lib.ListN.{get_or}
use Rattle.lists.specs.Lists.{filled}
use Rattle.refusals.specs.Refusals.{Refusal, earlier_route, earlier_hop, ◌or_else◌}
use Rattle.refusals.proofs.ReasonLaws.{reason-same, reason-some}
use Rattle.room.specs.declared.Shape.{Shape}
use Rattle.room.specs.Told.{Number, Digits, Switch, Between}
use Rattle.room.specs.Shapes.{servers_of, bound}
use Rattle.room.specs.Digits.{digits_of, address_of, differ_from}
use Rattle.room.specs.Addresses.{digits, digit, with_digit, switch_of, switches_at, differing}
use Rattle.room.specs.Refusals.{shape_refusal, level_refusal, server_refusal, pair_refusal, link_refusal, value_refusal, place_bound, places_fit, places_refusal}
use Rattle.room.specs.Answers.{servers_answer, bound_answer, digits_answer, digit_answer, address_answer, switch_answer, neighbour_answer, between_answer}
use Rattle.room.specs.Wiring.{server_at, port_refusal, switches_answer, server_at_answer}
use Rattle.wrong.specs.Room.{Room}
use Rattle.wrong.proofs.Clash.{differ, clash, clash_told, bit}

pub wrong-room : Room
unfolding servers_of bound digits_of address_of filled differ_from digits digit with_digit switch_of differing ◌or_else◌ shape_refusal level_refusal server_refusal pair_refusal link_refusal value_refusal place_bound places_fit places_refusal servers_answer bound_answer digits_answer digit_answer address_answer switch_answer neighbour_answer between_answer switches_at server_at port_refusal switches_answer server_at_answer
wrong-room =
    record {
      m_forgotten = λ n k m h κ x e. h (ap (λ (y : Shape). y.m) e);
      n_and_m_exchanged = λ n k m h κ x e. h (ap (λ (y : Shape). y.m) e);
      k_and_m_exchanged = λ n k m h κ x e. h (ap (λ (y : Shape). y.m) e);
      n_and_k_exchanged = λ n k h κ x e. h (sym (ap (λ (y : Shape). y.n) e));
      levels_for_k = λ n k κ x e. omega (arith, ap (λ (y : Shape). y.k) e);
      k_for_m = λ n k h κ x e. h (sym (ap (λ (y : Shape). y.m) e));
      m_is_0 = λ n k h κ x e. h (sym (ap (λ (y : Shape). y.m) e));
      reasons_from_0 = clash (λ y. y) refl;
      retired_number_given = clash (λ y. y) refl;
      fill_after_neighbours = clash (λ y. y) refl;
      reasons_counted = clash (λ y. y) refl;
      number_of_another = λ r q n κ x e. n (sym (reason-same q r e));
      number_of_none = λ r κ x e. reason-some r (sym e);
      none_is_1 = λ x. differ (λ (y : Refusal). y.number) refl;
      none_at_route_1 = λ x. differ (λ (y : Refusal). y.route) refl;
      none_with_earlier_route = λ x. differ earlier_route refl;
      number_lost = λ r κ y x p e. reason-some r (ap (λ (y : Refusal). y.number) (sym p ∙ e));
      from_another_reason = λ r q n κ y x p e. n (sym (reason-same y.reason r (ap (λ (y : Refusal). y.number) p)) ∙ e);
      plain_at_route_1 = λ r. clash_told _ (λ (y : Refusal). y.route) refl;
      plain_with_earlier_hop = λ r g n κ y x p e. n (sym (ap earlier_hop (sym p ∙ e)));
      at_another_reason = λ r q i h n κ y x p e. n (sym (reason-same y.reason r (ap (λ (y : Refusal). y.number) p)) ∙ e);
      route_and_hop_exchanged = λ r i h n κ y x p e. n (ap (λ (y : Refusal). y.route) (sym p ∙ e));
      hop_from_0 = λ r i h κ y x p e. omega (arith, ap (λ (y : Refusal). y.hop) (sym p ∙ e));
      at_with_earlier_route = λ r i h n κ y x p e. n (sym (ap earlier_route (sym p ∙ e)));
      at_with_earlier_hop = λ r i h n κ y x p e. n (sym (ap earlier_hop (sym p ∙ e)));
      servers_not_bounded = clash_told _ (λ y. y) refl;
      last_room_refused = clash_told _ (λ y. y) refl;
      ports_not_bounded = clash_told _ (λ y. y) refl;
      one_port_taken = clash_told _ (λ y. y) refl;
      levels_not_bounded = clash_told _ (λ y. y) refl;
      levels_before_ports = clash_told _ (λ y. y) refl;
      servers_before_fill = clash_told _ (λ y. y) refl;
      fill_before_levels = clash_told _ (λ y. y) refl;
      fill_before_ports = clash_told _ (λ y. y) refl;
      full_room_refused = clash_told _ (λ y. y) refl;
      fill_2_refused = clash_told _ (λ y. y) refl;
      fill_1_taken = clash_told _ (λ y. y) refl;
      fill_above_n_taken = clash_told _ (λ y. y) refl;
      largest_fill_taken = clash_told _ (λ y. y) refl;
      product_wraps = clash_told _ (λ y. y) refl;
      servers_of_the_full_room_bounded = clash_told _ (λ y. y) refl;
      address_n_taken = clash_told _ (λ y. y) refl;
      last_address_refused = clash_told _ (λ y. y) refl;
      address_before_shape = clash_told _ (λ y. y) refl;
      address_of_the_full_room_taken = clash_told _ (λ y. y) refl;
      address_below_n_refused = clash_told _ (λ y. y) refl;
      level_k_refused = clash_told _ (λ y. y) refl;
      level_above_k_taken = clash_told _ (λ y. y) refl;
      level_before_address = clash_told _ (λ y. y) refl;
      link_of_the_full_room_taken = clash_told _ (λ y. y) refl;
      half_filled_level_refused = clash_told _ (λ y. y) refl;
      one_level_less = clash_told _ (λ (y : Number). y.value) refl;
      base_and_power_exchanged = clash_told _ (λ (y : Number). y.value) refl;
      servers_of_no_room = clash_told _ (λ (y : Number). y.value) refl;
      servers_of_the_full_room = clash_told _ (λ (y : Number). y.value) refl;
      m_at_every_level = clash_told _ (λ (y : Number). y.value) refl;
      half_filled_room_refused = clash_told _ (λ (y : Number). y.refusal.number) refl;
      servers_told_before_fill = clash_told _ (λ (y : Number). y.refusal.number) refl;
      servers_of_no_fill = clash_told _ (λ (y : Number). y.value) refl;
      k_for_bound = clash_told _ (λ (y : Number). y.value) refl;
      largest_for_bound = clash_told _ (λ (y : Number). y.value) refl;
      bound_above_k = clash_told _ (λ (y : Number). y.value) refl;
      m_at_level_0 = clash_told _ (λ (y : Number). y.value) refl;
      n_at_level_k = clash_told _ (λ (y : Number). y.value) refl;
      n_where_k_is_0 = clash_told _ (λ (y : Number). y.value) refl;
      digits_reversed = clash_told _ (λ (y : Digits). get_or y.places 1 0) refl;
      zeros_first = clash_told _ (λ (y : Digits). get_or y.places 0 0) refl;
      address_wraps = clash_told _ (λ (y : Digits). y.refusal.number) refl;
      digits_of_the_full_room = clash_told _ (λ (y : Digits). y.refusal.number) refl;
      digits_to_the_base_m = clash_told _ (λ (y : Digits). get_or y.places 0 0) refl;
      digit_from_the_other_end = clash_told _ (λ (y : Number). y.value) refl;
      levels_from_1 = clash_told _ (λ (y : Number). y.value) refl;
      digit_of_the_full_room = clash_told _ (λ (y : Number). y.value) refl;
      digit_to_the_base_m = clash_told _ (λ (y : Number). y.value) refl;
      places_reversed = clash_told _ (λ (y : Number). y.value) refl;
      place_above_k_ignored = clash_told _ (λ (y : Number). y.value) refl;
      digit_n_carried = clash_told _ (λ (y : Number). y.value) refl;
      digit_k_bounded_by_n = clash_told _ (λ (y : Number). y.value) refl;
      digit_2_bounded_by_m = clash_told _ (λ (y : Number). y.refusal.number) refl;
      digit_0_bounded_by_m = clash_told _ (λ (y : Number). y.refusal.number) refl;
      weights_to_the_base_m = clash_told _ (λ (y : Number). y.value) refl;
      switch_fields_exchanged = λ κ x e. differ (λ (y : Switch). y.level) refl e;
      switch_not_closed_up = clash_told _ (λ (y : Switch). y.number) refl;
      others_struck_out = clash_told _ (λ (y : Switch). y.number) refl;
      switch_level_lost = clash_told _ (λ (y : Switch). y.level) refl;
      switch_of_the_full_room = clash_told _ (λ (y : Switch). y.number) refl;
      switch_to_the_base_m = clash_told _ (λ (y : Switch). y.number) refl;
      ports_for_switches = clash_told _ (λ (y : Number). y.value) refl;
      servers_for_switches = clash_told _ (λ (y : Number). y.value) refl;
      power_of_the_level = clash_told _ (λ (y : Number). y.value) refl;
      switches_above_k = clash_told _ (λ (y : Number). y.value) refl;
      switches_of_n_at_level_k = clash_told _ (λ (y : Number). y.value) refl;
      switches_of_m_at_level_0 = clash_told _ (λ (y : Number). y.value) refl;
      switches_of_all_levels = clash_told _ (λ (y : Number). y.value) refl;
      switch_and_port_exchanged = clash_told _ (λ (y : Number). y.value) refl;
      port_at_digit_0 = clash_told _ (λ (y : Number). y.value) refl;
      digits_not_moved_up = clash_told _ (λ (y : Number). y.value) refl;
      port_not_bounded = clash_told _ (λ (y : Number). y.value) refl;
      switch_not_bounded = clash_told _ (λ (y : Number). y.value) refl;
      switch_before_level = clash_told _ (λ (y : Number). y.refusal.number) refl;
      port_m_at_level_k = clash_told _ (λ (y : Number). y.value) refl;
      port_5_at_level_0_refused = clash_told _ (λ (y : Number). y.refusal.number) refl;
      switch_256_at_level_0 = clash_told _ (λ (y : Number). y.value) refl;
      switch_256_at_level_k_refused = clash_told _ (λ (y : Number). y.refusal.number) refl;
      level_and_value_exchanged = clash_told _ (λ (y : Number). y.value) refl;
      value_added = clash_told _ (λ (y : Number). y.value) refl;
      value_not_bounded = clash_told _ (λ (y : Number). y.value) refl;
      value_5_at_level_0_refused = clash_told _ (λ (y : Number). y.refusal.number) refl;
      value_m_at_level_k = clash_told _ (λ (y : Number). y.value) refl;
      neighbour_in_the_full_room = clash_told _ (λ (y : Number). y.value) refl;
      level_0_is_none = λ κ x e. differ (λ (y : Between). bit y.adjacent) refl e;
      none_is_level_0 = λ κ x e. differ (λ (y : Between). bit y.adjacent) refl e;
      two_digits_apart = clash_told _ (λ (y : Between). bit y.adjacent) refl;
      own_neighbour = clash_told _ (λ (y : Between). bit y.adjacent) refl;
      between_from_1 = clash_told _ (λ (y : Between). y.level) refl;
      between_in_the_full_room = clash_told _ (λ (y : Between). bit y.adjacent) refl;
      between_to_the_base_m = clash_told _ (λ (y : Between). y.level) refl;
    }
