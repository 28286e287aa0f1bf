-- Wrong answers of the functions that serve the layers above them, refuted.
use mathlib.Core.Path.{refl, sym, ap, ◌∙◌}
use native.Mathlib.Omega.{arith}
use Rattle.refusals.specs.Refusals.{Refusal, earlier_route, earlier_hop, ◌or_else◌}
use Rattle.refusals.proofs.ReasonLaws.{reason-some, reason-same}
use Rattle.room.specs.declared.Side.{Side}
use Rattle.room.specs.Shapes.{servers_of, bound, power_of, server_count}
use Rattle.room.specs.Refusals.{shape_refusal, server_refusal, pair_refusal, ends_refusal}
use Rattle.room.specs.Sides.{side_of, side_at}
use Rattle.links.specs.Table.{bit, with_bit, changed, changed_in, fits_levels, bits_fit, table_refusal, room_refusal}
use Rattle.wrong.specs.Never.{Loan}
use Rattle.wrong.specs.Helpers.{Helpers}
use Rattle.wrong.proofs.Clash.{clash, clash_left, clash_told}

pub wrong_helpers : (o : Loan) → Helpers o
unfolding servers_of bound power_of server_count shape_refusal server_refusal pair_refusal ends_refusal side_of side_at bit with_bit changed changed_in fits_levels bits_fit table_refusal room_refusal ◌or_else◌
wrong_helpers o =
    record {
      route_kept = λ r i j h n κ y x p e. n (sym (ap (λ (y : Refusal). y.route) (sym p ∙ e)));
      reason_changed = λ y q i n κ z x p e. n (sym (reason-same z.reason y.reason (ap (λ (z : Refusal). z.number) p)) ∙ e);
      hop_lost = λ r i j h n κ y x p e. n (ap (λ (y : Refusal). y.hop) (sym p ∙ e));
      earlier_hop_lost = λ r i h j g k n κ y x p e. n (ap earlier_hop (sym p ∙ e));
      earlier_route_lost = λ r i h j g k n κ y x p e. n (ap earlier_route (sym p ∙ e));
      earlier_route_given = λ r i h j g k n κ y x p e. n (ap earlier_route (sym p ∙ e));
      earlier_route_alone_given = λ r i h j g k n κ y x p e. n (sym (ap (λ (y : Refusal). y.route) (sym p ∙ e)));
      earlier_route_not_set = λ y i h n κ z x p e. n (sym (ap earlier_route (sym p ∙ e)));
      earlier_hop_not_set = λ y i h n κ z x p e. n (sym (ap earlier_hop (sym p ∙ e)));
      earlier_exchanged = λ y i h n κ z x p e. n (ap earlier_route (sym p ∙ e));
      earlier_hop_from_0 = λ y i h κ z x p e. omega (arith, ap earlier_hop (sym p ∙ e));
      own_route_set = λ y i h n κ z x p e. n (ap (λ (z : Refusal). z.route) (sym p ∙ e));
      own_hop_set = λ y i h n κ z x p e. n (ap (λ (z : Refusal). z.hop) (sym p ∙ e));
      own_hop_lost = λ y i h n κ z x p e. n (ap (λ (z : Refusal). z.hop) (sym p ∙ e));
      own_reason_changed = λ y q i h n κ z x p e. n (sym (reason-same z.reason y.reason (ap (λ (z : Refusal). z.number) p)) ∙ e);
      own_number_lost = λ y i h κ z x p e. reason-some y.reason (ap (λ (z : Refusal). z.number) (sym p ∙ e));
      base_and_level_exchanged = clash (λ y. y) refl;
      level_4_taken = clash (λ y. y) refl;
      one_level_less = clash (λ y. y) refl;
      level_4_counted = clash (λ y. y) refl;
      full_room_counted = clash (λ y. y) refl;
      fill_above_n_counted = clash (λ y. y) refl;
      product_cut = clash (λ y. y) refl;
      k_for_bound = clash (λ y. y) refl;
      largest_for_bound = clash (λ y. y) refl;
      m_at_level_0 = clash (λ y. y) refl;
      n_at_level_k = clash (λ y. y) refl;
      second_not_tested = clash_told _ (λ y. y) refl;
      same_server_refused = clash_told _ (λ y. y) refl;
      second_of_the_full_room = clash_told _ (λ y. y) refl;
      server_for_first = clash (λ (y : Side). y.first) refl;
      other_digit = clash (λ (y : Side). y.stride) refl;
      n_servers_at_level_k = clash (λ (y : Side). y.count) refl;
      m_servers_at_level_0 = clash (λ (y : Side). y.count) refl;
      stride_to_the_base_m = clash (λ (y : Side). y.stride) refl;
      number_for_first = clash (λ (y : Side). y.first) refl;
      number_for_server = clash (λ (y : Side). y.first) refl;
      number_not_moved_up = clash (λ (y : Side). y.first) refl;
      level_and_number_exchanged = clash (λ (y : Side). y.first) refl;
      n_servers_by_number = clash (λ (y : Side). y.count) refl;
      m_servers_by_number = clash (λ (y : Side). y.count) refl;
      stride_by_number_to_the_base_m = clash (λ (y : Side). y.stride) refl;
      number_4096_taken = clash (λ (y : Side). y.first) refl;
      marks_nothing = λ κ r x p. clash_left 3 refl p;
      marked_twice = λ κ r x p. clash_left 3 refl p;
      clears_nothing = λ κ r x p. clash_left 3 refl p;
      cleared_twice = λ κ r x p. clash_left 3 refl p;
      short_table_taken = clash_told _ (λ y. y) refl;
      table_before_ends = clash_told _ (λ y. y) refl;
      bit_above_k_taken = clash_told _ (λ y. y) refl;
      good_room_refused = clash_told _ (λ y. y) refl;
      full_table_taken = clash_told _ (λ y. y) refl;
      half_filled_table_refused = clash_told _ (λ y. y) refl;
      level_in_low_bits = clash (λ y. y) refl;
      level_not_moved = clash (λ y. y) refl;
      value_in_high_bits = clash (λ y. y) refl;
      byte_for_value = clash (λ y. y) refl;
    }
