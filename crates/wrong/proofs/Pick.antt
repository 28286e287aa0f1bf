-- Wrong answers of `pick`, refuted.
use Prim.Native.Nat.{ℕ, ◌+◌, ◌*◌}
use mathlib.Core.Path.{◌≡◌, refl, ap, ◌∙◌}
use mathlib.Core.List.{List}
use native.Mathlib.Omega.{arith}
use lib.ListN.{length, get_or}
use Rattle.lists.specs.Lists.{is_in, middle, filled}
use Rattle.refusals.specs.Refusals.{Refusal, ◌or_else◌}
use Rattle.room.specs.Shapes.{servers_of, bound}
use Rattle.room.specs.Digits.{digits_of, address_of}
use Rattle.room.specs.Addresses.{digits, digit, with_digit, switch_of}
use Rattle.room.specs.Refusals.{shape_refusal, server_refusal, pair_refusal, ends_refusal}
use Rattle.links.specs.Table.{bit, failed, live, bits_fit, fits_levels, table_refusal, room_refusal}
use Rattle.path.specs.Routes.{switch_at}
use Rattle.path.specs.Walks.{hop_to, hop_refusal, again, fault, ended, walk_from, walk}
use Rattle.path.specs.Answers.{array_refusal, walk_answer}
use Rattle.verdict.specs.Checks.{arrays, disjoint, switches_in, between, parallel, first_stop, first_meeting, first_of, first_pair, list_refusal, walks_of, check_answer}
use Rattle.pick.specs.Told.{Place}
use Rattle.pick.specs.Picks.{usable, first_usable, first_usable_in, found, fits, lists_refusal, pick_source, pick_refusal, pick_answer, lies_at}
use Rattle.pick.specs.Places.{place_answer}
use Rattle.wrong.specs.Never.{Loan}
use Rattle.wrong.specs.Pick.{Pick}
use Rattle.wrong.proofs.Clash.{differ, clash_told}

-- the first array of a list lies where the list lies
at-start : {p : ℕ × ℕ} (q : ℕ × ℕ) → p ≡ lies_at 0 q → p ≡ q
at-start q e = let z : 8 * 0 + q.1 ≡ q.1 = omega arith in e ∙ ap (λ (m : ℕ). (q.0, m)) z

pub wrong_pick : (o f k : Loan) → Pick o f k
unfolding servers_of bound digits_of address_of digits digit with_digit switch_of ◌or_else◌ shape_refusal server_refusal pair_refusal bit failed live bits_fit fits_levels table_refusal is_in middle filled switch_at hop_to hop_refusal again fault ended walk_from walk ends_refusal array_refusal walk_answer arrays disjoint switches_in between parallel first_stop first_meeting first_of first_pair room_refusal list_refusal walks_of check_answer usable first_usable first_usable_in found fits lists_refusal pick_source pick_refusal pick_answer place_answer
wrong_pick o f k =
    record {
      kept_before_fresh = λ p κ x e. differ (λ (y : List ℕ). get_or y 0 0) refl e.0;
      part_elsewhere = λ p n κ x e. n (at-start f.place e.1);
      first_route_given = λ p κ x e. differ (λ (y : List ℕ). get_or y 0 0) refl e.0;
      first_route_only = λ p κ x e. differ (λ (y : List ℕ). length y) refl e.0;
      value_m_given = λ p κ x e. differ (λ (y : List ℕ). get_or y 0 0) refl e.0;
      value_3_not_given = λ p κ x e. differ (λ (y : List ℕ). length y) refl e.0;
      given_over_full_table = λ p κ x e. differ (λ (y : List ℕ). length y) refl e.0;
      full_room_refused = λ p κ x e. differ (λ (y : List ℕ). length y) refl e.0;
      fill_1_taken = λ p κ x e. differ (λ (y : List ℕ). length y) refl e.0;
      kept_told_first = clash_told _ (λ (y : Place). y.list) refl;
      kept_named_first = λ κ x e. differ (λ (y : Place). y.list) refl e;
      place_from_0 = clash_told _ (λ (y : Place). y.route) refl;
      places_counted_on = clash_told _ (λ (y : Place). y.route) refl;
      value_m_told = clash_told _ (λ (y : Place). y.list) refl;
      value_3_not_told = clash_told _ (λ (y : Place). y.refusal.number) refl;
      told_over_full_table = clash_told _ (λ (y : Place). y.refusal.number) refl;
      sixteen_before_seven = clash_told _ (λ (y : Refusal). y.number) refl;
      empty_lists_refused = clash_told _ (λ (y : Refusal). y.number) refl;
      kept_not_tested = clash_told _ (λ (y : Refusal). y.number) refl;
      check_given = λ κ x e. differ (λ (y : Refusal). y.number) refl e;
      check_told = clash_told _ (λ (y : Refusal). y.number) refl;
      value_m_usable = clash_told _ (λ (y : Refusal). y.number) refl;
      value_3_not_usable = clash_told _ (λ (y : Refusal). y.number) refl;
      usable_over_full_table = clash_told _ (λ (y : Refusal). y.number) refl;
    }
