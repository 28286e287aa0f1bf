-- Wrong answers of `verdict`, refuted.
use mathlib.Core.Path.{refl}
use Rattle.lists.specs.Lists.{is_in, middle, filled}
use Rattle.refusals.specs.Refusals.{Refusal, earlier_hop, ◌or_else◌}
use Rattle.room.specs.Shapes.{servers_of, bound}
use Rattle.room.specs.Digits.{digits_of, address_of}
use Rattle.room.specs.Addresses.{digits, digit, with_digit, switch_of}
use Rattle.room.specs.Refusals.{shape_refusal, server_refusal, pair_refusal, ends_refusal}
use Rattle.links.specs.Table.{bit, failed, live, bits_fit, fits_levels, table_refusal, room_refusal}
use Rattle.path.specs.Routes.{switch_at}
use Rattle.path.specs.Walks.{hop_to, hop_refusal, again, earlier_of, fault, ended, walk_from, walk}
use Rattle.path.specs.Answers.{array_refusal, walk_answer}
use Rattle.verdict.specs.Checks.{arrays, disjoint, switches_in, between, parallel, meeting, first_stop, first_meeting, first_of, first_pair, list_refusal, walks_of, check_answer}
use Rattle.wrong.specs.Never.{Loan}
use Rattle.wrong.specs.Verdict.{Verdict}
use Rattle.wrong.proofs.Clash.{tells, clash_told}

pub wrong_verdict : (o q : Loan) → Verdict o q
unfolding servers_of bound digits_of address_of digits digit with_digit switch_of ◌or_else◌ shape_refusal server_refusal pair_refusal bit failed live bits_fit fits_levels table_refusal is_in middle filled switch_at hop_to hop_refusal again earlier_of fault ended walk_from walk ends_refusal array_refusal walk_answer arrays disjoint switches_in between parallel meeting first_stop first_meeting first_of first_pair room_refusal list_refusal walks_of check_answer
wrong_verdict o q =
    record {
      middle_servers_only = clash_told _ (λ (y : Refusal). y.number) refl;
      earlier_of_the_pair = λ κ r x. tells (λ (y : Refusal). y.route) refl;
      receiver_forgotten = clash_told _ (λ (y : Refusal). y.number) refl;
      server_again_before_link = clash_told _ (λ (y : Refusal). y.number) refl;
      earlier_hop_told_with_11 = clash_told _ earlier_hop refl;
      hops_counted_on = clash_told _ (λ (y : Refusal). y.hop) refl;
      pairs_before_routes = λ κ r x. tells (λ (y : Refusal). y.number) refl;
      empty_list_accepted = clash_told _ (λ (y : Refusal). y.number) refl;
      list_before_table = clash_told _ (λ (y : Refusal). y.number) refl;
      full_table_accepted = clash_told _ (λ (y : Refusal). y.number) refl;
      half_filled_table_refused = clash_told _ (λ (y : Refusal). y.number) refl;
      value_m_accepted = clash_told _ (λ (y : Refusal). y.number) refl;
      four_for_nine = clash_told _ (λ (y : Refusal). y.number) refl;
      value_3_refused = clash_told _ (λ (y : Refusal). y.number) refl;
    }
