-- Wrong answers of `build`, refuted.
use mathlib.Core.Path.{refl}
use lib.ListN.{get_or}
use Rattle.lists.specs.Lists.{filled}
use Rattle.refusals.specs.Refusals.{◌or_else◌}
use Rattle.room.specs.Shapes.{servers_of, bound}
use Rattle.room.specs.Digits.{digits_of}
use Rattle.room.specs.Addresses.{digits}
use Rattle.room.specs.Refusals.{shape_refusal, server_refusal, pair_refusal, ends_refusal}
use Rattle.path.specs.Routes.{byte_of}
use Rattle.build.specs.declared.RouteSet.{RouteSet}
use Rattle.build.specs.Told.{Building}
use Rattle.build.specs.Built.{plus_one, built_hops, bytes_of, built_bytes, built_arrays}
use Rattle.build.specs.Sets.{placed, added, joined, set_of}
use Rattle.build.specs.Answers.{build_answer}
use Rattle.wrong.specs.Build.{Build}
use Rattle.wrong.proofs.Clash.{clash, clash_told}

pub wrong-build : Build
unfolding servers_of bound digits_of digits ◌or_else◌ shape_refusal server_refusal pair_refusal filled byte_of ends_refusal plus_one built_hops bytes_of built_bytes built_arrays placed added joined set_of build_answer
wrong-build =
    record {
      room_counted = clash (λ (y : RouteSet). y.count) refl;
      not_blank = clash (λ (y : RouteSet). get_or y.bytes 0 0) refl;
      zero_array_not_counted = clash (λ (y : RouteSet). y.count) refl;
      put_first = clash (λ (y : RouteSet). get_or y.bytes 0 0) refl;
      count_not_raised = clash (λ (y : RouteSet). y.count) refl;
      full_set_overwritten = clash (λ (y : RouteSet). get_or y.bytes 24 0) refl;
      lower_slots_first = clash_told _ (λ (y : Building). get_or y.routes.bytes 0 0) refl;
      digits_upwards = clash_told _ (λ (y : Building). get_or y.routes.bytes 1 0) refl;
      detour_right_at_once = clash_told _ (λ (y : Building). get_or y.routes.bytes 9 0) refl;
      detour_to_value_below = clash_told _ (λ (y : Building). get_or y.routes.bytes 8 0) refl;
      zero_array_left_out = clash_told _ (λ (y : Building). y.routes.count) refl;
      same_ends_built = clash_told _ (λ (y : Building). y.refusal.number) refl;
      detour_mod_n = clash_told _ (λ (y : Building). get_or y.routes.bytes 0 0) refl;
      detour_mod_n_of_two = clash_told _ (λ (y : Building). get_or y.routes.bytes 0 0) refl;
      detour_mod_m = clash_told _ (λ (y : Building). get_or y.routes.bytes 24 0) refl;
      built_in_the_full_room = clash_told _ (λ (y : Building). y.refusal.number) refl;
    }
