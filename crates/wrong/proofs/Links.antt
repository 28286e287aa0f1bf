-- Wrong answers of `links`, refuted.
use mathlib.Core.Path.{refl}
use Rattle.refusals.specs.Refusals.{◌or_else◌}
use Rattle.room.specs.Shapes.{servers_of}
use Rattle.room.specs.Refusals.{shape_refusal, level_refusal, server_refusal, link_refusal}
use Rattle.links.specs.Told.{Asked}
use Rattle.links.specs.Table as links
use Rattle.links.specs.Answers.{failed_answer}
use Rattle.wrong.specs.Never.{Loan}
use Rattle.wrong.specs.Links.{Links}
use Rattle.wrong.proofs.Clash.{clash, clash_left, bit, clash_told}

pub wrong-links : (o : Loan) → Links o
unfolding servers_of ◌or_else◌ shape_refusal level_refusal server_refusal link_refusal links.bit links.with_bit links.changed links.changed_in links.failed links.live links.bits_fit links.fits_levels links.table_refusal links.room_table_refusal links.table_link_refusal links.table_server_refusal failed_answer
wrong-links o =
    record {
      another_link_told = clash_told _ (λ (y : Asked). bit y.failed) refl;
      byte_for_bit = clash_told _ (λ (y : Asked). bit y.failed) refl;
      short_table_asked = clash_told _ (λ (y : Asked). y.refusal.number) refl;
      full_table_asked = clash_told _ (λ (y : Asked). y.refusal.number) refl;
      half_filled_level_refused = clash_told _ (λ (y : Asked). y.refusal.number) refl;
      put_other_way_round = λ κ r x p. clash_left 3 refl p;
      put_clears_other_links = λ κ r x p. clash_left 3 refl p;
      another_level_told = clash bit refl;
      dead_told_live = clash bit refl;
      server_brought_back = clash bit refl;
      level_brought_back = clash bit refl;
      receiver_forgotten = clash bit refl;
      sender_forgotten = clash bit refl;
      another_level = clash bit refl;
      bit_above_k_taken = clash_told _ (λ y. y) refl;
      long_table_taken = clash_told _ (λ y. y) refl;
      table_before_shape = clash_told _ (λ y. y) refl;
      full_table_taken = clash_told _ (λ y. y) refl;
      full_4096_taken = clash_told _ (λ y. y) refl;
      half_filled_table_refused = clash_told _ (λ y. y) refl;
      link_above_k_taken = clash_told _ (λ y. y) refl;
      link_table_before_level = clash_told _ (λ y. y) refl;
      link_level_before_address = clash_told _ (λ y. y) refl;
      link_short_table_taken = clash_told _ (λ y. y) refl;
      link_own_byte_tested = clash_told _ (λ y. y) refl;
      link_full_table_taken = clash_told _ (λ y. y) refl;
      link_half_filled_table_refused = clash_told _ (λ y. y) refl;
      server_n_taken = clash_told _ (λ y. y) refl;
      server_table_before_address = clash_told _ (λ y. y) refl;
      server_short_table_taken = clash_told _ (λ y. y) refl;
      server_own_byte_tested = clash_told _ (λ y. y) refl;
      server_of_the_full_room_taken = clash_told _ (λ y. y) refl;
      server_full_table_taken = clash_told _ (λ y. y) refl;
      server_half_filled_table_refused = clash_told _ (λ y. y) refl;
    }
