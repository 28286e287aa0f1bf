-- Wrong answers of `summary`, refuted.
use Prim.Native.Nat.{ℕ}
use mathlib.Core.Path.{◌≡◌, refl, sym, ap, ◌∙◌, subst}
use mathlib.Core.Logic.{◌≢◌}
use mathlib.Core.Bool.{true, false, true≢false}
use mathlib.Core.List.{List}
use lib.ListN.{length, get_or}
use Rattle.lists.specs.Lists.{same}
use Rattle.refusals.specs.Refusals.{Refusal, ◌or_else◌}
use Rattle.refusals.proofs.ChainLaws.{or_else_left, or_else_passed}
use Rattle.refusals.proofs.NumberLaws.{one-not}
use Rattle.room.specs.declared.Shape.{Shape}
use Rattle.room.specs.Shapes.{servers_of, bound}
use Rattle.room.specs.Digits.{digits_of, address_of}
use Rattle.room.specs.Addresses.{digits, switch_of, switches_at}
use Rattle.room.specs.Refusals.{shape_refusal, level_refusal, server_refusal, link_refusal}
use Rattle.links.specs.Table as links
use Rattle.links.proofs.NumberLaws.{room-table-numbers, table-link-numbers, table-server-numbers}
use Rattle.summary.specs.Told.{DeadSwitch}
use Rattle.summary.specs.Counts.{numbered, switches_below, switches_in, place_of, count_below, count_at, summary_of, is_dead, recounted, recounted_below}
use Rattle.summary.specs.Refusals.{has_entries, is_counted, are_counted, counted_link_refusal, counted_server_refusal, summary_refusal, entries_refusal}
use Rattle.summary.specs.Answers.{link_answer, link_table, link_summary, all_bits, changed_server, server_answer, server_table, server_summary, first_dead, dead_answer, fresh_answer, fresh_summary}
use Rattle.summary.specs.Promises.{TellsFirst}
use Rattle.summary.proofs.RefusalLaws.{long-entries, entry-counted, summary-of}
use Rattle.summary.proofs.KeptLaws.{link-kept, link_stays, link-nothing, server-kept, server_stays, server-nothing, fresh_kept}
use Rattle.summary.proofs.DeadLaws.{dead-number, dead_tells}
use Rattle.wrong.specs.Never.{Loan}
use Rattle.wrong.specs.Summary.{Summary}
use Rattle.wrong.proofs.Clash.{differ, clash_left, bit, clash_told}

-- ---- what is tested before 30, and what 30 tests

module _ (s : Shape) (t c : List ℕ) (a l : ℕ) where
  link-first : links.table_link_refusal s t a l ≢ 0 → counted_link_refusal s t c a l ≢ 30
  unfolding counted_link_refusal
  link-first n e = one-not 30 refl refl (table-link-numbers s t a l) (sym (or_else_left _ _ n) ∙ e)

  link-entry_alone : length c ≡ length (switches_in s) → get_or c (place_of s l (switch_of s l a)) 0 ≡ count_at s t l (switch_of s l a) → counted_link_refusal s t c a l ≢ 30
  unfolding counted_link_refusal
  link-entry_alone f g e =
      one-not 30 refl refl (table-link-numbers s t a l)
      (sym (or_else_passed _ _ (λ z. rw (long-entries s c f, entry-counted s t c a l g))) ∙ e)

module _ (s : Shape) (t c : List ℕ) (a : ℕ) where
  server-first : links.table_server_refusal s t a ≢ 0 → counted_server_refusal s t c a ≢ 30
  unfolding counted_server_refusal
  server-first n e = one-not 30 refl refl (table-server-numbers s t a) (sym (or_else_left _ _ n) ∙ e)

module _ (s : Shape) (t c : List ℕ) where
  dead-first : links.room_table_refusal s t ≢ 0 → (dead_answer s t c).refusal.number ≢ 30
  unfolding summary_refusal
  dead-first n e = one-not 30 refl refl (room-table-numbers s t) (sym (or_else_left _ _ n) ∙ sym (dead-number s t c) ∙ e)

  dead-counted : (dead_answer s t c).refusal.number ≡ 0 → c ≡ summary_of s t
  dead-counted z = (summary-of s t c (sym (dead-number s t c) ∙ z)).2

  fresh-length_alone : length c ≡ length (switches_in s) → entries_refusal s t c ≢ 30
  unfolding entries_refusal
  fresh-length_alone f e =
      one-not 30 refl refl (room-table-numbers s t) (sym (or_else_passed _ _ (λ z. rw (long-entries s c f))) ∙ e)

  -- what an answer of the question tells
  told : {x : DeadSwitch} → x ≡ dead_answer s t c → x.refusal.number ≡ 0 → TellsFirst s t x
  told p z = subst (TellsFirst s t) (sym p) (dead_tells s t c (sym (ap (λ (y : DeadSwitch). y.refusal.number) p) ∙ z))

-- ---- all of them

pub wrong_summary : (o q : Loan) → Summary o q
unfolding servers_of bound digits_of address_of digits switch_of switches_at ◌or_else◌ same shape_refusal level_refusal server_refusal link_refusal links.bit links.failed links.with_bit links.changed links.bits_fit links.fits_levels links.table_refusal links.room_table_refusal links.table_link_refusal links.table_server_refusal numbered switches_below switches_in place_of count_below count_at summary_of is_dead recounted recounted_below has_entries is_counted are_counted counted_link_refusal counted_server_refusal summary_refusal entries_refusal link_answer link_table link_summary all_bits changed_server server_answer server_table server_summary first_dead dead_answer fresh_answer fresh_summary
wrong_summary o q =
    record {
      marked_above_k = λ κ r x p e. differ (λ (y : Refusal). y.number) refl (sym e ∙ p.0);
      table_before_address = λ κ r x p e. differ (λ (y : Refusal). y.number) refl (sym e ∙ p.0);
      summary_before_address = λ κ r x p e. differ (λ (y : Refusal). y.number) refl (sym e ∙ p.0);
      summary_before_level = λ κ r x p e. differ (λ (y : Refusal). y.number) refl (sym e ∙ p.0);
      summary_before_table = λ κ r x p e. differ (λ (y : Refusal). y.number) refl (sym e ∙ p.0);
      six_for_thirty = λ κ r x p e. differ (λ (y : Refusal). y.number) refl (sym e ∙ p.0);
      thirty_at_route_1 = λ κ r x p e. differ (λ (y : Refusal). y.route) refl (sym e ∙ p.0);
      full_summary_taken = λ κ r x p e. differ (λ (y : Refusal). y.number) refl (sym e ∙ p.0);
      long_summary_taken = λ κ r x p e. differ (λ (y : Refusal). y.number) refl (sym e ∙ p.0);
      short_summary_taken = λ κ r x p e. differ (λ (y : Refusal). y.number) refl (sym e ∙ p.0);
      entry_not_tested = λ κ r x p e. differ (λ (y : Refusal). y.number) refl (sym e ∙ p.0);
      entry_not_tested_again = λ κ r x p e. differ (λ (y : Refusal). y.number) refl (sym e ∙ p.0);
      elsewhere_tested = λ κ r x p e. differ (λ (y : Refusal). y.number) refl (sym e ∙ p.0);
      m_servers_counted = λ κ r x p e. differ (λ (y : Refusal). y.number) refl (sym e ∙ p.0);
      another_level_counted = λ κ r x p e. differ (λ (y : Refusal). y.number) refl (sym e ∙ p.0);
      place_by_power_tested = λ κ r x p e. differ (λ (y : Refusal). y.number) refl (sym e ∙ p.0);
      marks_nothing = λ κ r x p. clash_left 3 refl p.1;
      other_mark_lost = λ κ r x p. clash_left 3 refl p.1;
      marked_twice = λ κ r x p. clash_left 3 refl p.1;
      marked_on_refusal = λ κ r x p. clash_left 3 refl p.1;
      marked_on_refusal_30 = λ κ r x p. clash_left 5 refl p.1;
      marked_in_full_table = λ κ r x p. clash_left 8 refl p.1;
      mark_not_counted = λ κ r x p. clash_left 3 refl p.2;
      counted_twice = λ κ r x p. clash_left 3 refl p.2;
      entry_set_to_1 = λ κ r x p. clash_left 3 refl p.2;
      place_by_power = λ κ r x p. clash_left 3 refl p.2;
      place_by_number = λ κ r x p. clash_left 2 refl p.2;
      other_switch_counted = λ κ r x p. clash_left 1 refl p.2;
      all_levels_counted = λ κ r x p. clash_left 1 refl p.2;
      elsewhere_corrected = λ κ r x p. clash_left 0 refl p.2;
      elsewhere_rewritten = λ κ r x p. clash_left 5 refl p.2;
      counted_on_refusal = λ κ r x p. clash_left 3 refl p.2;
      corrected_on_refusal = λ κ r x p. clash_left 3 refl p.2;
      counted_on_refusal_6 = λ κ r x p. clash_left 3 refl p.2;
      repeated_mark_counted = λ s t c u a l f n κ r x p e. n (sym e ∙ p.2 ∙ (link-nothing true s t c a l f).1);
      mark_moves_elsewhere = λ s t c u a l i f n κ r x p e. n (ap (λ (y : List ℕ). get_or y i 0) (sym e ∙ p.2) ∙ link_stays true s t c a l i f);
      mark_refused_and_table_touched = λ s t c u a l f n κ r x p e. n (sym e ∙ p.1 ∙ (link-kept true s t c a l f).0);
      mark_refused_and_summary_touched = λ s t c u a l f n κ r x p e. n (sym e ∙ p.2 ∙ (link-kept true s t c a l f).1);
      mark_thirty_first = λ s t c a l f κ r x p e. link-first s t c a l f (sym (ap (λ (y : Refusal). y.number) (sym e ∙ p.0)));
      mark_other_entries_tested = λ s t c a l f g κ r x p e. link-entry_alone s t c a l f g (sym (ap (λ (y : Refusal). y.number) (sym e ∙ p.0)));
      cleared_above_k = λ κ r x p e. differ (λ (y : Refusal). y.number) refl (sym e ∙ p.0);
      level_before_address = λ κ r x p e. differ (λ (y : Refusal). y.number) refl (sym e ∙ p.0);
      clear_summary_before_table = λ κ r x p e. differ (λ (y : Refusal). y.number) refl (sym e ∙ p.0);
      clear_long_summary_taken = λ κ r x p e. differ (λ (y : Refusal). y.number) refl (sym e ∙ p.0);
      clear_entry_not_tested = λ κ r x p e. differ (λ (y : Refusal). y.number) refl (sym e ∙ p.0);
      clear_entry_not_tested_again = λ κ r x p e. differ (λ (y : Refusal). y.number) refl (sym e ∙ p.0);
      clear_elsewhere_tested = λ κ r x p e. differ (λ (y : Refusal). y.number) refl (sym e ∙ p.0);
      unmarked_refused = λ κ r x p e. differ (λ (y : Refusal). y.number) refl (sym e ∙ p.0);
      clears_nothing = λ κ r x p. clash_left 3 refl p.1;
      clears_all = λ κ r x p. clash_left 3 refl p.1;
      cleared_twice = λ κ r x p. clash_left 3 refl p.1;
      cleared_on_refusal = λ κ r x p. clash_left 3 refl p.1;
      cleared_on_refusal_30 = λ κ r x p. clash_left 5 refl p.1;
      cleared_in_full_table = λ κ r x p. clash_left 8 refl p.1;
      clearing_not_counted = λ κ r x p. clash_left 3 refl p.2;
      unmarked_subtracted = λ κ r x p. clash_left 3 refl p.2;
      subtracted_below_0 = λ κ r x p. clash_left 3 refl p.2;
      entry_set_to_0 = λ κ r x p. clash_left 3 refl p.2;
      clear_place_by_power = λ κ r x p. clash_left 3 refl p.2;
      clear_elsewhere_corrected = λ κ r x p. clash_left 0 refl p.2;
      clear_counted_on_refusal = λ κ r x p. clash_left 3 refl p.2;
      unmarked_clearing_counted = λ s t c u a l f n κ r x p e. n (sym e ∙ p.2 ∙ (link-nothing false s t c a l f).1);
      clear_moves_elsewhere = λ s t c u a l i f n κ r x p e. n (ap (λ (y : List ℕ). get_or y i 0) (sym e ∙ p.2) ∙ link_stays false s t c a l i f);
      clear_refused_and_table_touched = λ s t c u a l f n κ r x p e. n (sym e ∙ p.1 ∙ (link-kept false s t c a l f).0);
      clear_refused_and_summary_touched = λ s t c u a l f n κ r x p e. n (sym e ∙ p.2 ∙ (link-kept false s t c a l f).1);
      clear_thirty_first = λ s t c a l f κ r x p e. link-first s t c a l f (sym (ap (λ (y : Refusal). y.number) (sym e ∙ p.0)));
      clear_other_entries_tested = λ s t c a l f g κ r x p e. link-entry_alone s t c a l f g (sym (ap (λ (y : Refusal). y.number) (sym e ∙ p.0)));
      server_n_marked = λ κ r x p e. differ (λ (y : Refusal). y.number) refl (sym e ∙ p.0);
      mark_table_before_address = λ κ r x p e. differ (λ (y : Refusal). y.number) refl (sym e ∙ p.0);
      server_summary_before_table = λ κ r x p e. differ (λ (y : Refusal). y.number) refl (sym e ∙ p.0);
      server_long_summary_taken = λ κ r x p e. differ (λ (y : Refusal). y.number) refl (sym e ∙ p.0);
      level_k_not_tested = λ κ r x p e. differ (λ (y : Refusal). y.number) refl (sym e ∙ p.0);
      level_0_not_tested = λ κ r x p e. differ (λ (y : Refusal). y.number) refl (sym e ∙ p.0);
      dead_server_not_tested = λ κ r x p e. differ (λ (y : Refusal). y.number) refl (sym e ∙ p.0);
      server_elsewhere_tested = λ κ r x p e. differ (λ (y : Refusal). y.number) refl (sym e ∙ p.0);
      marks_no_server = λ κ r x p. clash_left 3 refl p.1;
      marks_one_link = λ κ r x p. clash_left 3 refl p.1;
      marks_whole_byte = λ κ r x p. clash_left 3 refl p.1;
      server_marked_twice = λ κ r x p. clash_left 3 refl p.1;
      server_marked_on_refusal = λ κ r x p. clash_left 3 refl p.1;
      server_marked_on_refusal_30 = λ κ r x p. clash_left 5 refl p.1;
      level_0_marked_on_refusal = λ κ r x p. clash_left 5 refl p.1;
      server_marked_in_full_table = λ κ r x p. clash_left 8 refl p.1;
      server_not_counted = λ κ r x p. clash_left 1 refl p.2;
      level_0_counted_alone = λ κ r x p. clash_left 3 refl p.2;
      level_k_counted_alone = λ κ r x p. clash_left 1 refl p.2;
      server_counted_twice = λ κ r x p. clash_left 1 refl p.2;
      link_counted_twice = λ κ r x p. clash_left 1 refl p.2;
      server_place_by_power = λ κ r x p. clash_left 3 refl p.2;
      server_elsewhere_corrected = λ κ r x p. clash_left 0 refl p.2;
      level_0_counted_on_refusal = λ κ r x p. clash_left 1 refl p.2;
      server_corrected_on_refusal = λ κ r x p. clash_left 3 refl p.2;
      dead_server_counted = λ s t c u a f n κ r x p e. n (sym e ∙ p.2 ∙ (server-nothing true s t c a f).1);
      mark_server_moves_elsewhere = λ s t c u a i f n κ r x p e. n (ap (λ (y : List ℕ). get_or y i 0) (sym e ∙ p.2) ∙ server_stays true s t c a i f);
      mark_server_refused_and_table_touched = λ s t c u a f n κ r x p e. n (sym e ∙ p.1 ∙ (server-kept true s t c a f).0);
      mark_server_refused_and_summary_touched = λ s t c u a f n κ r x p e. n (sym e ∙ p.2 ∙ (server-kept true s t c a f).1);
      mark_server_thirty_first = λ s t c a f κ r x p e. server-first s t c a f (sym (ap (λ (y : Refusal). y.number) (sym e ∙ p.0)));
      server_n_cleared = λ κ r x p e. differ (λ (y : Refusal). y.number) refl (sym e ∙ p.0);
      clear_table_before_address = λ κ r x p e. differ (λ (y : Refusal). y.number) refl (sym e ∙ p.0);
      live_server_refused = λ κ r x p e. differ (λ (y : Refusal). y.number) refl (sym e ∙ p.0);
      live_server_refused_30 = λ κ r x p e. differ (λ (y : Refusal). y.number) refl (sym e ∙ p.0);
      clear_server_summary_before_table = λ κ r x p e. differ (λ (y : Refusal). y.number) refl (sym e ∙ p.0);
      clear_server_long_summary_taken = λ κ r x p e. differ (λ (y : Refusal). y.number) refl (sym e ∙ p.0);
      clear_level_k_not_tested = λ κ r x p e. differ (λ (y : Refusal). y.number) refl (sym e ∙ p.0);
      clear_level_0_not_tested = λ κ r x p e. differ (λ (y : Refusal). y.number) refl (sym e ∙ p.0);
      clear_server_not_tested_again = λ κ r x p e. differ (λ (y : Refusal). y.number) refl (sym e ∙ p.0);
      clear_server_elsewhere_tested = λ κ r x p e. differ (λ (y : Refusal). y.number) refl (sym e ∙ p.0);
      clears_no_server = λ κ r x p. clash_left 3 refl p.1;
      clears_one_link = λ κ r x p. clash_left 3 refl p.1;
      clears_whole_table = λ κ r x p. clash_left 7 refl p.1;
      server_cleared_on_refusal = λ κ r x p. clash_left 3 refl p.1;
      server_cleared_on_refusal_30 = λ κ r x p. clash_left 5 refl p.1;
      server_cleared_in_full_table = λ κ r x p. clash_left 8 refl p.1;
      server_clearing_not_counted = λ κ r x p. clash_left 1 refl p.2;
      level_0_cleared_alone = λ κ r x p. clash_left 3 refl p.2;
      server_unmarked_subtracted = λ κ r x p. clash_left 3 refl p.2;
      clears_whole_summary = λ κ r x p. clash_left 0 refl p.2;
      clear_server_place_by_power = λ κ r x p. clash_left 3 refl p.2;
      clear_server_elsewhere_corrected = λ κ r x p. clash_left 0 refl p.2;
      clear_level_0_counted_on_refusal = λ κ r x p. clash_left 1 refl p.2;
      live_server_counted = λ s t c u a f n κ r x p e. n (sym e ∙ p.2 ∙ (server-nothing false s t c a f).1);
      clear_server_moves_elsewhere = λ s t c u a i f n κ r x p e. n (ap (λ (y : List ℕ). get_or y i 0) (sym e ∙ p.2) ∙ server_stays false s t c a i f);
      clear_server_refused_and_table_touched = λ s t c u a f n κ r x p e. n (sym e ∙ p.1 ∙ (server-kept false s t c a f).0);
      clear_server_refused_and_summary_touched = λ s t c u a f n κ r x p e. n (sym e ∙ p.2 ∙ (server-kept false s t c a f).1);
      clear_server_thirty_first = λ s t c a f κ r x p e. server-first s t c a f (sym (ap (λ (y : Refusal). y.number) (sym e ∙ p.0)));
      dead_fields_exchanged = λ κ x e. differ (λ (y : DeadSwitch). y.level) refl e;
      n_for_m = clash_told _ (λ (y : DeadSwitch). bit y.found) refl;
      m_for_n = clash_told _ (λ (y : DeadSwitch). bit y.found) refl;
      one_mark_is_dead = clash_told _ (λ (y : DeadSwitch). bit y.found) refl;
      first_switch_is_none = clash_told _ (λ (y : DeadSwitch). bit y.found) refl;
      none_is_first_switch = clash_told _ (λ (y : DeadSwitch). bit y.found) refl;
      later_switch_given = clash_told _ (λ (y : DeadSwitch). y.number) refl;
      higher_level_first = clash_told _ (λ (y : DeadSwitch). y.level) refl;
      place_for_number = clash_told _ (λ (y : DeadSwitch). y.number) refl;
      level_by_power = clash_told _ (λ (y : DeadSwitch). y.level) refl;
      dead_level_and_number_exchanged = clash_told _ (λ (y : DeadSwitch). y.level) refl;
      server_for_switch = clash_told _ (λ (y : DeadSwitch). bit y.found) refl;
      table_not_counted = clash_told _ (λ (y : DeadSwitch). y.refusal.number) refl;
      summary_not_asked = clash_told _ (λ (y : DeadSwitch). y.refusal.number) refl;
      none_over_wrong_entries = clash_told _ (λ (y : DeadSwitch). y.refusal.number) refl;
      tested_to_the_first = clash_told _ (λ (y : DeadSwitch). y.refusal.number) refl;
      dead_summary_before_table = clash_told _ (λ (y : DeadSwitch). y.refusal.number) refl;
      dead_full_table_taken = clash_told _ (λ (y : DeadSwitch). y.refusal.number) refl;
      dead_long_summary_taken = clash_told _ (λ (y : DeadSwitch). y.refusal.number) refl;
      dead_short_summary_taken = clash_told _ (λ (y : DeadSwitch). y.refusal.number) refl;
      found_beside_refusal = clash_told _ (λ (y : DeadSwitch). bit y.found) refl;
      last_switch_missed = clash_told _ (λ (y : DeadSwitch). bit y.found) refl;
      dead_denied = λ s t c l w h κ r x p e. (told s t c (sym e ∙ p) refl).nothing refl l w h;
      live_switch_found = λ s t c l w a h e f κ r x p q. true≢false (sym (((told s t c (sym q ∙ p) refl).dead refl).all a h e) ∙ f);
      not_the_first = λ s t c l w j v e h κ r x p q. (told s t c (sym q ∙ p) refl).first refl j v e h;
      answered_over_wrong_summary = λ s t c y f z κ r x p e. f (dead-counted s t c (sym (ap (λ (v : DeadSwitch). v.refusal.number) (sym e ∙ p)) ∙ z));
      dead_thirty_first = λ s t c f κ r x p e. dead-first s t c f (sym (ap (λ (v : DeadSwitch). v.refusal.number) (sym e ∙ p)));
      old_entries_tested = λ κ r x p e. differ (λ (y : Refusal). y.number) refl (sym e ∙ p.0);
      old_entries_refused = λ κ r x p e. differ (λ (y : Refusal). y.number) refl (sym e ∙ p.0);
      fresh_summary_before_table = λ κ r x p e. differ (λ (y : Refusal). y.number) refl (sym e ∙ p.0);
      fresh_long_summary_taken = λ κ r x p e. differ (λ (y : Refusal). y.number) refl (sym e ∙ p.0);
      fresh_full_summary_taken = λ κ r x p e. differ (λ (y : Refusal). y.number) refl (sym e ∙ p.0);
      fresh_2048_taken = λ κ r x p e. differ (λ (y : Refusal). y.number) refl (sym e ∙ p.0);
      fresh_full_table_taken = λ κ r x p e. differ (λ (y : Refusal). y.number) refl (sym e ∙ p.0);
      old_bytes_left = λ κ r x p. clash_left 0 refl p.1;
      old_bytes_added = λ κ r x p. clash_left 3 refl p.1;
      counted_at_other_level = λ κ r x p. clash_left 1 refl p.1;
      counted_at_level_0_alone = λ κ r x p. clash_left 3 refl p.1;
      fresh_place_by_power = λ κ r x p. clash_left 3 refl p.1;
      fresh_m_servers = λ κ r x p. clash_left 0 refl p.1;
      first_left = λ κ r x p. clash_left 0 refl p.1;
      last_left = λ κ r x p. clash_left 5 refl p.1;
      live_counted = λ κ r x p. clash_left 0 refl p.1;
      servers_counted = λ κ r x p. clash_left 1 refl p.1;
      fresh_on_refusal = λ κ r x p. clash_left 0 refl p.1;
      fresh_on_refusal_6 = λ κ r x p. clash_left 0 refl p.1;
      any_old_entries_tested = λ s t c f κ r x p e. fresh-length_alone s t c f (sym (ap (λ (y : Refusal). y.number) (sym e ∙ p.0)));
      fresh_refused_and_touched = λ s t c u f n κ r x p e. n (sym e ∙ p.1 ∙ fresh_kept s t c f);
    }
