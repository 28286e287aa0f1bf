-- Wrong answers of `desk_line`, refuted.
use mathlib.Core.Path.{refl}
use Prim.Native.Nat.{ℕ}
use mathlib.Core.List.{List}
use lib.ListN.{length, get_or}
use Rattle.lists.specs.Lists.{filled, in_order}
use Rattle.refusals.specs.Refusals.{◌or_else◌}
use Rattle.room.specs.Shapes.{servers_of, bound}
use Rattle.room.specs.Digits.{digits_of, address_of}
use Rattle.room.specs.Addresses.{digits, digit, with_digit}
use Rattle.room.specs.Refusals.{shape_refusal, server_refusal, pair_refusal, ends_refusal, level_refusal, link_refusal}
use Rattle.trees.specs.Trees.{level_at, last_apart, lowered_at, hangs_at, lowered, parent_of}
use Rattle.path.specs.Routes.{byte_of}
use Rattle.build.specs.Built.{plus_one, built_hops, bytes_of, built_bytes}
use Rattle.build.specs.Sets.{joined}
use Rattle.desk_line.specs.Lines.{before, after, line_size}
use Rattle.desk_line.specs.Numbers.{Question, TreeQuestion, digits_only, value_from, word_of, words_of, all_numbers, numbers_by, numbers_of, numbers_in, question_of, tree_question_of}
use Rattle.desk_line.specs.Texts.{hex_digit, hex_of, decimal_in, decimal, refused_line, route_line}
use Rattle.desk_line.specs.Answers.{slot_line, routes_text, built_text, desk_text}
use Rattle.desk_line.specs.TreeLines.{pointed, server_words, parent_words, server_line, lines_of, tree_lines, tree_line}
use Rattle.wrong.specs.Never.{Loan}
use Rattle.wrong.specs.DeskLine.{DeskLine}
use Rattle.wrong.proofs.Clash.{differ, clash}

pub wrong_desk_line : (o : Loan) → DeskLine o
unfolding servers_of bound digits_of digits ◌or_else◌ shape_refusal server_refusal pair_refusal filled byte_of ends_refusal plus_one built_hops bytes_of built_bytes joined before after line_size digits_only value_from word_of words_of all_numbers numbers_by numbers_of numbers_in question_of tree_question_of level_refusal link_refusal address_of digit with_digit level_at last_apart lowered_at hangs_at lowered parent_of pointed server_words parent_words server_line in_order lines_of tree_lines tree_line hex_digit hex_of decimal_in decimal refused_line route_line slot_line routes_text built_text desk_text
wrong_desk_line o =
    record {
      zeros_shown = λ p κ x e. differ (λ (y : List ℕ). length y) refl e.0;
      newline_not_shown = λ p κ x e. differ (λ (y : List ℕ). length y) refl e.0;
      other_bytes_shown = λ p text bs n κ x e. n e.0;
      shown_elsewhere = λ p n κ x e. n e.1;
      ends_exchanged = clash (λ (y : Question). y.source) refl;
      number_wraps = clash (λ (y : Question). y.n) refl;
      two_spaces_taken = clash (λ (y : Question). y.n) refl;
      rest_not_ignored = clash (λ (y : Question). y.n) refl;
      newline_missed = clash (λ (y : Question). y.n) refl;
      newline_not_counted = clash (λ (y : Question). y.n) refl;
      five_numbers_taken = clash (λ (y : Question). y.n) refl;
      zero_bytes_for_no_hops = clash (λ (y : List ℕ). get_or y 17 0) refl;
      hex_upper_case = clash (λ (y : List ℕ). get_or y 0 0) refl;
      lower_slots_first = clash (λ (y : List ℕ). get_or y 0 0) refl;
      refusal_is_input = clash (λ (y : List ℕ). get_or y 0 0) refl;
      twenty_six_printed = clash (λ (y : List ℕ). get_or y 0 0) refl;
      fill_before_ports = clash (λ (y : List ℕ). get_or y 8 0) refl;
      fill_left_out = clash (λ (y : TreeQuestion). y.n) refl;
      ports_for_fill = clash (λ (y : TreeQuestion). y.m) refl;
      fill_last = clash (λ (y : TreeQuestion). y.m) refl;
      six_numbers_taken = clash (λ (y : TreeQuestion). y.n) refl;
      refused_not_taken = clash (λ (y : TreeQuestion). y.n) refl;
      tree_before_source = clash (λ (y : TreeQuestion). y.source) refl;
      tree_wraps = clash (λ (y : TreeQuestion). y.n) refl;
      digit_0_first = clash (λ (y : List ℕ). get_or y 2 0) refl;
      child_for_parent = clash (λ (y : List ℕ). get_or y 6 0) refl;
      raised_for_lowered = clash (λ (y : List ℕ). get_or y 6 0) refl;
      n_for_m = clash (λ (y : List ℕ). get_or y 6 0) refl;
      levels_downwards = clash (λ (y : List ℕ). get_or y 8 0) refl;
      digits_in_hex = clash (λ (y : List ℕ). get_or y 5 0) refl;
      source_has_a_parent = clash (λ (y : List ℕ). get_or y 6 0) refl;
      source_left_out = clash (λ (y : List ℕ). get_or y 0 0) refl;
      source_from_itself = clash (λ (y : List ℕ). get_or y 6 0) refl;
      lines_past_the_room = clash (λ (y : List ℕ). length y) refl;
      last_left_out = clash (λ (y : List ℕ). length y) refl;
      refusal_cut = clash (λ (y : List ℕ). length y) refl;
      refused_again = clash (λ (y : List ℕ). length y) refl;
      tree_before_address = clash (λ (y : List ℕ). get_or y 8 0) refl;
      input_is_refusal = clash (λ (y : List ℕ). get_or y 0 0) refl;
      input_again = clash (λ (y : List ℕ). length y) refl;
    }
