-- Each chain of the summary gives one of its numbers.
use Prim.Native.Nat.{ℕ, suc}
use mathlib.Core.Bool.{◌&&◌}
use mathlib.Core.List.{List}
use Rattle.lists.specs.Lists.{same}
use Rattle.refusals.specs.Refusals.{OneOf}
use Rattle.refusals.proofs.NumberLaws.{test_one, chain_one}
use Rattle.room.specs.declared.Shape.{Shape}
use Rattle.links.proofs.NumberLaws.{room-table-numbers, table-link-numbers, table-server-numbers}
use Rattle.summary.specs.Counts.{summary_of}
use Rattle.summary.specs.Refusals.{has_entries, is_counted, are_counted, counted_link_refusal, counted_link_numbers, counted_server_refusal, counted_server_numbers, summary_refusal, entries_refusal, room_summary_numbers}

module _ (s : Shape) (t c : List ℕ) where
  pub counted-link-numbers : (a l : ℕ) → OneOf counted_link_numbers (counted_link_refusal s t c a l)
  unfolding counted_link_refusal
  counted-link-numbers a l = chain_one _ _ (table-link-numbers s t a l) (test_one 30 (has_entries s c && is_counted s t c a l))

  pub counted-server-numbers : (a : ℕ) → OneOf counted_server_numbers (counted_server_refusal s t c a)
  unfolding counted_server_refusal
  counted-server-numbers a = chain_one _ _ (table-server-numbers s t a) (test_one 30 (has_entries s c && are_counted s t c a (suc s.k)))

  pub summary-numbers : OneOf room_summary_numbers (summary_refusal s t c)
  unfolding summary_refusal
  summary-numbers = chain_one _ _ (room-table-numbers s t) (test_one 30 (same c (summary_of s t)))

  pub entries-numbers : OneOf room_summary_numbers (entries_refusal s t c)
  unfolding entries_refusal
  entries-numbers = chain_one _ _ (room-table-numbers s t) (test_one 30 (has_entries s c))
