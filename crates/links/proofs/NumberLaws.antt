-- Each chain of the table gives one of its numbers.
use Prim.Native.Nat.{ℕ}
use mathlib.Core.Bool.{◌&&◌}
use mathlib.Core.List.{List}
use lib.Dec.{eqb}
use lib.ListN.{length}
use Rattle.refusals.specs.Refusals.{OneOf}
use Rattle.refusals.proofs.NumberLaws.{test_one, chain_one}
use Rattle.room.specs.declared.Shape.{Shape}
use Rattle.room.specs.Shapes.{servers_of}
use Rattle.room.proofs.NumberLaws.{shape-numbers, server-numbers, ends-numbers, link-numbers}
use Rattle.links.specs.Table.{bits_fit, table_refusal, table_numbers, room_table_refusal, room_table_numbers, room_refusal, room_numbers, table_link_refusal, table_link_numbers, table_server_refusal, table_server_numbers}

module _ (s : Shape) (t : List ℕ) where
  pub table-numbers : OneOf table_numbers (table_refusal s t)
  unfolding table_refusal
  table-numbers = test_one 6 (eqb (length t) (servers_of s) && bits_fit s.k t)

  pub room-table-numbers : OneOf room_table_numbers (room_table_refusal s t)
  unfolding room_table_refusal
  room-table-numbers = chain_one _ _ (shape-numbers s) table-numbers

  pub room-numbers : (a d : ℕ) → OneOf room_numbers (room_refusal s t a d)
  unfolding room_refusal
  room-numbers a d = chain_one _ _ (ends-numbers s a d) table-numbers

  pub table-link-numbers : (a l : ℕ) → OneOf table_link_numbers (table_link_refusal s t a l)
  unfolding table_link_refusal
  table-link-numbers a l = chain_one _ _ (link-numbers s a l) table-numbers

  pub table-server-numbers : (a : ℕ) → OneOf table_server_numbers (table_server_refusal s t a)
  unfolding table_server_refusal
  table-server-numbers a = chain_one _ _ (server-numbers s a) table-numbers
