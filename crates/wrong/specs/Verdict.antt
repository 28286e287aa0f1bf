-- Wrong answers of `verdict`, wherever the table and the list lie.
use Rattle.std.specs.Prelude.{[], ◌∷◌, ◌++◌, replicate}
use Rattle.refusals.specs.Refusals.{none, plain, refused_at, with_earlier}
use Rattle.refusals.specs.Reasons.{told_where}
use Rattle.room.specs.Shapes.{shape_of, full_room}
use Rattle.verdict.proofs.check_list.Reads as check_list
use Rattle.wrong.specs.Never.{NeverTells, Loan, ◌&◌, ◌lends◌}
use Rattle.wrong.specs.Examples.{array, healthy, failing, direct, other, round_to_server}

pub record Verdict (o q : Loan) : Type 0 where
  -- ---- check_list
  -- middle servers compared only: 00 to 03 of (4,1), the route 03 twice, which has none
  pub middle_servers_only : NeverTells check_list.Post (full_room 4 1 & o lends healthy & 0 & 3 & q lends array (0x03 ∷ []) ++ array (0x03 ∷ []) & tt) told_where none
  -- 15 at the earlier of the pair, whatever else is told
  pub earlier_of_the_pair : NeverTells check_list.Post (full_room 4 1 & o lends healthy & 0 & 3 & q lends array (0x03 ∷ []) ++ array (0x03 ∷ []) & tt) (λ y. (told_where y).route) 1
  -- the receiver's link forgotten: the level-0 link of 03 is failed
  pub receiver_forgotten : NeverTells check_list.Post (full_room 4 1 & o lends failing 3 1 & 0 & 3 & q lends array (0x03 ∷ []) & tt) told_where none
  -- 28 tested before 11: 00 by 01, 11, 12 and 02 to 01, where the level-0 link of 02 is failed
  pub server_again_before_link : NeverTells check_list.Post (full_room 4 1 & o lends failing 2 1 & 0 & 15 & q lends round_to_server & tt) told_where (with_earlier 0 1 (refused_at 28 1 5))
  -- the earlier hop told with 11
  pub earlier_hop_told_with_11 : NeverTells check_list.Post (full_room 4 1 & o lends failing 2 1 & 0 & 15 & q lends round_to_server & tt) told_where (with_earlier 0 1 (refused_at 11 1 5))
  -- a place of the second array counted on from the first: 00 to 03, 03 and then 41 00, whose second hop changes nothing
  pub hops_counted_on : NeverTells check_list.Post (full_room 4 1 & o lends healthy & 0 & 3 & q lends array (0x03 ∷ []) ++ array (0x41 ∷ 0x00 ∷ []) & tt) told_where (refused_at 10 2 10)
  -- 15 tested before all arrays are read: 00 to 03 of (4,2), the route 03 twice, and a third that changes nothing
  pub pairs_before_routes : NeverTells check_list.Post (full_room 4 2 & o lends replicate 64 0 & 0 & 3 & q lends array (0x03 ∷ []) ++ array (0x03 ∷ []) ++ array [] & tt) (λ y. (told_where y).number) 15
  -- an empty list accepted
  pub empty_list_accepted : NeverTells check_list.Post (full_room 4 1 & o lends healthy & 0 & 3 & q lends [] & tt) told_where none
  -- 7 tested before 6: a list of nine bytes, a table of none
  pub list_before_table : NeverTells check_list.Post (full_room 4 1 & o lends [] & 0 & 3 & q lends replicate 9 0 & tt) told_where (plain 7)
  -- N as n to the power k + 1: 0 to 7 of (4,1,2) with sixteen bytes of table
  pub full_table_accepted : NeverTells check_list.Post (shape_of 4 1 2 & o lends healthy & 0 & 7 & q lends direct ++ other & tt) told_where none
  -- its own eight bytes of table refused
  pub half_filled_table_refused : NeverTells check_list.Post (shape_of 4 1 2 & o lends replicate 8 0 & 0 & 7 & q lends direct ++ other & tt) told_where (plain 6)
  -- the bound of level k as n: 0 to 3 by 42 03 40
  pub value_m_accepted : NeverTells check_list.Post (shape_of 4 1 2 & o lends replicate 8 0 & 0 & 3 & q lends array (0x42 ∷ 0x03 ∷ 0x40 ∷ []) & tt) told_where none
  -- 4 for 9: server 8 is not below N
  pub four_for_nine : NeverTells check_list.Post (shape_of 4 1 2 & o lends replicate 8 0 & 0 & 3 & q lends array (0x42 ∷ 0x03 ∷ 0x40 ∷ []) & tt) told_where (plain 4)
  -- the bound of level 0 as m: byte 03 refused
  pub value_3_refused : NeverTells check_list.Post (shape_of 4 1 2 & o lends replicate 8 0 & 0 & 3 & q lends array (0x03 ∷ []) & tt) told_where (refused_at 9 1 1)
