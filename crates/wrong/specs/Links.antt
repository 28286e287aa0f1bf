-- Wrong answers of `links`, wherever the table lies.
use Rattle.std.specs.Prelude.{true, false, [], replicate}
use Rattle.refusals.specs.Reasons.{told}
use Rattle.room.specs.Shapes.{shape_of, full_room}
use Rattle.links.specs.Answers.{asked, not_asked}
use Rattle.links.proofs.failed_link.Reads as failed_link
use Rattle.links.proofs.put.Reads as put
use Rattle.links.proofs.is_failed.Reads as is_failed
use Rattle.links.proofs.is_live.Reads as is_live
use Rattle.links.proofs.table_refusal.Reads as table-refusal
use Rattle.links.proofs.table_link_refusal.Reads as table-link-refusal
use Rattle.links.proofs.table_server_refusal.Reads as table-server-refusal
use Rattle.wrong.specs.Never.{Never, NeverLeaves, Loan, ◌&◌, ◌lends◌, ◌lends_mut◌, NeverTells}
use Rattle.wrong.specs.Examples.{healthy, failing, half_healthy}
use Rattle.wrong.specs.Told.{asked_told}

pub record Links (o : Loan) : Type 0 where
  -- ---- failed_link
  -- another link of the server told for this one: level 1 is failed, level 0 asked
  pub another_link_told : NeverTells failed_link.Post (full_room 4 1 & o lends failing 3 2 & 3 & 0 & tt) asked_told (asked true)
  -- the byte compared, and not its bit: the links of a dead server told live
  pub byte_for_bit : NeverTells failed_link.Post (full_room 4 1 & o lends failing 3 3 & 3 & 0 & tt) asked_told (asked false)
  -- 6 not tested: a link past the end of a table of 15 bytes told live
  pub short_table_asked : NeverTells failed_link.Post (full_room 4 1 & o lends replicate 15 0 & 15 & 0 & tt) asked_told (asked false)
  -- N as n to the power k + 1: server 8 of (4,1,2) in a table of 16 bytes told live
  pub full_table_asked : NeverTells failed_link.Post (shape_of 4 1 2 & o lends healthy & 8 & 0 & tt) asked_told (asked false)
  -- the link of level k of a half-filled room refused
  pub half_filled_level_refused : NeverTells failed_link.Post (shape_of 4 1 2 & o lends replicate 8 0 & 3 & 1 & tt) asked_told (not_asked 20)
  -- ---- put
  -- put the other way round: a link to be marked cleared
  pub put_other_way_round : NeverLeaves put.Post (o lends_mut failing 3 2 & 3 & 1 & true & tt) (λ x. x.0.now) healthy
  -- the other links of the server cleared with it
  pub put_clears_other_links : NeverLeaves put.Post (o lends_mut failing 3 3 & 3 & 0 & false & tt) (λ x. x.0.now) healthy
  -- ---- is_failed
  -- another link of the server told for this one
  pub another_level_told : Never is_failed.Post (o lends failing 3 2 & 3 & 0 & tt) true
  -- the byte compared, and not its bit
  pub dead_told_live : Never is_failed.Post (o lends failing 3 3 & 3 & 0 & tt) false
  -- a server past the table's end brought back into it: 19 as 3
  pub server_brought_back : Never is_failed.Post (o lends failing 3 1 & 19 & 0 & tt) true
  -- a bit that a byte does not have: of level 8, brought back to level 0
  pub level_brought_back : Never is_failed.Post (o lends failing 3 1 & 3 & 8 & tt) true
  -- ---- is_live
  -- the receiver's link forgotten
  pub receiver_forgotten : Never is_live.Post (o lends failing 3 1 & 0 & 0 & 3 & tt) true
  -- the sender's link forgotten
  pub sender_forgotten : Never is_live.Post (o lends failing 3 1 & 0 & 3 & 0 & tt) true
  -- a failed link of another level counted
  pub another_level : Never is_live.Post (o lends failing 3 2 & 0 & 0 & 3 & tt) false
  -- ---- table_refusal
  -- a bit above k taken
  pub bit_above_k_taken : NeverTells table-refusal.Post (full_room 4 1 & o lends failing 3 4 & tt) told 0
  -- a table of one byte too many taken
  pub long_table_taken : NeverTells table-refusal.Post (full_room 4 1 & o lends replicate 17 0 & tt) told 0
  -- 6 tested before 3: no bytes for (9,3)
  pub table_before_shape : NeverTells table-refusal.Post (full_room 9 3 & o lends [] & tt) told 6
  -- N as n to the power k + 1: a table of 16 bytes for (4,1,2) taken
  pub full_table_taken : NeverTells table-refusal.Post (shape_of 4 1 2 & o lends healthy & tt) told 0
  -- the same of (8,3,4): 4,096 bytes
  pub full_4096_taken : NeverTells table-refusal.Post (shape_of 8 3 4 & o lends replicate 4096 0 & tt) told 0
  -- a table of 8 bytes for (4,1,2) refused
  pub half_filled_table_refused : NeverTells table-refusal.Post (shape_of 4 1 2 & o lends replicate 8 0 & tt) told 6
  -- ---- table_link_refusal
  -- level k + 1 taken
  pub link_above_k_taken : NeverTells table-link-refusal.Post (full_room 4 1 & o lends healthy & 3 & 2 & tt) told 0
  -- 6 tested before 20: level 2, a table of 15 bytes
  pub link_table_before_level : NeverTells table-link-refusal.Post (full_room 4 1 & o lends replicate 15 0 & 3 & 2 & tt) told 6
  -- 20 tested before 4: level 2 of server 16
  pub link_level_before_address : NeverTells table-link-refusal.Post (full_room 4 1 & o lends healthy & 16 & 2 & tt) told 20
  -- 6 not tested
  pub link_short_table_taken : NeverTells table-link-refusal.Post (full_room 4 1 & o lends replicate 15 0 & 3 & 1 & tt) told 0
  -- the byte of the server tested alone: another has a bit above k
  pub link_own_byte_tested : NeverTells table-link-refusal.Post (full_room 4 1 & o lends failing 7 4 & 3 & 1 & tt) told 0
  -- N as n to the power k + 1: a table of 16 bytes for (4,1,2) taken
  pub link_full_table_taken : NeverTells table-link-refusal.Post (shape_of 4 1 2 & o lends healthy & 3 & 1 & tt) told 0
  -- its own table of 8 bytes refused
  pub link_half_filled_table_refused : NeverTells table-link-refusal.Post (shape_of 4 1 2 & o lends half_healthy & 3 & 1 & tt) told 6
  -- ---- table_server_refusal
  -- server N taken
  pub server_n_taken : NeverTells table-server-refusal.Post (full_room 4 1 & o lends healthy & 16 & tt) told 0
  -- 6 tested before 4: server 16, a table of 15 bytes
  pub server_table_before_address : NeverTells table-server-refusal.Post (full_room 4 1 & o lends replicate 15 0 & 16 & tt) told 6
  -- 6 not tested
  pub server_short_table_taken : NeverTells table-server-refusal.Post (full_room 4 1 & o lends replicate 15 0 & 3 & tt) told 0
  -- the byte of the server tested alone: another has a bit above k
  pub server_own_byte_tested : NeverTells table-server-refusal.Post (full_room 4 1 & o lends failing 7 4 & 3 & tt) told 0
  -- N as n to the power k + 1: server 8 of (4,1,2) taken
  pub server_of_the_full_room_taken : NeverTells table-server-refusal.Post (shape_of 4 1 2 & o lends healthy & 8 & tt) told 0
  -- the same of a table of 16 bytes
  pub server_full_table_taken : NeverTells table-server-refusal.Post (shape_of 4 1 2 & o lends healthy & 3 & tt) told 0
  -- its own table of 8 bytes refused
  pub server_half_filled_table_refused : NeverTells table-server-refusal.Post (shape_of 4 1 2 & o lends half_healthy & 3 & tt) told 6
