-- Wrong answers of `summary`, wherever the table and the summary lie.
use Rattle.std.specs.Prelude.{ℕ, ◌≤◌, ◌≡◌, ◌≢◌, true, false, List, [], ◌∷◌, length, get_or, replicate, set, Ok, Some}
use Rattle.refusals.specs.Refusals.{none, plain, refused_at}
use Rattle.room.specs.declared.Shape.{Shape}
use Rattle.room.specs.Shapes.{shape_of, full_room, Server}
use Rattle.room.specs.Addresses.{switch_of}
use Rattle.links.specs.Table.{failed, room_table_refusal, table_link_refusal, table_server_refusal}
use Rattle.summary.specs.Told.{DeadSwitch}
use Rattle.summary.specs.Counts.{switches_in, place_of, count_at, summary_of}
use Rattle.summary.specs.Refusals.{counted_link_refusal, counted_server_refusal, entries_refusal}
use Rattle.summary.specs.Answers.{none_dead, dead_at}
use Rattle.summary.specs.Promises.{Earlier, DeadOne}
use Rattle.summary.proofs.mark_link.Reads as mark-link
use Rattle.summary.proofs.clear_link.Reads as clear-link
use Rattle.summary.proofs.mark_server.Reads as mark-server
use Rattle.summary.proofs.clear_server.Reads as clear-server
use Rattle.summary.proofs.dead_switch.Reads as dead-switch
use Rattle.summary.proofs.summarize.Reads as summarize
use Rattle.wrong.specs.Never.{NeverLeaves, Loan, second, third, ◌&◌, ◌lends◌, ◌lends_mut◌, NeverTells, Never}
use Rattle.wrong.specs.Examples.{healthy, failing, unmarked, counting, half_healthy, half_failing, half_unmarked, half_counting, stale}
use Rattle.wrong.specs.Told.{refusal_told, dead_told}

-- o lends a table, q a summary
pub record Summary (o q : Loan) : Type 0 where
  -- ---- mark_link
  -- level k + 1 marked
  pub marked_above_k : NeverTells mark-link.Post (full_room 4 1 & o lends_mut healthy & q lends_mut unmarked & 3 & 2 & tt) refusal_told none
  -- 6 tested before 4: server 16, a table of 15 bytes
  pub table_before_address : NeverTells mark-link.Post (full_room 4 1 & o lends_mut replicate 15 0 & q lends_mut unmarked & 16 & 0 & tt) refusal_told (plain 6)
  -- 30 tested before 4: server 16, a summary of 9 bytes
  pub summary_before_address : NeverTells mark-link.Post (full_room 4 1 & o lends_mut healthy & q lends_mut replicate 9 0 & 16 & 0 & tt) refusal_told (plain 30)
  -- 30 tested before 20: level 2, a summary of 9 bytes
  pub summary_before_level : NeverTells mark-link.Post (full_room 4 1 & o lends_mut healthy & q lends_mut replicate 9 0 & 3 & 2 & tt) refusal_told (plain 30)
  -- 30 tested before 6: a bit above k, a summary of 8 bytes for the 6 switches of (4,1,2)
  pub summary_before_table : NeverTells mark-link.Post (shape_of 4 1 2 & o lends_mut half_failing 0 4 & q lends_mut replicate 8 0 & 5 & 1 & tt) refusal_told (plain 30)
  -- 6 for 30: the same summary with a sound table
  pub six_for_thirty : NeverTells mark-link.Post (shape_of 4 1 2 & o lends_mut half_healthy & q lends_mut replicate 8 0 & 5 & 1 & tt) refusal_told (plain 6)
  -- a place told with 30, which has none
  pub thirty_at_route_1 : NeverTells mark-link.Post (shape_of 4 1 2 & o lends_mut half_healthy & q lends_mut replicate 8 0 & 5 & 1 & tt) refusal_told (refused_at 30 1 0)
  -- the 8 switches of the full room counted: that summary taken
  pub full_summary_taken : NeverTells mark-link.Post (shape_of 4 1 2 & o lends_mut half_healthy & q lends_mut replicate 8 0 & 5 & 1 & tt) refusal_told none
  -- a summary of one byte too many taken
  pub long_summary_taken : NeverTells mark-link.Post (shape_of 4 1 2 & o lends_mut half_healthy & q lends_mut replicate 7 0 & 5 & 1 & tt) refusal_told none
  -- a summary of one byte too few taken
  pub short_summary_taken : NeverTells mark-link.Post (shape_of 4 1 2 & o lends_mut half_healthy & q lends_mut replicate 5 0 & 5 & 1 & tt) refusal_told none
  -- 30 not given: the entry says 1, and nothing is marked
  pub entry_not_tested : NeverTells mark-link.Post (shape_of 4 1 2 & o lends_mut half_healthy & q lends_mut half_counting 3 1 & 5 & 1 & tt) refusal_told none
  -- 30 not given where the mark would change nothing: the entry says 0, and it is marked
  pub entry_not_tested_again : NeverTells mark-link.Post (shape_of 4 1 2 & o lends_mut half_failing 5 2 & q lends_mut half_unmarked & 5 & 1 & tt) refusal_told none
  -- 30 for entries that are wrong elsewhere
  pub elsewhere_tested : NeverTells mark-link.Post (shape_of 4 1 2 & o lends_mut half_healthy & q lends_mut set (half_counting 0 9) 5 7 & 5 & 1 & tt) refusal_told (plain 30)
  -- m servers counted at a switch of level 0: the mark of server 3 missed, and the entry refused
  pub m_servers_counted : NeverTells mark-link.Post (shape_of 4 1 2 & o lends_mut half_failing 3 1 & q lends_mut half_counting 0 1 & 0 & 0 & tt) refusal_told (plain 30)
  -- the marks of another level counted: the level-0 link of server 1 at its switch of level 1
  pub another_level_counted : NeverTells mark-link.Post (shape_of 4 1 2 & o lends_mut half_failing 1 1 & q lends_mut half_counting 0 1 & 5 & 1 & tt) refusal_told (plain 30)
  -- the place of an entry as level times n to the power k, plus number: 5 tested for 3
  pub place_by_power_tested : NeverTells mark-link.Post (shape_of 4 1 2 & o lends_mut set (half_failing 1 2) 5 2 & q lends_mut half_counting 3 2 & 5 & 1 & tt) refusal_told (plain 30)
  -- nothing marked
  pub marks_nothing : NeverLeaves mark-link.Post (full_room 4 1 & o lends_mut failing 3 1 & q lends_mut counting 0 1 & 3 & 1 & tt) second (failing 3 1)
  -- the byte set, and not its bit: the mark of level 0 lost
  pub other_mark_lost : NeverLeaves mark-link.Post (full_room 4 1 & o lends_mut failing 3 1 & q lends_mut counting 0 1 & 3 & 1 & tt) second (failing 3 2)
  -- marked again, the bit added again
  pub marked_twice : NeverLeaves mark-link.Post (full_room 4 1 & o lends_mut failing 3 2 & q lends_mut counting 7 1 & 3 & 1 & tt) second (failing 3 4)
  -- the table touched on refusal 20
  pub marked_on_refusal : NeverLeaves mark-link.Post (full_room 4 1 & o lends_mut healthy & q lends_mut unmarked & 3 & 2 & tt) second (failing 3 4)
  -- the table touched on refusal 30
  pub marked_on_refusal_30 : NeverLeaves mark-link.Post (shape_of 4 1 2 & o lends_mut half_healthy & q lends_mut half_counting 3 1 & 5 & 1 & tt) second (half_failing 5 2)
  -- N as n to the power k + 1: server 8 of (4,1,2) marked in a table of 16 bytes
  pub marked_in_full_table : NeverLeaves mark-link.Post (shape_of 4 1 2 & o lends_mut healthy & q lends_mut half_unmarked & 8 & 0 & tt) second (failing 8 1)
  -- the mark not counted
  pub mark_not_counted : NeverLeaves mark-link.Post (shape_of 4 1 2 & o lends_mut half_healthy & q lends_mut half_unmarked & 5 & 1 & tt) third half_unmarked
  -- a repeated mark counted twice
  pub counted_twice : NeverLeaves mark-link.Post (shape_of 4 1 2 & o lends_mut half_failing 5 2 & q lends_mut half_counting 3 1 & 5 & 1 & tt) third (half_counting 3 2)
  -- the entry set to 1, and not to one more
  pub entry_set_to_1 : NeverLeaves mark-link.Post (shape_of 4 1 2 & o lends_mut half_failing 1 2 & q lends_mut half_counting 3 1 & 5 & 1 & tt) third (half_counting 3 1)
  -- the place of an entry as level times n to the power k, plus number: 5 for 3
  pub place_by_power : NeverLeaves mark-link.Post (shape_of 4 1 2 & o lends_mut half_healthy & q lends_mut half_unmarked & 5 & 1 & tt) third (half_counting 5 1)
  -- the level forgotten in the place of an entry: 2 for 4
  pub place_by_number : NeverLeaves mark-link.Post (shape_of 4 1 2 & o lends_mut half_healthy & q lends_mut half_unmarked & 6 & 1 & tt) third (half_counting 2 1)
  -- the switch of the other level: 1 for 4
  pub other_switch_counted : NeverLeaves mark-link.Post (shape_of 4 1 2 & o lends_mut half_healthy & q lends_mut half_unmarked & 6 & 1 & tt) third (half_counting 1 1)
  -- the switches of all levels
  pub all_levels_counted : NeverLeaves mark-link.Post (shape_of 4 1 2 & o lends_mut half_healthy & q lends_mut half_unmarked & 6 & 1 & tt) third (set (half_counting 1 1) 4 1)
  -- entries that are wrong elsewhere corrected
  pub elsewhere_corrected : NeverLeaves mark-link.Post (shape_of 4 1 2 & o lends_mut half_healthy & q lends_mut set (half_counting 0 9) 5 7 & 5 & 1 & tt) third (half_counting 3 1)
  -- one of them rewritten
  pub elsewhere_rewritten : NeverLeaves mark-link.Post (shape_of 4 1 2 & o lends_mut half_healthy & q lends_mut set (half_counting 0 9) 5 7 & 5 & 1 & tt) third (set (half_counting 0 9) 3 1)
  -- the entry moved though it is refused
  pub counted_on_refusal : NeverLeaves mark-link.Post (shape_of 4 1 2 & o lends_mut half_healthy & q lends_mut half_counting 3 1 & 5 & 1 & tt) third (half_counting 3 2)
  -- the entry corrected though it is refused
  pub corrected_on_refusal : NeverLeaves mark-link.Post (shape_of 4 1 2 & o lends_mut half_healthy & q lends_mut half_counting 3 1 & 5 & 1 & tt) third half_unmarked
  -- the entry moved on refusal 6, which a bit above k is
  pub counted_on_refusal_6 : NeverLeaves mark-link.Post (shape_of 4 1 2 & o lends_mut half_failing 0 4 & q lends_mut half_unmarked & 5 & 1 & tt) third (half_counting 3 1)
  -- any repeated mark that moves the summary
  pub repeated_mark_counted : (s : Shape) (t c u : List ℕ) (a l : ℕ) → failed t a l ≡ true → u ≢ c → NeverLeaves mark-link.Post (s & o lends_mut t & q lends_mut c & a & l & tt) third u
  -- any entry moved but that of the switch of the link
  pub mark_moves_elsewhere : (s : Shape) (t c u : List ℕ) (a l i : ℕ) → i ≢ place_of s l (switch_of s l a) → get_or u i 0 ≢ get_or c i 0 → NeverLeaves mark-link.Post (s & o lends_mut t & q lends_mut c & a & l & tt) third u
  -- any refusal on which the table is touched
  pub mark_refused_and_table_touched : (s : Shape) (t c u : List ℕ) (a l : ℕ) → counted_link_refusal s t c a l ≢ 0 → u ≢ t → NeverLeaves mark-link.Post (s & o lends_mut t & q lends_mut c & a & l & tt) second u
  -- any refusal on which the summary is touched
  pub mark_refused_and_summary_touched : (s : Shape) (t c u : List ℕ) (a l : ℕ) → counted_link_refusal s t c a l ≢ 0 → u ≢ c → NeverLeaves mark-link.Post (s & o lends_mut t & q lends_mut c & a & l & tt) third u
  -- 30 told where any test before it refuses
  pub mark_thirty_first : (s : Shape) (t c : List ℕ) (a l : ℕ) → table_link_refusal s t a l ≢ 0 → NeverTells mark-link.Post (s & o lends_mut t & q lends_mut c & a & l & tt) refusal_told (plain 30)
  -- 30 told of any summary that has an entry for each switch and the right one for that of the link
  pub mark_other_entries_tested : (s : Shape) (t c : List ℕ) (a l : ℕ) → length c ≡ length (switches_in s) → get_or c (place_of s l (switch_of s l a)) 0 ≡ count_at s t l (switch_of s l a) → NeverTells mark-link.Post (s & o lends_mut t & q lends_mut c & a & l & tt) refusal_told (plain 30)
  -- ---- clear_link
  -- level k + 1 cleared
  pub cleared_above_k : NeverTells clear-link.Post (full_room 4 1 & o lends_mut healthy & q lends_mut unmarked & 3 & 2 & tt) refusal_told none
  -- 20 tested before 4: level 2 of server 16
  pub level_before_address : NeverTells clear-link.Post (full_room 4 1 & o lends_mut healthy & q lends_mut unmarked & 16 & 2 & tt) refusal_told (plain 20)
  -- 30 tested before 6: a bit above k, a summary of 8 bytes for (4,1,2)
  pub clear_summary_before_table : NeverTells clear-link.Post (shape_of 4 1 2 & o lends_mut half_failing 0 4 & q lends_mut replicate 8 0 & 5 & 1 & tt) refusal_told (plain 30)
  -- a summary of one byte too many taken
  pub clear_long_summary_taken : NeverTells clear-link.Post (shape_of 4 1 2 & o lends_mut half_healthy & q lends_mut replicate 7 0 & 5 & 1 & tt) refusal_told none
  -- 30 not given: the entry says 2, and one is marked
  pub clear_entry_not_tested : NeverTells clear-link.Post (shape_of 4 1 2 & o lends_mut half_failing 5 2 & q lends_mut half_counting 3 2 & 5 & 1 & tt) refusal_told none
  -- 30 not given where clearing would change nothing: the entry says 1, and nothing is marked
  pub clear_entry_not_tested_again : NeverTells clear-link.Post (shape_of 4 1 2 & o lends_mut half_healthy & q lends_mut half_counting 3 1 & 5 & 1 & tt) refusal_told none
  -- 30 for entries that are wrong elsewhere
  pub clear_elsewhere_tested : NeverTells clear-link.Post (shape_of 4 1 2 & o lends_mut half_healthy & q lends_mut set (half_counting 0 9) 5 7 & 5 & 1 & tt) refusal_told (plain 30)
  -- 30 for a link that is not marked
  pub unmarked_refused : NeverTells clear-link.Post (shape_of 4 1 2 & o lends_mut half_healthy & q lends_mut half_unmarked & 5 & 1 & tt) refusal_told (plain 30)
  -- nothing cleared
  pub clears_nothing : NeverLeaves clear-link.Post (full_room 4 1 & o lends_mut failing 3 3 & q lends_mut set (counting 0 1) 7 1 & 3 & 0 & tt) second (failing 3 3)
  -- all links of the server cleared
  pub clears_all : NeverLeaves clear-link.Post (full_room 4 1 & o lends_mut failing 3 3 & q lends_mut set (counting 0 1) 7 1 & 3 & 0 & tt) second healthy
  -- cleared again, the bit taken away again
  pub cleared_twice : NeverLeaves clear-link.Post (full_room 4 1 & o lends_mut failing 3 2 & q lends_mut counting 7 1 & 3 & 0 & tt) second (failing 3 1)
  -- the table touched on refusal 6, which its bit above k is
  pub cleared_on_refusal : NeverLeaves clear-link.Post (full_room 4 1 & o lends_mut failing 3 5 & q lends_mut counting 0 1 & 3 & 0 & tt) second (failing 3 4)
  -- the table touched on refusal 30
  pub cleared_on_refusal_30 : NeverLeaves clear-link.Post (shape_of 4 1 2 & o lends_mut half_failing 5 2 & q lends_mut half_unmarked & 5 & 1 & tt) second half_healthy
  -- N as n to the power k + 1: server 8 of (4,1,2) cleared in a table of 16 bytes
  pub cleared_in_full_table : NeverLeaves clear-link.Post (shape_of 4 1 2 & o lends_mut failing 8 1 & q lends_mut half_unmarked & 8 & 0 & tt) second healthy
  -- the clearing not counted
  pub clearing_not_counted : NeverLeaves clear-link.Post (shape_of 4 1 2 & o lends_mut set (half_failing 1 2) 5 2 & q lends_mut half_counting 3 2 & 5 & 1 & tt) third (half_counting 3 2)
  -- one taken away though the link was not marked: the mark of server 1 lost from the count
  pub unmarked_subtracted : NeverLeaves clear-link.Post (shape_of 4 1 2 & o lends_mut half_failing 1 2 & q lends_mut half_counting 3 1 & 5 & 1 & tt) third half_unmarked
  -- one taken away from 0, which wraps to 255
  pub subtracted_below_0 : NeverLeaves clear-link.Post (shape_of 4 1 2 & o lends_mut half_healthy & q lends_mut half_unmarked & 5 & 1 & tt) third (half_counting 3 255)
  -- the entry set to 0, and not to one less
  pub entry_set_to_0 : NeverLeaves clear-link.Post (shape_of 4 1 2 & o lends_mut set (half_failing 1 2) 5 2 & q lends_mut half_counting 3 2 & 5 & 1 & tt) third half_unmarked
  -- the place of an entry as level times n to the power k, plus number: 5 for 3, servers 3 and 5 being marked
  pub clear_place_by_power : NeverLeaves clear-link.Post (shape_of 4 1 2 & o lends_mut set (half_failing 3 2) 5 2 & q lends_mut set (half_counting 3 1) 5 1 & 5 & 1 & tt) third (half_counting 3 1)
  -- entries that are wrong elsewhere corrected
  pub clear_elsewhere_corrected : NeverLeaves clear-link.Post (shape_of 4 1 2 & o lends_mut half_failing 5 2 & q lends_mut set (set (half_counting 0 9) 3 1) 5 7 & 5 & 1 & tt) third half_unmarked
  -- the entry moved though it is refused
  pub clear_counted_on_refusal : NeverLeaves clear-link.Post (shape_of 4 1 2 & o lends_mut half_failing 5 2 & q lends_mut half_counting 3 2 & 5 & 1 & tt) third (half_counting 3 1)
  -- any clearing of a link that is not marked that moves the summary
  pub unmarked_clearing_counted : (s : Shape) (t c u : List ℕ) (a l : ℕ) → failed t a l ≡ false → u ≢ c → NeverLeaves clear-link.Post (s & o lends_mut t & q lends_mut c & a & l & tt) third u
  -- any entry moved but that of the switch of the link
  pub clear_moves_elsewhere : (s : Shape) (t c u : List ℕ) (a l i : ℕ) → i ≢ place_of s l (switch_of s l a) → get_or u i 0 ≢ get_or c i 0 → NeverLeaves clear-link.Post (s & o lends_mut t & q lends_mut c & a & l & tt) third u
  -- any refusal on which the table is touched
  pub clear_refused_and_table_touched : (s : Shape) (t c u : List ℕ) (a l : ℕ) → counted_link_refusal s t c a l ≢ 0 → u ≢ t → NeverLeaves clear-link.Post (s & o lends_mut t & q lends_mut c & a & l & tt) second u
  -- any refusal on which the summary is touched
  pub clear_refused_and_summary_touched : (s : Shape) (t c u : List ℕ) (a l : ℕ) → counted_link_refusal s t c a l ≢ 0 → u ≢ c → NeverLeaves clear-link.Post (s & o lends_mut t & q lends_mut c & a & l & tt) third u
  -- 30 told where any test before it refuses
  pub clear_thirty_first : (s : Shape) (t c : List ℕ) (a l : ℕ) → table_link_refusal s t a l ≢ 0 → NeverTells clear-link.Post (s & o lends_mut t & q lends_mut c & a & l & tt) refusal_told (plain 30)
  -- 30 told of any summary that has an entry for each switch and the right one for that of the link
  pub clear_other_entries_tested : (s : Shape) (t c : List ℕ) (a l : ℕ) → length c ≡ length (switches_in s) → get_or c (place_of s l (switch_of s l a)) 0 ≡ count_at s t l (switch_of s l a) → NeverTells clear-link.Post (s & o lends_mut t & q lends_mut c & a & l & tt) refusal_told (plain 30)
  -- ---- mark_server, of which server 5 of (4,1,2) is at switch 1 of level 0 and at switch 1 of level 1: places 1 and 3
  -- server N marked
  pub server_n_marked : NeverTells mark-server.Post (full_room 4 1 & o lends_mut healthy & q lends_mut unmarked & 16 & tt) refusal_told none
  -- 6 tested before 4: server 16, a table of 15 bytes
  pub mark_table_before_address : NeverTells mark-server.Post (full_room 4 1 & o lends_mut replicate 15 0 & q lends_mut unmarked & 16 & tt) refusal_told (plain 6)
  -- 30 tested before 6: a bit above k, a summary of 8 bytes for (4,1,2)
  pub server_summary_before_table : NeverTells mark-server.Post (shape_of 4 1 2 & o lends_mut half_failing 0 4 & q lends_mut replicate 8 0 & 5 & tt) refusal_told (plain 30)
  -- a summary of one byte too many taken
  pub server_long_summary_taken : NeverTells mark-server.Post (shape_of 4 1 2 & o lends_mut half_healthy & q lends_mut replicate 7 0 & 5 & tt) refusal_told none
  -- the entry of level 0 tested alone: that of level 1 says 1, and nothing is marked
  pub level_k_not_tested : NeverTells mark-server.Post (shape_of 4 1 2 & o lends_mut half_healthy & q lends_mut half_counting 3 1 & 5 & tt) refusal_told none
  -- the entry of level k tested alone
  pub level_0_not_tested : NeverTells mark-server.Post (shape_of 4 1 2 & o lends_mut half_healthy & q lends_mut half_counting 1 1 & 5 & tt) refusal_told none
  -- 30 not given where the marks would change nothing
  pub dead_server_not_tested : NeverTells mark-server.Post (shape_of 4 1 2 & o lends_mut half_failing 5 3 & q lends_mut half_unmarked & 5 & tt) refusal_told none
  -- 30 for entries that are wrong elsewhere
  pub server_elsewhere_tested : NeverTells mark-server.Post (shape_of 4 1 2 & o lends_mut half_healthy & q lends_mut set (half_counting 0 9) 5 7 & 5 & tt) refusal_told (plain 30)
  -- nothing marked
  pub marks_no_server : NeverLeaves mark-server.Post (full_room 4 1 & o lends_mut failing 3 1 & q lends_mut counting 0 1 & 3 & tt) second (failing 3 1)
  -- one link marked, that of level k
  pub marks_one_link : NeverLeaves mark-server.Post (full_room 4 1 & o lends_mut healthy & q lends_mut unmarked & 3 & tt) second (failing 3 2)
  -- the whole byte set, bits above k with it
  pub marks_whole_byte : NeverLeaves mark-server.Post (full_room 4 1 & o lends_mut healthy & q lends_mut unmarked & 3 & tt) second (failing 3 0xff)
  -- marked again, the bits added again
  pub server_marked_twice : NeverLeaves mark-server.Post (full_room 4 1 & o lends_mut failing 3 3 & q lends_mut set (counting 0 1) 7 1 & 3 & tt) second (failing 3 6)
  -- the table touched on refusal 6, which its bit above k is
  pub server_marked_on_refusal : NeverLeaves mark-server.Post (full_room 4 1 & o lends_mut failing 3 4 & q lends_mut unmarked & 3 & tt) second (failing 3 3)
  -- the table touched on refusal 30
  pub server_marked_on_refusal_30 : NeverLeaves mark-server.Post (shape_of 4 1 2 & o lends_mut half_healthy & q lends_mut half_counting 3 1 & 5 & tt) second (half_failing 5 3)
  -- the link of level 0 marked before the entry of level 1 is tested
  pub level_0_marked_on_refusal : NeverLeaves mark-server.Post (shape_of 4 1 2 & o lends_mut half_healthy & q lends_mut half_counting 3 1 & 5 & tt) second (half_failing 5 1)
  -- N as n to the power k + 1: server 8 of (4,1,2) marked in a table of 16 bytes
  pub server_marked_in_full_table : NeverLeaves mark-server.Post (shape_of 4 1 2 & o lends_mut healthy & q lends_mut half_unmarked & 8 & tt) second (failing 8 3)
  -- no mark counted
  pub server_not_counted : NeverLeaves mark-server.Post (shape_of 4 1 2 & o lends_mut half_healthy & q lends_mut half_unmarked & 5 & tt) third half_unmarked
  -- the entry of level 0 alone moved
  pub level_0_counted_alone : NeverLeaves mark-server.Post (shape_of 4 1 2 & o lends_mut half_healthy & q lends_mut half_unmarked & 5 & tt) third (half_counting 1 1)
  -- the entry of level k alone moved
  pub level_k_counted_alone : NeverLeaves mark-server.Post (shape_of 4 1 2 & o lends_mut half_healthy & q lends_mut half_unmarked & 5 & tt) third (half_counting 3 1)
  -- a repeated mark counted twice, at each level
  pub server_counted_twice : NeverLeaves mark-server.Post (shape_of 4 1 2 & o lends_mut half_failing 5 3 & q lends_mut set (half_counting 1 1) 3 1 & 5 & tt) third (set (half_counting 1 2) 3 2)
  -- the one link that was marked counted twice
  pub link_counted_twice : NeverLeaves mark-server.Post (shape_of 4 1 2 & o lends_mut half_failing 5 1 & q lends_mut half_counting 1 1 & 5 & tt) third (set (half_counting 1 2) 3 1)
  -- the place of an entry as level times n to the power k, plus number: 5 for 3
  pub server_place_by_power : NeverLeaves mark-server.Post (shape_of 4 1 2 & o lends_mut half_healthy & q lends_mut half_unmarked & 5 & tt) third (set (half_counting 1 1) 5 1)
  -- entries that are wrong elsewhere corrected
  pub server_elsewhere_corrected : NeverLeaves mark-server.Post (shape_of 4 1 2 & o lends_mut half_healthy & q lends_mut set (half_counting 0 9) 5 7 & 5 & tt) third (set (half_counting 1 1) 3 1)
  -- the entry of level 0 moved before that of level 1 is tested
  pub level_0_counted_on_refusal : NeverLeaves mark-server.Post (shape_of 4 1 2 & o lends_mut half_healthy & q lends_mut half_counting 3 1 & 5 & tt) third (set (half_counting 1 1) 3 1)
  -- the entry corrected though it is refused
  pub server_corrected_on_refusal : NeverLeaves mark-server.Post (shape_of 4 1 2 & o lends_mut half_healthy & q lends_mut half_counting 3 1 & 5 & tt) third half_unmarked
  -- any marking of a server that is dead already that moves the summary
  pub dead_server_counted : (s : Shape) (t c u : List ℕ) (a : ℕ) → ((l : ℕ) → l ≤ s.k → failed t a l ≡ true) → u ≢ c → NeverLeaves mark-server.Post (s & o lends_mut t & q lends_mut c & a & tt) third u
  -- any entry moved but those of the switches of the server
  pub mark_server_moves_elsewhere : (s : Shape) (t c u : List ℕ) (a i : ℕ) → ((l : ℕ) → l ≤ s.k → i ≢ place_of s l (switch_of s l a)) → get_or u i 0 ≢ get_or c i 0 → NeverLeaves mark-server.Post (s & o lends_mut t & q lends_mut c & a & tt) third u
  -- any refusal on which the table is touched
  pub mark_server_refused_and_table_touched : (s : Shape) (t c u : List ℕ) (a : ℕ) → counted_server_refusal s t c a ≢ 0 → u ≢ t → NeverLeaves mark-server.Post (s & o lends_mut t & q lends_mut c & a & tt) second u
  -- any refusal on which the summary is touched
  pub mark_server_refused_and_summary_touched : (s : Shape) (t c u : List ℕ) (a : ℕ) → counted_server_refusal s t c a ≢ 0 → u ≢ c → NeverLeaves mark-server.Post (s & o lends_mut t & q lends_mut c & a & tt) third u
  -- 30 told where any test before it refuses
  pub mark_server_thirty_first : (s : Shape) (t c : List ℕ) (a : ℕ) → table_server_refusal s t a ≢ 0 → NeverTells mark-server.Post (s & o lends_mut t & q lends_mut c & a & tt) refusal_told (plain 30)
  -- ---- clear_server
  -- server N cleared
  pub server_n_cleared : NeverTells clear-server.Post (full_room 4 1 & o lends_mut healthy & q lends_mut unmarked & 16 & tt) refusal_told none
  -- 6 tested before 4: server 16, and a bit above k
  pub clear_table_before_address : NeverTells clear-server.Post (full_room 4 1 & o lends_mut failing 3 4 & q lends_mut unmarked & 16 & tt) refusal_told (plain 6)
  -- a server that is live refused
  pub live_server_refused : NeverTells clear-server.Post (full_room 4 1 & o lends_mut healthy & q lends_mut unmarked & 3 & tt) refusal_told (plain 6)
  -- the same with 30
  pub live_server_refused_30 : NeverTells clear-server.Post (shape_of 4 1 2 & o lends_mut half_healthy & q lends_mut half_unmarked & 5 & tt) refusal_told (plain 30)
  -- 30 tested before 6: a bit above k, a summary of 8 bytes for (4,1,2)
  pub clear_server_summary_before_table : NeverTells clear-server.Post (shape_of 4 1 2 & o lends_mut half_failing 0 4 & q lends_mut replicate 8 0 & 5 & tt) refusal_told (plain 30)
  -- a summary of one byte too many taken
  pub clear_server_long_summary_taken : NeverTells clear-server.Post (shape_of 4 1 2 & o lends_mut half_healthy & q lends_mut replicate 7 0 & 5 & tt) refusal_told none
  -- the entry of level 0 tested alone
  pub clear_level_k_not_tested : NeverTells clear-server.Post (shape_of 4 1 2 & o lends_mut half_failing 5 3 & q lends_mut half_counting 1 1 & 5 & tt) refusal_told none
  -- the entry of level k tested alone
  pub clear_level_0_not_tested : NeverTells clear-server.Post (shape_of 4 1 2 & o lends_mut half_failing 5 3 & q lends_mut half_counting 3 1 & 5 & tt) refusal_told none
  -- 30 not given where clearing would change nothing: an entry says 1, and nothing is marked
  pub clear_server_not_tested_again : NeverTells clear-server.Post (shape_of 4 1 2 & o lends_mut half_healthy & q lends_mut half_counting 3 1 & 5 & tt) refusal_told none
  -- 30 for entries that are wrong elsewhere
  pub clear_server_elsewhere_tested : NeverTells clear-server.Post (shape_of 4 1 2 & o lends_mut half_healthy & q lends_mut set (half_counting 0 9) 5 7 & 5 & tt) refusal_told (plain 30)
  -- nothing cleared
  pub clears_no_server : NeverLeaves clear-server.Post (full_room 4 1 & o lends_mut failing 3 3 & q lends_mut set (counting 0 1) 7 1 & 3 & tt) second (failing 3 3)
  -- one link cleared, that of level 0
  pub clears_one_link : NeverLeaves clear-server.Post (full_room 4 1 & o lends_mut failing 3 3 & q lends_mut set (counting 0 1) 7 1 & 3 & tt) second (failing 3 2)
  -- the whole table cleared: the mark of server 7 lost
  pub clears_whole_table : NeverLeaves clear-server.Post (full_room 4 1 & o lends_mut set (failing 3 3) 7 1 & q lends_mut set (set (counting 0 1) 1 1) 7 1 & 3 & tt) second healthy
  -- the table touched on refusal 6, which its bit above k is
  pub server_cleared_on_refusal : NeverLeaves clear-server.Post (full_room 4 1 & o lends_mut failing 3 4 & q lends_mut unmarked & 3 & tt) second healthy
  -- the table touched on refusal 30
  pub server_cleared_on_refusal_30 : NeverLeaves clear-server.Post (shape_of 4 1 2 & o lends_mut half_failing 5 3 & q lends_mut half_unmarked & 5 & tt) second half_healthy
  -- N as n to the power k + 1: server 8 of (4,1,2) cleared in a table of 16 bytes
  pub server_cleared_in_full_table : NeverLeaves clear-server.Post (shape_of 4 1 2 & o lends_mut failing 8 3 & q lends_mut half_unmarked & 8 & tt) second healthy
  -- the clearing not counted
  pub server_clearing_not_counted : NeverLeaves clear-server.Post (shape_of 4 1 2 & o lends_mut half_failing 5 3 & q lends_mut set (half_counting 1 1) 3 1 & 5 & tt) third (set (half_counting 1 1) 3 1)
  -- the entry of level 0 alone moved
  pub level_0_cleared_alone : NeverLeaves clear-server.Post (shape_of 4 1 2 & o lends_mut half_failing 5 3 & q lends_mut set (half_counting 1 1) 3 1 & 5 & tt) third (half_counting 3 1)
  -- one taken away though the link was not marked: server 5 at level 1, where server 1 is
  pub server_unmarked_subtracted : NeverLeaves clear-server.Post (shape_of 4 1 2 & o lends_mut set (half_failing 5 1) 1 2 & q lends_mut set (half_counting 1 1) 3 1 & 5 & tt) third half_unmarked
  -- the whole summary cleared: the mark of server 0 at level 0 lost
  pub clears_whole_summary : NeverLeaves clear-server.Post (shape_of 4 1 2 & o lends_mut set (half_failing 5 3) 0 1 & q lends_mut set (set (half_counting 0 1) 1 1) 3 1 & 5 & tt) third half_unmarked
  -- the place of an entry as level times n to the power k, plus number: 5 for 3, the link of server 3 there being marked
  pub clear_server_place_by_power : NeverLeaves clear-server.Post (shape_of 4 1 2 & o lends_mut set (half_failing 5 3) 3 2 & q lends_mut set (set (half_counting 1 1) 3 1) 5 1 & 5 & tt) third (half_counting 3 1)
  -- entries that are wrong elsewhere corrected
  pub clear_server_elsewhere_corrected : NeverLeaves clear-server.Post (shape_of 4 1 2 & o lends_mut half_healthy & q lends_mut set (half_counting 0 9) 5 7 & 5 & tt) third half_unmarked
  -- the entry of level 0 moved before that of level 1 is tested
  pub clear_level_0_counted_on_refusal : NeverLeaves clear-server.Post (shape_of 4 1 2 & o lends_mut half_failing 5 3 & q lends_mut half_counting 1 1 & 5 & tt) third half_unmarked
  -- any clearing of a server that is live already that moves the summary
  pub live_server_counted : (s : Shape) (t c u : List ℕ) (a : ℕ) → ((l : ℕ) → l ≤ s.k → failed t a l ≡ false) → u ≢ c → NeverLeaves clear-server.Post (s & o lends_mut t & q lends_mut c & a & tt) third u
  -- any entry moved but those of the switches of the server
  pub clear_server_moves_elsewhere : (s : Shape) (t c u : List ℕ) (a i : ℕ) → ((l : ℕ) → l ≤ s.k → i ≢ place_of s l (switch_of s l a)) → get_or u i 0 ≢ get_or c i 0 → NeverLeaves clear-server.Post (s & o lends_mut t & q lends_mut c & a & tt) third u
  -- any refusal on which the table is touched
  pub clear_server_refused_and_table_touched : (s : Shape) (t c u : List ℕ) (a : ℕ) → counted_server_refusal s t c a ≢ 0 → u ≢ t → NeverLeaves clear-server.Post (s & o lends_mut t & q lends_mut c & a & tt) second u
  -- any refusal on which the summary is touched
  pub clear_server_refused_and_summary_touched : (s : Shape) (t c u : List ℕ) (a : ℕ) → counted_server_refusal s t c a ≢ 0 → u ≢ c → NeverLeaves clear-server.Post (s & o lends_mut t & q lends_mut c & a & tt) third u
  -- 30 told where any test before it refuses
  pub clear_server_thirty_first : (s : Shape) (t c : List ℕ) (a : ℕ) → table_server_refusal s t a ≢ 0 → NeverTells clear-server.Post (s & o lends_mut t & q lends_mut c & a & tt) refusal_told (plain 30)
  -- ---- dead_switch, of which a switch of level 0 of (4,1,2) has four servers, a switch of level 1 two
  -- level and number exchanged in the result itself: the switch 0 of level 1 of (4,1) is dead
  pub dead_fields_exchanged : Never dead-switch.Post (full_room 4 1 & o lends 2 ∷ 0 ∷ 0 ∷ 0 ∷ 2 ∷ 0 ∷ 0 ∷ 0 ∷ 2 ∷ 0 ∷ 0 ∷ 0 ∷ 2 ∷ 0 ∷ 0 ∷ 0 ∷ [] & q lends counting 4 4 & tt) (Ok (Some (record { level = 0; number = 1 })))
  -- n links wanted at a switch of level k: both links of switch 1 marked, and none found
  pub n_for_m : NeverTells dead-switch.Post (shape_of 4 1 2 & o lends set (half_failing 1 2) 5 2 & q lends half_counting 3 2 & tt) dead_told (none_dead 0)
  -- m links wanted at a switch of level 0: two of four marked, and found
  pub m_for_n : NeverTells dead-switch.Post (shape_of 4 1 2 & o lends set (half_failing 0 1) 1 1 & q lends half_counting 0 2 & tt) dead_told (dead_at 0 0)
  -- a switch found by one mark
  pub one_mark_is_dead : NeverTells dead-switch.Post (shape_of 4 1 2 & o lends half_failing 5 2 & q lends half_counting 3 1 & tt) dead_told (dead_at 1 1)
  -- switch 0 of level 0 found, and told as none
  pub first_switch_is_none : NeverTells dead-switch.Post (shape_of 4 1 2 & o lends 1 ∷ 1 ∷ 1 ∷ 1 ∷ 0 ∷ 0 ∷ 0 ∷ 0 ∷ [] & q lends half_counting 0 4 & tt) dead_told (none_dead 0)
  -- none found, and told as switch 0 of level 0
  pub none_is_first_switch : NeverTells dead-switch.Post (shape_of 4 1 2 & o lends half_healthy & q lends half_unmarked & tt) dead_told (dead_at 0 0)
  -- the second of two dead switches of a level
  pub later_switch_given : NeverTells dead-switch.Post (shape_of 4 1 2 & o lends 0 ∷ 2 ∷ 2 ∷ 0 ∷ 0 ∷ 2 ∷ 2 ∷ 0 ∷ [] & q lends set (half_counting 3 2) 4 2 & tt) dead_told (dead_at 1 2)
  -- the higher level first
  pub higher_level_first : NeverTells dead-switch.Post (shape_of 4 1 2 & o lends 3 ∷ 1 ∷ 1 ∷ 1 ∷ 2 ∷ 0 ∷ 0 ∷ 0 ∷ [] & q lends set (half_counting 0 4) 2 2 & tt) dead_told (dead_at 1 0)
  -- the place among all switches for the number in the level
  pub place_for_number : NeverTells dead-switch.Post (shape_of 4 1 2 & o lends set (half_failing 1 2) 5 2 & q lends half_counting 3 2 & tt) dead_told (dead_at 1 3)
  -- level and number by the power of n, as if level 0 had four switches
  pub level_by_power : NeverTells dead-switch.Post (shape_of 4 1 2 & o lends set (half_failing 1 2) 5 2 & q lends half_counting 3 2 & tt) dead_told (dead_at 0 3)
  -- level and number exchanged
  pub dead_level_and_number_exchanged : NeverTells dead-switch.Post (shape_of 4 1 2 & o lends 0 ∷ 0 ∷ 2 ∷ 0 ∷ 0 ∷ 0 ∷ 2 ∷ 0 ∷ [] & q lends half_counting 4 2 & tt) dead_told (dead_at 2 1)
  -- a dead server taken for a dead switch
  pub server_for_switch : NeverTells dead-switch.Post (shape_of 4 1 2 & o lends half_failing 5 3 & q lends set (half_counting 1 1) 3 1 & tt) dead_told (dead_at 0 1)
  -- the summary believed: an entry says 2, and nothing is marked
  pub table_not_counted : NeverTells dead-switch.Post (shape_of 4 1 2 & o lends half_healthy & q lends half_counting 3 2 & tt) dead_told (dead_at 1 1)
  -- the table counted, and the summary not tested
  pub summary_not_asked : NeverTells dead-switch.Post (shape_of 4 1 2 & o lends set (half_failing 1 2) 5 2 & q lends half_unmarked & tt) dead_told (dead_at 1 1)
  -- none told over entries that are wrong
  pub none_over_wrong_entries : NeverTells dead-switch.Post (shape_of 4 1 2 & o lends half_healthy & q lends set (half_counting 0 9) 5 7 & tt) dead_told (none_dead 0)
  -- the entries tested up to the first dead switch alone: the last is wrong
  pub tested_to_the_first : NeverTells dead-switch.Post (shape_of 4 1 2 & o lends 1 ∷ 1 ∷ 1 ∷ 1 ∷ 0 ∷ 0 ∷ 0 ∷ 0 ∷ [] & q lends set (half_counting 0 4) 5 1 & tt) dead_told (dead_at 0 0)
  -- 30 tested before 6: a bit above k, a summary of 8 bytes
  pub dead_summary_before_table : NeverTells dead-switch.Post (shape_of 4 1 2 & o lends half_failing 0 4 & q lends replicate 8 0 & tt) dead_told (none_dead 30)
  -- N as n to the power k + 1: a table of 16 bytes for (4,1,2)
  pub dead_full_table_taken : NeverTells dead-switch.Post (shape_of 4 1 2 & o lends healthy & q lends half_unmarked & tt) dead_told (none_dead 0)
  -- a summary of one byte too many taken
  pub dead_long_summary_taken : NeverTells dead-switch.Post (shape_of 4 1 2 & o lends half_healthy & q lends replicate 7 0 & tt) dead_told (none_dead 0)
  -- a summary of one byte too few taken
  pub dead_short_summary_taken : NeverTells dead-switch.Post (shape_of 4 1 2 & o lends half_healthy & q lends replicate 5 0 & tt) dead_told (none_dead 0)
  -- a dead switch told beside a refusal
  pub found_beside_refusal : NeverTells dead-switch.Post (shape_of 4 1 2 & o lends half_healthy & q lends half_counting 3 2 & tt) dead_told (record { refusal = plain 30; found = true; level = 1; number = 1 })
  -- the last switch not looked at: switch 1 of level 1 of (2,1), both of whose links are marked
  pub last_switch_missed : NeverTells dead-switch.Post (full_room 2 1 & o lends 0 ∷ 2 ∷ 0 ∷ 2 ∷ [] & q lends 0 ∷ 0 ∷ 0 ∷ 2 ∷ [] & tt) dead_told (none_dead 0)
  -- any dead switch denied
  pub dead_denied : (s : Shape) (t c : List ℕ) (l w : ℕ) → DeadOne s t l w → NeverTells dead-switch.Post (s & o lends t & q lends c & tt) dead_told (none_dead 0)
  -- any switch found that a live link leads to
  pub live_switch_found : (s : Shape) (t c : List ℕ) (l w a : ℕ) → Server s a → switch_of s l a ≡ w → failed t a l ≡ false → NeverTells dead-switch.Post (s & o lends t & q lends c & tt) dead_told (dead_at l w)
  -- any switch given before which there is a dead one
  pub not_the_first : (s : Shape) (t c : List ℕ) (l w j v : ℕ) → Earlier j v l w → DeadOne s t j v → NeverTells dead-switch.Post (s & o lends t & q lends c & tt) dead_told (dead_at l w)
  -- any answer over a summary that is not the count of the table
  pub answered_over_wrong_summary : (s : Shape) (t c : List ℕ) (y : DeadSwitch) → c ≢ summary_of s t → y.refusal.number ≡ 0 → NeverTells dead-switch.Post (s & o lends t & q lends c & tt) dead_told y
  -- 30 told where any test before it refuses
  pub dead_thirty_first : (s : Shape) (t c : List ℕ) → room_table_refusal s t ≢ 0 → NeverTells dead-switch.Post (s & o lends t & q lends c & tt) dead_told (none_dead 30)
  -- ---- summarize
  -- the old entries tested
  pub old_entries_tested : NeverTells summarize.Post (shape_of 4 1 2 & o lends half_healthy & q lends_mut set (half_counting 0 9) 5 7 & tt) refusal_told (plain 30)
  -- old entries that no table counts refused
  pub old_entries_refused : NeverTells summarize.Post (shape_of 4 1 2 & o lends half_healthy & q lends_mut stale 6 & tt) refusal_told (plain 30)
  -- 30 tested before 6: a bit above k, a summary of 8 bytes
  pub fresh_summary_before_table : NeverTells summarize.Post (shape_of 4 1 2 & o lends half_failing 0 4 & q lends_mut replicate 8 0 & tt) refusal_told (plain 30)
  -- a summary of one byte too many taken
  pub fresh_long_summary_taken : NeverTells summarize.Post (shape_of 4 1 2 & o lends half_healthy & q lends_mut replicate 7 0 & tt) refusal_told none
  -- the 8 switches of the full room counted: that summary taken
  pub fresh_full_summary_taken : NeverTells summarize.Post (shape_of 4 1 2 & o lends half_healthy & q lends_mut replicate 8 0 & tt) refusal_told none
  -- the same of (8,3,4), which has 1,280: 2,048 bytes
  pub fresh_2048_taken : NeverTells summarize.Post (shape_of 8 3 4 & o lends replicate 2048 0 & q lends_mut replicate 2048 0 & tt) refusal_told none
  -- N as n to the power k + 1: a table of 16 bytes for (4,1,2)
  pub fresh_full_table_taken : NeverTells summarize.Post (shape_of 4 1 2 & o lends healthy & q lends_mut half_unmarked & tt) refusal_told none
  -- the old bytes left
  pub old_bytes_left : NeverLeaves summarize.Post (shape_of 4 1 2 & o lends half_failing 5 3 & q lends_mut stale 6 & tt) third (stale 6)
  -- the counts added to what was there
  pub old_bytes_added : NeverLeaves summarize.Post (shape_of 4 1 2 & o lends half_failing 5 2 & q lends_mut half_counting 3 1 & tt) third (half_counting 3 2)
  -- a link counted at the other level
  pub counted_at_other_level : NeverLeaves summarize.Post (shape_of 4 1 2 & o lends half_failing 6 2 & q lends_mut stale 6 & tt) third (half_counting 1 1)
  -- level 0 counted alone
  pub counted_at_level_0_alone : NeverLeaves summarize.Post (shape_of 4 1 2 & o lends half_failing 5 3 & q lends_mut stale 6 & tt) third (half_counting 1 1)
  -- the place of an entry as level times n to the power k, plus number: 5 for 3
  pub fresh_place_by_power : NeverLeaves summarize.Post (shape_of 4 1 2 & o lends half_failing 5 2 & q lends_mut stale 6 & tt) third (half_counting 5 1)
  -- m servers counted at a switch of level 0: the mark of server 3 missed
  pub fresh_m_servers : NeverLeaves summarize.Post (shape_of 4 1 2 & o lends half_failing 3 1 & q lends_mut stale 6 & tt) third half_unmarked
  -- the first entry left as it was
  pub first_left : NeverLeaves summarize.Post (shape_of 4 1 2 & o lends half_healthy & q lends_mut stale 6 & tt) third (half_counting 0 0xee)
  -- the last entry left as it was
  pub last_left : NeverLeaves summarize.Post (shape_of 4 1 2 & o lends half_healthy & q lends_mut stale 6 & tt) third (half_counting 5 0xee)
  -- the live links counted
  pub live_counted : NeverLeaves summarize.Post (shape_of 4 1 2 & o lends half_healthy & q lends_mut stale 6 & tt) third (4 ∷ 4 ∷ 2 ∷ 2 ∷ 2 ∷ 2 ∷ [])
  -- a dead server counted for each of its links at each of its switches
  pub servers_counted : NeverLeaves summarize.Post (shape_of 4 1 2 & o lends half_failing 5 3 & q lends_mut stale 6 & tt) third (set (half_counting 1 2) 3 2)
  -- the summary touched on refusal 30, which its length is
  pub fresh_on_refusal : NeverLeaves summarize.Post (shape_of 4 1 2 & o lends half_healthy & q lends_mut stale 7 & tt) third (replicate 7 0)
  -- the summary touched on refusal 6, which a bit above k is
  pub fresh_on_refusal_6 : NeverLeaves summarize.Post (shape_of 4 1 2 & o lends half_failing 0 4 & q lends_mut stale 6 & tt) third half_unmarked
  -- 30 told of any summary that has an entry for each switch
  pub any_old_entries_tested : (s : Shape) (t c : List ℕ) → length c ≡ length (switches_in s) → NeverTells summarize.Post (s & o lends t & q lends_mut c & tt) refusal_told (plain 30)
  -- any refusal on which the summary is touched
  pub fresh_refused_and_touched : (s : Shape) (t c u : List ℕ) → entries_refusal s t c ≢ 0 → u ≢ c → NeverLeaves summarize.Post (s & o lends t & q lends_mut c & tt) third u
