-- Wrong answers of `driver`, what C calls, wherever the buffers lie: o lends a table, q a summary, or bytes or servers to read, b a buffer to write.
-- Numbers are those of C, of 64 bits: 4294967297 is 1 where it is cut to 32 bits.
use Rattle.std.specs.Prelude.{ℕ, ◌+◌, ◌*◌, ◌≤◌, ◌≡◌, ◌≢◌, true, false, List, [], ◌∷◌, ◌++◌, replicate, set}
use Rattle.lists.specs.Lists.{filled}
use Rattle.refusals.specs.Refusals.{none, plain, refused_at, with_earlier}
use Rattle.build.specs.Sets.{joined}
use Rattle.step.specs.Told.{Step}
use Rattle.step.specs.Steps.{no_step}
use Rattle.driver.specs.declared.Room.{Room}
use Rattle.driver.specs.declared.Stepped.{Stepped}
use Rattle.driver.specs.Rooms.{room_of}
use Rattle.driver.specs.Words.{word, refusal_in}
use Rattle.driver.specs.Packed.{Bytes, mac_number, packed, unpacked}
use Rattle.driver.proofs.bcube_version.Reads as bcube_version
use Rattle.driver.proofs.bcube_room_of.Reads as bcube_room_of
use Rattle.driver.proofs.bcube_filled_room.Reads as bcube_filled_room
use Rattle.driver.proofs.bcube_shape.Reads as bcube_shape
use Rattle.driver.proofs.bcube_servers.Reads as bcube_servers
use Rattle.driver.proofs.bcube_bound.Reads as bcube_bound
use Rattle.driver.proofs.bcube_switches.Reads as bcube_switches
use Rattle.driver.proofs.bcube_digits.Reads as bcube_digits
use Rattle.driver.proofs.bcube_digit.Reads as bcube_digit
use Rattle.driver.proofs.bcube_address.Reads as bcube_address
use Rattle.driver.proofs.bcube_switch.Reads as bcube_switch
use Rattle.driver.proofs.bcube_server_at.Reads as bcube_server_at
use Rattle.driver.proofs.bcube_neighbour.Reads as bcube_neighbour
use Rattle.driver.proofs.bcube_between.Reads as bcube_between
use Rattle.driver.proofs.bcube_failed_link.Reads as bcube_failed_link
use Rattle.driver.proofs.bcube_mark.Reads as bcube_mark
use Rattle.driver.proofs.bcube_clear.Reads as bcube_clear
use Rattle.driver.proofs.bcube_mark_all.Reads as bcube_mark_all
use Rattle.driver.proofs.bcube_clear_all.Reads as bcube_clear_all
use Rattle.driver.proofs.bcube_dead_switch.Reads as bcube_dead_switch
use Rattle.driver.proofs.bcube_summarize.Reads as bcube_summarize
use Rattle.driver.proofs.bcube_path_byte.Reads as bcube_path_byte
use Rattle.driver.proofs.bcube_path_byte_parts.Reads as bcube_path_byte_parts
use Rattle.driver.proofs.bcube_hop_of.Reads as bcube_hop_of
use Rattle.driver.proofs.bcube_read.Reads as bcube_read
use Rattle.driver.proofs.bcube_write.Reads as bcube_write
use Rattle.driver.proofs.bcube_reverse.Reads as bcube_reverse
use Rattle.driver.proofs.bcube_check.Reads as bcube_check
use Rattle.driver.proofs.bcube_build.Reads as bcube_build
use Rattle.driver.proofs.bcube_find.Reads as bcube_find
use Rattle.driver.proofs.bcube_select.Reads as bcube_select
use Rattle.driver.proofs.bcube_pick.Reads as bcube_pick
use Rattle.driver.proofs.bcube_step.Reads as bcube_step
use Rattle.driver.proofs.bcube_parent.Reads as bcube_parent
use Rattle.driver.proofs.bcube_tree.Reads as bcube_tree
use Rattle.wrong.specs.Never.{Never, NeverLeaves, NeverLeavesAt, NeverTells, Loan, third, fourth, fifth, ◌&◌, ◌lends◌, ◌lends_mut◌}
use Rattle.wrong.specs.Examples.{array, healthy, failing, eight_hops, switch_twice, round_to_server, unmarked, counting, half_healthy, half_failing, half_unmarked, half_counting, direct, other, tied, cut_off, mac, neighbour, stale}
use Rattle.wrong.specs.Step.{around, left_with, stood_with}

-- the step from 00 of (4,1) to 10, by byte 41 of the path bytes 41 03
abbrev pub went : Step
went = record { refusal = none; delivered = false; next = 4; index = 1; mac = mac; port = 7; level = 1; old = 0 }

pub record Driver (o q b : Loan) : Type 0 where
  -- ---- bcube_version
  -- the numbers packed in bytes
  pub version_in_bytes : Never bcube_version.Post tt 0x050100
  -- the version before
  pub version_before : Never bcube_version.Post tt 50000
  -- the first number alone
  pub version_first_alone : Never bcube_version.Post tt 5
  -- ---- bcube_room_of
  -- n and k exchanged
  pub full_room_n_and_k_exchanged : Never bcube_room_of.Post (8 & 3 & tt) (room_of 3 8 3)
  -- k for m
  pub full_room_k_for_m : Never bcube_room_of.Post (8 & 3 & tt) (room_of 8 3 3)
  -- the number of version 2, which has no m
  pub full_room_without_m : Never bcube_room_of.Post (8 & 3 & tt) (record { number = 8 + 256 * 3 })
  -- ---- bcube_filled_room
  -- n and k exchanged
  pub room_n_and_k_exchanged : Never bcube_filled_room.Post (8 & 3 & 4 & tt) (room_of 3 8 4)
  -- m in k's place, and k in m's
  pub room_k_and_m_exchanged : Never bcube_filled_room.Post (8 & 3 & 4 & tt) (room_of 8 4 3)
  -- m forgotten: the full room
  pub room_m_forgotten : Never bcube_filled_room.Post (8 & 3 & 4 & tt) (room_of 8 3 8)
  -- the number of version 2, which has no m
  pub room_without_m : Never bcube_filled_room.Post (8 & 3 & 8 & tt) (record { number = 8 + 256 * 3 })
  -- n cut to a byte: 264 ports are 8
  pub room_n_wraps : Never bcube_filled_room.Post (264 & 3 & 4 & tt) (room_of 8 3 4)
  -- k cut to a byte: 259 levels are 3
  pub room_k_wraps : Never bcube_filled_room.Post (8 & 259 & 4 & tt) (room_of 8 3 4)
  -- m cut to a byte: 260 values are 4
  pub room_m_wraps : Never bcube_filled_room.Post (8 & 3 & 260 & tt) (room_of 8 3 4)
  -- n not held: 264 ports are one level more
  pub room_n_not_held : Never bcube_filled_room.Post (264 & 3 & 4 & tt) (record { number = 264 + (256 * 3 + 65536 * 4) })
  -- k not held: 259 levels are one value more
  pub room_k_not_held : Never bcube_filled_room.Post (8 & 259 & 4 & tt) (record { number = 8 + (256 * 259 + 65536 * 4) })
  -- m not held, so that it reaches above its byte
  pub room_m_not_held : Never bcube_filled_room.Post (8 & 3 & 260 & tt) (record { number = 8 + (256 * 3 + 65536 * 260) })
  -- n cut to 32 bits
  pub room_n_cut : Never bcube_filled_room.Post (4294967304 & 3 & 4 & tt) (room_of 8 3 4)
  -- m cut to 32 bits
  pub room_m_cut : Never bcube_filled_room.Post (8 & 3 & 4294967300 & tt) (room_of 8 3 4)
  -- ---- bcube_shape
  -- n and k exchanged: (8,3) refused as (3,8) is
  pub shape_n_and_k_exchanged : Never bcube_shape.Post (room_of 8 3 8 & tt) (word (plain 2) 0)
  -- N not bounded: (9,3) taken
  pub shape_servers_not_bounded : Never bcube_shape.Post (room_of 9 3 9 & tt) (word none 0)
  -- what is above m's byte ignored: the number of (8,3,4) with a bit above its three bytes
  pub shape_above_m_ignored : Never bcube_shape.Post (record { number = 16777216 + (8 + (256 * 3 + 65536 * 4)) } & tt) (word none 0)
  -- the number of version 2, which has no m, taken for the full room
  pub shape_without_m : Never bcube_shape.Post (record { number = 8 + 256 * 3 } & tt) (word none 0)
  -- 256 levels taken for none
  pub shape_256_levels : Never bcube_shape.Post (room_of 2 256 2 & tt) (word none 0)
  -- the refusal's number told as a value
  pub shape_number_as_value : Never bcube_shape.Post (room_of 9 3 9 & tt) (word none 3)
  -- 3 tested before 26: (9,3,10), which has more than 4,096 servers too
  pub shape_servers_before_fill : Never bcube_shape.Post (room_of 9 3 10 & tt) (word (plain 3) 0)
  -- 26 tested before 2: (4,4,5)
  pub shape_fill_before_levels : Never bcube_shape.Post (room_of 4 4 5 & tt) (word (plain 26) 0)
  -- m = n refused
  pub shape_full_room_refused : Never bcube_shape.Post (room_of 8 3 8 & tt) (word (plain 26) 0)
  -- m = 1 taken
  pub shape_fill_1_taken : Never bcube_shape.Post (room_of 8 3 1 & tt) (word none 0)
  -- m above n taken: (4,1,5)
  pub shape_fill_above_n_taken : Never bcube_shape.Post (room_of 4 1 5 & tt) (word none 0)
  -- the largest m of 64 bits taken
  pub shape_largest_fill_taken : Never bcube_shape.Post (room_of 8 3 18446744073709551615 & tt) (word none 0)
  -- N as n to the power k + 1: the 3,456 servers of (12,3,2) refused
  pub shape_of_the_full_room : Never bcube_shape.Post (room_of 12 3 2 & tt) (word (plain 3) 0)
  -- ---- bcube_servers
  -- n to the power k
  pub servers_one_level_less : Never bcube_servers.Post (room_of 8 3 8 & tt) (word none 512)
  -- the value in the low bytes of the word
  pub servers_value_low : Never bcube_servers.Post (room_of 8 3 8 & tt) (record { word = 4096 })
  -- N as n to the power k + 1: (8,3,4)
  pub servers_of_the_full_room : Never bcube_servers.Post (room_of 8 3 4 & tt) (word none 4096)
  -- N as m to the power k + 1
  pub servers_m_at_every_level : Never bcube_servers.Post (room_of 8 3 4 & tt) (word none 256)
  -- 3 told before 26: (9,3,10)
  pub servers_told_before_fill : Never bcube_servers.Post (room_of 9 3 10 & tt) (word (plain 3) 0)
  -- the number of version 2.0 taken for the full room
  pub servers_without_m : Never bcube_servers.Post (record { number = 8 + 256 * 3 } & tt) (word none 4096)
  -- ---- bcube_bound
  -- k for n
  pub bound_is_k : Never bcube_bound.Post (room_of 8 3 8 & 0 & tt) (word none 3)
  -- the bound of a level above k
  pub bound_above_k : Never bcube_bound.Post (room_of 4 1 4 & 2 & tt) (word none 4)
  -- the level cut to 32 bits
  pub bound_level_cut : Never bcube_bound.Post (room_of 4 1 4 & 4294967296 & tt) (word none 4)
  -- m at every level: level 0 of (8,3,4)
  pub bound_m_at_level_0 : Never bcube_bound.Post (room_of 8 3 4 & 0 & tt) (word none 4)
  -- n at every level: level 3 of (8,3,4)
  pub bound_n_at_level_k : Never bcube_bound.Post (room_of 8 3 4 & 3 & tt) (word none 8)
  -- ---- bcube_switches
  -- the servers of a switch for the switches of a level
  pub switches_ports_counted : Never bcube_switches.Post (room_of 8 3 8 & 0 & tt) (word none 8)
  -- one level less: n to the power k - 1
  pub switches_one_level_less : Never bcube_switches.Post (room_of 8 3 8 & 0 & tt) (word none 64)
  -- a switch for each server
  pub switches_servers_counted : Never bcube_switches.Post (room_of 8 3 8 & 0 & tt) (word none 4096)
  -- the switches of all levels
  pub switches_all_levels : Never bcube_switches.Post (room_of 8 3 8 & 0 & tt) (word none 2048)
  -- those of a level above k
  pub switches_above_k : Never bcube_switches.Post (room_of 4 1 4 & 2 & tt) (word none 4)
  -- n servers at each switch of level k: (8,3,4)
  pub switches_of_n_at_level_k : Never bcube_switches.Post (room_of 8 3 4 & 3 & tt) (word none 256)
  -- m servers at each switch of level 0
  pub switches_of_m_at_level_0 : Never bcube_switches.Post (room_of 8 3 4 & 0 & tt) (word none 512)
  -- ---- bcube_digits
  -- N not bounded: address 4096 of (8,3) taken
  pub digits_address_wraps : Never bcube_digits.Post (room_of 8 3 8 & 4096 & b lends_mut stale 4 & tt) (word none 0)
  -- the digits counted in the value
  pub digits_counted : Never bcube_digits.Post (room_of 8 3 8 & 521 & b lends_mut stale 4 & tt) (word none 4)
  -- reversed: 521 of (8,3), written 1011
  pub digits_reversed : NeverLeaves bcube_digits.Post (room_of 8 3 8 & 521 & b lends_mut stale 4 & tt) third (1 ∷ 0 ∷ 1 ∷ 1 ∷ [])
  -- the buffer left as it was lent
  pub digits_not_written : NeverLeaves bcube_digits.Post (room_of 8 3 8 & 521 & b lends_mut stale 4 & tt) third (stale 4)
  -- the buffer touched on refusal
  pub digits_touched : NeverLeaves bcube_digits.Post (room_of 8 3 8 & 4096 & b lends_mut stale 4 & tt) third (replicate 4 0)
  -- N as n to the power k + 1: address 2048 of (8,3,4) answered
  pub digits_of_the_full_room : NeverLeaves bcube_digits.Post (room_of 8 3 4 & 2048 & b lends_mut stale 4 & tt) third (0 ∷ 0 ∷ 0 ∷ 4 ∷ [])
  -- digits to the base m: 2047 of (8,3,4), written 3777
  pub digits_to_the_base_m : NeverLeaves bcube_digits.Post (room_of 8 3 4 & 2047 & b lends_mut stale 4 & tt) third (3 ∷ 3 ∷ 3 ∷ 3 ∷ [])
  -- ---- bcube_digit
  -- from the other end: digit 2 of 1011
  pub digit_from_the_other_end : Never bcube_digit.Post (room_of 8 3 8 & 521 & 2 & tt) (word none 1)
  -- server and level exchanged
  pub digit_server_and_level_exchanged : Never bcube_digit.Post (room_of 4 1 4 & 1 & 0 & tt) (word none 0)
  -- the server cut to 32 bits before it is tested
  pub digit_server_cut : Never bcube_digit.Post (room_of 4 1 4 & 4294967297 & 0 & tt) (word none 1)
  -- N as n to the power k + 1: digit 3 of 2048 in (8,3,4)
  pub digit_of_the_full_room : Never bcube_digit.Post (room_of 8 3 4 & 2048 & 3 & tt) (word none 4)
  -- a digit to the base m: digit 0 of 7 in (8,3,4)
  pub digit_to_the_base_m : Never bcube_digit.Post (room_of 8 3 4 & 7 & 0 & tt) (word none 3)
  -- ---- bcube_address
  -- reversed: 1011 read as 1101
  pub address_reversed : Never bcube_address.Post (room_of 8 3 8 & 1 & 1 & 0 & 1 & tt) (word none 577)
  -- a place above k ignored
  pub address_place_above_k : Never bcube_address.Post (room_of 4 1 4 & 3 & 1 & 1 & 0 & tt) (word none 7)
  -- a digit cut to 32 bits
  pub address_digit_cut : Never bcube_address.Post (room_of 4 1 4 & 4294967299 & 1 & 0 & 0 & tt) (word none 7)
  -- digit k bounded by n: 4 at place 3 in (8,3,4)
  pub address_digit_k_bounded_by_n : Never bcube_address.Post (room_of 8 3 4 & 0 & 0 & 0 & 4 & tt) (word none 2048)
  -- every digit bounded by m: 4 at place 2
  pub address_digit_2_bounded_by_m : Never bcube_address.Post (room_of 8 3 4 & 0 & 0 & 4 & 0 & tt) (word (plain 21) 0)
  -- the bound of level 0 as m: 5 at place 0
  pub address_digit_0_bounded_by_m : Never bcube_address.Post (room_of 8 3 4 & 5 & 0 & 0 & 0 & tt) (word (plain 21) 0)
  -- ---- bcube_switch
  -- not closed up: 13 of (4,1) with digit 0 made 0
  pub switch_not_closed_up : Never bcube_switch.Post (room_of 4 1 4 & 7 & 0 & tt) (word none 4)
  -- the level told with the number
  pub switch_with_level : Never bcube_switch.Post (room_of 4 1 4 & 7 & 1 & tt) (word none 4099)
  -- N as n to the power k + 1: server 2048 of (8,3,4)
  pub switch_of_the_full_room : Never bcube_switch.Post (room_of 8 3 4 & 2048 & 0 & tt) (word none 256)
  -- closed up to the base m: 3455 of (12,3,2) at level 3
  pub switch_to_the_base_m : Never bcube_switch.Post (room_of 12 3 2 & 3455 & 3 & tt) (word none 77)
  -- ---- bcube_server_at, of which port 3 of switch 1 of level 0 in (4,1) is server 13
  -- switch and port exchanged
  pub server_at_switch_and_port_exchanged : Never bcube_server_at.Post (room_of 4 1 4 & 0 & 1 & 3 & tt) (word none 13)
  -- the port in place of digit 0 at every level
  pub server_at_digit_0 : Never bcube_server_at.Post (room_of 4 1 4 & 1 & 3 & 1 & tt) (word none 13)
  -- the switch's digits not moved up
  pub server_at_not_moved_up : Never bcube_server_at.Post (room_of 4 1 4 & 0 & 1 & 3 & tt) (word none 3)
  -- port n carried to the next digit
  pub server_at_port_not_bounded : Never bcube_server_at.Post (room_of 4 1 4 & 0 & 0 & 4 & tt) (word none 4)
  -- a switch that the level does not have
  pub server_at_switch_not_bounded : Never bcube_server_at.Post (room_of 4 1 4 & 0 & 4 & 0 & tt) (word none 16)
  -- the port cut to 32 bits
  pub server_at_port_cut : Never bcube_server_at.Post (room_of 4 1 4 & 0 & 1 & 4294967299 & tt) (word none 7)
  -- n servers at a switch of level k: port 4 of switch 0 in (8,3,4)
  pub server_at_port_m_at_level_k : Never bcube_server_at.Post (room_of 8 3 4 & 3 & 0 & 4 & tt) (word none 2048)
  -- m servers at a switch of level 0: port 5 refused
  pub server_at_port_5_refused : Never bcube_server_at.Post (room_of 8 3 4 & 0 & 0 & 5 & tt) (word (plain 21) 0)
  -- n to the power k switches at level 0: switch 256
  pub server_at_switch_256 : Never bcube_server_at.Post (room_of 8 3 4 & 0 & 256 & 0 & tt) (word none 2048)
  -- 256 switches at level k: switch 256 refused
  pub server_at_switch_256_refused : Never bcube_server_at.Post (room_of 8 3 4 & 3 & 256 & 0 & tt) (word (plain 21) 0)
  -- ---- bcube_neighbour
  -- level and value exchanged: 12 of (4,1) with digit 0 set to 1
  pub neighbour_level_and_value_exchanged : Never bcube_neighbour.Post (room_of 4 1 4 & 6 & 0 & 1 & tt) (word none 2)
  -- a value n carried to the next digit
  pub neighbour_value_not_bounded : Never bcube_neighbour.Post (room_of 4 1 4 & 0 & 0 & 4 & tt) (word none 4)
  -- the value cut to 32 bits
  pub neighbour_value_cut : Never bcube_neighbour.Post (room_of 4 1 4 & 0 & 0 & 4294967297 & tt) (word none 1)
  -- the bound of level 0 as m: value 5 in (8,3,4) refused
  pub neighbour_value_5_refused : Never bcube_neighbour.Post (room_of 8 3 4 & 0 & 0 & 5 & tt) (word (plain 21) 0)
  -- the bound of level k as n: value 4
  pub neighbour_value_m_at_level_k : Never bcube_neighbour.Post (room_of 8 3 4 & 0 & 3 & 4 & tt) (word none 2048)
  -- N as n to the power k + 1: a neighbour of server 2048 in (8,3,4)
  pub neighbour_in_the_full_room : Never bcube_neighbour.Post (room_of 8 3 4 & 2048 & 0 & 1 & tt) (word none 2049)
  -- ---- bcube_between
  -- the level counted from 0: 00 and 01 of (4,1) told as no neighbours
  pub between_from_0 : Never bcube_between.Post (room_of 4 1 4 & 0 & 1 & tt) (word none 0)
  -- two that differ in two digits taken for neighbours: 00 and 13
  pub between_two_digits_apart : Never bcube_between.Post (room_of 4 1 4 & 0 & 7 & tt) (word none 1)
  -- N as n to the power k + 1: 0 and 2048 of (8,3,4)
  pub between_in_the_full_room : Never bcube_between.Post (room_of 8 3 4 & 0 & 2048 & tt) (word none 4)
  -- digits to the base m: 0 and 4 of (8,3,4)
  pub between_to_the_base_m : Never bcube_between.Post (room_of 8 3 4 & 0 & 4 & tt) (word none 2)
  -- ---- bcube_failed_link
  -- a failed link told as live
  pub failed_told_as_live : Never bcube_failed_link.Post (room_of 4 1 4 & 3 & 0 & o lends failing 3 1 & tt) (word none 0)
  -- another link of the server told for this one
  pub failed_another_link : Never bcube_failed_link.Post (room_of 4 1 4 & 3 & 0 & o lends failing 3 2 & tt) (word none 1)
  -- N as n to the power k + 1: server 8 of (4,1,2) in a table of 16 bytes told live
  pub failed_in_full_table : Never bcube_failed_link.Post (room_of 4 1 2 & 8 & 0 & o lends healthy & tt) (word none 0)
  -- ---- bcube_mark
  -- level k + 1 marked
  pub marked_above_k : Never bcube_mark.Post (room_of 4 1 4 & 3 & 2 & o lends_mut healthy & q lends_mut unmarked & tt) (word none 0)
  -- 1 told for a mark made
  pub mark_counted : Never bcube_mark.Post (room_of 4 1 4 & 3 & 1 & o lends_mut healthy & q lends_mut unmarked & tt) (word none 1)
  -- the count of the switch told in the value
  pub mark_count_told : Never bcube_mark.Post (room_of 4 1 2 & 5 & 1 & o lends_mut half_failing 1 2 & q lends_mut half_counting 3 1 & tt) (word none 2)
  -- the level cut to 32 bits
  pub mark_level_cut : Never bcube_mark.Post (room_of 4 1 2 & 5 & 4294967297 & o lends_mut half_healthy & q lends_mut half_unmarked & tt) (word none 0)
  -- 30 tested before 6: a bit above k, a summary of 8 bytes for the 6 switches of (4,1,2)
  pub mark_summary_before_table : Never bcube_mark.Post (room_of 4 1 2 & 5 & 1 & o lends_mut half_failing 0 4 & q lends_mut replicate 8 0 & tt) (word (plain 30) 0)
  -- a summary of one byte too many taken
  pub mark_long_summary : Never bcube_mark.Post (room_of 4 1 2 & 5 & 1 & o lends_mut half_healthy & q lends_mut replicate 7 0 & tt) (word none 0)
  -- 30 not given where the mark would change nothing
  pub mark_entry_not_tested : Never bcube_mark.Post (room_of 4 1 2 & 5 & 1 & o lends_mut half_failing 5 2 & q lends_mut half_unmarked & tt) (word none 0)
  -- 30 for entries that are wrong elsewhere
  pub mark_elsewhere_tested : Never bcube_mark.Post (room_of 4 1 2 & 5 & 1 & o lends_mut half_healthy & q lends_mut set (half_counting 0 9) 5 7 & tt) (word (plain 30) 0)
  -- m servers counted at a switch of level 0: the mark of server 3 missed, and the entry refused
  pub mark_m_servers_counted : Never bcube_mark.Post (room_of 4 1 2 & 0 & 0 & o lends_mut half_failing 3 1 & q lends_mut half_counting 0 1 & tt) (word (plain 30) 0)
  -- nothing marked
  pub marks_nothing : NeverLeaves bcube_mark.Post (room_of 4 1 4 & 3 & 1 & o lends_mut healthy & q lends_mut unmarked & tt) fourth healthy
  -- server and level exchanged
  pub mark_server_and_level_exchanged : NeverLeaves bcube_mark.Post (room_of 4 1 4 & 1 & 0 & o lends_mut healthy & q lends_mut unmarked & tt) fourth (failing 0 2)
  -- the table touched on refusal 20
  pub mark_touched : NeverLeaves bcube_mark.Post (room_of 4 1 4 & 3 & 2 & o lends_mut healthy & q lends_mut unmarked & tt) fourth (failing 3 4)
  -- the table touched on refusal 30
  pub mark_table_touched : NeverLeaves bcube_mark.Post (room_of 4 1 2 & 5 & 1 & o lends_mut half_healthy & q lends_mut half_counting 3 1 & tt) fourth (half_failing 5 2)
  -- N as n to the power k + 1: server 8 of (4,1,2) marked in a table of 16 bytes
  pub marked_in_full_table : NeverLeaves bcube_mark.Post (room_of 4 1 2 & 8 & 0 & o lends_mut healthy & q lends_mut half_unmarked & tt) fourth (failing 8 1)
  -- the mark not counted
  pub mark_not_counted : NeverLeaves bcube_mark.Post (room_of 4 1 2 & 5 & 1 & o lends_mut half_healthy & q lends_mut half_unmarked & tt) fifth half_unmarked
  -- a repeated mark counted twice
  pub mark_counted_twice : NeverLeaves bcube_mark.Post (room_of 4 1 2 & 5 & 1 & o lends_mut half_failing 5 2 & q lends_mut half_counting 3 1 & tt) fifth (half_counting 3 2)
  -- the place of an entry as level times n to the power k, plus number: 5 for 3
  pub mark_place_by_power : NeverLeaves bcube_mark.Post (room_of 4 1 2 & 5 & 1 & o lends_mut half_healthy & q lends_mut half_unmarked & tt) fifth (half_counting 5 1)
  -- entries that are wrong elsewhere corrected
  pub mark_elsewhere_corrected : NeverLeaves bcube_mark.Post (room_of 4 1 2 & 5 & 1 & o lends_mut half_healthy & q lends_mut set (half_counting 0 9) 5 7 & tt) fifth (half_counting 3 1)
  -- the summary touched on refusal 30
  pub mark_summary_touched : NeverLeaves bcube_mark.Post (room_of 4 1 2 & 5 & 1 & o lends_mut half_healthy & q lends_mut half_counting 3 1 & tt) fifth (half_counting 3 2)
  -- ---- bcube_clear
  -- level k + 1 cleared
  pub cleared_above_k : Never bcube_clear.Post (room_of 4 1 4 & 3 & 2 & o lends_mut healthy & q lends_mut unmarked & tt) (word none 0)
  -- 20 tested before 4: level 2 of server 16
  pub clear_level_before_address : Never bcube_clear.Post (room_of 4 1 4 & 16 & 2 & o lends_mut healthy & q lends_mut unmarked & tt) (word (plain 20) 0)
  -- 30 tested before 6: a bit above k, a summary of 8 bytes for (4,1,2)
  pub clear_summary_before_table : Never bcube_clear.Post (room_of 4 1 2 & 5 & 1 & o lends_mut half_failing 0 4 & q lends_mut replicate 8 0 & tt) (word (plain 30) 0)
  -- a summary of one byte too many taken
  pub clear_long_summary : Never bcube_clear.Post (room_of 4 1 2 & 5 & 1 & o lends_mut half_healthy & q lends_mut replicate 7 0 & tt) (word none 0)
  -- 30 not given where clearing would change nothing
  pub clear_entry_not_tested : Never bcube_clear.Post (room_of 4 1 2 & 5 & 1 & o lends_mut half_healthy & q lends_mut half_counting 3 1 & tt) (word none 0)
  -- 30 for entries that are wrong elsewhere
  pub clear_elsewhere_tested : Never bcube_clear.Post (room_of 4 1 2 & 5 & 1 & o lends_mut half_healthy & q lends_mut set (half_counting 0 9) 5 7 & tt) (word (plain 30) 0)
  -- all links of the server cleared
  pub clears_all : NeverLeaves bcube_clear.Post (room_of 4 1 4 & 3 & 0 & o lends_mut failing 3 3 & q lends_mut set (counting 0 1) 7 1 & tt) fourth healthy
  -- the link of level k cleared
  pub clears_level_k : NeverLeaves bcube_clear.Post (room_of 4 1 4 & 3 & 0 & o lends_mut failing 3 3 & q lends_mut set (counting 0 1) 7 1 & tt) fourth (failing 3 1)
  -- the table touched on refusal 6, which its bit above k is
  pub clear_touched : NeverLeaves bcube_clear.Post (room_of 4 1 4 & 3 & 0 & o lends_mut failing 3 5 & q lends_mut counting 0 1 & tt) fourth (failing 3 4)
  -- the table touched on refusal 30
  pub clear_table_touched : NeverLeaves bcube_clear.Post (room_of 4 1 2 & 5 & 1 & o lends_mut half_failing 5 2 & q lends_mut half_unmarked & tt) fourth half_healthy
  -- N as n to the power k + 1: server 8 of (4,1,2) cleared in a table of 16 bytes
  pub cleared_in_full_table : NeverLeaves bcube_clear.Post (room_of 4 1 2 & 8 & 0 & o lends_mut failing 8 1 & q lends_mut half_unmarked & tt) fourth healthy
  -- the clearing not counted
  pub clearing_not_counted : NeverLeaves bcube_clear.Post (room_of 4 1 2 & 5 & 1 & o lends_mut set (half_failing 1 2) 5 2 & q lends_mut half_counting 3 2 & tt) fifth (half_counting 3 2)
  -- one taken away though the link was not marked
  pub clear_unmarked_subtracted : NeverLeaves bcube_clear.Post (room_of 4 1 2 & 5 & 1 & o lends_mut half_failing 1 2 & q lends_mut half_counting 3 1 & tt) fifth half_unmarked
  -- the place of an entry as level times n to the power k, plus number: 5 for 3, servers 3 and 5 being marked
  pub clear_place_by_power : NeverLeaves bcube_clear.Post (room_of 4 1 2 & 5 & 1 & o lends_mut set (half_failing 3 2) 5 2 & q lends_mut set (half_counting 3 1) 5 1 & tt) fifth (half_counting 3 1)
  -- entries that are wrong elsewhere corrected
  pub clear_elsewhere_corrected : NeverLeaves bcube_clear.Post (room_of 4 1 2 & 5 & 1 & o lends_mut half_failing 5 2 & q lends_mut set (set (half_counting 0 9) 3 1) 5 7 & tt) fifth half_unmarked
  -- the summary touched on refusal 30
  pub clear_summary_touched : NeverLeaves bcube_clear.Post (room_of 4 1 2 & 5 & 1 & o lends_mut half_failing 5 2 & q lends_mut half_counting 3 2 & tt) fifth (half_counting 3 1)
  -- ---- bcube_mark_all, of which server 5 of (4,1,2) is at switch 1 of level 0 and at switch 1 of level 1: places 1 and 3
  -- server N marked
  pub mark_all_n : Never bcube_mark_all.Post (room_of 4 1 4 & 16 & o lends_mut healthy & q lends_mut unmarked & tt) (word none 0)
  -- 6 tested before 4: server 16, a table of 15 bytes
  pub mark_all_table_before_address : Never bcube_mark_all.Post (room_of 4 1 4 & 16 & o lends_mut replicate 15 0 & q lends_mut unmarked & tt) (word (plain 6) 0)
  -- the server cut to 32 bits
  pub mark_all_cut : Never bcube_mark_all.Post (room_of 4 1 4 & 4294967299 & o lends_mut healthy & q lends_mut unmarked & tt) (word none 0)
  -- 30 tested before 6: a bit above k, a summary of 8 bytes for (4,1,2)
  pub mark_all_summary_before_table : Never bcube_mark_all.Post (room_of 4 1 2 & 5 & o lends_mut half_failing 0 4 & q lends_mut replicate 8 0 & tt) (word (plain 30) 0)
  -- a summary of one byte too many taken
  pub mark_all_long_summary : Never bcube_mark_all.Post (room_of 4 1 2 & 5 & o lends_mut half_healthy & q lends_mut replicate 7 0 & tt) (word none 0)
  -- the entry of level 0 tested alone
  pub mark_all_level_k_not_tested : Never bcube_mark_all.Post (room_of 4 1 2 & 5 & o lends_mut half_healthy & q lends_mut half_counting 3 1 & tt) (word none 0)
  -- 30 not given where the marks would change nothing
  pub mark_all_entry_not_tested : Never bcube_mark_all.Post (room_of 4 1 2 & 5 & o lends_mut half_failing 5 3 & q lends_mut half_unmarked & tt) (word none 0)
  -- 30 for entries that are wrong elsewhere
  pub mark_all_elsewhere_tested : Never bcube_mark_all.Post (room_of 4 1 2 & 5 & o lends_mut half_healthy & q lends_mut set (half_counting 0 9) 5 7 & tt) (word (plain 30) 0)
  -- nothing marked
  pub marks_no_server : NeverLeaves bcube_mark_all.Post (room_of 4 1 4 & 3 & o lends_mut healthy & q lends_mut unmarked & tt) third healthy
  -- one link marked, that of level 0
  pub marks_one_link : NeverLeaves bcube_mark_all.Post (room_of 4 1 4 & 3 & o lends_mut healthy & q lends_mut unmarked & tt) third (failing 3 1)
  -- the whole byte set, bits above k with it
  pub marks_whole_byte : NeverLeaves bcube_mark_all.Post (room_of 4 1 4 & 3 & o lends_mut healthy & q lends_mut unmarked & tt) third (failing 3 0xff)
  -- the table touched on refusal 6, which its bit above k is
  pub mark_all_touched : NeverLeaves bcube_mark_all.Post (room_of 4 1 4 & 3 & o lends_mut failing 3 4 & q lends_mut unmarked & tt) third (failing 3 3)
  -- the table touched on refusal 30
  pub mark_all_table_touched : NeverLeaves bcube_mark_all.Post (room_of 4 1 2 & 5 & o lends_mut half_healthy & q lends_mut half_counting 3 1 & tt) third (half_failing 5 3)
  -- N as n to the power k + 1: server 8 of (4,1,2) marked in a table of 16 bytes
  pub server_marked_in_full_table : NeverLeaves bcube_mark_all.Post (room_of 4 1 2 & 8 & o lends_mut healthy & q lends_mut half_unmarked & tt) third (failing 8 3)
  -- the entry of level 0 alone moved
  pub mark_all_level_0_alone : NeverLeaves bcube_mark_all.Post (room_of 4 1 2 & 5 & o lends_mut half_healthy & q lends_mut half_unmarked & tt) fourth (half_counting 1 1)
  -- a repeated mark counted twice, at each level
  pub mark_all_counted_twice : NeverLeaves bcube_mark_all.Post (room_of 4 1 2 & 5 & o lends_mut half_failing 5 3 & q lends_mut set (half_counting 1 1) 3 1 & tt) fourth (set (half_counting 1 2) 3 2)
  -- the place of an entry as level times n to the power k, plus number: 5 for 3
  pub mark_all_place_by_power : NeverLeaves bcube_mark_all.Post (room_of 4 1 2 & 5 & o lends_mut half_healthy & q lends_mut half_unmarked & tt) fourth (set (half_counting 1 1) 5 1)
  -- entries that are wrong elsewhere corrected
  pub mark_all_elsewhere_corrected : NeverLeaves bcube_mark_all.Post (room_of 4 1 2 & 5 & o lends_mut half_healthy & q lends_mut set (half_counting 0 9) 5 7 & tt) fourth (set (half_counting 1 1) 3 1)
  -- the summary touched on refusal 30
  pub mark_all_summary_touched : NeverLeaves bcube_mark_all.Post (room_of 4 1 2 & 5 & o lends_mut half_healthy & q lends_mut half_counting 3 1 & tt) fourth (set (half_counting 1 1) 3 1)
  -- ---- bcube_clear_all
  -- server N cleared
  pub clear_all_n : Never bcube_clear_all.Post (room_of 4 1 4 & 16 & o lends_mut healthy & q lends_mut unmarked & tt) (word none 0)
  -- 6 tested before 4: server 16, and a bit above k
  pub clear_all_table_before_address : Never bcube_clear_all.Post (room_of 4 1 4 & 16 & o lends_mut failing 3 4 & q lends_mut unmarked & tt) (word (plain 6) 0)
  -- the links that were cleared counted
  pub clear_all_counted : Never bcube_clear_all.Post (room_of 4 1 4 & 3 & o lends_mut failing 3 3 & q lends_mut set (counting 0 1) 7 1 & tt) (word none 2)
  -- 30 tested before 6: a bit above k, a summary of 8 bytes for (4,1,2)
  pub clear_all_summary_before_table : Never bcube_clear_all.Post (room_of 4 1 2 & 5 & o lends_mut half_failing 0 4 & q lends_mut replicate 8 0 & tt) (word (plain 30) 0)
  -- a summary of one byte too many taken
  pub clear_all_long_summary : Never bcube_clear_all.Post (room_of 4 1 2 & 5 & o lends_mut half_healthy & q lends_mut replicate 7 0 & tt) (word none 0)
  -- the entry of level 0 tested alone
  pub clear_all_level_k_not_tested : Never bcube_clear_all.Post (room_of 4 1 2 & 5 & o lends_mut half_failing 5 3 & q lends_mut half_counting 1 1 & tt) (word none 0)
  -- 30 not given where clearing would change nothing
  pub clear_all_entry_not_tested : Never bcube_clear_all.Post (room_of 4 1 2 & 5 & o lends_mut half_healthy & q lends_mut half_counting 3 1 & tt) (word none 0)
  -- 30 for entries that are wrong elsewhere
  pub clear_all_elsewhere_tested : Never bcube_clear_all.Post (room_of 4 1 2 & 5 & o lends_mut half_healthy & q lends_mut set (half_counting 0 9) 5 7 & tt) (word (plain 30) 0)
  -- nothing cleared
  pub clears_no_server : NeverLeaves bcube_clear_all.Post (room_of 4 1 4 & 3 & o lends_mut failing 3 3 & q lends_mut set (counting 0 1) 7 1 & tt) third (failing 3 3)
  -- one link cleared, that of level 0
  pub clears_one_link : NeverLeaves bcube_clear_all.Post (room_of 4 1 4 & 3 & o lends_mut failing 3 3 & q lends_mut set (counting 0 1) 7 1 & tt) third (failing 3 2)
  -- the whole table cleared: the mark of server 7 lost
  pub clears_whole_table : NeverLeaves bcube_clear_all.Post (room_of 4 1 4 & 3 & o lends_mut set (failing 3 3) 7 1 & q lends_mut set (set (counting 0 1) 1 1) 7 1 & tt) third healthy
  -- the table touched on refusal 6, which its bit above k is
  pub clear_all_touched : NeverLeaves bcube_clear_all.Post (room_of 4 1 4 & 3 & o lends_mut failing 3 4 & q lends_mut unmarked & tt) third healthy
  -- the table touched on refusal 30
  pub clear_all_table_touched : NeverLeaves bcube_clear_all.Post (room_of 4 1 2 & 5 & o lends_mut half_failing 5 3 & q lends_mut half_unmarked & tt) third half_healthy
  -- N as n to the power k + 1: server 8 of (4,1,2) cleared in a table of 16 bytes
  pub server_cleared_in_full_table : NeverLeaves bcube_clear_all.Post (room_of 4 1 2 & 8 & o lends_mut failing 8 3 & q lends_mut half_unmarked & tt) third healthy
  -- the entry of level 0 alone moved
  pub clear_all_level_0_alone : NeverLeaves bcube_clear_all.Post (room_of 4 1 2 & 5 & o lends_mut half_failing 5 3 & q lends_mut set (half_counting 1 1) 3 1 & tt) fourth (half_counting 3 1)
  -- one taken away though the link was not marked: server 5 at level 1, where server 1 is
  pub clear_all_unmarked_subtracted : NeverLeaves bcube_clear_all.Post (room_of 4 1 2 & 5 & o lends_mut set (half_failing 5 1) 1 2 & q lends_mut set (half_counting 1 1) 3 1 & tt) fourth half_unmarked
  -- the place of an entry as level times n to the power k, plus number: 5 for 3, the link of server 3 there being marked
  pub clear_all_place_by_power : NeverLeaves bcube_clear_all.Post (room_of 4 1 2 & 5 & o lends_mut set (half_failing 5 3) 3 2 & q lends_mut set (set (half_counting 1 1) 3 1) 5 1 & tt) fourth (half_counting 3 1)
  -- entries that are wrong elsewhere corrected
  pub clear_all_elsewhere_corrected : NeverLeaves bcube_clear_all.Post (room_of 4 1 2 & 5 & o lends_mut half_healthy & q lends_mut set (half_counting 0 9) 5 7 & tt) fourth half_unmarked
  -- the summary touched on refusal 30
  pub clear_all_summary_touched : NeverLeaves bcube_clear_all.Post (room_of 4 1 2 & 5 & o lends_mut half_failing 5 3 & q lends_mut half_counting 1 1 & tt) fourth half_unmarked
  -- ---- bcube_dead_switch
  -- switch 0 of level 0 told as 0, which is none
  pub dead_first_as_0 : Never bcube_dead_switch.Post (room_of 4 1 2 & o lends 1 ∷ 1 ∷ 1 ∷ 1 ∷ 0 ∷ 0 ∷ 0 ∷ 0 ∷ [] & q lends half_counting 0 4 & tt) (word none 0)
  -- none told as switch 0 of level 0
  pub dead_none_as_first : Never bcube_dead_switch.Post (room_of 4 1 2 & o lends half_healthy & q lends half_unmarked & tt) (word none 16777216)
  -- level and number alone
  pub dead_not_said_found : Never bcube_dead_switch.Post (room_of 4 1 2 & o lends set (half_failing 1 2) 5 2 & q lends half_counting 3 2 & tt) (word none (65536 * 1 + 1))
  -- level and number exchanged: switch 2 of level 1
  pub dead_level_and_number_exchanged : Never bcube_dead_switch.Post (room_of 4 1 2 & o lends 0 ∷ 0 ∷ 2 ∷ 0 ∷ 0 ∷ 0 ∷ 2 ∷ 0 ∷ [] & q lends half_counting 4 2 & tt) (word none (16777216 + (65536 * 2 + 1)))
  -- the place among all switches for the number in the level
  pub dead_place_for_number : Never bcube_dead_switch.Post (room_of 4 1 2 & o lends set (half_failing 1 2) 5 2 & q lends half_counting 3 2 & tt) (word none (16777216 + (65536 * 1 + 3)))
  -- level and number by the power of n, as if level 0 had four switches
  pub dead_level_by_power : Never bcube_dead_switch.Post (room_of 4 1 2 & o lends set (half_failing 1 2) 5 2 & q lends half_counting 3 2 & tt) (word none (16777216 + 3))
  -- n links wanted at a switch of level k
  pub dead_n_for_m : Never bcube_dead_switch.Post (room_of 4 1 2 & o lends set (half_failing 1 2) 5 2 & q lends half_counting 3 2 & tt) (word none 0)
  -- m links wanted at a switch of level 0
  pub dead_m_for_n : Never bcube_dead_switch.Post (room_of 4 1 2 & o lends set (half_failing 0 1) 1 1 & q lends half_counting 0 2 & tt) (word none 16777216)
  -- the second of two dead switches
  pub dead_later_given : Never bcube_dead_switch.Post (room_of 4 1 2 & o lends 0 ∷ 2 ∷ 2 ∷ 0 ∷ 0 ∷ 2 ∷ 2 ∷ 0 ∷ [] & q lends set (half_counting 3 2) 4 2 & tt) (word none (16777216 + (65536 * 1 + 2)))
  -- the higher level first
  pub dead_higher_level_first : Never bcube_dead_switch.Post (room_of 4 1 2 & o lends 3 ∷ 1 ∷ 1 ∷ 1 ∷ 2 ∷ 0 ∷ 0 ∷ 0 ∷ [] & q lends set (half_counting 0 4) 2 2 & tt) (word none (16777216 + 65536 * 1))
  -- none told over entries that are wrong
  pub dead_over_wrong_entries : Never bcube_dead_switch.Post (room_of 4 1 2 & o lends half_healthy & q lends set (half_counting 0 9) 5 7 & tt) (word none 0)
  -- the entries tested up to the first dead switch alone
  pub dead_tested_to_the_first : Never bcube_dead_switch.Post (room_of 4 1 2 & o lends 1 ∷ 1 ∷ 1 ∷ 1 ∷ 0 ∷ 0 ∷ 0 ∷ 0 ∷ [] & q lends set (half_counting 0 4) 5 1 & tt) (word none 16777216)
  -- 30 tested before 6: a bit above k, a summary of 8 bytes
  pub dead_summary_before_table : Never bcube_dead_switch.Post (room_of 4 1 2 & o lends half_failing 0 4 & q lends replicate 8 0 & tt) (word (plain 30) 0)
  -- a summary of one byte too many taken
  pub dead_long_summary : Never bcube_dead_switch.Post (room_of 4 1 2 & o lends half_healthy & q lends replicate 7 0 & tt) (word none 0)
  -- a dead switch told beside a refusal
  pub dead_beside_refusal : Never bcube_dead_switch.Post (room_of 4 1 2 & o lends half_healthy & q lends half_counting 3 2 & tt) (word (plain 30) (16777216 + (65536 * 1 + 1)))
  -- N as n to the power k + 1: a table of 16 bytes for (4,1,2)
  pub dead_full_table : Never bcube_dead_switch.Post (room_of 4 1 2 & o lends healthy & q lends half_unmarked & tt) (word none 0)
  -- ---- bcube_summarize
  -- the old entries tested
  pub fresh_old_entries_tested : Never bcube_summarize.Post (room_of 4 1 2 & o lends half_healthy & q lends_mut set (half_counting 0 9) 5 7 & tt) (word (plain 30) 0)
  -- the marks of the room told in the value
  pub fresh_marks_told : Never bcube_summarize.Post (room_of 4 1 2 & o lends half_failing 5 3 & q lends_mut stale 6 & tt) (word none 2)
  -- 30 tested before 6: a bit above k, a summary of 8 bytes
  pub fresh_summary_before_table : Never bcube_summarize.Post (room_of 4 1 2 & o lends half_failing 0 4 & q lends_mut replicate 8 0 & tt) (word (plain 30) 0)
  -- a summary of one byte too many taken
  pub fresh_long_summary : Never bcube_summarize.Post (room_of 4 1 2 & o lends half_healthy & q lends_mut replicate 7 0 & tt) (word none 0)
  -- the summary left as it was lent
  pub fresh_not_written : NeverLeaves bcube_summarize.Post (room_of 4 1 2 & o lends half_failing 5 3 & q lends_mut stale 6 & tt) third (stale 6)
  -- the counts added to what was there
  pub fresh_added : NeverLeaves bcube_summarize.Post (room_of 4 1 2 & o lends half_failing 5 2 & q lends_mut half_counting 3 1 & tt) third (half_counting 3 2)
  -- a link counted at the other level
  pub fresh_other_level : NeverLeaves bcube_summarize.Post (room_of 4 1 2 & o lends half_failing 6 2 & q lends_mut stale 6 & tt) third (half_counting 1 1)
  -- the place of an entry as level times n to the power k, plus number: 5 for 3
  pub fresh_place_by_power : NeverLeaves bcube_summarize.Post (room_of 4 1 2 & o lends half_failing 5 2 & q lends_mut stale 6 & tt) third (half_counting 5 1)
  -- m servers counted at a switch of level 0: the mark of server 3 missed
  pub fresh_m_servers : NeverLeaves bcube_summarize.Post (room_of 4 1 2 & o lends half_failing 3 1 & q lends_mut stale 6 & tt) third half_unmarked
  -- the summary touched on refusal 30, which its length is
  pub fresh_touched : NeverLeaves bcube_summarize.Post (room_of 4 1 2 & o lends half_healthy & q lends_mut stale 7 & tt) third (replicate 7 0)
  -- the summary touched on refusal 6, which a bit above k is
  pub fresh_touched_by_table : NeverLeaves bcube_summarize.Post (room_of 4 1 2 & o lends half_failing 0 4 & q lends_mut stale 6 & tt) third half_unmarked
  -- ---- bcube_path_byte
  -- the position in the low bits of the byte
  pub path_byte_position_low : Never bcube_path_byte.Post (room_of 4 1 4 & 1 & 2 & tt) (word none 0x09)
  -- level and value exchanged
  pub path_byte_level_and_value_exchanged : Never bcube_path_byte.Post (room_of 4 1 4 & 1 & 0 & tt) (word none 0x01)
  -- the value not bounded
  pub path_byte_value_not_bounded : Never bcube_path_byte.Post (room_of 4 1 4 & 1 & 4 & tt) (word none 0x44)
  -- 9 for 21: a value of a call, and not of a byte
  pub path_byte_nine_for_21 : Never bcube_path_byte.Post (room_of 4 1 4 & 1 & 4 & tt) (word (refused_at 9 1 1) 0)
  -- the bound of level k as n: value 4 at level 3 of (8,3,4)
  pub path_byte_value_m_at_level_k : Never bcube_path_byte.Post (room_of 8 3 4 & 3 & 4 & tt) (word none 0xc4)
  -- the bound of level 0 as m: value 5 refused
  pub path_byte_value_5_refused : Never bcube_path_byte.Post (room_of 8 3 4 & 0 & 5 & tt) (word (plain 21) 0)
  -- ---- bcube_path_byte_parts
  -- level and value exchanged: byte 42
  pub parts_level_and_value_exchanged : Never bcube_path_byte_parts.Post (room_of 4 1 4 & 0x42 & tt) (word none 513)
  -- the byte itself told
  pub parts_byte_told : Never bcube_path_byte_parts.Post (room_of 4 1 4 & 0x42 & tt) (word none 0x42)
  -- a number above 255 cut to a byte
  pub parts_number_cut : Never bcube_path_byte_parts.Post (room_of 4 1 4 & 0x142 & tt) (word none 258)
  -- 9 with no place
  pub parts_no_place : Never bcube_path_byte_parts.Post (room_of 4 1 4 & 0x44 & tt) (word (plain 9) 0)
  -- the bound of level k as n: byte c4 in (8,3,4)
  pub parts_value_m_at_level_k : Never bcube_path_byte_parts.Post (room_of 8 3 4 & 0xc4 & tt) (word none 772)
  -- the bound of level 0 as m: byte 05 refused
  pub parts_value_5_refused : Never bcube_path_byte_parts.Post (room_of 8 3 4 & 0x05 & tt) (word (refused_at 9 1 1) 0)
  -- ---- bcube_hop_of, from 2567 of (8,3) by byte c4, where not said otherwise: to 4567, and the path byte of the way back is c2
  -- level and old value exchanged
  pub hop_level_and_old_exchanged : Never bcube_hop_of.Post (room_of 8 3 8 & 1399 & 0xc4 & tt) (word none (2423 + 65536 * 0x83))
  -- the new value for the old, so that it is the byte of the hop itself
  pub hop_byte_itself : Never bcube_hop_of.Post (room_of 8 3 8 & 1399 & 0xc4 & tt) (word none (2423 + 65536 * 0xc4))
  -- the byte in the highest of the value's four
  pub hop_byte_highest : Never bcube_hop_of.Post (room_of 8 3 8 & 1399 & 0xc4 & tt) (word none (2423 + 16777216 * 0xc2))
  -- the byte below the server
  pub hop_byte_lowest : Never bcube_hop_of.Post (room_of 8 3 8 & 1399 & 0xc4 & tt) (word none (0xc2 + 256 * 2423))
  -- the byte not told
  pub hop_byte_not_told : Never bcube_hop_of.Post (room_of 8 3 8 & 1399 & 0xc4 & tt) (word none 2423)
  -- the level not told
  pub hop_level_not_told : Never bcube_hop_of.Post (room_of 8 3 8 & 1399 & 0xc4 & tt) (word none (2423 + 65536 * 0x02))
  -- the old value not told
  pub hop_old_not_told : Never bcube_hop_of.Post (room_of 8 3 8 & 1399 & 0xc4 & tt) (word none (2423 + 65536 * 0xc0))
  -- the level in a byte of its own
  pub hop_level_apart : Never bcube_hop_of.Post (room_of 8 3 8 & 1399 & 0xc4 & tt) (word none (2423 + 65536 * (256 * 3 + 2)))
  -- the old value at the level below
  pub hop_old_at_the_level_below : Never bcube_hop_of.Post (room_of 8 3 8 & 1399 & 0xc4 & tt) (word none (2423 + 65536 * 0xc5))
  -- the server hopped from
  pub hop_stays : Never bcube_hop_of.Post (room_of 8 3 8 & 1399 & 0xc4 & tt) (word none (1399 + 65536 * 0xc2))
  -- a number above 255 cut to its low byte: 142 from 00 of (4,1)
  pub hop_number_cut : Never bcube_hop_of.Post (room_of 4 1 4 & 0 & 0x142 & tt) (word none (8 + 65536 * 0x40))
  -- a byte cut to 32 bits: 42
  pub hop_byte_cut : Never bcube_hop_of.Post (room_of 4 1 4 & 0 & 4294967362 & tt) (word none (8 + 65536 * 0x40))
  -- the server cut to 32 bits
  pub hop_server_cut : Never bcube_hop_of.Post (room_of 4 1 4 & 4294967297 & 0x42 & tt) (word none (9 + 65536 * 0x40))
  -- a zero byte taken for no hop: from 1 of (2,0)
  pub hop_zero_byte_is_no_hop : Never bcube_hop_of.Post (room_of 2 0 2 & 1 & 0x00 & tt) (word (refused_at 10 1 1) 0)
  -- nothing left behind by a zero byte
  pub hop_zero_byte_leaves_nothing : Never bcube_hop_of.Post (room_of 2 0 2 & 1 & 0x00 & tt) (word none 0)
  -- 8 with no place: byte 80 in (4,1)
  pub hop_eight_with_no_place : Never bcube_hop_of.Post (room_of 4 1 4 & 0 & 0x80 & tt) (word (plain 8) 0)
  -- 9 with no place: byte c4 from 3777 of (8,3,4)
  pub hop_nine_with_no_place : Never bcube_hop_of.Post (room_of 8 3 4 & 2047 & 0xc4 & tt) (word (plain 9) 0)
  -- 10 with no place: byte 41 from 13 of (4,1)
  pub hop_ten_with_no_place : Never bcube_hop_of.Post (room_of 4 1 4 & 7 & 0x41 & tt) (word (plain 10) 0)
  -- 8 at route 0
  pub hop_eight_at_route_0 : Never bcube_hop_of.Post (room_of 4 1 4 & 0 & 0x80 & tt) (word (refused_at 8 0 1) 0)
  -- 9 at hop 2
  pub hop_nine_at_hop_2 : Never bcube_hop_of.Post (room_of 8 3 4 & 2047 & 0xc4 & tt) (word (refused_at 9 1 2) 0)
  -- 10 at hop 0
  pub hop_ten_at_hop_0 : Never bcube_hop_of.Post (room_of 4 1 4 & 7 & 0x41 & tt) (word (refused_at 10 1 0) 0)
  -- 4 with a place: server 16 of (4,1)
  pub hop_four_with_a_place : Never bcube_hop_of.Post (room_of 4 1 4 & 16 & 0x41 & tt) (word (refused_at 4 1 1) 0)
  -- 9 tested before 8: byte 84 in (4,1)
  pub hop_value_before_position : Never bcube_hop_of.Post (room_of 4 1 4 & 0 & 0x84 & tt) (word (refused_at 9 1 1) 0)
  -- 8 tested before 4: byte 80 from server 16 of (4,1)
  pub hop_position_before_address : Never bcube_hop_of.Post (room_of 4 1 4 & 16 & 0x80 & tt) (word (refused_at 8 1 1) 0)
  -- the server told with 10
  pub hop_next_with_10 : Never bcube_hop_of.Post (room_of 4 1 4 & 7 & 0x41 & tt) (word (refused_at 10 1 1) 7)
  -- the byte told with 10
  pub hop_byte_with_10 : Never bcube_hop_of.Post (room_of 4 1 4 & 7 & 0x41 & tt) (word (refused_at 10 1 1) (65536 * 0x41))
  -- the server that it would come to told with 9
  pub hop_next_with_9 : Never bcube_hop_of.Post (room_of 8 3 4 & 2047 & 0xc4 & tt) (word (refused_at 9 1 1) 2559)
  -- the byte told with 9
  pub hop_byte_with_9 : Never bcube_hop_of.Post (room_of 8 3 4 & 2047 & 0xc4 & tt) (word (refused_at 9 1 1) (65536 * 0xc3))
  -- the bound of level k as n: byte c4 from 0 of (8,3,4)
  pub hop_to_value_m : Never bcube_hop_of.Post (room_of 8 3 4 & 0 & 0xc4 & tt) (word none (2048 + 65536 * 0xc0))
  -- 4 for 9: server 2048 is not below N
  pub hop_four_for_nine : Never bcube_hop_of.Post (room_of 8 3 4 & 0 & 0xc4 & tt) (word (plain 4) 0)
  -- the bound of level 0 as m: byte 05 refused
  pub hop_value_5_refused : Never bcube_hop_of.Post (room_of 8 3 4 & 0 & 0x05 & tt) (word (refused_at 9 1 1) 0)
  -- the new value for the old at level k: from 3777 of (8,3,4) by byte c0
  pub hop_new_value_at_level_k : Never bcube_hop_of.Post (room_of 8 3 4 & 2047 & 0xc0 & tt) (word none (511 + 65536 * 0xc0))
  -- the old value to the base m: from 3001 of (8,3,4) by byte c1
  pub hop_old_to_the_base_m : Never bcube_hop_of.Post (room_of 8 3 4 & 1537 & 0xc1 & tt) (word none (513 + 65536 * 0xc0))
  -- N as n to the power k + 1: from server 8 of (4,1,2) by byte 40
  pub hop_in_the_full_room : Never bcube_hop_of.Post (room_of 4 1 2 & 8 & 0x40 & tt) (word none (65536 * 0x42))
  -- ---- bcube_read
  -- the hops for the servers: 1 to 521 of (8,3) by c1 41
  pub read_hops_for_servers : Never bcube_read.Post (room_of 8 3 8 & 1 & 521 & q lends array (0xc1 ∷ 0x41 ∷ []) & b lends_mut stale 9 & tt) (word none 2)
  -- route and hop exchanged: 14 at the third byte of 03 00 01, 00 to 03 of (4,1)
  pub read_route_and_hop_exchanged : Never bcube_read.Post (room_of 4 1 4 & 0 & 3 & q lends array (0x03 ∷ 0x00 ∷ 0x01 ∷ []) & b lends_mut stale 9 & tt) (word (refused_at 14 3 1) 0)
  -- the buffer left as it was lent
  pub read_not_written : NeverLeaves bcube_read.Post (room_of 8 3 8 & 1 & 521 & q lends array (0xc1 ∷ 0x41 ∷ []) & b lends_mut stale 9 & tt) fifth (stale 9)
  -- places past the servers left as they were lent
  pub read_zeros_forgotten : NeverLeaves bcube_read.Post (room_of 8 3 8 & 1 & 521 & q lends array (0xc1 ∷ 0x41 ∷ []) & b lends_mut stale 9 & tt) fifth (1 ∷ 513 ∷ 521 ∷ stale 6)
  -- the buffer touched on refusal
  pub read_touched : NeverLeaves bcube_read.Post (room_of 4 1 4 & 0 & 3 & q lends array (0x03 ∷ 0x00 ∷ 0x01 ∷ []) & b lends_mut stale 9 & tt) fifth (filled 9 (0 ∷ 3 ∷ []))
  -- the bound of level k as n: 0 to 3 of (4,1,2) by 42 03 40, which meets 8 and 11
  pub read_by_value_m : NeverLeaves bcube_read.Post (room_of 4 1 2 & 0 & 3 & q lends array (0x42 ∷ 0x03 ∷ 0x40 ∷ []) & b lends_mut stale 9 & tt) fifth (filled 9 (0 ∷ 8 ∷ 11 ∷ 3 ∷ []))
  -- 4 for 9: server 8 is not below N
  pub read_four_for_nine : Never bcube_read.Post (room_of 4 1 2 & 0 & 3 & q lends array (0x42 ∷ 0x03 ∷ 0x40 ∷ []) & b lends_mut stale 9 & tt) (word (plain 4) 0)
  -- the bound of level 0 as m: byte 03 refused
  pub read_by_value_3_refused : Never bcube_read.Post (room_of 4 1 2 & 0 & 3 & q lends array (0x03 ∷ []) & b lends_mut stale 9 & tt) (word (refused_at 9 1 1) 0)
  -- N as n to the power k + 1: 8 to 0 of (4,1,2) by byte 40
  pub read_in_the_full_room : Never bcube_read.Post (room_of 4 1 2 & 8 & 0 & q lends array (0x40 ∷ []) & b lends_mut stale 9 & tt) (word none 2)
  -- 29 at hop 2, earlier hop 1, 00 by 01 to 03 of (4,1): the earlier byte zero
  pub read_earlier_byte_zero : Never bcube_read.Post (room_of 4 1 4 & 0 & 3 & q lends switch_twice & b lends_mut stale 9 & tt) (word (refused_at 29 1 2) 0)
  -- its halves exchanged, so that the hop is told as a route
  pub read_earlier_halves_exchanged : Never bcube_read.Post (room_of 4 1 4 & 0 & 3 & q lends switch_twice & b lends_mut stale 9 & tt) (record { word = 16777216 * 16 + (65536 * 2 + (256 * 1 + 29)) })
  -- the byte of the hop and the byte of the earlier one exchanged
  pub read_hop_bytes_exchanged : Never bcube_read.Post (room_of 4 1 4 & 0 & 3 & q lends switch_twice & b lends_mut stale 9 & tt) (record { word = 16777216 * 2 + (65536 * 1 + (256 * 1 + 29)) })
  -- the earlier hop told as a value
  pub read_earlier_as_value : Never bcube_read.Post (room_of 4 1 4 & 0 & 3 & q lends switch_twice & b lends_mut stale 9 & tt) (word (refused_at 29 1 2) 1)
  -- the servers met before it counted beside it
  pub read_count_told_with_29 : Never bcube_read.Post (room_of 4 1 4 & 0 & 3 & q lends switch_twice & b lends_mut stale 9 & tt) (word (with_earlier 0 1 (refused_at 29 1 2)) 2)
  -- ---- bcube_write
  -- nine servers refused
  pub write_nine_refused : Never bcube_write.Post (room_of 4 1 4 & q lends 0 ∷ 1 ∷ 5 ∷ 6 ∷ 10 ∷ 11 ∷ 15 ∷ 12 ∷ 8 ∷ [] & b lends_mut stale 8 & tt) (word (plain 22) 0)
  -- the place one off: 23 at the third hop of 00, 01, 11, 00, 13
  pub write_place_one_off : Never bcube_write.Post (room_of 4 1 4 & q lends 0 ∷ 1 ∷ 5 ∷ 0 ∷ 7 ∷ [] & b lends_mut stale 8 & tt) (word (refused_at 23 1 2) 0)
  -- the position in the low bits of a byte: 00, 10, 13
  pub write_position_low : NeverLeaves bcube_write.Post (room_of 4 1 4 & q lends 0 ∷ 4 ∷ 7 ∷ [] & b lends_mut stale 8 & tt) third (array (0x05 ∷ 0x0c ∷ []))
  -- the buffer left as it was lent
  pub write_not_written : NeverLeaves bcube_write.Post (room_of 4 1 4 & q lends 0 ∷ 4 ∷ 7 ∷ [] & b lends_mut stale 8 & tt) third (stale 8)
  -- the buffer touched on refusal: the hops before the one that is refused
  pub write_touched : NeverLeaves bcube_write.Post (room_of 4 1 4 & q lends 0 ∷ 1 ∷ 5 ∷ 0 ∷ 7 ∷ [] & b lends_mut stale 8 & tt) third (0x01 ∷ 0x41 ∷ stale 6)
  -- N as n to the power k + 1: 0, 8, 11, 3 of (4,1,2)
  pub written_in_the_full_room : NeverLeaves bcube_write.Post (room_of 4 1 2 & q lends 0 ∷ 8 ∷ 11 ∷ 3 ∷ [] & b lends_mut stale 8 & tt) third (array (0x42 ∷ 0x03 ∷ 0x40 ∷ []))
  -- 29 at hop 2, earlier hop 1, 00, 01, 03 of (4,1): the earlier byte zero
  pub write_earlier_byte_zero : Never bcube_write.Post (room_of 4 1 4 & q lends 0 ∷ 1 ∷ 3 ∷ [] & b lends_mut stale 8 & tt) (word (refused_at 29 1 2) 0)
  -- its halves exchanged, so that the hop is told as a route
  pub write_earlier_halves_exchanged : Never bcube_write.Post (room_of 4 1 4 & q lends 0 ∷ 1 ∷ 3 ∷ [] & b lends_mut stale 8 & tt) (record { word = 16777216 * 16 + (65536 * 2 + (256 * 1 + 29)) })
  -- the byte of the hop and the byte of the earlier one exchanged
  pub write_hop_bytes_exchanged : Never bcube_write.Post (room_of 4 1 4 & q lends 0 ∷ 1 ∷ 3 ∷ [] & b lends_mut stale 8 & tt) (record { word = 16777216 * 2 + (65536 * 1 + (256 * 1 + 29)) })
  -- the earlier hop told as a value
  pub write_earlier_as_value : Never bcube_write.Post (room_of 4 1 4 & q lends 0 ∷ 1 ∷ 3 ∷ [] & b lends_mut stale 8 & tt) (word (refused_at 29 1 2) 1)
  -- ---- bcube_reverse
  -- read from the destination: c1, from 1011 of (8,3), changes nothing
  pub reverse_read_from_destination : Never bcube_reverse.Post (room_of 8 3 8 & 1 & 521 & q lends array (0xc1 ∷ 0x41 ∷ []) & b lends_mut stale 8 & tt) (word (refused_at 10 1 1) 0)
  -- the hops told in the value
  pub reverse_hops_told : Never bcube_reverse.Post (room_of 8 3 8 & 1 & 521 & q lends array (0xc1 ∷ 0x41 ∷ []) & b lends_mut stale 8 & tt) (word none 2)
  -- the identity
  pub reverse_is_identity : NeverLeaves bcube_reverse.Post (room_of 8 3 8 & 1 & 521 & q lends array (0xc1 ∷ 0x41 ∷ []) & b lends_mut stale 8 & tt) fifth (array (0xc1 ∷ 0x41 ∷ []))
  -- the bytes turned round, and not the servers
  pub reverse_bytes_turned_round : NeverLeaves bcube_reverse.Post (room_of 8 3 8 & 1 & 521 & q lends array (0xc1 ∷ 0x41 ∷ []) & b lends_mut stale 8 & tt) fifth (array (0x41 ∷ 0xc1 ∷ []))
  -- the buffer left as it was lent
  pub reverse_not_written : NeverLeaves bcube_reverse.Post (room_of 8 3 8 & 1 & 521 & q lends array (0xc1 ∷ 0x41 ∷ []) & b lends_mut stale 8 & tt) fifth (stale 8)
  -- the buffer touched on refusal 5
  pub reverse_touched : NeverLeaves bcube_reverse.Post (room_of 8 3 8 & 1 & 1 & q lends array (0xc1 ∷ 0x41 ∷ []) & b lends_mut stale 8 & tt) fifth (replicate 8 0)
  -- new values in place of the old ones, in a room that is not full: 3001 to 3011 of (8,3,4) by c0 41 c3
  pub reverse_bytes_turned_round_at_level_k : NeverLeaves bcube_reverse.Post (room_of 8 3 4 & 1537 & 1545 & q lends array (0xc0 ∷ 0x41 ∷ 0xc3 ∷ []) & b lends_mut stale 8 & tt) fifth (array (0xc3 ∷ 0x41 ∷ 0xc0 ∷ []))
  -- the trace not turned round: the old values, first hop first
  pub reverse_trace_not_turned_round : NeverLeaves bcube_reverse.Post (room_of 8 3 8 & 1 & 521 & q lends array (0xc1 ∷ 0x41 ∷ []) & b lends_mut stale 8 & tt) fifth (array (0xc0 ∷ 0x40 ∷ []))
  -- the byte of the last hop left out
  pub reverse_last_hop_left_out : NeverLeaves bcube_reverse.Post (room_of 8 3 8 & 1 & 521 & q lends array (0xc1 ∷ 0x41 ∷ []) & b lends_mut stale 8 & tt) fifth (array (0xc0 ∷ []))
  -- the byte of the first hop left out
  pub reverse_first_hop_left_out : NeverLeaves bcube_reverse.Post (room_of 8 3 8 & 1 & 521 & q lends array (0xc1 ∷ 0x41 ∷ []) & b lends_mut stale 8 & tt) fifth (array (0x40 ∷ []))
  -- the zeros before the bytes, and not after
  pub reverse_zeros_before : NeverLeaves bcube_reverse.Post (room_of 8 3 8 & 1 & 521 & q lends array (0xc1 ∷ 0x41 ∷ []) & b lends_mut stale 8 & tt) fifth (replicate 6 0 ++ (0x40 ∷ 0xc0 ∷ []))
  -- bytes past the way back left as they were lent
  pub reverse_zeros_forgotten : NeverLeaves bcube_reverse.Post (room_of 8 3 8 & 1 & 521 & q lends array (0xc1 ∷ 0x41 ∷ []) & b lends_mut stale 8 & tt) fifth (0x40 ∷ 0xc0 ∷ stale 6)
  -- a zero byte taken for the end: 01 to 10 of (4,1) by 00 41, and not arrived
  pub reverse_zero_byte_is_the_end : Never bcube_reverse.Post (room_of 4 1 4 & 1 & 4 & q lends array (0x00 ∷ 0x41 ∷ []) & b lends_mut stale 8 & tt) (word (refused_at 13 1 8) 0)
  -- the same, with the bytes of no hop
  pub reverse_nothing_before_a_zero_byte : NeverLeaves bcube_reverse.Post (room_of 4 1 4 & 1 & 4 & q lends array (0x00 ∷ 0x41 ∷ []) & b lends_mut stale 8 & tt) fifth (array [])
  -- a zero byte of the way back left out: 10 to 01 of (4,1) by 40 01, backwards 00 41
  pub reverse_zero_byte_left_out : NeverLeaves bcube_reverse.Post (room_of 4 1 4 & 4 & 1 & q lends array (0x40 ∷ 0x01 ∷ []) & b lends_mut stale 8 & tt) fifth (array (0x41 ∷ []))
  -- the way back cut to four bytes: eight hops from 00 to 20 of (4,1)
  pub reverse_way_back_cut : NeverLeaves bcube_reverse.Post (room_of 4 1 4 & 0 & 8 & q lends eight_hops & b lends_mut stale 8 & tt) fifth (array (0x43 ∷ 0x03 ∷ 0x42 ∷ 0x02 ∷ []))
  -- the buffer touched on refusal: the way back of the hops before it, 00 to 13 of (4,1) by 41 03 01
  pub reverse_way_back_on_refusal : NeverLeaves bcube_reverse.Post (room_of 4 1 4 & 0 & 7 & q lends array (0x41 ∷ 0x03 ∷ 0x01 ∷ []) & b lends_mut stale 8 & tt) fifth (array (0x00 ∷ 0x40 ∷ []))
  -- the bound of level k as n: 0 to 3 of (4,1,2) by 42 03 40
  pub reversed_by_value_m : NeverLeaves bcube_reverse.Post (room_of 4 1 2 & 0 & 3 & q lends array (0x42 ∷ 0x03 ∷ 0x40 ∷ []) & b lends_mut stale 8 & tt) fifth (array (0x42 ∷ 0x00 ∷ 0x40 ∷ []))
  -- the bound of level 0 as m: byte 03 refused
  pub reverse_by_value_3_refused : Never bcube_reverse.Post (room_of 4 1 2 & 0 & 3 & q lends array (0x03 ∷ []) & b lends_mut stale 8 & tt) (word (refused_at 9 1 1) 0)
  -- N as n to the power k + 1: 8 to 0 of (4,1,2) by byte 40
  pub reversed_in_the_full_room : NeverLeaves bcube_reverse.Post (room_of 4 1 2 & 8 & 0 & q lends array (0x40 ∷ []) & b lends_mut stale 8 & tt) fifth (array (0x42 ∷ []))
  -- 29 at hop 2, earlier hop 1, 00 by 01 to 03 of (4,1): the earlier byte zero
  pub reverse_earlier_byte_zero : Never bcube_reverse.Post (room_of 4 1 4 & 0 & 3 & q lends switch_twice & b lends_mut stale 8 & tt) (word (refused_at 29 1 2) 0)
  -- its halves exchanged, so that the hop is told as a route
  pub reverse_earlier_halves_exchanged : Never bcube_reverse.Post (room_of 4 1 4 & 0 & 3 & q lends switch_twice & b lends_mut stale 8 & tt) (record { word = 16777216 * 16 + (65536 * 2 + (256 * 1 + 29)) })
  -- the byte of the hop and the byte of the earlier one exchanged
  pub reverse_hop_bytes_exchanged : Never bcube_reverse.Post (room_of 4 1 4 & 0 & 3 & q lends switch_twice & b lends_mut stale 8 & tt) (record { word = 16777216 * 2 + (65536 * 1 + (256 * 1 + 29)) })
  -- the earlier hop told as a value
  pub reverse_earlier_as_value : Never bcube_reverse.Post (room_of 4 1 4 & 0 & 3 & q lends switch_twice & b lends_mut stale 8 & tt) (word (refused_at 29 1 2) 1)
  -- ---- bcube_check
  -- middle servers compared only: 00 to 03 of (4,1), the route 03 twice
  pub check_middle_servers_only : Never bcube_check.Post (room_of 4 1 4 & 0 & 3 & o lends healthy & q lends array (0x03 ∷ []) ++ array (0x03 ∷ []) & tt) (word none 0)
  -- 15 at the earlier of the pair, whatever else is told
  pub check_earlier_of_the_pair : NeverTells bcube_check.Post (room_of 4 1 4 & 0 & 3 & o lends healthy & q lends array (0x03 ∷ []) ++ array (0x03 ∷ []) & tt) (λ y. (refusal_in y).route) 1
  -- the receiver's link forgotten
  pub check_receiver_forgotten : Never bcube_check.Post (room_of 4 1 4 & 0 & 3 & o lends failing 3 1 & q lends array (0x03 ∷ []) & tt) (word none 0)
  -- N as n to the power k + 1: 0 to 7 of (4,1,2) with sixteen bytes of table
  pub check_full_table_accepted : Never bcube_check.Post (room_of 4 1 2 & 0 & 7 & o lends healthy & q lends direct ++ other & tt) (word none 0)
  -- its own eight bytes of table refused
  pub check_half_filled_table_refused : Never bcube_check.Post (room_of 4 1 2 & 0 & 7 & o lends replicate 8 0 & q lends direct ++ other & tt) (word (plain 6) 0)
  -- the bound of level k as n: 0 to 3 by 42 03 40
  pub check_value_m_accepted : Never bcube_check.Post (room_of 4 1 2 & 0 & 3 & o lends replicate 8 0 & q lends array (0x42 ∷ 0x03 ∷ 0x40 ∷ []) & tt) (word none 0)
  -- the bound of level 0 as m: byte 03 refused
  pub check_value_3_refused : Never bcube_check.Post (room_of 4 1 2 & 0 & 3 & o lends replicate 8 0 & q lends array (0x03 ∷ []) & tt) (word (refused_at 9 1 1) 0)
  -- 28 tested before 11: 00 by 01, 11, 12 and 02 to 01, where the level-0 link of 02 is failed
  pub check_server_again_before_link : Never bcube_check.Post (room_of 4 1 4 & 0 & 15 & o lends failing 2 1 & q lends round_to_server & tt) (word (with_earlier 0 1 (refused_at 28 1 5)) 0)
  -- hop 3 of route 2 with hop 2 of route 1, 00 by 10 to 13 and by 02 and 12 to 13 of (4,1): the earlier byte zero
  pub check_earlier_byte_zero : Never bcube_check.Post (room_of 4 1 4 & 0 & 7 & o lends healthy & q lends direct ++ array (0x02 ∷ 0x41 ∷ 0x03 ∷ []) & tt) (word (refused_at 15 2 3) 0)
  -- its halves exchanged
  pub check_earlier_halves_exchanged : Never bcube_check.Post (room_of 4 1 4 & 0 & 7 & o lends healthy & q lends direct ++ array (0x02 ∷ 0x41 ∷ 0x03 ∷ []) & tt) (record { word = 16777216 * 33 + (65536 * 3 + (256 * 2 + 15)) })
  -- ten times the route in place of sixteen times
  pub check_earlier_by_tens : Never bcube_check.Post (room_of 4 1 4 & 0 & 7 & o lends healthy & q lends direct ++ array (0x02 ∷ 0x41 ∷ 0x03 ∷ []) & tt) (record { word = 16777216 * 12 + (65536 * 3 + (256 * 2 + 15)) })
  -- the earlier route alone, or the earlier hop
  pub check_earlier_route_alone : Never bcube_check.Post (room_of 4 1 4 & 0 & 7 & o lends healthy & q lends direct ++ array (0x02 ∷ 0x41 ∷ 0x03 ∷ []) & tt) (word (with_earlier 1 0 (refused_at 15 2 3)) 0)
  pub check_earlier_hop_alone : Never bcube_check.Post (room_of 4 1 4 & 0 & 7 & o lends healthy & q lends direct ++ array (0x02 ∷ 0x41 ∷ 0x03 ∷ []) & tt) (word (with_earlier 0 2 (refused_at 15 2 3)) 0)
  -- the earlier route in a byte of its own, so that it reaches into the value
  pub check_earlier_in_two_bytes : Never bcube_check.Post (room_of 4 1 4 & 0 & 7 & o lends healthy & q lends direct ++ array (0x02 ∷ 0x41 ∷ 0x03 ∷ []) & tt) (record { word = 16777216 * 258 + (65536 * 3 + (256 * 2 + 15)) })
  -- both told as a value
  pub check_earlier_as_value : Never bcube_check.Post (room_of 4 1 4 & 0 & 7 & o lends healthy & q lends direct ++ array (0x02 ∷ 0x41 ∷ 0x03 ∷ []) & tt) (word (refused_at 15 2 3) 18)
  -- ---- bcube_build
  -- its room counted for routes: 00 to 13 of (4,1)
  pub build_room_counted : Never bcube_build.Post (room_of 4 1 4 & 0 & 7 & b lends_mut stale 32 & tt) (word none 4)
  -- no routes from a server to itself, and no refusal
  pub build_same_ends : Never bcube_build.Post (room_of 4 1 4 & 7 & 7 & b lends_mut stale 32 & tt) (word none 0)
  -- lower slots first
  pub build_lower_slots_first : NeverLeaves bcube_build.Post (room_of 4 1 4 & 0 & 7 & b lends_mut stale 32 & tt) fourth (filled 32 (joined (other ∷ direct ∷ [])))
  -- the buffer left as it was lent
  pub build_not_written : NeverLeaves bcube_build.Post (room_of 4 1 4 & 0 & 7 & b lends_mut stale 32 & tt) fourth (stale 32)
  -- bytes past the routes left as they were lent
  pub build_zeros_forgotten : NeverLeaves bcube_build.Post (room_of 4 1 4 & 0 & 7 & b lends_mut stale 32 & tt) fourth (joined (direct ∷ other ∷ stale 16 ∷ []))
  -- the buffer touched on refusal 5
  pub build_touched : NeverLeaves bcube_build.Post (room_of 4 1 4 & 7 & 7 & b lends_mut stale 32 & tt) fourth (replicate 32 0)
  -- the detour at level k taken mod n: 3001 to 3011 of (8,3,4), from 3 to 4
  pub build_detour_mod_n : NeverLeaves bcube_build.Post (room_of 8 3 4 & 1537 & 1545 & b lends_mut stale 32 & tt) fourth
      (filled 32 (joined (array (0xc4 ∷ 0x41 ∷ 0xc3 ∷ []) ∷ array (0x81 ∷ 0x41 ∷ 0x80 ∷ []) ∷ array (0x41 ∷ []) ∷ array (0x02 ∷ 0x41 ∷ 0x01 ∷ []) ∷ [])))
  -- the detour at level 0 taken mod m: 0003 to 0013 of (8,3,4), from 3 to 0
  pub build_detour_mod_m : NeverLeaves bcube_build.Post (room_of 8 3 4 & 3 & 11 & b lends_mut stale 32 & tt) fourth
      (filled 32 (joined (array (0xc1 ∷ 0x41 ∷ 0xc0 ∷ []) ∷ array (0x81 ∷ 0x41 ∷ 0x80 ∷ []) ∷ array (0x41 ∷ []) ∷ array (0x00 ∷ 0x41 ∷ 0x03 ∷ []) ∷ [])))
  -- N as n to the power k + 1: 8 to 0 of (4,1,2)
  pub build_in_the_full_room : Never bcube_build.Post (room_of 4 1 2 & 8 & 0 & b lends_mut stale 32 & tt) (word none 2)
  -- ---- bcube_find
  -- the hops made up: the servers of 41 03 counted, 00 to 13 of (4,1)
  pub find_servers_for_hops : Never bcube_find.Post (room_of 4 1 4 & 0 & 7 & o lends healthy & b lends_mut stale 8 & tt) (word none 3)
  -- an alternate that exists denied: 00 to 01 of (4,1), where the level-0 link of 00 is failed
  pub find_denied : Never bcube_find.Post (room_of 4 1 4 & 0 & 1 & o lends failing 0 1 & b lends_mut stale 8 & tt) (word none 0)
  -- the tie rule with the lower level first: 000 to 111 of (2,2)
  pub find_lower_level_first : NeverLeaves bcube_find.Post (room_of 2 2 2 & 0 & 7 & o lends tied & b lends_mut stale 8 & tt) fifth (array (0x01 ∷ 0x81 ∷ 0x41 ∷ []))
  -- the tie rule from the other end
  pub find_tie_from_the_other_end : NeverLeaves bcube_find.Post (room_of 2 2 2 & 0 & 7 & o lends tied & b lends_mut stale 8 & tt) fifth (array (0x41 ∷ 0x01 ∷ 0x81 ∷ []))
  -- the buffer left as it was lent
  pub find_not_written : NeverLeaves bcube_find.Post (room_of 2 2 2 & 0 & 7 & o lends tied & b lends_mut stale 8 & tt) fifth (stale 8)
  -- the buffer touched on refusal 5
  pub find_touched : NeverLeaves bcube_find.Post (room_of 2 2 2 & 7 & 7 & o lends tied & b lends_mut stale 8 & tt) fifth (replicate 8 0)
  -- a value from m to n - 1 tried at level k: 00 to 01 of (4,1,2), where only 42 01 40 of (4,1) is left
  pub find_value_m_tried : NeverLeaves bcube_find.Post (room_of 4 1 2 & 0 & 1 & o lends cut_off & b lends_mut stale 8 & tt) fifth (array (0x42 ∷ 0x01 ∷ 0x40 ∷ []))
  -- no value from m on tried at level 0: 00 to 03 of (4,1,2)
  pub find_value_3_not_tried : Never bcube_find.Post (room_of 4 1 2 & 0 & 3 & o lends replicate 8 0 & b lends_mut stale 8 & tt) (word none 0)
  -- N as n to the power k + 1: 8 to 0 of (4,1,2) with sixteen bytes of table
  pub find_in_the_full_room : Never bcube_find.Post (room_of 4 1 2 & 8 & 0 & o lends healthy & b lends_mut stale 8 & tt) (word none 1)
  -- the same of 0 to 1, servers of the room
  pub find_over_full_table : Never bcube_find.Post (room_of 4 1 2 & 0 & 1 & o lends healthy & b lends_mut stale 8 & tt) (word none 1)
  -- ---- bcube_select, 00 to 13 of (4,1) with server 03 dead, where not said otherwise: 41 03, then 01 42 03 41
  -- 16 since one route is broken
  pub select_sixteen_with_a_route : Never bcube_select.Post (room_of 4 1 4 & 0 & 7 & o lends failing 3 3 & b lends_mut stale 32 & tt) (word (plain 16) 0)
  -- an alternate that exists denied
  pub select_denied : Never bcube_select.Post (room_of 4 1 4 & 0 & 7 & o lends failing 3 3 & b lends_mut stale 32 & tt) (word none 1)
  -- lower slots first
  pub select_lower_slots_first : NeverLeaves bcube_select.Post (room_of 4 1 4 & 0 & 7 & o lends failing 3 3 & b lends_mut stale 32 & tt) fifth (filled 32 (joined (array (0x01 ∷ 0x42 ∷ 0x03 ∷ 0x41 ∷ []) ∷ direct ∷ [])))
  -- the buffer left as it was lent
  pub select_not_written : NeverLeaves bcube_select.Post (room_of 4 1 4 & 0 & 7 & o lends failing 3 3 & b lends_mut stale 32 & tt) fifth (stale 32)
  -- the buffer touched on refusal 16: 13 is dead
  pub select_touched : NeverLeaves bcube_select.Post (room_of 4 1 4 & 0 & 7 & o lends failing 7 3 & b lends_mut stale 32 & tt) fifth (replicate 32 0)
  -- the detour at level k taken mod n: 10 to 13 of (4,1,2), from 1 to 2
  pub select_detour_mod_n : NeverLeaves bcube_select.Post (room_of 4 1 2 & 4 & 7 & o lends replicate 8 0 & b lends_mut stale 32 & tt) fifth (filled 32 (joined (array (0x42 ∷ 0x03 ∷ 0x41 ∷ []) ∷ array (0x03 ∷ []) ∷ [])))
  -- a value from m to n - 1 tried at level k: 00 to 01 of (4,1,2), where only 42 01 40 of (4,1) is left
  pub select_value_m_tried : NeverLeaves bcube_select.Post (room_of 4 1 2 & 0 & 1 & o lends cut_off & b lends_mut stale 32 & tt) fifth (filled 32 (0x42 ∷ 0x01 ∷ 0x40 ∷ []))
  -- 16, since value 3 is not below m: 00 to 03 of (4,1,2)
  pub select_sixteen_for_value_3 : Never bcube_select.Post (room_of 4 1 2 & 0 & 3 & o lends replicate 8 0 & b lends_mut stale 32 & tt) (word (plain 16) 0)
  -- N as n to the power k + 1: 8 to 0 of (4,1,2) with sixteen bytes of table
  pub select_in_the_full_room : Never bcube_select.Post (room_of 4 1 2 & 8 & 0 & o lends healthy & b lends_mut stale 32 & tt) (word none 2)
  -- the same of 0 to 7, servers of the room
  pub select_over_full_table : Never bcube_select.Post (room_of 4 1 2 & 0 & 7 & o lends healthy & b lends_mut stale 32 & tt) (word none 2)
  -- ---- bcube_pick, 00 to 13 of (4,1) where not said otherwise
  -- kept before fresh
  pub pick_kept_before_fresh : Never bcube_pick.Post (room_of 4 1 4 & 0 & 7 & o lends healthy & q lends direct & b lends other & tt) (word none 513)
  -- list and place exchanged: the first of the kept list
  pub pick_list_and_place_exchanged : Never bcube_pick.Post (room_of 4 1 4 & 0 & 7 & o lends failing 3 3 & q lends other & b lends direct & tt) (word none 258)
  -- 16 tested before 7
  pub pick_sixteen_before_seven : Never bcube_pick.Post (room_of 4 1 4 & 0 & 7 & o lends healthy & q lends replicate 9 0 & b lends [] & tt) (word (plain 16) 0)
  -- the bound of level k as n: 0 to 3 of (4,1,2), 42 03 40 usable
  pub pick_value_m_usable : Never bcube_pick.Post (room_of 4 1 2 & 0 & 3 & o lends replicate 8 0 & q lends array (0x42 ∷ 0x03 ∷ 0x40 ∷ []) & b lends array (0x03 ∷ []) & tt) (word none 257)
  -- the bound of level 0 as m: 03 not usable
  pub pick_value_3_not_usable : Never bcube_pick.Post (room_of 4 1 2 & 0 & 3 & o lends replicate 8 0 & q lends array (0x03 ∷ []) & b lends [] & tt) (word (plain 16) 0)
  -- N as n to the power k + 1: a table of 16 bytes for (4,1,2)
  pub pick_over_full_table : Never bcube_pick.Post (room_of 4 1 2 & 0 & 7 & o lends healthy & q lends direct & b lends [] & tt) (word none 257)
  -- ---- bcube_step, a packet for 13 of (4,1) with the path bytes 41 03, where not said otherwise: from 00 it goes on to 10, by OutPort 7
  -- the index tested before arrival
  pub step_index_before_arrival : Never bcube_step.Post (room_of 4 1 4 & 7 & 7 & 8 & q lends direct & o lends neighbour 0x41 1 & tt) (record { word = 18; mac = 0 })
  -- a delivery told as nothing at all
  pub step_delivery_not_told : Never bcube_step.Post (room_of 4 1 4 & 7 & 7 & 0 & q lends direct & o lends neighbour 0x41 1 & tt) (record { word = 0; mac = 0 })
  -- the index not raised
  pub step_index_not_raised : Never bcube_step.Post (room_of 4 1 4 & 0 & 7 & 0 & q lends direct & o lends neighbour 0x41 1 & tt)
      (packed (record { refusal = none; delivered = false; next = 4; index = 0; mac = mac; port = 7; level = 1; old = 0 }))
  -- next server and OutPort exchanged
  pub step_server_and_port_exchanged : Never bcube_step.Post (room_of 4 1 4 & 0 & 7 & 0 & q lends direct & o lends neighbour 0x41 1 & tt)
      (packed (record { refusal = none; delivered = false; next = 7; index = 1; mac = mac; port = 4; level = 1; old = 0 }))
  -- the index cut to 32 bits
  pub step_index_cut : Never bcube_step.Post (room_of 4 1 4 & 0 & 7 & 4294967296 & q lends direct & o lends neighbour 0x41 1 & tt) (packed went)
  -- here cut to 32 bits
  pub step_here_cut : Never bcube_step.Post (room_of 4 1 4 & 4294967296 & 7 & 0 & q lends direct & o lends neighbour 0x41 1 & tt) (packed went)
  -- the MAC's bytes the other way round
  pub step_mac_turned_round : Never bcube_step.Post (room_of 4 1 4 & 0 & 7 & 0 & q lends direct & o lends neighbour 0x41 1 & tt)
      (packed (record { refusal = none; delivered = false; next = 4; index = 1; mac = 0x04 ∷ 0x00 ∷ 0x10 ∷ 0x5e ∷ 0x00 ∷ 0x02 ∷ []; port = 7; level = 1; old = 0 }))
  -- the MAC's two halves exchanged: the last two bytes above the first four
  pub step_mac_halves_exchanged : Never bcube_step.Post (room_of 4 1 4 & 0 & 7 & 0 & q lends direct & o lends neighbour 0x41 1 & tt)
      (packed (record { refusal = none; delivered = false; next = 4; index = 1; mac = 0x00 ∷ 0x04 ∷ 0x02 ∷ 0x00 ∷ 0x5e ∷ 0x10 ∷ []; port = 7; level = 1; old = 0 }))
  -- the MAC of a neighbour that is not available, beside the refusal
  pub step_mac_on_refusal : Never bcube_step.Post (room_of 4 1 4 & 0 & 7 & 0 & q lends direct & o lends neighbour 0x41 0 & tt)
      (packed (record { refusal = refused_at 19 1 1; delivered = false; next = 0; index = 0; mac = mac; port = 0; level = 0; old = 0 }))
  -- the MAC of the byte that the index names, at a delivery
  pub step_mac_at_delivery : Never bcube_step.Post (room_of 4 1 4 & 7 & 7 & 0 & q lends direct & o lends neighbour 0x41 1 & tt)
      (packed (record { refusal = none; delivered = true; next = 0; index = 0; mac = mac; port = 0; level = 0; old = 0 }))
  -- 9 not given at a value from m to n - 1: byte 42 from 00 of (4,1,2), whose flag is 1
  pub step_value_m_taken : Never bcube_step.Post (room_of 4 1 2 & 0 & 3 & 0 & q lends array (0x42 ∷ 0x03 ∷ 0x40 ∷ []) & o lends neighbour 0x42 1 & tt)
      (packed (record { refusal = none; delivered = false; next = 8; index = 1; mac = mac; port = 7; level = 1; old = 0 }))
  -- 4 for 9: server 8 is not below N
  pub step_four_for_nine : Never bcube_step.Post (room_of 4 1 2 & 0 & 3 & 0 & q lends array (0x42 ∷ 0x03 ∷ 0x40 ∷ []) & o lends neighbour 0x42 1 & tt) (record { word = 4; mac = 0 })
  -- the bound of level 0 as m: byte 03 from 00 of (4,1,2) refused
  pub step_value_3_refused : Never bcube_step.Post (room_of 4 1 2 & 0 & 3 & 0 & q lends array (0x03 ∷ []) & o lends neighbour 0x03 1 & tt)
      (packed (no_step (refused_at 9 1 1)))
  -- N as n to the power k + 1: at server 8 of (4,1,2)
  pub step_in_the_full_room : Never bcube_step.Post (room_of 4 1 2 & 8 & 3 & 0 & q lends array (0x40 ∷ 0x03 ∷ []) & o lends neighbour 0x40 1 & tt)
      (packed (record { refusal = none; delivered = false; next = 0; index = 1; mac = mac; port = 7; level = 1; old = 2 }))
  -- ---- the highest byte of the step's word, of a packet at 2567 of (8,3) for 1517 with the path bytes c4 41 c1, where not said
  -- otherwise: it goes on to 4567, and the path byte of the way back is c2
  -- the byte zero
  pub step_back_not_told : Never bcube_step.Post (room_of 8 3 8 & 1399 & 847 & 0 & q lends around & o lends neighbour 0xc4 1 & tt) (packed (left_with 0 0))
  -- the new value for the old, so that it is the path byte itself
  pub step_byte_itself : Never bcube_step.Post (room_of 8 3 8 & 1399 & 847 & 0 & q lends around & o lends neighbour 0xc4 1 & tt) (packed (left_with 3 4))
  -- the same in a room that is not full: at 3001 of (8,3,4) for 3011 by c0 41 c3, where the old value is 3
  pub step_new_value_at_level_k : Never bcube_step.Post (room_of 8 3 4 & 1537 & 1545 & 0 & q lends array (0xc0 ∷ 0x41 ∷ 0xc3 ∷ []) & o lends neighbour 0xc0 1 & tt)
      (packed (record { refusal = none; delivered = false; next = 1; index = 1; mac = mac; port = 7; level = 3; old = 0 }))
  -- the old value of the destination: the digit of 1517 at level 3
  pub step_old_of_the_destination : Never bcube_step.Post (room_of 8 3 8 & 1399 & 847 & 0 & q lends around & o lends neighbour 0xc4 1 & tt) (packed (left_with 3 1))
  -- level and old value exchanged
  pub step_level_and_old_exchanged : Never bcube_step.Post (room_of 8 3 8 & 1399 & 847 & 0 & q lends around & o lends neighbour 0xc4 1 & tt) (packed (left_with 2 3))
  -- the level not told
  pub step_level_not_told : Never bcube_step.Post (room_of 8 3 8 & 1399 & 847 & 0 & q lends around & o lends neighbour 0xc4 1 & tt) (packed (left_with 0 2))
  -- the old value not told
  pub step_old_not_told : Never bcube_step.Post (room_of 8 3 8 & 1399 & 847 & 0 & q lends around & o lends neighbour 0xc4 1 & tt) (packed (left_with 3 0))
  -- the level of the next byte
  pub step_level_of_the_next_byte : Never bcube_step.Post (room_of 8 3 8 & 1399 & 847 & 0 & q lends around & o lends neighbour 0xc4 1 & tt) (packed (left_with 1 2))
  -- the level told as the OutPort
  pub step_level_told_as_port : Never bcube_step.Post (room_of 8 3 8 & 1399 & 847 & 0 & q lends around & o lends neighbour 0xc4 1 & tt)
      (packed (record { refusal = none; delivered = false; next = 2423; index = 1; mac = mac; port = 3; level = 3; old = 2 }))
  -- OutPort and way back exchanged
  pub step_port_and_back_exchanged : Never bcube_step.Post (room_of 8 3 8 & 1399 & 847 & 0 & q lends around & o lends neighbour 0xc4 1 & tt)
      (record { word = 16777216 * 1 + 4294967296 * 2423 + 281474976710656 * 0xc2 + 72057594037927936 * 7; mac = mac_number mac })
  -- the byte that the index names told at a delivery
  pub step_byte_at_delivery : Never bcube_step.Post (room_of 8 3 8 & 847 & 847 & 0 & q lends around & o lends neighbour 0xc4 1 & tt) (packed (stood_with none true 3 4))
  -- its level told at a delivery
  pub step_level_at_delivery : Never bcube_step.Post (room_of 8 3 8 & 847 & 847 & 0 & q lends around & o lends neighbour 0xc4 1 & tt) (packed (stood_with none true 3 0))
  -- the digit there told as an old value at a delivery
  pub step_old_at_delivery : Never bcube_step.Post (room_of 8 3 8 & 847 & 847 & 0 & q lends around & o lends neighbour 0xc4 1 & tt) (packed (stood_with none true 0 1))
  -- the way back of the hop that led there told at a delivery, after three hops
  pub step_last_back_at_delivery : Never bcube_step.Post (room_of 8 3 8 & 847 & 847 & 3 & q lends around & o lends neighbour 0xc1 1 & tt) (packed (stood_with none true 3 4))
  -- the way back told with 19
  pub step_back_with_19 : Never bcube_step.Post (room_of 8 3 8 & 1399 & 847 & 0 & q lends around & o lends neighbour 0xc4 0 & tt) (packed (stood_with (refused_at 19 1 1) false 3 2))
  -- the way back of the last byte told with 18
  pub step_back_with_18 : Never bcube_step.Post (room_of 8 3 8 & 1399 & 847 & 8 & q lends replicate 8 0xc4 & o lends neighbour 0xc4 1 & tt) (packed (stood_with (plain 18) false 3 2))
  -- the way back told with 10: byte c2 changes nothing
  pub step_back_with_10 : Never bcube_step.Post (room_of 8 3 8 & 1399 & 847 & 0 & q lends array (0xc2 ∷ []) & o lends neighbour 0xc2 1 & tt) (packed (stood_with (refused_at 10 1 1) false 3 2))
  -- any way back told at a delivery, or on a refusal
  pub step_any_back_at_delivery : (c : Room) (a d i : ℕ) (bs es : List ℕ) (y : Stepped) → Bytes es → (unpacked y).delivered ≡ true → 72057594037927936 ≤ y.word → Never bcube_step.Post (c & a & d & i & q lends bs & o lends es & tt) y
  pub step_any_back_on_refusal : (c : Room) (a d i : ℕ) (bs es : List ℕ) (y : Stepped) → Bytes es → (unpacked y).refusal.number ≢ 0 → 72057594037927936 ≤ y.word → Never bcube_step.Post (c & a & d & i & q lends bs & o lends es & tt) y
  -- ---- bcube_parent, where of 10 in tree 0 of 00 in (4,1) the parent is 13
  -- the value in the low bytes of the word
  pub parent_value_low : Never bcube_parent.Post (room_of 4 1 4 & 0 & 0 & 4 & tt) (record { word = 7 })
  -- source, tree or server cut to 32 bits
  pub parent_source_cut : Never bcube_parent.Post (room_of 4 1 4 & 4294967296 & 0 & 4 & tt) (word none 7)
  pub parent_tree_cut : Never bcube_parent.Post (room_of 4 1 4 & 0 & 4294967296 & 4 & tt) (word none 7)
  pub parent_server_cut : Never bcube_parent.Post (room_of 4 1 4 & 0 & 0 & 4294967300 & tt) (word none 7)
  -- the refusal's number told as a value: 5
  pub parent_number_as_value : Never bcube_parent.Post (room_of 4 1 4 & 0 & 0 & 0 & tt) (word none 5)
  -- the level told with the parent: of 1010 in tree 3 of 0000 in (2,3), which hangs at level 1 from 1000
  pub parent_with_level : Never bcube_parent.Post (room_of 2 3 2 & 0 & 3 & 10 & tt) (word none (8 + 65536 * 1))
  -- the tree told as a route
  pub parent_tree_as_route : Never bcube_parent.Post (room_of 2 3 2 & 0 & 3 & 10 & tt) (word (refused_at 0 3 0) 8)
  -- ---- bcube_tree
  -- the value in the low bytes of the word: the 16 servers of (4,1)
  pub tree_value_low : Never bcube_tree.Post (room_of 4 1 4 & 0 & 0 & b lends_mut stale 4096 & tt) (record { word = 16 })
  -- source or tree cut to 32 bits
  pub tree_source_cut : Never bcube_tree.Post (room_of 4 1 4 & 4294967296 & 0 & b lends_mut stale 4096 & tt) (word none 16)
  pub tree_tree_cut : Never bcube_tree.Post (room_of 4 1 4 & 0 & 4294967296 & b lends_mut stale 4096 & tt) (word none 16)
  -- the refusal's number told as a value: 20
  pub tree_number_as_value : Never bcube_tree.Post (room_of 4 1 4 & 0 & 2 & b lends_mut stale 4096 & tt) (word none 20)
  -- each byte of a number in a place of its own: the second of 4,294,967,295, at server 1, which hangs from 0
  pub tree_in_bytes : NeverLeavesAt bcube_tree.Post (room_of 4 1 4 & 0 & 0 & b lends_mut stale 4096 & tt) fourth 1 255
  -- the bytes of a number the other way round: at 11, which hangs from 01
  pub tree_bytes_turned_round : NeverLeavesAt bcube_tree.Post (room_of 4 1 4 & 0 & 0 & b lends_mut stale 4096 & tt) fourth 5 16777216
