-- Wrong answers of `path`, wherever the table and the list or array lie.
use Rattle.std.specs.Prelude.{ℕ, ◌<◌, ◌≡◌, ◌≢◌, Ok, Err, List, [], ◌∷◌, ◌++◌, length, get_or, replicate}
use Rattle.lists.specs.Lists.{filled}
use Rattle.refusals.specs.declared.Reason.TheVariants.{Value}
use Rattle.refusals.specs.Refusals.{Refusal, plain, refused_at, with_earlier}
use Rattle.refusals.specs.Reasons.{told}
use Rattle.room.specs.declared.Shape.{Shape}
use Rattle.room.specs.Shapes.{shape_of, full_room}
use Rattle.room.specs.Addresses.{digit}
use Rattle.room.specs.Refusals.{server_refusal}
use Rattle.room.specs.Answers.{no_number, a_number}
use Rattle.room.proofs.ends_refusal.Reads as ends-refusal
use Rattle.path.specs.Told.{Hop}
use Rattle.path.specs.Routes.{level_of, value_of}
use Rattle.path.specs.Bytes.{no_parts, some_parts}
use Rattle.path.specs.Walks.{arrived, hop_to, hop_refusal}
use Rattle.path.specs.Answers.{no_hop, a_hop, no_walk, walked, reading, no_writing, a_writing}
use Rattle.path.proofs.byte_of.Reads as byte_of
use Rattle.path.proofs.parts_of.Reads as parts_of
use Rattle.path.proofs.hop_of.Reads as hop_of
use Rattle.path.proofs.place_in.Reads as place-in
use Rattle.path.proofs.walk.Reads as walk
use Rattle.path.proofs.read_path.Reads as read_path
use Rattle.path.proofs.write_path.Reads as write_path
use Rattle.path.proofs.reverse_path.Reads as reverse_path
use Rattle.wrong.specs.Never.{Never, NeverTells, Loan, ◌&◌, ◌lends◌}
use Rattle.wrong.specs.Examples.{array, healthy, failing, eight_hops, switch_twice, round_to_source, round_to_server, switch_later}
use Rattle.wrong.specs.Told.{number_told, parts_told, hop_told, walk_told, reading_told, writing_told}

-- a refused hop that tells a next server, a level and an old value
abbrev pub refused_hop : Refusal → ℕ → ℕ → ℕ → Hop
refused_hop r a l v = record { refusal = r; next = a; level = l; old = v }

pub record Path (o q : Loan) : Type 0 where
  -- ---- byte_of
  -- the position in the low bits of the byte: value 2 at level 1
  pub made_in_low_bits : NeverTells byte_of.Post (full_room 4 1 & 1 & 2 & tt) number_told (a_number 0x09)
  -- the value not bounded, so that it reaches into the position: value 64 at level 0
  pub value_not_bounded : NeverTells byte_of.Post (full_room 64 1 & 0 & 64 & tt) number_told (a_number 0x40)
  -- level k + 1 taken
  pub level_above_k : NeverTells byte_of.Post (full_room 4 1 & 2 & 0 & tt) number_told (a_number 0x80)
  -- 21 tested before 20: value 4 at level 2
  pub value_before_level : NeverTells byte_of.Post (full_room 4 1 & 2 & 4 & tt) number_told (no_number 21)
  -- the bound of level k as n: value 4 at level 3 of (8,3,4)
  pub value_m_at_level_k : NeverTells byte_of.Post (shape_of 8 3 4 & 3 & 4 & tt) number_told (a_number 0xc4)
  -- the bound of level 0 as m: value 5 refused
  pub value_5_at_level_0_refused : NeverTells byte_of.Post (shape_of 8 3 4 & 0 & 5 & tt) number_told (no_number 21)
  -- ---- parts_of
  -- the position in the low bits of the byte: byte 42
  pub parts_in_low_bits : NeverTells parts_of.Post (full_room 4 3 & 0x42 & tt) parts_told (some_parts 2 16)
  -- level and value exchanged
  pub parts_exchanged : NeverTells parts_of.Post (full_room 4 3 & 0x42 & tt) parts_told (some_parts 2 1)
  -- level and value exchanged in the result itself
  pub parts_fields_exchanged : Never parts_of.Post (full_room 4 3 & 0x42 & tt) (Ok (record { level = 2; value = 1 }))
  -- a number above 255 cut to a byte
  pub number_cut : NeverTells parts_of.Post (full_room 4 1 & 0x142 & tt) parts_told (some_parts 1 2)
  -- 9 tested before 8: byte 84 in (4,1), whose level and value are both too high
  pub parts_value_before_position : NeverTells parts_of.Post (full_room 4 1 & 0x84 & tt) parts_told (no_parts (refused_at 9 1 1))
  -- 8 with no place
  pub parts_no_place : NeverTells parts_of.Post (full_room 4 1 & 0x80 & tt) parts_told (no_parts (plain 8))
  -- the bound of level k as n: byte c4 in (8,3,4)
  pub parts_value_m_at_level_k : NeverTells parts_of.Post (shape_of 8 3 4 & 0xc4 & tt) parts_told (some_parts 3 4)
  -- the bound of level 0 as m: byte 05 refused
  pub parts_value_5_refused : NeverTells parts_of.Post (shape_of 8 3 4 & 0x05 & tt) parts_told (no_parts (refused_at 9 1 1))
  -- ---- hop_of, from 2567 of (8,3) by byte c4, where not said otherwise: it leads to 4567, at level 3, and its old value is 2
  -- the position in the low bits of the byte, the value in the high ones: byte 01 from 10 of (4,1), whatever else is told
  pub position_in_low_bits : (l v : ℕ) → NeverTells hop_of.Post (full_room 4 1 & 4 & 0x01 & tt) hop_told (a_hop 0 l v)
  -- the server hopped from told as the next
  pub hop_stays : NeverTells hop_of.Post (full_room 8 3 & 1399 & 0xc4 & tt) hop_told (a_hop 1399 3 2)
  -- the new value told as the old
  pub new_value_told : NeverTells hop_of.Post (full_room 8 3 & 1399 & 0xc4 & tt) hop_told (a_hop 2423 3 4)
  -- the same at level k of a room that is not full: from 3777 of (8,3,4) by byte c0
  pub new_value_told_at_level_k : NeverTells hop_of.Post (shape_of 8 3 4 & 2047 & 0xc0 & tt) hop_told (a_hop 511 3 0)
  -- the same of any hop that is made
  pub any_new_value_told : (s : Shape) (a b : ℕ) → server_refusal s a ≡ 0 → hop_refusal s a b ≡ 0 → NeverTells hop_of.Post (s & a & b & tt) (λ y. (hop_told y).old) (value_of b)
  -- the old value of the destination: the digit, at the hop's level, of the server where any hop leads
  pub any_digit_of_the_next_told : (s : Shape) (a b : ℕ) → server_refusal s a ≡ 0 → hop_refusal s a b ≡ 0 → NeverTells hop_of.Post (s & a & b & tt) (λ y. (hop_told y).old) (digit s (level_of b) (hop_to s a b))
  -- level and old value exchanged in the result itself
  pub hop_fields_exchanged : Never hop_of.Post (full_room 8 3 & 1399 & 0xc4 & tt) (Ok (record { next = 2423; level = 2; old = 3 }))
  -- the reason of 9 in the result itself, for that of 8
  pub value_for_position : Never hop_of.Post (full_room 4 1 & 0 & 0x80 & tt) (Err (record { reason = Value; route = 1; hop = 1; earlier_route = 0; earlier_hop = 0 }))
  -- level and old value exchanged
  pub hop_level_and_old_exchanged : NeverTells hop_of.Post (full_room 8 3 & 1399 & 0xc4 & tt) hop_told (a_hop 2423 2 3)
  -- the level counted from 1
  pub hop_level_from_1 : NeverTells hop_of.Post (full_room 8 3 & 1399 & 0xc4 & tt) hop_told (a_hop 2423 4 2)
  -- the level one too low
  pub hop_level_below : NeverTells hop_of.Post (full_room 8 3 & 1399 & 0xc4 & tt) hop_told (a_hop 2423 2 2)
  -- the old value of the level below
  pub old_at_the_level_below : NeverTells hop_of.Post (full_room 8 3 & 1399 & 0xc4 & tt) hop_told (a_hop 2423 3 5)
  -- the old value from the other end: digit 0
  pub old_from_the_other_end : NeverTells hop_of.Post (full_room 8 3 & 1399 & 0xc4 & tt) hop_told (a_hop 2423 3 7)
  -- the old value to the base m: from 3001 of (8,3,4) by byte c1
  pub old_to_the_base_m : NeverTells hop_of.Post (shape_of 8 3 4 & 1537 & 0xc1 & tt) hop_told (a_hop 513 3 0)
  -- the bound of level 0 as m: the old value 7 taken mod 4, from 0007 of (8,3,4) by byte 00
  pub old_mod_m_at_level_0 : NeverTells hop_of.Post (shape_of 8 3 4 & 7 & 0x00 & tt) hop_told (a_hop 0 0 3)
  -- a zero byte taken for no hop: from 1 of (2,0)
  pub zero_byte_is_no_hop : NeverTells hop_of.Post (full_room 2 0 & 1 & 0x00 & tt) hop_told (no_hop (refused_at 10 1 1))
  -- nothing left behind by a zero byte
  pub zero_byte_leaves_nothing : NeverTells hop_of.Post (full_room 2 0 & 1 & 0x00 & tt) hop_told (a_hop 0 0 0)
  -- 9 for 8: byte 80 in (4,1)
  pub nine_for_eight : NeverTells hop_of.Post (full_room 4 1 & 0 & 0x80 & tt) hop_told (no_hop (refused_at 9 1 1))
  -- 8 for 9: byte 08 in (8,3)
  pub eight_for_nine : NeverTells hop_of.Post (full_room 8 3 & 0 & 0x08 & tt) hop_told (no_hop (refused_at 8 1 1))
  -- 9 tested before 8: byte 84 in (4,1), whose level and value are both too high
  pub value_before_position : NeverTells hop_of.Post (full_room 4 1 & 0 & 0x84 & tt) hop_told (no_hop (refused_at 9 1 1))
  -- 8 tested before 4: byte 80 from server 16 of (4,1)
  pub position_before_address : NeverTells hop_of.Post (full_room 4 1 & 16 & 0x80 & tt) hop_told (no_hop (refused_at 8 1 1))
  -- the bound of level k as n: byte c4 from 0 of (8,3,4)
  pub hop_to_value_m : NeverTells hop_of.Post (shape_of 8 3 4 & 0 & 0xc4 & tt) hop_told (a_hop 2048 3 0)
  -- 4 for 9: the server that it would come to is not below N
  pub four_for_nine : NeverTells hop_of.Post (shape_of 8 3 4 & 0 & 0xc4 & tt) hop_told (no_hop (plain 4))
  -- the bound of level 0 as m: byte 05 refused
  pub hop_to_value_5_refused : NeverTells hop_of.Post (shape_of 8 3 4 & 0 & 0x05 & tt) hop_told (no_hop (refused_at 9 1 1))
  -- N as n to the power k + 1: from server 8 of (4,1,2) by byte 40
  pub hop_in_the_full_room : NeverTells hop_of.Post (shape_of 4 1 2 & 8 & 0x40 & tt) hop_told (a_hop 0 1 2)
  -- a number above 255 cut to its low byte: 142 from 00 of (4,1)
  pub hop_number_cut : NeverTells hop_of.Post (full_room 4 1 & 0 & 0x142 & tt) hop_told (a_hop 8 1 0)
  -- the same of 100, from 1 of (2,0)
  pub hop_256_is_zero : NeverTells hop_of.Post (full_room 2 0 & 1 & 0x100 & tt) hop_told (a_hop 0 0 1)
  -- 9 for 8 by the low byte of a number above 255: 104 in (4,1)
  pub nine_by_the_low_byte : NeverTells hop_of.Post (full_room 4 1 & 0 & 0x104 & tt) hop_told (no_hop (refused_at 9 1 1))
  -- 8 with no place: byte 80 in (4,1)
  pub eight_with_no_place : NeverTells hop_of.Post (full_room 4 1 & 0 & 0x80 & tt) hop_told (no_hop (plain 8))
  -- 9 with no place: byte c4 from 3777 of (8,3,4)
  pub nine_with_no_place : NeverTells hop_of.Post (shape_of 8 3 4 & 2047 & 0xc4 & tt) hop_told (no_hop (plain 9))
  -- 10 with no place: byte 41 from 13 of (4,1)
  pub ten_with_no_place : NeverTells hop_of.Post (full_room 4 1 & 7 & 0x41 & tt) hop_told (no_hop (plain 10))
  -- 8 at route 0
  pub eight_at_route_0 : NeverTells hop_of.Post (full_room 4 1 & 0 & 0x80 & tt) hop_told (no_hop (refused_at 8 0 1))
  -- 9 at hop 2
  pub nine_at_hop_2 : NeverTells hop_of.Post (shape_of 8 3 4 & 2047 & 0xc4 & tt) hop_told (no_hop (refused_at 9 1 2))
  -- 10 at hop 0
  pub ten_at_hop_0 : NeverTells hop_of.Post (full_room 4 1 & 7 & 0x41 & tt) hop_told (no_hop (refused_at 10 1 0))
  -- 4 with a place: server 16 of (4,1)
  pub four_with_a_place : NeverTells hop_of.Post (full_room 4 1 & 16 & 0x41 & tt) hop_told (no_hop (refused_at 4 1 1))
  -- the level told with 8
  pub level_told_with_8 : NeverTells hop_of.Post (full_room 4 1 & 0 & 0x80 & tt) hop_told (refused_hop (refused_at 8 1 1) 0 2 0)
  -- the server that it would come to told with 9
  pub next_told_with_9 : NeverTells hop_of.Post (shape_of 8 3 4 & 2047 & 0xc4 & tt) hop_told (refused_hop (refused_at 9 1 1) 2559 0 0)
  -- the old value told with 9
  pub old_told_with_9 : NeverTells hop_of.Post (shape_of 8 3 4 & 2047 & 0xc4 & tt) hop_told (refused_hop (refused_at 9 1 1) 0 0 3)
  -- the server told with 10
  pub next_told_with_10 : NeverTells hop_of.Post (full_room 4 1 & 7 & 0x41 & tt) hop_told (refused_hop (refused_at 10 1 1) 7 0 0)
  -- the level told with 10
  pub level_told_with_10 : NeverTells hop_of.Post (full_room 4 1 & 7 & 0x41 & tt) hop_told (refused_hop (refused_at 10 1 1) 0 1 0)
  -- the old value, which is the new one, told with 10
  pub old_told_with_10 : NeverTells hop_of.Post (full_room 4 1 & 7 & 0x41 & tt) hop_told (refused_hop (refused_at 10 1 1) 0 0 1)
  -- the level told with 4
  pub level_told_with_4 : NeverTells hop_of.Post (full_room 4 1 & 16 & 0x41 & tt) hop_told (refused_hop (plain 4) 0 1 0)
  -- any next server, level or old value told on a refusal
  pub any_next_on_refusal : (s : Shape) (a b : ℕ) (y : Hop) → y.refusal.number ≢ 0 → y.next ≢ 0 → NeverTells hop_of.Post (s & a & b & tt) hop_told y
  pub any_level_on_refusal : (s : Shape) (a b : ℕ) (y : Hop) → y.refusal.number ≢ 0 → y.level ≢ 0 → NeverTells hop_of.Post (s & a & b & tt) hop_told y
  pub any_old_on_refusal : (s : Shape) (a b : ℕ) (y : Hop) → y.refusal.number ≢ 0 → y.old ≢ 0 → NeverTells hop_of.Post (s & a & b & tt) hop_told y
  -- ---- place_in
  -- the last not looked at
  pub last_not_looked_at : Never place-in.Post (q lends 0 ∷ 4 ∷ 7 ∷ [] & 7 & tt) 3
  -- the first not looked at
  pub first_not_looked_at : Never place-in.Post (q lends 0 ∷ 4 ∷ 7 ∷ [] & 0 & tt) 3
  -- counted from 1
  pub place_from_1 : Never place-in.Post (q lends 0 ∷ 4 ∷ 7 ∷ [] & 4 & tt) 2
  -- the last of two places
  pub last_of_two_places : Never place-in.Post (q lends 4 ∷ 7 ∷ 4 ∷ [] & 4 & tt) 2
  -- what is not there told at place 0
  pub missing_at_0 : Never place-in.Post (q lends 4 ∷ 7 ∷ [] & 0 & tt) 0
  -- one place more than the list has
  pub past_the_end : Never place-in.Post (q lends 4 ∷ 7 ∷ [] & 0 & tt) 3
  -- of any list: a place where something else stands, one after another that has it, one past the length
  pub any_place_of_another : (xs : List ℕ) (x p : ℕ) → p < length xs → get_or xs p 0 ≢ x → Never place-in.Post (q lends xs & x & tt) p
  pub any_later_place : (xs : List ℕ) (x i p : ℕ) → i < length xs → get_or xs i 0 ≡ x → i < p → Never place-in.Post (q lends xs & x & tt) p
  pub any_place_past_the_length : (xs : List ℕ) (x p : ℕ) → length xs < p → Never place-in.Post (q lends xs & x & tt) p
  -- ---- ends_refusal
  -- a server taken for its own destination
  pub same_ends_taken : NeverTells ends-refusal.Post (full_room 4 1 & 7 & 7 & tt) told 0
  -- the destination not tested
  pub destination_not_tested : NeverTells ends-refusal.Post (full_room 4 1 & 0 & 16 & tt) told 0
  -- 5 tested before 4: 16 to 16 in (4,1)
  pub same_ends_before_address : NeverTells ends-refusal.Post (full_room 4 1 & 16 & 16 & tt) told 5
  -- N as n to the power k + 1: 0 to 8 of (4,1,2)
  pub ends_in_the_full_room : NeverTells ends-refusal.Post (shape_of 4 1 2 & 0 & 8 & tt) told 0
  -- ---- walk
  -- the hops counted in the result itself, for the servers
  pub walked_hops_counted : Never walk.Post (full_room 4 1 & o lends healthy & 0 & 3 & q lends array (0x03 ∷ []) & tt) (Ok (record { count = 1; servers = filled 9 (0 ∷ 3 ∷ []); switches = filled 8 (0 ∷ []) }))
  -- the receiver's link forgotten: 00 to 03 of (4,1) by byte 03, where the level-0 link of 03 is failed
  pub receiver_forgotten : NeverTells walk.Post (full_room 4 1 & o lends failing 3 1 & 0 & 3 & q lends array (0x03 ∷ []) & tt) walk_told (walked (arrived (0 ∷ 3 ∷ []) (0 ∷ [])))
  -- a zero byte taken for the end: 1 to 0 of (2,0), eight zero bytes, and not arrived
  pub zero_byte_is_the_end : NeverTells walk.Post (full_room 2 0 & o lends 0 ∷ 0 ∷ [] & 1 & 0 & q lends array [] & tt) walk_told (no_walk (refused_at 13 1 8))
  -- 28 for 13, whatever earlier hop is told: eight hops from 00 of (4,1) that do not come to 02
  pub server_again_for_thirteen : (g : ℕ) → NeverTells walk.Post (full_room 4 1 & o lends healthy & 0 & 2 & q lends eight_hops & tt) walk_told (no_walk (with_earlier 0 g (refused_at 28 1 8)))
  -- 29 for 13
  pub switch_again_for_thirteen : (g : ℕ) → NeverTells walk.Post (full_room 4 1 & o lends healthy & 0 & 2 & q lends eight_hops & tt) walk_told (no_walk (with_earlier 0 g (refused_at 29 1 8)))
  -- 28 tested before 11: 00 by 01, 11, 12 and 02 to 01 of (4,1), where the level-0 link of 02 is failed
  pub server_again_before_link : NeverTells walk.Post (full_room 4 1 & o lends failing 2 1 & 0 & 15 & q lends round_to_server & tt) walk_told (no_walk (with_earlier 0 1 (refused_at 28 1 5)))
  -- 29 tested before 11: the same to 03
  pub switch_again_before_link : NeverTells walk.Post (full_room 4 1 & o lends failing 2 1 & 0 & 15 & q lends switch_later & tt) walk_told (no_walk (with_earlier 0 1 (refused_at 29 1 5)))
  -- the earlier hop told with 11
  pub earlier_hop_told_with_11 : NeverTells walk.Post (full_room 4 1 & o lends failing 2 1 & 0 & 15 & q lends round_to_server & tt) walk_told (no_walk (with_earlier 0 1 (refused_at 11 1 5)))
  -- the servers met before the refusal told with it: 00 by 01 to 03 of (4,1), over the switch of hop 1
  pub servers_told_with_29 : NeverTells walk.Post (full_room 4 1 & o lends healthy & 0 & 3 & q lends switch_twice & tt) walk_told (record { refusal = with_earlier 0 1 (refused_at 29 1 2); count = 2; servers = filled 9 (0 ∷ 1 ∷ []); switches = replicate 8 0 })
  -- the switches used before it
  pub switches_told_with_28 : NeverTells walk.Post (full_room 4 1 & o lends healthy & 0 & 3 & q lends round_to_source & tt) walk_told (record { refusal = refused_at 28 1 4; count = 0; servers = replicate 9 0; switches = filled 8 (0 ∷ 4097 ∷ 1 ∷ []) })
  -- the bound of level k as n: 0 to 3 of (4,1,2) by 42 03 40, which meets 8 and 11
  pub walk_by_value_m : NeverTells walk.Post (shape_of 4 1 2 & o lends replicate 8 0 & 0 & 3 & q lends array (0x42 ∷ 0x03 ∷ 0x40 ∷ []) & tt) walk_told (walked (arrived (0 ∷ 8 ∷ 11 ∷ 3 ∷ []) (4096 ∷ 2 ∷ 4099 ∷ [])))
  -- the bound of level 0 as m: byte 03 refused
  pub walk_by_value_3_refused : NeverTells walk.Post (shape_of 4 1 2 & o lends replicate 8 0 & 0 & 3 & q lends array (0x03 ∷ []) & tt) walk_told (no_walk (refused_at 9 1 1))
  -- N as n to the power k + 1: 8 to 0 of (4,1,2) by byte 40
  pub walk_in_the_full_room : NeverTells walk.Post (shape_of 4 1 2 & o lends healthy & 8 & 0 & q lends array (0x40 ∷ []) & tt) walk_told (walked (arrived (8 ∷ 0 ∷ []) (4096 ∷ [])))
  -- ---- read_path
  -- the same of the servers alone
  pub read_hops_counted : Never read_path.Post (full_room 4 1 & 0 & 3 & q lends array (0x03 ∷ []) & tt) (Ok (record { count = 1; servers = filled 9 (0 ∷ 3 ∷ []) }))
  -- middle servers compared only: 00 to 03 of (4,1) by 01 03, two hops over one switch
  pub switch_used_twice : NeverTells read_path.Post (full_room 4 1 & 0 & 3 & q lends array (0x01 ∷ 0x03 ∷ []) & tt) reading_told (reading (walked (arrived (0 ∷ 1 ∷ 3 ∷ []) [])))
  -- the servers met before the refusal told with it
  pub read_servers_told_with_29 : NeverTells read_path.Post (full_room 4 1 & 0 & 3 & q lends switch_twice & tt) reading_told (record { refusal = with_earlier 0 1 (refused_at 29 1 2); count = 2; servers = filled 9 (0 ∷ 1 ∷ []) })
  -- bytes after arrival go by: 00 to 03 of (4,1) by 03 00 01
  pub after_arrival_goes_by : NeverTells read_path.Post (full_room 4 1 & 0 & 3 & q lends array (0x03 ∷ 0x00 ∷ 0x01 ∷ []) & tt) reading_told (reading (walked (arrived (0 ∷ 3 ∷ []) [])))
  -- 14 with its place one off: counted from 0
  pub after_arrival_one_off : NeverTells read_path.Post (full_room 4 1 & 0 & 3 & q lends array (0x03 ∷ 0x00 ∷ 0x01 ∷ []) & tt) reading_told (reading (no_walk (refused_at 14 1 2)))
  -- 13 with its place one off: after the eighth hop
  pub not_arrived_one_off : NeverTells read_path.Post (full_room 4 1 & 0 & 2 & q lends eight_hops & tt) reading_told (reading (no_walk (refused_at 13 1 9)))
  -- the destination left out: 1 to 521 of (8,3) by c1 41
  pub destination_left_out : NeverTells read_path.Post (full_room 8 3 & 1 & 521 & q lends array (0xc1 ∷ 0x41 ∷ []) & tt) reading_told (reading (walked (arrived (1 ∷ 513 ∷ []) [])))
  -- the bound of level k as n: 0 to 3 of (4,1,2) by 42 03 40, which meets 8 and 11
  pub read_by_value_m : NeverTells read_path.Post (shape_of 4 1 2 & 0 & 3 & q lends array (0x42 ∷ 0x03 ∷ 0x40 ∷ []) & tt) reading_told (reading (walked (arrived (0 ∷ 8 ∷ 11 ∷ 3 ∷ []) [])))
  -- 4 for 9: server 8 is not below N
  pub read_four_for_nine : NeverTells read_path.Post (shape_of 4 1 2 & 0 & 3 & q lends array (0x42 ∷ 0x03 ∷ 0x40 ∷ []) & tt) reading_told (reading (no_walk (plain 4)))
  -- the bound of level 0 as m: byte 03 refused
  pub read_by_value_3_refused : NeverTells read_path.Post (shape_of 4 1 2 & 0 & 3 & q lends array (0x03 ∷ []) & tt) reading_told (reading (no_walk (refused_at 9 1 1)))
  -- N as n to the power k + 1: 8 to 0 of (4,1,2) by byte 40
  pub read_in_the_full_room : NeverTells read_path.Post (shape_of 4 1 2 & 8 & 0 & q lends array (0x40 ∷ []) & tt) reading_told (reading (walked (arrived (8 ∷ 0 ∷ []) [])))
  -- ---- write_path
  -- the position in the low bits of the byte: 00, 10, 13 of (4,1)
  pub written_in_low_bits : NeverTells write_path.Post (full_room 4 1 & q lends 0 ∷ 4 ∷ 7 ∷ [] & tt) writing_told (a_writing (array (0x05 ∷ 0x0c ∷ [])))
  -- the digit of the server that a hop leaves
  pub digit_left_behind : NeverTells write_path.Post (full_room 4 1 & q lends 0 ∷ 4 ∷ 7 ∷ [] & tt) writing_told (a_writing (array (0x40 ∷ 0x00 ∷ [])))
  -- 28 tested before 23, whatever earlier hop is told: the third hop of 00, 01, 11, 00, 13, to no neighbour and back to the source
  pub repeats_before_neighbours : (g : ℕ) → NeverTells write_path.Post (full_room 4 1 & q lends 0 ∷ 1 ∷ 5 ∷ 0 ∷ 7 ∷ [] & tt) writing_told (no_writing (with_earlier 0 g (refused_at 28 1 3)))
  -- the bytes before the refusal told with it: 00, 01, 03 of (4,1), over one switch
  pub bytes_told_with_29 : NeverTells write_path.Post (full_room 4 1 & q lends 0 ∷ 1 ∷ 3 ∷ [] & tt) writing_told (record { refusal = with_earlier 0 1 (refused_at 29 1 2); bytes = array (0x01 ∷ []) })
  -- 5 tested before 22: one server, which is both ends
  pub same_ends_before_count : NeverTells write_path.Post (full_room 4 1 & q lends 5 ∷ [] & tt) writing_told (no_writing (plain 5))
  -- N as n to the power k + 1: 0, 8, 11, 3 of (4,1,2)
  pub written_in_the_full_room : NeverTells write_path.Post (shape_of 4 1 2 & q lends 0 ∷ 8 ∷ 11 ∷ 3 ∷ [] & tt) writing_told (a_writing (array (0x42 ∷ 0x03 ∷ 0x40 ∷ [])))
  -- digits to the base m: 0 and 2 of (4,1,2), neighbours at level 0
  pub written_to_the_base_m : NeverTells write_path.Post (shape_of 4 1 2 & q lends 0 ∷ 2 ∷ [] & tt) writing_told (a_writing (array (0x41 ∷ [])))
  -- ---- reverse_path, of c1 41, 1 to 521 of (8,3), where not said otherwise: 40 c0
  -- the identity
  pub reversal_is_identity : NeverTells reverse_path.Post (full_room 8 3 & 1 & 521 & q lends array (0xc1 ∷ 0x41 ∷ []) & tt) writing_told (a_writing (array (0xc1 ∷ 0x41 ∷ [])))
  -- the bytes turned round, and not the servers: new values in place of the old ones
  pub bytes_turned_round : NeverTells reverse_path.Post (full_room 8 3 & 1 & 521 & q lends array (0xc1 ∷ 0x41 ∷ []) & tt) writing_told (a_writing (array (0x41 ∷ 0xc1 ∷ [])))
  -- the same in a room that is not full: 3001 to 3011 of (8,3,4) by c0 41 c3
  pub bytes_turned_round_at_level_k : NeverTells reverse_path.Post (shape_of 8 3 4 & 1537 & 1545 & q lends array (0xc0 ∷ 0x41 ∷ 0xc3 ∷ []) & tt) writing_told (a_writing (array (0xc3 ∷ 0x41 ∷ 0xc0 ∷ [])))
  -- the trace not turned round: the old values, first hop first
  pub trace_not_turned_round : NeverTells reverse_path.Post (full_room 8 3 & 1 & 521 & q lends array (0xc1 ∷ 0x41 ∷ []) & tt) writing_told (a_writing (array (0xc0 ∷ 0x40 ∷ [])))
  -- the same in a room that is not full
  pub trace_not_turned_round_at_level_k : NeverTells reverse_path.Post (shape_of 8 3 4 & 1537 & 1545 & q lends array (0xc0 ∷ 0x41 ∷ 0xc3 ∷ []) & tt) writing_told (a_writing (array (0xc3 ∷ 0x40 ∷ 0xc0 ∷ [])))
  -- levels and old values exchanged
  pub reversed_levels_and_values_exchanged : NeverTells reverse_path.Post (full_room 8 3 & 1 & 521 & q lends array (0xc1 ∷ 0x41 ∷ []) & tt) writing_told (a_writing (array (0x01 ∷ 0x03 ∷ [])))
  -- the byte of the last hop left out
  pub last_hop_left_out : NeverTells reverse_path.Post (full_room 8 3 & 1 & 521 & q lends array (0xc1 ∷ 0x41 ∷ []) & tt) writing_told (a_writing (array (0xc0 ∷ [])))
  -- the byte of the first hop left out
  pub first_hop_left_out : NeverTells reverse_path.Post (full_room 8 3 & 1 & 521 & q lends array (0xc1 ∷ 0x41 ∷ []) & tt) writing_told (a_writing (array (0x40 ∷ [])))
  -- the zeros before the bytes, and not after
  pub zeros_before : NeverTells reverse_path.Post (full_room 8 3 & 1 & 521 & q lends array (0xc1 ∷ 0x41 ∷ []) & tt) writing_told (a_writing (replicate 6 0 ++ (0x40 ∷ 0xc0 ∷ [])))
  -- a zero byte taken for the end: 01 to 10 of (4,1) by 00 41, and not arrived
  pub reversal_zero_byte_is_the_end : NeverTells reverse_path.Post (full_room 4 1 & 1 & 4 & q lends array (0x00 ∷ 0x41 ∷ []) & tt) writing_told (no_writing (refused_at 13 1 8))
  -- the same, with the bytes of no hop
  pub nothing_before_a_zero_byte : NeverTells reverse_path.Post (full_room 4 1 & 1 & 4 & q lends array (0x00 ∷ 0x41 ∷ []) & tt) writing_told (a_writing (array []))
  -- a zero byte of the way back left out: 10 to 01 of (4,1) by 40 01, backwards 00 41
  pub zero_byte_left_out : NeverTells reverse_path.Post (full_room 4 1 & 4 & 1 & q lends array (0x40 ∷ 0x01 ∷ []) & tt) writing_told (a_writing (array (0x41 ∷ [])))
  -- the way back cut to four bytes: eight hops from 00 to 20 of (4,1)
  pub way_back_cut : NeverTells reverse_path.Post (full_room 4 1 & 0 & 8 & q lends eight_hops & tt) writing_told (a_writing (array (0x43 ∷ 0x03 ∷ 0x42 ∷ 0x02 ∷ [])))
  -- the way back of the hops before the refusal told with it: 00 to 13 of (4,1) by 41 03 01
  pub way_back_on_refusal : NeverTells reverse_path.Post (full_room 4 1 & 0 & 7 & q lends array (0x41 ∷ 0x03 ∷ 0x01 ∷ []) & tt) writing_told (record { refusal = refused_at 14 1 3; bytes = array (0x00 ∷ 0x40 ∷ []) })
  -- the same with 28: 00 by 01, 11 and 10 to 00 of (4,1)
  pub way_back_told_with_28 : NeverTells reverse_path.Post (full_room 4 1 & 0 & 3 & q lends round_to_source & tt) writing_told (record { refusal = refused_at 28 1 4; bytes = array (0x01 ∷ 0x40 ∷ 0x00 ∷ []) })
  -- the bound of level k as n: 0 to 3 of (4,1,2) by 42 03 40
  pub reversed_by_value_m : NeverTells reverse_path.Post (shape_of 4 1 2 & 0 & 3 & q lends array (0x42 ∷ 0x03 ∷ 0x40 ∷ []) & tt) writing_told (a_writing (array (0x42 ∷ 0x00 ∷ 0x40 ∷ [])))
  -- the bound of level 0 as m: byte 03 refused
  pub reversal_by_value_3_refused : NeverTells reverse_path.Post (shape_of 4 1 2 & 0 & 3 & q lends array (0x03 ∷ []) & tt) writing_told (no_writing (refused_at 9 1 1))
  -- N as n to the power k + 1: 8 to 0 of (4,1,2) by byte 40
  pub reversed_in_the_full_room : NeverTells reverse_path.Post (shape_of 4 1 2 & 8 & 0 & q lends array (0x40 ∷ []) & tt) writing_told (a_writing (array (0x42 ∷ [])))
