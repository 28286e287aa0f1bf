-- Wrong answers of the functions that serve the layers above them, wherever the table lies.
use Rattle.std.specs.Prelude.{ℕ, ◌+◌, ◌≢◌, replicate}
use Rattle.refusals.specs.declared.Reason.{Reason}
use Rattle.refusals.specs.declared.Refused.{Refused}
use Rattle.refusals.specs.Refusals.{plain, refused_at, with_earlier}
use Rattle.refusals.specs.Reasons.{number_of, refusal_of, told}
use Rattle.refusals.proofs.Refused.of_route.Reads as of-route
use Rattle.refusals.proofs.Refused.with_earlier.Reads as with-earlier
use Rattle.room.specs.declared.Side.{Side}
use Rattle.room.specs.Shapes.{shape_of, full_room}
use Rattle.room.proofs.power.Reads as power
use Rattle.room.proofs.server_count.Reads as server-count
use Rattle.room.proofs.digit_bound.Reads as digit_bound
use Rattle.room.proofs.pair_refusal.Reads as pair-refusal
use Rattle.room.proofs.side_of.Reads as side-of
use Rattle.room.proofs.side_at.Reads as side-at
use Rattle.links.proofs.mark.Reads as mark
use Rattle.links.proofs.clear.Reads as clear
use Rattle.links.proofs.room_refusal.Reads as room-refusal
use Rattle.path.proofs.level_of.Reads as level-of
use Rattle.path.proofs.value_of.Reads as value-of
use Rattle.wrong.specs.Never.{Never, NeverLeaves, Loan, ◌&◌, ◌lends◌, ◌lends_mut◌, NeverTells}
use Rattle.wrong.specs.Examples.{healthy, failing}

-- the refusal for this reason at hop h of route i, with hop g of route j as the earlier one
abbrev pub refused : Reason → ℕ → ℕ → ℕ → ℕ → Refused
refused r i h j g = record { reason = r; route = i; hop = h; earlier_route = j; earlier_hop = g }

abbrev pub a_side : ℕ → ℕ → ℕ → Side
a_side a p m = record { first = a; stride = p; count = m }

pub record Helpers (o : Loan) : Type 0 where
  -- ---- Refused::of_route
  -- the route that it had kept
  pub route_kept : (r : Reason) (i j h : ℕ) → i ≢ j → NeverTells of-route.Post (refused r i h 0 0 & j & tt) refusal_of (refused_at (number_of r) i h)
  -- another reason
  pub reason_changed : (y : Refused) (q : Reason) (i : ℕ) → y.reason ≢ q → NeverTells of-route.Post (y & i & tt) (λ z. z.reason) q
  -- the hop lost
  pub hop_lost : (r : Reason) (i j h : ℕ) → h ≢ 0 → NeverTells of-route.Post (refused r i h 0 0 & j & tt) refusal_of (refused_at (number_of r) j 0)
  -- the earlier hop lost, or the earlier route
  pub earlier_hop_lost : (r : Reason) (i h j g k : ℕ) → g ≢ 0 → NeverTells of-route.Post (refused r i h j g & k & tt) refusal_of (with_earlier j 0 (refused_at (number_of r) k h))
  pub earlier_route_lost : (r : Reason) (i h j g k : ℕ) → j ≢ 0 → NeverTells of-route.Post (refused r i h j g & k & tt) refusal_of (with_earlier 0 g (refused_at (number_of r) k h))
  -- the route given to the earlier hop too, or to it alone
  pub earlier_route_given : (r : Reason) (i h j g k : ℕ) → j ≢ k → NeverTells of-route.Post (refused r i h j g & k & tt) refusal_of (with_earlier k g (refused_at (number_of r) k h))
  pub earlier_route_alone_given : (r : Reason) (i h j g k : ℕ) → i ≢ k → NeverTells of-route.Post (refused r i h j g & k & tt) refusal_of (with_earlier k g (refused_at (number_of r) i h))
  -- ---- Refused::with_earlier
  -- nothing set
  pub earlier_route_not_set : (y : Refused) (i h : ℕ) → y.earlier_route ≢ i → NeverTells with-earlier.Post (y & i & h & tt) refusal_of (refusal_of y)
  pub earlier_hop_not_set : (y : Refused) (i h : ℕ) → y.earlier_hop ≢ h → NeverTells with-earlier.Post (y & i & h & tt) refusal_of (refusal_of y)
  -- route and hop exchanged
  pub earlier_exchanged : (y : Refused) (i h : ℕ) → i ≢ h → NeverTells with-earlier.Post (y & i & h & tt) refusal_of (with_earlier h i (refusal_of y))
  -- the hop counted from 0
  pub earlier_hop_from_0 : (y : Refused) (i h : ℕ) → NeverTells with-earlier.Post (y & i & h + 1 & tt) refusal_of (with_earlier i h (refusal_of y))
  -- the refusal's own route and hop set, or lost
  pub own_route_set : (y : Refused) (i h : ℕ) → y.route ≢ i → NeverTells with-earlier.Post (y & i & h & tt) refusal_of (refused_at (number_of y.reason) i h)
  pub own_hop_set : (y : Refused) (i h : ℕ) → y.hop ≢ h → NeverTells with-earlier.Post (y & i & h & tt) refusal_of (refused_at (number_of y.reason) i h)
  pub own_hop_lost : (y : Refused) (i h : ℕ) → y.hop ≢ 0 → NeverTells with-earlier.Post (y & i & h & tt) refusal_of (with_earlier i h (plain (number_of y.reason)))
  -- another reason
  pub own_reason_changed : (y : Refused) (q : Reason) (i h : ℕ) → y.reason ≢ q → NeverTells with-earlier.Post (y & i & h & tt) (λ z. z.reason) q
  -- the number lost
  pub own_number_lost : (y : Refused) (i h : ℕ) → NeverTells with-earlier.Post (y & i & h & tt) refusal_of (with_earlier i h (refused_at 0 y.route y.hop))
  -- ---- power
  -- base and level exchanged
  pub base_and_level_exchanged : Never power.Post (8 & 3 & tt) 6561
  -- a power of a level above 3
  pub level_4_taken : Never power.Post (2 & 4 & tt) 16
  -- ---- server_count
  -- n to the power k
  pub one_level_less : Never server-count.Post (full_room 8 3 & tt) 512
  -- a room of level 4 counted
  pub level_4_counted : Never server-count.Post (full_room 2 4 & tt) 32
  -- N as n to the power k + 1: (8,3,4)
  pub full_room_counted : Never server-count.Post (shape_of 8 3 4 & tt) 4096
  -- a room of m above n counted: (4,1,5)
  pub fill_above_n_counted : Never server-count.Post (shape_of 4 1 5 & tt) 20
  -- the largest m of 64 bits times 8 to the power 3, cut to 64 bits
  pub product_cut : Never server-count.Post (shape_of 8 3 18446744073709551615 & tt) 18446744073709551104
  -- ---- digit_bound
  -- k for n
  pub k_for_bound : Never digit_bound.Post (full_room 8 3 & 0 & tt) 3
  -- the largest digit for the bound
  pub largest_for_bound : Never digit_bound.Post (full_room 8 3 & 0 & tt) 7
  -- m at every level: level 0 of (8,3,4)
  pub m_at_level_0 : Never digit_bound.Post (shape_of 8 3 4 & 0 & tt) 4
  -- n at every level: level 3 of (8,3,4)
  pub n_at_level_k : Never digit_bound.Post (shape_of 8 3 4 & 3 & tt) 8
  -- ---- pair_refusal
  -- the second server not tested
  pub second_not_tested : NeverTells pair-refusal.Post (full_room 4 1 & 0 & 16 & tt) told 0
  -- a server twice refused
  pub same_server_refused : NeverTells pair-refusal.Post (full_room 4 1 & 7 & 7 & tt) told 5
  -- N as n to the power k + 1: 2048 of (8,3,4) taken
  pub second_of_the_full_room : NeverTells pair-refusal.Post (shape_of 8 3 4 & 0 & 2048 & tt) told 0
  -- ---- side_of, of 13 of (4,1) at level 1 where not said otherwise
  -- the server itself for the first
  pub server_for_first : Never side-of.Post (full_room 4 1 & 7 & 1 & tt) (a_side 7 4 4)
  -- the servers that differ in the other digit
  pub other_digit : Never side-of.Post (full_room 4 1 & 7 & 1 & tt) (a_side 4 1 4)
  -- n servers at a switch of level k: 0 of (8,3,4) at level 3
  pub n_servers_at_level_k : Never side-of.Post (shape_of 8 3 4 & 0 & 3 & tt) (a_side 0 512 8)
  -- m servers at a switch of level 0
  pub m_servers_at_level_0 : Never side-of.Post (shape_of 8 3 4 & 0 & 0 & tt) (a_side 0 1 4)
  -- weights to the base m
  pub stride_to_the_base_m : Never side-of.Post (shape_of 8 3 4 & 0 & 3 & tt) (a_side 0 64 4)
  -- ---- side_at
  -- the switch's number for its first server: switch 1 of level 0 in (4,1)
  pub number_for_first : Never side-at.Post (full_room 4 1 & 0 & 1 & tt) (a_side 1 1 4)
  -- the number taken for a server: switch 5 of level 0 in (4,2)
  pub number_for_server : Never side-at.Post (full_room 4 2 & 0 & 5 & tt) (a_side 4 1 4)
  -- the digits of the number not moved up: switch 5 of level 1 in (4,2)
  pub number_not_moved_up : Never side-at.Post (full_room 4 2 & 1 & 5 & tt) (a_side 5 4 4)
  -- level and number exchanged: switch 0 of level 1 in (4,1)
  pub level_and_number_exchanged : Never side-at.Post (full_room 4 1 & 1 & 0 & tt) (a_side 4 1 4)
  -- n servers at a switch of level k: switch 5 in (8,3,4)
  pub n_servers_by_number : Never side-at.Post (shape_of 8 3 4 & 3 & 5 & tt) (a_side 5 512 8)
  -- m servers at a switch of level 0
  pub m_servers_by_number : Never side-at.Post (shape_of 8 3 4 & 0 & 5 & tt) (a_side 40 1 4)
  -- weights to the base m
  pub stride_by_number_to_the_base_m : Never side-at.Post (shape_of 8 3 4 & 3 & 5 & tt) (a_side 5 64 4)
  -- a number that no room has
  pub number_4096_taken : Never side-at.Post (full_room 8 3 & 0 & 4096 & tt) (a_side 32768 1 8)
  -- ---- mark
  -- nothing marked
  pub marks_nothing : NeverLeaves mark.Post (o lends_mut failing 3 1 & 3 & 1 & tt) (λ x. x.0.now) (failing 3 1)
  -- marked again, the bit added again
  pub marked_twice : NeverLeaves mark.Post (o lends_mut failing 3 2 & 3 & 1 & tt) (λ x. x.0.now) (failing 3 4)
  -- ---- clear
  -- nothing cleared
  pub clears_nothing : NeverLeaves clear.Post (o lends_mut failing 3 3 & 3 & 0 & tt) (λ x. x.0.now) (failing 3 3)
  -- cleared again, the bit taken away again
  pub cleared_twice : NeverLeaves clear.Post (o lends_mut failing 3 2 & 3 & 0 & tt) (λ x. x.0.now) (failing 3 1)
  -- ---- room_refusal
  -- 6 not tested: a table of 15 bytes
  pub short_table_taken : NeverTells room-refusal.Post (full_room 4 1 & o lends replicate 15 0 & 0 & 3 & tt) told 0
  -- 6 tested before 5
  pub table_before_ends : NeverTells room-refusal.Post (full_room 4 1 & o lends replicate 15 0 & 3 & 3 & tt) told 6
  -- the bits of a table not tested
  pub bit_above_k_taken : NeverTells room-refusal.Post (full_room 4 1 & o lends failing 3 4 & 0 & 3 & tt) told 0
  -- a good room refused
  pub good_room_refused : NeverTells room-refusal.Post (full_room 4 1 & o lends healthy & 0 & 3 & tt) told 6
  -- N as n to the power k + 1: a table of 16 bytes for (4,1,2) taken
  pub full_table_taken : NeverTells room-refusal.Post (shape_of 4 1 2 & o lends healthy & 0 & 3 & tt) told 0
  -- its own table of 8 bytes refused
  pub half_filled_table_refused : NeverTells room-refusal.Post (shape_of 4 1 2 & o lends replicate 8 0 & 0 & 3 & tt) told 6
  -- ---- level_of
  -- the low bits
  pub level_in_low_bits : Never level-of.Post (0x42 & tt) 0x02
  -- the high bits not moved down
  pub level_not_moved : Never level-of.Post (0xc1 & tt) 0xc0
  -- ---- value_of
  -- the high bits
  pub value_in_high_bits : Never value-of.Post (0xc1 & tt) 0x03
  -- the whole byte
  pub byte_for_value : Never value-of.Post (0x41 & tt) 0x41
