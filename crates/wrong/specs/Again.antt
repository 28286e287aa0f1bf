-- A server or a switch that comes on a route again, wrongly told, in every call that reads or writes a route, wherever the buffers lie.
use Rattle.std.specs.Prelude.{ℕ, ◌≤◌, ◌≡◌, ◌≢◌, List, [], ◌∷◌}
use Rattle.refusals.specs.Refusals.{Refusal, none, refused_at, with_earlier, earlier_route, earlier_hop}
use Rattle.refusals.specs.Reasons.{told_where}
use Rattle.room.specs.declared.Shape.{Shape}
use Rattle.room.specs.Shapes.{shape_of, full_room}
use Rattle.path.proofs.walk.Reads as walk_reads
use Rattle.path.proofs.read_path.Reads as read_path_reads
use Rattle.path.proofs.reverse_path.Reads as reverse_path_reads
use Rattle.path.proofs.write_path.Reads as write_path_reads
use Rattle.verdict.proofs.check_list.Reads as check_list_reads
use Rattle.laying.proofs.lay_route.Reads as lay_route_reads
use Rattle.pick.proofs.pick_place.Reads as pick_place_reads
use Rattle.pick.proofs.pick_refusal.Reads as pick_refusal_reads
use Rattle.step.proofs.step_once.Reads as step_once_reads
use Rattle.driver.specs.declared.Room.{Room}
use Rattle.driver.specs.Rooms.{room_of}
use Rattle.driver.specs.Words.{refusal_in}
use Rattle.driver.specs.Packed.{Bytes, unpacked}
use Rattle.driver.proofs.bcube_read.Reads as bcube_read_reads
use Rattle.driver.proofs.bcube_write.Reads as bcube_write_reads
use Rattle.driver.proofs.bcube_reverse.Reads as bcube_reverse_reads
use Rattle.driver.proofs.bcube_check.Reads as bcube_check_reads
use Rattle.driver.proofs.bcube_pick.Reads as bcube_pick_reads
use Rattle.driver.proofs.bcube_step.Reads as bcube_step_reads
use Rattle.wrong.specs.Never.{NeverLeaves, NeverTells, NeverSo, Loan, second, third, fifth, ◌&◌, ◌lends◌, ◌lends_mut◌}
use Rattle.wrong.specs.Examples.{none_failed, switch_twice, straight_back, round_to_source, round_to_server, switch_later, eight_round, stale}
use Rattle.wrong.specs.Told.{walk_told, reading_told, writing_told, place_told, step_told, refusal_told}

-- refusal r at hop h of route 1, with hop g as the earlier one
abbrev pub with_hop : ℕ → ℕ → ℕ → Refusal
with_hop r h g = with_earlier 0 g (refused_at r 1 h)

-- a room as C holds it
abbrev pub room_for : Shape → Room
room_for s = room_of s.n s.k s.m

-- ---- of a call that reads a route from server 0: `asked` are its arguments by room, destination and path bytes, `told` the refusal in
-- what it answers

pub record Misread {K A R X : Type 0} (post : K → A → R → X → Type 0) (asked : Shape → ℕ → List ℕ → A) (told : R → Refusal) : Type 0 where
  -- 00 by 01 to 03 of (4,1), over the switch of hop 1: 29 at hop 2, earlier hop 1
  -- hop 0 for the switch: switches counted from 0, as servers are
  pub switch_by_hop_0 : NeverTells post (asked (full_room 4 1) 3 switch_twice) told (with_hop 29 2 0)
  -- the hop after the one that used it
  pub switch_by_the_next_hop : NeverTells post (asked (full_room 4 1) 3 switch_twice) told (with_hop 29 2 2)
  -- 28 for a switch
  pub server_for_switch : NeverTells post (asked (full_room 4 1) 3 switch_twice) told (with_hop 28 2 1)
  -- route 1 told beside the earlier hop, though it is the same
  pub earlier_route_1 : NeverTells post (asked (full_room 4 1) 3 switch_twice) told (with_earlier 1 1 (refused_at 29 1 2))
  -- the earlier hop told as an earlier route
  pub earlier_hop_as_route : NeverTells post (asked (full_room 4 1) 3 switch_twice) told (with_earlier 1 0 (refused_at 29 1 2))
  -- arrival noticed before 29
  pub arrival_before_switch : NeverTells post (asked (full_room 4 1) 3 switch_twice) told none
  -- 00 by 01 back to 00 at once, over the same switch: 28 at hop 2, earlier hop 0
  -- 29 tested before 28
  pub switch_before_server : NeverTells post (asked (full_room 4 1) 3 straight_back) told (with_hop 29 2 1)
  -- 28 with the hop that used the switch
  pub server_by_the_switch : NeverTells post (asked (full_room 4 1) 3 straight_back) told (with_hop 28 2 1)
  -- 00 by 01, 11 and 10 to 00, over a new switch: 28 at hop 4, earlier hop 0
  -- the source counted as hop 1
  pub source_is_hop_1 : NeverTells post (asked (full_room 4 1) 3 round_to_source) told (with_hop 28 4 1)
  -- the source not among the servers met: the walk goes on, and its fifth byte changes nothing
  pub source_not_met : NeverTells post (asked (full_room 4 1) 3 round_to_source) told (refused_at 10 1 5)
  -- 29 for a server, whatever earlier hop is told
  pub switch_for_server : (g : ℕ) → NeverTells post (asked (full_room 4 1) 3 round_to_source) told (with_hop 29 4 g)
  -- 00 by 01, 11, 12 and 02 to 01: 28 at hop 5, earlier hop 1
  -- the later hop told as the earlier, and the earlier as the later
  pub hops_exchanged : NeverTells post (asked (full_room 4 1) 15 round_to_server) told (with_hop 28 1 5)
  -- the hop that left the server
  pub server_by_the_hop_that_left : NeverTells post (asked (full_room 4 1) 15 round_to_server) told (with_hop 28 5 2)
  -- the hop that reached it counted from 0
  pub server_by_hop_0 : NeverTells post (asked (full_room 4 1) 15 round_to_server) told (with_hop 28 5 0)
  -- the later hop counted from 0
  pub later_hop_from_0 : NeverTells post (asked (full_room 4 1) 15 round_to_server) told (with_hop 28 4 1)
  -- 00 by 01, 11, 12 and 02 to 03, over the switch of hop 1: 29 at hop 5, earlier hop 1
  -- 28 for a switch
  pub server_for_a_later_switch : NeverTells post (asked (full_room 4 1) 15 switch_later) told (with_hop 28 5 1)
  -- hop 0 for the switch
  pub later_switch_by_hop_0 : NeverTells post (asked (full_room 4 1) 15 switch_later) told (with_hop 29 5 0)
  -- how many hops ago
  pub hops_ago : NeverTells post (asked (full_room 4 1) 15 switch_later) told (with_hop 29 5 4)
  -- eight hops, the last of them to 00 over a new switch, for 02: 28 at hop 8, earlier hop 0
  -- 13 tested before 28
  pub thirteen_before_server : NeverTells post (asked (full_room 4 1) 2 eight_round) told (refused_at 13 1 8)
  -- the same routes in the (4,1,2) room
  pub half_filled_switch_by_hop_0 : NeverTells post (asked (shape_of 4 1 2) 7 switch_later) told (with_hop 29 5 0)
  pub half_filled_switch_before_server : NeverTells post (asked (shape_of 4 1 2) 3 straight_back) told (with_hop 29 2 1)
  pub half_filled_source_is_hop_1 : NeverTells post (asked (shape_of 4 1 2) 3 round_to_source) told (with_hop 28 4 1)
  pub half_filled_hop_that_left : NeverTells post (asked (shape_of 4 1 2) 7 round_to_server) told (with_hop 28 5 2)

-- ---- of a call that writes a route: `asked` are its arguments by room and servers

pub record Miswritten {K A R X : Type 0} (post : K → A → R → X → Type 0) (asked : Shape → List ℕ → A) (told : R → Refusal) : Type 0 where
  -- 00, 01, 03 of (4,1): 29 at hop 2, earlier hop 1
  pub switch_by_hop_0 : NeverTells post (asked (full_room 4 1) (0 ∷ 1 ∷ 3 ∷ [])) told (with_hop 29 2 0)
  pub switch_by_the_next_hop : NeverTells post (asked (full_room 4 1) (0 ∷ 1 ∷ 3 ∷ [])) told (with_hop 29 2 2)
  pub server_for_switch : NeverTells post (asked (full_room 4 1) (0 ∷ 1 ∷ 3 ∷ [])) told (with_hop 28 2 1)
  pub earlier_route_1 : NeverTells post (asked (full_room 4 1) (0 ∷ 1 ∷ 3 ∷ [])) told (with_earlier 1 1 (refused_at 29 1 2))
  pub earlier_hop_as_route : NeverTells post (asked (full_room 4 1) (0 ∷ 1 ∷ 3 ∷ [])) told (with_earlier 1 0 (refused_at 29 1 2))
  pub switch_twice_written : NeverTells post (asked (full_room 4 1) (0 ∷ 1 ∷ 3 ∷ [])) told none
  -- 00, 01, 00, 03: 28 at hop 2, earlier hop 0
  -- 29 tested before 28
  pub switch_before_server : NeverTells post (asked (full_room 4 1) (0 ∷ 1 ∷ 0 ∷ 3 ∷ [])) told (with_hop 29 2 1)
  pub server_by_the_switch : NeverTells post (asked (full_room 4 1) (0 ∷ 1 ∷ 0 ∷ 3 ∷ [])) told (with_hop 28 2 1)
  -- 00, 01, 11, 10, 00, 03: 28 at hop 4, earlier hop 0
  -- the first server counted as hop 1
  pub source_is_hop_1 : NeverTells post (asked (full_room 4 1) (0 ∷ 1 ∷ 5 ∷ 4 ∷ 0 ∷ 3 ∷ [])) told (with_hop 28 4 1)
  -- both counted so
  pub servers_for_hops : NeverTells post (asked (full_room 4 1) (0 ∷ 1 ∷ 5 ∷ 4 ∷ 0 ∷ 3 ∷ [])) told (with_hop 28 5 1)
  -- the first server not among those met: 29 at hop 5, over the switch of hop 1
  pub source_not_met : NeverTells post (asked (full_room 4 1) (0 ∷ 1 ∷ 5 ∷ 4 ∷ 0 ∷ 3 ∷ [])) told (with_hop 29 5 1)
  -- 29 for a server
  pub switch_for_server : (g : ℕ) → NeverTells post (asked (full_room 4 1) (0 ∷ 1 ∷ 5 ∷ 4 ∷ 0 ∷ 3 ∷ [])) told (with_hop 29 4 g)
  -- 00, 01, 11, 12, 02, 01, 21: 28 at hop 5, earlier hop 1
  pub hops_exchanged : NeverTells post (asked (full_room 4 1) (0 ∷ 1 ∷ 5 ∷ 6 ∷ 2 ∷ 1 ∷ 9 ∷ [])) told (with_hop 28 1 5)
  pub server_by_the_hop_that_left : NeverTells post (asked (full_room 4 1) (0 ∷ 1 ∷ 5 ∷ 6 ∷ 2 ∷ 1 ∷ 9 ∷ [])) told (with_hop 28 5 2)
  -- 00, 01, 11, 12, 02, 03, 13: 29 at hop 5, earlier hop 1
  pub server_for_a_later_switch : NeverTells post (asked (full_room 4 1) (0 ∷ 1 ∷ 5 ∷ 6 ∷ 2 ∷ 3 ∷ 7 ∷ [])) told (with_hop 28 5 1)
  pub later_switch_by_hop_0 : NeverTells post (asked (full_room 4 1) (0 ∷ 1 ∷ 5 ∷ 6 ∷ 2 ∷ 3 ∷ 7 ∷ [])) told (with_hop 29 5 0)
  -- 00, 01, 11, 10, 00: 5
  -- 28 tested before 5
  pub server_before_same_ends : NeverTells post (asked (full_room 4 1) (0 ∷ 1 ∷ 5 ∷ 4 ∷ 0 ∷ [])) told (with_hop 28 4 0)
  -- 00, 01, 11, 00, 13: 23 at hop 3, where 00 is no neighbour of 11
  -- 28 tested before 23
  pub server_before_neighbours : NeverTells post (asked (full_room 4 1) (0 ∷ 1 ∷ 5 ∷ 0 ∷ 7 ∷ [])) told (with_hop 28 3 0)
  -- 00, 01, 00, 13: 28 at hop 2, and hop 3 leads to no neighbour
  -- 23 tested of every hop before 28
  pub neighbours_of_all_first : NeverTells post (asked (full_room 4 1) (0 ∷ 1 ∷ 0 ∷ 7 ∷ [])) told (refused_at 23 1 3)
  -- the same in the (4,1,2) room
  pub half_filled_switch_by_hop_0 : NeverTells post (asked (shape_of 4 1 2) (0 ∷ 1 ∷ 3 ∷ [])) told (with_hop 29 2 0)
  pub half_filled_switch_before_server : NeverTells post (asked (shape_of 4 1 2) (0 ∷ 1 ∷ 0 ∷ 3 ∷ [])) told (with_hop 29 2 1)
  pub half_filled_source_is_hop_1 : NeverTells post (asked (shape_of 4 1 2) (0 ∷ 1 ∷ 5 ∷ 4 ∷ 0 ∷ 3 ∷ [])) told (with_hop 28 4 1)

-- ---- of a call with any arguments

pub record Misnamed {K A R X : Type 0} (post : K → A → R → X → Type 0) (a : A) (told : R → Refusal) : Type 0 where
  -- 12, whose number is retired
  pub retired_number : NeverTells post a (λ r. (told r).number) 12
  -- an earlier route, which no refusal of one route has
  pub earlier-route : NeverSo post a (λ r. earlier_route (told r) ≢ 0)
  -- an earlier hop beside a number other than 28 and 29
  pub earlier_hop_of_another : NeverSo post a (λ r. ((told r).number ≢ 28) × ((told r).number ≢ 29) × (earlier_hop (told r) ≢ 0))
  -- 29 with the source as the earlier hop
  pub switch_by_the_source : NeverSo post a (λ r. ((told r).number ≡ 29) × (earlier_hop (told r) ≡ 0))
  -- an earlier hop that is not before the hop
  pub server_not_before : NeverSo post a (λ r. ((told r).number ≡ 28) × ((told r).hop ≤ earlier_hop (told r)))
  pub switch_not_before : NeverSo post a (λ r. ((told r).number ≡ 29) × ((told r).hop ≤ earlier_hop (told r)))

-- of a call that names nothing earlier
pub record Overtold {K A R X : Type 0} (post : K → A → R → X → Type 0) (a : A) (told : R → Refusal) : Type 0 where
  -- 12, which is retired, 15, 28 or 29, which picking and a step never give
  pub retired_number : NeverTells post a (λ r. (told r).number) 12
  pub meeting : NeverTells post a (λ r. (told r).number) 15
  pub server_again : NeverTells post a (λ r. (told r).number) 28
  pub switch_again : NeverTells post a (λ r. (told r).number) 29
  -- an earlier route or hop
  pub earlier-route : NeverSo post a (λ r. earlier_route (told r) ≢ 0)
  pub earlier-hop : NeverSo post a (λ r. earlier_hop (told r) ≢ 0)

-- ---- each call

pub record Again (o q b : Loan) : Type 0 where
  -- from Rattle
  pub walk : Misread walk_reads.Post (λ s d bs. s & o lends [] & 0 & d & q lends bs & tt) (λ y. (walk_told y).refusal)
  pub read_path : Misread read_path_reads.Post (λ s d bs. s & 0 & d & q lends bs & tt) (λ y. (reading_told y).refusal)
  pub reverse_path : Misread reverse_path_reads.Post (λ s d bs. s & 0 & d & q lends bs & tt) (λ y. (writing_told y).refusal)
  pub lay_route : Misread lay_route_reads.Post (λ s d bs. s & o lends_mut none_failed s & 0 & d & q lends bs & tt) told_where
  pub check_list : Misread check_list_reads.Post (λ s d bs. s & o lends none_failed s & 0 & d & q lends bs & tt) told_where
  pub write_path : Miswritten write_path_reads.Post (λ s vs. s & q lends vs & tt) (λ y. (writing_told y).refusal)
  -- from C
  pub bcube_read : Misread bcube_read_reads.Post (λ s d bs. room_for s & 0 & d & q lends bs & b lends_mut stale 9 & tt) refusal_in
  pub bcube_reverse : Misread bcube_reverse_reads.Post (λ s d bs. room_for s & 0 & d & q lends bs & b lends_mut stale 8 & tt) refusal_in
  pub bcube_check : Misread bcube_check_reads.Post (λ s d bs. room_for s & 0 & d & o lends none_failed s & q lends bs & tt) refusal_in
  pub bcube_write : Miswritten bcube_write_reads.Post (λ s vs. room_for s & q lends vs & b lends_mut stale 8 & tt) refusal_in
  -- with any arguments, from Rattle
  pub any_walk : (s : Shape) (t : List ℕ) (a d : ℕ) (bs : List ℕ) → Misnamed walk_reads.Post (s & o lends t & a & d & q lends bs & tt) (λ y. (walk_told y).refusal)
  pub any_read_path : (s : Shape) (a d : ℕ) (bs : List ℕ) → Misnamed read_path_reads.Post (s & a & d & q lends bs & tt) (λ y. (reading_told y).refusal)
  pub any_reverse_path : (s : Shape) (a d : ℕ) (bs : List ℕ) → Misnamed reverse_path_reads.Post (s & a & d & q lends bs & tt) (λ y. (writing_told y).refusal)
  pub any_lay_route : (s : Shape) (t : List ℕ) (a d : ℕ) (bs : List ℕ) → Misnamed lay_route_reads.Post (s & o lends_mut t & a & d & q lends bs & tt) told_where
  pub any_write_path : (s : Shape) (vs : List ℕ) → Misnamed write_path_reads.Post (s & q lends vs & tt) (λ y. (writing_told y).refusal)
  -- with any arguments, from C
  pub any_bcube_read : (c : Room) (a d : ℕ) (bs lent : List ℕ) → Misnamed bcube_read_reads.Post (c & a & d & q lends bs & b lends_mut lent & tt) refusal_in
  pub any_bcube_reverse : (c : Room) (a d : ℕ) (bs lent : List ℕ) → Misnamed bcube_reverse_reads.Post (c & a & d & q lends bs & b lends_mut lent & tt) refusal_in
  pub any_bcube_write : (c : Room) (vs lent : List ℕ) → Misnamed bcube_write_reads.Post (c & q lends vs & b lends_mut lent & tt) refusal_in
  -- picking and a step, with any arguments
  pub any_pick_place : (s : Shape) (t : List ℕ) (a d : ℕ) (fs ks : List ℕ) → Overtold pick_place_reads.Post (s & o lends t & a & d & q lends fs & b lends ks & tt) (λ y. (place_told y).refusal)
  pub any_pick_refusal : (s : Shape) (t : List ℕ) (a d : ℕ) (fs ks : List ℕ) → Overtold pick_refusal_reads.Post (s & o lends t & a & d & q lends fs & b lends ks & tt) refusal_told
  pub any_step_once : (s : Shape) (a d i : ℕ) (bs es : List ℕ) → Overtold step_once_reads.Post (s & a & d & i & q lends bs & o lends es & tt) (λ y. (step_told y).refusal)
  pub any_bcube_pick : (c : Room) (t : List ℕ) (a d : ℕ) (fs ks : List ℕ) → Overtold bcube_pick_reads.Post (c & a & d & o lends t & q lends fs & b lends ks & tt) refusal_in
  pub any_bcube_step : (c : Room) (a d i : ℕ) (bs es : List ℕ) → Bytes es → Overtold bcube_step_reads.Post (c & a & d & i & q lends bs & o lends es & tt) (λ y. (unpacked y).refusal)
  -- the buffer touched on 28 or 29: the servers met before it, the way back of the hops before it, the bytes before it
  pub read_touched : NeverLeaves bcube_read_reads.Post (room_of 4 1 4 & 0 & 3 & q lends switch_twice & b lends_mut stale 9 & tt) fifth (0 ∷ 1 ∷ stale 7)
  pub reverse_touched : NeverLeaves bcube_reverse_reads.Post (room_of 4 1 4 & 0 & 3 & q lends straight_back & b lends_mut stale 8 & tt) fifth (0x00 ∷ stale 7)
  pub write_touched : NeverLeaves bcube_write_reads.Post (room_of 4 1 4 & q lends 0 ∷ 1 ∷ 3 ∷ [] & b lends_mut stale 8 & tt) third (0x01 ∷ stale 7)
  -- the first hop laid, though the second is refused
  pub lay_touched : NeverLeaves lay_route_reads.Post (full_room 4 1 & o lends_mut none_failed (full_room 4 1) & 0 & 3 & q lends switch_twice & tt) second
      (1 ∷ 3 ∷ 1 ∷ 1 ∷ 0 ∷ 0 ∷ 0 ∷ 0 ∷ 0 ∷ 0 ∷ 0 ∷ 0 ∷ 0 ∷ 0 ∷ 0 ∷ 0 ∷ [])
