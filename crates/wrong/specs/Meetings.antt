-- Where two routes of a list meet, and what comes again on one of them, wrongly told by checking, wherever the table and the list lie.
use Rattle.std.specs.Prelude.{ℕ, ◌≤◌, ◌≡◌, ◌≢◌, List, [], ◌∷◌, ◌++◌}
use Rattle.refusals.specs.Refusals.{Refusal, none, refused_at, with_earlier, earlier_route, earlier_hop}
use Rattle.refusals.specs.Reasons.{told_where}
use Rattle.room.specs.declared.Shape.{Shape}
use Rattle.room.specs.Shapes.{shape_of, full_room}
use Rattle.verdict.proofs.check_list.Reads as check_list_reads
use Rattle.driver.specs.declared.Room.{Room}
use Rattle.driver.specs.Words.{refusal_in}
use Rattle.driver.proofs.bcube_check.Reads as bcube_check_reads
use Rattle.wrong.specs.Never.{NeverTells, NeverSo, Loan, ◌&◌, ◌lends◌}
use Rattle.wrong.specs.Examples.{array, none_failed, direct, other, switch_twice, straight_back, round_to_server}
use Rattle.wrong.specs.Again.{with_hop, room_for}

-- 15: hop h of route j meets hop g of route i
abbrev pub meeting_at : ℕ → ℕ → ℕ → ℕ → Refusal
meeting_at j h i g = with_earlier i g (refused_at 15 j h)

-- ---- lists

-- the route from 00 to 03 of (4,1) over switch 0 of level 0, twice
abbrev pub one_twice : List ℕ
one_twice = array (0x03 ∷ []) ++ array (0x03 ∷ [])

-- 00 by 10 to 13, and by 02 and 12 to 13, over the same last switch
abbrev pub last_switch : List ℕ
last_switch = direct ++ array (0x02 ∷ 0x41 ∷ 0x03 ∷ [])

-- three routes from 0000 to 1111 of (2,3): the third meets server 0011 after two hops, as the first does, and uses no switch of another
abbrev pub shared_server : List ℕ
shared_server = array (0x01 ∷ 0x41 ∷ 0x81 ∷ 0xc1 ∷ []) ++ array (0xc1 ∷ 0x81 ∷ 0x41 ∷ 0x01 ∷ []) ++ array (0x41 ∷ 0x01 ∷ 0xc1 ∷ 0x81 ∷ [])

-- two that meet at server 0111 after three hops, and use the same last switch
abbrev pub server_then_switch : List ℕ
server_then_switch = array (0x01 ∷ 0x41 ∷ 0x81 ∷ 0xc1 ∷ []) ++ array (0x41 ∷ 0x81 ∷ 0x01 ∷ 0xc1 ∷ [])

-- those two, and a third that has its first switch with the first
abbrev pub earlier_with_third : List ℕ
earlier_with_third = server_then_switch ++ array (0x01 ∷ 0x81 ∷ 0x41 ∷ 0xc1 ∷ [])

-- routes from 000 to 111 of (2,2) and of (3,2,2): hop 1 of the first reaches the server of hop 3 of the second, and its hop 2 that of hop 2,
-- over the switch of hop 3
abbrev pub crossing : List ℕ
crossing = array (0x81 ∷ 0x41 ∷ 0x01 ∷ []) ++ array (0x41 ∷ 0x81 ∷ 0x40 ∷ 0x01 ∷ 0x41 ∷ [])

-- routes from 000 to 111 of (3,2,2) that meet at server 011 after two hops, and use the same last switch
abbrev pub server_first : List ℕ
server_first = array (0x01 ∷ 0x41 ∷ 0x81 ∷ []) ++ array (0x41 ∷ 0x01 ∷ 0x81 ∷ [])

-- ---- of a call that checks a list from server 0: `asked` are its arguments by room, destination and list, `told` the refusal in what it
-- answers

pub record Mismet {K A R X : Type 0} (post : K → A → R → X → Type 0) (asked : Shape → ℕ → List ℕ → A) (told : R → Refusal) : Type 0 where
  -- the route 03 twice: hop 1 of route 2 meets hop 1 of route 1
  -- 15 with no hop, and none beside it
  pub no-hop : NeverTells post (asked (full_room 4 1) 3 one_twice) told (refused_at 15 2 0)
  -- the hop of the later route alone
  pub earlier_not_told : NeverTells post (asked (full_room 4 1) 3 one_twice) told (refused_at 15 2 1)
  -- the routes exchanged
  pub routes_exchanged : NeverTells post (asked (full_room 4 1) 3 one_twice) told (meeting_at 1 1 2 1)
  -- hop 0 for the switch, of the earlier route, of the later, of both
  pub switch_by_hop_0 : NeverTells post (asked (full_room 4 1) 3 one_twice) told (meeting_at 2 1 1 0)
  pub later_switch_by_hop_0 : NeverTells post (asked (full_room 4 1) 3 one_twice) told (meeting_at 2 0 1 1)
  pub switches_by_hop_0 : NeverTells post (asked (full_room 4 1) 3 one_twice) told (meeting_at 2 0 1 0)
  -- routes counted from 0
  pub routes_from_0 : NeverTells post (asked (full_room 4 1) 3 one_twice) told (meeting_at 1 1 0 1)
  -- the last switch of both: hop 3 of route 2 meets hop 2 of route 1
  -- the hops exchanged
  pub hops_exchanged : NeverTells post (asked (full_room 4 1) 7 last_switch) told (meeting_at 2 2 1 3)
  -- one hop told for both, the earlier route's, the later's
  pub earlier_hop_for_both : NeverTells post (asked (full_room 4 1) 7 last_switch) told (meeting_at 2 2 1 2)
  pub later_hop_for_both : NeverTells post (asked (full_room 4 1) 7 last_switch) told (meeting_at 2 3 1 3)
  -- route and hop of the earlier exchanged
  pub earlier_route_and_hop_exchanged : NeverTells post (asked (full_room 4 1) 7 last_switch) told (meeting_at 2 3 2 1)
  -- middle servers compared only: the list accepted
  pub switches_not_compared : NeverTells post (asked (full_room 4 1) 7 last_switch) told none
  -- server 0011: hop 2 of route 3 meets hop 2 of route 1
  -- the hop that leaves the server, of both, of the earlier route, of the later
  pub hops_that_leave : NeverTells post (asked (full_room 2 3) 15 shared_server) told (meeting_at 3 3 1 3)
  pub earlier_hop_that_leaves : NeverTells post (asked (full_room 2 3) 15 shared_server) told (meeting_at 3 2 1 3)
  pub later_hop_that_leaves : NeverTells post (asked (full_room 2 3) 15 shared_server) told (meeting_at 3 3 1 2)
  -- places between the ends counted from 0
  pub places_from_0 : NeverTells post (asked (full_room 2 3) 15 shared_server) told (meeting_at 3 1 1 1)
  -- the route before for the one that it meets
  pub route_before : NeverTells post (asked (full_room 2 3) 15 shared_server) told (meeting_at 3 2 2 2)
  -- switches compared only: the list accepted
  pub servers_not_compared : NeverTells post (asked (full_room 2 3) 15 shared_server) told none
  -- server 0111: hop 3 of route 2 meets hop 3 of route 1, before the switch of hop 4 of each
  -- all switches before all servers
  pub switches_before_servers : NeverTells post (asked (full_room 2 3) 15 server_then_switch) told (meeting_at 2 4 1 4)
  -- with the third route, the pair is the same
  -- the pair that meets soonest
  pub soonest_pair : NeverTells post (asked (full_room 2 3) 15 earlier_with_third) told (meeting_at 3 1 1 1)
  -- the last pair
  pub last_pair : NeverTells post (asked (full_room 2 3) 15 earlier_with_third) told (meeting_at 3 3 2 3)
  -- hop 3 of route 2 meets hop 1 of route 1; they meet at (1, 3), (2, 2) and (2, 3) of first and second route
  -- the second route's hop first
  pub second_route_first : NeverTells post (asked (full_room 2 2) 7 crossing) told (meeting_at 2 2 1 2)
  -- the last meeting, which is the first at a switch
  pub last_meeting : NeverTells post (asked (full_room 2 2) 7 crossing) told (meeting_at 2 3 1 2)
  -- the least hop of each route by itself
  pub least_of_each : NeverTells post (asked (full_room 2 2) 7 crossing) told (meeting_at 2 2 1 1)
  -- the built routes from 00 to 13, which are parallel
  -- the destination counted as a meeting
  pub destination_is_a_meeting : NeverTells post (asked (full_room 4 1) 7 (direct ++ other)) told (meeting_at 2 2 1 2)
  -- the source counted as a meeting
  pub source_is_a_meeting : NeverTells post (asked (full_room 4 1) 7 (direct ++ other)) told (meeting_at 2 0 1 0)
  -- rooms that are not full
  pub half_filled_hops_exchanged : NeverTells post (asked (shape_of 4 1 2) 7 last_switch) told (meeting_at 2 2 1 3)
  pub half_filled_switch_by_hop_0 : NeverTells post (asked (shape_of 4 1 2) 7 last_switch) told (meeting_at 2 3 1 0)
  -- all switches before all servers, or the hops that leave
  pub half_filled_switches_before_servers : NeverTells post (asked (shape_of 3 2 2) 13 server_first) told (meeting_at 2 3 1 3)
  pub half_filled_second_route_first : NeverTells post (asked (shape_of 3 2 2) 13 crossing) told (meeting_at 2 2 1 2)
  pub half_filled_last_meeting : NeverTells post (asked (shape_of 3 2 2) 13 crossing) told (meeting_at 2 3 1 2)
  -- the second array is refused with 29 at hop 2, earlier hop 1
  -- the earlier hop lost in a list
  pub earlier_hop_lost : NeverTells post (asked (full_room 4 1) 3 (array (0x03 ∷ []) ++ switch_twice)) told (refused_at 29 2 2)
  -- the earlier route told, that of the array, or route 1
  pub own_route_told : NeverTells post (asked (full_room 4 1) 3 (array (0x03 ∷ []) ++ switch_twice)) told (with_earlier 2 1 (refused_at 29 2 2))
  pub route_1_told : NeverTells post (asked (full_room 4 1) 3 (array (0x03 ∷ []) ++ switch_twice)) told (with_earlier 1 1 (refused_at 29 2 2))
  -- route 1 kept, as the array by itself has it
  pub route_kept : NeverTells post (asked (full_room 4 1) 3 (array (0x03 ∷ []) ++ switch_twice)) told (with_hop 29 2 1)
  -- 15 tested before the second array is read: the switch of both
  pub meeting_before_again : NeverTells post (asked (full_room 4 1) 3 (array (0x03 ∷ []) ++ switch_twice)) told (meeting_at 2 1 1 1)
  -- the second array is refused with 28 at hop 2, earlier hop 0
  -- 29 tested before 28
  pub switch_before_server : NeverTells post (asked (full_room 4 1) 3 (array (0x03 ∷ []) ++ straight_back)) told (with_earlier 0 1 (refused_at 29 2 2))
  -- the source counted as hop 1
  pub source_is_hop_1 : NeverTells post (asked (full_room 4 1) 3 (array (0x03 ∷ []) ++ straight_back)) told (with_earlier 0 1 (refused_at 28 2 2))
  -- the second array of a list in (4,1,2) is refused with 28 at hop 5, earlier hop 1
  pub half_filled_earlier_hop_lost : NeverTells post (asked (shape_of 4 1 2) 3 (array (0x03 ∷ []) ++ round_to_server)) told (refused_at 28 2 5)

-- ---- of a call with any arguments

pub record Mischecked {K A R X : Type 0} (post : K → A → R → X → Type 0) (a : A) (told : R → Refusal) : Type 0 where
  -- 12, whose number is retired
  pub retired_number : NeverTells post a (λ r. (told r).number) 12
  -- an earlier route beside a number other than 15, an earlier hop beside one other than 15, 28 and 29
  pub earlier_route_of_another : NeverSo post a (λ r. ((told r).number ≢ 15) × (earlier_route (told r) ≢ 0))
  pub earlier_hop_of_another : NeverSo post a (λ r. ((told r).number ≢ 15) × ((told r).number ≢ 28) × ((told r).number ≢ 29) × (earlier_hop (told r) ≢ 0))
  -- 29 with the source as the earlier hop
  pub switch_by_the_source : NeverSo post a (λ r. ((told r).number ≡ 29) × (earlier_hop (told r) ≡ 0))
  -- an earlier hop that is not before the hop
  pub server_not_before : NeverSo post a (λ r. ((told r).number ≡ 28) × ((told r).hop ≤ earlier_hop (told r)))
  pub switch_not_before : NeverSo post a (λ r. ((told r).number ≡ 29) × ((told r).hop ≤ earlier_hop (told r)))
  -- 15 with no hop, no earlier hop, no earlier route, or an earlier route that is not before the route
  pub meeting_without_hop : NeverSo post a (λ r. ((told r).number ≡ 15) × ((told r).hop ≡ 0))
  pub meeting_without_earlier_hop : NeverSo post a (λ r. ((told r).number ≡ 15) × (earlier_hop (told r) ≡ 0))
  pub meeting_without_earlier_route : NeverSo post a (λ r. ((told r).number ≡ 15) × (earlier_route (told r) ≡ 0))
  pub meeting_routes_exchanged : NeverSo post a (λ r. ((told r).number ≡ 15) × ((told r).route ≤ earlier_route (told r)))

-- ---- each call

pub record Meetings (o q : Loan) : Type 0 where
  pub check_list : Mismet check_list_reads.Post (λ s d bs. s & o lends none_failed s & 0 & d & q lends bs & tt) told_where
  pub bcube_check : Mismet bcube_check_reads.Post (λ s d bs. room_for s & 0 & d & o lends none_failed s & q lends bs & tt) refusal_in
  pub any_check_list : (s : Shape) (t : List ℕ) (a d : ℕ) (bs : List ℕ) → Mischecked check_list_reads.Post (s & o lends t & a & d & q lends bs & tt) told_where
  pub any_bcube_check : (c : Room) (t : List ℕ) (a d : ℕ) (bs : List ℕ) → Mischecked bcube_check_reads.Post (c & a & d & o lends t & q lends bs & tt) refusal_in
