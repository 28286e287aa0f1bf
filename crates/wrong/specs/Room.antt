-- Wrong answers of `room`.
use Rattle.std.specs.Prelude.{ℕ, ◌+◌, ◌≢◌, [], ◌∷◌, Ok, Err, None, Some}
use Rattle.refusals.specs.declared.Reason.{Reason}
use Rattle.refusals.specs.declared.Reason.TheVariants.{Ports, Levels, NotArrived, Fill, Summary}
use Rattle.refusals.specs.Refusals.{none, plain, refused_at, with_earlier}
use Rattle.refusals.specs.Reasons.{number_of, refusal_of, told, told_where}
use Rattle.refusals.proofs.Reason.number.Reads as reason_number
use Rattle.refusals.proofs.RefusedFromReason.from.Reads as refused_from
use Rattle.refusals.proofs.Refused.at.Reads as at_hop
use Rattle.room.specs.Shapes.{shape_of, full_room}
use Rattle.room.specs.Answers.{no_number, a_number, some_digits, a_switch, only_level}
use Rattle.room.proofs.Shape.new.Reads as shape_new
use Rattle.room.proofs.Shape.full.Reads as shape_full
use Rattle.room.proofs.shape_refusal.Reads as shape-refusal
use Rattle.room.proofs.server_refusal.Reads as server-refusal
use Rattle.room.proofs.link_refusal.Reads as link-refusal
use Rattle.room.proofs.servers_of.Reads as servers-of
use Rattle.room.proofs.bound_of.Reads as bound_of
use Rattle.room.proofs.digits_of.Reads as digits_of
use Rattle.room.proofs.digit_of.Reads as digit_of
use Rattle.room.proofs.address_of.Reads as address-of
use Rattle.room.proofs.switch_of.Reads as switch-of
use Rattle.room.proofs.switches_of.Reads as switches-of
use Rattle.room.proofs.server_at.Reads as server-at
use Rattle.room.proofs.neighbour_of.Reads as neighbour_of
use Rattle.room.proofs.level_between.Reads as level_between
use Rattle.wrong.specs.Never.{Never, NeverTells, ◌&◌}
use Rattle.wrong.specs.Told.{number_told, digits_told, switch_told, between_told}

pub record Room : Type 0 where
  -- ---- Shape::new
  -- m forgotten: the full room
  pub m_forgotten : (n k m : ℕ) → n ≢ m → Never shape_new.Post (n & k & m & tt) (full_room n k)
  -- n and m exchanged
  pub n_and_m_exchanged : (n k m : ℕ) → n ≢ m → Never shape_new.Post (n & k & m & tt) (shape_of m k n)
  -- k and m exchanged
  pub k_and_m_exchanged : (n k m : ℕ) → k ≢ m → Never shape_new.Post (n & k & m & tt) (shape_of n m k)
  -- ---- Shape::full
  -- n and k exchanged
  pub n_and_k_exchanged : (n k : ℕ) → n ≢ k → Never shape_full.Post (n & k & tt) (full_room k n)
  -- the number of levels, k + 1, kept for k
  pub levels_for_k : (n k : ℕ) → Never shape_full.Post (n & k & tt) (full_room n (k + 1))
  -- k kept for m
  pub k_for_m : (n k : ℕ) → n ≢ k → Never shape_full.Post (n & k & tt) (shape_of n k k)
  -- no value at level k
  pub m_is_0 : (n k : ℕ) → n ≢ 0 → Never shape_full.Post (n & k & tt) (shape_of n k 0)
  -- ---- Reason::number
  -- counted from 0, as an enum counts by itself
  pub reasons_from_0 : Never reason_number.Post (Ports & tt) 0
  -- 12 not passed over, or 24 and 25
  pub retired_number_given : Never reason_number.Post (NotArrived & tt) 12
  pub fill_after_neighbours : Never reason_number.Post (Fill & tt) 24
  -- how many reasons there are
  pub reasons_counted : Never reason_number.Post (Summary & tt) 26
  -- the number of another reason
  pub number_of_another : (r q : Reason) → r ≢ q → Never reason_number.Post (r & tt) (number_of q)
  -- 0, which is that of no refusal
  pub number_of_none : (r : Reason) → Never reason_number.Post (r & tt) 0
  -- ---- Ok, which tells that nothing is refused
  -- 1 for "all is well"
  pub none_is_1 : (x : Unit {0}) → told_where (Ok x) ≢ plain 1
  -- route 1, as a single array is, though nothing is refused
  pub none_at_route_1 : (x : Unit {0}) → told_where (Ok x) ≢ refused_at 0 1 0
  -- an earlier route, though nothing is refused
  pub none_with_earlier_route : (x : Unit {0}) → told_where (Ok x) ≢ with_earlier 1 0 none
  -- ---- Refused::from
  -- the number lost
  pub number_lost : (r : Reason) → NeverTells refused_from.Post (r & tt) refusal_of none
  -- another reason
  pub from_another_reason : (r q : Reason) → r ≢ q → NeverTells refused_from.Post (r & tt) (λ y. y.reason) q
  -- route 1, as a single array is, though the call as a whole is refused
  pub plain_at_route_1 : (r : Reason) → NeverTells refused_from.Post (r & tt) refusal_of (refused_at (number_of r) 1 0)
  -- an earlier hop, though the call as a whole is refused
  pub plain_with_earlier_hop : (r : Reason) (g : ℕ) → g ≢ 0 → NeverTells refused_from.Post (r & tt) refusal_of (with_earlier 0 g (plain (number_of r)))
  -- ---- Refused::at
  -- another reason
  pub at_another_reason : (r q : Reason) (i h : ℕ) → r ≢ q → NeverTells at_hop.Post (r & i & h & tt) (λ y. y.reason) q
  -- route and hop exchanged
  pub route_and_hop_exchanged : (r : Reason) (i h : ℕ) → i ≢ h → NeverTells at_hop.Post (r & i & h & tt) refusal_of (refused_at (number_of r) h i)
  -- the hop counted from 0
  pub hop_from_0 : (r : Reason) (i h : ℕ) → NeverTells at_hop.Post (r & i & h + 1 & tt) refusal_of (refused_at (number_of r) i h)
  -- its own route and hop as the earlier ones
  pub at_with_earlier_route : (r : Reason) (i h : ℕ) → i ≢ 0 → NeverTells at_hop.Post (r & i & h & tt) refusal_of (with_earlier i 0 (refused_at (number_of r) i h))
  pub at_with_earlier_hop : (r : Reason) (i h : ℕ) → h ≢ 0 → NeverTells at_hop.Post (r & i & h & tt) refusal_of (with_earlier 0 h (refused_at (number_of r) i h))
  -- ---- shape_refusal
  -- N not bounded: the 6,561 servers of (9,3) taken
  pub servers_not_bounded : NeverTells shape-refusal.Post (full_room 9 3 & tt) told 0
  -- N bounded too soon: the 4,096 servers of (8,3) refused
  pub last_room_refused : NeverTells shape-refusal.Post (full_room 8 3 & tt) told 3
  -- n not bounded: (65,0), whose servers are few, taken
  pub ports_not_bounded : NeverTells shape-refusal.Post (full_room 65 0 & tt) told 0
  -- one port taken: (1,2), a room of one server
  pub one_port_taken : NeverTells shape-refusal.Post (full_room 1 2 & tt) told 0
  -- k not bounded: (2,4), whose servers are few, taken
  pub levels_not_bounded : NeverTells shape-refusal.Post (full_room 2 4 & tt) told 0
  -- 2 tested before 1: (65,4)
  pub levels_before_ports : NeverTells shape-refusal.Post (full_room 65 4 & tt) told 2
  -- 3 tested before 26: (9,3,10), which has more than 4,096 servers too
  pub servers_before_fill : NeverTells shape-refusal.Post (shape_of 9 3 10 & tt) told 3
  -- 26 tested before 2: (4,4,5)
  pub fill_before_levels : NeverTells shape-refusal.Post (shape_of 4 4 5 & tt) told 26
  -- 26 tested before 1: (1,2,1)
  pub fill_before_ports : NeverTells shape-refusal.Post (shape_of 1 2 1 & tt) told 26
  -- m = n refused
  pub full_room_refused : NeverTells shape-refusal.Post (shape_of 8 3 8 & tt) told 26
  -- m = 2 refused
  pub fill_2_refused : NeverTells shape-refusal.Post (shape_of 8 3 2 & tt) told 26
  -- m = 1 taken
  pub fill_1_taken : NeverTells shape-refusal.Post (shape_of 8 3 1 & tt) told 0
  -- m above n taken: (4,1,5)
  pub fill_above_n_taken : NeverTells shape-refusal.Post (shape_of 4 1 5 & tt) told 0
  -- the largest m of 64 bits taken
  pub largest_fill_taken : NeverTells shape-refusal.Post (shape_of 8 3 18446744073709551615 & tt) told 0
  -- 26 tested after a product of 64 bits: 36,028,797,018,963,968 times 8 to the power 3 wraps to 0
  pub product_wraps : NeverTells shape-refusal.Post (shape_of 8 3 36028797018963968 & tt) told 0
  -- N as n to the power k + 1: the 3,456 servers of (12,3,2) refused
  pub servers_of_the_full_room_bounded : NeverTells shape-refusal.Post (shape_of 12 3 2 & tt) told 3
  -- ---- server_refusal
  -- address N taken
  pub address_n_taken : NeverTells server-refusal.Post (full_room 8 3 & 4096 & tt) told 0
  -- address N - 1 refused
  pub last_address_refused : NeverTells server-refusal.Post (full_room 8 3 & 4095 & tt) told 4
  -- 4 tested before 3: address 6561 of (9,3)
  pub address_before_shape : NeverTells server-refusal.Post (full_room 9 3 & 6561 & tt) told 4
  -- N as n to the power k + 1: address 2048 of (8,3,4) taken
  pub address_of_the_full_room_taken : NeverTells server-refusal.Post (shape_of 8 3 4 & 2048 & tt) told 0
  -- N as m to the power k + 1: address 256 of (8,3,4) refused
  pub address_below_n_refused : NeverTells server-refusal.Post (shape_of 8 3 4 & 256 & tt) told 4
  -- ---- link_refusal
  -- level k refused
  pub level_k_refused : NeverTells link-refusal.Post (full_room 4 1 & 0 & 1 & tt) told 20
  -- level k + 1 taken
  pub level_above_k_taken : NeverTells link-refusal.Post (full_room 4 1 & 0 & 2 & tt) told 0
  -- 20 tested before 4: level 2 of server 16 in (4,1)
  pub level_before_address : NeverTells link-refusal.Post (full_room 4 1 & 16 & 2 & tt) told 20
  -- N as n to the power k + 1: a link of server 2048 of (8,3,4) taken
  pub link_of_the_full_room_taken : NeverTells link-refusal.Post (shape_of 8 3 4 & 2048 & 3 & tt) told 0
  -- level k refused where it has fewer values
  pub half_filled_level_refused : NeverTells link-refusal.Post (shape_of 8 3 4 & 0 & 3 & tt) told 20
  -- ---- servers_of
  -- n to the power k
  pub one_level_less : NeverTells servers-of.Post (full_room 8 3 & tt) number_told (a_number 512)
  -- k + 1 to the power n
  pub base_and_power_exchanged : NeverTells servers-of.Post (full_room 8 3 & tt) number_told (a_number 65536)
  -- a number for a room that is refused
  pub servers_of_no_room : NeverTells servers-of.Post (full_room 9 3 & tt) number_told (a_number 6561)
  -- N as n to the power k + 1: (8,3,4)
  pub servers_of_the_full_room : NeverTells servers-of.Post (shape_of 8 3 4 & tt) number_told (a_number 4096)
  -- N as m to the power k + 1
  pub m_at_every_level : NeverTells servers-of.Post (shape_of 8 3 4 & tt) number_told (a_number 256)
  -- N as n to the power k + 1: (12,3,2) refused
  pub half_filled_room_refused : NeverTells servers-of.Post (shape_of 12 3 2 & tt) number_told (no_number 3)
  -- 3 told before 26: (9,3,10)
  pub servers_told_before_fill : NeverTells servers-of.Post (shape_of 9 3 10 & tt) number_told (no_number 3)
  -- a number for a room that is refused 26
  pub servers_of_no_fill : NeverTells servers-of.Post (shape_of 8 3 1 & tt) number_told (a_number 512)
  -- ---- bound_of
  -- k for n
  pub k_for_bound : NeverTells bound_of.Post (full_room 8 3 & 0 & tt) number_told (a_number 3)
  -- the largest digit for the bound
  pub largest_for_bound : NeverTells bound_of.Post (full_room 8 3 & 0 & tt) number_told (a_number 7)
  -- the bound of a level above k
  pub bound_above_k : NeverTells bound_of.Post (full_room 4 1 & 2 & tt) number_told (a_number 4)
  -- m at every level: level 0 of (8,3,4)
  pub m_at_level_0 : NeverTells bound_of.Post (shape_of 8 3 4 & 0 & tt) number_told (a_number 4)
  -- n at every level: level 3 of (8,3,4)
  pub n_at_level_k : NeverTells bound_of.Post (shape_of 8 3 4 & 3 & tt) number_told (a_number 8)
  -- n at level 0 where that is level k: (8,0,4)
  pub n_where_k_is_0 : NeverTells bound_of.Post (shape_of 8 0 4 & 0 & tt) number_told (a_number 8)
  -- ---- digits_of
  -- reversed: 521 of (8,3), written 1011, whose digit 0 stands at place 0
  pub digits_reversed : NeverTells digits_of.Post (full_room 8 3 & 521 & tt) digits_told (some_digits (1 ∷ 0 ∷ 1 ∷ 1 ∷ []))
  -- zeros first, as four digits are written: 7 of (4,1), written 13
  pub zeros_first : NeverTells digits_of.Post (full_room 4 1 & 7 & tt) digits_told (some_digits (0 ∷ 0 ∷ 1 ∷ 3 ∷ []))
  -- N not bounded: address 4096 of (8,3) wraps to 0
  pub address_wraps : NeverTells digits_of.Post (full_room 8 3 & 4096 & tt) digits_told (some_digits (0 ∷ 0 ∷ 0 ∷ 0 ∷ []))
  -- N as n to the power k + 1: address 2048 of (8,3,4) answered
  pub digits_of_the_full_room : NeverTells digits_of.Post (shape_of 8 3 4 & 2048 & tt) digits_told (some_digits (0 ∷ 0 ∷ 0 ∷ 4 ∷ []))
  -- digits to the base m: 2047 of (8,3,4), written 3777
  pub digits_to_the_base_m : NeverTells digits_of.Post (shape_of 8 3 4 & 2047 & tt) digits_told (some_digits (3 ∷ 3 ∷ 3 ∷ 3 ∷ []))
  -- ---- digit_of
  -- from the other end: digit 2 of 1011
  pub digit_from_the_other_end : NeverTells digit_of.Post (full_room 8 3 & 521 & 2 & tt) number_told (a_number 1)
  -- levels counted from 1: digit 1 of 13 in (4,1)
  pub levels_from_1 : NeverTells digit_of.Post (full_room 4 1 & 7 & 1 & tt) number_told (a_number 3)
  -- N as n to the power k + 1: digit 3 of 2048 in (8,3,4)
  pub digit_of_the_full_room : NeverTells digit_of.Post (shape_of 8 3 4 & 2048 & 3 & tt) number_told (a_number 4)
  -- a digit to the base m: digit 0 of 7 in (8,3,4)
  pub digit_to_the_base_m : NeverTells digit_of.Post (shape_of 8 3 4 & 7 & 0 & tt) number_told (a_number 3)
  -- ---- address_of
  -- reversed: 1011, whose digit 0 stands at place 0, read as 1101
  pub places_reversed : NeverTells address-of.Post (full_room 8 3 & 1 ∷ 1 ∷ 0 ∷ 1 ∷ [] & tt) number_told (a_number 577)
  -- a place above k ignored
  pub place_above_k_ignored : NeverTells address-of.Post (full_room 4 1 & 3 ∷ 1 ∷ 1 ∷ 0 ∷ [] & tt) number_told (a_number 7)
  -- a digit n carried to the next place
  pub digit_n_carried : NeverTells address-of.Post (full_room 4 1 & 4 ∷ 0 ∷ 0 ∷ 0 ∷ [] & tt) number_told (a_number 4)
  -- digit k bounded by n: 4 at place 3 in (8,3,4)
  pub digit_k_bounded_by_n : NeverTells address-of.Post (shape_of 8 3 4 & 0 ∷ 0 ∷ 0 ∷ 4 ∷ [] & tt) number_told (a_number 2048)
  -- every digit bounded by m: 4 at place 2
  pub digit_2_bounded_by_m : NeverTells address-of.Post (shape_of 8 3 4 & 0 ∷ 0 ∷ 4 ∷ 0 ∷ [] & tt) number_told (no_number 21)
  -- the bound of level 0 as m: 5 at place 0
  pub digit_0_bounded_by_m : NeverTells address-of.Post (shape_of 8 3 4 & 5 ∷ 0 ∷ 0 ∷ 0 ∷ [] & tt) number_told (no_number 21)
  -- weights to the base m: 3 at place 3
  pub weights_to_the_base_m : NeverTells address-of.Post (shape_of 8 3 4 & 0 ∷ 0 ∷ 0 ∷ 3 ∷ [] & tt) number_told (a_number 192)
  -- ---- switch_of
  -- level and number exchanged in the result itself
  pub switch_fields_exchanged : Never switch-of.Post (full_room 4 1 & 7 & 0 & tt) (Ok (record { level = 1; number = 0 }))
  -- not closed up: 13 of (4,1) with digit 0 made 0, not struck out
  pub switch_not_closed_up : NeverTells switch-of.Post (full_room 4 1 & 7 & 0 & tt) switch_told (a_switch 0 4)
  -- the other digits struck out
  pub others_struck_out : NeverTells switch-of.Post (full_room 4 1 & 7 & 0 & tt) switch_told (a_switch 0 3)
  -- the level lost
  pub switch_level_lost : NeverTells switch-of.Post (full_room 4 1 & 7 & 1 & tt) switch_told (a_switch 0 3)
  -- N as n to the power k + 1: server 2048 of (8,3,4)
  pub switch_of_the_full_room : NeverTells switch-of.Post (shape_of 8 3 4 & 2048 & 0 & tt) switch_told (a_switch 0 256)
  -- closed up to the base m: 3455 of (12,3,2), whose digits are 11, 11, 11, 1, at level 3
  pub switch_to_the_base_m : NeverTells switch-of.Post (shape_of 12 3 2 & 3455 & 3 & tt) switch_told (a_switch 3 77)
  -- ---- switches_of
  -- the servers of a switch for the switches of a level
  pub ports_for_switches : NeverTells switches-of.Post (full_room 8 3 & 0 & tt) number_told (a_number 8)
  -- a switch for each server
  pub servers_for_switches : NeverTells switches-of.Post (full_room 8 3 & 0 & tt) number_told (a_number 4096)
  -- n to the power of the level
  pub power_of_the_level : NeverTells switches-of.Post (full_room 4 1 & 0 & tt) number_told (a_number 1)
  -- the switches of a level above k
  pub switches_above_k : NeverTells switches-of.Post (full_room 4 1 & 2 & tt) number_told (a_number 4)
  -- n servers at each switch of level k: (8,3,4)
  pub switches_of_n_at_level_k : NeverTells switches-of.Post (shape_of 8 3 4 & 3 & tt) number_told (a_number 256)
  -- m servers at each switch of level 0
  pub switches_of_m_at_level_0 : NeverTells switches-of.Post (shape_of 8 3 4 & 0 & tt) number_told (a_number 512)
  -- the switches of all levels
  pub switches_of_all_levels : NeverTells switches-of.Post (shape_of 8 3 4 & 0 & tt) number_told (a_number 1280)
  -- ---- server_at
  -- switch and port exchanged: port 3 of switch 1 of level 0 in (4,1), server 13
  pub switch_and_port_exchanged : NeverTells server-at.Post (full_room 4 1 & 0 & 1 & 3 & tt) number_told (a_number 13)
  -- the port in place of digit 0 at every level: port 1 of switch 3 of level 1
  pub port_at_digit_0 : NeverTells server-at.Post (full_room 4 1 & 1 & 3 & 1 & tt) number_told (a_number 13)
  -- the switch's digits not moved up
  pub digits_not_moved_up : NeverTells server-at.Post (full_room 4 1 & 0 & 1 & 3 & tt) number_told (a_number 3)
  -- a port n carried to the next digit
  pub port_not_bounded : NeverTells server-at.Post (full_room 4 1 & 0 & 0 & 4 & tt) number_told (a_number 4)
  -- a switch that the level does not have
  pub switch_not_bounded : NeverTells server-at.Post (full_room 4 1 & 0 & 4 & 0 & tt) number_told (a_number 16)
  -- 21 tested before 20: switch 4 of level 2
  pub switch_before_level : NeverTells server-at.Post (full_room 4 1 & 2 & 4 & 0 & tt) number_told (no_number 21)
  -- n servers at a switch of level k: port 4 of switch 0 in (8,3,4)
  pub port_m_at_level_k : NeverTells server-at.Post (shape_of 8 3 4 & 3 & 0 & 4 & tt) number_told (a_number 2048)
  -- m servers at a switch of level 0: port 5 refused
  pub port_5_at_level_0_refused : NeverTells server-at.Post (shape_of 8 3 4 & 0 & 0 & 5 & tt) number_told (no_number 21)
  -- n to the power k switches at level 0: switch 256
  pub switch_256_at_level_0 : NeverTells server-at.Post (shape_of 8 3 4 & 0 & 256 & 0 & tt) number_told (a_number 2048)
  -- 256 switches at level k: switch 256 refused
  pub switch_256_at_level_k_refused : NeverTells server-at.Post (shape_of 8 3 4 & 3 & 256 & 0 & tt) number_told (no_number 21)
  -- ---- neighbour_of
  -- level and value exchanged: 12 of (4,1) with digit 0 set to 1
  pub level_and_value_exchanged : NeverTells neighbour_of.Post (full_room 4 1 & 6 & 0 & 1 & tt) number_told (a_number 2)
  -- the value added to the digit
  pub value_added : NeverTells neighbour_of.Post (full_room 4 1 & 6 & 0 & 1 & tt) number_told (a_number 7)
  -- a value n carried to the next digit
  pub value_not_bounded : NeverTells neighbour_of.Post (full_room 4 1 & 0 & 0 & 4 & tt) number_told (a_number 4)
  -- the bound of level 0 as m: value 5 in (8,3,4) refused
  pub value_5_at_level_0_refused : NeverTells neighbour_of.Post (shape_of 8 3 4 & 0 & 0 & 5 & tt) number_told (no_number 21)
  -- the bound of level k as n: value 4
  pub value_m_at_level_k : NeverTells neighbour_of.Post (shape_of 8 3 4 & 0 & 3 & 4 & tt) number_told (a_number 2048)
  -- N as n to the power k + 1: a neighbour of server 2048
  pub neighbour_in_the_full_room : NeverTells neighbour_of.Post (shape_of 8 3 4 & 2048 & 0 & 1 & tt) number_told (a_number 2049)
  -- ---- level_between
  -- no level in the result itself, for level 0
  pub level_0_is_none : Never level_between.Post (full_room 4 1 & 0 & 1 & tt) (Ok None)
  -- level 0 in the result itself, for no level
  pub none_is_level_0 : Never level_between.Post (full_room 4 1 & 0 & 7 & tt) (Ok (Some 0))
  -- two that differ in two digits taken for neighbours: 00 and 13
  pub two_digits_apart : NeverTells level_between.Post (full_room 4 1 & 0 & 7 & tt) between_told (only_level (0 ∷ []))
  -- a server taken for its own neighbour
  pub own_neighbour : NeverTells level_between.Post (full_room 4 1 & 5 & 5 & tt) between_told (only_level (0 ∷ []))
  -- the level counted from 1: 00 and 10
  pub between_from_1 : NeverTells level_between.Post (full_room 4 1 & 0 & 4 & tt) between_told (only_level (2 ∷ []))
  -- N as n to the power k + 1: 0 and 2048 of (8,3,4)
  pub between_in_the_full_room : NeverTells level_between.Post (shape_of 8 3 4 & 0 & 2048 & tt) between_told (only_level (3 ∷ []))
  -- digits to the base m: 0 and 4 of (8,3,4)
  pub between_to_the_base_m : NeverTells level_between.Post (shape_of 8 3 4 & 0 & 4 & tt) between_told (only_level (1 ∷ []))
