-- The fill of a room wrongly tested or counted, in every call that takes a room, wherever the buffers lie.
use Rattle.std.specs.Prelude.{ℕ, ◌+◌, ◌*◌, replicate}
use mathlib.Core.List.{List, [], ◌∷◌, ◌++◌, map, Memᴰ as In}
use Rattle.refusals.specs.Reasons.{told, told_where}
use Rattle.room.specs.declared.Shape.{Shape}
use Rattle.room.specs.Shapes.{shape_of}
use Rattle.room.proofs.shape_refusal.Reads as shape_refusal_reads
use Rattle.room.proofs.server_refusal.Reads as server_refusal_reads
use Rattle.room.proofs.pair_refusal.Reads as pair_refusal_reads
use Rattle.room.proofs.ends_refusal.Reads as ends_refusal_reads
use Rattle.room.proofs.link_refusal.Reads as link_refusal_reads
use Rattle.room.proofs.servers_of.Reads as servers_of_reads
use Rattle.room.proofs.bound_of.Reads as bound_of_reads
use Rattle.room.proofs.digits_of.Reads as digits_of_reads
use Rattle.room.proofs.digit_of.Reads as digit_of_reads
use Rattle.room.proofs.address_of.Reads as address_of_reads
use Rattle.room.proofs.switch_of.Reads as switch_of_reads
use Rattle.room.proofs.switches_of.Reads as switches_of_reads
use Rattle.room.proofs.server_at.Reads as server_at_reads
use Rattle.room.proofs.neighbour_of.Reads as neighbour_of_reads
use Rattle.room.proofs.level_between.Reads as level_between_reads
use Rattle.links.proofs.table_refusal.Reads as table_refusal_reads
use Rattle.links.proofs.room_refusal.Reads as room_refusal_reads
use Rattle.links.proofs.failed_link.Reads as failed_link_reads
use Rattle.links.proofs.table_link_refusal.Reads as table_link_refusal_reads
use Rattle.links.proofs.table_server_refusal.Reads as table_server_refusal_reads
use Rattle.trees.proofs.parent_of.Reads as parent_of_reads
use Rattle.trees.proofs.write_tree.Reads as write_tree_reads
use Rattle.summary.proofs.mark_link.Reads as mark_link_reads
use Rattle.summary.proofs.clear_link.Reads as clear_link_reads
use Rattle.summary.proofs.mark_server.Reads as mark_server_reads
use Rattle.summary.proofs.clear_server.Reads as clear_server_reads
use Rattle.summary.proofs.dead_switch.Reads as dead_switch_reads
use Rattle.summary.proofs.summarize.Reads as summarize_reads
use Rattle.path.proofs.byte_of.Reads as byte_of_reads
use Rattle.path.proofs.parts_of.Reads as parts_of_reads
use Rattle.path.proofs.hop_of.Reads as hop_of_reads
use Rattle.path.proofs.walk.Reads as walk_reads
use Rattle.path.proofs.read_path.Reads as read_path_reads
use Rattle.path.proofs.write_path.Reads as write_path_reads
use Rattle.path.proofs.reverse_path.Reads as reverse_path_reads
use Rattle.verdict.proofs.check_list.Reads as check_list_reads
use Rattle.build.proofs.build_routes.Reads as build_routes_reads
use Rattle.laying.proofs.lay_route.Reads as lay_route_reads
use Rattle.finder.proofs.find_route.Reads as find_route_reads
use Rattle.select.proofs.select_routes.Reads as select_routes_reads
use Rattle.pick.proofs.pick_place.Reads as pick_place_reads
use Rattle.pick.proofs.pick_refusal.Reads as pick_refusal_reads
use Rattle.step.proofs.step_once.Reads as step_once_reads
use Rattle.driver.specs.declared.Room.{Room}
use Rattle.driver.specs.Rooms.{room_of}
use Rattle.driver.specs.Words.{refusal_in}
use Rattle.driver.specs.Packed.{unpacked}
use Rattle.driver.proofs.bcube_shape.Reads as bcube_shape_reads
use Rattle.driver.proofs.bcube_servers.Reads as bcube_servers_reads
use Rattle.driver.proofs.bcube_bound.Reads as bcube_bound_reads
use Rattle.driver.proofs.bcube_switches.Reads as bcube_switches_reads
use Rattle.driver.proofs.bcube_digits.Reads as bcube_digits_reads
use Rattle.driver.proofs.bcube_digit.Reads as bcube_digit_reads
use Rattle.driver.proofs.bcube_address.Reads as bcube_address_reads
use Rattle.driver.proofs.bcube_switch.Reads as bcube_switch_reads
use Rattle.driver.proofs.bcube_server_at.Reads as bcube_server_at_reads
use Rattle.driver.proofs.bcube_neighbour.Reads as bcube_neighbour_reads
use Rattle.driver.proofs.bcube_between.Reads as bcube_between_reads
use Rattle.driver.proofs.bcube_failed_link.Reads as bcube_failed_link_reads
use Rattle.driver.proofs.bcube_mark.Reads as bcube_mark_reads
use Rattle.driver.proofs.bcube_clear.Reads as bcube_clear_reads
use Rattle.driver.proofs.bcube_mark_all.Reads as bcube_mark_all_reads
use Rattle.driver.proofs.bcube_clear_all.Reads as bcube_clear_all_reads
use Rattle.driver.proofs.bcube_dead_switch.Reads as bcube_dead_switch_reads
use Rattle.driver.proofs.bcube_summarize.Reads as bcube_summarize_reads
use Rattle.driver.proofs.bcube_path_byte.Reads as bcube_path_byte_reads
use Rattle.driver.proofs.bcube_path_byte_parts.Reads as bcube_path_byte_parts_reads
use Rattle.driver.proofs.bcube_hop_of.Reads as bcube_hop_of_reads
use Rattle.driver.proofs.bcube_read.Reads as bcube_read_reads
use Rattle.driver.proofs.bcube_write.Reads as bcube_write_reads
use Rattle.driver.proofs.bcube_reverse.Reads as bcube_reverse_reads
use Rattle.driver.proofs.bcube_check.Reads as bcube_check_reads
use Rattle.driver.proofs.bcube_build.Reads as bcube_build_reads
use Rattle.driver.proofs.bcube_find.Reads as bcube_find_reads
use Rattle.driver.proofs.bcube_select.Reads as bcube_select_reads
use Rattle.driver.proofs.bcube_pick.Reads as bcube_pick_reads
use Rattle.driver.proofs.bcube_step.Reads as bcube_step_reads
use Rattle.driver.proofs.bcube_parent.Reads as bcube_parent_reads
use Rattle.driver.proofs.bcube_tree.Reads as bcube_tree_reads
use Rattle.wrong.specs.Never.{NeverTells, Loan, ◌&◌, ◌lends◌, ◌lends_mut◌}
use Rattle.wrong.specs.Examples.{array, stale}
use Rattle.wrong.specs.Told.{number_told, digits_told, switch_told, between_told, asked_told, dead_told, parts_told, hop_told, walk_told, reading_told, writing_told, building_told, found_told, selection_told, place_told, step_told}

-- shapes, each with a number that no call tells of it:
-- 3 of (9,3,10), which has more than 4,096 servers too: 3 tested before 26
-- 26 of (4,4,5): 26 tested before 2
-- 26 of (8,3,8): m = n refused
-- 0 of (8,3,1): m = 1 taken
-- 3 of (12,3,2), which has 3,456 servers: N as n to the power k + 1
abbrev pub shapes : List (Shape × ℕ)
shapes = (shape_of 9 3 10, 3) ∷ (shape_of 4 4 5, 26) ∷ (shape_of 8 3 8, 26) ∷ (shape_of 8 3 1, 0) ∷ (shape_of 12 3 2, 3) ∷ []

-- the same rooms as C holds them, and two numbers that are no room's, each with 0: that of (8,3) in version 2.0, which has no m, and
-- that of (8,3,4) with a bit above its three bytes
abbrev pub rooms : List (Room × ℕ)
rooms =
    map (λ x. (room_of x.0.n x.0.k x.0.m, x.1)) shapes ++ ((record { number = 8 + 256 * 3 }, 0) ∷ (record { number = 16777216 + (8 + (256 * 3 + 65536 * 4)) }, 0) ∷ [])

-- P of each of them and its number
abbrev pub OfEach : {S : Type 0} → List (S × ℕ) → (S → ℕ → Type 0) → Type 0
OfEach {S} xs P = (s : S) (v : ℕ) → In (s, v) xs → P s v

-- between servers 0 and 1, by path byte 01, over a table of no bytes, and with a summary of none
pub record Fill (o q b : Loan) : Type 0 where
  -- ---- from Rattle
  pub shape-refusal : OfEach shapes (λ s. NeverTells shape_refusal_reads.Post (s & tt) told)
  pub server-refusal : OfEach shapes (λ s. NeverTells server_refusal_reads.Post (s & 0 & tt) told)
  pub pair-refusal : OfEach shapes (λ s. NeverTells pair_refusal_reads.Post (s & 0 & 1 & tt) told)
  pub ends-refusal : OfEach shapes (λ s. NeverTells ends_refusal_reads.Post (s & 0 & 1 & tt) told)
  pub link-refusal : OfEach shapes (λ s. NeverTells link_refusal_reads.Post (s & 0 & 0 & tt) told)
  pub servers-of : OfEach shapes (λ s. NeverTells servers_of_reads.Post (s & tt) (λ y. (number_told y).refusal.number))
  pub bound_of : OfEach shapes (λ s. NeverTells bound_of_reads.Post (s & 0 & tt) (λ y. (number_told y).refusal.number))
  pub digits-of : OfEach shapes (λ s. NeverTells digits_of_reads.Post (s & 0 & tt) (λ y. (digits_told y).refusal.number))
  pub digit_of : OfEach shapes (λ s. NeverTells digit_of_reads.Post (s & 0 & 0 & tt) (λ y. (number_told y).refusal.number))
  pub address-of : OfEach shapes (λ s. NeverTells address_of_reads.Post (s & replicate 4 0 & tt) (λ y. (number_told y).refusal.number))
  pub switch-of : OfEach shapes (λ s. NeverTells switch_of_reads.Post (s & 0 & 0 & tt) (λ y. (switch_told y).refusal.number))
  pub switches-of : OfEach shapes (λ s. NeverTells switches_of_reads.Post (s & 0 & tt) (λ y. (number_told y).refusal.number))
  pub server-at : OfEach shapes (λ s. NeverTells server_at_reads.Post (s & 0 & 0 & 0 & tt) (λ y. (number_told y).refusal.number))
  pub neighbour_of : OfEach shapes (λ s. NeverTells neighbour_of_reads.Post (s & 0 & 0 & 1 & tt) (λ y. (number_told y).refusal.number))
  pub level_between : OfEach shapes (λ s. NeverTells level_between_reads.Post (s & 0 & 1 & tt) (λ y. (between_told y).refusal.number))
  pub table-refusal : OfEach shapes (λ s. NeverTells table_refusal_reads.Post (s & o lends [] & tt) told)
  pub room-refusal : OfEach shapes (λ s. NeverTells room_refusal_reads.Post (s & o lends [] & 0 & 1 & tt) told)
  pub failed_link : OfEach shapes (λ s. NeverTells failed_link_reads.Post (s & o lends [] & 0 & 0 & tt) (λ y. (asked_told y).refusal.number))
  pub table-link-refusal : OfEach shapes (λ s. NeverTells table_link_refusal_reads.Post (s & o lends [] & 0 & 0 & tt) told)
  pub table-server-refusal : OfEach shapes (λ s. NeverTells table_server_refusal_reads.Post (s & o lends [] & 0 & tt) told)
  pub parent-of : OfEach shapes (λ s. NeverTells parent_of_reads.Post (s & 0 & 0 & 1 & tt) (λ y. (number_told y).refusal.number))
  pub write_tree : OfEach shapes (λ s. NeverTells write_tree_reads.Post (s & 0 & 0 & b lends_mut stale 4096 & tt) (λ y. (number_told y).refusal.number))
  pub mark-link : OfEach shapes (λ s. NeverTells mark_link_reads.Post (s & o lends_mut [] & q lends_mut [] & 0 & 0 & tt) told)
  pub clear-link : OfEach shapes (λ s. NeverTells clear_link_reads.Post (s & o lends_mut [] & q lends_mut [] & 0 & 0 & tt) told)
  pub mark-server : OfEach shapes (λ s. NeverTells mark_server_reads.Post (s & o lends_mut [] & q lends_mut [] & 0 & tt) told)
  pub clear-server : OfEach shapes (λ s. NeverTells clear_server_reads.Post (s & o lends_mut [] & q lends_mut [] & 0 & tt) told)
  pub dead-switch : OfEach shapes (λ s. NeverTells dead_switch_reads.Post (s & o lends [] & q lends [] & tt) (λ y. (dead_told y).refusal.number))
  pub summarize : OfEach shapes (λ s. NeverTells summarize_reads.Post (s & o lends [] & q lends_mut [] & tt) told)
  pub byte-of : OfEach shapes (λ s. NeverTells byte_of_reads.Post (s & 0 & 1 & tt) (λ y. (number_told y).refusal.number))
  pub parts_of : OfEach shapes (λ s. NeverTells parts_of_reads.Post (s & 0x01 & tt) (λ y. (parts_told y).refusal.number))
  pub hop_of : OfEach shapes (λ s. NeverTells hop_of_reads.Post (s & 0 & 0x01 & tt) (λ y. (hop_told y).refusal.number))
  pub walk : OfEach shapes (λ s. NeverTells walk_reads.Post (s & o lends [] & 0 & 1 & q lends array (0x01 ∷ []) & tt) (λ y. (walk_told y).refusal.number))
  pub read_path : OfEach shapes (λ s. NeverTells read_path_reads.Post (s & 0 & 1 & q lends array (0x01 ∷ []) & tt) (λ y. (reading_told y).refusal.number))
  pub write_path : OfEach shapes (λ s. NeverTells write_path_reads.Post (s & q lends 0 ∷ 1 ∷ [] & tt) (λ y. (writing_told y).refusal.number))
  pub reverse_path : OfEach shapes (λ s. NeverTells reverse_path_reads.Post (s & 0 & 1 & q lends array (0x01 ∷ []) & tt) (λ y. (writing_told y).refusal.number))
  pub check_list : OfEach shapes (λ s. NeverTells check_list_reads.Post (s & o lends [] & 0 & 1 & q lends array (0x01 ∷ []) & tt) (λ y. (told_where y).number))
  pub build_routes : OfEach shapes (λ s. NeverTells build_routes_reads.Post (s & 0 & 1 & tt) (λ y. (building_told y).refusal.number))
  pub lay_route : OfEach shapes (λ s. NeverTells lay_route_reads.Post (s & o lends_mut [] & 0 & 1 & q lends array (0x01 ∷ []) & tt) (λ y. (told_where y).number))
  pub find_route : OfEach shapes (λ s. NeverTells find_route_reads.Post (s & o lends [] & 0 & 1 & tt) (λ y. (found_told y).refusal.number))
  pub select_routes : OfEach shapes (λ s. NeverTells select_routes_reads.Post (s & o lends [] & 0 & 1 & tt) (λ y. (selection_told y).refusal.number))
  pub pick_place : OfEach shapes (λ s. NeverTells pick_place_reads.Post (s & o lends [] & 0 & 1 & q lends array (0x01 ∷ []) & b lends [] & tt) (λ y. (place_told y).refusal.number))
  pub pick-refusal : OfEach shapes (λ s. NeverTells pick_refusal_reads.Post (s & o lends [] & 0 & 1 & q lends array (0x01 ∷ []) & b lends [] & tt) told)
  pub step_once : OfEach shapes (λ s. NeverTells step_once_reads.Post (s & 0 & 1 & 0 & q lends array (0x01 ∷ []) & o lends [] & tt) (λ y. (step_told y).refusal.number))
  -- ---- from C
  pub bcube_shape : OfEach rooms (λ c. NeverTells bcube_shape_reads.Post (c & tt) (λ y. (refusal_in y).number))
  pub bcube_servers : OfEach rooms (λ c. NeverTells bcube_servers_reads.Post (c & tt) (λ y. (refusal_in y).number))
  pub bcube_bound : OfEach rooms (λ c. NeverTells bcube_bound_reads.Post (c & 0 & tt) (λ y. (refusal_in y).number))
  pub bcube_switches : OfEach rooms (λ c. NeverTells bcube_switches_reads.Post (c & 0 & tt) (λ y. (refusal_in y).number))
  pub bcube_digits : OfEach rooms (λ c. NeverTells bcube_digits_reads.Post (c & 0 & b lends_mut stale 4 & tt) (λ y. (refusal_in y).number))
  pub bcube_digit : OfEach rooms (λ c. NeverTells bcube_digit_reads.Post (c & 0 & 0 & tt) (λ y. (refusal_in y).number))
  pub bcube_address : OfEach rooms (λ c. NeverTells bcube_address_reads.Post (c & 0 & 0 & 0 & 0 & tt) (λ y. (refusal_in y).number))
  pub bcube_switch : OfEach rooms (λ c. NeverTells bcube_switch_reads.Post (c & 0 & 0 & tt) (λ y. (refusal_in y).number))
  pub bcube_server_at : OfEach rooms (λ c. NeverTells bcube_server_at_reads.Post (c & 0 & 0 & 0 & tt) (λ y. (refusal_in y).number))
  pub bcube_neighbour : OfEach rooms (λ c. NeverTells bcube_neighbour_reads.Post (c & 0 & 0 & 1 & tt) (λ y. (refusal_in y).number))
  pub bcube_between : OfEach rooms (λ c. NeverTells bcube_between_reads.Post (c & 0 & 1 & tt) (λ y. (refusal_in y).number))
  pub bcube_failed_link : OfEach rooms (λ c. NeverTells bcube_failed_link_reads.Post (c & 0 & 0 & o lends [] & tt) (λ y. (refusal_in y).number))
  pub bcube_mark : OfEach rooms (λ c. NeverTells bcube_mark_reads.Post (c & 0 & 0 & o lends_mut [] & q lends_mut [] & tt) (λ y. (refusal_in y).number))
  pub bcube_clear : OfEach rooms (λ c. NeverTells bcube_clear_reads.Post (c & 0 & 0 & o lends_mut [] & q lends_mut [] & tt) (λ y. (refusal_in y).number))
  pub bcube_mark_all : OfEach rooms (λ c. NeverTells bcube_mark_all_reads.Post (c & 0 & o lends_mut [] & q lends_mut [] & tt) (λ y. (refusal_in y).number))
  pub bcube_clear_all : OfEach rooms (λ c. NeverTells bcube_clear_all_reads.Post (c & 0 & o lends_mut [] & q lends_mut [] & tt) (λ y. (refusal_in y).number))
  pub bcube_dead_switch : OfEach rooms (λ c. NeverTells bcube_dead_switch_reads.Post (c & o lends [] & q lends [] & tt) (λ y. (refusal_in y).number))
  pub bcube_summarize : OfEach rooms (λ c. NeverTells bcube_summarize_reads.Post (c & o lends [] & q lends_mut [] & tt) (λ y. (refusal_in y).number))
  pub bcube_path_byte : OfEach rooms (λ c. NeverTells bcube_path_byte_reads.Post (c & 0 & 1 & tt) (λ y. (refusal_in y).number))
  pub bcube_path_byte_parts : OfEach rooms (λ c. NeverTells bcube_path_byte_parts_reads.Post (c & 0x01 & tt) (λ y. (refusal_in y).number))
  pub bcube_hop_of : OfEach rooms (λ c. NeverTells bcube_hop_of_reads.Post (c & 0 & 0x01 & tt) (λ y. (refusal_in y).number))
  pub bcube_read : OfEach rooms (λ c. NeverTells bcube_read_reads.Post (c & 0 & 1 & q lends array (0x01 ∷ []) & b lends_mut stale 9 & tt) (λ y. (refusal_in y).number))
  pub bcube_write : OfEach rooms (λ c. NeverTells bcube_write_reads.Post (c & q lends 0 ∷ 1 ∷ [] & b lends_mut stale 8 & tt) (λ y. (refusal_in y).number))
  pub bcube_reverse : OfEach rooms (λ c. NeverTells bcube_reverse_reads.Post (c & 0 & 1 & q lends array (0x01 ∷ []) & b lends_mut stale 8 & tt) (λ y. (refusal_in y).number))
  pub bcube_check : OfEach rooms (λ c. NeverTells bcube_check_reads.Post (c & 0 & 1 & o lends [] & q lends array (0x01 ∷ []) & tt) (λ y. (refusal_in y).number))
  pub bcube_build : OfEach rooms (λ c. NeverTells bcube_build_reads.Post (c & 0 & 1 & b lends_mut stale 32 & tt) (λ y. (refusal_in y).number))
  pub bcube_find : OfEach rooms (λ c. NeverTells bcube_find_reads.Post (c & 0 & 1 & o lends [] & b lends_mut stale 8 & tt) (λ y. (refusal_in y).number))
  pub bcube_select : OfEach rooms (λ c. NeverTells bcube_select_reads.Post (c & 0 & 1 & o lends [] & b lends_mut stale 32 & tt) (λ y. (refusal_in y).number))
  pub bcube_pick : OfEach rooms (λ c. NeverTells bcube_pick_reads.Post (c & 0 & 1 & o lends [] & q lends array (0x01 ∷ []) & b lends [] & tt) (λ y. (refusal_in y).number))
  pub bcube_step : OfEach rooms (λ c. NeverTells bcube_step_reads.Post (c & 0 & 1 & 0 & q lends array (0x01 ∷ []) & o lends [] & tt) (λ y. (unpacked y).refusal.number))
  pub bcube_parent : OfEach rooms (λ c. NeverTells bcube_parent_reads.Post (c & 0 & 0 & 1 & tt) (λ y. (refusal_in y).number))
  pub bcube_tree : OfEach rooms (λ c. NeverTells bcube_tree_reads.Post (c & 0 & 0 & b lends_mut stale 4096 & tt) (λ y. (refusal_in y).number))
