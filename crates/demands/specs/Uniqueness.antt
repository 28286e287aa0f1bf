-- Each public function's contract, as the prover reads it from the source: it takes every input, and it determines the answer. A line for
-- each public function, by its name.
use Rattle.std.specs.Prelude.{ℕ, ◌≡◌, List}
use borrow.Fn.Kinds.{ParamKind, Dens, ended_of, res_t}
use denote.Triple.Clauses.{AtExit}
use contract.Lifetimes.{Lfts}
use Rattle.refusals.specs.Determined.{Determined, Leaves}
use Rattle.refusals.proofs.Reason.number.Reads as reason_number_reads
use Rattle.refusals.proofs.Reason.number.Kinds as reason_number_kinds
use Rattle.refusals.proofs.RefusedFromReason.from.Reads as refusal_from_reason_reads
use Rattle.refusals.proofs.RefusedFromReason.from.Kinds as refusal_from_reason_kinds
use Rattle.refusals.proofs.Refused.at.Reads as refusal_at_reads
use Rattle.refusals.proofs.Refused.at.Kinds as refusal_at_kinds
use Rattle.refusals.proofs.Refused.of_route.Reads as refusal_of_route_reads
use Rattle.refusals.proofs.Refused.of_route.Kinds as refusal_of_route_kinds
use Rattle.refusals.proofs.Refused.with_earlier.Reads as refusal_with_earlier_reads
use Rattle.refusals.proofs.Refused.with_earlier.Kinds as refusal_with_earlier_kinds
use Rattle.room.proofs.Shape.new.Reads as shape_new_reads
use Rattle.room.proofs.Shape.new.Kinds as shape_new_kinds
use Rattle.room.proofs.Shape.full.Reads as shape_full_reads
use Rattle.room.proofs.Shape.full.Kinds as shape_full_kinds
use Rattle.room.proofs.shape_refusal.Reads as shape_refusal_reads
use Rattle.room.proofs.shape_refusal.Kinds as shape_refusal_kinds
use Rattle.room.proofs.server_refusal.Reads as server_refusal_reads
use Rattle.room.proofs.server_refusal.Kinds as server_refusal_kinds
use Rattle.room.proofs.pair_refusal.Reads as pair_refusal_reads
use Rattle.room.proofs.pair_refusal.Kinds as pair_refusal_kinds
use Rattle.room.proofs.link_refusal.Reads as link_refusal_reads
use Rattle.room.proofs.link_refusal.Kinds as link_refusal_kinds
use Rattle.room.proofs.power.Reads as power_reads
use Rattle.room.proofs.power.Kinds as power_kinds
use Rattle.room.proofs.server_count.Reads as server_count_reads
use Rattle.room.proofs.server_count.Kinds as server_count_kinds
use Rattle.room.proofs.digit_bound.Reads as digit_bound_reads
use Rattle.room.proofs.digit_bound.Kinds as digit_bound_kinds
use Rattle.room.proofs.servers_of.Reads as servers_of_reads
use Rattle.room.proofs.servers_of.Kinds as servers_of_kinds
use Rattle.room.proofs.bound_of.Reads as bound_of_reads
use Rattle.room.proofs.bound_of.Kinds as bound_of_kinds
use Rattle.room.proofs.digits_of.Reads as digits_of_reads
use Rattle.room.proofs.digits_of.Kinds as digits_of_kinds
use Rattle.room.proofs.digit_of.Reads as digit_of_reads
use Rattle.room.proofs.digit_of.Kinds as digit_of_kinds
use Rattle.room.proofs.address_of.Reads as address_of_reads
use Rattle.room.proofs.address_of.Kinds as address_of_kinds
use Rattle.room.proofs.switch_of.Reads as switch_of_reads
use Rattle.room.proofs.switch_of.Kinds as switch_of_kinds
use Rattle.room.proofs.side_of.Reads as side_of_reads
use Rattle.room.proofs.side_of.Kinds as side_of_kinds
use Rattle.room.proofs.neighbour_of.Reads as neighbour_of_reads
use Rattle.room.proofs.neighbour_of.Kinds as neighbour_of_kinds
use Rattle.room.proofs.level_between.Reads as level_between_reads
use Rattle.room.proofs.level_between.Kinds as level_between_kinds
use Rattle.room.proofs.ends_refusal.Reads as ends_refusal_reads
use Rattle.room.proofs.ends_refusal.Kinds as ends_refusal_kinds
use Rattle.room.proofs.switches_of.Reads as switches_of_reads
use Rattle.room.proofs.switches_of.Kinds as switches_of_kinds
use Rattle.room.proofs.side_at.Reads as side_at_reads
use Rattle.room.proofs.side_at.Kinds as side_at_kinds
use Rattle.room.proofs.server_at.Reads as server_at_reads
use Rattle.room.proofs.server_at.Kinds as server_at_kinds
use Rattle.trees.proofs.parent_of.Reads as parent_of_reads
use Rattle.trees.proofs.parent_of.Kinds as parent_of_kinds
use Rattle.trees.proofs.write_tree.Reads as write_tree_reads
use Rattle.trees.proofs.write_tree.Kinds as write_tree_kinds
use Rattle.links.proofs.failed_link.Reads as failed_link_reads
use Rattle.links.proofs.failed_link.Kinds as failed_link_kinds
use Rattle.links.proofs.put.Reads as put_reads
use Rattle.links.proofs.put.Kinds as put_kinds
use Rattle.links.proofs.mark.Reads as mark_reads
use Rattle.links.proofs.mark.Kinds as mark_kinds
use Rattle.links.proofs.clear.Reads as clear_reads
use Rattle.links.proofs.clear.Kinds as clear_kinds
use Rattle.links.proofs.is_live.Reads as is_live_reads
use Rattle.links.proofs.is_live.Kinds as is_live_kinds
use Rattle.links.proofs.table_refusal.Reads as table_refusal_reads
use Rattle.links.proofs.table_refusal.Kinds as table_refusal_kinds
use Rattle.links.proofs.room_refusal.Reads as room_refusal_reads
use Rattle.links.proofs.room_refusal.Kinds as room_refusal_kinds
use Rattle.links.proofs.is_failed.Reads as is_failed_reads
use Rattle.links.proofs.is_failed.Kinds as is_failed_kinds
use Rattle.links.proofs.table_link_refusal.Reads as table_link_refusal_reads
use Rattle.links.proofs.table_link_refusal.Kinds as table_link_refusal_kinds
use Rattle.links.proofs.table_server_refusal.Reads as table_server_refusal_reads
use Rattle.links.proofs.table_server_refusal.Kinds as table_server_refusal_kinds
use Rattle.summary.proofs.mark_link.Reads as mark_link_reads
use Rattle.summary.proofs.mark_link.Kinds as mark_link_kinds
use Rattle.summary.proofs.clear_link.Reads as clear_link_reads
use Rattle.summary.proofs.clear_link.Kinds as clear_link_kinds
use Rattle.summary.proofs.mark_server.Reads as mark_server_reads
use Rattle.summary.proofs.mark_server.Kinds as mark_server_kinds
use Rattle.summary.proofs.clear_server.Reads as clear_server_reads
use Rattle.summary.proofs.clear_server.Kinds as clear_server_kinds
use Rattle.summary.proofs.dead_switch.Reads as dead_switch_reads
use Rattle.summary.proofs.dead_switch.Kinds as dead_switch_kinds
use Rattle.summary.proofs.summarize.Reads as summarize_reads
use Rattle.summary.proofs.summarize.Kinds as summarize_kinds
use Rattle.path.proofs.hop_of.Reads as hop_of_reads
use Rattle.path.proofs.hop_of.Kinds as hop_of_kinds
use Rattle.path.proofs.level_of.Reads as level_of_reads
use Rattle.path.proofs.level_of.Kinds as level_of_kinds
use Rattle.path.proofs.value_of.Reads as value_of_reads
use Rattle.path.proofs.value_of.Kinds as value_of_kinds
use Rattle.path.proofs.place_in.Reads as place_in_reads
use Rattle.path.proofs.place_in.Kinds as place_in_kinds
use Rattle.path.proofs.walk.Reads as walk_reads
use Rattle.path.proofs.walk.Kinds as walk_kinds
use Rattle.path.proofs.read_path.Reads as read_path_reads
use Rattle.path.proofs.read_path.Kinds as read_path_kinds
use Rattle.path.proofs.write_path.Reads as write_path_reads
use Rattle.path.proofs.write_path.Kinds as write_path_kinds
use Rattle.path.proofs.reverse_path.Reads as reverse_path_reads
use Rattle.path.proofs.reverse_path.Kinds as reverse_path_kinds
use Rattle.path.proofs.byte_of.Reads as byte_of_reads
use Rattle.path.proofs.byte_of.Kinds as byte_of_kinds
use Rattle.path.proofs.parts_of.Reads as parts_of_reads
use Rattle.path.proofs.parts_of.Kinds as parts_of_kinds
use Rattle.verdict.proofs.check_list.Reads as check_list_reads
use Rattle.verdict.proofs.check_list.Kinds as check_list_kinds
use Rattle.build.proofs.RouteSet.new.Reads as route_set_new_reads
use Rattle.build.proofs.RouteSet.new.Kinds as route_set_new_kinds
use Rattle.build.proofs.RouteSet.with_route.Reads as route_set_with_route_reads
use Rattle.build.proofs.RouteSet.with_route.Kinds as route_set_with_route_kinds
use Rattle.build.proofs.build_routes.Reads as build_routes_reads
use Rattle.build.proofs.build_routes.Kinds as build_routes_kinds
use Rattle.laying.proofs.lay_route.Reads as lay_route_reads
use Rattle.laying.proofs.lay_route.Kinds as lay_route_kinds
use Rattle.finder.proofs.find_route.Reads as find_route_reads
use Rattle.finder.proofs.find_route.Kinds as find_route_kinds
use Rattle.select.proofs.select_routes.Reads as select_routes_reads
use Rattle.select.proofs.select_routes.Kinds as select_routes_kinds
use Rattle.pick.proofs.pick_route.Reads as pick_route_reads
use Rattle.pick.proofs.pick_route.Kinds as pick_route_kinds
use Rattle.pick.proofs.pick_place.Reads as pick_place_reads
use Rattle.pick.proofs.pick_place.Kinds as pick_place_kinds
use Rattle.pick.proofs.pick_refusal.Reads as pick_refusal_reads
use Rattle.pick.proofs.pick_refusal.Kinds as pick_refusal_kinds
use Rattle.step.proofs.step_once.Reads as step_once_reads
use Rattle.step.proofs.step_once.Kinds as step_once_kinds
use Rattle.desk_line.proofs.question_of.Reads as question_of_reads
use Rattle.desk_line.proofs.question_of.Kinds as question_of_kinds
use Rattle.desk_line.proofs.tree_question_of.Reads as tree_question_of_reads
use Rattle.desk_line.proofs.tree_question_of.Kinds as tree_question_of_kinds
use Rattle.desk_line.proofs.tree_line.Reads as tree_line_reads
use Rattle.desk_line.proofs.tree_line.Kinds as tree_line_kinds
use Rattle.desk_line.proofs.answer_line.Reads as answer_line_reads
use Rattle.desk_line.proofs.answer_line.Kinds as answer_line_kinds
use Rattle.desk_line.proofs.Text.shown.Reads as text_shown_reads
use Rattle.desk_line.proofs.Text.shown.Kinds as text_shown_kinds
use Rattle.driver.proofs.bcube_version.Reads as c_version_reads
use Rattle.driver.proofs.bcube_version.Kinds as c_version_kinds
use Rattle.driver.proofs.bcube_switches.Reads as c_switches_reads
use Rattle.driver.proofs.bcube_switches.Kinds as c_switches_kinds
use Rattle.driver.proofs.bcube_server_at.Reads as c_server_at_reads
use Rattle.driver.proofs.bcube_server_at.Kinds as c_server_at_kinds
use Rattle.driver.proofs.bcube_path_byte.Reads as c_path_byte_reads
use Rattle.driver.proofs.bcube_path_byte.Kinds as c_path_byte_kinds
use Rattle.driver.proofs.bcube_path_byte_parts.Reads as c_path_byte_parts_reads
use Rattle.driver.proofs.bcube_path_byte_parts.Kinds as c_path_byte_parts_kinds
use Rattle.driver.proofs.bcube_hop_of.Reads as c_hop_of_reads
use Rattle.driver.proofs.bcube_hop_of.Kinds as c_hop_of_kinds
use Rattle.driver.proofs.bcube_room_of.Reads as c_room_of_reads
use Rattle.driver.proofs.bcube_room_of.Kinds as c_room_of_kinds
use Rattle.driver.proofs.bcube_filled_room.Reads as c_filled_room_reads
use Rattle.driver.proofs.bcube_filled_room.Kinds as c_filled_room_kinds
use Rattle.driver.proofs.bcube_shape.Reads as c_shape_reads
use Rattle.driver.proofs.bcube_shape.Kinds as c_shape_kinds
use Rattle.driver.proofs.bcube_servers.Reads as c_servers_reads
use Rattle.driver.proofs.bcube_servers.Kinds as c_servers_kinds
use Rattle.driver.proofs.bcube_bound.Reads as c_bound_reads
use Rattle.driver.proofs.bcube_bound.Kinds as c_bound_kinds
use Rattle.driver.proofs.bcube_digits.Reads as c_digits_reads
use Rattle.driver.proofs.bcube_digits.Kinds as c_digits_kinds
use Rattle.driver.proofs.bcube_digit.Reads as c_digit_reads
use Rattle.driver.proofs.bcube_digit.Kinds as c_digit_kinds
use Rattle.driver.proofs.bcube_address.Reads as c_address_reads
use Rattle.driver.proofs.bcube_address.Kinds as c_address_kinds
use Rattle.driver.proofs.bcube_switch.Reads as c_switch_reads
use Rattle.driver.proofs.bcube_switch.Kinds as c_switch_kinds
use Rattle.driver.proofs.bcube_neighbour.Reads as c_neighbour_reads
use Rattle.driver.proofs.bcube_neighbour.Kinds as c_neighbour_kinds
use Rattle.driver.proofs.bcube_between.Reads as c_between_reads
use Rattle.driver.proofs.bcube_between.Kinds as c_between_kinds
use Rattle.driver.proofs.bcube_mark.Reads as c_mark_reads
use Rattle.driver.proofs.bcube_mark.Kinds as c_mark_kinds
use Rattle.driver.proofs.bcube_clear.Reads as c_clear_reads
use Rattle.driver.proofs.bcube_clear.Kinds as c_clear_kinds
use Rattle.driver.proofs.bcube_mark_all.Reads as c_mark_all_reads
use Rattle.driver.proofs.bcube_mark_all.Kinds as c_mark_all_kinds
use Rattle.driver.proofs.bcube_clear_all.Reads as c_clear_all_reads
use Rattle.driver.proofs.bcube_clear_all.Kinds as c_clear_all_kinds
use Rattle.driver.proofs.bcube_dead_switch.Reads as c_dead_switch_reads
use Rattle.driver.proofs.bcube_dead_switch.Kinds as c_dead_switch_kinds
use Rattle.driver.proofs.bcube_summarize.Reads as c_summarize_reads
use Rattle.driver.proofs.bcube_summarize.Kinds as c_summarize_kinds
use Rattle.driver.proofs.bcube_parent.Reads as c_parent_reads
use Rattle.driver.proofs.bcube_parent.Kinds as c_parent_kinds
use Rattle.driver.proofs.bcube_tree.Reads as c_tree_reads
use Rattle.driver.proofs.bcube_tree.Kinds as c_tree_kinds
use Rattle.driver.proofs.bcube_failed_link.Reads as c_failed_link_reads
use Rattle.driver.proofs.bcube_failed_link.Kinds as c_failed_link_kinds
use Rattle.driver.proofs.bcube_read.Reads as c_read_reads
use Rattle.driver.proofs.bcube_read.Kinds as c_read_kinds
use Rattle.driver.proofs.bcube_write.Reads as c_write_reads
use Rattle.driver.proofs.bcube_write.Kinds as c_write_kinds
use Rattle.driver.proofs.bcube_reverse.Reads as c_reverse_reads
use Rattle.driver.proofs.bcube_reverse.Kinds as c_reverse_kinds
use Rattle.driver.proofs.bcube_check.Reads as c_check_reads
use Rattle.driver.proofs.bcube_check.Kinds as c_check_kinds
use Rattle.driver.proofs.bcube_build.Reads as c_build_reads
use Rattle.driver.proofs.bcube_build.Kinds as c_build_kinds
use Rattle.driver.proofs.bcube_find.Reads as c_find_reads
use Rattle.driver.proofs.bcube_find.Kinds as c_find_kinds
use Rattle.driver.proofs.bcube_select.Reads as c_select_reads
use Rattle.driver.proofs.bcube_select.Kinds as c_select_kinds
use Rattle.driver.proofs.bcube_pick.Reads as c_pick_reads
use Rattle.driver.proofs.bcube_pick.Kinds as c_pick_kinds
use Rattle.driver.proofs.bcube_step.Reads as c_step_reads
use Rattle.driver.proofs.bcube_step.Kinds as c_step_kinds

-- ---- every input is taken: what a function may assume of its arguments holds of all of them

abbrev pub Takes : (n : ℕ) (ps : List (ParamKind n)) → ((κs : Lfts n) → Dens κs ps → Type 0) → Type 0
Takes n ps pre = (κs : Lfts n) (a : Dens κs ps) → pre κs a

pub record EveryInput : Type 0 where
  -- room
  pub shape_new : Takes 0 shape_new_kinds.ps shape_new_reads.Pre
  pub shape_full : Takes 0 shape_full_kinds.ps shape_full_reads.Pre
  pub reason-number : Takes 0 reason_number_kinds.ps reason_number_reads.Pre
  pub refusal_from_reason : Takes 0 refusal_from_reason_kinds.ps refusal_from_reason_reads.Pre
  pub refusal_at : Takes 0 refusal_at_kinds.ps refusal_at_reads.Pre
  pub refusal_of_route : Takes 0 refusal_of_route_kinds.ps refusal_of_route_reads.Pre
  pub refusal_with_earlier : Takes 0 refusal_with_earlier_kinds.ps refusal_with_earlier_reads.Pre
  pub shape-refusal : Takes 0 shape_refusal_kinds.ps shape_refusal_reads.Pre
  pub server-refusal : Takes 0 server_refusal_kinds.ps server_refusal_reads.Pre
  pub pair-refusal : Takes 0 pair_refusal_kinds.ps pair_refusal_reads.Pre
  pub link-refusal : Takes 0 link_refusal_kinds.ps link_refusal_reads.Pre
  pub power : Takes 0 power_kinds.ps power_reads.Pre
  pub server-count : Takes 0 server_count_kinds.ps server_count_reads.Pre
  pub digit_bound : Takes 0 digit_bound_kinds.ps digit_bound_reads.Pre
  pub servers-of : Takes 0 servers_of_kinds.ps servers_of_reads.Pre
  pub bound_of : Takes 0 bound_of_kinds.ps bound_of_reads.Pre
  pub digits_of : Takes 0 digits_of_kinds.ps digits_of_reads.Pre
  pub digit_of : Takes 0 digit_of_kinds.ps digit_of_reads.Pre
  pub address-of : Takes 0 address_of_kinds.ps address_of_reads.Pre
  pub switch-of : Takes 0 switch_of_kinds.ps switch_of_reads.Pre
  pub side-of : Takes 0 side_of_kinds.ps side_of_reads.Pre
  pub side-at : Takes 0 side_at_kinds.ps side_at_reads.Pre
  pub neighbour_of : Takes 0 neighbour_of_kinds.ps neighbour_of_reads.Pre
  pub level_between : Takes 0 level_between_kinds.ps level_between_reads.Pre
  pub switches-of : Takes 0 switches_of_kinds.ps switches_of_reads.Pre
  pub server-at : Takes 0 server_at_kinds.ps server_at_reads.Pre
  -- trees
  pub parent-of : Takes 0 parent_of_kinds.ps parent_of_reads.Pre
  pub write_tree : Takes 1 write_tree_kinds.ps write_tree_reads.Pre
  -- links
  pub failed_link : Takes 1 failed_link_kinds.ps failed_link_reads.Pre
  pub put : Takes 1 put_kinds.ps put_reads.Pre
  pub mark : Takes 1 mark_kinds.ps mark_reads.Pre
  pub clear : Takes 1 clear_kinds.ps clear_reads.Pre
  pub is_live : Takes 1 is_live_kinds.ps is_live_reads.Pre
  pub table-refusal : Takes 1 table_refusal_kinds.ps table_refusal_reads.Pre
  pub room-refusal : Takes 1 room_refusal_kinds.ps room_refusal_reads.Pre
  pub is_failed : Takes 1 is_failed_kinds.ps is_failed_reads.Pre
  pub table-link-refusal : Takes 1 table_link_refusal_kinds.ps table_link_refusal_reads.Pre
  pub table-server-refusal : Takes 1 table_server_refusal_kinds.ps table_server_refusal_reads.Pre
  -- summary
  pub mark-link : Takes 2 mark_link_kinds.ps mark_link_reads.Pre
  pub clear-link : Takes 2 clear_link_kinds.ps clear_link_reads.Pre
  pub mark-server : Takes 2 mark_server_kinds.ps mark_server_reads.Pre
  pub clear-server : Takes 2 clear_server_kinds.ps clear_server_reads.Pre
  pub dead-switch : Takes 2 dead_switch_kinds.ps dead_switch_reads.Pre
  pub summarize : Takes 2 summarize_kinds.ps summarize_reads.Pre
  -- path
  pub byte-of : Takes 0 byte_of_kinds.ps byte_of_reads.Pre
  pub parts_of : Takes 0 parts_of_kinds.ps parts_of_reads.Pre
  pub hop_of : Takes 0 hop_of_kinds.ps hop_of_reads.Pre
  pub level-of : Takes 0 level_of_kinds.ps level_of_reads.Pre
  pub value-of : Takes 0 value_of_kinds.ps value_of_reads.Pre
  pub place-in : Takes 1 place_in_kinds.ps place_in_reads.Pre
  pub ends-refusal : Takes 0 ends_refusal_kinds.ps ends_refusal_reads.Pre
  pub walk : Takes 2 walk_kinds.ps walk_reads.Pre
  pub read_path : Takes 1 read_path_kinds.ps read_path_reads.Pre
  pub write_path : Takes 1 write_path_kinds.ps write_path_reads.Pre
  pub reverse_path : Takes 1 reverse_path_kinds.ps reverse_path_reads.Pre
  -- verdict
  pub check_list : Takes 2 check_list_kinds.ps check_list_reads.Pre
  -- build
  pub route_set_new : Takes 0 route_set_new_kinds.ps route_set_new_reads.Pre
  pub route_set_with_route : Takes 0 route_set_with_route_kinds.ps route_set_with_route_reads.Pre
  pub build_routes : Takes 0 build_routes_kinds.ps build_routes_reads.Pre
  -- laying
  pub lay_route : Takes 2 lay_route_kinds.ps lay_route_reads.Pre
  -- finder
  pub find_route : Takes 1 find_route_kinds.ps find_route_reads.Pre
  -- select
  pub select_routes : Takes 1 select_routes_kinds.ps select_routes_reads.Pre
  -- pick
  pub pick_route : Takes 2 pick_route_kinds.ps pick_route_reads.Pre
  pub pick_place : Takes 3 pick_place_kinds.ps pick_place_reads.Pre
  pub pick-refusal : Takes 3 pick_refusal_kinds.ps pick_refusal_reads.Pre
  -- step
  pub step_once : Takes 2 step_once_kinds.ps step_once_reads.Pre
  -- desk_line
  pub question-of : Takes 1 question_of_kinds.ps question_of_reads.Pre
  pub answer_line : Takes 1 answer_line_kinds.ps answer_line_reads.Pre
  pub tree-question-of : Takes 1 tree_question_of_kinds.ps tree_question_of_reads.Pre
  pub tree-line : Takes 0 tree_line_kinds.ps tree_line_reads.Pre
  pub text-shown : Takes 1 text_shown_kinds.ps text_shown_reads.Pre
  -- driver: what C calls as bcube_room_of, and so on
  pub c_version : Takes 0 c_version_kinds.ps c_version_reads.Pre
  pub c_switches : Takes 0 c_switches_kinds.ps c_switches_reads.Pre
  pub c_server_at : Takes 0 c_server_at_kinds.ps c_server_at_reads.Pre
  pub c_path_byte : Takes 0 c_path_byte_kinds.ps c_path_byte_reads.Pre
  pub c_path_byte_parts : Takes 0 c_path_byte_parts_kinds.ps c_path_byte_parts_reads.Pre
  pub c_hop_of : Takes 0 c_hop_of_kinds.ps c_hop_of_reads.Pre
  pub c_room_of : Takes 0 c_room_of_kinds.ps c_room_of_reads.Pre
  pub c_filled_room : Takes 0 c_filled_room_kinds.ps c_filled_room_reads.Pre
  pub c_shape : Takes 0 c_shape_kinds.ps c_shape_reads.Pre
  pub c_servers : Takes 0 c_servers_kinds.ps c_servers_reads.Pre
  pub c_bound : Takes 0 c_bound_kinds.ps c_bound_reads.Pre
  pub c_digits : Takes 1 c_digits_kinds.ps c_digits_reads.Pre
  pub c_digit : Takes 0 c_digit_kinds.ps c_digit_reads.Pre
  pub c_address : Takes 0 c_address_kinds.ps c_address_reads.Pre
  pub c_switch : Takes 0 c_switch_kinds.ps c_switch_reads.Pre
  pub c_neighbour : Takes 0 c_neighbour_kinds.ps c_neighbour_reads.Pre
  pub c_between : Takes 0 c_between_kinds.ps c_between_reads.Pre
  pub c_parent : Takes 0 c_parent_kinds.ps c_parent_reads.Pre
  pub c_tree : Takes 1 c_tree_kinds.ps c_tree_reads.Pre
  pub c_failed_link : Takes 1 c_failed_link_kinds.ps c_failed_link_reads.Pre
  pub c_mark : Takes 2 c_mark_kinds.ps c_mark_reads.Pre
  pub c_clear : Takes 2 c_clear_kinds.ps c_clear_reads.Pre
  pub c_mark_all : Takes 2 c_mark_all_kinds.ps c_mark_all_reads.Pre
  pub c_clear_all : Takes 2 c_clear_all_kinds.ps c_clear_all_reads.Pre
  pub c_dead_switch : Takes 2 c_dead_switch_kinds.ps c_dead_switch_reads.Pre
  pub c_summarize : Takes 2 c_summarize_kinds.ps c_summarize_reads.Pre
  pub c_read : Takes 2 c_read_kinds.ps c_read_reads.Pre
  pub c_write : Takes 2 c_write_kinds.ps c_write_reads.Pre
  pub c_reverse : Takes 2 c_reverse_kinds.ps c_reverse_reads.Pre
  pub c_check : Takes 2 c_check_kinds.ps c_check_reads.Pre
  pub c_build : Takes 1 c_build_kinds.ps c_build_reads.Pre
  pub c_find : Takes 2 c_find_kinds.ps c_find_reads.Pre
  pub c_select : Takes 2 c_select_kinds.ps c_select_reads.Pre
  pub c_pick : Takes 3 c_pick_kinds.ps c_pick_reads.Pre
  pub c_step : Takes 2 c_step_kinds.ps c_step_reads.Pre

-- ---- the answer is determined: two results that a contract allows at the same arguments are equal, which is `Determined`

pub record Uniqueness : Type 0 where
  -- room
  pub shape_new : Determined 0 shape_new_kinds.ps shape_new_kinds.r shape_new_reads.Post
  pub shape_full : Determined 0 shape_full_kinds.ps shape_full_kinds.r shape_full_reads.Post
  pub reason-number : Determined 0 reason_number_kinds.ps reason_number_kinds.r reason_number_reads.Post
  pub refusal_from_reason : Determined 0 refusal_from_reason_kinds.ps refusal_from_reason_kinds.r refusal_from_reason_reads.Post
  pub refusal_at : Determined 0 refusal_at_kinds.ps refusal_at_kinds.r refusal_at_reads.Post
  pub refusal_of_route : Determined 0 refusal_of_route_kinds.ps refusal_of_route_kinds.r refusal_of_route_reads.Post
  pub refusal_with_earlier : Determined 0 refusal_with_earlier_kinds.ps refusal_with_earlier_kinds.r refusal_with_earlier_reads.Post
  pub shape-refusal : Determined 0 shape_refusal_kinds.ps shape_refusal_kinds.r shape_refusal_reads.Post
  pub server-refusal : Determined 0 server_refusal_kinds.ps server_refusal_kinds.r server_refusal_reads.Post
  pub pair-refusal : Determined 0 pair_refusal_kinds.ps pair_refusal_kinds.r pair_refusal_reads.Post
  pub link-refusal : Determined 0 link_refusal_kinds.ps link_refusal_kinds.r link_refusal_reads.Post
  pub power : Determined 0 power_kinds.ps power_kinds.r power_reads.Post
  pub server-count : Determined 0 server_count_kinds.ps server_count_kinds.r server_count_reads.Post
  pub digit_bound : Determined 0 digit_bound_kinds.ps digit_bound_kinds.r digit_bound_reads.Post
  pub servers-of : Determined 0 servers_of_kinds.ps servers_of_kinds.r servers_of_reads.Post
  pub bound_of : Determined 0 bound_of_kinds.ps bound_of_kinds.r bound_of_reads.Post
  pub digits_of : Determined 0 digits_of_kinds.ps digits_of_kinds.r digits_of_reads.Post
  pub digit_of : Determined 0 digit_of_kinds.ps digit_of_kinds.r digit_of_reads.Post
  pub address-of : Determined 0 address_of_kinds.ps address_of_kinds.r address_of_reads.Post
  pub switch-of : Determined 0 switch_of_kinds.ps switch_of_kinds.r switch_of_reads.Post
  pub side-of : Determined 0 side_of_kinds.ps side_of_kinds.r side_of_reads.Post
  pub side-at : Determined 0 side_at_kinds.ps side_at_kinds.r side_at_reads.Post
  pub neighbour_of : Determined 0 neighbour_of_kinds.ps neighbour_of_kinds.r neighbour_of_reads.Post
  pub level_between : Determined 0 level_between_kinds.ps level_between_kinds.r level_between_reads.Post
  pub switches-of : Determined 0 switches_of_kinds.ps switches_of_kinds.r switches_of_reads.Post
  pub server-at : Determined 0 server_at_kinds.ps server_at_kinds.r server_at_reads.Post
  -- trees
  pub parent-of : Determined 0 parent_of_kinds.ps parent_of_kinds.r parent_of_reads.Post
  pub write_tree : Determined 1 write_tree_kinds.ps write_tree_kinds.r write_tree_reads.Post
  -- and the numbers that it leaves behind
  pub write_tree_leaves : Leaves 1 write_tree_kinds.ps write_tree_kinds.r write_tree_reads.Post (λ κs s. s.1.1.1.0.now)
  -- links
  pub failed_link : Determined 1 failed_link_kinds.ps failed_link_kinds.r failed_link_reads.Post
  pub put : Leaves 1 put_kinds.ps put_kinds.r put_reads.Post (λ κs s. s.0.now)
  pub mark : Leaves 1 mark_kinds.ps mark_kinds.r mark_reads.Post (λ κs s. s.0.now)
  pub clear : Leaves 1 clear_kinds.ps clear_kinds.r clear_reads.Post (λ κs s. s.0.now)
  pub is_live : Determined 1 is_live_kinds.ps is_live_kinds.r is_live_reads.Post
  pub table-refusal : Determined 1 table_refusal_kinds.ps table_refusal_kinds.r table_refusal_reads.Post
  pub room-refusal : Determined 1 room_refusal_kinds.ps room_refusal_kinds.r room_refusal_reads.Post
  pub is_failed : Determined 1 is_failed_kinds.ps is_failed_kinds.r is_failed_reads.Post
  pub table-link-refusal : Determined 1 table_link_refusal_kinds.ps table_link_refusal_kinds.r table_link_refusal_reads.Post
  pub table-server-refusal : Determined 1 table_server_refusal_kinds.ps table_server_refusal_kinds.r table_server_refusal_reads.Post
  -- summary
  pub mark-link : Determined 2 mark_link_kinds.ps mark_link_kinds.r mark_link_reads.Post
  -- and the bytes of the table and of the summary that it leaves behind
  pub mark_link_leaves : Leaves 2 mark_link_kinds.ps mark_link_kinds.r mark_link_reads.Post (λ κs s. s.1.0.now)
  pub mark_link_leaves_summary : Leaves 2 mark_link_kinds.ps mark_link_kinds.r mark_link_reads.Post (λ κs s. s.1.1.0.now)
  pub clear-link : Determined 2 clear_link_kinds.ps clear_link_kinds.r clear_link_reads.Post
  -- and the bytes of the table and of the summary that it leaves behind
  pub clear_link_leaves : Leaves 2 clear_link_kinds.ps clear_link_kinds.r clear_link_reads.Post (λ κs s. s.1.0.now)
  pub clear_link_leaves_summary : Leaves 2 clear_link_kinds.ps clear_link_kinds.r clear_link_reads.Post (λ κs s. s.1.1.0.now)
  pub mark-server : Determined 2 mark_server_kinds.ps mark_server_kinds.r mark_server_reads.Post
  -- and the bytes of the table and of the summary that it leaves behind
  pub mark_server_leaves : Leaves 2 mark_server_kinds.ps mark_server_kinds.r mark_server_reads.Post (λ κs s. s.1.0.now)
  pub mark_server_leaves_summary : Leaves 2 mark_server_kinds.ps mark_server_kinds.r mark_server_reads.Post (λ κs s. s.1.1.0.now)
  pub clear-server : Determined 2 clear_server_kinds.ps clear_server_kinds.r clear_server_reads.Post
  -- and the bytes of the table and of the summary that it leaves behind
  pub clear_server_leaves : Leaves 2 clear_server_kinds.ps clear_server_kinds.r clear_server_reads.Post (λ κs s. s.1.0.now)
  pub clear_server_leaves_summary : Leaves 2 clear_server_kinds.ps clear_server_kinds.r clear_server_reads.Post (λ κs s. s.1.1.0.now)
  pub dead-switch : Determined 2 dead_switch_kinds.ps dead_switch_kinds.r dead_switch_reads.Post
  pub summarize : Determined 2 summarize_kinds.ps summarize_kinds.r summarize_reads.Post
  -- and the bytes of the summary that it leaves behind
  pub summarize_leaves : Leaves 2 summarize_kinds.ps summarize_kinds.r summarize_reads.Post (λ κs s. s.1.1.0.now)
  -- path
  pub byte-of : Determined 0 byte_of_kinds.ps byte_of_kinds.r byte_of_reads.Post
  pub parts_of : Determined 0 parts_of_kinds.ps parts_of_kinds.r parts_of_reads.Post
  pub hop_of : Determined 0 hop_of_kinds.ps hop_of_kinds.r hop_of_reads.Post
  pub level-of : Determined 0 level_of_kinds.ps level_of_kinds.r level_of_reads.Post
  pub value-of : Determined 0 value_of_kinds.ps value_of_kinds.r value_of_reads.Post
  pub place-in : Determined 1 place_in_kinds.ps place_in_kinds.r place_in_reads.Post
  pub ends-refusal : Determined 0 ends_refusal_kinds.ps ends_refusal_kinds.r ends_refusal_reads.Post
  pub walk : Determined 2 walk_kinds.ps walk_kinds.r walk_reads.Post
  pub read_path : Determined 1 read_path_kinds.ps read_path_kinds.r read_path_reads.Post
  pub write_path : Determined 1 write_path_kinds.ps write_path_kinds.r write_path_reads.Post
  pub reverse_path : Determined 1 reverse_path_kinds.ps reverse_path_kinds.r reverse_path_reads.Post
  -- verdict
  pub check_list : Determined 2 check_list_kinds.ps check_list_kinds.r check_list_reads.Post
  -- build
  pub route_set_new : Determined 0 route_set_new_kinds.ps route_set_new_kinds.r route_set_new_reads.Post
  pub route_set_with_route : Determined 0 route_set_with_route_kinds.ps route_set_with_route_kinds.r route_set_with_route_reads.Post
  pub build_routes : Determined 0 build_routes_kinds.ps build_routes_kinds.r build_routes_reads.Post
  -- laying
  pub lay_route : Determined 2 lay_route_kinds.ps lay_route_kinds.r lay_route_reads.Post
  -- and the bytes of the table that it leaves behind
  pub lay_route_leaves : Leaves 2 lay_route_kinds.ps lay_route_kinds.r lay_route_reads.Post (λ κs s. s.1.0.now)
  -- finder
  pub find_route : Determined 1 find_route_kinds.ps find_route_kinds.r find_route_reads.Post
  -- select
  pub select_routes : Determined 1 select_routes_kinds.ps select_routes_kinds.r select_routes_reads.Post
  -- pick
  -- of the part that is returned: its bytes, and the block and offset where it lies
  pub pick_route : (κs : Lfts 2) (a : Dens κs pick_route_kinds.ps) (x y : (res_t pick_route_kinds.r κs).Denot) (s t : AtExit (ended_of 2 pick_route_kinds.ps pick_route_kinds.r) κs) → pick_route_reads.Post κs a x s → pick_route_reads.Post κs a y t → (x.now ≡ y.now) × (x.ref_ptr ≡ y.ref_ptr)
  pub pick_place : Determined 3 pick_place_kinds.ps pick_place_kinds.r pick_place_reads.Post
  pub pick-refusal : Determined 3 pick_refusal_kinds.ps pick_refusal_kinds.r pick_refusal_reads.Post
  -- step
  pub step_once : Determined 2 step_once_kinds.ps step_once_kinds.r step_once_reads.Post
  -- desk_line
  pub question-of : Determined 1 question_of_kinds.ps question_of_kinds.r question_of_reads.Post
  pub answer_line : Determined 1 answer_line_kinds.ps answer_line_kinds.r answer_line_reads.Post
  pub tree-question-of : Determined 1 tree_question_of_kinds.ps tree_question_of_kinds.r tree_question_of_reads.Post
  pub tree-line : Determined 0 tree_line_kinds.ps tree_line_kinds.r tree_line_reads.Post
  -- of the part that shows a text, its bytes, and the block and offset where it lies
  pub text-shown : (κs : Lfts 1) (a : Dens κs text_shown_kinds.ps) (x y : (res_t text_shown_kinds.r κs).Denot) (s t : AtExit (ended_of 1 text_shown_kinds.ps text_shown_kinds.r) κs) → text_shown_reads.Post κs a x s → text_shown_reads.Post κs a y t → (x.now ≡ y.now) × (x.ref_ptr ≡ y.ref_ptr)
  -- driver: what C calls as bcube_room_of, and so on
  pub c_version : Determined 0 c_version_kinds.ps c_version_kinds.r c_version_reads.Post
  pub c_switches : Determined 0 c_switches_kinds.ps c_switches_kinds.r c_switches_reads.Post
  pub c_server_at : Determined 0 c_server_at_kinds.ps c_server_at_kinds.r c_server_at_reads.Post
  pub c_path_byte : Determined 0 c_path_byte_kinds.ps c_path_byte_kinds.r c_path_byte_reads.Post
  pub c_path_byte_parts : Determined 0 c_path_byte_parts_kinds.ps c_path_byte_parts_kinds.r c_path_byte_parts_reads.Post
  pub c_hop_of : Determined 0 c_hop_of_kinds.ps c_hop_of_kinds.r c_hop_of_reads.Post
  pub c_room_of : Determined 0 c_room_of_kinds.ps c_room_of_kinds.r c_room_of_reads.Post
  pub c_filled_room : Determined 0 c_filled_room_kinds.ps c_filled_room_kinds.r c_filled_room_reads.Post
  pub c_shape : Determined 0 c_shape_kinds.ps c_shape_kinds.r c_shape_reads.Post
  pub c_servers : Determined 0 c_servers_kinds.ps c_servers_kinds.r c_servers_reads.Post
  pub c_bound : Determined 0 c_bound_kinds.ps c_bound_kinds.r c_bound_reads.Post
  pub c_digits : Determined 1 c_digits_kinds.ps c_digits_kinds.r c_digits_reads.Post
  -- and the buffer that it leaves behind
  pub c_digits_leaves : Leaves 1 c_digits_kinds.ps c_digits_kinds.r c_digits_reads.Post (λ κs s. s.1.1.0.now)
  pub c_digit : Determined 0 c_digit_kinds.ps c_digit_kinds.r c_digit_reads.Post
  pub c_address : Determined 0 c_address_kinds.ps c_address_kinds.r c_address_reads.Post
  pub c_switch : Determined 0 c_switch_kinds.ps c_switch_kinds.r c_switch_reads.Post
  pub c_neighbour : Determined 0 c_neighbour_kinds.ps c_neighbour_kinds.r c_neighbour_reads.Post
  pub c_between : Determined 0 c_between_kinds.ps c_between_kinds.r c_between_reads.Post
  pub c_parent : Determined 0 c_parent_kinds.ps c_parent_kinds.r c_parent_reads.Post
  pub c_tree : Determined 1 c_tree_kinds.ps c_tree_kinds.r c_tree_reads.Post
  -- and the numbers that it leaves behind
  pub c_tree_leaves : Leaves 1 c_tree_kinds.ps c_tree_kinds.r c_tree_reads.Post (λ κs s. s.1.1.1.0.now)
  pub c_failed_link : Determined 1 c_failed_link_kinds.ps c_failed_link_kinds.r c_failed_link_reads.Post
  pub c_mark : Determined 2 c_mark_kinds.ps c_mark_kinds.r c_mark_reads.Post
  -- and the two buffers that it leaves behind
  pub c_mark_leaves : Leaves 2 c_mark_kinds.ps c_mark_kinds.r c_mark_reads.Post (λ κs s. s.1.1.1.0.now)
  pub c_mark_leaves_summary : Leaves 2 c_mark_kinds.ps c_mark_kinds.r c_mark_reads.Post (λ κs s. s.1.1.1.1.0.now)
  pub c_clear : Determined 2 c_clear_kinds.ps c_clear_kinds.r c_clear_reads.Post
  -- and the two buffers that it leaves behind
  pub c_clear_leaves : Leaves 2 c_clear_kinds.ps c_clear_kinds.r c_clear_reads.Post (λ κs s. s.1.1.1.0.now)
  pub c_clear_leaves_summary : Leaves 2 c_clear_kinds.ps c_clear_kinds.r c_clear_reads.Post (λ κs s. s.1.1.1.1.0.now)
  pub c_mark_all : Determined 2 c_mark_all_kinds.ps c_mark_all_kinds.r c_mark_all_reads.Post
  -- and the two buffers that it leaves behind
  pub c_mark_all_leaves : Leaves 2 c_mark_all_kinds.ps c_mark_all_kinds.r c_mark_all_reads.Post (λ κs s. s.1.1.0.now)
  pub c_mark_all_leaves_summary : Leaves 2 c_mark_all_kinds.ps c_mark_all_kinds.r c_mark_all_reads.Post (λ κs s. s.1.1.1.0.now)
  pub c_clear_all : Determined 2 c_clear_all_kinds.ps c_clear_all_kinds.r c_clear_all_reads.Post
  -- and the two buffers that it leaves behind
  pub c_clear_all_leaves : Leaves 2 c_clear_all_kinds.ps c_clear_all_kinds.r c_clear_all_reads.Post (λ κs s. s.1.1.0.now)
  pub c_clear_all_leaves_summary : Leaves 2 c_clear_all_kinds.ps c_clear_all_kinds.r c_clear_all_reads.Post (λ κs s. s.1.1.1.0.now)
  pub c_dead_switch : Determined 2 c_dead_switch_kinds.ps c_dead_switch_kinds.r c_dead_switch_reads.Post
  pub c_summarize : Determined 2 c_summarize_kinds.ps c_summarize_kinds.r c_summarize_reads.Post
  -- and the buffer that it leaves behind
  pub c_summarize_leaves : Leaves 2 c_summarize_kinds.ps c_summarize_kinds.r c_summarize_reads.Post (λ κs s. s.1.1.0.now)
  pub c_read : Determined 2 c_read_kinds.ps c_read_kinds.r c_read_reads.Post
  -- and the buffer that it leaves behind
  pub c_read_leaves : Leaves 2 c_read_kinds.ps c_read_kinds.r c_read_reads.Post (λ κs s. s.1.1.1.1.0.now)
  pub c_write : Determined 2 c_write_kinds.ps c_write_kinds.r c_write_reads.Post
  -- and the buffer that it leaves behind
  pub c_write_leaves : Leaves 2 c_write_kinds.ps c_write_kinds.r c_write_reads.Post (λ κs s. s.1.1.0.now)
  pub c_reverse : Determined 2 c_reverse_kinds.ps c_reverse_kinds.r c_reverse_reads.Post
  -- and the buffer that it leaves behind
  pub c_reverse_leaves : Leaves 2 c_reverse_kinds.ps c_reverse_kinds.r c_reverse_reads.Post (λ κs s. s.1.1.1.1.0.now)
  pub c_check : Determined 2 c_check_kinds.ps c_check_kinds.r c_check_reads.Post
  pub c_build : Determined 1 c_build_kinds.ps c_build_kinds.r c_build_reads.Post
  -- and the buffer that it leaves behind
  pub c_build_leaves : Leaves 1 c_build_kinds.ps c_build_kinds.r c_build_reads.Post (λ κs s. s.1.1.1.0.now)
  pub c_find : Determined 2 c_find_kinds.ps c_find_kinds.r c_find_reads.Post
  -- and the buffer that it leaves behind
  pub c_find_leaves : Leaves 2 c_find_kinds.ps c_find_kinds.r c_find_reads.Post (λ κs s. s.1.1.1.1.0.now)
  pub c_select : Determined 2 c_select_kinds.ps c_select_kinds.r c_select_reads.Post
  -- and the buffer that it leaves behind
  pub c_select_leaves : Leaves 2 c_select_kinds.ps c_select_kinds.r c_select_reads.Post (λ κs s. s.1.1.1.1.0.now)
  pub c_pick : Determined 3 c_pick_kinds.ps c_pick_kinds.r c_pick_reads.Post
  pub c_step : Determined 2 c_step_kinds.ps c_step_kinds.r c_step_reads.Post
