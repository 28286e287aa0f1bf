-- Each call's contract determines its answer and the buffer left behind: whatever meets it on some arguments is the one
-- answer to them.
use mathlib.Core.Path.{◌≡◌, ◌∙◌, sym, ap}
use borrow.Fn.Kinds.{Dens, ended_of, res_t}
use denote.Triple.Clauses.{AtExit}
use contract.Lifetimes.{Lfts}
use Rattle.refusals.specs.Determined.{Determined, Leaves}
use Prim.Native.Nat.{ℕ}
use mathlib.Core.List.{List}
use Rattle.room.specs.declared.Shape.{Shape}
use Rattle.finder.specs.Told.{Found}
use Rattle.finder.proofs.Unique.{finding-unique}
use Rattle.select.specs.Told.{Selection}
use Rattle.select.proofs.OneAnswer.{selecting-unique}
use Rattle.driver.specs.declared.Answer.{Answer}
use Rattle.driver.specs.Words.{word, left}
use Rattle.driver.specs.Routes.{FoundWord, SelectedWord}
use Rattle.driver.proofs.rooms.bcube_switches.Reads as bcube_switches
use Rattle.driver.proofs.rooms.bcube_switches.Kinds as bcube_switches_kinds
use Rattle.driver.proofs.rooms.bcube_server_at.Reads as bcube_server_at
use Rattle.driver.proofs.rooms.bcube_server_at.Kinds as bcube_server_at_kinds
use Rattle.driver.proofs.paths.bcube_path_byte.Reads as bcube_path_byte
use Rattle.driver.proofs.paths.bcube_path_byte.Kinds as bcube_path_byte_kinds
use Rattle.driver.proofs.paths.bcube_hop_of.Reads as bcube_hop_of
use Rattle.driver.proofs.paths.bcube_hop_of.Kinds as bcube_hop_of_kinds
use Rattle.driver.proofs.paths.bcube_path_byte_parts.Reads as bcube_path_byte_parts
use Rattle.driver.proofs.paths.bcube_path_byte_parts.Kinds as bcube_path_byte_parts_kinds
use Rattle.driver.proofs.shapes.bcube_version.Reads as bcube_version
use Rattle.driver.proofs.shapes.bcube_version.Kinds as bcube_version_kinds
use Rattle.driver.proofs.rooms.bcube_shape.Reads as bcube_shape
use Rattle.driver.proofs.rooms.bcube_shape.Kinds as bcube_shape_kinds
use Rattle.driver.proofs.rooms.bcube_servers.Reads as bcube_servers
use Rattle.driver.proofs.rooms.bcube_servers.Kinds as bcube_servers_kinds
use Rattle.driver.proofs.rooms.bcube_bound.Reads as bcube_bound
use Rattle.driver.proofs.rooms.bcube_bound.Kinds as bcube_bound_kinds
use Rattle.driver.proofs.rooms.bcube_digits.Reads as bcube_digits
use Rattle.driver.proofs.rooms.bcube_digits.Kinds as bcube_digits_kinds
use Rattle.driver.proofs.rooms.bcube_digit.Reads as bcube_digit
use Rattle.driver.proofs.rooms.bcube_digit.Kinds as bcube_digit_kinds
use Rattle.driver.proofs.rooms.bcube_address.Reads as bcube_address
use Rattle.driver.proofs.rooms.bcube_address.Kinds as bcube_address_kinds
use Rattle.driver.proofs.rooms.bcube_switch.Reads as bcube_switch
use Rattle.driver.proofs.rooms.bcube_switch.Kinds as bcube_switch_kinds
use Rattle.driver.proofs.rooms.bcube_neighbour.Reads as bcube_neighbour
use Rattle.driver.proofs.rooms.bcube_neighbour.Kinds as bcube_neighbour_kinds
use Rattle.driver.proofs.rooms.bcube_between.Reads as bcube_between
use Rattle.driver.proofs.rooms.bcube_between.Kinds as bcube_between_kinds
use Rattle.driver.proofs.marks.bcube_mark.Reads as bcube_mark
use Rattle.driver.proofs.marks.bcube_mark.Kinds as bcube_mark_kinds
use Rattle.driver.proofs.marks.bcube_clear.Reads as bcube_clear
use Rattle.driver.proofs.marks.bcube_clear.Kinds as bcube_clear_kinds
use Rattle.driver.proofs.marks.bcube_mark_all.Reads as bcube_mark_all
use Rattle.driver.proofs.marks.bcube_mark_all.Kinds as bcube_mark_all_kinds
use Rattle.driver.proofs.marks.bcube_clear_all.Reads as bcube_clear_all
use Rattle.driver.proofs.marks.bcube_clear_all.Kinds as bcube_clear_all_kinds
use Rattle.driver.proofs.switches.bcube_dead_switch.Reads as bcube_dead_switch
use Rattle.driver.proofs.switches.bcube_dead_switch.Kinds as bcube_dead_switch_kinds
use Rattle.driver.proofs.switches.bcube_summarize.Reads as bcube_summarize
use Rattle.driver.proofs.switches.bcube_summarize.Kinds as bcube_summarize_kinds
use Rattle.driver.proofs.marks.bcube_failed_link.Reads as bcube_failed_link
use Rattle.driver.proofs.marks.bcube_failed_link.Kinds as bcube_failed_link_kinds
use Rattle.driver.proofs.paths.bcube_read.Reads as bcube_read
use Rattle.driver.proofs.paths.bcube_read.Kinds as bcube_read_kinds
use Rattle.driver.proofs.paths.bcube_write.Reads as bcube_write
use Rattle.driver.proofs.paths.bcube_write.Kinds as bcube_write_kinds
use Rattle.driver.proofs.paths.bcube_reverse.Reads as bcube_reverse
use Rattle.driver.proofs.paths.bcube_reverse.Kinds as bcube_reverse_kinds
use Rattle.driver.proofs.paths.bcube_check.Reads as bcube_check
use Rattle.driver.proofs.paths.bcube_check.Kinds as bcube_check_kinds
use Rattle.driver.proofs.routes.bcube_build.Reads as bcube_build
use Rattle.driver.proofs.routes.bcube_build.Kinds as bcube_build_kinds
use Rattle.driver.proofs.routes.bcube_find.Reads as bcube_find
use Rattle.driver.proofs.routes.bcube_find.Kinds as bcube_find_kinds
use Rattle.driver.proofs.routes.bcube_select.Reads as bcube_select
use Rattle.driver.proofs.routes.bcube_select.Kinds as bcube_select_kinds
use Rattle.driver.proofs.picks.bcube_pick.Reads as bcube_pick
use Rattle.driver.proofs.picks.bcube_pick.Kinds as bcube_pick_kinds
use Rattle.driver.proofs.steps.bcube_step.Reads as bcube_step
use Rattle.driver.proofs.steps.bcube_step.Kinds as bcube_step_kinds
use Rattle.driver.proofs.parents.bcube_parent.Reads as bcube_parent
use Rattle.driver.proofs.parents.bcube_parent.Kinds as bcube_parent_kinds
use Rattle.driver.proofs.parents.bcube_tree.Reads as bcube_tree
use Rattle.driver.proofs.parents.bcube_tree.Kinds as bcube_tree_kinds
use Rattle.driver.proofs.shapes.bcube_room_of.Reads as bcube_room_of
use Rattle.driver.proofs.shapes.bcube_room_of.Kinds as bcube_room_of_kinds
use Rattle.driver.proofs.shapes.bcube_filled_room.Reads as bcube_filled_room
use Rattle.driver.proofs.shapes.bcube_filled_room.Kinds as bcube_filled_room_kinds

-- ---- rooms and failed links

pub bcube_room_of-unique : Determined 0 bcube_room_of_kinds.ps bcube_room_of_kinds.r bcube_room_of.Post
bcube_room_of-unique κs a x y s t e f = e ∙ sym f

pub bcube_filled_room-unique : Determined 0 bcube_filled_room_kinds.ps bcube_filled_room_kinds.r bcube_filled_room.Post
bcube_filled_room-unique κs a x y s t e f = e ∙ sym f

pub bcube_version-unique : Determined 0 bcube_version_kinds.ps bcube_version_kinds.r bcube_version.Post
bcube_version-unique κs a x y s t e f = e ∙ sym f

pub bcube_shape-unique : Determined 0 bcube_shape_kinds.ps bcube_shape_kinds.r bcube_shape.Post
bcube_shape-unique κs a x y s t e f = e ∙ sym f

pub bcube_servers-unique : Determined 0 bcube_servers_kinds.ps bcube_servers_kinds.r bcube_servers.Post
bcube_servers-unique κs a x y s t e f = e ∙ sym f

pub bcube_bound-unique : Determined 0 bcube_bound_kinds.ps bcube_bound_kinds.r bcube_bound.Post
bcube_bound-unique κs a x y s t e f = e ∙ sym f

pub bcube_switches-unique : Determined 0 bcube_switches_kinds.ps bcube_switches_kinds.r bcube_switches.Post
bcube_switches-unique κs a x y s t e f = e ∙ sym f

pub bcube_digits-unique : Determined 1 bcube_digits_kinds.ps bcube_digits_kinds.r bcube_digits.Post
bcube_digits-unique κs a x y s t e f = e.0 ∙ sym f.0

-- the digits in the buffer at exit, its third parameter
pub bcube_digits-leaves : (κs : Lfts 1) (a : Dens κs bcube_digits_kinds.ps) (x y : (res_t bcube_digits_kinds.r κs).Denot) (s t : AtExit (ended_of 1 bcube_digits_kinds.ps bcube_digits_kinds.r) κs) → bcube_digits.Post κs a x s → bcube_digits.Post κs a y t → s.1.1.0.now ≡ t.1.1.0.now
bcube_digits-leaves κs a x y s t e f = e.1 ∙ sym f.1

pub bcube_digit-unique : Determined 0 bcube_digit_kinds.ps bcube_digit_kinds.r bcube_digit.Post
bcube_digit-unique κs a x y s t e f = e ∙ sym f

pub bcube_address-unique : Determined 0 bcube_address_kinds.ps bcube_address_kinds.r bcube_address.Post
bcube_address-unique κs a x y s t e f = e ∙ sym f

pub bcube_switch-unique : Determined 0 bcube_switch_kinds.ps bcube_switch_kinds.r bcube_switch.Post
bcube_switch-unique κs a x y s t e f = e ∙ sym f

pub bcube_server_at-unique : Determined 0 bcube_server_at_kinds.ps bcube_server_at_kinds.r bcube_server_at.Post
bcube_server_at-unique κs a x y s t e f = e ∙ sym f

pub bcube_neighbour-unique : Determined 0 bcube_neighbour_kinds.ps bcube_neighbour_kinds.r bcube_neighbour.Post
bcube_neighbour-unique κs a x y s t e f = e ∙ sym f

pub bcube_between-unique : Determined 0 bcube_between_kinds.ps bcube_between_kinds.r bcube_between.Post
bcube_between-unique κs a x y s t e f = e ∙ sym f

pub bcube_failed_link-unique : Determined 1 bcube_failed_link_kinds.ps bcube_failed_link_kinds.r bcube_failed_link.Post
bcube_failed_link-unique κs a x y s t e f = e ∙ sym f

pub bcube_mark-unique : Determined 2 bcube_mark_kinds.ps bcube_mark_kinds.r bcube_mark.Post
bcube_mark-unique κs a x y s t e f = e.0 ∙ sym f.0

-- the bytes of the table at exit, its fourth parameter, and of the summary, its fifth
pub bcube_mark-leaves : Leaves 2 bcube_mark_kinds.ps bcube_mark_kinds.r bcube_mark.Post (λ κs s. s.1.1.1.0.now)
bcube_mark-leaves κs a x y s t e f = e.1 ∙ sym f.1

pub bcube_mark-leaves_summary : Leaves 2 bcube_mark_kinds.ps bcube_mark_kinds.r bcube_mark.Post (λ κs s. s.1.1.1.1.0.now)
bcube_mark-leaves_summary κs a x y s t e f = e.2 ∙ sym f.2

pub bcube_clear-unique : Determined 2 bcube_clear_kinds.ps bcube_clear_kinds.r bcube_clear.Post
bcube_clear-unique κs a x y s t e f = e.0 ∙ sym f.0

-- the bytes of the table at exit, its fourth parameter, and of the summary, its fifth
pub bcube_clear-leaves : Leaves 2 bcube_clear_kinds.ps bcube_clear_kinds.r bcube_clear.Post (λ κs s. s.1.1.1.0.now)
bcube_clear-leaves κs a x y s t e f = e.1 ∙ sym f.1

pub bcube_clear-leaves_summary : Leaves 2 bcube_clear_kinds.ps bcube_clear_kinds.r bcube_clear.Post (λ κs s. s.1.1.1.1.0.now)
bcube_clear-leaves_summary κs a x y s t e f = e.2 ∙ sym f.2

pub bcube_mark-all-unique : Determined 2 bcube_mark_all_kinds.ps bcube_mark_all_kinds.r bcube_mark_all.Post
bcube_mark-all-unique κs a x y s t e f = e.0 ∙ sym f.0

-- the bytes of the table at exit, its third parameter, and of the summary, its fourth
pub bcube_mark-all-leaves : Leaves 2 bcube_mark_all_kinds.ps bcube_mark_all_kinds.r bcube_mark_all.Post (λ κs s. s.1.1.0.now)
bcube_mark-all-leaves κs a x y s t e f = e.1 ∙ sym f.1

pub bcube_mark-all-leaves_summary : Leaves 2 bcube_mark_all_kinds.ps bcube_mark_all_kinds.r bcube_mark_all.Post (λ κs s. s.1.1.1.0.now)
bcube_mark-all-leaves_summary κs a x y s t e f = e.2 ∙ sym f.2

pub bcube_clear-all-unique : Determined 2 bcube_clear_all_kinds.ps bcube_clear_all_kinds.r bcube_clear_all.Post
bcube_clear-all-unique κs a x y s t e f = e.0 ∙ sym f.0

-- the bytes of the table at exit, its third parameter, and of the summary, its fourth
pub bcube_clear-all-leaves : Leaves 2 bcube_clear_all_kinds.ps bcube_clear_all_kinds.r bcube_clear_all.Post (λ κs s. s.1.1.0.now)
bcube_clear-all-leaves κs a x y s t e f = e.1 ∙ sym f.1

pub bcube_clear-all-leaves_summary : Leaves 2 bcube_clear_all_kinds.ps bcube_clear_all_kinds.r bcube_clear_all.Post (λ κs s. s.1.1.1.0.now)
bcube_clear-all-leaves_summary κs a x y s t e f = e.2 ∙ sym f.2

pub bcube_dead_switch-unique : Determined 2 bcube_dead_switch_kinds.ps bcube_dead_switch_kinds.r bcube_dead_switch.Post
bcube_dead_switch-unique κs a x y s t e f = e ∙ sym f

pub bcube_summarize-unique : Determined 2 bcube_summarize_kinds.ps bcube_summarize_kinds.r bcube_summarize.Post
bcube_summarize-unique κs a x y s t e f = e.0 ∙ sym f.0

-- the bytes of the summary at exit, its third parameter
pub bcube_summarize-leaves : Leaves 2 bcube_summarize_kinds.ps bcube_summarize_kinds.r bcube_summarize.Post (λ κs s. s.1.1.0.now)
bcube_summarize-leaves κs a x y s t e f = e.1 ∙ sym f.1

-- ---- path bytes and lists

pub bcube_path_byte-unique : Determined 0 bcube_path_byte_kinds.ps bcube_path_byte_kinds.r bcube_path_byte.Post
bcube_path_byte-unique κs a x y s t e f = e ∙ sym f

pub bcube_hop_of-unique : Determined 0 bcube_hop_of_kinds.ps bcube_hop_of_kinds.r bcube_hop_of.Post
bcube_hop_of-unique κs a x y s t e f = e ∙ sym f

pub bcube_path_byte_parts-unique : Determined 0 bcube_path_byte_parts_kinds.ps bcube_path_byte_parts_kinds.r bcube_path_byte_parts.Post
bcube_path_byte_parts-unique κs a x y s t e f = e ∙ sym f

pub bcube_read-unique : Determined 2 bcube_read_kinds.ps bcube_read_kinds.r bcube_read.Post
bcube_read-unique κs a x y s t e f = e.0 ∙ sym f.0

-- the numbers of `servers` at exit, its fifth parameter
pub bcube_read-leaves : (κs : Lfts 2) (a : Dens κs bcube_read_kinds.ps) (x y : (res_t bcube_read_kinds.r κs).Denot) (s t : AtExit (ended_of 2 bcube_read_kinds.ps bcube_read_kinds.r) κs) → bcube_read.Post κs a x s → bcube_read.Post κs a y t → s.1.1.1.1.0.now ≡ t.1.1.1.1.0.now
bcube_read-leaves κs a x y s t e f = e.1 ∙ sym f.1

pub bcube_write-unique : Determined 2 bcube_write_kinds.ps bcube_write_kinds.r bcube_write.Post
bcube_write-unique κs a x y s t e f = e.0 ∙ sym f.0

-- the numbers of `path` at exit, its third parameter
pub bcube_write-leaves : (κs : Lfts 2) (a : Dens κs bcube_write_kinds.ps) (x y : (res_t bcube_write_kinds.r κs).Denot) (s t : AtExit (ended_of 2 bcube_write_kinds.ps bcube_write_kinds.r) κs) → bcube_write.Post κs a x s → bcube_write.Post κs a y t → s.1.1.0.now ≡ t.1.1.0.now
bcube_write-leaves κs a x y s t e f = e.1 ∙ sym f.1

pub bcube_reverse-unique : Determined 2 bcube_reverse_kinds.ps bcube_reverse_kinds.r bcube_reverse.Post
bcube_reverse-unique κs a x y s t e f = e.0 ∙ sym f.0

-- the numbers of `reversed` at exit, its fifth parameter
pub bcube_reverse-leaves : (κs : Lfts 2) (a : Dens κs bcube_reverse_kinds.ps) (x y : (res_t bcube_reverse_kinds.r κs).Denot) (s t : AtExit (ended_of 2 bcube_reverse_kinds.ps bcube_reverse_kinds.r) κs) → bcube_reverse.Post κs a x s → bcube_reverse.Post κs a y t → s.1.1.1.1.0.now ≡ t.1.1.1.1.0.now
bcube_reverse-leaves κs a x y s t e f = e.1 ∙ sym f.1

pub bcube_check-unique : Determined 2 bcube_check_kinds.ps bcube_check_kinds.r bcube_check.Post
bcube_check-unique κs a x y s t e f = e ∙ sym f

-- ---- routes, picking, the step

module _ {s : Shape} {t : List ℕ} {a d : ℕ} {v w : Answer} {lent x y : List ℕ} where
  found_word : FoundWord s t a d v lent x → FoundWord s t a d w lent y → v ≡ w
  found_word p q =
      p.says ∙ ap (λ (z : Found). word z.refusal z.hops) (finding-unique s t a d p.answer q.answer p.finding q.finding) ∙ sym q.says

  found_left : FoundWord s t a d v lent x → FoundWord s t a d w lent y → x ≡ y
  found_left p q =
      p.leaves ∙ ap (λ (z : Found). left z.refusal.number lent z.bytes) (finding-unique s t a d p.answer q.answer p.finding q.finding) ∙ sym q.leaves

  selected-word : SelectedWord s t a d v lent x → SelectedWord s t a d w lent y → v ≡ w
  selected-word p q =
      p.says ∙ ap (λ (z : Selection). word z.refusal z.routes.count) (selecting-unique p.selecting q.selecting) ∙ sym q.says

  selected-left : SelectedWord s t a d v lent x → SelectedWord s t a d w lent y → x ≡ y
  selected-left p q =
      p.leaves ∙ ap (λ (z : Selection). left z.refusal.number lent z.routes.bytes) (selecting-unique p.selecting q.selecting) ∙ sym q.leaves

pub bcube_build-unique : Determined 1 bcube_build_kinds.ps bcube_build_kinds.r bcube_build.Post
bcube_build-unique κs a x y s t e f = e.0 ∙ sym f.0

-- the bytes of the routes at exit
pub bcube_build-leaves : (κs : Lfts 1) (a : Dens κs bcube_build_kinds.ps) (x y : (res_t bcube_build_kinds.r κs).Denot) (s t : AtExit (ended_of 1 bcube_build_kinds.ps bcube_build_kinds.r) κs) → bcube_build.Post κs a x s → bcube_build.Post κs a y t → s.1.1.1.0.now ≡ t.1.1.1.0.now
bcube_build-leaves κs a x y s t e f = e.1 ∙ sym f.1

pub bcube_find-unique : Determined 2 bcube_find_kinds.ps bcube_find_kinds.r bcube_find.Post
bcube_find-unique κs a x y s t e f = found_word e f

-- the bytes of the path at exit
pub bcube_find-leaves : (κs : Lfts 2) (a : Dens κs bcube_find_kinds.ps) (x y : (res_t bcube_find_kinds.r κs).Denot) (s t : AtExit (ended_of 2 bcube_find_kinds.ps bcube_find_kinds.r) κs) → bcube_find.Post κs a x s → bcube_find.Post κs a y t → s.1.1.1.1.0.now ≡ t.1.1.1.1.0.now
bcube_find-leaves κs a x y s t e f = found_left e f

pub bcube_select-unique : Determined 2 bcube_select_kinds.ps bcube_select_kinds.r bcube_select.Post
bcube_select-unique κs a x y s t e f = selected-word e f

-- the bytes of the routes at exit
pub bcube_select-leaves : (κs : Lfts 2) (a : Dens κs bcube_select_kinds.ps) (x y : (res_t bcube_select_kinds.r κs).Denot) (s t : AtExit (ended_of 2 bcube_select_kinds.ps bcube_select_kinds.r) κs) → bcube_select.Post κs a x s → bcube_select.Post κs a y t → s.1.1.1.1.0.now ≡ t.1.1.1.1.0.now
bcube_select-leaves κs a x y s t e f = selected-left e f

pub bcube_pick-unique : Determined 3 bcube_pick_kinds.ps bcube_pick_kinds.r bcube_pick.Post
bcube_pick-unique κs a x y s t e f = e ∙ sym f

pub bcube_step-unique : Determined 2 bcube_step_kinds.ps bcube_step_kinds.r bcube_step.Post
bcube_step-unique κs a x y s t e f = e ∙ sym f

-- ---- spanning trees

pub bcube_parent-unique : Determined 0 bcube_parent_kinds.ps bcube_parent_kinds.r bcube_parent.Post
bcube_parent-unique κs a x y s t e f = e ∙ sym f

pub bcube_tree-unique : Determined 1 bcube_tree_kinds.ps bcube_tree_kinds.r bcube_tree.Post
bcube_tree-unique κs a x y s t e f = e.0 ∙ sym f.0

-- the numbers of `parents` at exit, its fourth parameter
pub bcube_tree-leaves : Leaves 1 bcube_tree_kinds.ps bcube_tree_kinds.r bcube_tree.Post (λ κs s. s.1.1.1.0.now)
bcube_tree-leaves κs a x y s t e f = e.1 ∙ sym f.1
