-- A spanning tree wrongly told, by the call that names a parent and by the call that writes a tree whole, from Rattle and from C, wherever the
-- buffer lies.
use Rattle.std.specs.Prelude.{ℕ, ◌≤◌, ◌<◌, ◌≡◌, ◌≢◌, List, ◌++◌, length, replicate}
use Rattle.refusals.specs.Refusals.{plain, refused_at}
use Rattle.room.specs.declared.Shape.{Shape}
use Rattle.room.specs.Told.{Number}
use Rattle.room.specs.Shapes.{shape_of, full_room, bound, servers_of, Link}
use Rattle.room.specs.Addresses.{digit, with_digit}
use Rattle.room.specs.Refusals.{link_refusal}
use Rattle.room.specs.Answers.{no_number, a_number}
use Rattle.trees.specs.Trees.{level_at, lowered, parent_of, Child}
use Rattle.trees.specs.Answers.{no_parent}
use Rattle.trees.specs.Figure.{raised}
use Rattle.trees.proofs.parent_of.Reads as parent_of_reads
use Rattle.trees.proofs.write_tree.Reads as write_tree_reads
use Rattle.driver.specs.declared.Room.{Room}
use Rattle.driver.specs.declared.Answer.{Answer}
use Rattle.driver.specs.Rooms.{shape_in}
use Rattle.driver.specs.Words.{refusal_in, value_in}
use Rattle.driver.proofs.bcube_parent.Reads as bcube_parent_reads
use Rattle.driver.proofs.bcube_tree.Reads as bcube_tree_reads
use Rattle.wrong.specs.Never.{NeverLeaves, NeverLeavesAt, NeverTells, NeverSo, Loan, fourth, ◌&◌, ◌lends_mut◌}
use Rattle.wrong.specs.Examples.{stale}
use Rattle.wrong.specs.Again.{room_for}
use Rattle.wrong.specs.Told.{number_told}

-- the number, or the refusal, that a word tells
abbrev pub number_in : Answer → Number
number_in w = record { refusal = refusal_in w; value = value_in w }

-- ---- a wrong parent: `Wrong s a l x v` is that a call never tells v for the parent of server x in tree l of source a, by its value, or by
-- the number of x in a tree written whole

pub record Misparented (Wrong : Shape → ℕ → ℕ → ℕ → ℕ → Type 0) : Type 0 where
  -- raised in place of lowered: of 11 in tree 0 of 00 in (4,1), 21 for 01
  pub raised_for_lowered : Wrong (full_room 4 1) 0 0 5 9
  -- the same of 10, which has the source's digit 0: 11 for 13
  pub raised_at_the_own_level : Wrong (full_room 4 1) 0 0 4 5
  -- the same of 01 in tree 0 of 11 in (4,1,2): 02 for 00
  pub half_filled_raised : Wrong (shape_of 4 1 2) 5 0 1 2
  -- the same of 1011 in tree 1 of 0001 in (8,3,4): 2011 for 0011
  pub raised_at_level_k : Wrong (shape_of 8 3 4) 1 1 521 1033
  -- n for m at level k: of 0001 in tree 3 of 0000 in (8,3,4), 7001 for 3001
  pub n_at_level_k : Wrong (shape_of 8 3 4) 0 3 1 3585
  -- the same of 01 in tree 1 of 11 in (4,1,2), which hangs from the source: 31
  pub n_for_the_source : Wrong (shape_of 4 1 2) 5 1 1 13
  -- the same where there is one level only: of 0 in the tree of 2 in (64,0,3), 63 for 2
  pub n_where_k_is_0 : Wrong (shape_of 64 0 3) 2 0 0 63
  -- m for n at the other levels: of 10 in tree 0 of 11 in (4,1,2), 11 for 13
  pub m_at_level_0 : Wrong (shape_of 4 1 2) 5 0 4 5
  -- the same of 1011 in tree 2 of 0001 in (8,3,4): 1311 for 1711
  pub m_at_level_2 : Wrong (shape_of 8 3 4) 1 2 521 713
  -- the order of the levels downwards: of 111 in tree 0 of 000 in (2,2), 101 for 011
  pub levels_downwards : Wrong (full_room 2 2) 0 0 7 5
  -- the same of 1110 in tree 3 of 0001 in (8,3,4): 1117 for 1010
  pub half_filled_levels_downwards : Wrong (shape_of 8 3 4) 1 3 584 591
  -- every tree's order from level 0 on: of 111 in tree 1 of 000 in (2,2), 011 for 110
  pub levels_from_0 : Wrong (full_room 2 2) 0 1 7 3
  -- the first level of the order for the last: of 11 in tree 0 of 00 in (4,1), 10 for 01
  pub first_for_last : Wrong (full_room 4 1) 0 0 5 4
  -- the tree's own digit not tested: of 30, which has the source's digit 0, 20 for 33
  pub own_digit_not_tested : Wrong (full_room 4 1) 0 0 12 8
  -- digits compared with 0, and not with the source's: of 10 in tree 0 of 03, 13 for 00
  pub zero_for_the_source : Wrong (full_room 4 1) 3 0 4 7
  -- a digit set right at once: of 33 in tree 0 of 00, 03 for 23
  pub digit_right_at_once : Wrong (full_room 4 1) 0 0 15 3
  -- the source as everybody's parent: of 33
  pub source_for_all : Wrong (full_room 4 1) 0 0 15 0
  -- the source as the parent of all its neighbours: of 10, in tree 0
  pub source_for_its_neighbours : Wrong (full_room 4 1) 0 0 4 0
  -- two digits changed: of 11, 00 for 01
  pub both_digits_lowered : Wrong (full_room 4 1) 0 0 5 0
  -- the number lowered in place of the digit: of 10, 03 for 13
  pub number_lowered : Wrong (full_room 4 1) 0 0 4 3
  -- a digit 0 not lowered: 10 itself
  pub own_parent : Wrong (full_room 4 1) 0 0 4 4
  -- the parent in another tree: of 1010 in tree 0 of 0000 in (2,3), 0010, which is that in tree 1
  pub of_the_next_tree : Wrong (full_room 2 3) 0 0 10 2
  -- trees counted from 1: in tree 1 that in tree 0, 1011
  pub of_the_tree_before : Wrong (full_room 2 3) 0 1 10 11
  -- trees counted from the other end: of 1011 in tree 3 of 0001 in (8,3,4), 1010, which is that in tree 0
  pub trees_from_the_other_end : Wrong (shape_of 8 3 4) 1 3 521 520
  -- a child for the parent: 02, which hangs from 01
  pub child_for_parent : Wrong (full_room 4 1) 0 0 1 2
  -- source and server exchanged: of 11 from 00, 30, which is that of 00 from 11
  pub source_and_server_exchanged : Wrong (full_room 4 1) 0 0 5 12
  -- tree and server exchanged: of 01 in tree 0 of 03, 30, which is that of 00 in tree 1
  pub tree_and_server_exchanged : Wrong (full_room 4 1) 3 0 1 12
  -- the level at which it hangs told for the parent: of 1010 in tree 3 of 0000 in (2,3), 1
  pub level_for_parent : Wrong (full_room 2 3) 0 3 10 1
  -- servers counted from 1: of 11, 2 for 1
  pub parent_from_1 : Wrong (full_room 4 1) 0 0 5 2
  -- the number cut to a byte: of 521 in tree 3 of 1 in (8,3,4), 1 for 513
  pub parent_cut : Wrong (shape_of 8 3 4) 1 3 521 1
  -- no parent told of the root, which hangs from the source
  pub root_has_none : Wrong (full_room 4 1) 0 0 1 no_parent

-- of any server x that has a parent in tree l of source a
pub record AnyMisparented (Wrong : ℕ → Type 0) (s : Shape) (a l x : ℕ) : Type 0 where
  -- raised in place of lowered, at any level of more than two values
  pub any_raised : (j : ℕ) → j ≤ s.k → 3 ≤ bound s j → Wrong (raised s j x)
  -- a value from m on at level k, as n for m has it
  pub any_value_from_m : (v : ℕ) → s.m ≤ v → Wrong (with_digit s s.k v x)
  -- the level at a place of the tree's order, though they differ at a later one: the order downwards, or the first for the last
  pub any_level_but_the_last : (i j : ℕ) → i < j → j ≤ s.k → digit s l a ≢ digit s l x → digit s (level_at s.k l j) a ≢ digit s (level_at s.k l j) x → Wrong (lowered s (level_at s.k l i) x)
  -- another level than l, though the server has the source's digit l
  pub any_level_but_the_own : (j : ℕ) → j ≤ s.k → j ≢ l → digit s l a ≡ digit s l x → Wrong (lowered s j x)
  -- another level than l at which the server has the source's digit
  pub any_level_that_agrees : (j : ℕ) → j ≤ s.k → j ≢ l → digit s j a ≡ digit s j x → Wrong (lowered s j x)
  -- the source as the parent of any but the root
  pub any_from_the_source : x ≢ raised s l a → Wrong a
  -- a parent that differs in two digits
  pub any_two_digits_apart : (p i j : ℕ) → i ≢ j → digit s i p ≢ digit s i x → digit s j p ≢ digit s j x → Wrong p
  -- the server itself
  pub any_own_parent : Wrong x
  -- the parent in another tree
  pub any_of_another_tree : (t : ℕ) → t ≤ s.k → l ≢ t → Wrong (parent_of s a t x)
  -- a number that no server has
  pub any_outside : (p : ℕ) → servers_of s ≤ p → Wrong p
  -- no parent
  pub any_has_none : Wrong no_parent

-- ---- a parent wrongly refused: `asked` are the call's arguments by room, source, tree and server, `told` is what it answers

pub record Misrefused {K A R X : Type 0} (post : K → A → R → X → Type 0) (asked : Shape → ℕ → ℕ → ℕ → A) (told : R → Number) : Type 0 where
  -- the first pass one step further, so that the source gets a parent: 00 from 03 in tree 0 of (4,1), and from 30 in tree 1
  pub source_has_a_parent : NeverTells post (asked (full_room 4 1) 0 0 0) told (a_number 3)
  pub source_has_a_parent_at_level_1 : NeverTells post (asked (full_room 4 1) 0 1 0) told (a_number 12)
  -- the same in (4,1,2): 11 from 10, and from 01
  pub half_filled_source_has_a_parent : NeverTells post (asked (shape_of 4 1 2) 5 0 5) told (a_number 4)
  pub half_filled_source_has_a_parent_at_level_1 : NeverTells post (asked (shape_of 4 1 2) 5 1 5) told (a_number 1)
  -- the source its own parent
  pub source_its_own_parent : NeverTells post (asked (full_room 4 1) 3 1 3) told (a_number 3)
  -- no parent told in place of 5
  pub no_parent_for_five : NeverTells post (asked (full_room 4 1) 3 1 3) told (a_number no_parent)
  -- 5 tested before 20: server 3 in tree 2 of source 3
  pub five_before_twenty : NeverTells post (asked (full_room 4 1) 3 2 3) told (no_number 5)
  -- 20 tested before 4: server 16 in tree 2 of source 16
  pub twenty_before_four : NeverTells post (asked (full_room 4 1) 16 2 16) told (no_number 20)
  -- 5 tested before 4: the same in tree 1
  pub five_before_four : NeverTells post (asked (full_room 4 1) 16 1 16) told (no_number 5)
  -- 4 tested before 26: the same in (4,1,1)
  pub four_before_fill : NeverTells post (asked (shape_of 4 1 1) 16 2 16) told (no_number 4)
  -- 4 not tested of the source: 16, whose two digits are those of 00
  pub source_not_tested : NeverTells post (asked (full_room 4 1) 16 0 1) told (a_number 0)
  -- 4 not tested of the server
  pub server_not_tested : NeverTells post (asked (full_room 4 1) 0 0 16) told (a_number 19)
  -- N as n to the power k + 1: source 8 of (4,1,2), and server 8
  pub source_of_the_full_room : NeverTells post (asked (shape_of 4 1 2) 8 0 1) told (a_number 5)
  pub server_of_the_full_room : NeverTells post (asked (shape_of 4 1 2) 0 0 8) told (a_number 11)
  -- tree 2 of (4,1) taken for tree 0, of server 10
  pub trees_go_round : NeverTells post (asked (full_room 4 1) 0 2 4) told (a_number 7)
  -- the last tree, source and server refused
  pub last_tree_refused : NeverTells post (asked (full_room 4 1) 0 1 4) told (no_number 20)
  pub last_source_refused : NeverTells post (asked (full_room 4 1) 15 0 0) told (no_number 4)
  pub last_server_refused : NeverTells post (asked (full_room 4 1) 0 0 15) told (no_number 4)
  -- 5 for the server that has the tree's number
  pub five_for_the_tree : NeverTells post (asked (full_room 4 1) 0 1 1) told (no_number 5)
  -- 5 for server 0, which is not the source
  pub five_for_server_0 : NeverTells post (asked (full_room 4 1) 3 0 0) told (no_number 5)
  -- 5 where the parent is the source: of the root
  pub five_for_the_root : NeverTells post (asked (full_room 4 1) 0 0 1) told (no_number 5)
  -- a value that is not zero beside 5, 20 and 4
  pub value_with_five : NeverTells post (asked (full_room 4 1) 3 0 3) told (record { refusal = plain 5; value = 2 })
  pub no_parent_with_five : NeverTells post (asked (full_room 4 1) 3 0 3) told (record { refusal = plain 5; value = no_parent })
  pub value_with_twenty : NeverTells post (asked (full_room 4 1) 0 2 4) told (record { refusal = plain 20; value = 7 })
  pub value_with_four : NeverTells post (asked (full_room 4 1) 16 0 1) told (record { refusal = plain 4; value = 16 })
  -- a place told with 5, which has none
  pub five_at_route_1 : NeverTells post (asked (full_room 4 1) 3 0 3) told (record { refusal = refused_at 5 1 0; value = 0 })

-- with any arguments
pub record AnyMisrefused {K A R X : Type 0} (post : K → A → R → X → Type 0) (asked : A) (told : R → Number) (s : Shape) (a l x : ℕ) : Type 0 where
  -- a parent of the source
  pub any_source_has_a_parent : a ≡ x → NeverTells post asked (λ r. (told r).refusal.number) 0
  -- a value that is not zero beside a refusal
  pub any_value_on_refusal : NeverSo post asked (λ r. ((told r).refusal.number ≢ 0) × ((told r).value ≢ 0))
  -- a place told with a refusal, which has none
  pub any_place_on_refusal : NeverSo post asked (λ r. (told r).refusal ≢ plain (told r).refusal.number)
  -- a source, a server or a tree that the room has not, taken
  pub any_source_taken : servers_of s ≤ a → NeverTells post asked (λ r. (told r).refusal.number) 0
  pub any_server_taken : servers_of s ≤ x → NeverTells post asked (λ r. (told r).refusal.number) 0
  pub any_tree_taken : s.k < l → NeverTells post asked (λ r. (told r).refusal.number) 0
  -- 20 and 5 told before 4, and 5 before 20
  pub any_twenty_before_four : servers_of s ≤ a → NeverTells post asked (λ r. (told r).refusal.number) 20
  pub any_five_before_four : servers_of s ≤ a → NeverTells post asked (λ r. (told r).refusal.number) 5
  pub any_twenty_before_four_of_the_server : servers_of s ≤ x → NeverTells post asked (λ r. (told r).refusal.number) 20
  pub any_five_before_twenty : s.k < l → NeverTells post asked (λ r. (told r).refusal.number) 5
  -- 20 of a tree that the room has, and 5 of a server that is not the source
  pub any_tree_refused : l ≤ s.k → NeverTells post asked (λ r. (told r).refusal.number) 20
  pub any_other_server_refused : a ≢ x → NeverTells post asked (λ r. (told r).refusal.number) 5

-- ---- a tree wrongly written whole over 4,096 numbers of 0xee: `asked` are the call's arguments by room, source and tree, `told` is what
-- it answers, `left` what it leaves

pub record Misgrown {K A R X : Type 0} (post : K → A → R → X → Type 0) (asked : Shape → ℕ → ℕ → A) (told : R → Number) (left : X → List ℕ) : Type 0 where
  -- the first pass one step further, so that the source gets a parent: 00 from 03 in tree 0 of (4,1), and from 30 in tree 1
  pub source_has_a_parent : NeverLeavesAt post (asked (full_room 4 1) 0 0) left 0 3
  pub source_has_a_parent_at_level_1 : NeverLeavesAt post (asked (full_room 4 1) 0 1) left 0 12
  -- the same in (4,1,2): 11 from 10, and from 01
  pub half_filled_source_has_a_parent : NeverLeavesAt post (asked (shape_of 4 1 2) 5 0) left 5 4
  pub half_filled_source_has_a_parent_at_level_1 : NeverLeavesAt post (asked (shape_of 4 1 2) 5 1) left 5 1
  -- a zero at the source; its own number; N
  pub zero_at_the_source : NeverLeavesAt post (asked (shape_of 4 1 2) 5 0) left 5 0
  pub own_number_at_the_source : NeverLeavesAt post (asked (shape_of 4 1 2) 5 0) left 5 5
  pub count_at_the_source : NeverLeavesAt post (asked (shape_of 4 1 2) 5 0) left 5 8
  -- 4,294,967,295 cut to 16 bits, and to a byte
  pub no_parent_of_16_bits : NeverLeavesAt post (asked (shape_of 4 1 2) 5 0) left 5 65535
  pub no_parent_of_a_byte : NeverLeavesAt post (asked (shape_of 4 1 2) 5 0) left 5 255
  -- the source's number left as it was lent
  pub source_not_written : NeverLeavesAt post (asked (shape_of 4 1 2) 5 0) left 5 0xee
  -- server 0 taken for the source
  pub no_parent_at_0 : NeverLeavesAt post (asked (shape_of 4 1 2) 5 0) left 0 no_parent
  -- the numbers of the others closed up: that of server 6 at the source
  pub source_left_out : NeverLeavesAt post (asked (shape_of 4 1 2) 5 1) left 5 2
  -- the first number past the last server, and the last of all, left as they were lent
  pub past_left_as_lent : NeverLeavesAt post (asked (full_room 4 1) 0 0) left 16 0xee
  pub last_left_as_lent : NeverLeavesAt post (asked (full_room 4 1) 0 0) left 4095 0xee
  -- no parent past the last server
  pub no_parent_past : NeverLeavesAt post (asked (full_room 4 1) 0 0) left 16 no_parent
  -- N as n to the power k + 1: server 8 of (4,1,2), 20, hangs from 10
  pub full_room_written : NeverLeavesAt post (asked (shape_of 4 1 2) 5 0) left 8 4
  -- the tree again past the last server: server 1 of (4,1), 01, hangs from 31
  pub written_again : NeverLeavesAt post (asked (full_room 4 1) 0 1) left 17 13
  -- nothing written; zeros alone
  pub not_written : NeverLeaves post (asked (full_room 4 1) 0 0) left (stale 4096)
  pub zeros_alone : NeverLeaves post (asked (full_room 4 1) 0 0) left (replicate 4096 0)
  -- the numbers touched on refusal 4, which server 16 is, and on 20, which tree 2 is: zeros in all, and in the first sixteen
  pub touched_on_4 : NeverLeaves post (asked (full_room 4 1) 16 0) left (replicate 4096 0)
  pub touched_on_20 : NeverLeaves post (asked (full_room 4 1) 0 2) left (replicate 16 0 ++ stale 4080)
  -- no parent put at the source before the tree is tested
  pub no_parent_on_20 : NeverLeavesAt post (asked (full_room 4 1) 0 2) left 0 no_parent
  -- N - 1, the servers that have a parent, for N; 4,096, the numbers written; the trees; nothing
  pub children_counted : NeverTells post (asked (full_room 4 1) 0 0) told (a_number 15)
  pub numbers_counted : NeverTells post (asked (full_room 4 1) 0 0) told (a_number 4096)
  pub trees_counted : NeverTells post (asked (full_room 4 1) 0 0) told (a_number 2)
  pub nothing_counted : NeverTells post (asked (full_room 4 1) 0 0) told (a_number 0)
  -- the servers of the full room counted: (4,1,2)
  pub full_room_counted : NeverTells post (asked (shape_of 4 1 2) 5 0) told (a_number 16)
  -- 20 tested before 4: tree 2 of source 16
  pub twenty_before_four : NeverTells post (asked (full_room 4 1) 16 2) told (no_number 20)
  -- 4 tested before 26: the same in (4,1,1)
  pub four_before_fill : NeverTells post (asked (shape_of 4 1 1) 16 2) told (no_number 4)
  -- 4 not tested; N as n to the power k + 1: source 8 of (4,1,2)
  pub source_not_tested : NeverTells post (asked (full_room 4 1) 16 0) told (a_number 16)
  pub source_of_the_full_room : NeverTells post (asked (shape_of 4 1 2) 8 0) told (a_number 8)
  -- tree 2 of (4,1) taken for tree 0
  pub trees_go_round : NeverTells post (asked (full_room 4 1) 0 2) told (a_number 16)
  -- the last tree and the last source refused
  pub last_tree_refused : NeverTells post (asked (full_room 4 1) 0 1) told (no_number 20)
  pub last_source_refused : NeverTells post (asked (full_room 4 1) 15 0) told (no_number 4)
  -- 5, since the source has no parent
  pub five_for_the_source : NeverTells post (asked (full_room 4 1) 0 0) told (no_number 5)
  -- a value that is not zero beside 20 and 4
  pub count_with_20 : NeverTells post (asked (full_room 4 1) 0 2) told (record { refusal = plain 20; value = 16 })
  pub count_with_4 : NeverTells post (asked (full_room 4 1) 16 0) told (record { refusal = plain 4; value = 16 })
  -- a place told with 20, which has none
  pub twenty_at_route_1 : NeverTells post (asked (full_room 4 1) 0 2) told (record { refusal = refused_at 20 1 0; value = 0 })

-- with any arguments, over any numbers ps
pub record AnyMisgrown {K A R X : Type 0} (post : K → A → R → X → Type 0) (asked : A) (told : R → Number) (left : X → List ℕ) (s : Shape) (a l : ℕ) (ps : List ℕ) : Type 0 where
  -- anything but 4,294,967,295 at the source
  pub any_number_at_the_source : Link s a l → (v : ℕ) → v ≢ no_parent → NeverLeavesAt post asked left a v
  -- anything but zero past the last server
  pub any_number_past : Link s a l → (x v : ℕ) → servers_of s ≤ x → v ≢ 0 → NeverLeavesAt post asked left x v
  -- more numbers than 4,096, or fewer
  pub any_length : Link s a l → (qs : List ℕ) → length qs ≢ 4096 → NeverLeaves post asked left qs
  -- any refusal on which the numbers are touched
  pub any_refused_and_touched : link_refusal s a l ≢ 0 → (qs : List ℕ) → qs ≢ ps → NeverLeaves post asked left qs
  -- anything but N for the count
  pub any_count : Link s a l → NeverSo post asked (λ r. (told r).value ≢ servers_of s)
  -- a value that is not zero beside a refusal
  pub any_value_on_refusal : NeverSo post asked (λ r. ((told r).refusal.number ≢ 0) × ((told r).value ≢ 0))
  -- a place told with a refusal, which has none
  pub any_place_on_refusal : NeverSo post asked (λ r. (told r).refusal ≢ plain (told r).refusal.number)
  -- 5, which a whole tree never gives
  pub any_five : NeverTells post asked (λ r. (told r).refusal.number) 5
  -- a source or a tree that the room has not, taken
  pub any_source_taken : servers_of s ≤ a → NeverTells post asked (λ r. (told r).refusal.number) 0
  pub any_tree_taken : s.k < l → NeverTells post asked (λ r. (told r).refusal.number) 0
  -- 20 told before 4, and of a tree that the room has
  pub any_twenty_before_four : servers_of s ≤ a → NeverTells post asked (λ r. (told r).refusal.number) 20
  pub any_tree_refused : l ≤ s.k → NeverTells post asked (λ r. (told r).refusal.number) 20

-- ---- each call

pub record Trees (b : Loan) : Type 0 where
  -- a wrong parent: told, and written in a tree
  pub parent-of : Misparented (λ s a l x. NeverTells parent_of_reads.Post (s & a & l & x & tt) (λ y. (number_told y).value))
  pub bcube_parent : Misparented (λ s a l x. NeverTells bcube_parent_reads.Post (room_for s & a & l & x & tt) value_in)
  pub write_tree : Misparented (λ s a l x. NeverLeavesAt write_tree_reads.Post (s & a & l & b lends_mut stale 4096 & tt) fourth x)
  pub bcube_tree : Misparented (λ s a l x. NeverLeavesAt bcube_tree_reads.Post (room_for s & a & l & b lends_mut stale 4096 & tt) fourth x)
  -- of any server that has a parent
  pub any_parent_of : (s : Shape) (a l x : ℕ) → Child s a l x → AnyMisparented (NeverTells parent_of_reads.Post (s & a & l & x & tt) (λ y. (number_told y).value)) s a l x
  pub any_bcube_parent : (c : Room) (a l x : ℕ) → Child (shape_in c) a l x → AnyMisparented (NeverTells bcube_parent_reads.Post (c & a & l & x & tt) value_in) (shape_in c) a l x
  pub any_write_tree : (s : Shape) (a l x : ℕ) (ps : List ℕ) → Child s a l x → AnyMisparented (NeverLeavesAt write_tree_reads.Post (s & a & l & b lends_mut ps & tt) fourth x) s a l x
  pub any_bcube_tree : (c : Room) (a l x : ℕ) (ps : List ℕ) → Child (shape_in c) a l x → AnyMisparented (NeverLeavesAt bcube_tree_reads.Post (c & a & l & b lends_mut ps & tt) fourth x) (shape_in c) a l x
  -- a parent wrongly refused, or told where it is refused
  pub parent_of_refused : Misrefused parent_of_reads.Post (λ s a l x. s & a & l & x & tt) number_told
  pub bcube_parent_refused : Misrefused bcube_parent_reads.Post (λ s a l x. room_for s & a & l & x & tt) number_in
  pub any_parent_of_refused : (s : Shape) (a l x : ℕ) → AnyMisrefused parent_of_reads.Post (s & a & l & x & tt) number_told s a l x
  pub any_bcube_parent_refused : (c : Room) (a l x : ℕ) → AnyMisrefused bcube_parent_reads.Post (c & a & l & x & tt) number_in (shape_in c) a l x
  -- a tree wrongly written, counted or refused
  pub write_tree_grown : Misgrown write_tree_reads.Post (λ s a l. s & a & l & b lends_mut stale 4096 & tt) number_told fourth
  pub bcube_tree_grown : Misgrown bcube_tree_reads.Post (λ s a l. room_for s & a & l & b lends_mut stale 4096 & tt) number_in fourth
  pub any_write_tree_grown : (s : Shape) (a l : ℕ) (ps : List ℕ) → AnyMisgrown write_tree_reads.Post (s & a & l & b lends_mut ps & tt) number_told fourth s a l ps
  pub any_bcube_tree_grown : (c : Room) (a l : ℕ) (ps : List ℕ) → AnyMisgrown bcube_tree_reads.Post (c & a & l & b lends_mut ps & tt) number_in fourth (shape_in c) a l ps
