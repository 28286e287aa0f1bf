-- A spanning tree wrongly told, refuted: each parent and each refusal is computed once, and what each call tells or writes is that.
use Prim.Native.Nat.{ℕ, zero, suc, ◌+◌, ◌*◌, ◌-◌, ◌/◌, ◌%◌, ◌^◌, ◌≤◌, ◌<◌}
use mathlib.Core.Path.{◌≡◌, refl, sym, ap, ap₂, ◌∙◌}
use mathlib.Core.Logic.{◌≢◌}
use mathlib.Core.Bool.{false}
use mathlib.Core.List.{List}
use native.Mathlib.Omega.{arith}
use native.Mathlib.Nat.{mod-lt, mul_comm, mul-le-mul_left}
use native.Mathlib.Decide.{dec_le, ℕ_discrete}
use lib.Dec.{eqb}
use lib.ListN.{length, get_or}
use borrow.Author.Tests.{eqb-true, eqb-false}
use Rattle.refusals.specs.Refusals.{Refusal, plain, answer, ◌or_else◌}
use Rattle.refusals.proofs.ChainLaws.{or_else_left}
use Rattle.refusals.proofs.NumberLaws.{one-not}
use Rattle.refusals.proofs.AnswerLaws.{answer-none}
use Rattle.room.specs.declared.Shape.{Shape}
use Rattle.room.specs.Told.{Number}
use Rattle.room.specs.Shapes.{shape_of, full_room, bound, servers_of, Server, Link}
use Rattle.room.specs.Digits.{digits_of, address_of}
use Rattle.room.specs.Addresses.{digits, digit, with_digit}
use Rattle.room.specs.Refusals.{shape_refusal, level_refusal, server_refusal, pair_refusal, link_refusal}
use Rattle.room.specs.Answers.{no_number, a_number}
use Rattle.room.proofs.DigitLaws.{with_closed}
use Rattle.room.proofs.RoomLaws.{digit_lt, positive, servers_are, servers_le}
use Rattle.room.proofs.RefusalLaws.{server_of, pair_of, link_of, link-none, link-passed}
use Rattle.room.proofs.NumberLaws.{server-numbers, pair_numbers, link-numbers}
use Rattle.trees.specs.Trees.{level_at, last_apart, lowered_at, hangs_at, lowered, parent_of, Child}
use Rattle.trees.specs.Answers.{parent_refusal, parent_answer, no_parent, tree_of, tree_answer, tree_left}
use Rattle.trees.specs.Figure.{raised}
use Rattle.trees.proofs.RingLaws.{more_other, more_less, two_values}
use Rattle.trees.proofs.LevelLaws.{at_le, at_injective}
use Rattle.trees.proofs.ParentLaws.{pair_stops, tree-missing, source-asked, nothing-refused, child_of, parent-answered}
use Rattle.trees.proofs.HopLaws.{lowered-digit, lowered-apart, parent-server, parent-neighbours, one-tree}
use Rattle.trees.proofs.ReachLaws.{own_same, own_last, hands_exactly}
use Rattle.trees.proofs.FigureLaws.{raised-digit, root-only}
use Rattle.trees.proofs.WholeLaws.{tree_keeps, tree-written, tree-long, tree-past, tree-source, tree-parent}
use Rattle.driver.specs.declared.Answer.{Answer}
use Rattle.driver.specs.Rooms.{held, room_of, shape_in}
use Rattle.driver.specs.Words.{refusal_in, value_in, number_word, Small}
use Rattle.driver.proofs.WordLaws.{refusal-back, value-back}
use Rattle.driver.proofs.TreeSmall.{parent-small, tree-small}
use Rattle.wrong.specs.Never.{NeverTells, NeverLeaves, NeverLeavesAt, Loan}
use Rattle.wrong.specs.Examples.{stale}
use Rattle.wrong.specs.Again.{room_for}
use Rattle.wrong.specs.Trees.{number_in, Misparented, AnyMisparented, Misrefused, AnyMisrefused, Misgrown, AnyMisgrown, Trees}
use Rattle.wrong.specs.Told.{number_told}
use Rattle.wrong.proofs.Clash.{differ, clash_left, tells}

abbrev number : Number → ℕ
number y = y.refusal.number

abbrev route : Number → ℕ
route y = y.refusal.route

abbrev value : Number → ℕ
value y = y.value

-- a word tells the number that it was made of
number-in : {x : Number} {w : Answer} → Small x.refusal x.value → w ≡ number_word x → number_in w ≡ x
number-in {x} h e =
    ap₂ (λ (r : Refusal) (v : ℕ). record { refusal = r; value = v }) (ap refusal_in e ∙ refusal-back x.refusal x.value h) (ap value_in e ∙ value-back x.refusal x.value h)

-- ---- rows

-- what asking for a parent answers
pub record Row (s : Shape) (a l x : ℕ) (right : Number) : Type 0 where
  pub held : shape_in (room_for s) ≡ s
  pub answers : parent_answer s a l x ≡ right

pub record Rows : Type 0 where
  pub root : Row (full_room 4 1) 0 0 1 (a_number 0)
  pub own-level : Row (full_room 4 1) 0 0 4 (a_number 7)
  pub both : Row (full_room 4 1) 0 0 5 (a_number 1)
  pub own-level_12 : Row (full_room 4 1) 0 0 12 (a_number 15)
  pub both_15 : Row (full_room 4 1) 0 0 15 (a_number 11)
  pub tree_1_of_1 : Row (full_room 4 1) 0 1 1 (a_number 13)
  pub tree_1_of_4 : Row (full_room 4 1) 0 1 4 (a_number 0)
  pub from_3_of_0 : Row (full_room 4 1) 3 0 0 (a_number 3)
  pub from_3_of_1 : Row (full_room 4 1) 3 0 1 (a_number 0)
  pub from_3_of_4 : Row (full_room 4 1) 3 0 4 (a_number 0)
  pub from_15_of_0 : Row (full_room 4 1) 15 0 0 (a_number 12)
  pub half_0 : Row (shape_of 4 1 2) 5 0 0 (a_number 4)
  pub half_1 : Row (shape_of 4 1 2) 5 0 1 (a_number 0)
  pub half_4 : Row (shape_of 4 1 2) 5 0 4 (a_number 7)
  pub half_tree_1_of_1 : Row (shape_of 4 1 2) 5 1 1 (a_number 5)
  pub one_level : Row (shape_of 64 0 3) 2 0 0 (a_number 2)
  pub three_levels : Row (full_room 2 2) 0 0 7 (a_number 3)
  pub three_levels_tree_1 : Row (full_room 2 2) 0 1 7 (a_number 6)
  pub four-levels : Row (full_room 2 3) 0 0 10 (a_number 11)
  pub four-levels-tree_1 : Row (full_room 2 3) 0 1 10 (a_number 2)
  pub four-levels-tree_3 : Row (full_room 2 3) 0 3 10 (a_number 8)
  pub far-end : Row (shape_of 8 3 4) 0 3 1 (a_number 1537)
  pub big_tree_1 : Row (shape_of 8 3 4) 1 1 521 (a_number 9)
  pub big_tree_2 : Row (shape_of 8 3 4) 1 2 521 (a_number 969)
  pub big_tree_3 : Row (shape_of 8 3 4) 1 3 521 (a_number 513)
  pub all-levels : Row (shape_of 8 3 4) 1 3 584 (a_number 520)
  pub source_0 : Row (full_room 4 1) 0 0 0 (no_number 5)
  pub source_0_tree_1 : Row (full_room 4 1) 0 1 0 (no_number 5)
  pub source_3 : Row (full_room 4 1) 3 0 3 (no_number 5)
  pub source_3_tree_1 : Row (full_room 4 1) 3 1 3 (no_number 5)
  pub half_source : Row (shape_of 4 1 2) 5 0 5 (no_number 5)
  pub half_source_tree_1 : Row (shape_of 4 1 2) 5 1 5 (no_number 5)
  pub tree_2_of_the_source : Row (full_room 4 1) 3 2 3 (no_number 20)
  pub tree_2 : Row (full_room 4 1) 0 2 4 (no_number 20)
  pub no_server_at_all : Row (full_room 4 1) 16 2 16 (no_number 4)
  pub no_server : Row (full_room 4 1) 16 1 16 (no_number 4)
  pub no_source : Row (full_room 4 1) 16 0 1 (no_number 4)
  pub no_child : Row (full_room 4 1) 0 0 16 (no_number 4)
  pub half_no_source : Row (shape_of 4 1 2) 8 0 1 (no_number 4)
  pub half_no_child : Row (shape_of 4 1 2) 0 0 8 (no_number 4)
  pub no_fill : Row (shape_of 4 1 1) 16 2 16 (no_number 26)

pub rows : Rows
unfolding servers_of bound digits_of address_of digits digit with_digit ◌or_else◌ shape_refusal server_refusal pair_refusal level_at last_apart lowered_at hangs_at lowered parent_of parent_refusal parent_answer held room_of shape_in
rows =
    record {
      root = record { held = refl; answers = refl };
      own-level = record { held = refl; answers = refl };
      both = record { held = refl; answers = refl };
      own-level_12 = record { held = refl; answers = refl };
      both_15 = record { held = refl; answers = refl };
      tree_1_of_1 = record { held = refl; answers = refl };
      tree_1_of_4 = record { held = refl; answers = refl };
      from_3_of_0 = record { held = refl; answers = refl };
      from_3_of_1 = record { held = refl; answers = refl };
      from_3_of_4 = record { held = refl; answers = refl };
      from_15_of_0 = record { held = refl; answers = refl };
      half_0 = record { held = refl; answers = refl };
      half_1 = record { held = refl; answers = refl };
      half_4 = record { held = refl; answers = refl };
      half_tree_1_of_1 = record { held = refl; answers = refl };
      one_level = record { held = refl; answers = refl };
      three_levels = record { held = refl; answers = refl };
      three_levels_tree_1 = record { held = refl; answers = refl };
      four-levels = record { held = refl; answers = refl };
      four-levels-tree_1 = record { held = refl; answers = refl };
      four-levels-tree_3 = record { held = refl; answers = refl };
      far-end = record { held = refl; answers = refl };
      big_tree_1 = record { held = refl; answers = refl };
      big_tree_2 = record { held = refl; answers = refl };
      big_tree_3 = record { held = refl; answers = refl };
      all-levels = record { held = refl; answers = refl };
      source_0 = record { held = refl; answers = refl };
      source_0_tree_1 = record { held = refl; answers = refl };
      source_3 = record { held = refl; answers = refl };
      source_3_tree_1 = record { held = refl; answers = refl };
      half_source = record { held = refl; answers = refl };
      half_source_tree_1 = record { held = refl; answers = refl };
      tree_2_of_the_source = record { held = refl; answers = refl };
      tree_2 = record { held = refl; answers = refl };
      no_server_at_all = record { held = refl; answers = refl };
      no_server = record { held = refl; answers = refl };
      no_source = record { held = refl; answers = refl };
      no_child = record { held = refl; answers = refl };
      half_no_source = record { held = refl; answers = refl };
      half_no_child = record { held = refl; answers = refl };
      no_fill = record { held = refl; answers = refl };
    }

-- what writing a tree answers
record TreeRow (s : Shape) (a l : ℕ) (right : Number) : Type 0 where
  held : shape_in (room_for s) ≡ s
  refusal : link_refusal s a l ≡ right.refusal.number
  answers : tree_answer s a l ≡ right

record TreeRows : Type 0 where
  tree_0 : TreeRow (full_room 4 1) 0 0 (a_number 16)
  tree_1 : TreeRow (full_room 4 1) 0 1 (a_number 16)
  last : TreeRow (full_room 4 1) 15 0 (a_number 16)
  half_tree_0 : TreeRow (shape_of 4 1 2) 5 0 (a_number 8)
  half_tree_1 : TreeRow (shape_of 4 1 2) 5 1 (a_number 8)
  no_tree : TreeRow (full_room 4 1) 0 2 (no_number 20)
  no_source : TreeRow (full_room 4 1) 16 0 (no_number 4)
  no_source_no_tree : TreeRow (full_room 4 1) 16 2 (no_number 4)
  half_no_source : TreeRow (shape_of 4 1 2) 8 0 (no_number 4)
  no_fill : TreeRow (shape_of 4 1 1) 16 2 (no_number 26)

tree_rows : TreeRows
unfolding servers_of ◌or_else◌ shape_refusal level_refusal server_refusal link_refusal tree_answer held room_of shape_in
tree_rows =
    record {
      tree_0 = record { held = refl; refusal = refl; answers = refl };
      tree_1 = record { held = refl; refusal = refl; answers = refl };
      last = record { held = refl; refusal = refl; answers = refl };
      half_tree_0 = record { held = refl; refusal = refl; answers = refl };
      half_tree_1 = record { held = refl; refusal = refl; answers = refl };
      no_tree = record { held = refl; refusal = refl; answers = refl };
      no_source = record { held = refl; refusal = refl; answers = refl };
      no_source_no_tree = record { held = refl; refusal = refl; answers = refl };
      half_no_source = record { held = refl; refusal = refl; answers = refl };
      no_fill = record { held = refl; refusal = refl; answers = refl };
    }

-- the number that it answers is how many servers the room has
counted : {s : Shape} {a l n : ℕ} → TreeRow s a l (a_number n) → servers_of s ≡ n
unfolding tree_answer
counted {s} {a} {l} h =
    ap value (sym (answer-none (link_refusal s a l) no_number (a_number (servers_of s)) (sym h.refusal)) ∙ h.answers)

-- ---- a wrong parent

-- a call that tells each of them right tells none of them wrong
misparented : {Wrong : Shape → ℕ → ℕ → ℕ → ℕ → Type 0} → ((s : Shape) (a l x p v : ℕ) → Row s a l x (a_number p) → eqb p v ≡ false → Wrong s a l x v) → Misparented Wrong
misparented {Wrong} never =
    record {
      raised_for_lowered = no rows.both refl;
      raised_at_the_own_level = no rows.own-level refl;
      half_filled_raised = no rows.half_1 refl;
      raised_at_level_k = no rows.big_tree_1 refl;
      n_at_level_k = no rows.far-end refl;
      n_for_the_source = no rows.half_tree_1_of_1 refl;
      n_where_k_is_0 = no rows.one_level refl;
      m_at_level_0 = no rows.half_4 refl;
      m_at_level_2 = no rows.big_tree_2 refl;
      levels_downwards = no rows.three_levels refl;
      half_filled_levels_downwards = no rows.all-levels refl;
      levels_from_0 = no rows.three_levels_tree_1 refl;
      first_for_last = no rows.both refl;
      own_digit_not_tested = no rows.own-level_12 refl;
      zero_for_the_source = no rows.from_3_of_4 refl;
      digit_right_at_once = no rows.both_15 refl;
      source_for_all = no rows.both_15 refl;
      source_for_its_neighbours = no rows.own-level refl;
      both_digits_lowered = no rows.both refl;
      number_lowered = no rows.own-level refl;
      own_parent = no rows.own-level refl;
      of_the_next_tree = no rows.four-levels refl;
      of_the_tree_before = no rows.four-levels-tree_1 refl;
      trees_from_the_other_end = no rows.big_tree_3 refl;
      child_for_parent = no rows.root refl;
      source_and_server_exchanged = no rows.both refl;
      tree_and_server_exchanged = no rows.from_3_of_1 refl;
      level_for_parent = no rows.four-levels-tree_3 refl;
      parent_from_1 = no rows.both refl;
      parent_cut = no rows.big_tree_3 refl;
      root_has_none = no rows.root refl;
    }
  where
    no : {s : Shape} {a l x p v : ℕ} → Row s a l x (a_number p) → eqb p v ≡ false → Wrong s a l x v
    no {s} {a} {l} {x} {p} {v} h n = never s a l x p v h n

-- round more than two values, one up is not one down
raised-not-lowered : (b d : ℕ) → 3 ≤ b → d < b → (d + (b - 1)) % b ≢ (d + 1) % b
raised-not-lowered b d p q e =
    let v = (d + (b - 1)) % b in
    let z = two_values b v d (omega arith) (mod-lt _ (omega arith)) q (sym (more_less b d q)) e in
    omega arith

module _ {s : Shape} {a l x : ℕ} (c : Child s a l x) where
  own : Server s x
  own = c.link.server

  -- the parent keeps every digit but one
  kept : (j : ℕ) → j ≢ hangs_at s a l x → digit s j (parent_of s a l x) ≡ digit s j x
  kept j n = (parent-neighbours c).beside.agree j n

  -- so it is not the server lowered at another level
  not_there : (j : ℕ) → j ≤ s.k → j ≢ hangs_at s a l x → parent_of s a l x ≢ lowered s j x
  not_there j p n e = lowered-apart own p (ap (digit s j) (sym e) ∙ kept j n)

  not-raised : (j : ℕ) → j ≤ s.k → 3 ≤ bound s j → parent_of s a l x ≢ raised s j x
  unfolding parent_of
  not-raised j p b e =
      elim (ℕ_discrete j (hangs_at s a l x)) [
        | yes q ↦ raised-not-lowered (bound s j) (digit s j x) b (digit_lt own j p) (sym (lowered-digit own p) ∙ ap (λ (i : ℕ). digit s j (lowered s i x)) q ∙ ap (digit s j) e ∙ raised-digit own p)
        | no q ↦ more_other (bound s j) (digit s j x) 1 (digit_lt own j p) (omega arith) (omega arith) (sym (raised-digit own p) ∙ ap (digit s j) (sym e) ∙ kept j q)
      ]

  -- a value from m on at level k is outside the room
  past_m : (v : ℕ) → s.m ≤ v → servers_of s ≤ with_digit s s.k v x
  unfolding with_digit digits
  past_m v p =
      let n = s.n in
      let k = s.k in
      let e = with_closed n (suc k) k v x (positive own.valid) (omega (arith, own.below, servers_le own.valid)) (omega arith) in
      let u : s.m * n ^ k ≤ n ^ k * (v + n * (x / n ^ k / n)) = rw (mul_comm s.m (n ^ k)) (mul-le-mul_left (n ^ k) (omega arith)) in
      omega (arith, e, servers_are s, u)

  not_the_last : (i j : ℕ) → i < j → j ≤ s.k → digit s l a ≢ digit s l x → digit s (level_at s.k l j) a ≢ digit s (level_at s.k l j) x → level_at s.k l i ≢ hangs_at s a l x
  not_the_last i j p q n m e =
      let f = own_last c n in
      let w = at_injective s.k l i f.place c.link.level (omega arith) f.within (e ∙ sym f.here) in
      m (eqb-true _ _ (f.later j (omega arith) q))

  not_agreeing : (j : ℕ) → j ≢ l → digit s j a ≡ digit s j x → j ≢ hangs_at s a l x
  not_agreeing j n q e =
      elim (ℕ_discrete (digit s l a) (digit s l x)) [
        | yes u ↦ n (e ∙ own_same c u)
        | no u ↦ eqb-false _ _ (own_last c u).differ (ap (λ (i : ℕ). digit s i a) (sym e) ∙ q ∙ ap (λ (i : ℕ). digit s i x) e)
      ]

  not-two : (p i j : ℕ) → i ≢ j → digit s i p ≢ digit s i x → digit s j p ≢ digit s j x → parent_of s a l x ≢ p
  not-two p i j n f g e =
      elim (ℕ_discrete i (hangs_at s a l x)) [
        | yes q ↦ g (ap (digit s j) (sym e) ∙ kept j (λ w. n (q ∙ sym w)))
        | no q ↦ f (ap (digit s i) (sym e) ∙ kept i q)
      ]

  inside : (p : ℕ) → servers_of s ≤ p → parent_of s a l x ≢ p
  inside p h e = omega (arith, (parent-server c).below)

  any_misparented : {Wrong : ℕ → Type 0} → ((v : ℕ) → parent_of s a l x ≢ v → Wrong v) → AnyMisparented Wrong s a l x
  any_misparented never =
      record {
        any_raised = λ j p b. never _ (not-raised j p b);
        any_value_from_m = λ v p. never _ (inside _ (past_m v p));
        any_level_but_the_last = λ i j p q n m. never _ (not_there _ (at_le s.k l i) (not_the_last i j p q n m));
        any_level_but_the_own = λ j p n e. never _ (not_there j p (λ w. n (w ∙ own_same c e)));
        any_level_that_agrees = λ j p n e. never _ (not_there j p (not_agreeing j n e));
        any_from_the_source = λ n. never _ (λ e. n (root-only c.source c.link.level c e));
        any_two_digits_apart = λ p i j n f g. never _ (not-two p i j n f g);
        any_own_parent = never _ (λ e. (parent-neighbours c).differ (ap (digit s (hangs_at s a l x)) e));
        any_of_another_tree = λ t p n. never _ (λ e. n (one-tree c (record { source = c.source; link = record { server = own; level = p }; apart = c.apart }) e));
        any_outside = λ p h. never _ (inside p h);
        any_has_none = never _ (inside no_parent (omega (arith, own.valid.small)));
      }

-- ---- what a tree holds

source-link : {s : Shape} {a l x : ℕ} → Child s a l x → Link s a l
source-link c = record { server = c.source; level = c.link.level }

module _ {s : Shape} {a l : ℕ} (h : Link s a l) (ps : List ℕ) {qs : List ℕ} (e : qs ≡ tree_left s a l ps) where
  written : qs ≡ tree_of s a l
  written = e ∙ sym (tree-written s a l (link-none h) ps (tree_of s a l) refl)

  holds_none : get_or qs a 0 ≡ no_parent
  holds_none = ap (λ (y : List ℕ). get_or y a 0) written ∙ tree-source h

  holds_zero : (x : ℕ) → servers_of s ≤ x → get_or qs x 0 ≡ 0
  holds_zero x p = ap (λ (y : List ℕ). get_or y x 0) written ∙ tree-past h x p

holds_parent : {s : Shape} {a l x : ℕ} (c : Child s a l x) (ps : List ℕ) {qs : List ℕ} → qs ≡ tree_left s a l ps → get_or qs x 0 ≡ parent_of s a l x
holds_parent {x = x} c ps e =
    ap (λ (y : List ℕ). get_or y x 0) (written (source-link c) ps e) ∙ tree-parent (source-link c) x c

-- by its row
row_parent : {s : Shape} {a l x p : ℕ} → Row s a l x (a_number p) → (ps : List ℕ) {qs : List ℕ} → qs ≡ tree_left s a l ps → get_or qs x 0 ≡ p
row_parent {s} {a} {l} {x} {p} h ps e =
    let c = (hands_exactly s a l p x).0 h.answers in holds_parent c.0 ps e ∙ c.1

-- ---- from C

-- what C tells and leaves of the room that it holds is what the shape's is
module _ {s : Shape} (h : shape_in (room_for s) ≡ s) (a l : ℕ) where
  held-parent : (x : ℕ) {w : Answer} → w ≡ number_word (parent_answer (shape_in (room_for s)) a l x) → number_in w ≡ parent_answer s a l x
  held-parent x e = number-in (parent-small (shape_in (room_for s)) a l x) e ∙ ap (λ (z : Shape). parent_answer z a l x) h

  held-tree : {w : Answer} → w ≡ number_word (tree_answer (shape_in (room_for s)) a l) → number_in w ≡ tree_answer s a l
  held-tree e = number-in (tree-small (shape_in (room_for s)) a l) e ∙ ap (λ (z : Shape). tree_answer z a l) h

  held-left : (ps : List ℕ) {qs : List ℕ} → qs ≡ tree_left (shape_in (room_for s)) a l ps → qs ≡ tree_left s a l ps
  held-left ps e = e ∙ ap (λ (z : Shape). tree_left z a l ps) h

-- the number that C leaves for a server, by its row
pub held_number : {s : Shape} {a l x p : ℕ} → Row s a l x (a_number p) → (ps : List ℕ) {qs : List ℕ} → qs ≡ tree_left (shape_in (room_for s)) a l ps → get_or qs x 0 ≡ p
held_number {a = a} {l} h ps e = row_parent h ps (held-left h.held a l ps e)

-- ---- refusals

-- a number, or a refusal of the call as a whole with zero beside it
record Plain (r : ℕ) (y : Number) : Type 0 where
  number : y.refusal.number ≡ r
  place : y.refusal ≡ plain r
  nothing : r ≢ 0 → y.value ≡ 0

plain-answer : (r v : ℕ) {y : Number} → y ≡ answer r no_number (a_number v) → Plain r y
plain-answer zero v e =
    record { number = ap number e; place = ap (λ (y : Number). y.refusal) e; nothing = λ n. absurd (n refl) }
plain-answer (suc r) v e =
    record { number = ap number e; place = ap (λ (y : Number). y.refusal) e; nothing = λ n. ap value e }

-- a call that tells each of them right tells none of them wrong
misrefused : {K A R X : Type 0} {post : K → A → R → X → Type 0} {asked : Shape → ℕ → ℕ → ℕ → A} {told : R → Number} → ((s : Shape) (a l x : ℕ) (right : Number) → Row s a l x right → (κ : K) (r : R) (e : X) → post κ (asked s a l x) r e → told r ≡ right) → Misrefused post asked told
misrefused {post = post} {asked} {told} right =
    record {
      source_has_a_parent = no rows.source_0 number refl;
      source_has_a_parent_at_level_1 = no rows.source_0_tree_1 number refl;
      half_filled_source_has_a_parent = no rows.half_source number refl;
      half_filled_source_has_a_parent_at_level_1 = no rows.half_source_tree_1 number refl;
      source_its_own_parent = no rows.source_3_tree_1 number refl;
      no_parent_for_five = no rows.source_3_tree_1 number refl;
      five_before_twenty = no rows.tree_2_of_the_source number refl;
      twenty_before_four = no rows.no_server_at_all number refl;
      five_before_four = no rows.no_server number refl;
      four_before_fill = no rows.no_fill number refl;
      source_not_tested = no rows.no_source number refl;
      server_not_tested = no rows.no_child number refl;
      source_of_the_full_room = no rows.half_no_source number refl;
      server_of_the_full_room = no rows.half_no_child number refl;
      trees_go_round = no rows.tree_2 number refl;
      last_tree_refused = no rows.tree_1_of_4 number refl;
      last_source_refused = no rows.from_15_of_0 number refl;
      last_server_refused = no rows.both_15 number refl;
      five_for_the_tree = no rows.tree_1_of_1 number refl;
      five_for_server_0 = no rows.from_3_of_0 number refl;
      five_for_the_root = no rows.root number refl;
      value_with_five = no rows.source_3 value refl;
      no_parent_with_five = no rows.source_3 value refl;
      value_with_twenty = no rows.tree_2 value refl;
      value_with_four = no rows.no_source value refl;
      five_at_route_1 = no rows.source_3 route refl;
    }
  where
    no : {s : Shape} {a l x : ℕ} {y wrong : Number} → Row s a l x y → (f : Number → ℕ) → eqb (f y) (f wrong) ≡ false → NeverTells post (asked s a l x) told wrong
    no {s} {a} {l} {x} {y} h f n κ r e p q = differ f n (sym (right s a l x y h κ r e p) ∙ q)

module _ (s : Shape) (a l x : ℕ) where
  no_first : pair_refusal s a x ≢ 0 → pair_refusal s a x ≡ parent_refusal s a l x
  no_first n = pair_stops s a l x (pair_refusal s a x) refl n

  not_twenty : pair_refusal s a x ≢ 0 → parent_refusal s a l x ≢ 20
  not_twenty n e = one-not 20 refl refl (pair_numbers s a x) (no_first n ∙ e)

  not_five : pair_refusal s a x ≢ 0 → parent_refusal s a l x ≢ 5
  not_five n e = one-not 5 refl refl (pair_numbers s a x) (no_first n ∙ e)

  no_source : servers_of s ≤ a → pair_refusal s a x ≢ 0
  no_source h z = omega (arith, (pair_of s a x z).0.below)

  no_server : servers_of s ≤ x → pair_refusal s a x ≢ 0
  no_server h z = omega (arith, (pair_of s a x z).1.below)

  no_tree_first : s.k < l → parent_refusal s a l x ≢ 5
  no_tree_first h e =
      elim (ℕ_discrete (pair_refusal s a x) 0) [ yes z ↦ omega (arith, tree-missing s a l x (sym z) h) | no n ↦ not_five n e ]

  tree-taken : l ≤ s.k → parent_refusal s a l x ≢ 20
  tree-taken h e =
      elim (ℕ_discrete (pair_refusal s a x) 0) [
        | yes z ↦ elim (ℕ_discrete a x) [
          | yes q ↦ omega (arith, source-asked s a l x (sym z) h q)
          | no q ↦ omega (arith, nothing-refused s a l x (sym z) h q)
        ]
        | no n ↦ not_twenty n e
      ]

  other-taken : a ≢ x → parent_refusal s a l x ≢ 5
  other-taken q e =
      elim (dec_le l s.k) [
        | yes h ↦ elim (ℕ_discrete (pair_refusal s a x) 0) [ yes z ↦ omega (arith, nothing-refused s a l x (sym z) h q) | no n ↦ not_five n e ]
        | no h ↦ no_tree_first (omega arith) e
      ]

  any_misrefused : {K A R X : Type 0} {post : K → A → R → X → Type 0} {asked : A} {told : R → Number} → ((κ : K) (r : R) (e : X) → post κ asked r e → told r ≡ parent_answer s a l x) → AnyMisrefused post asked told s a l x
  unfolding parent_answer
  any_misrefused {K} {A} {R} {X} {post} {asked} {told} right =
      record {
        any_source_has_a_parent = λ q. no 0 (λ z. (child_of s a l x z).apart q);
        any_value_on_refusal = λ κ r e p n. n.1 ((plainly κ r e p).nothing (λ z. n.0 ((plainly κ r e p).number ∙ z)));
        any_place_on_refusal = λ κ r e p n. n ((plainly κ r e p).place ∙ ap plain (sym (plainly κ r e p).number));
        any_source_taken = λ h. no 0 (λ z. omega (arith, (child_of s a l x z).source.below));
        any_server_taken = λ h. no 0 (λ z. omega (arith, (child_of s a l x z).link.server.below));
        any_tree_taken = λ h. no 0 (λ z. omega (arith, (child_of s a l x z).link.level));
        any_twenty_before_four = λ h. no 20 (not_twenty (no_source h));
        any_five_before_four = λ h. no 5 (not_five (no_source h));
        any_twenty_before_four_of_the_server = λ h. no 20 (not_twenty (no_server h));
        any_five_before_twenty = λ h. no 5 (no_tree_first h);
        any_tree_refused = λ h. no 20 (tree-taken h);
        any_other_server_refused = λ h. no 5 (other-taken h);
      }
    where
      plainly : (κ : K) (r : R) (e : X) → post κ asked r e → Plain (parent_refusal s a l x) (told r)
      plainly κ r e p = plain-answer (parent_refusal s a l x) (parent_of s a l x) (right κ r e p)

      no : (v : ℕ) → parent_refusal s a l x ≢ v → NeverTells post asked (λ r. (told r).refusal.number) v
      no v n κ r e p q = n (sym (plainly κ r e p).number ∙ q)

-- ---- a tree

misgrown : {K A R X : Type 0} {post : K → A → R → X → Type 0} {asked : Shape → ℕ → ℕ → A} {told : R → Number} {left : X → List ℕ} → ((s : Shape) (a l : ℕ) (right : Number) → TreeRow s a l right → (κ : K) (r : R) (e : X) → post κ (asked s a l) r e → (told r ≡ right) × (left e ≡ tree_left s a l (stale 4096))) → Misgrown post asked told left
misgrown {K} {A} {R} {X} {post} {asked} {told} {left} right =
    record {
      source_has_a_parent = at_source tree_rows.tree_0 refl;
      source_has_a_parent_at_level_1 = at_source tree_rows.tree_1 refl;
      half_filled_source_has_a_parent = at_source tree_rows.half_tree_0 refl;
      half_filled_source_has_a_parent_at_level_1 = at_source tree_rows.half_tree_1 refl;
      zero_at_the_source = at_source tree_rows.half_tree_0 refl;
      own_number_at_the_source = at_source tree_rows.half_tree_0 refl;
      count_at_the_source = at_source tree_rows.half_tree_0 refl;
      no_parent_of_16_bits = at_source tree_rows.half_tree_0 refl;
      no_parent_of_a_byte = at_source tree_rows.half_tree_0 refl;
      source_not_written = at_source tree_rows.half_tree_0 refl;
      no_parent_at_0 = λ κ r e p. tells (λ v. v) refl (row_parent rows.half_0 (stale 4096) (right _ _ _ _ tree_rows.half_tree_0 κ r e p).1);
      source_left_out = at_source tree_rows.half_tree_1 refl;
      past_left_as_lent = past tree_rows.tree_0 (omega arith) refl;
      last_left_as_lent = past tree_rows.tree_0 (omega arith) refl;
      no_parent_past = past tree_rows.tree_0 (omega arith) refl;
      full_room_written = past tree_rows.half_tree_0 (omega arith) refl;
      written_again = past tree_rows.tree_1 (omega arith) refl;
      not_written = whole tree_rows.tree_0 refl;
      zeros_alone = whole tree_rows.tree_0 refl;
      touched_on_4 = lent tree_rows.no_source refl 0 refl;
      touched_on_20 = lent tree_rows.no_tree refl 0 refl;
      no_parent_on_20 = λ κ r e p. tells (λ (y : List ℕ). get_or y 0 0) {a = stale 4096} refl (stays tree_rows.no_tree refl κ r e p);
      children_counted = no tree_rows.tree_0 value refl;
      numbers_counted = no tree_rows.tree_0 value refl;
      trees_counted = no tree_rows.tree_0 value refl;
      nothing_counted = no tree_rows.tree_0 value refl;
      full_room_counted = no tree_rows.half_tree_0 value refl;
      twenty_before_four = no tree_rows.no_source_no_tree number refl;
      four_before_fill = no tree_rows.no_fill number refl;
      source_not_tested = no tree_rows.no_source number refl;
      source_of_the_full_room = no tree_rows.half_no_source number refl;
      trees_go_round = no tree_rows.no_tree number refl;
      last_tree_refused = no tree_rows.tree_1 number refl;
      last_source_refused = no tree_rows.last number refl;
      five_for_the_source = no tree_rows.tree_0 number refl;
      count_with_20 = no tree_rows.no_tree value refl;
      count_with_4 = no tree_rows.no_source value refl;
      twenty_at_route_1 = no tree_rows.no_tree route refl;
    }
  where
    no : {s : Shape} {a l : ℕ} {y wrong : Number} → TreeRow s a l y → (f : Number → ℕ) → eqb (f y) (f wrong) ≡ false → NeverTells post (asked s a l) told wrong
    no {s} {a} {l} {y} h f n κ r e p q = differ f n (sym (right s a l y h κ r e p).0 ∙ q)

    at_source : {s : Shape} {a l n v : ℕ} → TreeRow s a l (a_number n) → eqb no_parent v ≡ false → NeverLeavesAt post (asked s a l) left a v
    at_source {s} {a} {l} h n κ r e p = tells (λ v. v) n (holds_none (link_of s a l h.refusal) (stale 4096) (right s a l _ h κ r e p).1)

    past : {s : Shape} {a l n x v : ℕ} → TreeRow s a l (a_number n) → n ≤ x → eqb 0 v ≡ false → NeverLeavesAt post (asked s a l) left x v
    past {s} {a} {l} {n} {x} h q m κ r e p =
        tells (λ v. v) m (holds_zero (link_of s a l h.refusal) (stale 4096) (right s a l _ h κ r e p).1 x (omega (arith, counted h)))

    whole : {s : Shape} {a l n : ℕ} {qs : List ℕ} → TreeRow s a l (a_number n) → eqb no_parent (get_or qs a 0) ≡ false → NeverLeaves post (asked s a l) left qs
    whole {a = a} h n κ r e p q = at_source h n κ r e p (ap (λ (y : List ℕ). get_or y a 0) q)

    stays : {s : Shape} {a l : ℕ} {y : Number} → TreeRow s a l y → eqb y.refusal.number 0 ≡ false → (κ : K) (r : R) (e : X) → post κ (asked s a l) r e → left e ≡ stale 4096
    stays {s} {a} {l} h n κ r e p = (right s a l _ h κ r e p).1 ∙ sym (tree_keeps s a l (link_refusal s a l) refl (λ z. differ (λ v. v) n (sym h.refusal ∙ z)) (stale 4096))

    lent : {s : Shape} {a l : ℕ} {y : Number} {qs : List ℕ} → TreeRow s a l y → eqb y.refusal.number 0 ≡ false → (i : ℕ) → eqb (get_or (stale 4096) i 0) (get_or qs i 0) ≡ false → NeverLeaves post (asked s a l) left qs
    lent h n i m κ r e p = clash_left i m (stays h n κ r e p)

module _ (s : Shape) (a l : ℕ) where
  no_such_source : servers_of s ≤ a → link_refusal s a l ≢ 20
  unfolding link_refusal
  no_such_source h e =
      one-not 20 refl refl (server-numbers s a) (sym (or_else_left _ _ (λ z. omega (arith, (server_of s a z).below))) ∙ e)

  level-taken : l ≤ s.k → link_refusal s a l ≢ 20
  unfolding link_refusal
  level-taken h e =
      elim (ℕ_discrete (server_refusal s a) 0) [
        | yes z ↦ omega (arith, link-passed s a l (sym z) h)
        | no n ↦ one-not 20 refl refl (server-numbers s a) (sym (or_else_left _ _ n) ∙ e)
      ]

  any_misgrown : {K A R X : Type 0} {post : K → A → R → X → Type 0} {asked : A} {told : R → Number} {left : X → List ℕ} (ps : List ℕ) → ((κ : K) (r : R) (e : X) → post κ asked r e → (told r ≡ tree_answer s a l) × (left e ≡ tree_left s a l ps)) → AnyMisgrown post asked told left s a l ps
  unfolding tree_answer
  any_misgrown {K} {A} {R} {X} {post} {asked} {told} {left} ps right =
      record {
        any_number_at_the_source = λ h v n κ r e p q. n (sym q ∙ holds_none h ps (right κ r e p).1);
        any_number_past = λ h x v g n κ r e p q. n (sym q ∙ holds_zero h ps (right κ r e p).1 x g);
        any_length = λ h qs n κ r e p q. n (ap length (sym q ∙ written h ps (right κ r e p).1) ∙ tree-long h);
        any_refused_and_touched = λ n qs m κ r e p q. m (sym q ∙ (right κ r e p).1 ∙ sym (tree_keeps s a l (link_refusal s a l) refl n ps));
        any_count = λ h κ r e p n. n (ap value ((right κ r e p).0 ∙ answer-none (link_refusal s a l) no_number (a_number (servers_of s)) (link-none h)));
        any_value_on_refusal = λ κ r e p n. n.1 ((plainly κ r e p).nothing (λ z. n.0 ((plainly κ r e p).number ∙ z)));
        any_place_on_refusal = λ κ r e p n. n ((plainly κ r e p).place ∙ ap plain (sym (plainly κ r e p).number));
        any_five = no 5 (one-not 5 refl refl (link-numbers s a l));
        any_source_taken = λ h. no 0 (λ z. omega (arith, (link_of s a l z).server.below));
        any_tree_taken = λ h. no 0 (λ z. omega (arith, (link_of s a l z).level));
        any_twenty_before_four = λ h. no 20 (no_such_source h);
        any_tree_refused = λ h. no 20 (level-taken h);
      }
    where
      plainly : (κ : K) (r : R) (e : X) → post κ asked r e → Plain (link_refusal s a l) (told r)
      plainly κ r e p = plain-answer (link_refusal s a l) (servers_of s) (right κ r e p).0

      no : (v : ℕ) → link_refusal s a l ≢ v → NeverTells post asked (λ r. (told r).refusal.number) v
      no v n κ r e p q = n (sym (plainly κ r e p).number ∙ q)

-- ---- all of them

pub wrong_trees : (b : Loan) → Trees b
wrong_trees b =
    record {
      parent-of = misparented (λ s a l x p v h n κ r e q. tells value n (q ∙ h.answers));
      bcube_parent = misparented (λ s a l x p v h n κ r e q. tells value n (held-parent h.held a l x q ∙ h.answers));
      write_tree = misparented (λ s a l x p v h n κ r e q. tells (λ y. y) n (row_parent h (stale 4096) q.1));
      bcube_tree = misparented (λ s a l x p v h n κ r e q. tells (λ y. y) n (held_number h (stale 4096) q.1));
      any_parent_of = λ s a l x c. any_misparented c (λ v n κ r e q z. n (sym (ap value (parent-answered c (number_told r) q)) ∙ z));
      any_bcube_parent = λ k a l x c. any_misparented c (λ v n κ r e q z. n (sym (ap value (parent-answered c (number_in r) (number-in (parent-small (shape_in k) a l x) q))) ∙ z));
      any_write_tree = λ s a l x ps c. any_misparented c (λ v n κ r e q z. n (sym (holds_parent c ps q.1) ∙ z));
      any_bcube_tree = λ k a l x ps c. any_misparented c (λ v n κ r e q z. n (sym (holds_parent c ps q.1) ∙ z));
      parent_of_refused = misrefused (λ s a l x y h κ r e q. q ∙ h.answers);
      bcube_parent_refused = misrefused (λ s a l x y h κ r e q. held-parent h.held a l x q ∙ h.answers);
      any_parent_of_refused = λ s a l x. any_misrefused s a l x (λ κ r e q. q);
      any_bcube_parent_refused = λ k a l x. any_misrefused (shape_in k) a l x (λ κ r e q. number-in (parent-small (shape_in k) a l x) q);
      write_tree_grown = misgrown (λ s a l y h κ r e q. (q.0 ∙ h.answers, q.1));
      bcube_tree_grown = misgrown (λ s a l y h κ r e q. (held-tree h.held a l q.0 ∙ h.answers, held-left h.held a l (stale 4096) q.1));
      any_write_tree_grown = λ s a l ps. any_misgrown s a l ps (λ κ r e q. (q.0, q.1));
      any_bcube_tree_grown = λ k a l ps. any_misgrown (shape_in k) a l ps (λ κ r e q. (number-in (tree-small (shape_in k) a l) q.0, q.1));
    }
