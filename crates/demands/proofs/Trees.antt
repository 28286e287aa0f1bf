-- One file to all servers, proved: the trees of a source.
use Prim.Native.Nat.{ℕ, ◌≤◌}
use mathlib.Core.Path.{◌≡◌, refl, sym, ap, ◌∙◌, subst}
use mathlib.Core.Logic.{inl, inr, ⊎_elim}
use mathlib.Core.List.{List}
use native.Mathlib.Omega.{arith}
use native.Mathlib.Decide.{dec_lt, ℕ_discrete}
use lib.ListN.{get_or}
use lib.Seq.{ext_get_or}
use borrow.Author.Tests.{eqb-true, eqb-false, eq-eqb, ne_eqb}
use Rattle.refusals.proofs.AnswerLaws.{answer-none}
use Rattle.room.specs.declared.Shape.{Shape}
use Rattle.room.specs.Told.{Number}
use Rattle.room.specs.Shapes.{servers_of, bound, Server, Link, Ends}
use Rattle.room.specs.Addresses.{digit, Neighbours}
use Rattle.room.specs.Refusals.{link_refusal}
use Rattle.room.proofs.RefusalLaws.{link_of}
use Rattle.room.proofs.RoomLaws.{bound-two, digit_lt}
use Rattle.trees.specs.Trees.{level_at, alike, hangs_at, lowered, parent_of, Child}
use Rattle.trees.specs.Answers.{tree_of, tree_answer, tree_left}
use Rattle.trees.specs.Reach.{Hands, most_steps}
use Rattle.trees.proofs.RingLaws.{two_values}
use Rattle.trees.proofs.LevelLaws.{Last, last_unique}
use Rattle.trees.proofs.ParentLaws.{child_made, hangs_le}
use Rattle.trees.proofs.HopLaws.{lowered-server, lowered-other, lowered-up, lowered_is, parent-server, parent-neighbours, parent-level, one_level, every-level, one-tree}
use Rattle.trees.proofs.WholeLaws.{tree-answered, tree-long, tree-source, tree-parent, tree-past}
use Rattle.trees.proofs.ReachLaws.{own_same, own_last, hands_exactly, follows_exactly, steps-most}
use Rattle.trees.proofs.FigureLaws.{figure_exactly, root-parent, root-only, raised-server, raised-other, raised-digit, raised_is}
use Rattle.trees.proofs.BoundLaws.{farthest}
use Rattle.demands.specs.Trees.{OneUp, LastApart, HangsAt, ParentExactly, EveryParent, RootExactly, HopsJoin, ReachExactly, StepsBound, OtherLevels, EveryLevel, OneTree, BothWays, AsInFigure, WholeTree, EveryTree}

child : {s : Shape} {a l x : ℕ} → Ends s a x → l ≤ s.k → Child s a l x
child e p = child_made e.source e.destination p e.differ

ends : {s : Shape} {a l x : ℕ} → Child s a l x → Ends s a x
ends h = record { source = h.source; destination = h.link.server; differ = h.apart }

-- ---- the rule

-- the level of the definition is the one that the words name
last_words : {s : Shape} {a l x j : ℕ} → Last (alike s a x) s.k l j → LastApart s a l x j
unfolding level_at
last_words f =
    record { place = f.place; within = f.within; here = sym f.here; differ = eqb-false _ _ f.differ; later = λ i p q. eqb-true _ _ (f.later i p q) }

words_last : {s : Shape} {a l x j : ℕ} → LastApart s a l x j → Last (alike s a x) s.k l j
unfolding level_at
words_last f =
    record { place = f.place; within = f.within; here = sym f.here; differ = ne_eqb _ _ f.differ; later = λ i p q. eq-eqb _ _ (f.later i p q) }

hangs_words : {s : Shape} {a l x : ℕ} → Child s a l x → HangsAt s a l x (hangs_at s a l x)
hangs_words {s} {a} {l} {x} h =
    elim (ℕ_discrete (digit s l a) (digit s l x)) [ yes e ↦ inl (e, own_same h e) | no e ↦ inr (e, last_words (own_last h e)) ]

words_hang : {s : Shape} {a l x j : ℕ} → Child s a l x → HangsAt s a l x j → j ≡ hangs_at s a l x
words_hang {s} {a} {l} {x} {j} h =
    ⊎_elim (λ w. w.1 ∙ sym (own_same h w.0)) (λ w. last_unique (alike s a x) s.k l j (hangs_at s a l x) (words_last w.1) (own_last h w.0))

one_up : {s : Shape} {x j : ℕ} → Server s x → j ≤ s.k → OneUp s j (lowered s j x) x
one_up h p = record { lower = lowered-server h p; upper = h; others = record { agree = lowered-other h p }; own = lowered-up h p }

up_one : {s : Shape} {j p x : ℕ} → j ≤ s.k → OneUp s j p x → p ≡ lowered s j x
up_one q u = lowered_is u.lower u.upper q u.others u.own

hands_up : (s : Shape) (a l p x : ℕ) → Hands s a l p x → OneUp s (hangs_at s a l x) p x
unfolding parent_of
hands_up s a l p x e =
    let w = (hands_exactly s a l p x).0 e in
    let k = w.0.link in
    subst (λ (y : ℕ). OneUp s (hangs_at s a l x) y x) w.1 (one_up k.server (hangs_le s a l x k.level))

pub parent-exactly : ParentExactly
unfolding parent_of
parent-exactly s a l x p = (there, back)
  where
    there : Hands s a l p x → Ends s a x × (l ≤ s.k) × ((j : ℕ) × HangsAt s a l x j × OneUp s j p x)
    there e =
        let w = (hands_exactly s a l p x).0 e in
        let h = w.0 in
        (ends h, h.link.level, (hangs_at s a l x, hangs_words h, hands_up s a l p x e))

    back : Ends s a x × (l ≤ s.k) × ((j : ℕ) × HangsAt s a l x j × OneUp s j p x) → Hands s a l p x
    back w =
        let h = child w.0 w.1 in
        let j = w.2.0 in
        let e = words_hang h w.2.1 in
        let q : j ≤ s.k = omega (arith, e, hangs_le s a l x w.1) in
        (hands_exactly s a l p x).1 (h, sym (up_one q w.2.2 ∙ ap (λ (i : ℕ). lowered s i x) e))

pub every-parent : EveryParent
every-parent =
    record {
      has = λ s a l x e p. (parent_of s a l x, (hands_exactly s a l (parent_of s a l x) x).1 (child e p, refl));
      none = λ s a l p e. ((hands_exactly s a l p a).0 e).0.apart refl;
    }

pub root-exactly : RootExactly
root-exactly s a l x ha hl = (there, back)
  where
    there : Hands s a l a x → OneUp s l a x
    there e =
        let w = (hands_exactly s a l a x).0 e in
        let q = root-only ha hl w.0 w.1 in
        subst (λ (y : ℕ). OneUp s l a y) (sym q)
        (record { lower = ha; upper = raised-server ha hl; others = record { agree = raised-other ha hl }; own = raised-digit ha hl })

    back : OneUp s l a x → Hands s a l a x
    back u =
        let q = raised_is ha hl u.upper u.others.agree u.own in
        (hands_exactly s a l a x).1 (subst (λ (y : ℕ). Child s a l y × (parent_of s a l y ≡ a)) q (root-parent ha hl))

pub hops_join : HopsJoin
hops_join s a l p x e =
    let h = (hands_exactly s a l p x).0 e in
    (rw h.1 at (parent-server h.0), (hangs_at s a l x, rw h.1 at (parent-neighbours h.0)))

-- ---- every server is reached

pub reach-exactly : ReachExactly
reach-exactly s a l x e p m = follows_exactly (child e p) m

pub steps-bound : StepsBound
unfolding most_steps
steps-bound =
    record {
      most = λ s a l x e p. steps-most (child e p);
      levels = λ s h. rw (ne_eqb s.k 0 (λ e. omega arith));
      one_level = λ s e. rw (eq-eqb s.k 0 e);
      met = λ s a l ha hl. let f = farthest ha hl in (f.who, ends f.child, f.far);
    }

-- ---- the trees side by side

pub other-levels : OtherLevels
other-levels s a l m x p q j e f n o =
    let g = (hands_exactly s a l p x).0 e in
    let h = (hands_exactly s a m q x).0 f in
    let u = parent-level g.0 (rw (← g.1) at n) in
    let v = parent-level h.0 (rw (← h.1) at o) in
    one_level s a x l m g.0.link.level h.0.link.level (sym u ∙ v)

pub every-level-taken : EveryLevel
every-level-taken s a x j e p =
    let t = every-level s a x j p in
    let h = child e t.1 in (
      t.0,
      parent_of s a t.0 x,
      (hands_exactly s a t.0 (parent_of s a t.0 x) x).1 (h, refl),
      subst (λ (i : ℕ). Neighbours s i (parent_of s a t.0 x) x) t.2 (parent-neighbours h),
    )

pub one-tree-only : OneTree
one-tree-only s a l m p x e f =
    let g = (hands_exactly s a l p x).0 e in
    let h = (hands_exactly s a m p x).0 f in
    one-tree g.0 h.0 (g.1 ∙ sym h.1)

-- lowered twice, it is as it was
pub both_ways : BothWays
both_ways s a l m p x e f =
    let g = (hands_exactly s a l p x).0 e in
    let h = (hands_exactly s a m x p).0 f in
    let n : Neighbours s (hangs_at s a l x) p x = rw g.1 at (parent-neighbours g.0) in
    let o : Neighbours s (hangs_at s a m p) x p = rw h.1 at (parent-neighbours h.0) in
    let j = hangs_at s a l x in
    let q : j ≡ hangs_at s a m p =
    elim (ℕ_discrete j (hangs_at s a m p)) [ yes r ↦ r | no r ↦ absurd (n.differ (sym (o.beside.agree j r))) ]
    in
    let u : OneUp s j p x = hands_up s a l p x e in
    let v : OneUp s j x p = rw (← q) at (hands_up s a m x p f) in
    (j, n, two_values (bound s j) (digit s j p) (digit s j x) (bound-two u.lower.valid j) (digit_lt u.lower j n.level) (digit_lt u.upper j n.level) u.own v.own)

-- ---- the paper's figure

pub as_in_figure : AsInFigure
as_in_figure s a l ha hl p x =
    let f = figure_exactly ha hl p x in
    let h = hands_exactly s a l p x in
    (λ e. f.1 (h.0 e), λ g. h.1 (f.0 g))

-- ---- a whole tree

numbers : {s : Shape} {a l : ℕ} → Link s a l → WholeTree s a l (tree_of s a l)
numbers {s} {a} {l} k =
    record {
      long = tree-long k;
      parents = λ p x e. let h = (hands_exactly s a l p x).0 e in tree-parent k x h.0 ∙ h.1;
      source = tree-source k;
      past = tree-past k;
    }

left : (s : Shape) (a l : ℕ) (lent : List ℕ) → (tree_answer s a l).refusal.number ≡ 0 → WholeTree s a l (tree_left s a l lent)
unfolding tree_left
left s a l lent e =
    let z = (tree-answered s a l e).0 in
    subst (WholeTree s a l) (sym (answer-none (link_refusal s a l) (λ r. lent) (tree_of s a l) (sym z))) (numbers (link_of s a l z))

-- each number is the one that both have to be
unique : (s : Shape) (a l : ℕ) (ps qs : List ℕ) → Server s a → l ≤ s.k → WholeTree s a l ps → WholeTree s a l qs → ps ≡ qs
unique s a l ps qs ha hl f g = ext_get_or 0 ps qs (f.long ∙ sym g.long) (λ i h. at i)
  where
    at : (i : ℕ) → get_or ps i 0 ≡ get_or qs i 0
    at i =
        elim (ℕ_discrete a i) [
          | yes e ↦ rw (← e) (f.source ∙ sym g.source)
          | no e ↦ elim (dec_lt i (servers_of s)) [
            | yes h ↦ let p = every-parent.has s a l i (record { source = ha; destination = record { valid = ha.valid; below = h }; differ = e }) hl in
                f.parents p.0 i p.1 ∙ sym (g.parents p.0 i p.1)
            | no h ↦ f.past i (omega arith) ∙ sym (g.past i (omega arith))
          ]
        ]

pub every-tree : EveryTree
every-tree =
    record { left = left; count = λ s a l e. ap (λ (y : Number). y.value) (tree-answered s a l e).1; unique = unique }
