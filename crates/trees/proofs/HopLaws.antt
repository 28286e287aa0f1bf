-- A hop of a tree: a parent and its child are neighbours, and no directed hop stands in two trees.
use Prim.Native.Nat.{ℕ, ◌+◌, ◌-◌, ◌%◌, ◌≤◌}
use mathlib.Core.Path.{◌≡◌, sym, ap, ◌∙◌}
use mathlib.Core.Logic.{◌≢◌}
use native.Mathlib.Decide.{ℕ_discrete}
use Rattle.room.specs.declared.Shape.{Shape}
use Rattle.room.specs.Shapes.{bound, Server}
use Rattle.room.specs.Addresses.{digit, Beside, Neighbours}
use Rattle.room.proofs.RoomLaws.{digit_lt, bound-two, same_digits, with_server, with_same, with_other}
use Rattle.trees.specs.Trees.{alike, hangs_at, lowered, parent_of, Child}
use Rattle.trees.proofs.RingLaws.{less_other, more_less, less_raised}
use Rattle.trees.proofs.LevelLaws.{levels-differ, level-tree}
use Rattle.trees.proofs.ParentLaws.{hangs_le, round-value}

-- ---- a server with a digit lowered

pub lowered-server : {s : Shape} {x j : ℕ} → Server s x → j ≤ s.k → Server s (lowered s j x)
unfolding lowered
lowered-server {s} {x} {j} h p = with_server (round-value h p (digit s j x + (bound s j - 1)))

pub lowered-digit : {s : Shape} {x j : ℕ} → Server s x → j ≤ s.k → digit s j (lowered s j x) ≡ (digit s j x + (bound s j - 1)) % bound s j
unfolding lowered
lowered-digit {s} {x} {j} h p = with_same (round-value h p (digit s j x + (bound s j - 1)))

pub lowered-other : {s : Shape} {x j : ℕ} → Server s x → j ≤ s.k → (i : ℕ) → i ≢ j → digit s i (lowered s j x) ≡ digit s i x
unfolding lowered
lowered-other {s} {x} {j} h p i q = with_other (round-value h p (digit s j x + (bound s j - 1))) i q

pub lowered-apart : {s : Shape} {x j : ℕ} → Server s x → j ≤ s.k → digit s j (lowered s j x) ≢ digit s j x
lowered-apart {s} {x} {j} h p e =
    less_other (bound s j) (digit s j x) (bound-two h.valid j) (digit_lt h j p) (sym (lowered-digit h p) ∙ e)

-- lowering is raising the other way round
pub lowered-up : {s : Shape} {x j : ℕ} → Server s x → j ≤ s.k → digit s j x ≡ (digit s j (lowered s j x) + 1) % bound s j
lowered-up {s} {x} {j} h p =
    sym (ap (λ (v : ℕ). (v + 1) % bound s j) (lowered-digit h p) ∙ more_less (bound s j) (digit s j x) (digit_lt h j p))

pub lowered_is : {s : Shape} {j p x : ℕ} → Server s p → Server s x → j ≤ s.k → Beside s j p x → digit s j x ≡ (digit s j p + 1) % bound s j → p ≡ lowered s j x
lowered_is {s} {j} {p} {x} hp hx q b e =
    same_digits hp (lowered-server hx q)
    (λ i r. elim (ℕ_discrete i j) [
      | yes u ↦ rw u (sym (lowered-digit hx q ∙ ap (λ (v : ℕ). (v + (bound s j - 1)) % bound s j) e ∙ less_raised (bound s j) (digit s j p) (digit_lt hp j q)))
      | no u ↦ b.agree i u ∙ sym (lowered-other hx q i u)
    ])

-- ---- a parent and its child are neighbours

-- of the source too the rule names a server
pub parent-server-at : (s : Shape) (a l x : ℕ) → Server s x → l ≤ s.k → Server s (parent_of s a l x)
unfolding parent_of
parent-server-at s a l x h p = lowered-server h (hangs_le s a l x p)

pub parent-server : {s : Shape} {a l x : ℕ} → Child s a l x → Server s (parent_of s a l x)
parent-server {s} {a} {l} {x} h = parent-server-at s a l x h.link.server h.link.level

pub parent-neighbours : {s : Shape} {a l x : ℕ} → Child s a l x → Neighbours s (hangs_at s a l x) (parent_of s a l x) x
unfolding parent_of
parent-neighbours {s} {a} {l} {x} h =
    let v = h.link.server in
    let p = hangs_le s a l x h.link.level in
    record { level = p; beside = record { agree = lowered-other v p }; differ = lowered-apart v p }

-- at that level alone
pub parent-level : {s : Shape} {a l x j : ℕ} → (h : Child s a l x) → Neighbours s j (parent_of s a l x) x → j ≡ hangs_at s a l x
parent-level {s} {a} {l} {x} {j} h n =
    elim (ℕ_discrete j (hangs_at s a l x)) [ yes e ↦ e | no e ↦ absurd (n.differ ((parent-neighbours h).beside.agree j e)) ]

-- ---- no directed hop stands in two trees

-- the level at which a server hangs is another in each tree
pub one_level : (s : Shape) (a x l m : ℕ) → l ≤ s.k → m ≤ s.k → hangs_at s a l x ≡ hangs_at s a m x → l ≡ m
unfolding hangs_at
one_level s a x l m p q e = levels-differ (alike s a x) s.k l m p q e

-- and every level is that of some tree
pub every-level : (s : Shape) (a x j : ℕ) → j ≤ s.k → (l : ℕ) × (l ≤ s.k) × (hangs_at s a l x ≡ j)
unfolding hangs_at
every-level s a x j h = level-tree (alike s a x) s.k j h

-- and its parent is another in each tree
pub one-tree : {s : Shape} {a x l m : ℕ} → Child s a l x → Child s a m x → parent_of s a l x ≡ parent_of s a m x → l ≡ m
one-tree {s} {a} {x} {l} {m} f g e =
    elim (ℕ_discrete (hangs_at s a l x) (hangs_at s a m x)) [
      | yes q ↦ one_level s a x l m f.link.level g.link.level q
      | no q ↦ absurd ((parent-neighbours f).differ (ap (digit s (hangs_at s a l x)) e ∙ (parent-neighbours g).beside.agree (hangs_at s a l x) q))
    ]
