-- The bound on the steps is met, in every tree of every room.
use Prim.Native.Nat.{ℕ, zero, suc, ◌+◌, ◌-◌, ◌*◌, ◌%◌, ◌≤◌, ◌<◌}
use mathlib.Core.Path.{◌≡◌, refl, sym, ap, ◌∙◌}
use mathlib.Core.Logic.{◌≢◌}
use native.Mathlib.Omega.{arith}
use native.Mathlib.Decide.{ℕ_discrete}
use borrow.Author.Tests.{eq-eqb, ne_eqb}
use Rattle.room.specs.declared.Shape.{Shape}
use Rattle.room.specs.Shapes.{bound, Server}
use Rattle.room.specs.Addresses.{digit, with_digit}
use Rattle.room.proofs.RoomLaws.{digit_lt, same_digits, with_server, with_same, with_other}
use Rattle.trees.specs.Trees.{lowered, parent_of, Child}
use Rattle.trees.specs.Reach.{total, gap, steps_of, most_steps}
use Rattle.trees.proofs.RingLaws.{gap_wrap}
use Rattle.trees.proofs.ParentLaws.{child_made}
use Rattle.trees.proofs.HopLaws.{lowered-server, lowered-digit, lowered-other, lowered-apart}
use Rattle.trees.proofs.ReachLaws.{own_same, steps_up, total-same, total-bounds}
use Rattle.trees.proofs.RaisedLaws.{base_value}

-- a server that is as far from the source as the bound says
pub record Farthest (s : Shape) (a l : ℕ) : Type 0 where
  pub who : ℕ
  pub child : Child s a l who
  pub far : steps_of s a l who ≡ most_steps s

-- ---- every digit lowered

all-lowered : Shape → ℕ → ℕ → ℕ
all-lowered s zero a = a
all-lowered s (suc m) a = lowered s m (all-lowered s m a)

all-server : {s : Shape} {a : ℕ} → Server s a → (m : ℕ) → m ≤ suc s.k → Server s (all-lowered s m a)
unfolding all-lowered
all-server h zero p = h
all-server h (suc m) p = lowered-server (all-server h m (omega arith)) (omega arith)

all_above : {s : Shape} {a : ℕ} → Server s a → (m : ℕ) → m ≤ suc s.k → (i : ℕ) → m ≤ i → digit s i (all-lowered s m a) ≡ digit s i a
unfolding all-lowered
all_above h zero p i q = refl
all_above h (suc m) p i q =
    lowered-other (all-server h m (omega arith)) (omega arith) i (omega arith) ∙ all_above h m (omega arith) i (omega arith)

all-below : {s : Shape} {a : ℕ} → Server s a → (m : ℕ) → m ≤ suc s.k → (i : ℕ) → i < m → digit s i (all-lowered s m a) ≡ (digit s i a + (bound s i - 1)) % bound s i
unfolding all-lowered
all-below h zero p i q = let z : ⊥ = omega arith in absurd z
all-below {s} {a} h (suc m) p i q =
    elim (ℕ_discrete i m) [
      | yes e ↦ rw e (lowered-digit (all-server h m (omega arith)) (omega arith) ∙ ap (λ (v : ℕ). (v + (bound s m - 1)) % bound s m) (all_above h m (omega arith) m (omega arith)))
      | no e ↦ lowered-other (all-server h m (omega arith)) (omega arith) i e ∙ all-below h m (omega arith) i (omega arith)
    ]

-- its gaps are as wide as they can be
all-gap : {s : Shape} {a : ℕ} → Server s a → (i : ℕ) → i < suc s.k → gap s a (all-lowered s (suc s.k) a) i ≡ bound s i - 1
unfolding gap
all-gap {s} {a} h i q =
    omega (arith, gap_wrap (bound s i) (digit s i a) (digit s i a) (digit s i (all-lowered s (suc s.k) a)) (digit_lt h i (omega arith)) refl (all-below h (suc s.k) (omega arith) i q))

-- the server whose parent that is: with the source's own digit l
many_levels : {s : Shape} {a l : ℕ} → Server s a → l ≤ s.k → 0 < s.k → Farthest s a l
unfolding parent_of most_steps
many_levels {s} {a} {l} ha hl hk = record { who = x; child = c; far = far }
  where
    y : ℕ
    y = all-lowered s (suc s.k) a

    hy : Server s (all-lowered s (suc s.k) a)
    hy = all-server ha (suc s.k) (omega arith)

    x : ℕ
    x = with_digit s l (digit s l a) (all-lowered s (suc s.k) a)

    hx : Server s (with_digit s l (digit s l a) (all-lowered s (suc s.k) a))
    hx = with_server (base_value hl ha hy)

    same_at : digit s l (with_digit s l (digit s l a) (all-lowered s (suc s.k) a)) ≡ digit s l a
    same_at = with_same (base_value hl ha hy)

    -- at another level it is lowered
    ne : a ≢ with_digit s l (digit s l a) (all-lowered s (suc s.k) a)
    ne e = elim (ℕ_discrete l 0) [ yes q ↦ at 1 (omega arith) (omega arith) | no q ↦ at 0 (omega arith) (λ w. q (sym w)) ]
      where
        at : (i : ℕ) → i ≤ s.k → i ≢ l → ⊥
        at i p q =
            lowered-apart ha p
            (lowered-digit ha p ∙ sym (all-below ha (suc s.k) (omega arith) i (omega arith)) ∙ sym (with_other (base_value hl ha hy) i q) ∙ ap (digit s i) (sym e))

    c : Child s a l (with_digit s l (digit s l a) (all-lowered s (suc s.k) a))
    c = child_made ha hx hl ne

    parent : parent_of s a l (with_digit s l (digit s l a) (all-lowered s (suc s.k) a)) ≡ all-lowered s (suc s.k) a
    parent =
        ap (λ (j : ℕ). lowered s j x) (own_same c (sym same_at))
        ∙ same_digits (lowered-server hx hl) hy
        (λ i p. elim (ℕ_discrete i l) [
          | yes q ↦ rw q (lowered-digit hx hl ∙ ap (λ (v : ℕ). (v + (bound s l - 1)) % bound s l) same_at ∙ sym (all-below ha (suc s.k) (omega arith) l (omega arith)))
          | no q ↦ lowered-other hx hl i q ∙ with_other (base_value hl ha hy) i q
        ])

    far : steps_of s a l (with_digit s l (digit s l a) (all-lowered s (suc s.k) a)) ≡ most_steps s
    far =
        steps_up c
        ∙ ap (λ (z : ℕ). suc (total (suc s.k) (gap s a z))) parent
        ∙ ap suc (total-same (suc s.k) (gap s a y) (λ i. bound s i - 1) (λ i p. all-gap ha i p) ∙ total-bounds s)
        ∙ rw (ne_eqb s.k 0 (λ e. omega arith)) (omega (arith, ha.valid.some))

-- with one level it is the source's neighbour below
single : {s : Shape} {a l : ℕ} → Server s a → l ≤ s.k → s.k ≡ 0 → Farthest s a l
unfolding most_steps steps_of all-lowered
single {s} {a} {l} ha hl e =
    let x = all-lowered s (suc s.k) a in
    let hx : Server s x = all-server ha (suc s.k) (omega arith) in
    let ne : digit s l a ≢ digit s l x =
    λ q. lowered-apart ha hl (lowered-digit ha hl ∙ sym (all-below ha (suc s.k) (omega arith) l (omega arith)) ∙ sym q)
    in
    record {
      who = x;
      child = child_made ha hx hl (λ q. ne (ap (digit s l) q));
      far = rw (ne_eqb (digit s l a) (digit s l x) ne, eq-eqb s.k 0 e) (omega (arith, total-same (suc s.k) (gap s a x) (λ i. bound s i - 1) (λ i p. all-gap ha i p), total-bounds s, ap (λ (i : ℕ). i * (s.n - 1)) e));
    }

pub farthest : {s : Shape} {a l : ℕ} → Server s a → l ≤ s.k → Farthest s a l
farthest {s} ha hl =
    elim (ℕ_discrete s.k 0) [ yes e ↦ single ha hl e | no e ↦ many_levels ha hl (omega arith) ]
