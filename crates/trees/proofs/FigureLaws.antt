-- The rule is the figure: a hop that the passes make is one from a parent to its child, and every such hop is made.
use Prim.Native.Nat.{ℕ, zero, suc, ◌+◌, ◌-◌, ◌%◌, ◌≤◌, ◌<◌}
use mathlib.Core.Path.{◌≡◌, refl, sym, ap, ◌∙◌, subst}
use mathlib.Core.Logic.{◌≢◌, ◌↔◌}
use native.Mathlib.Omega.{arith}
use native.Mathlib.Decide.{ℕ_discrete}
use borrow.Author.Tests.{eqb-true, eqb-false, eq-eqb, ne_eqb}
use Rattle.room.specs.declared.Shape.{Shape}
use Rattle.room.specs.Shapes.{bound, Server}
use Rattle.room.specs.Addresses.{digit, with_digit}
use Rattle.room.proofs.RoomLaws.{digit_lt, bound-two, with_server, with_same, with_other}
use Rattle.trees.specs.Trees.{level_at, alike, hangs_at, lowered, parent_of, Child}
use Rattle.trees.specs.Reach.{gap}
use Rattle.trees.specs.Figure.{raised, raised_by, longest, Has, root, passed, Hop, first, grown, hung}
use Rattle.trees.proofs.RingLaws.{gap-some, more_other, more_less}
use Rattle.trees.proofs.ParentLaws.{child_made}
use Rattle.trees.proofs.HopLaws.{lowered-digit, parent-neighbours}
use Rattle.trees.proofs.LevelLaws.{at_le, at_zero, at_injective, stands, last_found, last_unique}
use Rattle.trees.proofs.ReachLaws.{own_same, own_last, gap_le}
use Rattle.trees.proofs.RaisedLaws.{raised_by_on, raised_by-server, raised_by_is, raised_by-other, raised_by-digit, lowered-raised, base_value, raised_by-gap, raised_by-root}

-- server x has the source's digits at the levels of all passes after pass i
abbrev After : Shape → ℕ → ℕ → ℕ → ℕ → Type 0
After s a l i x = (j : ℕ) → i < j → j ≤ s.k → digit s (level_at s.k l j) a ≡ digit s (level_at s.k l j) x

-- what is known of a server that the tree has as pass i begins
record Grown (s : Shape) (a l i x : ℕ) : Type 0 where
  server : Server s x
  own : digit s l a ≢ digit s l x
  rest : (j : ℕ) → 0 < j → i ≤ j → j ≤ s.k → digit s (level_at s.k l j) a ≡ digit s (level_at s.k l j) x
  begin : i ≡ 0 → x ≡ raised s l a

-- and of one that pass i adds: its level is the last at which it differs from the source
record Added (s : Shape) (a l i x : ℕ) : Type 0 where
  server : Server s x
  own : digit s l a ≢ digit s l x
  apart : digit s (level_at s.k l i) a ≢ digit s (level_at s.k l i) x
  rest : After s a l i x

module _ {s : Shape} {a l : ℕ} (ha : Server s a) (hl : l ≤ s.k) where
  pass_apart : (i j : ℕ) → i ≤ s.k → j ≤ s.k → i ≢ j → level_at s.k l i ≢ level_at s.k l j
  pass_apart i j p q ne e = ne (at_injective s.k l i j hl p q e)

  pass_beside : (j : ℕ) → 0 < j → j ≤ s.k → level_at s.k l j ≢ l
  pass_beside j z p e = pass_apart j 0 p (omega arith) (omega arith) (e ∙ sym (at_zero s.k l hl))

  -- ---- from the figure to the rule

  -- raised from the source once or more, and less than once round
  own-raised : (t x : ℕ) → t < bound s l → 0 < t → digit s l x ≡ (digit s l a + t) % bound s l → digit s l a ≢ digit s l x
  own-raised t x h z q e = more_other (bound s l) (digit s l a) t (digit_lt ha l hl) z h (sym q ∙ sym e)

  first-added : (t : ℕ) → suc t < bound s l → Added s a l 0 (raised_by s l (suc t) a)
  first-added t q =
      let ne = own-raised (suc t) (raised_by s l (suc t) a) q (omega arith) (raised_by-digit hl (suc t) a ha) in
      record {
        server = raised_by-server hl (suc t) a ha;
        own = ne;
        apart = rw (at_zero s.k l hl) ne;
        rest = λ j z p. sym (raised_by-other hl (suc t) a ha (level_at s.k l j) (pass_beside j z p));
      }

  root-added : Added s a l 0 (raised s l a)
  unfolding raised_by
  root-added = first-added 0 (omega (arith, bound-two ha.valid l))

  added : (i t x : ℕ) → i ≤ s.k → Grown s a l i x → 0 < t → t ≤ longest s l i → Added s a l i (raised_by s (level_at s.k l i) t x)
  unfolding longest
  added zero t x p g z q =
      rw (at_zero s.k l hl, g.begin refl, raised_by_on s l t a) (first-added t (omega (arith, bound-two ha.valid l)))
  added (suc i) t x p g z q =
      let j = level_at s.k l (suc i) in
      let pj = at_le s.k l (suc i) in
      let v = g.server in
      record {
        server = raised_by-server pj t x v;
        own = λ e. g.own (e ∙ raised_by-other pj t x v l (λ w. pass_beside (suc i) (omega arith) p (sym w)));
        apart = λ e.
            more_other (bound s j) (digit s j x) t (digit_lt v j pj) z (omega (arith, bound-two ha.valid j))
            (sym (raised_by-digit pj t x v) ∙ sym e ∙ g.rest (suc i) (omega arith) (omega arith) p);
        rest = λ m u w.
            g.rest m (omega arith) (omega arith) w
            ∙ sym (raised_by-other pj t x v (level_at s.k l m) (pass_apart m (suc i) w p (omega arith)));
      }

  added-grown : (i x : ℕ) → Added s a l i x → Grown s a l (suc i) x
  added-grown i x g =
      record { server = g.server; own = g.own; rest = λ j z u w. g.rest j (omega arith) w; begin = λ e. let z : ⊥ = omega arith in absurd z }

  grown_on : (i x : ℕ) → Grown s a l i x → Grown s a l (suc i) x
  grown_on i x g =
      record { server = g.server; own = g.own; rest = λ j z u w. g.rest j z (omega arith) w; begin = λ e. let z : ⊥ = omega arith in absurd z }

  root-grown : Grown s a l 0 (raised s l a)
  root-grown =
      let r = root-added in record { server = r.server; own = r.own; rest = λ j z u w. r.rest j z w; begin = λ e. refl }

  has-grown : {i x : ℕ} → Has s a l i x → i ≤ suc s.k → Grown s a l i x
  unfolding raised_by
  has-grown root h = root-grown
  has-grown (passed {i = i} {x = x} zero q f) h = grown_on i x (has-grown f (omega arith))
  has-grown (passed {i = i} {x = x} (suc t) q f) h =
      added-grown i (raised_by s (level_at s.k l i) (suc t) x) (added i (suc t) x (omega arith) (has-grown f (omega arith)) (omega arith) q)

  hangs_pass : (i x : ℕ) → i ≤ s.k → Added s a l i x → hangs_at s a l x ≡ level_at s.k l i
  unfolding hangs_at
  hangs_pass i x p g =
      last_unique (alike s a x) s.k l _ (level_at s.k l i)
      (last_found (alike s a x) s.k l hl (ne_eqb (digit s l a) (digit s l x) g.own))
      (record { place = i; within = p; here = refl; differ = ne_eqb _ _ g.apart; later = λ j u w. eq-eqb _ _ (g.rest j u w) })

  added_child : (i x : ℕ) → Added s a l i x → Child s a l x
  added_child i x g =
      child_made ha g.server hl (λ e. g.own (ap (digit s l) e))

  parent-at : (j x : ℕ) → hangs_at s a l x ≡ j → parent_of s a l x ≡ lowered s j x
  unfolding parent_of
  parent-at j x e = ap (λ (i : ℕ). lowered s i x) e

  longest_le : (i : ℕ) → longest s l i ≤ bound s (level_at s.k l i) - 1
  unfolding longest
  longest_le zero = rw (at_zero s.k l hl) (omega arith)
  longest_le (suc i) = omega arith

  -- the parent of a server that a pass adds has the digit raised once less
  parent-before : (i t x : ℕ) → i ≤ s.k → t < longest s l i → Server s x → (y : ℕ) → raised_by s (level_at s.k l i) (suc t) x ≡ y → hangs_at s a l y ≡ level_at s.k l i → parent_of s a l y ≡ raised_by s (level_at s.k l i) t x
  parent-before i t x p q h y e w =
      let j = level_at s.k l i in
      parent-at j y w
      ∙ ap (lowered s j) (sym e)
      ∙ lowered-raised (at_le s.k l i) t x h (omega (arith, longest_le i, bound-two ha.valid j))

  parent-root : (x : ℕ) → raised s l a ≡ x → hangs_at s a l x ≡ l → parent_of s a l x ≡ a
  unfolding raised_by
  parent-root x e w = parent-at l x w ∙ ap (lowered s l) (sym e) ∙ lowered-raised hl 0 a ha (omega (arith, bound-two ha.valid l))

  hop-parent : {p x : ℕ} → Hop s a l p x → Child s a l x × (parent_of s a l x ≡ p)
  hop-parent first =
      (added_child 0 (raised s l a) root-added, parent-root (raised s l a) refl (hangs_pass 0 (raised s l a) (omega arith) root-added ∙ at_zero s.k l hl))
  hop-parent (grown {i = i} {x = x} t p q f) =
      let g = has-grown f (omega arith) in
      let r = added i (suc t) x p g (omega arith) q in
      let y = raised_by s (level_at s.k l i) (suc t) x in
      (added_child i y r, parent-before i t x p q g.server y refl (hangs_pass i y p r))
  hop-parent (hung {x = x} h ne e) =
      let c : Child s a l x = child_made ha h hl ne in
      (c, parent-at l x (own_same c e))

  -- ---- from the rule to the figure

  gap_pos : (x j : ℕ) → Server s x → j ≤ s.k → digit s j a ≢ digit s j x → 0 < gap s a x j
  unfolding gap
  gap_pos x j h p ne = gap-some (bound s j) (digit s j a) (digit s j x) (digit_lt ha j p) (digit_lt h j p) ne

  -- where every later pass's level agrees, every other level does
  others : (x : ℕ) → After s a l 0 x → (i : ℕ) → i ≤ s.k → i ≢ l → digit s i a ≡ digit s i x
  others x f i p ne =
      let t = stands s.k l i hl p in
      let z : t.place ≢ 0 = λ q. ne (sym t.there ∙ ap (level_at s.k l) q ∙ at_zero s.k l hl) in
      rw t.there at (f t.place (omega (arith, z)) t.within)

  -- with the digit of pass i+1 set to the source's, the levels of all passes from there on agree
  base_has : (i x : ℕ) → suc i ≤ s.k → Server s x → digit s l a ≢ digit s l x → After s a l (suc i) x → ((y : ℕ) → Server s y → digit s l a ≢ digit s l y → After s a l i y → Has s a l (suc i) y) → Has s a l (suc i) (with_digit s (level_at s.k l (suc i)) (digit s (level_at s.k l (suc i)) a) x)
  base_has i x p h ne f all =
      let j = level_at s.k l (suc i) in
      let v = base_value (at_le s.k l (suc i)) ha h in
      all (with_digit s j (digit s j a) x) (with_server v)
      (λ q. ne (q ∙ with_other v l (λ w. pass_beside (suc i) (omega arith) p (sym w))))
      (λ m u w. elim (ℕ_discrete m (suc i)) [
        | yes q ↦ rw q (sym (with_same v))
        | no q ↦ f m (omega arith) w ∙ sym (with_other v (level_at s.k l m) (pass_apart m (suc i) w p q))
      ])

  -- the tree has every server whose digit l is not the source's, once the passes of all levels at which it differs are done
  has_all : (i x : ℕ) → i ≤ s.k → Server s x → digit s l a ≢ digit s l x → After s a l i x → Has s a l (suc i) x
  unfolding longest
  has_all zero x p h ne f =
      let t = gap s a x l - 1 in
      let g : gap s a x l ≡ suc t = omega (arith, gap_pos x l h hl ne) in
      let e : raised_by s (level_at s.k l 0) t (raised s l a) ≡ x = rw (at_zero s.k l hl) (raised_by-root hl t a x ha h (others x f) g) in
      let c : Has s a l 1 (raised_by s (level_at s.k l 0) t (raised s l a)) = passed {i = 0} t (omega (arith, gap_le ha.valid a x l)) root in
      rw e at c
  has_all (suc i) x p h ne f =
      let j = level_at s.k l (suc i) in
      let y = with_digit s j (digit s j a) x in
      let e : raised_by s j (gap s a x j) y ≡ x = raised_by-gap (at_le s.k l (suc i)) a x ha h in
      let b : Has s a l (suc i) y = base_has i x p h ne f (λ z hz nz fz. has_all i z (omega arith) hz nz fz) in
      let c : Has s a l (suc (suc i)) (raised_by s j (gap s a x j) y) = passed (gap s a x j) (gap_le ha.valid a x j) b in
      rw e at c

  hop-grown : (i t y x : ℕ) → i ≤ s.k → t < longest s l i → Has s a l i y → raised_by s (level_at s.k l i) (suc t) y ≡ x → hangs_at s a l x ≡ level_at s.k l i → Hop s a l (parent_of s a l x) x
  hop-grown i t y x p q f e w =
      let b : Hop s a l (raised_by s (level_at s.k l i) t y) (raised_by s (level_at s.k l i) (suc t) y) = grown t p q f in
      rw (parent-before i t y p q (has-grown f (omega arith)).server x e w) (rw e at b)

  hop-first : (x : ℕ) → raised s l a ≡ x → hangs_at s a l x ≡ l → Hop s a l (parent_of s a l x) x
  hop-first x e w =
      let b : Hop s a l a (raised s l a) = first in rw (parent-root x e w) (rw e at b)

  hop-own : (x t : ℕ) → Added s a l 0 x → gap s a x l ≡ suc t → raised_by s l t (raised s l a) ≡ x → Hop s a l (parent_of s a l x) x
  unfolding raised_by longest
  hop-own x zero g q e = hop-first x e (hangs_pass 0 x (omega arith) g ∙ at_zero s.k l hl)
  hop-own x (suc t) g q e =
      hop-grown 0 t (raised s l a) x (omega arith) (omega (arith, gap_le ha.valid a x l)) root (subst (λ (j : ℕ). raised_by s j (suc t) (raised s l a) ≡ x) (sym (at_zero s.k l hl)) e) (hangs_pass 0 x (omega arith) g)

  hop-added : (i x : ℕ) → i ≤ s.k → Added s a l i x → Hop s a l (parent_of s a l x) x
  unfolding longest
  hop-added zero x p g =
      let t = gap s a x l - 1 in
      let q : gap s a x l ≡ suc t = omega (arith, gap_pos x l g.server hl g.own) in
      hop-own x t g q (raised_by-root hl t a x ha g.server (others x g.rest) q)
  hop-added (suc i) x p g =
      let j = level_at s.k l (suc i) in
      let pj = at_le s.k l (suc i) in
      let y = with_digit s j (digit s j a) x in
      let t = gap s a x j - 1 in
      let q : gap s a x j ≡ suc t = omega (arith, gap_pos x j g.server pj g.apart) in
      let b : Has s a l (suc i) y = base_has i x p g.server g.own g.rest (λ z hz nz fz. has_all i z (omega arith) hz nz fz) in
      hop-grown (suc i) t y x p (omega (arith, gap_le ha.valid a x j)) b (ap (λ (u : ℕ). raised_by s j u y) (sym q) ∙ raised_by-gap pj a x ha g.server) (hangs_pass (suc i) x p g)

  parent-hop : {x : ℕ} → Child s a l x → Hop s a l (parent_of s a l x) x
  parent-hop {x} h =
      elim (ℕ_discrete (digit s l a) (digit s l x)) [
        | yes e ↦ rw (parent-at l x (own_same h e)) (hung h.link.server h.apart e)
        | no ne ↦ let q = own_last h ne in
            hop-added q.place x q.within
            (record {
              server = h.link.server;
              own = ne;
              apart = eqb-false _ _ (ap (alike s a x) q.here ∙ q.differ);
              rest = λ j u w. eqb-true _ _ (q.later j u w);
            })
      ]

  -- the hops of the figure are those from the rule's parents to their children
  pub figure_exactly : (p x : ℕ) → Hop s a l p x ↔ (Child s a l x × (parent_of s a l x ≡ p))
  figure_exactly p x = (hop-parent, λ h. rw h.1 at (parent-hop h.0))

  -- the root hangs from the source
  pub root-parent : Child s a l (raised s l a) × (parent_of s a l (raised s l a) ≡ a)
  root-parent = hop-parent first

  pub raised-server : Server s (raised s l a)
  raised-server = root-added.server

  pub raised-other : (i : ℕ) → i ≢ l → digit s i a ≡ digit s i (raised s l a)
  unfolding raised_by
  raised-other i q = sym (raised_by-other hl 1 a ha i q)

  pub raised-digit : digit s l (raised s l a) ≡ (digit s l a + 1) % bound s l
  unfolding raised_by
  raised-digit = raised_by-digit hl 1 a ha

  pub raised_is : {x : ℕ} → Server s x → ((i : ℕ) → i ≢ l → digit s i a ≡ digit s i x) → digit s l x ≡ (digit s l a + 1) % bound s l → raised s l a ≡ x
  unfolding raised_by
  raised_is {x} hx f e = raised_by_is hl 1 a x ha hx (λ i p q. f i q) (sym e)

  -- and no other server does
  pub root-only : {x : ℕ} → Child s a l x → parent_of s a l x ≡ a → x ≡ raised s l a
  unfolding raised_by parent_of
  root-only {x} h e = sym (raised_by_is hl 1 a x ha hx (λ i p q. beside i (λ w. q (w ∙ sym own))) turned)
    where
      j : ℕ
      j = hangs_at s a l x

      hx : Server s x
      hx = h.link.server

      beside : (i : ℕ) → i ≢ hangs_at s a l x → digit s i a ≡ digit s i x
      beside i q = ap (digit s i) (sym e) ∙ (parent-neighbours h).beside.agree i q

      apart : digit s (hangs_at s a l x) a ≢ digit s (hangs_at s a l x) x
      apart q = (parent-neighbours h).differ (ap (digit s (hangs_at s a l x)) e ∙ q)

      own : l ≡ hangs_at s a l x
      own =
          elim (ℕ_discrete l (hangs_at s a l x)) [
            | yes q ↦ q
            | no q ↦ absurd (apart (rw (own_same h (beside l q)) (beside l q)))
          ]

      lower : digit s l a ≡ (digit s l x + (bound s l - 1)) % bound s l
      lower =
          ap (digit s l) (sym e ∙ ap (λ (i : ℕ). lowered s i x) (sym own)) ∙ lowered-digit hx hl

      turned : (digit s l a + 1) % bound s l ≡ digit s l x
      turned = ap (λ (v : ℕ). (v + 1) % bound s l) lower ∙ more_less (bound s l) (digit s l x) (digit_lt hx l hl)
