-- Laws of the order of the levels: which level stands at which place, the last at which two servers differ, and that different trees lower
-- at different levels.
use Prim.Native.Nat.{ℕ, zero, suc, ◌+◌, ◌-◌, ◌%◌, ◌≤◌, ◌<◌}
use mathlib.Core.Path.{◌≡◌, refl, sym, ap, ◌∙◌}
use mathlib.Core.Logic.{◌≢◌}
use mathlib.Core.Bool.{Bool, true, false, not, cond}
use native.Mathlib.Omega.{arith}
use native.Mathlib.Nat.{mod-lt, mod-add-mod, add-mod_right, le_of_suc-le-suc}
use native.Mathlib.Decide.{dec_lt, dec_le, ℕ_discrete}
use borrow.Author.Tests.{not-true, not-false}
use Rattle.lists.specs.Lists.{first_where}
use Rattle.lists.proofs.FirstPlaces.{where_most, where_holds, where_before}
use Rattle.trees.specs.Trees.{level_at, last_apart, lowered_at}
use Rattle.trees.proofs.RingLaws.{more_in, more_out}

-- ---- the level at a place

pub at_le : (k l i : ℕ) → level_at k l i ≤ k
unfolding level_at
at_le k l i = le_of_suc-le-suc (mod-lt _ (omega arith))

pub at_in : (k l i : ℕ) → l + i ≤ k → l + i ≡ level_at k l i
unfolding level_at
at_in k l i h = sym (more_in (suc k) l i (omega arith))

pub at-round : (k l i : ℕ) → l ≤ k → i ≤ suc k → k < l + i → l + i - k - 1 ≡ level_at k l i
unfolding level_at
at-round k l i p q h =
    omega (arith, more_out (suc k) l i (omega arith) (omega arith) (omega arith))

pub at_zero : (k l : ℕ) → l ≤ k → level_at k l 0 ≡ l
at_zero k l h = sym (at_in k l 0 (omega arith)) ∙ omega arith

pub at_injective : (k l i j : ℕ) → l ≤ k → i ≤ k → j ≤ k → level_at k l i ≡ level_at k l j → i ≡ j
at_injective k l i j h p q e =
    elim (dec_le (l + i) k) [
      | yes u ↦ elim (dec_le (l + j) k) [
        | yes w ↦ omega (arith, e, at_in k l i u, at_in k l j w)
        | no w ↦ omega (arith, e, at_in k l i u, at-round k l j h (omega arith) (omega arith))
      ]
      | no u ↦ elim (dec_le (l + j) k) [
        | yes w ↦ omega (arith, e, at-round k l i h (omega arith) (omega arith), at_in k l j w)
        | no w ↦ omega (arith, e, at-round k l i h (omega arith) (omega arith), at-round k l j h (omega arith) (omega arith))
      ]
    ]

-- every level has its place
pub record Stands (k l j : ℕ) : Type 0 where
  pub place : ℕ
  pub within : place ≤ k
  pub there : level_at k l place ≡ j

pub stands : (k l j : ℕ) → l ≤ k → j ≤ k → Stands k l j
stands k l j p q =
    elim (dec_le l j) [
      | yes h ↦ record { place = j - l; within = omega arith; there = sym (at_in k l (j - l) (omega arith)) ∙ omega arith }
      | no h ↦ record {
        place = suc k + j - l;
        within = omega arith;
        there = sym (at-round k l (suc k + j - l) p (omega arith) (omega arith)) ∙ omega arith;
      }
    ]

-- places counted on from another, and once round
at_on : (k j i p : ℕ) → level_at k (level_at k j i) p ≡ level_at k j (i + p)
unfolding level_at
at_on k j i p =
    let e : j + i + p ≡ j + (i + p) = omega arith in
    mod-add-mod (j + i) (suc k) p ∙ ap (λ (x : ℕ). x % suc k) e

at-around : (k j t : ℕ) → level_at k j (t + suc k) ≡ level_at k j t
unfolding level_at
at-around k j t =
    let e : j + (t + suc k) ≡ j + t + suc k = omega arith in
    ap (λ (x : ℕ). x % suc k) e ∙ add-mod_right (j + t) (suc k)

-- where tree l has a level at place i and tree m has it at place j, level l stands k+1-i places further in the order of tree m
at_other : (k l m i j : ℕ) → l ≤ k → i ≤ k → level_at k l i ≡ level_at k m j → level_at k m (j + (suc k - i)) ≡ l
at_other k l m i j p q e =
    let d = suc k - i in
    let v : i + d ≡ 0 + suc k = omega arith in
    sym (at_on k m j d) ∙ ap (λ (x : ℕ). level_at k x d) (sym e) ∙ at_on k l i d ∙ ap (level_at k l) v ∙ at-around k l 0 ∙ at_zero k l p

-- ---- the last that differs, place by place

module _ (same : ℕ → Bool) (k l : ℕ) where
  pub lowered-own : same l ≡ true → l ≡ lowered_at same k l
  unfolding lowered_at
  lowered-own e = rw e

  -- what is left to look at gives the answer
  pub going_start : same l ≡ false → last_apart same k l k ≡ lowered_at same k l
  unfolding lowered_at
  going_start e = rw e

  pub going_on : (r i j : ℕ) → last_apart same k l i ≡ r → 0 < i → j ≡ level_at k l i → same j ≡ true → last_apart same k l (i - 1) ≡ r
  unfolding last_apart
  going_on r zero j g h q e = let z : ⊥ = omega arith in absurd z
  going_on r (suc i) j g h q e =
      let w : suc i - 1 ≡ i = omega arith in
      let t : same (level_at k l (suc i)) ≡ true = ap same (sym q) ∙ e in
      ap (last_apart same k l) w ∙ (rw t at g)

  pub going-here : (r i j : ℕ) → last_apart same k l i ≡ r → 0 < i → j ≡ level_at k l i → same j ≡ false → j ≡ r
  unfolding last_apart
  going-here r zero j g h q e = let z : ⊥ = omega arith in absurd z
  going-here r (suc i) j g h q e =
      let t : same (level_at k l (suc i)) ≡ false = ap same (sym q) ∙ e in
      q ∙ (rw t at g)

  pub going_end : l ≤ k → (r i : ℕ) → last_apart same k l i ≡ r → i ≤ 0 → l ≡ r
  unfolding last_apart
  going_end p r zero g h = sym (at_zero k l p) ∙ g
  going_end p r (suc i) g h = let z : ⊥ = omega arith in absurd z

  -- ---- and by what it is

  pub record Last (r : ℕ) : Type 0 where
    pub place : ℕ
    pub within : place ≤ k
    pub here : level_at k l place ≡ r
    pub differ : same r ≡ false
    pub later : (j : ℕ) → place < j → j ≤ k → same (level_at k l j) ≡ true

  -- from place i down, where all later ones agree
  last_from : (i : ℕ) → i ≤ k → same (level_at k l 0) ≡ false → ((j : ℕ) → i < j → j ≤ k → same (level_at k l j) ≡ true) → Last (last_apart same k l i)
  unfolding last_apart
  last_from zero p e f = record { place = 0; within = omega arith; here = refl; differ = e; later = f }
  last_from (suc i) p e f = pick (same (level_at k l (suc i))) refl (λ g. last_from i (omega arith) e g)
    where
      pick : (t : Bool) → same (level_at k l (suc i)) ≡ t → (((j : ℕ) → i < j → j ≤ k → same (level_at k l j) ≡ true) → Last (last_apart same k l i)) → Last (cond (same (level_at k l (suc i))) (last_apart same k l i) (level_at k l (suc i)))
      pick true q rest =
          rw q (rest (λ j u w. elim (ℕ_discrete j (suc i)) [ yes z ↦ rw z q | no z ↦ f j (omega arith) w ]))
      pick false q rest = rw q (record { place = suc i; within = p; here = refl; differ = q; later = f })

  pub last_found : l ≤ k → same l ≡ false → Last (lowered_at same k l)
  unfolding lowered_at
  last_found p e =
      rw e (last_from k (omega arith) (ap same (at_zero k l p) ∙ e) (λ j u w. let z : ⊥ = omega arith in absurd z))

not_both : {t u : Bool} → t ≡ u → t ≡ true → u ≡ false → ⊥
not_both p q r = let z : ◌≡◌ {A = ℕ} 0 1 = cc in omega arith

module _ (same : ℕ → Bool) (k l : ℕ) where
  -- there is one such level only
  pub last_unique : (r q : ℕ) → Last same k l r → Last same k l q → r ≡ q
  last_unique r q f g =
      elim (dec_lt f.place g.place) [
        | yes h ↦ absurd (not_both (ap same g.here) (f.later g.place h g.within) g.differ)
        | no h ↦ elim (dec_lt g.place f.place) [
          | yes w ↦ absurd (not_both (ap same f.here) (g.later f.place w f.within) f.differ)
          | no w ↦ let e : f.place ≡ g.place = omega arith in sym f.here ∙ ap (level_at k l) e ∙ g.here
        ]
      ]

  -- where it is the tree's own level, there is no difference anywhere else
  pub last_only : l ≤ k → Last same k l l → (i : ℕ) → i ≤ k → i ≢ l → same i ≡ true
  last_only p f i q ne =
      let t = stands k l i p q in
      let w : f.place ≡ 0 = at_injective k l f.place 0 p f.within (omega arith) (f.here ∙ sym (at_zero k l p)) in
      let v : t.place ≢ 0 = λ z. ne (sym t.there ∙ ap (level_at k l) z ∙ at_zero k l p) in
      ap same (sym t.there) ∙ f.later t.place (omega (arith, w, v)) t.within

-- ---- different trees, different levels

module _ (same : ℕ → Bool) (k : ℕ) where
  -- else the one tree's own level would be among those at which the other's agree
  last_before : (l m r : ℕ) → l ≤ k → (f : Last same k l r) (g : Last same k m r) → same l ≡ false → f.place ≤ g.place
  last_before l m r p f g e =
      elim (dec_le f.place g.place) [
        | yes h ↦ h
        | no h ↦ absurd
            (not_both
            (ap same (at_other k l m f.place g.place p f.within (f.here ∙ sym g.here)))
            (g.later (g.place + (suc k - f.place)) (omega (arith, f.within)) (omega (arith, f.within)))
            e)
      ]

  last_injective : (l m r : ℕ) → l ≤ k → m ≤ k → Last same k l r → Last same k m r → same l ≡ false → same m ≡ false → l ≡ m
  last_injective l m r p q f g el em =
      let e : g.place + (suc k - f.place) ≡ 0 + suc k = omega (arith, f.within, last_before l m r p f g el, last_before m l r q g f em) in
      sym (at_other k l m f.place g.place p f.within (f.here ∙ sym g.here))
      ∙ ap (level_at k m) e
      ∙ at-around k m 0
      ∙ at_zero k m q

  levels-pick : (l m : ℕ) → l ≤ k → m ≤ k → (t u : Bool) → same l ≡ t → same m ≡ u → lowered_at same k l ≡ lowered_at same k m → l ≡ m
  levels-pick l m hl hm true true p q e = lowered-own same k l p ∙ e ∙ sym (lowered-own same k m q)
  levels-pick l m hl hm true false p q e =
      absurd (not_both (ap same (lowered-own same k l p ∙ e)) p (last_found same k m hm q).differ)
  levels-pick l m hl hm false true p q e =
      absurd (not_both (ap same (lowered-own same k m q ∙ sym e)) q (last_found same k l hl p).differ)
  levels-pick l m hl hm false false p q e =
      let f : Last same k l (lowered_at same k m) = rw e at (last_found same k l hl p) in
      last_injective l m (lowered_at same k m) hl hm f (last_found same k m hm q) p q

  pub levels-differ : (l m : ℕ) → l ≤ k → m ≤ k → lowered_at same k l ≡ lowered_at same k m → l ≡ m
  levels-differ l m hl hm e = levels-pick l m hl hm (same l) (same m) refl refl e

-- ---- and every level has its tree

module _ (same : ℕ → Bool) (k j : ℕ) (h : j ≤ k) where
  -- the first level after j at which they differ, which may be j again
  next : ℕ
  next = first_where (λ i. not (same (level_at k j (i + 1)))) k

  next-tree : ℕ
  next-tree = level_at k j (next + 1)

  -- from there on, j is the last
  tree_last : same j ≡ false → Last same k next-tree j
  unfolding next next-tree
  tree_last e =
      record {
        place = k - next;
        within = omega arith;
        here = at_on k j (next + 1) (k - next) ∙ ap (level_at k j) whole ∙ at-around k j 0 ∙ at_zero k j h;
        differ = e;
        later = λ p u w.
            ap same (at_on k j (next + 1) p ∙ ap (level_at k j) (past p u) ∙ at-around k j (next + 1 + p - suc k))
            ∙ before (next + 1 + p - suc k - 1) (omega (arith, most)) (next + 1 + p - suc k) (omega arith);
      }
    where
      most : next ≤ k
      most = where_most (λ i. not (same (level_at k j (i + 1)))) k

      whole : next + 1 + (k - next) ≡ 0 + suc k
      whole = omega (arith, most)

      past : (p : ℕ) → k - next < p → next + 1 + p ≡ next + 1 + p - suc k + suc k
      past p u = omega (arith, most)

      before : (i : ℕ) → i < next → (t : ℕ) → t ≡ i + 1 → same (level_at k j t) ≡ true
      before i u t q =
          rw q (not-false _ (where_before (λ i. not (same (level_at k j (i + 1)))) k i u))

  tree_apart : same j ≡ false → same next-tree ≡ false
  unfolding next next-tree
  tree_apart e =
      elim (dec_lt next k) [
        | yes u ↦ not-true _ (where_holds (λ i. not (same (level_at k j (i + 1)))) k u)
        | no u ↦ let q : next + 1 ≡ 0 + suc k = omega (arith, where_most (λ i. not (same (level_at k j (i + 1)))) k) in
            ap same (ap (level_at k j) q ∙ at-around k j 0 ∙ at_zero k j h) ∙ e
      ]

  pub level-tree : (l : ℕ) × (l ≤ k) × (lowered_at same k l ≡ j)
  unfolding next-tree
  level-tree = pick (same j) refl
    where
      pick : (t : Bool) → same j ≡ t → (l : ℕ) × (l ≤ k) × (lowered_at same k l ≡ j)
      pick true e = (j, h, sym (lowered-own same k j e))
      pick false e =
          let p = at_le k j (next + 1) in
          (next-tree, p, last_unique same k next-tree (lowered_at same k next-tree) j (last_found same k next-tree p (tree_apart e)) (tree_last e))

-- ---- at most k; and two tests that tell the same

pick_le : {k i j : ℕ} (t : Bool) → i ≤ k → j ≤ k → cond t i j ≤ k
pick_le true p q = p
pick_le false p q = q

last_le : (same : ℕ → Bool) (k l i : ℕ) → last_apart same k l i ≤ k
unfolding last_apart
last_le same k l zero = at_le k l 0
last_le same k l (suc i) = pick_le (same (level_at k l (suc i))) (last_le same k l i) (at_le k l (suc i))

pub lowered_le : (same : ℕ → Bool) (k l : ℕ) → l ≤ k → lowered_at same k l ≤ k
unfolding lowered_at
lowered_le same k l h = pick_le (same l) h (last_le same k l k)

-- two tests that tell the same
last_same : (f g : ℕ → Bool) → ((i : ℕ) → f i ≡ g i) → (k l i : ℕ) → last_apart f k l i ≡ last_apart g k l i
unfolding last_apart
last_same f g e k l zero = refl
last_same f g e k l (suc i) = rw (e (level_at k l (suc i)), last_same f g e k l i)

pub lowered-same : (f g : ℕ → Bool) → ((i : ℕ) → f i ≡ g i) → (k l : ℕ) → lowered_at f k l ≡ lowered_at g k l
unfolding lowered_at
lowered-same f g e k l = rw (e l, last_same f g e k l k)
