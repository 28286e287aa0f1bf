-- The two tables: the start, a hop that leads to nothing new, and one that does.
use Prim.Native.Nat.{ℕ, zero, suc, ◌+◌, ◌*◌, ◌<◌, ◌≤◌}
use native.Mathlib.Omega.{arith}
use native.Mathlib.Decide.{ℕ_discrete}
use native.Mathlib.Numerals.{add-one}
use mathlib.Core.Path.{◌≡◌, refl, sym, ap, ◌∙◌, subst₂}
use mathlib.Core.Bool.{Bool, true, false}
use mathlib.Core.List.{List, [], ◌∷◌}
use lib.ListN.{length, get_or, set, replicate, length-set, length-replicate, get_or-replicate}
use lib.Seq.{get_or-set_same, get_or-set_other}
use lib.Dec.{eqb}
use borrow.Author.Tests.{eq-eqb, ne_eqb}
use borrow.Author.Count.{below_more}
use Rattle.finder.specs.Kept.{no_parent, Blank, Kept, occupied, one_more_unless, queued, keyed}
use Rattle.finder.proofs.Grow.{advance, push}

one_more_unless_le : (b : Bool) (m : ℕ) → one_more_unless b m ≤ suc m
unfolding one_more_unless
one_more_unless_le true m = omega arith
one_more_unless_le false m = omega arith

one_more_unless-suc : (b : Bool) (m : ℕ) → one_more_unless b (suc m) ≡ suc (one_more_unless b m)
unfolding one_more_unless
one_more_unless-suc true m = refl
one_more_unless-suc false m = refl

occupied_le : (l : List ℕ) → occupied l ≤ length l
unfolding occupied
occupied_le [] = omega arith
occupied_le (x ∷ xs) = omega (arith, occupied_le xs, one_more_unless_le (eqb x no_parent) (occupied xs))

-- where an entry is free, the taken ones are fewer than all
occupied-room : (l : List ℕ) (w : ℕ) → w < length l → get_or l w 0 ≡ no_parent → occupied l < length l
unfolding occupied one_more_unless
occupied-room [] w h e = absurd (omega arith)
occupied-room (x ∷ xs) zero h e = rw (eq-eqb x no_parent e) (omega (arith, occupied_le xs))
occupied-room (x ∷ xs) (suc w) h e = omega (arith, occupied-room xs w (omega arith) e, one_more_unless_le (eqb x no_parent) (occupied xs))

occupied-set : (l : List ℕ) (w v : ℕ) → w < length l → get_or l w 0 ≡ no_parent → (v ≡ no_parent → ⊥) → occupied (set l w v) ≡ suc (occupied l)
unfolding occupied one_more_unless
occupied-set [] w v h e d = absurd (omega arith)
occupied-set (x ∷ xs) zero v h e d = rw (ne_eqb v no_parent d, eq-eqb x no_parent e)
occupied-set (x ∷ xs) (suc w) v h e d = ap (one_more_unless (eqb x no_parent)) (occupied-set xs w v (omega arith) e d) ∙ one_more_unless-suc (eqb x no_parent) (occupied xs)

occupied-none : (n : ℕ) → occupied (replicate n no_parent) ≡ 0
unfolding occupied one_more_unless
occupied-none zero = refl
occupied-none (suc n) = occupied-none n

module _ {step : ℕ → ℕ → ℕ} {ok : ℕ → ℕ → Type 0} {size root : ℕ} {back queue : List ℕ} {n t : ℕ} (s : Kept step ok size root back queue n t) where
  -- the hops up to `t'` lead to nothing new
  pub pass : (t' : ℕ) → t ≤ t'
      → ((a x : ℕ) → a < n → t ≤ a * 256 + x → a * 256 + x < t' → ok (get_or queue a 0) x → (j : ℕ) × (j < n) × (get_or queue j 0 ≡ step (get_or queue a 0) x))
      → Kept step ok size root back queue n t'
  pass t' le new =
      record {
        state = advance s.state t' le new;
        inside = s.inside;
        known = s.known;
        marked = s.marked;
        within = s.within;
        count = s.count;
        fits = s.fits;
        long_back = s.long_back;
        long_queue = s.long_queue;
      }

  -- while a server is not found, the queue has room
  pub vacant : (w : ℕ) → w < 4096 → get_or back w 0 ≡ no_parent → n < 4096
  vacant w hw free = omega (arith, s.count, s.long_back, occupied-room back w (omega (arith, s.long_back)) free)

  module _ (low : (u y : ℕ) → ok u y → y < 256) (a x w : ℕ) (ha : a < n) (et : t ≡ a * 256 + x) (ew : w ≡ step (get_or queue a 0) x) (hw : w < size)
      (o : ok (get_or queue a 0) x) (free : get_or back w 0 ≡ no_parent) where
    room : n < 4096
    room = vacant w (omega (arith, s.within)) free

    not_yet : (i : ℕ) → i < n → get_or queue i 0 ≡ w → ⊥
    not_yet i h e = let p : get_or back (get_or queue i 0) 0 ≡ get_or back w 0 = ap (λ (m : ℕ). get_or back m 0) e in omega (arith, s.known i h)

    at_n : get_or (set queue n w) n 0 ≡ w
    at_n = get_or-set_same queue n w 0 (omega (arith, room, s.long_queue))

    at_i : (i : ℕ) → i < n → get_or (set queue n w) i 0 ≡ get_or queue i 0
    at_i i h = get_or-set_other queue n i w 0 (omega arith)

    key_n : get_or (set back w t) (get_or (set queue n w) n 0) 0 ≡ t
    key_n = ap (λ (m : ℕ). get_or (set back w t) m 0) at_n ∙ get_or-set_same back w t 0 (omega (arith, s.long_back, s.within))

    key_i : (i : ℕ) → i < n → get_or (set back w t) (get_or (set queue n w) i 0) 0 ≡ get_or back (get_or queue i 0) 0
    key_i i h = ap (λ (m : ℕ). get_or (set back w t) m 0) (at_i i h) ∙ get_or-set_other back w (get_or queue i 0) t 0 (not_yet i h)

    below : t < 1048576
    below = omega (arith, room, low (get_or queue a 0) x o)

    marked' : (v : ℕ) → v < 4096 → (get_or (set back w t) v 0 ≡ no_parent → ⊥) → (i : ℕ) × (i < n + 1) × (get_or (set queue n w) i 0 ≡ v)
    marked' v hv d =
        elim (ℕ_discrete v w) [
          | yes e ↦ (n, omega arith, at_n ∙ sym e)
          | no ne ↦
              let f : (i : ℕ) × (i < n) × (get_or queue i 0 ≡ v) = s.marked v hv (λ e. d (get_or-set_other back w v t 0 ne ∙ e)) in
              (f.0, omega (arith, f.1), at_i f.0 f.1 ∙ f.2)
        ]

    pub add : Kept step ok size root (set back w t) (set queue n w) (n + 1) (t + 1)
    add =
        record {
          state =
              push s.state low (queued (set queue n w)) (keyed (set back w t) (set queue n w)) at_i key_i a x ha et (at_n ∙ ew) key_n o
              (λ i h e. not_yet i h (e ∙ sym ew));
          inside = below_more (λ (i : ℕ). get_or (set queue n w) i 0 < size) n (λ i h. omega (arith, at_i i h, s.inside i h)) (omega (arith, at_n));
          known = below_more (λ (i : ℕ). get_or (set back w t) (get_or (set queue n w) i 0) 0 < 1048576) n (λ i h. omega (arith, key_i i h, s.known i h)) (omega (arith, key_n, below));
          marked = marked';
          within = s.within;
          fits = omega (arith, room);
          count = occupied-set back w t (omega (arith, s.long_back, s.within)) free (λ e. omega (arith, below)) ∙ ap suc s.count ∙ sym (add-one n);
          long_back = length-set back w t ∙ s.long_back;
          long_queue = length-set queue n w ∙ s.long_queue;
        }

-- two tables with nothing in them, and then the root alone
pub start : (step : ℕ → ℕ → ℕ) (ok : ℕ → ℕ → Type 0) (size root : ℕ) (b q : List ℕ) → size ≤ 4096 → root < size → Blank b → length q ≡ 4096 → Kept step ok size root (set b root 0) (set q 0 root) 1 0
start step ok size root b q hs hr bl lq =
    record {
      state =
          record {
            some = omega arith;
            start = at_0;
            back = λ i p h. absurd (omega arith);
            made = λ i p h. absurd (omega arith);
            free = λ i p h. absurd (omega arith);
            order = λ i j p h l. absurd (omega arith);
            tried = λ i p h. absurd (omega arith);
            apart = λ i j h l. absurd (omega arith);
            done = λ a x h l. absurd (omega arith);
          };
      inside = λ i h. let e : i ≡ 0 = omega arith in rw (e, at_0) hr;
      known = λ i h. let e : i ≡ 0 = omega arith in rw (e, at_0, get_or-set_same b root 0 0 (omega (arith, bl.long))) (omega arith);
      marked = λ w hw d.
          elim (ℕ_discrete w root) [
            | yes e ↦ (0, omega arith, at_0 ∙ sym e)
            | no ne ↦ absurd (d (get_or-set_other b root w 0 0 ne ∙ bl.none w hw))
          ];
      within = hs;
      fits = omega arith;
      count = occupied-set b root 0 (omega (arith, bl.long)) (bl.none root (omega arith)) (λ e. omega arith) ∙ ap suc bl.count;
      long_back = length-set b root 0 ∙ bl.long;
      long_queue = length-set q 0 root ∙ lq;
    }
  where
    at_0 : get_or (set q 0 root) 0 0 ≡ root
    at_0 = get_or-set_same q 0 root 0 (omega arith)

pub blank : (m : ℕ) → m ≡ 4096 → Blank (replicate m no_parent)
blank m e = record { long = length-replicate {A = ℕ} m no_parent ∙ e; none = λ w b. get_or-replicate m w no_parent 0 (omega arith); count = occupied-none m }

pub recast : {step : ℕ → ℕ → ℕ} {ok : ℕ → ℕ → Type 0} {size root root' : ℕ} {back queue : List ℕ} {n t t' : ℕ} → root ≡ root' → t ≡ t'
    → Kept step ok size root back queue n t → Kept step ok size root' back queue n t'
recast {step} {ok} {size} {back = back} {queue = queue} {n = n} p e s = subst₂ (λ (r u : ℕ). Kept step ok size r back queue n u) p e s
