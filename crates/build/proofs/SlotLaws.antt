-- The built route of a slot, as the program makes it: one level of the order at a turn, over digits in four places.
use Prim.Native.Nat.{ℕ, zero, suc, ◌+◌, ◌-◌, ◌≤◌, ◌<◌}
use mathlib.Core.Path.{◌≡◌, refl, sym, ap, ap₂, ◌∙◌}
use mathlib.Core.Logic.{◌≢◌}
use mathlib.Core.Bool.{cond}
use mathlib.Core.List.{List, [], ◌∷◌, ◌++◌, append_assoc, append-nil}
use native.Mathlib.Omega.{arith}
use borrow.Author.Tests.{eq-eqb, ne_eqb}
use lib.Dec.{eqb}
use lib.ListN.{length, get_or, set, take, drop, replicate, length-set}
use lib.Seq.{set-append_left}
use Rattle.lists.specs.Lists.{filled}
use Rattle.lists.proofs.ListLaws.{filled_at, pad_at, filled_is, rest_on, taken_on}
use Rattle.room.specs.declared.Shape.{Shape}
use Rattle.room.specs.Shapes.{Server}
use Rattle.room.specs.Digits.{Below}
use Rattle.room.specs.Addresses.{digits}
use Rattle.room.proofs.RoomLaws.{digits_long, written-digits, padded_below}
use Rattle.path.specs.Routes.{byte_of}
use Rattle.build.specs.Built.{next, round, first_in, last_in, correct, route_over, plus_one, built_hops, bytes_of, built_bytes}

-- ---- the order

pub next_le : (k l : ℕ) → l ≤ k → next k l ≤ k
next_le k zero h = omega arith
next_le k (suc l) h = omega arith

-- ---- the bytes of the hops that correct digits x to y, over m levels from l on

abbrev pub fixing : ℕ → List ℕ → List ℕ → ℕ → ℕ → List ℕ
fixing k x y m l = bytes_of (correct eqb 0 (round k m l) x y)

fix_skip : (k : ℕ) (x y : List ℕ) (m l : ℕ) → 0 < m → get_or x l 0 ≡ get_or y l 0 → fixing k x y (m - 1) (next k l) ≡ fixing k x y m l
fix_skip k x y zero l h e = let z : ⊥ = omega arith in absurd z
fix_skip k x y (suc m) l h e = let q : suc m - 1 ≡ m = omega arith in rw (q, eq-eqb (get_or x l 0) (get_or y l 0) e)

fix_hop : (k : ℕ) (x y : List ℕ) (m l : ℕ) → 0 < m → get_or x l 0 ≢ get_or y l 0 → fixing k x y m l ≡ byte_of l (get_or y l 0) ∷ fixing k x y (m - 1) (next k l)
unfolding bytes_of
fix_hop k x y zero l h e = let z : ⊥ = omega arith in absurd z
fix_hop k x y (suc m) l h e = let q : suc m - 1 ≡ m = omega arith in rw (q, ne_eqb (get_or x l 0) (get_or y l 0) e)

fix_end : (k : ℕ) (x y : List ℕ) (m l : ℕ) → m ≤ 0 → fixing k x y m l ≡ []
unfolding bytes_of
fix_end k x y zero l h = refl
fix_end k x y (suc m) l h = let z : ⊥ = omega arith in absurd z

-- the loop's invariant: the bytes made, and those left to make, are the whole
pub record Correcting (k : ℕ) (x y whole bytes : List ℕ) (hops l m : ℕ) : Type 0 where
  pub level : l ≤ k
  pub room : hops + m ≤ 8
  pub long : length bytes ≡ 8
  pub blank : drop hops bytes ≡ replicate (8 - hops) 0
  pub same : take hops bytes ++ fixing k x y m l ≡ whole

module _ (k : ℕ) (x y whole bytes : List ℕ) (hops l m : ℕ) (f : Correcting k x y whole bytes hops l m) where
  -- the level's digit is right
  pub skipped : 0 < m → get_or x l 0 ≡ get_or y l 0 → (p : ℕ) → p ≡ next k l → (n : ℕ) → n ≡ m - 1 → Correcting k x y whole bytes hops p n
  skipped h e p ep n en =
      record {
        level = rw ep (next_le k l f.level);
        room = omega arith;
        long = f.long;
        blank = f.blank;
        same = rw (en, ep, fix_skip k x y m l h e) f.same;
      }

  -- it is not, and a hop corrects it
  pub hopped : 0 < m → get_or x l 0 ≢ get_or y l 0 → (b : ℕ) → b ≡ byte_of l (get_or y l 0) → (p : ℕ) → p ≡ next k l → (n : ℕ) → n ≡ m - 1 → Correcting k x y whole (set bytes hops b) (hops + 1) p n
  hopped h e b eb p ep n en =
      let q : hops < length bytes = omega (arith, f.long, f.room) in
      record {
        level = rw ep (next_le k l f.level);
        room = omega arith;
        long = length-set bytes hops b ∙ f.long;
        blank = rest_on 8 bytes hops b f.blank;
        same = rw (en, ep, taken_on bytes hops b q, append_assoc, eb, ← fix_hop k x y m l h e) f.same;
      }

  pub ended : m ≤ 0 → bytes ≡ filled 8 whole
  ended h =
      let w : take hops bytes ≡ whole =
      sym (append-nil (take hops bytes)) ∙ ap (λ (r : List ℕ). take hops bytes ++ r) (sym (fix_end k x y m l h)) ∙ f.same in
      sym (filled_is 8 bytes hops (omega (arith, f.room)) f.long f.blank) ∙ ap (filled 8) w

-- ---- the two kinds of route

-- the bytes of route i from digits x to y
abbrev pub laid : Shape → ℕ → List ℕ → List ℕ → List ℕ
laid s i x y = filled 8 (bytes_of (route_over eqb 0 (plus_one s) s.k i x y))

-- they do not: a detour to the value o, by the byte b, then on from level l
pub detour-bytes : (s : Shape) (i : ℕ) (x y : List ℕ) → get_or x i 0 ≡ get_or y i 0 → (o : ℕ) → o ≡ plus_one s i (get_or x i 0) → (b : ℕ) → b ≡ byte_of i o → (l : ℕ) → l ≡ next s.k i → (r : List ℕ) → r ≡ filled 8 (b ∷ fixing s.k (set x i o) y (suc s.k) l) → r ≡ laid s i x y
unfolding bytes_of
detour-bytes s i x y e o eo b eb l el r p = p ∙ rw (eq-eqb (get_or x i 0) (get_or y i 0) e, eb, eo, el)

-- ---- digits in four places, with zeros past them

-- correcting reads digits only
correct_as : (ls x x' y y' : List ℕ) → ((l : ℕ) → get_or x l 0 ≡ get_or x' l 0) → ((l : ℕ) → get_or y l 0 ≡ get_or y' l 0) → correct eqb 0 ls x y ≡ correct eqb 0 ls x' y'
correct_as [] x x' y y' p q = refl
correct_as (l ∷ ls) x x' y y' p q = rw (p l, q l, correct_as ls x x' y y' p q)

-- so does a route, where digits with one set are the same too
route_as : (s : Shape) (i : ℕ) (x x' y y' : List ℕ) → ((l : ℕ) → get_or x l 0 ≡ get_or x' l 0) → ((l : ℕ) → get_or y l 0 ≡ get_or y' l 0) → ((v l : ℕ) → get_or (set x i v) l 0 ≡ get_or (set x' i v) l 0) → route_over eqb 0 (plus_one s) s.k i x y ≡ route_over eqb 0 (plus_one s) s.k i x' y'
route_as s i x x' y y' p q t =
    let o = plus_one s i (get_or x i 0) in
    ap₂ (λ (u w : List (ℕ × ℕ)). cond (eqb (get_or x i 0) (get_or y i 0)) ((i, plus_one s i (get_or x i 0)) ∷ u) w)
    (correct_as (last_in s.k i) (set x i o) (set x' i o) y y' (t o) q)
    (correct_as (first_in s.k i) x x' y y' p q)
    ∙ ap₂ (λ (u w : ℕ). cond (eqb u w) ((i, plus_one s i u) ∷ correct eqb 0 (last_in s.k i) (set x' i (plus_one s i u)) y') (correct eqb 0 (first_in s.k i) x' y')) (p i) (q i)

set_padded : (ds : List ℕ) (i v : ℕ) → i < length ds → (l : ℕ) → get_or (set (filled 4 ds) i v) l 0 ≡ get_or (set ds i v) l 0
unfolding filled
set_padded ds i v h l =
    ap (λ (z : List ℕ). get_or z l 0) (set-append_left ds (replicate (4 - length ds) 0) i v h)
    ∙ pad_at (set ds i v) (4 - length ds) l

-- the route between digits in four places is the built route
pub laid-built : (s : Shape) (i a d : ℕ) → i ≤ s.k → (x y : List ℕ) → x ≡ filled 4 (digits s a) → y ≡ filled 4 (digits s d) → (r : List ℕ) → r ≡ laid s i x y → r ≡ built_bytes s i a d
unfolding built_bytes built_hops
laid-built s i a d h x y ex ey r e =
    let q : i < length (digits s a) = omega (arith, digits_long s a) in
    e
    ∙ ap₂ (laid s i) ex ey
    ∙ ap (λ (z : List (ℕ × ℕ)). filled 8 (bytes_of z))
    (route_as s i (filled 4 (digits s a)) (digits s a) (filled 4 (digits s d)) (digits s d) (filled_at 4 (digits s a)) (filled_at 4 (digits s d)) (λ v. set_padded (digits s a) i v q))

-- each of the four is below 64
pub places_small : {s : Shape} {a : ℕ} → Server s a → (x : List ℕ) → x ≡ filled 4 (digits s a) → Below 64 x
places_small {s} {a} h x e =
    let b = padded_below h.valid (written-digits h) in
    record { at = λ i p. rw e (omega (arith, b.at i (rw (← e) p), h.valid.ports)) }
