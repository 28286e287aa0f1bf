-- Laws of refusals: which test refuses, and what no refusal means.
use Prim.Native.Nat.{ℕ, zero, suc, ◌+◌, ◌≤◌, ◌<◌, suc-le-suc}
use mathlib.Core.Path.{◌≡◌, refl, sym, ap, ◌∙◌}
use mathlib.Core.Bool.{Bool, true, false, not, ◌&&◌}
use mathlib.Core.List.{List, [], ◌∷◌}
use native.Mathlib.Numerals.{add-one}
use native.Mathlib.Omega.{arith}
use native.Mathlib.Nat.{add-zero, zero-add, add-suc, suc-add, le_of_suc-le-suc}
use lib.ListN.{length, get_or, drop, drop_of_length-le}
use lib.Seq.{drop-cons}
use native.Mathlib.Decide.{dec_le}
use lib.Dec.{ltb, leb, eqb}
use borrow.Author.Tests.{lt-ltb, le-ltb, le-leb, lt-leb, ltb-true, leb-true, eqb-false, eq-eqb, ne_eqb, not-true}
use Rattle.lists.proofs.ListLaws.{both_held}
use Rattle.refusals.specs.Refusals.{◌or_else◌, ◌unless◌}
use Rattle.refusals.proofs.ChainLaws.{or_else_zero, or_else_passed, chain_stops, chain_goes, test_held, below_holds}
use Rattle.room.specs.declared.Shape.{Shape}
use Rattle.room.specs.Shapes.{servers_of, bound, server_count, Valid, Server, Ends, Link, Value}
use Rattle.room.specs.Refusals.{shape_refusal, level_refusal, server_refusal, pair_refusal, ends_refusal, link_refusal, value_refusal, place_bound, places_fit, places_refusal}
use Rattle.room.proofs.PowerLaws.{count-servers, count-within}

-- ---- shapes

pub valid_of : (s : Shape) → shape_refusal s ≡ 0 → Valid s
unfolding shape_refusal
valid_of s e =
    let x = or_else_zero _ (3 unless leb (servers_of s) 4096) e in
    let w = or_else_zero _ (26 unless (leb 2 s.m && leb s.m s.n)) x.0 in
    let y = or_else_zero (1 unless (leb 2 s.n && leb s.n 64)) (2 unless leb s.k 3) w.0 in
    let n = both_held (leb 2 s.n) (leb s.n 64) (test_held _ 0 y.0) in
    let m = both_held (leb 2 s.m) (leb s.m s.n) (test_held _ 25 w.1) in
    record {
      two = leb-true 2 s.n n.0;
      ports = leb-true s.n 64 n.1;
      levels = leb-true s.k 3 (test_held _ 1 y.1);
      some = leb-true 2 s.m m.0;
      most = leb-true s.m s.n m.1;
      small = leb-true (servers_of s) 4096 (test_held _ 2 x.1);
    }

pub few-ports : (s : Shape) → s.n < 2 → 1 ≡ shape_refusal s
unfolding shape_refusal ◌or_else◌
few-ports s h = simp lt-leb

pub many_ports : (s : Shape) → 2 ≤ s.n → 64 < s.n → 1 ≡ shape_refusal s
unfolding shape_refusal ◌or_else◌
many_ports s a b = simp (le-leb, lt-leb)

pub many_levels : (s : Shape) → 2 ≤ s.n → s.n ≤ 64 → 3 < s.k → 2 ≡ shape_refusal s
unfolding shape_refusal ◌or_else◌
many_levels s a b d = simp (le-leb, lt-leb)

pub little_fill : (s : Shape) → 2 ≤ s.n → s.n ≤ 64 → s.k ≤ 3 → s.m < 2 → 26 ≡ shape_refusal s
unfolding shape_refusal ◌or_else◌
little_fill s a b d e = simp (le-leb, lt-leb)

pub much_fill : (s : Shape) → 2 ≤ s.n → s.n ≤ 64 → s.k ≤ 3 → 2 ≤ s.m → s.n < s.m → 26 ≡ shape_refusal s
unfolding shape_refusal ◌or_else◌
much_fill s a b d e f = simp (le-leb, lt-leb)

pub many_servers : (s : Shape) → 2 ≤ s.n → s.n ≤ 64 → s.k ≤ 3 → 2 ≤ s.m → s.m ≤ s.n → 4096 < servers_of s → 3 ≡ shape_refusal s
unfolding shape_refusal ◌or_else◌
many_servers s a b d f g e = simp (le-leb, lt-leb)

pub valid-none : {s : Shape} → Valid s → 0 ≡ shape_refusal s
unfolding shape_refusal ◌or_else◌
valid-none {s} v = simp (le-leb 2 s.n v.two, le-leb s.n 64 v.ports, le-leb s.k 3 v.levels, le-leb 2 s.m v.some, le-leb s.m s.n v.most, le-leb (servers_of s) 4096 v.small)

-- in a full room 26 refuses nothing: the tests are those of two numbers
pub full-refusal : (s : Shape) → s.m ≡ s.n → shape_refusal s ≡ (1 unless (leb 2 s.n && leb s.n 64) or_else 2 unless leb s.k 3 or_else 3 unless leb (servers_of s) 4096)
unfolding shape_refusal
full-refusal s full =
    ap (λ (x : ℕ). x or_else 3 unless leb (servers_of s) 4096)
    (or_else_passed _ (26 unless (leb 2 s.m && leb s.m s.n))
    (λ z.
    let p = test_held _ 0 (or_else_zero (1 unless (leb 2 s.n && leb s.n 64)) (2 unless leb s.k 3) z).0 in
    let two = leb-true 2 s.n (both_held (leb 2 s.n) (leb s.n 64) p).0 in
    rw (le-leb 2 s.m (omega arith), le-leb s.m s.n (omega arith))))

-- ---- servers, links, values: no refusal, and there is one; there is one, and no refusal

pub level-of : (s : Shape) (l : ℕ) → level_refusal s l ≡ 0 → Valid s × (l ≤ s.k)
unfolding level_refusal
level-of s l e =
    let z = or_else_zero (shape_refusal s) _ e in (valid_of s z.0, leb-true l s.k (test_held _ 19 z.1))

pub level-none : {s : Shape} {l : ℕ} → Valid s → l ≤ s.k → 0 ≡ level_refusal s l
unfolding level_refusal
level-none {s} {l} h p = chain_goes _ _ _ _ (valid-none h) refl (simp (le-leb l s.k p))

pub server_of : (s : Shape) (a : ℕ) → server_refusal s a ≡ 0 → Server s a
unfolding server_refusal
server_of s a e =
    let z = or_else_zero (shape_refusal s) _ e in
    record { valid = valid_of s z.0; below = ltb-true a (servers_of s) (test_held _ 3 z.1) }

pub server_ports : (s : Shape) (a : ℕ) → server_refusal s a ≡ 0 → 0 < s.n
server_ports s a e = let v = (server_of s a e).valid in omega (arith, v.two)

pub server-none : {s : Shape} {a : ℕ} → Server s a → 0 ≡ server_refusal s a
unfolding server_refusal
server-none {s} {a} h = chain_goes _ _ _ _ (valid-none h.valid) refl (simp (lt-ltb a (servers_of s) h.below))

pub pair_of : (s : Shape) (a b : ℕ) → pair_refusal s a b ≡ 0 → Server s a × Server s b
unfolding pair_refusal
pair_of s a b e = let z = or_else_zero (server_refusal s a) _ e in (server_of s a z.0, server_of s b z.1)

pub pair_none : {s : Shape} {a b : ℕ} → Server s a → Server s b → 0 ≡ pair_refusal s a b
unfolding pair_refusal
pair_none ha hb = chain_goes _ _ _ _ (server-none ha) refl (server-none hb)

pub ends_of : (s : Shape) (a d : ℕ) → ends_refusal s a d ≡ 0 → Ends s a d
unfolding ends_refusal
ends_of s a d e =
    let z = or_else_zero (pair_refusal s a d) (5 unless not (eqb a d)) e in
    let p = pair_of s a d z.0 in
    record { source = p.0; destination = p.1; differ = eqb-false a d (not-true _ (test_held _ 4 z.1)) }

pub ends_none : {s : Shape} {a d : ℕ} → Ends s a d → 0 ≡ ends_refusal s a d
unfolding ends_refusal
ends_none {s} {a} {d} h = chain_goes _ _ _ _ (pair_none h.source h.destination) refl (rw (ne_eqb a d h.differ))

pub link_of : (s : Shape) (a l : ℕ) → link_refusal s a l ≡ 0 → Link s a l
unfolding link_refusal
link_of s a l e =
    let z = or_else_zero (server_refusal s a) _ e in
    record { server = server_of s a z.0; level = (level-of s l z.1).1 }

pub link-none : {s : Shape} {a l : ℕ} → Link s a l → 0 ≡ link_refusal s a l
unfolding link_refusal
link-none h = chain_goes _ _ _ _ (server-none h.server) refl (level-none h.server.valid h.level)

pub value-of : (s : Shape) (a l v : ℕ) → value_refusal s a l v ≡ 0 → Value s a l v
unfolding value_refusal
value-of s a l v e =
    let z = or_else_zero (link_refusal s a l) _ e in
    record { link = link_of s a l z.0; value = ltb-true v (bound s l) (test_held _ 20 z.1) }

pub value_none : {s : Shape} {a l v : ℕ} → Value s a l v → 0 ≡ value_refusal s a l v
unfolding value_refusal
value_none {s} {a} {l} {v} h = chain_goes _ _ _ _ (link-none h.link) refl (simp (lt-ltb v (bound s l) h.value))

-- ---- a level, and q, whatever is tested after it: the shape is none that is refused
module _ (s : Shape) (l q : ℕ) (e : 0 ≡ shape_refusal s) where
  pub level-above : s.k < l → 20 ≡ level_refusal s l or_else q
  unfolding level_refusal
  level-above h = chain_stops 20 _ _ (chain_goes 0 _ _ 20 e refl (rw (lt-leb l s.k h))) (λ n. omega arith)

-- ---- as the program tests: nothing before has refused, and x is the number of servers that it counted

-- a shape that fails a test of a room is no room's
module _ (s : Shape) where
  no_room : (Valid s → ⊥) → false ≡ eqb (shape_refusal s) 0
  no_room h = sym (ne_eqb (shape_refusal s) 0 (λ e. h (valid_of s e)))

  fails : (x y : ℕ) → y < x → (Valid s → x ≤ y) → leb x y ≡ eqb (shape_refusal s) 0
  fails x y h v = lt-leb x y h ∙ no_room (λ r. let f = v r in omega arith)

  pub ports_fail : 64 < s.n → leb s.n 64 ≡ eqb (shape_refusal s) 0
  ports_fail h = fails s.n 64 h (λ v. v.ports)

  pub levels_fail : 3 < s.k → leb s.k 3 ≡ eqb (shape_refusal s) 0
  levels_fail h = fails s.k 3 h (λ v. v.levels)

  pub some_fail : s.m < 2 → leb 2 s.m ≡ eqb (shape_refusal s) 0
  some_fail h = fails 2 s.m h (λ v. v.some)

  pub most_fail : s.n < s.m → leb s.m s.n ≡ eqb (shape_refusal s) 0
  most_fail h = fails s.m s.n h (λ v. v.most)

module _ (s : Shape) (few : s.n ≤ 64) (low : s.k ≤ 3) (some : 2 ≤ s.m) (most : s.m ≤ s.n) where
  -- the last test decides
  pub room_counted : (x : ℕ) → x ≡ server_count s → leb x 4096 ≡ eqb (shape_refusal s) 0
  room_counted x e =
      let two : 2 ≤ s.n = omega arith in
      let n = count-within s two few low most in
      elim (dec_le x 4096) [
        | yes h ↦ le-leb x 4096 h ∙ sym (eq-eqb (shape_refusal s) 0 (sym (valid-none (record { two = two; ports = few; levels = low; some = some; most = most; small = omega arith }))))
        | no h ↦ lt-leb x 4096 (omega arith) ∙ no_room s (λ v. omega (arith, v.small))
      ]

  -- no room, and no other test has failed
  pub past-servers : eqb (shape_refusal s) 0 ≡ false → 3 ≡ shape_refusal s
  past-servers e =
      let two : 2 ≤ s.n = omega arith in
      elim (dec_le (servers_of s) 4096) [
        | yes h ↦ absurd (eqb-false (shape_refusal s) 0 e (sym (valid-none (record { two = two; ports = few; levels = low; some = some; most = most; small = h }))))
        | no h ↦ many_servers s two few low some most (omega arith)
      ]

pub counted : (s : Shape) (x : ℕ) → 0 ≡ shape_refusal s → x ≡ server_count s → x ≡ servers_of s
counted s x e f = f ∙ count-servers (valid_of s (sym e))

module _ (s : Shape) (a b x : ℕ) (e : 0 ≡ server_refusal s a) (f : x ≡ server_count s) where
  second : (y : ℕ) → y ≡ 4 unless ltb b x → y ≡ pair_refusal s a b
  unfolding pair_refusal server_refusal
  second y g =
      let v = (server_of s a (sym e)).valid in
      let h : x ≡ servers_of s = f ∙ count-servers v in
      chain_goes 0 _ _ y e refl (chain_goes _ _ _ y (valid-none v) refl (g ∙ ap (λ (m : ℕ). 4 unless ltb b m) h))

  pub second-passed : b < x → 0 ≡ pair_refusal s a b
  second-passed h = second 0 (rw (lt-ltb b x h))

  pub second-failed : x ≤ b → 4 ≡ pair_refusal s a b
  second-failed h = second 4 (rw (le-ltb b x h))

-- two ends, of x servers: the tests in one go
abbrev pub ends_fit : ℕ → ℕ → ℕ → Bool
ends_fit x a d = ltb a x && (ltb d x && not (eqb a d))

-- t is what it found of the tests in one go
module _ (s : Shape) (a d : ℕ) (e : 0 ≡ shape_refusal s) where
  module _ (x : ℕ) (f : x ≡ server_count s) (t : Bool) (g : t ≡ ends_fit x a d) where
    valid : Valid s
    valid = valid_of s (sym e)

    pub ends_there : t ≡ true → 0 ≡ ends_refusal s a d
    ends_there h =
        let n = count-servers valid in
        let p = both_held (ltb a x) _ (sym g ∙ h) in
        let q = both_held (ltb d x) _ p.1 in
        let below = ltb-true a x p.0 in
        let under = ltb-true d x q.0 in
        ends_none (record {
          source = record { valid = valid; below = omega arith };
          destination = record { valid = valid; below = omega arith };
          differ = eqb-false a d (not-true _ q.1);
        })

    pub ends_same : t ≡ false → 0 ≡ pair_refusal s a d → 5 ≡ ends_refusal s a d
    unfolding ends_refusal
    ends_same h u =
        let n = count-servers valid in
        let p = pair_of s a d (sym u) in
        let i : not (eqb a d) ≡ ends_fit x a d = below_holds a x _ (omega (arith, p.0.below)) _ (below_holds d x _ (omega (arith, p.1.below)) _ refl) in
        chain_goes 0 _ _ 5 u refl (rw (i ∙ sym g ∙ h))

module _ (s : Shape) (a l : ℕ) (e : 0 ≡ server_refusal s a) where
  level_tested : (y : ℕ) → y ≡ 20 unless leb l s.k → y ≡ link_refusal s a l
  unfolding link_refusal level_refusal
  level_tested y g = chain_goes 0 _ _ y e refl (chain_goes _ _ _ y (valid-none (server_of s a (sym e)).valid) refl g)

  pub link-passed : l ≤ s.k → 0 ≡ link_refusal s a l
  link-passed h = level_tested 0 (rw (le-leb l s.k h))

  pub link-failed : s.k < l → 20 ≡ link_refusal s a l
  link-failed h = level_tested 20 (rw (lt-leb l s.k h))

-- what follows where nothing was refused
module _ (s : Shape) (a b : ℕ) (e : 0 ≡ pair_refusal s a b) where
  pub pair_first : server_refusal s a ≡ 0
  pair_first = sym (server-none (pair_of s a b (sym e)).0)

  pub pair_second : server_refusal s b ≡ 0
  pair_second = sym (server-none (pair_of s a b (sym e)).1)

-- ---- four places

-- the loop's invariant: whether the places from i on fit is whether all do
pub record Fitting (s : Shape) (ds : List ℕ) (i : ℕ) : Type 0 where
  pub within : i ≤ 4
  pub long : length ds ≡ 4
  pub same : places_fit s i (drop i ds) ≡ places_fit s 0 ds

pub fitting_start : (s : Shape) (ds : List ℕ) → length ds ≡ 4 → Fitting s ds 0
fitting_start s ds l = record { within = omega arith; long = l; same = refl }

module _ {s : Shape} {ds : List ℕ} {i : ℕ} (g : Fitting s ds i) where
  pub fitting_done : 4 ≤ i → true ≡ places_fit s 0 ds
  unfolding places_fit
  fitting_done h = let q : length ds ≤ i = omega (arith, g.long) in (rw (drop_of_length-le ds q)) ∙ g.same

  -- m is the bound of place i
  module _ (h : i < 4) (m : ℕ) (e : m ≡ place_bound s i) where
    place-left : places_fit s i (drop i ds) ≡ (ltb (get_or ds i 0) m && places_fit s (i + 1) (drop (i + 1) ds))
    unfolding places_fit
    place-left = let q : i < length ds = omega (arith, g.long) in rw (e, add-one, drop-cons ds i 0 q)

    pub fitting_stop : m ≤ get_or ds i 0 → false ≡ places_fit s 0 ds
    fitting_stop b = sym (place-left ∙ ap (λ (t : Bool). t && places_fit s (i + 1) (drop (i + 1) ds)) (le-ltb _ _ b)) ∙ g.same

    pub fitting_next : get_or ds i 0 < m → Fitting s ds (i + 1)
    fitting_next b =
        record {
          within = omega arith;
          long = g.long;
          same = sym (place-left ∙ ap (λ (t : Bool). t && places_fit s (i + 1) (drop (i + 1) ds)) (lt-ltb _ _ b)) ∙ g.same;
        }

fit_at : (s : Shape) (o : ℕ) (ds : List ℕ) → places_fit s o ds ≡ true → (i : ℕ) → i < length ds → get_or ds i 0 < place_bound s (o + i)
unfolding places_fit
fit_at s o [] e i h = omega arith
fit_at s o (d ∷ ds) e zero h = rw add-zero (ltb-true d (place_bound s o) (both_held (ltb d (place_bound s o)) _ e).0)
fit_at s o (d ∷ ds) e (suc i) h =
    rw (add-suc, ← suc-add) (fit_at s (suc o) ds (both_held (ltb d (place_bound s o)) _ e).1 i (le_of_suc-le-suc h))

fit_all : (s : Shape) (o : ℕ) (ds : List ℕ) → ((i : ℕ) → i < length ds → get_or ds i 0 < place_bound s (o + i)) → places_fit s o ds ≡ true
unfolding places_fit
fit_all s o [] h = refl
fit_all s o (d ∷ ds) h =
    rw (lt-ltb d (place_bound s o) (rw add-zero at (h zero (omega arith))))
    (fit_all s (suc o) ds (λ i p. rw (suc-add, ← add-suc) (h (suc i) (suc-le-suc p))))

-- places that are not refused
pub record Places (s : Shape) (ds : List ℕ) : Type 0 where
  pub valid : Valid s
  pub at : (i : ℕ) → i < length ds → get_or ds i 0 < place_bound s i

pub places_of : (s : Shape) (ds : List ℕ) → places_refusal s ds ≡ 0 → Places s ds
unfolding places_refusal
places_of s ds e =
    let z = or_else_zero (shape_refusal s) _ e in
    record { valid = valid_of s z.0; at = λ i h. rw zero-add at (fit_at s 0 ds (test_held _ 20 z.1) i h) }

pub places_none : {s : Shape} {ds : List ℕ} → Places s ds → 0 ≡ places_refusal s ds
unfolding places_refusal
places_none {s} {ds} h =
    chain_goes _ _ _ _ (valid-none h.valid) refl (rw (fit_all s 0 ds (λ i p. rw zero-add (h.at i p))))
