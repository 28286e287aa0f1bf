-- Marking link after link: what stands marked after each.
use Prim.Native.Nat.{ℕ, suc, ◌+◌, ◌-◌, ◌*◌, ◌≤◌, ◌<◌}
use mathlib.Core.Path.{◌≡◌, refl, sym, ap, ap₂, ◌∙◌, subst}
use mathlib.Core.Logic.{◌⊎◌, inl, inr, ⊎_elim}
use mathlib.Core.Bool.{Bool, true, false, cond, ◌&&◌, ◌||◌, and-true, and-false, or-true, or-false, or_assoc, and-or_distrib_left}
use mathlib.Core.List.{List, [], ◌∷◌}
use native.Mathlib.Omega.{arith}
use native.Mathlib.Numerals.{add-one}
use native.Mathlib.Nat.{add-mul}
use native.Mathlib.Decide.{ℕ_discrete, dec_lt}
use lib.Dec.{ltb, eqb}
use lib.ListN.{length, get_or, take, drop, length-drop}
use lib.Seq.{take-suc, take_all, get_or-drop, drop-drop}
use borrow.Author.Tests.{eq-eqb, ne_eqb, lt-ltb, le-ltb}
use Rattle.lists.specs.Lists.{is_in, middle}
use Rattle.lists.proofs.ListLaws.{in_snoc, length_turn, turn_at}
use Rattle.room.specs.declared.Shape.{Shape}
use Rattle.room.specs.Shapes.{bound, Server, Link, Value}
use Rattle.room.specs.declared.Side.{Side}
use Rattle.room.specs.Told.{Between}
use Rattle.room.specs.Addresses.{digit, with_digit, switch_of}
use Rattle.room.specs.Answers.{only_level, between_answer}
use Rattle.room.specs.Sides.{side_of}
use Rattle.room.proofs.SideLaws.{side_reach, side_count, side_small}
use Rattle.room.proofs.AnswerLaws.{between-answered}
use Rattle.room.proofs.RoomLaws.{digit_lt, with_server, with_same, with_switch, beside_with, switch-same, neighbours-exactly}
use Rattle.links.specs.Table.{failed, changed_in, marked, TableOf}
use Rattle.links.proofs.TableLaws.{changed-own, changed-long, changed-in, changed-other, changed-table}
use Rattle.path.specs.Routes.{switch_at, level_to, switch_to, switches_of, Route}
use Rattle.path.proofs.HopLaws.{switch_id}
use Rattle.laying.specs.Laid.{takes, Marks}

-- ---- one link

-- x is server y, and l is level m
abbrev pub only : ℕ → ℕ → ℕ → ℕ → Bool
only y m x l = eqb x y && eqb l m

only-own : (y m x l : ℕ) → x ≡ y → l ≡ m → only y m x l ≡ true
only-own y m x l e f = rw (eq-eqb x y e, eq-eqb l m f)

only-other : (y m x l : ℕ) → (x ≡ y → l ≡ m → ⊥) → only y m x l ≡ false
only-other y m x l h =
    elim (ℕ_discrete x y) [
      | yes e ↦ rw (eq-eqb x y e, ne_eqb l m (h e))
      | no e ↦ rw (ne_eqb x y e)
    ]

-- x is y and l is m, or not both
same-link : (y m x l : ℕ) → ((x ≡ y) × (l ≡ m)) ⊎ (x ≡ y → l ≡ m → ⊥)
same-link y m x l =
    elim (ℕ_discrete x y) [
      | yes e ↦ elim (ℕ_discrete l m) [ yes f ↦ inl (e, f) | no f ↦ inr (λ p. f) ]
      | no e ↦ inr (λ p q. e p)
    ]

-- nothing marked besides
pub marks-none : {s : Shape} {t : List ℕ} (links : ℕ → ℕ → Bool) → TableOf s t → ((x l : ℕ) → links x l ≡ false) → Marks s t links t
marks-none {s} {t} links h e =
    record { table = h; marks = λ x l p. sym (ap (λ (b : Bool). failed t x l || b) (e x l) ∙ or-false (failed t x l)) }

-- what is marked, said otherwise
pub marks-same : {s : Shape} {t u : List ℕ} (p q : ℕ → ℕ → Bool) → ((x l : ℕ) → Link s x l → p x l ≡ q x l) → Marks s t p u → Marks s t q u
marks-same {s} {t} {u} p q e h =
    record { table = h.table; marks = λ x l k. h.marks x l k ∙ ap (λ (b : Bool). failed t x l || b) (e x l k) }

-- one link more
marks_more : {s : Shape} {t u v : List ℕ} {y m : ℕ} (p q : ℕ → ℕ → Bool) → Link s y m → Marks s t p u → v ≡ changed_in true y m u → ((x l : ℕ) → Link s x l → q x l ≡ p x l || only y m x l) → Marks s t q v
marks_more {s} {t} {u} {v} {y} {m} p q k h c e =
    subst (Marks s t q) (sym (c ∙ changed-in true y m u (omega (arith, k.level, k.server.valid.levels))))
    (record {
      table = changed-table true h.table y m k.level;
      marks = λ x l z.
          ⊎_elim
          (λ w.
          let own : failed (marked y m u) x l ≡ true = ap₂ (λ (i j : ℕ). failed (marked y m u) i j) w.0 w.1 ∙ changed-own true y m u (omega (arith, k.server.below, h.table.long)) in
          let all : q x l ≡ true = e x l z ∙ ap (λ (b : Bool). p x l || b) (only-own y m x l w.0 w.1) ∙ or-true (p x l) in
          own ∙ sym (ap (λ (b : Bool). failed t x l || b) all ∙ or-true (failed t x l)))
          (λ w.
          let same : q x l ≡ p x l = e x l z ∙ ap (λ (b : Bool). p x l || b) (only-other y m x l w) ∙ or-false (p x l) in
          changed-other true y m x l u w ∙ h.marks x l z ∙ ap (λ (b : Bool). failed t x l || b) (sym same))
          (same-link y m x l);
    })

-- and many more
pub marks_then : {s : Shape} {t u v : List ℕ} (p q r : ℕ → ℕ → Bool) → Marks s t p u → Marks s u q v → ((x l : ℕ) → Link s x l → r x l ≡ p x l || q x l) → Marks s t r v
marks_then {s} {t} {u} {v} p q r h k e =
    record {
      table = k.table;
      marks = λ x l z.
          k.marks x l z ∙ ap (λ (b : Bool). b || q x l) (h.marks x l z) ∙ or_assoc (failed t x l) (p x l) (q x l) ∙ ap (λ (b : Bool). failed t x l || b) (sym (e x l z));
    }

-- ---- all levels of a server

-- x is server y, and l is below m
abbrev pub up_to : ℕ → ℕ → ℕ → ℕ → Bool
up_to y m x l = eqb x y && ltb l m

pub up_none : (y x l : ℕ) → up_to y 0 x l ≡ false
up_none y x l = ap (λ (b : Bool). eqb x y && b) (le-ltb l 0 (omega arith)) ∙ and-false (eqb x y)

less_more : (l m : ℕ) → ltb l (m + 1) ≡ ltb l m || eqb l m
less_more l m =
    elim (ℕ_discrete l m) [
      | yes e ↦ rw (eq-eqb l m e, lt-ltb l (m + 1) (omega arith)) (sym (or-true (ltb l m)))
      | no e ↦ rw (ne_eqb l m e)
          (elim (dec_lt l m) [
            | yes h ↦ lt-ltb l (m + 1) (omega arith) ∙ sym (ap (λ (b : Bool). b || false) (lt-ltb l m h))
            | no h ↦ le-ltb l (m + 1) (omega arith) ∙ sym (ap (λ (b : Bool). b || false) (le-ltb l m (omega arith)))
          ])
    ]

pub up_more : (y m x l : ℕ) → up_to y (m + 1) x l ≡ up_to y m x l || only y m x l
up_more y m x l = ap (λ (b : Bool). eqb x y && b) (less_more l m) ∙ and-or_distrib_left (eqb x y) (ltb l m) (eqb l m)

pub up-all : {s : Shape} (y m x l : ℕ) → s.k < m → Link s x l → up_to y m x l ≡ eqb x y
up-all y m x l h k = ap (λ (b : Bool). eqb x y && b) (lt-ltb l m (omega (arith, k.level))) ∙ and-true (eqb x y)

-- the loop over a server's levels: nothing, one level more, all
pub up_start : {s : Shape} {t : List ℕ} (y : ℕ) → TableOf s t → Marks s t (up_to y 0) t
up_start y h = marks-none (up_to y 0) h (up_none y)

pub up_step : {s : Shape} {y m : ℕ} {t u v : List ℕ} → Server s y → m ≤ s.k → v ≡ changed_in true y m u → Marks s t (up_to y m) u → Marks s t (up_to y (m + 1)) v
up_step {s} {y} {m} {t} {u} {v} h k e p =
    marks_more (up_to y m) (up_to y (m + 1)) (record { server = h; level = k }) p e (λ x l z. up_more y m x l)

pub up_done : {s : Shape} {t u : List ℕ} (y m : ℕ) → s.k < m → Marks s t (up_to y m) u → Marks s t (λ x l. eqb x y) u
up_done y m h p = marks-same (up_to y m) (λ x l. eqb x y) (λ x l k. up-all y m x l h k) p

-- ---- all servers of a switch

-- the link of x at level l leads to the switch of y at level m, and x has there a digit below v
abbrev pub up_to_value : Shape → ℕ → ℕ → ℕ → ℕ → ℕ → Bool
up_to_value s y m v x l = eqb (switch_at s l x) (switch_at s m y) && ltb (digit s m x) v

value_none : (s : Shape) (y m x l : ℕ) → up_to_value s y m 0 x l ≡ false
value_none s y m x l =
    ap (λ (b : Bool). eqb (switch_at s l x) (switch_at s m y) && b) (le-ltb (digit s m x) 0 (omega arith)) ∙ and-false (eqb (switch_at s l x) (switch_at s m y))

-- the server with that digit and no other is added
digit-exactly : {s : Shape} {y m v x l : ℕ} → Value s y m v → Link s x l → eqb (switch_at s l x) (switch_at s m y) && eqb (digit s m x) v ≡ only (with_digit s m v y) m x l
unfolding switch_at
digit-exactly {s} {y} {m} {v} {x} {l} h k =
    ⊎_elim
    (λ w.
    let a : switch_at s l x ≡ switch_at s m y = ap₂ (λ (i j : ℕ). switch_at s i j) w.1 w.0 ∙ ap (λ (z : ℕ). 4096 * m + z) (with_switch h) in
    let b : digit s m x ≡ v = ap (digit s m) w.0 ∙ with_same h in
    ap₂ (λ (p q : Bool). p && q) (eq-eqb _ _ a) (eq-eqb _ _ b) ∙ sym (only-own (with_digit s m v y) m x l w.0 w.1))
    (λ w.
    elim (ℕ_discrete (switch_at s l x) (switch_at s m y)) [
      | yes a ↦ let p = (switch_id k h.link).0 a in
          let own : (digit s m x ≡ v) → ⊥ =
          λ b. w (sym (sym (ap (λ (z : ℕ). with_digit s m z y) b) ∙ beside_with h.link k.server (switch-same h.link k.server (sym p.1 ∙ ap (λ (i : ℕ). switch_of s i x) p.0)))) p.0 in
          ap (λ (q : Bool). eqb (switch_at s l x) (switch_at s m y) && q) (ne_eqb _ _ own) ∙ and-false (eqb (switch_at s l x) (switch_at s m y)) ∙ sym (only-other (with_digit s m v y) m x l w)
      | no a ↦ ap (λ (q : Bool). q && eqb (digit s m x) v) (ne_eqb _ _ a) ∙ sym (only-other (with_digit s m v y) m x l w)
    ])
    (same-link (with_digit s m v y) m x l)

value_more : {s : Shape} {y m v x l : ℕ} → Value s y m v → Link s x l → up_to_value s y m (v + 1) x l ≡ up_to_value s y m v x l || only (with_digit s m v y) m x l
value_more {s} {y} {m} {v} {x} {l} h k =
    let e = eqb (switch_at s l x) (switch_at s m y) in
    ap (λ (b : Bool). e && b) (less_more (digit s m x) v) ∙ and-or_distrib_left e (ltb (digit s m x) v) (eqb (digit s m x) v) ∙ ap (λ (b : Bool). e && ltb (digit s m x) v || b) (digit-exactly h k)

value-all : {s : Shape} {y m v x l : ℕ} → Link s y m → bound s m ≤ v → Link s x l → up_to_value s y m v x l ≡ eqb (switch_at s l x) (switch_at s m y)
value-all {s} {y} {m} {v} {x} {l} h p k =
    ap (λ (b : Bool). eqb (switch_at s l x) (switch_at s m y) && b) (lt-ltb (digit s m x) v (omega (arith, digit_lt k.server m h.level))) ∙ and-true (eqb (switch_at s l x) (switch_at s m y))

mark-long : (a l : ℕ) (t : List ℕ) → length (changed_in true a l t) ≡ length t
unfolding changed_in
mark-long a l t = by (ltb l 8)
  where
    by : (b : Bool) → length (cond b (marked a l t) t) ≡ length t
    by true = changed-long true a l t
    by false = refl

-- the loop over a switch's servers: v of them are marked, and `other` is the next
pub record MarkedSide (t : List ℕ) (y m : ℕ) (side : Side) (u : List ℕ) (v other : ℕ) : Type 0 where
  pub below : v ≤ side.count
  pub next : other ≡ side.first + v * side.stride
  pub long : length u ≡ length t
  pub marks : (s : Shape) → Link s y m → side ≡ side_of s y m → TableOf s t → Marks s t (up_to_value s y m v) u

values : {s : Shape} {y m : ℕ} {side : Side} → Link s y m → side ≡ side_of s y m → side.count ≡ bound s m
values h e = ap (λ (x : Side). x.count) e ∙ side_count h

value-at : {s : Shape} {y m : ℕ} {side : Side} → Link s y m → side ≡ side_of s y m → (v : ℕ) → v < side.count → Value s y m v
value-at h e v q = record { link = h; value = omega (arith, values h e) }

module _ {t : List ℕ} {y m : ℕ} {side : Side} where
  module _ {s : Shape} (h : Link s y m) (e : side ≡ side_of s y m) where
    module _ {u : List ℕ} {v other : ℕ} (p : MarkedSide t y m side u v other) where
      side_server : v < side.count → other ≡ with_digit s m v y
      side_server q = p.next ∙ ap (λ (x : Side). x.first + v * x.stride) e ∙ side_reach h v (omega (arith, values h e))

      -- the next is a server, and the way on is short
      pub side_near : v < side.count → (other < 4096) × (side.stride ≤ 16777216)
      side_near q =
          (omega (arith, side_server q, (with_server (value-at h e v q)).below, h.server.valid.small), omega (arith, ap (λ (x : Side). x.stride) e, (side_small h).1))

      -- all are marked
      pub side_done : TableOf s t → side.count ≤ v → Marks s t (λ x l. eqb (switch_at s l x) (switch_at s m y)) u
      side_done k q =
          marks-same (up_to_value s y m v) (λ x l. eqb (switch_at s l x) (switch_at s m y)) (λ x l z. value-all h (omega (arith, values h e)) z) (p.marks s h e k)

  pub side_step : {u : List ℕ} {v other : ℕ} → MarkedSide t y m side u v other → v < side.count → (w : List ℕ) → w ≡ changed_in true other m u → MarkedSide t y m side w (v + 1) (other + side.stride)
  side_step {u} {v} {other} p q w c =
      record {
        below = omega arith;
        next = omega (arith, p.next, add-mul v 1 side.stride);
        long = ap length c ∙ mark-long other m u ∙ p.long;
        marks = λ s h e k.
            marks_more (up_to_value s y m v) (up_to_value s y m (v + 1)) (record { server = with_server (value-at h e v q); level = h.level }) (p.marks s h e k)
            (c ∙ ap (λ (i : ℕ). changed_in true i m u) (side_server h e p q)) (λ x l z. value_more (value-at h e v q) z);
      }

-- ---- list after list: what f gives is in the part that was gone through

in_more : (x i : ℕ) (xs : List ℕ) → i < length xs → is_in x (take (i + 1) xs) ≡ is_in x (take i xs) || eqb x (get_or xs i 0)
in_more x i xs h =
    ap (λ (m : ℕ). is_in x (take m xs)) (add-one i) ∙ ap (is_in x) (take-suc xs i 0 h) ∙ in_snoc x (take i xs) (get_or xs i 0)

-- the links x, l are marked for which f x l is among the first i of a list
pub record MarkedAmong (f : ℕ → ℕ → ℕ) (s : Shape) (t xs : List ℕ) (i : ℕ) (u : List ℕ) : Type 0 where
  pub below : i ≤ length xs
  pub marks : Marks s t (λ x l. is_in (f x l) (take i xs)) u

module _ {f : ℕ → ℕ → ℕ} {s : Shape} {t xs : List ℕ} where
  pub among-start : TableOf s t → MarkedAmong f s t xs 0 t
  unfolding is_in
  among-start h = record { below = omega arith; marks = marks-none (λ x l. is_in (f x l) []) h (λ x l. refl) }

  pub among-step : {u v : List ℕ} {i : ℕ} → MarkedAmong f s t xs i u → i < length xs → (y : ℕ) → y ≡ get_or xs i 0 → Marks s u (λ x l. eqb (f x l) y) v → MarkedAmong f s t xs (i + 1) v
  among-step {i = i} p h y e q =
      record {
        below = omega arith;
        marks = marks_then (λ x l. is_in (f x l) (take i xs)) (λ x l. eqb (f x l) y) (λ x l. is_in (f x l) (take (i + 1) xs)) p.marks q
            (λ x l k. in_more (f x l) i xs h ∙ ap (λ (z : ℕ). is_in (f x l) (take i xs) || eqb (f x l) z) (sym e));
      }

  pub among-done : {u : List ℕ} {i : ℕ} → MarkedAmong f s t xs i u → length xs ≤ i → Marks s t (λ x l. is_in (f x l) xs) u
  among-done {i = i} p h = marks-same (λ x l. is_in (f x l) (take i xs)) (λ x l. is_in (f x l) xs) (λ x l k. ap (is_in (f x l)) (take_all i xs h)) p.marks

-- ---- the hops of a route

module _ {s : Shape} {w vs : List ℕ} (route : Route s w vs) (i : ℕ) (h : i + 1 < length vs) (b : Between) (e : b ≡ between_answer s (get_or vs i 0) (get_or vs (i + 1) 0)) where
  hop-inside : suc i < length vs
  hop-inside = omega arith

  hop-next : get_or vs (i + 1) 0 ≡ get_or vs (suc i) 0
  hop-next = ap (λ (j : ℕ). get_or vs j 0) (add-one i)

  hop_adjacent : b ≡ only_level (level_to s (get_or vs i 0) (get_or vs (suc i) 0) ∷ [])
  hop_adjacent =
      let f : b ≡ between_answer s (get_or vs i 0) (get_or vs (suc i) 0) = e ∙ ap (between_answer s (get_or vs i 0)) hop-next in
      let ha = route.servers i (omega arith) in
      let hb = route.servers (suc i) hop-inside in
      between-answered ha hb b f ∙ ap only_level ((neighbours-exactly ha hb (level_to s (get_or vs i 0) (get_or vs (suc i) 0))).1 (route.hops i hop-inside))

  hop-level : b.level ≡ level_to s (get_or vs i 0) (get_or vs (suc i) 0)
  hop-level = ap (λ (x : Between). x.level) hop_adjacent

  pub hop-link : Link s (get_or vs i 0) b.level
  hop-link = record { server = route.servers i (omega arith); level = omega (arith, hop-level, (route.hops i hop-inside).level) }

  pub hop-switch : switch_at s b.level (get_or vs i 0) ≡ get_or (switches_of s vs) i 0
  unfolding switches_of switch_to
  hop-switch = ap (λ (l : ℕ). switch_at s l (get_or vs i 0)) hop-level ∙ sym (turn_at (switch_to s) vs i hop-inside)

-- what is left of a list at place i, and of what follows its first: the two ends of the hops from there on
pub record HopsLeft (vs : List ℕ) (i : ℕ) (froms tos : List ℕ) : Type 0 where
  pub from : froms ≡ drop i vs
  pub to : tos ≡ drop (i + 1) vs

pub hops_all : (vs : List ℕ) {froms tos : List ℕ} → froms ≡ vs → tos ≡ take (length vs - 1) (drop 1 vs) → HopsLeft vs 0 froms tos
hops_all vs e f = record { from = e; to = f ∙ take_all (length vs - 1) (drop 1 vs) (omega (arith, length-drop 1 vs)) }

module _ {vs : List ℕ} {i : ℕ} {froms tos : List ℕ} (h : HopsLeft vs i froms tos) where
  pub no_from : length froms ≡ 0 → length vs ≤ i + 1
  no_from e = omega (arith, ap length h.from, length-drop i vs)

  pub no_to : length tos ≡ 0 → length vs ≤ i + 1
  no_to e = omega (arith, ap length h.to, length-drop (i + 1) vs)

hop_cut : (vs : List ℕ) (i x : ℕ) (xs : List ℕ) → drop i vs ≡ x ∷ xs → (i < length vs) × (x ≡ get_or vs i 0) × (xs ≡ drop (i + 1) vs)
hop_cut vs i x xs e =
    let n : i + 0 ≡ i = omega arith in (
      omega (arith, length-drop i vs, ap length e),
      sym (sym (get_or-drop i vs 0 0 ∙ ap (λ (j : ℕ). get_or vs j 0) n) ∙ ap (λ (ys : List ℕ). get_or ys 0 0) e),
      sym (sym (drop-drop 1 i vs) ∙ ap (drop 1) e),
    )

-- one hop, and those after it
pub record HopHere (vs : List ℕ) (i x y : ℕ) (froms tos : List ℕ) : Type 0 where
  pub more : i + 1 < length vs
  pub from : x ≡ get_or vs i 0
  pub to : y ≡ get_or vs (i + 1) 0
  pub left : HopsLeft vs (i + 1) froms tos

pub hop_here : {vs : List ℕ} {i x y : ℕ} {froms tos xs ys : List ℕ} → HopsLeft vs i froms tos → froms ≡ x ∷ xs → tos ≡ y ∷ ys → HopHere vs i x y xs ys
hop_here {vs} {i} {x} {y} {froms} {tos} {xs} {ys} h e f =
    let a = hop_cut vs i x xs (sym h.from ∙ e) in
    let b = hop_cut vs (i + 1) y ys (sym h.to ∙ f) in
    record { more = b.0; from = a.1; to = b.1; left = record { from = a.2; to = b.2 } }

pub switches-long : (s : Shape) (vs : List ℕ) → length (switches_of s vs) ≡ length vs - 1
unfolding switches_of
switches-long s vs = length_turn (switch_to s) vs

-- the links to the first i switches that a route uses
abbrev pub MarkedSwitches : (s : Shape) (t vs : List ℕ) (i : ℕ) (u : List ℕ) → Type 0
MarkedSwitches s t vs i u = MarkedAmong (λ x l. switch_at s l x) s t (switches_of s vs) i u

module _ {s : Shape} {w vs : List ℕ} {i x y : ℕ} {froms tos : List ℕ} (route : Route s w vs) (h : HopHere vs i x y froms tos) (b : Between) (e : b ≡ between_answer s x y) where
  here : b ≡ between_answer s (get_or vs i 0) (get_or vs (i + 1) 0)
  here = e ∙ ap₂ (between_answer s) h.from h.to

  -- they are neighbours, and the question is not refused
  pub here-adjacent : b.adjacent ≡ true
  here-adjacent = ap (λ (z : Between). z.adjacent) (hop_adjacent route i h.more b here)

  pub here-asked : b.refusal.number ≡ 0
  here-asked = ap (λ (z : Between). z.refusal.number) (hop_adjacent route i h.more b here)

  pub here-link : Link s x b.level
  here-link = subst (λ (z : ℕ). Link s z b.level) (sym h.from) (hop-link route i h.more b here)

  pub switches-step : {t u v : List ℕ} → MarkedSwitches s t vs i u → Marks s u (λ x' l. eqb (switch_at s l x') (switch_at s b.level x)) v → (j : ℕ) → j ≡ i + 1 → MarkedSwitches s t vs j v × HopsLeft vs j froms tos
  switches-step {t} {u} {v} p q j e' =
      let n = among-step p (omega (arith, switches-long s vs, h.more)) (switch_at s b.level x) (ap (switch_at s b.level) h.from ∙ hop-switch route i h.more b here) q in
      subst (λ (m : ℕ). MarkedSwitches s t vs m v × HopsLeft vs m froms tos) (sym e') (n, h.left)

pub switches-done : {s : Shape} {t u : List ℕ} {i : ℕ} (vs : List ℕ) → MarkedSwitches s t vs i u → length vs ≤ i + 1 → Marks s t (λ x l. is_in (switch_at s l x) (switches_of s vs)) u
switches-done {s} vs p h = among-done p (omega (arith, switches-long s vs))

-- ---- a whole route: its middle servers, as the program takes them, then its switches

middle_part : (vs : List ℕ) → take (length vs - 1 - 1) (drop 1 vs) ≡ middle vs
unfolding middle
middle_part vs = let e : length vs - 1 - 1 ≡ length vs - 2 = omega arith in ap (λ (m : ℕ). take m (drop 1 vs)) e

pub route-marks : {s : Shape} {t u v : List ℕ} (vs : List ℕ) → Marks s t (λ x l. is_in x (take (length vs - 1 - 1) (drop 1 vs))) u → Marks s u (λ x l. is_in (switch_at s l x) (switches_of s vs)) v → Marks s t (takes s vs) v
unfolding takes
route-marks {s} vs p q =
    marks_then (λ x l. is_in x (take (length vs - 1 - 1) (drop 1 vs))) (λ x l. is_in (switch_at s l x) (switches_of s vs)) (takes s vs) p q
    (λ x l k. ap (λ (us : List ℕ). is_in x us || is_in (switch_at s l x) (switches_of s vs)) (sym (middle_part vs)))
