-- Laws of where two walked arrays meet: they meet exactly where they are not parallel, and what the program finds is the first meeting.
use Prim.Native.Nat.{ℕ, zero, suc, ◌+◌, ◌-◌, ◌≤◌, ◌<◌}
use mathlib.Core.Path.{◌≡◌, refl, sym, ap, ◌∙◌, subst}
use mathlib.Core.Logic.{◌≢◌, ◌↔◌, ◌⊎◌, inl, inr, ⊎_elim}
use mathlib.Core.Bool.{Bool, true, false, false≢true, cond, ◌&&◌, ◌||◌, or-false}
use mathlib.Core.List.{List, [], ◌∷◌}
use native.Mathlib.Omega.{arith}
use native.Mathlib.Decide.{dec_lt}
use lib.Dec.{ltb, eqb}
use lib.ListN.{length, get_or, take, drop, length-take}
use lib.Seq.{length-take-le, take-take, get_or-take}
use borrow.Author.Tests.{eq-eqb, ne_eqb, lt-ltb, le-ltb, ltb-true, ltb-false, eqb-true}
use Rattle.std.specs.Prelude.{Option, Some, None}
use Rattle.lists.specs.Lists.{middle, first_where, place_in, Apart}
use Rattle.lists.proofs.ListLaws.{both_held, length-middle, middle-at}
use Rattle.lists.proofs.FirstPlaces.{where_most, where_holds, where_before, where_is, where_same, all_on}
use Rattle.refusals.specs.Refusals.{refused_at, with_earlier}
use Rattle.path.specs.Told.{Walked}
use Rattle.verdict.specs.declared.Meeting.{Meeting}
use Rattle.verdict.specs.Checks.{disjoint, switches_in, between, parallel, hops_in, same_at, meets, met_at, meets_first, meeting}
use Rattle.verdict.specs.Arrived.{Arrived, first_met, meeting_of}
use Rattle.verdict.proofs.AcceptLaws.{disjoint-apart, apart-disjoint}

-- ---- the same at two places

module _ (xs ys : List ℕ) (p q : ℕ) where
  pub same-there : same_at xs ys p q ≡ true → (p < length xs) × (q < length ys) × (get_or xs p 0 ≡ get_or ys q 0)
  unfolding same_at
  same-there e =
      let z = both_held (ltb p (length xs)) _ e in
      let w = both_held (ltb q (length ys)) _ z.1 in
      (ltb-true p _ z.0, ltb-true q _ w.0, eqb-true _ _ w.1)

  pub there-same : p < length xs → q < length ys → get_or xs p 0 ≡ get_or ys q 0 → same_at xs ys p q ≡ true
  unfolding same_at
  there-same h k e = rw (lt-ltb p (length xs) h, lt-ltb q (length ys) k, eq-eqb (get_or xs p 0) (get_or ys q 0) e)

  same_not : (p < length xs → q < length ys → get_or xs p 0 ≢ get_or ys q 0) → same_at xs ys p q ≡ false
  same_not n = go (same_at xs ys p q) refl
    where
      go : (b : Bool) → same_at xs ys p q ≡ b → b ≡ false
      go true e = let z = same-there e in absurd (n z.0 z.1 z.2)
      go false e = refl

split : (a b : Bool) → (a || b) ≡ false → (a ≡ false) × (b ≡ false)
split true b e = absurd (false≢true (sym e))
split false b e = (refl, e)

-- ---- they meet nowhere exactly where they are parallel

module _ (u : Walked) where
  switches-within : length (switches_in u) ≤ hops_in u
  unfolding switches_in
  switches-within = omega (arith, length-take (u.count - 1) u.switches)

  between-within : length (between u) ≤ hops_in u
  unfolding between
  between-within = omega (arith, length-middle (take u.count u.servers), length-take u.count u.servers)

meets-not : (u v : Walked) (p q : ℕ) → same_at (switches_in u) (switches_in v) p q ≡ false → same_at (between u) (between v) p q ≡ false → meets u v p q ≡ false
unfolding meets
meets-not u v p q e f = rw (e, f)

-- hops meet by a switch or by a server
pub meets_by : (u v : Walked) (p q : ℕ) → (meets u v p q ≡ true) ↔ ((same_at (switches_in u) (switches_in v) p q ≡ true) ⊎ (same_at (between u) (between v) p q ≡ true))
unfolding meets
meets_by u v p q = or-exactly (same_at (switches_in u) (switches_in v) p q) (same_at (between u) (between v) p q)
  where
    or-exactly : (a b : Bool) → ((a || b) ≡ true) ↔ ((a ≡ true) ⊎ (b ≡ true))
    or-exactly true b = (λ e. inl refl, λ x. refl)
    or-exactly false b = (λ e. inr e, ⊎_elim (λ e. absurd (false≢true e)) (λ e. e))

pub parallel-apart : (u v : Walked) → parallel u v ≡ true → (p q : ℕ) → meets u v p q ≡ false
unfolding parallel
parallel-apart u v e p q =
    let z = both_held (disjoint (switches_in u) (switches_in v)) _ e in
    let a = disjoint-apart (switches_in u) (switches_in v) z.0 in
    let b = disjoint-apart (between u) (between v) z.1 in
    meets-not u v p q (same_not _ _ p q (λ h k. a.apart p q h k)) (same_not _ _ p q (λ h k. b.apart p q h k))

-- what meets nowhere shares no switch, and no server
meets_neither : (u v : Walked) (p q : ℕ) → meets u v p q ≡ false → (same_at (switches_in u) (switches_in v) p q ≡ false) × (same_at (between u) (between v) p q ≡ false)
unfolding meets
meets_neither u v p q e = split (same_at (switches_in u) (switches_in v) p q) (same_at (between u) (between v) p q) e

pub apart-parallel : (u v : Walked) → ((p q : ℕ) → p < hops_in u → q < hops_in v → meets u v p q ≡ false) → parallel u v ≡ true
unfolding parallel
apart-parallel u v n = rw (apart-disjoint (switches_in u) (switches_in v) switches, apart-disjoint (between u) (between v) servers)
  where
    different : {b : Bool} → b ≡ false → b ≡ true → ⊥
    different e f = false≢true (sym e ∙ f)

    switches : Apart (switches_in u) (switches_in v)
    switches =
        record {
          apart = λ p q h k e. different (meets_neither u v p q (n p q (omega (arith, switches-within u)) (omega (arith, switches-within v)))).0 (there-same (switches_in u) (switches_in v) p q h k e);
        }

    servers : Apart (between u) (between v)
    servers =
        record {
          apart = λ p q h k e. different (meets_neither u v p q (n p q (omega (arith, between-within u)) (omega (arith, between-within v)))).1 (there-same (between u) (between v) p q h k e);
        }

-- ---- where they meet is within their hops

pub met-most : (u v : Walked) (p : ℕ) → met_at u v p ≤ hops_in v
unfolding met_at
met-most u v p = where_most (meets u v p) (hops_in v)

-- no hop of v before that one meets it, and no hop of u before the first meets one
met-before : (u v : Walked) (p q : ℕ) → q < met_at u v p → meets u v p q ≡ false
unfolding met_at
met-before u v p q h = where_before (meets u v p) (hops_in v) q h

first-before : (u v : Walked) (p : ℕ) → p < meets_first u v → hops_in v ≤ met_at u v p
unfolding meets_first
first-before u v p h = ltb-false (met_at u v p) (hops_in v) (where_before (λ z. ltb (met_at u v z) (hops_in v)) (hops_in u) p h)

pub first-most : (u v : Walked) → meets_first u v ≤ hops_in u
unfolding meets_first
first-most u v = where_most (λ p. ltb (met_at u v p) (hops_in v)) (hops_in u)

-- ---- the first meeting

module _ (u v : Walked) where
  -- hops that meet are hops of the two
  meets-within : (p q : ℕ) → meets u v p q ≡ true → (p < hops_in u) × (q < hops_in v)
  meets-within p q e = ⊎_elim by_switch by_server ((meets_by u v p q).0 e)
    where
      by_switch : same_at (switches_in u) (switches_in v) p q ≡ true → (p < hops_in u) × (q < hops_in v)
      by_switch f =
          let z = same-there (switches_in u) (switches_in v) p q f in
          (omega (arith, z.0, switches-within u), omega (arith, z.1, switches-within v))

      by_server : same_at (between u) (between v) p q ≡ true → (p < hops_in u) × (q < hops_in v)
      by_server f =
          let z = same-there (between u) (between v) p q f in
          (omega (arith, z.0, between-within u), omega (arith, z.1, between-within v))

  -- two that are not parallel meet there
  pub first-there : parallel u v ≡ false → meets u v (meets_first u v) (met_at u v (meets_first u v)) ≡ true
  unfolding met_at meets_first
  first-there f =
      elim (dec_lt (meets_first u v) (hops_in u)) [
        | yes y ↦ where_holds (meets u v (meets_first u v)) (hops_in v) (ltb-true _ _ (where_holds (λ p. ltb (met_at u v p) (hops_in v)) (hops_in u) y))
        | no n ↦ absurd (false≢true (sym f ∙ apart-parallel u v (λ p q x y. met-before u v p q (omega (arith, first-before u v p (omega arith))))))
      ]

  -- and nowhere before
  pub first-first : (x y : ℕ) → meets u v x y ≡ true → (meets_first u v < x) ⊎ ((meets_first u v ≡ x) × (met_at u v (meets_first u v) ≤ y))
  first-first x y e = place (dec_lt (meets_first u v) x)
    where
      by : met_at u v x ≤ y
      by =
          elim (dec_lt y (met_at u v x)) [
            | no n ↦ omega arith
            | yes h ↦ absurd (false≢true (sym (met-before u v x y h) ∙ e))
          ]

      most : meets_first u v ≤ x
      most =
          elim (dec_lt x (meets_first u v)) [
            | no n ↦ omega arith
            | yes h ↦ absurd (let z : ⊥ = omega (arith, first-before u v x h, by, (meets-within x y e).1) in z)
          ]

      place : Dec (meets_first u v < x) → (meets_first u v < x) ⊎ ((meets_first u v ≡ x) × (met_at u v (meets_first u v) ≤ y))
      place (yes h) = inl h
      place (no n) = let z : meets_first u v ≡ x = omega (arith, most) in inr (z, subst (λ (p : ℕ). met_at u v p ≤ y) (sym z) by)

-- ---- the first hop of v that meets the hop of u at place i

middle-taken : (c : ℕ) (xs : List ℕ) → 2 ≤ c → c ≤ length xs → take (c - 1 - 1) (drop 1 xs) ≡ middle (take c xs)
unfolding middle
middle-taken zero xs p h = let z : ⊥ = omega arith in absurd z
middle-taken (suc c) [] p h = let z : ⊥ = omega arith in absurd z
middle-taken (suc c) (x ∷ xs) p h =
    let e : length (take c xs) ≡ c = length-take-le c xs (omega arith) in
    let f : suc c - 1 - 1 ≡ suc (length (take c xs)) - 2 = omega arith in
    rw f (sym (take-take (suc (length (take c xs)) - 2) c xs (omega arith)))

module _ (w : Walked) (h : Arrived w) where
  pub switches-long : w.count - 1 ≡ length (take (w.count - 1) w.switches)
  switches-long = sym (length-take-le (w.count - 1) w.switches (omega (arith, h.few, h.long_switches)))

  switches-all : length (switches_in w) ≡ hops_in w
  unfolding switches_in
  switches-all = sym switches-long

  servers-all : length (take w.count w.servers) ≡ w.count
  servers-all = length-take-le w.count w.servers (omega (arith, h.few, h.long_servers))

  between-all : length (between w) ≡ hops_in w - 1
  unfolding between
  between-all = omega (arith, length-middle (take w.count w.servers), servers-all)

  between_is : take (w.count - 1 - 1) (drop 1 w.servers) ≡ between w
  unfolding between
  between_is = middle-taken w.count w.servers h.some (omega (arith, h.few, h.long_servers))

  switch-at : (i : ℕ) → i < hops_in w → get_or (switches_in w) i 0 ≡ get_or w.switches i 0
  unfolding switches_in
  switch-at i p = get_or-take (w.count - 1) w.switches i 0 p

  server-at : (i : ℕ) → i + 1 < hops_in w → get_or (between w) i 0 ≡ get_or w.servers (i + 1) 0
  unfolding between
  server-at i p =
      let e : suc i ≡ i + 1 = omega arith in
      middle-at (take w.count w.servers) i (omega (arith, servers-all))
      ∙ get_or-take w.count w.servers (suc i) 0 (omega arith)
      ∙ ap (λ (j : ℕ). get_or w.servers j 0) e

-- a is the place of its switch among those of v; the last hop leads to the destination
module _ (u v : Walked) (hu : Arrived u) (hv : Arrived v) (i : ℕ) (hi : i < hops_in u) where
  last_alike : u.count - 1 ≤ i + 1 → (q : ℕ) → q < hops_in v → eqb (get_or u.switches i 0) (get_or (switches_in v) q 0) ≡ meets u v i q
  unfolding meets same_at
  last_alike h q p =
      let a : i < length (switches_in u) = omega (arith, switches-all u hu) in
      let b : q < length (switches_in v) = omega (arith, switches-all v hv) in
      let c : length (between u) ≤ i = omega (arith, between-all u hu) in
      rw (lt-ltb i (length (switches_in u)) a, lt-ltb q (length (switches_in v)) b, le-ltb i (length (between u)) c, switch-at u hu i hi) (sym (or-false _))

  pub met_last : (a : ℕ) → a ≡ place_in (get_or u.switches i 0) (take (v.count - 1) v.switches) → u.count - 1 ≤ i + 1 → a ≡ met_at u v i
  unfolding place_in met_at switches_in
  met_last a e h = e ∙ ap (first_where _) (switches-all v hv) ∙ where_same _ (meets u v i) (hops_in v) (last_alike h)

-- ---- the same, where the hop leads to a server between the ends

module _ (used met : List ℕ) (w a : ℕ) where
  -- the first i hops do not use the switch, nor lead to the server
  pub record Unmet (i : ℕ) : Type 0 where
    pub within : i ≤ length met
    pub no_switch : (j : ℕ) → j < i → get_or used j 0 ≢ w
    pub no_server : (j : ℕ) → j < i → get_or met j 0 ≢ a

  abbrev test : ℕ → Bool
  test q = eqb w (get_or used q 0) || (ltb q (length met) && eqb a (get_or met q 0))

  -- neither at place j
  neither : (j : ℕ) → get_or used j 0 ≢ w → (j < length met → get_or met j 0 ≢ a) → test j ≡ false
  neither j n m =
      elim (dec_lt j (length met)) [
        | yes y ↦ rw (ne_eqb w (get_or used j 0) (λ e. n (sym e)), lt-ltb j (length met) y, ne_eqb a (get_or met j 0) (λ e. m y (sym e)))
        | no y ↦ let z : length met ≤ j = omega arith in rw (ne_eqb w (get_or used j 0) (λ e. n (sym e)), le-ltb j (length met) z)
      ]

  pub unmet_all : (i : ℕ) → Unmet i → length met ≤ i → Unmet (length met)
  unmet_all i g h = record { within = omega arith; no_switch = λ j p. g.no_switch j (omega arith); no_server = λ j p. g.no_server j (omega arith) }

  module _ (l : length used ≡ length met + 1) (i : ℕ) (g : Unmet i) where
    before : (j : ℕ) → j < i → test j ≡ false
    before j p = neither j (g.no_switch j p) (λ q. g.no_server j p)

    -- here: it uses the switch, or leads to the server
    here : test i ≡ true → i ≡ first_met used met w a
    unfolding first_met
    here e = sym (where_is test (length used) i (omega (arith, g.within)) before (λ p. e))

    pub unmet_switch : get_or used i 0 ≡ w → i ≡ first_met used met w a
    unmet_switch e = here (rw (eq-eqb w (get_or used i 0) (sym e)))

    pub unmet_server : i < length met → get_or met i 0 ≡ a → i ≡ first_met used met w a
    unmet_server h e = here (by_server (eqb w (get_or used i 0)))
      where
        by_server : (x : Bool) → (x || (ltb i (length met) && eqb a (get_or met i 0))) ≡ true
        by_server true = refl
        by_server false = rw (lt-ltb i (length met) h, eq-eqb a (get_or met i 0) (sym e))

    -- past all
    pub unmet_end : length met ≤ i → (get_or used i 0 ≡ w → ⊥) → i + 1 ≡ first_met used met w a
    unfolding first_met
    unmet_end h n =
        sym (where_is test (length used) (i + 1) (omega (arith, g.within)) (all_on (λ j. test j ≡ false) i before (neither i n (λ z. absurd (let k : ⊥ = omega arith in k)))) (λ p. absurd (let z : ⊥ = omega (arith, g.within) in z)))

module _ (u v : Walked) (hu : Arrived u) (hv : Arrived v) (i : ℕ) (more : i + 1 < u.count - 1) where
  -- the switches of v are one more than its servers between the ends
  pub one_more : length (take (v.count - 1) v.switches) ≡ length (take (v.count - 1 - 1) (drop 1 v.servers)) + 1
  one_more = omega (arith, switches-long v hv, ap length (between_is v hv), between-all v hv, hv.some)

  alike : (q : ℕ) → q < hops_in v → (eqb (get_or u.switches i 0) (get_or (switches_in v) q 0) || (ltb q (length (between v)) && eqb (get_or u.servers (i + 1) 0) (get_or (between v) q 0))) ≡ meets u v i q
  unfolding meets same_at
  alike q h =
      let a : i < length (switches_in u) = omega (arith, switches-all u hu) in
      let b : q < length (switches_in v) = omega (arith, switches-all v hv) in
      let c : i < length (between u) = omega (arith, between-all u hu) in
      rw (lt-ltb i (length (switches_in u)) a, lt-ltb q (length (switches_in v)) b, lt-ltb i (length (between u)) c, switch-at u hu i (omega arith), server-at u hu i more)

  pub met-middle : (r : ℕ) → r ≡ first_met (take (v.count - 1) v.switches) (take (v.count - 1 - 1) (drop 1 v.servers)) (get_or u.switches i 0) (get_or u.servers (i + 1) 0) → r ≡ met_at u v i
  unfolding first_met met_at switches_in
  met-middle r e =
      e
      ∙ ap (λ (bs : List ℕ). first_where (λ q. eqb (get_or u.switches i 0) (get_or (switches_in v) q 0) || (ltb q (length bs) && eqb (get_or u.servers (i + 1) 0) (get_or bs q 0))) (length (switches_in v))) (between_is v hv)
      ∙ ap (first_where _) (switches-all v hv)
      ∙ where_same _ (meets u v i) (hops_in v) alike

-- ---- the first hop of u that meets one of v

-- the first i hops of u meet none
pub record NoneMet (u v : Walked) (i : ℕ) : Type 0 where
  pub within : i ≤ hops_in u
  pub none-met : (j : ℕ) → j < i → hops_in v ≤ met_at u v j

module _ (u v : Walked) (i : ℕ) (g : NoneMet u v i) where
  module _ (h : i < u.count - 1) (q : ℕ) (e : q ≡ met_at u v i) where
    -- this one meets: they are not parallel, and it is the first
    first : q < v.count - 1 → meets_first u v ≡ i
    unfolding meets_first
    first k =
        where_is (λ p. ltb (met_at u v p) (hops_in v)) (hops_in u) i g.within
        (λ j p. le-ltb (met_at u v j) (hops_in v) (g.none-met j p))
        (λ p. lt-ltb (met_at u v i) (hops_in v) (rw (← e) k))

    crossed : q < v.count - 1 → parallel u v ≡ false
    unfolding met_at
    crossed k = go (parallel u v) refl
      where
        go : (b : Bool) → parallel u v ≡ b → b ≡ false
        go true f = absurd (false≢true (sym (parallel-apart u v f i (met_at u v i)) ∙ where_holds (meets u v i) (hops_in v) (rw (← e) k)))
        go false f = refl

    pub met-here : q < v.count - 1 → ◌≡◌ {A = Option Meeting} (Some (record { first = i + 1; later = q + 1 })) (meeting_of u v)
    unfolding meeting_of
    met-here k = rw (crossed k, first k) (ap (λ (x : ℕ). Some (record { first = i + 1; later = x + 1 })) e)

  none-meets : u.count - 1 ≤ i → (p q : ℕ) → p < hops_in u → q < hops_in v → meets u v p q ≡ false
  none-meets h p q x y = met-before u v p q (omega (arith, g.none-met p (omega arith)))

  -- none meets
  pub none-met-end : u.count - 1 ≤ i → None ≡ meeting_of u v
  unfolding meeting_of
  none-met-end h = rw (apart-parallel u v (none-meets h))

-- ---- as it is told

module _ (u v : Walked) where
  pub meeting-none : None ≡ meeting_of u v → parallel u v ≡ true
  unfolding meeting_of
  meeting-none e = go (parallel u v) e
    where
      go : (b : Bool) → None ≡ cond {A = Option Meeting} b None (Some (record { first = meets_first u v + 1; later = met_at u v (meets_first u v) + 1 })) → b ≡ true
      go true k = refl
      go false k = cc

  -- x is where they meet
  module _ (x : Meeting) (e : Some x ≡ meeting_of u v) where
    met : (parallel u v ≡ false) × (x ≡ record { first = meets_first u v + 1; later = met_at u v (meets_first u v) + 1 })
    unfolding meeting_of
    met = go (parallel u v) e
      where
        go : (b : Bool) → Some x ≡ cond {A = Option Meeting} b None (Some (record { first = meets_first u v + 1; later = met_at u v (meets_first u v) + 1 })) → (b ≡ false) × (x ≡ record { first = meets_first u v + 1; later = met_at u v (meets_first u v) + 1 })
        go true k = cc
        go false k = (refl, cc)

    pub meeting-some : parallel u v ≡ false
    meeting-some = met.0

    pub meeting-told : (i j : ℕ) → with_earlier i x.first (refused_at 15 j x.later) ≡ meeting i u j v
    unfolding meeting
    meeting-told i j = ap (λ (y : Meeting). with_earlier i y.first (refused_at 15 j y.later)) met.1
