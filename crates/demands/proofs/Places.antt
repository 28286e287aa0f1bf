-- What checking a list comes to: its first array that is not read, else its first pair that is not parallel, proved.
use Prim.Native.Nat.{ℕ, zero, suc, ◌+◌, ◌/◌, ◌≤◌, ◌<◌, suc-le-suc, zero-le}
use mathlib.Core.Path.{◌≡◌, refl, sym, ap, ap₂, ◌∙◌, subst}
use mathlib.Core.Logic.{◌≢◌, ◌⊎◌, inl, inr, ⊎_elim}
use mathlib.Core.Bool.{Bool, true, false, cond}
use mathlib.Core.List.{List, [], ◌∷◌, map}
use native.Mathlib.Omega.{arith}
use native.Mathlib.Nat.{le_of_suc-le-suc}
use native.Mathlib.Decide.{ℕ_discrete}
use lib.ListN.{length, get_or, take, drop, length-map}
use borrow.Author.Tests.{eq-eqb, ne_eqb}
use Rattle.lists.proofs.ListLaws.{take-filled}
use Rattle.refusals.specs.Refusals.{Refusal, none, plain, refused_at, of_route, with_earlier}
use Rattle.refusals.proofs.AnswerLaws.{answer-none}
use Rattle.room.specs.declared.Shape.{Shape}
use Rattle.room.specs.Shapes.{Ends}
use Rattle.links.specs.Table.{TableOf, room_refusal}
use Rattle.path.specs.Told.{Walked}
use Rattle.path.specs.Routes.{Parallel, Encodes}
use Rattle.path.specs.Answers.{no_walk, walk_answer}
use Rattle.path.proofs.CodecLaws.{walk-given, walk-exactly}
use Rattle.verdict.specs.Checks.{arrays, parallel, met_at, meets_first, meeting, first_stop, first_meeting, first_of, first_pair, list_refusal, walks_of, check_answer}
use Rattle.verdict.proofs.AcceptLaws.{walked_of, parallel_of, of_parallel, accepted_of, of_accepted}
use Rattle.verdict.proofs.ScanLaws.{first_left, first_right}
use Rattle.pick.specs.Picks.{array_at}
use Rattle.pick.proofs.UsableLaws.{array_long, array-next}
use Rattle.demands.specs.Tests.{Refused, Hold, Exactly}
use Rattle.demands.specs.Refusals.{ends_tests, room_tests, Arrays, check_tests, IsRead, Reads, FirstRefused, FirstPair, Checks}
use Rattle.demands.proofs.Chains.{front, zero_of, answers, exactly}
use Rattle.demands.proofs.Numbers.{ends_hold, room-number, list_number}
use Rattle.demands.proofs.Meetings.{meet-first, apart, parallel-exactly, meeting-unique}
use Rattle.demands.proofs.Hops.{walk-answer, walk_reads, reads_walk, stops-walk}

-- ---- walked arrays

-- what stands past the end of a list of them
abbrev past_end : Walked
past_end = no_walk none

-- an array read, or the first that is refused
split_stop : (i : ℕ) (w : Walked) (ws : List Walked) → (first_stop i (w ∷ ws)).number ≡ 0 → (w.refusal.number ≡ 0) × ((first_stop (i + 1) ws).number ≡ 0)
unfolding first_stop
split_stop i w ws e =
    elim (ℕ_discrete w.refusal.number 0) [
      | yes z ↦ (z, ap (λ (b : Bool). (cond b (first_stop (i + 1) ws) (of_route i w.refusal)).number) (sym (eq-eqb w.refusal.number 0 z)) ∙ e)
      | no z ↦ absurd (z (ap (λ (b : Bool). (cond b (first_stop (i + 1) ws) (of_route i w.refusal)).number) (sym (ne_eqb w.refusal.number 0 z)) ∙ e))
    ]

no_stop : (i : ℕ) (ws : List Walked) → (first_stop i ws).number ≡ 0 → (j : ℕ) → j < length ws → (get_or ws j past_end).refusal.number ≡ 0
no_stop i [] e j h = let z : ⊥ = omega arith in absurd z
no_stop i (w ∷ ws) e zero h = (split_stop i w ws e).0
no_stop i (w ∷ ws) e (suc j) h = no_stop (i + 1) ws (split_stop i w ws e).1 j (le_of_suc-le-suc h)

stop_found : (i : ℕ) (ws : List Walked) → (first_stop i ws).number ≢ 0
    → (p : ℕ) × (p < length ws) × ((get_or ws p past_end).refusal.number ≢ 0) × ((j : ℕ) → j < p → (get_or ws j past_end).refusal.number ≡ 0) × (first_stop i ws ≡ of_route (i + p) (get_or ws p past_end).refusal)
unfolding first_stop
stop_found i [] n = absurd (n refl)
stop_found i (w ∷ ws) n =
    elim (ℕ_discrete w.refusal.number 0) [
      | yes z ↦ let e : first_stop i (w ∷ ws) ≡ first_stop (i + 1) ws = ap (λ (b : Bool). cond b (first_stop (i + 1) ws) (of_route i w.refusal)) (eq-eqb w.refusal.number 0 z) in
          let r = stop_found (i + 1) ws (λ k. n (ap (λ (x : Refusal). x.number) e ∙ k)) in
          (suc r.0, omega (arith, r.1), r.2, before z r.3, e ∙ r.4 ∙ ap (λ (x : ℕ). of_route x (get_or ws r.0 past_end).refusal) (omega arith))
      | no z ↦ (0, omega arith, z, λ j k. absurd (let y : ⊥ = omega arith in y), ap (λ (b : Bool). cond b (first_stop (i + 1) ws) (of_route i w.refusal)) (ne_eqb w.refusal.number 0 z) ∙ ap (λ (x : ℕ). of_route x w.refusal) (omega arith))
    ]
  where
    before : {p : ℕ} → w.refusal.number ≡ 0 → ((j : ℕ) → j < p → (get_or ws j past_end).refusal.number ≡ 0) → (j : ℕ) → j < suc p → (get_or (w ∷ ws) j past_end).refusal.number ≡ 0
    before z f zero h = z
    before z f (suc j) h = f j (le_of_suc-le-suc h)

-- ---- pairs

none-met : (i : ℕ) (w : Walked) (j : ℕ) (ws : List Walked) → (first_meeting i w j ws).number ≡ 0 → (y : ℕ) → y < length ws → parallel w (get_or ws y past_end) ≡ true
unfolding first_meeting meeting
none-met i w j [] e y h = let z : ⊥ = omega arith in absurd z
none-met i w j (v ∷ vs) e y h = go (parallel w v) refl e y h (λ k z q. none-met i w (j + 1) vs k z q)
  where
    go : (x : Bool) → parallel w v ≡ x → (cond x (first_meeting i w (j + 1) vs) (meeting i w j v)).number ≡ 0 → (y : ℕ) → y < length (v ∷ vs)
        → ((first_meeting i w (j + 1) vs).number ≡ 0 → (z : ℕ) → z < length vs → parallel w (get_or vs z past_end) ≡ true) → parallel w (get_or (v ∷ vs) y past_end) ≡ true
    go true p k zero q ih = p
    go true p k (suc y) q ih = ih k y (le_of_suc-le-suc q)
    go false p k y q ih = let z : ⊥ = omega arith in absurd z

-- the first that meets w
record FirstMet (i : ℕ) (w : Walked) (j : ℕ) (ws : List Walked) (r : Refusal) : Type 0 where
  place : ℕ
  within : place < length ws
  meet : parallel w (get_or ws place past_end) ≡ false
  before : (z : ℕ) → z < place → parallel w (get_or ws z past_end) ≡ true
  here : r ≡ meeting i w (j + place) (get_or ws place past_end)

meeting-found : (i : ℕ) (w : Walked) (j : ℕ) (ws : List Walked) → (first_meeting i w j ws).number ≢ 0 → FirstMet i w j ws (first_meeting i w j ws)
unfolding first_meeting
meeting-found i w j [] n = absurd (n refl)
meeting-found i w j (v ∷ vs) n = go (parallel w v) refl n (λ k. meeting-found i w (j + 1) vs k)
  where
    before : {y : ℕ} → parallel w v ≡ true → ((z : ℕ) → z < y → parallel w (get_or vs z past_end) ≡ true) → (z : ℕ) → z < suc y → parallel w (get_or (v ∷ vs) z past_end) ≡ true
    before p f zero h = p
    before p f (suc z) h = f z (le_of_suc-le-suc h)

    go : (x : Bool) → parallel w v ≡ x → (cond x (first_meeting i w (j + 1) vs) (meeting i w j v)).number ≢ 0
        → ((first_meeting i w (j + 1) vs).number ≢ 0 → FirstMet i w (j + 1) vs (first_meeting i w (j + 1) vs)) → FirstMet i w j (v ∷ vs) (cond x (first_meeting i w (j + 1) vs) (meeting i w j v))
    go true p k ih =
        let r = ih k in
        record { place = suc r.place; within = omega (arith, r.within); meet = r.meet; before = before p r.before; here = r.here ∙ ap (λ (x : ℕ). meeting i w x (get_or vs r.place past_end)) (omega arith) }
    go false p k ih =
        record { place = 0; within = omega arith; meet = p; before = λ z h. absurd (let y : ⊥ = omega arith in y); here = ap (λ (x : ℕ). meeting i w x v) (omega arith) }

-- the first pair of walked arrays, the first of which is route i, that are not parallel
record Pair (i : ℕ) (ws : List Walked) (r : Refusal) : Type 0 where
  first : ℕ
  second : ℕ
  order : first < second
  within : second < length ws
  meet : parallel (get_or ws first past_end) (get_or ws second past_end) ≡ false
  before : (x y : ℕ) → x < y → y < length ws → (x < first) ⊎ ((x ≡ first) × (y < second)) → parallel (get_or ws x past_end) (get_or ws y past_end) ≡ true
  here : r ≡ meeting (i + first) (get_or ws first past_end) (i + second) (get_or ws second past_end)

pair_first : {i : ℕ} {w : Walked} {ws : List Walked} {r : Refusal} → FirstMet i w (i + 1) ws r → Pair i (w ∷ ws) r
pair_first {i} {w} {ws} m =
    record { first = 0; second = suc m.place; order = omega arith; within = omega (arith, m.within); meet = m.meet; before = before; here = m.here ∙ ap₂ (λ (x y : ℕ). meeting x w y (get_or ws m.place past_end)) (omega arith) (omega arith) }
  where
    before : (x y : ℕ) → x < y → y < length (w ∷ ws) → (x < 0) ⊎ ((x ≡ 0) × (y < suc m.place)) → parallel (get_or (w ∷ ws) x past_end) (get_or (w ∷ ws) y past_end) ≡ true
    before x zero p q h = let z : ⊥ = omega arith in absurd z
    before zero (suc y) p q h =
        ⊎_elim (λ k. let z : ⊥ = omega arith in absurd z) (λ k. m.before y (le_of_suc-le-suc k.1)) h
    before (suc x) (suc y) p q h = ⊎_elim (λ k. let z : ⊥ = omega arith in absurd z) (λ k. let z : ⊥ = omega (arith, k.0) in absurd z) h

pair_later : {i : ℕ} {w : Walked} {ws : List Walked} {r : Refusal} → ((y : ℕ) → y < length ws → parallel w (get_or ws y past_end) ≡ true) → Pair (i + 1) ws r → Pair i (w ∷ ws) r
pair_later {i} {w} {ws} f m =
    record { first = suc m.first; second = suc m.second; order = omega (arith, m.order); within = omega (arith, m.within); meet = m.meet; before = before; here = m.here ∙ ap₂ (λ (x y : ℕ). meeting x (get_or ws m.first past_end) y (get_or ws m.second past_end)) (omega arith) (omega arith) }
  where
    before : (x y : ℕ) → x < y → y < length (w ∷ ws) → (x < suc m.first) ⊎ ((x ≡ suc m.first) × (y < suc m.second)) → parallel (get_or (w ∷ ws) x past_end) (get_or (w ∷ ws) y past_end) ≡ true
    before x zero p q h = let z : ⊥ = omega arith in absurd z
    before zero (suc y) p q h = f y (le_of_suc-le-suc q)
    before (suc x) (suc y) p q h =
        m.before x y (le_of_suc-le-suc p) (le_of_suc-le-suc q) (⊎_elim (λ k. inl (le_of_suc-le-suc k)) (λ k. inr (omega (arith, k.0), le_of_suc-le-suc k.1)) h)

pair_found : (i : ℕ) (ws : List Walked) → (first_pair i ws).number ≢ 0 → Pair i ws (first_pair i ws)
unfolding first_pair
pair_found i [] n = absurd (n refl)
pair_found i (w ∷ ws) n =
    elim (ℕ_discrete (first_meeting i w (i + 1) ws).number 0) [
      | yes z ↦ let e = first_right (first_meeting i w (i + 1) ws) (first_pair (i + 1) ws) z in
          subst (Pair i (w ∷ ws)) (sym e) (pair_later (none-met i w (i + 1) ws z) (pair_found (i + 1) ws (λ k. n (ap (λ (r : Refusal). r.number) e ∙ k))))
      | no z ↦ subst (Pair i (w ∷ ws)) (sym (first_left (first_meeting i w (i + 1) ws) (first_pair (i + 1) ws) z)) (pair_first (meeting-found i w (i + 1) ws z))
    ]

pair_none : (i : ℕ) (ws : List Walked) → (first_pair i ws).number ≡ 0 → first_pair i ws ≡ none
unfolding first_pair
pair_none i [] e = refl
pair_none i (w ∷ ws) e =
    elim (ℕ_discrete (first_meeting i w (i + 1) ws).number 0) [
      | yes z ↦ let f = first_right (first_meeting i w (i + 1) ws) (first_pair (i + 1) ws) z in f ∙ pair_none (i + 1) ws (ap (λ (r : Refusal). r.number) (sym f) ∙ e)
      | no z ↦ absurd (z (ap (λ (r : Refusal). r.number) (sym (first_left (first_meeting i w (i + 1) ws) (first_pair (i + 1) ws) z)) ∙ e))
    ]

-- ---- and back

stop_none : (i : ℕ) (ws : List Walked) → ((j : ℕ) → j < length ws → (get_or ws j past_end).refusal.number ≡ 0) → first_stop i ws ≡ none
unfolding first_stop
stop_none i [] f = refl
stop_none i (w ∷ ws) f =
    rw (eq-eqb w.refusal.number 0 (f zero (suc-le-suc zero-le))) (stop_none (i + 1) ws (λ j h. f (suc j) (suc-le-suc h)))

stop_is : (i : ℕ) (ws : List Walked) (p : ℕ) → p < length ws → ((j : ℕ) → j < p → (get_or ws j past_end).refusal.number ≡ 0) → (get_or ws p past_end).refusal.number ≢ 0 → first_stop i ws ≡ of_route (i + p) (get_or ws p past_end).refusal
unfolding first_stop
stop_is i [] p h f n = let z : ⊥ = omega arith in absurd z
stop_is i (w ∷ ws) zero h f n =
    rw (ne_eqb w.refusal.number 0 n) (ap (λ (x : ℕ). of_route x w.refusal) (let z : i ≡ i + 0 = omega arith in z))
stop_is i (w ∷ ws) (suc p) h f n =
    rw (eq-eqb w.refusal.number 0 (f zero (suc-le-suc zero-le)))
    (stop_is (i + 1) ws p (le_of_suc-le-suc h) (λ j k. f (suc j) (suc-le-suc k)) n
    ∙ ap (λ (x : ℕ). of_route x (get_or ws p past_end).refusal) (let z : i + 1 + p ≡ i + suc p = omega arith in z))

meeting-free : (i : ℕ) (w : Walked) (j : ℕ) (ws : List Walked) → ((z : ℕ) → z < length ws → parallel w (get_or ws z past_end) ≡ true) → first_meeting i w j ws ≡ none
unfolding first_meeting
meeting-free i w j [] f = refl
meeting-free i w j (v ∷ vs) f = rw (f zero (suc-le-suc zero-le)) (meeting-free i w (j + 1) vs (λ z h. f (suc z) (suc-le-suc h)))

meeting_is : (i : ℕ) (w : Walked) (j : ℕ) (ws : List Walked) (y : ℕ) → y < length ws → ((z : ℕ) → z < y → parallel w (get_or ws z past_end) ≡ true) → parallel w (get_or ws y past_end) ≡ false → first_meeting i w j ws ≡ meeting i w (j + y) (get_or ws y past_end)
unfolding first_meeting
meeting_is i w j [] y h f e = let z : ⊥ = omega arith in absurd z
meeting_is i w j (v ∷ vs) zero h f e = rw e (ap (λ (x : ℕ). meeting i w x v) (let z : j ≡ j + 0 = omega arith in z))
meeting_is i w j (v ∷ vs) (suc y) h f e =
    rw (f zero (suc-le-suc zero-le))
    (meeting_is i w (j + 1) vs y (le_of_suc-le-suc h) (λ z k. f (suc z) (suc-le-suc k)) e ∙ ap (λ (x : ℕ). meeting i w x (get_or vs y past_end)) (let z : j + 1 + y ≡ j + suc y = omega arith in z))

meeting-number : (i : ℕ) (u : Walked) (j : ℕ) (v : Walked) → (meeting i u j v).number ≡ 15
unfolding meeting
meeting-number i u j v = refl

pair_is : (i : ℕ) (ws : List Walked) (x y : ℕ) → x < y → y < length ws → ((u v : ℕ) → u < v → v < length ws → (u < x) ⊎ ((u ≡ x) × (v < y)) → parallel (get_or ws u past_end) (get_or ws v past_end) ≡ true) → parallel (get_or ws x past_end) (get_or ws y past_end) ≡ false → first_pair i ws ≡ meeting (i + x) (get_or ws x past_end) (i + y) (get_or ws y past_end)
unfolding first_pair
pair_is i [] x y o h f e = let z : ⊥ = omega arith in absurd z
pair_is i (w ∷ ws) x zero o h f e = let z : ⊥ = omega arith in absurd z
pair_is i (w ∷ ws) zero (suc y) o h f e =
    let m = meeting_is i w (i + 1) ws y (le_of_suc-le-suc h) (λ z k. f zero (suc z) (suc-le-suc zero-le) (omega arith) (inr (refl, suc-le-suc k))) e in
    first_left (first_meeting i w (i + 1) ws) (first_pair (i + 1) ws) (λ k. let z : ◌≡◌ {A = ℕ} 15 0 = sym (ap (λ (r : Refusal). r.number) m ∙ meeting-number i w (i + 1 + y) (get_or ws y past_end)) ∙ k in omega arith)
    ∙ m
    ∙ ap₂ (λ (p q : ℕ). meeting p w q (get_or ws y past_end)) (let z : i ≡ i + 0 = omega arith in z) (let z : i + 1 + y ≡ i + suc y = omega arith in z)
pair_is i (w ∷ ws) (suc x) (suc y) o h f e =
    first_right (first_meeting i w (i + 1) ws) (first_pair (i + 1) ws) (ap (λ (r : Refusal). r.number) (meeting-free i w (i + 1) ws (λ z k. f zero (suc z) (suc-le-suc zero-le) (suc-le-suc k) (inl (suc-le-suc zero-le)))))
    ∙ pair_is (i + 1) ws x y (le_of_suc-le-suc o) (le_of_suc-le-suc h) (λ u v p q k. f (suc u) (suc v) (suc-le-suc p) (suc-le-suc q) (⊎_elim (λ l. inl (suc-le-suc l)) (λ l. inr (ap suc l.0, suc-le-suc l.1)) k)) e
    ∙ ap₂ (λ (p q : ℕ). meeting p (get_or ws x past_end) q (get_or ws y past_end)) (let z : i + 1 + x ≡ i + suc x = omega arith in z) (let z : i + 1 + y ≡ i + suc y = omega arith in z)

-- 15 as it is told
fifteen-told : (u v : Walked) {i j g h : ℕ} {x y : ℕ} → x ≡ i → y ≡ j → suc (meets_first u v) ≡ g → suc (met_at u v (meets_first u v)) ≡ h → meeting x u y v ≡ with_earlier i g (refused_at 15 j h)
unfolding meeting
fifteen-told u v {i} {j} {g} {h} {x} {y} a b c d =
    let p : meets_first u v + 1 ≡ g = omega arith in
    let q : met_at u v (meets_first u v) + 1 ≡ h = omega arith in
    ap₂ (λ (m n : ℕ). with_earlier m (meets_first u v + 1) (refused_at 15 n (met_at u v (meets_first u v) + 1))) a b
    ∙ ap₂ (λ (m n : ℕ). with_earlier i m (refused_at 15 j n)) p q

-- ---- the arrays of a list

arrays-long : (m : ℕ) (bs : List ℕ) → length (arrays m bs) ≡ m
unfolding arrays
arrays-long zero bs = refl
arrays-long (suc m) bs = ap suc (arrays-long m (drop 8 bs))

arrays-at : {B : Type 0} (f : List ℕ → B) (m : ℕ) (bs : List ℕ) (i : ℕ) (y : B) → i < m → get_or (map f (arrays m bs)) i y ≡ f (array_at i bs)
unfolding arrays
arrays-at f zero bs i y h = let z : ⊥ = omega arith in absurd z
arrays-at f (suc m) bs zero y h = refl
arrays-at f (suc m) bs (suc i) y h = arrays-at f m (drop 8 bs) i y (le_of_suc-le-suc h) ∙ ap f (array-next i bs)

module _ (s : Shape) (t : List ℕ) (a d : ℕ) (bs : List ℕ) (held : Hold (check_tests s t a d bs)) where
  abbrev walks : List Walked
  walks = walks_of s t a d bs

  walks_long : length walks ≡ length bs / 8
  unfolding walks_of
  walks_long = length-map (arrays (length bs / 8) bs) (walk_answer s t a d) ∙ arrays-long (length bs / 8) bs

  walks_at : (i : ℕ) → i < length bs / 8 → get_or walks i past_end ≡ walk_answer s t a d (array_at i bs)
  unfolding walks_of
  walks_at i h = arrays-at (walk_answer s t a d) (length bs / 8) bs i past_end h

  ends : Ends s a d
  ends = ends_hold s a d (front (ends_tests s a d) ((6, TableOf s t) ∷ (7, Arrays s bs × (1 ≤ length bs)) ∷ []) held)

  room : room_refusal s t a d ≡ 0
  unfolding room_refusal
  room = zero_of (room_tests s t a d) _ (room-number s t a d) (front (room_tests s t a d) ((7, Arrays s bs × (1 ≤ length bs)) ∷ []) held)

  -- one of them: read exactly where its walk has no refusal, else it stops
  array_reads : (i : ℕ) → i < length bs / 8 → Reads s t a d (array_at i bs) (get_or walks i past_end).refusal
  array_reads i h =
      let l = array_long i bs h in
      subst (λ (w : Walked). Reads s t a d (array_at i bs) w.refusal) (sym (walks_at i h ∙ walk-answer t (array_at i bs) ends l)) (walk_reads t (array_at i bs) ends l)

  array_is : (i : ℕ) → i < length bs / 8 → (r : Refusal) → Reads s t a d (array_at i bs) r → (get_or walks i past_end).refusal ≡ r
  array_is i h r k = ap (λ (w : Walked). w.refusal) (walks_at i h ∙ walk-answer t (array_at i bs) ends (array_long i bs h)) ∙ reads_walk k

  array-read : (i : ℕ) → i < length bs / 8 → (get_or walks i past_end).refusal.number ≡ 0 → IsRead s t a d bs i
  array-read i h e = (walk-exactly s t a d (array_at i bs)).0 (ap (λ (w : Walked). w.refusal.number) (sym (walks_at i h)) ∙ e)

  array-none : (i : ℕ) → i < length bs / 8 → IsRead s t a d bs i → (get_or walks i past_end).refusal.number ≡ 0
  array-none i h k = ap (λ (r : Refusal). r.number) (array_is i h none (inl (k, refl)))

  -- where it is read, its walk is that of its route
  array-walk : (i : ℕ) → i < length bs / 8 → (vs : List ℕ) → Encodes s t a d (array_at i bs) vs → get_or walks i past_end ≡ walked_of s vs
  array-walk i h vs k = walks_at i h ∙ walk-given k

  abbrev route-at : ℕ → List ℕ
  route-at i = take (get_or walks i past_end).count (get_or walks i past_end).servers

  route-read : (i : ℕ) → i < length bs / 8 → IsRead s t a d bs i → Encodes s t a d (array_at i bs) (route-at i)
  route-read i h k =
      subst (Encodes s t a d (array_at i bs)) (sym (ap (λ (w : Walked). take w.count w.servers) (array-walk i h k.0 k.1) ∙ take-filled 9 k.0)) k.1

  -- two routes are parallel exactly where the test of their walks holds
  module _ (i j : ℕ) (p : i < length bs / 8) (q : j < length bs / 8) (us vs : List ℕ) (h : Encodes s t a d (array_at i bs) us) (k : Encodes s t a d (array_at j bs) vs) where
    pair_walks : parallel (get_or walks i past_end) (get_or walks j past_end) ≡ parallel (walked_of s us) (walked_of s vs)
    pair_walks = ap₂ parallel (array-walk i p us h) (array-walk j q vs k)

    pair_parallel : parallel (get_or walks i past_end) (get_or walks j past_end) ≡ true → Parallel s us vs
    pair_parallel e = parallel_of s us vs (sym pair_walks ∙ e)

    parallel_pair : Parallel s us vs → parallel (get_or walks i past_end) (get_or walks j past_end) ≡ true
    parallel_pair e = pair_walks ∙ of_parallel s us vs e

  -- ---- what the check comes to

  abbrev outcome : Refusal
  outcome = first_of (first_stop 1 walks) (first_pair 1 walks)

  outcome_answer : check_answer s t a d bs ≡ outcome
  unfolding check_answer
  outcome_answer = answer-none _ plain _ (sym (zero_of (check_tests s t a d bs) (list_refusal s t a d bs) (list_number s t a d bs) held))

  stops_first : (first_stop 1 walks).number ≢ 0 → FirstRefused s t a d bs outcome
  stops_first o = go (array_reads p within)
    where
      r : (p : ℕ) × (p < length walks) × ((get_or walks p past_end).refusal.number ≢ 0) × ((j : ℕ) → j < p → (get_or walks j past_end).refusal.number ≡ 0) × (first_stop 1 walks ≡ of_route (1 + p) (get_or walks p past_end).refusal)
      r = stop_found 1 walks o

      p : ℕ
      p = r.0

      within : p < length bs / 8
      within = subst (λ (m : ℕ). p < m) walks_long r.1

      go : Reads s t a d (array_at p bs) (get_or walks p past_end).refusal → FirstRefused s t a d bs outcome
      go (inl h) = absurd (r.2 (ap (λ (x : Refusal). x.number) h.1))
      go (inr h) =
          record {
            place = p;
            own = (get_or walks p past_end).refusal;
            within = within;
            before = λ i k. array-read i (omega (arith, within)) (r.3 i k);
            stops = h;
            here = first_left (first_stop 1 walks) (first_pair 1 walks) o ∙ r.4 ∙ ap (λ (k : ℕ). of_route k (get_or walks p past_end).refusal) (let z : 1 + p ≡ suc p = omega arith in z);
          }

  pairs_first : (first_stop 1 walks).number ≡ 0 → (first_pair 1 walks).number ≢ 0 → FirstPair s t a d bs outcome
  pairs_first o n =
      record {
        routes = route-at;
        read = read;
        first = r.first;
        second = r.second;
        order = r.order;
        within = within;
        before = λ i j u v k. pair_parallel i j (omega (arith, v)) v (route-at i) (route-at j) (read i (omega (arith, v))) (read j v) (r.before i j u (subst (λ (m : ℕ). j < m) (sym walks_long) v) k);
        first_hop = suc (meets_first u v);
        second_hop = suc (met_at u v (meets_first u v));
        meet = meet-first s (route-at r.first) (route-at r.second) (sym (ap₂ parallel one two) ∙ r.meet);
        here = first_right (first_stop 1 walks) (first_pair 1 walks) o ∙ r.here ∙ ap₂ (λ (x y : Walked). meeting (1 + r.first) x (1 + r.second) y) one two ∙ told;
      }
    where
      r : Pair 1 walks (first_pair 1 walks)
      r = pair_found 1 walks n

      within : r.second < length bs / 8
      within = subst (λ (m : ℕ). r.second < m) walks_long r.within

      read : (i : ℕ) → i < length bs / 8 → Encodes s t a d (array_at i bs) (route-at i)
      read i h = route-read i h (array-read i h (no_stop 1 walks o i (subst (λ (m : ℕ). i < m) (sym walks_long) h)))

      -- the walks of the two
      u : Walked
      u = walked_of s (route-at r.first)

      v : Walked
      v = walked_of s (route-at r.second)

      one : get_or walks r.first past_end ≡ u
      one = let p : r.first < length bs / 8 = omega (arith, within, r.order) in array-walk r.first p (route-at r.first) (read r.first p)

      two : get_or walks r.second past_end ≡ v
      two = array-walk r.second within (route-at r.second) (read r.second within)

      told : meeting (1 + r.first) u (1 + r.second) v ≡ with_earlier (suc r.first) (suc (meets_first u v)) (refused_at 15 (suc r.second) (suc (met_at u v (meets_first u v))))
      told = fifteen-told u v (omega arith) (omega arith) refl refl

  outcome_checks : Checks s t a d bs outcome
  outcome_checks =
      elim (ℕ_discrete (first_stop 1 walks).number 0) [
        | no o ↦ inr (inl (stops_first o))
        | yes o ↦ elim (ℕ_discrete (first_pair 1 walks).number 0) [
          | no n ↦ inr (inr (pairs_first o n))
          | yes z ↦ let e = first_right (first_stop 1 walks) (first_pair 1 walks) o ∙ pair_none 1 walks z in inl (accepted_of s t a d bs (outcome_answer ∙ e), e)
        ]
      ]

  -- ---- and back

  refused-answer : (r : Refusal) → FirstRefused s t a d bs r → outcome ≡ r
  refused-answer r h =
      first_left (first_stop 1 walks) (first_pair 1 walks) (λ z. some (sym (ap (λ (x : Refusal). x.number) stop) ∙ z))
      ∙ stop
      ∙ ap₂ (λ (x : Refusal) (k : ℕ). of_route k x) is (let z : 1 + h.place ≡ suc h.place = omega arith in z)
      ∙ sym h.here
    where
      is : (get_or walks h.place past_end).refusal ≡ h.own
      is = array_is h.place h.within _ (inr h.stops)

      some : (get_or walks h.place past_end).refusal.number ≢ 0
      some z = (stops-walk h.stops).1 (ap (λ (x : Refusal). x.number) (sym is) ∙ z)

      stop : first_stop 1 walks ≡ of_route (1 + h.place) (get_or walks h.place past_end).refusal
      stop = stop_is 1 walks h.place (subst (λ (m : ℕ). h.place < m) (sym walks_long) h.within) (λ j k. array-none j (omega (arith, h.within)) (h.before j k)) some

  pair_answer : (r : Refusal) → FirstPair s t a d bs r → outcome ≡ r
  pair_answer r h =
      first_right (first_stop 1 walks) (first_pair 1 walks) (ap (λ (x : Refusal). x.number) (stop_none 1 walks (λ j k. array-none j (inside j k) (h.routes j, h.read j (inside j k)))))
      ∙ pair_is 1 walks h.first h.second h.order (subst (λ (m : ℕ). h.second < m) (sym walks_long) h.within)
      (λ u v p q k. parallel_pair u v (omega (arith, inside v q)) (inside v q) (h.routes u) (h.routes v) (h.read u (omega (arith, inside v q))) (h.read v (inside v q)) (h.before u v p (inside v q) k))
      (ap₂ parallel one two ∙ not_so)
      ∙ ap₂ (λ (x y : Walked). meeting (1 + h.first) x (1 + h.second) y) one two
      ∙ fifteen-told u v (omega arith) (omega arith) same.0 same.1
      ∙ sym h.here
    where
      inside : (j : ℕ) → j < length walks → j < length bs / 8
      inside j k = subst (λ (m : ℕ). j < m) walks_long k

      u : Walked
      u = walked_of s (h.routes h.first)

      v : Walked
      v = walked_of s (h.routes h.second)

      one : get_or walks h.first past_end ≡ u
      one = let p : h.first < length bs / 8 = omega (arith, h.within, h.order) in array-walk h.first p (h.routes h.first) (h.read h.first p)

      two : get_or walks h.second past_end ≡ v
      two = array-walk h.second h.within (h.routes h.second) (h.read h.second h.within)

      not_so : parallel u v ≡ false
      not_so = apart s (h.routes h.first) (h.routes h.second) (λ p. (parallel-exactly s (h.routes h.first) (h.routes h.second)).0 p h.first_hop h.second_hop h.meet.meet)

      -- what the walks tell is the first meeting, and there is one
      same : (suc (meets_first u v) ≡ h.first_hop) × (suc (met_at u v (meets_first u v)) ≡ h.second_hop)
      same =
          meeting-unique s (h.routes h.first) (h.routes h.second) _ _ _ _ (meet-first s (h.routes h.first) (h.routes h.second) not_so) h.meet

  checks_answer : (r : Refusal) → Checks s t a d bs r → check_answer s t a d bs ≡ r
  checks_answer r (inl h) = of_accepted s t a d bs room h.0 ∙ sym h.1
  checks_answer r (inr (inl h)) = outcome_answer ∙ refused-answer r h
  checks_answer r (inr (inr h)) = outcome_answer ∙ pair_answer r h

pub check_list : (s : Shape) (t : List ℕ) (a d : ℕ) (bs : List ℕ) → Exactly (check_answer s t a d bs) (Refused plain (check_tests s t a d bs) (Checks s t a d bs))
unfolding check_answer
check_list s t a d bs =
    exactly plain (Checks s t a d bs) (check_tests s t a d bs) (check_answer s t a d bs) (λ y h x k. checks_answer s t a d bs h y k)
    (answers (λ x. x) plain plain (Checks s t a d bs) (check_tests s t a d bs) (list_refusal s t a d bs) (first_of (first_stop 1 (walks_of s t a d bs)) (first_pair 1 (walks_of s t a d bs))) (λ r. refl) refl (list_number s t a d bs) (outcome_checks s t a d bs))
