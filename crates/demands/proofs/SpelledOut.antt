-- What the lines of `RefusedExactly` say of some numbers, proved.
use Prim.Native.Nat.{ℕ, suc, ◌+◌, ◌≤◌, ◌<◌}
use mathlib.Core.Path.{◌≡◌, refl, sym, ap, subst}
use mathlib.Core.Logic.{◌≢◌, ◌↔◌, inl, inr}
use mathlib.Core.Bool.{true, not}
use mathlib.Core.List.{List, [], ◌∷◌}
use native.Mathlib.Omega.{arith}
use native.Mathlib.Decide.{ℕ_discrete}
use lib.Dec.{eqb}
use lib.ListN.{length, get_or}
use borrow.Author.Tests.{eqb-false, not-true}
use Rattle.refusals.specs.Refusals.{Refusal, none, plain, refused_at, with_earlier}
use Rattle.room.specs.declared.Shape.{Shape}
use Rattle.room.specs.Shapes.{servers_of, bound}
use Rattle.room.specs.Refusals.{shape_refusal}
use Rattle.room.specs.Addresses.{digit}
use Rattle.trees.specs.Answers.{parent_answer}
use Rattle.summary.specs.Answers.{link_answer, dead_answer}
use Rattle.path.specs.Routes.{level_of, value_of}
use Rattle.path.specs.Answers.{hop_answer, walk_answer}
use Rattle.verdict.specs.Checks.{check_answer}
use Rattle.step.specs.Steps.{flag_at, step_answer}
use Rattle.demands.specs.Tests.{Tests, ◌then◌, Refused, Hold}
use Rattle.demands.specs.Summaries.{switch_total, EntryCounts, Summarizes}
use Rattle.demands.specs.Refusals.{shape_tests, server_tests, pair_tests, hop_tests, table_tests, table_link_tests, room_tests, array_tests, Arrays, FailsWith, read_tests, FirstAfterArrival, Stops, hop_fails, never_arrives, goes_on, Reads, check_tests, FirstPair, Checks, given_tests, step_tests, Steps, SpelledOut}
use Rattle.demands.proofs.Chains.{front, all, others, chain_means, fails_in, numbers_of}
use Rattle.demands.proofs.Refusing.{all-at, other-numbers}
use Rattle.demands.proofs.ComesAgain.{twenty_eight, twenty_nine, write_twenty_eight, write_twenty_nine}
use Rattle.demands.proofs.Exactly.{refused-exactly}

twenty_six : (s : Shape) → (shape_refusal s ≡ 26) ↔ (Hold ((1, (2 ≤ s.n) × (s.n ≤ 64)) ∷ (2, s.k ≤ 3) ∷ []) × ((2 ≤ s.m) × (s.m ≤ s.n) → ⊥))
twenty_six s =
    chain_means.number (λ n. n) ((1, (2 ≤ s.n) × (s.n ≤ 64)) ∷ (2, s.k ≤ 3) ∷ []) ((3, servers_of s ≤ 4096) ∷ []) 26 ((2 ≤ s.m) × (s.m ≤ s.n)) (λ r. r ≡ 0) (shape_refusal s) (refused-exactly.shape-refusal s)
    (λ e. omega arith, (λ e. omega arith, tt)) (λ e. omega arith, tt) (λ e. omega arith)

module _ (s : Shape) (a l x : ℕ) where
  parent_four : ((parent_answer s a l x).refusal ≡ plain 4) ↔ (Hold (shape_tests s) × ((a < servers_of s) × (x < servers_of s) → ⊥))
  parent_four =
      chain_means.number plain (shape_tests s) ((20, l ≤ s.k) ∷ (5, a ≢ x) ∷ []) 4 ((a < servers_of s) × (x < servers_of s)) (λ r. r ≡ none) (parent_answer s a l x).refusal (refused-exactly.parent-of s a l x)
      (other-numbers plain (shape_tests s) (plain 4) (λ n. refl) refl) (other-numbers plain ((20, l ≤ s.k) ∷ (5, a ≢ x) ∷ []) (plain 4) (λ n. refl) refl) (λ h. let z = ap (λ (r : Refusal). r.number) h in omega arith)

  twenty : ((parent_answer s a l x).refusal ≡ plain 20) ↔ (Hold (pair_tests s a x) × (l ≤ s.k → ⊥))
  twenty =
      chain_means.number plain (pair_tests s a x) ((5, a ≢ x) ∷ []) 20 (l ≤ s.k) (λ r. r ≡ none) (parent_answer s a l x).refusal (refused-exactly.parent-of s a l x)
      (other-numbers plain (pair_tests s a x) (plain 20) (λ n. refl) refl) (other-numbers plain ((5, a ≢ x) ∷ []) (plain 20) (λ n. refl) refl) (λ h. let z = ap (λ (r : Refusal). r.number) h in omega arith)

  parent_twenty : ((parent_answer s a l x).refusal ≡ plain 20) ↔ (Hold (pair_tests s a x) × (s.k < l))
  parent_twenty = (λ e. let w = twenty.0 e in let n = w.1 in (w.0, omega (arith, n)), λ w. twenty.1 (w.0, λ p. omega (arith, w.1)))

  five : ((parent_answer s a l x).refusal ≡ plain 5) ↔ (Hold (pair_tests s a x then (20, l ≤ s.k)) × (a ≢ x → ⊥))
  five =
      chain_means.number plain (pair_tests s a x then (20, l ≤ s.k)) [] 5 (a ≢ x) (λ r. r ≡ none) (parent_answer s a l x).refusal (refused-exactly.parent-of s a l x)
      (other-numbers plain (pair_tests s a x then (20, l ≤ s.k)) (plain 5) (λ n. refl) refl) tt (λ h. let z = ap (λ (r : Refusal). r.number) h in omega arith)

  parent_five : ((parent_answer s a l x).refusal ≡ plain 5) ↔ (Hold (pair_tests s a x) × (l ≤ s.k) × (a ≡ x))
  parent_five = (
    λ e. let w = five.0 e in
        let h = w.0 in
        let p = front (pair_tests s a x) ((20, l ≤ s.k) ∷ []) h in
        (p, h.1.1.1.1.1.0, elim (ℕ_discrete a x) [ yes q ↦ q | no q ↦ absurd (w.1 q) ]),
    λ w. let p = w.0 in five.1 ((p.0, (p.1.0, (p.1.1.0, (p.1.1.1.0, (p.1.1.1.1.0, (w.1, tt)))))), λ n. n w.2),
  )

thirty : (s : Shape) (t c : List ℕ) (a l : ℕ)
    → (link_answer s t c a l ≡ plain 30) ↔ (Hold (table_link_tests s t a l) × ((length c ≡ switch_total s) × EntryCounts s t c a l → ⊥))
thirty s t c a l =
    chain_means.number plain (table_link_tests s t a l) [] 30 ((length c ≡ switch_total s) × EntryCounts s t c a l) (λ r. r ≡ none) (link_answer s t c a l) (refused-exactly.mark_or_clear s t c a l)
    (other-numbers plain (table_link_tests s t a l) (plain 30) (λ n. refl) refl) tt (λ h. let z = ap (λ (r : Refusal). r.number) h in omega arith)

asked_thirty : (s : Shape) (t c : List ℕ) → ((dead_answer s t c).refusal ≡ plain 30) ↔ (Hold (table_tests s t) × (Summarizes s t c → ⊥))
asked_thirty s t c =
    chain_means.number plain (table_tests s t) [] 30 (Summarizes s t c) (λ r. r ≡ none) (dead_answer s t c).refusal (refused-exactly.dead-switch s t c)
    (other-numbers plain (table_tests s t) (plain 30) (λ n. refl) refl) tt (λ h. let z = ap (λ (r : Refusal). r.number) h in omega arith)

seven : (s : Shape) (t : List ℕ) (a d : ℕ) (bs : List ℕ) → (check_answer s t a d bs ≡ plain 7) ↔ (Hold (room_tests s t a d) × ((Arrays s bs × (1 ≤ length bs)) → ⊥))
seven s t a d bs =
    chain_means.number plain (room_tests s t a d) [] 7 (Arrays s bs × (1 ≤ length bs)) (Checks s t a d bs) (check_answer s t a d bs) (refused-exactly.check_list s t a d bs)
    (other-numbers plain (room_tests s t a d) (plain 7) (λ n. refl) refl) tt not-whole
  where
    not-whole : Checks s t a d bs (plain 7) → ⊥
    not-whole (inl h) = let z = ap (λ (r : Refusal). r.number) h.1 in omega arith
    not-whole (inr (inl h)) = let z = ap (λ (r : Refusal). r.route) h.here in omega arith
    not-whole (inr (inr h)) = let z = ap (λ (r : Refusal). r.number) h.here in omega arith

-- a chain that begins with a test of number 8 gives it only where this fails
eight-first : (i : ℕ) (P : Type 0) (later : Tests) → all (λ n. not (eqb n 8)) (numbers_of later) ≡ true → Refused (λ n. refused_at n 1 i) ((8, P) ∷ later) (λ r. r ≡ none) (refused_at 8 1 i) → P → ⊥
eight-first i P later u (inl h) p =
    let w = others (λ n. refused_at n 1 i) (λ r. r ≡ none) later (refused_at 8 1 i) (other-numbers (λ n. refused_at n 1 i) later (refused_at 8 1 i) (λ n. refl) u) h.1 in
    let z = ap (λ (r : Refusal). r.number) w.1 in omega arith
eight-first i P later u (inr h) p = h.0 p

module _ (s : Shape) (a b : ℕ) where
  -- a number of the hop's own tests is given where the server is right, and they give it
  means_hop : (n : ℕ) → all (λ m. not (eqb m n)) (1 ∷ 2 ∷ 26 ∷ 3 ∷ 4 ∷ []) ≡ true → ((hop_answer s a b).refusal ≡ refused_at n 1 1) ↔ (Hold (server_tests s a) × Refused (λ m. refused_at m 1 1) (hop_tests s a b) (λ r. r ≡ none) (refused_at n 1 1))
  means_hop n u =
      chain_means.otherwise plain (server_tests s a) (Refused (λ m. refused_at m 1 1) (hop_tests s a b) (λ r. r ≡ none)) (hop_answer s a b).refusal (refused_at n 1 1) (refused-exactly.hop_of s a b)
      (other-numbers plain (server_tests s a) (refused_at n 1 1) (λ m. refl) u)

  hop_eight : ((hop_answer s a b).refusal ≡ refused_at 8 1 1) ↔ (Hold (server_tests s a) × (s.k < level_of b))
  hop_eight = (
    λ q. let w = (means_hop 8 refl).0 q in
        let later : Tests = (9, value_of b < bound s (level_of b)) ∷ (10, digit s (level_of b) a ≢ value_of b) ∷ [] in
        let n = eight-first 1 (level_of b ≤ s.k) later refl w.1 in (w.0, omega (arith, n)),
    λ p. (means_hop 8 refl).1 (p.0, inr (λ h. omega (arith, p.1), refl)),
  )

  no_byte : Hold (server_tests s a) → 255 < b → (hop_answer s a b).refusal ≡ refused_at 8 1 1
  no_byte h p = let k = h.1.0 in hop_eight.1 (h, omega (arith, k))

  nine_byte : Refused (λ m. refused_at m 1 1) (hop_tests s a b) (λ r. r ≡ none) (refused_at 9 1 1) → (level_of b ≤ s.k) × (bound s (level_of b) ≤ value_of b)
  nine_byte (inr h) = let z = ap (λ (r : Refusal). r.number) h.1 in let n : ⊥ = omega arith in absurd n
  nine_byte (inl (p, inr h)) = let n = h.0 in (p, omega (arith, n))
  nine_byte (inl (p, inl (q, inl h))) = let z = ap (λ (r : Refusal). r.number) h.1 in let n : ⊥ = omega arith in absurd n
  nine_byte (inl (p, inl (q, inr h))) = let z = ap (λ (r : Refusal). r.number) h.1 in let n : ⊥ = omega arith in absurd n

  hop_nine : ((hop_answer s a b).refusal ≡ refused_at 9 1 1) ↔ (Hold (server_tests s a) × (level_of b ≤ s.k) × (bound s (level_of b) ≤ value_of b))
  hop_nine = (
    λ q. let w = (means_hop 9 refl).0 q in let v = nine_byte w.1 in (w.0, v.0, v.1),
    λ p. (means_hop 9 refl).1 (p.0, inl (p.1, inr (λ h. omega (arith, p.2), refl))),
  )

  ten_byte : Refused (λ m. refused_at m 1 1) (hop_tests s a b) (λ r. r ≡ none) (refused_at 10 1 1) → (level_of b ≤ s.k) × (value_of b < bound s (level_of b)) × (digit s (level_of b) a ≡ value_of b)
  ten_byte (inr h) = let z = ap (λ (r : Refusal). r.number) h.1 in let n : ⊥ = omega arith in absurd n
  ten_byte (inl (p, inr h)) = let z = ap (λ (r : Refusal). r.number) h.1 in let n : ⊥ = omega arith in absurd n
  ten_byte (inl (p, inl (q, inl h))) = let z = ap (λ (r : Refusal). r.number) h.1 in let n : ⊥ = omega arith in absurd n
  ten_byte (inl (p, inl (q, inr h))) =
      (p, q, elim (ℕ_discrete (digit s (level_of b) a) (value_of b)) [ yes e ↦ e | no n ↦ absurd (h.0 n) ])

  hop_ten : ((hop_answer s a b).refusal ≡ refused_at 10 1 1) ↔ (Hold (server_tests s a) × (level_of b ≤ s.k) × (value_of b < bound s (level_of b)) × (digit s (level_of b) a ≡ value_of b))
  hop_ten = (
    λ q. let w = (means_hop 10 refl).0 q in let v = ten_byte w.1 in (w.0, v.0, v.1, v.2),
    λ p. (means_hop 10 refl).1 (p.0, inl (p.1, inl (p.2, inr (λ n. n p.3, refl)))),
  )

module _ (s : Shape) (a d i : ℕ) (bs e : List ℕ) where
  abbrev eight_here : Refusal
  eight_here = refused_at 8 1 (i + 1)

  abbrev above : Type 0
  above = s.k < level_of (get_or bs i 0)

  eight-byte : Refused (λ n. refused_at n 1 (i + 1)) (step_tests s a e (get_or bs i 0)) (λ r. r ≡ none) eight_here → above
  eight-byte h =
      let later : Tests = (9, value_of (get_or bs i 0) < bound s (level_of (get_or bs i 0))) ∷ (10, digit s (level_of (get_or bs i 0)) a ≢ value_of (get_or bs i 0)) ∷ (19, flag_at e (get_or bs i 0) ≡ 1) ∷ [] in
      let n = eight-first (i + 1) (level_of (get_or bs i 0) ≤ s.k) later refl h in omega (arith, n)

  eight-away : Steps s a d i bs e eight_here → (a ≢ d) × (i < 8) × above
  eight-away (inl h) = let z = ap (λ (r : Refusal). r.number) h.1 in let n : ⊥ = omega arith in absurd n
  eight-away (inr h) = go h.1
    where
      go : Refused plain ((18, i < 8) ∷ []) (Refused (λ n. refused_at n 1 (i + 1)) (step_tests s a e (get_or bs i 0)) (λ r. r ≡ none)) eight_here → (a ≢ d) × (i < 8) × above
      go (inl k) = (h.0, k.0, eight-byte k.1)
      go (inr k) = let z = ap (λ (r : Refusal). r.number) k.1 in let n : ⊥ = omega arith in absurd n

  eight : ((step_answer s a d i bs e).refusal ≡ eight_here) ↔ (Hold (given_tests s a d bs e) × (a ≢ d) × (i < 8) × above)
  eight = (λ q. let w = means.0 q in let v = eight-away w.1 in (w.0, v.0, v.1, v.2), λ p. means.1 (p.0, inr (p.1, inl (p.2, inr (λ h. omega (arith, p.3), refl)))))
    where
      means : ((step_answer s a d i bs e).refusal ≡ eight_here) ↔ (Hold (given_tests s a d bs e) × Steps s a d i bs e eight_here)
      means = chain_means.otherwise plain (given_tests s a d bs e) (Steps s a d i bs e) (step_answer s a d i bs e).refusal eight_here (refused-exactly.step_once s a d i bs e) (other-numbers plain (given_tests s a d bs e) eight_here (λ n. refl) refl)

-- a hop fails with one of its tests' numbers
hop-among : (s : Shape) (t vs : List ℕ) (b m n : ℕ) → FailsWith (read_tests s t vs b) m → all (λ x. not (eqb x n)) (8 ∷ 9 ∷ 10 ∷ 11 ∷ 28 ∷ 29 ∷ []) ≡ true → m ≢ n
hop-among s t vs b m n k u =
    eqb-false m n (not-true _ (all-at (λ x. not (eqb x n)) (8 ∷ 9 ∷ 10 ∷ 11 ∷ 28 ∷ 29 ∷ []) m u (fails_in (read_tests s t vs b) m k)))

-- an array stops with 14 for a byte after its arrival, and never with 15
stops-fourteen : {s : Shape} {t : List ℕ} {a d : ℕ} {bs : List ℕ} {r : Refusal} (p : ℕ) → Stops s t a d bs r → r ≡ refused_at 14 1 (suc p) → FirstAfterArrival s t a d bs p
stops-fourteen {s} {t} p (hop_fails {vs} {b} {n = m} h k g) e = absurd (hop-among s t vs b m 14 k refl (ap (λ (x : Refusal). x.number) e))
stops-fourteen p (never_arrives h) e = let z = ap (λ (x : Refusal). x.number) e in let n : ⊥ = omega arith in absurd n
stops-fourteen {s} {t} {a} {d} {bs} p (goes_on {p = q} h) e = let z = ap (λ (x : Refusal). x.hop) e in let y : q ≡ p = omega arith in subst (FirstAfterArrival s t a d bs) y h

stops-fifteen : {s : Shape} {t : List ℕ} {a d : ℕ} {bs : List ℕ} {r : Refusal} → Stops s t a d bs r → r.number ≢ 15
stops-fifteen {s} {t} (hop_fails {vs} {b} {n = m} h k g) e = hop-among s t vs b m 15 k refl e
stops-fifteen (never_arrives h) e = omega arith
stops-fifteen (goes_on h) e = omega arith

fourteen : (s : Shape) (t : List ℕ) (a d : ℕ) (bs : List ℕ) (p : ℕ) → ((walk_answer s t a d bs).refusal ≡ refused_at 14 1 (suc p)) ↔ (Hold (array_tests s a d bs) × FirstAfterArrival s t a d bs p)
fourteen s t a d bs p = (λ q. let w = means.0 q in (w.0, go w.1), λ h. means.1 (h.0, inr (goes_on h.1)))
  where
    means : ((walk_answer s t a d bs).refusal ≡ refused_at 14 1 (suc p)) ↔ (Hold (array_tests s a d bs) × Reads s t a d bs (refused_at 14 1 (suc p)))
    means = chain_means.otherwise plain (array_tests s a d bs) (Reads s t a d bs) (walk_answer s t a d bs).refusal (refused_at 14 1 (suc p)) (refused-exactly.walk s t a d bs) (other-numbers plain (array_tests s a d bs) (refused_at 14 1 (suc p)) (λ n. refl) refl)

    go : Reads s t a d bs (refused_at 14 1 (suc p)) → FirstAfterArrival s t a d bs p
    go (inl h) = let z = ap (λ (x : Refusal). x.number) h.1 in let n : ⊥ = omega arith in absurd n
    go (inr h) = stops-fourteen p h refl

fifteen : (s : Shape) (t : List ℕ) (a d : ℕ) (bs : List ℕ) (i g j h : ℕ) → (let r = with_earlier i g (refused_at 15 j h) in (check_answer s t a d bs ≡ r) ↔ (Hold (check_tests s t a d bs) × FirstPair s t a d bs r))
fifteen s t a d bs i g j h = (λ q. let w = means.0 q in (w.0, go w.1), λ k. means.1 (k.0, inr (inr k.1)))
  where
    r : Refusal
    r = with_earlier i g (refused_at 15 j h)

    means : (check_answer s t a d bs ≡ r) ↔ (Hold (check_tests s t a d bs) × Checks s t a d bs r)
    means = chain_means.otherwise plain (check_tests s t a d bs) (Checks s t a d bs) (check_answer s t a d bs) r (refused-exactly.check_list s t a d bs) (other-numbers plain (check_tests s t a d bs) r (λ n. refl) refl)

    go : Checks s t a d bs r → FirstPair s t a d bs r
    go (inl k) = let z = ap (λ (x : Refusal). x.number) k.1 in let n : ⊥ = omega arith in absurd n
    go (inr (inl k)) = absurd (stops-fifteen k.stops (ap (λ (x : Refusal). x.number) (sym k.here)))
    go (inr (inr k)) = k

pub spelled_out : SpelledOut
spelled_out = record { twenty_six = twenty_six; parent_four = parent_four; parent_twenty = parent_twenty; parent_five = parent_five; thirty = thirty; asked_thirty = asked_thirty; seven = seven; eight = eight; hop_eight = hop_eight; no_byte = no_byte; hop_nine = hop_nine; hop_ten = hop_ten; fourteen = fourteen; twenty_eight = twenty_eight; twenty_nine = twenty_nine; write_twenty_eight = write_twenty_eight; write_twenty_nine = write_twenty_nine; fifteen = fifteen }
