-- Why and where reading an array stops, proved.
use Prim.Native.Nat.{ℕ, zero, suc, ◌+◌, ◌-◌, ◌≤◌, ◌<◌, suc-le-suc, zero-le}
use mathlib.Core.Path.{◌≡◌, refl, sym, ap, ap₂, ◌∙◌, subst}
use mathlib.Core.Logic.{◌≢◌, inl, inr}
use mathlib.Core.List.{List, [], ◌∷◌, ◌++◌}
use native.Mathlib.Omega.{arith}
use native.Mathlib.Nat.{add-zero, le_of_suc-le-suc}
use native.Mathlib.Decide.{ℕ_discrete}
use lib.ListN.{length, get_or, length-append}
use lib.Seq.{append_snoc, get_or-append-add, get_or-append_seam}
use borrow.Author.Tests.{eq-eqb, ne_eqb}
use Rattle.lists.specs.Lists.{in_turn}
use Rattle.lists.proofs.ListLaws.{length_snoc, snoc_last, snoc_at, turn_snoc, length_turn}
use Rattle.refusals.specs.Refusals.{Refusal, refused_at, with_earlier}
use Rattle.refusals.proofs.AnswerLaws.{answer-none}
use Rattle.room.specs.declared.Shape.{Shape}
use Rattle.room.specs.Shapes.{Server, Ends}
use Rattle.path.specs.Routes.{switch_at, switch_to, byte_to, switches_of, Prefix, RouteTo, level_of}
use Rattle.path.specs.Walks.{Walk, stopped, arrived, hop_to, stops_at, fault, ended, walk_from, walk}
use Rattle.path.specs.Answers.{walked, walk_answer}
use Rattle.path.proofs.HopLaws.{hop-byte, hop-switch}
use Rattle.path.proofs.CodecLaws.{array-none, same_stop, number_of, arrived_encodes, encodes_walk}
use Rattle.path.proofs.NumberLaws.{fault-met, fault_used}
use Rattle.path.proofs.RouteLaws.{prefix_route, prefix_one, prefix_snoc, Step, switches_snoc, fault-step, walk_refused, walk-arrives, walk-goes, walk-there, walk-to}
use Rattle.demands.specs.Refusals.{end_of, read_tests, Along, Stops, hop_fails, never_arrives, goes_on, Reads}
use Rattle.demands.proofs.Chains.{fails, failing}
use Rattle.demands.proofs.Numbers.{read_number}
use Rattle.demands.proofs.Meetings.{earlier_is, is_earlier}

unlike : {A : Type 0} {vs ws : List ℕ} {r : Refusal} → arrived vs ws ≡ stopped r → A
unlike e = let z : ◌≡◌ {A = ℕ} 0 1 = cc in let n : ⊥ = omega arith in absurd n

-- ---- what a walk that stops says

-- on the way at server x after h hops
record Going (s : Shape) (t : List ℕ) (a d : ℕ) (bs vs : List ℕ) (x : ℕ) (left : List ℕ) (h : ℕ) : Type 0 where
  along : Along s t a d bs vs left
  here : end_of vs ≡ x
  met : length vs ≡ suc h

module _ {s : Shape} {t : List ℕ} {a d : ℕ} {bs vs : List ℕ} {x b : ℕ} {left : List ℕ} {h : ℕ} (g : Going s t a d bs vs x (b ∷ left) h) (y : fault s t vs (switches_of s vs) x b ≡ 0) where
  abbrev next : ℕ
  next = hop_to s x b

  abbrev on : List ℕ
  on = vs ++ (next ∷ [])

  server : Server s x
  server = subst (Server s) g.here (g.along.way.servers (length vs - 1) (omega (arith, g.along.way.some)))

  on_used : switches_of s on ≡ switches_of s vs ++ (switch_at s (level_of b) x ∷ [])
  on_used =
      switches_snoc s vs next g.along.way.some
      ∙ ap (λ (z : ℕ). switches_of s vs ++ (switch_to s z next ∷ [])) g.here
      ∙ ap (λ (z : ℕ). switches_of s vs ++ (z ∷ [])) (hop-switch server b (fault-step server t vs b y).0)

  on_way : Prefix s t on
  on_way = prefix_snoc vs next g.along.way (subst (λ (z : ℕ). Step s t vs z next) (sym g.here) (fault-step server t vs b y).1)

  on_source : get_or on 0 0 ≡ a
  on_source = snoc_at vs next 0 g.along.way.some ∙ g.along.source

  on_bytes : bs ≡ in_turn (byte_to s) on ++ left
  on_bytes =
      g.along.bytes
      ∙ sym (
      ap (λ (l : List ℕ). l ++ left) (turn_snoc (byte_to s) vs next g.along.way.some)
      ∙ ap (λ (z : ℕ). in_turn (byte_to s) vs ++ (z ∷ []) ++ left) (ap (λ (z : ℕ). byte_to s z next) g.here ∙ hop-byte server b (fault-step server t vs b y).0)
      ∙ append_snoc (in_turn (byte_to s) vs) b left)

  on_long : length on ≡ suc (suc h)
  on_long = length_snoc vs next ∙ ap suc g.met

  on_going : next ≢ d → Going s t a d bs on next left (h + 1)
  on_going n =
      record {
        along = record { way = on_way; source = on_source; away = away; bytes = on_bytes };
        here = snoc_last vs next;
        met = omega (arith, on_long);
      }
    where
      away : (i : ℕ) → i < length on → get_or on i 0 ≢ d
      away i p e =
          elim (ℕ_discrete i (length vs)) [
            | yes z ↦ n (sym (get_or-append_seam vs next [] 0) ∙ ap (λ (k : ℕ). get_or on k 0) (sym z) ∙ e)
            | no z ↦ let q : i < length vs = omega (arith, length_snoc vs next) in g.along.away i q (sym (snoc_at vs next i q) ∙ e)
          ]

  on_route : next ≡ d → length bs ≡ 8 → RouteTo s t a d on
  on_route z l =
      record { route = prefix_route on_way (omega (arith, on_long)) (omega (arith, on_long, l, count)); source = on_source; arrives = snoc_last vs next ∙ z }
    where
      count : length bs ≡ length on - 1 + length left
      count = ap length on_bytes ∙ length-append (in_turn (byte_to s) on) left ∙ ap (λ (k : ℕ). k + length left) (length_turn (byte_to s) on)

-- after arrival: the first byte that is not zero
ended_why : (h : ℕ) (met used left : List ℕ) (r : Refusal) → ended h met used left ≡ stopped r → (m : ℕ) × (refused_at 14 1 (suc (h + m)) ≡ r) × (get_or left m 0 ≢ 0) × ((j : ℕ) → j < m → get_or left j 0 ≡ 0)
unfolding ended
ended_why h met used [] r e = unlike e
ended_why h met used (b ∷ left) r e =
    elim (ℕ_discrete b 0) [
      | yes y ↦ let w = ended_why (h + 1) met used left r (rw (eq-eqb b 0 y) at e) in
          (suc w.0, ap (λ (k : ℕ). refused_at 14 1 (suc k)) (let z : h + suc w.0 ≡ h + 1 + w.0 = omega arith in z) ∙ w.1, w.2, before y w.3)
      | no n ↦ (0, ap (refused_at 14 1) (let z : suc (h + 0) ≡ h + 1 = omega arith in z) ∙ same_stop (rw (ne_eqb b 0 n) at e), n, λ j k. absurd (let z : ⊥ = omega arith in z))
    ]
  where
    before : {m : ℕ} → b ≡ 0 → ((j : ℕ) → j < m → get_or left j 0 ≡ 0) → (j : ℕ) → j < suc m → get_or (b ∷ left) j 0 ≡ 0
    before y f zero k = y
    before y f (suc j) k = f j (le_of_suc-le-suc k)

ended-stops : (h : ℕ) (met used left : List ℕ) (m : ℕ) → get_or left m 0 ≢ 0 → ((j : ℕ) → j < m → get_or left j 0 ≡ 0) → ended h met used left ≡ stopped (refused_at 14 1 (suc (h + m)))
unfolding ended
ended-stops h met used [] m n z = absurd (n refl)
ended-stops h met used (b ∷ left) zero n z = rw (ne_eqb b 0 n, add-zero h) (ap (λ (x : ℕ). stopped (refused_at 14 1 x)) (let e : h + 1 ≡ suc h = omega arith in e))
ended-stops h met used (b ∷ left) (suc m) n z =
    rw (eq-eqb b 0 (z zero (suc-le-suc zero-le)))
    (ended-stops (h + 1) met used left m n (λ j k. z (suc j) (suc-le-suc k)) ∙ ap (λ (x : ℕ). stopped (refused_at 14 1 x)) (let e : suc (h + 1 + m) ≡ suc (h + suc m) = omega arith in e))

-- a place past the hops of a way
past : (f : ℕ → ℕ → ℕ) (bs vs left : List ℕ) (j : ℕ) → bs ≡ in_turn f vs ++ left → length vs - 1 ≤ j → get_or bs j 0 ≡ get_or left (j - (length vs - 1)) 0
past f bs vs left j e h =
    let k : j ≡ length (in_turn f vs) + (j - (length vs - 1)) = omega (arith, length_turn f vs) in
    ap₂ (λ (l : List ℕ) (i : ℕ). get_or l i 0) e k ∙ get_or-append-add (in_turn f vs) left (j - (length vs - 1)) 0

walk_why : (s : Shape) (t : List ℕ) (a d : ℕ) (bs vs : List ℕ) (x : ℕ) (left : List ℕ) (h : ℕ) (r : Refusal) → length bs ≡ 8 → Going s t a d bs vs x left h → walk_from s t d h vs (switches_of s vs) x left ≡ stopped r → Stops s t a d bs r
unfolding walk_from
walk_why s t a d bs vs x [] h r l g e = subst (Stops s t a d bs) (same_stop e) (never_arrives g.along)
walk_why s t a d bs vs x (b ∷ left) h r l g e =
    elim (ℕ_discrete (fault s t vs (switches_of s vs) x b) 0) [
      | no n ↦ subst (Stops s t a d bs) (refused n)
          (hop_fails g.along (failing (λ z. z) (read_tests s t vs b) (failed_with (end_of vs)) refl (read_number s t vs b) (λ z. n (sym (ap failed_with g.here) ∙ z)))
          (is_earlier _ _ (failed_with (end_of vs)) (fault-met s t vs (switches_of s vs) (end_of vs) b) (fault_used s t vs (switches_of s vs) (end_of vs) b)))
      | yes y ↦ elim (ℕ_discrete (hop_to s x b) d) [
        | yes z ↦ after y z (ended_why (h + 1) _ _ left r (sym (walk-arrives s t d h vs (switches_of s vs) x b left y z) ∙ e))
        | no z ↦ walk_why s t a d bs (on g y) (hop_to s x b) left (h + 1) r l (on_going g y z)
            (ap (λ (u : List ℕ). walk_from s t d (h + 1) (vs ++ (hop_to s x b ∷ [])) u (hop_to s x b) left) (on_used g y) ∙ sym (walk-goes s t d h vs (switches_of s vs) x b left y z) ∙ e)
      ]
    ]
  where
    -- what refuses the byte from server z
    failed_with : ℕ → ℕ
    failed_with z = fault s t vs (switches_of s vs) z b

    refused : failed_with x ≢ 0 → stops_at (failed_with (end_of vs)) (length vs) vs (switches_of s vs) (hop_to s (end_of vs) b) (switch_at s (level_of b) (end_of vs)) ≡ r
    refused n =
        ap₂ (λ (z k : ℕ). stops_at (failed_with z) k vs (switches_of s vs) (hop_to s z b) (switch_at s (level_of b) z)) g.here (let k : length vs ≡ h + 1 = omega (arith, g.met) in k)
        ∙ same_stop (sym (walk_refused s t d h vs (switches_of s vs) x b left n) ∙ e)

    after : (y : fault s t vs (switches_of s vs) x b ≡ 0) → hop_to s x b ≡ d → (m : ℕ) × (refused_at 14 1 (suc (h + 1 + m)) ≡ r) × (get_or left m 0 ≢ 0) × ((j : ℕ) → j < m → get_or left j 0 ≡ 0) → Stops s t a d bs r
    after y z w =
        subst (Stops s t a d bs) w.1
        (goes_on (record {
          servers = on g y;
          left = left;
          route = on_route g y z l;
          bytes = on_bytes g y;
          arrived = omega (arith, on_long g y);
          zeros = λ j p k. past (byte_to s) bs (on g y) left j (on_bytes g y) p ∙ w.3 (j - (length (on g y) - 1)) (omega (arith, on_long g y));
          here = λ k. w.2 (sym (past (byte_to s) bs (on g y) left (h + 1 + w.0) (on_bytes g y) (omega (arith, on_long g y)) ∙ ap (λ (i : ℕ). get_or left i 0) (let i : h + 1 + w.0 - (length (on g y) - 1) ≡ w.0 = omega (arith, on_long g y) in i)) ∙ k);
        }))

-- at the source
start : {s : Shape} {a d : ℕ} (t bs : List ℕ) → Server s a → a ≢ d → Going s t a d bs (a ∷ []) a bs 0
unfolding in_turn
start {s} {a} {d} t bs h n =
    record { along = record { way = prefix_one t h; source = refl; away = away; bytes = refl }; here = refl; met = refl }
  where
    away : (i : ℕ) → i < 1 → get_or (a ∷ []) i 0 ≢ d
    away zero p = n
    away (suc i) p = let z : ⊥ = omega arith in absurd z

module _ {s : Shape} {a d : ℕ} (t bs : List ℕ) (ends : Ends s a d) (l : length bs ≡ 8) where
  walk-stops : (r : Refusal) → walk s t a d bs ≡ stopped r → Stops s t a d bs r
  unfolding walk switches_of in_turn
  walk-stops r e = walk_why s t a d bs (a ∷ []) a bs 0 r l (start t bs ends.source ends.differ) e

  pub walk-answer : walk_answer s t a d bs ≡ walked (walk s t a d bs)
  unfolding walk_answer
  walk-answer = answer-none _ _ _ (array-none bs ends l)

  -- what a walk comes to
  pub walk_reads : Reads s t a d bs (walked (walk s t a d bs)).refusal
  walk_reads = go (walk s t a d bs) refl
    where
      go : (w : Walk) → walk s t a d bs ≡ w → Reads s t a d bs (walked w).refusal
      go (stopped r) e = inr (walk-stops r e)
      go (arrived vs ws) e = inl (arrived_encodes t bs ends l (ap number_of e), refl)

-- ---- and back: a walk over the bytes of a way

walk_on : {s : Shape} {t : List ℕ} {a d : ℕ} {bs vs left : List ℕ} → Along s t a d bs vs left → walk s t a d bs ≡ walk_from s t d (length vs - 1) vs (switches_of s vs) (end_of vs) left
walk_on {s} {t} {a} {d} {bs} {vs} {left} h = ap (walk s t a d) h.bytes ∙ walk-there vs left h.way h.source h.away

walk-over : (s : Shape) (t : List ℕ) (d h : ℕ) (met used : List ℕ) (x : ℕ) → walk_from s t d h met used x [] ≡ stopped (refused_at 13 1 8)
unfolding walk_from
walk-over s t d h met used x = refl

-- a walk stops as it is said to
pub stops-walk : {s : Shape} {t : List ℕ} {a d : ℕ} {bs : List ℕ} {r : Refusal} → Stops s t a d bs r → (walk s t a d bs ≡ stopped r) × (r.number ≢ 0)
stops-walk {s} {t} {a} {d} {bs} (hop_fails {vs} {b} {left} {n} h k e) =
    let f = fault s t vs (switches_of s vs) (end_of vs) b in
    let w = fails (λ z. z) (read_tests s t vs b) f n refl (read_number s t vs b) k in
    let z : length vs - 1 + 1 ≡ length vs = omega (arith, h.way.some) in (
      walk_on h
          ∙ walk_refused s t d (length vs - 1) vs (switches_of s vs) (end_of vs) b left w.0
          ∙ ap₂ (λ (x y : ℕ). stopped (stops_at x y vs (switches_of s vs) (hop_to s (end_of vs) b) (switch_at s (level_of b) (end_of vs)))) (sym w.1) z
          ∙ ap (λ (x : ℕ). stopped (with_earlier 0 x (refused_at n 1 (length vs)))) (sym (earlier_is h.way.servers_once h.way.switches_once e)),
      λ y. w.0 (sym w.1 ∙ y),
    )
stops-walk {s} {t} {a} {d} {bs} (never_arrives {vs} h) = (walk_on h ∙ walk-over s t d (length vs - 1) vs (switches_of s vs) (end_of vs), λ z. omega arith)
stops-walk {s} {t} {a} {d} {bs} (goes_on {p} h) =
    let m = p - (length h.servers - 1) in (
      ap (walk s t a d) h.bytes ∙ walk-to h.servers h.left h.route
          ∙ ended-stops (length h.servers - 1) h.servers (switches_of s h.servers) h.left m
          (λ z. h.here (past (byte_to s) bs h.servers h.left p h.bytes h.arrived ∙ z))
          (λ j k. let i = length h.servers - 1 + j in
          ap (λ (x : ℕ). get_or h.left x 0) (let z : j ≡ i - (length h.servers - 1) = omega arith in z)
          ∙ sym (past (byte_to s) bs h.servers h.left i h.bytes (omega arith))
          ∙ h.zeros i (omega arith) (omega arith))
          ∙ ap (λ (x : ℕ). stopped (refused_at 14 1 (suc x))) (let z : length h.servers - 1 + m ≡ p = omega (arith, h.arrived) in z),
      λ z. omega arith,
    )

-- what reading comes to is what the walk answers
pub reads_walk : {s : Shape} {t : List ℕ} {a d : ℕ} {bs : List ℕ} {r : Refusal} → Reads s t a d bs r → (walked (walk s t a d bs)).refusal ≡ r
reads_walk (inl h) = ap (λ (w : Walk). (walked w).refusal) (encodes_walk h.0.1) ∙ sym h.1
reads_walk (inr h) = ap (λ (x : Walk). (walked x).refusal) (stops-walk h).0
