-- What selection promises: all that it writes is accepted; 16 exactly when there is no route; with no built route broken the answer is
-- what building answers.
use Prim.Native.Nat.{ℕ, zero, suc, ◌+◌, ◌-◌, ◌*◌, ◌≤◌, ◌<◌, suc-le-suc, zero-le}
use mathlib.Core.Path.{◌≡◌, refl, sym, ap, ap₂, ◌∙◌, subst}
use mathlib.Core.Logic.{◌↔◌}
use mathlib.Core.List.Memᴰ
use mathlib.Core.List.{List, [], ◌∷◌, ◌++◌, map, append-nil, append_assoc}
use native.Mathlib.Omega.{arith}
use native.Mathlib.Nat.{le_of_suc-le-suc}
use native.Mathlib.Decide.{ℕ_discrete}
use lib.ListN.{length, get_or, replicate, length-append, length-map}
use lib.Seq.{append_snoc, take_at}
use Rattle.lists.specs.Lists.{filled, down_from}
use Rattle.refusals.specs.Refusals.{none}
use Rattle.refusals.proofs.AnswerLaws.{answer-none}
use Rattle.room.specs.declared.Shape.{Shape}
use Rattle.room.specs.Shapes.{Ends}
use Rattle.room.specs.Refusals.{ends_refusal}
use Rattle.room.proofs.RefusalLaws.{ends_none}
use Rattle.links.specs.Table.{room_refusal}
use Rattle.refusals.proofs.NumberLaws.{one-not}
use Rattle.links.proofs.NumberLaws.{room-numbers}
use Rattle.links.proofs.TableLaws.{room_of, live-zeros}
use Rattle.path.specs.Routes.{encode, RouteTo}
use Rattle.verdict.specs.Checks.{check_answer}
use Rattle.verdict.specs.Accepted.{encode_all, Accepted}
use Rattle.verdict.proofs.AcceptLaws.{encoded_long, of_accepted}
use Rattle.build.specs.Told.{Building}
use Rattle.build.specs.Built.{built_route, built_bytes, built_arrays}
use Rattle.build.specs.Sets.{joined, set_of, held}
use Rattle.build.specs.Answers.{build_answer, no_building, a_building}
use Rattle.build.proofs.BuiltLaws.{built-encode}
use Rattle.select.specs.Told.{Selection}
use Rattle.select.specs.Selection.{Unbroken, Slot, kept, replaced, nothing, SlotBySlot, selection, GivesRoutes, Selecting}
use Rattle.select.specs.Inside.{Settled}
use Rattle.select.proofs.AvoidedLaws.{lower, none-avoided}
use Rattle.select.proofs.SlotLaws.{member_at, all_settled}

-- ---- what is written

pub joined_encoded : (s : Shape) (vss : List (List ℕ)) → joined (map (encode s) vss) ≡ encode_all s vss
unfolding joined encode_all
joined_encoded s [] = refl
joined_encoded s (vs ∷ vss) = ap (λ (x : List ℕ). encode s vs ++ x) (joined_encoded s vss)

pub set-held : (s : Shape) (vss : List (List ℕ)) → ((i : ℕ) → i < length vss → length (get_or vss i []) ≤ 9) → held (set_of (map (encode s) vss)) ≡ encode_all s vss
unfolding set_of filled
set-held s vss few =
    take_at (joined (map (encode s) vss)) (replicate (32 - length (joined (map (encode s) vss))) 0) (8 * length (map (encode s) vss))
    (ap length (joined_encoded s vss) ∙ encoded_long s vss few ∙ ap (λ (m : ℕ). 8 * m) (sym (length-map vss (encode s))))
    ∙ joined_encoded s vss

-- ---- all that selection writes is accepted by checking

-- the answer with no refusal: its routes, at least one
pub record Gives (s : Shape) (t : List ℕ) (a d : ℕ) (r : Selection) : Type 0 where
  pub routes : List (List ℕ)
  pub some : 1 ≤ length routes
  pub settled : Settled s t a d 0 routes
  pub written : r.routes ≡ set_of (map (encode s) routes)
  pub slots : SlotBySlot s t a d (suc s.k) [] routes

given_by : {s : Shape} {t : List ℕ} {a d : ℕ} {r : Selection} (routes : List (List ℕ)) → SlotBySlot s t a d (suc s.k) [] routes → r ≡ selection s routes → Settled s t a d 0 routes → r.refusal.number ≡ 0 → Gives s t a d r
given_by [] c e h n = let z : ◌≡◌ {A = ℕ} 16 0 = sym (ap (λ (x : Selection). x.refusal.number) e) ∙ n in let w : ⊥ = omega arith in absurd w
given_by (vs ∷ vss) c e h n =
    record { routes = vs ∷ vss; some = suc-le-suc zero-le; settled = h; written = ap (λ (x : Selection). x.routes) e; slots = c }

no_refusal : {s : Shape} {t : List ℕ} {a d : ℕ} {r : Selection} → Selecting s t a d r → r.refusal.number ≡ 0 → room_refusal s t a d ≡ 0
no_refusal {s} {t} {a} {d} {r} h n =
    elim (ℕ_discrete (room_refusal s t a d) 0) [
      | yes e ↦ e
      | no e ↦ absurd (e (sym (ap (λ (x : Selection). x.refusal.number) (h.refused e)) ∙ n))
    ]

pub gives : {s : Shape} {t : List ℕ} {a d : ℕ} {r : Selection} → Selecting s t a d r → r.refusal.number ≡ 0 → Gives s t a d r
gives {s} {t} {a} {d} {r} h n =
    let e = no_refusal h n in
    let c = h.given e in
    given_by c.routes c.slots c.answer (all_settled t (room_of s t a d e).0 c.slots) n

pub gives_accepted : {s : Shape} {t : List ℕ} {a d : ℕ} {r : Selection} → Gives s t a d r → Accepted s t a d (held r.routes)
gives_accepted {s} {t} {a} {d} {r} g =
    record {
      routes = g.routes;
      some = g.some;
      most = omega (arith, g.settled.few);
      bytes = ap held g.written ∙ set-held s g.routes (λ i p. (g.settled.each (get_or g.routes i []) (member_at g.routes i p)).route.few);
      each = λ i p. g.settled.each (get_or g.routes i []) (member_at g.routes i p);
      apart = g.settled.apart;
    }

-- on every shape, table and pair: what selection writes is 1 to k + 1 routes over live links, every two parallel
pub selection_accepted : (s : Shape) (t : List ℕ) (a d : ℕ) (r : Selection) → Selecting s t a d r → r.refusal.number ≡ 0 → Accepted s t a d (held r.routes)
selection_accepted s t a d r h n = gives_accepted (gives h n)

-- and checking accepts it
pub selection_checked : (s : Shape) (t : List ℕ) (a d : ℕ) (r : Selection) → Selecting s t a d r → r.refusal.number ≡ 0 → check_answer s t a d (held r.routes) ≡ none
selection_checked s t a d r h n =
    of_accepted s t a d (held r.routes) (no_refusal h n) (selection_accepted s t a d r h n)

-- ---- 16 exactly when there is no route at all

-- settled routes stay, and what comes after them are the later slots' routes
pub record After (m : ℕ) (settled routes : List (List ℕ)) : Type 0 where
  pub rest : List (List ℕ)
  pub whole : routes ≡ settled ++ rest
  pub few : length rest ≤ m

slot-few : {s : Shape} {t : List ℕ} {a d i : ℕ} {settled given : List (List ℕ)} → Slot s t a d i settled given → length given ≤ 1
slot-few (kept u) = suc-le-suc zero-le
slot-few (replaced b r) = suc-le-suc zero-le
slot-few (nothing b r) = zero-le

pub slots-after : (s : Shape) (t : List ℕ) (a d : ℕ) (m : ℕ) {settled routes : List (List ℕ)} → SlotBySlot s t a d m settled routes → After m settled routes
slots-after s t a d zero {settled} e = record { rest = []; whole = sym e ∙ sym (append-nil settled); few = zero-le }
slots-after s t a d (suc i) {settled} c =
    let h = slots-after s t a d i c.2 in
    record {
      rest = c.0 ++ h.rest;
      whole = h.whole ∙ append_assoc settled c.0 h.rest;
      few = omega (arith, length-append c.0 h.rest, slot-few c.1, h.few);
    }

-- one slot of a selection: what it gives, with what the higher slots and the lower slots give
pub record At (s : Shape) (t : List ℕ) (a d m i : ℕ) (settled routes : List (List ℕ)) : Type 0 where
  pub higher : List (List ℕ)
  pub given : List (List ℕ)
  pub lowers : List (List ℕ)
  pub slot : Slot s t a d i (settled ++ higher) given
  pub whole : routes ≡ settled ++ higher ++ given ++ lowers
  pub few_higher : length higher + suc i ≤ m
  pub few-lower : length lowers ≤ i

pub slots_at : (s : Shape) (t : List ℕ) (a d : ℕ) (m : ℕ) {settled routes : List (List ℕ)} (i : ℕ) → i < m → SlotBySlot s t a d m settled routes → At s t a d m i settled routes
slots_at s t a d zero i p c = let z : ⊥ = omega arith in absurd z
slots_at s t a d (suc m) {settled} {routes} i p c =
    elim (ℕ_discrete i m) [
      | yes e ↦ here e
      | no e ↦ let h = slots_at s t a d m i (omega arith) c.2 in
          let f : length (c.0 ++ h.higher) + suc i ≤ suc m = omega (arith, length-append c.0 h.higher, slot-few c.1, h.few_higher) in
          let r : settled ++ c.0 ++ h.higher ≡ settled ++ (c.0 ++ h.higher) = append_assoc settled c.0 h.higher in
          record {
            higher = c.0 ++ h.higher;
            given = h.given;
            lowers = h.lowers;
            slot = subst (λ (x : List (List ℕ)). Slot s t a d i x h.given) r h.slot;
            whole = h.whole ∙ ap (λ (x : List (List ℕ)). x ++ h.given ++ h.lowers) r;
            few_higher = f;
            few-lower = h.few-lower;
          }
    ]
  where
    here : i ≡ m → At s t a d (suc m) i settled routes
    here e =
        let h = slots-after s t a d m c.2 in
        let q : settled ++ [] ≡ settled = append-nil settled in
        record {
          higher = [];
          given = c.0;
          lowers = h.rest;
          slot = subst (λ (j : ℕ). Slot s t a d j (settled ++ []) c.0) (sym e) (subst (λ (x : List (List ℕ)). Slot s t a d m x c.0) (sym q) c.1);
          whole = h.whole ∙ ap (λ (x : List (List ℕ)). x ++ c.0 ++ h.rest) (sym q);
          few_higher = omega arith;
          few-lower = omega (arith, h.few);
        }

-- where no route comes out, slot 0 found nothing
first-none : (s : Shape) (t : List ℕ) (a d : ℕ) → At s t a d (suc s.k) 0 [] [] → (vs : List ℕ) → RouteTo s t a d vs → ⊥
first-none s t a d h = go h.higher h.given h.lowers h.slot h.whole
  where
    go : (higher given lowers : List (List ℕ)) → Slot s t a d 0 ([] ++ higher) given → [] ≡ [] ++ higher ++ given ++ lowers → (vs : List ℕ) → RouteTo s t a d vs → ⊥
    go [] [] lowers (nothing b r) e vs v = r vs v (none-avoided s t a d vs)
    go [] (x ∷ given) lowers h e vs v = let z : ⊥ = omega (arith, ap length e) in absurd z
    go (x ∷ higher) given lowers h e vs v = let z : ⊥ = omega (arith, ap length e) in absurd z

-- 16 only where nothing else is refused
pub sixteen-only : (s : Shape) (t : List ℕ) (a d : ℕ) (r : Selection) → Selecting s t a d r → r.refusal.number ≡ 16 → room_refusal s t a d ≡ 0
sixteen-only s t a d r h n =
    elim (ℕ_discrete (room_refusal s t a d) 0) [
      | yes e ↦ e
      | no e ↦ absurd (one-not 16 refl refl (room-numbers s t a d) (sym (ap (λ (x : Selection). x.refusal.number) (h.refused e)) ∙ n))
    ]

none-sixteen : (s : Shape) (routes : List (List ℕ)) → (selection s routes).refusal.number ≡ 16 → routes ≡ []
none-sixteen s [] e = refl
none-sixteen s (vs ∷ vss) e = let z : ⊥ = omega arith in absurd z

-- where nothing else is refused: 16 exactly when no route at all, of eight hops or fewer, crosses only live links
pub none-selected-exactly : (s : Shape) (t : List ℕ) (a d : ℕ) (r : Selection) → room_refusal s t a d ≡ 0 → Selecting s t a d r → (r.refusal.number ≡ 16) ↔ ((vs : List ℕ) → RouteTo s t a d vs → ⊥)
none-selected-exactly s t a d r e h = (there, back c.routes c.answer (all_settled t (room_of s t a d e).0 c.slots))
  where
    c : GivesRoutes s t a d r
    c = h.given e

    there : r.refusal.number ≡ 16 → (vs : List ℕ) → RouteTo s t a d vs → ⊥
    there n =
        let q : c.routes ≡ [] = none-sixteen s c.routes (sym (ap (λ (x : Selection). x.refusal.number) c.answer) ∙ n) in
        first-none s t a d (slots_at s t a d (suc s.k) 0 (suc-le-suc zero-le) (subst (SlotBySlot s t a d (suc s.k) []) q c.slots))

    back : (routes : List (List ℕ)) → r ≡ selection s routes → Settled s t a d 0 routes → ((vs : List ℕ) → RouteTo s t a d vs → ⊥) → r.refusal.number ≡ 16
    back [] q k f = ap (λ (x : Selection). x.refusal.number) q
    back (vs ∷ vss) q k f = absurd (f vs (k.each vs (Memᴰ.head refl)))

-- ---- a slot whose built route has no failed link gives that

unbroken_kept : {s : Shape} {t : List ℕ} {a d i : ℕ} {settled given : List (List ℕ)} → Unbroken s t (built_route s i a d) → Slot s t a d i settled given → given ≡ built_route s i a d ∷ []
unbroken_kept u (kept v) = refl
unbroken_kept u (replaced b r) = absurd (b u)
unbroken_kept u (nothing b r) = absurd (b u)

-- ---- with no built route broken, selection answers what building answers

all_unbroken : (s : Shape) (t : List ℕ) (a d : ℕ) (m : ℕ) (settled routes : List (List ℕ)) → ((i : ℕ) → i < m → Unbroken s t (built_route s i a d)) → SlotBySlot s t a d m settled routes → routes ≡ settled ++ lower s a d m
all_unbroken s t a d zero settled routes u e = sym e ∙ sym (append-nil settled)
all_unbroken s t a d (suc i) settled routes u c =
    all_unbroken s t a d i (settled ++ c.0) routes (λ j p. u j (omega arith)) c.2
    ∙ ap (λ (x : List (List ℕ)). settled ++ x ++ lower s a d i) (unbroken_kept (u i (omega arith)) c.1)
    ∙ append_snoc settled (built_route s i a d) (lower s a d i)

encode-lower : {s : Shape} {a d : ℕ} → Ends s a d → (m : ℕ) → m ≤ suc s.k → map (encode s) (lower s a d m) ≡ map (λ (i : ℕ). built_bytes s i a d) (down_from m)
encode-lower h zero p = refl
encode-lower {s} {a} {d} h (suc i) p =
    ap₂ (λ (x : List ℕ) (y : List (List ℕ)). x ∷ y) (built-encode s a d h.source h.destination h.differ i (le_of_suc-le-suc p)) (encode-lower h i (omega arith))

pub unbroken_built : (s : Shape) (t : List ℕ) (a d : ℕ) (r : Selection) → room_refusal s t a d ≡ 0 → Selecting s t a d r → ((i : ℕ) → i ≤ s.k → Unbroken s t (built_route s i a d)) → (r.refusal ≡ (build_answer s a d).refusal) × (r.routes ≡ (build_answer s a d).routes)
unfolding build_answer built_arrays
unbroken_built s t a d r e h u =
    let c = h.given e in
    let ends = (room_of s t a d e).0 in
    let n = answer-none (ends_refusal s a d) no_building (a_building (set_of (built_arrays s a d))) (ends_none ends) in
    let q : c.routes ≡ lower s a d (suc s.k) = all_unbroken s t a d (suc s.k) [] c.routes (λ i p. u i (le_of_suc-le-suc p)) c.slots in
    let w : r ≡ selection s (lower s a d (suc s.k)) = c.answer ∙ ap (selection s) q in (
      ap (λ (x : Selection). x.refusal) w ∙ ap (λ (x : Building). x.refusal) (sym n),
      ap (λ (x : Selection). x.routes) w ∙ ap set_of (encode-lower ends (suc s.k) (omega arith)) ∙ ap (λ (x : Building). x.routes) (sym n),
    )

-- and so with no failed link
pub no_failed_built : (s : Shape) (m : ℕ) (a d : ℕ) (r : Selection) → room_refusal s (replicate m 0) a d ≡ 0 → Selecting s (replicate m 0) a d r → (r.refusal ≡ (build_answer s a d).refusal) × (r.routes ≡ (build_answer s a d).routes)
no_failed_built s m a d r e h = unbroken_built s (replicate m 0) a d r e h (λ i p. record { alive = λ j q. live-zeros m _ _ _ })
