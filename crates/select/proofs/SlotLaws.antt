-- What stands settled, slot after slot.
use Prim.Native.Nat.{ℕ, zero, suc, ◌≤◌, ◌<◌}
use mathlib.Core.Path.{◌≡◌, refl, sym, ap, ◌∙◌, subst}
use mathlib.Core.Logic.{⊎_elim}
use mathlib.Core.List.Memᴰ
use mathlib.Core.List.{List, [], ◌∷◌, ◌++◌, append-nil, Memᴰ as In}
use native.Mathlib.Omega.{arith}
use native.Mathlib.Decide.{ℕ_discrete}
use lib.ListN.{length, get_or, get_or-append}
use lib.Seq.{get_or-append_seam}
use Rattle.lists.proofs.ListLaws.{length_snoc}
use Rattle.room.specs.declared.Shape.{Shape}
use Rattle.room.specs.Shapes.{Ends}
use Rattle.path.specs.Routes.{RouteTo, Parallel}
use Rattle.path.proofs.ReverseLaws.{parallel_sym, route-to-plain}
use Rattle.build.specs.Built.{built_route}
use Rattle.build.proofs.BuiltLaws.{built-route, built-parallel}
use Rattle.laying.proofs.LaidLaws.{route-over}
use Rattle.select.specs.Avoided.{avoided}
use Rattle.select.specs.Selection.{Unbroken, Slot, kept, replaced, nothing, SlotBySlot}
use Rattle.select.specs.Inside.{Settled}
use Rattle.select.proofs.AvoidedLaws.{avoided-from, avoids-settled, avoids-lower}

-- a built route without a failed link is a route over live links
pub unbroken_route : {s : Shape} {t : List ℕ} {a d : ℕ} {vs : List ℕ} → RouteTo s [] a d vs → Unbroken s t vs → RouteTo s t a d vs
unbroken_route r h = route-over r h.alive

-- what is at a place of a list is in it
pub member_at : (vss : List (List ℕ)) (i : ℕ) → i < length vss → In (get_or vss i []) vss
member_at [] i h = let z : ⊥ = omega arith in absurd z
member_at (vs ∷ vss) zero h = In.head refl
member_at (vs ∷ vss) (suc i) h = In.tail (member_at vss i (omega arith))

-- nothing settled yet
pub settled-none : (s : Shape) (t : List ℕ) (a d : ℕ) → Settled s t a d (suc s.k) []
settled-none s t a d =
    record {
      each = λ vs m. absurd (Memᴰ.not-nil m);
      apart = λ j m p q. absurd (let z : ⊥ = omega arith in z);
      clear = λ vs m. absurd (Memᴰ.not-nil m);
      few = omega arith;
    }

-- a slot that gives nothing
settled_skip : {s : Shape} {t : List ℕ} {a d i : ℕ} {routes : List (List ℕ)} → Settled s t a d (suc i) routes → Settled s t a d i routes
settled_skip h =
    record { each = h.each; apart = h.apart; clear = λ vs m j q. h.clear vs m j (omega arith); few = omega (arith, h.few) }

module _ {s : Shape} {t : List ℕ} {a d i : ℕ} {routes : List (List ℕ)} (h : Settled s t a d (suc i) routes) (vs : List ℕ) where
  more_in : (j : ℕ) → j < length routes → get_or (routes ++ (vs ∷ [])) j [] ≡ get_or routes j []
  more_in j p = get_or-append routes (vs ∷ []) [] j p

  more_end : (j : ℕ) → j ≡ length routes → get_or (routes ++ (vs ∷ [])) j [] ≡ vs
  more_end j e = ap (λ (m : ℕ). get_or (routes ++ (vs ∷ [])) m []) e ∙ get_or-append_seam routes vs [] []

  -- what holds of the routes and of one more
  of_more : (P : List ℕ → Type 0) → ((us : List ℕ) → In us routes → P us) → P vs → (us : List ℕ) → In us (routes ++ (vs ∷ [])) → P us
  of_more P f p us m = ⊎_elim (λ n. f us n) (λ n. subst P (sym (Memᴰ.eq_of_singleton n)) p) (Memᴰ.append_cases routes m)

  -- a slot that gives a route
  settled_more : RouteTo s t a d vs → ((us : List ℕ) → In us routes → Parallel s us vs) → ((m : ℕ) → m < i → Unbroken s t (built_route s m a d) → Parallel s vs (built_route s m a d)) → Settled s t a d i (routes ++ (vs ∷ []))
  settled_more r before after =
      record {
        each = of_more (RouteTo s t a d) h.each r;
        apart = λ j m p q.
            let w : j < length routes = omega (arith, length_snoc routes vs) in
            elim (ℕ_discrete m (length routes)) [
              | yes e ↦ rw (more_in j w, more_end m e) (before (get_or routes j []) (member_at routes j w))
              | no e ↦ let v : m < length routes = omega (arith, length_snoc routes vs) in rw (more_in j w, more_in m v) (h.apart j m p v)
            ];
        clear = of_more (λ us. (m : ℕ) → m < i → Unbroken s t (built_route s m a d) → Parallel s us (built_route s m a d)) (λ us n m q. h.clear us n m (omega arith)) after;
        few = omega (arith, h.few, length_snoc routes vs);
      }

-- ---- slot after slot

module _ {s : Shape} {a d : ℕ} (t : List ℕ) (ends : Ends s a d) where
  pub built-to : (i : ℕ) → i ≤ s.k → RouteTo s [] a d (built_route s i a d)
  built-to i p = built-route s a d ends.source ends.destination ends.differ i p

  pub slot-settled : {i : ℕ} {settled given : List (List ℕ)} → Settled s t a d (suc i) settled → Slot s t a d i settled given → Settled s t a d i (settled ++ given)
  slot-settled {i} {settled} h (kept u) =
      let p : i ≤ s.k = omega (arith, h.few) in
      settled_more h (built_route s i a d) (unbroken_route (built-to i p) u) (λ us m. h.clear us m i (omega arith) u)
      (λ m q w. built-parallel s a d ends.source ends.destination ends.differ i m p (omega arith) (λ e. omega arith))
  slot-settled {i} {settled} h (replaced {vs} b r) =
      settled_more h vs r.route (λ us m. parallel_sym (avoids-settled s t a d i settled r.avoids m)) (avoids-lower s t a d i settled r.avoids)
  slot-settled {i} {settled} h (nothing b r) = rw (append-nil settled) (settled_skip h)

  slots-settled : (m : ℕ) {settled routes : List (List ℕ)} → Settled s t a d m settled → SlotBySlot s t a d m settled routes → Settled s t a d 0 routes
  slots-settled zero h e = subst (Settled s t a d 0) e h
  slots-settled (suc i) h c = slots-settled i (slot-settled h c.1) c.2

  -- the routes of all slots, every two parallel
  pub all_settled : {routes : List (List ℕ)} → SlotBySlot s t a d (suc s.k) [] routes → Settled s t a d 0 routes
  all_settled c = slots-settled (suc s.k) (settled-none s t a d) c

  -- what a slot avoids are routes of the room
  pub avoided-routes : {i : ℕ} {settled : List (List ℕ)} → Settled s t a d (suc i) settled → (vs : List ℕ) → In vs (avoided s t a d i settled) → RouteTo s [] a d vs
  avoided-routes {i} {settled} h vs m =
      ⊎_elim (λ n. route-to-plain (h.each vs n)) (λ n. subst (RouteTo s [] a d) (sym n.2) (built-to n.0 (omega (arith, n.1, h.few)))) (avoided-from s t a d i settled m)
