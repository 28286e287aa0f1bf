-- How the program goes from slot to slot: the search around what a slot avoids, a built route walked, and the slots one after another.
use Prim.Native.Nat.{ℕ, zero, suc, ◌+◌, ◌-◌, ◌≤◌, ◌<◌, zero-le}
use mathlib.Core.Path.{◌≡◌, refl, sym, ap, ap₂, ◌∙◌, subst}
use mathlib.Core.List.{List, [], ◌∷◌, ◌++◌, map, append-nil, Memᴰ as In}
use native.Mathlib.Omega.{arith}
use native.Mathlib.Decide.{ℕ_discrete}
use lib.ListN.{length, drop, set}
use lib.Seq.{slice, take_all}
use mathlib.Core.Bool.{true, false}
use Rattle.std.proofs.lemmas.Bool.{true≢false, false≢true}
use Rattle.std.specs.Result.{is_ok}
use Rattle.std.specs.Prelude.{Result, Ok, Err, Option, Some, None, IsErrAnd}
use Rattle.std.proofs.lemmas.Result.{err_from_is_err_and}
use Rattle.refusals.specs.declared.Reason.{Reason}
use Rattle.refusals.specs.declared.Refused.{Refused}
use Rattle.refusals.specs.Reasons.{number_of, tells, tells_where}
use Rattle.refusals.proofs.ReasonLaws.{reason-some}
use Rattle.refusals.proofs.AnswerLaws.{answer-none}
use Rattle.room.specs.declared.Shape.{Shape}
use Rattle.room.specs.Refusals.{ends_refusal}
use Rattle.room.specs.Shapes.{Ends}
use Rattle.room.proofs.RefusalLaws.{ends_none}
use Rattle.links.specs.Table.{TableOf, room_refusal}
use Rattle.links.proofs.TableLaws.{room_of, room-none}
use Rattle.path.specs.Told.{Walked}
use Rattle.path.specs.Routes.{RouteTo, encode}
use Rattle.path.specs.declared.Walked.{Walked as WalkedArray}
use Rattle.path.specs.Answers.{no_walk, the_walk, walk_answer}
use Rattle.path.proofs.ReverseLaws.{route-to-plain}
use Rattle.path.proofs.CodecLaws.{encodes_unique, walk-exactly}
use Rattle.build.specs.declared.RouteSet.{RouteSet}
use Rattle.build.specs.Told.{Building}
use Rattle.build.specs.Answers.{build_answer, no_building, a_building}
use Rattle.build.specs.Built.{built_route, built_routes, built_arrays}
use Rattle.build.specs.Sets.{empty_set, added, array_in, set_of}
use Rattle.build.proofs.SetLaws.{gathered, gathered_set}
use Rattle.build.proofs.ArrayLaws.{arrays-encode, routes-count, routes-at}
use Rattle.laying.specs.Laid.{Laid}
use Rattle.laying.proofs.LaidLaws.{laid-exactly}
use Rattle.finder.specs.Told.{Found}
use Rattle.finder.specs.Alternates.{Alternate}
use Rattle.finder.specs.declared.Found.{Found as Route}
use Rattle.finder.specs.Answers.{no_route, what_found, HasHops, Finding}
use Rattle.select.specs.Told.{Selection}
use Rattle.select.specs.Avoided.{avoided}
use Rattle.select.specs.Selection.{Unbroken, Replaces, Slot, kept, replaced, nothing, no_selection, a_selection, selection, Selecting}
use Rattle.select.specs.Inside.{Holds, SoFar, Around}
use Rattle.select.proofs.AvoidedLaws.{lower, lower-from, avoided-laid}
use Rattle.select.proofs.SlotLaws.{unbroken_route, settled-none, built-to, slot-settled, avoided-routes}
use Rattle.select.proofs.HeldLaws.{set-count, route_more, holds_count, holds_array}

-- ---- the built routes, as a slot finds them in their set

drop-lower : (s : Shape) (a d m i : ℕ) → i ≤ m → drop (m - i) (lower s a d m) ≡ lower s a d i
drop-lower s a d zero zero h = refl
drop-lower s a d zero (suc i) h = let z : ⊥ = omega arith in absurd z
drop-lower s a d (suc m) i h =
    elim (ℕ_discrete i (suc m)) [
      | yes e ↦ let q : suc m - i ≡ 0 = omega arith in
          ap (λ (j : ℕ). drop j (lower s a d (suc m))) q ∙ ap (lower s a d) (sym e)
      | no e ↦ let q : suc m - i ≡ suc (m - i) = omega arith in
          ap (λ (j : ℕ). drop j (lower s a d (suc m))) q ∙ drop-lower s a d m i (omega arith)
    ]

all-lower : (s : Shape) (a d : ℕ) → built_routes s a d ≡ lower s a d (suc s.k)
unfolding built_routes
all-lower s a d = refl

-- those of the lower slots stand last
lower_part : (s : Shape) (a d i : ℕ) → i ≤ s.k → slice (s.k + 1 - i) (s.k + 1) (built_routes s a d) ≡ lower s a d i
lower_part s a d i h =
    let e : s.k + 1 - i ≡ suc s.k - i = omega arith in
    ap (drop (s.k + 1 - i)) (take_all (s.k + 1) (built_routes s a d) (omega (arith, routes-count s a d)) ∙ all-lower s a d)
    ∙ ap (λ (j : ℕ). drop j (lower s a d (suc s.k))) e
    ∙ drop-lower s a d (suc s.k) i (omega arith)

module _ {s : Shape} {a d : ℕ} (ends : Ends s a d) (built : RouteSet) (b : built ≡ set_of (built_arrays s a d)) where
  built_holds : Holds s a d built (built_routes s a d)
  built_holds =
      record {
        written = b ∙ ap set_of (arrays-encode (record { source = ends.source; destination = ends.destination; differ = ends.differ }));
        each = λ vs m. let n = lower-from s a d (suc s.k) (subst (In vs) (all-lower s a d) m) in
            subst (RouteTo s [] a d) (sym n.2) (built-to [] ends n.0 (omega (arith, n.1)));
      }

  slot-array : (i : ℕ) → i ≤ s.k → (x : List ℕ) → x ≡ array_in (s.k - i) built → x ≡ encode s (built_route s i a d)
  slot-array i p x e =
      let q : s.k - (s.k - i) ≡ i = omega arith in
      e ∙ holds_array built_holds (s.k - i) (omega (arith, routes-count s a d))
      ∙ ap (encode s) (routes-at s a d (s.k - i) (omega arith) ∙ ap (λ (j : ℕ). built_route s j a d) q)

-- ---- the alternate over a table with routes laid into it is the alternate that avoids them

module _ {s : Shape} {t : List ℕ} {a d : ℕ} {routes : List (List ℕ)} {u : List ℕ} (laid : Laid s t routes u) (between : (vs : List ℕ) → In vs routes → RouteTo s [] a d vs) where
  alternate-around : {vs : List ℕ} → Alternate s u a d vs → Replaces s t a d routes vs
  alternate-around {vs} h =
      let p = (laid-exactly laid between vs).0 h.route in
      record { route = p.0; avoids = p.1; first = λ us r f b. h.first us ((laid-exactly laid between us).1 (r, f)) b }

  asked-around : Ends s a d → room_refusal s u a d ≡ 0
  asked-around ends = sym (room-none ends laid.table)

  around_of : (r : Option Route) → Ends s a d → Finding s u a d (what_found r) → HasHops (Ok r) → Around s t a d routes r
  around_of (Some r) ends f h = let g = f.given (asked-around ends) h in (g.servers, alternate-around g.alternate, ap (λ (x : Found). x.bytes) g.answer)
  around_of None ends f h = λ vs k m. (f.none (asked-around ends) refl).1 vs ((laid-exactly laid between vs).1 (k, m))

-- ---- a built route, walked over the table

module _ {s : Shape} (t : List ℕ) {a d : ℕ} {vs : List ℕ} (r : RouteTo s [] a d vs) (x : List ℕ) (q : x ≡ encode s vs) (w : Walked) (e : w ≡ walk_answer s t a d x) where
  walk-number : w.refusal.number ≡ (walk_answer s t a d (encode s vs)).refusal.number
  walk-number = ap (λ (y : Walked). y.refusal.number) (e ∙ ap (walk_answer s t a d) q)

  walk_unbroken : w.refusal.number ≡ 0 → Unbroken s t vs
  walk_unbroken n =
      let p = (walk-exactly s t a d (encode s vs)).0 (sym walk-number ∙ n) in
      let u : p.0 ≡ vs = encodes_unique {t = []} (record { route = route-to-plain p.1.route; bytes = p.1.bytes }) (record { route = r; bytes = refl }) in
      record { alive = (subst (RouteTo s t a d) u p.1.route).route.alive }

  walk_broken : (w.refusal.number ≡ 0 → ⊥) → Unbroken s t vs → ⊥
  walk_broken n u = n (walk-number ∙ (walk-exactly s t a d (encode s vs)).1 (vs, record { route = unbroken_route r u; bytes = refl }))

-- whether it has no failed link, as the program asks
pub walk_goes : (x : Result WalkedArray Refused) → true ≡ is_ok x → (tells_where no_walk the_walk x).refusal.number ≡ 0
walk_goes (Ok w) e = refl
walk_goes (Err r) e = absurd (true≢false e)

pub walk_stops : (x : Result WalkedArray Refused) → false ≡ is_ok x → (tells_where no_walk the_walk x).refusal.number ≡ 0 → ⊥
walk_stops (Ok w) e n = false≢true e
walk_stops (Err r) e n = reason-some r.reason n

-- ---- a slot, where the room is not refused and its built routes stand in a set

module _ {s : Shape} {t : List ℕ} {a d : ℕ} (z : room_refusal s t a d ≡ 0) {built : RouteSet} (b : built ≡ set_of (built_arrays s a d)) {i : ℕ} {settled : RouteSet} (p : SoFar s t a d (suc i) settled) where
  ends : Ends s a d
  ends = (room_of s t a d z).0

  so_holds : Holds s a d settled p.routes
  so_holds = record { written = p.written; each = λ vs m. route-to-plain (p.settled.each vs m) }

  so_slot : i ≤ s.k
  so_slot = omega (arith, p.count)

  -- what the slot avoids, laid into a copy of the table, and the search over that
  module _ {u v w : List ℕ} (e : u ≡ t)
      (f : (routes : List (List ℕ)) → Holds s a d settled routes → settled.count ≤ length routes → TableOf s u → Laid s u (slice 0 settled.count routes) v)
      (g : (routes : List (List ℕ)) → Holds s a d built routes → s.k + 1 ≤ length routes → TableOf s v → Laid s v (slice (s.k + 1 - i) (s.k + 1) routes) w) where
    slot-laid : Laid s t (avoided s t a d i p.routes) w
    slot-laid = avoided-laid s t a d i p.routes first second
      where
        first : Laid s t p.routes v
        first =
            let n = holds_count so_holds in
            subst (λ (x : List (List ℕ)). Laid s t x v) (take_all settled.count p.routes (omega (arith, n)))
            (subst (λ (x : List ℕ). TableOf s x → Laid s x (slice 0 settled.count p.routes) v) e (f p.routes so_holds (omega (arith, n))) (room_of s t a d z).1)

        second : Laid s v (lower s a d i) w
        second =
            subst (λ (x : List (List ℕ)). Laid s v x w) (lower_part s a d i so_slot)
            (g (built_routes s a d) (built_holds ends built b) (omega (arith, routes-count s a d)) first.table)

    pub around-slot : (r : Option Route) → Finding s w a d (what_found r) × HasHops (Ok r) → Around s t a d (avoided s t a d i p.routes) r
    around-slot r find = around_of slot-laid (avoided-routes t ends p.settled) r ends find.0 find.1

    -- the search over the copy is not refused
    pub around-asked : (q : Reason) → Finding s w a d (no_route (number_of q)) → ⊥
    around-asked q find = reason-some q (ap (λ (x : Found). x.refusal.number) (find.none (sym (room-none ends slot-laid.table)) refl).0)

  -- the slot done
  so_next : {r : RouteSet} {given : List (List ℕ)} → Slot s t a d i p.routes given → r ≡ set_of (map (encode s) (p.routes ++ given)) → SoFar s t a d i r
  so_next {r} {given} slot e =
      let n = slot-settled t ends p.settled slot in
      record {
        routes = p.routes ++ given;
        written = e;
        settled = n;
        onward = λ all c. p.onward all (given, slot, c);
        count = omega (arith, ap (λ (x : RouteSet). x.count) e, set-count s (p.routes ++ given), n.few);
      }

  -- one route more in the set
  so_added : (vs bs : List ℕ) {r : RouteSet} → length vs ≤ 9 → bs ≡ encode s vs → r ≡ added settled bs → r ≡ set_of (map (encode s) (p.routes ++ (vs ∷ [])))
  so_added vs bs l e q =
      q ∙ ap₂ added p.written e
      ∙ route_more s p.routes (λ us m. (p.settled.each us m).route.few) vs l (omega (arith, holds_count so_holds, p.count, ends.source.valid.levels))

  -- its array, and what the walk along that says
  module _ (x : List ℕ) (at : x ≡ array_in (s.k - i) built) (w : Walked) (e : w ≡ walk_answer s t a d x) where
    own : RouteTo s [] a d (built_route s i a d)
    own = built-to t ends i so_slot

    bytes : x ≡ encode s (built_route s i a d)
    bytes = slot-array ends built b i so_slot x at

    pub so_kept : w.refusal.number ≡ 0 → (r : RouteSet) → r ≡ added settled x → SoFar s t a d i r
    so_kept n r q = so_next (kept (walk_unbroken t own x bytes w e n)) (so_added (built_route s i a d) x own.route.few bytes q)

    module _ (n : w.refusal.number ≡ 0 → ⊥) where
      pub so_replaced : (f : Route) → ((y : SoFar s t a d (suc i) settled) → Around s t a d (avoided s t a d i y.routes) (Some f)) → (r : RouteSet) → r ≡ added settled f.bytes → SoFar s t a d i r
      so_replaced f g r q =
          let y = g p in
          so_next (replaced (walk_broken t own x bytes w e n) y.1) (so_added y.0 f.bytes y.1.route.route.few y.2 q)

      pub so_nothing : ((y : SoFar s t a d (suc i) settled) → Around s t a d (avoided s t a d i y.routes) None) → SoFar s t a d i settled
      so_nothing g =
          so_next (nothing (walk_broken t own x bytes w e n) (g p)) (p.written ∙ ap (λ (y : List (List ℕ)). set_of (map (encode s) y)) (sym (append-nil p.routes)))

-- ---- slot after slot

none_written : (s : Shape) → empty_set ≡ set_of (map (encode s) [])
unfolding gathered
none_written s = gathered_set [] tt zero-le

pub so_starts : (s : Shape) (t : List ℕ) (a d : ℕ) (set : RouteSet) → set ≡ empty_set → SoFar s t a d (suc s.k) set
so_starts s t a d set e =
    record {
      routes = [];
      written = e ∙ none_written s;
      settled = settled-none s t a d;
      onward = λ x c. c;
      count = omega (arith, ap (λ (x : RouteSet). x.count) e);
    }

-- from a slot to the next lower one
pub so_lower : {s : Shape} {t : List ℕ} {a d i : ℕ} {set : RouteSet} → SoFar s t a d i set → 0 < i → SoFar s t a d (suc (i - 1)) set
so_lower {s} {t} {a} {d} {i} {set} p h = let q : i ≡ suc (i - 1) = omega arith in subst (λ (j : ℕ). SoFar s t a d j set) q p

-- ---- the answer

-- the built routes, where the room does not refuse
module _ (s : Shape) (t : List ℕ) (a d : ℕ) (e : 0 ≡ room_refusal s t a d) where
  built-given : (x : Building) → x ≡ build_answer s a d → x ≡ a_building (set_of (built_arrays s a d))
  unfolding build_answer
  built-given x q = q ∙ answer-none (ends_refusal s a d) no_building (a_building (set_of (built_arrays s a d))) (ends_none (room_of s t a d (sym e)).0)

  pub room-levels : s.k ≤ 3
  room-levels = (room_of s t a d (sym e)).0.source.valid.levels

  pub room-long : length t ≤ 4096
  room-long = let room = room_of s t a d (sym e) in omega (arith, room.0.source.valid.small, room.1.long)

  pub built-answered : (x : RouteSet) → a_building x ≡ build_answer s a d → x ≡ set_of (built_arrays s a d)
  built-answered x q = ap (λ (y : Building). y.routes) (built-given (a_building x) q)

  pub built-asked : (r : Reason) → no_building (number_of r) ≡ build_answer s a d → ⊥
  built-asked r q = reason-some r (ap (λ (y : Building). y.refusal.number) (built-given (no_building (number_of r)) q))

pub selecting-refused : {s : Shape} {t : List ℕ} {a d : ℕ} (x : Result RouteSet Reason) (r : Reason) → IsErrAnd x (λ e. e ≡ r) → number_of r ≡ room_refusal s t a d → Selecting s t a d (tells no_selection a_selection x)
selecting-refused x r h e =
    let z = err_from_is_err_and x h in
    rw (z.1, z.2) (record { refused = λ m. ap no_selection e; given = λ w. absurd (reason-some r (e ∙ w)) })

module _ {s : Shape} {t : List ℕ} {a d : ℕ} (e : 0 ≡ room_refusal s t a d) (set : RouteSet) (p : SoFar s t a d 0 set) where
  selecting : (x : Selection) → x ≡ selection s p.routes → Selecting s t a d x
  selecting x q =
      record { refused = λ m. absurd (m (sym e)); given = λ w. record { routes = p.routes; slots = p.onward p.routes refl; answer = q } }

  so_count : set.count ≡ length p.routes
  so_count = ap (λ (y : RouteSet). y.count) p.written ∙ set-count s p.routes

  pub selecting-none : set.count ≡ 0 → Selecting s t a d (no_selection 16)
  selecting-none n = selecting (no_selection 16) (ap (selection s) (sym (no_routes p.routes (sym so_count ∙ n))))
    where
      no_routes : (vss : List (List ℕ)) → length vss ≡ 0 → vss ≡ []
      no_routes [] h = refl
      no_routes (vs ∷ vss) h = let w : ⊥ = omega arith in absurd w

  pub selecting-given : (set.count ≡ 0 → ⊥) → Selecting s t a d (a_selection set)
  selecting-given n = selecting (a_selection set) (some p.routes p.written so_count)
    where
      some : (vss : List (List ℕ)) → set ≡ set_of (map (encode s) vss) → set.count ≡ length vss → a_selection set ≡ selection s vss
      some [] h c = absurd (n c)
      some (vs ∷ vss) h c = ap a_selection h
