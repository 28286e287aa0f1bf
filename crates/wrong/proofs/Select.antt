-- Wrong answers of `select`, refuted: checking does not take the answer, or a slot gives something else.
use Prim.Native.Nat.{ℕ, ◌<◌}
use mathlib.Core.Path.{◌≡◌, refl, sym, ap, ◌∙◌, subst}
use mathlib.Core.Logic.{inl, inr}
use mathlib.Core.List.Memᴰ
use mathlib.Core.List.{List, [], ◌∷◌, ◌++◌, Memᴰ as In}
use native.Mathlib.Omega.{arith}
use lib.ListN.{length, get_or}
use Rattle.std.specs.Prelude.{Result}
use Rattle.lists.specs.Lists.{is_in, in_turn, middle, filled}
use Rattle.refusals.specs.declared.Reason.{Reason}
use Rattle.refusals.specs.Refusals.{Refusal, ◌or_else◌}
use Rattle.room.specs.declared.Shape.{Shape}
use Rattle.room.specs.Shapes.{servers_of, bound, full_room}
use Rattle.room.specs.Digits.{digits_of, address_of, differ_from}
use Rattle.room.specs.Addresses.{digits, digit, with_digit, switch_of, differing}
use Rattle.room.specs.Refusals.{shape_refusal, server_refusal, pair_refusal, ends_refusal}
use Rattle.links.specs.Table.{bit, failed, live, bits_fit, fits_levels, table_refusal, room_refusal}
use Rattle.path.specs.Routes.{byte_of, switch_at, level_to, byte_to, encode, RouteTo, Parallel}
use Rattle.path.specs.Walks.{stopped, arrived, hop_to, hop_refusal, again, fault, ended, walk_from, walk}
use Rattle.path.specs.Answers.{array_refusal, walk_answer}
use Rattle.verdict.specs.Checks.{arrays, disjoint, switches_in, between, parallel, meeting, first_stop, first_meeting, first_of, first_pair, list_refusal, walks_of, check_answer}
use Rattle.build.specs.declared.RouteSet.{RouteSet}
use Rattle.build.specs.Built.{plus_one, built_hops, met_by, built_route}
use Rattle.build.specs.Sets.{joined, set_of, array_in}
use Rattle.laying.specs.Avoids.{Avoids}
use Rattle.finder.specs.Alternates.{hop_bytes, Before}
use Rattle.select.specs.Told.{Selection}
use Rattle.select.specs.Avoided.{avoided}
use Rattle.select.specs.Selection.{Unbroken, Slot, kept, replaced, nothing, selection, GivesRoutes, Selecting}
use Rattle.select.proofs.HeldLaws.{route-array, set-count}
use Rattle.select.proofs.OneAnswer.{slot-unique}
use Rattle.select.proofs.SlotLaws.{member_at}
use Rattle.select.proofs.SelectLaws.{Gives, gives, selection_checked, none-selected-exactly}
use Rattle.wrong.specs.Never.{Loan}
use Rattle.wrong.specs.Examples.{array, failing, both_broken, direct, other}
use Rattle.wrong.specs.Select.{Select}
use Rattle.wrong.specs.Told.{selection_told}
use Rattle.wrong.proofs.Clash.{differ, bit as truth}
use Rattle.wrong.proofs.Routes.{Walks, walks, parallel_walks, never_stops, same_route}

-- ---- slots

-- what a slot gives has no route before it
beaten : {s : Shape} {t : List ℕ} {a d i : ℕ} {settled : List (List ℕ)} {us vs : List ℕ} → Slot s t a d i settled (vs ∷ []) → (Unbroken s t (built_route s i a d) → ⊥) → RouteTo s t a d us → Avoids s (avoided s t a d i settled) us → Before s us vs → ⊥
beaten (kept u) b r f o = b u
beaten {us} (replaced b k) c r f o = k.first us r f o

-- and a slot gives nothing only where there is none
denied : {s : Shape} {t : List ℕ} {a d i : ℕ} {settled : List (List ℕ)} {us : List ℕ} → Slot s t a d i settled [] → RouteTo s t a d us → Avoids s (avoided s t a d i settled) us → ⊥
denied {us} (nothing b k) r f = k us r f

-- one route is avoided where the other is parallel to it
avoids-one : {s : Shape} {us vs : List ℕ} → Parallel s us vs → Avoids s (vs ∷ []) us
avoids-one {s} {us} {vs} p = record { each = each }
  where
    each : (ws : List ℕ) → In ws (vs ∷ []) → Parallel s us ws
    each ws q = subst (Parallel s us) (sym (Memᴰ.eq_of_singleton q)) p

-- ---- answers

module _ {s : Shape} {t : List ℕ} {a d : ℕ} {r : Selection} (h : Selecting s t a d r) (n : r.refusal.number ≡ 0) where
  given : Gives s t a d r
  given = gives h n

  -- as many routes as are counted
  counted : r.routes.count ≡ length given.routes
  counted = ap (λ (x : RouteSet). x.count) given.written ∙ set-count s given.routes

  -- each by its array
  array_at : (i : ℕ) → i < length given.routes → array_in i r.routes ≡ encode s (get_or given.routes i [])
  array_at i q =
      ap (array_in i) given.written ∙ route-array s given.routes (λ vs m. (given.settled.each vs m).route.few) i q

  -- which walks to it alone
  route-at : (i : ℕ) → i < r.routes.count → {us ws : List ℕ} → walk s t a d (array_in i r.routes) ≡ arrived us ws → get_or given.routes i [] ≡ us
  route-at i p w =
      let q : i < length given.routes = omega (arith, counted) in
      same_route (given.settled.each _ (member_at given.routes i q)) (array_at i q) w

  -- and there is a first, whose array is not refused
  pub first_walks : {q : Refusal} → walk s t a d (array_in 0 r.routes) ≡ stopped q → ⊥
  first_walks w =
      let p : 0 < length given.routes = omega (arith, given.some) in
      never_stops (given.settled.each _ (member_at given.routes 0 p)) (array_at 0 p) w

-- slot 0 gives g after what slot 1 keeps, its built route, and the two are all these routes
abbrev After : List ℕ → ℕ → ℕ → List (List ℕ) → List (List ℕ) → Type 0
After t a d routes g =
    Slot (full_room 4 1) t a d 0 (built_route (full_room 4 1) 1 a d ∷ []) g × (built_route (full_room 4 1) 1 a d ∷ g ≡ routes)

after : {t : List ℕ} {a d : ℕ} {r : Selection} (h : Selecting (full_room 4 1) t a d r) (n : r.refusal.number ≡ 0) → Unbroken (full_room 4 1) t (built_route (full_room 4 1) 1 a d) → (g : List (List ℕ)) × After t a d (given h n).routes g
after {t} {a} {d} h n u =
    let c = (given h n).slots in
    subst (λ (x : List (List ℕ)). (g : List (List ℕ)) × (Slot (full_room 4 1) t a d 0 x g × (x ++ g ≡ (given h n).routes))) (sym (slot-unique (kept u) c.1)) (c.2.0, (c.2.1, c.2.2))

-- ---- 00 to 13 of (4,1) with server 03 dead

pub straight : Walks (full_room 4 1) (failing 3 3) 0 7 (0 ∷ 4 ∷ 7 ∷ []) (4096 ∷ 1 ∷ [])
unfolding servers_of bound digits_of address_of digits digit with_digit switch_of ◌or_else◌ shape_refusal server_refusal pair_refusal bit failed live is_in filled switch_at hop_to hop_refusal again fault ended walk_from walk ends_refusal
straight = walks direct _ _ refl refl refl

around : Walks (full_room 4 1) (failing 3 3) 0 7 (0 ∷ 1 ∷ 9 ∷ 11 ∷ 7 ∷ []) (0 ∷ 4097 ∷ 2 ∷ 4099 ∷ [])
unfolding servers_of bound digits_of address_of digits digit with_digit switch_of ◌or_else◌ shape_refusal server_refusal pair_refusal bit failed live is_in filled switch_at hop_to hop_refusal again fault ended walk_from walk ends_refusal
around = walks (array (0x01 ∷ 0x42 ∷ 0x03 ∷ 0x41 ∷ [])) _ _ refl refl refl

built : (built_route (full_room 4 1) 1 0 7 ≡ 0 ∷ 4 ∷ 7 ∷ []) × (built_route (full_room 4 1) 0 0 7 ≡ 0 ∷ 3 ∷ 7 ∷ [])
unfolding built_route built_hops met_by plus_one bound with_digit digits digits_of address_of
built = (refl, refl)

unbroken : Unbroken (full_room 4 1) (failing 3 3) (built_route (full_room 4 1) 1 0 7)
unbroken = rw built.0 (record { alive = straight.route.route.alive })

broken : Unbroken (full_room 4 1) (failing 3 3) (built_route (full_room 4 1) 0 0 7) → ⊥
unfolding live failed bit level_to differing differ_from digits digits_of built_route built_hops met_by plus_one bound with_digit address_of
broken u = differ truth refl (u.alive 0 (omega arith))

avoids : Avoids (full_room 4 1) (avoided (full_room 4 1) (failing 3 3) 0 7 0 (built_route (full_room 4 1) 1 0 7 ∷ [])) (0 ∷ 1 ∷ 9 ∷ 11 ∷ 7 ∷ [])
unfolding avoided disjoint is_in middle
avoids = rw built.0 (avoids-one (parallel_walks around straight refl refl))

module _ {r : Selection} (h : Selecting (full_room 4 1) (failing 3 3) 0 7 r) (n : r.refusal.number ≡ 0) where
  -- slot 0 gives a route
  pub one-route : r.routes.count ≡ 1 → ⊥
  one-route c = let k = after h n unbroken in go k.0 k.1
    where
      go : (g : List (List ℕ)) → After (failing 3 3) 0 7 (given h n).routes g → ⊥
      go [] k = denied k.0 around.route avoids
      go (v ∷ g) k = omega (arith, counted h n, ap length k.1)

  -- and none comes before it
  not_first : {us ws : List ℕ} → r.routes.count ≡ 2 → walk (full_room 4 1) (failing 3 3) 0 7 (array_in 1 r.routes) ≡ arrived us ws → Before (full_room 4 1) (0 ∷ 1 ∷ 9 ∷ 11 ∷ 7 ∷ []) us → ⊥
  not_first {us} c w b = let k = after h n unbroken in go k.0 k.1
    where
      go : (g : List (List ℕ)) → After (failing 3 3) 0 7 (given h n).routes g → ⊥
      go [] k = omega (arith, counted h n, ap length k.1)
      go (v ∷ []) k =
          let q : us ≡ v = sym (route-at h n 1 (omega arith) w) ∙ ap (λ (x : List (List ℕ)). get_or x 1 []) (sym k.1) in
          beaten k.0 broken around.route avoids (subst (Before (full_room 4 1) (0 ∷ 1 ∷ 9 ∷ 11 ∷ 7 ∷ [])) q b)
      go (v ∷ x ∷ g) k = omega (arith, counted h n, ap length k.1)

-- slot 1 keeps its route, which comes first
pub slot_1_first : {r : Selection} → Selecting (full_room 4 1) (failing 3 3) 0 7 r → (r.refusal.number ≡ 0) × (array_in 0 r.routes ≡ direct)
unfolding servers_of bound digits_of digits digit ◌or_else◌ shape_refusal server_refusal pair_refusal bits_fit fits_levels table_refusal ends_refusal room_refusal filled in_turn byte_of byte_to level_to differing differ_from encode
slot_1_first {r} h = (number, first)
  where
    c : GivesRoutes (full_room 4 1) (failing 3 3) 0 7 r
    c = h.given refl

    number : r.refusal.number ≡ 0
    number =
        let q = ap (λ (x : List (List ℕ)). x ++ c.slots.2.0) (slot-unique (kept unbroken) c.slots.1) ∙ c.slots.2.2 in
        ap (λ (x : Selection). x.refusal.number) (c.answer ∙ ap (selection (full_room 4 1)) (sym q))

    first : array_in 0 r.routes ≡ direct
    first =
        let k = after h number unbroken in
        array_at h number 0 (omega (arith, ap length k.1.1))
        ∙ ap (λ (x : List (List ℕ)). encode (full_room 4 1) (get_or x 0 [])) (sym k.1.1)
        ∙ ap (encode (full_room 4 1)) built.0

-- ---- 00 to 13 of (4,1) where both built routes are broken

-- the alternates of slot 1 and of slot 0, and the built route of slot 0
detours : Walks (full_room 4 1) both_broken 0 7 (0 ∷ 8 ∷ 9 ∷ 5 ∷ 7 ∷ []) (4096 ∷ 2 ∷ 4097 ∷ 1 ∷ []) × Walks (full_room 4 1) both_broken 0 7 (0 ∷ 2 ∷ 14 ∷ 15 ∷ 7 ∷ []) (0 ∷ 4098 ∷ 3 ∷ 4099 ∷ []) × Walks (full_room 4 1) [] 0 7 (0 ∷ 3 ∷ 7 ∷ []) (0 ∷ 4099 ∷ [])
unfolding servers_of bound digits_of address_of digits digit with_digit switch_of ◌or_else◌ shape_refusal server_refusal pair_refusal bit failed live is_in filled switch_at hop_to hop_refusal again fault ended walk_from walk ends_refusal
detours = (
  walks (array (0x42 ∷ 0x01 ∷ 0x41 ∷ 0x03 ∷ [])) _ _ refl refl refl,
  walks (array (0x02 ∷ 0x43 ∷ 0x03 ∷ 0x41 ∷ [])) _ _ refl refl refl,
  walks other _ _ refl refl refl,
)

-- each slot gives a route
two-routes : {r : Selection} (h : Selecting (full_room 4 1) both_broken 0 7 r) (n : r.refusal.number ≡ 0) {ws : List ℕ} → r.routes.count ≡ 1 → walk (full_room 4 1) both_broken 0 7 (array_in 0 r.routes) ≡ arrived (0 ∷ 8 ∷ 9 ∷ 5 ∷ 7 ∷ []) ws → ⊥
unfolding avoided disjoint is_in middle
two-routes h n c w = let k = (given h n).slots in go k.0 k.2.0 k.1 k.2.1 k.2.2
  where
    go : (g f : List (List ℕ)) → Slot (full_room 4 1) both_broken 0 7 1 [] g → Slot (full_room 4 1) both_broken 0 7 0 g f → g ++ f ≡ (given h n).routes → ⊥
    go [] f k m e =
        denied k detours.0.route (rw built.1 (avoids-one (parallel_walks detours.0 detours.2 refl refl)))
    go (v ∷ []) [] k m e =
        let q : 0 ∷ 8 ∷ 9 ∷ 5 ∷ 7 ∷ [] ≡ v = sym (route-at h n 0 (omega arith) w) ∙ ap (λ (x : List (List ℕ)). get_or x 0 []) (sym e) in
        denied m detours.1.route
        (avoids-one (subst (Parallel (full_room 4 1) (0 ∷ 2 ∷ 14 ∷ 15 ∷ 7 ∷ [])) q (parallel_walks detours.1 detours.0 refl refl)))
    go (v ∷ []) (x ∷ f) k m e = omega (arith, counted h n, ap length e)
    go (v ∷ x ∷ g) f k m e = omega (arith, counted h n, ap length e)

-- ---- all of them

-- a call tells what its contract says, and so not v, of which that is not so
refute : {K X : Type 0} {s : Shape} {t : List ℕ} {a d : ℕ} {v : Selection} → (Selecting s t a d v → ⊥) → K → (r : Result RouteSet Reason) → X → Selecting s t a d (selection_told r) → selection_told r ≡ v → ⊥
refute f κ r x h e = f (subst (Selecting _ _ _ _) e h)

pub wrong-select : (o : Loan) → Select o
unfolding servers_of bound digits_of address_of differ_from digits digit with_digit switch_of differing ◌or_else◌ shape_refusal server_refusal pair_refusal bit failed live bits_fit fits_levels table_refusal is_in in_turn middle filled byte_of switch_at level_to byte_to hop_to hop_refusal again fault ended walk_from walk ends_refusal array_refusal walk_answer arrays disjoint switches_in between parallel meeting first_stop first_meeting first_of first_pair room_refusal list_refusal walks_of check_answer joined set_of array_in hop_bytes
wrong-select o =
    record {
      broken_kept = refute (λ h. differ (λ (y : Refusal). y.number) refl (selection_checked _ _ _ _ _ h refl));
      alternate_denied = refute (λ h. one-route h refl refl);
      second_alternate_denied = refute (λ h. two-routes h refl refl refl);
      higher_value_first = refute (λ h. not_first h refl refl refl (inr (refl, inl (inr (refl, omega arith)))));
      settled_not_avoided = refute (λ h. differ (λ (y : Refusal). y.number) refl (selection_checked _ _ _ _ _ h refl));
      switches_not_avoided = refute (λ h. differ (λ (y : Refusal). y.number) refl (selection_checked _ _ _ _ _ h refl));
      lower_slots_first = refute (λ h. differ (λ (y : List ℕ). get_or y 0 0) refl (slot_1_first h).1);
      sixteen_with_a_route = refute (λ h. (none-selected-exactly _ _ _ _ _ refl h).0 refl _ straight.route);
      sixteen_not_told = refute (λ h. differ (λ (y : Refusal). y.number) refl (selection_checked _ _ _ _ _ h refl));
      not_closed_up = refute (λ h. differ (λ (y : Refusal). y.number) refl (selection_checked _ _ _ _ _ h refl));
      detour_mod_n = refute (λ h. differ (λ (y : Refusal). y.number) refl (selection_checked _ _ _ _ _ h refl));
      value_m_tried = refute (λ h. differ (λ (y : Refusal). y.number) refl (selection_checked _ _ _ _ _ h refl));
      sixteen_for_value_3 = refute (λ h. (none-selected-exactly _ _ _ _ _ refl h).0 refl _ (walks (array (0x03 ∷ [])) _ _ refl refl refl).route);
      selected_in_the_full_room = refute (λ h. differ (λ (y : Selection). y.refusal.number) refl (h.refused (differ (λ y. y) refl)));
      selected_over_full_table = refute (λ h. differ (λ (y : Selection). y.refusal.number) refl (h.refused (differ (λ y. y) refl)));
    }
