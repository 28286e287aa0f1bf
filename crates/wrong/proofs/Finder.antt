-- Wrong answers of `finder`, refuted: a route comes before the answer, or the answer is no route.
use Prim.Native.Nat.{ℕ, ◌-◌, ◌≤◌, ◌<◌}
use mathlib.Core.Path.{◌≡◌, refl, sym, ap, ◌∙◌, subst}
use mathlib.Core.Logic.{inl, inr}
use mathlib.Core.List.{List, [], ◌∷◌}
use native.Mathlib.Omega.{arith}
use native.Mathlib.Decide.{ℕ_discrete}
use lib.ListN.{length}
use Rattle.std.specs.Prelude.{Result, Option}
use Rattle.lists.specs.Lists.{is_in, in_turn, filled}
use Rattle.refusals.specs.declared.Reason.{Reason}
use Rattle.refusals.specs.Refusals.{Refusal, ◌or_else◌}
use Rattle.room.specs.declared.Shape.{Shape}
use Rattle.room.specs.Shapes.{servers_of, bound}
use Rattle.room.specs.Digits.{digits_of, address_of, differ_from}
use Rattle.room.specs.Addresses.{digits, digit, with_digit, switch_of, differing}
use Rattle.room.specs.Refusals.{shape_refusal, server_refusal, pair_refusal, ends_refusal}
use Rattle.links.specs.Table.{bit, failed, live, bits_fit, fits_levels, table_refusal, room_refusal}
use Rattle.path.specs.Routes.{byte_of, switch_at, level_to, byte_to, encode}
use Rattle.path.specs.Walks.{stopped, arrived, hop_to, hop_refusal, again, fault, ended, walk_from, walk}
use Rattle.finder.specs.declared.Found.{Found as Route}
use Rattle.finder.specs.Told.{Found}
use Rattle.finder.specs.Alternates.{hop_bytes, Before}
use Rattle.finder.specs.Answers.{GivesAlternate, Finding, HasHops}
use Rattle.wrong.specs.Never.{Loan}
use Rattle.wrong.specs.Examples.{array}
use Rattle.wrong.specs.Finder.{Finder}
use Rattle.wrong.specs.Told.{found_told}
use Rattle.wrong.proofs.Clash.{differ}
use Rattle.wrong.proofs.Routes.{Walks, walks, never_stops, same_route}

module _ {s : Shape} {t : List ℕ} {a d : ℕ} {r : Found} (taken : room_refusal s t a d ≡ 0) (some : 0 < r.hops) (h : Finding s t a d r) where
  given : GivesAlternate s t a d r
  given = h.given taken some

  bytes : r.bytes ≡ encode s given.servers
  bytes = ap (λ (x : Found). x.bytes) given.answer

  -- the answer is a route
  pub no-route : {q : Refusal} → walk s t a d r.bytes ≡ stopped q → ⊥
  no-route w = never_stops given.alternate.route bytes w

  -- no route comes before it
  pub beaten : {us ws vs xs : List ℕ} → walk s t a d r.bytes ≡ arrived us ws → Walks s t a d vs xs → Before s vs us → ⊥
  beaten {us} {ws} {vs} w k b = given.alternate.first vs k.route (subst (Before s vs) (sym (same_route given.alternate.route bytes w)) b)

  -- nor has one fewer hops
  pub fewest : {vs xs : List ℕ} → Walks s t a d vs xs → length vs ≤ r.hops → ⊥
  fewest {vs} k l =
      let e : r.hops ≡ length given.servers - 1 = ap (λ (x : Found). x.hops) given.answer in
      given.alternate.first vs k.route (inl (omega arith))

  -- nothing is refused
  pub no_refusal : r.refusal.number ≡ 0
  no_refusal = ap (λ (x : Found). x.refusal.number) given.answer

  -- its hops are those of the route
  miscounted : {us ws : List ℕ} → walk s t a d r.bytes ≡ arrived us ws → r.hops ≡ length us - 1
  miscounted w = ap (λ (x : Found). x.hops) given.answer ∙ ap (λ (x : List ℕ). length x - 1) (same_route given.alternate.route bytes w)

-- where there is a route, the answer has hops
pub some-hops : {s : Shape} {t : List ℕ} {a d : ℕ} {r : Found} {vs xs : List ℕ} → room_refusal s t a d ≡ 0 → Walks s t a d vs xs → Finding s t a d r → 0 < r.hops
some-hops {r = r} {vs} e k h =
    elim (ℕ_discrete r.hops 0) [ yes z ↦ absurd ((h.none e z).1 vs k.route) | no n ↦ omega arith ]

-- a call tells what its contract says, and so not v, of which that is not so
refute : {K X : Type 0} {s : Shape} {t : List ℕ} {a d : ℕ} {v : Found} → (Finding s t a d v → ⊥) → K → (r : Result (Option Route) Reason) → X → Finding s t a d (found_told r) × HasHops r → found_told r ≡ v → ⊥
refute f κ r x h e = f (subst (Finding _ _ _ _) e h.0)

pub wrong_finder : (o : Loan) → Finder o
unfolding servers_of bound digits_of address_of differ_from digits digit with_digit switch_of differing ◌or_else◌ shape_refusal server_refusal pair_refusal bit failed live bits_fit fits_levels table_refusal is_in in_turn filled byte_of switch_at level_to byte_to hop_to hop_refusal again fault ended walk_from walk ends_refusal hop_bytes room_refusal
wrong_finder o =
    record {
      lower_level_first = refute (λ h. beaten refl (omega arith) h refl (walks (array (0x81 ∷ 0x41 ∷ 0x01 ∷ [])) _ _ refl refl refl) (inr (refl, inl (inl (omega arith)))));
      tie_from_the_other_end = refute (λ h. beaten refl (omega arith) h refl (walks (array (0x81 ∷ 0x41 ∷ 0x01 ∷ [])) _ _ refl refl refl) (inr (refl, inl (inl (omega arith)))));
      higher_value_first = refute (λ h. beaten refl (omega arith) h refl (walks (array (0x41 ∷ 0x01 ∷ 0x40 ∷ [])) _ _ refl refl refl) (inr (refl, inl (inr (refl, omega arith)))));
      not_the_fewest_hops = refute (λ h. beaten refl (omega arith) h refl (walks (array (0x41 ∷ 0x03 ∷ [])) _ _ refl refl refl) (inl (omega arith)));
      alternate_denied = refute (λ h. (h.none refl refl).1 _ (walks (array (0x41 ∷ 0x01 ∷ 0x40 ∷ [])) _ _ refl refl refl).route);
      receiver_forgotten = refute (λ h. no-route refl (omega arith) h refl);
      servers_for_hops = refute (λ h. differ (λ y. y) refl (miscounted refl (omega arith) h refl));
      sixteen_told = refute (λ h. differ (λ (y : Found). y.refusal.number) refl (h.none refl refl).0);
      value_m_tried = refute (λ h. no-route refl (omega arith) h refl);
      value_3_not_tried = refute (λ h. (h.none refl refl).1 _ (walks (array (0x03 ∷ [])) _ _ refl refl refl).route);
      found_in_the_full_room = refute (λ h. differ (λ (y : Found). y.refusal.number) refl (h.refused (differ (λ y. y) refl)));
      found_over_full_table = refute (λ h. differ (λ (y : Found). y.refusal.number) refl (h.refused (differ (λ y. y) refl)));
      route_of_no_hops = λ s t a d bs κ x h. omega (arith, h.1);
    }
