-- Where two routes of a list meet, wrongly told by checking, refuted: each list's refusal is computed once.
use Prim.Native.Nat.{ℕ}
use mathlib.Core.Path.{◌≡◌, refl, sym, ap, ◌∙◌, subst}
use mathlib.Core.Bool.{false}
use mathlib.Core.List.{List, [], ◌∷◌, ◌++◌}
use native.Mathlib.Omega.{arith}
use lib.Dec.{eqb}
use Rattle.lists.specs.Lists.{is_in, first_where, place_in, middle, filled}
use Rattle.refusals.specs.Refusals.{Refusal, none, refused_at, with_earlier, earlier_route, earlier_hop, ◌or_else◌}
use Rattle.room.specs.declared.Shape.{Shape}
use Rattle.room.specs.Shapes.{servers_of, bound, shape_of, full_room}
use Rattle.room.specs.Digits.{digits_of, address_of}
use Rattle.room.specs.Addresses.{digits, digit, with_digit, switch_of}
use Rattle.room.specs.Refusals.{shape_refusal, server_refusal, pair_refusal, ends_refusal}
use Rattle.links.specs.Table.{bit, failed, live, bits_fit, fits_levels, table_refusal, room_refusal}
use Rattle.path.specs.Routes.{switch_at}
use Rattle.path.specs.Walks.{hop_to, hop_refusal, again, earlier_of, fault, ended, walk_from, walk}
use Rattle.path.specs.Answers.{array_refusal, walk_answer}
use Rattle.verdict.specs.Checks.{arrays, disjoint, switches_in, between, parallel, same_at, meets, met_at, meets_first, meeting, first_stop, first_meeting, first_of, first_pair, list_refusal, walks_of, check_answer}
use Rattle.driver.specs.Rooms.{held, room_of, shape_in}
use Rattle.driver.proofs.PathSmall.{check-small}
use Rattle.wrong.specs.Never.{NeverTells, Loan}
use Rattle.wrong.specs.Examples.{array, none_failed, direct, other, switch_twice, straight_back, round_to_server}
use Rattle.wrong.specs.Again.{room_for}
use Rattle.wrong.specs.Meetings.{meeting_at, one_twice, last_switch, shared_server, server_then_switch, earlier_with_third, crossing, server_first, Mismet, Mischecked, Meetings}
use Rattle.wrong.proofs.Again.{in_word, not-told}
use Rattle.wrong.proofs.Earlier.{Listed, listed-check}

abbrev number : Refusal → ℕ
number y = y.number

abbrev route : Refusal → ℕ
route y = y.route

abbrev hop : Refusal → ℕ
hop y = y.hop

-- ---- lists

-- what checking answers of a list from server 0 to server d, over no failed link
record Row (s : Shape) (d : ℕ) (bs : List ℕ) (right : Refusal) : Type 0 where
  held : shape_in (room_for s) ≡ s
  checks : check_answer s (none_failed s) 0 d bs ≡ right

record Rows : Type 0 where
  one-twice : Row (full_room 4 1) 3 one_twice (meeting_at 2 1 1 1)
  last-switch : Row (full_room 4 1) 7 last_switch (meeting_at 2 3 1 2)
  shared-server : Row (full_room 2 3) 15 shared_server (meeting_at 3 2 1 2)
  server-then-switch : Row (full_room 2 3) 15 server_then_switch (meeting_at 2 3 1 3)
  earlier-with-third : Row (full_room 2 3) 15 earlier_with_third (meeting_at 2 3 1 3)
  crosses : Row (full_room 2 2) 7 crossing (meeting_at 2 3 1 1)
  apart : Row (full_room 4 1) 7 (direct ++ other) none
  half_last_switch : Row (shape_of 4 1 2) 7 last_switch (meeting_at 2 3 1 2)
  half_server_first : Row (shape_of 3 2 2) 13 server_first (meeting_at 2 2 1 2)
  half_crosses : Row (shape_of 3 2 2) 13 crossing (meeting_at 2 3 1 1)
  switch-twice : Row (full_room 4 1) 3 (array (0x03 ∷ []) ++ switch_twice) (with_earlier 0 1 (refused_at 29 2 2))
  straight-back : Row (full_room 4 1) 3 (array (0x03 ∷ []) ++ straight_back) (with_earlier 0 0 (refused_at 28 2 2))
  half_round_to_server : Row (shape_of 4 1 2) 3 (array (0x03 ∷ []) ++ round_to_server) (with_earlier 0 1 (refused_at 28 2 5))

rows : Rows
unfolding servers_of bound digits_of address_of digits digit with_digit switch_of ◌or_else◌ shape_refusal server_refusal pair_refusal bit failed live bits_fit fits_levels table_refusal is_in first_where place_in middle filled switch_at hop_to hop_refusal again earlier_of fault ended walk_from walk ends_refusal array_refusal walk_answer arrays disjoint switches_in between parallel same_at meets met_at meets_first meeting first_stop first_meeting first_of first_pair room_refusal list_refusal walks_of check_answer held room_of shape_in
rows =
    record {
      one-twice = record { held = refl; checks = refl };
      last-switch = record { held = refl; checks = refl };
      shared-server = record { held = refl; checks = refl };
      server-then-switch = record { held = refl; checks = refl };
      earlier-with-third = record { held = refl; checks = refl };
      crosses = record { held = refl; checks = refl };
      apart = record { held = refl; checks = refl };
      half_last_switch = record { held = refl; checks = refl };
      half_server_first = record { held = refl; checks = refl };
      half_crosses = record { held = refl; checks = refl };
      switch-twice = record { held = refl; checks = refl };
      straight-back = record { held = refl; checks = refl };
      half_round_to_server = record { held = refl; checks = refl };
    }

-- a call that tells each of them right tells none of them wrong
mismet : {K A R X : Type 0} {post : K → A → R → X → Type 0} {asked : Shape → ℕ → List ℕ → A} {told : R → Refusal} → ((s : Shape) (d : ℕ) (bs : List ℕ) (right : Refusal) → Row s d bs right → (κ : K) (r : R) (x : X) → post κ (asked s d bs) r x → told r ≡ right) → Mismet post asked told
mismet {post = post} {asked} {told} tells =
    record {
      no-hop = no rows.one-twice hop refl;
      earlier_not_told = no rows.one-twice earlier_hop refl;
      routes_exchanged = no rows.one-twice route refl;
      switch_by_hop_0 = no rows.one-twice earlier_hop refl;
      later_switch_by_hop_0 = no rows.one-twice hop refl;
      switches_by_hop_0 = no rows.one-twice hop refl;
      routes_from_0 = no rows.one-twice route refl;
      hops_exchanged = no rows.last-switch hop refl;
      earlier_hop_for_both = no rows.last-switch hop refl;
      later_hop_for_both = no rows.last-switch earlier_hop refl;
      earlier_route_and_hop_exchanged = no rows.last-switch earlier_route refl;
      switches_not_compared = no rows.last-switch number refl;
      hops_that_leave = no rows.shared-server hop refl;
      earlier_hop_that_leaves = no rows.shared-server earlier_hop refl;
      later_hop_that_leaves = no rows.shared-server hop refl;
      places_from_0 = no rows.shared-server hop refl;
      route_before = no rows.shared-server earlier_route refl;
      servers_not_compared = no rows.shared-server number refl;
      switches_before_servers = no rows.server-then-switch hop refl;
      soonest_pair = no rows.earlier-with-third route refl;
      last_pair = no rows.earlier-with-third route refl;
      second_route_first = no rows.crosses hop refl;
      last_meeting = no rows.crosses earlier_hop refl;
      least_of_each = no rows.crosses hop refl;
      destination_is_a_meeting = no rows.apart number refl;
      source_is_a_meeting = no rows.apart number refl;
      half_filled_hops_exchanged = no rows.half_last_switch hop refl;
      half_filled_switch_by_hop_0 = no rows.half_last_switch earlier_hop refl;
      half_filled_switches_before_servers = no rows.half_server_first hop refl;
      half_filled_second_route_first = no rows.half_crosses hop refl;
      half_filled_last_meeting = no rows.half_crosses earlier_hop refl;
      earlier_hop_lost = no rows.switch-twice earlier_hop refl;
      own_route_told = no rows.switch-twice earlier_route refl;
      route_1_told = no rows.switch-twice earlier_route refl;
      route_kept = no rows.switch-twice route refl;
      meeting_before_again = no rows.switch-twice number refl;
      switch_before_server = no rows.straight-back number refl;
      source_is_hop_1 = no rows.straight-back earlier_hop refl;
      half_filled_earlier_hop_lost = no rows.half_round_to_server earlier_hop refl;
    }
  where
    no : {s : Shape} {d : ℕ} {bs : List ℕ} {right wrong : Refusal} → Row s d bs right → (f : Refusal → ℕ) → eqb (f right) (f wrong) ≡ false → NeverTells post (asked s d bs) told wrong
    no {s} {d} {bs} {right} h f n κ r x p = not-told f n (tells s d bs right h κ r x p)

-- ---- any arguments

mischecked : {K A R X : Type 0} {post : K → A → R → X → Type 0} {a : A} {told : R → Refusal} → ((κ : K) (r : R) (x : X) → post κ a r x → Listed (told r)) → Mischecked post a told
mischecked tells =
    record {
      retired_number = λ κ r x p e. (tells κ r x p).retired e;
      earlier_route_of_another = λ κ r x p n. n.1 ((tells κ r x p).route n.0);
      earlier_hop_of_another = λ κ r x p n. n.3 ((tells κ r x p).others n.0 n.1 n.2);
      switch_by_the_source = λ κ r x p n. omega (arith, ((tells κ r x p).switch n.0).0, n.1);
      server_not_before = λ κ r x p n. omega (arith, (tells κ r x p).server n.0, n.1);
      switch_not_before = λ κ r x p n. omega (arith, ((tells κ r x p).switch n.0).1, n.1);
      meeting_without_hop = λ κ r x p n. omega (arith, ((tells κ r x p).meets n.0).0, n.1);
      meeting_without_earlier_hop = λ κ r x p n. omega (arith, ((tells κ r x p).meets n.0).1, n.1);
      meeting_without_earlier_route = λ κ r x p n. omega (arith, ((tells κ r x p).meets n.0).2, n.1);
      meeting_routes_exchanged = λ κ r x p n. omega (arith, ((tells κ r x p).meets n.0).3, n.1);
    }

-- ---- all of them

pub wrong_meetings : (o q : Loan) → Meetings o q
wrong_meetings o q =
    record {
      check_list = mismet (λ s d bs y h κ r x p. p ∙ h.checks);
      bcube_check = mismet (λ s d bs y h κ r x p. in_word (check-small (shape_in (room_for s)) (none_failed s) 0 d bs) p ∙ ap (λ (z : Shape). check_answer z (none_failed s) 0 d bs) h.held ∙ h.checks);
      any_check_list = λ s t a d bs. mischecked (λ κ r x p. subst Listed (sym p) (listed-check s t a d bs));
      any_bcube_check = λ c t a d bs. mischecked (λ κ r x p. subst Listed (sym (in_word (check-small (shape_in c) t a d bs) p)) (listed-check (shape_in c) t a d bs));
    }
