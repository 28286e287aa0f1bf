-- A server or a switch that comes on a route again, wrongly told, refuted of every call: each route's refusal is computed once, and what
-- each call tells is that refusal.
use Prim.Native.Nat.{ℕ}
use mathlib.Core.Path.{◌≡◌, refl, sym, ap, ◌∙◌, subst}
use mathlib.Core.Bool.{false}
use mathlib.Core.List.{List, [], ◌∷◌}
use native.Mathlib.Omega.{arith}
use lib.Dec.{eqb}
use lib.ListN.{get_or}
use Rattle.lists.specs.Lists.{is_in, first_where, place_in, filled}
use Rattle.refusals.specs.Refusals.{Refusal, plain, refused_at, earlier_route, earlier_hop, ◌or_else◌}
use Rattle.refusals.proofs.AnswerLaws.{answer-none}
use Rattle.room.specs.declared.Shape.{Shape}
use Rattle.room.specs.Shapes.{servers_of, bound, shape_of, full_room}
use Rattle.room.specs.Digits.{digits_of, address_of, differ_from}
use Rattle.room.specs.Addresses.{digits, digit, with_digit, switch_of, differing}
use Rattle.room.specs.Refusals.{shape_refusal, server_refusal, pair_refusal, ends_refusal}
use Rattle.links.specs.Table.{bit, failed, live, bits_fit, fits_levels, table_refusal, room_refusal}
use Rattle.path.specs.Told.{Walked, Reading, Writing}
use Rattle.path.specs.Routes.{switch_at, level_to, switch_to}
use Rattle.path.specs.Walks.{hop_to, hop_refusal, again, earlier_of, fault, ended, walk_from, walk, write_fault, write_from}
use Rattle.path.specs.Answers.{array_refusal, walk_answer, read_answer, reverse_answer, servers_refusal, write_refusal, on_the_way, write_answer}
use Rattle.verdict.specs.Checks.{arrays, first_stop, first_of, list_refusal, walks_of, check_answer}
use Rattle.laying.specs.Answers.{lay_refusal}
use Rattle.pick.specs.Told.{Place}
use Rattle.pick.specs.Places.{place_answer}
use Rattle.step.specs.Told.{Step}
use Rattle.driver.specs.declared.Answer.{Answer}
use Rattle.driver.specs.Rooms.{held, room_of, shape_in}
use Rattle.driver.specs.Words.{word, refusal_in, Small, left}
use Rattle.driver.specs.Packed.{unpacked}
use Rattle.driver.proofs.WordLaws.{refusal-back, left_lent}
use Rattle.driver.proofs.PackLaws.{step_unpacks}
use Rattle.driver.proofs.PickSmall.{pick_small}
use Rattle.driver.proofs.PathSmall.{read_small, reverse-small, write-small, check-small}
use Rattle.wrong.specs.Never.{NeverTells, Loan}
use Rattle.wrong.specs.Examples.{none_failed, switch_twice, straight_back, round_to_source, round_to_server, switch_later, eight_round, stale}
use Rattle.wrong.specs.Again.{with_hop, room_for, Misread, Miswritten, Misnamed, Overtold, Again}
use Rattle.wrong.proofs.Clash.{differ, clash_left}
use Rattle.wrong.proofs.Earlier.{Told, told-walk, told_lay, told-write, reverse-refusal, bare_not, NoneEarlier, bare_pick, bare_place, bare_step}

-- a word tells the refusal that it was made of
pub in_word : {r : Refusal} {v : ℕ} {w : Answer} → Small r v → w ≡ word r v → refusal_in w ≡ r
in_word {r} {v} h e = ap refusal_in e ∙ refusal-back r v h

-- what is told is right, so it is not this
pub not-told : {told right wrong : Refusal} (f : Refusal → ℕ) → eqb (f right) (f wrong) ≡ false → told ≡ right → told ≡ wrong → ⊥
not-told f n p e = differ f n (sym p ∙ e)

abbrev number : Refusal → ℕ
number y = y.number

abbrev hop : Refusal → ℕ
hop y = y.hop

-- ---- routes read

-- how path bytes from server 0 to server d are refused, over no failed link
record Row (s : Shape) (d : ℕ) (bs : List ℕ) (right : Refusal) : Type 0 where
  room : room_refusal s (none_failed s) 0 d ≡ 0
  held : shape_in (room_for s) ≡ s
  walks : (walk_answer s [] 0 d bs).refusal ≡ right
  checks : check_answer s (none_failed s) 0 d bs ≡ right

record ReadRows : Type 0 where
  switch-twice : Row (full_room 4 1) 3 switch_twice (with_hop 29 2 1)
  straight-back : Row (full_room 4 1) 3 straight_back (with_hop 28 2 0)
  round-to-source : Row (full_room 4 1) 3 round_to_source (with_hop 28 4 0)
  round-to-server : Row (full_room 4 1) 15 round_to_server (with_hop 28 5 1)
  switch-later : Row (full_room 4 1) 15 switch_later (with_hop 29 5 1)
  eight-round : Row (full_room 4 1) 2 eight_round (with_hop 28 8 0)
  half_straight_back : Row (shape_of 4 1 2) 3 straight_back (with_hop 28 2 0)
  half_round_to_source : Row (shape_of 4 1 2) 3 round_to_source (with_hop 28 4 0)
  half_round_to_server : Row (shape_of 4 1 2) 7 round_to_server (with_hop 28 5 1)
  half_switch_later : Row (shape_of 4 1 2) 7 switch_later (with_hop 29 5 1)

read_rows : ReadRows
unfolding servers_of bound digits_of address_of digits digit with_digit switch_of ◌or_else◌ shape_refusal server_refusal pair_refusal bit failed live bits_fit fits_levels table_refusal is_in first_where place_in filled switch_at hop_to hop_refusal again earlier_of fault ended walk_from walk ends_refusal array_refusal walk_answer arrays first_stop first_of room_refusal list_refusal walks_of check_answer held room_of shape_in
read_rows =
    record {
      switch-twice = record { room = refl; held = refl; walks = refl; checks = refl };
      straight-back = record { room = refl; held = refl; walks = refl; checks = refl };
      round-to-source = record { room = refl; held = refl; walks = refl; checks = refl };
      round-to-server = record { room = refl; held = refl; walks = refl; checks = refl };
      switch-later = record { room = refl; held = refl; walks = refl; checks = refl };
      eight-round = record { room = refl; held = refl; walks = refl; checks = refl };
      half_straight_back = record { room = refl; held = refl; walks = refl; checks = refl };
      half_round_to_source = record { room = refl; held = refl; walks = refl; checks = refl };
      half_round_to_server = record { room = refl; held = refl; walks = refl; checks = refl };
      half_switch_later = record { room = refl; held = refl; walks = refl; checks = refl };
    }

module _ {s : Shape} {d : ℕ} {bs : List ℕ} {right : Refusal} (h : Row s d bs right) where
  reverses : (reverse_answer s 0 d bs).refusal ≡ right
  reverses = reverse-refusal s 0 d bs ∙ h.walks

  lays : lay_refusal s (none_failed s) 0 d bs ≡ right
  unfolding lay_refusal read_answer
  lays = answer-none (room_refusal s (none_failed s) 0 d) plain (walk_answer s [] 0 d bs).refusal (sym h.room) ∙ h.walks

  -- the same in the room that C holds
  held_walks : (walk_answer (shape_in (room_for s)) [] 0 d bs).refusal ≡ right
  held_walks = ap (λ (z : Shape). (walk_answer z [] 0 d bs).refusal) h.held ∙ h.walks

  held_reverses : (reverse_answer (shape_in (room_for s)) 0 d bs).refusal ≡ right
  held_reverses = reverse-refusal (shape_in (room_for s)) 0 d bs ∙ held_walks

  held_checks : check_answer (shape_in (room_for s)) (none_failed s) 0 d bs ≡ right
  held_checks = ap (λ (z : Shape). check_answer z (none_failed s) 0 d bs) h.held ∙ h.checks

-- a call that tells each of them right tells none of them wrong
misread : {K A R X : Type 0} {post : K → A → R → X → Type 0} {asked : Shape → ℕ → List ℕ → A} {told : R → Refusal} → ((s : Shape) (d : ℕ) (bs : List ℕ) (right : Refusal) → Row s d bs right → (κ : K) (r : R) (x : X) → post κ (asked s d bs) r x → told r ≡ right) → Misread post asked told
misread {post = post} {asked} {told} tells =
    record {
      switch_by_hop_0 = no read_rows.switch-twice earlier_hop refl;
      switch_by_the_next_hop = no read_rows.switch-twice earlier_hop refl;
      server_for_switch = no read_rows.switch-twice number refl;
      earlier_route_1 = no read_rows.switch-twice earlier_route refl;
      earlier_hop_as_route = no read_rows.switch-twice earlier_route refl;
      arrival_before_switch = no read_rows.switch-twice number refl;
      switch_before_server = no read_rows.straight-back number refl;
      server_by_the_switch = no read_rows.straight-back earlier_hop refl;
      source_is_hop_1 = no read_rows.round-to-source earlier_hop refl;
      source_not_met = no read_rows.round-to-source number refl;
      switch_for_server = λ g. no read_rows.round-to-source number refl;
      hops_exchanged = no read_rows.round-to-server hop refl;
      server_by_the_hop_that_left = no read_rows.round-to-server earlier_hop refl;
      server_by_hop_0 = no read_rows.round-to-server earlier_hop refl;
      later_hop_from_0 = no read_rows.round-to-server hop refl;
      server_for_a_later_switch = no read_rows.switch-later number refl;
      later_switch_by_hop_0 = no read_rows.switch-later earlier_hop refl;
      hops_ago = no read_rows.switch-later earlier_hop refl;
      thirteen_before_server = no read_rows.eight-round number refl;
      half_filled_switch_by_hop_0 = no read_rows.half_switch_later earlier_hop refl;
      half_filled_switch_before_server = no read_rows.half_straight_back number refl;
      half_filled_source_is_hop_1 = no read_rows.half_round_to_source earlier_hop refl;
      half_filled_hop_that_left = no read_rows.half_round_to_server earlier_hop refl;
    }
  where
    no : {s : Shape} {d : ℕ} {bs : List ℕ} {right wrong : Refusal} → Row s d bs right → (f : Refusal → ℕ) → eqb (f right) (f wrong) ≡ false → NeverTells post (asked s d bs) told wrong
    no {s} {d} {bs} {right} h f n κ r x p = not-told f n (tells s d bs right h κ r x p)

-- ---- routes written

record WriteRow (s : Shape) (vs : List ℕ) (right : Refusal) : Type 0 where
  held : shape_in (room_for s) ≡ s
  writes : (write_answer s vs).refusal ≡ right

record WriteRows : Type 0 where
  switch-twice : WriteRow (full_room 4 1) (0 ∷ 1 ∷ 3 ∷ []) (with_hop 29 2 1)
  straight-back : WriteRow (full_room 4 1) (0 ∷ 1 ∷ 0 ∷ 3 ∷ []) (with_hop 28 2 0)
  round-to-source : WriteRow (full_room 4 1) (0 ∷ 1 ∷ 5 ∷ 4 ∷ 0 ∷ 3 ∷ []) (with_hop 28 4 0)
  round-to-server : WriteRow (full_room 4 1) (0 ∷ 1 ∷ 5 ∷ 6 ∷ 2 ∷ 1 ∷ 9 ∷ []) (with_hop 28 5 1)
  switch-later : WriteRow (full_room 4 1) (0 ∷ 1 ∷ 5 ∷ 6 ∷ 2 ∷ 3 ∷ 7 ∷ []) (with_hop 29 5 1)
  same_ends : WriteRow (full_room 4 1) (0 ∷ 1 ∷ 5 ∷ 4 ∷ 0 ∷ []) (plain 5)
  no_neighbour : WriteRow (full_room 4 1) (0 ∷ 1 ∷ 5 ∷ 0 ∷ 7 ∷ []) (refused_at 23 1 3)
  then_no_neighbour : WriteRow (full_room 4 1) (0 ∷ 1 ∷ 0 ∷ 7 ∷ []) (with_hop 28 2 0)
  half_switch_twice : WriteRow (shape_of 4 1 2) (0 ∷ 1 ∷ 3 ∷ []) (with_hop 29 2 1)
  half_straight_back : WriteRow (shape_of 4 1 2) (0 ∷ 1 ∷ 0 ∷ 3 ∷ []) (with_hop 28 2 0)
  half_round_to_source : WriteRow (shape_of 4 1 2) (0 ∷ 1 ∷ 5 ∷ 4 ∷ 0 ∷ 3 ∷ []) (with_hop 28 4 0)

write_rows : WriteRows
unfolding servers_of bound digits_of address_of differ_from digits digit switch_of differing ◌or_else◌ shape_refusal server_refusal is_in first_where place_in switch_at level_to switch_to again earlier_of write_fault write_from servers_refusal write_refusal on_the_way write_answer held room_of shape_in
write_rows =
    record {
      switch-twice = record { held = refl; writes = refl };
      straight-back = record { held = refl; writes = refl };
      round-to-source = record { held = refl; writes = refl };
      round-to-server = record { held = refl; writes = refl };
      switch-later = record { held = refl; writes = refl };
      same_ends = record { held = refl; writes = refl };
      no_neighbour = record { held = refl; writes = refl };
      then_no_neighbour = record { held = refl; writes = refl };
      half_switch_twice = record { held = refl; writes = refl };
      half_straight_back = record { held = refl; writes = refl };
      half_round_to_source = record { held = refl; writes = refl };
    }

held_writes : {s : Shape} {vs : List ℕ} {right : Refusal} → WriteRow s vs right → (write_answer (shape_in (room_for s)) vs).refusal ≡ right
held_writes {vs = vs} h = ap (λ (z : Shape). (write_answer z vs).refusal) h.held ∙ h.writes

miswritten : {K A R X : Type 0} {post : K → A → R → X → Type 0} {asked : Shape → List ℕ → A} {told : R → Refusal} → ((s : Shape) (vs : List ℕ) (right : Refusal) → WriteRow s vs right → (κ : K) (r : R) (x : X) → post κ (asked s vs) r x → told r ≡ right) → Miswritten post asked told
miswritten {post = post} {asked} {told} tells =
    record {
      switch_by_hop_0 = no write_rows.switch-twice earlier_hop refl;
      switch_by_the_next_hop = no write_rows.switch-twice earlier_hop refl;
      server_for_switch = no write_rows.switch-twice number refl;
      earlier_route_1 = no write_rows.switch-twice earlier_route refl;
      earlier_hop_as_route = no write_rows.switch-twice earlier_route refl;
      switch_twice_written = no write_rows.switch-twice number refl;
      switch_before_server = no write_rows.straight-back number refl;
      server_by_the_switch = no write_rows.straight-back earlier_hop refl;
      source_is_hop_1 = no write_rows.round-to-source earlier_hop refl;
      servers_for_hops = no write_rows.round-to-source hop refl;
      source_not_met = no write_rows.round-to-source number refl;
      switch_for_server = λ g. no write_rows.round-to-source number refl;
      hops_exchanged = no write_rows.round-to-server hop refl;
      server_by_the_hop_that_left = no write_rows.round-to-server earlier_hop refl;
      server_for_a_later_switch = no write_rows.switch-later number refl;
      later_switch_by_hop_0 = no write_rows.switch-later earlier_hop refl;
      server_before_same_ends = no write_rows.same_ends number refl;
      server_before_neighbours = no write_rows.no_neighbour number refl;
      neighbours_of_all_first = no write_rows.then_no_neighbour number refl;
      half_filled_switch_by_hop_0 = no write_rows.half_switch_twice earlier_hop refl;
      half_filled_switch_before_server = no write_rows.half_straight_back number refl;
      half_filled_source_is_hop_1 = no write_rows.half_round_to_source earlier_hop refl;
    }
  where
    no : {s : Shape} {vs : List ℕ} {right wrong : Refusal} → WriteRow s vs right → (f : Refusal → ℕ) → eqb (f right) (f wrong) ≡ false → NeverTells post (asked s vs) told wrong
    no {s} {vs} {right} h f n κ r x p = not-told f n (tells s vs right h κ r x p)

-- ---- any arguments

misnamed : {K A R X : Type 0} {post : K → A → R → X → Type 0} {a : A} {told : R → Refusal} → ((κ : K) (r : R) (x : X) → post κ a r x → Told (told r)) → Misnamed post a told
misnamed tells =
    record {
      retired_number = λ κ r x p e. (tells κ r x p).retired e;
      earlier-route = λ κ r x p n. n (tells κ r x p).route;
      earlier_hop_of_another = λ κ r x p n. n.2 ((tells κ r x p).others n.0 n.1);
      switch_by_the_source = λ κ r x p n. omega (arith, ((tells κ r x p).switch n.0).0, n.1);
      server_not_before = λ κ r x p n. omega (arith, (tells κ r x p).server n.0, n.1);
      switch_not_before = λ κ r x p n. omega (arith, ((tells κ r x p).switch n.0).1, n.1);
    }

overtold : {K A R X : Type 0} {post : K → A → R → X → Type 0} {a : A} {told : R → Refusal} → ((κ : K) (r : R) (x : X) → post κ a r x → NoneEarlier (told r)) → Overtold post a told
overtold {told = told} tells =
    record {
      retired_number = λ κ r x p. bare_not (told r).number 12 (tells κ r x p).number refl;
      meeting = λ κ r x p. bare_not (told r).number 15 (tells κ r x p).number refl;
      server_again = λ κ r x p. bare_not (told r).number 28 (tells κ r x p).number refl;
      switch_again = λ κ r x p. bare_not (told r).number 29 (tells κ r x p).number refl;
      earlier-route = λ κ r x p n. n (tells κ r x p).route;
      earlier-hop = λ κ r x p n. n (tells κ r x p).hop;
    }

-- what is told of this answer, whether by itself or in a word
told_of : {X : Type 0} (refusal : X → Refusal) {x y : X} → x ≡ y → Told (refusal y) → Told (refusal x)
told_of refusal e h = subst (λ z. Told (refusal z)) (sym e) h

told_in : {w : Answer} {r : Refusal} {v : ℕ} → Small r v → w ≡ word r v → Told r → Told (refusal_in w)
told_in s e h = subst Told (sym (in_word s e)) h

told-reverse : (s : Shape) (a d : ℕ) (bs : List ℕ) → Told (reverse_answer s a d bs).refusal
told-reverse s a d bs = subst Told (sym (reverse-refusal s a d bs)) (told-walk s [] a d bs)

-- a buffer keeps its bytes where the call is refused
kept : {now bs : List ℕ} {y right : Refusal} (lent put : List ℕ) (i : ℕ) → y ≡ right → eqb right.number 0 ≡ false → eqb (get_or lent i 0) (get_or bs i 0) ≡ false → now ≡ left y.number lent put → now ≡ bs → ⊥
kept {y = y} lent put i e n m p =
    clash_left i m (p ∙ sym (left_lent y.number lent put (λ z. differ (λ x. x) n (sym (ap number e) ∙ z))))

-- ---- all of them

pub wrong-again : (o q b : Loan) → Again o q b
unfolding read_answer
wrong-again o q b =
    record {
      walk = misread (λ s d bs y h κ r x p. ap (λ (z : Walked). z.refusal) p ∙ h.walks);
      read_path = misread (λ s d bs y h κ r x p. ap (λ (z : Reading). z.refusal) p ∙ h.walks);
      reverse_path = misread (λ s d bs y h κ r x p. ap (λ (z : Writing). z.refusal) p ∙ reverses h);
      lay_route = misread (λ s d bs y h κ r x p. p.refusal ∙ lays h);
      check_list = misread (λ s d bs y h κ r x p. p ∙ h.checks);
      write_path = miswritten (λ s vs y h κ r x p. ap (λ (z : Writing). z.refusal) p ∙ h.writes);
      bcube_read = misread (λ s d bs y h κ r x p. in_word (read_small (shape_in (room_for s)) 0 d bs) p.0 ∙ held_walks h);
      bcube_reverse = misread (λ s d bs y h κ r x p. in_word (reverse-small (shape_in (room_for s)) 0 d bs) p.0 ∙ held_reverses h);
      bcube_check = misread (λ s d bs y h κ r x p. in_word (check-small (shape_in (room_for s)) (none_failed s) 0 d bs) p ∙ held_checks h);
      bcube_write = miswritten (λ s vs y h κ r x p. in_word (write-small (shape_in (room_for s)) vs) p.0 ∙ held_writes h);
      any_walk = λ s t a d bs. misnamed (λ κ r x p. told_of (λ (y : Walked). y.refusal) p (told-walk s t a d bs));
      any_read_path = λ s a d bs. misnamed (λ κ r x p. told_of (λ (y : Reading). y.refusal) p (told-walk s [] a d bs));
      any_reverse_path = λ s a d bs. misnamed (λ κ r x p. told_of (λ (y : Writing). y.refusal) p (told-reverse s a d bs));
      any_lay_route = λ s t a d bs. misnamed (λ κ r x p. told_of (λ y. y) p.refusal (told_lay s t a d bs));
      any_write_path = λ s vs. misnamed (λ κ r x p. told_of (λ (y : Writing). y.refusal) p (told-write s vs));
      any_bcube_read = λ c a d bs lent. misnamed (λ κ r x p. told_in (read_small (shape_in c) a d bs) p.0 (told-walk (shape_in c) [] a d bs));
      any_bcube_reverse = λ c a d bs lent. misnamed (λ κ r x p. told_in (reverse-small (shape_in c) a d bs) p.0 (told-reverse (shape_in c) a d bs));
      any_bcube_write = λ c vs lent. misnamed (λ κ r x p. told_in (write-small (shape_in c) vs) p.0 (told-write (shape_in c) vs));
      any_pick_place = λ s t a d fs ks. overtold (λ κ r x p. subst (λ (y : Place). NoneEarlier y.refusal) (sym p) (bare_place s t a d fs ks));
      any_pick_refusal = λ s t a d fs ks. overtold (λ κ r x p. subst NoneEarlier (sym p) (bare_pick s t a d fs ks));
      any_step_once = λ s a d i bs es. overtold (λ κ r x p. subst (λ (y : Step). NoneEarlier y.refusal) (sym p) (bare_step s a d i bs es));
      any_bcube_pick = λ c t a d fs ks. overtold (λ κ r x p. subst NoneEarlier (sym (in_word (pick_small (shape_in c) t a d fs ks (place_answer (shape_in c) t a d fs ks) refl) p)) (bare_place (shape_in c) t a d fs ks));
      any_bcube_step = λ c a d i bs es h. overtold (λ κ r x p. subst (λ (y : Step). NoneEarlier y.refusal) (sym (ap unpacked p ∙ step_unpacks (shape_in c) a d i bs es h)) (bare_step (shape_in c) a d i bs es));
      read_touched = λ κ r x p. kept (stale 9) (read_answer (shape_in (room_of 4 1 4)) 0 3 switch_twice).servers 0 (held_walks read_rows.switch-twice) refl refl p.1;
      reverse_touched = λ κ r x p. kept (stale 8) (reverse_answer (shape_in (room_of 4 1 4)) 0 3 straight_back).bytes 0 (held_reverses read_rows.straight-back) refl refl p.1;
      write_touched = λ κ r x p. kept (stale 8) (write_answer (shape_in (room_of 4 1 4)) (0 ∷ 1 ∷ 3 ∷ [])).bytes 0 (held_writes write_rows.switch-twice) refl refl p.1;
      lay_touched = λ κ r x p. clash_left 0 refl (p.kept (λ z. differ (λ x. x) refl (sym z ∙ ap number (p.refusal ∙ lays read_rows.switch-twice))));
    }
