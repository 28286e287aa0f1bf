-- What every refusal of a route says of an earlier hop, and every refusal of a list of an earlier route.
use Prim.Native.Nat.{ℕ, zero, suc, ◌+◌, ◌/◌, ◌<◌}
use mathlib.Core.Path.{◌≡◌, refl, sym, ap, ◌∙◌, subst}
use mathlib.Core.Logic.{◌≢◌}
use mathlib.Core.Bool.{Bool, true, false, false≢true, not, cond, ◌||◌}
use mathlib.Core.List.{List, [], ◌∷◌, ◌++◌, map}
use native.Mathlib.Omega.{arith}
use lib.Dec.{eqb}
use lib.ListN.{length, get_or}
use Rattle.lists.specs.Lists.{is_in}
use Rattle.lists.proofs.ListLaws.{length_snoc}
use Rattle.lists.proofs.FirstPlaces.{place-in}
use Rattle.refusals.specs.Refusals.{Refusal, none, plain, refused_at, of_route, earlier_route, earlier_hop, ◌or_else◌, ◌unless◌, answer}
use Rattle.refusals.proofs.NumberLaws.{test_one, chain_one, one_passes}
use Rattle.room.specs.declared.Shape.{Shape}
use Rattle.room.specs.Addresses.{differing}
use Rattle.links.specs.Table.{live, room_refusal}
use Rattle.links.proofs.NumberLaws.{room-numbers}
use Rattle.path.specs.Told.{Walked, Writing}
use Rattle.path.specs.Routes.{level_of, switch_at, switch_to}
use Rattle.path.specs.Walks.{Walk, stopped, arrived, hop_to, hop_refusal, again, stops_at, fault, ended, walk_from, walk, write_fault, write_from, single}
use Rattle.path.specs.Answers.{no_walk, walked, walk_answer, no_writing, array_refusal, read_answer, reversed, reverse_answer, write_refusal, written, on_the_way, write_answer}
use Rattle.path.proofs.NumberLaws.{hop-numbers, array-numbers, write-numbers}
use Rattle.path.proofs.RepeatLaws.{again-new, again-server, again-switch, earlier-server, earlier-switch, earlier-none}
use Rattle.verdict.specs.Checks.{arrays, parallel, meeting, first_stop, first_meeting, first_of, first_pair, list_refusal, walks_of, check_answer}
use Rattle.verdict.proofs.NumberLaws.{list-numbers}
use Rattle.driver.proofs.PathSmall.{either}
use Rattle.laying.specs.Answers.{lay_refusal}
use Rattle.pick.specs.Picks.{Source, in_fresh, in_kept, nowhere, pick_source, pick_refusal, pick_answer}
use Rattle.pick.specs.Places.{place_of, place_answer}
use Rattle.pick.proofs.NumberLaws.{pick-numbers}
use Rattle.step.specs.Told.{Step}
use Rattle.step.specs.Steps.{step_refusal, at_hop, with_place, no_step, delivery, forwarded, step_answer}
use Rattle.step.proofs.NumberLaws.{step-numbers}

-- ---- refusals of a route

pub record Told (r : Refusal) : Type 0 where
  pub retired : r.number ≢ 12
  pub alone : r.number ≢ 15
  pub route : earlier_route r ≡ 0
  pub others : r.number ≢ 28 → r.number ≢ 29 → earlier_hop r ≡ 0
  pub server : r.number ≡ 28 → earlier_hop r < r.hop
  pub switch : r.number ≡ 29 → (0 < earlier_hop r) × (earlier_hop r < r.hop)

-- whether a number names nothing earlier, and is not 12
abbrev pub bare : ℕ → Bool
bare q = not (eqb q 12 || (eqb q 15 || (eqb q 28 || eqb q 29)))

pub bare_not : (q m : ℕ) → bare q ≡ true → bare m ≡ false → q ≢ m
bare_not q m e f p = false≢true (sym f ∙ ap bare (sym p) ∙ e)

told_at : (q i h : ℕ) → bare q ≡ true → Told (refused_at q i h)
told_at q i h e =
    record {
      retired = bare_not q 12 e refl;
      alone = bare_not q 15 e refl;
      route = refl;
      others = λ n m. refl;
      server = λ p. absurd (bare_not q 28 e refl p);
      switch = λ p. absurd (bare_not q 29 e refl p);
    }

told_none : Told none
told_none = told_at 0 0 0 refl

-- hop h + 1 to server b over switch w, of a route of h hops: p refuses it, or what comes again does
module _ (h : ℕ) (met used : List ℕ) (b w : ℕ) (m : length met ≡ h + 1) (u : length used ≡ h) where
  hop_bare : (q : ℕ) → bare q ≡ true → Told (stops_at q (h + 1) met used b w)
  hop_bare q e =
      let n = earlier-none met used b w q (bare_not q 28 e refl) (bare_not q 29 e refl) in
      record {
        retired = bare_not q 12 e refl;
        alone = bare_not q 15 e refl;
        route = refl;
        others = λ i j. n;
        server = λ p. absurd (bare_not q 28 e refl p);
        switch = λ p. absurd (bare_not q 29 e refl p);
      }

  hop-server : is_in b met ≡ true → Told (stops_at 28 (h + 1) met used b w)
  hop-server e =
      record {
        retired = λ p. omega (arith, p);
        alone = λ p. omega (arith, p);
        route = refl;
        others = λ n k. absurd (n refl);
        server = λ p. omega (arith, earlier-server met used b w, place-in b met e, m);
        switch = λ p. let z : ⊥ = omega (arith, p) in absurd z;
      }

  hop-switch : is_in w used ≡ true → Told (stops_at 29 (h + 1) met used b w)
  hop-switch e =
      record {
        retired = λ p. omega (arith, p);
        alone = λ p. omega (arith, p);
        route = refl;
        others = λ n k. absurd (k refl);
        server = λ p. let z : ⊥ = omega (arith, p) in absurd z;
        switch = λ p. (omega (arith, earlier-switch met used b w), omega (arith, earlier-switch met used b w, place-in w used e, u));
      }

  told-again : Told (stops_at (again met used b w) (h + 1) met used b w)
  told-again = go (is_in b met) (is_in w used) refl refl
    where
      P : ℕ → Type 0
      P r = Told (stops_at r (h + 1) met used b w)

      go : (x y : Bool) → is_in b met ≡ x → is_in w used ≡ y → P (again met used b w)
      go true y e f = subst P (sym (again-server met used b w e)) (hop-server e)
      go false true e f = subst P (sym (again-switch met used b w e f)) (hop-switch f)
      go false false e f = subst P (sym (again-new met used b w e f)) (hop_bare 0 refl)

  told-hop : (p : ℕ) → bare p ≡ true → Told (stops_at (p or_else again met used b w) (h + 1) met used b w)
  unfolding ◌or_else◌
  told-hop zero e = told-again
  told-hop (suc p) e = hop_bare (suc p) e

-- ---- what is so of each answer

answer_so : {X : Type 0} (P : X → Type 0) (q : ℕ) (refused : ℕ → X) (x : X) → bare q ≡ true → ((r : ℕ) → bare r ≡ true → P (refused r)) → P x → P (answer q refused x)
answer_so P zero refused x e f p = p
answer_so P (suc q) refused x e f p = f (suc q) e

-- ---- walking

abbrev Walks : Walk → Type 0
Walks w = Told (walked w).refusal

told-ended : (h : ℕ) (met used bs : List ℕ) → Walks (ended h met used bs)
unfolding ended
told-ended h met used [] = told_none
told-ended h met used (b ∷ bs) =
    either Walks (eqb b 0) (ended (h + 1) met used bs) (stopped (refused_at 14 1 (h + 1))) (told-ended (h + 1) met used bs) (told_at 14 1 (h + 1) refl)

told-from : (s : Shape) (t : List ℕ) (d h : ℕ) (met used : List ℕ) (a : ℕ) (bs : List ℕ) → length met ≡ h + 1 → length used ≡ h → Walks (walk_from s t d h met used a bs)
unfolding walk_from fault
told-from s t d h met used a [] m u = told_at 13 1 8 refl
told-from s t d h met used a (b ∷ bs) m u =
    let r = fault s t met used a b in
    let next = hop_to s a b in
    let switch = switch_at s (level_of b) a in
    let met' = met ++ (next ∷ []) in
    let used' = used ++ (switch ∷ []) in
    let p = hop_refusal s a b or_else 11 unless live t (level_of b) a next in
    let e = ended (h + 1) met' used' bs in
    let w = walk_from s t d (h + 1) met' used' next bs in
    either Walks (eqb r 0) (cond (eqb next d) e w) (stopped (stops_at r (h + 1) met used next switch))
    (either Walks (eqb next d) e w (told-ended (h + 1) met' used' bs)
    (told-from s t d (h + 1) met' used' next bs (omega (arith, length_snoc met next)) (omega (arith, length_snoc used switch))))
    (told-hop h met used next switch m u p (one_passes bare refl refl (chain_one _ _ (hop-numbers s a b) (test_one 11 (live t (level_of b) a next)))))

pub told-walk : (s : Shape) (t : List ℕ) (a d : ℕ) (bs : List ℕ) → Told (walk_answer s t a d bs).refusal
unfolding walk_answer walk
told-walk s t a d bs =
    answer_so (λ (w : Walked). Told w.refusal) (array_refusal s a d bs) (λ r. no_walk (plain r)) (walked (walk s t a d bs))
    (one_passes bare refl refl (array-numbers s a d bs))
    (λ r. told_at r 0 0)
    (told-from s t d 0 (a ∷ []) [] a bs refl refl)

pub told_lay : (s : Shape) (t : List ℕ) (a d : ℕ) (bs : List ℕ) → Told (lay_refusal s t a d bs)
unfolding lay_refusal read_answer
told_lay s t a d bs =
    answer_so Told (room_refusal s t a d) plain (walk_answer s [] a d bs).refusal
    (one_passes bare refl refl (room-numbers s t a d))
    (λ r. told_at r 0 0)
    (told-walk s [] a d bs)

-- a reversal is refused as reading is
pub reverse-refusal : (s : Shape) (a d : ℕ) (bs : List ℕ) → (reverse_answer s a d bs).refusal ≡ (walk_answer s [] a d bs).refusal
unfolding reverse_answer walk_answer
reverse-refusal s a d bs = go (array_refusal s a d bs) (walk s [] a d bs)
  where
    go : (q : ℕ) (w : Walk) → (answer q (λ r. no_writing (plain r)) (reversed s w)).refusal ≡ (answer q (λ r. no_walk (plain r)) (walked w)).refusal
    go zero (stopped r) = refl
    go zero (arrived vs ws) = refl
    go (suc q) w = refl

-- ---- writing

told-way : (s : Shape) (h : ℕ) (met used : List ℕ) (a : ℕ) (bs : List ℕ) → length met ≡ h + 1 → length used ≡ h → Told (write_from s h met used a bs)
unfolding write_from write_fault
told-way s h met used a [] m u = told_none
told-way s h met used a (b ∷ bs) m u =
    let r = write_fault s met used a b in
    let switch = switch_to s a b in
    let met' = met ++ (b ∷ []) in
    let used' = used ++ (switch ∷ []) in
    let p = 23 unless single (differing s a b) in
    either Told (eqb r 0) (write_from s (h + 1) met' used' b bs) (stops_at r (h + 1) met used b switch)
    (told-way s (h + 1) met' used' b bs (omega (arith, length_snoc met b)) (omega (arith, length_snoc used switch)))
    (told-hop h met used b switch m u p (one_passes bare refl refl (test_one 23 (single (differing s a b)))))

told-on_the_way : (s : Shape) (vs : List ℕ) → Told (on_the_way s vs)
unfolding on_the_way
told-on_the_way s [] = told_none
told-on_the_way s (a ∷ bs) = told-way s 0 (a ∷ []) [] a bs refl refl

pub told-write : (s : Shape) (vs : List ℕ) → Told (write_answer s vs).refusal
unfolding write_answer
told-write s vs =
    let P : Writing → Type 0 = λ w. Told w.refusal in
    let o = on_the_way s vs in
    answer_so P (write_refusal s vs) (λ r. no_writing (plain r)) (written s vs o)
    (one_passes bare refl refl (write-numbers s vs))
    (λ r. told_at r 0 0)
    (either P (eqb o.number 0) _ (no_writing o) told_none (told-on_the_way s vs))

-- ---- picking and a step, which name nothing earlier

pub record NoneEarlier (r : Refusal) : Type 0 where
  pub number : bare r.number ≡ true
  pub route : earlier_route r ≡ 0
  pub hop : earlier_hop r ≡ 0

bare_plain : (q : ℕ) → bare q ≡ true → NoneEarlier (plain q)
bare_plain q e = record { number = e; route = refl; hop = refl }

module _ (s : Shape) (t : List ℕ) (a d : ℕ) (fs ks : List ℕ) where
  pick_bare : bare (pick_refusal s t a d fs ks) ≡ true
  pick_bare = one_passes bare refl refl (pick-numbers s t a d fs ks)

  pub bare_pick : NoneEarlier (pick_answer s t a d fs ks)
  unfolding pick_answer
  bare_pick = bare_plain _ pick_bare

  pub bare_place : NoneEarlier (place_answer s t a d fs ks).refusal
  unfolding place_answer
  bare_place = go (pick_source s t a d fs ks)
    where
      go : (x : Source) → NoneEarlier (place_of (pick_refusal s t a d fs ks) x).refusal
      go (in_fresh i) = bare_plain 0 refl
      go (in_kept i) = bare_plain 0 refl
      go nowhere = bare_plain _ pick_bare

pub bare_step : (s : Shape) (a d i : ℕ) (bs es : List ℕ) → NoneEarlier (step_answer s a d i bs es).refusal
unfolding step_answer with_place
bare_step s a d i bs es =
    answer_so (λ (y : Step). NoneEarlier y.refusal) (step_refusal s a d i bs es) (λ r. no_step (with_place i r)) _
    (one_passes bare refl refl (step-numbers s a d i bs es))
    (λ r e. either NoneEarlier (at_hop r) (refused_at r 1 (i + 1)) (plain r) (record { number = e; route = refl; hop = refl }) (bare_plain r e))
    (either (λ (y : Step). NoneEarlier y.refusal) (eqb a d) delivery (forwarded s a i es (get_or bs i 0)) (bare_plain 0 refl) (bare_plain 0 refl))

-- ---- refusals of a list

pub record Listed (r : Refusal) : Type 0 where
  pub retired : r.number ≢ 12
  pub route : r.number ≢ 15 → earlier_route r ≡ 0
  pub others : r.number ≢ 15 → r.number ≢ 28 → r.number ≢ 29 → earlier_hop r ≡ 0
  pub server : r.number ≡ 28 → earlier_hop r < r.hop
  pub switch : r.number ≡ 29 → (0 < earlier_hop r) × (earlier_hop r < r.hop)
  pub meets : r.number ≡ 15 → (0 < r.hop) × (0 < earlier_hop r) × (0 < earlier_route r) × (earlier_route r < r.route)

listed-told : (i : ℕ) (r : Refusal) → Told r → Listed (of_route i r)
listed-told i r t =
    record {
      retired = t.retired;
      route = λ n. t.route;
      others = λ n. t.others;
      server = t.server;
      switch = t.switch;
      meets = λ p. absurd (t.alone p);
    }

listed-none : Listed none
listed-none = listed-told 0 none told_none

listed-meeting : (i : ℕ) (u : Walked) (j : ℕ) (v : Walked) → 0 < i → i < j → Listed (meeting i u j v)
unfolding meeting
listed-meeting i u j v o l =
    record {
      retired = λ p. omega (arith, p);
      route = λ n. absurd (n refl);
      others = λ n. absurd (n refl);
      server = λ p. let z : ⊥ = omega (arith, p) in absurd z;
      switch = λ p. let z : ⊥ = omega (arith, p) in absurd z;
      meets = λ p. (omega arith, omega arith, o, l);
    }

listed_stop : (s : Shape) (t : List ℕ) (a d i : ℕ) (bss : List (List ℕ)) → Listed (first_stop i (map (walk_answer s t a d) bss))
unfolding first_stop
listed_stop s t a d i [] = listed-none
listed_stop s t a d i (bs ∷ bss) =
    let w = walk_answer s t a d bs in
    either Listed (eqb w.refusal.number 0) (first_stop (i + 1) (map (walk_answer s t a d) bss)) (of_route i w.refusal)
    (listed_stop s t a d (i + 1) bss)
    (listed-told i w.refusal (told-walk s t a d bs))

listed-met : (i : ℕ) (w : Walked) (j : ℕ) (vs : List Walked) → 0 < i → i < j → Listed (first_meeting i w j vs)
unfolding first_meeting
listed-met i w j [] o l = listed-none
listed-met i w j (v ∷ vs) o l =
    either Listed (parallel w v) (first_meeting i w (j + 1) vs) (meeting i w j v) (listed-met i w (j + 1) vs o (omega arith)) (listed-meeting i w j v o l)

listed-first : (r q : Refusal) → Listed r → Listed q → Listed (first_of r q)
unfolding first_of
listed-first r q x y = either Listed (eqb r.number 0) q r y x

listed_pair : (i : ℕ) (ws : List Walked) → 0 < i → Listed (first_pair i ws)
unfolding first_pair
listed_pair i [] o = listed-none
listed_pair i (w ∷ ws) o = listed-first _ _ (listed-met i w (i + 1) ws o (omega arith)) (listed_pair (i + 1) ws (omega arith))

pub listed-check : (s : Shape) (t : List ℕ) (a d : ℕ) (bs : List ℕ) → Listed (check_answer s t a d bs)
unfolding check_answer walks_of
listed-check s t a d bs =
    let ws = map (walk_answer s t a d) (arrays (length bs / 8) bs) in
    answer_so Listed (list_refusal s t a d bs) plain (first_of (first_stop 1 ws) (first_pair 1 ws))
    (one_passes bare refl refl (list-numbers s t a d bs))
    (λ r e. listed-told 0 (plain r) (told_at r 0 0 e))
    (listed-first _ _ (listed_stop s t a d 1 (arrays (length bs / 8) bs)) (listed_pair 1 ws (omega arith)))
