-- Reading, writing and reversing undo each other: what each call answers without refusal is exactly the routes and their bytes.
use Prim.Native.Nat.{ℕ, zero, suc, ◌+◌, ◌-◌, ◌≤◌, ◌<◌, zero-le, suc-le-suc}
use mathlib.Core.Path.{◌≡◌, refl, sym, ap, ap₂, ◌∙◌, subst}
use mathlib.Core.Logic.{◌≢◌, ◌↔◌}
use mathlib.Core.Bool.{true, false≢true, not, ◌&&◌}
use mathlib.Core.List.{List, [], ◌∷◌, ◌++◌, append-nil, reverse, reverse-reverse}
use native.Mathlib.Nat.{add-zero, le_of_suc-le-suc}
use native.Mathlib.Omega.{arith}
use native.Mathlib.Decide.{dec_lt, ℕ_discrete}
use lib.ListN.{length, get_or, take, replicate, length-reverse}
use lib.Seq.{append_snoc}
use lib.Dec.{leb, eqb}
use borrow.Author.Tests.{eq-eqb, ne_eqb, eqb-true, eqb-false, leb-true, le-leb, not-true}
use Rattle.lists.proofs.ListLaws.{both_held, length_snoc, snoc_last, length_turn, turn_at, length-filled, take-filled, filled_at, filled-past}
use Rattle.lists.specs.Lists.{is_in, in_turn, filled}
use Rattle.refusals.specs.Refusals.{Refusal}
use Rattle.refusals.specs.Refusals.{none, plain, refused_at, ◌or_else◌, ◌unless◌}
use Rattle.refusals.proofs.ChainLaws.{or_else_zero, chain_goes, test_held}
use Rattle.refusals.proofs.AnswerLaws.{answered, answer-none}
use Rattle.room.specs.declared.Shape.{Shape}
use Rattle.room.specs.Shapes.{full_room, servers_of, bound, Server, Ends}
use Rattle.room.specs.Digits.{digits_of, address_of}
use Rattle.room.specs.Addresses.{digits, digit, with_digit, switch_of, differing}
use Rattle.room.specs.Refusals.{shape_refusal, server_refusal, pair_refusal, ends_refusal}
use Rattle.room.proofs.RefusalLaws.{valid-none, server_of, server-none, ends_of, ends_none}
use Rattle.room.proofs.RoomLaws.{neighbours-exactly}
use Rattle.links.specs.Table.{bit, failed, live}
use Rattle.links.proofs.TableLaws.{live_empty}
use Rattle.path.specs.Told.{Walked}
use Rattle.path.specs.Told.{Reading}
use Rattle.path.specs.Told.{Writing}
use Rattle.path.specs.Routes.{switch_at, level_to, switch_to, byte_to, switches_of, encode, Route, Prefix, Encodes}
use Rattle.path.specs.Walks.{Walk, stopped, arrived, hop_to, hop_refusal, again, stops_at, fault, ended, walk_from, walk, single, write_fault, write_from}
use Rattle.path.specs.Answers.{array_refusal, no_walk, walked, walk_answer, reading, read_answer, no_writing, reversed, reverse_answer, servers_refusal, write_refusal, written, on_the_way, write_answer}
use Rattle.path.proofs.HopLaws.{byte_small}
use Rattle.path.proofs.RouteLaws.{last_of, Step, route_prefix, prefix_route, prefix_one, prefix_front, prefix_step, prefix_snoc, switches_snoc, walk_refused, walk-arrives, walk-goes, read_sound, read_complete}
use Rattle.path.proofs.ReverseLaws.{source-server, dest_server, ends_differ, first_arrival, route-to-reverse}
use Rattle.path.proofs.RepeatLaws.{again-none, again-new}

-- ---- the bytes of a route

pub encode-long : (s : Shape) (vs : List ℕ) → length vs ≤ 9 → length (encode s vs) ≡ 8
unfolding encode
encode-long s vs h = length-filled 8 (in_turn (byte_to s) vs) (omega (arith, length_turn (byte_to s) vs))

-- each is a byte
pub encode-small : {s : Shape} {t vs : List ℕ} → Route s t vs → (i : ℕ) → get_or (encode s vs) i 0 < 256
unfolding encode
encode-small {s} {t} {vs} h i =
    elim (dec_lt (suc i) (length vs)) [
      | yes y ↦ let e : get_or (filled 8 (in_turn (byte_to s) vs)) i 0 ≡ byte_to s (get_or vs i 0) (get_or vs (suc i) 0) = filled_at 8 (in_turn (byte_to s) vs) i ∙ turn_at (byte_to s) vs i y in
          rw e (byte_small (h.servers i (omega arith)) (h.servers (suc i) y) (h.hops i y))
      | no y ↦ let e : get_or (filled 8 (in_turn (byte_to s) vs)) i 0 ≡ 0 = filled-past 8 (in_turn (byte_to s) vs) i (omega (arith, length_turn (byte_to s) vs)) in omega arith
    ]

-- reading stops at the first arrival, and every byte after it is zero
pub record EndsAtArrival (d : ℕ) (bs vs : List ℕ) : Type 0 where
  pub before : (i : ℕ) → suc i < length vs → get_or vs i 0 ≢ d
  pub zeros : (j : ℕ) → length vs ≤ suc j → get_or bs j 0 ≡ 0

pub read-stops : {s : Shape} {t : List ℕ} {a d : ℕ} {bs vs : List ℕ} → Encodes s t a d bs vs → EndsAtArrival d bs vs
unfolding encode
read-stops {s} {t} {a} {d} {bs} {vs} h =
    record {
      before = first_arrival h.route;
      zeros = λ j p. ap (λ (l : List ℕ). get_or l j 0) h.bytes ∙ filled-past 8 (in_turn (byte_to s) vs) j (omega (arith, length_turn (byte_to s) vs));
    }

-- the same bytes are those of one route only
pub encodes_unique : {s : Shape} {t : List ℕ} {a d : ℕ} {bs us vs : List ℕ} → Encodes s t a d bs us → Encodes s t a d bs vs → us ≡ vs
encodes_unique {s} {t} {a} {d} {bs} {us} {vs} h g =
    let e : arrived us (switches_of s us) ≡ arrived vs (switches_of s vs) =
    sym (read_complete h.route) ∙ ap (walk s t a d) (sym h.bytes ∙ g.bytes) ∙ read_complete g.route in
    cc

-- ---- what is refused before the first hop

pub array_of : (s : Shape) (a d : ℕ) (bs : List ℕ) → array_refusal s a d bs ≡ 0 → Ends s a d × (length bs ≡ 8)
unfolding array_refusal
array_of s a d bs e =
    let z = or_else_zero (ends_refusal s a d) (7 unless eqb (length bs) 8) e in
    (ends_of s a d z.0, eqb-true (length bs) 8 (test_held _ 6 z.1))

pub array-none : {s : Shape} {a d : ℕ} (bs : List ℕ) → Ends s a d → length bs ≡ 8 → 0 ≡ array_refusal s a d bs
unfolding array_refusal
array-none bs h l = chain_goes _ _ _ _ (ends_none h) refl (rw (eq-eqb (length bs) 8 l))

pub encodes_none : {s : Shape} {t : List ℕ} {a d : ℕ} {bs vs : List ℕ} → Encodes s t a d bs vs → 0 ≡ array_refusal s a d bs
encodes_none {s} {t} {a} {d} {bs} {vs} h =
    array-none bs (record { source = source-server h.route; destination = dest_server h.route; differ = ends_differ h.route })
    (ap (λ (l : List ℕ). length l) h.bytes ∙ encode-long s vs h.route.route.few)

-- ---- a walk that stops has a refusal

pub same_stop : {x r : Refusal} → stopped x ≡ stopped r → x ≡ r
same_stop e = cc

-- one that stops with such a number does not stop with 0
stops-not : (n : ℕ) → n ≢ 0 → {x r : Refusal} → x.number ≡ n → stopped x ≡ stopped r → r.number ≢ 0
stops-not n h f e z = let u : _ ≡ _ = same_stop e in h (sym f ∙ ap (λ (y : Refusal). y.number) u ∙ z)

ended-stopped : (h : ℕ) (met used bs : List ℕ) (r : Refusal) → ended h met used bs ≡ stopped r → r.number ≢ 0
unfolding ended
ended-stopped h met used [] r e = let z : ◌≡◌ {A = ℕ} 0 1 = cc in let n : ⊥ = omega arith in absurd n
ended-stopped h met used (b ∷ bs) r e =
    elim (ℕ_discrete b 0) [
      | yes y ↦ ended-stopped (h + 1) met used bs r (rw (eq-eqb b 0 y) at e)
      | no y ↦ let w : stopped (refused_at 14 1 (h + 1)) ≡ stopped r = rw (ne_eqb b 0 y) at e in λ z. stops-not 14 (λ q. omega arith) refl w z
    ]

walk-stopped : (s : Shape) (t : List ℕ) (d h : ℕ) (met used : List ℕ) (a : ℕ) (bs : List ℕ) (r : Refusal) → walk_from s t d h met used a bs ≡ stopped r → r.number ≢ 0
unfolding walk_from
walk-stopped s t d h met used a [] r e = stops-not 13 (λ q. omega arith) refl e
walk-stopped s t d h met used a (b ∷ bs) r e =
    elim (ℕ_discrete (fault s t met used a b) 0) [
      | no y ↦ stops-not (fault s t met used a b) y refl (sym (walk_refused s t d h met used a b bs y) ∙ e)
      | yes y ↦ elim (ℕ_discrete (hop_to s a b) d) [
        | yes x ↦ ended-stopped (h + 1) _ _ bs r (sym (walk-arrives s t d h met used a b bs y x) ∙ e)
        | no x ↦ walk-stopped s t d (h + 1) _ _ (hop_to s a b) bs r (sym (walk-goes s t d h met used a b bs y x) ∙ e)
      ]
    ]

-- what a walk arrives with
pub record Arrives (w : Walk) : Type 0 where
  pub servers : List ℕ
  pub switches : List ℕ
  pub there : w ≡ arrived servers switches

-- the refusal number that a walk comes to: 0 on arrival
abbrev pub number_of : Walk → ℕ
number_of (stopped r) = r.number
number_of (arrived vs ws) = 0

pub walk_arrival : (s : Shape) (t : List ℕ) (a d : ℕ) (bs : List ℕ) → number_of (walk s t a d bs) ≡ 0 → Arrives (walk s t a d bs)
unfolding walk
walk_arrival s t a d bs = go (walk s t a d bs) refl
  where
    go : (w : Walk) → walk s t a d bs ≡ w → number_of w ≡ 0 → Arrives w
    go (stopped r) e z = absurd (walk-stopped s t d 0 (a ∷ []) [] a bs r e z)
    go (arrived vs ws) e z = record { servers = vs; switches = ws; there = refl }

-- ---- reading answers exactly the routes

-- where the array and the walk are not refused, the bytes are those of a route
pub arrived_encodes : {s : Shape} {a d : ℕ} (t bs : List ℕ) → Ends s a d → length bs ≡ 8 → number_of (walk s t a d bs) ≡ 0 → (vs : List ℕ) × Encodes s t a d bs vs
arrived_encodes {s} {a} {d} t bs h l z =
    let w = walk_arrival s t a d bs z in
    let r = read_sound t bs w.servers w.switches h.source h.differ l w.there in
    (w.servers, record { route = r.0; bytes = r.2 })

pub encodes_walk : {s : Shape} {t : List ℕ} {a d : ℕ} {bs vs : List ℕ} → Encodes s t a d bs vs → walk s t a d bs ≡ arrived vs (switches_of s vs)
encodes_walk {s} {t} {a} {d} h = ap (walk s t a d) h.bytes ∙ read_complete h.route

walked-number : (w : Walk) → (walked w).refusal.number ≡ number_of w
walked-number (stopped r) = refl
walked-number (arrived vs ws) = refl

-- what is answered for the bytes of a route: its servers with their count, and its switches
pub walk-given : {s : Shape} {t : List ℕ} {a d : ℕ} {bs vs : List ℕ} → Encodes s t a d bs vs → walk_answer s t a d bs ≡ record { refusal = none; count = length vs; servers = filled 9 vs; switches = filled 8 (switches_of s vs) }
unfolding walk_answer
walk-given h = answer-none _ _ _ (encodes_none h) ∙ ap walked (encodes_walk h)

-- a walk is not refused exactly when the bytes are those of a route over live links
pub walk-exactly : (s : Shape) (t : List ℕ) (a d : ℕ) (bs : List ℕ) → ((walk_answer s t a d bs).refusal.number ≡ 0) ↔ ((vs : List ℕ) × Encodes s t a d bs vs)
unfolding walk_answer
walk-exactly s t a d bs = (there, λ p. ap (λ (x : Walked). x.refusal.number) (walk-given p.1))
  where
    there : (walk_answer s t a d bs).refusal.number ≡ 0 → (vs : List ℕ) × Encodes s t a d bs vs
    there e =
        let z = answered (λ (x : Walked). x.refusal.number) (λ r. no_walk (plain r)) (λ r. refl) (array_refusal s a d bs) (walk_answer s t a d bs) (walked (walk s t a d bs)) refl e in
        let p = array_of s a d bs z.0 in
        arrived_encodes t bs p.0 p.1 (sym (walked-number (walk s t a d bs)) ∙ ap (λ (x : Walked). x.refusal.number) (sym z.1) ∙ e)

pub read-given : {s : Shape} {a d : ℕ} {bs vs : List ℕ} → Encodes s [] a d bs vs → read_answer s a d bs ≡ record { refusal = none; count = length vs; servers = filled 9 vs }
unfolding read_answer
read-given h = ap reading (walk-given h)

pub read-exactly : (s : Shape) (a d : ℕ) (bs : List ℕ) → ((read_answer s a d bs).refusal.number ≡ 0) ↔ ((vs : List ℕ) × Encodes s [] a d bs vs)
unfolding read_answer
read-exactly s a d bs = walk-exactly s [] a d bs

-- ---- writing answers exactly the routes

-- a list of one
pub single-one : (xs : List ℕ) → single xs ≡ true → xs ≡ get_or xs 0 0 ∷ []
single-one [] e = absurd (false≢true e)
single-one (x ∷ []) e = refl
single-one (x ∷ y ∷ ys) e = absurd (false≢true e)

-- a hop is written exactly when a route goes on by it
pub write_step : {s : Shape} {a b : ℕ} (vs : List ℕ) → Server s a → Server s b → (write_fault s vs (switches_of s vs) a b ≡ 0) ↔ Step s [] vs a b
unfolding write_fault ◌or_else◌ level_to
write_step {s} {a} {b} vs ha hb = (there, back)
  where
    there : write_fault s vs (switches_of s vs) a b ≡ 0 → Step s [] vs a b
    there e =
        let z = or_else_zero (23 unless single (differing s a b)) (again vs (switches_of s vs) b (switch_to s a b)) e in
        let w = again-none vs (switches_of s vs) b (switch_to s a b) z.1 in
        record {
          server = hb;
          hop = (neighbours-exactly ha hb (level_to s a b)).0 (single-one (differing s a b) (test_held _ 22 z.0));
          alive = live_empty (level_to s a b) a b;
          fresh = w.0;
          unused = w.1;
        }

    back : Step s [] vs a b → write_fault s vs (switches_of s vs) a b ≡ 0
    back st =
        let e : single (differing s a b) ≡ true = ap single ((neighbours-exactly ha hb (level_to s a b)).1 st.hop) in
        rw e (again-new vs (switches_of s vs) b (switch_to s a b) st.fresh st.unused)

-- each element of a list is a server
pub record Servers (s : Shape) (vs : List ℕ) : Type 0 where
  pub each : (i : ℕ) → i < length vs → Server s (get_or vs i 0)

servers_tail : {s : Shape} {v : ℕ} {vs : List ℕ} → Servers s (v ∷ vs) → Servers s vs
servers_tail h = record { each = λ i p. h.each (suc i) (suc-le-suc p) }

servers_cons : {s : Shape} {v : ℕ} {vs : List ℕ} → Server s v → Servers s vs → Servers s (v ∷ vs)
servers_cons {s} {v} {vs} h hs = record { each = at }
  where
    at : (i : ℕ) → i < length (v ∷ vs) → Server s (get_or (v ∷ vs) i 0)
    at zero p = h
    at (suc i) p = hs.each i (le_of_suc-le-suc p)

write_sound : (s : Shape) (h : ℕ) (vs rest : List ℕ) → Prefix s [] vs → Servers s rest → (write_from s h vs (switches_of s vs) (last_of vs) rest).number ≡ 0 → Prefix s [] (vs ++ rest)
unfolding write_from
write_sound s h vs [] p q e = rw (append-nil vs) p
write_sound s h vs (b ∷ rest) p q e =
    elim (ℕ_discrete (write_fault s vs (switches_of s vs) (last_of vs) b) 0) [
      | no y ↦ let z : write_fault s vs (switches_of s vs) (last_of vs) b ≡ 0 = rw (ne_eqb _ _ y) at e in absurd (y z)
      | yes y ↦ let st = (write_step vs ha hb).0 y in
          let go : (write_from s (h + 1) (vs ++ (b ∷ [])) (switches_of s vs ++ (switch_to s (last_of vs) b ∷ [])) b rest).number ≡ 0 = rw (eq-eqb _ _ y) at e in
          subst (Prefix s []) (append_snoc vs b rest)
          (write_sound s (h + 1) (vs ++ (b ∷ [])) rest (prefix_snoc vs b p st) (servers_tail q)
          (rw (switches_snoc s vs b p.some, snoc_last vs b) go))
    ]
  where
    ha : Server s (last_of vs)
    ha = p.servers (length vs - 1) (omega (arith, p.some))

    hb : Server s b
    hb = q.each zero (suc-le-suc zero-le)

-- one hop of the writer: it is refused, or goes on
module _ (s : Shape) (h : ℕ) (vs : List ℕ) (b : ℕ) (rest : List ℕ) where
  pub write-refused : write_fault s vs (switches_of s vs) (last_of vs) b ≢ 0 → write_from s h vs (switches_of s vs) (last_of vs) (b ∷ rest) ≡ stops_at (write_fault s vs (switches_of s vs) (last_of vs) b) (h + 1) vs (switches_of s vs) b (switch_to s (last_of vs) b)
  unfolding write_from
  write-refused n = rw (ne_eqb (write_fault s vs (switches_of s vs) (last_of vs) b) 0 n)

  pub write_goes : 0 < length vs → write_fault s vs (switches_of s vs) (last_of vs) b ≡ 0 → write_from s h vs (switches_of s vs) (last_of vs) (b ∷ rest) ≡ write_from s (h + 1) (vs ++ (b ∷ [])) (switches_of s (vs ++ (b ∷ []))) (last_of (vs ++ (b ∷ []))) rest
  unfolding write_from
  write_goes o y =
      rw (eq-eqb (write_fault s vs (switches_of s vs) (last_of vs) b) 0 y)
      (ap₂ (λ (u : List ℕ) (x : ℕ). write_from s (h + 1) (vs ++ (b ∷ [])) u x rest) (sym (switches_snoc s vs b o)) (sym (snoc_last vs b)))

-- hop after hop along a way
write-along : (s : Shape) (h : ℕ) (vs rest more : List ℕ) → 0 < length vs → Prefix s [] (vs ++ rest) → write_from s h vs (switches_of s vs) (last_of vs) (rest ++ more) ≡ write_from s (h + length rest) (vs ++ rest) (switches_of s (vs ++ rest)) (last_of (vs ++ rest)) more
write-along s h vs [] more o p = rw (append-nil vs, add-zero h)
write-along s h vs (b ∷ rest) more o p =
    write_goes s h vs b (rest ++ more) o ((write_step vs ha st.server).1 st)
    ∙ write-along s (h + 1) (vs ++ (b ∷ [])) rest more longer whole
    ∙ ap₂ (λ (k : ℕ) (l : List ℕ). write_from s k l (switches_of s l) (last_of l) more) (let e : h + 1 + length rest ≡ h + suc (length rest) = omega arith in e) (append_snoc vs b rest)
  where
    longer : 0 < length (vs ++ (b ∷ []))
    longer = omega (arith, length_snoc vs b)

    whole : Prefix s [] (vs ++ (b ∷ []) ++ rest)
    whole = subst (Prefix s []) (sym (append_snoc vs b rest)) p

    ha : Server s (last_of vs)
    ha = (prefix_front vs (b ∷ rest) o p).servers (length vs - 1) (omega arith)

    st : Step s [] vs (last_of vs) b
    st = prefix_step vs b o (prefix_front (vs ++ (b ∷ [])) rest longer whole)

-- from the first server
pub way-along : (s : Shape) (vs more : List ℕ) → Prefix s [] vs → on_the_way s (vs ++ more) ≡ write_from s (length vs - 1) vs (switches_of s vs) (last_of vs) more
unfolding on_the_way switches_of in_turn
way-along s [] more p = let z : ⊥ = omega (arith, p.some) in absurd z
way-along s (v ∷ vs) more p =
    write-along s 0 (v ∷ []) vs more (suc-le-suc zero-le) p
    ∙ ap (λ (k : ℕ). write_from s k (v ∷ vs) (switches_of s (v ∷ vs)) (last_of (v ∷ vs)) more) (let z : 0 + length vs ≡ length (v ∷ vs) - 1 = omega arith in z)

pub servers-of : (s : Shape) (vs : List ℕ) → servers_refusal s vs ≡ 0 → Servers s vs
unfolding servers_refusal
servers-of s [] e = record { each = λ i p. let z : ⊥ = omega arith in absurd z }
servers-of s (v ∷ vs) e =
    let z = or_else_zero (server_refusal s v) (servers_refusal s vs) e in
    servers_cons (server_of s v z.0) (servers-of s vs z.1)

pub servers-none : {s : Shape} (vs : List ℕ) → Servers s vs → 0 ≡ servers_refusal s vs
unfolding servers_refusal
servers-none [] h = refl
servers-none (v ∷ vs) h = chain_goes _ _ _ _ (server-none (h.each zero (suc-le-suc zero-le))) refl (servers-none vs (servers_tail h))

-- what is not refused before the first hop is written
pub record Listed (s : Shape) (vs : List ℕ) : Type 0 where
  pub some : 2 ≤ length vs
  pub few : length vs ≤ 9
  pub servers : Servers s vs
  pub differ : get_or vs 0 0 ≢ last_of vs

pub listed_of : (s : Shape) (vs : List ℕ) → write_refusal s vs ≡ 0 → Listed s vs
unfolding write_refusal
listed_of s vs e =
    let n = 22 unless (leb 2 (length vs) && leb (length vs) 9) in
    let f = 5 unless not (eqb (get_or vs 0 0) (last_of vs)) in
    let x = or_else_zero (shape_refusal s or_else n or_else servers_refusal s vs) f e in
    let y = or_else_zero (shape_refusal s or_else n) (servers_refusal s vs) x.0 in
    let z = or_else_zero (shape_refusal s) n y.0 in
    let w = both_held (leb 2 (length vs)) (leb (length vs) 9) (test_held _ 21 z.1) in
    record {
      some = leb-true 2 (length vs) w.0;
      few = leb-true (length vs) 9 w.1;
      servers = servers-of s vs y.1;
      differ = eqb-false (get_or vs 0 0) (last_of vs) (not-true _ (test_held _ 4 x.1));
    }

pub listed-none : {s : Shape} {vs : List ℕ} → Listed s vs → 0 ≡ write_refusal s vs
unfolding write_refusal
listed-none {s} {vs} h =
    chain_goes _ _ _ _
    (chain_goes _ _ _ _
    (chain_goes _ _ _ _ (valid-none (h.servers.each 0 (omega (arith, h.some))).valid) refl
    (rw (le-leb 2 (length vs) h.some, le-leb (length vs) 9 h.few)))
    refl (servers-none vs h.servers))
    refl (rw (ne_eqb (get_or vs 0 0) (last_of vs) h.differ))

route-listed : {s : Shape} {t vs : List ℕ} → Route s t vs → Listed s vs
route-listed {s} {t} {vs} h =
    record {
      some = h.some;
      few = h.few;
      servers = record { each = h.servers };
      differ = h.servers_once.apart 0 (length vs - 1) (omega (arith, h.some)) (omega (arith, h.some));
    }

way-none : {s : Shape} (vs : List ℕ) → Prefix s [] vs → on_the_way s vs ≡ none
unfolding write_from
way-none {s} vs p = ap (on_the_way s) (sym (append-nil vs)) ∙ way-along s vs [] p

pub way-route : {s : Shape} (vs : List ℕ) → Listed s vs → (on_the_way s vs).number ≡ 0 → Route s [] vs
unfolding on_the_way switches_of in_turn
way-route [] h e = let z : ⊥ = omega (arith, h.some) in absurd z
way-route {s} (v ∷ vs) h e =
    prefix_route (write_sound s 0 (v ∷ []) vs (prefix_one [] (h.servers.each 0 (suc-le-suc zero-le))) (servers_tail h.servers) e) h.some h.few

-- what is answered for the servers of a route: its bytes
pub write-given : {s : Shape} {vs : List ℕ} → Route s [] vs → write_answer s vs ≡ record { refusal = none; bytes = encode s vs }
unfolding write_answer
write-given {s} {vs} h =
    answer-none _ _ _ (listed-none (route-listed h)) ∙ ap (written s vs) (way-none vs (route_prefix h))

written-number : (s : Shape) (vs : List ℕ) (r : Refusal) → (written s vs r).refusal.number ≡ 0 → r.number ≡ 0
written-number s vs r e = go (ℕ_discrete r.number 0)
  where
    go : Dec (r.number ≡ 0) → r.number ≡ 0
    go (yes y) = y
    go (no y) = rw (ne_eqb _ _ y) at e

-- a list of servers is written without refusal exactly when it is a route
pub write-exactly : (s : Shape) (vs : List ℕ) → ((write_answer s vs).refusal.number ≡ 0) ↔ Route s [] vs
unfolding write_answer
write-exactly s vs = (there, λ h. ap (λ (x : Writing). x.refusal.number) (write-given h))
  where
    there : (write_answer s vs).refusal.number ≡ 0 → Route s [] vs
    there e =
        let z = answered (λ (x : Writing). x.refusal.number) (λ r. no_writing (plain r)) (λ r. refl) (write_refusal s vs) (write_answer s vs) (written s vs (on_the_way s vs)) refl e in
        way-route vs (listed_of s vs z.0) (written-number s vs (on_the_way s vs) (ap (λ (x : Writing). x.refusal.number) (sym z.1) ∙ e))

-- ---- reading and writing undo each other

-- what reading answers, writing turns back into the same eight bytes
pub read-then-write : (s : Shape) (a d : ℕ) (bs : List ℕ) → (read_answer s a d bs).refusal.number ≡ 0 → write_answer s (take (read_answer s a d bs).count (read_answer s a d bs).servers) ≡ record { refusal = none; bytes = bs }
read-then-write s a d bs e =
    let p = (read-exactly s a d bs).0 e in
    ap (λ (x : Reading). write_answer s (take x.count x.servers)) (read-given p.1)
    ∙ ap (write_answer s) (take-filled 9 p.0)
    ∙ write-given p.1.route.route
    ∙ ap (λ (l : List ℕ). record { refusal = none; bytes = l }) (sym p.1.bytes)

-- what writing answers, reading turns back into the same servers
pub write-then-read : (s : Shape) (vs : List ℕ) → (write_answer s vs).refusal.number ≡ 0 → read_answer s (get_or vs 0 0) (get_or vs (length vs - 1) 0) (write_answer s vs).bytes ≡ record { refusal = none; count = length vs; servers = filled 9 vs }
write-then-read s vs e =
    let h = (write-exactly s vs).0 e in
    ap (λ (x : Writing). read_answer s (get_or vs 0 0) (last_of vs) x.bytes) (write-given h)
    ∙ read-given (record { route = record { route = h; source = refl; arrives = refl }; bytes = refl })

-- ---- reversing

-- the bytes of the route backwards
pub encodes_reverse : {s : Shape} {t : List ℕ} {a d : ℕ} {bs vs : List ℕ} → Encodes s t a d bs vs → Encodes s t d a (encode s (reverse vs)) (reverse vs)
encodes_reverse h = record { route = route-to-reverse h.route; bytes = refl }

pub reverse-given : {s : Shape} {a d : ℕ} {bs vs : List ℕ} → Encodes s [] a d bs vs → reverse_answer s a d bs ≡ record { refusal = none; bytes = encode s (reverse vs) }
unfolding reverse_answer
reverse-given {s} h = answer-none _ _ _ (encodes_none h) ∙ ap (reversed s) (encodes_walk h)

reversed-number : (s : Shape) (w : Walk) → (reversed s w).refusal.number ≡ number_of w
reversed-number s (stopped r) = refl
reversed-number s (arrived vs ws) = refl

-- reversing is not refused exactly when the bytes are those of a route
pub reverse-exactly : (s : Shape) (a d : ℕ) (bs : List ℕ) → ((reverse_answer s a d bs).refusal.number ≡ 0) ↔ ((vs : List ℕ) × Encodes s [] a d bs vs)
unfolding reverse_answer
reverse-exactly s a d bs = (there, λ p. ap (λ (x : Writing). x.refusal.number) (reverse-given p.1))
  where
    there : (reverse_answer s a d bs).refusal.number ≡ 0 → (vs : List ℕ) × Encodes s [] a d bs vs
    there e =
        let z = answered (λ (x : Writing). x.refusal.number) (λ r. no_writing (plain r)) (λ r. refl) (array_refusal s a d bs) (reverse_answer s a d bs) (reversed s (walk s [] a d bs)) refl e in
        let p = array_of s a d bs z.0 in
        arrived_encodes [] bs p.0 p.1 (sym (reversed-number s (walk s [] a d bs)) ∙ ap (λ (x : Writing). x.refusal.number) (sym z.1) ∙ e)

-- what reversing answers, reading turns into the same servers backwards
pub reverse-then-read : {s : Shape} {a d : ℕ} {bs vs : List ℕ} → Encodes s [] a d bs vs → read_answer s d a (reverse_answer s a d bs).bytes ≡ record { refusal = none; count = length vs; servers = filled 9 (reverse vs) }
reverse-then-read {s} {a} {d} {bs} {vs} h =
    ap (λ (x : Writing). read_answer s d a x.bytes) (reverse-given h)
    ∙ read-given (encodes_reverse h)
    ∙ ap (λ (n : ℕ). record { refusal = none; count = n; servers = filled 9 (reverse vs) }) (length-reverse vs)

-- reversing twice gives the first bytes again
pub reverse_twice : (s : Shape) (a d : ℕ) (bs : List ℕ) → (reverse_answer s a d bs).refusal.number ≡ 0 → reverse_answer s d a (reverse_answer s a d bs).bytes ≡ record { refusal = none; bytes = bs }
reverse_twice s a d bs e =
    let p = (reverse-exactly s a d bs).0 e in
    ap (λ (x : Writing). reverse_answer s d a x.bytes) (reverse-given p.1)
    ∙ reverse-given (encodes_reverse p.1)
    ∙ ap (λ (l : List ℕ). record { refusal = none; bytes = encode s l }) (reverse-reverse p.0)
    ∙ ap (λ (l : List ℕ). record { refusal = none; bytes = l }) (sym p.1.bytes)

-- the same, from the answers alone
pub reversed-servers : (s : Shape) (a d : ℕ) (bs : List ℕ) → (reverse_answer s a d bs).refusal.number ≡ 0 → (read_answer s d a (reverse_answer s a d bs).bytes).servers ≡ filled 9 (reverse (take (read_answer s a d bs).count (read_answer s a d bs).servers))
reversed-servers s a d bs e =
    let p = (reverse-exactly s a d bs).0 e in
    ap (λ (x : Reading). x.servers) (reverse-then-read p.1)
    ∙ ap (λ (l : List ℕ). filled 9 (reverse l)) (sym (take-filled 9 p.0))
    ∙ ap (λ (x : Reading). filled 9 (reverse (take x.count x.servers))) (sym (read-given p.1))

-- ---- eight zeros

-- eight zeros are a route: in the room of two ports and one level, from server 1 to server 0
pub zeros-read : read_answer (full_room 2 0) 1 0 (replicate 8 0) ≡ record { refusal = none; count = 2; servers = 1 ∷ replicate 8 0 }
unfolding read_answer walk_answer array_refusal ends_refusal pair_refusal server_refusal shape_refusal servers_of bound ◌or_else◌ walk walk_from fault again hop_refusal hop_to with_digit digit digits digits_of address_of live failed bit is_in switch_at switch_of ended filled
zeros-read = refl

pub zeros-route : Encodes (full_room 2 0) [] 1 0 (replicate 8 0) (1 ∷ 0 ∷ [])
zeros-route =
    let p = (read-exactly (full_room 2 0) 1 0 (replicate 8 0)).0 (ap (λ (x : Reading). x.refusal.number) zeros-read) in
    subst (Encodes (full_room 2 0) [] 1 0 (replicate 8 0))
    (sym (take-filled 9 p.0) ∙ ap (λ (x : Reading). take x.count x.servers) (sym (read-given p.1) ∙ zeros-read))
    p.1
