-- Delivery: on a route over live links, stepping gives at each hop its next server, and after exactly its hops a delivery; and the trace of
-- these steps, the last first, is the reversed array.
use Prim.Native.Nat.{ℕ, zero, suc, ◌+◌, ◌-◌, ◌≤◌, ◌<◌}
use mathlib.Core.Path.{◌≡◌, sym, ap, ap₂, ◌∙◌, subst}
use mathlib.Core.List.{List, [], ◌∷◌, reverse}
use mathlib.Core.Bool.{false}
use native.Mathlib.Omega.{arith}
use native.Mathlib.Numerals.{add-one}
use native.Mathlib.Nat.{add-zero, zero-add}
use lib.ListN.{length, get_or, drop, drop_of_length-le}
use borrow.Author.Tests.{eq-eqb, ne_eqb}
use Rattle.lists.specs.Lists.{in_turn, filled}
use Rattle.lists.proofs.ListLaws.{left, turn_at, turn_reverse, filled_at}
use Rattle.refusals.specs.Refusals.{none, ◌or_else◌}
use Rattle.room.specs.declared.Shape.{Shape}
use Rattle.room.specs.Shapes.{Server}
use Rattle.room.specs.Addresses.{digit}
use Rattle.path.specs.Told.{Walked}
use Rattle.path.specs.Routes.{byte_of, level_of, level_to, byte_to, encode, Encodes}
use Rattle.path.specs.Walks.{hop_to, hop_refusal}
use Rattle.path.specs.Answers.{walk_answer, a_writing, reverse_answer}
use Rattle.path.proofs.HopLaws.{byte_small, byte-taken, byte-level, byte-hop, byte_back}
use Rattle.path.proofs.ReverseLaws.{dest_server, first_arrival, route-to-plain}
use Rattle.path.proofs.CodecLaws.{encode-long, walk-given, walk-exactly, reverse-given}
use Rattle.step.specs.Told.{Step}
use Rattle.step.specs.Steps.{mac_at, port_at, flag_at, step_refusal, delivery, step_answer}
use Rattle.step.specs.Delivery.{Tables, step_after, trace_of}
use Rattle.step.proofs.StepLaws.{Given, given-none, GoesBy, goes_none}

module _ {s : Shape} {t : List ℕ} {a d : ℕ} {bs vs : List ℕ} {tables : ℕ → List ℕ} (route : Encodes s t a d bs vs) (agreed : Tables s t tables) where
  server : (i : ℕ) → i < length vs → Server s (get_or vs i 0)
  server i h = route.route.route.servers i h

  byte : (i : ℕ) → suc i < length vs → get_or bs i 0 ≡ byte_to s (get_or vs i 0) (get_or vs (suc i) 0)
  unfolding encode
  byte i h =
      ap (λ (l : List ℕ). get_or l i 0) route.bytes
      ∙ filled_at 8 (in_turn (byte_to s) vs) i
      ∙ turn_at (byte_to s) vs i h

  given : (i : ℕ) → i < length vs → Given s (get_or vs i 0) d bs (tables (get_or vs i 0))
  given i h =
      record {
        here = server i h;
        there = dest_server route.route;
        table = agreed.long (get_or vs i 0) (server i h);
        path = ap (λ (l : List ℕ). length l) route.bytes ∙ encode-long s vs route.route.route.few;
      }

  -- the byte of a hop is a hop, its flag is 1, and it leads to the next server
  record Hops (i : ℕ) (b : ℕ) : Type 0 where
    taken : hop_refusal s (get_or vs i 0) b ≡ 0
    flag : flag_at (tables (get_or vs i 0)) b ≡ 1
    leads : hop_to s (get_or vs i 0) b ≡ get_or vs (suc i) 0
    level : level_of b ≡ level_to s (get_or vs i 0) (get_or vs (suc i) 0)

  hops : (i : ℕ) → suc i < length vs → Hops i (get_or bs i 0)
  hops i h =
      let here = server i (omega arith) in
      let there = server (suc i) h in
      let hop = route.route.route.hops i h in
      let taken = byte-taken here there hop in
      let flag =
      ((agreed.agree (get_or vs i 0) here).flags (byte_to s (get_or vs i 0) (get_or vs (suc i) 0)) (byte_small here there hop) taken).1
      (rw (byte-level here there hop, byte-hop here there hop) (route.route.route.alive i h)) in
      subst (Hops i) (sym (byte i h)) (record { taken = taken; flag = flag; leads = byte-hop here there hop; level = byte-level here there hop })

  -- the step at the server after i hops goes to the next one
  pub step_on : (i : ℕ) → suc i < length vs → step_answer s (get_or vs i 0) d i bs (tables (get_or vs i 0)) ≡ record { refusal = none; delivered = false; next = get_or vs (suc i) 0; index = i + 1; mac = mac_at (tables (get_or vs i 0)) (get_or bs i 0); port = port_at (tables (get_or vs i 0)) (get_or bs i 0); level = level_to s (get_or vs i 0) (get_or vs (suc i) 0); old = digit s (level_to s (get_or vs i 0) (get_or vs (suc i) 0)) (get_or vs i 0) }
  unfolding step_answer
  step_on i h =
      let away = first_arrival route.route i h in
      let b = hops i h in
      let goes : GoesBy s (get_or vs i 0) d i bs (tables (get_or vs i 0)) = record { given = given i (omega arith); index = omega (arith, route.route.route.few); taken = b.taken; flag = b.flag } in
      rw (goes_none goes away, ne_eqb (get_or vs i 0) d away, b.leads, b.level)

  -- the step at the destination delivers
  pub step_last : (i : ℕ) → suc i ≡ length vs → step_answer s (get_or vs i 0) d i bs (tables (get_or vs i 0)) ≡ delivery
  unfolding step_answer step_refusal ◌or_else◌
  step_last i h =
      let k : i ≡ length vs - 1 = omega arith in
      let e : get_or vs i 0 ≡ d = ap (λ (j : ℕ). get_or vs j 0) k ∙ route.route.arrives in
      rw (← given-none (given i (omega arith)), eq-eqb (get_or vs i 0) d e)

  -- m steps from the server after i hops come to the step at the server after i + m hops
  step_from : (m i : ℕ) → i + m < length vs → step_after s d bs tables m (get_or vs i 0) i ≡ step_answer s (get_or vs (i + m) 0) d (i + m) bs (tables (get_or vs (i + m) 0))
  unfolding step_after
  step_from zero i h = rw add-zero
  step_from (suc m) i h =
      let e : i + 1 + m ≡ i + suc m = omega arith in
      ap (λ (x : Step). step_after s d bs tables m x.next x.index) (step_on i (omega arith))
      ∙ ap (λ (j : ℕ). step_after s d bs tables m (get_or vs j 0) (i + 1)) (sym (add-one i))
      ∙ step_from m (i + 1) (omega arith)
      ∙ ap (λ (j : ℕ). step_answer s (get_or vs j 0) d j bs (tables (get_or vs j 0))) e

  step-at : (i : ℕ) → i < length vs → step_after s d bs tables i a 0 ≡ step_answer s (get_or vs i 0) d i bs (tables (get_or vs i 0))
  step-at i h =
      ap (λ (x : ℕ). step_after s d bs tables i x 0) (sym route.route.source)
      ∙ step_from i 0 (omega arith)
      ∙ ap (λ (j : ℕ). step_answer s (get_or vs j 0) d j bs (tables (get_or vs j 0))) (zero-add i)

  -- from the source with index 0, hop after hop: the next server of the route, and not yet delivered
  pub each-hop : (i : ℕ) → suc i < length vs → step_after s d bs tables i a 0 ≡ record { refusal = none; delivered = false; next = get_or vs (suc i) 0; index = i + 1; mac = mac_at (tables (get_or vs i 0)) (get_or bs i 0); port = port_at (tables (get_or vs i 0)) (get_or bs i 0); level = level_to s (get_or vs i 0) (get_or vs (suc i) 0); old = digit s (level_to s (get_or vs i 0) (get_or vs (suc i) 0)) (get_or vs i 0) }
  each-hop i h = step-at i (omega arith) ∙ step_on i h

  -- and after exactly the route's hops a delivery
  pub then-delivered : step_after s d bs tables (length vs - 1) a 0 ≡ delivery
  then-delivered =
      let k = route.route.route.some in
      step-at (length vs - 1) (omega arith) ∙ step_last (length vs - 1) (omega arith)

  -- the trace of the steps from the server after i hops on: the hops from there, each the other way round
  trace_from : (m i : ℕ) → suc (i + m) ≡ length vs → trace_of s d bs tables m (get_or vs i 0) i ≡ in_turn (λ x y. byte_to s y x) (drop i vs)
  unfolding trace_of in_turn
  trace_from zero i h =
      let past : length vs ≤ i + 1 = omega arith in
      sym (ap (in_turn (λ x y. byte_to s y x)) (left vs i 0 (omega arith) ∙ ap (λ (l : List ℕ). get_or vs i 0 ∷ l) (drop_of_length-le vs past)))
  trace_from (suc m) i h =
      let here = get_or vs i 0 in
      let next = get_or vs (suc i) 0 in
      let hop : suc i < length vs = omega arith in
      let e : drop i vs ≡ here ∷ next ∷ drop (i + 1 + 1) vs =
      left vs i 0 (omega arith) ∙ ap (λ (l : List ℕ). here ∷ l) (left vs (i + 1) 0 (omega arith) ∙ ap (λ (j : ℕ). get_or vs j 0 ∷ drop (i + 1 + 1) vs) (add-one i)) in
      let rest : trace_of s d bs tables m next (i + 1) ≡ in_turn (λ x y. byte_to s y x) (next ∷ drop (i + 1 + 1) vs) =
      ap (λ (j : ℕ). trace_of s d bs tables m (get_or vs j 0) (i + 1)) (sym (add-one i))
      ∙ trace_from m (i + 1) (omega arith)
      ∙ ap (in_turn (λ x y. byte_to s y x)) (left vs (i + 1) 0 (omega arith) ∙ ap (λ (j : ℕ). get_or vs j 0 ∷ drop (i + 1 + 1) vs) (add-one i)) in
      let back : byte_of (level_to s here next) (digit s (level_to s here next) here) ≡ byte_to s next here = sym (byte_back s here next) in
      ap (λ (x : Step). byte_of x.level x.old ∷ trace_of s d bs tables m x.next x.index) (step_on i hop)
      ∙ ap₂ (λ (b : ℕ) (l : List ℕ). b ∷ l) back rest
      ∙ ap (in_turn (λ x y. byte_to s y x)) (sym e)

  -- the trace of the whole packet, the last step first, is the reversed array
  pub trace_reversed : reverse_answer s a d bs ≡ a_writing (filled 8 (reverse (trace_of s d bs tables (length vs - 1) a 0)))
  unfolding encode
  trace_reversed =
      let k = route.route.route.some in
      let plain : Encodes s [] a d bs vs = record { route = route-to-plain route.route; bytes = route.bytes } in
      let trace : trace_of s d bs tables (length vs - 1) a 0 ≡ in_turn (λ x y. byte_to s y x) vs =
      ap (λ (x : ℕ). trace_of s d bs tables (length vs - 1) x 0) (sym route.route.source) ∙ trace_from (length vs - 1) 0 (omega arith) in
      reverse-given plain ∙ ap (λ (l : List ℕ). a_writing (filled 8 l)) (turn_reverse (byte_to s) vs ∙ ap (λ (l : List ℕ). reverse l) (sym trace))

-- ---- the same of bytes that a walk over live links accepts, whose servers and count are the reading rule's

-- what the steps of a packet come to, if w is the walk over its bytes
pub record Forwarded (s : Shape) (d : ℕ) (bs : List ℕ) (tables : ℕ → List ℕ) (a : ℕ) (w : Walked) : Type 0 where
  pub next : (i : ℕ) → suc i < w.count → (step_after s d bs tables i a 0).next ≡ get_or w.servers (suc i) 0
  pub index : (i : ℕ) → suc i < w.count → (step_after s d bs tables i a 0).index ≡ i + 1
  pub taken : (i : ℕ) → suc i < w.count → (step_after s d bs tables i a 0).refusal ≡ none
  pub going : (i : ℕ) → suc i < w.count → (step_after s d bs tables i a 0).delivered ≡ false
  pub arrival : step_after s d bs tables (w.count - 1) a 0 ≡ delivery

pub accepted_delivered : (s : Shape) (t : List ℕ) (a d : ℕ) (bs : List ℕ) (tables : ℕ → List ℕ) → (walk_answer s t a d bs).refusal.number ≡ 0 → Tables s t tables → Forwarded s d bs tables a (walk_answer s t a d bs)
accepted_delivered s t a d bs tables z agreed =
    let p = (walk-exactly s t a d bs).0 z in
    let vs = p.0 in
    let route = p.1 in
    subst (Forwarded s d bs tables a) (sym (walk-given route))
    (record {
      next = λ i h. ap (λ (x : Step). x.next) (each-hop route agreed i h) ∙ sym (filled_at 9 vs (suc i));
      index = λ i h. ap (λ (x : Step). x.index) (each-hop route agreed i h);
      taken = λ i h. ap (λ (x : Step). x.refusal) (each-hop route agreed i h);
      going = λ i h. ap (λ (x : Step). x.delivered) (each-hop route agreed i h);
      arrival = then-delivered route agreed;
    })
