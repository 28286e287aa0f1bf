-- Demand 2, proved: path bytes, the failed-link table, one forwarding step.
use Prim.Native.Nat.{ℕ, ◌+◌, ◌*◌, ◌/◌, ◌%◌, ◌^◌, ◌≤◌}
use mathlib.Core.Path.{◌≡◌, refl, sym, ap, ap₂, subst, ◌∙◌}
use mathlib.Core.Bool.{Bool, true, false, cond}
use mathlib.Core.List.{List, [], ◌∷◌, reverse}
use native.Mathlib.Omega.{arith}
use native.Mathlib.Nat.{add-zero}
use lib.Dec.{eqb}
use lib.ListN.{length, get_or, take, drop}
use lib.Seq.{take-take}
use borrow.Author.Tests.{eq-eqb, ne_eqb, eqb-true}
use Rattle.lists.specs.Lists.{filled}
use Rattle.lists.proofs.ListLaws.{in_exactly, at_in, take-filled}
use Rattle.refusals.specs.Refusals.{Refusal, none, plain}
use Rattle.refusals.proofs.AnswerLaws.{answered}
use Rattle.room.specs.declared.Shape.{Shape}
use Rattle.room.specs.Shapes.{Server, Link}
use Rattle.room.specs.Addresses.{with_digit, switch_of}
use Rattle.room.specs.Refusals.{server_refusal}
use Rattle.room.proofs.RefusalLaws.{server_of}
use Rattle.room.proofs.RoomLaws as rooms
use Rattle.links.specs.Told.{Asked}
use Rattle.links.specs.Table.{bit, failed, table_link_refusal}
use Rattle.links.specs.Answers.{not_asked, asked, failed_answer}
use Rattle.summary.specs.Answers.{link_answer}
use Rattle.summary.proofs.RefusalLaws.{counted-link_of}
use Rattle.summary.proofs.KeptLaws.{link-table_is, link-twice}
use Rattle.links.proofs.TableLaws as tables
use Rattle.path.specs.Told.{Hop, Reading}
use Rattle.path.specs.Routes.{byte_of, level_of, switch_to, byte_to}
use Rattle.path.specs.Walks.{hop_to, hop_refusal}
use Rattle.path.specs.Answers.{no_hop, hop_by, hop_from, hop_answer}
use Rattle.path.proofs.HopLaws.{switch_id, hop-exactly, hop-number, hop-made, hop-server, hop-neighbours, level-only}
use Rattle.path.proofs.CodecLaws as codec
use Rattle.select.proofs.HeldLaws.{eight-bytes}
use Rattle.select.proofs.SelectLaws as selected
use Rattle.step.specs.Told.{Step}
use Rattle.step.specs.Steps.{entry, mac_at, port_at, flag_at, step_refusal, with_place, no_step, delivery, forwarded, step_answer}
use Rattle.step.proofs.StepLaws.{with_place-number, goes_of}
use Rattle.demands.specs.Demand2.{BytesExactly, HopSwitches, LeadsTo, HopExactly, HopIs, HopLeaves, AmongExactly, RoutesAnswered, ReadExactly, WriteExactly, ReadThenWrite, WriteThenRead, ReverseThenRead, ReverseTwice, NoRouteExactly, FailedExactly, AskedExactly, LiveExactly, Changes, ChangesOwn, Marking, Clearing, Goes, StepGoes, StepDelivers}

-- ---- servers to bytes and bytes to servers

pub bytes-exactly : BytesExactly
unfolding byte_to byte_of
bytes-exactly s a b l h g n = rw (level-only h g n)

pub hop-switches : HopSwitches
unfolding switch_to
hop-switches s a b l c e m x y =
    let h : Link s a l = record { server = x.0; level = x.2.level } in
    let g : Link s c m = record { server = y.0; level = y.2.level } in
    let i = switch_id h g in
    rw (level-only x.0 x.1 x.2, level-only y.0 y.1 y.2) (
      λ q. let p = i.0 q in (p.0, rooms.switch-same h y.0 (p.1 ∙ ap (λ (j : ℕ). switch_of s j c) (sym p.0))),
      λ p. i.1 (p.0, rooms.same_switch x.2.level p.1 ∙ ap (λ (j : ℕ). switch_of s j c) p.0),
    )

pub hop-leads : {s : Shape} {a : ℕ} → Server s a → (b : ℕ) → hop_refusal s a b ≡ 0 → LeadsTo s a b (hop_to s a b)
unfolding hop_to
hop-leads h b t = record { server = hop-server h b t; neighbour = hop-neighbours h b t; value = rooms.with_same ((hop-exactly h b).0 t).0 }

-- a hop that is not refused is from a server of the room, by a byte that is a hop from it
pub record Hopped (s : Shape) (a b : ℕ) : Type 0 where
  pub here : Server s a
  pub taken : hop_refusal s a b ≡ 0
  pub made : hop_answer s a b ≡ hop_by s a b

pub hopped : (s : Shape) (a b : ℕ) → (hop_answer s a b).refusal.number ≡ 0 → Hopped s a b
unfolding hop_answer
hopped s a b z =
    let p = answered (λ (x : Hop). x.refusal.number) (λ r. no_hop (plain r)) (λ r. refl) (server_refusal s a) (hop_answer s a b) (hop_from s a b) refl z in
    let q : (hop_from s a b).refusal.number ≡ 0 = ap (λ (x : Hop). x.refusal.number) (sym p.1) ∙ z in
    record { here = server_of s a p.0; taken = sym (hop-number s a b (hop_from s a b) refl) ∙ q; made = p.1 ∙ hop-made s a b (hop_from s a b) refl q }

pub hop_exact : HopExactly
hop_exact s a b z =
    let h = hopped s a b z in
    subst (λ (x : Hop). LeadsTo s a b x.next) (sym h.made) (hop-leads h.here b h.taken)

-- a byte leads to one server
leads_one : {s : Shape} {a : ℕ} → Server s a → (b x y : ℕ) → LeadsTo s a b x → LeadsTo s a b y → x ≡ y
leads_one {s} {a} h b x y p q =
    let l : Link s a (level_of b) = record { server = h; level = p.neighbour.level } in
    sym (rooms.beside_with l p.server p.neighbour.beside)
    ∙ ap (λ (v : ℕ). with_digit s (level_of b) v a) (p.value ∙ sym q.value)
    ∙ rooms.beside_with l q.server q.neighbour.beside

hop-same : (x y : Hop) → x.refusal ≡ y.refusal → x.next ≡ y.next → x.level ≡ y.level → x.old ≡ y.old → x ≡ y
hop-same x y p q l o =
    ap₂ (λ (r : Refusal) (m : ℕ). record { refusal = r; next = m; level = x.level; old = x.old }) p q
    ∙ ap₂ (λ (m v : ℕ). record { refusal = y.refusal; next = y.next; level = m; old = v }) l o

pub hop-leaves : HopLeaves
hop-leaves s a b x z = (λ e. subst (HopIs s a b) (sym e) so, one)
  where
    h : Hopped s a b
    h = hopped s a b z

    so : HopIs s a b (hop_answer s a b)
    so = subst (HopIs s a b) (sym h.made) (record { refusal = refl; leads = hop-leads h.here b h.taken; level = refl; old = refl })

    one : HopIs s a b x → x ≡ hop_answer s a b
    one p =
        hop-same x (hop_answer s a b) (p.refusal ∙ sym so.refusal) (leads_one h.here b x.next (hop_answer s a b).next p.leads so.leads) (p.level ∙ sym so.level) (p.old ∙ sym so.old)

pub among-exactly : AmongExactly
among-exactly x xs = (λ e. let h = (in_exactly x xs).0 e in (h.place, h.inside, h.there), λ p. at_in x xs p.0 p.1 p.2)

pub routes-answered : RoutesAnswered
routes-answered s a d bs vs e =
    record {
      walked = λ t r. codec.walk-given (record { route = r; bytes = e.bytes });
      read = codec.read-given e;
      reversed = codec.reverse-given e;
      written = codec.write-given e.route.route ∙ ap (λ (x : List ℕ). record { refusal = none; bytes = x }) (sym e.bytes);
    }

pub read-exactly : ReadExactly
read-exactly = codec.read-exactly

pub write-exactly : WriteExactly
write-exactly = codec.write-exactly

pub read-then-write : ReadThenWrite
read-then-write = codec.read-then-write

pub write-then-read : WriteThenRead
write-then-read = codec.write-then-read

pub reverse-then-read : ReverseThenRead
reverse-then-read s a d bs e =
    let p = (codec.reverse-exactly s a d bs).0 e in
    codec.reverse-then-read p.1
    ∙ ap (λ (l : List ℕ). record { refusal = none; count = length p.0; servers = filled 9 (reverse l) }) (sym (take-filled 9 p.0))
    ∙ ap (λ (x : Reading). record { refusal = none; count = x.count; servers = filled 9 (reverse (take x.count x.servers)) }) (sym (codec.read-given p.1))

pub reverse_twice : ReverseTwice
reverse_twice = codec.reverse_twice

-- ---- selection

pub no_route-exactly : NoRouteExactly
no_route-exactly s t a d r f = (
  λ n. let e = selected.sixteen-only s t a d r f n in
      let k = tables.room_of s t a d e in
      (k.0, k.1, (selected.none-selected-exactly s t a d r e f).0 n),
  λ p. (selected.none-selected-exactly s t a d r (sym (tables.room-none p.0 p.1)) f).1 p.2,
)

-- ---- the failed-link table

pub failed-exactly : FailedExactly
unfolding failed bit
failed-exactly t a l = (eqb-true (get_or t a 0 / 2 ^ l % 2) 1, eq-eqb (get_or t a 0 / 2 ^ l % 2) 1)

pub asked-exactly : AskedExactly
unfolding failed_answer
asked-exactly s t a l z =
    ap (λ (x : Asked). x.failed) (answered (λ (x : Asked). x.refusal.number) not_asked (λ r. refl) (table_link_refusal s t a l) (failed_answer s t a l) (asked (failed t a l)) refl z).1

pub live-exactly : LiveExactly
live-exactly = tables.live-exactly

changes_own : (b : Bool) → ChangesOwn b
unfolding link_answer
changes_own b s t c a l z =
    let p = counted-link_of s t c a l z in (
      subst (Changes s t a l b) (sym (link-table_is b s t c a l z))
          (record {
            own = tables.changed-own b a l t (omega (arith, p.link.server.below, p.table.long));
            other = λ x m q. tables.changed-other b a l x m t q;
            bytes = λ x q. tables.changed-byte b a l x t q;
            long = tables.changed-long b a l t;
            table = tables.changed-table b p.table a l p.link.level;
          }),
      (link-twice b s t c a l).1,
    )

pub marking : Marking
marking = changes_own true

pub clearing : Clearing
clearing = changes_own false

-- ---- one forwarding step

pub step-answered : (s : Shape) (a d i : ℕ) (bs e : List ℕ) → (step_answer s a d i bs e).refusal.number ≡ 0 → (step_refusal s a d i bs e ≡ 0) × (step_answer s a d i bs e ≡ cond (eqb a d) delivery (forwarded s a i e (get_or bs i 0)))
unfolding step_answer
step-answered s a d i bs e z =
    answered (λ (x : Step). x.refusal.number) (λ r. no_step (with_place i r)) (λ r. with_place-number i r) (step_refusal s a d i bs e) (step_answer s a d i bs e) _ refl z

-- the six bytes from a place on
six : (p : ℕ) (e : List ℕ) → p + 8 ≤ length e → get_or e (p + 0) 0 ∷ get_or e (p + 1) 0 ∷ get_or e (p + 2) 0 ∷ get_or e (p + 3) 0 ∷ get_or e (p + 4) 0 ∷ get_or e (p + 5) 0 ∷ [] ≡ take 6 (drop p e)
six p e h = rw (add-zero p) (ap (take 6) (eight-bytes p e h) ∙ take-take 6 8 (drop p e) (omega arith))

pub step-goes : StepGoes
unfolding mac_at port_at flag_at entry
step-goes s a d i bs e n z =
    let p = step-answered s a d i bs e z in
    let g = goes_of s a d i bs e p.0 n in
    let b = get_or bs i 0 in
    let h = g.given.here in
    let l = ((hop-exactly h b).0 g.taken).0.link.level in
    let q : step_answer s a d i bs e ≡ forwarded s a i e b = p.1 ∙ ap (λ (x : Bool). cond x delivery (forwarded s a i e b)) (ne_eqb a d n) in (
      g.index,
      subst (Goes s a i e b) (sym q)
          (record {
            refusal = refl;
            delivered = refl;
            leads = hop-leads h b g.taken;
            index = refl;
            mac = six (8 * b) e (omega (arith, h.valid.levels, g.given.table));
            port = refl;
            available = g.flag;
            level = refl;
            old = refl;
          }),
    )

pub step_delivers : StepDelivers
step_delivers s a d i bs e q z =
    (step-answered s a d i bs e z).1 ∙ ap (λ (x : Bool). cond x delivery (forwarded s a i e (get_or bs i 0))) (eq-eqb a d q)
