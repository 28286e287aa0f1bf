-- What a hop leaves behind, and the trace of a packet, proved.
use Prim.Native.Nat.{ℕ, zero, suc, ◌+◌, ◌-◌, ◌*◌, ◌≤◌, ◌<◌, suc-le-suc, zero-le}
use mathlib.Core.Path.{◌≡◌, refl, sym, ap, ap₂, subst, ◌∙◌}
use mathlib.Core.Logic.{◌≢◌, inl, inr}
use mathlib.Core.Bool.{Bool, true, false, false≢true, cond}
use mathlib.Core.List.{List, [], ◌∷◌, reverse}
use native.Mathlib.Omega.{arith}
use native.Mathlib.Decide.{ℕ_discrete}
use native.Mathlib.Nat.{le_of_suc-le-suc}
use lib.Dec.{eqb}
use lib.ListN.{length, get_or, length-reverse}
use borrow.Author.Tests.{ne_eqb}
use Rattle.lists.specs.Lists.{filled}
use Rattle.lists.proofs.ListLaws.{reverse-at, filled_at, filled-past}
use Rattle.room.specs.declared.Shape.{Shape}
use Rattle.room.specs.Shapes.{Server}
use Rattle.room.specs.Addresses.{digit, Neighbours}
use Rattle.path.specs.Told.{Hop, Reading, Writing}
use Rattle.path.specs.Routes.{byte_of, level_of, value_of, byte_to, Encodes}
use Rattle.path.specs.Walks.{hop_to, hop_refusal}
use Rattle.path.specs.Answers.{a_hop, hop_by, hop_from, hop_answer, a_writing, reverse_answer}
use Rattle.path.proofs.HopLaws.{neighbours_sym, level-only, at_level, hop-number, hop-made, hop_tested, hop-level-low, hop-old-low, hop-server, hop-neighbours, hop-byte, hop-byte-back, byte-taken, byte-hop, byte-level}
use Rattle.pick.specs.Picks.{array_at}
use Rattle.step.specs.Told.{Step}
use Rattle.step.specs.Steps.{delivery, forwarded, step_answer}
use Rattle.step.specs.Delivery.{Tables, step_after, trace_of}
use Rattle.step.proofs.StepLaws.{goes_of}
use Rattle.step.proofs.DeliveryLaws.{each-hop, then-delivered, trace_reversed}
use Rattle.driver.specs.Packed.{Bytes}
use Rattle.demands.specs.Traces.{back_of_step, ByteBack, WayBack, HopBack, StepHops, NoTrace, TraceSteps, TracesBack, ReverseTrace, RouteTrace, FollowedTrace, back_in_step, WordTrace, EveryTrace}
use Rattle.demands.proofs.Demand1.{every_call}
use Rattle.demands.proofs.Buffers.{every-word}
use Rattle.demands.proofs.Demand2.{bytes-exactly, hop-leads, Hopped, hopped, step-answered, step-goes, step_delivers}
use Rattle.demands.proofs.Demand3.{tables_exist, accepted_at, encoded_read}

-- ---- the way back of a hop

byte_back : ByteBack
byte_back s a b l h g n = bytes-exactly s b a l g h (neighbours_sym n)

-- what is answered for a byte that is a hop
hop-answered : {s : Shape} {a : ℕ} → Server s a → (b : ℕ) → hop_refusal s a b ≡ 0 → hop_answer s a b ≡ hop_by s a b
hop-answered {s} {a} h b t = sym (hop_tested h b) ∙ hop-made s a b (hop_from s a b) refl (hop-number s a b (hop_from s a b) refl ∙ t)

module _ (s : Shape) (a b : ℕ) (h : Hopped s a b) where
  abbrev there : ℕ
  there = hop_to s a b

  abbrev back : ℕ
  back = 64 * level_of b + digit s (level_of b) a

  server : Server s there
  server = hop-server h.here b h.taken

  beside : Neighbours s (level_of b) there a
  beside = neighbours_sym (hop-neighbours h.here b h.taken)

  is_back : byte_to s there a ≡ back
  unfolding byte_of
  is_back = hop-byte-back h.here b h.taken

  undone : hop_answer s there back ≡ a_hop a (level_of b) (value_of b)
  undone =
      let n = at_level server h.here beside in
      let l : level_of back ≡ level_of b = ap level_of (sym is_back) ∙ byte-level server h.here n ∙ level-only server h.here beside in
      let g = hop-answered server back (subst (λ (c : ℕ). hop_refusal s there c ≡ 0) is_back (byte-taken server h.here n)) in
      let t : hop_to s there back ≡ a = ap (hop_to s there) (sym is_back) ∙ byte-hop server h.here n in
      g ∙ rw (t, l) (ap (a_hop a (level_of b)) (hop-leads h.here b h.taken).value)

  only : (c : ℕ) → (hop_answer s there c).refusal.number ≡ 0 → (hop_answer s there c).next ≡ a → c ≡ back
  only c z e =
      let g = hopped s there c z in
      sym (hop-byte g.here c g.taken) ∙ ap (byte_to s there) (sym (ap (λ (x : Hop). x.next) g.made) ∙ e) ∙ is_back

  way_back : WayBack s a b (hop_by s a b)
  way_back =
      record {
        small = omega (arith, hop-level-low h.here b h.taken, hop-old-low h.here b h.taken);
        byte = is_back;
        undone = undone;
        again = omega arith;
        only = only;
      }

hop_back : HopBack
hop_back s a b z = let h = hopped s a b z in subst (WayBack s a b) (sym h.made) (way_back s a b h)

-- ---- the trace of a packet

step_hops : StepHops
step_hops s a d i bs e n z =
    let p = step-answered s a d i bs e z in
    let g = goes_of s a d i bs e p.0 n in
    let q : step_answer s a d i bs e ≡ forwarded s a i e (get_or bs i 0) = p.1 ∙ rw (ne_eqb a d n) in
    hop-answered g.given.here (get_or bs i 0) g.taken ∙ sym (ap (λ (x : Step). a_hop x.next x.level x.old) q)

refused_trace : (s : Shape) (a d i : ℕ) (bs e : List ℕ) → (let x = step_answer s a d i bs e in x.refusal.number ≢ 0 → (x.level ≡ 0) × (x.old ≡ 0))
refused_trace s a d i bs e n =
    let q = (every_call.step_once s a d i bs e).nothing_else n in (ap (λ (x : Step). x.level) q, ap (λ (x : Step). x.old) q)

no_trace : NoTrace
no_trace s a d i bs e (inl n) = refused_trace s a d i bs e n
no_trace s a d i bs e (inr t) =
    elim (ℕ_discrete (step_answer s a d i bs e).refusal.number 0) [
      | no n ↦ refused_trace s a d i bs e n
      | yes z ↦ elim (ℕ_discrete a d) [
        | yes y ↦ let q = step_delivers s a d i bs e y z in (ap (λ (x : Step). x.level) q, ap (λ (x : Step). x.old) q)
        | no n ↦ absurd (false≢true (sym (step-goes s a d i bs e n z).1.delivered ∙ t))
      ]
    ]

module _ (s : Shape) (d : ℕ) (bs : List ℕ) (tables : ℕ → List ℕ) where
  trace_long : (m a i : ℕ) → length (trace_of s d bs tables m a i) ≡ m
  unfolding trace_of
  trace_long zero a i = refl
  trace_long (suc m) a i = let x = step_answer s a d i bs (tables a) in ap suc (trace_long m x.next x.index)

  trace_at : (m a i j : ℕ) → j < m → get_or (trace_of s d bs tables m a i) j 0 ≡ back_of_step (step_after s d bs tables j a i)
  unfolding trace_of step_after byte_of
  trace_at zero a i j h = let z : ⊥ = omega arith in absurd z
  trace_at (suc m) a i zero h = refl
  trace_at (suc m) a i (suc j) h =
      let x = step_answer s a d i bs (tables a) in trace_at m x.next x.index j (le_of_suc-le-suc h)

  -- what is so of every step is so of the steps of a packet
  after_so : (P : Step → Type 0) → ((a i : ℕ) → P (step_answer s a d i bs (tables a))) → (m a i : ℕ) → P (step_after s d bs tables m a i)
  unfolding step_after
  after_so P f zero a i = f a i
  after_so P f (suc m) a i = let x = step_answer s a d i bs (tables a) in after_so P f m x.next x.index

trace_steps : TraceSteps
trace_steps s d bs tables m a i = record { long = trace_long s d bs tables m a i; at = trace_at s d bs tables m a i }

-- if the trace, the last step first, is the reversed array, it is so byte by byte
module _ (s : Shape) (d : ℕ) (bs : List ℕ) (tables : ℕ → List ℕ) (a m : ℕ) (whole : reverse_answer s a d bs ≡ a_writing (filled 8 (reverse (trace_of s d bs tables m a 0)))) where
  abbrev trace : List ℕ
  trace = trace_of s d bs tables m a 0

  long : length trace ≡ m
  long = trace_long s d bs tables m a 0

  bytes : (reverse_answer s a d bs).bytes ≡ filled 8 (reverse trace)
  bytes = ap (λ (x : Writing). x.bytes) whole

  each : (j : ℕ) → j < m → get_or (reverse_answer s a d bs).bytes (m - suc j) 0 ≡ back_of_step (step_after s d bs tables j a 0)
  each j p =
      let k : length trace - suc (m - suc j) ≡ j = omega (arith, long) in
      ap (λ (l : List ℕ). get_or l (m - suc j) 0) bytes
      ∙ filled_at 8 (reverse trace) (m - suc j)
      ∙ reverse-at trace (m - suc j) (omega (arith, long))
      ∙ ap (λ (i : ℕ). get_or trace i 0) k
      ∙ trace_at s d bs tables m a 0 j p

  past : (j : ℕ) → m ≤ j → get_or (reverse_answer s a d bs).bytes j 0 ≡ 0
  past j p = ap (λ (l : List ℕ). get_or l j 0) bytes ∙ filled-past 8 (reverse trace) j (omega (arith, long, length-reverse trace))

  traces-back : TracesBack s d bs tables a m
  traces-back = record { whole = whole; each = each; past = past }

route_trace : RouteTrace
route_trace s t a d bs vs tables e h = traces-back s d bs tables a (length vs - 1) (trace_reversed e h)

-- where neither is refused, steps with two tables say the same, but for the MAC and the OutPort
record Alike (x y : Step) : Type 0 where
  next : x.next ≡ y.next
  index : x.index ≡ y.index
  delivered : x.delivered ≡ y.delivered
  byte : back_of_step x ≡ back_of_step y

module _ (s : Shape) (d : ℕ) (bs : List ℕ) (tables others : ℕ → List ℕ) where
  step-alike : (a i : ℕ) → (step_answer s a d i bs (tables a)).refusal.number ≡ 0 → (step_answer s a d i bs (others a)).refusal.number ≡ 0 → Alike (step_answer s a d i bs (tables a)) (step_answer s a d i bs (others a))
  step-alike a i p q = go (eqb a d) (step-answered s a d i bs (tables a) p).1 (step-answered s a d i bs (others a) q).1
    where
      b : ℕ
      b = get_or bs i 0

      go : (t : Bool) {x y : Step} → x ≡ cond t delivery (forwarded s a i (tables a) b) → y ≡ cond t delivery (forwarded s a i (others a) b) → Alike x y
      go true u v = rw (u, v) (record { next = refl; index = refl; delivered = refl; byte = refl })
      go false u v = rw (u, v) (record { next = refl; index = refl; delivered = refl; byte = refl })

  -- none of m steps is refused with some tables
  abbrev NoneRefused : (ℕ → List ℕ) → ℕ → ℕ → ℕ → Type 0
  NoneRefused es m a i = (j : ℕ) → j < m → (step_after s d bs es j a i).refusal.number ≡ 0

  module _ (m a i : ℕ) (f : NoneRefused tables (suc m) a i) (g : NoneRefused others (suc m) a i) where
    abbrev first : Step
    first = step_answer s a d i bs (tables a)

    alike : Alike first (step_answer s a d i bs (others a))
    unfolding step_after
    alike = step-alike a i (f 0 (suc-le-suc zero-le)) (g 0 (suc-le-suc zero-le))

    then-tables : NoneRefused tables m first.next first.index
    unfolding step_after
    then-tables j h = f (suc j) (suc-le-suc h)

    then-others : NoneRefused others m first.next first.index
    unfolding step_after
    then-others j h =
        ap₂ (λ (x y : ℕ). (step_after s d bs others j x y).refusal.number) alike.next alike.index ∙ g (suc j) (suc-le-suc h)

  trace_alike : (m a i : ℕ) → NoneRefused tables m a i → NoneRefused others m a i → trace_of s d bs others m a i ≡ trace_of s d bs tables m a i
  unfolding trace_of byte_of
  trace_alike zero a i f g = refl
  trace_alike (suc m) a i f g =
      let k = alike m a i f g in
      sym (ap₂ (λ (x : ℕ) (l : List ℕ). x ∷ l) k.byte
      (sym (trace_alike m _ _ (then-tables m a i f g) (then-others m a i f g)) ∙ ap₂ (λ (x y : ℕ). trace_of s d bs others m x y) k.next k.index))

  after-alike : (m a i : ℕ) → NoneRefused tables (suc m) a i → NoneRefused others (suc m) a i → (step_after s d bs others m a i).delivered ≡ (step_after s d bs tables m a i).delivered
  unfolding step_after
  after-alike zero a i f g = sym (alike zero a i f g).delivered
  after-alike (suc m) a i f g =
      let k = alike (suc m) a i f g in
      sym (ap₂ (λ (x y : ℕ). (step_after s d bs others m x y).delivered) k.next k.index)
      ∙ after-alike m _ _ (then-tables (suc m) a i f g) (then-others (suc m) a i f g)

-- what is so below m, and at m
up_to : (P : ℕ → Type 0) (m : ℕ) → ((j : ℕ) → j < m → P j) → P m → (j : ℕ) → j < suc m → P j
up_to P m f z j h = elim (ℕ_discrete j m) [ yes e ↦ subst P (sym e) z | no n ↦ f j (omega arith) ]

-- so a packet that is not refused goes as one does where every neighbour is available
module _ (s : Shape) (a d : ℕ) (bs vs : List ℕ) (tables : ℕ → List ℕ) (e : Encodes s [] a d bs vs) (f : (j : ℕ) → suc j < length vs → (step_after s d bs tables j a 0).refusal.number ≡ 0) where
  abbrev hops : ℕ
  hops = length vs - 1

  abbrev all : ℕ → List ℕ
  all = (tables_exist s []).0

  agreed : Tables s [] all
  agreed = (tables_exist s []).1

  taken : (j : ℕ) → j < hops → (step_after s d bs all j a 0).refusal.number ≡ 0
  taken j h = ap (λ (x : Step). x.refusal.number) (each-hop e agreed j (omega arith))

  stepped : (j : ℕ) → j < hops → (step_after s d bs tables j a 0).refusal.number ≡ 0
  stepped j h = f j (omega arith)

  whole : reverse_answer s a d bs ≡ a_writing (filled 8 (reverse (trace_of s d bs tables hops a 0)))
  whole =
      trace_reversed e agreed
      ∙ ap (λ (l : List ℕ). a_writing (filled 8 (reverse l))) (trace_alike s d bs tables all hops a 0 stepped taken)

  arrives : (step_after s d bs tables hops a 0).refusal.number ≡ 0 → (step_after s d bs tables hops a 0).delivered ≡ true
  arrives z =
      let q = then-delivered e agreed in
      let g = up_to (λ j. (step_after s d bs all j a 0).refusal.number ≡ 0) hops taken (ap (λ (x : Step). x.refusal.number) q) in
      let h = up_to (λ j. (step_after s d bs tables j a 0).refusal.number ≡ 0) hops stepped z in
      sym (after-alike s d bs tables all hops a 0 h g) ∙ ap (λ (x : Step). x.delivered) q

followed_trace : FollowedTrace
followed_trace s a d bs vs tables e f =
    (traces-back s d bs tables a (length vs - 1) (whole s a d bs vs tables e f), arrives s a d bs vs tables e f)

reverse_trace : ReverseTrace
reverse_trace s t a d bs tables e h i p =
    let v = accepted_at s t a d bs e i p in
    subst (λ (n : ℕ). TracesBack s d (array_at i bs) tables a (n - 1)) (sym (ap (λ (x : Reading). x.count) (encoded_read v.1)))
    (route_trace s t a d (array_at i bs) v.0 tables v.1 h)

-- ---- the same from C

word_byte : (s : Shape) (a d i : ℕ) (bs e : List ℕ) → Bytes e → (let x = step_answer s a d i bs e in back_in_step x ≡ back_of_step x)
word_byte s a d i bs e h = (every-word.step s a d i bs e h).0.back

word-goes : (s : Shape) (a d i : ℕ) (bs e : List ℕ) → a ≢ d → (step_answer s a d i bs e).refusal.number ≡ 0 → (let x = step_answer s a d i bs e in back_of_step x ≡ byte_to s x.next a)
word-goes s a d i bs e n z =
    let g = (step-goes s a d i bs e n z).1 in
    let l = g.leads in
    let here = (goes_of s a d i bs e (step-answered s a d i bs e z).0 n).given.here in
    ap₂ (λ (x y : ℕ). 64 * x + y) g.level g.old ∙ sym (byte_back s a (step_answer s a d i bs e).next (level_of (get_or bs i 0)) here l.server l.neighbour)

word_trace : WordTrace
word_trace =
    record {
      goes = λ s a d i bs e h n z. word_byte s a d i bs e h ∙ word-goes s a d i bs e n z;
      stands = λ s a d i bs e h k. let q = no_trace s a d i bs e k in word_byte s a d i bs e h ∙ omega (arith, q.0, q.1);
      hop = λ s a b z. let p = every-word.hop_parts s a b in let w = (hop_back s a b z).byte in omega (arith, p.level, p.old, w);
      no-hop = λ s a b n. let v = (every-word.hop_of s a b).value in let q = (every_call.hop_of s a b).nothing_else n in v ∙ ap (λ (x : Hop). x.next + 65536 * (64 * x.level + x.old)) q;
      reversed = λ s t a d bs tables e h k i p j q.
          after_so s d (array_at i bs) tables (λ (x : Step). back_in_step x ≡ back_of_step x) (λ c o. word_byte s c d o (array_at i bs) (tables c) (k c)) j a 0
          ∙ sym ((reverse_trace s t a d bs tables e h i p).each j q);
    }

pub every_trace : EveryTrace
every_trace =
    record {
      byte_back = byte_back;
      hop_back = hop_back;
      step_hops = step_hops;
      no_trace = no_trace;
      trace_steps = trace_steps;
      reverse_trace = reverse_trace;
      route_trace = route_trace;
      followed_trace = followed_trace;
      word_trace = word_trace;
    }
