-- What the writer refuses, and at which hop, proved.
use Prim.Native.Nat.{ℕ, zero, suc, ◌+◌, ◌-◌, suc-le-suc, zero-le}
use mathlib.Core.Path.{◌≡◌, refl, sym, ap, ap₂, ◌∙◌, subst}
use mathlib.Core.Logic.{◌≢◌, inl, inr}
use mathlib.Core.Bool.{Bool, cond}
use mathlib.Core.List.{List, [], ◌∷◌, ◌++◌}
use native.Mathlib.Omega.{arith}
use native.Mathlib.Decide.{ℕ_discrete}
use lib.ListN.{length, get_or, length-append}
use lib.Seq.{append_snoc, get_or-append_seam}
use borrow.Author.Tests.{eq-eqb, ne_eqb}
use Rattle.lists.specs.Lists.{in_turn}
use Rattle.lists.proofs.ListLaws.{length_snoc}
use Rattle.refusals.specs.Refusals.{Refusal, none, plain, refused_at, with_earlier}
use Rattle.refusals.proofs.AnswerLaws.{answer-none}
use Rattle.room.specs.declared.Shape.{Shape}
use Rattle.room.specs.Shapes.{Server}
use Rattle.path.specs.Told.{Writing}
use Rattle.path.specs.Routes.{switch_to, switches_of, encode, Prefix}
use Rattle.path.specs.Walks.{earlier_of, stops_at, write_fault, write_from}
use Rattle.path.specs.Answers.{no_writing, a_writing, write_refusal, written, on_the_way, write_answer}
use Rattle.path.proofs.CodecLaws.{write_step, write-refused, write_goes, way-along, write-given, write-exactly, Servers, listed_of}
use Rattle.path.proofs.NumberLaws.{write-fault-met, write-fault_used}
use Rattle.path.proofs.RouteLaws.{last_of, prefix_one, prefix_snoc}
use Rattle.demands.specs.Tests.{Refused, Hold, Exactly}
use Rattle.demands.specs.Refusals.{end_of, write_tests, servers_tests, WriteStops, Writes}
use Rattle.demands.proofs.Chains.{fails, failing, zero_of, answers, exactly}
use Rattle.demands.proofs.Numbers.{write-number, write-hop-number}
use Rattle.demands.proofs.Meetings.{earlier_is, is_earlier}

-- ---- why it stops

write_why : (s : Shape) (h : ℕ) (whole vs rest : List ℕ) → Prefix s [] vs → Servers s rest → length vs ≡ suc h → whole ≡ vs ++ rest → (write_from s h vs (switches_of s vs) (last_of vs) rest).number ≢ 0 → WriteStops s whole (write_from s h vs (switches_of s vs) (last_of vs) rest)
unfolding write_from
write_why s h whole vs [] p q l e n = absurd (n refl)
write_why s h whole vs (b ∷ rest) p q l e n =
    elim (ℕ_discrete fail 0) [
      | no y ↦ subst (WriteStops s whole) (sym (write-refused s h vs b rest y ∙ ap (λ (x : ℕ). stops_at fail x vs (switches_of s vs) b (switch_to s (last_of vs) b)) (let z : h + 1 ≡ length vs = omega arith in z)))
          (record {
            before = vs;
            next = b;
            rest = rest;
            servers = e;
            way = p;
            number = fail;
            earlier = earlier_of fail vs (switches_of s vs) b (switch_to s (last_of vs) b);
            refused = failing (λ z. z) (write_tests s vs b) fail refl (write-hop-number s vs b ha hb) y;
            names = is_earlier b (switch_to s (last_of vs) b) fail (write-fault-met s vs (switches_of s vs) (last_of vs) b) (write-fault_used s vs (switches_of s vs) (last_of vs) b);
            here = refl;
          })
      | yes y ↦ let f = write_goes s h vs b rest p.some y in
          subst (WriteStops s whole) (sym f)
          (write_why s (h + 1) whole (vs ++ (b ∷ [])) rest (prefix_snoc vs b p ((write_step vs ha hb).0 y)) (record { each = λ i k. q.each (suc i) (suc-le-suc k) })
          (length_snoc vs b ∙ omega (arith, l)) (e ∙ sym (append_snoc vs b rest)) (λ z. n (ap (λ (r : Refusal). r.number) f ∙ z)))
    ]
  where
    fail : ℕ
    fail = write_fault s vs (switches_of s vs) (last_of vs) b

    ha : Server s (last_of vs)
    ha = p.servers (length vs - 1) (omega (arith, p.some))

    hb : Server s b
    hb = q.each zero (suc-le-suc zero-le)

way-stops : (s : Shape) (vs : List ℕ) → Servers s vs → (on_the_way s vs).number ≢ 0 → WriteStops s vs (on_the_way s vs)
unfolding on_the_way switches_of in_turn
way-stops s [] h n = absurd (n refl)
way-stops s (v ∷ vs) h n =
    write_why s 0 (v ∷ vs) (v ∷ []) vs (prefix_one [] (h.each zero (suc-le-suc zero-le))) (record { each = λ i k. h.each (suc i) (suc-le-suc k) }) refl refl n

-- ---- and back

stops-way : (s : Shape) (vs : List ℕ) (r : Refusal) → Servers s vs → WriteStops s vs r → (on_the_way s vs ≡ r) × (r.number ≢ 0)
stops-way s vs r h w = (ap (on_the_way s) w.servers ∙ way-along s w.before (w.next ∷ w.rest) w.way ∙ refused ∙ sym w.here, λ z. k.0 (sym k.1 ∙ sym (ap (λ (x : Refusal). x.number) w.here) ∙ z))
  where
    ha : Server s (end_of w.before)
    ha = w.way.servers (length w.before - 1) (omega (arith, w.way.some))

    hb : Server s w.next
    hb =
        subst (Server s) (ap (λ (l : List ℕ). get_or l (length w.before) 0) w.servers ∙ get_or-append_seam w.before w.next w.rest 0)
        (h.each (length w.before) (let e = ap length w.servers ∙ length-append w.before (w.next ∷ w.rest) in omega arith))

    f : ℕ
    f = write_fault s w.before (switches_of s w.before) (end_of w.before) w.next

    k : (f ≢ 0) × (w.number ≡ f)
    k = fails (λ z. z) (write_tests s w.before w.next) f w.number refl (write-hop-number s w.before w.next ha hb) w.refused

    refused : write_from s (length w.before - 1) w.before (switches_of s w.before) (last_of w.before) (w.next ∷ w.rest) ≡ with_earlier 0 w.earlier (refused_at w.number 1 (length w.before))
    refused =
        let z : length w.before - 1 + 1 ≡ length w.before = omega (arith, w.way.some) in
        write-refused s (length w.before - 1) w.before w.next w.rest k.0
        ∙ ap₂ (λ (x y : ℕ). stops_at x y w.before (switches_of s w.before) w.next (switch_to s (last_of w.before) w.next)) (sym k.1) z
        ∙ ap (λ (x : ℕ). with_earlier 0 x (refused_at w.number 1 (length w.before))) (sym (earlier_is w.way.servers_once w.way.switches_once w.names))

-- ---- the answer

written_none : (s : Shape) (vs : List ℕ) (r : Refusal) → r.number ≡ 0 → (written s vs r).refusal ≡ none
written_none s vs r z = ap (λ (x : Bool). (cond x (a_writing (encode s vs)) (no_writing r)).refusal) (eq-eqb r.number 0 z)

written-refused : (s : Shape) (vs : List ℕ) (r : Refusal) → r.number ≢ 0 → (written s vs r).refusal ≡ r
written-refused s vs r z = ap (λ (x : Bool). (cond x (a_writing (encode s vs)) (no_writing r)).refusal) (ne_eqb r.number 0 z)

module _ (s : Shape) (vs : List ℕ) (a : Hold (servers_tests s vs)) where
  none-whole : write_refusal s vs ≡ 0
  none-whole = zero_of (servers_tests s vs) (write_refusal s vs) (write-number s vs) a

  is_written : write_answer s vs ≡ written s vs (on_the_way s vs)
  unfolding write_answer
  is_written = answer-none _ _ _ (sym none-whole)

  servers : Servers s vs
  servers = (listed_of s vs none-whole).servers

  written_writes : Writes s vs (written s vs (on_the_way s vs)).refusal
  written_writes =
      elim (ℕ_discrete (on_the_way s vs).number 0) [
        | yes z ↦ let e = written_none s vs (on_the_way s vs) z in
            inl ((write-exactly s vs).0 (ap (λ (x : Writing). x.refusal.number) is_written ∙ ap (λ (r : Refusal). r.number) e), e)
        | no z ↦ inr (subst (WriteStops s vs) (sym (written-refused s vs (on_the_way s vs) z)) (way-stops s vs servers z))
      ]

  writes_answer : (r : Refusal) → Writes s vs r → (write_answer s vs).refusal ≡ r
  writes_answer r (inl h) = ap (λ (x : Writing). x.refusal) (write-given h.0) ∙ sym h.1
  writes_answer r (inr h) =
      let w = stops-way s vs r servers h in
      ap (λ (x : Writing). x.refusal) is_written
      ∙ written-refused s vs (on_the_way s vs) (λ z. w.1 (ap (λ (x : Refusal). x.number) (sym w.0) ∙ z))
      ∙ w.0

pub write_path : (s : Shape) (vs : List ℕ) → Exactly (write_answer s vs).refusal (Refused plain (servers_tests s vs) (Writes s vs))
unfolding write_answer
write_path s vs =
    exactly plain (Writes s vs) (servers_tests s vs) (write_answer s vs).refusal (λ y a h k. writes_answer s vs a y k)
    (answers (λ (x : Writing). x.refusal) (λ r. no_writing (plain r)) plain (Writes s vs) (servers_tests s vs) (write_refusal s vs) (written s vs (on_the_way s vs)) (λ r. refl) refl (write-number s vs) (written_writes s vs))
