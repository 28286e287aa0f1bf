-- Laws of one step: what each test tells, which refusals arise at the hop, and what each way of the code answers.
use Prim.Native.Nat.{ℕ, zero, suc, ◌+◌, ◌≤◌, ◌<◌}
use mathlib.Core.Path.{◌≡◌, refl, sym, ap, ap₂, ◌∙◌}
use mathlib.Core.Logic.{◌≢◌}
use mathlib.Core.List.{List, [], ◌∷◌}
use mathlib.Core.Bool.{Bool, true, false, not, cond}
use native.Mathlib.Omega.{arith}
use native.Mathlib.Decide.{dec_lt}
use lib.ListN.{length, get_or}
use lib.Dec.{ltb, eqb}
use borrow.Author.Tests.{lt-ltb, le-ltb, ltb-true, eq-eqb, ne_eqb, eqb-true, not-true}
use Rattle.refusals.specs.Refusals.{Refusal}
use Rattle.refusals.specs.Refusals.{none, plain, refused_at, ◌or_else◌, ◌unless◌, OneOf, nought, answer}
use Rattle.refusals.proofs.ChainLaws.{or_else_zero, chain_stops, chain_goes, test_held}
use Rattle.refusals.proofs.NumberLaws.{test_one, chain_one, one_passes, refused_passes}
use Rattle.refusals.proofs.AnswerLaws.{answer-refused, answered}
use Rattle.room.specs.declared.Shape.{Shape}
use Rattle.room.specs.Shapes.{Server}
use Rattle.room.specs.Refusals.{pair_refusal}
use Rattle.room.proofs.RefusalLaws.{pair_of, pair_none}
use Rattle.path.specs.declared.Hop.{Hop as Hopped}
use Rattle.path.specs.Told.{Hop}
use Rattle.path.specs.Walks.{hop_refusal}
use Rattle.path.specs.Answers.{no_hop, the_hop, hop_by}
use Rattle.step.specs.declared.Step.TheVariants.{Onward}
use Rattle.step.specs.Steps.{mac_at, port_at, flag_at, given_refusal, byte_refusal, away_refusal, step_refusal, at_hop, with_place, no_step, delivery, the_step, step_answer}
use Rattle.step.specs.Inside.{next_answer}
use Rattle.step.proofs.NumberLaws.{given-numbers, byte-numbers}

-- ---- what a step is given

pub record Given (s : Shape) (a d : ℕ) (bs e : List ℕ) : Type 0 where
  pub here : Server s a
  pub there : Server s d
  pub table : length e ≡ 2048
  pub path : length bs ≡ 8

pub given_of : (s : Shape) (a d : ℕ) (bs e : List ℕ) → given_refusal s a d bs e ≡ 0 → Given s a d bs e
unfolding given_refusal
given_of s a d bs e z =
    let x = or_else_zero (pair_refusal s a d or_else 17 unless eqb (length e) 2048) (7 unless eqb (length bs) 8) z in
    let y = or_else_zero (pair_refusal s a d) (17 unless eqb (length e) 2048) x.0 in
    let p = pair_of s a d y.0 in
    record { here = p.0; there = p.1; table = eqb-true (length e) 2048 (test_held _ 16 y.1); path = eqb-true (length bs) 8 (test_held _ 6 x.1) }

pub given-none : {s : Shape} {a d : ℕ} {bs e : List ℕ} → Given s a d bs e → 0 ≡ given_refusal s a d bs e
unfolding given_refusal
given-none {s} {a} {d} {bs} {e} h =
    chain_goes _ _ _ _ (chain_goes _ _ _ _ (pair_none h.here h.there) refl (rw (eq-eqb (length e) 2048 h.table))) refl (rw (eq-eqb (length bs) 8 h.path))

-- ---- which refusals arise at the hop

-- none of what is given
pub given-plain : (s : Shape) (a d : ℕ) (bs e : List ℕ) → at_hop (given_refusal s a d bs e) ≡ false
unfolding at_hop
given-plain s a d bs e = not-true _ (one_passes (λ r. not (at_hop r)) refl refl (given-numbers s a d bs e))

-- all of a byte's
byte-at-hop : (s : Shape) (a : ℕ) (e : List ℕ) (b : ℕ) → byte_refusal s a e b ≢ 0 → at_hop (byte_refusal s a e b) ≡ true
unfolding at_hop
byte-at-hop s a e b n = refused_passes at_hop refl (byte-numbers s a e b) n

pub with_place-plain : (i r : ℕ) → at_hop r ≡ false → with_place i r ≡ plain r
unfolding with_place
with_place-plain i r e = rw e

pub with_place-at : (i r : ℕ) → at_hop r ≡ true → with_place i r ≡ refused_at r 1 (i + 1)
unfolding with_place
with_place-at i r e = rw e

pub with_place-number : (i r : ℕ) → (with_place i r).number ≡ r
unfolding with_place
with_place-number i r = go (at_hop r)
  where
    go : (t : Bool) → (cond t (refused_at r 1 (i + 1)) (plain r)).number ≡ r
    go true = refl
    go false = refl

-- a step's hop is at most 8: past the eighth byte nothing arises at a hop
module _ (s : Shape) (a d i : ℕ) (bs e : List ℕ) where
  far-away : 8 ≤ i → (t : Bool) → OneOf (18 ∷ []) (cond t 0 (away_refusal s a i bs e))
  unfolding away_refusal ◌or_else◌
  far-away h true = nought refl
  far-away h false = rw (le-ltb i 8 h) (test_one 18 false)

  far-plain : 8 ≤ i → at_hop (step_refusal s a d i bs e) ≡ false
  unfolding step_refusal at_hop
  far-plain h = not-true _ (one_passes (λ r. not (at_hop r)) refl refl (chain_one _ _ (given-numbers s a d bs e) (far-away h (eqb a d))))

  with_place_le : (r : ℕ) → (with_place i r).hop ≤ i + 1
  unfolding with_place
  with_place_le r = go (at_hop r)
    where
      go : (t : Bool) → (cond t (refused_at r 1 (i + 1)) (plain r)).hop ≤ i + 1
      go true = omega arith
      go false = omega arith

  pub hop_le : (with_place i (step_refusal s a d i bs e)).hop ≤ 8
  hop_le =
      elim (dec_lt i 8) [
        | yes y ↦ omega (arith, with_place_le (step_refusal s a d i bs e))
        | no y ↦ omega (arith, ap (λ (r : Refusal). r.hop) (with_place-plain i (step_refusal s a d i bs e) (far-plain (omega arith))))
      ]

-- ---- the hop by a byte: refused, or taken

module _ (s : Shape) (a : ℕ) (e : List ℕ) (b i : ℕ) where
  -- 8, 9, 10; 19; no refusal
  pub next-hop : (r : ℕ) → r ≡ hop_refusal s a b → r ≢ 0 → no_hop (refused_at r 1 (i + 1)) ≡ next_answer s a e b i
  unfolding next_answer byte_refusal
  next-hop r f n = answer-refused r _ (λ q. no_hop (refused_at q 1 (i + 1))) _ _ refl (chain_stops _ _ _ f n) n

  module _ (taken : hop_refusal s a b ≡ 0) where
    pub next_closed : flag_at e b ≢ 1 → no_hop (refused_at 19 1 (i + 1)) ≡ next_answer s a e b i
    unfolding next_answer byte_refusal ◌or_else◌
    next_closed n = rw (taken, ne_eqb (flag_at e b) 1 n)

    pub next_open : flag_at e b ≡ 1 → hop_by s a b ≡ next_answer s a e b i
    unfolding next_answer byte_refusal ◌or_else◌
    next_open k = rw (taken, eq-eqb (flag_at e b) 1 k)

  -- for the step: what the next hop tells
  pub next-refused : (x : Refusal) → no_hop x ≡ next_answer s a e b i → x.number ≢ 0 → (byte_refusal s a e b ≢ 0) × (x ≡ refused_at (byte_refusal s a e b) 1 (i + 1))
  unfolding next_answer
  next-refused x f n = go (byte_refusal s a e b) f
    where
      go : (q : ℕ) → no_hop x ≡ answer q (λ r. no_hop (refused_at r 1 (i + 1))) (hop_by s a b) → (q ≢ 0) × (x ≡ refused_at q 1 (i + 1))
      go zero g = absurd (n (ap (λ (y : Hop). y.refusal.number) g))
      go (suc q) g = (λ z. omega arith, ap (λ (y : Hop). y.refusal) g)

  pub next-taken : (x : Hopped) → the_hop x ≡ next_answer s a e b i → (byte_refusal s a e b ≡ 0) × (the_hop x ≡ hop_by s a b)
  unfolding next_answer
  next-taken x f =
      answered (λ (y : Hop). y.refusal.number) (λ r. no_hop (refused_at r 1 (i + 1))) (λ r. refl) (byte_refusal s a e b) (the_hop x) (hop_by s a b) f refl

-- ---- the chain, way by way

module _ (s : Shape) (a d i : ℕ) (bs e : List ℕ) where
  stop_at : (q : ℕ) (x : Refusal) → q ≡ step_refusal s a d i bs e → q ≢ 0 → x ≡ with_place i q → no_step x ≡ step_answer s a d i bs e
  unfolding step_answer
  stop_at q x f h g = answer-refused q _ (λ r. no_step (with_place i r)) _ _ (ap no_step g) f h

  -- what is given is refused
  pub stops-given : (g : ℕ) → g ≡ given_refusal s a d bs e → g ≢ 0 → no_step (plain g) ≡ step_answer s a d i bs e
  unfolding step_refusal
  stops-given g f h = stop_at g (plain g) (chain_stops _ _ _ f h) h (sym (with_place-plain i g (ap at_hop f ∙ given-plain s a d bs e)))

  module _ (given : 0 ≡ given_refusal s a d bs e) where
    -- at the destination; past the eighth byte
    pub delivers : a ≡ d → delivery ≡ step_answer s a d i bs e
    unfolding step_answer step_refusal ◌or_else◌
    delivers h = rw (← given, eq-eqb a d h)

    module _ (away : a ≢ d) where
      chain : step_refusal s a d i bs e ≡ away_refusal s a i bs e
      unfolding step_refusal ◌or_else◌
      chain = rw (← given, ne_eqb a d away)

      pub stops-far : 8 ≤ i → (x : Refusal) → x ≡ plain 18 → no_step x ≡ step_answer s a d i bs e
      unfolding away_refusal ◌or_else◌ at_hop
      stops-far h x f = stop_at 18 x (sym (chain ∙ rw (le-ltb i 8 h))) (λ z. omega arith) (f ∙ sym (with_place-plain i 18 refl))

      module _ (index : i < 8) where
        byte_chain : step_refusal s a d i bs e ≡ byte_refusal s a e (get_or bs i 0)
        unfolding away_refusal ◌or_else◌
        byte_chain = chain ∙ rw (lt-ltb i 8 index)

        -- the byte's hop is refused, or it goes
        pub stops-hop : (x : Refusal) → no_hop x ≡ next_answer s a e (get_or bs i 0) i → x.number ≢ 0 → no_step x ≡ step_answer s a d i bs e
        stops-hop x f n =
            let r = next-refused s a e (get_or bs i 0) i x f n in
            stop_at (byte_refusal s a e (get_or bs i 0)) x (sym byte_chain) r.0 (r.1 ∙ sym (with_place-at i _ (byte-at-hop s a e (get_or bs i 0) r.0)))

        pub goes : (x : Hopped) → the_hop x ≡ next_answer s a e (get_or bs i 0) i → (m : List ℕ) → m ≡ mac_at e (get_or bs i 0) → the_step (Onward (record { next = x.next; index = i + 1; mac = m; port = port_at e (get_or bs i 0); level = x.level; old = x.old })) ≡ step_answer s a d i bs e
        unfolding step_answer
        goes x f m g =
            let y = next-taken s a e (get_or bs i 0) i x f in
            let z : step_refusal s a d i bs e ≡ 0 = byte_chain ∙ y.0 in
            ap₂ (λ (h : Hop) (n : List ℕ). record { refusal = none; delivered = false; next = h.next; index = i + 1; mac = n; port = port_at e (get_or bs i 0); level = h.level; old = h.old }) y.1 g
            ∙ rw (z, ne_eqb a d away)

-- ---- what no refusal tells

-- a step that is not refused, away from the destination: it goes by this byte
pub record GoesBy (s : Shape) (a d i : ℕ) (bs e : List ℕ) : Type 0 where
  pub given : Given s a d bs e
  pub index : i < 8
  pub taken : hop_refusal s a (get_or bs i 0) ≡ 0
  pub flag : flag_at e (get_or bs i 0) ≡ 1

pub goes_of : (s : Shape) (a d i : ℕ) (bs e : List ℕ) → step_refusal s a d i bs e ≡ 0 → a ≢ d → GoesBy s a d i bs e
unfolding step_refusal away_refusal byte_refusal
goes_of s a d i bs e z away =
    let b = get_or bs i 0 in
    let x = or_else_zero (given_refusal s a d bs e) (cond (eqb a d) 0 (away_refusal s a i bs e)) z in
    let y : away_refusal s a i bs e ≡ 0 = rw (ne_eqb a d away) at x.1 in
    let w = or_else_zero (18 unless ltb i 8) (byte_refusal s a e b) y in
    let v = or_else_zero (hop_refusal s a b) (19 unless eqb (flag_at e b) 1) w.1 in
    record { given = given_of s a d bs e x.0; index = ltb-true i 8 (test_held _ 17 w.0); taken = v.0; flag = eqb-true (flag_at e b) 1 (test_held _ 18 v.1) }

pub goes_none : {s : Shape} {a d i : ℕ} {bs e : List ℕ} → GoesBy s a d i bs e → a ≢ d → step_refusal s a d i bs e ≡ 0
unfolding byte_refusal ◌or_else◌
goes_none {s} {a} {d} {i} {bs} {e} h away =
    byte_chain s a d i bs e (given-none h.given) away h.index ∙ rw (h.taken, eq-eqb (flag_at e (get_or bs i 0)) 1 h.flag)
