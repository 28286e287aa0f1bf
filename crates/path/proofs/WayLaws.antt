-- Laws of what a walk answers: reading and reversal take it from the way, and the way back is the number's bytes.
use Prim.Native.Nat.{ℕ, zero, suc, ◌+◌, ◌-◌, ◌*◌, ◌/◌, ◌%◌, ◌^◌, ◌≤◌, ◌<◌}
use mathlib.Core.Path.{◌≡◌, refl, sym, ap, ap₂, ◌∙◌, subst}
use mathlib.Core.Logic.{◌≢◌}
use mathlib.Core.List.{List, [], ◌∷◌, ◌++◌, reverse}
use native.Mathlib.Omega.{arith}
use native.Mathlib.Nat.{div-div-eq-div-mul, mul_comm, pow-suc}
use Rattle.std.specs.Int.{byte_at, bytes_low_first, to_le_bytes}
use lib.ListN.{length, get_or, replicate, length-reverse}
use mir.Syntax.{w64}
use mir.Val.{Fits}
use Rattle.lists.specs.Lists.{in_turn, filled}
use Rattle.lists.proofs.ListLaws.{length_turn, filled_at}
use Rattle.refusals.specs.Refusals.{Refusal, plain, answer}
use Rattle.refusals.specs.declared.Refused.{Refused}
use Rattle.refusals.specs.Reasons.{refusal_of}
use Rattle.refusals.proofs.ReasonLaws.{reason-some}
use Rattle.refusals.proofs.AnswerLaws.{answer-none}
use Rattle.room.specs.declared.Shape.{Shape}
use Rattle.path.specs.Told.{Walked, Way}
use Rattle.path.specs.Routes.{byte_to, encode, Route, Encodes}
use Rattle.path.specs.Walks.{Walk, stopped, arrived, walk}
use Rattle.path.specs.Answers.{array_refusal, no_walk, walked, walk_answer, no_reading, reading, read_answer, no_writing, reversed, reverse_answer}
use Rattle.path.specs.Inside.{low_first, back_over, no_way, a_way, way_of, way_answer, WalkLeaves}
use Rattle.path.proofs.ReverseLaws.{route-reverse}
use Rattle.path.proofs.CodecLaws.{encode-small, encodes_none, encodes_walk, walk-exactly, walk-given, reverse-given}

-- ---- bytes of a number, the lowest first

-- the bytes from the second on are those of the number without its lowest
bytes_on : (i m x : ℕ) → bytes_low_first (suc i) m x ≡ bytes_low_first i m (x / 256)
bytes_on i zero x = refl
bytes_on i (suc m) x = ap₂ (λ (b : ℕ) (bs : List ℕ). b ∷ bs) (byte_on i) (bytes_on (suc i) m x)
  where
    byte_on : (j : ℕ) → byte_at (suc j) x ≡ byte_at j (x / 256)
    byte_on zero = refl
    byte_on (suc j) = ap (λ (y : ℕ). y % 256) (sym (div-div-eq-div-mul x 256 (256 ^ suc j) ∙ ap (λ (y : ℕ). x / y) (sym (pow-suc 256 (suc j) ∙ mul_comm (256 ^ suc j) 256))))

-- what bytes were put together gives them back, with zeros past them
pub low-bytes : (m : ℕ) (bs : List ℕ) → ((i : ℕ) → i < length bs → get_or bs i 0 < 256) → length bs ≤ m → bytes_low_first 0 m (low_first bs) ≡ filled m bs
unfolding low_first filled
low-bytes zero [] h few = refl
low-bytes zero (b ∷ bs) h few = let z : ⊥ = omega arith in absurd z
low-bytes (suc m) [] h few =
    let e : suc (m - 0) ≡ suc m - 0 = omega arith in
    ap (λ (xs : List ℕ). 0 ∷ xs) (bytes_on 0 m 0 ∙ low-bytes m [] (λ i p. let z : ⊥ = omega arith in absurd z) (omega arith)) ∙ ap (λ (n : ℕ). replicate n 0) e
low-bytes (suc m) (b ∷ bs) h few =
    let first = h 0 (omega arith) in
    let e : (b + 256 * low_first bs) % 256 ≡ b = omega arith in
    let f : (b + 256 * low_first bs) / 256 ≡ low_first bs = omega arith in
    let g : m - length bs ≡ suc m - suc (length bs) = omega arith in
    ap₂ (λ (x : ℕ) (xs : List ℕ). x ∷ xs) e (bytes_on 0 m (b + 256 * low_first bs) ∙ ap (bytes_low_first 0 m) f ∙ low-bytes m bs (λ i p. h (suc i) (omega arith)) (omega arith) ∙ ap (λ (n : ℕ). bs ++ replicate n 0) g)

-- ---- the way of a route

way-given : {s : Shape} {t : List ℕ} {a d : ℕ} {bs vs : List ℕ} → Encodes s t a d bs vs → way_answer s t a d bs ≡ a_way (length vs - 1) (back_over s vs)
unfolding way_answer
way-given {s} h = answer-none _ _ _ (encodes_none h) ∙ ap (way_of s) (encodes_walk h)

-- the bytes of the way back are those of the route backwards
way_back : {s : Shape} {t vs : List ℕ} → Route s t vs → to_le_bytes w64 (back_over s vs) ≡ encode s (reverse vs)
unfolding back_over encode
way_back {s} {t} {vs} r =
    let xs = in_turn (byte_to s) (reverse vs) in
    low-bytes 8 xs
    (λ i p. subst (λ (b : ℕ). b < 256) (filled_at 8 xs i) (encode-small (route-reverse r) i))
    (omega (arith, length_turn (byte_to s) (reverse vs), length-reverse vs, r.few))

-- ---- what is answered of a walk, from its way w and what it left

module _ (s : Shape) (t : List ℕ) (a d : ℕ) (bs : List ℕ) (w : Way) {met used : List ℕ} (g : WalkLeaves s t a d bs w met used) where
  way-refusal : w.refusal ≡ (walk_answer s t a d bs).refusal
  unfolding way_answer walk_answer
  way-refusal = ap (λ (x : Way). x.refusal) g.way ∙ go (array_refusal s a d bs) (walk s t a d bs)
    where
      go : (q : ℕ) (k : Walk) → (answer q (λ r. no_way (plain r)) (way_of s k)).refusal ≡ (answer q (λ r. no_walk (plain r)) (walked k)).refusal
      go zero (stopped r) = refl
      go zero (arrived vs ws) = refl
      go (suc q) k = refl

  -- a walk that is refused answers zeros
  stopped-walk : w.refusal.number ≢ 0 → no_walk w.refusal ≡ walk_answer s t a d bs
  unfolding walk_answer
  stopped-walk n = ap no_walk way-refusal ∙ go (array_refusal s a d bs) (walk s t a d bs) (λ z. n (ap (λ (x : Refusal). x.number) way-refusal ∙ z))
    where
      go : (q : ℕ) (k : Walk) → (answer q (λ r. no_walk (plain r)) (walked k)).refusal.number ≢ 0 → no_walk (answer q (λ r. no_walk (plain r)) (walked k)).refusal ≡ answer q (λ r. no_walk (plain r)) (walked k)
      go zero (stopped r) n = refl
      go zero (arrived vs ws) n = absurd (n refl)
      go (suc q) k n = refl

  module _ (z : w.refusal.number ≡ 0) where
    abbrev found : (vs : List ℕ) × Encodes s t a d bs vs
    found = (walk-exactly s t a d bs).0 (sym (ap (λ (x : Refusal). x.number) way-refusal) ∙ z)

    made : w ≡ a_way (length found.0 - 1) (back_over s found.0)
    made = g.way ∙ way-given found.1

    walk-count : w.hops + 1 ≡ (walk_answer s t a d bs).count
    walk-count =
        omega (arith, ap (λ (x : Way). x.hops) made, ap (λ (x : Walked). x.count) (walk-given found.1), found.1.route.route.some)

    pub walk-fits : Fits w64 (w.hops + 1)
    walk-fits = omega (arith, ap (λ (x : Way). x.hops) made, found.1.route.route.few)

    pub walk_answers : record { refusal = w.refusal; count = w.hops + 1; servers = met; switches = used } ≡ walk_answer s t a d bs
    walk_answers = rw (way-refusal, walk-count, g.servers z, g.switches z)

pub walk_refuses : (s : Shape) (t : List ℕ) (a d : ℕ) (bs : List ℕ) (r : Refused) {met used : List ℕ} → WalkLeaves s t a d bs (no_way (refusal_of r)) met used → no_walk (refusal_of r) ≡ walk_answer s t a d bs
walk_refuses s t a d bs r g = stopped-walk s t a d bs _ g (reason-some r.reason)

-- ---- plain reading and reversal

pub read_refuses : (s : Shape) (a d : ℕ) (bs : List ℕ) (r : Refused) {met used : List ℕ} → WalkLeaves s [] a d bs (no_way (refusal_of r)) met used → no_reading (refusal_of r) ≡ read_answer s a d bs
unfolding read_answer
read_refuses s a d bs r g = ap reading (walk_refuses s [] a d bs r g)

module _ (s : Shape) (a d : ℕ) (bs : List ℕ) (w : Way) {met used : List ℕ} (g : WalkLeaves s [] a d bs w met used) where
  pub read_answers : w.refusal.number ≡ 0 → record { refusal = w.refusal; count = w.hops + 1; servers = met } ≡ read_answer s a d bs
  unfolding read_answer
  read_answers z = ap reading (walk_answers s [] a d bs w g z)

  reverse_stops : w.refusal.number ≢ 0 → no_writing w.refusal ≡ reverse_answer s a d bs
  unfolding walk_answer reverse_answer
  reverse_stops n =
      ap no_writing r ∙ go (array_refusal s a d bs) (walk s [] a d bs) (λ z. n (ap (λ (x : Refusal). x.number) r ∙ z))
    where
      r : w.refusal ≡ (walk_answer s [] a d bs).refusal
      r = way-refusal s [] a d bs w g

      go : (q : ℕ) (k : Walk) → (answer q (λ r. no_walk (plain r)) (walked k)).refusal.number ≢ 0 → no_writing (answer q (λ r. no_walk (plain r)) (walked k)).refusal ≡ answer q (λ r. no_writing (plain r)) (reversed s k)
      go zero (stopped r) n = refl
      go zero (arrived vs ws) n = absurd (n refl)
      go (suc q) k n = refl

  pub reverse_answers : w.refusal.number ≡ 0 → (ys : List ℕ) → ys ≡ to_le_bytes w64 w.back → record { refusal = w.refusal; bytes = ys } ≡ reverse_answer s a d bs
  reverse_answers z ys e =
      let f = found s [] a d bs w g z in
      let m = made s [] a d bs w g z in
      let y = e ∙ ap (λ (x : Way). to_le_bytes w64 x.back) m ∙ way_back f.1.route.route in
      rw (ap (λ (x : Way). x.refusal) m, y) (sym (reverse-given f.1))

pub reverse_refuses : (s : Shape) (a d : ℕ) (bs : List ℕ) (r : Refused) {met used : List ℕ} → WalkLeaves s [] a d bs (no_way (refusal_of r)) met used → no_writing (refusal_of r) ≡ reverse_answer s a d bs
reverse_refuses s a d bs r g = reverse_stops s a d bs _ g (reason-some r.reason)
