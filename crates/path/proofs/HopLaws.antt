-- Laws of single hops: which bytes are hops and which test refuses the others, where a hop leads, and that neighbours and path bytes answer to
-- each other.
use Prim.Native.Nat.{ℕ, suc, ◌+◌, ◌-◌, ◌*◌, ◌/◌, ◌%◌, ◌^◌, ◌≤◌, ◌<◌}
use mathlib.Core.Path.{◌≡◌, refl, sym, ap, ap₂, ◌∙◌, subst}
use mathlib.Core.Logic.{◌≢◌, ◌↔◌}
use mathlib.Core.Bool.{Bool, true, false, not, ◌&&◌}
use mathlib.Core.List.{List, [], ◌∷◌}
use native.Mathlib.Omega.{arith}
use native.Mathlib.Decide.{ℕ_discrete, dec_lt}
use lib.ListN.{get_or}
use mir.Syntax.{w64}
use mir.Val.{Fits}
use lib.Dec.{ltb, leb, eqb}
use borrow.Author.Tests.{lt-ltb, le-ltb, le-leb, lt-leb, ltb-true, leb-true, eqb-true, eqb-false, eq-eqb, ne_eqb, not-true, not-false}
use Rattle.std.specs.Prelude.{Result, Ok, Err, IsErrAnd, MatchResult}
use Rattle.std.proofs.lemmas.Result.{err_from_is_err_and}
use Rattle.lists.proofs.ListLaws.{both_held}
use Rattle.refusals.specs.declared.Reason.{Reason}
use Rattle.refusals.specs.declared.Refused.{Refused}
use Rattle.refusals.specs.Reasons.{number_of, refusal_of, tells, tells_where}
use Rattle.path.specs.declared.Hop.{Hop as Hopped}
use Rattle.refusals.specs.Refusals.{refused_at, ◌or_else◌, ◌unless◌}
use Rattle.refusals.proofs.ChainLaws.{or_else_zero, test_held, at-most_holds, below_holds}
use Rattle.refusals.proofs.AnswerLaws.{answer-refused, answer-given, answer-number, answered}
use Rattle.room.specs.declared.Shape.{Shape}
use Rattle.room.specs.Told.{Number}
use Rattle.room.specs.Told.{Switch}
use Rattle.room.specs.Shapes.{bound, power_of, Server, Link, Value}
use Rattle.room.specs.Digits.{differ_from}
use Rattle.room.specs.Addresses.{digits, digit, with_digit, switch_of, differing, Neighbours}
use Rattle.room.specs.Refusals.{server_refusal}
use Rattle.room.specs.Answers.{digit_answer, switch_answer}
use Rattle.room.proofs.PowerLaws.{power-within}
use Rattle.room.proofs.DigitLaws.{pow_small}
use Rattle.room.proofs.RefusalLaws.{server_of, server-none}
use Rattle.room.proofs.AnswerLaws.{digit-answered, switch-answered}
use Rattle.room.proofs.RoomLaws.{bound_le, digit_lt, digit_closed_at, with_server, with_same, with_beside, beside_with, same_switch, switch-small, neighbours-exactly, weight_pos}
use Rattle.room.proofs.SideLaws.{Moved, moved, power-link}
use Rattle.path.specs.Told.{Hop}
use Rattle.path.specs.Routes.{byte_of, level_of, value_of, switch_at, level_to, switch_to, byte_to}
use Rattle.path.specs.Walks.{hop_to, hop_refusal}
use Rattle.path.specs.Answers.{no_hop, stops_hop, the_hop, a_hop, hop_by, hop_from, hop_answer}
use Rattle.path.specs.Inside.{hop_fault}

-- ---- what the calls of the room found

pub digit-found : {s : Shape} {a l : ℕ} → Link s a l → (x : Number) → x ≡ digit_answer s a l → x.value ≡ digit s l a
digit-found h x e = ap (λ (n : Number). n.value) (digit-answered h x e)

pub switch-found : {s : Shape} {a l : ℕ} → Link s a l → (x : Switch) → x ≡ switch_answer s a l → x.number ≡ switch_of s l a
switch-found h x e = ap (λ (w : Switch). w.number) (switch-answered h x e)

-- ---- switches as numbers

-- two switches have one number exactly when they have one level and one number there
pub switch_id : {s : Shape} {a b l m : ℕ} → Link s a l → Link s b m → (switch_at s l a ≡ switch_at s m b) ↔ ((l ≡ m) × (switch_of s l a ≡ switch_of s m b))
unfolding switch_at
switch_id {s} {a} {b} {l} {m} ha hb =
    (λ e. (omega (arith, switch-small ha, switch-small hb), omega (arith, switch-small ha, switch-small hb)), λ p. omega (arith, p.0, p.1))

-- ---- both ways

pub neighbours_sym : {s : Shape} {l a b : ℕ} → Neighbours s l a b → Neighbours s l b a
neighbours_sym h =
    record { level = h.level; beside = record { agree = λ i q. sym (h.beside.agree i q) }; differ = λ e. h.differ (sym e) }

eqb_sym : (a b : ℕ) → eqb a b ≡ eqb b a
eqb_sym a b = elim (ℕ_discrete a b) [ yes h ↦ eq-eqb a b h ∙ sym (eq-eqb b a (sym h)) | no h ↦ ne_eqb a b h ∙ sym (ne_eqb b a (λ e. h (sym e))) ]

differ_sym : (o : ℕ) (ds es : List ℕ) → differ_from o ds es ≡ differ_from o es ds
unfolding differ_from
differ_sym o [] [] = refl
differ_sym o [] (e ∷ es) = refl
differ_sym o (d ∷ ds) [] = refl
differ_sym o (d ∷ ds) (e ∷ es) = rw (eqb_sym d e, differ_sym (suc o) ds es)

pub level_sym : (s : Shape) (a b : ℕ) → level_to s a b ≡ level_to s b a
unfolding level_to differing
level_sym s a b = ap (λ (x : List ℕ). get_or x 0 0) (differ_sym 0 (digits s a) (digits s b))

-- the path byte of the way back is that of the hop's level and of the value that it replaced
pub byte_back : (s : Shape) (a b : ℕ) → byte_to s b a ≡ byte_of (level_to s a b) (digit s (level_to s a b) a)
unfolding byte_to
byte_back s a b = ap (λ (l : ℕ). byte_of l (digit s l a)) (level_sym s b a)

-- the hop back uses the same switch
pub switch_sym : {s : Shape} {a b : ℕ} → Neighbours s (level_to s a b) a b → switch_to s a b ≡ switch_to s b a
unfolding switch_to switch_at
switch_sym {s} {a} {b} h =
    ap (λ (w : ℕ). 4096 * level_to s a b + w) (same_switch h.level h.beside)
    ∙ ap (λ (l : ℕ). 4096 * l + switch_of s l b) (level_sym s a b)

-- ---- which bytes are hops

pub byte-apart : (l v : ℕ) → v < 64 → (level_of (byte_of l v) ≡ l) × (value_of (byte_of l v) ≡ v)
unfolding byte_of
byte-apart l v h = (omega arith, omega arith)

-- byte b names a link of server a, and a value that its digit there can take and has not
abbrev pub Named : Shape → ℕ → ℕ → Type 0
Named s a b = Value s a (level_of b) (value_of b) × (digit s (level_of b) a ≢ value_of b)

-- byte b from server a is a hop exactly when it names a link and another value
pub hop-exactly : {s : Shape} {a : ℕ} → Server s a → (b : ℕ) → (hop_refusal s a b ≡ 0) ↔ Named s a b
unfolding hop_refusal ◌or_else◌
hop-exactly {s} {a} h b = (there, λ p. back p.0 p.1)
  where
    l : ℕ
    l = level_of b

    v : ℕ
    v = value_of b

    there : hop_refusal s a b ≡ 0 → Named s a b
    there e =
        let x = or_else_zero (8 unless leb l s.k or_else 9 unless ltb v (bound s l)) (10 unless not (eqb (digit s l a) v)) e in
        let y = or_else_zero (8 unless leb l s.k) (9 unless ltb v (bound s l)) x.0 in (
          record {
            link = record { server = h; level = leb-true l s.k (test_held _ 7 y.0) };
            value = ltb-true v (bound s l) (test_held _ 8 y.1);
          },
          eqb-false (digit s l a) v (not-true _ (test_held _ 9 x.1)),
        )

    back : Value s a l v → digit s l a ≢ v → hop_refusal s a b ≡ 0
    back k q = rw (le-leb l s.k k.link.level, lt-ltb v (bound s l) k.value, ne_eqb (digit s l a) v q)

-- ---- one hop as the program makes it: the level l and the value v of its byte, the bound m of the level, the power p of n, the own
-- value o, and t, what it found of the tests in one go

abbrev pub hop_fits : ℕ → ℕ → ℕ → ℕ → ℕ → Bool
hop_fits k l v m o = leb l k && (ltb v m && not (eqb o v))

-- why a level and a value are no hop, test by test
module _ (k l v m : ℕ) where
  pub fault-eight : k < l → 8 ≡ hop_fault k l v m
  unfolding hop_fault ◌or_else◌
  fault-eight h = simp (lt-leb l k h)

  pub fault_nine : l ≤ k → m ≤ v → 9 ≡ hop_fault k l v m
  unfolding hop_fault ◌or_else◌
  fault_nine h g = simp (le-leb l k h, le-ltb v m g)

  pub fault_ten : l ≤ k → v < m → 10 ≡ hop_fault k l v m
  unfolding hop_fault ◌or_else◌
  fault_ten h g = simp (le-leb l k h, lt-ltb v m g)

pub ruleset hop_faults = (fault-eight, fault_nine, fault_ten)

module _ (s : Shape) (a b l v : ℕ) (el : l ≡ level_of b) (ev : v ≡ value_of b) where
  refuses : (r : ℕ) (x : Hop) → suc r ≡ hop_refusal s a b → x ≡ stops_hop (suc r) → x ≡ hop_from s a b
  unfolding hop_from
  refuses r x e f = answer-refused (suc r) _ stops_hop x _ f e (λ z. omega arith)

  hop_eight : (x : Hop) → s.k < l → x ≡ stops_hop 8 → x ≡ hop_from s a b
  unfolding hop_refusal ◌or_else◌
  hop_eight x h = refuses 7 x (rw (← el) (simp (lt-leb l s.k h)))

  module _ (m : ℕ) (most : m ≡ bound s l) where
    hop_nine : (x : Hop) → l ≤ s.k → m ≤ v → x ≡ stops_hop 9 → x ≡ hop_from s a b
    unfolding hop_refusal ◌or_else◌
    hop_nine x level h = let q : bound s l ≤ v = omega arith in refuses 8 x (rw (← el, ← ev) (simp (le-leb l s.k level, le-ltb v (bound s l) q)))

    module _ (tested : server_refusal s a ≡ 0) (p : ℕ) (power : p ≡ power_of s.n (l % 4)) where
      here : Server s a
      here = server_of s a tested

      pub hop-ports : 0 < s.n
      hop-ports = let k = here.valid in omega arith

      -- the power of a level above 3 is that of another, which is one too
      within : p ≡ s.n ^ (l % 4)
      within =
          let k = here.valid in
          let low : l % 4 ≤ 3 = omega arith in
          power ∙ power-within s.n (l % 4) hop-ports k.ports low

      pub hop-weight : 0 < p
      hop-weight = weight_pos here.valid (l % 4) p within

      -- server, power and n are numbers of 32 bits
      pub hop-server-fits : a < 4294967296
      hop-server-fits = omega (arith, here.below, here.valid.small)

      pub hop-weight-fits : p < 4294967296
      hop-weight-fits =
          let k = here.valid in
          let low : l % 4 ≤ 4 = omega arith in
          omega (arith, within, pow_small s.n (l % 4) k.ports low)

      pub hop-ports_fit : s.n < 4294967296
      hop-ports_fit = let k = here.valid in omega arith

      module _ (o : ℕ) (eo : o ≡ a / p % s.n) where
        module _ (level : l ≤ s.k) (q : v < m) where
          sets : Value s a l v
          sets = record { link = record { server = here; level = level }; value = omega arith }

          weight : p ≡ s.n ^ l
          weight =
              let low : l % 4 ≡ l = omega (arith, level, here.valid.levels) in
              power ∙ ap (power_of s.n) low ∙ power-link sets.link

          own : o ≡ digit s l a
          own = eo ∙ digit_closed_at sets.link p weight

          fits : Moved s a l v p
          fits = moved sets p weight

          goes : o ≢ v → a_hop (a - o * p + v * p) l o ≡ hop_from s a b
          unfolding hop_from hop_to
          goes e =
              let n : Named s a b = (rw (← el, ← ev) sets, rw (← el, ← ev) (λ z. e (own ∙ z))) in
              let w : a - o * p + v * p ≡ with_digit s (level_of b) (value_of b) a =
              ap (λ (x : ℕ). a - x * p + v * p) eo ∙ fits.whole ∙ ap₂ (λ (x y : ℕ). with_digit s x y a) el ev in
              answer-given 0 _ stops_hop _ _ (sym ((hop-exactly here b).1 n)) refl
              (rw (w, own, el))

          same : (x : Hop) → o ≡ v → x ≡ stops_hop 10 → x ≡ hop_from s a b
          unfolding hop_refusal ◌or_else◌
          same x e =
              refuses 9 x (rw (← el, ← ev) (simp (le-leb l s.k level, lt-ltb v (bound s l) sets.value, eq-eqb (digit s l a) v (sym own ∙ e))))

        module _ (t : Bool) (g : t ≡ hop_fits s.k l v m o) where
          module _ (h : t ≡ true) where
            passed : (l ≤ s.k) × (v < m) × (o ≢ v)
            passed =
                let x = both_held (leb l s.k) _ (sym g ∙ h) in
                let y = both_held (ltb v m) _ x.1 in
                (leb-true l s.k x.0, ltb-true v m y.0, eqb-false o v (not-true _ y.1))

            -- what is put on
            pub new-fits : Fits w64 (v * p)
            new-fits = let f = fits passed.0 passed.1 in omega (arith, f.new)

            pub next_fits : Fits w64 (a - o * p + v * p)
            next_fits = let f = fits passed.0 passed.1 in omega (arith, f.new, here.below, here.valid.small)

            pub hop-goes : a_hop (a - o * p + v * p) l o ≡ hop_from s a b
            hop-goes = goes passed.0 passed.1 passed.2

          hop_ten : t ≡ false → l ≤ s.k → v < m → (x : Hop) → x ≡ stops_hop 10 → x ≡ hop_from s a b
          hop_ten h level q x f =
              let e = at-most_holds l s.k _ level _ (below_holds v m _ q _ refl) ∙ sym g ∙ h in
              same level q x (eqb-true o v (not-false _ e)) f

          -- 8, 9 or 10
          pub hop-none : t ≡ false → (q : ℕ) → q ≡ hop_fault s.k l v m → stops_hop q ≡ hop_from s a b
          hop-none h q e =
              elim (dec_lt s.k l) [
                | yes y ↦ hop_eight _ y (ap stops_hop (e ∙ sym (fault-eight s.k l v m y)))
                | no y ↦ let k : l ≤ s.k = omega arith in
                    elim (dec_lt v m) [
                      | no z ↦ let w : m ≤ v = omega arith in hop_nine _ k w (ap stops_hop (e ∙ sym (fault_nine s.k l v m k w)))
                      | yes z ↦ hop_ten h k z _ (ap stops_hop (e ∙ sym (fault_ten s.k l v m k z)))
                    ]
              ]

pub ruleset hop_sizes = (hop-server-fits, hop-weight-fits, hop-ports_fit, hop-weight, hop-ports, new-fits, next_fits, hop-goes, hop-none)

-- y is what was made of x, which is told of the hop: its reason as a refusal at hop 1 of route 1
pub hop_told : (s : Shape) (a b : ℕ) (x : Result Hopped Reason) → tells stops_hop the_hop x ≡ hop_from s a b → {post : Reason → Refused → Type 0} (y : Result Hopped Refused) → MatchResult x (λ h. y ≡ Ok h) (λ e. IsErrAnd y (post e)) → ((e : Reason) (q : Refused) → post e q → refusal_of q ≡ refused_at (number_of e) 1 1) → tells_where no_hop the_hop y ≡ hop_from s a b
hop_told s a b (Ok h) e y m k = ap (tells_where no_hop the_hop) m ∙ e
hop_told s a b (Err r) e y m k = let z = err_from_is_err_and y m in rw (z.1) (ap no_hop (k r z.0 z.2)) ∙ e

-- ---- for a caller: the number is that of the byte, and with none the hop leads where it says

module _ (s : Shape) (a b : ℕ) (x : Hop) (e : x ≡ hop_from s a b) where
  pub hop-number : x.refusal.number ≡ hop_refusal s a b
  unfolding hop_from
  hop-number =
      ap (λ (y : Hop). y.refusal.number) e
      ∙ answer-number (λ (y : Hop). y.refusal.number) stops_hop (λ r. refl) (hop_refusal s a b) (hop_by s a b) refl

  pub hop-made : x.refusal.number ≡ 0 → x ≡ hop_by s a b
  unfolding hop_from
  hop-made z =
      (answered (λ (y : Hop). y.refusal.number) stops_hop (λ r. refl) (hop_refusal s a b) x (hop_by s a b) e z).1

-- of a server of the room, the tests of the server refuse nothing
pub hop_tested : {s : Shape} {a : ℕ} → Server s a → (b : ℕ) → hop_from s a b ≡ hop_answer s a b
unfolding hop_answer
hop_tested h b = rw (← server-none h)

pub hop-known : {s : Shape} {a : ℕ} → Server s a → (b : ℕ) (x : Hop) → x ≡ hop_answer s a b → x ≡ hop_from s a b
hop-known h b x e = e ∙ sym (hop_tested h b)

-- ---- where a hop leads

module _ {s : Shape} {a : ℕ} (h : Server s a) (b : ℕ) (none : hop_refusal s a b ≡ 0) where
  pub hop-value : Value s a (level_of b) (value_of b)
  hop-value = ((hop-exactly h b).0 none).0

  -- its level and its old value are small
  pub hop-level-low : level_of b ≤ 3
  hop-level-low = omega (arith, hop-value.link.level, h.valid.levels)

  pub hop-old-low : digit s (level_of b) a < 64
  hop-old-low = omega (arith, digit_lt h (level_of b) hop-value.link.level, bound_le h.valid (level_of b), h.valid.ports)

  pub hop-server : Server s (hop_to s a b)
  unfolding hop_to
  hop-server = with_server hop-value

  hop-digit : digit s (level_of b) (hop_to s a b) ≡ value_of b
  unfolding hop_to
  hop-digit = with_same hop-value

  pub hop-neighbours : Neighbours s (level_of b) a (hop_to s a b)
  unfolding hop_to
  hop-neighbours =
      record { level = hop-value.link.level; beside = with_beside hop-value; differ = λ e. ((hop-exactly h b).0 none).1 (e ∙ with_same hop-value) }

  pub hop-level : level_to s a (hop_to s a b) ≡ level_of b
  unfolding level_to
  hop-level = ap (λ (x : List ℕ). get_or x 0 0) ((neighbours-exactly h hop-server (level_of b)).1 hop-neighbours)

  pub hop-byte-back : byte_to s (hop_to s a b) a ≡ byte_of (level_of b) (digit s (level_of b) a)
  hop-byte-back = byte_back s a (hop_to s a b) ∙ ap (λ (l : ℕ). byte_of l (digit s l a)) hop-level

  pub hop-byte : byte_to s a (hop_to s a b) ≡ b
  unfolding byte_to byte_of
  hop-byte =
      ap (λ (l : ℕ). 64 * l + digit s l (hop_to s a b)) hop-level ∙ ap (λ (v : ℕ). 64 * level_of b + v) hop-digit ∙ omega arith

  pub hop-switch : switch_to s a (hop_to s a b) ≡ switch_at s (level_of b) a
  unfolding switch_to
  hop-switch = ap (λ (l : ℕ). switch_at s l a) hop-level

-- ---- the byte of the hop to a neighbour

pub level-only : {s : Shape} {l a b : ℕ} → Server s a → Server s b → Neighbours s l a b → level_to s a b ≡ l
unfolding level_to
level-only {s} {l} ha hb h = ap (λ (x : List ℕ). get_or x 0 0) ((neighbours-exactly ha hb l).1 h)

pub at_level : {s : Shape} {l a b : ℕ} → Server s a → Server s b → Neighbours s l a b → Neighbours s (level_to s a b) a b
at_level {s} {l} {a} {b} ha hb h = subst (λ (m : ℕ). Neighbours s m a b) (sym (level-only ha hb h)) h

module _ {s : Shape} {a b : ℕ} (ha : Server s a) (hb : Server s b) (h : Neighbours s (level_to s a b) a b) where
  to-value : digit s (level_to s a b) b < bound s (level_to s a b)
  to-value = digit_lt hb (level_to s a b) h.level

  to-small : digit s (level_to s a b) b < 64
  to-small = omega (arith, to-value, bound_le ha.valid (level_to s a b), ha.valid.ports)

  pub byte-level : level_of (byte_to s a b) ≡ level_to s a b
  unfolding byte_to
  byte-level = (byte-apart (level_to s a b) (digit s (level_to s a b) b) to-small).0

  pub byte-digit : value_of (byte_to s a b) ≡ digit s (level_to s a b) b
  unfolding byte_to
  byte-digit = (byte-apart (level_to s a b) (digit s (level_to s a b) b) to-small).1

  pub byte_small : byte_to s a b < 256
  unfolding byte_to byte_of
  byte_small = omega (arith, to-small, h.level, ha.valid.levels)

  pub byte-hop : hop_to s a (byte_to s a b) ≡ b
  unfolding hop_to
  byte-hop =
      ap (λ (l : ℕ). with_digit s l (value_of (byte_to s a b)) a) byte-level
      ∙ ap (λ (v : ℕ). with_digit s (level_to s a b) v a) byte-digit
      ∙ beside_with (record { server = ha; level = h.level }) hb h.beside

  pub byte-taken : hop_refusal s a (byte_to s a b) ≡ 0
  byte-taken =
      (hop-exactly ha (byte_to s a b)).1 (rw (byte-level, byte-digit) (record { link = record { server = ha; level = h.level }; value = to-value }, h.differ))

  pub byte-switch : switch_at s (level_of (byte_to s a b)) a ≡ switch_to s a b
  unfolding switch_to
  byte-switch = ap (λ (l : ℕ). switch_at s l a) byte-level
