-- Laws of one path byte: what the programs find, and that making a byte and taking it apart undo each other.
use Prim.Native.Nat.{ℕ, ◌+◌, ◌*◌, ◌/◌, ◌%◌, ◌≤◌, ◌<◌}
use mathlib.Core.Path.{◌≡◌, refl, sym, ap, ap₂, ◌∙◌}
use mathlib.Core.Logic.{◌≢◌}
use mathlib.Core.Bool.{Bool, true, false, ◌&&◌}
use native.Mathlib.Omega.{arith}
use lib.Dec.{ltb, leb}
use mir.Syntax.{w64}
use mir.Val.{Fits}
use borrow.Author.Tests.{lt-ltb, le-ltb, le-leb, lt-leb, ltb-true, leb-true}
use Rattle.lists.proofs.ListLaws.{both_held}
use Rattle.refusals.specs.Refusals.{Refusal, plain, refused_at, ◌unless◌}
use Rattle.refusals.proofs.AnswerLaws.{answered, answer-refused, answer-given, answer-none}
use Rattle.refusals.proofs.ChainLaws.{or_else_zero, chain_stops, chain_goes, test_held, at-most_holds}
use Rattle.room.specs.declared.Shape.{Shape}
use Rattle.room.specs.Shapes.{bound}
use Rattle.room.specs.Refusals.{shape_refusal, level_refusal}
use Rattle.room.specs.Answers.{no_number, a_number}
use Rattle.room.proofs.RefusalLaws.{valid_of, valid-none, level-of, level-none}
use Rattle.room.proofs.RoomLaws.{bound_le}
use Rattle.path.specs.Told.{Parts}
use Rattle.path.specs.Routes.{byte_of, level_of, value_of}
use Rattle.path.specs.Bytes.{made_refusal, Made, byte_answer, parts_refusal, no_parts, some_parts, parts_answer}

-- ---- what a passed test tells

pub made_of : (s : Shape) (l v : ℕ) → made_refusal s l v ≡ 0 → Made s l v
unfolding made_refusal
made_of s l v z =
    let p = or_else_zero (level_refusal s l) (21 unless ltb v (bound s l)) z in
    let h = level-of s l p.0 in
    record { valid = h.0; level = h.1; value = ltb-true v (bound s l) (test_held _ 20 p.1) }

pub made_none : {s : Shape} {l v : ℕ} → Made s l v → 0 ≡ made_refusal s l v
unfolding made_refusal
made_none {s} {l} {v} h = chain_goes _ _ _ _ (level-none h.valid h.level) refl (rw (lt-ltb v (bound s l) h.value))

pub parts_of : (s : Shape) (b : ℕ) → shape_refusal s ≡ 0 → parts_refusal s b ≡ 0 → Made s (level_of b) (value_of b)
unfolding parts_refusal
parts_of s b v z =
    let t = or_else_zero (8 unless leb (level_of b) s.k) (9 unless ltb (value_of b) (bound s (level_of b))) z in
    record { valid = valid_of s v; level = leb-true (level_of b) s.k (test_held _ 7 t.0); value = ltb-true (value_of b) (bound s (level_of b)) (test_held _ 8 t.1) }

pub parts_none : {s : Shape} (b : ℕ) → Made s (level_of b) (value_of b) → 0 ≡ parts_refusal s b
unfolding parts_refusal
parts_none {s} b h =
    chain_goes _ _ _ _ (rw (le-leb (level_of b) s.k h.level)) refl (rw (lt-ltb (value_of b) (bound s (level_of b)) h.value))

-- ---- making a byte: b is the bound of its level, t what the program found of both tests

module _ (s : Shape) (l v : ℕ) (found : 0 ≡ shape_refusal s) (b : ℕ) (f : b ≡ bound s l) (t : Bool) (g : t ≡ (leb l s.k && ltb v b)) where
  pub made-fits : t ≡ true → 0 ≡ made_refusal s l v
  made-fits h =
      let p = both_held (leb l s.k) (ltb v b) (sym g ∙ h) in
      let below = ltb-true v b p.1 in
      made_none (record { valid = valid_of s (sym found); level = leb-true l s.k p.0; value = omega arith })

  pub made_high : t ≡ false → l ≤ s.k → 21 ≡ made_refusal s l v
  unfolding made_refusal
  made_high h q =
      let e : ltb v (bound s l) ≡ false = rw (← f) (at-most_holds l s.k _ q _ refl ∙ sym g ∙ h) in
      chain_goes _ _ _ 21 (level-none (valid_of s (sym found)) q) refl (rw e)

module _ (s : Shape) (l v : ℕ) (found : 0 ≡ made_refusal s l v) where
  pub made-given : a_number (64 * l + v) ≡ byte_answer s l v
  unfolding byte_answer byte_of
  made-given = answer-given 0 _ no_number _ _ found refl refl

  pub made-small : Fits w64 (64 * l + v)
  made-small = let h = made_of s l v (sym found) in omega (arith, h.level, h.value, bound_le h.valid l, h.valid.ports, h.valid.levels)

  pub made-weight : Fits w64 (64 * l)
  made-weight = omega (arith, made-small)

pub ruleset made_bytes = (made-weight, made-small, made-given)

-- ---- taking it apart

-- r is the refusal at hop 1 of route 1; l is the level of the byte, y its bound, and v the value
module _ (s : Shape) (b : ℕ) (found : 0 ≡ shape_refusal s) (l : ℕ) (named : l ≡ level_of b) where
  stops : (p : ℕ) (r : Refusal) → r ≡ refused_at p 1 1 → p ≢ 0 → p ≡ parts_refusal s b → no_parts r ≡ parts_answer s b
  unfolding parts_answer
  stops p r f n e = answer-given 0 _ (λ (y : ℕ). no_parts (plain y)) _ _ found refl (answer-refused p _ (λ (y : ℕ). no_parts (refused_at y 1 1)) _ _ (ap no_parts f) e n)

  pub parts_level : (r : Refusal) → r ≡ refused_at 8 1 1 → s.k < l → no_parts r ≡ parts_answer s b
  unfolding parts_refusal
  parts_level r f h = stops 8 r f (λ e. omega arith) (chain_stops _ _ _ (rw (← named, lt-leb l s.k h)) (λ e. omega arith))

  module _ (h : l ≤ s.k) (y : ℕ) (g : y ≡ bound s l) (v : ℕ) (e : v ≡ value_of b) where
    pub parts_value : (r : Refusal) → r ≡ refused_at 9 1 1 → y ≤ v → no_parts r ≡ parts_answer s b
    unfolding parts_refusal
    parts_value r f k = stops 9 r f (λ e. omega arith) (chain_goes _ _ _ _ (rw (← named, le-leb l s.k h)) refl (rw (← named, ← e, ← g, le-ltb v y k)))

    pub parts_given : v < y → some_parts l v ≡ parts_answer s b
    unfolding parts_answer parts_refusal
    parts_given k =
        answer-given 0 _ (λ (y : ℕ). no_parts (plain y)) _ _ found refl
        (answer-given 0 _ (λ (y : ℕ). no_parts (refused_at y 1 1)) _ _ (chain_goes _ _ _ _ (rw (← named, le-leb l s.k h)) refl (rw (← named, ← e, ← g, lt-ltb v y k))) refl (ap₂ some_parts named e))

-- ---- they undo each other

-- the byte of a level and a value has them as its parts
pub made_parts : {s : Shape} {l v : ℕ} → Made s l v → (byte_answer s l v ≡ a_number (byte_of l v)) × (parts_answer s (byte_of l v) ≡ some_parts l v)
unfolding byte_answer parts_answer byte_of
made_parts {s} {l} {v} h =
    let most = bound_le h.valid l in
    let p : (64 * l + v) / 64 ≡ l = omega (arith, h.value, h.valid.ports) in
    let q : (64 * l + v) % 64 ≡ v = omega (arith, h.value, h.valid.ports) in (
      answer-none _ _ _ (made_none h),
      answer-none _ _ _ (valid-none h.valid) ∙ answer-none _ _ _ (parts_none (64 * l + v) (rw (p, q) h)) ∙ ap₂ some_parts p q,
    )

-- and a number whose parts are not refused is the byte of them
pub parts_made : (s : Shape) (b : ℕ) → (parts_answer s b).refusal.number ≡ 0 → byte_answer s (parts_answer s b).level (parts_answer s b).value ≡ a_number b
unfolding parts_answer byte_of
parts_made s b z =
    let number : Parts → ℕ = λ x. x.refusal.number in
    let p = answered number (λ r. no_parts (plain r)) (λ r. refl) (shape_refusal s) (parts_answer s b) _ refl z in
    let q = answered number (λ r. no_parts (refused_at r 1 1)) (λ r. refl) (parts_refusal s b) _ (some_parts (level_of b) (value_of b)) refl (ap number (sym p.1) ∙ z) in
    let e : 64 * level_of b + value_of b ≡ b = omega arith in
    ap (λ (x : Parts). byte_answer s x.level x.value) (p.1 ∙ q.1) ∙ (made_parts (parts_of s b p.0 q.0)).0 ∙ ap a_number e
