-- Laws of asking for a parent: its refusals, what is known where there is none, and the level and the parent as a program finds them.
use Prim.Native.Nat.{ℕ, zero, suc, ◌+◌, ◌-◌, ◌*◌, ◌/◌, ◌%◌, ◌≤◌, ◌<◌, ◌^◌}
use mathlib.Core.Path.{◌≡◌, refl, sym, ap, ◌∙◌}
use mathlib.Core.Logic.{◌≢◌}
use mathlib.Core.List.{List}
use mathlib.Core.Bool.{Bool, not}
use native.Mathlib.Omega.{arith}
use native.Mathlib.Nat.{mod-lt, suc-mul}
use lib.Dec.{leb, eqb}
use lib.ListN.{get_or}
use mir.Syntax.{w64}
use mir.Val.{Fits}
use borrow.Author.Tests.{eq-eqb, ne_eqb, eqb-false, not-true, lt-leb, le-leb, leb-true}
use Rattle.lists.specs.Lists.{filled}
use Rattle.refusals.specs.declared.Reason.{Reason}
use Rattle.refusals.specs.Reasons.{number_of}
use Rattle.refusals.specs.Refusals.{◌or_else◌, ◌unless◌}
use Rattle.refusals.proofs.ChainLaws.{or_else_zero, test_held, chain_on, chain_stops}
use Rattle.refusals.proofs.AnswerLaws.{answer-none}
use Rattle.refusals.proofs.ReasonLaws.{reason-some}
use Rattle.room.specs.declared.Shape.{Shape}
use Rattle.room.specs.Told.{Number, Digits}
use Rattle.room.specs.Shapes.{bound, power_of, Server, Link, Value}
use Rattle.room.specs.Addresses.{digits, digit, with_digit}
use Rattle.room.specs.Refusals.{pair_refusal}
use Rattle.room.specs.Answers.{no_number, a_number, no_digits, some_digits, digits_answer}
use Rattle.room.proofs.RefusalLaws.{pair_of, pair_none}
use Rattle.room.proofs.RoomLaws.{place-digit, digit_lt, bound-two, digit_closed_at}
use Rattle.room.proofs.SideLaws.{Moved, moved, power-link}
use Rattle.room.proofs.AnswerLaws.{digits-answered}
use Rattle.trees.specs.Trees.{alike, lowered_at, hangs_at, lowered, parent_of, Child}
use Rattle.trees.specs.Inside.{strides_of, alike_in, parent_by}
use Rattle.trees.specs.Answers.{parent_refusal, parent_answer}
use Rattle.trees.proofs.RingLaws.{less_pos, less_zero}
use Rattle.trees.proofs.LevelLaws.{lowered_le, lowered-same}

-- ---- refusals

module _ (s : Shape) (a l x : ℕ) where
  pub pair_stops : (r : ℕ) → r ≡ pair_refusal s a x → (r ≡ 0 → ⊥) → r ≡ parent_refusal s a l x
  unfolding parent_refusal
  pair_stops r e h = chain_stops _ _ _ (chain_stops _ _ _ e h) h

  module _ (e : 0 ≡ pair_refusal s a x) where
    pub tree-missing : s.k < l → 20 ≡ parent_refusal s a l x
    unfolding parent_refusal
    tree-missing h = chain_stops 20 _ _ (chain_on _ _ _ e (rw (lt-leb l s.k h))) (λ w. omega arith)

    tree-there : l ≤ s.k → 0 ≡ (pair_refusal s a x or_else 20 unless leb l s.k)
    tree-there h = chain_on _ _ _ e (rw (le-leb l s.k h))

    pub source-asked : l ≤ s.k → a ≡ x → 5 ≡ parent_refusal s a l x
    unfolding parent_refusal
    source-asked h q = chain_on _ _ _ (tree-there h) (rw (eq-eqb a x q))

    pub nothing-refused : l ≤ s.k → (a ≡ x → ⊥) → 0 ≡ parent_refusal s a l x
    unfolding parent_refusal
    nothing-refused h q = chain_on _ _ _ (tree-there h) (rw (ne_eqb a x q))

pub child_made : {s : Shape} {a l x : ℕ} → Server s a → Server s x → l ≤ s.k → a ≢ x → Child s a l x
child_made ha hx p n = record { source = ha; link = record { server = hx; level = p }; apart = n }

pub child_of : (s : Shape) (a l x : ℕ) → parent_refusal s a l x ≡ 0 → Child s a l x
unfolding parent_refusal
child_of s a l x e =
    let z = or_else_zero (pair_refusal s a x or_else 20 unless leb l s.k) (5 unless not (eqb a x)) e in
    let y = or_else_zero (pair_refusal s a x) (20 unless leb l s.k) z.0 in
    let p = pair_of s a x y.0 in
    child_made p.0 p.1 (leb-true l s.k (test_held _ 19 y.1)) (eqb-false a x (not-true _ (test_held _ 4 z.1)))

child_none : {s : Shape} {a l x : ℕ} → Child s a l x → 0 ≡ parent_refusal s a l x
child_none {s} {a} {l} {x} h =
    nothing-refused s a l x (pair_none h.source h.link.server) h.link.level h.apart

-- where nothing is refused the answer is the parent
pub parent-answered : {s : Shape} {a l x : ℕ} → Child s a l x → (y : Number) → y ≡ parent_answer s a l x → y ≡ a_number (parent_of s a l x)
unfolding parent_answer
parent-answered h y e = e ∙ answer-none _ no_number _ (child_none h)

-- ---- the level

pub hangs_le : (s : Shape) (a l x : ℕ) → l ≤ s.k → hangs_at s a l x ≤ s.k
unfolding hangs_at
hangs_le s a l x h = lowered_le (alike s a x) s.k l h

-- from the digits in four places
pub parent_by-digits : (s : Shape) (a l x : ℕ) (es ds : List ℕ) → es ≡ filled 4 (digits s a) → ds ≡ filled 4 (digits s x) → parent_by s l es ds x ≡ parent_of s a l x
unfolding parent_of hangs_at
parent_by-digits s a l x es ds p q =
    ap (λ (j : ℕ). lowered s j x) (lowered-same (alike_in es ds) (alike s a x) same s.k l)
  where
    same : (i : ℕ) → eqb (get_or es i 0) (get_or ds i 0) ≡ eqb (digit s i a) (digit s i x)
    same i = rw (p, q, place-digit s a i, place-digit s x i)

-- ---- a digit lowered

-- a value taken round the bound can stand there
pub round-value : {s : Shape} {x j : ℕ} → Server s x → j ≤ s.k → (v : ℕ) → Value s x j (v % bound s j)
round-value {s} {x} {j} h p v =
    record { link = record { server = h; level = p }; value = mod-lt _ (omega (arith, bound-two h.valid j)) }

less_one : (d p : ℕ) → 0 < d → (d - 1) * p + p ≡ d * p
less_one (suc d) p h =
    let w : suc d - 1 ≡ d = omega arith in ap (λ (y : ℕ). y * p + p) w ∙ omega (arith, suc-mul d p)
less_one zero p h = let z : ⊥ = omega arith in absurd z

-- the stride of a level stands in its place
pub stride_by : (n j : ℕ) → j ≤ 3 → (ps : List ℕ) → ps ≡ strides_of n → get_or ps j 0 ≡ power_of n j
stride_by n j h ps e = ap (λ (ys : List ℕ). get_or ys j 0) e ∙ at_place j h
  where
    at_place : (i : ℕ) → i ≤ 3 → get_or (strides_of n) i 0 ≡ power_of n i
    at_place zero p = refl
    at_place (suc zero) p = refl
    at_place (suc (suc zero)) p = refl
    at_place (suc (suc (suc zero))) p = refl
    at_place (suc (suc (suc (suc i)))) p = let z : ⊥ = omega arith in absurd z

pub lower-bound : (s : Shape) (x j d : ℕ) → Link s x j × (d ≡ digit s j x) → (b : ℕ) → b ≡ bound s j → 1 ≤ b
lower-bound s x j d h b f = omega (arith, bound-two h.0.server.valid j)

-- as the program lowers it: p is the power that it found, d the digit
module _ (s : Shape) (x j d p : ℕ) (h : Link s x j × (d ≡ digit s j x)) (e : p ≡ power_of s.n j) where
  weight : p ≡ s.n ^ j
  weight = e ∙ power-link h.0

  to : (v : ℕ) → v < bound s j → Moved s x j v p
  to v q = moved (record { link = h.0; value = q }) p weight

  taken : x / p % s.n * p ≡ d * p
  taken = ap (λ (y : ℕ). y * p) (digit_closed_at h.0 p weight ∙ sym h.1)

  below : d < bound s j
  below = omega (arith, h.1, digit_lt h.0.server j h.0.level)

  two : 2 ≤ bound s j
  two = bound-two h.0.server.valid j

  at : (v : ℕ) → (d + (bound s j - 1)) % bound s j ≡ v → with_digit s j v x ≡ lowered s j x
  unfolding lowered
  at v q = ap (λ (y : ℕ). with_digit s j y x) (sym q ∙ ap (λ (y : ℕ). (y + (bound s j - 1)) % bound s j) h.1)

  pub lower-within : 0 < d → p ≤ x
  lower-within q = omega (arith, taken, less_one d p q, (to (d - 1) (omega (arith, below))).own)

  pub lower_by_one : 0 < d → x - p ≡ lowered s j x
  lower_by_one q =
      let m = to (d - 1) (omega (arith, below)) in
      omega (arith, taken, less_one d p q, m.own, m.whole) ∙ at (d - 1) (less_pos (bound s j) d below q)

  module _ (q : d ≤ 0) (b : ℕ) (f : b ≡ bound s j) where
    most : Moved s x j (b - 1) p
    most = to (b - 1) (omega (arith, two))

    pub lower-fits : Fits w64 ((b - 1) * p)
    lower-fits = omega (arith, most.new)

    none-taken : x / p % s.n * p ≡ 0
    none-taken = let z : d ≡ 0 = omega arith in taken ∙ ap (λ (y : ℕ). y * p) z ∙ omega arith

    pub lower-around : x + (b - 1) * p ≡ lowered s j x
    lower-around =
        omega (arith, none-taken, most.whole)
        ∙ at (b - 1) (less_zero (bound s j) d below (omega arith) ∙ omega (arith, f))

    pub lower-sum : Fits w64 (x + (b - 1) * p)
    lower-sum = omega (arith, most.new, h.0.server.below, h.0.server.valid.small)

-- ---- by digits, as the program goes by them

-- the level that it found is one of the room
pub level_by : (s : Shape) (x l : ℕ) (same : ℕ → Bool) → Link s x l → (j : ℕ) → j ≡ lowered_at same s.k l → Link s x j
level_by s x l same h j e =
    record { server = h.server; level = omega (arith, lowered_le same s.k l h.level) }

pub digit_by : (s : Shape) (x : ℕ) (ds : List ℕ) → ds ≡ filled 4 (digits s x) → (j : ℕ) → get_or ds j 0 ≡ digit s j x
digit_by s x ds e j = ap (λ (ys : List ℕ). get_or ys j 0) e ∙ place-digit s x j

-- a server's digits are not refused
pub digits-there : {s : Shape} {x : ℕ} → Server s x → (r : Reason) → no_digits (number_of r) ≡ digits_answer s x → ⊥
digits-there h r e = reason-some r (ap (λ (z : Digits). z.refusal.number) (digits-answered h _ e))

pub found-digits : {s : Shape} {x : ℕ} → Server s x → (ds : List ℕ) → some_digits ds ≡ digits_answer s x → ds ≡ filled 4 (digits s x)
found-digits h ds e = ap (λ (z : Digits). z.places) (digits-answered h _ e)

module _ (s : Shape) (a l x : ℕ) (e : 0 ≡ parent_refusal s a l x) where
  child : Child s a l x
  child = child_of s a l x (sym e)

  pub source-there : (r : Reason) → no_digits (number_of r) ≡ digits_answer s a → ⊥
  source-there = digits-there child.source

  pub server-there : (r : Reason) → no_digits (number_of r) ≡ digits_answer s x → ⊥
  server-there = digits-there child.link.server

  module _ (ds : List ℕ) (f : some_digits ds ≡ digits_answer s x) where
    pub parent-link : Link s x l × (ds ≡ filled 4 (digits s x))
    parent-link = (child.link, found-digits child.link.server ds f)

    pub parent-found : (es : List ℕ) → some_digits es ≡ digits_answer s a → (v : ℕ) → v ≡ parent_by s l es ds x → v ≡ parent_of s a l x
    parent-found es g v q =
        q ∙ parent_by-digits s a l x es ds (found-digits child.source es g) (found-digits child.link.server ds f)
