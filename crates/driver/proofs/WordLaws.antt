-- Laws of the result word.
use Prim.Native.Nat.{ℕ, zero, suc, ◌+◌, ◌*◌, ◌/◌, ◌%◌, ◌≤◌, ◌<◌}
use native.Mathlib.Omega.{arith}
use mathlib.Core.Path.{◌≡◌, refl, ap, ap₂, ◌∙◌}
use mathlib.Core.Logic.{◌≢◌}
use mathlib.Core.List.{List}
use lib.Dec.{lit<}
use Rattle.refusals.specs.Refusals.{Refusal}
use Rattle.refusals.specs.Refusals.{refusal, earlier_route, earlier_hop, none, plain, answer}
use Rattle.refusals.specs.declared.Reason.{Reason}
use Rattle.refusals.specs.declared.Refused.{Refused}
use Rattle.refusals.specs.Reasons.{number_of, refusal_of}
use Rattle.room.specs.declared.Shape.{Shape}
use Rattle.room.specs.Answers.{no_number, a_number}
use Rattle.driver.specs.declared.Answer.{Answer}
use Rattle.driver.specs.Words.{word, refusal_in, value_in, Small, left}

-- ---- what the code makes is the word

pub value-word : (v : ℕ) → ◌≡◌ {A = Answer} (record { word = 4294967296 * v }) (word none v)
unfolding word
value-word v = ap (λ (x : ℕ). record { word = x }) (omega arith)

pub reason-word : (r : Reason) (n : ℕ) → n ≡ number_of r → ◌≡◌ {A = Answer} (record { word = n }) (word (plain (number_of r)) 0)
unfolding word
reason-word r n e = ap (λ (x : ℕ). record { word = x }) (omega (arith, e))

pub refused-word : (r : Refused) (n : ℕ) → n ≡ number_of r.reason → ◌≡◌ {A = Answer} (record { word = 16777216 * (16 * r.earlier_route + r.earlier_hop) + (65536 * r.hop + (256 * r.route + n)) }) (word (refusal_of r) 0)
unfolding word
refused-word r n e = ap (λ (x : ℕ). record { word = x }) (omega (arith, e))

refusal-same : (x y : Refusal) → x.number ≡ y.number → x.route ≡ y.route → x.hop ≡ y.hop → earlier_route x ≡ earlier_route y → earlier_hop x ≡ earlier_hop y → x ≡ y
refusal-same x y a b c d e =
    ap (λ (n : ℕ). refusal n x.route x.hop (earlier_route x) (earlier_hop x)) a
    ∙ ap₂ (λ (i h : ℕ). refusal y.number i h (earlier_route x) (earlier_hop x)) b c
    ∙ ap₂ (λ (i h : ℕ). refusal y.number y.route y.hop i h) d e

-- the parts of a word, each below its bound
parts : (n i h j g v : ℕ) → n < 256 → i < 256 → h < 256 → j < 16 → g < 16
    → (let w = 4294967296 * v + (16777216 * (16 * j + g) + (65536 * h + (256 * i + n))) in (w % 256 ≡ n) × (w / 256 % 256 ≡ i) × (w / 65536 % 256 ≡ h) × (w / 268435456 % 16 ≡ j) × (w / 16777216 % 16 ≡ g) × (w / 4294967296 ≡ v))
parts n i h j g v a b c d e = (omega arith, omega arith, omega arith, omega arith, omega arith, omega arith)

module _ (r : Refusal) (v : ℕ) (h : Small r v) where
  -- a driver reads back of a word the refusal and the number that were put into it
  pub refusal-back : refusal_in (word r v) ≡ r
  unfolding word refusal_in
  refusal-back =
      let p = parts r.number r.route r.hop (earlier_route r) (earlier_hop r) v h.number h.route h.hop h.earlier-route h.earlier-hop in
      refusal-same (refusal_in (word r v)) r p.0 p.1 p.2 p.3 p.4

  pub value-back : value_in (word r v) ≡ v
  unfolding word value_in
  value-back = (parts r.number r.route r.hop (earlier_route r) (earlier_hop r) v h.number h.route h.hop h.earlier-route h.earlier-hop).5

-- what a call says of its answer, where it was asked with a shape that is t
pub said : {X : Type 0} (says : X → Answer) (f : Shape → X) {s t : Shape} {x : X} {w : Answer} → w ≡ says x → x ≡ f s → s ≡ t → w ≡ says (f t)
said says f h e g = h ∙ ap says (e ∙ ap f g)

-- ---- what is small

-- no refusal, with a number
pub none-small : (v : ℕ) → v < 4294967296 → Small none v
none-small v h = record { number = lit< tt; route = lit< tt; hop = lit< tt; earlier-route = lit< tt; earlier-hop = lit< tt; value = h }

-- a refusal of a call as a whole
pub plain-small : (r : ℕ) → r ≤ 255 → Small (plain r) 0
plain-small r h = record { number = omega arith; route = lit< tt; hop = lit< tt; earlier-route = lit< tt; earlier-hop = lit< tt; value = lit< tt }

-- a number, or the refusal of a call as a whole
pub number_small : (r v : ℕ) → r ≤ 255 → (r ≡ 0 → v < 4294967296) → Small (answer r no_number (a_number v)).refusal (answer r no_number (a_number v)).value
number_small zero v h f = none-small v (f refl)
number_small (suc r) v h f = plain-small (suc r) h

-- ---- what is left in a buffer

pub left-given : (r : ℕ) (lent written : List ℕ) → r ≡ 0 → written ≡ left r lent written
left-given zero lent written h = refl
left-given (suc r) lent written h = let z : ⊥ = omega arith in absurd z

pub left_lent : (r : ℕ) (lent written : List ℕ) → r ≢ 0 → lent ≡ left r lent written
left_lent zero lent written h = absurd (h refl)
left_lent (suc r) lent written h = refl
