-- Laws of reasons: each has a number of its own, which is not 0; and what a call tells by them.
use Prim.Native.Nat.{ℕ}
use mathlib.Core.Path.{◌≡◌, refl, sym, ap, ◌∙◌}
use mathlib.Core.List.{[], ◌∷◌}
use native.Mathlib.Omega.{arith}
use mathlib.Core.Bool.{false}
use lib.ListN.{get_or}
use borrow.Author.Tests.{ne_eqb}
use Rattle.std.specs.Prelude.{Result, Ok, Err, IsErrAnd}
use Rattle.std.proofs.lemmas.Result.{err_from_is_err_and}
use Rattle.lists.specs.Lists.{is_in}
use Rattle.refusals.specs.declared.Reason.{Reason}
use Rattle.refusals.specs.declared.Refused.{Refused}
use Rattle.refusals.specs.declared.Reason.TheVariants.{Ports, Levels, Servers, Address, SameEnds, Table, List, Position, Value, NoChange, FailedLink, NotArrived, AfterArrival, NotParallel, NoRoute, NeighbourTable, HopIndex, Unavailable, Level, Digit, ServerCount, NotNeighbours, Fill, ServerAgain, SwitchAgain, Summary}
use Rattle.refusals.specs.Refusals.{Refusal, none, plain, ◌or_else◌, answer}
use Rattle.refusals.specs.Reasons.{number_of, refusal_of, told, tells, tells_where, told_where}
use Rattle.refusals.proofs.ChainLaws.{chain_stops}
use Rattle.refusals.proofs.AnswerLaws.{answer-refused, answer-given}

-- a reason from its number; Ports where no reason has it
abbrev reason_of : ℕ → Reason
reason_of n = get_or (Ports ∷ Ports ∷ Levels ∷ Servers ∷ Address ∷ SameEnds ∷ Table ∷ List ∷ Position ∷ Value ∷ NoChange ∷ FailedLink ∷ Ports ∷ NotArrived ∷ AfterArrival ∷ NotParallel ∷ NoRoute ∷ NeighbourTable ∷ HopIndex ∷ Unavailable ∷ Level ∷ Digit ∷ ServerCount ∷ NotNeighbours ∷ Ports ∷ Ports ∷ Fill ∷ Ports ∷ ServerAgain ∷ SwitchAgain ∷ Summary ∷ []) n Ports

reason-back : (r : Reason) → reason_of (number_of r) ≡ r
reason-back Ports = refl
reason-back Levels = refl
reason-back Servers = refl
reason-back Address = refl
reason-back SameEnds = refl
reason-back Table = refl
reason-back List = refl
reason-back Position = refl
reason-back Value = refl
reason-back NoChange = refl
reason-back FailedLink = refl
reason-back NotArrived = refl
reason-back AfterArrival = refl
reason-back NotParallel = refl
reason-back NoRoute = refl
reason-back NeighbourTable = refl
reason-back HopIndex = refl
reason-back Unavailable = refl
reason-back Level = refl
reason-back Digit = refl
reason-back ServerCount = refl
reason-back NotNeighbours = refl
reason-back Fill = refl
reason-back ServerAgain = refl
reason-back SwitchAgain = refl
reason-back Summary = refl

-- two reasons of one number are one
pub reason-same : (r q : Reason) → number_of r ≡ number_of q → r ≡ q
reason-same r q e = sym (reason-back r) ∙ ap reason_of e ∙ reason-back q

-- no reason has the number 0
pub reason-some : (r : Reason) → number_of r ≡ 0 → ⊥
reason-some Ports e = omega arith
reason-some Levels e = omega arith
reason-some Servers e = omega arith
reason-some Address e = omega arith
reason-some SameEnds e = omega arith
reason-some Table e = omega arith
reason-some List e = omega arith
reason-some Position e = omega arith
reason-some Value e = omega arith
reason-some NoChange e = omega arith
reason-some FailedLink e = omega arith
reason-some NotArrived e = omega arith
reason-some AfterArrival e = omega arith
reason-some NotParallel e = omega arith
reason-some NoRoute e = omega arith
reason-some NeighbourTable e = omega arith
reason-some HopIndex e = omega arith
reason-some Unavailable e = omega arith
reason-some Level e = omega arith
reason-some Digit e = omega arith
reason-some ServerCount e = omega arith
reason-some NotNeighbours e = omega arith
reason-some Fill e = omega arith
reason-some ServerAgain e = omega arith
reason-some SwitchAgain e = omega arith
reason-some Summary e = omega arith

-- two results of a test that tell the same number are one
pub told-same : (x y : Result (Unit {0}) Reason) → told x ≡ told y → x ≡ y
told-same (Ok x) (Ok y) e = refl
told-same (Ok x) (Err q) e = absurd (reason-some q (sym e))
told-same (Err r) (Ok y) e = absurd (reason-some r e)
told-same (Err r) (Err q) e = ap Err (reason-same r q e)

-- a reason of the first of two tests is that of both
pub reason-stops : (r : Reason) (p q : ℕ) → number_of r ≡ p → number_of r ≡ p or_else q
reason-stops r p q e = chain_stops (number_of r) p q e (reason-some r)

-- what a `?` passes on is the reason that it met
module _ (x : Result (Unit {0}) Reason) (r : Reason) (h : IsErrAnd x (λ e. e ≡ r)) where
  pub told-is : told x ≡ number_of r
  told-is = let y = err_from_is_err_and x h in rw (y.1, y.2)

  pub told-passed : (p q : ℕ) → number_of r ≡ p → told x ≡ p or_else q
  told-passed p q e = let y = err_from_is_err_and x h in rw (y.1, y.2) (reason-stops r p q e)

module _ {A X : Type 0} (refused : ℕ → X) (given : A → X) where
  -- a call that a test refuses tells the number of its reason
  pub tells-refused : (r : Reason) (q : ℕ) (y : X) → number_of r ≡ q → refused (number_of r) ≡ answer q refused y
  tells-refused r q y e = answer-refused (number_of r) q refused _ y refl e (reason-some r)

  -- the same of what a `?` passes on
  pub tells-passed : (x : Result A Reason) (r : Reason) → IsErrAnd x (λ e. e ≡ r) → (q : ℕ) (y : X) → number_of r ≡ q → tells refused given x ≡ answer q refused y
  tells-passed x r h q y e = let z = err_from_is_err_and x h in rw (z.1, z.2) (tells-refused r q y e)

  -- a call that no test refuses tells its answer
  pub tells-given : (q : ℕ) (x y : A) → 0 ≡ q → x ≡ y → given x ≡ answer q refused (given y)
  tells-given q x y e f = answer-given 0 q refused _ _ e refl (ap given f)

  -- two results that tell the same are one, where the number and the answer can be had back
  module _ (number : X → ℕ) (value : X → A) (by_number : (r : ℕ) → number (refused r) ≡ r) (no_number : (x : A) → number (given x) ≡ 0) (by_value : (x : A) → value (given x) ≡ x) where
    pub tells-same : (x y : Result A Reason) → tells refused given x ≡ tells refused given y → x ≡ y
    tells-same (Ok x) (Ok y) e = ap Ok (sym (by_value x) ∙ ap value e ∙ by_value y)
    tells-same (Ok x) (Err q) e = absurd (reason-some q (sym (by_number (number_of q)) ∙ ap number (sym e) ∙ no_number x))
    tells-same (Err r) (Ok y) e = absurd (reason-some r (sym (by_number (number_of r)) ∙ ap number e ∙ no_number y))
    tells-same (Err r) (Err q) e = ap Err (reason-same r q (sym (by_number (number_of r)) ∙ ap number e ∙ by_number (number_of q)))

-- ---- refusals with a place

-- a reason but these three is none of their numbers
pub not-listed : (r : Reason) → (r ≡ NotParallel → ⊥) → (r ≡ ServerAgain → ⊥) → (r ≡ SwitchAgain → ⊥) → is_in (number_of r) (15 ∷ 28 ∷ 29 ∷ []) ≡ false
unfolding is_in
not-listed r p q s = rw (ne_eqb _ 15 (λ e. p (reason-same r NotParallel e)), ne_eqb _ 28 (λ e. q (reason-same r ServerAgain e)), ne_eqb _ 29 (λ e. s (reason-same r SwitchAgain e))) refl

-- two refusals that are told the same are one
pub refused-same : (x y : Refused) → refusal_of x ≡ refusal_of y → x ≡ y
refused-same x y e =
    let r = reason-same x.reason y.reason (ap (λ (z : Refusal). z.number) e) in
    rw (r, ap (λ (z : Refusal). z.route) e, ap (λ (z : Refusal). z.hop) e, ap (λ (z : Refusal). z.earlier_route) e, ap (λ (z : Refusal). z.earlier_hop) e) refl

module _ {A X : Type 0} (refused : Refusal → X) (given : A → X) where
  -- two results that tell the same are one, where the refusal and the answer can be had back
  module _ (refusal-in : X → Refusal) (value : X → A) (by_refusal : (r : Refusal) → refusal-in (refused r) ≡ r) (no_refusal : (x : A) → refusal-in (given x) ≡ none) (by_value : (x : A) → value (given x) ≡ x) where
    pub tells_where-same : (x y : Result A Refused) → tells_where refused given x ≡ tells_where refused given y → x ≡ y
    tells_where-same (Ok x) (Ok y) e = ap Ok (sym (by_value x) ∙ ap value e ∙ by_value y)
    tells_where-same (Ok x) (Err q) e = absurd (reason-some q.reason (ap (λ (z : Refusal). z.number) (sym (by_refusal (refusal_of q)) ∙ ap refusal-in (sym e) ∙ no_refusal x)))
    tells_where-same (Err r) (Ok y) e = absurd (reason-some r.reason (ap (λ (z : Refusal). z.number) (sym (by_refusal (refusal_of r)) ∙ ap refusal-in e ∙ no_refusal y)))
    tells_where-same (Err r) (Err q) e = ap Err (refused-same r q (sym (by_refusal (refusal_of r)) ∙ ap refusal-in e ∙ by_refusal (refusal_of q)))

  -- what a `?` makes of a reason, which has no place
  pub where-refused : (x : Result A Refused) (r : Reason) → IsErrAnd x (λ e. refusal_of e ≡ plain (number_of r)) → (q : ℕ) (y : X) → number_of r ≡ q → tells_where refused given x ≡ answer q (λ n. refused (plain n)) y
  where-refused x r h q y e =
      let z = err_from_is_err_and x h in
      rw (z.1) (answer-refused (number_of r) q (λ n. refused (plain n)) _ y (ap refused z.2) e (reason-some r))

  -- what a `?` makes of an error that is told as this refusal
  pub where-told : (x : Result A Refused) (q : Refusal) → IsErrAnd x (λ e. refusal_of e ≡ q) → tells_where refused given x ≡ refused q
  where-told x q h = let z = err_from_is_err_and x h in rw (z.1) (ap refused z.2)

  -- what a `?` passes on of a refusal with a place
  pub where-passed : (x : Result A Refused) (r : Refused) → IsErrAnd x (λ e. e ≡ r) → tells_where refused given x ≡ refused (refusal_of r)
  where-passed x r h = let z = err_from_is_err_and x h in rw (z.1, z.2)

pub told_where-same : (x y : Result (Unit {0}) Refused) → told_where x ≡ told_where y → x ≡ y
told_where-same = tells_where-same (λ r. r) (λ x. none) (λ r. r) (λ x. tt) (λ r. refl) (λ x. refl) (λ x. refl)
