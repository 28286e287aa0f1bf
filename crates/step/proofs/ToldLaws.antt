-- Two results of a step that tell the same are one.
use mathlib.Core.Path.{◌≡◌, refl}
use mathlib.Core.Bool.{cond}
use Rattle.std.specs.Prelude.{Result}
use Rattle.refusals.specs.declared.Refused.{Refused}
use Rattle.refusals.specs.Refusals.{none}
use Rattle.refusals.specs.Reasons.{tells_where}
use Rattle.refusals.proofs.ReasonLaws.{tells_where-same}
use Rattle.step.specs.declared.Step.{Step as Stepped}
use Rattle.step.specs.declared.Step.TheVariants.{Delivered, Onward}
use Rattle.step.specs.Told.{Step}
use Rattle.step.specs.Steps.{no_step, the_step}

-- a step, from what is told of it
abbrev step_told : Step → Stepped
step_told x =
    cond x.delivered Delivered (Onward (record { next = x.next; index = x.index; mac = x.mac; port = x.port; level = x.level; old = x.old }))

none_refused : (x : Stepped) → (the_step x).refusal ≡ none
none_refused Delivered = refl
none_refused (Onward x) = refl

step-back : (x : Stepped) → step_told (the_step x) ≡ x
step-back Delivered = refl
step-back (Onward x) = refl

pub step-same : (x y : Result Stepped Refused) → tells_where no_step the_step x ≡ tells_where no_step the_step y → x ≡ y
step-same = tells_where-same no_step the_step (λ (x : Step). x.refusal) step_told (λ r. refl) none_refused step-back
