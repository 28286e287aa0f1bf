-- Two results of selection that tell the same are one.
use mathlib.Core.Path.{◌≡◌, refl}
use Rattle.std.specs.Prelude.{Result}
use Rattle.refusals.specs.declared.Reason.{Reason}
use Rattle.refusals.specs.Reasons.{tells}
use Rattle.refusals.proofs.ReasonLaws.{tells-same}
use Rattle.build.specs.declared.RouteSet.{RouteSet}
use Rattle.select.specs.Told.{Selection}
use Rattle.select.specs.Selection.{no_selection, a_selection}

pub selection-same : (x y : Result RouteSet Reason) → tells no_selection a_selection x ≡ tells no_selection a_selection y → x ≡ y
selection-same = tells-same no_selection a_selection (λ (x : Selection). x.refusal.number) (λ (x : Selection). x.routes) (λ r. refl) (λ x. refl) (λ x. refl)
