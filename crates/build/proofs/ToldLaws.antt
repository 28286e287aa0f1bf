-- Two results of building that tell the same are one.
use mathlib.Core.Path.{◌≡◌, refl}
use Rattle.std.specs.Prelude.{Result}
use Rattle.refusals.specs.declared.Reason.{Reason}
use Rattle.refusals.specs.Reasons.{tells}
use Rattle.refusals.proofs.ReasonLaws.{tells-same}
use Rattle.build.specs.declared.RouteSet.{RouteSet}
use Rattle.build.specs.Told.{Building}
use Rattle.build.specs.Answers.{no_building, a_building}

pub building-same : (x y : Result RouteSet Reason) → tells no_building a_building x ≡ tells no_building a_building y → x ≡ y
building-same = tells-same no_building a_building (λ (x : Building). x.refusal.number) (λ (x : Building). x.routes) (λ r. refl) (λ x. refl) (λ x. refl)
