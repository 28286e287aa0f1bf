-- `path::readings::read_path`: refused as the way is; or the servers that it left.
use mathlib.Core.Path.{refl, ◌∙◌}
use Rattle.refusals.proofs.ReasonLaws.{where-passed}
use Rattle.path.specs.Answers.{no_reading, the_reading}
use Rattle.path.proofs.WayLaws.{read_refuses, walk-fits, read_answers}
use Rattle.path.proofs.readings.read_path.Goals as goal

pub returns-in_err-way : goal.returns-in_err-way
returns-in_err-way c = where-passed no_reading the_reading _ _ c.from_residual.ensures.1 ∙ read_refuses _ _ _ _ _ c.in_err-way.ensures

pub overflow_add-result : goal.overflow_add-result
overflow_add-result c = walk-fits _ _ _ _ _ _ c.in_ok-way.ensures refl

pub returns : goal.returns
returns c = read_answers _ _ _ _ _ c.in_ok-way.ensures refl
