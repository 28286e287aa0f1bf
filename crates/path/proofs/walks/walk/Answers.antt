-- `path::walks::walk`: refused as the way is; or the servers and the switches that it left.
use mathlib.Core.Path.{refl, ◌∙◌}
use Rattle.refusals.proofs.ReasonLaws.{where-passed}
use Rattle.path.specs.Answers.{no_walk, the_walk}
use Rattle.path.proofs.WayLaws.{walk_refuses, walk-fits, walk_answers}
use Rattle.path.proofs.walks.walk.Goals as goal

pub returns-in_err-way : goal.returns-in_err-way
returns-in_err-way c = where-passed no_walk the_walk _ _ c.from_residual.ensures.1 ∙ walk_refuses _ _ _ _ _ _ c.in_err-way.ensures

pub overflow_add-result : goal.overflow_add-result
overflow_add-result c = walk-fits _ _ _ _ _ _ c.in_ok-way.ensures refl

pub returns : goal.returns
returns c = walk_answers _ _ _ _ _ _ c.in_ok-way.ensures refl
