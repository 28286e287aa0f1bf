-- `path::reversals::reverse_path`: refused as the way is; or the bytes of the way back.
use mathlib.Core.Path.{refl, ◌∙◌}
use Rattle.refusals.proofs.ReasonLaws.{where-passed}
use Rattle.path.specs.Answers.{no_writing, a_writing}
use Rattle.path.proofs.WayLaws.{reverse_refuses, reverse_answers}
use Rattle.path.proofs.reversals.reverse_path.Goals as goal

pub returns-in_err-way : goal.returns-in_err-way
returns-in_err-way c = where-passed no_writing a_writing _ _ c.from_residual.ensures.1 ∙ reverse_refuses _ _ _ _ _ c.in_err-way.ensures

pub returns : goal.returns
returns c = reverse_answers _ _ _ _ _ c.in_ok-way.ensures refl _ c.to_le_bytes.ensures
