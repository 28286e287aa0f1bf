-- Each public function's contract determines its answer: whatever meets it on some arguments is the one answer to them.
use mathlib.Core.Path.{◌∙◌, sym}
use Rattle.refusals.specs.Determined.{Determined}
use Rattle.step.proofs.ToldLaws.{step-same}
use Rattle.step.proofs.steps.step_once.Reads as step_once
use Rattle.step.proofs.steps.step_once.Kinds as step_once_kinds

pub step-once-unique : Determined 2 step_once_kinds.ps step_once_kinds.r step_once.Post
step-once-unique κs a x y s t e f = step-same x y (e ∙ sym f)
