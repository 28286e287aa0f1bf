-- `path::bytes::made_refusal`: the shape; both numbers in one go; which of them failed.
use Rattle.std.proofs.Common.{rules}
use Rattle.refusals.proofs.ReasonLaws.{told-passed, reason-stops}
use Rattle.room.specs.Refusals.{level_refusal}
use Rattle.room.proofs.RefusalLaws.{level-above}
use Rattle.path.specs.Bytes.{made_refusal}
use Rattle.path.proofs.ByteLaws.{made-fits, made_high}
use Rattle.path.proofs.bytes.made_refusal.Goals as goal

pub returns-in_err-shape_refusal : goal.returns-in_err-shape_refusal
unfolding made_refusal level_refusal
returns-in_err-shape_refusal c = told-passed _ _ c.from_residual.ensures.1 _ _ (reason-stops _ _ _ c.in_err-shape_refusal.ensures)

pub returns-then-is_value : goal.returns-then-is_value
returns-then-is_value c = search (rules, made-fits)

pub returns-then-shape-level : goal.returns-then-shape-level
unfolding made_refusal
returns-then-shape-level c = search (rules, level-above)

pub returns : goal.returns
returns c = search (rules, made_high)
