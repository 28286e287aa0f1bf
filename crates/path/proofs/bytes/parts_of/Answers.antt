-- `path::bytes::parts_of`: 1, 2, 26, 3; 8; 9; the parts.
use Rattle.refusals.proofs.ReasonLaws.{where-refused}
use Rattle.path.specs.Bytes.{no_parts, the_parts, parts_answer}
use Rattle.path.proofs.ByteLaws.{parts_level, parts_value, parts_given}
use Rattle.path.proofs.bytes.parts_of.Goals as goal

pub returns-in_err-shape_refusal : goal.returns-in_err-shape_refusal
unfolding parts_answer
returns-in_err-shape_refusal c = where-refused no_parts the_parts _ _ c.from_residual.ensures.1 _ _ c.in_err-shape_refusal.ensures

pub returns-then-shape-level : goal.returns-then-shape-level
returns-then-shape-level c = parts_level _ _ c.in_ok-shape_refusal.ensures _ c.level_of-level.ensures _ c.at.ensures c.if-shape-level.true

pub returns-then-digit_bound-value : goal.returns-then-digit_bound-value
returns-then-digit_bound-value c = parts_value _ _ c.in_ok-shape_refusal.ensures _ c.level_of-level.ensures c.if-shape-level.false _ c.digit_bound.ensures _ c.value_of-value.ensures _ c.at-then-digit_bound-value.ensures c.if-digit_bound-value.true

pub returns : goal.returns
returns c = parts_given _ _ c.in_ok-shape_refusal.ensures _ c.level_of-level.ensures c.if-shape-level.false _ c.digit_bound.ensures _ c.value_of-value.ensures c.if-digit_bound-value.false
