-- `trees::parents::lower`: one stride down, or the greatest value of the level on from 0: both fit.
use Rattle.trees.proofs.ParentLaws.{lower-within, lower_by_one, lower-bound, lower-fits, lower-sum, lower-around}
use Rattle.trees.proofs.parents.lower.Goals as goal

pub overflow_sub-result : goal.overflow_sub-result
overflow_sub-result c = search lower-within

pub returns-then-own-gt0 : goal.returns-then-own-gt0
returns-then-own-gt0 c = search lower_by_one

pub overflow_sub-result-2 : goal.overflow_sub-result-2
overflow_sub-result-2 c = lower-bound _ _ _ _ c.requires.0 _ c.digit_bound.ensures

pub overflow_mul-result : goal.overflow_mul-result
overflow_mul-result c = lower-fits _ _ _ _ _ c.requires.0 c.requires.1 c.if-own-gt0.false _ c.digit_bound.ensures

pub overflow_add-result : goal.overflow_add-result
overflow_add-result c = search lower-sum

pub returns : goal.returns
returns c = search lower-around
