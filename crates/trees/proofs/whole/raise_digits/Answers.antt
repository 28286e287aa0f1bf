-- `trees::whole::raise_digits`: a place is carried, or none after it is; at the end all are.
use Rattle.std.proofs.Common.{◌∙◌, ◌<◌, length, rules, arith}
use Rattle.trees.proofs.WholeLaws.{carry_here, carry_on, carried_below, carry_end}
use Rattle.trees.proofs.whole.raise_digits.Goals as goal

pub loop-digit-preserved : goal.loop-digit-preserved
loop-digit-preserved c =
    let g = c.loop-digit.invariant in
    let h : c.loop-digit.digit-index < length c.loop-digit.digits = omega arith in
    record { long = search rules; below = carried_below _ _ _ h g.below; carried = carry_on _ _ _ h (omega arith) ∙ g.carried }

pub returns-after-loop-digit : goal.returns-after-loop-digit
returns-after-loop-digit c = carry_end _ _ _ (omega arith) ∙ c.loop-digit.invariant.carried

pub returns-then-digit-n : goal.returns-then-digit-n
returns-then-digit-n c = carry_here _ _ _ (omega arith) (omega arith) ∙ c.loop-digit.invariant.carried
