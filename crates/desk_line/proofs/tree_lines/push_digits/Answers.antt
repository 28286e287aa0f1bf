-- `desk_line::tree_lines::push_digits`: the last digit, and the others from the back, a point before each.
use Rattle.std.proofs.Common.{◌≡◌, ◌-◌, ap, take, length, length-append, [], ◌∷◌, arith, rules}
use Rattle.desk_line.specs.TreeLines.{point}
use Rattle.desk_line.proofs.TreeLineLaws.{last-space, digits-start, point-space, digits-next, digits-end, no-digits}
use Rattle.desk_line.proofs.tree_lines.push_digits.Goals as goal

pub push_decimal-requires : goal.push_decimal-requires
push_decimal-requires c = last-space _ _ c.requires c.in-len1-up.len_at_least

pub loop-digit-init : goal.loop-digit-init
loop-digit-init c =
    let f : c.into_iter-digit-iterator.result.iter.rest.now ≡ take (length c.args.digits.now - 1) c.args.digits.now = search rules in
    digits-start _ _ c.requires c.in-len1-up.len_at_least c.push_decimal.ensures f

pub push-requires : goal.push-requires
push-requires c = omega (arith, point-space _ _ _ _ _ c.loop-digit.invariant c.in-Some.ensures.steps)

pub push_decimal-requires-in-loop-digit : goal.push_decimal-requires-in-loop-digit
push_decimal-requires-in-loop-digit c =
    omega (arith, point-space _ _ _ _ _ c.loop-digit.invariant c.in-Some.ensures.steps, ap length c.push.ensures, length-append c.loop-digit.text (point ∷ []))

pub loop-digit-preserved : goal.loop-digit-preserved
loop-digit-preserved c =
    digits-next _ _ _ _ _ c.loop-digit.invariant c.in-Some.ensures.steps c.push.ensures c.push_decimal-in-loop-digit.ensures

pub returns-in_default : goal.returns-in_default
returns-in_default c = no-digits c.args.text.now c.args.digits.now (omega arith)

pub returns-in-None : goal.returns-in-None
returns-in-None c = digits-end _ _ _ c.loop-digit.invariant c.in-None.ensures.steps.0
