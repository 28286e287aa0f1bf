-- `desk_line::tree_lines::push_digits`: the digits that are left make the text whole.
use Rattle.std.proofs.Common.{◌++◌, reverse}
use Rattle.desk_line.specs.TreeLines.{pointed}
use Rattle.desk_line.proofs.TreeLineLaws.{DigitsLeft}
use Rattle.desk_line.proofs.tree_lines.push_digits.Given as goal

abbrev pub invariant-loop-digit : goal.invariant-loop-digit
invariant-loop-digit l = DigitsLeft l.text l.digit-iterator.iter.rest.now (l.fn.text ++ pointed (reverse l.fn.digits))
