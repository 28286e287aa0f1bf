-- `desk_line::numbers::numbers_of`: the words before the place are read, and what follows them is left.
use Rattle.desk_line.proofs.NumberLaws.{WordsRead}
use Rattle.desk_line.proofs.numbers.numbers_of.Given as goal

abbrev pub invariant-loop-value : goal.invariant-loop-value
invariant-loop-value g l = WordsRead l.line g.row.N l.value-items l.rest l.value-index
