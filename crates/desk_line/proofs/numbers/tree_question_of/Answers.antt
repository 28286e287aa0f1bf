-- `desk_line::numbers::tree_question_of`: the numbers of the line, each by its name.
use Rattle.desk_line.proofs.NumberLaws.{tree-question-made, tree-question-none}
use Rattle.desk_line.proofs.numbers.tree_question_of.Goals as goal

pub returns-in_err-n : goal.returns-in_err-n
returns-in_err-n c = rw c.from_residual.ensures (tree-question-none _ c.in_err-n.ensures)

pub returns : goal.returns
returns c = tree-question-made _ c.in_ok-n.field-0 c.in_ok-n.ensures
