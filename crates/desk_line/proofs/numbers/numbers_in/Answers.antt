-- `desk_line::numbers::numbers_in`: the line's numbers, where it is short enough.
use Rattle.desk_line.proofs.NumberLaws.{numbers_fit, numbers-long}
use Rattle.desk_line.proofs.numbers.numbers_in.Goals as goal

pub returns-in_err-line_of : goal.returns-in_err-line_of
returns-in_err-line_of g c = rw c.from_residual.ensures (numbers-long _ _ c.in_err-line_of.ensures)

pub returns : goal.returns
returns g c = numbers_fit _ _ c.numbers_of.result _ c.in_ok-line_of.ensures.0 c.in_ok-line_of.ensures.1 c.numbers_of.ensures
