-- `desk_line::texts::Text::push_decimal`: the number itself falls.
use Rattle.desk_line.proofs.texts.Text.+push_decimal.Given as goal

abbrev pub decreases-push_decimal : goal.decreases-push_decimal
decreases-push_decimal l = l.number
