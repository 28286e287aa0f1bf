-- `desk_line::answers::routes_text`: the lines before the place are written.
use Rattle.desk_line.proofs.AnswerLaws.{Printed}
use Rattle.desk_line.proofs.answers.routes_text.Given as goal

abbrev pub invariant-loop-place : goal.invariant-loop-place
invariant-loop-place l = Printed l.shape l.source l.destination l.text l.place
