-- `desk_line::answers::answer_line`: a question's own text, or "input".
use Rattle.std.proofs.Common.{◌∙◌}
use Rattle.desk_line.proofs.AnswerLaws.{desk_asked, desk_other}
use Rattle.desk_line.proofs.answers.answer_line.Goals as goal

pub returns-in-Some : goal.returns-in-Some
returns-in-Some c = c.built_text.ensures ∙ desk_asked _ c.in-Some.asked _ c.in-Some.ensures c.full-shape.ensures

pub returns-in-None : goal.returns-in-None
returns-in-None c = c.input.ensures ∙ desk_other _ c.in-None.ensures
