-- `desk_line::texts::Text::new`
use Rattle.desk_line.proofs.TextLaws.{no_whole}
use Rattle.desk_line.proofs.texts.Text.new.Goals as goal

pub invariant_of-result : goal.invariant_of-result
invariant_of-result c = no_whole
