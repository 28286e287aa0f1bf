-- `desk_line::texts::Text::shown`: the length lies within the bytes.
use Rattle.std.proofs.Common.{arith}
use Rattle.desk_line.proofs.TextLaws.{shown-long}
use Rattle.desk_line.proofs.texts.Text.shown.Goals as goal

pub shared_ref_as_front-result : goal.shared_ref_as_front-result
shared_ref_as_front-result c = omega (arith, shown-long c.self.inside c.self.invariant)
