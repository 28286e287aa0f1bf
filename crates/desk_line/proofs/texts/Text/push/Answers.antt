-- `desk_line::texts::Text::push`: a byte more, where there is room.
use Rattle.std.proofs.Common.{ap, length, arith}
use Rattle.desk_line.proofs.TextLaws.{put_whole}
use Rattle.desk_line.proofs.texts.Text.push.Goals as goal

pub invariant_of-self : goal.invariant_of-self
invariant_of-self c = put_whole c.self.inside c.self.invariant c.args.byte (omega (arith, ap length c.self.view_is))
