-- `desk_line::texts::hex_digit`: a digit, or a letter.
use Rattle.desk_line.proofs.TextLaws.{hex-small, hex-large}
use Rattle.desk_line.proofs.texts.hex_digit.Goals as goal

pub returns-then-x-lt10 : goal.returns-then-x-lt10
returns-then-x-lt10 c = hex-small _ c.if-x-lt10.true

pub returns-else-x-lt10 : goal.returns-else-x-lt10
returns-else-x-lt10 c = hex-large _ c.if-x-lt10.false
