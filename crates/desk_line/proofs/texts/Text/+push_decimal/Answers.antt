-- `desk_line::texts::Text::push_decimal`: the last digit behind the others.
use Rattle.std.proofs.Common.{◌∙◌, arith}
use Rattle.desk_line.proofs.TextLaws.{decimal-long, last_room, last_put, only_room, only_put}
use Rattle.desk_line.proofs.texts.Text.+push_decimal.Goals as goal
use Rattle.desk_line.proofs.texts.Text.+push_decimal.Goals.{then-number-ge10, else-number-ge10}

pub push_decimal-requires : goal.push_decimal-requires
push_decimal-requires t c = (omega arith, omega (arith, decimal-long c.args.number c.if-number-ge10.true))

pub push-requires : goal.push-requires
push-requires t c =
    elim c.if-number-ge10.branch [
      | then-number-ge10 w ↦ last_room _ _ c.args.number c.requires w.if-number-ge10.true (w.self-is ∙ w.push_decimal.ensures)
      | else-number-ge10 w ↦ only_room _ _ c.args.number c.requires w.if-number-ge10.false w.self-is
    ]

pub returns : goal.returns
returns t c =
    elim c.if-number-ge10.branch [
      | then-number-ge10 w ↦ last_put _ _ c.args.number c.requires w.if-number-ge10.true (w.self-is ∙ w.push_decimal.ensures) c.push.ensures
      | else-number-ge10 w ↦ only_put _ _ c.args.number c.requires w.if-number-ge10.false w.self-is c.push.ensures
    ]
