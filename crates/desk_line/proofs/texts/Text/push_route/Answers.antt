-- `desk_line::texts::Text::push_route`: sixteen digits, a space, one digit and the newline.
use Rattle.std.proofs.Common.{[], ◌∷◌, ap, length, length-append, append_assoc, arith}
use Rattle.desk_line.specs.Lines.{space}
use Rattle.desk_line.specs.Texts.{hex_of, decimal, route_line}
use Rattle.desk_line.proofs.TextLaws.{hex-long, decimal-small}
use Rattle.desk_line.proofs.texts.Text.push_route.Goals as goal

pub push-requires : goal.push-requires
push-requires c =
    omega (arith, c.requires, ap length c.push_hex.ensures, length-append c.args.self.now (hex_of c.args.route.now), hex-long c.args.route.now)

pub push_decimal-requires : goal.push_decimal-requires
push_decimal-requires c =
    omega (arith, c.requires, ap length c.push_hex.ensures, length-append c.args.self.now (hex_of c.args.route.now), hex-long c.args.route.now, ap length c.push.ensures, length-append c.push_hex.new.self (space ∷ []), ap length (decimal-small c.args.hops c.requires.few))

pub push-requires-2 : goal.push-requires-2
push-requires-2 c =
    omega (arith, c.requires, ap length c.push_hex.ensures, length-append c.args.self.now (hex_of c.args.route.now), hex-long c.args.route.now, ap length c.push.ensures, length-append c.push_hex.new.self (space ∷ []), ap length c.push_decimal.ensures, length-append c.push.new.self (decimal c.args.hops), ap length (decimal-small c.args.hops c.requires.few))

pub returns : goal.returns
unfolding route_line
returns c = rw (c.push-2.ensures, c.push_decimal.ensures, c.push.ensures, c.push_hex.ensures) (simp append_assoc)
