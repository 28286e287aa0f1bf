-- `desk_line::texts::Text::push_hex`: two digits more for each byte.
use Rattle.std.proofs.Common.{sym, ap, length, length-append, append-nil, [], ◌∷◌, arith}
use Rattle.desk_line.specs.Texts.{hex_of}
use Rattle.desk_line.proofs.TextLaws.{hex-room, hex_put}
use Rattle.desk_line.proofs.texts.Text.push_hex.Goals as goal

pub loop-byte-init : goal.loop-byte-init
unfolding hex_of
loop-byte-init c = sym (append-nil c.args.self.now)

pub push-requires : goal.push-requires
push-requires c =
    omega (arith, hex-room c.args.self.now c.loop-byte.self c.args.bytes.now c.loop-byte.byte-index c.loop-byte-test.true c.requires c.loop-byte.invariant)

pub push-requires-in-loop-byte : goal.push-requires-in-loop-byte
push-requires-in-loop-byte c =
    omega (arith, hex-room c.args.self.now c.loop-byte.self c.args.bytes.now c.loop-byte.byte-index c.loop-byte-test.true c.requires c.loop-byte.invariant, ap length c.push.ensures, length-append c.loop-byte.self (c.hex_digit.result ∷ []))

pub loop-byte-preserved : goal.loop-byte-preserved
loop-byte-preserved c =
    hex_put _ _ c.args.bytes.now c.loop-byte.byte-index c.loop-byte-test.true c.requires c.loop-byte.invariant _ _ c.hex_digit.ensures c.hex_digit-in-loop-byte.ensures c.push.ensures c.push-in-loop-byte.ensures
