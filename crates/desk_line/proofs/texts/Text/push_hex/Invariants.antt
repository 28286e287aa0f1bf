-- `desk_line::texts::Text::push_hex`: the bytes before the place stand behind the text in hex.
use Rattle.std.proofs.Common.{◌≡◌, ◌++◌, take}
use Rattle.desk_line.specs.Texts.{hex_of}
use Rattle.desk_line.proofs.texts.Text.push_hex.Given as goal

abbrev pub invariant-loop-byte : goal.invariant-loop-byte
invariant-loop-byte l = l.self ≡ l.initial.self ++ hex_of (take l.byte-index l.bytes)
