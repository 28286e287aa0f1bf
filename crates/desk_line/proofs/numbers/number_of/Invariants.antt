-- `desk_line::numbers::number_of`: what is left of the word, read after the value so far, is the whole word's answer.
use Rattle.std.proofs.Common.{◌≡◌, ◌≤◌, drop}
use Rattle.desk_line.specs.Numbers.{word_of}
use Rattle.desk_line.proofs.NumberLaws.{read_on}
use Rattle.desk_line.proofs.numbers.number_of.Given as goal

abbrev pub invariant-loop-byte : goal.invariant-loop-byte
invariant-loop-byte l = record { small : l.value ≤ 65535; same : read_on l.value (drop l.byte-index l.word) ≡ word_of l.word }
