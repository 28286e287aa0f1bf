-- `first_line::read_line`: `bytes` is an array of 65.
use Rattle.std.proofs.Common.{◌≡◌, length}
use Rattle.first_line.proofs.read_line.Given as goal

abbrev pub invariant-loop-count : goal.invariant-loop-count
invariant-loop-count g l = length l.bytes ≡ 65
