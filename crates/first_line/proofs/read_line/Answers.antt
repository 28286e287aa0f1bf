-- `first_line::read_line`: with no newline, all 65 bytes are the input's.
use Rattle.std.proofs.Common.{◌≤◌, sym, length, arith, length-take-le}
use Rattle.first_line.proofs.read_line.Goals as goal

pub invariant_of-result-2 : goal.invariant_of-result-2
invariant_of-result-2 g c =
    let h : 65 ≤ length c.loop-count.bytes = omega arith in
    record { within = (h, sym (length-take-le 65 c.loop-count.bytes h)) }
