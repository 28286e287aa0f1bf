-- The bytes put so far and those of the servers left are the whole.
use Rattle.path.proofs.WriteLaws.{Putting}
use Rattle.path.proofs.writings.put_bytes.Given as goal

abbrev pub invariant-loop-i : goal.invariant-loop-i
invariant-loop-i l = Putting l.shape l.servers l.bytes l.i
