-- What is left to write from here gives the whole answer.
use Rattle.path.proofs.WriteLaws.{Way}
use Rattle.path.proofs.writings.on_the_way.Given as goal

abbrev pub invariant-loop-i : goal.invariant-loop-i
invariant-loop-i l = Way l.shape l.servers l.used l.i
