-- What is left to walk from here gives the whole walk.
use Rattle.path.proofs.WalkLaws.{Going}
use Rattle.path.proofs.walks.walk_array.Given as goal

abbrev pub invariant-loop-i : goal.invariant-loop-i
invariant-loop-i l = Going l.shape l.table l.source l.destination l.path l.met l.used l.back l.server l.i
