-- The bytes left tell what all bytes after the arrival tell.
use Rattle.path.proofs.WalkLaws.{Ending}
use Rattle.path.proofs.walks.arrived.Given as goal

abbrev pub invariant-loop-i : goal.invariant-loop-i
invariant-loop-i l = Ending l.path l.hops l.back l.i
