-- `verdict::checks::check_arrays`: the arrays before this one have been walked, and none was refused.
use Rattle.verdict.proofs.ListWalk.{Walking}
use Rattle.verdict.proofs.checks.check_arrays.Given as goal

abbrev pub invariant-loop-i : goal.invariant-loop-i
invariant-loop-i l = Walking l.shape l.table l.source l.destination l.list l.walks l.i-counter
