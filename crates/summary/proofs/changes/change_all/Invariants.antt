-- The levels passed are changed.
use Rattle.summary.proofs.ChangeLaws.{Changing}
use Rattle.summary.proofs.changes.change_all.Given as goal

abbrev pub invariant-loop-level : goal.invariant-loop-level
invariant-loop-level l = Changing l.failed l.shape l.server l.initial.table l.initial.summary l.level l.table l.summary
