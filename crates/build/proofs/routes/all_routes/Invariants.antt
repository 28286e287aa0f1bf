-- `build::routes::all_routes`: the arrays of this slot and those below it are to come.
use Rattle.std.proofs.Common.{suc}
use Rattle.build.proofs.ArrayLaws.{Gathering}
use Rattle.build.proofs.routes.all_routes.Given as goal

abbrev pub invariant-loop-slot : goal.invariant-loop-slot
invariant-loop-slot l = Gathering l.shape l.source l.destination l.set (suc l.slot)
