-- `room::tests::places_fit`: the places passed hold what they may.
use Rattle.room.proofs.RefusalLaws.{Fitting}
use Rattle.room.proofs.tests.places_fit.Given as goal

abbrev pub invariant-loop-i : goal.invariant-loop-i
invariant-loop-i l = Fitting l.shape l.fn.places l.i
