-- `room::neighbours::only_place`: so many of the places passed differ, the last of them at this level.
use Rattle.room.proofs.FourPlaces.{Differs}
use Rattle.room.proofs.neighbours.only_place.Given as goal

abbrev pub invariant-loop-i : goal.invariant-loop-i
invariant-loop-i l = Differs l.fn.one l.fn.other l.count l.level l.i
