-- `room::tests::places_fit`: a place that holds too much, one more that does not, and all four.
use Rattle.std.proofs.Common.{rules}
use Rattle.room.proofs.RefusalLaws.{fitting_start, fitting_stop, fitting_next, fitting_done}
use Rattle.room.proofs.tests.places_fit.Goals as goal

pub loop-i-init : goal.loop-i-init
loop-i-init c = fitting_start _ _ (search rules)

pub returns-then-place_bound-held : goal.returns-then-place_bound-held
returns-then-place_bound-held c = search fitting_stop

pub loop-i-preserved : goal.loop-i-preserved
loop-i-preserved c = search fitting_next

pub returns : goal.returns
returns c = search fitting_done
