-- `room::neighbours::only_place`: a place that differs, or not; then their count.
use Rattle.std.proofs.Common.{rules}
use Rattle.room.proofs.FourPlaces.{differs_start, differs_here, differs_not, differs_many, differs_once}
use Rattle.room.proofs.neighbours.only_place.Goals as goal
use Rattle.room.proofs.neighbours.only_place.Goals.{then-digit-other, else-digit-other}

pub loop-i-init : goal.loop-i-init
loop-i-init c = differs_start _ _ (search rules) (search rules)

pub loop-i-preserved : goal.loop-i-preserved
loop-i-preserved c =
    let g = c.loop-i.invariant in
    elim c.if-digit-other.branch [
      | then-digit-other w ↦ rw (w.count-is, w.level-is) (differs_here g c.loop-i-test.true w.if-digit-other.true)
      | else-digit-other w ↦ rw (w.count-is, w.level-is) (differs_not g c.loop-i-test.true w.if-digit-other.false)
    ]

pub returns-then-count-ne1 : goal.returns-then-count-ne1
returns-then-count-ne1 c = search differs_many

pub returns : goal.returns
returns c = search differs_once
