-- `finder::scan::search`: the three loops, one in another, and what the scan ends with.
use Rattle.std.proofs.Common.{arith, refl}
use Rattle.links.proofs.TableLaws.{room_of}
use Rattle.finder.proofs.Tables.{blank}
use Rattle.finder.proofs.Scanning.{scan_starts, levels-start, here-link, values_start, near, to_try, value-tried, value_seen, ended-found, level_ends, level-lower, levels-end, ended-all}
use Rattle.finder.proofs.Finish.{Ended, none_found, reached, found-answer}
use Rattle.finder.proofs.scan.search.Goals as goal
use Rattle.finder.proofs.scan.search.Goals.{Left-scan, then-back-w+else-arrived, else-back-w, else-loop-level-test, then-loop-level-test+else-loop-v-test+else-level-gt0, else-scan-test, then-scan-test+then-loop-level-test+then-loop-v-test+then-back-w+then-arrived}

-- the tables with the source alone in them
pub begin-requires : goal.begin-requires
begin-requires c = let r = (room_of _ _ _ _ c.requires).0 in (omega (arith, r.source.below, r.source.valid.small), blank 4096 refl, refl)

pub scan-init : goal.scan-init
scan-init c = scan_starts _ _ _ _ c.requires _ _ c.begin.ensures _ refl

-- the levels of a server, and the servers at its switch of a level
pub loop-level-init : goal.loop-level-init
loop-level-init c = levels-start c.scan.invariant c.scan-test.true

pub to_scan-side-requires : goal.to_scan-side-requires
to_scan-side-requires c = let h = c.loop-level.invariant in (here-link h, h.swept.long)

pub loop-v-init : goal.loop-v-init
loop-v-init c = values_start c.loop-level.invariant _ c.to_scan-side.ensures

-- one server at the switch
pub overflow_mul-marks : goal.overflow_mul-marks
overflow_mul-marks c = let h = near c.loop-v.invariant c.loop-v-test.true in omega (arith, h.0, h.2)

pub overflow_add-marks : goal.overflow_add-marks
overflow_add-marks c = let h = near c.loop-v.invariant c.loop-v-test.true in omega (arith, h.0, h.2)

pub bounds-marks-w : goal.bounds-marks-w
bounds-marks-w c = let h = near c.loop-v.invariant c.loop-v-test.true in omega (arith, h.3)

pub offset_bounds-back-w : goal.offset_bounds-back-w
offset_bounds-back-w c = let h = near c.loop-v.invariant c.loop-v-test.true in omega (arith, h.2)

pub bounds-back-w : goal.bounds-back-w
bounds-back-w c = let h = near c.loop-v.invariant c.loop-v-test.true in omega (arith, h.2)

pub visit-tail-requires : goal.visit-tail-requires
visit-tail-requires c = to_try c.loop-v.invariant c.loop-v-test.true c.if-back-w.true

-- the next value, the next level, the next server of the queue
pub overflow_add-w : goal.overflow_add-w
overflow_add-w c = let h = near c.loop-v.invariant c.loop-v-test.true in omega (arith, h.2, h.4)

pub loop-v-preserved : goal.loop-v-preserved
loop-v-preserved c =
    elim c.if-back-w.branch [
      | then-back-w+else-arrived w ↦ rw (w.back-is, w.queue-is, w.tail-is) (value-tried c.loop-v.invariant c.loop-v-test.true w.visit-tail.ensures)
      | else-back-w w ↦ rw (w.back-is, w.queue-is, w.tail-is) (value_seen c.loop-v.invariant c.loop-v-test.true w.if-back-w.false)
    ]

pub loop-level-preserved : goal.loop-level-preserved
loop-level-preserved c = level-lower (level_ends c.loop-v.invariant c.loop-v-test.false) (omega arith)

pub scan-preserved : goal.scan-preserved
scan-preserved c =
    elim c.loop-level-test.branch [
      | else-loop-level-test w ↦ absurd (omega arith)
      | then-loop-level-test+else-loop-v-test+else-level-gt0 w ↦ rw (w.back-is, w.queue-is, w.marks-is, w.tail-is)
          (levels-end (level_ends w.loop-v.invariant w.loop-v-test.false) (omega arith))
    ]

-- how the scan ends
ended : (c : Left-scan) → Ended c.args.shape c.args.table.now c.args.source c.scan-test.back c.scan-test.queue c.scan-test.tail c.args.destination
ended c =
    elim c.scan-test.branch [
      | else-scan-test w ↦ rw (w.back-is, w.queue-is, w.tail-is) (ended-all c.scan.invariant w.scan-test.false)
      | then-scan-test+then-loop-level-test+then-loop-v-test+then-back-w+then-arrived w ↦ rw (w.back-is, w.queue-is, w.tail-is)
          (ended-found w.loop-v.invariant w.loop-v-test.true w.visit-tail.ensures w.if-arrived.true)
    ]

-- the destination is not found, or it is
pub returns-then-back-destination : goal.returns-then-back-destination
returns-then-back-destination c = let e = ended (goal.at.returns-then-back-destination c).Left-scan in (search none_found, tt)

pub retrace-requires : goal.retrace-requires
retrace-requires c = let e = ended (goal.at.retrace-requires c).Left-scan in (search reached, (room_of _ _ _ _ c.requires).0.differ)

pub returns : goal.returns
returns c = let e = ended (goal.at.returns c).Left-scan in search found-answer
