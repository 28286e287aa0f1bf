-- `build::slots::corrected`: the level's digits differ, and a hop corrects it, or not; after the last turn the bytes are the whole.
use Rattle.std.proofs.Common.{arith}
use Rattle.build.proofs.SlotLaws.{skipped, hopped, ended}
use Rattle.build.proofs.slots.corrected.Goals as goal
use Rattle.build.proofs.slots.corrected.Goals.{then-from-level, else-from-level}

pub loop-turn-preserved : goal.loop-turn-preserved
loop-turn-preserved c =
    let g = c.loop-turn.invariant in
    let next = c.level_after-level.ensures in
    elim c.if-from-level.branch [
      | then-from-level w ↦ rw (w.bytes-is, w.hops-is)
          (hopped _ _ _ _ _ _ _ _ g (omega arith) w.if-from-level.true _ w.byte_of.ensures _ next _ (omega arith))
      | else-from-level w ↦ rw (w.bytes-is, w.hops-is) (skipped _ _ _ _ _ _ _ _ g (omega arith) w.if-from-level.false _ next _ (omega arith))
    ]

pub returns : goal.returns
returns c = ended _ _ _ _ _ _ _ _ c.loop-turn.invariant (omega arith)
