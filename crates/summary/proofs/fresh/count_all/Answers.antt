use Rattle.std.proofs.Common.{arith}
use Rattle.summary.proofs.EntryLaws.{entry-inside, all-written}
use Rattle.summary.proofs.fresh.count_all.Goals as goal

pub count_in-requires : goal.count_in-requires
count_in-requires c = search entry-inside

pub returns : goal.returns
returns c =
    all-written _ _ _ _ _ c.of-order.ensures c.requires.1 c.loop-place.auto.summary (λ j p. c.loop-place.invariant j (omega arith))
