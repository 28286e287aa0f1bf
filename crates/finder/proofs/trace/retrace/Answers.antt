-- `finder::trace::retrace`: the source is met, or a hop goes in front; a ninth is too many.
use Rattle.std.proofs.Common.{arith, refl}
use Rattle.finder.proofs.Back.{Tracing, InTables, in_tables, retracing_starts, retracing_more, tracing_ends}
use Rattle.finder.proofs.trace.retrace.Goals as goal
use Rattle.finder.proofs.trace.retrace.Goals.{In-loop-hops, Else-at-source}

pub loop-hops-init : goal.loop-hops-init
loop-hops-init c = retracing_starts 8 refl

-- what is known before a hop
now : (c : In-loop-hops) → Tracing c.args.k c.args.source c.args.back.now c.args.queue.now c.args.destination c.loop-hops.bytes c.loop-hops.hops c.loop-hops.at
now c = c.loop-hops.invariant.tracing (omega arith)

pub returns-then-at-source : goal.returns-then-at-source
returns-then-at-source c = tracing_ends (now (goal.at.returns-then-at-source c).In-loop-hops) c.if-at-source.true _ refl c.requires.1

-- what a turn reads is in the tables
reads_in : (c : Else-at-source) → InTables c.args.back.now c.args.queue.now c.args.k c.loop-hops.at
reads_in c = in_tables c.requires.0 ((c.loop-hops.invariant.tracing (omega arith)).along c.requires.0) c.if-at-source.false

pub offset_bounds-back-at : goal.offset_bounds-back-at
offset_bounds-back-at c = omega (arith, reads_in (goal.at.offset_bounds-back-at c).Else-at-source)

pub bounds-back-at : goal.bounds-back-at
bounds-back-at c = omega (arith, reads_in (goal.at.bounds-back-at c).Else-at-source)

pub overflow_sub-k : goal.overflow_sub-k
overflow_sub-k c = omega (arith, reads_in (goal.at.overflow_sub-k c).Else-at-source)

pub bounds-queue-key : goal.bounds-queue-key
bounds-queue-key c = omega (arith, reads_in (goal.at.bounds-queue-key c).Else-at-source)

pub loop-hops-preserved : goal.loop-hops-preserved
loop-hops-preserved c = retracing_more (c.loop-hops.invariant.tracing (omega arith)) c.if-at-source.false _ c.front.ensures

pub returns : goal.returns
returns c = (c.loop-hops.invariant.over (omega arith), tt)
