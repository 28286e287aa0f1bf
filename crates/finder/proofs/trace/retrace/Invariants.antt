-- `finder::trace::retrace`: the bytes are those of the last hops, and `at` is where they begin, unless they are too many.
use Rattle.finder.proofs.Back.{Retracing}
use Rattle.finder.proofs.trace.retrace.Given as goal

abbrev pub invariant-loop-hops : goal.invariant-loop-hops
invariant-loop-hops l = Retracing l.k l.source l.back l.queue l.destination l.bytes l.hops l.at
