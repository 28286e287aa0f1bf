-- `laying::marks::mark_server`: the links of the levels below this one are marked.
use Rattle.laying.specs.Laid.{Marks}
use Rattle.laying.proofs.MarkLaws.{up_to}
use Rattle.laying.proofs.marks.mark_server.Given as goal

abbrev pub invariant-loop-level : goal.invariant-loop-level
invariant-loop-level l = Marks l.fn.shape l.fn.copy (up_to l.server l.level) l.copy
