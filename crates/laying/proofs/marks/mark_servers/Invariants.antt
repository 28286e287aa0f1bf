-- `laying::marks::mark_servers`: the servers before this one are marked.
use Rattle.laying.proofs.MarkLaws.{MarkedAmong}
use Rattle.laying.proofs.marks.mark_servers.Given as goal

abbrev pub invariant-loop-server : goal.invariant-loop-server
invariant-loop-server l = MarkedAmong (λ x m. x) l.shape l.fn.copy l.servers l.server-index l.copy
