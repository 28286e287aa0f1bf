-- `laying::marks::mark_servers`: none is marked, then one more.
use Rattle.std.proofs.Common.{refl}
use Rattle.laying.proofs.MarkLaws.{among-start, among-step}
use Rattle.laying.proofs.marks.mark_servers.Goals as goal

pub loop-server-init : goal.loop-server-init
loop-server-init c = among-start c.requires.1

pub loop-server-preserved : goal.loop-server-preserved
loop-server-preserved c = among-step c.loop-server.invariant c.loop-server-test.true _ refl c.mark_server.ensures
