-- `path::writings::servers_refusal`: a server that is refused, the next, and none is left.
use mathlib.Core.Path.{◌∙◌}
use Rattle.refusals.proofs.ReasonLaws.{told-is}
use Rattle.path.proofs.WriteLaws.{fine_stop, fine_next, fine_end}
use Rattle.path.proofs.writings.servers_refusal.Goals as goal

pub returns-in_err-server_refusal : goal.returns-in_err-server_refusal
returns-in_err-server_refusal c = told-is _ _ c.from_residual.ensures.1 ∙ fine_stop c.loop-server.invariant c.loop-server-test.true _ c.in_err-server_refusal.ensures

pub loop-server-preserved : goal.loop-server-preserved
loop-server-preserved c = fine_next c.loop-server.invariant c.loop-server-test.true c.in_ok-server_refusal.ensures

pub returns : goal.returns
returns c = search fine_end
