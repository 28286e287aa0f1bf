-- `summary::marks::change_server`: refused, or changed.
use Rattle.std.proofs.Common.{rules}
use Rattle.summary.proofs.AnswerLaws.{server-refused, server-counted, server-done}
use Rattle.summary.proofs.marks.change_server.Goals as goal

pub returns-in_err-counted_server_refusal : goal.returns-in_err-counted_server_refusal
returns-in_err-counted_server_refusal c = server-refused _ _ _ _ _ c.in_err-counted_server_refusal.ensures _ c.from_residual.ensures.1 _

pub change_all-requires : goal.change_all-requires
change_all-requires c = search (rules, server-counted)

pub returns : goal.returns
returns c = server-done _ _ _ _ c.in_ok-counted_server_refusal.ensures _ _ _ c.change_all.ensures
