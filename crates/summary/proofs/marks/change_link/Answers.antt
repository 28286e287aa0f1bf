-- `summary::marks::change_link`: refused, or changed.
use Rattle.std.proofs.Common.{rules}
use Rattle.summary.proofs.AnswerLaws.{link-refused, link-counted, link-done}
use Rattle.summary.proofs.marks.change_link.Goals as goal

pub returns-in_err-counted_link_refusal : goal.returns-in_err-counted_link_refusal
returns-in_err-counted_link_refusal c = link-refused _ _ _ _ _ _ c.in_err-counted_link_refusal.ensures _ c.from_residual.ensures.1 _

pub change-requires : goal.change-requires
change-requires c = search (rules, link-counted)

pub returns : goal.returns
returns c = link-done _ _ _ _ _ c.in_ok-counted_link_refusal.ensures _ _ _ c.change.ensures
