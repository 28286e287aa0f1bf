-- `summary::tests::summary_refusal`: the table and the length, then each entry.
use Rattle.std.proofs.Common.{rules}
use mathlib.Core.Path.{◌∙◌}
use Rattle.refusals.proofs.ReasonLaws.{told-is, reason-some}
use Rattle.summary.proofs.RefusalLaws.{summary_stops, entries-room, entries-there, summary_goes, summary_differs}
use Rattle.summary.proofs.tests.summary_refusal.Goals as goal

pub returns-in_err-entries_refusal : goal.returns-in_err-entries_refusal
returns-in_err-entries_refusal c = told-is _ _ c.from_residual.ensures.1 ∙ summary_stops _ _ _ _ c.in_err-entries_refusal.ensures (reason-some _)

pub invariant_of-all_counted : goal.invariant_of-all_counted
invariant_of-all_counted c = search (rules, entries-room, entries-there)

pub returns-then-all_counted : goal.returns-then-all_counted
returns-then-all_counted c = search (rules, summary_goes)

pub returns : goal.returns
returns c = search (rules, summary_differs)
