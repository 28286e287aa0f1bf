-- `summary::tests::entries_refusal`: the table, then the length of the summary.
use Rattle.std.proofs.Common.{rules}
use Rattle.refusals.proofs.ReasonLaws.{told-passed}
use Rattle.refusals.proofs.ChainLaws.{chain_on, test_passed, test_failed}
use Rattle.summary.specs.Refusals.{entries_refusal}
use Rattle.summary.proofs.RefusalLaws.{table-room}
use Rattle.summary.proofs.tests.entries_refusal.Goals as goal

pub returns-in_err-table_refusal : goal.returns-in_err-table_refusal
unfolding entries_refusal
returns-in_err-table_refusal c = told-passed _ _ c.from_residual.ensures.1 _ _ c.in_err-table_refusal.ensures

pub has_entries-requires : goal.has_entries-requires
has_entries-requires c = search (rules, table-room)

pub returns-then-has_entries : goal.returns-then-has_entries
unfolding entries_refusal
returns-then-has_entries c = search (rules, chain_on, test_passed)

pub returns : goal.returns
unfolding entries_refusal
returns c = search (rules, chain_on, test_failed)
