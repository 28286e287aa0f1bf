-- `summary::tests::counted_server_refusal`: the server, then its entries.
use Rattle.std.proofs.Common.{rules}
use Rattle.refusals.proofs.ReasonLaws.{told-passed}
use Rattle.refusals.proofs.ChainLaws.{chain_on, both_passed, first-failed, second-failed}
use Rattle.summary.specs.Refusals.{counted_server_refusal}
use Rattle.summary.proofs.tests.counted_server_refusal.Goals.{else-has_entries-via-then-has_entries+else-are_counted, else-has_entries-via-else-has_entries}
use Rattle.summary.proofs.RefusalLaws.{server-there, server-room}
use Rattle.summary.proofs.tests.counted_server_refusal.Goals as goal

pub returns-in_err-table_server_refusal : goal.returns-in_err-table_server_refusal
unfolding counted_server_refusal
returns-in_err-table_server_refusal c = told-passed _ _ c.from_residual.ensures.1 _ _ c.in_err-table_server_refusal.ensures

pub has_entries-requires : goal.has_entries-requires
has_entries-requires c = search (rules, server-room)

pub invariant_of-are_counted : goal.invariant_of-are_counted
invariant_of-are_counted c = search (rules, server-room)

pub are_counted-requires : goal.are_counted-requires
are_counted-requires c = search (rules, server-there)

pub returns-then-are_counted : goal.returns-then-are_counted
unfolding counted_server_refusal
returns-then-are_counted c = search (rules, chain_on, both_passed)

pub returns : goal.returns
unfolding counted_server_refusal
returns c =
    elim c.else-has_entries.branch [
      | else-has_entries-via-then-has_entries+else-are_counted w ↦ chain_on _ _ _ c.in_ok-table_server_refusal.ensures (second-failed 30 _ _ _ c.has_entries.ensures w.if-has_entries.true _ w.are_counted.ensures w.if-are_counted.false)
      | else-has_entries-via-else-has_entries w ↦ chain_on _ _ _ c.in_ok-table_server_refusal.ensures (first-failed 30 _ _ _ c.has_entries.ensures w.if-has_entries.false)
    ]
