-- `summary::tests::counted_link_refusal`: the link, then its entry.
use Rattle.std.proofs.Common.{rules}
use Rattle.refusals.proofs.ReasonLaws.{told-passed}
use Rattle.refusals.proofs.ChainLaws.{chain_on, both_passed, first-failed, second-failed}
use Rattle.summary.specs.Refusals.{counted_link_refusal}
use Rattle.summary.proofs.tests.counted_link_refusal.Goals.{else-has_entries-via-then-has_entries+else-is_counted, else-has_entries-via-else-has_entries}
use Rattle.summary.proofs.RefusalLaws.{link-there, link-room}
use Rattle.summary.proofs.tests.counted_link_refusal.Goals as goal

pub returns-in_err-table_link_refusal : goal.returns-in_err-table_link_refusal
unfolding counted_link_refusal
returns-in_err-table_link_refusal c = told-passed _ _ c.from_residual.ensures.1 _ _ c.in_err-table_link_refusal.ensures

pub has_entries-requires : goal.has_entries-requires
has_entries-requires c = search (rules, link-room)

pub invariant_of-is_counted : goal.invariant_of-is_counted
invariant_of-is_counted c = search (rules, link-room)

pub is_counted-requires : goal.is_counted-requires
is_counted-requires c = search (rules, link-there)

pub returns-then-is_counted : goal.returns-then-is_counted
unfolding counted_link_refusal
returns-then-is_counted c = search (rules, chain_on, both_passed)

pub returns : goal.returns
unfolding counted_link_refusal
returns c =
    elim c.else-has_entries.branch [
      | else-has_entries-via-then-has_entries+else-is_counted w ↦ chain_on _ _ _ c.in_ok-table_link_refusal.ensures (second-failed 30 _ _ _ c.has_entries.ensures w.if-has_entries.true _ w.is_counted.ensures w.if-is_counted.false)
      | else-has_entries-via-else-has_entries w ↦ chain_on _ _ _ c.in_ok-table_link_refusal.ensures (first-failed 30 _ _ _ c.has_entries.ensures w.if-has_entries.false)
    ]
