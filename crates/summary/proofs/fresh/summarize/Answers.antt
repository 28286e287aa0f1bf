-- `summary::fresh::summarize`: refused, or counted afresh.
use Rattle.std.proofs.Common.{rules}
use Rattle.summary.proofs.RefusalLaws.{entries-room, entries-there}
use Rattle.summary.proofs.AnswerLaws.{fresh-refused, fresh-done}
use Rattle.summary.proofs.fresh.summarize.Goals as goal

pub returns-in_err-entries_refusal : goal.returns-in_err-entries_refusal
returns-in_err-entries_refusal c = fresh-refused _ _ _ _ c.in_err-entries_refusal.ensures _ c.from_residual.ensures.1

pub count_all-requires : goal.count_all-requires
count_all-requires c = search (rules, entries-room, entries-there)

pub returns : goal.returns
returns c = fresh-done _ _ _ c.in_ok-entries_refusal.ensures _ c.count_all.ensures
