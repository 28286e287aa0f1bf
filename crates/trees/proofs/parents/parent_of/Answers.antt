-- `trees::parents::parent_of`: a refused question, and the parent where it is not; the digits of the two servers are then not refused.
use Rattle.std.proofs.Common.{rules}
use Rattle.refusals.proofs.ReasonLaws.{tells-passed, tells-given}
use Rattle.room.specs.Answers.{no_number, a_number}
use Rattle.trees.specs.Answers.{parent_answer}
use Rattle.trees.proofs.ParentLaws.{source-there, server-there, parent-link, parent-found}
use Rattle.trees.proofs.parents.parent_of.Goals as goal

pub returns-in_err-parent_refusal : goal.returns-in_err-parent_refusal
unfolding parent_answer
returns-in_err-parent_refusal c = search (rules, tells-passed no_number a_number)

pub returns-in_err-from : goal.returns-in_err-from
returns-in_err-from c = absurd (source-there _ _ _ _ c.in_ok-parent_refusal.ensures _ c.in_err-from.ensures)

pub returns-in_err-own : goal.returns-in_err-own
returns-in_err-own c = absurd (server-there _ _ _ _ c.in_ok-parent_refusal.ensures _ c.in_err-own.ensures)

pub parent_by-requires : goal.parent_by-requires
parent_by-requires c = let w = parent-link _ _ _ _ c.in_ok-parent_refusal.ensures _ c.in_ok-own.ensures in (w.0, w.1, c.strides_of-strides.ensures)

pub returns : goal.returns
unfolding parent_answer
returns c = tells-given no_number a_number _ _ _ c.in_ok-parent_refusal.ensures (parent-found _ _ _ _ c.in_ok-parent_refusal.ensures _ c.in_ok-own.ensures _ c.in_ok-from.ensures _ c.parent_by.ensures)
