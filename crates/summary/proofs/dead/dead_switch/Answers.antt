-- `summary::dead::dead_switch`: refused, or the first by its entry.
use Rattle.std.proofs.Common.{rules}
use Rattle.refusals.proofs.ReasonLaws.{tells-passed}
use Rattle.summary.specs.Answers.{none_dead, the_dead, dead_answer}
use Rattle.summary.proofs.AnswerLaws.{dead-room, dead-entries, dead-given}
use Rattle.summary.proofs.dead.dead_switch.Goals as goal

pub returns-in_err-summary_refusal : goal.returns-in_err-summary_refusal
unfolding dead_answer
returns-in_err-summary_refusal c = search (rules, tells-passed none_dead the_dead)

pub invariant_of-first_dead : goal.invariant_of-first_dead
invariant_of-first_dead c = search (rules, dead-room, dead-entries)

pub returns : goal.returns
returns c = search (rules, dead-given)
