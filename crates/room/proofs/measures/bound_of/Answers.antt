-- `room::measures::bound_of`: a refused level, and the bound of one that is not.
use Rattle.std.proofs.Common.{rules}
use Rattle.refusals.proofs.ReasonLaws.{tells-passed, tells-given}
use Rattle.room.specs.Answers.{no_number, a_number, bound_answer}
use Rattle.room.proofs.measures.bound_of.Goals as goal

pub returns-in_err-level_refusal : goal.returns-in_err-level_refusal
unfolding bound_answer
returns-in_err-level_refusal c = search (rules, tells-passed no_number a_number)

pub returns : goal.returns
unfolding bound_answer
returns c = search (rules, tells-given no_number a_number)
