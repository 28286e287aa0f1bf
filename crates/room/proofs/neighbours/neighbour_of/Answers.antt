-- `room::neighbours::neighbour_of`: a refused value, and the neighbour by one that is not: the product and the sum fit.
use Rattle.std.proofs.Common.{rules}
use Rattle.refusals.proofs.ReasonLaws.{tells-passed, tells-given}
use Rattle.room.specs.Answers.{no_number, a_number, neighbour_answer}
use Rattle.room.proofs.SideLaws.{stride_fits, set-fits, set_found}
use Rattle.room.proofs.neighbours.neighbour_of.Goals as goal

pub returns-in_err-value_refusal : goal.returns-in_err-value_refusal
unfolding neighbour_answer
returns-in_err-value_refusal c = search (rules, tells-passed no_number a_number)

pub overflow_mul-result : goal.overflow_mul-result
overflow_mul-result c = search (rules, stride_fits)

pub overflow_add-result : goal.overflow_add-result
overflow_add-result c = search (rules, set-fits)

pub returns : goal.returns
unfolding neighbour_answer
returns c = search (rules, tells-given no_number a_number, set_found)
