-- `room::addresses::digit_of`: a refused link, and the digit of one that is not: neither the power of n nor n is then 0.
use Rattle.std.proofs.Common.{rules}
use Rattle.refusals.proofs.ReasonLaws.{tells-passed, tells-given}
use Rattle.room.specs.Answers.{no_number, a_number, digit_answer}
use Rattle.room.proofs.SideLaws.{link-weight, link-ports, digit-found}
use Rattle.room.proofs.addresses.digit_of.Goals as goal

pub returns-in_err-link_refusal : goal.returns-in_err-link_refusal
unfolding digit_answer
returns-in_err-link_refusal c = search (rules, tells-passed no_number a_number)

pub nonzero_div-result : goal.nonzero_div-result
nonzero_div-result c = search (rules, link-weight)

pub nonzero_rem-result : goal.nonzero_rem-result
nonzero_rem-result c = search (rules, link-ports)

pub returns : goal.returns
unfolding digit_answer
returns c = search (rules, tells-given no_number a_number, digit-found)
