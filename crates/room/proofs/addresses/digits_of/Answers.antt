-- `room::addresses::digits_of`: a refused server, and the digits of one that is not.
use Rattle.std.proofs.Common.{rules}
use Rattle.refusals.proofs.ReasonLaws.{tells-passed, tells-given}
use Rattle.room.specs.Answers.{no_digits, some_digits, digits_answer}
use Rattle.room.proofs.addresses.digits_of.Goals as goal

pub returns-in_err-server_refusal : goal.returns-in_err-server_refusal
unfolding digits_answer
returns-in_err-server_refusal c = search (rules, tells-passed no_digits some_digits)

pub returns : goal.returns
unfolding digits_answer
returns c = search (rules, tells-given no_digits some_digits)
