-- `room::measures::servers_of`: a refused shape, and the servers of one that is not.
use Rattle.std.proofs.Common.{rules}
use Rattle.refusals.proofs.ReasonLaws.{tells-passed, tells-given}
use Rattle.room.specs.Answers.{no_number, a_number, servers_answer}
use Rattle.room.proofs.RefusalLaws.{counted}
use Rattle.room.proofs.measures.servers_of.Goals as goal

pub returns-in_err-shape_refusal : goal.returns-in_err-shape_refusal
unfolding servers_answer
returns-in_err-shape_refusal c = search (rules, tells-passed no_number a_number)

pub returns : goal.returns
unfolding servers_answer
returns c = search (rules, tells-given no_number a_number, counted)
