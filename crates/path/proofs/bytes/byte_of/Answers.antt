-- `path::bytes::byte_of`: a refused level or value, and the byte of those that are not.
use Rattle.std.proofs.Common.{rules}
use Rattle.refusals.proofs.ReasonLaws.{tells-passed}
use Rattle.room.specs.Answers.{no_number, a_number}
use Rattle.path.specs.Bytes.{byte_answer}
use Rattle.path.proofs.bytes.byte_of.Goals as goal

pub returns-in_err-made_refusal : goal.returns-in_err-made_refusal
unfolding byte_answer
returns-in_err-made_refusal c = search (rules, tells-passed no_number a_number)
