-- `room::neighbours::level_between`: a refused server, and the level of two that are not.
use Rattle.std.proofs.Common.{rules}
use Rattle.refusals.proofs.ReasonLaws.{tells-passed}
use Rattle.room.specs.Answers.{no_between, between, between_answer}
use Rattle.room.proofs.RefusalLaws.{pair_first, pair_second}
use Rattle.room.proofs.AnswerLaws.{between-given}
use Rattle.room.proofs.neighbours.level_between.Goals as goal

pub returns-in_err-pair_refusal : goal.returns-in_err-pair_refusal
unfolding between_answer
returns-in_err-pair_refusal c = search (rules, tells-passed no_between between)

pub digit_places-requires : goal.digit_places-requires
digit_places-requires c = search (rules, pair_first)

pub digit_places-requires-2 : goal.digit_places-requires-2
digit_places-requires-2 c = search (rules, pair_second)

pub returns : goal.returns
returns c = search (rules, between-given)
