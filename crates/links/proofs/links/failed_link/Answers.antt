-- `links::links::failed_link`: a refused link, and whether one that is not is failed.
use Rattle.std.proofs.Common.{rules}
use Rattle.refusals.proofs.ReasonLaws.{tells-passed, tells-given}
use Rattle.links.specs.Answers.{not_asked, asked, failed_answer}
use Rattle.links.proofs.links.failed_link.Goals as goal

pub returns-in_err-table_link_refusal : goal.returns-in_err-table_link_refusal
unfolding failed_answer
returns-in_err-table_link_refusal c = search (rules, tells-passed not_asked asked)

pub returns : goal.returns
unfolding failed_answer
returns c = search (rules, tells-given not_asked asked)
