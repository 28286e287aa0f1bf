-- `build::routes::build_routes`: refused as the ends are; or the routes.
use Rattle.std.proofs.Common.{rules}
use Rattle.refusals.proofs.ReasonLaws.{tells-passed, tells-given}
use Rattle.build.specs.Answers.{no_building, a_building, build_answer}
use Rattle.build.proofs.routes.build_routes.Goals as goal

pub returns-in_err-ends_refusal : goal.returns-in_err-ends_refusal
unfolding build_answer
returns-in_err-ends_refusal c = search (rules, tells-passed no_building a_building)

pub returns : goal.returns
unfolding build_answer
returns c = search (rules, tells-given no_building a_building)
