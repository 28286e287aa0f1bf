-- `room::tests::link_refusal`: the server, then the level.
use Rattle.std.proofs.Common.{rules}
use Rattle.refusals.proofs.ReasonLaws.{told-passed}
use Rattle.room.specs.Refusals.{link_refusal}
use Rattle.room.proofs.RefusalLaws.{link-passed, link-failed}
use Rattle.room.proofs.tests.link_refusal.Goals as goal

pub returns-in_err-server_refusal : goal.returns-in_err-server_refusal
unfolding link_refusal
returns-in_err-server_refusal c = told-passed _ _ c.from_residual.ensures.1 _ _ c.in_err-server_refusal.ensures

pub returns-then-level-shape : goal.returns-then-level-shape
returns-then-level-shape c = search (rules, link-passed)

pub returns : goal.returns
returns c = search (rules, link-failed)
