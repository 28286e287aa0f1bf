-- `room::tests::level_refusal`: the shape, then the level.
use Rattle.std.proofs.Common.{rules}
use borrow.Author.Tests.{le-leb, lt-leb}
use Rattle.refusals.proofs.ReasonLaws.{told-passed}
use Rattle.refusals.proofs.ChainLaws.{chain_on}
use Rattle.room.specs.Refusals.{level_refusal}
use Rattle.room.proofs.tests.level_refusal.Goals as goal

pub returns-in_err-shape_refusal : goal.returns-in_err-shape_refusal
unfolding level_refusal
returns-in_err-shape_refusal c = told-passed _ _ c.from_residual.ensures.1 _ _ c.in_err-shape_refusal.ensures

pub returns-then-level-shape : goal.returns-then-level-shape
unfolding level_refusal
returns-then-level-shape c = search (rules, chain_on, le-leb)

pub returns : goal.returns
unfolding level_refusal
returns c = search (rules, chain_on, lt-leb)
