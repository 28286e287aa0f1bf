-- `room::tests::server_refusal`: the shape, then the address.
use Rattle.std.proofs.Common.{rules}
use Rattle.refusals.proofs.ReasonLaws.{told-passed}
use Rattle.refusals.proofs.ChainLaws.{chain_on, under, over}
use Rattle.room.specs.Refusals.{server_refusal}
use Rattle.room.proofs.RefusalLaws.{counted}
use Rattle.room.proofs.tests.server_refusal.Goals as goal

pub returns-in_err-shape_refusal : goal.returns-in_err-shape_refusal
unfolding server_refusal
returns-in_err-shape_refusal c = told-passed _ _ c.from_residual.ensures.1 _ _ c.in_err-shape_refusal.ensures

pub returns-then-server-server_count : goal.returns-then-server-server_count
unfolding server_refusal
returns-then-server-server_count c = search (rules, chain_on, under, counted)

pub returns : goal.returns
unfolding server_refusal
returns c = search (rules, chain_on, over, counted)
