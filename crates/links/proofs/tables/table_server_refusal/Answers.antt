-- `links::tables::table_server_refusal`: the server, then the table.
use Rattle.std.proofs.Common.{rules}
use Rattle.refusals.proofs.ChainLaws.{chain_on}
use Rattle.refusals.proofs.ReasonLaws.{told-passed}
use Rattle.links.specs.Table.{table_server_refusal}
use Rattle.links.proofs.LinkLaws.{server-shape}
use Rattle.links.proofs.tables.table_server_refusal.Goals as goal

pub returns-in_err-server_refusal : goal.returns-in_err-server_refusal
unfolding table_server_refusal
returns-in_err-server_refusal c = told-passed _ _ c.from_residual.ensures.1 _ _ c.in_err-server_refusal.ensures

pub own_refusal-requires : goal.own_refusal-requires
own_refusal-requires c = search (rules, server-shape)

pub returns : goal.returns
unfolding table_server_refusal
returns c = search (rules, chain_on)
