-- `links::tables::table_link_refusal`: the link, then the table.
use Rattle.std.proofs.Common.{rules}
use Rattle.refusals.proofs.ChainLaws.{chain_on}
use Rattle.refusals.proofs.ReasonLaws.{told-passed}
use Rattle.links.specs.Table.{table_link_refusal}
use Rattle.links.proofs.LinkLaws.{link-shape}
use Rattle.links.proofs.tables.table_link_refusal.Goals as goal

pub returns-in_err-link_refusal : goal.returns-in_err-link_refusal
unfolding table_link_refusal
returns-in_err-link_refusal c = told-passed _ _ c.from_residual.ensures.1 _ _ c.in_err-link_refusal.ensures

pub own_refusal-requires : goal.own_refusal-requires
own_refusal-requires c = search (rules, link-shape)

pub returns : goal.returns
unfolding table_link_refusal
returns c = search (rules, chain_on)
