-- `links::tables::table_refusal`: the shape, then the table.
use Rattle.std.proofs.Common.{rules}
use Rattle.refusals.proofs.ChainLaws.{chain_on}
use Rattle.refusals.proofs.ReasonLaws.{told-passed}
use Rattle.links.specs.Table.{room_table_refusal}
use Rattle.links.proofs.tables.table_refusal.Goals as goal

pub returns-in_err-shape_refusal : goal.returns-in_err-shape_refusal
unfolding room_table_refusal
returns-in_err-shape_refusal c = told-passed _ _ c.from_residual.ensures.1 _ _ c.in_err-shape_refusal.ensures

pub returns : goal.returns
unfolding room_table_refusal
returns c = search (rules, chain_on)
