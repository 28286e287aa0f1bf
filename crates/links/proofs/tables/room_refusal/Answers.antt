-- `links::tables::room_refusal`: the ends, then the table.
use Rattle.std.proofs.Common.{rules}
use Rattle.refusals.proofs.ChainLaws.{chain_on}
use Rattle.refusals.proofs.ReasonLaws.{told-passed}
use Rattle.links.specs.Table.{room_refusal}
use Rattle.links.proofs.LinkLaws.{ends_shape}
use Rattle.links.proofs.tables.room_refusal.Goals as goal

pub returns-in_err-ends_refusal : goal.returns-in_err-ends_refusal
unfolding room_refusal
returns-in_err-ends_refusal c = told-passed _ _ c.from_residual.ensures.1 _ _ c.in_err-ends_refusal.ensures

pub own_refusal-requires : goal.own_refusal-requires
own_refusal-requires c = search (rules, ends_shape)

pub returns : goal.returns
unfolding room_refusal
returns c = search (rules, chain_on)
