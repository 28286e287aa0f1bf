-- `links::tables::own_refusal`: a byte for each server, and no bit above k.
use Rattle.links.proofs.LinkLaws.{table-length, table_bits, table_passes, shape-levels}
use Rattle.links.proofs.tables.own_refusal.Goals as goal
use Rattle.links.proofs.tables.own_refusal.Goals.{else-table-server_count-via-then-table-server_count+else-bits_fit, else-table-server_count-via-else-table-server_count}

pub bits_fit-requires : goal.bits_fit-requires
bits_fit-requires c = search shape-levels

pub returns-then-bits_fit : goal.returns-then-bits_fit
returns-then-bits_fit c = search table_passes

pub returns : goal.returns
returns c =
    elim c.else-table-server_count.branch [
      | else-table-server_count-via-then-table-server_count+else-bits_fit w ↦ table_bits _ _ _ c.requires c.server_count.ensures _ w.if-table-server_count.true w.bits_fit.ensures w.if-bits_fit.false
      | else-table-server_count-via-else-table-server_count w ↦ table-length _ _ _ c.requires c.server_count.ensures w.if-table-server_count.false
    ]
