-- `links::tables::is_failed`: the bit of the byte; past the table's end there is none.
use Rattle.std.proofs.Common.{◌∙◌}
use borrow.Author.Tests.{le-ltb}
use Rattle.links.specs.Table.{failed}
use Rattle.links.proofs.LinkLaws.{failed-past}
use Rattle.links.proofs.tables.is_failed.Goals as goal

pub returns-then-server-table : goal.returns-then-server-table
unfolding failed
returns-then-server-table c = c.has_bit.ensures

pub returns-else-server-table : goal.returns-else-server-table
returns-else-server-table c = le-ltb _ _ c.if-server-table.false ∙ failed-past _ _ _ c.if-server-table.false
