-- `links::tables::is_live`: the sender's link, then the receiver's.
use Rattle.links.specs.Table.{live}
use Rattle.links.proofs.tables.is_live.Goals as goal

pub returns-then-not-is_failed : goal.returns-then-not-is_failed
unfolding live
returns-then-not-is_failed c = rw (← c.is_failed.ensures, c.if-not-is_failed.true, c.is_failed-then-not-is_failed.ensures)

pub returns-else-not-is_failed : goal.returns-else-not-is_failed
unfolding live
returns-else-not-is_failed c = rw (← c.is_failed.ensures, c.if-not-is_failed.false)
