-- `links::changes::put`: the byte read, changed and stored; above level 7, or past the table's end, nothing.
use mathlib.Core.Logic.{⊎_elim}
use Rattle.links.proofs.LinkLaws.{change-past, change-above, change_stored}
use Rattle.links.proofs.changes.put.Goals as goal

pub returns-then-level-lt8 : goal.returns-then-level-lt8
returns-then-level-lt8 c = change_stored _ _ _ _ c.if-level-lt8.true _ c.put_bit.ensures

pub returns-else-server-table : goal.returns-else-server-table
returns-else-server-table c = ⊎_elim (λ h. change-above _ _ _ _ h.1) (change-past _ _ _ _) c.else-server-table.either
