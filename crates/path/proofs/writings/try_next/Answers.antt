-- `path::writings::try_next`: the level between the two servers, its switch, then 28, 29; or 23.
use mathlib.Core.Path.{refl}
use Rattle.path.proofs.WriteLaws.{next-refused, next-tried, adjacent_link, between-there}
use Rattle.path.proofs.writings.try_next.Goals as goal

pub switch_at-requires : goal.switch_at-requires
switch_at-requires c = adjacent_link _ _ _ c.requires _ (rw c.in-Ok-Some.field-0-is at c.in-Ok-Some.ensures) refl

pub returns-in-Ok-Some : goal.returns-in-Ok-Some
returns-in-Ok-Some c = next-tried _ _ _ c.requires _ (rw c.in-Ok-Some.field-0-is at c.in-Ok-Some.ensures) _ _ refl _ c.switch_at.ensures _ c.add_hop.ensures

pub returns-in-Ok-None : goal.returns-in-Ok-None
returns-in-Ok-None c = next-refused _ _ _ c.requires _ (rw c.in-Ok-None.field-0-is at c.in-Ok-None.ensures) _ _ refl _ c.from.ensures

pub unreachable-requires : goal.unreachable-requires
unreachable-requires c = between-there _ _ _ c.requires _ c.in-Err.ensures
