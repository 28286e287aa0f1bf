-- `summary::changes::change`: the switch of the link counts as many as before, one more, or one less.
use Rattle.std.proofs.Common.{sym}
use Rattle.room.proofs.RefusalLaws.{valid-none}
use Rattle.summary.proofs.EntryLaws.{switch-told, order-switch, found_inside}
use Rattle.summary.proofs.ChangeLaws.{made_table, same_summary, raise_fits, raise_made, lower-fits, lower-made}
use Rattle.summary.proofs.changes.change.Goals as goal

pub unwrap-switch-requires : goal.unwrap-switch-requires
unwrap-switch-requires c = search switch-told

pub of-requires : goal.of-requires
of-requires c = sym (valid-none c.requires.link.server.valid)

pub place_of-place-requires : goal.place_of-place-requires
place_of-place-requires c = search order-switch

pub returns-then-was-is : goal.returns-then-was-is
returns-then-was-is c = (search made_table, search same_summary)

pub bounds-summary-place : goal.bounds-summary-place
bounds-summary-place c = search found_inside

pub overflow_add-entry : goal.overflow_add-entry
overflow_add-entry c = search raise_fits

pub returns-then-is : goal.returns-then-is
returns-then-is c = (search made_table, search raise_made)

pub overflow_sub-entry : goal.overflow_sub-entry
overflow_sub-entry c = search lower-fits

pub returns-else-is : goal.returns-else-is
returns-else-is c = (search made_table, search lower-made)
