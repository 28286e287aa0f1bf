-- `summary::entries::Entries::is_counted`: the entry of the switch of a link.
use Rattle.std.proofs.Common.{sym}
use Rattle.room.proofs.RefusalLaws.{valid-none}
use Rattle.summary.proofs.EntryLaws.{switch-told, found-switch, order-switch, found_inside, found-counted}
use Rattle.summary.proofs.entries.Entries.is_counted.Goals as goal

pub unwrap-switch-requires : goal.unwrap-switch-requires
unwrap-switch-requires c = search switch-told

pub of-requires : goal.of-requires
of-requires c = sym (valid-none c.requires.server.valid)

pub place_of-place-requires : goal.place_of-place-requires
place_of-place-requires c = search order-switch

pub bounds-self-place : goal.bounds-self-place
bounds-self-place c = search found_inside

pub count_at-requires : goal.count_at-requires
count_at-requires c = search found-switch

pub returns : goal.returns
returns c = search found-counted
