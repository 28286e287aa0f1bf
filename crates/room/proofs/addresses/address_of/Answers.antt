-- `room::addresses::address_of`: refused places, and the address of those that are not.
use Rattle.std.proofs.Common.{rules}
use Rattle.refusals.proofs.ReasonLaws.{tells-passed, tells-given}
use mathlib.Core.Path.{sym}
use Rattle.room.proofs.RefusalLaws.{places_of}
use Rattle.room.proofs.RoomLaws.{places_below}
use Rattle.room.specs.Answers.{no_number, a_number, address_answer}
use Rattle.room.proofs.addresses.address_of.Goals as goal

pub returns-in_err-places_refusal : goal.returns-in_err-places_refusal
unfolding address_answer
returns-in_err-places_refusal c = search (rules, tells-passed no_number a_number)

pub number_of-requires : goal.number_of-requires
number_of-requires c = let p = places_of _ _ (sym c.in_ok-places_refusal.ensures) in (p.valid.ports, places_below p)

pub returns : goal.returns
unfolding address_answer
returns c = search (rules, tells-given no_number a_number)
