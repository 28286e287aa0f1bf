-- `room::addresses::number_of`: the sums from the top are the number.
use Rattle.std.proofs.Common.{rules}
use Rattle.room.proofs.FourPlaces.{from-top}
use Rattle.room.proofs.addresses.number_of.Goals as goal

pub returns : goal.returns
returns c = search (rules, from-top)
