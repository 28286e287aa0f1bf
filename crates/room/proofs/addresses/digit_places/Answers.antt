-- `room::addresses::digit_places`: n is not 0, and the places are the digits.
use Rattle.room.proofs.RefusalLaws.{server_of}
use Rattle.room.proofs.RoomLaws.{digits-four}
use Rattle.room.proofs.addresses.digit_places.Goals as goal

pub returns : goal.returns
returns c = digits-four (server_of _ _ c.requires)
