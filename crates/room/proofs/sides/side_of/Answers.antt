-- `room::sides::side_of`: no power and no servers, or some power: n is then not 0.
use Rattle.room.proofs.SideLaws.{side_none, side_ports, side_made}
use Rattle.room.proofs.sides.side_of.Goals as goal

pub returns-then-stride-eq0 : goal.returns-then-stride-eq0
returns-then-stride-eq0 c = search side_none

pub nonzero_rem-own : goal.nonzero_rem-own
nonzero_rem-own c = search side_ports

pub returns : goal.returns
returns c = search side_made
