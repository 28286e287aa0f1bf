-- `room::shapes::power`: out of the limits, and the product where n and the level are in them.
use Rattle.room.proofs.PowerLaws.{no_ports, past-ports, past-levels, power-made}
use Rattle.room.proofs.shapes.power.Goals as goal

pub returns-then-n-lt1 : goal.returns-then-n-lt1
returns-then-n-lt1 c = search no_ports

pub returns-then-n-gt-MOST_PORTS : goal.returns-then-n-gt-MOST_PORTS
returns-then-n-gt-MOST_PORTS c = search past-ports

pub returns-then-level-gt-MOST_LEVEL : goal.returns-then-level-gt-MOST_LEVEL
returns-then-level-gt-MOST_LEVEL c = search past-levels

pub returns : goal.returns
returns c = search power-made
