-- `room::tests::first_refusal`: the first test that fails; where none does, the room has too many servers.
use Rattle.room.proofs.RefusalLaws.{few-ports, many_ports, many_levels, little_fill, much_fill, past-servers}
use Rattle.room.proofs.tests.first_refusal.Goals as goal

pub returns-then-shape-lt-FEWEST_PORTS : goal.returns-then-shape-lt-FEWEST_PORTS
returns-then-shape-lt-FEWEST_PORTS c = search few-ports

pub returns-then-shape-gt-MOST_PORTS : goal.returns-then-shape-gt-MOST_PORTS
returns-then-shape-gt-MOST_PORTS c = search many_ports

pub returns-then-shape-gt-MOST_LEVEL : goal.returns-then-shape-gt-MOST_LEVEL
returns-then-shape-gt-MOST_LEVEL c = search many_levels

pub returns-then-shape-lt-LEAST_FILL : goal.returns-then-shape-lt-LEAST_FILL
returns-then-shape-lt-LEAST_FILL c = search little_fill

pub returns-then-shape : goal.returns-then-shape
returns-then-shape c = search much_fill

pub returns : goal.returns
returns c = search past-servers
