-- `room::tests::is_room`: the number of servers decides, or a test before it has failed.
use Rattle.room.proofs.RefusalLaws.{ports_fail, levels_fail, some_fail, most_fail, room_counted}
use Rattle.room.proofs.tests.is_room.Goals as goal

pub returns-then-shape : goal.returns-then-shape
returns-then-shape c = search room_counted

pub returns-else-shape : goal.returns-else-shape
returns-else-shape c = search most_fail

pub returns-else-shape-ge-LEAST_FILL : goal.returns-else-shape-ge-LEAST_FILL
returns-else-shape-ge-LEAST_FILL c = search some_fail

pub returns-else-shape-le-MOST_LEVEL : goal.returns-else-shape-le-MOST_LEVEL
returns-else-shape-le-MOST_LEVEL c = search levels_fail

pub returns-else-shape-le-MOST_PORTS : goal.returns-else-shape-le-MOST_PORTS
returns-else-shape-le-MOST_PORTS c = search ports_fail
