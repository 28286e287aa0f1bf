-- `room::sides::side_at`: no power or no such number, and no servers; else the products fit.
use Rattle.room.proofs.SideLaws.{number-none, number_past, block_fits, above-fits, number_fits, number-made}
use Rattle.room.proofs.sides.side_at.Goals as goal

pub returns-then-stride-eq0 : goal.returns-then-stride-eq0
returns-then-stride-eq0 c = search number-none

pub returns-then-number-ge-MOST_SERVERS : goal.returns-then-number-ge-MOST_SERVERS
returns-then-number-ge-MOST_SERVERS c = search number_past

pub overflow_mul-result : goal.overflow_mul-result
overflow_mul-result c = search block_fits

pub overflow_mul-result-2 : goal.overflow_mul-result-2
overflow_mul-result-2 c = search above-fits

pub overflow_add-result : goal.overflow_add-result
overflow_add-result c = search number_fits

pub returns : goal.returns
returns c = search number-made
