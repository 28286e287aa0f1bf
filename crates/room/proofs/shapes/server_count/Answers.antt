-- `room::shapes::server_count`: no number where m is above n, and the product that fits.
use Rattle.std.proofs.Common.{rules}
use Rattle.room.proofs.PowerLaws.{count_none, count_fits, count-made}
use Rattle.room.proofs.shapes.server_count.Goals as goal

pub returns-then-shape : goal.returns-then-shape
returns-then-shape c = search count_none

pub overflow_mul-result : goal.overflow_mul-result
overflow_mul-result c = search count_fits

pub returns : goal.returns
returns c = search count-made
