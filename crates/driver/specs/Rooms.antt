-- A room as a driver in C holds it: one number.
use Rattle.std.specs.Prelude.{ℕ, ◌+◌, ◌*◌, ◌/◌, ◌%◌, cond, leb}
use Rattle.room.specs.declared.Shape.{Shape}
use Rattle.room.specs.Shapes.{shape_of}
use Rattle.driver.specs.declared.Room.{Room}

-- a number, or 255 where it is more
unfoldable pub held : ℕ → ℕ
held x = cond (leb x 255) x 255

-- the room of three numbers: n in the lowest byte, k in the next, m above it
unfoldable pub room_of : ℕ → ℕ → ℕ → Room
room_of n k m = record { number = held n + (256 * held k + 65536 * held m) }

-- the shape of a room, whatever its number
unfoldable pub shape_in : Room → Shape
shape_in r = shape_of (r.number % 256) (r.number / 256 % 256) (r.number / 65536)
