-- The servers at a switch, as a program computes them with no test.
use Rattle.std.specs.Prelude.{ℕ, ◌+◌, ◌-◌, ◌*◌, ◌/◌, ◌%◌, cond, ◌||◌, leb, eqb}
use Rattle.room.specs.declared.Shape.{Shape}
use Rattle.room.specs.declared.Side.{Side}
use Rattle.room.specs.Shapes.{bound, power_of}

abbrev pub no_side : Side
no_side = record { first = 0; stride = 0; count = 0 }

-- p is the power of n that the level has: the server with its digit there taken off, and on by p for each value
abbrev pub side_by : Shape → ℕ → ℕ → ℕ → Side
side_by s a l p = record { first = a - a / p % s.n * p; stride = p; count = bound s l }

-- the servers at the switch of server a at level l; zeros where there is no power
unfoldable pub side_of : Shape → ℕ → ℕ → Side
side_of s a l =
    cond (eqb (power_of s.n l) 0) no_side (side_by s a l (power_of s.n l))

-- the same of switch w of level l: its number with a digit 0 put in at the level
abbrev pub side_from : Shape → ℕ → ℕ → ℕ → Side
side_from s l w p = record { first = w % p + p * s.n * (w / p); stride = p; count = bound s l }

-- zeros where there is no power, or no room has a switch of that number
unfoldable pub side_at : Shape → ℕ → ℕ → Side
side_at s l w =
    cond (eqb (power_of s.n l) 0 || leb 4096 w) no_side (side_from s l w (power_of s.n l))
