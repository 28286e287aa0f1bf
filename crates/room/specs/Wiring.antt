-- Switches and their ports: how many switches a level has, and which server is at a port of a switch.
use Rattle.std.specs.Prelude.{ℕ, ◌<◌, ◌≤◌, List, [], ◌∷◌, ◌++◌, ◌&&◌, ltb, take, drop}
use Rattle.refusals.specs.Refusals.{◌or_else◌, ◌unless◌, answer}
use Rattle.room.specs.declared.Shape.{Shape}
use Rattle.room.specs.Told.{Number}
use Rattle.room.specs.Digits.{digits_of, address_of}
use Rattle.room.specs.Shapes.{bound, Valid}
use Rattle.room.specs.Addresses.{switches_at}
use Rattle.room.specs.Refusals.{level_refusal, level_numbers}
use Rattle.room.specs.Answers.{no_number, a_number}

-- a list with x put in at place l and the rest moved up
abbrev pub put_in : ℕ → ℕ → List ℕ → List ℕ
put_in l x ds = take l ds ++ (x ∷ drop l ds)

-- the server at port v of switch w of level l: its digit l is v, and with digit l struck out it is w
unfoldable pub server_at : Shape → ℕ → ℕ → ℕ → ℕ
server_at s l w v = address_of s.n (put_in l v (digits_of s.n s.k w))

-- switch w of level l has a port v
pub record Port (s : Shape) (l w v : ℕ) : Type 0 where
  pub valid : Valid s
  pub level : l ≤ s.k
  pub switch : w < switches_at s l
  pub port : v < bound s l

-- those of a level; 21 where the level has no such switch, or the switch no such port
unfoldable pub port_refusal : Shape → ℕ → ℕ → ℕ → ℕ
port_refusal s l w v = level_refusal s l or_else 21 unless (ltb w (switches_at s l) && ltb v (bound s l))

abbrev pub port_numbers : List ℕ
port_numbers = level_numbers ++ (21 ∷ [])

unfoldable pub switches_answer : Shape → ℕ → Number
switches_answer s l = answer (level_refusal s l) no_number (a_number (switches_at s l))

unfoldable pub server_at_answer : Shape → ℕ → ℕ → ℕ → Number
server_at_answer s l w v = answer (port_refusal s l w v) no_number (a_number (server_at s l w v))
