-- The failed-link table: one byte for each server, whose bit l says that the server's link at level l is failed.
use Rattle.std.specs.Prelude.{ℕ, suc, ◌+◌, ◌-◌, ◌/◌, ◌%◌, ◌^◌, ◌≤◌, ◌≡◌, List, [], ◌∷◌, ◌++◌, Bool, true, false, not, cond, ◌&&◌, ltb, eqb, length, get_or, set}
use Rattle.refusals.specs.Refusals.{◌or_else◌, ◌unless◌}
use Rattle.room.specs.declared.Shape.{Shape}
use Rattle.room.specs.Shapes.{servers_of}
use Rattle.room.specs.Refusals.{shape_refusal, shape_numbers, server_refusal, server_numbers, link_refusal, link_numbers, ends_refusal, ends_numbers}

-- whether bit l of a byte is set
unfoldable pub bit : ℕ → ℕ → Bool
bit l x = eqb (x / 2 ^ l % 2) 1

-- whether the link of server a at level l is failed (rule 2.1)
unfoldable pub failed : List ℕ → ℕ → ℕ → Bool
failed t a l = bit l (get_or t a 0)

-- a hop at level l from server a to server b is live: neither of its two links is failed (rule 2.3)
unfoldable pub live : List ℕ → ℕ → ℕ → ℕ → Bool
live t l a b = not (failed t a l) && not (failed t b l)

-- ---- one link changed

-- a byte with bit l set, and with bit l reset
unfoldable pub with_bit : Bool → ℕ → ℕ → ℕ
with_bit true l x = cond (bit l x) x (x + 2 ^ l)
with_bit false l x = cond (bit l x) (x - 2 ^ l) x

-- the table with the link of server a at level l failed, or not, and no other link changed (rule 2.2)
unfoldable pub changed : Bool → ℕ → ℕ → List ℕ → List ℕ
changed b a l t = set t a (with_bit b l (get_or t a 0))

abbrev pub marked : ℕ → ℕ → List ℕ → List ℕ
marked a l t = changed true a l t

-- the same with no test: past the end of a table there is no byte, and a byte has no bit of level 8 or more
unfoldable pub changed_in : Bool → ℕ → ℕ → List ℕ → List ℕ
changed_in b a l t = cond (ltb l 8) (changed b a l t) t

-- ---- a whole table

-- whether a byte has no bit above k set
unfoldable pub fits_levels : ℕ → ℕ → Bool
fits_levels k x = ltb x (2 ^ suc k)

-- whether none has
unfoldable pub bits_fit : ℕ → List ℕ → Bool
bits_fit k [] = true
bits_fit k (x ∷ xs) = fits_levels k x && bits_fit k xs

-- t is a failed-link table of the room
pub record TableOf (s : Shape) (t : List ℕ) : Type 0 where
  pub long : length t ≡ servers_of s
  pub fits : (a : ℕ) → fits_levels s.k (get_or t a 0) ≡ true

-- a dead server has all its links marked (rule 2.3)
pub record Dead (s : Shape) (t : List ℕ) (a : ℕ) : Type 0 where
  pub all : (l : ℕ) → l ≤ s.k → failed t a l ≡ true

-- ---- refusals

-- one byte for each server, and no bit above k (rule 8.2)
unfoldable pub table_refusal : Shape → List ℕ → ℕ
table_refusal s t = 6 unless (eqb (length t) (servers_of s) && bits_fit s.k t)

abbrev pub table_numbers : List ℕ
table_numbers = 6 ∷ []

-- a room's table
unfoldable pub room_table_refusal : Shape → List ℕ → ℕ
room_table_refusal s t = shape_refusal s or_else table_refusal s t

abbrev pub room_table_numbers : List ℕ
room_table_numbers = shape_numbers ++ table_numbers

-- a room with its ends and its table
unfoldable pub room_refusal : Shape → List ℕ → ℕ → ℕ → ℕ
room_refusal s t a d = ends_refusal s a d or_else table_refusal s t

abbrev pub room_numbers : List ℕ
room_numbers = ends_numbers ++ table_numbers

-- one link of a table
unfoldable pub table_link_refusal : Shape → List ℕ → ℕ → ℕ → ℕ
table_link_refusal s t a l = link_refusal s a l or_else table_refusal s t

abbrev pub table_link_numbers : List ℕ
table_link_numbers = link_numbers ++ table_numbers

-- one server of a table
unfoldable pub table_server_refusal : Shape → List ℕ → ℕ → ℕ
table_server_refusal s t a = server_refusal s a or_else table_refusal s t

abbrev pub table_server_numbers : List ℕ
table_server_numbers = server_numbers ++ table_numbers
