-- Texts: bytes in ASCII.
use Rattle.std.specs.Prelude.{ℕ, zero, suc, ◌+◌, ◌/◌, ◌%◌, List, [], ◌∷◌, ◌++◌, cond, ltb}
use Rattle.desk_line.specs.Lines.{newline, space}

-- ---- numbers

-- a number below 16 as a hex digit, in lower case
unfoldable pub hex_digit : ℕ → ℕ
hex_digit x = cond (ltb x 10) (48 + x) (87 + x)

-- bytes in hex, the high digit of each first
unfoldable pub hex_of : List ℕ → List ℕ
hex_of [] = []
hex_of (b ∷ bs) = hex_digit (b / 16) ∷ hex_digit (b % 16) ∷ hex_of bs

-- a number in decimal, in at most m digits
unfoldable pub decimal_in : ℕ → ℕ → List ℕ
decimal_in zero x = []
decimal_in (suc m) x = cond (ltb x 10) ((48 + x) ∷ []) (decimal_in m (x / 10) ++ ((48 + x % 10) ∷ []))

-- a number in decimal, with no zero before it
unfoldable pub decimal : ℕ → List ℕ
decimal x = decimal_in (suc x) x

-- ---- lines

-- "input" and a newline
abbrev pub input_line : List ℕ
input_line = 105 ∷ 110 ∷ 112 ∷ 117 ∷ 116 ∷ newline ∷ []

-- "refused ", a number and a newline
unfoldable pub refused_line : ℕ → List ℕ
refused_line r = 114 ∷ 101 ∷ 102 ∷ 117 ∷ 115 ∷ 101 ∷ 100 ∷ space ∷ decimal r ++ (newline ∷ [])

-- a route's bytes in hex, a space, its hops and a newline
unfoldable pub route_line : List ℕ → ℕ → List ℕ
route_line bytes hops = hex_of bytes ++ (space ∷ decimal hops ++ (newline ∷ []))
