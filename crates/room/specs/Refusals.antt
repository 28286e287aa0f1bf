-- Refusals of the room, by their numbers and in their order (rules 8.2 and 8.4), each chain with its numbers. 0 is no refusal.
use Rattle.std.specs.Prelude.{ℕ, suc, List, [], ◌∷◌, ◌++◌, Bool, true, not, cond, ◌&&◌, ltb, leb, eqb}
use Rattle.refusals.specs.Refusals.{◌or_else◌, ◌unless◌}
use Rattle.room.specs.declared.Shape.{Shape}
use Rattle.room.specs.Shapes.{servers_of, bound}

-- a shape
unfoldable pub shape_refusal : Shape → ℕ
shape_refusal s =
    1 unless (leb 2 s.n && leb s.n 64)
    or_else 2 unless leb s.k 3
    or_else 26 unless (leb 2 s.m && leb s.m s.n)
    or_else 3 unless leb (servers_of s) 4096

abbrev pub shape_numbers : List ℕ
shape_numbers = 1 ∷ 2 ∷ 26 ∷ 3 ∷ []

-- a level of a room
unfoldable pub level_refusal : Shape → ℕ → ℕ
level_refusal s l = shape_refusal s or_else 20 unless leb l s.k

abbrev pub level_numbers : List ℕ
level_numbers = shape_numbers ++ (20 ∷ [])

-- a server of a room, and two of them
unfoldable pub server_refusal : Shape → ℕ → ℕ
server_refusal s a = shape_refusal s or_else 4 unless ltb a (servers_of s)

unfoldable pub pair_refusal : Shape → ℕ → ℕ → ℕ
pair_refusal s a b = server_refusal s a or_else server_refusal s b

abbrev pub server_numbers : List ℕ
server_numbers = shape_numbers ++ (4 ∷ [])

-- source and destination
unfoldable pub ends_refusal : Shape → ℕ → ℕ → ℕ
ends_refusal s a d = pair_refusal s a d or_else 5 unless not (eqb a d)

abbrev pub ends_numbers : List ℕ
ends_numbers = server_numbers ++ (5 ∷ [])

-- a link of a server
unfoldable pub link_refusal : Shape → ℕ → ℕ → ℕ
link_refusal s a l = server_refusal s a or_else level_refusal s l

abbrev pub link_numbers : List ℕ
link_numbers = server_numbers ++ (20 ∷ [])

-- a value for a digit of a server
unfoldable pub value_refusal : Shape → ℕ → ℕ → ℕ → ℕ
value_refusal s a l v = link_refusal s a l or_else 21 unless ltb v (bound s l)

abbrev pub value_numbers : List ℕ
value_numbers = link_numbers ++ (21 ∷ [])

-- what place i of four holds is below this: above k only 0
unfoldable pub place_bound : Shape → ℕ → ℕ
place_bound s i = cond (leb i s.k) (bound s i) 1

-- whether each place holds what it may; the first is place i
unfoldable pub places_fit : Shape → ℕ → List ℕ → Bool
places_fit s i [] = true
places_fit s i (d ∷ ds) = ltb d (place_bound s i) && places_fit s (suc i) ds

-- the places of an address
unfoldable pub places_refusal : Shape → List ℕ → ℕ
places_refusal s ds = shape_refusal s or_else 21 unless places_fit s 0 ds

abbrev pub places_numbers : List ℕ
places_numbers = shape_numbers ++ (21 ∷ [])
