-- The first line of an input, and the parts of a text before and after a byte. Texts are lists of bytes.
use Rattle.std.specs.Prelude.{ℕ, suc, List, [], ◌∷◌, cond, eqb}

-- the byte that ends a line, and the byte between numbers
abbrev pub newline : ℕ
newline = 10

abbrev pub space : ℕ
space = 32

-- the part before the first byte c, or all of it
unfoldable pub before : ℕ → List ℕ → List ℕ
before c [] = []
before c (b ∷ bs) = cond (eqb b c) [] (b ∷ before c bs)

-- the part after the first byte c, or nothing
unfoldable pub after : ℕ → List ℕ → List ℕ
after c [] = []
after c (b ∷ bs) = cond (eqb b c) bs (after c bs)

-- how many bytes the first line has: its newline counts, and may be missing
unfoldable pub line_size : List ℕ → ℕ
line_size [] = 0
line_size (b ∷ bs) = cond (eqb b newline) 1 (suc (line_size bs))
