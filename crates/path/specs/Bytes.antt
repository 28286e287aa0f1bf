-- One path byte by itself: made of a level and a value, and taken apart.
use Rattle.std.specs.Prelude.{ℕ, ◌≤◌, ◌<◌, List, [], ◌∷◌, ◌++◌, ltb, leb}
use Rattle.refusals.specs.Refusals.{Refusal}
use Rattle.refusals.specs.Refusals.{none, plain, refused_at, ◌or_else◌, ◌unless◌, answer}
use Rattle.room.specs.declared.Shape.{Shape}
use Rattle.room.specs.Told.{Number}
use Rattle.room.specs.Shapes.{bound, Valid}
use Rattle.room.specs.Refusals.{shape_refusal, level_refusal, level_numbers}
use Rattle.room.specs.Answers.{no_number, a_number}
use Rattle.path.specs.declared.Parts.{Parts as Taken}
use Rattle.path.specs.Told.{Parts}
use Rattle.path.specs.Routes.{byte_of, level_of, value_of}

-- a level and a value that some server has there: 1, 2, 26, 3, 20, 21
unfoldable pub made_refusal : Shape → ℕ → ℕ → ℕ
made_refusal s l v = level_refusal s l or_else 21 unless ltb v (bound s l)

abbrev pub made_numbers : List ℕ
made_numbers = level_numbers ++ (21 ∷ [])

-- a level and a value of the room
pub record Made (s : Shape) (l v : ℕ) : Type 0 where
  pub valid : Valid s
  pub level : l ≤ s.k
  pub value : v < bound s l

unfoldable pub byte_answer : Shape → ℕ → ℕ → Number
byte_answer s l v = answer (made_refusal s l v) no_number (a_number (byte_of l v))

-- why a number is no path byte of the room: 8, 9
unfoldable pub parts_refusal : Shape → ℕ → ℕ
parts_refusal s b = 8 unless leb (level_of b) s.k or_else 9 unless ltb (value_of b) (bound s (level_of b))

abbrev pub parts_numbers : List ℕ
parts_numbers = 8 ∷ 9 ∷ []

abbrev pub no_parts : Refusal → Parts
no_parts r = record { refusal = r; level = 0; value = 0 }

abbrev pub some_parts : ℕ → ℕ → Parts
some_parts l v = record { refusal = none; level = l; value = v }

-- what is told of the parts
abbrev pub the_parts : Taken → Parts
the_parts p = some_parts p.level p.value

-- its level and its value: 1, 2, 26, 3; then 8 and 9, at hop 1 of route 1
unfoldable pub parts_answer : Shape → ℕ → Parts
parts_answer s b =
    answer (shape_refusal s) (λ r. no_parts (plain r)) (answer (parts_refusal s b) (λ r. no_parts (refused_at r 1 1)) (some_parts (level_of b) (value_of b)))
