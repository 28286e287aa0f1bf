-- What the desk prints for an input (rule 9.2).
use Rattle.std.specs.Prelude.{ℕ, suc, List, map, cond, length}
use Rattle.lists.specs.Lists.{down_from}
use Rattle.refusals.specs.Refusals.{answer}
use Rattle.room.specs.declared.Shape.{Shape}
use Rattle.room.specs.Shapes.{full_room}
use Rattle.room.specs.Refusals.{ends_refusal}
use Rattle.build.specs.Built.{built_hops, built_bytes}
use Rattle.build.specs.Sets.{joined}
use Rattle.desk_line.specs.Numbers.{question_of}
use Rattle.desk_line.specs.Texts.{input_line, refused_line, route_line}

-- the line of the built route of slot i: its eight path bytes, and how many hops it has
unfoldable pub slot_line : Shape → ℕ → ℕ → ℕ → List ℕ
slot_line s a d i = route_line (built_bytes s i a d) (length (built_hops s i a d))

-- the lines of all of them, slots k down to 0
unfoldable pub routes_text : Shape → ℕ → ℕ → List ℕ
routes_text s a d = joined (map (λ i. slot_line s a d i) (down_from (suc s.k)))

-- the refusal of building, which in a full room is one of 1 to 5, or the built routes
unfoldable pub built_text : Shape → ℕ → ℕ → List ℕ
built_text s a d = answer (ends_refusal s a d) refused_line (routes_text s a d)

-- what is printed for an input of any length
unfoldable pub desk_text : List ℕ → List ℕ
desk_text input =
    let q = question_of input in
    cond q.taken (built_text (full_room q.n q.k) q.source q.destination) input_line
