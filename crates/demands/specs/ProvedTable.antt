-- The proved table: the starred rows of the numbers worked by hand (rules, section 10), as one claim.
use Rattle.std.specs.Prelude.{ℕ, ◌-◌, ◌≡◌, ◌↔◌, List, [], ◌∷◌, replicate}
use Prim.Native.Char.{code}
use Prim.Native.String.{String, [] as empty, ◌∷◌ as ◌then◌}
use Rattle.lists.specs.Lists.{filled}
use Rattle.refusals.specs.Refusals.{none, refused_at, with_earlier}
use Rattle.room.specs.declared.Shape.{Shape}
use Rattle.room.specs.Shapes.{full_room}
use Rattle.room.specs.Answers.{a_number, some_digits, address_answer, digits_answer}
use Rattle.links.specs.Table.{marked}
use Rattle.path.specs.Routes.{switch_to}
use Rattle.path.specs.Answers.{a_writing, read_answer, reverse_answer}
use Rattle.build.specs.Sets.{set_of, array_in}
use Rattle.build.specs.Answers.{no_building, a_building, build_answer}
use Rattle.select.specs.Told.{Selection}
use Rattle.select.specs.Selection.{Selecting}
use Rattle.desk_line.specs.Answers.{desk_text}

-- an address of four digits, digit 3 written first, as it travels: digit 0 at place 0
abbrev pub digits : ℕ → ℕ → ℕ → ℕ → List ℕ
digits d3 d2 d1 d0 = d0 ∷ d1 ∷ d2 ∷ d3 ∷ []

-- a text by its characters' numbers, which are its bytes in ASCII
abbrev pub ascii : String → List ℕ
ascii empty = []
ascii (c then cs) = code c ∷ ascii cs

-- an array: path bytes, with zeros past them
abbrev pub array : List ℕ → List ℕ
array bs = filled 8 bs

-- array i of the routes built from a to d has these bytes, and so many hops by the reading rule
pub record Built (s : Shape) (a d i : ℕ) (bs : List ℕ) (hops : ℕ) : Type 0 where
  pub bytes : array_in i (build_answer s a d).routes ≡ array bs
  pub read : (read_answer s a d (array bs)).refusal ≡ none
  pub count : (read_answer s a d (array bs)).count - 1 ≡ hops

-- the failed-link table of the (4,1) room in which server 03 is dead
abbrev pub dead03 : List ℕ
dead03 = 0 ∷ 0 ∷ 0 ∷ 3 ∷ 0 ∷ 0 ∷ 0 ∷ 0 ∷ 0 ∷ 0 ∷ 0 ∷ 0 ∷ 0 ∷ 0 ∷ 0 ∷ 0 ∷ []

pub record ProvedTable : Type 0 where
  -- (8,3): 0001 is 1, 1011 is 521
  pub is_1 : address_answer (full_room 8 3) (digits 0 0 0 1) ≡ a_number 1
  pub of_1 : digits_answer (full_room 8 3) 1 ≡ some_digits (digits 0 0 0 1)
  pub is_521 : address_answer (full_room 8 3) (digits 1 0 1 1) ≡ a_number 521
  pub of_521 : digits_answer (full_room 8 3) 521 ≡ some_digits (digits 1 0 1 1)
  -- Figure 4, (8,3), 1 to 521: c141000000000000 2
  pub figure_4_1 : Built (full_room 8 3) 1 521 0 (0xc1 ∷ 0x41 ∷ []) 2
  -- 8141c18000000000 4
  pub figure_4_2 : Built (full_room 8 3) 1 521 1 (0x81 ∷ 0x41 ∷ 0xc1 ∷ 0x80 ∷ []) 4
  -- 41c1000000000000 2
  pub figure_4_3 : Built (full_room 8 3) 1 521 2 (0x41 ∷ 0xc1 ∷ []) 2
  -- 02c1410100000000 4
  pub figure_4_4 : Built (full_room 8 3) 1 521 3 (0x02 ∷ 0xc1 ∷ 0x41 ∷ 0x01 ∷ []) 4
  -- and no other route
  pub figure_4 : build_answer (full_room 8 3) 1 521
      ≡ a_building (set_of (array (0xc1 ∷ 0x41 ∷ []) ∷ array (0x81 ∷ 0x41 ∷ 0xc1 ∷ 0x80 ∷ []) ∷ array (0x41 ∷ 0xc1 ∷ []) ∷ array (0x02 ∷ 0xc1 ∷ 0x41 ∷ 0x01 ∷ []) ∷ []))
  -- and so the desk prints them
  pub printed : desk_text (ascii "8 3 1 521\n") ≡ ascii "c141000000000000 2\n8141c18000000000 4\n41c1000000000000 2\n02c1410100000000 4\n"
  -- reversing c1 41, the route from 1 to 521, gives 40 c0
  pub reversed : reverse_answer (full_room 8 3) 1 521 (array (0xc1 ∷ 0x41 ∷ [])) ≡ a_writing (array (0x40 ∷ 0xc0 ∷ []))
  -- (4,1): 03 is 3, 13 is 7
  pub is_3 : address_answer (full_room 4 1) (digits 0 0 0 3) ≡ a_number 3
  pub is_7 : address_answer (full_room 4 1) (digits 0 0 1 3) ≡ a_number 7
  -- 00 to 13: 41 03, then 03 41
  pub testbed : build_answer (full_room 4 1) 0 7 ≡ a_building (set_of (array (0x41 ∷ 0x03 ∷ []) ∷ array (0x03 ∷ 0x41 ∷ []) ∷ []))
  -- with server 03 dead, which has all its links marked: 41 03, then 01 42 03 41; selection answers that and nothing else
  pub all_marked : dead03 ≡ marked 3 1 (marked 3 0 (replicate 16 0))
  pub selected : (r : Selection)
      → Selecting (full_room 4 1) dead03 0 7 r ↔ (r ≡ record { refusal = none; routes = set_of (array (0x41 ∷ 0x03 ∷ []) ∷ array (0x01 ∷ 0x42 ∷ 0x03 ∷ 0x41 ∷ []) ∷ []) })
  -- (2,0), 1 to 0: the eight zero bytes, one hop
  pub zeros : Built (full_room 2 0) 1 0 0 [] 1
  pub only_zeros : build_answer (full_room 2 0) 1 0 ≡ a_building (set_of (replicate 8 0 ∷ []))
  -- 0 to 0: refusal 5
  pub same_ends : build_answer (full_room 2 0) 0 0 ≡ no_building 5
  -- (4,1), 00 to 03 with bytes 01 03: refusal 29 at the second hop, the switch of the first
  pub twice : read_answer (full_room 4 1) 0 3 (array (0x01 ∷ 0x03 ∷ [])) ≡ record { refusal = with_earlier 0 1 (refused_at 29 1 2); count = 0; servers = replicate 9 0 }
  pub same_switch : switch_to (full_room 4 1) 0 1 ≡ switch_to (full_room 4 1) 1 3
