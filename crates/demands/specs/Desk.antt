-- What the programs `desk` and `tree` print for an input of any bytes: what the library answers, where the first line asks for it, and
-- "input" else.
use Rattle.std.specs.Prelude.{ℕ, suc, ◌-◌, ◌≤◌, ◌<◌, ◌≡◌, ◌≢◌, ◌⊎◌, true, false, cond, List, [], ◌∷◌, ◌++◌, map, reverse, ltb, eqb, length, take}
use Rattle.lists.specs.Lists.{down_from, in_order}
use Rattle.room.specs.declared.Shape.{Shape}
use Rattle.room.specs.Told.{Number}
use Rattle.room.specs.Shapes.{shape_of, full_room}
use Rattle.room.specs.Answers.{digits_answer}
use Rattle.trees.specs.Answers.{parent_answer, tree_answer}
use Rattle.path.specs.Answers.{read_answer}
use Rattle.build.specs.declared.RouteSet.{RouteSet}
use Rattle.build.specs.Sets.{array_in, joined}
use Rattle.build.specs.Answers.{build_answer}
use Rattle.desk_line.specs.Lines.{newline, space}
use Rattle.desk_line.specs.Numbers.{TreeQuestion, value_from, tree_question_of}
use Rattle.desk_line.specs.Texts.{decimal, input_line, refused_line, route_line}
use Rattle.desk_line.specs.Answers.{desk_text}
use Rattle.desk_line.specs.TreeLines.{dash, pointed, tree_line, tree_text}

-- ---- a line that asks

-- every byte of a text is so
abbrev pub Each : (ℕ → Type 0) → List ℕ → Type 0
Each P [] = Unit {0}
Each P (b ∷ bs) = P b × Each P bs

-- a text is a number in decimal: one digit or more, and at most 65,535
pub record Decimal (text : List ℕ) (v : ℕ) : Type 0 where
  pub some : 0 < length text
  pub digits : Each (λ b. (48 ≤ b) × (b ≤ 57)) text
  pub value : value_from 0 text ≡ v
  pub small : v ≤ 65535

-- a line is four numbers with single spaces
pub record FourNumbers (line : List ℕ) (n k a d : ℕ) : Type 0 where
  pub first : List ℕ
  pub second : List ℕ
  pub third : List ℕ
  pub fourth : List ℕ
  pub whole : line ≡ first ++ (space ∷ (second ++ (space ∷ (third ++ (space ∷ fourth)))))
  pub n_written : Decimal first n
  pub k_written : Decimal second k
  pub source_written : Decimal third a
  pub destination_written : Decimal fourth d

-- a line is these numbers, however many, with single spaces
abbrev pub Spaced : List ℕ → List ℕ → Type 0
Spaced line [] = ⊥
Spaced line (v ∷ []) = Decimal line v
Spaced line (v ∷ w ∷ vs) =
    (first : List ℕ) × (rest : List ℕ) × (line ≡ first ++ (space ∷ rest)) × Decimal first v × Spaced rest (w ∷ vs)

-- the first line of an input, without its newline, which may be missing at the end: at most 64 bytes with it
pub record FirstLine (input line : List ℕ) : Type 0 where
  pub one : Each (λ b. b ≢ newline) line
  pub whole : ((input ≡ line) × (length line ≤ 64)) ⊎ ((rest : List ℕ) × (input ≡ line ++ (newline ∷ rest)) × (suc (length line) ≤ 64))

-- an input asks for the routes from a to d in the full room of n and k
pub record Asks (input : List ℕ) (n k a d : ℕ) : Type 0 where
  pub line : List ℕ
  pub first : FirstLine input line
  pub numbers : FourNumbers line n k a d

-- an input asks with these numbers
pub record AsksWith (input vs : List ℕ) : Type 0 where
  pub line : List ℕ
  pub first : FirstLine input line
  pub numbers : Spaced line vs

-- ---- what is printed

-- a line for each of the routes of slots k down to 0: its array and the hops that reading it finds
abbrev pub route_lines : Shape → ℕ → ℕ → RouteSet → List ℕ
route_lines s a d r =
    joined (map (λ i. route_line (array_in (s.k - i) r) ((read_answer s a d (array_in (s.k - i) r)).count - 1)) (down_from (suc s.k)))

-- what is printed for each input
pub record DeskPrints : Type 0 where
  -- an input that asks is answered by the built routes
  pub routes : (input : List ℕ) (n k a d : ℕ) → Asks input n k a d → (let x = build_answer (full_room n k) a d in
      x.refusal.number ≡ 0 → desk_text input ≡ route_lines (full_room n k) a d x.routes)
  -- or by the number that building refuses with
  pub refused : (input : List ℕ) (n k a d : ℕ) → Asks input n k a d → (let x = build_answer (full_room n k) a d in
      x.refusal.number ≢ 0 → desk_text input ≡ refused_line x.refusal.number)
  -- which is never 26: the desk's rooms are full
  pub never_26 : (input : List ℕ) → desk_text input ≢ refused_line 26
  -- every other input by "input"
  pub otherwise : (input : List ℕ) → ((n k a d : ℕ) → Asks input n k a d → ⊥) → desk_text input ≡ input_line

-- ---- what `tree` prints

-- server x, and its digits as they are answered, the highest first
abbrev pub server_shown : Shape → ℕ → List ℕ
server_shown s x = decimal x ++ (space ∷ pointed (reverse (take (suc s.k) (digits_answer s x).places)))

-- the parent as it is answered, and two dashes where the answer is that the server is the source
abbrev pub parent_shown : Shape → Number → List ℕ
parent_shown s p = cond (eqb p.refusal.number 5) (dash ∷ space ∷ dash ∷ []) (server_shown s p.value)

-- the line of server x in tree l of source a
abbrev pub line_shown : Shape → ℕ → ℕ → ℕ → List ℕ
line_shown s a l x = server_shown s x ++ (space ∷ parent_shown s (parent_answer s a l x) ++ (newline ∷ []))

-- the question of five numbers
abbrev pub question : ℕ → ℕ → ℕ → ℕ → ℕ → TreeQuestion
question n k m a l = record { taken = true; n = n; k = k; m = m; source = a; tree = l }

-- the question of an input, and the line at each place of the answer to a question
pub record TreeAnswers : Type 0 where
  pub asked : (input : List ℕ) (n k m a l : ℕ) → AsksWith input (n ∷ k ∷ m ∷ a ∷ l ∷ [])
      → tree_question_of input ≡ question n k m a l
  pub not-asked : (input : List ℕ) → ((n k m a l : ℕ) → AsksWith input (n ∷ k ∷ m ∷ a ∷ l ∷ []) → ⊥)
      → tree_question_of input ≡ record { taken = false; n = 0; k = 0; m = 0; source = 0; tree = 0 }
  -- the line of server i, and nothing past the last server
  pub line : (n k m a l i : ℕ) → (let s = shape_of n k m in (tree_answer s a l).refusal.number ≡ 0
      → tree_line (question n k m a l) i ≡ cond (ltb i (tree_answer s a l).value) (line_shown s a l i) [])
  -- a refusal, or "input", is a line at place 0, and nothing past it
  pub refused : (n k m a l i : ℕ) → (let x = tree_answer (shape_of n k m) a l in x.refusal.number ≢ 0
      → tree_line (question n k m a l) i ≡ cond (eqb i 0) (refused_line x.refusal.number) [])
  pub not_taken : (q : TreeQuestion) (i : ℕ) → q.taken ≡ false → tree_line q i ≡ cond (eqb i 0) input_line []

-- what is printed for each input
pub record TreePrints : Type 0 where
  -- an input that asks is answered by a line for each server, in the order of their numbers
  pub lines : (input : List ℕ) (n k m a l : ℕ) → AsksWith input (n ∷ k ∷ m ∷ a ∷ l ∷ []) → (let s = shape_of n k m in
      (tree_answer s a l).refusal.number ≡ 0 → tree_text input ≡ joined (in_order (line_shown s a l) (tree_answer s a l).value))
  -- or by the number that the whole tree is refused with
  pub refused : (input : List ℕ) (n k m a l : ℕ) → AsksWith input (n ∷ k ∷ m ∷ a ∷ l ∷ []) → (let x = tree_answer (shape_of n k m) a l in
      x.refusal.number ≢ 0 → tree_text input ≡ refused_line x.refusal.number)
  -- every other input by "input"
  pub otherwise : (input : List ℕ) → ((n k m a l : ℕ) → AsksWith input (n ∷ k ∷ m ∷ a ∷ l ∷ []) → ⊥) → tree_text input ≡ input_line
  -- the program asks for the lines at 4,096 places and stops at the first that is empty: no line stands behind it, and so it prints them all
  pub all : (input : List ℕ) → tree_text input ≡ joined (in_order (tree_line (tree_question_of input)) 4096)
  pub stops : (input : List ℕ) (i j : ℕ) → i ≤ j → (let q = tree_question_of input in tree_line q i ≡ [] → tree_line q j ≡ [])
