-- What `tree` prints for an input, line by line (rule 13.7).
use Rattle.std.specs.Prelude.{ℕ, List, [], ◌∷◌, ◌++◌, reverse, cond, eqb, get_or}
use Rattle.lists.specs.Lists.{in_order}
use Rattle.refusals.specs.Refusals.{answer}
use Rattle.room.specs.declared.Shape.{Shape}
use Rattle.room.specs.Shapes.{shape_of, servers_of}
use Rattle.room.specs.Addresses.{digits}
use Rattle.room.specs.Refusals.{link_refusal}
use Rattle.trees.specs.Trees.{parent_of}
use Rattle.build.specs.Sets.{joined}
use Rattle.desk_line.specs.Lines.{newline, space}
use Rattle.desk_line.specs.Numbers.{TreeQuestion, tree_question_of}
use Rattle.desk_line.specs.Texts.{decimal, input_line, refused_line}

-- ---- a server

-- the byte between digits, and the byte in place of a parent that is none
abbrev pub point : ℕ
point = 46

abbrev pub dash : ℕ
dash = 45

-- digits in decimal with points between them
unfoldable pub pointed : List ℕ → List ℕ
pointed [] = []
pointed (d ∷ []) = decimal d
pointed (d ∷ e ∷ ds) = decimal d ++ (point ∷ pointed (e ∷ ds))

-- the number of server x, a space and its digits, digit k first
unfoldable pub server_words : Shape → ℕ → List ℕ
server_words s x = decimal x ++ (space ∷ pointed (reverse (digits s x)))

-- ---- a line

-- the words of the parent of server x in tree l of source a; the source has none
unfoldable pub parent_words : Shape → ℕ → ℕ → ℕ → List ℕ
parent_words s a l x = cond (eqb a x) (dash ∷ space ∷ dash ∷ []) (server_words s (parent_of s a l x))

-- the line of server x
unfoldable pub server_line : Shape → ℕ → ℕ → ℕ → List ℕ
server_line s a l x = server_words s x ++ (space ∷ parent_words s a l x ++ (newline ∷ []))

-- ---- the answer

-- the lines of a tree, or the one line of its refusal, which is that of the source's link at the tree's level
unfoldable pub lines_of : Shape → ℕ → ℕ → List (List ℕ)
lines_of s a l = answer (link_refusal s a l) (λ r. refused_line r ∷ []) (in_order (server_line s a l) (servers_of s))

-- the lines of the answer to a question
unfoldable pub tree_lines : TreeQuestion → List (List ℕ)
tree_lines q = cond q.taken (lines_of (shape_of q.n q.k q.m) q.source q.tree) (input_line ∷ [])

-- the line at place i, the first being at 0; nothing past the last
unfoldable pub tree_line : TreeQuestion → ℕ → List ℕ
tree_line q i = get_or (tree_lines q) i []

-- all that is printed for an input
unfoldable pub tree_text : List ℕ → List ℕ
tree_text input = joined (tree_lines (tree_question_of input))
