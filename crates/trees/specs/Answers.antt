-- What asking for a parent and for a whole tree answers, and the numbers that a whole tree leaves (rules 13.1, 13.5 and 8.4). On a refusal
-- all but the refusal is zero, and a lent buffer keeps its numbers.
use Rattle.std.specs.Prelude.{ℕ, List, [], ◌∷◌, ◌++◌, not, cond, leb, eqb}
use Rattle.lists.specs.Lists.{filled, in_order}
use Rattle.refusals.specs.Refusals.{◌or_else◌, ◌unless◌, answer}
use Rattle.room.specs.declared.Shape.{Shape}
use Rattle.room.specs.Told.{Number}
use Rattle.room.specs.Shapes.{servers_of}
use Rattle.room.specs.Refusals.{server_numbers, pair_refusal, link_refusal}
use Rattle.room.specs.Answers.{no_number, a_number}
use Rattle.trees.specs.Trees.{parent_of}

-- ---- a parent: of source a, tree l and server x

-- those of two servers, 20 where the room has no such tree, and then 5 where the server is the source
unfoldable pub parent_refusal : Shape → ℕ → ℕ → ℕ → ℕ
parent_refusal s a l x =
    pair_refusal s a x
    or_else 20 unless leb l s.k
    or_else 5 unless not (eqb a x)

-- the numbers of this chain
abbrev pub parent_numbers : List ℕ
parent_numbers = server_numbers ++ (20 ∷ 5 ∷ [])

-- the parent's address
unfoldable pub parent_answer : Shape → ℕ → ℕ → ℕ → Number
parent_answer s a l x = answer (parent_refusal s a l x) no_number (a_number (parent_of s a l x))

-- ---- a whole tree, refused as the link of source a at level l is

-- what stands at the source, which has no parent
abbrev pub no_parent : ℕ
no_parent = 4294967295

-- the number that stands for server x
unfoldable pub number_at : Shape → ℕ → ℕ → ℕ → ℕ
number_at s a l x = cond (eqb a x) no_parent (parent_of s a l x)

-- the 4,096 numbers of a tree: one for each server, and zeros past them
unfoldable pub tree_of : Shape → ℕ → ℕ → List ℕ
tree_of s a l = filled 4096 (in_order (number_at s a l) (servers_of s))

-- the answer is how many servers the room has
unfoldable pub tree_answer : Shape → ℕ → ℕ → Number
tree_answer s a l = answer (link_refusal s a l) no_number (a_number (servers_of s))

-- and what the lent numbers ps are after it
unfoldable pub tree_left : Shape → ℕ → ℕ → List ℕ → List ℕ
tree_left s a l ps = answer (link_refusal s a l) (λ r. ps) (tree_of s a l)
