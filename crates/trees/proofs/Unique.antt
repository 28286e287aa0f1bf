-- Each public function's contract determines its answer, and the numbers left in the lent buffer: whatever meets it on some arguments is the
-- one answer to them.
use mathlib.Core.Path.{◌∙◌, sym}
use Rattle.refusals.specs.Determined.{Determined, Leaves}
use Rattle.room.proofs.AnswerLaws.{number-same}
use Rattle.trees.proofs.parents.parent_of.Reads as parent_of
use Rattle.trees.proofs.parents.parent_of.Kinds as parent_of_kinds
use Rattle.trees.proofs.whole.write_tree.Reads as write_tree
use Rattle.trees.proofs.whole.write_tree.Kinds as write_tree_kinds

pub parent_of-unique : Determined 0 parent_of_kinds.ps parent_of_kinds.r parent_of.Post
parent_of-unique κs a x y s t e f = number-same x y (e ∙ sym f)

pub write-tree-unique : Determined 1 write_tree_kinds.ps write_tree_kinds.r write_tree.Post
write-tree-unique κs a x y s t e f = number-same x y (e.0 ∙ sym f.0)

-- the numbers are its fourth parameter
pub write_tree_leaves : Leaves 1 write_tree_kinds.ps write_tree_kinds.r write_tree.Post (λ κs s. s.1.1.1.0.now)
write_tree_leaves κs a x y s t e f = e.1 ∙ sym f.1
