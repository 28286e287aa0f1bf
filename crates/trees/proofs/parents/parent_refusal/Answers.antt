-- `trees::parents::parent_refusal`: the two servers, then the tree, then whether the server is the source.
use Rattle.std.proofs.Common.{rules}
use Rattle.refusals.proofs.ReasonLaws.{told-passed, reason-stops}
use Rattle.trees.specs.Answers.{parent_refusal}
use Rattle.trees.proofs.ParentLaws.{tree-missing, source-asked, nothing-refused}
use Rattle.trees.proofs.parents.parent_refusal.Goals as goal

pub returns-in_err-pair_refusal : goal.returns-in_err-pair_refusal
unfolding parent_refusal
returns-in_err-pair_refusal c = told-passed _ _ c.from_residual.ensures.1 _ _ (reason-stops _ _ _ c.in_err-pair_refusal.ensures)

pub returns-then-shape-tree : goal.returns-then-shape-tree
returns-then-shape-tree c = search (rules, tree-missing)

pub returns-then-source-server : goal.returns-then-source-server
returns-then-source-server c = search (rules, source-asked)

pub returns : goal.returns
returns c = search (rules, nothing-refused)
