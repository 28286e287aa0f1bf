-- `trees::whole::write_tree`: a refused link, and the tree of one that is not; the digits of the source are then not refused.
use mathlib.Core.Path.{refl, sym}
use Rattle.refusals.proofs.ReasonLaws.{reason-some, tells-passed}
use Rattle.room.specs.Answers.{no_number, a_number}
use Rattle.trees.specs.Answers.{tree_answer}
use Rattle.trees.proofs.WholeLaws.{tree_keeps, root-there, root-digits, tree-given, tree-written}
use Rattle.trees.proofs.whole.write_tree.Goals as goal

pub returns-in_err-link_refusal : goal.returns-in_err-link_refusal
unfolding tree_answer
returns-in_err-link_refusal c = let e = c.in_err-link_refusal.ensures in (tells-passed no_number a_number _ _ c.from_residual.ensures.1 _ _ e, tree_keeps _ _ _ _ e (reason-some _) _)

pub returns-in_err-from : goal.returns-in_err-from
returns-in_err-from c = absurd (root-there _ _ _ c.in_ok-link_refusal.ensures _ c.in_err-from.ensures)

pub write_numbers-requires : goal.write_numbers-requires
write_numbers-requires c = let e = c.in_ok-link_refusal.ensures in (sym e, root-digits _ _ _ e _ c.in_ok-from.ensures, refl)

pub returns : goal.returns
returns c = let e = c.in_ok-link_refusal.ensures in (tree-given _ _ _ e _ c.server_count.ensures, tree-written _ _ _ e _ _ c.write_numbers.ensures)
