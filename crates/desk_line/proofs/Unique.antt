-- Each public function's contract determines its answer: whatever meets it on some arguments is the one answer to them.
use mathlib.Core.Path.{◌≡◌, ◌∙◌, refl, sym, ap}
use mathlib.Core.Bool.{false≢true}
use Rattle.std.specs.Prelude.{Option, None, Some}
use borrow.Fn.Kinds.{Dens, ended_of, res_t}
use denote.Triple.Clauses.{AtExit}
use contract.Lifetimes.{Lfts}
use Rattle.refusals.specs.Determined.{Determined}
use Rattle.desk_line.specs.declared.Question as asked
use Rattle.desk_line.specs.declared.TreeQuestion as tree_asked
use Rattle.desk_line.specs.Numbers.{Question, TreeQuestion, as_question, as_tree_question}
use Rattle.desk_line.proofs.numbers.question_of.Reads as question-of
use Rattle.desk_line.proofs.numbers.question_of.Kinds as question_of_kinds
use Rattle.desk_line.proofs.numbers.tree_question_of.Reads as tree-question-of
use Rattle.desk_line.proofs.numbers.tree_question_of.Kinds as tree_question_of_kinds
use Rattle.desk_line.proofs.answers.answer_line.Reads as answer_line
use Rattle.desk_line.proofs.answers.answer_line.Kinds as answer_line_kinds
use Rattle.desk_line.proofs.tree_lines.tree_line.Reads as tree-line
use Rattle.desk_line.proofs.tree_lines.tree_line.Kinds as tree_line_kinds
use Rattle.desk_line.proofs.texts.Text.shown.Reads as shown
use Rattle.desk_line.proofs.texts.Text.shown.Kinds as shown_kinds

-- two answers that stand for the same question are the same
same-question : (x y : Option asked.Question) → as_question x ≡ as_question y → x ≡ y
same-question None None e = refl
same-question None (Some q) e = absurd (false≢true (ap (λ (z : Question). z.taken) e))
same-question (Some p) None e = absurd (false≢true (ap (λ (z : Question). z.taken) (sym e)))
same-question (Some p) (Some q) e =
    ap (λ (z : Question). Some (record { n = z.n; k = z.k; source = z.source; destination = z.destination })) e

same-tree-question : (x y : Option tree_asked.TreeQuestion) → as_tree_question x ≡ as_tree_question y → x ≡ y
same-tree-question None None e = refl
same-tree-question None (Some q) e = absurd (false≢true (ap (λ (z : TreeQuestion). z.taken) e))
same-tree-question (Some p) None e = absurd (false≢true (ap (λ (z : TreeQuestion). z.taken) (sym e)))
same-tree-question (Some p) (Some q) e =
    ap (λ (z : TreeQuestion). Some (record { n = z.n; k = z.k; m = z.m; source = z.source; tree = z.tree })) e

pub question_of-unique : Determined 1 question_of_kinds.ps question_of_kinds.r question-of.Post
question_of-unique κs a x y s t e f = same-question x y (e ∙ sym f)

pub tree-question_of-unique : Determined 1 tree_question_of_kinds.ps tree_question_of_kinds.r tree-question-of.Post
tree-question_of-unique κs a x y s t e f = same-tree-question x y (e ∙ sym f)

-- every input, of every length, has one text
pub answer-line-unique : Determined 1 answer_line_kinds.ps answer_line_kinds.r answer_line.Post
answer-line-unique κs a x y s t e f = e ∙ sym f

pub tree-line-unique : Determined 0 tree_line_kinds.ps tree_line_kinds.r tree-line.Post
tree-line-unique κs a x y s t e f = e ∙ sym f

-- of the part that shows a text, its bytes, and the block and offset where it lies
pub shown-unique : (κs : Lfts 1) (a : Dens κs shown_kinds.ps) (x y : (res_t shown_kinds.r κs).Denot) (s t : AtExit (ended_of 1 shown_kinds.ps shown_kinds.r) κs) → shown.Post κs a x s → shown.Post κs a y t → (x.now ≡ y.now) × (x.ref_ptr ≡ y.ref_ptr)
shown-unique κs a x y s t e f = (e.0 ∙ sym f.0, e.1 ∙ sym f.1)
