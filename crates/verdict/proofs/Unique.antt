-- The public function's contract determines its answer: whatever meets it on some arguments is the one answer to them.
use mathlib.Core.Path.{◌∙◌, sym}
use Rattle.refusals.proofs.ReasonLaws.{told_where-same}
use Rattle.refusals.specs.Determined.{Determined}
use Rattle.verdict.proofs.checks.check_list.Reads as check_list
use Rattle.verdict.proofs.checks.check_list.Kinds as check_list_kinds

pub check_list-unique : Determined 2 check_list_kinds.ps check_list_kinds.r check_list.Post
check_list-unique κs a x y s t e f = told_where-same x y (e ∙ sym f)
