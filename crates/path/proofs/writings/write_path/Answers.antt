-- `path::writings::write_path`: the list; the way; the bytes.
use mathlib.Core.Path.{◌∙◌}
use Rattle.refusals.proofs.ReasonLaws.{where-refused, where-passed}
use Rattle.path.specs.Answers.{no_writing, a_writing, write_answer}
use Rattle.path.proofs.WriteLaws.{way_refuses, way-taken, way-written}
use Rattle.path.proofs.writings.write_path.Goals as goal

pub returns-in_err-write_refusal : goal.returns-in_err-write_refusal
unfolding write_answer
returns-in_err-write_refusal c = where-refused no_writing a_writing _ _ c.from_residual.ensures.1 _ _ c.in_err-write_refusal.ensures

pub returns-in_err-on_the_way : goal.returns-in_err-on_the_way
returns-in_err-on_the_way c = where-passed no_writing a_writing _ _ c.from_residual-in_err-on_the_way.ensures.1 ∙ way_refuses _ _ c.in_ok-write_refusal.ensures _ c.in_err-on_the_way.ensures

pub put_bytes-requires : goal.put_bytes-requires
put_bytes-requires c = way-taken _ _ c.in_ok-write_refusal.ensures c.in_ok-on_the_way.ensures

pub returns : goal.returns
returns c = way-written _ _ c.in_ok-write_refusal.ensures c.in_ok-on_the_way.ensures _ c.put_bytes.ensures
