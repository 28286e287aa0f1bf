-- `path::writings::on_the_way`: the hops from each server to the next.
use Rattle.std.proofs.Common.{arith}
use mathlib.Core.Path.{◌∙◌}
use borrow.Author.Rules.{rules}
use Rattle.refusals.proofs.ReasonLaws.{where-passed}
use Rattle.refusals.specs.Refusals.{none}
use Rattle.path.proofs.CodecLaws.{listed_of}
use Rattle.path.proofs.WriteLaws.{way-start, way_pair, way_stop, way_next, way_end}
use Rattle.path.proofs.writings.on_the_way.Goals as goal

pub overflow_sub-i-end : goal.overflow_sub-i-end
overflow_sub-i-end c = let list = listed_of _ _ c.requires in omega (arith, list.some)

pub loop-i-init : goal.loop-i-init
loop-i-init c = search way-start

pub try_next-requires : goal.try_next-requires
try_next-requires c = way_pair c.loop-i.invariant (omega arith)

pub returns-in_err-used : goal.returns-in_err-used
returns-in_err-used c = where-passed (λ q. q) (λ w. none) _ _ c.from_residual.ensures.1 ∙ way_stop c.loop-i.invariant (omega arith) _ c.try_next.ensures _ c.in_err-used.ensures.cases (λ f h. search rules)

pub loop-i-preserved : goal.loop-i-preserved
loop-i-preserved c = way_next c.loop-i.invariant (omega arith) _ c.try_next.ensures _ c.in_ok-used.ensures.cases

pub returns : goal.returns
returns c = way_end c.loop-i.invariant (omega arith)
