-- `laying::marks::mark_switches`: none is marked, then one more, to all.
use Rattle.std.proofs.Common.{rules, length-append}
use Rattle.std.proofs.lemmas.Bool.{false≢true}
use mathlib.Core.Logic.{⊎_elim}
use Rattle.refusals.proofs.ReasonLaws.{reason-some}
use Rattle.laying.proofs.MarkLaws.{among-start, hops_all, hop_here, here-link, here-adjacent, here-asked, switches-step, switches-done, no_from, no_to}
use Rattle.laying.proofs.marks.mark_switches.Goals as goal

pub loop-from-init : goal.loop-from-init
loop-from-init c = (among-start c.requires.1, hops_all _ (search rules) (search rules))

pub mark_switch-requires : goal.mark_switch-requires
mark_switch-requires c =
    let steps = c.in-Some.ensures.steps in
    (here-link c.requires.0 (hop_here c.loop-from.invariant.1 steps.0 steps.1) _ (rw c.in-Ok-Some.field-0-is at c.in-Ok-Some.ensures), c.loop-from.invariant.0.marks.table)

pub loop-from-preserved : goal.loop-from-preserved
loop-from-preserved c =
    let steps = c.in-Some.ensures.steps in
    switches-step c.requires.0 (hop_here c.loop-from.invariant.1 steps.0 steps.1) _ (rw c.in-Ok-Some.field-0-is at c.in-Ok-Some.ensures) c.loop-from.invariant.0 c.mark_switch.ensures _ (length-append _ _)

pub unreachable-requires : goal.unreachable-requires
unreachable-requires c =
    let steps = c.in-Some.ensures.steps in
    false≢true (here-adjacent c.requires.0 (hop_here c.loop-from.invariant.1 steps.0 steps.1) _ (rw c.in-Ok-None.field-0-is at c.in-Ok-None.ensures))

pub unreachable-requires-in-Err : goal.unreachable-requires-in-Err
unreachable-requires-in-Err c =
    let steps = c.in-Some.ensures.steps in
    reason-some _ (here-asked c.requires.0 (hop_here c.loop-from.invariant.1 steps.0 steps.1) _ c.in-Err.ensures)

pub returns : goal.returns
returns c =
    let left = c.loop-from.invariant.1 in
    switches-done _ c.loop-from.invariant.0 (⊎_elim (λ z. no_from left z.1.0) (λ z. no_to left z.1.0) c.in-None.ensures.steps)
