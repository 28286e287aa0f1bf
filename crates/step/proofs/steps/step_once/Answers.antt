-- `step::steps::step_once`: what is given is refused; delivered; 18; the hop is refused; it goes.
use Rattle.std.proofs.Common.{rules}
use mathlib.Core.Path.{sym, ◌∙◌}
use native.Mathlib.Omega.{arith}
use Rattle.refusals.proofs.ReasonLaws.{reason-some, where-told, where-passed}
use Rattle.refusals.specs.Refusals.{plain}
use Rattle.refusals.specs.Reasons.{number_of}
use Rattle.room.proofs.RefusalLaws.{server-none}
use Rattle.step.specs.Steps.{no_step, the_step, entry, port_at}
use Rattle.step.proofs.StepLaws.{given_of, stops-given, delivers, stops-far, stops-hop, goes}
use Rattle.step.proofs.steps.step_once.Goals as goal

pub returns-in_err-given_refusal : goal.returns-in_err-given_refusal
returns-in_err-given_refusal c = where-told no_step the_step _ (plain (number_of c.in_err-given_refusal.field-0.0)) c.from_residual.ensures.1 ∙ stops-given _ _ _ _ _ _ _ c.in_err-given_refusal.ensures (reason-some _)

pub returns-then-here-destination : goal.returns-then-here-destination
returns-then-here-destination c = delivers _ _ _ _ _ _ c.in_ok-given_refusal.ensures c.if-here-destination.true

pub returns-then-index-ge-MOST_HOPS : goal.returns-then-index-ge-MOST_HOPS
returns-then-index-ge-MOST_HOPS c = search (rules, stops-far)

pub bounds-path-index : goal.bounds-path-index
bounds-path-index c = let g = given_of _ _ _ _ _ (sym c.in_ok-given_refusal.ensures) in omega (arith, g.path)

pub next_hop-requires : goal.next_hop-requires
next_hop-requires c = let g = given_of _ _ _ _ _ (sym c.in_ok-given_refusal.ensures) in (sym (server-none g.here), g.table, omega arith)

pub returns-in_err-hop : goal.returns-in_err-hop
returns-in_err-hop c = where-passed no_step the_step _ _ c.from_residual-in_err-hop.ensures.1 ∙ stops-hop _ _ _ _ _ _ c.in_ok-given_refusal.ensures c.if-here-destination.false (omega arith) _ c.in_err-hop.ensures (reason-some _)

pub mac_at-requires : goal.mac_at-requires
mac_at-requires c = let g = given_of _ _ _ _ _ (sym c.in_ok-given_refusal.ensures) in g.table

pub bounds-table-port : goal.bounds-table-port
bounds-table-port c = let g = given_of _ _ _ _ _ (sym c.in_ok-given_refusal.ensures) in omega (arith, g.table)

pub returns : goal.returns
unfolding entry port_at
returns c = goes _ _ _ _ _ _ c.in_ok-given_refusal.ensures c.if-here-destination.false (omega arith) c.in_ok-hop.hop c.in_ok-hop.ensures _ c.mac_at.ensures
