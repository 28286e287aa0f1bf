-- `path::walks::walk_array`: 1, 2, 26, 3, 4, 5, 7; hop after hop; 13.
use borrow.Author.Rules.{rules}
use Rattle.refusals.proofs.ReasonLaws.{where-told, where-passed}
use Rattle.path.specs.Inside.{no_way, the_way}
use Rattle.path.proofs.WalkLaws.{walks_refused, going_start, going-server, going-refused, shift_fits, byte_fits, back_fits, going-arrived, going_on, going_end}
use Rattle.path.proofs.walks.walk_array.Goals as goal

pub returns-in_err-array_refusal : goal.returns-in_err-array_refusal
returns-in_err-array_refusal c = walks_refused _ _ _ _ _ _ c.in_err-array_refusal.ensures _ (where-told no_way the_way _ _ c.from_residual.ensures.1) _ _

pub loop-i-init : goal.loop-i-init
loop-i-init c = going_start _ _ _ _ _ _ _ c.in_ok-array_refusal.ensures c.requires

pub take_hop-requires : goal.take_hop-requires
take_hop-requires c = going-server c.loop-i.invariant

pub returns-in_err-taken : goal.returns-in_err-taken
returns-in_err-taken c = going-refused c.loop-i.invariant c.in_ok-array_refusal.ensures c.loop-i-test.true _ c.take_hop.ensures _ c.in_err-taken.ensures.cases (λ f h. search rules) _ (where-passed no_way the_way _ _ c.from_residual-in_err-taken.ensures.1) _ _

pub overflow_mul-back : goal.overflow_mul-back
overflow_mul-back c = shift_fits c.loop-i.invariant c.in_ok-array_refusal.ensures c.loop-i-test.true _ c.take_hop.ensures _ c.in_ok-taken.ensures.cases

pub overflow_add-back : goal.overflow_add-back
overflow_add-back c = byte_fits c.loop-i.invariant c.in_ok-array_refusal.ensures c.loop-i-test.true _ c.take_hop.ensures _ c.in_ok-taken.ensures.cases

pub overflow_add-back-in-loop-i : goal.overflow_add-back-in-loop-i
overflow_add-back-in-loop-i c = back_fits c.loop-i.invariant c.in_ok-array_refusal.ensures c.loop-i-test.true _ c.take_hop.ensures _ c.in_ok-taken.ensures.cases

pub returns-then-hop-destination : goal.returns-then-hop-destination
returns-then-hop-destination c = going-arrived c.loop-i.invariant c.in_ok-array_refusal.ensures c.loop-i-test.true _ c.take_hop.ensures _ c.in_ok-taken.ensures.cases c.if-hop-destination.true _ c.arrived.ensures

pub loop-i-preserved : goal.loop-i-preserved
loop-i-preserved c = going_on c.loop-i.invariant c.in_ok-array_refusal.ensures c.loop-i-test.true _ c.take_hop.ensures _ c.in_ok-taken.ensures.cases c.if-hop-destination.false

pub returns : goal.returns
returns c = going_end c.loop-i.invariant c.in_ok-array_refusal.ensures c.loop-i-test.false _ c.at.ensures
