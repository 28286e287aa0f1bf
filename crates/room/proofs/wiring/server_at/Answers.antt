-- `room::wiring::server_at`: a refused port, and the server at one that is not: the power is not 0, and the sums fit.
use Rattle.std.proofs.Common.{rules, arith, sym}
use Rattle.refusals.proofs.ReasonLaws.{tells-passed, tells-given}
use Rattle.room.specs.Answers.{no_number, a_number}
use Rattle.room.specs.Wiring.{server_at_answer}
use Rattle.room.proofs.RoomLaws.{weight_pos}
use Rattle.room.proofs.WiringLaws.{port_of, port-power, port_closed, port_sums}
use Rattle.room.proofs.wiring.server_at.Goals as goal

pub returns-in_err-port_refusal : goal.returns-in_err-port_refusal
unfolding server_at_answer
returns-in_err-port_refusal c = search (rules, tells-passed no_number a_number)

pub nonzero_div-above : goal.nonzero_div-above
nonzero_div-above c = let h = port_of _ _ _ _ (sym c.in_ok-port_refusal.ensures) in weight_pos h.valid _ _ (port-power h _ c.power-weight.ensures)

pub overflow_mul-upper : goal.overflow_mul-upper
overflow_mul-upper c = let q = port_of _ _ _ _ (sym c.in_ok-port_refusal.ensures) in let h = port_sums q _ (port-power q _ c.power-weight.ensures) in omega (arith, h.above)

pub overflow_add-upper : goal.overflow_add-upper
overflow_add-upper c = let q = port_of _ _ _ _ (sym c.in_ok-port_refusal.ensures) in let h = port_sums q _ (port-power q _ c.power-weight.ensures) in omega (arith, h.upper)

pub nonzero_rem-result : goal.nonzero_rem-result
nonzero_rem-result c = let h = port_of _ _ _ _ (sym c.in_ok-port_refusal.ensures) in weight_pos h.valid _ _ (port-power h _ c.power-weight.ensures)

pub overflow_mul-result : goal.overflow_mul-result
overflow_mul-result c = let q = port_of _ _ _ _ (sym c.in_ok-port_refusal.ensures) in let h = port_sums q _ (port-power q _ c.power-weight.ensures) in omega (arith, h.weighed)

pub overflow_add-result : goal.overflow_add-result
overflow_add-result c = let q = port_of _ _ _ _ (sym c.in_ok-port_refusal.ensures) in let h = port_sums q _ (port-power q _ c.power-weight.ensures) in omega (arith, h.whole)

pub returns : goal.returns
unfolding server_at_answer
returns c =
    let e = c.in_ok-port_refusal.ensures in
    let q = port_of _ _ _ _ (sym e) in
    tells-given no_number a_number _ _ _ e (port_closed q _ (port-power q _ c.power-weight.ensures))
