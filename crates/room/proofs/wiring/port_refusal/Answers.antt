-- `room::wiring::port_refusal`: the shape; both numbers in one go; which of them failed.
use Rattle.std.proofs.Common.{rules}
use Rattle.refusals.proofs.ReasonLaws.{told-passed, reason-stops}
use Rattle.room.specs.Refusals.{level_refusal}
use Rattle.room.specs.Wiring.{port_refusal}
use Rattle.room.proofs.RefusalLaws.{level-above}
use Rattle.room.proofs.WiringLaws.{bound-few, port-there, port-not}
use Rattle.room.proofs.wiring.port_refusal.Goals as goal

pub returns-in_err-shape_refusal : goal.returns-in_err-shape_refusal
unfolding port_refusal level_refusal
returns-in_err-shape_refusal c = told-passed _ _ c.from_residual.ensures.1 _ _ (reason-stops _ _ _ c.in_err-shape_refusal.ensures)

pub is_port-requires : goal.is_port-requires
is_port-requires c = search (rules, bound-few)

pub returns-then-is_port : goal.returns-then-is_port
returns-then-is_port c = search (rules, port-there)

pub returns-then-shape-level : goal.returns-then-shape-level
unfolding port_refusal
returns-then-shape-level c = search (rules, level-above)

pub returns : goal.returns
returns c = search (rules, port-not)
