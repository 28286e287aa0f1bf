-- `select::selecting::select_routes`: refused as the room is; 16; or the routes of the slots.
use mathlib.Core.Path.{sym}
use Rattle.select.proofs.SlotCode.{room-levels, room-long, built-answered, built-asked, selecting-refused, selecting-none, selecting-given}
use Rattle.select.proofs.selecting.select_routes.Goals as goal

pub returns-in_err-room_refusal : goal.returns-in_err-room_refusal
returns-in_err-room_refusal c = selecting-refused _ _ c.from_residual.ensures.1 c.in_err-room_refusal.ensures

pub returns-in_err-built : goal.returns-in_err-built
returns-in_err-built c = absurd (built-asked _ _ _ _ c.in_ok-room_refusal.ensures _ c.in_err-built.ensures)

pub invariant_of-slots-clause-room : goal.invariant_of-slots-clause-room
invariant_of-slots-clause-room c = sym c.in_ok-room_refusal.ensures

pub invariant_of-slots-clause-levels : goal.invariant_of-slots-clause-levels
invariant_of-slots-clause-levels c = room-levels _ _ _ _ c.in_ok-room_refusal.ensures

pub invariant_of-slots-clause-long : goal.invariant_of-slots-clause-long
invariant_of-slots-clause-long c = room-long _ _ _ _ c.in_ok-room_refusal.ensures

pub invariant_of-slots-clause-whole : goal.invariant_of-slots-clause-whole
invariant_of-slots-clause-whole c = built-answered _ _ _ _ c.in_ok-room_refusal.ensures _ c.in_ok-built.ensures

pub returns-then-routes-eq0 : goal.returns-then-routes-eq0
returns-then-routes-eq0 c = selecting-none c.in_ok-room_refusal.ensures _ c.settle-routes.ensures c.if-routes-eq0.true

pub returns : goal.returns
returns c = selecting-given c.in_ok-room_refusal.ensures _ c.settle-routes.ensures c.if-routes-eq0.false
