-- `laying::routes::lay_route`: the table stays where the room or the array is refused; else the route is marked.
use mathlib.Core.Path.{refl}
use Rattle.refusals.specs.Refusals.{none}
use Rattle.refusals.proofs.ReasonLaws.{reason-some, where-told, where-passed}
use Rattle.laying.proofs.LayLaws.{lays_refused, lays_unread, room-table, read-inside, read-route, lays_done}
use Rattle.laying.proofs.routes.lay_route.Goals as goal

pub returns-in_err-room_refusal : goal.returns-in_err-room_refusal
returns-in_err-room_refusal c = lays_refused _ _ _ _ _ _ c.in_err-room_refusal.ensures (reason-some _) _ (where-told (λ r. r) (λ x. none) _ _ c.from_residual.ensures.1)

pub returns-in_err-reading : goal.returns-in_err-reading
returns-in_err-reading c = lays_unread _ _ _ _ _ c.in_ok-room_refusal.ensures _ c.in_err-reading.ensures (reason-some _) _ (where-passed (λ r. r) (λ x. none) _ _ c.from_residual-in_err-reading.ensures.1)

pub shared_ref_as_front-mark_route : goal.shared_ref_as_front-mark_route
shared_ref_as_front-mark_route c = read-inside _ _ _ _ _ c.in_ok-room_refusal.ensures _ c.in_ok-reading.ensures refl

pub mark_route-requires : goal.mark_route-requires
mark_route-requires c =
    (read-route _ _ _ _ _ c.in_ok-room_refusal.ensures _ c.in_ok-reading.ensures refl, room-table _ _ _ _ c.in_ok-room_refusal.ensures)

pub returns : goal.returns
returns c = lays_done _ _ _ _ _ c.in_ok-room_refusal.ensures _ c.in_ok-reading.ensures refl c.mark_route.ensures
