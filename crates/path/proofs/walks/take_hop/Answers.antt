-- `path::walks::take_hop`: 8, 9, 10; the switch of a live link, then 28, 29; or 11.
use mathlib.Core.Path.{refl}
use mathlib.Core.List.{[]}
use Rattle.room.proofs.RefusalLaws.{server_of}
use Rattle.path.proofs.WalkLaws.{passes, take_none, take_link, take_failed, take_again, take_on}
use Rattle.path.proofs.walks.take_hop.Goals as goal

pub switch_at-requires : goal.switch_at-requires
switch_at-requires c = take_link (server_of _ _ c.requires) [] [] [] _ _ c.in_ok-hop.ensures

pub returns-in_err-hop : goal.returns-in_err-hop
returns-in_err-hop c = passes _ _ _ c.from_residual.ensures.1 (take_none (server_of _ _ c.requires) _ _ _ _ _ c.in_err-hop.ensures)

pub returns-in_err-switch : goal.returns-in_err-switch
returns-in_err-switch c =
    passes _ _ _ c.from_residual-in_err-switch.ensures.1
    (take_again (server_of _ _ c.requires) _ _ _ _ _ c.in_ok-hop.ensures _ c.is_live.ensures c.if-is_live.true _ c.switch_at.ensures _ c.in_err-switch.ensures _ refl)

pub returns-then-is_live : goal.returns-then-is_live
returns-then-is_live c = take_on (server_of _ _ c.requires) _ _ _ _ _ c.in_ok-hop.ensures _ c.is_live.ensures c.if-is_live.true _ c.switch_at.ensures _ c.in_ok-switch.ensures _ refl

pub returns : goal.returns
returns c = take_failed (server_of _ _ c.requires) _ _ _ _ _ c.in_ok-hop.ensures _ c.is_live.ensures c.if-is_live.false _ c.from.ensures
