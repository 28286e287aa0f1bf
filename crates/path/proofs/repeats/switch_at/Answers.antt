-- `path::repeats::switch_at`: the switch of a link, which no test refuses.
use Rattle.std.proofs.Common.{arith}
use mathlib.Core.Path.{ap}
use Rattle.refusals.proofs.ReasonLaws.{reason-some}
use Rattle.room.specs.Told.{Switch}
use Rattle.room.proofs.AnswerLaws.{switch-answered}
use Rattle.room.proofs.RefusalLaws.{link_of}
use Rattle.path.specs.Routes.{switch_at}
use Rattle.path.proofs.HopLaws.{switch-found}
use Rattle.room.proofs.RoomLaws.{switch-small}
use Rattle.path.proofs.repeats.switch_at.Goals as goal

pub overflow_mul-result : goal.overflow_mul-result
overflow_mul-result c = let h = link_of _ _ _ c.requires in let k = h.server.valid.levels in omega (arith, h.level)

pub overflow_add-result : goal.overflow_add-result
overflow_add-result c = let h = link_of _ _ _ c.requires in let e = switch-found h _ c.in-Ok.ensures in let k = h.server.valid.levels in omega (arith, h.level, e, switch-small h)

pub unreachable-requires : goal.unreachable-requires
unreachable-requires c = reason-some _ (ap (λ (x : Switch). x.refusal.number) (switch-answered (link_of _ _ _ c.requires) _ c.in-Err.ensures))

pub returns : goal.returns
unfolding switch_at
returns c = let e = switch-found (link_of _ _ _ c.requires) _ c.in-Ok.ensures in omega (arith, e)
