-- `build::hops::places_of`: the digits of a server, which no test refuses.
use mathlib.Core.Path.{ap}
use Rattle.refusals.proofs.ReasonLaws.{reason-some}
use Rattle.room.specs.Told.{Digits}
use Rattle.room.proofs.AnswerLaws.{digits-answered}
use Rattle.build.proofs.hops.places_of.Goals as goal

pub returns : goal.returns
returns c = ap (λ (x : Digits). x.places) (digits-answered c.requires _ c.in-Ok.ensures)

pub unreachable-requires : goal.unreachable-requires
unreachable-requires c = reason-some _ (ap (λ (x : Digits). x.refusal.number) (digits-answered c.requires _ c.in-Err.ensures))
