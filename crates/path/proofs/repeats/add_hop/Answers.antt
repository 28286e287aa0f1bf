-- `path::repeats::add_hop`: the server met before: 28; the switch used before: 29; neither.
use mathlib.Core.Path.{refl}
use Rattle.path.proofs.RepeatLaws.{server_again, switch_again, both_new}
use Rattle.path.proofs.repeats.add_hop.Goals as goal

pub returns-then-reached-met : goal.returns-then-reached-met
returns-then-reached-met c = server_again _ _ _ _ _ c.place_in-reached.ensures c.if-reached-met.true _ refl

pub returns-then-user-used : goal.returns-then-user-used
returns-then-user-used c = switch_again _ _ _ _ _ c.place_in-reached.ensures c.if-reached-met.false _ c.place_in-user.ensures c.if-user-used.true _ refl

pub returns : goal.returns
returns c = both_new _ _ _ _ _ c.place_in-reached.ensures c.if-reached-met.false _ c.place_in-user.ensures c.if-user-used.false
