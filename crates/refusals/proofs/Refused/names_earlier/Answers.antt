-- `refusals::Refused::names_earlier`: a reason of the three names a hop; of another, what is not zero.
use Rattle.std.proofs.Common.{arith}
use Rattle.std.proofs.lemmas.Grind.{common_steps}
use Rattle.std.proofs.lemmas.Bool.Decides.{nat_tests}
use Rattle.lists.specs.Lists.{is_in}
use Rattle.refusals.specs.Shown.{names_earlier}
use Rattle.refusals.proofs.ReasonLaws.{not-listed}
use Rattle.refusals.proofs.Refused.names_earlier.Goals as goal

pub returns-in-NotParallel : goal.returns-in-NotParallel
unfolding is_in names_earlier
returns-in-NotParallel c = grind (arith, common_steps)

pub returns-then-self-ne0 : goal.returns-then-self-ne0
unfolding names_earlier
returns-then-self-ne0 c = rw (not-listed _ c.in_default.not-NotParallel c.in_default.not-ServerAgain c.in_default.not-SwitchAgain) (grind (arith, nat_tests))

pub returns-else-self-ne0 : goal.returns-else-self-ne0
unfolding names_earlier
returns-else-self-ne0 c = rw (not-listed _ c.in_default.not-NotParallel c.in_default.not-ServerAgain c.in_default.not-SwitchAgain) (grind (arith, nat_tests))
