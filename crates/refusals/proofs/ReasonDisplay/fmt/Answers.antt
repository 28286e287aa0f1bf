-- `refusals::Reason` as `{}` writes it.
use Rattle.std.proofs.Common.{◌++◌, ap}
use Rattle.std.proofs.Output.{has_written_of_eq}
use Rattle.std.specs.Fmt.{decimal}
use Rattle.std.specs.Prelude.{codes}
use Rattle.refusals.specs.Shown.{reason_text}
use Rattle.refusals.proofs.ReasonDisplay.fmt.Goals as goal

pub returns-clause-writes : goal.returns-clause-writes
unfolding reason_text
returns-clause-writes g c plain ok =
    has_written_of_eq _ _ _ _ _ (ap (λ n. codes "refused " ++ decimal n) c.number.ensures) (c.write.ensures.writes plain ok)
