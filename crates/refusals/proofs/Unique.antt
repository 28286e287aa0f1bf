-- Each public function's contract determines its answer: whatever meets it on some arguments is the one answer to them.
use mathlib.Core.Path.{◌∙◌, sym}
use Rattle.refusals.specs.Determined.{Determined}
use Rattle.refusals.proofs.ReasonLaws.{refused-same}
use Rattle.refusals.proofs.Reason.number.Reads as number
use Rattle.refusals.proofs.Reason.number.Kinds as number_kinds
use Rattle.refusals.proofs.RefusedFromReason.from.Reads as from
use Rattle.refusals.proofs.RefusedFromReason.from.Kinds as from_kinds
use Rattle.refusals.proofs.Refused.at.Reads as at
use Rattle.refusals.proofs.Refused.at.Kinds as at_kinds
use Rattle.refusals.proofs.Refused.of_route.Reads as of-route
use Rattle.refusals.proofs.Refused.of_route.Kinds as of_route_kinds
use Rattle.refusals.proofs.Refused.with_earlier.Reads as with-earlier
use Rattle.refusals.proofs.Refused.with_earlier.Kinds as with_earlier_kinds

pub number-unique : Determined 0 number_kinds.ps number_kinds.r number.Post
number-unique κs a x y s t e f = e ∙ sym f

pub from-unique : Determined 0 from_kinds.ps from_kinds.r from.Post
from-unique κs a x y s t e f = refused-same x y (e ∙ sym f)

pub at-unique : Determined 0 at_kinds.ps at_kinds.r at.Post
at-unique κs a x y s t e f = refused-same x y (e ∙ sym f)

pub of_route-unique : Determined 0 of_route_kinds.ps of_route_kinds.r of-route.Post
of_route-unique κs a x y s t e f = refused-same x y (e ∙ sym f)

pub with_earlier-unique : Determined 0 with_earlier_kinds.ps with_earlier_kinds.r with-earlier.Post
with_earlier-unique κs a x y s t e f = refused-same x y (e ∙ sym f)
