-- `laying::marks::mark_route`: the middle servers, then the switches.
use Rattle.std.proofs.Common.{rules}
use Rattle.laying.proofs.MarkLaws.{route-marks}
use Rattle.laying.proofs.marks.mark_route.Goals as goal

pub returns : goal.returns
returns c = search (rules, route-marks)
