-- `build::RouteSet::with_route`: a full set stays, and another has an array more.
use Rattle.std.proofs.Common.{rules}
use Rattle.build.proofs.SetLaws.{added_full, added_more}
use Rattle.build.proofs.RouteSet.with_route.Goals as goal

pub returns-then-count-ge-MOST_ROUTES : goal.returns-then-count-ge-MOST_ROUTES
returns-then-count-ge-MOST_ROUTES c = search (rules, added_full)

pub returns : goal.returns
returns c = search (rules, added_more)
