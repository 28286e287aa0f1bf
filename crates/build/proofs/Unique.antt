-- Each public function's contract determines its answer: whatever meets it on some arguments is the one answer to them.
use mathlib.Core.Path.{◌∙◌, sym}
use Rattle.refusals.specs.Determined.{Determined}
use Rattle.build.proofs.ToldLaws.{building-same}
use Rattle.build.proofs.RouteSet.new.Reads as new
use Rattle.build.proofs.RouteSet.new.Kinds as new_kinds
use Rattle.build.proofs.RouteSet.with_route.Reads as with_route
use Rattle.build.proofs.RouteSet.with_route.Kinds as with_route_kinds
use Rattle.build.proofs.routes.build_routes.Reads as build_routes
use Rattle.build.proofs.routes.build_routes.Kinds as build_routes_kinds

pub new-unique : Determined 0 new_kinds.ps new_kinds.r new.Post
new-unique κs a x y s t e f = e ∙ sym f

pub with_route-unique : Determined 0 with_route_kinds.ps with_route_kinds.r with_route.Post
with_route-unique κs a x y s t e f = e ∙ sym f

pub build-routes-unique : Determined 0 build_routes_kinds.ps build_routes_kinds.r build_routes.Post
build-routes-unique κs a x y s t e f = building-same x y (e ∙ sym f)
