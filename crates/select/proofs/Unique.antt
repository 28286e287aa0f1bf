-- The contract of selection determines its answer: whatever meets it on some arguments is the one answer to them.
use Rattle.refusals.specs.Determined.{Determined}
use Rattle.select.proofs.ToldLaws.{selection-same}
use Rattle.select.proofs.OneAnswer.{selecting-unique}
use Rattle.select.proofs.selecting.select_routes.Reads as select_routes
use Rattle.select.proofs.selecting.select_routes.Kinds as select_routes_kinds

pub select-routes-unique : Determined 1 select_routes_kinds.ps select_routes_kinds.r select_routes.Post
select-routes-unique κs a x y s t e f = selection-same x y (selecting-unique e f)
