-- The contract of laying determines its answer and the table left behind: whatever meets it on some arguments is the one answer to them.
use mathlib.Core.Path.{◌≡◌}
use borrow.Fn.Kinds.{Dens, ended_of, res_t}
use denote.Triple.Clauses.{AtExit}
use contract.Lifetimes.{Lfts}
use Rattle.refusals.proofs.ReasonLaws.{told_where-same}
use Rattle.refusals.specs.Determined.{Determined}
use Rattle.laying.proofs.OneTable.{lays_unique}
use Rattle.laying.proofs.routes.lay_route.Reads as lay_route
use Rattle.laying.proofs.routes.lay_route.Kinds as lay_route_kinds

pub lay_route-unique : Determined 2 lay_route_kinds.ps lay_route_kinds.r lay_route.Post
lay_route-unique κs a x y s t e f = told_where-same x y (lays_unique e f).0

-- the bytes of the table at exit, its second parameter
pub lay_route_leaves : (κs : Lfts 2) (a : Dens κs lay_route_kinds.ps) (x y : (res_t lay_route_kinds.r κs).Denot) (s t : AtExit (ended_of 2 lay_route_kinds.ps lay_route_kinds.r) κs) → lay_route.Post κs a x s → lay_route.Post κs a y t → s.1.0.now ≡ t.1.0.now
lay_route_leaves κs a x y s t e f = (lays_unique e f).1
