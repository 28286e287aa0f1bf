-- What selection tells: a refusal, and the routes, which are empty on a refusal.
use Rattle.refusals.specs.Refusals.{Refusal}
use Rattle.build.specs.declared.RouteSet.{RouteSet}

-- the routes selected, in slot order, with zeros past them
pub record Selection : Type 0 where
  pub refusal : Refusal
  pub routes : RouteSet
