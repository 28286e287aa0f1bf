-- What building tells: a refusal, and the routes, which are empty on a refusal.
use Rattle.refusals.specs.Refusals.{Refusal}
use Rattle.build.specs.declared.RouteSet.{RouteSet}

-- the built routes, slots k down to 0, with zeros past them
pub record Building : Type 0 where
  pub refusal : Refusal
  pub routes : RouteSet
