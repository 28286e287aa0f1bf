-- What the search tells: the hops and the path bytes of a route, or zeros where none is, and its refusal.
use Rattle.std.specs.Prelude.{ℕ, List}
use Rattle.refusals.specs.Refusals.{Refusal}

pub record Found : Type 0 where
  pub refusal : Refusal
  pub hops : ℕ
  pub bytes : List ℕ
