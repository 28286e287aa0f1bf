-- What a call tells that asks for a link: its refusal, and whether the link is failed, which is false on a refusal.
use Rattle.std.specs.Prelude.{Bool}
use Rattle.refusals.specs.Refusals.{Refusal}

pub record Asked : Type 0 where
  pub refusal : Refusal
  pub failed : Bool
