-- What a call tells that asks for the first dead switch: its level and its number there, or that none is found; or a refusal, false and zeros.
use Rattle.std.specs.Prelude.{ℕ, Bool}
use Rattle.refusals.specs.Refusals.{Refusal}

pub record DeadSwitch : Type 0 where
  pub refusal : Refusal
  pub found : Bool
  pub level : ℕ
  pub number : ℕ
