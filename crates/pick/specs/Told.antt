-- What picking tells: a refusal, and where the picked route stands, which is zero on a refusal.
use Rattle.std.specs.Prelude.{ℕ}
use Rattle.refusals.specs.Refusals.{Refusal}

-- the list, 1 the fresh and 2 the kept one, and the place there, counted from 1
pub record Place : Type 0 where
  pub refusal : Refusal
  pub list : ℕ
  pub route : ℕ
