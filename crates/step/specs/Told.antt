-- What a step tells: a refusal, whether it is a delivery, and where the packet goes next; what is not told of is zero.
use Rattle.std.specs.Prelude.{ℕ, List, Bool}
use Rattle.refusals.specs.Refusals.{Refusal}

-- the next server, the next hop index, the MAC and OutPort as stored, and the level of the hop with the value that it replaces there
pub record Step : Type 0 where
  pub refusal : Refusal
  pub delivered : Bool
  pub next : ℕ
  pub index : ℕ
  pub mac : List ℕ
  pub port : ℕ
  pub level : ℕ
  pub old : ℕ
