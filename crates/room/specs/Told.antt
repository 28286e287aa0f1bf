-- What a call of the room tells: its refusal, and what it answers beside it. On a refusal all but the refusal is zero.
use Rattle.std.specs.Prelude.{ℕ, List, Bool}
use Rattle.refusals.specs.Refusals.{Refusal}

-- a number
pub record Number : Type 0 where
  pub refusal : Refusal
  pub value : ℕ

-- the digits of an address, digit 0 at place 0 and zeros above k
pub record Digits : Type 0 where
  pub refusal : Refusal
  pub places : List ℕ

-- a switch
pub record Switch : Type 0 where
  pub refusal : Refusal
  pub level : ℕ
  pub number : ℕ

-- whether two servers are neighbours, and at which level
pub record Between : Type 0 where
  pub refusal : Refusal
  pub adjacent : Bool
  pub level : ℕ
