-- What the calls on path bytes tell: a refusal, and what is answered beside it, which is zero on a refusal.
use Rattle.std.specs.Prelude.{ℕ, List}
use Rattle.refusals.specs.Refusals.{Refusal}

-- the level and the value of a path byte
pub record Parts : Type 0 where
  pub refusal : Refusal
  pub level : ℕ
  pub value : ℕ

-- where a hop leads, its level, and the value that it replaces there
pub record Hop : Type 0 where
  pub refusal : Refusal
  pub next : ℕ
  pub level : ℕ
  pub old : ℕ

-- the switch that a hop adds to a route, or the number that refuses the hop and the earlier hop that this names
pub record Tried : Type 0 where
  pub number : ℕ
  pub earlier : ℕ
  pub switch : ℕ

-- how many hops an array makes, and the path bytes of its way back as one number
pub record Way : Type 0 where
  pub refusal : Refusal
  pub hops : ℕ
  pub back : ℕ

-- the servers that an array meets, with their count, and the switches that it uses
pub record Walked : Type 0 where
  pub refusal : Refusal
  pub count : ℕ
  pub servers : List ℕ
  pub switches : List ℕ

-- the servers that an array meets, with their count
pub record Reading : Type 0 where
  pub refusal : Refusal
  pub count : ℕ
  pub servers : List ℕ

-- the eight bytes of a route
pub record Writing : Type 0 where
  pub refusal : Refusal
  pub bytes : List ℕ
