-- Words in which the demands speak of a summary: which switch comes first, which links a count is of, how an entry moves, and the first dead
-- switch. No call's contract needs them.
use Rattle.std.specs.Prelude.{ℕ, suc, ◌<◌, ◌≡◌, ◌↔◌, ◌⊎◌, Bool, true, false, List}
use Rattle.lists.specs.Lists.{is_in, Once}
use Rattle.refusals.specs.Refusals.{none}
use Rattle.room.specs.declared.Shape.{Shape}
use Rattle.room.specs.Shapes.{Server}
use Rattle.room.specs.Addresses.{switch_of}
use Rattle.links.specs.Table.{failed}
use Rattle.summary.specs.Told.{DeadSwitch}
use Rattle.summary.specs.Counts.{IsSwitch}

-- switch w of level l comes before switch v of level j: its level is lower, or on the same level its number
abbrev pub Earlier : ℕ → ℕ → ℕ → ℕ → Type 0
Earlier l w j v = (l < j) ⊎ ((l ≡ j) × (w < v))

-- xs are exactly the servers at switch w of level l whose link there is failed, each once
pub record Those (s : Shape) (t : List ℕ) (l w : ℕ) (xs : List ℕ) : Type 0 where
  pub once : Once xs
  pub exactly : (x : ℕ) → (is_in x xs ≡ true) ↔ (Server s x × (switch_of s l x ≡ w) × (failed t x l ≡ true))

-- an entry, old and new, of the switch of a link that was failed, or not, and now is, or is not: one more where it was not and is, one less
-- where it was and is not, and as before where the link is as it was
pub record Moves (was now : Bool) (old new : ℕ) : Type 0 where
  pub marked : was ≡ false → now ≡ true → new ≡ suc old
  pub cleared : was ≡ true → now ≡ false → suc new ≡ old
  pub same : was ≡ now → new ≡ old

-- switch w of level l is dead: the link there of every server at it is failed
pub record DeadOne (s : Shape) (t : List ℕ) (l w : ℕ) : Type 0 where
  pub switch : IsSwitch s l w
  pub all : (x : ℕ) → Server s x → switch_of s l x ≡ w → failed t x l ≡ true

-- x tells the first dead switch of table t: one that is dead, and none that comes before it is; or that there is none, with zeros
pub record TellsFirst (s : Shape) (t : List ℕ) (x : DeadSwitch) : Type 0 where
  pub refusal : x.refusal ≡ none
  pub dead : x.found ≡ true → DeadOne s t x.level x.number
  pub first : x.found ≡ true → (l w : ℕ) → Earlier l w x.level x.number → DeadOne s t l w → ⊥
  pub nothing : x.found ≡ false → (l w : ℕ) → DeadOne s t l w → ⊥
  pub zeros : x.found ≡ false → (x.level ≡ 0) × (x.number ≡ 0)
