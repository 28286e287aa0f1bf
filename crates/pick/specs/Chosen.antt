-- Which route is to be picked of two lists, in words that know nothing of the search.
use Rattle.std.specs.Prelude.{ℕ, ◌/◌, ◌<◌, ◌≡◌, List, true, false, length}
use Rattle.room.specs.declared.Shape.{Shape}
use Rattle.pick.specs.Picks.{usable, Source, in_fresh, in_kept, nowhere, array_at}

-- the array at place i is usable, and none before it is
pub record FirstUsable (s : Shape) (t : List ℕ) (a d : ℕ) (bs : List ℕ) (i : ℕ) : Type 0 where
  pub within : i < length bs / 8
  pub here : usable s t a d (array_at i bs) ≡ true
  pub before : (j : ℕ) → j < i → usable s t a d (array_at j bs) ≡ false

-- no array of the list is usable
pub record NoneUsable (s : Shape) (t : List ℕ) (a d : ℕ) (bs : List ℕ) : Type 0 where
  pub each : (j : ℕ) → j < length bs / 8 → usable s t a d (array_at j bs) ≡ false

-- the first usable route of the fresh list, else of the kept list, else none
abbrev pub Chosen : Shape → List ℕ → ℕ → ℕ → List ℕ → List ℕ → Source → Type 0
Chosen s t a d fs ks (in_fresh i) = FirstUsable s t a d fs i
Chosen s t a d fs ks (in_kept i) = NoneUsable s t a d fs × FirstUsable s t a d ks i
Chosen s t a d fs ks nowhere = NoneUsable s t a d fs × NoneUsable s t a d ks
