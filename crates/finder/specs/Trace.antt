-- The way back from the destination, read out of the tables.
use Rattle.std.specs.Prelude.{ℕ, ◌*◌, ◌/◌, ◌%◌, ◌<◌, ◌≤◌, ◌≡◌, List, map, length, get_or, take}
use Rattle.refusals.specs.Refusals.{none}
use Rattle.finder.specs.Told.{Found}
use Rattle.finder.specs.Hops.{turned}
use Rattle.finder.specs.State.{trail}
use Rattle.finder.specs.Kept.{keyed}

-- what the way back needs of the tables; k is the room's highest level
pub record BackLinks (k root : ℕ) (back queue : List ℕ) (n : ℕ) : Type 0 where
  pub start : get_or queue 0 0 ≡ root
  pub earlier : (i : ℕ) → 0 < i → i < n → keyed back queue i < i * 256
  pub level : (i : ℕ) → 0 < i → i < n → keyed back queue i % 256 / 64 ≤ k
  pub apart : (i j : ℕ) → i < j → j < n → get_or queue i 0 ≡ get_or queue j 0 → ⊥
  pub inside : (i : ℕ) → i < n → get_or queue i 0 < 4096
  pub known : (i : ℕ) → i < n → get_or back (get_or queue i 0) 0 < 1048576
  pub long_back : length back ≡ 4096
  pub long_queue : length queue ≡ 4096

-- `dst` is the server at the place `d`
pub record Reached (k root : ℕ) (back queue : List ℕ) (dst : ℕ) : Type 0 where
  pub n : ℕ
  pub d : ℕ
  pub levels : k ≤ 3
  pub links : BackLinks k root back queue n
  pub found : d < n
  pub here : get_or queue d 0 ≡ dst

-- `bs` written to eight places, or no hops where it does not fit
pub record Traced (bs : List ℕ) (hops : ℕ) (bytes : List ℕ) : Type 0 where
  pub fits : length bs ≤ 8 → (hops ≡ length bs) × (take hops bytes ≡ bs)
  pub over : 8 < length bs → hops ≡ 0
  pub long : length bytes ≡ 8
  pub rest : (i : ℕ) → hops ≤ i → get_or bytes i 0 ≡ 0

-- what the way back from `dst` reads out of the tables: the path bytes on the way there
pub record TracedBack (k root : ℕ) (back queue : List ℕ) (dst : ℕ) (r : Found) : Type 0 where
  pub refusal : r.refusal ≡ none
  pub traced : (p : Reached k root back queue dst) → Traced (map (turned k) (trail (keyed back queue) p.d p.d)) r.hops r.bytes
