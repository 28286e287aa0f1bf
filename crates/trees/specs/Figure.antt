-- The trees as Figure 5 of the paper grows them, pass by pass; the first pass stops before the source (rule 13.6). No call's
-- contract needs it.
use Rattle.std.specs.Prelude.{ℕ, zero, suc, ◌+◌, ◌-◌, ◌%◌, ◌≤◌, ◌<◌, ◌≡◌, ◌≢◌}
use Rattle.room.specs.declared.Shape.{Shape}
use Rattle.room.specs.Shapes.{bound, Server}
use Rattle.room.specs.Addresses.{digit, with_digit}
use Rattle.trees.specs.Trees.{level_at, lowered}

-- server x with digit j raised by one, and 0 after the greatest value of level j
unfoldable pub raised : Shape → ℕ → ℕ → ℕ
raised s j x = with_digit s j ((digit s j x + 1) % bound s j) x

-- server x with digit j raised t times
unfoldable pub raised_by : Shape → ℕ → ℕ → ℕ → ℕ
raised_by s j zero x = x
raised_by s j (suc t) x = raised s j (raised_by s j t x)

-- how often pass i of tree l, which works at level i of the tree's order, raises the digit of a server: once less in the first pass, so that it
-- stops before the source
unfoldable pub longest : Shape → ℕ → ℕ → ℕ
longest s l zero = bound s l - 2
longest s l (suc i) = bound s (level_at s.k l (suc i)) - 1

-- tree l of source a has server x as pass i begins: its root, and then each server that it has with the digit of the pass raised so often, or less
pub data Has (s : Shape) (a l : ℕ) : ℕ → ℕ → Type 0 where
  root : Has s a l 0 (raised s l a)
  passed : {i x : ℕ} (t : ℕ) → t ≤ longest s l i → Has s a l i x → Has s a l (suc i) (raised_by s (level_at s.k l i) t x)

-- tree l of source a has the hop from server p to server x: the source's to the root, those of passes 0 to k, each to the server with the digit
-- raised once more, and in the end those to the servers that have the source's own digit l
pub data Hop (s : Shape) (a l : ℕ) : ℕ → ℕ → Type 0 where
  first : Hop s a l a (raised s l a)
  grown : {i x : ℕ} (t : ℕ) → i ≤ s.k → t < longest s l i → Has s a l i x → Hop s a l (raised_by s (level_at s.k l i) t x) (raised_by s (level_at s.k l i) (suc t) x)
  hung : {x : ℕ} → Server s x → a ≢ x → digit s l a ≡ digit s l x → Hop s a l (lowered s l x) x
