-- A full room, in which digit k has as many values as the others, is the room of two numbers: what a digit is below, how many servers and
-- switches there are, which shapes there are, and what is refused.
use Rattle.std.specs.Prelude.{ℕ, ◌+◌, ◌^◌, ◌≤◌, ◌≡◌, ◌↔◌, [], ◌∷◌}
use Rattle.room.specs.Shapes.{full_room, servers_of, bound, Valid}
use Rattle.room.specs.Addresses.{switches_at}
use Rattle.room.specs.Refusals.{shape_refusal}
use Rattle.demands.specs.Tests.{Number, Exactly}

pub record FullRooms : Type 1 where
  pub bound_of : (n k l : ℕ) → bound (full_room n k) l ≡ n
  pub servers-of : (n k : ℕ) → servers_of (full_room n k) ≡ n ^ (k + 1)
  pub switches-of : (n k l : ℕ) → 1 ≤ n → switches_at (full_room n k) l ≡ n ^ k
  pub valid : (n k : ℕ) → Valid (full_room n k) ↔ ((2 ≤ n) × (n ≤ 64) × (k ≤ 3) × (n ^ (k + 1) ≤ 4096))
  pub refused : (n k : ℕ) → Exactly (shape_refusal (full_room n k)) (Number ((1, (2 ≤ n) × (n ≤ 64)) ∷ (2, k ≤ 3) ∷ (3, n ^ (k + 1) ≤ 4096) ∷ []))
