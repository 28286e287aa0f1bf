-- Full rooms, proved: the room of two numbers.
use Prim.Native.Nat.{ℕ, ◌+◌, ◌/◌, ◌^◌, ◌≤◌}
use mathlib.Core.Path.{◌≡◌, refl, sym, ap₂, ◌∙◌, subst}
use mathlib.Core.Logic.{◌↔◌}
use mathlib.Core.Bool.{◌&&◌}
use mathlib.Core.List.{[], ◌∷◌}
use Rattle.refusals.specs.Refusals.{◌or_else◌, ◌unless◌}
use native.Mathlib.Numerals.{add-one}
use native.Mathlib.Nat.{pow-succ', mul_comm, mul-div_cancel, le_refl}
use lib.Dec.{leb}
use Rattle.room.specs.Shapes.{full_room, servers_of, bound, Valid}
use Rattle.room.specs.Addresses.{switches_at}
use Rattle.room.specs.Refusals.{shape_refusal}
use Rattle.room.proofs.RefusalLaws.{full-refusal}
use Rattle.room.proofs.RoomLaws.{bound_either, servers_are}
use Rattle.demands.specs.Tests.{Tests, Number, Exactly}
use Rattle.demands.specs.FullRooms.{FullRooms}
use Rattle.demands.proofs.Chains.{exactly, chain, test, both, le}

full-bound : (n k l : ℕ) → bound (full_room n k) l ≡ n
full-bound n k l = bound_either (full_room n k) (λ (b : ℕ). b ≡ n) refl refl l

full-servers : (n k : ℕ) → servers_of (full_room n k) ≡ n ^ (k + 1)
full-servers n k = servers_are (full_room n k) ∙ rw (add-one, pow-succ')

full-switches : (n k l : ℕ) → 1 ≤ n → switches_at (full_room n k) l ≡ n ^ k
unfolding switches_at
full-switches n k l h =
    ap₂ (λ (x y : ℕ). x / y) (servers_are (full_room n k) ∙ mul_comm n (n ^ k)) (full-bound n k l) ∙ mul-div_cancel (n ^ k) h

full-valid : (n k : ℕ) → Valid (full_room n k) ↔ ((2 ≤ n) × (n ≤ 64) × (k ≤ 3) × (n ^ (k + 1) ≤ 4096))
full-valid n k = (
  λ v. (v.two, v.ports, v.levels, rw (← full-servers n k) v.small),
  λ p. record { two = p.0; ports = p.1; levels = p.2; some = p.0; most = le_refl n; small = rw (full-servers n k) p.3 },
)

full-refused : (n k : ℕ) → Exactly (shape_refusal (full_room n k)) (Number ((1, (2 ≤ n) × (n ≤ 64)) ∷ (2, k ≤ 3) ∷ (3, n ^ (k + 1) ≤ 4096) ∷ []))
full-refused n k = exactly (λ x. x) (λ r. r ≡ 0) tests (shape_refusal (full_room n k)) (λ y h p q. p ∙ sym q) (subst (Number tests) (sym (full-refusal (full_room n k) refl)) given)
  where
    tests : Tests
    tests = (1, (2 ≤ n) × (n ≤ 64)) ∷ (2, k ≤ 3) ∷ (3, n ^ (k + 1) ≤ 4096) ∷ []

    given : Number tests (1 unless (leb 2 n && leb n 64) or_else 2 unless leb k 3 or_else 3 unless leb (servers_of (full_room n k)) 4096)
    given =
        chain ((1, (2 ≤ n) × (n ≤ 64)) ∷ (2, k ≤ 3) ∷ []) ((3, n ^ (k + 1) ≤ 4096) ∷ []) _ _ refl
        (chain ((1, (2 ≤ n) × (n ≤ 64)) ∷ []) ((2, k ≤ 3) ∷ []) _ _ refl (test 1 (leb 2 n && leb n 64) (both _ _ (le 2 n) (le n 64))) (λ h. test 2 (leb k 3) (le k 3)))
        (λ h. test 3 (leb (servers_of (full_room n k)) 4096) (rw (full-servers n k) (le (n ^ (k + 1)) 4096)))

pub full-rooms : FullRooms
full-rooms =
    record { bound_of = full-bound; servers-of = full-servers; switches-of = full-switches; valid = full-valid; refused = full-refused }
