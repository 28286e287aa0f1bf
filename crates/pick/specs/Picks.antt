-- Picking: the first usable route of a fresh list, else of a kept one.
use Rattle.std.specs.Prelude.{ℕ, suc, ◌+◌, ◌*◌, ◌/◌, ◌%◌, ◌≡◌, List, [], ◌∷◌, ◌++◌, Bool, cond, ◌&&◌, ltb, leb, eqb, length, take, drop}
use Rattle.std.specs.Borrow.{Bor}
use Rattle.refusals.specs.Refusals.{Refusal}
use Rattle.refusals.specs.Refusals.{plain, ◌or_else◌, ◌unless◌, answer}
use Rattle.room.specs.declared.Shape.{Shape}
use Rattle.links.specs.Table.{room_refusal, room_numbers}
use Rattle.verdict.specs.Checks.{arrays, check_answer}

-- whether checking takes an array as a list of one (rule 6.2)
unfoldable pub usable : Shape → List ℕ → ℕ → ℕ → List ℕ → Bool
usable s t a d bs = eqb (check_answer s t a d bs).number 0

-- the place of the first usable of some arrays, counted from 0; their number where none is usable
unfoldable pub first_usable : Shape → List ℕ → ℕ → ℕ → List (List ℕ) → ℕ
first_usable s t a d [] = 0
first_usable s t a d (bs ∷ bss) = cond (usable s t a d bs) 0 (suc (first_usable s t a d bss))

-- the same of a list of whole arrays
unfoldable pub first_usable_in : Shape → List ℕ → ℕ → ℕ → List ℕ → ℕ
first_usable_in s t a d bs = first_usable s t a d (arrays (length bs / 8) bs)

-- where the picked route comes from: a place of the fresh list, a place of the kept list, or nowhere
pub data Source : Type 0 where
  in_fresh : ℕ → Source
  in_kept : ℕ → Source
  nowhere : Source

-- what `place` makes of place i of m, or what else there is where i is past them
abbrev pub among : ℕ → ℕ → (ℕ → Source) → Source → Source
among i m place other = cond (ltb i m) (place i) other

-- the first usable route of the fresh list, else of the kept list
unfoldable pub found : Shape → List ℕ → ℕ → ℕ → List ℕ → List ℕ → Source
found s t a d fs ks =
    among (first_usable_in s t a d fs) (length fs / 8) in_fresh (among (first_usable_in s t a d ks) (length ks / 8) in_kept nowhere)

-- whether a list of n bytes is whole arrays, at most k + 1 of them; it may be empty
unfoldable pub fits : Shape → ℕ → Bool
fits s n = eqb (n % 8) 0 && leb n (8 * (s.k + 1))

-- what is tested before any reading: 1, 2, 26, 3, 4, 5, 6, 7
unfoldable pub lists_refusal : Shape → List ℕ → ℕ → ℕ → List ℕ → List ℕ → ℕ
lists_refusal s t a d fs ks = room_refusal s t a d or_else 7 unless (fits s (length fs) && fits s (length ks))

abbrev pub lists_numbers : List ℕ
lists_numbers = room_numbers ++ (7 ∷ [])

-- the same where the lists are not refused
unfoldable pub pick_source : Shape → List ℕ → ℕ → ℕ → List ℕ → List ℕ → Source
pick_source s t a d fs ks = answer (lists_refusal s t a d fs ks) (λ r. nowhere) (found s t a d fs ks)

-- no route to give: 16
abbrev pub missing : Source → ℕ
missing (in_fresh i) = 0
missing (in_kept i) = 0
missing nowhere = 16

-- the refusal's number, or 0: 16 comes last
unfoldable pub pick_refusal : Shape → List ℕ → ℕ → ℕ → List ℕ → List ℕ → ℕ
pick_refusal s t a d fs ks = lists_refusal s t a d fs ks or_else missing (found s t a d fs ks)

abbrev pub pick_numbers : List ℕ
pick_numbers = lists_numbers ++ (16 ∷ [])

-- what the companion question answers: the number, with no route and no hop
unfoldable pub pick_answer : Shape → List ℕ → ℕ → ℕ → List ℕ → List ℕ → Refusal
pick_answer s t a d fs ks = plain (pick_refusal s t a d fs ks)

-- the array at place i of a list, and where it lies in memory if the list lies at p, a block and an offset
abbrev pub array_at : ℕ → List ℕ → List ℕ
array_at i bs = take 8 (drop (8 * i) bs)

abbrev pub lies_at : ℕ → ℕ × ℕ → ℕ × ℕ
lies_at i p = (p.0, 8 * i + p.1)

-- the bytes picked of the two lists: none on a refusal
abbrev pub picked_bytes : Source → List ℕ → List ℕ → List ℕ
picked_bytes (in_fresh i) fs ks = array_at i fs
picked_bytes (in_kept i) fs ks = array_at i ks
picked_bytes nowhere fs ks = []

-- and where they lie, if the lists lie at p and q: on a refusal the empty part at the start of the fresh list
abbrev pub picked_at : Source → ℕ × ℕ → ℕ × ℕ → ℕ × ℕ
picked_at (in_fresh i) p q = lies_at i p
picked_at (in_kept i) p q = lies_at i q
picked_at nowhere p q = p

-- the part r of a fresh list f or a kept list k that picking gives: its bytes, and the buffer and place where it lies
abbrev pub PickedPart : Shape → List ℕ → ℕ → ℕ → Bor (List ℕ) → Bor (List ℕ) → Bor (List ℕ) → Type 0
PickedPart s t a d f k r =
    (r.now ≡ picked_bytes (pick_source s t a d f.now k.now) f.now k.now) × (r.ref_ptr ≡ picked_at (pick_source s t a d f.now k.now) f.ref_ptr k.ref_ptr)
