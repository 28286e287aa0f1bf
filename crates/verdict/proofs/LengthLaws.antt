-- The tests that come before a list is walked.
use Prim.Native.Nat.{ℕ, suc, ◌+◌, ◌*◌, ◌%◌, ◌≤◌, ◌<◌}
use mathlib.Core.Path.{◌≡◌, sym}
use mathlib.Core.Bool.{◌&&◌}
use mathlib.Core.List.{List}
use native.Mathlib.Omega.{arith}
use lib.Dec.{leb, eqb}
use borrow.Author.Tests.{eq-eqb, ne_eqb, le-leb, lt-leb, eqb-true, leb-true}
use lib.ListN.{length}
use Rattle.lists.proofs.ListLaws.{both_held}
use Rattle.refusals.specs.Refusals.{◌unless◌}
use Rattle.refusals.proofs.ChainLaws.{or_else_zero, test_held}
use Rattle.room.specs.declared.Shape.{Shape}
use Rattle.room.proofs.RefusalLaws.{ends_of}
use Rattle.room.specs.Refusals.{ends_refusal}
use Rattle.links.specs.Table.{room_refusal}
use Rattle.verdict.specs.Checks.{list_refusal}

-- the length of a list: whole arrays, at least one, at most k + 1
abbrev pub length_refusal : ℕ → ℕ → ℕ
length_refusal k n = 7 unless (eqb (n % 8) 0 && (leb 1 n && leb n (8 * suc k)))

pub length_odd : (k n : ℕ) → (n % 8 ≡ 0 → ⊥) → 7 ≡ length_refusal k n
length_odd k n h = rw (ne_eqb (n % 8) 0 h)

pub length_none : (k n : ℕ) → n % 8 ≡ 0 → n < 1 → 7 ≡ length_refusal k n
length_none k n e h = rw (eq-eqb (n % 8) 0 e, lt-leb 1 n h)

pub length_over : (k n : ℕ) → n % 8 ≡ 0 → 1 ≤ n → 8 * (k + 1) < n → 7 ≡ length_refusal k n
length_over k n e h g = let q : 8 * suc k < n = omega arith in rw (eq-eqb (n % 8) 0 e, le-leb 1 n h, lt-leb n (8 * suc k) q)

pub length-fits : (k n : ℕ) → n % 8 ≡ 0 → 1 ≤ n → n ≤ 8 * (k + 1) → 0 ≡ length_refusal k n
length-fits k n e h g = let q : n ≤ 8 * suc k = omega arith in rw (eq-eqb (n % 8) 0 e, le-leb 1 n h, le-leb n (8 * suc k) q)

-- what no refusal of the room tells
pub room-levels : (s : Shape) (t : List ℕ) (a d : ℕ) → 0 ≡ room_refusal s t a d → s.k ≤ 3
unfolding room_refusal
room-levels s t a d e = (ends_of s a d (or_else_zero (ends_refusal s a d) _ (sym e)).0).source.valid.levels

-- and of a list: no more than four arrays, and whole ones
pub record Few (bs : List ℕ) : Type 0 where
  pub whole : length bs % 8 ≡ 0
  pub most : length bs ≤ 32

pub list_few : (s : Shape) (t : List ℕ) (a d : ℕ) (bs : List ℕ) → list_refusal s t a d bs ≡ 0 → Few bs
unfolding list_refusal
list_few s t a d bs e =
    let z = or_else_zero (room_refusal s t a d) _ e in
    let w = both_held (eqb (length bs % 8) 0) _ (test_held _ 6 z.1) in
    let v = both_held (leb 1 (length bs)) (leb (length bs) (8 * suc s.k)) w.1 in
    let k = room-levels s t a d (sym z.0) in
    record { whole = eqb-true (length bs % 8) 0 w.0; most = omega (arith, leb-true (length bs) (8 * suc s.k) v.1) }
