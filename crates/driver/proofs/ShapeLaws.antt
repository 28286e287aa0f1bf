-- A room of three numbers is refused as they are, and where they are not, its shape is theirs.
use Prim.Native.Nat.{ℕ, ◌+◌, ◌*◌, ◌/◌, ◌%◌, ◌≤◌, ◌<◌}
use mathlib.Core.Path.{◌≡◌, sym, ap, ◌∙◌}
use native.Mathlib.Omega.{arith}
use Rattle.std.specs.Prelude.{min}
use native.Mathlib.Decide.{dec_le}
use borrow.Author.Tests.{le-leb, lt-leb}
use Rattle.room.specs.Shapes.{shape_of}
use Rattle.room.specs.Refusals.{shape_refusal}
use Rattle.room.proofs.RefusalLaws.{valid_of, few-ports, many_ports, many_levels, much_fill}
use Rattle.driver.specs.Rooms.{held, room_of, shape_in}

pub held_is : (x : ℕ) → x ≤ 255 → x ≡ held x
unfolding held
held_is x h = rw (le-leb x 255 h)

pub held-most : (x : ℕ) → 255 < x → 255 ≡ held x
unfolding held
held-most x h = rw (lt-leb x 255 h)

pub held_min : (x : ℕ) → held x ≡ min x 255
held_min x = elim (dec_le x 255) [ yes y ↦ omega (arith, held_is x y) | no n ↦ omega (arith, held-most x (omega arith)) ]

held_le : (x : ℕ) → held x ≤ 255
held_le x = omega (arith, held_min x)

-- what is above a number below 255 stays above it
held-above : (b x : ℕ) → b < 255 → b < x → b < held x
held-above b x p q = omega (arith, held_min x)

-- the shape of the room of three numbers has each of them, held
held-shape : (n k m : ℕ) → shape_in (room_of n k m) ≡ shape_of (held n) (held k) (held m)
unfolding shape_in room_of
held-shape n k m =
    let a = held_le n in
    let b = held_le k in
    let x : ℕ = held n + (256 * held k + 65536 * held m) in
    let p : x % 256 ≡ held n = omega arith in
    let w : x / 256 ≡ held k + 256 * held m = omega arith in
    let o : (held k + 256 * held m) % 256 ≡ held k = omega arith in
    let q : x / 256 % 256 ≡ held k = ap (λ (y : ℕ). y % 256) w ∙ o in
    let r : x / 65536 ≡ held m = omega arith in
    rw (p, q, r)

-- numbers that are not refused are held as they are
same_shape : (n k m : ℕ) → n ≤ 255 → k ≤ 255 → m ≤ 255 → shape_of (held n) (held k) (held m) ≡ shape_of n k m
same_shape n k m a b d = rw (← held_is n a, ← held_is k b, ← held_is m d)

pub room-shape : (n k m : ℕ) → shape_refusal (shape_of n k m) ≡ 0 → shape_in (room_of n k m) ≡ shape_of n k m
room-shape n k m z =
    let v = valid_of (shape_of n k m) z in
    held-shape n k m ∙ same_shape n k m (omega (arith, v.ports)) (omega (arith, v.levels)) (omega (arith, v.ports, v.most))

-- 255 is refused as any larger number is
pub room-refused : (n k m : ℕ) → shape_refusal (shape_in (room_of n k m)) ≡ shape_refusal (shape_of n k m)
room-refused n k m = ap shape_refusal (held-shape n k m) ∙ few (dec_le 2 n)
  where
    Same : Type 0
    Same = shape_refusal (shape_of (held n) (held k) (held m)) ≡ shape_refusal (shape_of n k m)

    -- both refused with the number r
    both : (r : ℕ) → r ≡ shape_refusal (shape_of (held n) (held k) (held m)) → r ≡ shape_refusal (shape_of n k m) → Same
    both r p q = sym p ∙ q

    fill : 2 ≤ n → n ≤ 64 → k ≤ 3 → Dec (m ≤ 255) → Same
    fill a b d (yes f) = ap shape_refusal (same_shape n k m (omega arith) (omega arith) f)
    fill a b d (no f) =
        let p = held_is n (omega arith) in
        let q = held_is k (omega arith) in
        let r = held-most m (omega arith) in
        both 26 (much_fill _ (omega arith) (omega arith) (omega arith) (omega arith) (omega arith)) (much_fill _ a b d (omega arith) (omega arith))

    levels : 2 ≤ n → n ≤ 64 → Dec (k ≤ 3) → Same
    levels a b (yes d) = fill a b d (dec_le m 255)
    levels a b (no d) =
        let p = held_is n (omega arith) in
        let q = held-above 3 k (omega arith) (omega arith) in
        both 2 (many_levels _ (omega arith) (omega arith) q) (many_levels _ a b (omega arith))

    ports : 2 ≤ n → Dec (n ≤ 64) → Same
    ports a (yes b) = levels a b (dec_le k 3)
    ports a (no b) =
        let p = held-above 64 n (omega arith) (omega arith) in
        both 1 (many_ports _ (omega arith) p) (many_ports _ a (omega arith))

    few : Dec (2 ≤ n) → Same
    few (yes a) = ports a (dec_le n 64)
    few (no a) = let p = held_is n (omega arith) in both 1 (few-ports _ (omega arith)) (few-ports _ (omega arith))
