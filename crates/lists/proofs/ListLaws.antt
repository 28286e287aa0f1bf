-- Laws of lists: one place at a time, elements in order, what is in them, what stands in them once or in two of them, elements in turn, the middle, and lists in a
-- fixed number of places.
use Prim.Native.Nat.{ℕ, zero, suc, ◌+◌, ◌-◌, ◌≤◌, ◌<◌, zero-le, suc-le-suc}
use mathlib.Core.Path.{◌≡◌, refl, sym, ap, ap₂, ◌∙◌}
use mathlib.Core.Logic.{◌≢◌, ◌↔◌}
use mathlib.Core.Bool.{Bool, true, false, false≢true, ◌&&◌, ◌||◌, or-false, or_assoc}
use mathlib.Core.List.{List, [], ◌∷◌, ◌++◌, map, reverse, reverse-append, reverse-cons}
use native.Mathlib.Nat.{le_of_suc-le-suc}
use native.Mathlib.Numerals.{add-one}
use native.Mathlib.Omega.{arith}
use native.Mathlib.Decide.{ℕ_discrete}
use lib.ListN.{length, get_or, set, take, drop, replicate, length-append, length-drop, length-replicate, length-reverse, drop_of_length-le, take-append-drop, get_or-append, get_or-eq_default}
use lib.Seq.{ext_get_or, get_or-append_seam, get_or-append-add, get_or-take, get_or-drop, take-append_seam, length-take-le, take-suc-set, drop-cons, drop-drop, drop-set-lt}
use lib.Dec.{eqb}
use borrow.Author.Tests.{eq-eqb, ne_eqb, eqb-true}
use Rattle.lists.specs.Lists.{is_in, same, Once, Apart, in_turn, middle, filled, down_from, in_order}

-- ---- one place at a time

module _ {A : Type 0} where
  -- what is left of a list at place j
  pub left : (l : List A) (j : ℕ) (z : A) → j < length l → drop j l ≡ get_or l j z ∷ drop (j + 1) l
  left l j z h = rw (add-one j, drop-cons l j z h)

  -- one place more is taken
  pub taken_on : (l : List A) (m : ℕ) (x : A) → m < length l → take (m + 1) (set l m x) ≡ take m l ++ (x ∷ [])
  taken_on l m x h = rw (add-one m, take-suc-set l m x h)

  pub length_snoc : (xs : List A) (x : A) → length (xs ++ (x ∷ [])) ≡ suc (length xs)
  length_snoc xs x = omega (arith, length-append xs (x ∷ []))

  -- a place of many that hold the same
  pub same_at : (x : A) (m i : ℕ) → get_or (replicate m x) i x ≡ x
  same_at x zero i = refl
  same_at x (suc m) zero = refl
  same_at x (suc m) (suc i) = same_at x m i

-- two tests that hold together
pub both_held : (t u : Bool) → t && u ≡ true → (t ≡ true) × (u ≡ true)
both_held true u e = (refl, e)
both_held false u e = absurd (false≢true e)

-- mapping, place by place
pub map_at : {A B : Type 0} (f : A → B) (x : A) (y : B) (xs : List A) (i : ℕ) → i < length xs → get_or (map f xs) i y ≡ f (get_or xs i x)
map_at f x y [] i h = let z : ⊥ = omega arith in absurd z
map_at f x y (z ∷ zs) zero h = refl
map_at f x y (z ∷ zs) (suc i) h = map_at f x y zs i (le_of_suc-le-suc h)

-- ---- in order

module _ {A : Type 0} where
  pub order-long : (f : ℕ → A) (m : ℕ) → length (in_order f m) ≡ m
  unfolding in_order
  order-long f zero = refl
  order-long f (suc m) = length_snoc (in_order f m) (f m) ∙ ap suc (order-long f m)

  pub order-at : (f : ℕ → A) (z : A) (m i : ℕ) → i < m → get_or (in_order f m) i z ≡ f i
  unfolding in_order
  order-at f z zero i h = let n : ⊥ = omega arith in absurd n
  order-at f z (suc m) i h =
      elim (ℕ_discrete i m) [
        | yes e ↦ rw e (ap (λ (j : ℕ). get_or (in_order f m ++ (f m ∷ [])) j z) (sym (order-long f m)) ∙ get_or-append_seam (in_order f m) (f m) [] z)
        | no e ↦ get_or-append (in_order f m) (f m ∷ []) z i (omega (arith, order-long f m)) ∙ order-at f z m i (omega arith)
      ]

  pub order_same : (f g : ℕ → A) (m : ℕ) → ((i : ℕ) → i < m → f i ≡ g i) → in_order f m ≡ in_order g m
  unfolding in_order
  order_same f g zero h = refl
  order_same f g (suc m) h =
      ap₂ (λ (xs : List A) (x : A). xs ++ (x ∷ [])) (order_same f g m (λ i p. h i (omega arith))) (h m (omega arith))

-- ---- downwards

pub down_long : (m : ℕ) → length (down_from m) ≡ m
down_long zero = refl
down_long (suc m) = ap suc (down_long m)

-- place j from the front is m - 1 - j
pub down_at : (m j : ℕ) → j < m → get_or (down_from m) j 0 ≡ m - suc j
down_at zero j h = let z : ⊥ = omega arith in absurd z
down_at (suc m) zero h = omega arith
down_at (suc m) (suc j) h = omega (arith, down_at m j (omega arith))

-- ---- what holds of each element

-- a test that each element passes
abbrev pub every : {A : Type 0} → (A → Bool) → List A → Bool
every f [] = true
every f (x ∷ xs) = f x && every f xs

module _ {A : Type 0} where
  abbrev pub All : (A → Type 0) → List A → Type 0
  All P [] = Unit {0}
  All P (x ∷ xs) = P x × All P xs

  pub all_drop : (P : A → Type 0) (n : ℕ) (xs : List A) → All P xs → All P (drop n xs)
  all_drop P zero xs a = a
  all_drop P (suc n) [] a = a
  all_drop P (suc n) (x ∷ xs) a = all_drop P n xs a.1

  pub all_take : (P : A → Type 0) (n : ℕ) (xs : List A) → All P xs → All P (take n xs)
  all_take P zero xs a = tt
  all_take P (suc n) [] a = tt
  all_take P (suc n) (x ∷ xs) a = (a.0, all_take P n xs a.1)

  pub all_snoc : (P : A → Type 0) (xs : List A) (x : A) → All P xs → P x → All P (xs ++ (x ∷ []))
  all_snoc P [] x a p = (p, tt)
  all_snoc P (y ∷ xs) x a p = (a.0, all_snoc P xs x a.1 p)

-- ---- what is in a list

-- x stands at some place of a list
pub record Among (x : ℕ) (xs : List ℕ) : Type 0 where
  pub place : ℕ
  pub inside : place < length xs
  pub there : get_or xs place 0 ≡ x

-- x stands at no place of a list
pub record Missing (x : ℕ) (xs : List ℕ) : Type 0 where
  pub not_at : (i : ℕ) → i < length xs → get_or xs i 0 ≢ x

pub in_among : (x : ℕ) (xs : List ℕ) → is_in x xs ≡ true → Among x xs
unfolding is_in
in_among x [] e = absurd (false≢true e)
in_among x (y ∷ ys) e =
    elim (ℕ_discrete x y) [
      | yes h ↦ record { place = zero; inside = suc-le-suc zero-le; there = sym h }
      | no h ↦ let r : is_in x ys ≡ true = rw (ne_eqb x y h) at e in
          let m = in_among x ys r in
          record { place = suc m.place; inside = suc-le-suc m.inside; there = m.there }
    ]

pub at_in : (x : ℕ) (xs : List ℕ) (i : ℕ) → i < length xs → get_or xs i 0 ≡ x → is_in x xs ≡ true
unfolding is_in
at_in x [] i h e = let z : ⊥ = omega arith in absurd z
at_in x (y ∷ ys) zero h e = rw (eq-eqb x y (sym e))
at_in x (y ∷ ys) (suc i) h e =
    elim (ℕ_discrete x y) [
      | yes q ↦ rw (eq-eqb x y q)
      | no q ↦ rw (ne_eqb x y q) (at_in x ys i (le_of_suc-le-suc h) e)
    ]

-- x is in a list exactly when it stands at some place of it
pub in_exactly : (x : ℕ) (xs : List ℕ) → (is_in x xs ≡ true) ↔ Among x xs
in_exactly x xs = (in_among x xs, λ m. at_in x xs m.place m.inside m.there)

pub in_missing : (x : ℕ) (xs : List ℕ) → is_in x xs ≡ false → Missing x xs
in_missing x xs e =
    record { not_at = λ i h q. false≢true (sym e ∙ at_in x xs i h q) }

pub missing_in : (x : ℕ) (xs : List ℕ) → Missing x xs → is_in x xs ≡ false
unfolding is_in
missing_in x [] m = refl
missing_in x (y ∷ ys) m =
    rw (ne_eqb x y (λ e. m.not_at zero (suc-le-suc zero-le) (sym e)))
    (missing_in x ys (record { not_at = λ i h. m.not_at (suc i) (suc-le-suc h) }))

-- ---- two lists that are the same

pub same_self : (xs : List ℕ) → same xs xs ≡ true
unfolding same
same_self [] = refl
same_self (x ∷ xs) = rw (eq-eqb x x refl) (same_self xs)

pub same_true : (xs ys : List ℕ) → same xs ys ≡ true → xs ≡ ys
unfolding same
same_true [] [] e = refl
same_true [] (y ∷ ys) e = absurd (false≢true e)
same_true (x ∷ xs) [] e = absurd (false≢true e)
same_true (x ∷ xs) (y ∷ ys) e =
    let p = both_held (eqb x y) (same xs ys) e in ap₂ (λ (z : ℕ) (zs : List ℕ). z ∷ zs) (eqb-true x y p.0) (same_true xs ys p.1)

-- place by place: xs as long as ys, and what is compared is left from place i on
module _ (xs ys : List ℕ) (e : length xs ≡ length ys) (i : ℕ) where
  pub same_on : i < length xs → get_or xs i 0 ≡ get_or ys i 0 → same (drop i xs) (drop i ys) ≡ same (drop (i + 1) xs) (drop (i + 1) ys)
  unfolding same
  same_on h q = rw (left xs i 0 h, left ys i 0 (omega arith), eq-eqb (get_or xs i 0) (get_or ys i 0) q)

  pub same_not : i < length xs → (get_or xs i 0 ≡ get_or ys i 0 → ⊥) → same (drop i xs) (drop i ys) ≡ false
  unfolding same
  same_not h q = rw (left xs i 0 h, left ys i 0 (omega arith), ne_eqb (get_or xs i 0) (get_or ys i 0) q)

  pub same_end : length xs ≤ i → same (drop i xs) (drop i ys) ≡ true
  unfolding same
  same_end h = let g : length ys ≤ i = omega arith in rw (drop_of_length-le xs h, drop_of_length-le ys g)

-- what each element passes, x passes where it is among them
pub every-at : (f : ℕ → Bool) (xs : List ℕ) (x : ℕ) → every f xs ≡ true → is_in x xs ≡ true → f x ≡ true
unfolding is_in
every-at f [] x h e = absurd (false≢true e)
every-at f (y ∷ ys) x h e =
    elim (ℕ_discrete x y) [
      | yes q ↦ ap f q ∙ (both_held (f y) (every f ys) h).0
      | no q ↦ every-at f ys x (both_held (f y) (every f ys) h).1 (rw (ne_eqb x y q) at e)
    ]

-- x is in two lists together where it is in one of them
pub in_left : (x : ℕ) (xs ys : List ℕ) → is_in x xs ≡ true → is_in x (xs ++ ys) ≡ true
in_left x xs ys e =
    let m = in_among x xs e in
    at_in x (xs ++ ys) m.place (omega (arith, m.inside, length-append xs ys)) (get_or-append xs ys 0 m.place m.inside ∙ m.there)

pub in_right : (x : ℕ) (xs ys : List ℕ) → is_in x ys ≡ true → is_in x (xs ++ ys) ≡ true
in_right x xs ys e =
    let m = in_among x ys e in
    at_in x (xs ++ ys) (length xs + m.place) (omega (arith, m.inside, length-append xs ys)) (get_or-append-add xs ys m.place 0 ∙ m.there)

-- ---- one more at the end

pub snoc_last : (xs : List ℕ) (x : ℕ) → get_or (xs ++ (x ∷ [])) (length (xs ++ (x ∷ [])) - 1) 0 ≡ x
snoc_last xs x =
    let e : length (xs ++ (x ∷ [])) - 1 ≡ length xs = omega (arith, length_snoc xs x) in
    ap (λ (i : ℕ). get_or (xs ++ (x ∷ [])) i 0) e ∙ get_or-append_seam xs x [] 0

pub snoc_at : (xs : List ℕ) (x i : ℕ) → i < length xs → get_or (xs ++ (x ∷ [])) i 0 ≡ get_or xs i 0
snoc_at xs x i h = get_or-append xs (x ∷ []) 0 i h

pub in_snoc : (x : ℕ) (xs : List ℕ) (y : ℕ) → is_in x (xs ++ (y ∷ [])) ≡ is_in x xs || eqb x y
unfolding is_in
in_snoc x [] y = or-false (eqb x y)
in_snoc x (z ∷ zs) y = ap (λ (b : Bool). eqb x z || b) (in_snoc x zs y) ∙ sym (or_assoc (eqb x z) (is_in x zs) (eqb x y))

pub once_snoc : (xs : List ℕ) (x : ℕ) → Once (xs ++ (x ∷ [])) ↔ (Once xs × (is_in x xs ≡ false))
once_snoc xs x = (there, λ p. back p.0 p.1)
  where
    there : Once (xs ++ (x ∷ [])) → Once xs × (is_in x xs ≡ false)
    there h = (
      record { apart = λ i j p q e. h.apart i j p (omega (arith, length_snoc xs x)) (snoc_at xs x i (omega arith) ∙ e ∙ sym (snoc_at xs x j q)) },
      missing_in x xs (record { not_at = λ i p e. h.apart i (length xs) p (omega (arith, length_snoc xs x)) (snoc_at xs x i p ∙ e ∙ sym (get_or-append_seam xs x [] 0)) }),
    )

    back : Once xs → is_in x xs ≡ false → Once (xs ++ (x ∷ []))
    back h m =
        record {
          apart = λ i j p q e.
              elim (ℕ_discrete j (length xs)) [
                | yes y ↦ (in_missing x xs m).not_at i (omega arith) (sym (snoc_at xs x i (omega arith)) ∙ e ∙ ap (λ (k : ℕ). get_or (xs ++ (x ∷ [])) k 0) y ∙ get_or-append_seam xs x [] 0)
                | no y ↦ let jl : j < length xs = omega (arith, length_snoc xs x) in
                    h.apart i j p jl (sym (snoc_at xs x i (omega arith)) ∙ e ∙ snoc_at xs x j jl)
              ];
        }

-- the front of a list has nothing twice where the whole has not
pub once-front : (xs ys : List ℕ) → Once (xs ++ ys) → Once xs
once-front xs ys h =
    record { apart = λ i j p q e. h.apart i j p (omega (arith, length-append xs ys)) (get_or-append xs ys 0 i (omega arith) ∙ e ∙ sym (get_or-append xs ys 0 j q)) }

-- ---- backwards

pub reverse-at : (xs : List ℕ) (i : ℕ) → i < length xs → get_or (reverse xs) i 0 ≡ get_or xs (length xs - suc i) 0
reverse-at [] i h = let z : ⊥ = omega arith in absurd z
reverse-at (x ∷ xs) i h =
    ap (λ (l : List ℕ). get_or l i 0) (reverse-cons x xs)
    ∙ elim (ℕ_discrete i (length xs)) [
      | yes y ↦ let e : i ≡ length (reverse xs) = omega (arith, length-reverse xs) in
          let f : suc (length xs) - suc i ≡ 0 = omega arith in
          ap (λ (j : ℕ). get_or (reverse xs ++ (x ∷ [])) j 0) e ∙ get_or-append_seam (reverse xs) x [] 0 ∙ ap (λ (j : ℕ). get_or (x ∷ xs) j 0) (sym f)
      | no y ↦ let q : i < length xs = omega arith in
          let f : suc (length xs) - suc i ≡ suc (length xs - suc i) = omega arith in
          snoc_at (reverse xs) x i (omega (arith, length-reverse xs)) ∙ reverse-at xs i q ∙ ap (λ (j : ℕ). get_or (x ∷ xs) j 0) (sym f)
    ]

pub once-reverse : (xs : List ℕ) → Once xs → Once (reverse xs)
once-reverse xs h =
    record {
      apart = λ i j p q e.
          let jl : j < length xs = omega (arith, length-reverse xs) in
          h.apart (length xs - suc j) (length xs - suc i) (omega arith) (omega arith) (sym (reverse-at xs j jl) ∙ sym e ∙ reverse-at xs i (omega arith));
    }

pub apart_sym : (xs ys : List ℕ) → Apart xs ys → Apart ys xs
apart_sym xs ys h = record { apart = λ i j p q e. h.apart j i q p (sym e) }

pub apart-reverse : (xs ys : List ℕ) → Apart xs ys → Apart (reverse xs) (reverse ys)
apart-reverse xs ys h =
    record {
      apart = λ i j p q e.
          let il : i < length xs = omega (arith, length-reverse xs) in
          let jl : j < length ys = omega (arith, length-reverse ys) in
          h.apart (length xs - suc i) (length ys - suc j) (omega arith) (omega arith) (sym (reverse-at xs i il) ∙ e ∙ reverse-at ys j jl);
    }

-- ---- elements in turn

pub length_turn : (f : ℕ → ℕ → ℕ) (xs : List ℕ) → length (in_turn f xs) ≡ length xs - 1
unfolding in_turn
length_turn f [] = refl
length_turn f (x ∷ []) = refl
length_turn f (x ∷ y ∷ ys) = let e = length_turn f (y ∷ ys) in omega arith

pub turn_at : (f : ℕ → ℕ → ℕ) (xs : List ℕ) (i : ℕ) → suc i < length xs → get_or (in_turn f xs) i 0 ≡ f (get_or xs i 0) (get_or xs (suc i) 0)
unfolding in_turn
turn_at f [] i h = let z : ⊥ = omega arith in absurd z
turn_at f (x ∷ []) i h = let z : ⊥ = omega arith in absurd z
turn_at f (x ∷ y ∷ ys) zero h = refl
turn_at f (x ∷ y ∷ ys) (suc i) h = turn_at f (y ∷ ys) i (le_of_suc-le-suc h)

-- one more at the end adds what f gives of the last and the new one
pub turn_snoc : (f : ℕ → ℕ → ℕ) (xs : List ℕ) (y : ℕ) → 0 < length xs → in_turn f (xs ++ (y ∷ [])) ≡ in_turn f xs ++ (f (get_or xs (length xs - 1) 0) y ∷ [])
unfolding in_turn
turn_snoc f [] y h = let z : ⊥ = omega arith in absurd z
turn_snoc f (x ∷ []) y h = refl
turn_snoc f (x ∷ z ∷ zs) y h =
    let e : suc (length (z ∷ zs) - 1) ≡ length (x ∷ z ∷ zs) - 1 = omega arith in
    ap (λ (l : List ℕ). f x z ∷ l) (turn_snoc f (z ∷ zs) y (suc-le-suc zero-le))
    ∙ ap (λ (k : ℕ). f x z ∷ (in_turn f (z ∷ zs) ++ (f (get_or (x ∷ z ∷ zs) k 0) y ∷ []))) e

-- two in turn agree where f and g agree on each two in a row
pub turn_same : (f g : ℕ → ℕ → ℕ) (xs : List ℕ) → ((i : ℕ) → suc i < length xs → f (get_or xs i 0) (get_or xs (suc i) 0) ≡ g (get_or xs i 0) (get_or xs (suc i) 0)) → in_turn f xs ≡ in_turn g xs
turn_same f g xs h =
    ext_get_or 0 (in_turn f xs) (in_turn g xs) (length_turn f xs ∙ sym (length_turn g xs))
    (λ i p. let q : suc i < length xs = omega (arith, length_turn f xs) in turn_at f xs i q ∙ h i q ∙ sym (turn_at g xs i q))

-- backwards each two are met the other way round
pub turn_reverse : (f : ℕ → ℕ → ℕ) (xs : List ℕ) → in_turn f (reverse xs) ≡ reverse (in_turn (λ x y. f y x) xs)
turn_reverse f xs =
    ext_get_or 0 (in_turn f (reverse xs)) (reverse ys)
    (omega (arith, length_turn f (reverse xs), length_turn g xs, length-reverse xs, length-reverse ys))
    (λ i p.
    let q : suc i < length (reverse xs) = omega (arith, length_turn f (reverse xs)) in
    let r : suc i < length xs = omega (arith, length-reverse xs) in
    let w : i < length ys = omega (arith, length_turn g xs) in
    let e : length ys - suc i ≡ length xs - suc (suc i) = omega (arith, length_turn g xs) in
    let u : suc (length xs - suc (suc i)) ≡ length xs - suc i = omega arith in
    turn_at f (reverse xs) i q
    ∙ ap (λ (x : ℕ). f x (get_or (reverse xs) (suc i) 0)) (reverse-at xs i (omega arith))
    ∙ ap (λ (y : ℕ). f (get_or xs (length xs - suc i) 0) y) (reverse-at xs (suc i) r)
    ∙ ap (λ (k : ℕ). f (get_or xs k 0) (get_or xs (length xs - suc (suc i)) 0)) (sym u)
    ∙ sym (turn_at g xs (length xs - suc (suc i)) (omega arith))
    ∙ ap (λ (k : ℕ). get_or ys k 0) (sym e)
    ∙ sym (reverse-at ys i w))
  where
    g : ℕ → ℕ → ℕ
    g = λ x y. f y x

    ys : List ℕ
    ys = in_turn g xs

-- nothing twice in the turns of the front where not in those of the whole
pub turn_front : (f : ℕ → ℕ → ℕ) (xs ys : List ℕ) → Once (in_turn f (xs ++ ys)) → Once (in_turn f xs)
turn_front f xs ys h =
    record {
      apart = λ i j p q e.
          h.apart i j p (omega (arith, length_turn f xs, length_turn f (xs ++ ys), length-append xs ys)) (same i (omega arith) ∙ e ∙ sym (same j q));
    }
  where
    same : (i : ℕ) → i < length (in_turn f xs) → get_or (in_turn f (xs ++ ys)) i 0 ≡ get_or (in_turn f xs) i 0
    same i h =
        let p : suc i < length xs = omega (arith, length_turn f xs) in
        turn_at f (xs ++ ys) i (omega (arith, length-append xs ys))
        ∙ ap (λ (x : ℕ). f x (get_or (xs ++ ys) (suc i) 0)) (get_or-append xs ys 0 i (omega arith))
        ∙ ap (λ (y : ℕ). f (get_or xs i 0) y) (get_or-append xs ys 0 (suc i) p)
        ∙ sym (turn_at f xs i p)

-- ---- the middle

pub length-middle : (xs : List ℕ) → length (middle xs) ≡ length xs - 2
unfolding middle
length-middle xs = length-take-le (length xs - 2) (drop 1 xs) (omega (arith, length-drop 1 xs))

pub middle-at : (xs : List ℕ) (i : ℕ) → i < length xs - 2 → get_or (middle xs) i 0 ≡ get_or xs (suc i) 0
unfolding middle
middle-at xs i h =
    let e : 1 + i ≡ suc i = omega arith in
    get_or-take (length xs - 2) (drop 1 xs) i 0 h ∙ get_or-drop 1 xs i 0 ∙ ap (λ (k : ℕ). get_or xs k 0) e

-- one element more at the end is one more in turn at the beginning of the way back
pub turn_back : (f : ℕ → ℕ → ℕ) (xs : List ℕ) (x y : ℕ) → in_turn f (reverse ((xs ++ (x ∷ [])) ++ (y ∷ []))) ≡ f y x ∷ in_turn f (reverse (xs ++ (x ∷ [])))
unfolding in_turn
turn_back f xs x y = rw (reverse-append (xs ++ (x ∷ [])) (y ∷ []), reverse-append xs (x ∷ []))

pub middle-reverse : (xs : List ℕ) → middle (reverse xs) ≡ reverse (middle xs)
middle-reverse xs =
    ext_get_or 0 (middle (reverse xs)) (reverse (middle xs))
    (omega (arith, length-middle (reverse xs), length-middle xs, length-reverse xs, length-reverse (middle xs)))
    (λ i p.
    let q : i < length xs - 2 = omega (arith, length-middle (reverse xs), length-reverse xs) in
    let w : i < length (middle xs) = omega (arith, length-middle xs) in
    let e : length xs - suc (suc i) ≡ suc (length (middle xs) - suc i) = omega (arith, length-middle xs) in
    middle-at (reverse xs) i (omega (arith, length-reverse xs))
    ∙ reverse-at xs (suc i) (omega arith)
    ∙ ap (λ (k : ℕ). get_or xs k 0) e
    ∙ sym (middle-at xs (length (middle xs) - suc i) (omega (arith, length-middle xs)))
    ∙ sym (reverse-at (middle xs) i w))

-- ---- filling up

pub length-filled : (m : ℕ) (xs : List ℕ) → length xs ≤ m → length (filled m xs) ≡ m
unfolding filled
length-filled m xs h = omega (arith, length-append xs (replicate (m - length xs) 0), length-replicate {A = ℕ} (m - length xs) 0)

pub take-filled : (m : ℕ) (xs : List ℕ) → take (length xs) (filled m xs) ≡ xs
unfolding filled
take-filled m xs = take-append_seam xs (replicate (m - length xs) 0)

-- zeros past the end are not seen
pub pad_at : (xs : List ℕ) (n i : ℕ) → get_or (xs ++ replicate n 0) i 0 ≡ get_or xs i 0
pad_at [] n i = same_at 0 n i
pad_at (x ∷ xs) n zero = refl
pad_at (x ∷ xs) n (suc i) = pad_at xs n i

pub filled_at : (m : ℕ) (xs : List ℕ) (i : ℕ) → get_or (filled m xs) i 0 ≡ get_or xs i 0
unfolding filled
filled_at m xs i = pad_at xs (m - length xs) i

pub filled-past : (m : ℕ) (xs : List ℕ) (i : ℕ) → length xs ≤ i → get_or (filled m xs) i 0 ≡ 0
filled-past m xs i h = filled_at m xs i ∙ get_or-eq_default xs 0 h

-- what stands in n places, of which all after the first m are zero
pub filled_is : (n : ℕ) (l : List ℕ) (m : ℕ) → m ≤ n → length l ≡ n → drop m l ≡ replicate (n - m) 0 → filled n (take m l) ≡ l
unfolding filled
filled_is n l m h e r = let q : m ≤ length l = omega arith in rw (length-take-le m l q, ← r) (take-append-drop m l)

pub drop-zeros : (n m : ℕ) → drop {A = ℕ} n (replicate m 0) ≡ replicate (m - n) 0
drop-zeros zero m = let e : m ≡ m - 0 = omega arith in ap (λ (x : ℕ). replicate {A = ℕ} x 0) e
drop-zeros (suc n) zero = let e : 0 ≡ 0 - suc n = omega arith in ap (λ (x : ℕ). replicate {A = ℕ} x 0) e
drop-zeros (suc n) (suc m) = let e : m - n ≡ suc m - suc n = omega arith in drop-zeros n m ∙ ap (λ (x : ℕ). replicate {A = ℕ} x 0) e

-- one of the zeros is taken
pub rest_on : (n : ℕ) (l : List ℕ) (m x : ℕ) → drop m l ≡ replicate (n - m) 0 → drop (m + 1) (set l m x) ≡ replicate (n - (m + 1)) 0
rest_on n l m x r =
    let e : n - m - 1 ≡ n - (m + 1) = omega arith in
    drop-set-lt (m + 1) l m x (omega arith)
    ∙ sym (drop-drop 1 m l)
    ∙ ap (drop 1) r
    ∙ drop-zeros 1 (n - m)
    ∙ ap (λ (k : ℕ). replicate {A = ℕ} k 0) e
