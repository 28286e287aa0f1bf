-- How many numbers below one pass a test, and which they are.
use Prim.Native.Nat.{ℕ, zero, suc, ◌+◌, ◌≤◌, ◌<◌}
use mathlib.Core.Path.{◌≡◌, refl, sym, ap, ap₂, ◌∙◌}
use mathlib.Core.Logic.{◌≢◌, ◌↔◌}
use mathlib.Core.Bool.{Bool, true, false, not, cond, ◌&&◌, and-true, and-false, true≢false, false≢true}
use mathlib.Core.List.{List, [], ◌∷◌}
use native.Mathlib.Omega.{arith}
use native.Mathlib.Decide.{ℕ_discrete}
use lib.Dec.{eqb}
use lib.ListN.{length, get_or}
use borrow.Author.Tests.{eq-eqb, ne_eqb}
use Rattle.lists.specs.Lists.{is_in, Once}
use Rattle.lists.proofs.ListLaws.{at_in, in_among}

-- 1 for a test that holds
abbrev pub one : Bool → ℕ
one b = cond b 1 0

-- how many numbers below m pass the test p
unfoldable pub many : (ℕ → Bool) → ℕ → ℕ
many p zero = 0
many p (suc m) = many p m + one (p m)

one-most : (b : Bool) → one b ≤ 1
one-most true = omega arith
one-most false = omega arith

one-held : (b : Bool) → one b ≡ 1 → b ≡ true
one-held true e = refl
one-held false e = let z : ⊥ = omega arith in absurd z

-- tests that agree below m
pub many_same : (p q : ℕ → Bool) (m : ℕ) → ((x : ℕ) → x < m → p x ≡ q x) → many p m ≡ many q m
unfolding many
many_same p q zero h = refl
many_same p q (suc m) h =
    ap₂ (λ (x : ℕ) (b : Bool). x + one b) (many_same p q m (λ x i. h x (omega arith))) (h m (omega arith))

-- at most all
pub many_most : (p : ℕ → Bool) (m : ℕ) → many p m ≤ m
unfolding many
many_most p zero = omega arith
many_most p (suc m) = omega (arith, many_most p m, one-most (p m))

pub many_none : (p : ℕ → Bool) (m : ℕ) → ((x : ℕ) → x < m → p x ≡ false) → many p m ≡ 0
unfolding many
many_none p zero h = refl
many_none p (suc m) h = omega (arith, many_none p m (λ x i. h x (omega arith)), ap one (h m (omega arith)))

-- all exactly where each passes
pub many_all : (p : ℕ → Bool) (m : ℕ) → (many p m ≡ m) ↔ ((x : ℕ) → x < m → p x ≡ true)
unfolding many
many_all p m = (there m, back m)
  where
    there : (m : ℕ) → many p m ≡ m → (x : ℕ) → x < m → p x ≡ true
    there zero e x i = let z : ⊥ = omega arith in absurd z
    there (suc m) e x i =
        elim (ℕ_discrete x m) [
          | yes q ↦ ap p q ∙ one-held (p m) (omega (arith, many_most p m, one-most (p m)))
          | no q ↦ there m (omega (arith, many_most p m, one-most (p m))) x (omega arith)
        ]

    back : (m : ℕ) → ((x : ℕ) → x < m → p x ≡ true) → many p m ≡ m
    back zero h = refl
    back (suc m) h = omega (arith, back m (λ x i. h x (omega arith)), ap one (h m (omega arith)))

-- tests that agree but at y, which q does not pass
pub many_but : (p q : ℕ → Bool) (y m : ℕ) → y < m → q y ≡ false → ((x : ℕ) → x ≢ y → p x ≡ q x) → many p m ≡ many q m + one (p y)
unfolding many
many_but p q y zero h e d = let z : ⊥ = omega arith in absurd z
many_but p q y (suc m) h e d =
    elim (ℕ_discrete y m) [
      | yes i ↦ omega (arith, many_same p q m (λ x j. d x (λ k. omega arith)), ap (λ (x : ℕ). one (p x)) i, ap one (sym (ap q i) ∙ e))
      | no i ↦ omega (arith, many_but p q y m (omega arith) e d, ap one (d m (λ k. i (sym k))))
    ]

-- counted another way: f gives b different numbers below m, among them each that passes
pub many_through : (f : ℕ → ℕ) (m b : ℕ) (p : ℕ → Bool) → ((v : ℕ) → v < b → f v < m) → ((u v : ℕ) → u < v → v < b → f u ≢ f v) → ((x : ℕ) → x < m → p x ≡ true → (v : ℕ) × (v < b) × (f v ≡ x)) → many p m ≡ many (λ v. p (f v)) b
unfolding many
many_through f m zero p below apart each = many_none p m (λ x i. none (p x) (each x i))
  where
    none : {x : ℕ} (t : Bool) → (t ≡ true → (v : ℕ) × (v < 0) × (f v ≡ x)) → t ≡ false
    none true h = let z = h refl in let n : ⊥ = omega (arith, z.1) in absurd n
    none false h = refl
many_through f m (suc b) p below apart each =
    many_but p q (f b) m (below b (omega arith)) own other
    ∙ ap (λ (x : ℕ). x + one (p (f b)))
    (many_through f m b q (λ v i. below v (omega arith)) (λ u v i j. apart u v i (omega arith)) rest
    ∙ many_same (λ v. q (f v)) (λ v. p (f v)) b (λ v i. sym (other (f v) (apart v b i (omega arith)))))
  where
    -- all but the last
    q : ℕ → Bool
    q x = p x && not (eqb x (f b))

    own : q (f b) ≡ false
    own = ap (λ (t : Bool). p (f b) && not t) (eq-eqb (f b) (f b) refl) ∙ and-false (p (f b))

    other : (x : ℕ) → x ≢ f b → p x ≡ q x
    other x n = sym (ap (λ (t : Bool). p x && not t) (ne_eqb x (f b) n) ∙ and-true (p x))

    rest : (x : ℕ) → x < m → q x ≡ true → (v : ℕ) × (v < b) × (f v ≡ x)
    rest x i e =
        elim (ℕ_discrete x (f b)) [
          | yes n ↦ let z : true ≡ false = sym e ∙ ap q n ∙ own in absurd (true≢false z)
          | no n ↦ let g = each x i (other x n ∙ e) in
              (g.0, omega (arith, g.1, last g.0 g.2 n), g.2)
        ]
      where
        last : (v : ℕ) → f v ≡ x → x ≢ f b → v ≢ b
        last v k n j = n (sym k ∙ ap f j)

-- ---- the numbers themselves

-- one more in front, which is not in the list
once_more : (x : ℕ) (xs : List ℕ) → (is_in x xs ≡ true → ⊥) → Once xs → Once (x ∷ xs)
once_more x xs n h = record { apart = apart }
  where
    apart : (i j : ℕ) → i < j → j < length (x ∷ xs) → get_or (x ∷ xs) i 0 ≢ get_or (x ∷ xs) j 0
    apart i zero p q e = omega arith
    apart zero (suc j) p q e = n (at_in x xs j (omega arith) (sym e))
    apart (suc i) (suc j) p q e = h.apart i j (omega arith) (omega arith) e

-- xs are exactly those below m that pass the test p, each once
pub record Listed (p : ℕ → Bool) (m : ℕ) (xs : List ℕ) : Type 0 where
  pub once : Once xs
  pub exactly : (x : ℕ) → (is_in x xs ≡ true) ↔ ((x < m) × (p x ≡ true))

listed-none : (p : ℕ → Bool) → Listed p 0 []
unfolding is_in
listed-none p =
    record { once = record { apart = λ i j h k. absurd (omega arith) }; exactly = λ x. (λ e. absurd (false≢true e), λ h. absurd (omega (arith, h.0))) }

-- one more number: it passes, or it does not
module _ {p : ℕ → Bool} {m : ℕ} {xs : List ℕ} (h : Listed p m xs) where
  on : (x : ℕ) → is_in x xs ≡ true → (x < suc m) × (p x ≡ true)
  on x e = let k = (h.exactly x).0 e in (omega (arith, k.0), k.1)

  listed_with : p m ≡ true → Listed p (suc m) (m ∷ xs)
  unfolding is_in
  listed_with q = record { once = once_more m xs (λ e. omega (arith, ((h.exactly m).0 e).0)) h.once; exactly = λ x. (there x, back x) }
    where
      there : (x : ℕ) → is_in x (m ∷ xs) ≡ true → (x < suc m) × (p x ≡ true)
      there x e = elim (ℕ_discrete x m) [ yes n ↦ (omega arith, ap p n ∙ q) | no n ↦ on x (rw (ne_eqb x m n) at e) ]

      back : (x : ℕ) → (x < suc m) × (p x ≡ true) → is_in x (m ∷ xs) ≡ true
      back x k = elim (ℕ_discrete x m) [ yes n ↦ rw (eq-eqb x m n) | no n ↦ rw (ne_eqb x m n) ((h.exactly x).1 (omega (arith, k.0), k.1)) ]

  listed_without : p m ≡ false → Listed p (suc m) xs
  listed_without q = record { once = h.once; exactly = λ x. (on x, back x) }
    where
      back : (x : ℕ) → (x < suc m) × (p x ≡ true) → is_in x xs ≡ true
      back x k =
          let n : x ≢ m = λ e. true≢false (sym k.1 ∙ ap p e ∙ q) in (h.exactly x).1 (omega (arith, k.0), k.1)

-- there is such a list
pub listed : (p : ℕ → Bool) (m : ℕ) → (xs : List ℕ) × Listed p m xs
listed p zero = ([], listed-none p)
listed p (suc m) = step (p m) refl (listed p m)
  where
    step : (b : Bool) → p m ≡ b → ((xs : List ℕ) × Listed p m xs) → (xs : List ℕ) × Listed p (suc m) xs
    step true q r = (m ∷ r.0, listed_with r.1 q)
    step false q r = (r.0, listed_without r.1 q)

-- and each is as long as they are many
pub listed-long : {p : ℕ → Bool} {m : ℕ} {xs : List ℕ} → Listed p m xs → length xs ≡ many p m
listed-long {p} {m} {xs} h =
    sym
    (many_through (λ i. get_or xs i 0) m (length xs) p (λ i j. (own i j).0) h.once.apart
    (λ x i k. let a = in_among x xs ((h.exactly x).1 (i, k)) in (a.place, a.inside, a.there))
    ∙ (many_all (λ i. p (get_or xs i 0)) (length xs)).1 (λ i j. (own i j).1))
  where
    own : (i : ℕ) → i < length xs → (get_or xs i 0 < m) × (p (get_or xs i 0) ≡ true)
    own i j = (h.exactly (get_or xs i 0)).0 (at_in (get_or xs i 0) xs i j refl)
