-- Laws of lines: the parts of a text before and after a byte, by their lengths.
use Prim.Native.Nat.{ℕ, suc, ◌+◌, ◌-◌, ◌≤◌, ◌<◌}
use mathlib.Core.Path.{◌≡◌, refl, sym, ap, subst, ◌∙◌}
use mathlib.Core.Logic.{◌≢◌}
use mathlib.Core.List.{List, [], ◌∷◌}
use native.Mathlib.Numerals.{add-one}
use native.Mathlib.Omega.{arith}
use native.Mathlib.Decide.{ℕ_discrete, dec_lt}
use lib.Dec.{eqb}
use lib.ListN.{length, take, drop, length-drop}
use lib.Seq.{take_all}
use borrow.Author.Tests.{eq-eqb, ne_eqb, lt-ltb, le-ltb}
use Rattle.std.specs.Prelude.{Option, None, Some, MatchOption, min, cond, position}
use Rattle.std.specs.Option.{unwrap_or}
use Rattle.std.proofs.lemmas.Option.{MatchOption-at_none, MatchOption-at_some}
use Rattle.std.specs.List.{position_or_len}
use Rattle.std.proofs.lemmas.List.Recursion.{is_position_or_len}
use Rattle.desk_line.specs.Lines.{newline, before, after, line_size}

-- ---- one byte

pub before_stop : (c b : ℕ) (bs : List ℕ) → b ≡ c → before c (b ∷ bs) ≡ []
unfolding before
before_stop c b bs e = rw (eq-eqb b c e)

pub before_more : (c b : ℕ) (bs : List ℕ) → b ≢ c → before c (b ∷ bs) ≡ b ∷ before c bs
unfolding before
before_more c b bs h = rw (ne_eqb b c h)

pub size_stop : (b : ℕ) (bs : List ℕ) → b ≡ newline → line_size (b ∷ bs) ≡ 1
unfolding line_size
size_stop b bs e = rw (eq-eqb b newline e)

pub size_on : (b : ℕ) (bs : List ℕ) → b ≢ newline → line_size (b ∷ bs) ≡ suc (line_size bs)
unfolding line_size
size_on b bs h = rw (ne_eqb b newline h)

-- ---- the parts as parts of the text

pub before_le : (c : ℕ) (xs : List ℕ) → length (before c xs) ≤ length xs
unfolding before
before_le c [] = omega arith
before_le c (b ∷ bs) =
    elim (ℕ_discrete b c) [
      | yes q ↦ rw (eq-eqb b c q) (omega arith)
      | no q ↦ rw (ne_eqb b c q) (omega (arith, before_le c bs))
    ]

pub before-take : (c : ℕ) (xs : List ℕ) → take (length (before c xs)) xs ≡ before c xs
unfolding before
before-take c [] = refl
before-take c (b ∷ bs) =
    elim (ℕ_discrete b c) [
      | yes q ↦ rw (eq-eqb b c q)
      | no q ↦ rw (ne_eqb b c q) (ap (λ (l : List ℕ). b ∷ l) (before-take c bs))
    ]

pub after-drop : (c : ℕ) (xs : List ℕ) → length (before c xs) < length xs → drop (suc (length (before c xs))) xs ≡ after c xs
unfolding before after
after-drop c [] h = refl
after-drop c (b ∷ bs) h =
    elim (ℕ_discrete b c) [
      | yes q ↦ rw (eq-eqb b c q)
      | no q ↦ let k : length (before c bs) < length bs = omega (arith, ap length (before_more c b bs q)) in
          rw (ne_eqb b c q) (after-drop c bs k)
    ]

pub after_none : (c : ℕ) (xs : List ℕ) → length xs ≤ length (before c xs) → after c xs ≡ []
unfolding before after
after_none c [] h = refl
after_none c (b ∷ bs) h =
    elim (ℕ_discrete b c) [
      | yes q ↦ let z : ⊥ = omega (arith, ap length (before_stop c b bs q)) in absurd z
      | no q ↦ let k : length bs ≤ length (before c bs) = omega (arith, ap length (before_more c b bs q)) in
          rw (ne_eqb b c q) (after_none c bs k)
    ]

-- ---- how long the line is

pub size_with : (xs : List ℕ) → length (before newline xs) < length xs → line_size xs ≡ suc (length (before newline xs))
size_with [] h = let z : ⊥ = omega arith in absurd z
size_with (b ∷ bs) h =
    elim (ℕ_discrete b newline) [
      | yes q ↦ omega (arith, size_stop b bs q, ap length (before_stop newline b bs q))
      | no q ↦ let e = ap length (before_more newline b bs q) in
          omega (arith, size_on b bs q, e, size_with bs (omega (arith, e)))
    ]

pub size_without : (xs : List ℕ) → length xs ≤ length (before newline xs) → line_size xs ≡ length (before newline xs)
unfolding before line_size
size_without [] h = refl
size_without (b ∷ bs) h =
    elim (ℕ_discrete b newline) [
      | yes q ↦ let z : ⊥ = omega (arith, ap length (before_stop newline b bs q)) in absurd z
      | no q ↦ let e = ap length (before_more newline b bs q) in
          omega (arith, size_on b bs q, e, size_without bs (omega (arith, e)))
    ]

-- ---- the first byte c, as the program searches for it

first-at : (c : ℕ) (xs : List ℕ) → length (before c xs) ≡ position_or_len (λ b. eqb b c) xs
unfolding before
first-at c = is_position_or_len (λ xs. length (before c xs)) (λ b. eqb b c) refl one
  where
    one : (b : ℕ) (bs : List ℕ) → length (before c (b ∷ bs)) ≡ cond (eqb b c) 0 (1 + length (before c bs))
    one b bs =
        elim (ℕ_discrete b c) [
          | yes q ↦ rw (eq-eqb b c q)
          | no q ↦ rw (ne_eqb b c q) (omega arith)
        ]

-- it stands behind the part before it, or nowhere
found : (c : ℕ) (xs : List ℕ) → MatchOption (position (λ b. eqb b c) xs) (length xs ≡ length (before c xs)) (λ e. (e ≡ length (before c xs)) × (e < length xs))
found c xs =
    elim (dec_lt (position_or_len (λ b. eqb b c) xs) (length xs)) [
      | yes k ↦ rw (lt-ltb (position_or_len (λ b. eqb b c) xs) (length xs) k) (sym (first-at c xs), k)
      | no k ↦ let l : length xs ≤ position_or_len (λ b. eqb b c) xs = omega arith in
          rw (le-ltb (position_or_len (λ b. eqb b c) xs) (length xs) l) (omega (arith, first-at c xs, before_le c xs))
    ]

module _ (c : ℕ) (xs : List ℕ) {o : Option ℕ} (p : o ≡ position (λ b. eqb b c) xs) where
  pub found-end : {e : ℕ} → e ≡ unwrap_or o (length xs) → e ≡ length (before c xs)
  found-end f = f ∙ go o (subst (λ (x : Option ℕ). MatchOption x (length xs ≡ length (before c xs)) (λ e. (e ≡ length (before c xs)) × (e < length xs))) (sym p) (found c xs))
    where
      go : (x : Option ℕ) → MatchOption x (length xs ≡ length (before c xs)) (λ e. (e ≡ length (before c xs)) × (e < length xs)) → unwrap_or x (length xs) ≡ length (before c xs)
      go None h = h
      go (Some e) h = h.0

  pub found_none : o ≡ None → length xs ≡ length (before c xs)
  found_none n = MatchOption-at_none _ _ (sym p ∙ n) (found c xs)

  module _ (e : ℕ) (s : o ≡ Some e) where
    at : (e ≡ length (before c xs)) × (e < length xs)
    at = MatchOption-at_some _ _ e (sym p ∙ s) (found c xs)

    pub found_within : e < length xs
    found_within = at.1

    pub found-long : e ≡ length (before c xs)
    found-long = at.0

pub before_all : (c : ℕ) (xs : List ℕ) → length xs ≡ length (before c xs) → xs ≡ before c xs
before_all c xs h = sym (take_all (length (before c xs)) xs (omega arith)) ∙ before-take c xs

module _ (c : ℕ) (xs : List ℕ) (e : ℕ) (h : e ≡ length (before c xs)) where
  pub part_before : take e xs ≡ before c xs
  part_before = ap (λ (m : ℕ). take m xs) h ∙ before-take c xs

  pub part-after : e < length xs → take (length xs - (e + 1)) (drop (e + 1) xs) ≡ after c xs
  part-after k =
      let l : length (before c xs) < length xs = omega arith in
      let q : length (drop (e + 1) xs) ≤ length xs - (e + 1) = omega (arith, length-drop (e + 1) xs) in
      take_all (length xs - (e + 1)) (drop (e + 1) xs) q
      ∙ ap (λ (m : ℕ). drop m xs) (add-one e ∙ ap suc h)
      ∙ after-drop c xs l

-- ---- how long the line is, from where it ends

pub line-long : (xs : List ℕ) (e : ℕ) → e ≡ length (before newline xs) → min (length xs) (e + 1) ≡ line_size xs
line-long xs e h =
    elim (dec_lt e (length xs)) [
      | yes k ↦ let l : length (before newline xs) < length xs = omega arith in omega (arith, size_with xs l)
      | no k ↦ let l : length xs ≤ length (before newline xs) = omega arith in omega (arith, size_without xs l, before_le newline xs)
    ]
