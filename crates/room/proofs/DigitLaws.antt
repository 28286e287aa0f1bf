-- Laws of digits to a base: writing and reading undo each other, and what changing or striking out a place does.
use Prim.Native.Nat.{ℕ, zero, suc, ◌+◌, ◌-◌, ◌*◌, ◌/◌, ◌%◌, ◌^◌, ◌≤◌, ◌<◌, zero-le, suc-le-suc}
use mathlib.Core.Path.{◌≡◌, refl, sym, ap, ap₂, ◌∙◌}
use mathlib.Core.Logic.{◌≢◌, ◌⊎◌, inl, inr, ⊎_elim}
use mathlib.Core.List.{List, [], ◌∷◌, ◌++◌}
use native.Mathlib.Nat.{mod-lt, mod-add-div, div-lt_iff_lt-mul, pow-zero, pow-suc, pow-succ', mod-eq_of_lt, div-eq_of_lt, zero-div, zero-add, mul-zero, mul_assoc, mul-add, add_assoc, mul_comm, mul-suc, mul-one, one-mul, add-mul-mod_self_left, add-mul-div_left, div-div-eq-div-mul, mod-one, div-one, pow-le-pow_left, pow-le-pow_right, one-le-pow, mul-le-mul_left, mul_left_comm, suc_inj, le_of_suc-le-suc, lt_of_lt_of_le, lt_of_le_of_lt, mod-le, le_trans, le_of_lt, zero-mod, suc-add}
use native.Mathlib.Numerals.{add-one}
use native.Mathlib.Omega.{arith}
use native.Mathlib.Decide.{dec_lt}
use lib.Dec.{lit<}
use lib.Arith.{mod-mul, lt-one}
use lib.ListN.{length, get_or, take, drop, set, replicate, length-set, length-drop}
use lib.Seq.{ext_get_or, set_split, get_or-set_other, length-take-le, get_or-drop, drop-cons}
use Rattle.lists.specs.Lists.{filled}
use Rattle.room.specs.Digits.{digits_of, address_of, strike, Below}

below_head : {n d : ℕ} {ds : List ℕ} → Below n (d ∷ ds) → d < n
below_head h = h.at zero (suc-le-suc zero-le)

below_tail : {n d : ℕ} {ds : List ℕ} → Below n (d ∷ ds) → Below n ds
below_tail h = record { at = λ i p. h.at (suc i) (suc-le-suc p) }

side : (i l : ℕ) → (i < l) ⊎ (l ≤ i)
side i l = elim (dec_lt i l) [ yes h ↦ inl h | no h ↦ inr (omega arith) ]

-- ---- the two ends of a number: its lowest digit and the rest

pub low : {n d : ℕ} (x : ℕ) → d < n → (d + n * x) % n ≡ d
low {n} {d} x h = add-mul-mod_self_left d n x ∙ mod-eq_of_lt h

pub high : {n d : ℕ} (x : ℕ) → d < n → (d + n * x) / n ≡ x
high {n} {d} x h = add-mul-div_left d x (omega arith) ∙ ap (λ (y : ℕ). y + x) (div-eq_of_lt h) ∙ zero-add x

pub rest_lt : (n m a : ℕ) → 0 < n → a < n ^ suc m → a / n < n ^ m
rest_lt n m a p h = (div-lt_iff_lt-mul p).1 (rw (← pow-suc) h)

pub rest-div : (n l a : ℕ) → a / n / n ^ l ≡ a / n ^ suc l
rest-div n l a = div-div-eq-div-mul a n (n ^ l) ∙ ap (λ (x : ℕ). a / x) (sym (pow-succ' n l))

pub rest_div' : (n l a : ℕ) → a / n ^ l / n ≡ a / n ^ suc l
rest_div' n l a = div-div-eq-div-mul a (n ^ l) n ∙ ap (λ (x : ℕ). a / x) (sym (pow-suc n l))

-- ---- the digits of a number

pub length_digits : (n m a : ℕ) → length (digits_of n m a) ≡ m
unfolding digits_of
length_digits n zero a = refl
length_digits n (suc m) a = ap suc (length_digits n m (a / n))

digits-at : (n m a : ℕ) → 0 < n → (i : ℕ) → get_or (digits_of n m a) i 0 < n
unfolding digits_of
digits-at n zero a p i = p
digits-at n (suc m) a p zero = mod-lt a p
digits-at n (suc m) a p (suc i) = digits-at n m (a / n) p i

pub digits-below : (n m a : ℕ) → 0 < n → Below n (digits_of n m a)
digits-below n m a p = record { at = λ i h. digits-at n m a p i }

-- ---- reading what was written, and writing what was read

pub address-digits : (n m a : ℕ) → 0 < n → a < n ^ m → address_of n (digits_of n m a) ≡ a
unfolding digits_of address_of
address-digits n zero a p h = sym (lt-one (rw pow-zero at h))
address-digits n (suc m) a p h =
    ap (λ (x : ℕ). a % n + n * x) (address-digits n m (a / n) p (rest_lt n m a p h)) ∙ mod-add-div a n

pub digits-address : (n : ℕ) (ds : List ℕ) → Below n ds → digits_of n (length ds) (address_of n ds) ≡ ds
unfolding digits_of address_of
digits-address n [] h = refl
digits-address n (d ∷ ds) h =
    let z : d < n = below_head h in
    rw (low (address_of n ds) z, high (address_of n ds) z) (ap (λ (x : List ℕ). d ∷ x) (digits-address n ds (below_tail h)))

pub address_lt : (n : ℕ) (ds : List ℕ) → Below n ds → address_of n ds < n ^ length ds
unfolding address_of
address_lt n [] h = omega (arith, pow-zero n)
address_lt n (d ∷ ds) h =
    let w : n * suc (address_of n ds) ≤ n * n ^ length ds = mul-le-mul_left n (address_lt n ds (below_tail h)) in
    rw pow-succ' (omega (arith, w, mul-suc n (address_of n ds), below_head h))

-- where the top digit is below m, the number is below m times the weight of its place
pub address-top : (n k m : ℕ) (ds : List ℕ) → length ds ≡ suc k → Below n ds → get_or ds k 0 < m → address_of n ds < m * n ^ k
unfolding address_of
address-top n k m [] l b h = omega arith
address-top n zero m (d ∷ []) l b h = rw (pow-zero, mul-one) (omega (arith, mul-zero n))
address-top n zero m (d ∷ e ∷ ds) l b h = omega arith
address-top n (suc k) m (d ∷ ds) l b h =
    let w : n * suc (address_of n ds) ≤ n * (m * n ^ k) = mul-le-mul_left n (address-top n k m ds (suc_inj l) (below_tail b) h) in
    rw (pow-succ', mul_left_comm) (omega (arith, w, mul-suc n (address_of n ds), below_head b))

-- ---- two that agree

pub address_injective : (n : ℕ) (ds es : List ℕ) → length ds ≡ length es → Below n ds → Below n es → address_of n ds ≡ address_of n es → ds ≡ es
address_injective n ds es l hd he q =
    sym (digits-address n ds hd) ∙ ap₂ (λ (m a : ℕ). digits_of n m a) l q ∙ digits-address n es he

pub digits_injective : (n m a b : ℕ) → 0 < n → a < n ^ m → b < n ^ m → digits_of n m a ≡ digits_of n m b → a ≡ b
digits_injective n m a b p ha hb q =
    sym (address-digits n m a p ha) ∙ ap (address_of n) q ∙ address-digits n m b p hb

-- ---- striking out a place

pub strike-below : (l : ℕ) (ds : List ℕ) (i : ℕ) → i < l → get_or (strike l ds) i 0 ≡ get_or ds i 0
strike-below zero ds i h = omega arith
strike-below (suc l) [] i h = refl
strike-below (suc l) (d ∷ ds) zero h = refl
strike-below (suc l) (d ∷ ds) (suc i) h = strike-below l ds i (le_of_suc-le-suc h)

pub strike-above : (l : ℕ) (ds : List ℕ) (i : ℕ) → l ≤ i → get_or (strike l ds) i 0 ≡ get_or ds (suc i) 0
strike-above zero [] i h = refl
strike-above zero (d ∷ ds) i h = refl
strike-above (suc l) [] i h = refl
strike-above (suc l) (d ∷ ds) zero h = omega arith
strike-above (suc l) (d ∷ ds) (suc i) h = strike-above l ds i (le_of_suc-le-suc h)

pub length-strike : (l : ℕ) (ds : List ℕ) → l < length ds → suc (length (strike l ds)) ≡ length ds
length-strike l [] h = omega arith
length-strike zero (d ∷ ds) h = refl
length-strike (suc l) (d ∷ ds) h = ap suc (length-strike l ds (le_of_suc-le-suc h))

pub strike_keeps : (n l : ℕ) (ds : List ℕ) → Below n ds → l < length ds → Below n (strike l ds)
strike_keeps n l ds h b =
    record {
      at = λ i p.
          ⊎_elim (λ (q : i < l). rw (strike-below l ds i q) (h.at i (omega arith)))
          (λ (q : l ≤ i). rw (strike-above l ds i q) (h.at (suc i) (omega (arith, length-strike l ds b))))
          (side i l);
    }

-- two lists agree in every place but l
pub record But (l : ℕ) (ds es : List ℕ) : Type 0 where
  pub long : length ds ≡ length es
  pub agree : (i : ℕ) → i ≢ l → get_or ds i 0 ≡ get_or es i 0

pub strike-same : (l : ℕ) (ds es : List ℕ) → l < length ds → But l ds es → strike l ds ≡ strike l es
strike-same l ds es h b =
    ext_get_or 0 (strike l ds) (strike l es)
    (omega (arith, length-strike l ds h, length-strike l es (omega (arith, b.long)), b.long))
    (λ i p.
    ⊎_elim (λ (q : i < l). strike-below l ds i q ∙ b.agree i (omega arith) ∙ sym (strike-below l es i q))
    (λ (q : l ≤ i). strike-above l ds i q ∙ b.agree (suc i) (omega arith) ∙ sym (strike-above l es i q)) (side i l))

pub strike-agree : (l : ℕ) (ds es : List ℕ) → length ds ≡ length es → strike l ds ≡ strike l es → But l ds es
strike-agree l ds es q e = record { long = q; agree = at }
  where
    high_at : (i : ℕ) → l ≤ i → i ≢ l → get_or ds i 0 ≡ get_or es i 0
    high_at zero h ne = absurd (ne (omega arith))
    high_at (suc i) h ne =
        let h' : l ≤ i = omega arith in
        sym (strike-above l ds i h') ∙ ap (λ (x : List ℕ). get_or x i 0) e ∙ strike-above l es i h'

    at : (i : ℕ) → i ≢ l → get_or ds i 0 ≡ get_or es i 0
    at i ne =
        ⊎_elim (λ (h : i < l). sym (strike-below l ds i h) ∙ ap (λ (x : List ℕ). get_or x i 0) e ∙ strike-below l es i h)
        (λ (h : l ≤ i). high_at i h ne) (side i l)

-- ---- changing a place

pub set_but : (l v : ℕ) (ds : List ℕ) → But l (set ds l v) ds
set_but l v ds = record { long = length-set ds l v; agree = λ i q. get_or-set_other ds l i v 0 q }

-- ---- closed forms: what a program computes

pub address-append : (n : ℕ) (xs ys : List ℕ) → address_of n (xs ++ ys) ≡ address_of n xs + n ^ length xs * address_of n ys
unfolding address_of
address-append n [] ys = simp (pow-zero, one-mul, zero-add)
address-append n (x ∷ xs) ys = rw (address-append n xs ys) (simp (pow-succ', mul-add, mul_assoc, add_assoc))

pub address-take : (n m l a : ℕ) → 0 < n → l ≤ m → address_of n (take l (digits_of n m a)) ≡ a % n ^ l
unfolding digits_of address_of
address-take n m zero a p h = sym (rw pow-zero (mod-one a))
address-take n zero (suc l) a p h = omega arith
address-take n (suc m) (suc l) a p h =
    ap (λ (x : ℕ). a % n + n * x) (address-take n m l (a / n) p (le_of_suc-le-suc h))
    ∙ rw (pow-suc, mod-mul a (one-le-pow l n p) p) (omega (arith, mul_comm n (a / n % n ^ l)))

pub address-drop : (n m l a : ℕ) → 0 < n → a < n ^ m → l ≤ m → address_of n (drop l (digits_of n m a)) ≡ a / n ^ l
unfolding digits_of
address-drop n m zero a p b h = address-digits n m a p b ∙ sym (rw pow-zero (div-one a))
address-drop n zero (suc l) a p b h = omega arith
address-drop n (suc m) (suc l) a p b h =
    address-drop n m l (a / n) p (rest_lt n m a p b) (le_of_suc-le-suc h) ∙ rest-div n l a

pub digit_closed : (n m l a : ℕ) → l < m → get_or (digits_of n m a) l 0 ≡ a / n ^ l % n
unfolding digits_of
digit_closed n zero l a h = omega arith
digit_closed n (suc m) zero a h = sym (rw pow-zero (ap (λ (x : ℕ). x % n) (div-one a)))
digit_closed n (suc m) (suc l) a h =
    digit_closed n m l (a / n) (le_of_suc-le-suc h) ∙ ap (λ (x : ℕ). x % n) (rest-div n l a)

-- the top digit of a number below m times the weight of its place is below m
pub digit-top : (n k m a : ℕ) → 0 < n → a < m * n ^ k → get_or (digits_of n (suc k) a) k 0 < m
digit-top n k m a p h =
    rw (digit_closed n (suc k) k a (omega arith))
    (lt_of_le_of_lt (mod-le (a / n ^ k) n) ((div-lt_iff_lt-mul (one-le-pow k n p)).1 h))

pub with_closed : (n m l v a : ℕ) → 0 < n → a < n ^ m → l < m → address_of n (set (digits_of n m a) l v) ≡ a % n ^ l + n ^ l * (v + n * (a / n ^ l / n))
unfolding address_of
with_closed n m l v a p b h =
    let q : l < length (digits_of n m a) = rw (length_digits n m a) h in
    ap (address_of n) (set_split (digits_of n m a) l v q)
    ∙ address-append n (take l (digits_of n m a)) (v ∷ drop (suc l) (digits_of n m a))
    ∙ rw (length-take-le l (digits_of n m a) (le_of_lt q), address-take n m l a p (le_of_lt h), address-drop n m (suc l) a p b h, ← rest_div' n l a)

pub strike_closed : (n m l a : ℕ) → 0 < n → a < n ^ m → l < m → address_of n (strike l (digits_of n m a)) ≡ a % n ^ l + n ^ l * (a / n ^ l / n)
strike_closed n m l a p b h =
    let q : l < length (digits_of n m a) = rw (length_digits n m a) h in
    address-append n (take l (digits_of n m a)) (drop (suc l) (digits_of n m a))
    ∙ rw (length-take-le l (digits_of n m a) (le_of_lt q), address-take n m l a p (le_of_lt h), address-drop n m (suc l) a p b h, ← rest_div' n l a)

pub pow_small : (n l : ℕ) → n ≤ 64 → l ≤ 4 → n ^ l ≤ 16777216
pow_small n l h k = le_trans (pow-le-pow_left h l) (pow-le-pow_right (lit< tt) k)

pub next_power : (n i p : ℕ) → p ≡ n ^ i → p * n ≡ n ^ (i + 1)
next_power n i p e = rw (add-one, pow-suc) (ap (λ (x : ℕ). x * n) e)

pub power-one : (n : ℕ) → n ≡ n ^ 1
power-one n = sym (one-mul n) ∙ next_power n 0 1 (sym (pow-zero n))

pub power-two : (n : ℕ) → n * n ≡ n ^ 2
power-two n = next_power n 1 n (power-one n)

pub power_three : (n : ℕ) → n * n * n ≡ n ^ 3
power_three n = next_power n 2 (n * n) (power-two n)

-- ---- four places

pub drop-below : (n j : ℕ) (ds : List ℕ) → Below n ds → Below n (drop j ds)
drop-below n j ds h = record { at = λ i p. rw get_or-drop (h.at (j + i) (omega (arith, length-drop j ds))) }

-- what a program computes of four places stays small
pub address-small : (n j : ℕ) (ds : List ℕ) → Below n ds → n ≤ 64 → length ds ≡ 4 → address_of n (drop j ds) ≤ 16777216
address-small n j ds b h l =
    le_of_lt (lt_of_lt_of_le (address_lt n (drop j ds) (drop-below n j ds b))
    (pow_small n (length (drop j ds)) h (omega (arith, length-drop j ds))))

-- the rest of a number from place j on, from that of the place above
pub address-next : (n j : ℕ) (ds : List ℕ) → j < length ds → address_of n (drop j ds) ≡ get_or ds j 0 + n * address_of n (drop (suc j) ds)
unfolding address_of
address-next n j ds h = ap (address_of n) (drop-cons ds j 0 h)

zeros_of : (n m : ℕ) → digits_of n m 0 ≡ replicate m 0
unfolding digits_of
zeros_of n zero = refl
zeros_of n (suc m) = rw (zero-mod n, zero-div n) (ap (λ (x : List ℕ). 0 ∷ x) (zeros_of n m))

-- a number that m digits write has zeros above them
pub digits_more : (n m j a : ℕ) → 0 < n → a < n ^ m → digits_of n (m + j) a ≡ digits_of n m a ++ replicate j 0
unfolding digits_of
digits_more n zero j a p h = rw (zero-add, lt-one (rw pow-zero at h)) (zeros_of n j)
digits_more n (suc m) j a p h =
    rw suc-add (ap (λ (x : List ℕ). a % n ∷ x) (digits_more n m j (a / n) p (rest_lt n m a p h)))

pub padded_digits : (n m a : ℕ) → 0 < n → m ≤ 4 → a < n ^ m → digits_of n 4 a ≡ filled 4 (digits_of n m a)
unfolding filled
padded_digits n m a p q h =
    let e : 4 ≡ m + (4 - m) = omega arith in
    ap (λ (x : ℕ). digits_of n x a) e ∙ rw (length_digits n m a) (digits_more n m (4 - m) a p h)

-- zeros above change nothing
pub address_padded : (n : ℕ) (ds : List ℕ) (m : ℕ) → address_of n (ds ++ replicate m 0) ≡ address_of n ds
unfolding address_of
address_padded n [] zero = refl
address_padded n [] (suc m) = rw (address_padded n [] m) (zero-add (n * 0) ∙ mul-zero n)
address_padded n (d ∷ ds) m = ap (λ (x : ℕ). d + n * x) (address_padded n ds m)
