-- Laws of texts: what one byte more makes of an answer; bytes in hex and numbers in decimal.
use Prim.Native.Nat.{ℕ, zero, suc, ◌+◌, ◌-◌, ◌*◌, ◌/◌, ◌%◌, ◌≤◌, ◌<◌}
use mathlib.Core.Path.{◌≡◌, refl, sym, ap, ap₂, ◌∙◌}
use mathlib.Core.List.{List, [], ◌∷◌, ◌++◌, append_assoc}
use native.Mathlib.Numerals.{add-one}
use native.Mathlib.Omega.{arith}
use native.Mathlib.Decide.{dec_lt}
use lib.ListN.{length, get_or, set, take, replicate, length-append}
use lib.Seq.{take-append_seam, take-suc, length-take-le, set_at}
use borrow.Author.Tests.{lt-ltb, le-ltb}
use Rattle.lists.specs.Lists.{filled}
use Rattle.desk_line.specs.declared.texts.Text.TheInside.{Inside}
use Rattle.desk_line.specs.Lines.{space}
use Rattle.desk_line.specs.Texts.{hex_digit, hex_of, decimal_in, decimal}
use Rattle.desk_line.specs.Shown.{text_of, shown, Whole}

-- ---- what an answer holds

abbrev pub text_from : List ℕ → ℕ → Inside
text_from bytes length = record { bytes = bytes; length = length }

pub shown-text : (xs : List ℕ) → shown (text_of xs) ≡ xs
unfolding text_of filled
shown-text xs = take-append_seam xs (replicate (128 - length xs) 0)

-- an answer made of a short text is whole, and shows it
pub whole_of : (t : Inside) (xs : List ℕ) → t ≡ text_of xs → length xs ≤ 128 → Whole t
whole_of t xs e h =
    let s = ap shown e ∙ shown-text xs in record { same = e ∙ ap text_of (sym s); fits = omega (arith, ap length s) }

pub no_whole : Whole (text_from (replicate 128 0) 0)
unfolding text_of filled
no_whole = record { same = refl; fits = omega arith }

put-filled : (xs : List ℕ) (b : ℕ) → length xs < 128 → set (filled 128 xs) (length xs) b ≡ filled 128 (xs ++ (b ∷ []))
unfolding filled
put-filled xs b h =
    let e : 128 - length xs ≡ suc (127 - length xs) = omega arith in
    let f : 127 - length xs ≡ 128 - length (xs ++ (b ∷ [])) = omega (arith, length-append xs (b ∷ [])) in
    ap (λ (m : ℕ). set (xs ++ replicate m 0) (length xs) b) e
    ∙ set_at xs 0 (replicate (127 - length xs) 0) b (length xs) refl
    ∙ ap (λ (m : ℕ). xs ++ b ∷ replicate m 0) f
    ∙ sym (append_assoc xs (b ∷ []) (replicate (128 - length (xs ++ (b ∷ []))) 0))

module _ (t : Inside) (w : Whole t) where
  pub shown-long : t.length ≡ length (shown t)
  unfolding text_of
  shown-long = ap (λ (u : Inside). u.length) w.same

  bytes_is : t.bytes ≡ filled 128 (shown t)
  unfolding text_of
  bytes_is = ap (λ (u : Inside). u.bytes) w.same

  module _ (b : ℕ) (h : length (shown t) < 128) where
    put : text_from (set t.bytes t.length b) (t.length + 1) ≡ text_of (shown t ++ (b ∷ []))
    unfolding text_of
    put =
        let q : t.length + 1 ≡ length (shown t ++ (b ∷ [])) = omega (arith, shown-long, length-append (shown t) (b ∷ [])) in
        ap₂ text_from (ap₂ (λ (l : List ℕ) (i : ℕ). set l i b) bytes_is shown-long ∙ put-filled (shown t) b h) q

    pub put_whole : Whole (text_from (set t.bytes t.length b) (t.length + 1))
    put_whole = whole_of _ (shown t ++ (b ∷ [])) put (omega (arith, length-append (shown t) (b ∷ [])))

-- ---- hex

pub hex-small : (x : ℕ) → x < 10 → 48 + x ≡ hex_digit x
unfolding hex_digit
hex-small x h = rw (lt-ltb x 10 h)

pub hex-large : (x : ℕ) → 10 ≤ x → 87 + x ≡ hex_digit x
unfolding hex_digit
hex-large x h = rw (le-ltb x 10 h)

pub hex-long : (bs : List ℕ) → length (hex_of bs) ≡ 2 * length bs
unfolding hex_of
hex-long [] = refl
hex-long (b ∷ bs) = omega (arith, hex-long bs)

hex-append : (xs ys : List ℕ) → hex_of (xs ++ ys) ≡ hex_of xs ++ hex_of ys
unfolding hex_of
hex-append [] ys = refl
hex-append (b ∷ xs) ys = ap (λ (l : List ℕ). hex_digit (b / 16) ∷ hex_digit (b % 16) ∷ l) (hex-append xs ys)

hex-one : (b : ℕ) → hex_of (b ∷ []) ≡ hex_digit (b / 16) ∷ hex_digit (b % 16) ∷ []
unfolding hex_of
hex-one b = refl

-- one byte more
pub hex-step : (bs : List ℕ) (i : ℕ) → i < length bs → hex_of (take (i + 1) bs) ≡ hex_of (take i bs) ++ (hex_digit (get_or bs i 0 / 16) ∷ hex_digit (get_or bs i 0 % 16) ∷ [])
hex-step bs i h =
    ap hex_of (ap (λ (m : ℕ). take m bs) (add-one i) ∙ take-suc bs i 0 h)
    ∙ hex-append (take i bs) (get_or bs i 0 ∷ [])
    ∙ ap (λ (l : List ℕ). hex_of (take i bs) ++ l) (hex-one (get_or bs i 0))

-- as the program writes it: the high digit, and the low digit behind it
module _ (s t bs : List ℕ) (i : ℕ) (h : i < length bs) (r : length s + 2 * length bs ≤ 128) (e : t ≡ s ++ hex_of (take i bs)) where
  pub hex-room : length t + 2 ≤ 128
  hex-room =
      omega (arith, ap length e, length-append s (hex_of (take i bs)), hex-long (take i bs), length-take-le i bs (omega arith))

  pub hex_put : {u v : List ℕ} (x y : ℕ) → x ≡ hex_digit (get_or bs i 0 / 16) → y ≡ hex_digit (get_or bs i 0 % 16) → u ≡ t ++ (x ∷ []) → v ≡ u ++ (y ∷ []) → v ≡ s ++ hex_of (take (i + 1) bs)
  hex_put x y p q f g =
      g ∙ ap (λ (l : List ℕ). l ++ (y ∷ [])) (f ∙ ap (λ (l : List ℕ). l ++ (x ∷ [])) e)
      ∙ append_assoc (s ++ hex_of (take i bs)) (x ∷ []) (y ∷ [])
      ∙ ap₂ (λ (m n : ℕ). (s ++ hex_of (take i bs)) ++ (m ∷ n ∷ [])) p q
      ∙ append_assoc s (hex_of (take i bs)) (hex_digit (get_or bs i 0 / 16) ∷ hex_digit (get_or bs i 0 % 16) ∷ [])
      ∙ ap (λ (l : List ℕ). s ++ l) (sym (hex-step bs i h))

-- ---- numbers in decimal

pub decimal-small : (x : ℕ) → x < 10 → decimal x ≡ (48 + x) ∷ []
unfolding decimal decimal_in
decimal-small x h = rw (lt-ltb x 10 h)

-- every bound above the number gives the same digits
decimal_enough : (m p x : ℕ) → x < m → x < p → decimal_in m x ≡ decimal_in p x
unfolding decimal_in
decimal_enough zero p x h k = let z : ⊥ = omega arith in absurd z
decimal_enough (suc m) zero x h k = let z : ⊥ = omega arith in absurd z
decimal_enough (suc m) (suc p) x h k =
    elim (dec_lt x 10) [
      | yes q ↦ rw (lt-ltb x 10 q)
      | no q ↦ let l : 10 ≤ x = omega arith in
          rw (le-ltb x 10 l) (ap (λ (ds : List ℕ). ds ++ ((48 + x % 10) ∷ [])) (decimal_enough m p (x / 10) (omega arith) (omega arith)))
    ]

pub decimal_more : (x : ℕ) → 10 ≤ x → decimal x ≡ decimal (x / 10) ++ ((48 + x % 10) ∷ [])
unfolding decimal decimal_in
decimal_more x h =
    rw (le-ltb x 10 h)
    (ap (λ (ds : List ℕ). ds ++ ((48 + x % 10) ∷ [])) (decimal_enough x (suc (x / 10)) (x / 10) (omega arith) (omega arith)))

-- how many digits there are
pub decimal-long : (x : ℕ) → 10 ≤ x → length (decimal x) ≡ suc (length (decimal (x / 10)))
decimal-long x h = omega (arith, ap length (decimal_more x h), length-append (decimal (x / 10)) ((48 + x % 10) ∷ []))

decimal-next : (x y m : ℕ) → x < 10 * y → (x / 10 < y → length (decimal (x / 10)) ≤ suc m) → length (decimal x) ≤ suc (suc m)
decimal-next x y m h f =
    elim (dec_lt x 10) [
      | yes q ↦ omega (arith, ap length (decimal-small x q))
      | no q ↦ omega (arith, decimal-long x (omega arith), f (omega arith))
    ]

pub decimal-two : (x : ℕ) → x < 100 → length (decimal x) ≤ 2
decimal-two x h = decimal-next x 10 0 h (λ k. omega (arith, ap length (decimal-small (x / 10) k)))

pub decimal-four : (x : ℕ) → x < 10000 → length (decimal x) ≤ 4
decimal-four x h =
    decimal-next x 1000 2 h (λ k. decimal-next (x / 10) 100 1 k (λ l. decimal-two (x / 10 / 10) l))

-- as the program writes them: the last digit behind the others
module _ (s t : List ℕ) (x : ℕ) (r : length s + length (decimal x) ≤ 128) where
  module _ (h : 10 ≤ x) (e : t ≡ s ++ decimal (x / 10)) where
    pub last_room : length t < 128
    last_room = omega (arith, ap length e, length-append s (decimal (x / 10)), decimal-long x h)

    pub last_put : {u : List ℕ} → u ≡ t ++ ((48 + x % 10) ∷ []) → u ≡ s ++ decimal x
    last_put f =
        f ∙ ap (λ (l : List ℕ). l ++ ((48 + x % 10) ∷ [])) e
        ∙ append_assoc s (decimal (x / 10)) ((48 + x % 10) ∷ [])
        ∙ ap (λ (l : List ℕ). s ++ l) (sym (decimal_more x h))

  module _ (h : x < 10) (e : t ≡ s) where
    pub only_room : length t < 128
    only_room = omega (arith, ap length e, ap length (decimal-small x h))

    pub only_put : {u : List ℕ} → u ≡ t ++ ((48 + x % 10) ∷ []) → u ≡ s ++ decimal x
    only_put f =
        let m : x % 10 ≡ x = omega arith in
        f ∙ ap₂ (λ (l : List ℕ) (n : ℕ). l ++ ((48 + n) ∷ [])) e m ∙ ap (λ (l : List ℕ). s ++ l) (sym (decimal-small x h))

-- "refused "
abbrev pub refused_word : List ℕ
refused_word = 114 ∷ 101 ∷ 102 ∷ 117 ∷ 115 ∷ 101 ∷ 100 ∷ space ∷ []
