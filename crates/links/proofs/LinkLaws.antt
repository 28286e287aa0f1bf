-- What the programs over bytes and tables compute.
use Prim.Native.Nat.{ℕ, zero, suc, ◌+◌, ◌-◌, ◌*◌, ◌/◌, ◌%◌, ◌^◌, ◌≤◌, ◌<◌, max}
use mathlib.Core.Path.{◌≡◌, refl, sym, ap, ◌∙◌}
use mathlib.Core.Bool.{Bool, true, false, not, cond, ◌&&◌, and_assoc, and-true}
use mathlib.Core.List.{List, [], ◌∷◌}
use mathlib.Core.Logic.{◌≢◌}
use native.Mathlib.Numerals.{add-one}
use native.Mathlib.Omega.{arith}
use native.Mathlib.Decide.{ℕ_discrete}
use native.Mathlib.Nat.{one-le-pow, mod-lt}
use lib.Dec.{ltb, eqb, lit<}
use lib.ListN.{length, get_or, set, drop, drop_of_length-le, get_or-eq_default}
use lib.Seq.{set_out}
use borrow.Author.Tests.{eq-eqb, ne_eqb, lt-ltb, le-ltb}
use lib.Bits.{bit_and}
use Rattle.std.specs.Int.{w8, bit_at}
use Rattle.std.specs.Int.RustNames.{bit_or}
use Rattle.std.proofs.lemmas.Bool.Decides.{nat_tests}
use Rattle.std.proofs.lemmas.Nat.{and_le_l, or_lt, one_shl}
use Rattle.std.proofs.lemmas.Nat.Bits.{shr_and_one, and_pow, bit_at_set_same, bit_at_set_other, bit_at_clear_same, bit_at_clear_other}
use Rattle.lists.proofs.ListLaws.{left}
use Rattle.std.specs.Prelude.{Result}
use Rattle.refusals.specs.declared.Reason.{Reason}
use Rattle.refusals.specs.Reasons.{tells}
use Rattle.refusals.proofs.ReasonLaws.{tells-same}
use Rattle.room.specs.declared.Shape.{Shape}
use Rattle.room.specs.Shapes.{servers_of, server_count}
use Rattle.room.specs.Refusals.{shape_refusal, server_refusal, link_refusal, ends_refusal}
use Rattle.room.proofs.PowerLaws.{count-servers}
use Rattle.room.proofs.RefusalLaws.{valid_of, valid-none, server_of, link_of, ends_of}
use Rattle.links.specs.Table.{bit, failed, with_bit, changed, changed_in, fits_levels, bits_fit, table_refusal}
use Rattle.links.specs.Told.{Asked}
use Rattle.links.specs.Answers.{not_asked, asked}
use Rattle.links.proofs.BitLaws.{bit-none, put-bit, put_other, put_lt, bits_same}
use Rattle.links.proofs.TableLaws.{changed-in}

-- ---- bytes, by shifts and masks

pub bit_past : (l x : ℕ) → x < 256 → 8 ≤ l → false ≡ bit l x
bit_past l x h p = sym (bit-none 8 l x h p)

-- a bit by division
pub bit_by : (l x w : ℕ) → w ≡ 2 ^ l → eqb (x / w % 2) 1 ≡ bit l x
unfolding bit
bit_by l x w h = ap (λ (y : ℕ). eqb (x / y % 2) 1) h

-- by a shift
pub bit_by_shift : (l x : ℕ) → eqb (bit_and (x / 2 ^ l) 1) 1 ≡ bit l x
unfolding bit
bit_by_shift l x = ap (λ (y : ℕ). eqb y 1) (shr_and_one x l)

-- 0 or 1 times a weight is not 0 where the number is 1, and only there
weighed : (y p : ℕ) → y < 2 → 0 < p → not (eqb (y * p) 0) ≡ eqb y 1
weighed y p h q =
    elim (ℕ_discrete y 1) [
      | yes e ↦ rw e (ap not (ne_eqb (1 * p) 0 (λ r. omega arith)))
      | no n ↦ let z : y ≡ 0 = omega arith in rw (z, eq-eqb (0 * p) 0 (omega arith)) refl
    ]

-- the weights of a byte's bits
pub weight_at : (l : ℕ) → l < 8 → get_or (1 ∷ 2 ∷ 4 ∷ 8 ∷ 16 ∷ 32 ∷ 64 ∷ 128 ∷ []) l 0 ≡ 2 ^ l
weight_at zero h = refl
weight_at (suc zero) h = refl
weight_at (suc (suc zero)) h = refl
weight_at (suc (suc (suc zero))) h = refl
weight_at (suc (suc (suc (suc zero)))) h = refl
weight_at (suc (suc (suc (suc (suc zero))))) h = refl
weight_at (suc (suc (suc (suc (suc (suc zero)))))) h = refl
weight_at (suc (suc (suc (suc (suc (suc (suc zero))))))) h = refl
weight_at (suc (suc (suc (suc (suc (suc (suc (suc l)))))))) h = absurd (omega arith)

-- by the mask of its weight
pub bit_by_weight : (l x w : ℕ) → w ≡ 2 ^ l → not (eqb (bit_and x w) 0) ≡ bit l x
unfolding bit
bit_by_weight l x w h =
    ap (λ (m : ℕ). not (eqb (bit_and x m) 0)) h
    ∙ ap (λ (m : ℕ). not (eqb m 0)) (and_pow x l)
    ∙ weighed (bit_at x l) (2 ^ l) (mod-lt (x / 2 ^ l) (lit< tt)) (one-le-pow l 2 (lit< tt))

-- a byte whose bit l is b, and whose others are as they were
put_by : (b : Bool) (l x y : ℕ) → l < 8 → x < 256 → y < 256 → bit l y ≡ b → ((m : ℕ) → m < 8 → m ≢ l → bit m y ≡ bit m x) → y ≡ with_bit b l x
put_by b l x y h p q same other = bits_same 8 y (with_bit b l x) q (put_lt b 8 l x h p) each
  where
    each : (m : ℕ) → m < 8 → bit m y ≡ bit m (with_bit b l x)
    each m k =
        elim (ℕ_discrete m l) [
          | yes e ↦ rw e (same ∙ sym (put-bit b l x))
          | no n ↦ other m k n ∙ sym (put_other b l m x n)
        ]

pub or_sets : (l x : ℕ) → l < 8 → x < 256 → bit_or x (1 * 2 ^ l % 256) ≡ with_bit true l x
unfolding bit
or_sets l x h p =
    put_by true l x _ h p (or_lt 8 x (1 * 2 ^ l % 256) p (mod-lt (1 * 2 ^ l) (lit< tt)))
    (ap (λ (y : ℕ). eqb y 1) (bit_at_set_same w8 x l h))
    (λ m k n. ap (λ (y : ℕ). eqb y 1) (bit_at_set_other w8 x l h m n))

pub and_resets : (l x : ℕ) → l < 8 → x < 256 → bit_and x (255 - 1 * 2 ^ l % 256) ≡ with_bit false l x
unfolding bit
and_resets l x h p =
    put_by false l x _ h p (omega (arith, and_le_l x (255 - 1 * 2 ^ l % 256)))
    (ap (λ (y : ℕ). eqb y 1) (bit_at_clear_same w8 x l h))
    (λ m k n. ap (λ (y : ℕ). eqb y 1) (bit_at_clear_other w8 x l h m k n))

-- ---- one link changed, with no test

module _ (b : Bool) (a l : ℕ) (t : List ℕ) where
  pub change-past : length t ≤ a → t ≡ changed_in b a l t
  unfolding changed_in changed
  change-past h = go (ltb l 8)
    where
      go : (q : Bool) → t ≡ cond q (set t a (with_bit b l (get_or t a 0))) t
      go true = sym (set_out t a (with_bit b l (get_or t a 0)) h)
      go false = refl

  pub change-above : 8 ≤ l → t ≡ changed_in b a l t
  unfolding changed_in
  change-above h = rw (le-ltb l 8 h)

  pub change_stored : l < 8 → (x : ℕ) → x ≡ with_bit b l (get_or t a 0) → set t a x ≡ changed_in b a l t
  unfolding changed
  change_stored h x e = ap (set t a) e ∙ sym (changed-in b a l t h)

-- ---- tables

pub failed-past : (t : List ℕ) (a l : ℕ) → length t ≤ a → false ≡ failed t a l
unfolding failed
failed-past t a l h = sym (ap (bit l) (get_or-eq_default t 0 h) ∙ bit-none 0 l 0 (lit< tt) (omega arith))

-- the greatest of two fits where both do
max-fits : (k x y : ℕ) → fits_levels k (max x y) ≡ (fits_levels k x && fits_levels k y)
unfolding fits_levels
max-fits k x y = grind (arith, nat_tests)

-- m is the greatest before place i
pub fits_start : (k : ℕ) (t : List ℕ) → (fits_levels k 0 && bits_fit k t) ≡ bits_fit k t
unfolding fits_levels
fits_start k t = rw (lt-ltb 0 (2 ^ suc k) (one-le-pow (suc k) 2 (lit< tt)))

pub fits_next : (k m i : ℕ) (t : List ℕ) → i < length t → (fits_levels k (max m (get_or t i 0)) && bits_fit k (drop (i + 1) t)) ≡ (fits_levels k m && bits_fit k (drop i t))
unfolding bits_fit
fits_next k m i t h = rw (left t i 0 h, max-fits k m (get_or t i 0), and_assoc)

pub fits_end : (k m i : ℕ) (t : List ℕ) → k ≤ 3 → length t ≤ i → (fits_levels k m && bits_fit k (drop i t)) ≡ bits_fit k t → ltb m (1 * 2 ^ (k + 1) % 256) ≡ bits_fit k t
unfolding fits_levels bits_fit
fits_end k m i t p h e =
    let w : (fits_levels k m && true) ≡ bits_fit k t = ap (λ (xs : List ℕ). fits_levels k m && bits_fit k xs) (sym (drop_of_length-le t h)) ∙ e in
    rw (one_shl (k + 1) 8 (omega arith), add-one) (sym (and-true (ltb m (2 ^ suc k))) ∙ w)

-- x is the number of servers that the program counted, b whether the bits fit
module _ (s : Shape) (t : List ℕ) (x : ℕ) (z : shape_refusal s ≡ 0) (e : x ≡ server_count s) where
  counts : x ≡ servers_of s
  counts = e ∙ count-servers (valid_of s z)

  pub table-length : (length t ≡ x → ⊥) → 6 ≡ table_refusal s t
  unfolding table_refusal
  table-length h = rw (ne_eqb (length t) (servers_of s) (λ q. h (q ∙ sym counts)))

  module _ (b : Bool) (h : length t ≡ x) (q : b ≡ bits_fit s.k t) where
    pub table_bits : b ≡ false → 6 ≡ table_refusal s t
    unfolding table_refusal
    table_bits g = rw (eq-eqb (length t) (servers_of s) (h ∙ counts), ← q, g)

    pub table_passes : b ≡ true → 0 ≡ table_refusal s t
    unfolding table_refusal
    table_passes g = rw (eq-eqb (length t) (servers_of s) (h ∙ counts), ← q, g)

pub shape-levels : (s : Shape) → shape_refusal s ≡ 0 → s.k ≤ 3
shape-levels s z = (valid_of s z).levels

-- where a link is not refused the shape is not, nor where a server is not, nor two ends
pub link-shape : (s : Shape) (a l : ℕ) → 0 ≡ link_refusal s a l → shape_refusal s ≡ 0
link-shape s a l e = sym (valid-none (link_of s a l (sym e)).server.valid)

pub server-shape : (s : Shape) (a : ℕ) → 0 ≡ server_refusal s a → shape_refusal s ≡ 0
server-shape s a e = sym (valid-none (server_of s a (sym e)).valid)

pub ends_shape : (s : Shape) (a d : ℕ) → 0 ≡ ends_refusal s a d → shape_refusal s ≡ 0
ends_shape s a d e = sym (valid-none (ends_of s a d (sym e)).source.valid)

-- ---- a link asked for

-- two results that tell the same are one
pub asked-same : (x y : Result Bool Reason) → tells not_asked asked x ≡ tells not_asked asked y → x ≡ y
asked-same = tells-same not_asked asked (λ (x : Asked). x.refusal.number) (λ (x : Asked). x.failed) (λ r. refl) (λ x. refl) (λ x. refl)
