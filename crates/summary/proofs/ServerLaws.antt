-- Laws of all links of a server changed: they all are, the table stays one of the room, no other server's byte moves, and it is the table with
-- the links changed one after the other.
use Prim.Native.Nat.{ℕ, zero, suc, ◌≤◌, ◌<◌, zero-le}
use mathlib.Core.Path.{◌≡◌, refl, sym, ap, ◌∙◌}
use mathlib.Core.Logic.{◌≢◌}
use mathlib.Core.Bool.{Bool, true, false, cond}
use mathlib.Core.List.{List}
use native.Mathlib.Omega.{arith}
use native.Mathlib.Decide.{ℕ_discrete}
use native.Mathlib.Nat.{one-le-pow}
use lib.Dec.{lit<}
use lib.ListN.{length, get_or, length-set}
use lib.Seq.{get_or-set_same, get_or-set_other}
use Rattle.room.specs.declared.Shape.{Shape}
use Rattle.room.specs.Shapes.{Server}
use Rattle.links.specs.Table.{bit, failed, fits_levels, TableOf}
use Rattle.links.proofs.BitLaws.{bit-none}
use Rattle.links.proofs.TableLaws.{lt_fits, changed_below, below-own, below_other, below-table, one_table}
use Rattle.summary.specs.Answers.{all_bits, changed_server}

-- every bit up to k, of at most three, is set, and none of zero is
all_set : (k l : ℕ) → k ≤ 3 → l ≤ k → bit l (all_bits k) ≡ true
unfolding bit all_bits
all_set zero zero h p = refl
all_set (suc zero) zero h p = refl
all_set (suc zero) (suc zero) h p = refl
all_set (suc (suc zero)) zero h p = refl
all_set (suc (suc zero)) (suc zero) h p = refl
all_set (suc (suc zero)) (suc (suc zero)) h p = refl
all_set (suc (suc (suc zero))) zero h p = refl
all_set (suc (suc (suc zero))) (suc zero) h p = refl
all_set (suc (suc (suc zero))) (suc (suc zero)) h p = refl
all_set (suc (suc (suc zero))) (suc (suc (suc zero))) h p = refl
all_set zero (suc l) h p = let z : ⊥ = omega arith in absurd z
all_set (suc zero) (suc (suc l)) h p = let z : ⊥ = omega arith in absurd z
all_set (suc (suc zero)) (suc (suc (suc l))) h p = let z : ⊥ = omega arith in absurd z
all_set (suc (suc (suc zero))) (suc (suc (suc (suc l)))) h p = let z : ⊥ = omega arith in absurd z
all_set (suc (suc (suc (suc k)))) l h p = let z : ⊥ = omega arith in absurd z

all_fit : (k : ℕ) → fits_levels k (all_bits k) ≡ true
unfolding all_bits
all_fit k = lt_fits k _ (omega (arith, one-le-pow (suc k) 2 (lit< tt)))

none-set : (l : ℕ) → bit l 0 ≡ false
none-set l = bit-none 0 l 0 (one-le-pow 0 2 (lit< tt)) zero-le

-- the byte of a server, b being true where it is marked
server-byte : (b : Bool) (k l : ℕ) → k ≤ 3 → l ≤ k → bit l (cond b (all_bits k) 0) ≡ b
server-byte true k l h p = all_set k l h p
server-byte false k l h p = none-set l

byte_fits : (b : Bool) (k : ℕ) → fits_levels k (cond b (all_bits k) 0) ≡ true
byte_fits true k = all_fit k
byte_fits false k = lt_fits k 0 (one-le-pow (suc k) 2 (lit< tt))

pub server-other : (b : Bool) (s : Shape) (a x : ℕ) (t : List ℕ) → x ≢ a → get_or (changed_server b s a t) x 0 ≡ get_or t x 0
unfolding changed_server
server-other b s a x t n = get_or-set_other t a x (cond b (all_bits s.k) 0) 0 n

module _ (b : Bool) {s : Shape} {t : List ℕ} {a : ℕ} (h : Server s a) (k : TableOf s t) where
  put_byte : get_or (changed_server b s a t) a 0 ≡ cond b (all_bits s.k) 0
  unfolding changed_server
  put_byte = get_or-set_same t a (cond b (all_bits s.k) 0) 0 (omega (arith, h.below, k.long))

  pub server-own : (l : ℕ) → l ≤ s.k → failed (changed_server b s a t) a l ≡ b
  unfolding failed
  server-own l p = ap (bit l) put_byte ∙ server-byte b s.k l h.valid.levels p

  pub server-table : TableOf s (changed_server b s a t)
  unfolding changed_server
  server-table =
      record {
        long = length-set t a (cond b (all_bits s.k) 0) ∙ k.long;
        fits = λ x. elim (ℕ_discrete x a) [ yes e ↦ rw e (rw put_byte (byte_fits b s.k)) | no n ↦ rw (server-other b s a x t n) (k.fits x) ];
      }

  pub server-all : changed_below b a (suc s.k) t ≡ changed_server b s a t
  unfolding failed
  server-all =
      let inside : a < length t = omega (arith, h.below, k.long) in
      one_table h.valid (below-table b a t k (suc s.k) (omega arith)) server-table
      (λ x l z. elim (ℕ_discrete x a) [
        | yes e ↦ rw e (below-own b a t inside (suc s.k) l (omega (arith, z.level)) ∙ sym (server-own l z.level))
        | no n ↦ below_other b a t (suc s.k) x l (λ e q. n e) ∙ ap (bit l) (sym (server-other b s a x t n))
      ])

-- a server that is cleared has no failed link, of whatever level
pub server-none : {s : Shape} {t : List ℕ} {a : ℕ} → Server s a → TableOf s t → (l : ℕ) → failed (changed_server false s a t) a l ≡ false
unfolding failed
server-none h k l = ap (bit l) (put_byte false h k) ∙ none-set l
