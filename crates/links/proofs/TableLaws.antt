-- Laws of the failed-link table.
use Prim.Native.Nat.{ℕ, zero, suc, ◌^◌, ◌≤◌, ◌<◌, zero-le}
use mathlib.Core.Path.{◌≡◌, refl, sym, ap, ap₂, ◌∙◌}
use mathlib.Core.Logic.{◌≢◌, ◌↔◌}
use mathlib.Core.Bool.{Bool, true, false, not, and_comm}
use mathlib.Core.List.{List, [], ◌∷◌}
use native.Mathlib.Omega.{arith}
use native.Mathlib.Decide.{ℕ_discrete}
use native.Mathlib.Nat.{one-le-pow}
use lib.Dec.{eqb, lit<}
use lib.ListN.{length, get_or, set, replicate, length-set, length-replicate}
use lib.Seq.{get_or-set_same, get_or-set_other, set-get_or, ext_get_or}
use borrow.Author.Tests.{lt-ltb, ltb-true, eq-eqb, eqb-true, not-true}
use Rattle.lists.proofs.ListLaws.{both_held, same_at}
use Rattle.refusals.proofs.ChainLaws.{or_else_zero, chain_goes, test_held}
use Rattle.room.specs.declared.Shape.{Shape}
use Rattle.room.specs.Shapes.{servers_of, Valid, Server, Ends, Link}
use Rattle.room.specs.Refusals.{shape_refusal, server_refusal, link_refusal, ends_refusal}
use Rattle.room.proofs.RefusalLaws.{valid_of, valid-none, server_of, server-none, link_of, link-none, ends_of, ends_none}
use Rattle.links.specs.Table.{bit, failed, live, with_bit, changed, changed_in, fits_levels, bits_fit, table_refusal, room_table_refusal, room_refusal, table_link_refusal, table_server_refusal, TableOf, Dead}
use Rattle.links.proofs.BitLaws.{bit-none, put_same, put-bit, put_other, put_lt, put-again, bits_same}

-- ---- one link changed: b is what it is changed to, true where it is marked

-- no other byte moves
pub changed-byte : (b : Bool) (a l c : ℕ) (t : List ℕ) → c ≢ a → get_or (changed b a l t) c 0 ≡ get_or t c 0
unfolding changed
changed-byte b a l c t h = get_or-set_other t a c (with_bit b l (get_or t a 0)) 0 h

module _ (b : Bool) (a l : ℕ) (t : List ℕ) where
  pub changed-long : length (changed b a l t) ≡ length t
  unfolding changed
  changed-long = length-set t a (with_bit b l (get_or t a 0))

  -- the link asked for is as it is wanted
  pub changed-own : a < length t → failed (changed b a l t) a l ≡ b
  unfolding failed changed
  changed-own h = ap (bit l) (get_or-set_same t a (with_bit b l (get_or t a 0)) 0 h) ∙ put-bit b l (get_or t a 0)

  -- where it was so already nothing changes
  pub changed_already : failed t a l ≡ b → changed b a l t ≡ t
  unfolding failed changed
  changed_already e = ap (set t a) (put_same b l (get_or t a 0) e) ∙ set-get_or t a 0

  -- with no test
  pub changed-in : l < 8 → changed_in b a l t ≡ changed b a l t
  unfolding changed_in
  changed-in h = rw (lt-ltb l 8 h)

-- what holds of every byte, and is kept by the change, holds of every byte after it
changed-each : (P : ℕ → Type 0) (b : Bool) (a l : ℕ) (t : List ℕ) → ((x : ℕ) → P x → P (with_bit b l x)) → ((c : ℕ) → P (get_or t c 0)) → (c : ℕ) → P (get_or (changed b a l t) c 0)
unfolding changed
changed-each P b a l [] k h c = h c
changed-each P b zero l (x ∷ t) k h zero = k x (h zero)
changed-each P b zero l (x ∷ t) k h (suc c) = h (suc c)
changed-each P b (suc a) l (x ∷ t) k h zero = h zero
changed-each P b (suc a) l (x ∷ t) k h (suc c) = changed-each P b a l t k (λ i. h (suc i)) c

-- a bit that the change keeps in every byte
changed-bit : (b : Bool) (a l c m : ℕ) (t : List ℕ) → m ≢ l → failed (changed b a l t) c m ≡ failed t c m
unfolding failed changed
changed-bit b a l c m [] h = refl
changed-bit b zero l zero m (x ∷ t) h = put_other b l m x h
changed-bit b zero l (suc c) m (x ∷ t) h = refl
changed-bit b (suc a) l zero m (x ∷ t) h = refl
changed-bit b (suc a) l (suc c) m (x ∷ t) h = changed-bit b a l c m t h

-- every other link is as it was
pub changed-other : (b : Bool) (a l c m : ℕ) (t : List ℕ) → (c ≡ a → m ≡ l → ⊥) → failed (changed b a l t) c m ≡ failed t c m
unfolding failed
changed-other b a l c m t h =
    elim (ℕ_discrete c a) [ yes q ↦ changed-bit b a l c m t (h q) | no q ↦ ap (bit m) (changed-byte b a l c t q) ]

-- marking clears no link, clearing marks none
pub changed_stays : (b : Bool) (a l c m : ℕ) (t : List ℕ) → failed t c m ≡ b → failed (changed b a l t) c m ≡ b
changed_stays b a l c m t e =
    elim (ℕ_discrete c a) [
      | yes p ↦ elim (ℕ_discrete m l) [
        | yes q ↦ let f : failed t a l ≡ b = ap₂ (failed t) (sym p) (sym q) ∙ e in ap (λ (u : List ℕ). failed u c m) (changed_already b a l t f) ∙ e
        | no q ↦ changed-other b a l c m t (λ x. q) ∙ e
      ]
      | no p ↦ changed-other b a l c m t (λ x. absurd (p x)) ∙ e
    ]

-- of two changes of one link the later counts; the same again changes nothing
pub changed-again : (b c : Bool) (a l : ℕ) (t : List ℕ) → changed c a l (changed b a l t) ≡ changed c a l t
unfolding changed
changed-again b c a l [] = refl
changed-again b c zero l (x ∷ t) = ap (λ (y : ℕ). y ∷ t) (put-again b c l x)
changed-again b c (suc a) l (x ∷ t) = ap (λ (u : List ℕ). x ∷ u) (changed-again b c a l t)

-- ---- what a table that is not refused is

fits_lt : (k x : ℕ) → fits_levels k x ≡ true → x < 2 ^ suc k
unfolding fits_levels
fits_lt k x e = ltb-true x (2 ^ suc k) e

pub lt_fits : (k x : ℕ) → x < 2 ^ suc k → fits_levels k x ≡ true
unfolding fits_levels
lt_fits k x h = lt-ltb x (2 ^ suc k) h

fits-at : (k : ℕ) (t : List ℕ) → bits_fit k t ≡ true → (a : ℕ) → fits_levels k (get_or t a 0) ≡ true
unfolding bits_fit
fits-at k [] e a = lt_fits k 0 (one-le-pow (suc k) 2 (lit< tt))
fits-at k (x ∷ t) e zero = (both_held (fits_levels k x) _ e).0
fits-at k (x ∷ t) e (suc a) = fits-at k t (both_held (fits_levels k x) _ e).1 a

fits_all : (k : ℕ) (t : List ℕ) → ((a : ℕ) → fits_levels k (get_or t a 0) ≡ true) → bits_fit k t ≡ true
unfolding bits_fit
fits_all k [] h = refl
fits_all k (x ∷ t) h = rw (h zero) (fits_all k t (λ a. h (suc a)))

-- no refusal 6, and it is a table of the room
pub table_of : (s : Shape) (t : List ℕ) → table_refusal s t ≡ 0 → TableOf s t
unfolding table_refusal
table_of s t e =
    let z = both_held (eqb (length t) (servers_of s)) (bits_fit s.k t) (test_held _ 5 e) in
    record { long = eqb-true _ _ z.0; fits = fits-at s.k t z.1 }

-- a table of the room, and no refusal 6
pub table_none : {s : Shape} {t : List ℕ} → TableOf s t → 0 ≡ table_refusal s t
unfolding table_refusal
table_none {s} {t} h = rw (eq-eqb (length t) (servers_of s) h.long, fits_all s.k t h.fits)

pub room-table_of : (s : Shape) (t : List ℕ) → room_table_refusal s t ≡ 0 → Valid s × TableOf s t
unfolding room_table_refusal
room-table_of s t e = let z = or_else_zero (shape_refusal s) _ e in (valid_of s z.0, table_of s t z.1)

pub room-table-none : {s : Shape} {t : List ℕ} → Valid s → TableOf s t → 0 ≡ room_table_refusal s t
unfolding room_table_refusal
room-table-none v h = chain_goes _ _ _ _ (valid-none v) refl (table_none h)

pub room_of : (s : Shape) (t : List ℕ) (a d : ℕ) → room_refusal s t a d ≡ 0 → Ends s a d × TableOf s t
unfolding room_refusal
room_of s t a d e = let z = or_else_zero (ends_refusal s a d) _ e in (ends_of s a d z.0, table_of s t z.1)

pub room-none : {s : Shape} {t : List ℕ} {a d : ℕ} → Ends s a d → TableOf s t → 0 ≡ room_refusal s t a d
unfolding room_refusal
room-none h k = chain_goes _ _ _ _ (ends_none h) refl (table_none k)

pub table-link_of : (s : Shape) (t : List ℕ) (a l : ℕ) → table_link_refusal s t a l ≡ 0 → Link s a l × TableOf s t
unfolding table_link_refusal
table-link_of s t a l e = let z = or_else_zero (link_refusal s a l) _ e in (link_of s a l z.0, table_of s t z.1)

pub table-link-none : {s : Shape} {t : List ℕ} {a l : ℕ} → Link s a l → TableOf s t → 0 ≡ table_link_refusal s t a l
unfolding table_link_refusal
table-link-none h k = chain_goes _ _ _ _ (link-none h) refl (table_none k)

pub table-server_of : (s : Shape) (t : List ℕ) (a : ℕ) → table_server_refusal s t a ≡ 0 → Server s a × TableOf s t
unfolding table_server_refusal
table-server_of s t a z = let p = or_else_zero (server_refusal s a) (table_refusal s t) z in (server_of s a p.0, table_of s t p.1)

pub table-server-none : {s : Shape} {t : List ℕ} {a : ℕ} → Server s a → TableOf s t → 0 ≡ table_server_refusal s t a
unfolding table_server_refusal
table-server-none h k = chain_goes _ _ _ _ (server-none h) refl (table_none k)

-- no bit above k is set
pub table-above : {s : Shape} {t : List ℕ} → TableOf s t → (a l : ℕ) → s.k < l → failed t a l ≡ false
unfolding failed
table-above {s} {t} h a l p = bit-none (suc s.k) l (get_or t a 0) (fits_lt s.k (get_or t a 0) (h.fits a)) p

-- changing a link of the room leaves a table of the room
pub changed-table : (b : Bool) {s : Shape} {t : List ℕ} → TableOf s t → (a l : ℕ) → l ≤ s.k → TableOf s (changed b a l t)
changed-table b {s} {t} h a l p =
    record {
      long = changed-long b a l t ∙ h.long;
      fits = changed-each (λ (x : ℕ). fits_levels s.k x ≡ true) b a l t (λ x e. lt_fits s.k _ (put_lt b (suc s.k) l x (omega arith) (fits_lt s.k x e))) h.fits;
    }

-- ---- live hops

-- the same both ways
pub live_swap : (t : List ℕ) (l a b : ℕ) → live t l a b ≡ live t l b a
unfolding live
live_swap t l a b = and_comm (not (failed t a l)) (not (failed t b l))

-- live exactly when neither link is failed
pub live-exactly : (t : List ℕ) (l a b : ℕ) → (live t l a b ≡ true) ↔ ((failed t a l ≡ false) × (failed t b l ≡ false))
unfolding live
live-exactly t l a b =
    (λ e. let z = both_held (not (failed t a l)) (not (failed t b l)) e in (not-true _ z.0, not-true _ z.1), λ e. rw (e.0, e.1))

pub live_sender : (t : List ℕ) (l a b : ℕ) → failed t a l ≡ true → live t l a b ≡ false
unfolding live
live_sender t l a b e = rw e

pub live_receiver : (t : List ℕ) (l a b : ℕ) → failed t b l ≡ true → live t l a b ≡ false
live_receiver t l a b e = live_swap t l a b ∙ live_sender t l b a e

-- the table of a healthy room
pub zeros-table : (s : Shape) → TableOf s (replicate (servers_of s) 0)
zeros-table s =
    record {
      long = length-replicate {A = ℕ} (servers_of s) 0;
      fits = λ a. rw (same_at {A = ℕ} 0 (servers_of s) a) (lt_fits s.k 0 (one-le-pow (suc s.k) 2 (lit< tt)));
    }

-- over zeros every hop is live
pub failed-zeros : (m a l : ℕ) → failed (replicate m 0) a l ≡ false
unfolding failed
failed-zeros m a l = ap (bit l) (same_at 0 m a) ∙ bit-none 0 l 0 (lit< tt) zero-le

pub live-zeros : (m l a b : ℕ) → live (replicate m 0) l a b ≡ true
live-zeros m l a b = (live-exactly (replicate m 0) l a b).1 (failed-zeros m a l, failed-zeros m b l)

-- and with no byte at all
pub live_empty : (l a b : ℕ) → live [] l a b ≡ true
live_empty l a b = live-zeros 0 l a b

-- no hop to or from a dead server is live
pub dead-from : {s : Shape} {t : List ℕ} {a : ℕ} → Dead s t a → (l b : ℕ) → l ≤ s.k → live t l a b ≡ false
dead-from {s} {t} {a} h l b p = live_sender t l a b (h.all l p)

pub dead-to : {s : Shape} {t : List ℕ} {a : ℕ} → Dead s t a → (l b : ℕ) → l ≤ s.k → live t l b a ≡ false
dead-to {s} {t} {a} h l b p = live_receiver t l b a (h.all l p)

-- ---- the links of server a at the levels below l, changed one after the other

unfoldable pub changed_below : Bool → ℕ → ℕ → List ℕ → List ℕ
changed_below b a zero t = t
changed_below b a (suc l) t = changed b a l (changed_below b a l t)

module _ (b : Bool) (a : ℕ) (t : List ℕ) where
  pub below-long : (l : ℕ) → length (changed_below b a l t) ≡ length t
  unfolding changed_below
  below-long zero = refl
  below-long (suc l) = changed-long b a l (changed_below b a l t) ∙ below-long l

  pub below-own : a < length t → (l m : ℕ) → m < l → failed (changed_below b a l t) a m ≡ b
  unfolding changed_below
  below-own h zero m p = let z : ⊥ = omega arith in absurd z
  below-own h (suc l) m p =
      elim (ℕ_discrete m l) [
        | yes q ↦ ap (failed (changed b a l (changed_below b a l t)) a) q ∙ changed-own b a l (changed_below b a l t) (omega (arith, below-long l))
        | no q ↦ changed_stays b a l a m (changed_below b a l t) (below-own h l m (omega (arith, q)))
      ]

  pub below_other : (l c m : ℕ) → (c ≡ a → m < l → ⊥) → failed (changed_below b a l t) c m ≡ failed t c m
  unfolding changed_below
  below_other zero c m h = refl
  below_other (suc l) c m h =
      changed-other b a l c m (changed_below b a l t) (λ e q. h e (omega arith)) ∙ below_other l c m (λ e p. h e (omega arith))

  pub below-table : {s : Shape} → TableOf s t → (l : ℕ) → l ≤ suc s.k → TableOf s (changed_below b a l t)
  unfolding changed_below
  below-table k zero h = k
  below-table {s} k (suc l) h = changed-table b (below-table k l (omega arith)) a l (omega arith)

-- ---- one table

-- two tables of a room with the same links failed are the same
pub one_table : {s : Shape} {t u : List ℕ} → Valid s → TableOf s t → TableOf s u → ((x l : ℕ) → Link s x l → failed t x l ≡ failed u x l) → t ≡ u
unfolding failed
one_table {s} {t} {u} v p q h =
    ext_get_or 0 t u (p.long ∙ sym q.long)
    (λ x k. bits_same (suc s.k) (get_or t x 0) (get_or u x 0) (fits_lt s.k _ (p.fits x)) (fits_lt s.k _ (q.fits x))
    (λ l m. h x l (record { server = record { valid = v; below = omega (arith, p.long) }; level = omega arith })))
