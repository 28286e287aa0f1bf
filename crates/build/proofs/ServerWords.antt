-- The servers of the built routes from a to d, each by the word that tells which of its two values every digit has.
use Prim.Native.Nat.{ℕ, suc, ◌+◌, ◌%◌, ◌≤◌, ◌<◌}
use mathlib.Core.Path.{◌≡◌, refl, sym, ap, ◌∙◌, subst}
use mathlib.Core.Logic.{◌≢◌}
use mathlib.Core.Bool.{Bool, true, false, not, cond, ◌&&◌, beq}
use mathlib.Core.List.{List, [], ◌∷◌, map}
use native.Mathlib.Omega.{arith}
use native.Mathlib.Decide.{ℕ_discrete, dec_lt}
use native.Mathlib.Nat.{mod-eq_of_lt, mod_self, mod-lt}
use borrow.Author.Tests.{eq-eqb, ne_eqb, eqb-true, leb-true}
use lib.Dec.{T, eqb, leb}
use lib.ListN.{length, get_or, set, length-set, length-replicate}
use lib.Seq.{ext_get_or}
use Rattle.lists.proofs.ListLaws.{All}
use Rattle.lists.proofs.ListLaws.{same_at}
use Rattle.room.specs.declared.Shape.{Shape}
use Rattle.room.specs.Shapes.{bound, Valid, Server, Link}
use Rattle.room.specs.Digits.{address_of}
use Rattle.room.specs.Addresses.{digits, digit, with_digit, differing, Written}
use Rattle.room.proofs.RoomLaws.{bound-two, digits_long, digit_lt, digit-past, read_back, write-back, written-server, same_digits}
use Rattle.path.specs.Routes.{switch_at}
use Rattle.build.specs.Built.{plus_one, route_over, built_hops, met_by}
use Rattle.build.proofs.ListLaws.{and_left, and_right, T_true, T_false, true_T}
use Rattle.build.proofs.Symbolic.{Word, zeros_b, hops_b, met_b, left_b, last_b, fits_b, same_word, same_but, same_switch, count}
use Rattle.build.proofs.Lift.{lift, lift_hop, length_lift, set_lift, get_d_lift, route_lift}
use Rattle.build.proofs.HopLaws.{switch-at-level, switch-at-same, Fits, used_by}
use Rattle.build.proofs.Words.{beq_true, beq_same, both, word_same, word_but, pattern, pattern_long, pattern_at, pattern_count, count_none, not-false}

-- ---- a digit + 1 is another value of its level

pub plus_lt : {s : Shape} → Valid s → (l x : ℕ) → plus_one s l x < bound s l
unfolding plus_one
plus_lt {s} v l x = let p : 0 < bound s l = omega (arith, bound-two v l) in mod-lt _ p

-- y is the bound that the program found
module _ (s : Shape) (l x y : ℕ) (e : y ≡ bound s l) where
  pub plus_below : x + 1 < y → x + 1 ≡ plus_one s l x
  unfolding plus_one
  plus_below h = sym (ap (λ (z : ℕ). (x + 1) % z) (sym e) ∙ mod-eq_of_lt h)

  pub plus_round : (x + 1) % y ≡ plus_one s l x
  unfolding plus_one
  plus_round = ap (λ (z : ℕ). (x + 1) % z) e

pub plus_other : {s : Shape} → Valid s → (l x : ℕ) → x ≢ plus_one s l x
unfolding plus_one
plus_other {s} v l x q =
    elim (dec_lt (x + 1) (bound s l)) [
      | yes h ↦ omega (arith, mod-eq_of_lt h)
      | no h ↦ let b : (x + 1) % bound s l < bound s l = plus_lt v l x in
          let e : x + 1 ≡ bound s l = omega arith in
          let w : (x + 1) % bound s l ≡ bound s l % bound s l = ap (λ (y : ℕ). y % bound s l) e in
          omega (arith, mod_self (bound s l), bound-two v l)
    ]

-- ---- the two values of each digit on the built routes from a to d: the source's; and the destination's, or one more where they are the same

abbrev pub val : Shape → ℕ → ℕ → ℕ → Bool → ℕ
val s a d l false = digit s l a
val s a d l true = cond (eqb (digit s l a) (digit s l d)) (plus_one s l (digit s l a)) (digit s l d)

-- the server that a word stands for, and the pattern of the two ends
abbrev pub place : Shape → ℕ → ℕ → Word → ℕ
place s a d x = address_of s.n (lift (val s a d) x)

abbrev pub ends : Shape → ℕ → ℕ → Word
ends s a d = pattern (digits s a) (digits s d)

module _ (s : Shape) (a d : ℕ) (ha : Server s a) (hd : Server s d) where
  digits_same : length (digits s a) ≡ length (digits s d)
  digits_same = digits_long s a ∙ sym (digits_long s d)

  pub zeros-long : length (zeros_b s.k) ≡ suc s.k
  zeros-long = length-replicate (suc s.k) false

  pub ends_long : length (ends s a d) ≡ suc s.k
  ends_long = pattern_long (digits s a) (digits s d) digits_same ∙ digits_long s a

  pub ends_at : (l : ℕ) → get_or (ends s a d) l false ≡ not (eqb (digit s l a) (digit s l d))
  unfolding digit
  ends_at l = pattern_at (digits s a) (digits s d) digits_same l

  val_two : (l : ℕ) → val s a d l false ≢ val s a d l true
  val_two l =
      elim (ℕ_discrete (digit s l a) (digit s l d)) [
        | yes q ↦ rw (eq-eqb (digit s l a) (digit s l d) q) (plus_other ha.valid l (digit s l a))
        | no q ↦ rw (ne_eqb (digit s l a) (digit s l d) q) q
      ]

  val_past : (l : ℕ) → suc s.k ≤ l → val s a d l false ≡ 0
  val_past l h = digit-past s a l h

  val_lt : (l : ℕ) → l ≤ s.k → (b : Bool) → val s a d l b < bound s l
  val_lt l h false = digit_lt ha l h
  val_lt l h true = go (eqb (digit s l a) (digit s l d))
    where
      go : (t : Bool) → cond t (plus_one s l (digit s l a)) (digit s l d) < bound s l
      go true = plus_lt ha.valid l (digit s l a)
      go false = digit_lt hd l h

  val_same : (l : ℕ) (x y : Bool) → val s a d l x ≡ val s a d l y → x ≡ y
  val_same l true true e = refl
  val_same l true false e = absurd (val_two l (sym e))
  val_same l false true e = absurd (val_two l e)
  val_same l false false e = refl

  lift_at : (x : Word) → length x ≡ suc s.k → (l : ℕ) → get_or (lift (val s a d) x) l 0 ≡ val s a d l (get_or x l false)
  lift_at x e l = get_d_lift (val s a d) x (λ j h. val_past j (omega arith)) l

  -- ---- the ends

  source : lift (val s a d) (zeros_b s.k) ≡ digits s a
  unfolding digit
  source =
      ext_get_or 0 (lift (val s a d) (zeros_b s.k)) (digits s a)
      (length_lift (val s a d) (zeros_b s.k) ∙ zeros-long ∙ sym (digits_long s a))
      (λ l p. lift_at (zeros_b s.k) zeros-long l ∙ ap (val s a d l) (same_at false (suc s.k) l))

  target_at : (l : ℕ) (b : Bool) → b ≡ not (eqb (digit s l a) (digit s l d)) → val s a d l b ≡ digit s l d
  target_at l b e =
      elim (ℕ_discrete (digit s l a) (digit s l d)) [
        | yes q ↦ let f : b ≡ false = e ∙ ap not (eq-eqb (digit s l a) (digit s l d) q) in ap (val s a d l) f ∙ q
        | no q ↦ let f : b ≡ true = e ∙ ap not (ne_eqb (digit s l a) (digit s l d) q) in
            ap (val s a d l) f ∙ ap (λ (t : Bool). cond t (plus_one s l (digit s l a)) (digit s l d)) (ne_eqb (digit s l a) (digit s l d) q)
      ]

  target : lift (val s a d) (ends s a d) ≡ digits s d
  unfolding digit
  target =
      ext_get_or 0 (lift (val s a d) (ends s a d)) (digits s d)
      (length_lift (val s a d) (ends s a d) ∙ ends_long ∙ sym (digits_long s d))
      (λ l p. lift_at (ends s a d) ends_long l ∙ target_at l (get_or (ends s a d) l false) (ends_at l))

  pub place-source : place s a d (zeros_b s.k) ≡ a
  place-source = ap (address_of s.n) source ∙ read_back ha

  pub place_target : place s a d (ends s a d) ≡ d
  place_target = ap (address_of s.n) target ∙ read_back hd

  -- ---- the hops

  detour-at : (i : ℕ) → beq (get_or (zeros_b s.k) i false) (get_or (ends s a d) i false) ≡ true → plus_one s i (val s a d i (get_or (zeros_b s.k) i false)) ≡ val s a d i (not (get_or (zeros_b s.k) i false))
  detour-at i e =
      let z = same_at false (suc s.k) i in
      let f : not (eqb (digit s i a) (digit s i d)) ≡ false =
      sym (ends_at i) ∙ sym (beq_true (get_or (zeros_b s.k) i false) (get_or (ends s a d) i false) e) ∙ z in
      rw (z, not-false (eqb (digit s i a) (digit s i d)) f)

  pub hops_are : (i : ℕ) → built_hops s i a d ≡ map (lift_hop (val s a d)) (hops_b s.k i (ends s a d))
  unfolding built_hops
  hops_are i =
      subst (λ (x : List ℕ). route_over eqb 0 (plus_one s) s.k i x (digits s d) ≡ map (lift_hop (val s a d)) (hops_b s.k i (ends s a d))) source
      (subst (λ (y : List ℕ). route_over eqb 0 (plus_one s) s.k i (lift (val s a d) (zeros_b s.k)) y ≡ map (lift_hop (val s a d)) (hops_b s.k i (ends s a d))) target
      (route_lift (val s a d) val_two (suc s.k) val_past (plus_one s) s.k i (zeros_b s.k) (ends s a d) zeros-long ends_long (detour-at i)))

  -- ---- the servers that words stand for

  place-written : (x : Word) → length x ≡ suc s.k → Written s (lift (val s a d) x)
  place-written x e =
      record {
        long = length_lift (val s a d) x ∙ e;
        small = λ l h. rw (lift_at x e l) (val_lt l h (get_or x l false));
      }

  place-server : (x : Word) → length x ≡ suc s.k → Server s (place s a d x)
  place-server x e = written-server ha.valid (place-written x e)

  place-digits : (x : Word) → length x ≡ suc s.k → digits s (place s a d x) ≡ lift (val s a d) x
  place-digits x e = write-back ha.valid (place-written x e)

  place-digit : (x : Word) → length x ≡ suc s.k → (l : ℕ) → digit s l (place s a d x) ≡ val s a d l (get_or x l false)
  unfolding digit
  place-digit x e l = ap (λ (y : List ℕ). get_or y l 0) (place-digits x e) ∙ lift_at x e l

  place_with : (x : Word) → length x ≡ suc s.k → (l : ℕ) (b : Bool) → with_digit s l (val s a d l b) (place s a d x) ≡ place s a d (set x l b)
  unfolding with_digit
  place_with x e l b =
      ap (λ (y : List ℕ). address_of s.n (set y l (val s a d l b))) (place-digits x e)
      ∙ ap (address_of s.n) (set_lift (val s a d) x l b)

  pub place_same : (x y : Word) → length x ≡ suc s.k → length y ≡ suc s.k → place s a d x ≡ place s a d y → T (same_word x y)
  place_same x y hx hy e =
      word_same x y (hx ∙ sym hy)
      (λ l p. val_same l (get_or x l false) (get_or y l false) (sym (place-digit x hx l) ∙ ap (digit s l) e ∙ place-digit y hy l))

  -- a link: its level, and the server that has it
  abbrev pub Linked : ℕ × Word → Type 0
  Linked u = (u.0 ≤ s.k) × (length u.1 ≡ suc s.k)

  abbrev pub switch_b : ℕ × Word → ℕ
  switch_b u = switch_at s u.0 (place s a d u.1)

  pub switch-same : (u v : ℕ × Word) → Linked u → Linked v → switch_b u ≡ switch_b v → T (same_switch u v)
  switch-same u v hu hv e =
      let lu : Link s (place s a d u.1) u.0 = record { server = place-server u.1 hu.1; level = hu.0 } in
      let lv : Link s (place s a d v.1) v.0 = record { server = place-server v.1 hv.1; level = hv.0 } in
      let q : u.0 ≡ v.0 = switch-at-level lu lv e in
      let lw : Link s (place s a d v.1) u.0 = record { server = place-server v.1 hv.1; level = hu.0 } in
      let w : switch_at s u.0 (place s a d u.1) ≡ switch_at s u.0 (place s a d v.1) =
      e ∙ ap (λ (l : ℕ). switch_at s l (place s a d v.1)) (sym q) in
      let b = switch-at-same lu lw w in
      both (eqb u.0 v.0) (same_but u.0 u.1 v.1) (true_T (eqb u.0 v.0) (eq-eqb u.0 v.0 q))
      (word_but u.0 u.1 v.1 (hu.1 ∙ sym hv.1)
      (λ l p ne. val_same l (get_or u.1 l false) (get_or v.1 l false) (sym (place-digit u.1 hu.1 l) ∙ b.agree l ne ∙ place-digit v.1 hv.1 l)))

  -- ---- hops over words are hops over addresses

  abbrev pub Long : Word → Type 0
  Long x = length x ≡ suc s.k

  abbrev hopped : List (ℕ × Bool) → List (ℕ × ℕ)
  hopped hs = map (lift_hop (val s a d)) hs

  long-set : (x : Word) → Long x → (h : ℕ × Bool) → Long (set x h.0 h.1)
  long-set x e h = length-set x h.0 h.1 ∙ e

  pub met_are : (x : Word) → Long x → (hs : List (ℕ × Bool)) → met_by s (place s a d x) (hopped hs) ≡ map (place s a d) (met_b x hs)
  unfolding met_by
  met_are x e [] = refl
  met_are x e (h ∷ hs) =
      ap (λ (r : List ℕ). place s a d x ∷ r)
      (ap (λ (b : ℕ). met_by s b (hopped hs)) (place_with x e h.0 h.1) ∙ met_are (set x h.0 h.1) (long-set x e h) hs)

  pub used_are : (x : Word) → Long x → (hs : List (ℕ × Bool)) → used_by s (place s a d x) (hopped hs) ≡ map switch_b (left_b x hs)
  unfolding used_by
  used_are x e [] = refl
  used_are x e (h ∷ hs) =
      ap (λ (r : List ℕ). switch_at s h.0 (place s a d x) ∷ r)
      (ap (λ (b : ℕ). used_by s b (hopped hs)) (place_with x e h.0 h.1) ∙ used_are (set x h.0 h.1) (long-set x e h) hs)

  pub fits_are : (x : Word) → Long x → (hs : List (ℕ × Bool)) → T (fits_b s.k x hs) → Fits s (place s a d x) (hopped hs)
  fits_are x e [] t = tt
  fits_are x e (h ∷ hs) t =
      let same = beq (get_or x h.0 false) h.1 in
      let rest = fits_b s.k (set x h.0 h.1) hs in
      let p : h.0 ≤ s.k = leb-true h.0 s.k (T_true (leb h.0 s.k) (and_left (leb h.0 s.k) (not same && rest) t)) in
      let u : T (not same && rest) = and_right (leb h.0 s.k) (not same && rest) t in
      let q : same ≡ false = T_false same (and_left (not same) rest u) in
      let f = fits_are (set x h.0 h.1) (long-set x e h) hs (and_right (not same) rest u) in (
        record { link = record { server = place-server x e; level = p }; value = val_lt h.0 p h.1 },
        (λ z. differ (get_or x h.0 false) h.1 q (val_same h.0 (get_or x h.0 false) h.1 (sym (place-digit x e h.0) ∙ z))),
        subst (λ (b : ℕ). Fits s b (hopped hs)) (sym (place_with x e h.0 h.1)) f,
      )
    where
      differ : (b c : Bool) → beq b c ≡ false → b ≢ c
      differ b c q z = let w : T false = subst T q (beq_same b c z) in w

  pub met_all : (x : Word) → Long x → (hs : List (ℕ × Bool)) → All Long (met_b x hs)
  met_all x e [] = (e, tt)
  met_all x e (h ∷ hs) = (e, met_all (set x h.0 h.1) (long-set x e h) hs)

  pub left-all : (x : Word) → Long x → (hs : List (ℕ × Bool)) → T (fits_b s.k x hs) → All Linked (left_b x hs)
  left-all x e [] t = tt
  left-all x e (h ∷ hs) t =
      let same = beq (get_or x h.0 false) h.1 in
      let rest = fits_b s.k (set x h.0 h.1) hs in
      let u : T (not same && rest) = and_right (leb h.0 s.k) (not same && rest) t in (
        (leb-true h.0 s.k (T_true (leb h.0 s.k) (and_left (leb h.0 s.k) (not same && rest) t)), e),
        left-all (set x h.0 h.1) (long-set x e h) hs (and_right (not same) rest u),
      )

  pub last_at : (x : Word) (hs : List (ℕ × Bool)) → get_or (map (place s a d) (met_b x hs)) (length hs) 0 ≡ place s a d (last_b x hs)
  last_at x [] = refl
  last_at x (h ∷ hs) = last_at (set x h.0 h.1) hs

  pub ends_count : length (differing s a d) ≡ count (ends s a d)
  unfolding differing
  ends_count = pattern_count 0 (digits s a) (digits s d) digits_same

  pub ends_differ : a ≢ d → count (ends s a d) ≢ 0
  ends_differ ne e =
      ne (same_digits ha hd (λ l p.
      eqb-true (digit s l a) (digit s l d)
      (not-false (eqb (digit s l a) (digit s l d)) (sym (ends_at l) ∙ count_none (ends s a d) e l))))
