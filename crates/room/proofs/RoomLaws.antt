-- Laws of the room: digits and addresses undo each other, what setting a digit does, and when two servers share a switch.
use Prim.Native.Nat.{ℕ, zero, suc, ◌+◌, ◌-◌, ◌*◌, ◌/◌, ◌%◌, ◌^◌, ◌≤◌, ◌<◌, suc-le-suc, zero-le}
use mathlib.Core.Path.{◌≡◌, refl, sym, ap, ◌∙◌}
use mathlib.Core.Logic.{◌≢◌, ◌↔◌}
use mathlib.Core.Bool.{cond}
use mathlib.Core.List.{List, [], ◌∷◌, ◌++◌}
use native.Mathlib.Numerals.{add-one}
use native.Mathlib.Omega.{arith}
use native.Mathlib.Decide.{dec_le, dec_lt, ℕ_discrete}
use native.Mathlib.Nat.{mod-eq_of_lt, pow-le-pow_right, one-le-pow, div-le_self, pow-suc, pow-succ', le_refl, mul_comm, mul_assoc, mul-le-mul_right, mul-div_cancel, div-le_of_le-mul, le_of_suc-le-suc, add-zero, zero-add, add-suc, suc-add}
use lib.ListN.{length, get_or, set, take, drop, replicate, length-set, length-take, drop_of_length-le, get_or-eq_default}
use lib.Seq.{get_or-set_same, get_or-set_other, set-get_or, ext_get_or, length-take-le, drop-cons, get_or-take}
use lib.Dec.{leb, lit<}
use lib.Arith.{lt-one}
use borrow.Author.Tests.{le-leb, lt-leb, eq-eqb, ne_eqb}
use Rattle.lists.specs.Lists.{filled}
use Rattle.lists.proofs.ListLaws.{pad_at, filled_at, length-filled}
use Rattle.room.specs.declared.Shape.{Shape}
use Rattle.room.specs.Digits.{digits_of, address_of, strike, differ_from, Below}
use Rattle.room.specs.Shapes.{servers_of, bound, Valid, Server, Link, Value}
use Rattle.room.specs.Addresses.{digits, digit, with_digit, switch_of, switches_at, differing, Written, Beside, Neighbours}
use Rattle.room.specs.Refusals.{place_bound}
use Rattle.room.proofs.DigitLaws.{rest_lt, power-one, length_digits, digits-below, address-digits, digits-address, address_lt, address-top, address_injective, strike-above, strike_keeps, strike-same, strike-agree, length-strike, digit_closed, digit-top, with_closed, strike_closed, padded_digits, address_padded}
use Rattle.room.proofs.RefusalLaws.{Places}

-- ---- the bound of a level, and the number of servers

pub bound-top : (s : Shape) → bound s s.k ≡ s.m
unfolding bound
bound-top s = rw (eq-eqb s.k s.k refl)

pub bound-other : (s : Shape) (l : ℕ) → l ≢ s.k → bound s l ≡ s.n
unfolding bound
bound-other s l h = rw (ne_eqb l s.k h)

-- what holds of m at the top and of n elsewhere holds of every bound
pub bound_either : (s : Shape) (P : ℕ → Type 0) → P s.m → P s.n → (l : ℕ) → P (bound s l)
bound_either s P top other l =
    elim (ℕ_discrete l s.k) [ yes e ↦ rw (e, bound-top s) top | no e ↦ rw (bound-other s l e) other ]

pub bound_le : {s : Shape} → Valid s → (l : ℕ) → bound s l ≤ s.n
bound_le {s} v l = bound_either s (λ (b : ℕ). b ≤ s.n) v.most (le_refl s.n) l

-- every digit has two values or more
pub bound-two : {s : Shape} → Valid s → (l : ℕ) → 2 ≤ bound s l
bound-two {s} v l = bound_either s (λ (b : ℕ). 2 ≤ b) v.some v.two l

pub positive : {s : Shape} → Valid s → 0 < s.n
positive v = omega arith

pub servers_are : (s : Shape) → servers_of s ≡ s.m * s.n ^ s.k
unfolding servers_of
servers_are s = refl

pub servers_le : {s : Shape} → Valid s → servers_of s ≤ s.n ^ suc s.k
unfolding servers_of
servers_le {s} v = rw pow-succ' (mul-le-mul_right (s.n ^ s.k) v.most)

-- ---- digits and addresses

pub digits_long : (s : Shape) (a : ℕ) → length (digits s a) ≡ suc s.k
unfolding digits
digits_long s a = length_digits s.n (suc s.k) a

-- digits below the base, the top one below m, are below their bounds
pub written_of : {s : Shape} {ds : List ℕ} → length ds ≡ suc s.k → Below s.n ds → get_or ds s.k 0 < s.m → Written s ds
written_of {s} {ds} e b h =
    record {
      long = e;
      small = λ l p.
          elim (ℕ_discrete l s.k) [ yes q ↦ rw (q, bound-top s) h | no q ↦ rw (bound-other s l q) (b.at l (omega arith)) ];
    }

pub written-top : {s : Shape} {ds : List ℕ} → Written s ds → get_or ds s.k 0 < s.m
written-top {s} {ds} w = rw (bound-top s) at (w.small s.k (le_refl s.k))

pub written-digits : {s : Shape} {a : ℕ} → Server s a → Written s (digits s a)
unfolding digits servers_of
written-digits {s} {a} h =
    let p = positive h.valid in
    written_of (digits_long s a) (digits-below s.n (suc s.k) a p) (digit-top s.n s.k s.m a p h.below)

-- a digit is below its level's bound
pub digit_lt : {s : Shape} {a : ℕ} → Server s a → (l : ℕ) → l ≤ s.k → digit s l a < bound s l
unfolding digit
digit_lt h l p = (written-digits h).small l p

-- digits that are below their bounds are below the base
pub written_below : {s : Shape} {ds : List ℕ} → Valid s → Written s ds → Below s.n ds
written_below {s} {ds} v w =
    record { at = λ i p. omega (arith, w.small i (omega (arith, w.long)), bound_le v i) }

-- the address of the digits of a server is the server
pub read_back : {s : Shape} {a : ℕ} → Server s a → address_of s.n (digits s a) ≡ a
unfolding digits
read_back {s} {a} h =
    address-digits s.n (suc s.k) a (positive h.valid) (omega (arith, h.below, servers_le h.valid))

-- the digits of the address of digits are those digits
pub write-back : {s : Shape} {ds : List ℕ} → Valid s → Written s ds → digits s (address_of s.n ds) ≡ ds
unfolding digits
write-back {s} {ds} v w =
    ap (λ (m : ℕ). digits_of s.n m (address_of s.n ds)) (sym w.long) ∙ digits-address s.n ds (written_below v w)

-- the address of digits is a server
pub written-server : {s : Shape} {ds : List ℕ} → Valid s → Written s ds → Server s (address_of s.n ds)
unfolding servers_of
written-server {s} {ds} v w =
    record { valid = v; below = address-top s.n s.k s.m ds w.long (written_below v w) (written-top w) }

-- equal digits, equal servers
pub same_digits : {s : Shape} {a b : ℕ} → Server s a → Server s b → ((l : ℕ) → l ≤ s.k → digit s l a ≡ digit s l b) → a ≡ b
unfolding digit
same_digits {s} {a} {b} ha hb q =
    sym (read_back ha)
    ∙ ap (address_of s.n) (ext_get_or 0 (digits s a) (digits s b) (digits_long s a ∙ sym (digits_long s b)) (λ i p. q i (omega (arith, digits_long s a))))
    ∙ read_back hb

-- past level k there is no digit
pub digit-past : (s : Shape) (a l : ℕ) → s.k < l → digit s l a ≡ 0
unfolding digit
digit-past s a l h = let z : length (digits s a) ≤ l = omega (arith, digits_long s a) in get_or-eq_default (digits s a) 0 z

-- ---- setting a digit

written_with : {s : Shape} {a l v : ℕ} → Value s a l v → Written s (set (digits s a) l v)
unfolding digit
written_with {s} {a} {l} {v} h =
    record {
      long = length-set (digits s a) l v ∙ digits_long s a;
      small = λ i p.
          elim (ℕ_discrete i l) [
            | yes q ↦ rw (q, get_or-set_same (digits s a) l v 0 (rw digits_long (omega arith))) h.value
            | no q ↦ rw (get_or-set_other (digits s a) l i v 0 q) (digit_lt h.link.server i p)
          ];
    }

pub with_digits : {s : Shape} {a l v : ℕ} → Value s a l v → digits s (with_digit s l v a) ≡ set (digits s a) l v
unfolding with_digit
with_digits h = write-back h.link.server.valid (written_with h)

-- it stays in the room
pub with_server : {s : Shape} {a l v : ℕ} → Value s a l v → Server s (with_digit s l v a)
unfolding with_digit
with_server h = written-server h.link.server.valid (written_with h)

-- the digit is what it was set to
pub with_same : {s : Shape} {a l v : ℕ} → Value s a l v → digit s l (with_digit s l v a) ≡ v
unfolding digit
with_same {s} {a} {l} {v} h = rw (with_digits h) (get_or-set_same (digits s a) l v 0 (rw digits_long (omega arith)))

-- and the others are kept
pub with_other : {s : Shape} {a l v : ℕ} → Value s a l v → (i : ℕ) → i ≢ l → digit s i (with_digit s l v a) ≡ digit s i a
unfolding digit
with_other {s} {a} {l} {v} h i q = rw (with_digits h) (get_or-set_other (digits s a) l i v 0 q)

pub with_own : {s : Shape} {a : ℕ} → Server s a → (l : ℕ) → with_digit s l (digit s l a) a ≡ a
unfolding with_digit digit
with_own {s} {a} h l = ap (address_of s.n) (set-get_or (digits s a) l 0) ∙ read_back h

pub with_beside : {s : Shape} {a l v : ℕ} → Value s a l v → Beside s l a (with_digit s l v a)
with_beside h = record { agree = λ i q. sym (with_other h i q) }

-- a server that agrees in every digit but l is reached by setting digit l
pub beside_with : {s : Shape} {l a b : ℕ} → Link s a l → Server s b → Beside s l a b → with_digit s l (digit s l b) a ≡ b
beside_with {s} {l} {a} {b} h hb q =
    let v : Value s a l (digit s l b) = record { link = h; value = digit_lt hb l h.level } in
    same_digits (with_server v) hb
    (λ i p. elim (ℕ_discrete i l) [ yes e ↦ rw e (with_same v) | no e ↦ with_other v i e ∙ q.agree i e ])

-- ---- switches

pub same_switch : {s : Shape} {l a b : ℕ} → l ≤ s.k → Beside s l a b → switch_of s l a ≡ switch_of s l b
unfolding switch_of digit
same_switch {s} {l} {a} {b} h q =
    ap (address_of s.n)
    (strike-same l (digits s a) (digits s b) (rw digits_long (omega arith))
    (record { long = digits_long s a ∙ sym (digits_long s b); agree = q.agree }))

pub switch-same : {s : Shape} {l a b : ℕ} → Link s a l → Server s b → switch_of s l a ≡ switch_of s l b → Beside s l a b
unfolding switch_of digit
switch-same {s} {l} {a} {b} h hb q =
    let la : l < length (digits s a) = rw digits_long (omega arith) in
    let lb : l < length (digits s b) = rw digits_long (omega arith) in
    let long : length (digits s a) ≡ length (digits s b) = digits_long s a ∙ sym (digits_long s b) in
    let v = hb.valid in
    let e : strike l (digits s a) ≡ strike l (digits s b) =
    address_injective s.n (strike l (digits s a)) (strike l (digits s b))
    (omega (arith, length-strike l (digits s a) la, length-strike l (digits s b) lb))
    (strike_keeps s.n l (digits s a) (written_below v (written-digits h.server)) la)
    (strike_keeps s.n l (digits s b) (written_below v (written-digits hb)) lb)
    q in
    record { agree = (strike-agree l (digits s a) (digits s b) long e).agree }

-- two servers have the same switch at level l exactly when they agree in every digit but l
pub switch-exactly : {s : Shape} {l a b : ℕ} → Link s a l → Server s b → (switch_of s l a ≡ switch_of s l b) ↔ Beside s l a b
switch-exactly h hb = (switch-same h hb, same_switch h.level)

pub with_switch : {s : Shape} {a l v : ℕ} → Value s a l v → switch_of s l (with_digit s l v a) ≡ switch_of s l a
with_switch h = sym (same_switch h.link.level (with_beside h))

-- ---- how many switches a level has

-- n^k at the top level
pub switches_top : {s : Shape} → Valid s → switches_at s s.k ≡ s.n ^ s.k
unfolding switches_at servers_of
switches_top {s} v = rw (bound-top s, mul_comm s.m (s.n ^ s.k)) (mul-div_cancel (s.n ^ s.k) (omega (arith, v.some)))

-- m*n^(k-1) at each level below
pub switches-below : {s : Shape} → Valid s → (l j : ℕ) → l ≤ j → s.k ≡ suc j → switches_at s l ≡ s.m * s.n ^ j
unfolding switches_at servers_of
switches-below {s} v l j h e =
    rw (bound-other s l (λ q. omega arith), e, pow-suc, ← mul_assoc s.m (s.n ^ j) s.n) (mul-div_cancel (s.m * s.n ^ j) (positive v))

-- the digits that name a switch: some number below that of the switches of its level
struck_lt : {s : Shape} {l : ℕ} (ds : List ℕ) → Valid s → Written s ds → l ≤ s.k → address_of s.n (strike l ds) < switches_at s l
struck_lt {s} {l} ds v w h = elim (ℕ_discrete l s.k) [ yes e ↦ top e | no e ↦ below (s.k - 1) (omega arith) (omega arith) ]
  where
    q : l < length ds
    q = omega (arith, w.long)

    long : length (strike l ds) ≡ s.k
    long = omega (arith, length-strike l ds q, w.long)

    small : Below s.n (strike l ds)
    small = strike_keeps s.n l ds (written_below v w) q

    top : l ≡ s.k → address_of s.n (strike l ds) < switches_at s l
    top e = omega (arith, ap (switches_at s) e, switches_top v, ap (λ (x : ℕ). s.n ^ x) long, address_lt s.n (strike l ds) small)

    below : (j : ℕ) → l ≤ j → s.k ≡ suc j → address_of s.n (strike l ds) < switches_at s l
    below j b e =
        let m : get_or ds (suc j) 0 < s.m = rw (← e) (written-top w) in
        rw (switches-below v l j b e)
        (address-top s.n j s.m (strike l ds) (long ∙ e) small (rw (strike-above l ds j b) m))

-- a switch's number is below the number of switches of its level
pub switch_lt : {s : Shape} {a l : ℕ} → Link s a l → switch_of s l a < switches_at s l
unfolding switch_of
switch_lt {s} {a} {l} h = struck_lt (digits s a) h.server.valid (written-digits h.server) h.level

-- a level never has more than n^k switches: no bound is below m
pub switches_le : {s : Shape} → Valid s → (l : ℕ) → switches_at s l ≤ s.n ^ s.k
unfolding switches_at servers_of
switches_le {s} v l =
    let b = bound_either s (λ (b : ℕ). s.m ≤ b) (le_refl s.m) v.most l in
    div-le_of_le-mul (bound s l) (mul-le-mul_right (s.n ^ s.k) b)

pub switches-small : {s : Shape} → Valid s → (l : ℕ) → switches_at s l ≤ 4096
unfolding switches_at
switches-small {s} v l = omega (arith, div-le_self (servers_of s) (bound s l), v.small)

pub switch-small : {s : Shape} {a l : ℕ} → Link s a l → switch_of s l a < 4096
switch-small {s} {a} {l} h = omega (arith, switch_lt h, switches-small h.server.valid l)

-- ---- neighbours

pub differ-step : (i : ℕ) (ds es : List ℕ) → i < length ds → i < length es → get_or ds i 0 ≡ get_or es i 0 → differ_from i (drop i ds) (drop i es) ≡ differ_from (i + 1) (drop (i + 1) ds) (drop (i + 1) es)
unfolding differ_from
differ-step i ds es p q e = rw (add-one, drop-cons ds i 0 p, drop-cons es i 0 q) (simp (eq-eqb _ _ e))

pub differ-here : (i : ℕ) (ds es : List ℕ) → i < length ds → i < length es → (get_or ds i 0 ≡ get_or es i 0 → ⊥) → differ_from i (drop i ds) (drop i es) ≡ i ∷ differ_from (i + 1) (drop (i + 1) ds) (drop (i + 1) es)
unfolding differ_from
differ-here i ds es p q e = rw (add-one, drop-cons ds i 0 p, drop-cons es i 0 q) (simp (ne_eqb _ _ e))

pub differ-end : (i : ℕ) (ds es : List ℕ) → length ds ≤ i → differ_from i (drop i ds) (drop i es) ≡ []
unfolding differ_from
differ-end i ds es h = rw (drop_of_length-le ds h)

differ-none : (o : ℕ) (ds : List ℕ) → differ_from o ds ds ≡ []
unfolding differ_from
differ-none o [] = refl
differ-none o (d ∷ ds) = rw (eq-eqb d d refl) (differ-none (suc o) ds)

none_differ : (o : ℕ) (ds es : List ℕ) → length ds ≡ length es → differ_from o ds es ≡ [] → ds ≡ es
unfolding differ_from
none_differ o [] [] l q = refl
none_differ o [] (e ∷ es) l q = let z : ⊥ = omega arith in absurd z
none_differ o (d ∷ ds) [] l q = let z : ⊥ = omega arith in absurd z
none_differ o (d ∷ ds) (e ∷ es) l q =
    elim (ℕ_discrete d e) [
      | yes h ↦ let r : differ_from (suc o) ds es ≡ [] = rw (eq-eqb d e h) at q in
          ap (λ (x : ℕ). x ∷ ds) h ∙ ap (λ (x : List ℕ). e ∷ x) (none_differ (suc o) ds es (omega arith) r)
      | no h ↦ let r : o ∷ differ_from (suc o) ds es ≡ [] = rw (ne_eqb d e h) at q in
          let z : ◌≡◌ {A = ℕ} 0 1 = cc in let n : ⊥ = omega arith in absurd n
    ]

-- two lists differ in place l only
pub record Only (l : ℕ) (ds es : List ℕ) : Type 0 where
  pub inside : l < length ds
  pub differ : get_or ds l 0 ≢ get_or es l 0
  pub agree : (i : ℕ) → i ≢ l → get_or ds i 0 ≡ get_or es i 0

pub only-differ : (o l : ℕ) (ds es : List ℕ) → length ds ≡ length es → Only l ds es → differ_from o ds es ≡ (o + l) ∷ []
unfolding differ_from
only-differ o l [] es q h = let z : ⊥ = omega (arith, h.inside) in absurd z
only-differ o l (d ∷ ds) [] q h = let z : ⊥ = omega arith in absurd z
only-differ o zero (d ∷ ds) (e ∷ es) q h =
    let r : ds ≡ es = ext_get_or 0 ds es (omega arith) (λ i p. h.agree (suc i) (omega arith)) in
    rw (ne_eqb d e h.differ, add-zero) (ap (λ (x : List ℕ). o ∷ differ_from (suc o) x es) r ∙ ap (λ (x : List ℕ). o ∷ x) (differ-none (suc o) es))
only-differ o (suc l) (d ∷ ds) (e ∷ es) q h =
    rw (eq-eqb d e (h.agree zero (omega arith)), add-suc, ← suc-add)
    (only-differ (suc o) l ds es (omega arith)
    (record { inside = le_of_suc-le-suc h.inside; differ = h.differ; agree = λ i p. h.agree (suc i) (omega arith) }))

pub differ-only : (o m : ℕ) (ds es : List ℕ) → length ds ≡ length es → differ_from o ds es ≡ m ∷ [] → (l : ℕ) × (m ≡ o + l) × Only l ds es
unfolding differ_from
differ-only o m [] es q h = let z : ◌≡◌ {A = ℕ} 0 1 = cc in let n : ⊥ = omega arith in absurd n
differ-only o m (d ∷ ds) [] q h = let n : ⊥ = omega arith in absurd n
differ-only o m (d ∷ ds) (e ∷ es) q h =
    elim (ℕ_discrete d e) [
      | yes y ↦ let r : differ_from (suc o) ds es ≡ m ∷ [] = rw (eq-eqb d e y) at h in
          let t = differ-only (suc o) m ds es (omega arith) r in
          (suc t.0, omega (arith, t.1), record { inside = suc-le-suc t.2.inside; differ = t.2.differ; agree = after y t.0 t.2.agree })
      | no y ↦ let r : o ∷ differ_from (suc o) ds es ≡ m ∷ [] = rw (ne_eqb d e y) at h in
          let u : o ≡ m = cc in
          let w : differ_from (suc o) ds es ≡ [] = cc in
          (zero, omega arith, record { inside = suc-le-suc zero-le; differ = y; agree = here (none_differ (suc o) ds es (omega arith) w) })
    ]
  where
    after : d ≡ e → (l : ℕ) → ((i : ℕ) → i ≢ l → get_or ds i 0 ≡ get_or es i 0) → (i : ℕ) → i ≢ suc l → get_or (d ∷ ds) i 0 ≡ get_or (e ∷ es) i 0
    after y l f zero p = y
    after y l f (suc i) p = f i (λ t. p (ap suc t))

    here : ds ≡ es → (i : ℕ) → i ≢ zero → get_or (d ∷ ds) i 0 ≡ get_or (e ∷ es) i 0
    here y zero p = absurd (p refl)
    here y (suc i) p = ap (λ (x : List ℕ). get_or x i 0) y

-- two servers differ in one level alone exactly when they are neighbours there
pub neighbours-exactly : {s : Shape} {a b : ℕ} → Server s a → Server s b → (l : ℕ) → (differing s a b ≡ l ∷ []) ↔ Neighbours s l a b
unfolding differing digit
neighbours-exactly {s} {a} {b} ha hb l = (there, back)
  where
    long : length (digits s a) ≡ length (digits s b)
    long = digits_long s a ∙ sym (digits_long s b)

    there : differ_from 0 (digits s a) (digits s b) ≡ l ∷ [] → Neighbours s l a b
    there e =
        let t = differ-only 0 l (digits s a) (digits s b) long e in
        let m : t.0 ≡ l = omega (arith, t.1) in
        let o : Only l (digits s a) (digits s b) = rw m at t.2 in
        record { level = omega (arith, o.inside, digits_long s a); beside = record { agree = o.agree }; differ = o.differ }

    back : Neighbours s l a b → differ_from 0 (digits s a) (digits s b) ≡ l ∷ []
    back h =
        rw zero-add at (only-differ 0 l (digits s a) (digits s b) long
        (record { inside = rw digits_long (omega (arith, h.level)); differ = h.differ; agree = h.beside.agree }))

-- ---- four places

-- the highest of four has no digit above it: it is the quotient itself
pub digits-four : {s : Shape} {a : ℕ} → Server s a → (a % s.n ∷ a / s.n % s.n ∷ a / s.n / s.n % s.n ∷ a / s.n / s.n / s.n ∷ []) ≡ filled 4 (digits s a)
unfolding digits digits_of
digits-four {s} {a} h =
    let n = s.n in
    let p = positive h.valid in
    let w : a < n ^ suc s.k = omega (arith, h.below, servers_le h.valid) in
    let four : n ^ suc s.k ≤ n ^ 4 = pow-le-pow_right p (omega (arith, h.valid.levels)) in
    let top : a / n / n / n < n ^ 1 = rest_lt n 1 (a / n / n) p (rest_lt n 2 (a / n) p (rest_lt n 3 a p (omega arith))) in
    let q : a / n / n / n < n = omega (arith, power-one n) in
    ap (λ (x : ℕ). a % n ∷ a / n % n ∷ a / n / n % n ∷ x ∷ []) (sym (mod-eq_of_lt q))
    ∙ padded_digits n (suc s.k) a p (omega (arith, h.valid.levels)) w

pub place-digit : (s : Shape) (a l : ℕ) → get_or (filled 4 (digits s a)) l 0 ≡ digit s l a
unfolding digit
place-digit s a l = filled_at 4 (digits s a) l

-- every digit of a list with zeros behind it is below n
pub below_padded : (n : ℕ) (ds : List ℕ) (m : ℕ) → 0 < n → Below n ds → Below n (ds ++ replicate m 0)
below_padded n ds m p b =
    record {
      at = λ i h.
          rw (pad_at ds m i)
          (elim (dec_lt i (length ds)) [ yes y ↦ b.at i y | no y ↦ let z : length ds ≤ i = omega arith in rw (get_or-eq_default ds 0 z) p ]);
    }

pub padded_below : {s : Shape} {ds : List ℕ} → Valid s → Written s ds → Below s.n (filled 4 ds)
unfolding filled
padded_below {s} {ds} v w = below_padded s.n ds (4 - length ds) (positive v) (written_below v w)

strike_padded : (l : ℕ) (ds zs : List ℕ) → l < length ds → strike l (ds ++ zs) ≡ strike l ds ++ zs
strike_padded l [] zs h = let z : ⊥ = omega arith in absurd z
strike_padded zero (d ∷ ds) zs h = refl
strike_padded (suc l) (d ∷ ds) zs h = ap (λ (x : List ℕ). d ∷ x) (strike_padded l ds zs (le_of_suc-le-suc h))

-- striking a digit out of four places
pub strike-four : {s : Shape} {a l : ℕ} → Link s a l → address_of s.n (strike l (filled 4 (digits s a)) ++ (0 ∷ [])) ≡ switch_of s l a
unfolding switch_of filled
strike-four {s} {a} {l} h =
    let q : l < length (digits s a) = rw digits_long (omega arith) in
    let z = 4 - length (digits s a) in
    address_padded s.n (strike l (filled 4 (digits s a))) 1
    ∙ ap (address_of s.n) (strike_padded l (digits s a) (replicate z 0) q)
    ∙ address_padded s.n (strike l (digits s a)) z

pub strike-four-below : {s : Shape} {a l : ℕ} → Link s a l → Below s.n (strike l (filled 4 (digits s a)) ++ (0 ∷ []))
strike-four-below {s} {a} {l} h =
    let v = h.server.valid in
    let w = written-digits h.server in
    let q : length (digits s a) ≤ 4 = rw digits_long (omega arith) in
    below_padded s.n (strike l (filled 4 (digits s a))) 1 (positive v)
    (strike_keeps s.n l (filled 4 (digits s a)) (padded_below v w) (rw (length-filled 4 (digits s a) q) (omega arith)))

differ_padded : (o : ℕ) (ds es zs : List ℕ) → length ds ≡ length es → differ_from o (ds ++ zs) (es ++ zs) ≡ differ_from o ds es
unfolding differ_from
differ_padded o [] [] zs h = differ-none o zs
differ_padded o [] (e ∷ es) zs h = let z : ⊥ = omega arith in absurd z
differ_padded o (d ∷ ds) [] zs h = let z : ⊥ = omega arith in absurd z
differ_padded o (d ∷ ds) (e ∷ es) zs h =
    let r : length ds ≡ length es = omega arith in rw (differ_padded (suc o) ds es zs r)

pub differ-four : (s : Shape) (a b : ℕ) → differ_from 0 (filled 4 (digits s a)) (filled 4 (digits s b)) ≡ differing s a b
unfolding differing filled
differ-four s a b =
    rw (digits_long s a, digits_long s b)
    (differ_padded 0 (digits s a) (digits s b) (replicate (4 - suc s.k) 0) (digits_long s a ∙ sym (digits_long s b)))

-- ---- four places that are not refused

pub places_below : {s : Shape} {ds : List ℕ} → Places s ds → Below s.n ds
unfolding place_bound
places_below {s} {ds} p = record { at = at }
  where
    at : (i : ℕ) → i < length ds → get_or ds i 0 < s.n
    at i h =
        elim (dec_le i s.k) [
          | yes y ↦ let b : get_or ds i 0 < bound s i = rw (le-leb i s.k y) at (p.at i h) in omega (arith, bound_le p.valid i)
          | no y ↦ let b : get_or ds i 0 < 1 = rw (lt-leb i s.k (omega arith)) at (p.at i h) in omega (arith, positive p.valid)
        ]

pub places_digits : {s : Shape} {a : ℕ} → Server s a → Places s (filled 4 (digits s a))
unfolding place_bound
places_digits {s} {a} h = record { valid = h.valid; at = at }
  where
    at : (i : ℕ) → i < length (filled 4 (digits s a)) → get_or (filled 4 (digits s a)) i 0 < cond (leb i s.k) (bound s i) 1
    at i p =
        elim (dec_le i s.k) [
          | yes y ↦ rw (le-leb i s.k y, place-digit s a i) (digit_lt h i y)
          | no y ↦ rw (lt-leb i s.k (omega arith), place-digit s a i, digit-past s a i (omega arith)) (lit< tt)
        ]

pub places_written : {s : Shape} {ds : List ℕ} → Places s ds → length ds ≡ 4 → Written s (take (suc s.k) ds)
unfolding place_bound
places_written {s} {ds} h l =
    record {
      long = length-take-le (suc s.k) ds (omega (arith, h.valid.levels));
      small = λ i p.
          rw (get_or-take (suc s.k) ds i 0 (suc-le-suc p))
          (rw (le-leb i s.k p) at (h.at i (omega (arith, h.valid.levels))));
    }

pub places_padded : {s : Shape} {ds : List ℕ} → Places s ds → length ds ≡ 4 → filled 4 (take (suc s.k) ds) ≡ ds
unfolding place_bound
places_padded {s} {ds} h l = ext_get_or 0 (filled 4 T) ds (length-filled 4 T (omega (arith, length-take (suc s.k) ds, h.valid.levels)) ∙ sym l) at
  where
    T : List ℕ
    T = take (suc s.k) ds

    at : (i : ℕ) → i < length (filled 4 T) → get_or (filled 4 T) i 0 ≡ get_or ds i 0
    at i p =
        filled_at 4 T i
        ∙ (elim (dec_lt i (suc s.k)) as (λ x. get_or T i 0 ≡ get_or ds i 0) [
          | yes y ↦ get_or-take (suc s.k) ds i 0 y
          | no y ↦ let z : length T ≤ i = omega (arith, length-take (suc s.k) ds) in
              let q : i < length ds = omega (arith, length-filled 4 T (omega (arith, length-take (suc s.k) ds, h.valid.levels))) in
              let b : get_or ds i 0 < 1 = rw (lt-leb i s.k (omega arith)) at (h.at i q) in
              get_or-eq_default T 0 z ∙ sym (lt-one b)
        ])

pub places_address : {s : Shape} {ds : List ℕ} → Places s ds → length ds ≡ 4 → address_of s.n ds ≡ address_of s.n (take (suc s.k) ds)
unfolding filled
places_address {s} {ds} h l =
    ap (address_of s.n) (sym (places_padded h l))
    ∙ address_padded s.n (take (suc s.k) ds) (4 - length (take (suc s.k) ds))

-- ---- closed forms, for a program that has the power p of the base at hand

pub digit_closed_at : {s : Shape} {a l : ℕ} → Link s a l → (p : ℕ) → p ≡ s.n ^ l → a / p % s.n ≡ digit s l a
unfolding digit digits
digit_closed_at {s} {a} {l} h p e = rw e (sym (digit_closed s.n (suc s.k) l a (omega arith)))

pub switch_closed_at : {s : Shape} {a l : ℕ} → Link s a l → (p : ℕ) → p ≡ s.n ^ l → a % p + p * (a / p / s.n) ≡ switch_of s l a
unfolding switch_of digits
switch_closed_at {s} {a} {l} h p e =
    rw e (sym (strike_closed s.n (suc s.k) l a (positive h.server.valid) (omega (arith, h.server.below, servers_le h.server.valid)) (omega arith)))

pub with_closed_at : {s : Shape} {a l v : ℕ} → Value s a l v → (p : ℕ) → p ≡ s.n ^ l → a % p + p * (v + s.n * (a / p / s.n)) ≡ with_digit s l v a
unfolding with_digit digits
with_closed_at {s} {a} {l} {v} h p e =
    rw e (sym (with_closed s.n (suc s.k) l v a (positive h.link.server.valid) (omega (arith, h.link.server.below, servers_le h.link.server.valid)) (omega arith)))

pub weight_pos : {s : Shape} → Valid s → (l p : ℕ) → p ≡ s.n ^ l → 0 < p
weight_pos {s} v l p e = rw e (one-le-pow l s.n (positive v))
