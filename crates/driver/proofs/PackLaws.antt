-- A step fits its two numbers, and a driver reads the very step back of them.
use Prim.Native.Nat.{ℕ, zero, suc, ◌+◌, ◌*◌, ◌/◌, ◌%◌, ◌≤◌, ◌<◌}
use mathlib.Core.Path.{◌≡◌, refl, sym, ap, ap₂, ◌∙◌, subst}
use mathlib.Core.Logic.{◌≢◌}
use mathlib.Core.List.{List, [], ◌∷◌}
use mathlib.Core.Bool.{Bool, true, false, cond}
use native.Mathlib.Omega.{arith}
use native.Mathlib.Decide.{ℕ_discrete}
use lib.ListN.{length, get_or, replicate}
use lib.Dec.{eqb, lit<, lit≤}
use borrow.Author.Tests.{eq-eqb, ne_eqb}
use Rattle.refusals.specs.Refusals.{Refusal}
use Rattle.refusals.specs.Refusals.{plain, refused_at, answer}
use Rattle.refusals.proofs.NumberLaws.{one_le}
use Rattle.room.specs.declared.Shape.{Shape}
use Rattle.path.specs.Routes.{byte_of, level_of, value_of}
use Rattle.path.proofs.HopLaws.{byte-apart, hop-level-low, hop-old-low, hop-server}
use Rattle.step.specs.Told.{Step}
use Rattle.step.specs.Steps.{entry, mac_at, port_at, step_refusal, at_hop, with_place, no_step, delivery, forwarded, step_answer}
use Rattle.step.proofs.NumberLaws.{step-numbers}
use Rattle.step.proofs.StepLaws.{with_place-number, hop_le, goes_of}
use Rattle.driver.specs.declared.Stepped.{Stepped}
use Rattle.driver.specs.Packed.{flag_of, bytes_number, mac_number, step_word, packed, step_in, unpacked, Bytes}

-- ---- how large a step's numbers are

-- a refusal by its number and hop alone, as a step has it: its route is 1 where its hop is not 0
abbrev by_hop : ℕ → ℕ → Refusal
by_hop n h = refused_at n (cond (eqb h 0) 0 1) h

with_place-hop : (i r : ℕ) → with_place i r ≡ by_hop (with_place i r).number (with_place i r).hop
unfolding with_place
with_place-hop i r = go (at_hop r)
  where
    go : (t : Bool) → (let x = cond t (refused_at r 1 (i + 1)) (plain r) in x ≡ by_hop x.number x.hop)
    go true = rw (ne_eqb (i + 1) 0 (λ z. omega arith))
    go false = refl

-- each of a step's numbers fits its place in the word, and the refusal is known by its number and hop
pub record Fits (x : Step) : Type 0 where
  pub number : x.refusal.number < 256
  pub hop : x.refusal.hop < 256
  pub place : x.refusal ≡ by_hop x.refusal.number x.refusal.hop
  pub index : x.index < 256
  pub next : x.next < 65536
  pub level : x.level ≤ 3
  pub old : x.old < 64

-- and so do the bytes that come from the neighbour table
pub record Small (x : Step) : Type 0 where
  pub fits : Fits x
  pub port : x.port < 256
  pub long : length x.mac ≡ 6
  pub mac : Bytes x.mac

zeros-bytes : Bytes (replicate 6 0)
zeros-bytes = record { at = at }
  where
    at : (j : ℕ) → get_or (replicate 6 0) j 0 < 256
    at zero = lit< tt
    at (suc zero) = lit< tt
    at (suc (suc zero)) = lit< tt
    at (suc (suc (suc zero))) = lit< tt
    at (suc (suc (suc (suc zero)))) = lit< tt
    at (suc (suc (suc (suc (suc zero))))) = lit< tt
    at (suc (suc (suc (suc (suc (suc j)))))) = lit< tt

mac-bytes : (e : List ℕ) (b : ℕ) → Bytes e → Bytes (mac_at e b)
unfolding mac_at entry
mac-bytes e b h = record { at = at }
  where
    at : (j : ℕ) → get_or (mac_at e b) j 0 < 256
    at zero = h.at (8 * b + 0)
    at (suc zero) = h.at (8 * b + 1)
    at (suc (suc zero)) = h.at (8 * b + 2)
    at (suc (suc (suc zero))) = h.at (8 * b + 3)
    at (suc (suc (suc (suc zero)))) = h.at (8 * b + 4)
    at (suc (suc (suc (suc (suc zero))))) = h.at (8 * b + 5)
    at (suc (suc (suc (suc (suc (suc j)))))) = lit< tt

module _ (s : Shape) (a d i : ℕ) (bs e : List ℕ) where
  -- what is so of each refused step, of a delivery, and of a step that goes on is so of the answer
  step_so : (P : Step → Type 0) → (step_refusal s a d i bs e ≢ 0 → P (no_step (with_place i (step_refusal s a d i bs e)))) → (a ≡ d → P delivery) → (step_refusal s a d i bs e ≡ 0 → a ≢ d → P (forwarded s a i e (get_or bs i 0))) → P (step_answer s a d i bs e)
  unfolding step_answer
  step_so P refused here goes = go (step_refusal s a d i bs e) refl
    where
      given : step_refusal s a d i bs e ≡ 0 → Dec (a ≡ d) → P (cond (eqb a d) delivery (forwarded s a i e (get_or bs i 0)))
      given z (yes y) = rw (eq-eqb a d y) (here y)
      given z (no y) = rw (ne_eqb a d y) (goes z y)

      go : (q : ℕ) → step_refusal s a d i bs e ≡ q → P (answer q (λ r. no_step (with_place i r)) (cond (eqb a d) delivery (forwarded s a i e (get_or bs i 0))))
      go zero z = given z (ℕ_discrete a d)
      go (suc q) z = subst (λ (r : ℕ). P (no_step (with_place i r))) z (refused (λ n. omega arith))

  pub step_fits : Fits (step_answer s a d i bs e)
  step_fits =
      step_so Fits
      (λ n.
      let m = one_le 255 refl (step-numbers s a d i bs e) in
      let k = hop_le s a d i bs e in
      let p = with_place-number i (step_refusal s a d i bs e) in
      record { number = omega arith; hop = omega arith; place = with_place-hop i (step_refusal s a d i bs e); index = lit< tt; next = lit< tt; level = lit≤ tt; old = lit< tt })
      (λ h. record { number = lit< tt; hop = lit< tt; place = refl; index = lit< tt; next = lit< tt; level = lit≤ tt; old = lit< tt })
      (λ z away.
      let g = goes_of s a d i bs e z away in
      let k = hop-server g.given.here (get_or bs i 0) g.taken in
      record { number = lit< tt; hop = lit< tt; place = refl; index = omega (arith, g.index); next = omega (arith, k.below, k.valid.small); level = hop-level-low g.given.here (get_or bs i 0) g.taken; old = hop-old-low g.given.here (get_or bs i 0) g.taken })

  pub step_small : Bytes e → Small (step_answer s a d i bs e)
  unfolding port_at mac_at entry
  step_small h =
      step_so (λ (x : Step). Fits x → Small x)
      (λ n f. record { fits = f; port = lit< tt; long = refl; mac = zeros-bytes })
      (λ y f. record { fits = f; port = lit< tt; long = refl; mac = zeros-bytes })
      (λ z away f. record { fits = f; port = h.at (8 * get_or bs i 0 + 6); long = refl; mac = mac-bytes e (get_or bs i 0) h })
      step_fits

-- ---- reading back

-- six bytes are what is read back of their number
mac-back : (xs : List ℕ) → length xs ≡ 6 → Bytes xs → (let m = mac_number xs in m / 1099511627776 % 256 ∷ m / 4294967296 % 256 ∷ m / 16777216 % 256 ∷ m / 65536 % 256 ∷ m / 256 % 256 ∷ m % 256 ∷ []) ≡ xs
unfolding mac_number bytes_number
mac-back [] l h = let z : ⊥ = omega arith in absurd z
mac-back (x ∷ []) l h = let z : ⊥ = omega arith in absurd z
mac-back (x ∷ y ∷ []) l h = let z : ⊥ = omega arith in absurd z
mac-back (x ∷ y ∷ u ∷ []) l h = let z : ⊥ = omega arith in absurd z
mac-back (x ∷ y ∷ u ∷ v ∷ []) l h = let z : ⊥ = omega arith in absurd z
mac-back (x ∷ y ∷ u ∷ v ∷ w ∷ []) l h = let z : ⊥ = omega arith in absurd z
mac-back (x ∷ y ∷ u ∷ v ∷ w ∷ k ∷ r ∷ rs) l h = let z : ⊥ = omega arith in absurd z
mac-back (x ∷ y ∷ u ∷ v ∷ w ∷ k ∷ []) l h =
    let m = 256 * (256 * (256 * (256 * (256 * (256 * 0 + x) + y) + u) + v) + w) + k in
    let h0 : x < 256 = h.at 0 in
    let h1 : y < 256 = h.at 1 in
    let h2 : u < 256 = h.at 2 in
    let h3 : v < 256 = h.at 3 in
    let h4 : w < 256 = h.at 4 in
    let h5 : k < 256 = h.at 5 in
    let e0 : m / 1099511627776 % 256 ≡ x = omega arith in
    let e1 : m / 4294967296 % 256 ≡ y = omega arith in
    let e2 : m / 16777216 % 256 ≡ u = omega arith in
    let e3 : m / 65536 % 256 ≡ v = omega arith in
    let e4 : m / 256 % 256 ≡ w = omega arith in
    let e5 : m % 256 ≡ k = omega arith in
    rw (e0, e1, e2, e3, e4, e5)

flag_back : (t : Bool) → eqb (flag_of t) 1 ≡ t
flag_back true = refl
flag_back false = refl

flag_le : (t : Bool) → flag_of t ≤ 1
flag_le true = lit≤ tt
flag_le false = lit≤ tt

step_same : (x y : Step) → x.refusal ≡ y.refusal → x.delivered ≡ y.delivered → x.next ≡ y.next → x.index ≡ y.index → x.mac ≡ y.mac → x.port ≡ y.port → x.level ≡ y.level → x.old ≡ y.old → x ≡ y
step_same x y a d e f g h k o =
    ap (λ (z : Refusal). record { refusal = z; delivered = x.delivered; next = x.next; index = x.index; mac = x.mac; port = x.port; level = x.level; old = x.old }) a
    ∙ ap (λ (z : Bool). record { refusal = y.refusal; delivered = z; next = x.next; index = x.index; mac = x.mac; port = x.port; level = x.level; old = x.old }) d
    ∙ ap (λ (z : ℕ). record { refusal = y.refusal; delivered = y.delivered; next = z; index = x.index; mac = x.mac; port = x.port; level = x.level; old = x.old }) e
    ∙ ap (λ (z : ℕ). record { refusal = y.refusal; delivered = y.delivered; next = y.next; index = z; mac = x.mac; port = x.port; level = x.level; old = x.old }) f
    ∙ ap (λ (z : List ℕ). record { refusal = y.refusal; delivered = y.delivered; next = y.next; index = y.index; mac = z; port = x.port; level = x.level; old = x.old }) g
    ∙ ap (λ (z : ℕ). record { refusal = y.refusal; delivered = y.delivered; next = y.next; index = y.index; mac = y.mac; port = z; level = x.level; old = x.old }) h
    ∙ ap₂ (λ (z w : ℕ). record { refusal = y.refusal; delivered = y.delivered; next = y.next; index = y.index; mac = y.mac; port = y.port; level = z; old = w }) k o

-- the fields of the word, from the lowest
pub record Fields (x : Step) (p : ℕ) : Type 0 where
  pub number : p % 256 ≡ x.refusal.number
  pub hop : p / 256 % 256 ≡ x.refusal.hop
  pub delivered : p / 65536 % 256 ≡ flag_of x.delivered
  pub index : p / 16777216 % 256 ≡ x.index
  pub next : p / 4294967296 % 65536 ≡ x.next
  pub port : p / 281474976710656 % 256 ≡ x.port
  pub back : p / 72057594037927936 ≡ byte_of x.level x.old

pub word_fields : (x : Step) → Small x → Fields x (step_word x)
unfolding step_word byte_of
word_fields x h =
    let b : 64 * x.level + x.old < 256 = omega (arith, h.fits.level, h.fits.old) in
    let q = sum x.refusal.number x.refusal.hop (flag_of x.delivered) x.index x.next x.port (64 * x.level + x.old) h.fits.number h.fits.hop (flag_le x.delivered) h.fits.index h.fits.next h.port b in
    record { number = q.0; hop = q.1; delivered = q.2; index = q.3; next = q.4; port = q.5; back = q.6 }
  where
    sum : (a b c d e f g : ℕ) → a < 256 → b < 256 → c ≤ 1 → d < 256 → e < 65536 → f < 256 → g < 256 → (let p = a + 256 * b + 65536 * c + 16777216 * d + 4294967296 * e + 281474976710656 * f + 72057594037927936 * g in (p % 256 ≡ a) × (p / 256 % 256 ≡ b) × (p / 65536 % 256 ≡ c) × (p / 16777216 % 256 ≡ d) × (p / 4294967296 % 65536 ≡ e) × (p / 281474976710656 % 256 ≡ f) × (p / 72057594037927936 ≡ g))
    sum a b c d e f g ha hb hc hd he hf hg = (omega arith, omega arith, omega arith, omega arith, omega arith, omega arith, omega arith)

pub unpack_packed : (x : Step) → Small x → unpacked (packed x) ≡ x
unfolding packed unpacked step_in
unpack_packed x h =
    let f = word_fields x h in
    step_same (step_in (step_word x) (mac_number x.mac)) x
    (ap₂ by_hop f.number f.hop ∙ sym h.fits.place)
    (ap (λ (z : ℕ). eqb z 1) f.delivered ∙ flag_back x.delivered)
    f.next f.index (mac-back x.mac h.long h.mac) f.port
    (ap level_of f.back ∙ (byte-apart x.level x.old h.fits.old).0)
    (ap value_of f.back ∙ (byte-apart x.level x.old h.fits.old).1)

-- the step as a driver in C sees it is the step: for every input, over a table of bytes
pub step_unpacks : (s : Shape) (a d i : ℕ) (bs e : List ℕ) → Bytes e → (let x = step_answer s a d i bs e in unpacked (packed x) ≡ x)
step_unpacks s a d i bs e h = unpack_packed (step_answer s a d i bs e) (step_small s a d i bs e h)

-- ---- the two numbers as the program makes them

-- six bytes, four and two
pub mac-made : (xs : List ℕ) → length xs ≡ 6 → 65536 * (16777216 * get_or xs 0 0 + 65536 * get_or xs 1 0 + 256 * get_or xs 2 0 + get_or xs 3 0) + (256 * get_or xs 4 0 + get_or xs 5 0) ≡ mac_number xs
unfolding mac_number bytes_number
mac-made [] l = let z : ⊥ = omega arith in absurd z
mac-made (x ∷ []) l = let z : ⊥ = omega arith in absurd z
mac-made (x ∷ y ∷ []) l = let z : ⊥ = omega arith in absurd z
mac-made (x ∷ y ∷ u ∷ []) l = let z : ⊥ = omega arith in absurd z
mac-made (x ∷ y ∷ u ∷ v ∷ []) l = let z : ⊥ = omega arith in absurd z
mac-made (x ∷ y ∷ u ∷ v ∷ w ∷ []) l = let z : ⊥ = omega arith in absurd z
mac-made (x ∷ y ∷ u ∷ v ∷ w ∷ k ∷ r ∷ rs) l = let z : ⊥ = omega arith in absurd z
mac-made (x ∷ y ∷ u ∷ v ∷ w ∷ k ∷ []) l = omega arith

-- what a step that is refused, or delivered, or goes on has besides
record Whole (x : Step) : Type 0 where
  refused : x.refusal.number ≢ 0 → x ≡ no_step x.refusal
  arrived : x.delivered ≡ true → x ≡ delivery
  passed : x.refusal.number ≡ 0 → x.refusal.hop ≡ 0

step-whole : (s : Shape) (a d i : ℕ) (bs e : List ℕ) → Whole (step_answer s a d i bs e)
step-whole s a d i bs e =
    step_so s a d i bs e Whole
    (λ n. record { refused = λ m. refl; arrived = λ t. cc; passed = λ z. absurd (n (sym (with_place-number i (step_refusal s a d i bs e)) ∙ z)) })
    (λ h. record { refused = λ m. absurd (m refl); arrived = λ t. refl; passed = λ z. refl })
    (λ z away. record { refused = λ m. absurd (m refl); arrived = λ t. cc; passed = λ z. refl })

module _ (s : Shape) (a d i : ℕ) (bs e : List ℕ) (x : Step) (found : x ≡ step_answer s a d i bs e) where
  whole : Whole x
  whole = subst Whole (sym found) (step-whole s a d i bs e)

  module _ (t : Shape) (shape : s ≡ t) where
    -- the two numbers of what was found are those of the answer
    told : (y : Stepped) → y ≡ packed x → y ≡ packed (step_answer t a d i bs e)
    told y h = h ∙ ap packed (found ∙ ap (λ (z : Shape). step_answer z a d i bs e) shape)

    pub pack_refused : x.refusal.number ≢ 0 → ◌≡◌ {A = Stepped} (record { word = x.refusal.number + 256 * x.refusal.hop; mac = 0 }) (packed (step_answer t a d i bs e))
    unfolding packed step_word mac_number bytes_number byte_of
    pack_refused h =
        let w : x.refusal.number + 256 * x.refusal.hop ≡ step_word (no_step x.refusal) = omega arith in
        told _ (ap (λ (z : ℕ). record { word = z; mac = 0 }) w ∙ ap packed (sym (whole.refused h)))

    pub pack_here : x.delivered ≡ true → ◌≡◌ {A = Stepped} (record { word = 65536; mac = 0 }) (packed (step_answer t a d i bs e))
    unfolding packed step_word mac_number bytes_number byte_of
    pack_here h = told _ (ap packed (sym (whole.arrived h)))

    pub pack_goes : (p m : ℕ) → x.refusal.number ≡ 0 → x.delivered ≡ false → p ≡ x.port → m ≡ mac_number x.mac → ◌≡◌ {A = Stepped} (record { word = 16777216 * x.index + 4294967296 * x.next + 281474976710656 * p + 72057594037927936 * (64 * x.level + x.old); mac = m }) (packed (step_answer t a d i bs e))
    unfolding packed step_word byte_of
    pack_goes p m z away hp hm =
        let f : flag_of x.delivered ≡ 0 = ap flag_of away in
        let q = whole.passed z in
        let w : 16777216 * x.index + 4294967296 * x.next + 281474976710656 * p + 72057594037927936 * (64 * x.level + x.old) ≡ step_word x = omega arith in
        told _ (ap₂ (λ (u v : ℕ). record { word = u; mac = v }) w hm)

-- a refused step's word by the number that the code asks of its reason
pub refused-pack : (h : ℕ) {n m : ℕ} {y : Stepped} → n ≡ m → ◌≡◌ {A = Stepped} (record { word = m + 256 * h; mac = 0 }) y → ◌≡◌ {A = Stepped} (record { word = n + 256 * h; mac = 0 }) y
refused-pack h e f = ap (λ (x : ℕ). record { word = x + 256 * h; mac = 0 }) e ∙ f
