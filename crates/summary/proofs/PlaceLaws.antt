-- Laws of places: where the entry of a switch stands, that every place is one switch's, and what the summary of a table has there.
use Prim.Native.Nat.{ℕ, zero, suc, ◌+◌, ◌-◌, ◌*◌, ◌/◌, ◌%◌, ◌^◌, ◌≤◌, ◌<◌}
use mathlib.Core.Path.{◌≡◌, refl, sym, ap, ap₂, ◌∙◌}
use mathlib.Core.List.{List, [], ◌∷◌, ◌++◌}
use native.Mathlib.Omega.{arith}
use native.Mathlib.Decide.{ℕ_discrete, dec_lt}
use native.Mathlib.Nat.{suc-mul, zero-mul, mul-zero, mul_comm, mul-le-mul, mod-lt, mod-add-div, div-le_self, div-lt_iff_lt-mul}
use lib.ListN.{length, get_or, length-append, length-map, get_or-append}
use lib.Seq.{get_or-append-add, get_or-append_seam}
use mir.Syntax.{w64}
use mir.Val.{Fits}
use Rattle.lists.proofs.ListLaws.{length_snoc, map_at}
use Rattle.room.specs.declared.Shape.{Shape}
use Rattle.room.specs.declared.Switch.{Switch}
use Rattle.room.specs.Shapes.{servers_of, server_count, power_of, Valid, Link}
use Rattle.room.specs.Addresses.{switch_of, switches_at}
use Rattle.room.specs.Refusals.{shape_refusal}
use Rattle.room.proofs.PowerLaws.{count-servers, power-within}
use Rattle.room.proofs.RefusalLaws.{valid_of, valid-none}
use Rattle.room.proofs.RoomLaws.{positive, bound-other, switches_top, switches-small, switch_lt}
use Rattle.summary.specs.Counts.{numbered, switches_below, switches_in, place_of, count_at, summary_of, IsSwitch}
use Rattle.summary.specs.Inside.{StandsAt}

-- ---- the switches in order

length-numbered : (l m : ℕ) → length (numbered l m) ≡ m
unfolding numbered
length-numbered l zero = refl
length-numbered l (suc m) = length_snoc (numbered l m) (l, m) ∙ ap suc (length-numbered l m)

numbered-at : (l m w : ℕ) → w < m → get_or (numbered l m) w (0, 0) ≡ (l, w)
unfolding numbered
numbered-at l zero w h = let z : ⊥ = omega arith in absurd z
numbered-at l (suc m) w h =
    elim (ℕ_discrete w m) [
      | yes e ↦ ap (λ (i : ℕ). get_or (numbered l m ++ ((l, m) ∷ [])) i (0, 0)) (e ∙ sym (length-numbered l m))
          ∙ get_or-append_seam (numbered l m) (l, m) [] (0, 0)
          ∙ ap (λ (i : ℕ). (l, i)) (sym e)
      | no e ↦ let q : w < m = omega (arith, e) in
          get_or-append (numbered l m) ((l, m) ∷ []) (0, 0) w (omega (arith, length-numbered l m)) ∙ numbered-at l m w q
    ]

module _ (s : Shape) where
  pub below_next : (l : ℕ) → length (switches_below s (suc l)) ≡ length (switches_below s l) + switches_at s l
  unfolding switches_below
  below_next l = length-append (switches_below s l) (numbered l (switches_at s l)) ∙ ap (λ (x : ℕ). length (switches_below s l) + x) (length-numbered l (switches_at s l))

  pub below_le : (l j : ℕ) → l ≤ j → length (switches_below s l) ≤ length (switches_below s j)
  below_le l zero h = let e : l ≡ 0 = omega arith in rw e (omega arith)
  below_le l (suc j) h =
      elim (ℕ_discrete l (suc j)) [
        | yes e ↦ rw e (omega arith)
        | no e ↦ omega (arith, below_next j, below_le l j (omega (arith, e)))
      ]

  -- the switch at the place of one of level l, among those of the levels below j
  pub below_at : (l w j : ℕ) → w < switches_at s l → l < j → get_or (switches_below s j) (place_of s l w) (0, 0) ≡ (l, w)
  unfolding switches_below place_of
  below_at l w zero p h = let z : ⊥ = omega arith in absurd z
  below_at l w (suc j) p h =
      elim (ℕ_discrete l j) [
        | yes e ↦ ap (λ (i : ℕ). get_or (switches_below s (suc i)) (length (switches_below s l) + w) (0, 0)) (sym e)
            ∙ get_or-append-add (switches_below s l) (numbered l (switches_at s l)) w (0, 0)
            ∙ numbered-at l (switches_at s l) w p
        | no e ↦ let q : l < j = omega (arith, e) in
            get_or-append (switches_below s j) (numbered j (switches_at s j)) (0, 0) (length (switches_below s l) + w) (omega (arith, below_next l, below_le (suc l) j q))
            ∙ below_at l w j p q
      ]

-- ---- places

pub place_is : (s : Shape) (l w : ℕ) → place_of s l w ≡ length (switches_below s l) + w
unfolding place_of
place_is s l w = refl

-- every place among the switches of the levels below j is one's
pub below-every : (s : Shape) (j i : ℕ) → i < length (switches_below s j) → (l : ℕ) × (w : ℕ) × (l < j) × (w < switches_at s l) × (place_of s l w ≡ i)
unfolding switches_below
below-every s zero i h = let z : ⊥ = omega arith in absurd z
below-every s (suc j) i h =
    elim (dec_lt i (length (switches_below s j))) [
      | yes p ↦ let q = below-every s j i p in (q.0, q.1, omega (arith, q.2), q.3, q.4)
      | no p ↦ (j, i - length (switches_below s j), omega arith, omega (arith, below_next s j), place_is s j _ ∙ omega (arith, p))
    ]

-- the entry there of the summary of a table is the count
pub entry_at : (s : Shape) (t : List ℕ) (l w : ℕ) → l ≤ s.k → w < switches_at s l → get_or (summary_of s t) (place_of s l w) 0 ≡ count_at s t l w
unfolding summary_of switches_in
entry_at s t l w p q =
    let i : place_of s l w < length (switches_below s (suc s.k)) = omega (arith, place_is s l w, below_next s l, below_le s (suc l) (suc s.k) (omega arith)) in
    map_at (λ (x : ℕ × ℕ). count_at s t x.0 x.1) (0, 0) 0 (switches_in s) (place_of s l w) i
    ∙ ap (λ (x : ℕ × ℕ). count_at s t x.0 x.1) (below_at s l w (suc s.k) q (omega arith))

-- a switch of a room
module _ {s : Shape} {l w : ℕ} (h : IsSwitch s l w) where
  pub place_lt : place_of s l w < length (switches_in s)
  unfolding place_of switches_in
  place_lt = omega (arith, h.number, below_next s l, below_le s (suc l) (suc s.k) (omega (arith, h.level)))

  pub place_at : get_or (switches_in s) (place_of s l w) (0, 0) ≡ (l, w)
  unfolding switches_in
  place_at = below_at s l w (suc s.k) h.number (omega (arith, h.level))

  pub summary_at : (t : List ℕ) → get_or (summary_of s t) (place_of s l w) 0 ≡ count_at s t l w
  summary_at t = entry_at s t l w h.level h.number

-- two switches with one place are one switch
pub place-one : {s : Shape} {l w m v : ℕ} → IsSwitch s l w → IsSwitch s m v → place_of s l w ≡ place_of s m v → (l ≡ m) × (w ≡ v)
place-one {s} h k e =
    let q = sym (place_at h) ∙ ap (λ (i : ℕ). get_or (switches_in s) i (0, 0)) e ∙ place_at k in
    (ap (λ (p : ℕ × ℕ). p.0) q, ap (λ (p : ℕ × ℕ). p.1) q)

pub summary_long : (s : Shape) (t : List ℕ) → length (summary_of s t) ≡ length (switches_in s)
unfolding summary_of
summary_long s t = length-map (switches_in s) (λ (p : ℕ × ℕ). count_at s t p.0 p.1)

-- the switch of a link
pub link-switch : {s : Shape} {a l : ℕ} → Link s a l → IsSwitch s l (switch_of s l a)
link-switch h = record { valid = h.server.valid; level = h.level; number = switch_lt h }

-- ---- as a program finds them: every level below k has N / n switches

module _ {s : Shape} (v : Valid s) where
  pub each : (l : ℕ) → l < s.k → switches_at s l ≡ servers_of s / s.n
  unfolding switches_at
  each l h = ap (λ (x : ℕ). servers_of s / x) (bound-other s l (λ e. omega arith))

  pub below_each : (l : ℕ) → l ≤ s.k → length (switches_below s l) ≡ l * (servers_of s / s.n)
  unfolding switches_below
  below_each zero h = sym (zero-mul (servers_of s / s.n))
  below_each (suc l) h =
      below_next s l ∙ ap₂ (λ (x y : ℕ). x + y) (below_each l (omega arith)) (each l h) ∙ sym (suc-mul l (servers_of s / s.n))

  pub total_is : length (switches_in s) ≡ length (switches_below s s.k) + s.n ^ s.k
  unfolding switches_in
  total_is = below_next s s.k ∙ ap (λ (x : ℕ). length (switches_below s s.k) + x) (switches_top v)

-- x is what the program found of N, y of N / n, p of the power
module _ (s : Shape) (z : shape_refusal s ≡ 0) where
  valid : Valid s
  valid = valid_of s z

  pub each-ports : 0 < s.n
  each-ports = positive valid

  pub each-made : (x : ℕ) → x ≡ server_count s → x / s.n ≡ servers_of s / s.n
  each-made x e = ap (λ (y : ℕ). y / s.n) (e ∙ count-servers valid)

  each-small : servers_of s / s.n ≤ 4096
  each-small = omega (arith, div-le_self (servers_of s) s.n, valid.small)

  pub before-made : (l y : ℕ) → l ≤ s.k → y ≡ servers_of s / s.n → l * y ≡ length (switches_below s l)
  before-made l y h e = ap (λ (x : ℕ). l * x) e ∙ sym (below_each valid l h)

  pub before-fits : (l y : ℕ) → l ≤ s.k → y ≡ servers_of s / s.n → Fits w64 (l * y)
  before-fits l y h e =
      let q : l ≤ 3 = omega (arith, valid.levels) in
      let r : y ≤ 4096 = omega (arith, each-small) in
      omega (arith, mul-le-mul q r)

  pub before_small : (l : ℕ) → l ≤ s.k → length (switches_below s l) ≤ 12288
  before_small l h =
      let q : l ≤ 3 = omega (arith, valid.levels) in
      omega (arith, below_each valid l h, mul-le-mul q each-small)

  pub total_made : (x p : ℕ) → x ≡ length (switches_below s s.k) → p ≡ power_of s.n s.k → x + p ≡ length (switches_in s)
  total_made x p e f =
      omega (arith, total_is valid, power-within s.n s.k (positive valid) valid.ports valid.levels)

  pub total-fits : (x p : ℕ) → x ≡ length (switches_below s s.k) → p ≡ power_of s.n s.k → Fits w64 (x + p)
  total-fits x p e f =
      omega (arith, total_made x p e f, total_is valid, before_small s.k (omega arith), switches_top valid, switches-small valid s.k)

  -- a place from that of level k on, and one before it
  module _ (i : ℕ) (h : i < length (switches_in s)) (x : ℕ) (e : x ≡ length (switches_below s s.k)) where
    pub stands-top : x ≤ i → StandsAt s i (record { level = s.k; number = i - x })
    stands-top q =
        record {
          switch = record { valid = valid; level = omega arith; number = omega (arith, total_is valid, switches_top valid) };
          place = place_is s s.k (i - x) ∙ omega arith;
        }

    module _ (y : ℕ) (f : y ≡ servers_of s / s.n) (q : i < x) where
      level_of-place : i < s.k * y
      level_of-place = omega (arith, before-made s.k y (omega arith) f)

      pub each-some : 0 < y
      each-some = some y refl
        where
          some : (j : ℕ) → y ≡ j → 0 < y
          some zero r = let b : s.k * y ≡ 0 = ap (λ (g : ℕ). s.k * g) r ∙ mul-zero s.k in omega (arith, level_of-place)
          some (suc j) r = omega arith

      pub stands-below : StandsAt s i (record { level = i / y; number = i % y })
      stands-below =
          let l : i / y < s.k = (div-lt_iff_lt-mul each-some).1 level_of-place in
          record {
            switch = record { valid = valid; level = omega arith; number = omega (arith, each valid (i / y) l, mod-lt i each-some) };
            place = place_is s (i / y) (i % y) ∙ omega (arith, before-made (i / y) y (omega arith) f, mod-add-div i y, mul_comm y (i / y));
          }

-- the place of a switch's entry: y is what the program found of N / n
module _ (s : Shape) (l w : ℕ) (h : IsSwitch s l w) (y : ℕ) (e : y ≡ servers_of s / s.n) where
  room : shape_refusal s ≡ 0
  room = sym (valid-none h.valid)

  before : l * y ≡ length (switches_below s l)
  before = before-made s room l y h.level e

  pub level-fits : Fits w64 (l * y)
  level-fits = before-fits s room l y h.level e

  pub place-made : l * y + w ≡ place_of s l w
  place-made = ap (λ (x : ℕ). x + w) before ∙ sym (place_is s l w)

  pub place-fits : Fits w64 (l * y + w)
  place-fits = omega (arith, before, before_small s room l h.level, h.number, switches-small h.valid l)

-- every place is that of one switch
pub place_onto : {s : Shape} → Valid s → (i : ℕ) → i < length (switches_in s) → (x : Switch) × StandsAt s i x
unfolding switches_in
place_onto {s} v i h =
    let q = below-every s (suc s.k) i h in (
      record { level = q.0; number = q.1 },
      record { switch = record { valid = v; level = omega (arith, q.2); number = q.3 }; place = q.4 },
    )
