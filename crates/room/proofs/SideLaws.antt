-- A digit set by the power p of n that its level has: what the server has there is taken off, the new value put on. So the servers at a
-- switch are the one with the value 0, and on by p.
use Prim.Native.Nat.{ℕ, ◌+◌, ◌-◌, ◌*◌, ◌/◌, ◌%◌, ◌^◌, ◌≤◌, ◌<◌}
use mathlib.Core.Path.{◌≡◌, refl, sym, ap, ◌∙◌}
use mathlib.Core.Logic.{◌≢◌}
use native.Mathlib.Omega.{arith}
use native.Mathlib.Nat.{mod-add-div, mod-le, div-le_self, mul-add, mul_assoc, mul_comm, mul-le-mul, mul-le-mul_left}
use mir.Syntax.{w64}
use mir.Val.{Fits}
use borrow.Author.Tests.{ne_eqb, le-leb, lt-leb}
use Rattle.room.specs.declared.Shape.{Shape}
use Rattle.room.specs.declared.Side.{Side}
use Rattle.room.specs.Shapes.{servers_of, bound, power_of, Link, Value}
use Rattle.room.specs.Addresses.{digit, with_digit, switch_of}
use Rattle.room.specs.Refusals.{link_refusal, value_refusal}
use Rattle.room.specs.Sides.{no_side, side_by, side_of, side_from, side_at}
use Rattle.room.specs.Wiring.{server_at, Port}
use Rattle.room.proofs.DigitLaws.{pow_small}
use Rattle.room.proofs.PowerLaws.{power-within, power-some, power_on}
use Rattle.room.proofs.RefusalLaws.{link_of, value-of}
use Rattle.room.proofs.RoomLaws.{positive, bound_le, bound-two, switches-small, with_closed_at, with_server, digit_closed_at, switch_closed_at, weight_pos}
use Rattle.room.proofs.WiringLaws.{port_closed, port-power}

pub record Moved (s : Shape) (a l v p : ℕ) : Type 0 where
  pub own : a / p % s.n * p ≤ a
  pub new : v * p ≤ 1073741824
  pub whole : a - a / p % s.n * p + v * p ≡ with_digit s l v a

pub moved : {s : Shape} {a l v : ℕ} → Value s a l v → (p : ℕ) → p ≡ s.n ^ l → Moved s a l v p
moved {s} {a} {l} {v} h p e =
    let n = s.n in
    let q = a / p in
    let x : p * q ≡ p * (q % n) + p * (n * (q / n)) = ap (λ (y : ℕ). p * y) (sym (mod-add-div q n)) ∙ mul-add p (q % n) (n * (q / n)) in
    let y = mul-add p v (n * (q / n)) in
    let w = with_closed_at h p e in
    let z = mul_comm (q % n) p in
    let u = mul_comm v p in
    let t = mod-add-div a p in
    let k : p ≤ 16777216 = rw e (pow_small n l h.link.server.valid.ports (omega (arith, h.link.level, h.link.server.valid.levels))) in
    let f : v < 64 = omega (arith, h.value, bound_le h.link.server.valid l, h.link.server.valid.ports) in
    record { own = omega arith; new = omega (arith, mul-le-mul_left v k); whole = omega arith }

-- ---- the servers at a switch, as the program makes them: p is the power that it found

module _ (s : Shape) (a l p : ℕ) (e : p ≡ power_of s.n l) where
  pub side_none : p ≡ 0 → (x : Side) → x ≡ no_side → x ≡ side_of s a l
  unfolding side_of
  side_none z x f = f ∙ rw (← e, z)

  -- some power: n is not 0
  pub side_ports : p ≢ 0 → 0 < s.n
  side_ports n = power-some s.n l (λ z. n (e ∙ z))

  pub side_made : p ≢ 0 → (m : ℕ) → m ≡ bound s l → record { first = a - a / p % s.n * p; stride = p; count = m } ≡ side_of s a l
  unfolding side_of
  side_made n m f = rw (← e, ne_eqb p 0 n, f)

-- the same by the number of the switch
module _ (s : Shape) (l w p : ℕ) (e : p ≡ power_of s.n l) where
  pub number-none : p ≡ 0 → (x : Side) → x ≡ no_side → x ≡ side_at s l w
  unfolding side_at
  number-none z x f = f ∙ rw (← e, z)

  pub number_past : p ≢ 0 → 4096 ≤ w → (x : Side) → x ≡ no_side → x ≡ side_at s l w
  unfolding side_at
  number_past n h x f = f ∙ rw (← e, ne_eqb p 0 n, le-leb 4096 w h)

  module _ (n : p ≢ 0) (h : w < 4096) where
    pub block_fits : Fits w64 (p * s.n)
    block_fits = omega (arith, power_on s.n l p e n)

    pub above-fits : Fits w64 (p * s.n * (w / p))
    above-fits =
        let q : w / p ≤ 4096 = omega (arith, div-le_self w p) in
        omega (arith, mul-le-mul (power_on s.n l p e n) q)

    pub number_fits : Fits w64 (w % p + p * s.n * (w / p))
    number_fits =
        let q : w / p ≤ 4096 = omega (arith, div-le_self w p) in
        omega (arith, mul-le-mul (power_on s.n l p e n) q, mod-le w p)

    pub number-made : (m : ℕ) → m ≡ bound s l → record { first = w % p + p * s.n * (w / p); stride = p; count = m } ≡ side_at s l w
    unfolding side_at
    number-made m f = rw (← e, ne_eqb p 0 n, lt-leb 4096 w h, f)

-- ---- the servers at the switch of a link

module _ {s : Shape} {a l : ℕ} (h : Link s a l) where
  pub power-link : power_of s.n l ≡ s.n ^ l
  power-link = let v = h.server.valid in power-within s.n l (omega arith) v.ports (omega (arith, h.level, v.levels))

  pub side_is : side_of s a l ≡ side_by s a l (s.n ^ l)
  unfolding side_of
  side_is =
      let z = weight_pos h.server.valid l (s.n ^ l) refl in
      rw (power-link, ne_eqb (s.n ^ l) 0 (λ q. omega arith))

  -- the one that has the value v there
  pub side_reach : (v : ℕ) → v < bound s l → (side_of s a l).first + v * (side_of s a l).stride ≡ with_digit s l v a
  side_reach v b =
      ap (λ (x : Side). x.first + v * x.stride) side_is ∙ (moved (record { link = h; value = b }) (s.n ^ l) refl).whole

  pub side_count : (side_of s a l).count ≡ bound s l
  side_count = ap (λ (x : Side). x.count) side_is

  pub side_stride : (side_of s a l).stride ≡ s.n ^ l
  side_stride = ap (λ (x : Side). x.stride) side_is

  pub side_small : ((side_of s a l).first < servers_of s) × ((side_of s a l).stride ≤ 16777216)
  side_small =
      let v = h.server.valid in
      let z : 0 < bound s l = omega (arith, bound-two v l) in
      let f = side_reach 0 z in
      let w = (with_server (record { link = h; value = z })).below in
      (omega arith, omega (arith, side_stride, pow_small s.n l v.ports (omega (arith, h.level, v.levels))))

-- ---- the digit of a link, and a digit set, as the program finds them: p is the power, x the side that it found

module _ (s : Shape) (a l p : ℕ) (e : p ≡ power_of s.n l) (z : 0 ≡ link_refusal s a l) where
  link : Link s a l
  link = link_of s a l (sym z)

  weight : p ≡ s.n ^ l
  weight = e ∙ power-link link

  pub link-weight : 0 < p
  link-weight = weight_pos link.server.valid l p weight

  pub link-ports : 0 < s.n
  link-ports = positive link.server.valid

  pub digit-found : a / p % s.n ≡ digit s l a
  digit-found = digit_closed_at link p weight

  pub switch-found : a % p + p * (a / p / s.n) ≡ switch_of s l a
  switch-found = switch_closed_at link p weight

module _ (s : Shape) (a l v : ℕ) (z : 0 ≡ value_refusal s a l v) (x : Side) (e : x ≡ side_of s a l) where
  pub set_found : x.first + v * x.stride ≡ with_digit s l v a
  set_found =
      let h = value-of s a l v (sym z) in ap (λ (y : Side). y.first + v * y.stride) e ∙ side_reach h.link v h.value

  pub set-fits : Fits w64 (x.first + v * x.stride)
  set-fits = let w = with_server (value-of s a l v (sym z)) in omega (arith, set_found, w.below, w.valid.small)

  pub stride_fits : Fits w64 (v * x.stride)
  stride_fits = omega (arith, set-fits)

-- ---- the servers at a switch by its number

module _ {s : Shape} {l w v : ℕ} (h : Port s l w v) where
  number_is : side_at s l w ≡ side_from s l w (s.n ^ l)
  unfolding side_at
  number_is =
      let z = weight_pos h.valid l (s.n ^ l) refl in
      let f : w < 4096 = omega (arith, h.switch, switches-small h.valid l) in
      rw (← port-power h (power_of s.n l) refl) (rw (ne_eqb (power_of s.n l) 0 (λ q. omega (arith, port-power h (power_of s.n l) refl)), lt-leb 4096 w f))

  -- the one at port v
  pub number-reach : (side_at s l w).first + v * (side_at s l w).stride ≡ server_at s l w v
  number-reach =
      let p = s.n ^ l in
      let q = w / p in
      ap (λ (x : Side). x.first + v * x.stride) number_is
      ∙ omega (arith, port_closed h p refl, mul-add p v (s.n * q), mul_comm v p, mul_assoc p s.n q)

  pub number-count : (side_at s l w).count ≡ bound s l
  number-count = ap (λ (x : Side). x.count) number_is

  pub number_stride : (side_at s l w).stride ≡ s.n ^ l
  number_stride = ap (λ (x : Side). x.stride) number_is
