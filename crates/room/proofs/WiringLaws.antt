-- Laws of switches and ports: the server at a port has that switch and that digit, and every server is at one port of its switch.
use Prim.Native.Nat.{ℕ, zero, suc, ◌+◌, ◌-◌, ◌*◌, ◌/◌, ◌%◌, ◌^◌, ◌≤◌, ◌<◌, suc-le-suc, zero-le}
use mathlib.Core.Path.{◌≡◌, refl, sym, ap, ap₂, ◌∙◌, subst}
use mathlib.Core.Logic.{◌≢◌}
use mathlib.Core.Bool.{Bool, true, false, ◌&&◌, true≢false}
use mathlib.Core.List.{List, [], ◌∷◌}
use native.Mathlib.Omega.{arith}
use native.Mathlib.Decide.{ℕ_discrete, dec_le}
use native.Mathlib.Nat.{le_of_suc-le-suc, one-le-pow, mul-le-mul_left, mul-le-mul_right, mul_comm, mul_assoc, suc-mul, pow-suc}
use lib.ListN.{length, get_or, take, drop}
use lib.Seq.{length-take-le}
use lib.Dec.{ltb, leb}
use borrow.Author.Tests.{ltb-true, lt-ltb, le-ltb, leb-true, le-leb}
use Rattle.lists.proofs.ListLaws.{both_held}
use Rattle.refusals.specs.Refusals.{◌unless◌}
use Rattle.refusals.proofs.ChainLaws.{or_else_zero, chain_goes, test_held, below_holds}
use Rattle.room.specs.declared.Shape.{Shape}
use Rattle.room.specs.Digits.{digits_of, address_of, strike, Below}
use Rattle.room.specs.Shapes.{servers_of, bound, power_of, server_count, Valid, Server, Link}
use Rattle.room.specs.Addresses.{digits, digit, switch_of, switches_at, Written}
use Rattle.room.specs.Refusals.{shape_refusal, level_refusal}
use Rattle.room.specs.Wiring.{put_in, server_at, Port, port_refusal}
use Rattle.room.proofs.DigitLaws.{length_digits, digits-below, address-digits, digits-address, address-append, address-take, address-drop, digit-top, length-strike, strike_keeps}
use Rattle.room.proofs.PowerLaws.{power-within, count-servers}
use Rattle.room.proofs.RefusalLaws.{valid_of, level-of, level-none}
use Rattle.room.proofs.RoomLaws.{positive, bound-two, digits_long, digit_lt, written-digits, written_below, read_back, write-back, written_of, written-server, servers_are, bound_le, bound-top, bound-other, switches_le, switches_top, switches-below, switches-small, switch_lt}

-- ---- a list with a place put in

strike-put : (l x : ℕ) (ds : List ℕ) → l ≤ length ds → strike l (put_in l x ds) ≡ ds
strike-put zero x ds h = refl
strike-put (suc l) x [] h = let z : ⊥ = omega arith in absurd z
strike-put (suc l) x (d ∷ ds) h = ap (λ (y : List ℕ). d ∷ y) (strike-put l x ds (le_of_suc-le-suc h))

put-strike : (l : ℕ) (ds : List ℕ) → l < length ds → put_in l (get_or ds l 0) (strike l ds) ≡ ds
put-strike l [] h = let z : ⊥ = omega arith in absurd z
put-strike zero (d ∷ ds) h = refl
put-strike (suc l) (d ∷ ds) h = ap (λ (y : List ℕ). d ∷ y) (put-strike l ds (le_of_suc-le-suc h))

put-at : (l x : ℕ) (ds : List ℕ) → l ≤ length ds → get_or (put_in l x ds) l 0 ≡ x
put-at zero x ds h = refl
put-at (suc l) x [] h = let z : ⊥ = omega arith in absurd z
put-at (suc l) x (d ∷ ds) h = put-at l x ds (le_of_suc-le-suc h)

put-above : (l x : ℕ) (ds : List ℕ) (i : ℕ) → l ≤ i → get_or (put_in l x ds) (suc i) 0 ≡ get_or ds i 0
put-above zero x ds i h = refl
put-above (suc l) x [] i h = refl
put-above (suc l) x (d ∷ ds) zero h = let z : ⊥ = omega arith in absurd z
put-above (suc l) x (d ∷ ds) (suc i) h = put-above l x ds i (le_of_suc-le-suc h)

put-long : (l x : ℕ) (ds : List ℕ) → length (put_in l x ds) ≡ suc (length ds)
put-long zero x ds = refl
put-long (suc l) x [] = refl
put-long (suc l) x (d ∷ ds) = ap suc (put-long l x ds)

put_small : (n l x : ℕ) (ds : List ℕ) → x < n → Below n ds → (i : ℕ) → i < length (put_in l x ds) → get_or (put_in l x ds) i 0 < n
put_small n zero x ds p b zero h = p
put_small n zero x ds p b (suc i) h = b.at i (le_of_suc-le-suc h)
put_small n (suc l) x [] p b zero h = p
put_small n (suc l) x [] p b (suc i) h = let z : ⊥ = omega arith in absurd z
put_small n (suc l) x (d ∷ ds) p b zero h = b.at zero (suc-le-suc zero-le)
put_small n (suc l) x (d ∷ ds) p b (suc i) h =
    put_small n l x ds p (record { at = λ j q. b.at (suc j) (suc-le-suc q) }) i (le_of_suc-le-suc h)

-- ---- ports

pub port_of : (s : Shape) (l w v : ℕ) → port_refusal s l w v ≡ 0 → Port s l w v
unfolding port_refusal
port_of s l w v z =
    let p = or_else_zero (level_refusal s l) (21 unless (ltb w (switches_at s l) && ltb v (bound s l))) z in
    let q = both_held (ltb w (switches_at s l)) (ltb v (bound s l)) (test_held _ 20 p.1) in
    let h = level-of s l p.0 in
    record { valid = h.0; level = h.1; switch = ltb-true w (switches_at s l) q.0; port = ltb-true v (bound s l) q.1 }

pub port-none : {s : Shape} {l w v : ℕ} → Port s l w v → 0 ≡ port_refusal s l w v
unfolding port_refusal
port-none {s} {l} {w} {v} h =
    chain_goes _ _ _ _ (level-none h.valid h.level) refl (rw (lt-ltb w (switches_at s l) h.switch, lt-ltb v (bound s l) h.port))

-- no such switch, or no such port
pub no_switch : (s : Shape) (l w v : ℕ) → 0 ≡ level_refusal s l → switches_at s l ≤ w → 21 ≡ port_refusal s l w v
unfolding port_refusal
no_switch s l w v e h = chain_goes _ _ _ _ e refl (rw (le-ltb w (switches_at s l) h))

pub no_port : (s : Shape) (l w v : ℕ) → 0 ≡ level_refusal s l → bound s l ≤ v → 21 ≡ port_refusal s l w v
unfolding port_refusal
no_port s l w v e h = chain_goes _ _ _ _ e refl (both (ltb w (switches_at s l)) (le-ltb v (bound s l) h))
  where
    both : (t : Bool) → ltb v (bound s l) ≡ false → 21 ≡ 21 unless (t && ltb v (bound s l))
    both true q = rw q
    both false q = refl

module _ {s : Shape} {l w v : ℕ} (h : Port s l w v) where
  fits : w < s.n ^ s.k
  fits = omega (arith, h.switch, switches_le h.valid l)

  places : List ℕ
  places = digits_of s.n s.k w

  places_long : length places ≡ s.k
  unfolding places
  places_long = length_digits s.n s.k w

  level_in : l ≤ length places
  level_in = omega (arith, places_long, h.level)

  -- the top digit is the port, or the top digit of the switch
  top : get_or (put_in l v places) s.k 0 < s.m
  unfolding places
  top = elim (ℕ_discrete l s.k) [ yes e ↦ own e | no e ↦ kept (s.k - 1) (omega (arith, h.level)) (omega (arith, h.level)) ]
    where
      own : l ≡ s.k → get_or (put_in l v places) s.k 0 < s.m
      own e =
          subst (λ (x : ℕ). get_or (put_in l v places) x 0 < s.m) e
          (omega (arith, put-at l v places level_in, h.port, ap (bound s) e, bound-top s))

      kept : (j : ℕ) → l ≤ j → s.k ≡ suc j → get_or (put_in l v places) s.k 0 < s.m
      kept j b e =
          let f : w < s.m * s.n ^ j = omega (arith, h.switch, switches-below h.valid l j b e) in
          rw (e, put-above l v (digits_of s.n (suc j) w) j b) (digit-top s.n j s.m w (positive h.valid) f)

  written : Written s (put_in l v places)
  unfolding places
  written =
      written_of (put-long l v places ∙ ap suc places_long)
      (record {
        at = put_small s.n l v places (omega (arith, h.port, bound_le h.valid l)) (digits-below s.n s.k w (positive h.valid));
      })
      top

  -- it is a server
  pub port-server : Server s (server_at s l w v)
  unfolding server_at places
  port-server = written-server h.valid written

  -- its switch of the level is this one
  pub port-switch : switch_of s l (server_at s l w v) ≡ w
  unfolding server_at switch_of places
  port-switch =
      ap (λ (x : List ℕ). address_of s.n (strike l x)) (write-back h.valid written)
      ∙ ap (address_of s.n) (strike-put l v places level_in)
      ∙ address-digits s.n s.k w (positive h.valid) fits

  -- and its digit there is the port
  pub port-digit : digit s l (server_at s l w v) ≡ v
  unfolding server_at digit places
  port-digit = ap (λ (x : List ℕ). get_or x l 0) (write-back h.valid written) ∙ put-at l v places level_in

  -- as the program computes it, from the power p of the base
  pub port_closed : (p : ℕ) → p ≡ s.n ^ l → w % p + p * (v + s.n * (w / p)) ≡ server_at s l w v
  unfolding server_at places address_of
  port_closed p e =
      let q = positive h.valid in
      let t : length (take l places) ≡ l = length-take-le l places level_in in
      sym
      (address-append s.n (take l places) (v ∷ drop l places)
      ∙ ap₂ (λ (x y : ℕ). x + y) (address-take s.n s.k l w q h.level ∙ ap (λ (x : ℕ). w % x) (sym e))
      (ap₂ (λ (x y : ℕ). s.n ^ x * (v + s.n * y)) t (address-drop s.n s.k l w q fits h.level)
      ∙ ap (λ (x : ℕ). x * (v + s.n * (w / x))) (sym e)))

  -- the power that the program found
  pub port-power : (p : ℕ) → p ≡ power_of s.n l → p ≡ s.n ^ l
  port-power p e = let v = h.valid in e ∙ power-within s.n l (omega arith) v.ports (omega (arith, h.level, v.levels))

-- a server that has switch w at level l
pub record Joins (s : Shape) (l w : ℕ) : Type 0 where
  pub who : ℕ
  pub server : Server s who
  pub there : switch_of s l who ≡ w

-- every number below that of the switches of a level is that of one: the server at its port 0 has it
pub switch-all : {s : Shape} {l : ℕ} → Valid s → l ≤ s.k → (w : ℕ) → w < switches_at s l → Joins s l w
switch-all {s} {l} v h w p =
    let q : Port s l w 0 = record { valid = v; level = h; switch = p; port = omega (arith, bound-two v l) } in
    record { who = server_at s l w 0; server = port-server q; there = port-switch q }

-- a server is at the port of its digit of its switch
pub port-back : {s : Shape} {a l : ℕ} → Link s a l → Port s l (switch_of s l a) (digit s l a) × (server_at s l (switch_of s l a) (digit s l a) ≡ a)
unfolding server_at switch_of digit
port-back {s} {a} {l} h =
    let v = h.server.valid in
    let q : l < length (digits s a) = rw digits_long (omega arith) in
    let k : length (strike l (digits s a)) ≡ s.k = omega (arith, length-strike l (digits s a) q, digits_long s a) in (
      record { valid = v; level = h.level; switch = switch_lt h; port = digit_lt h.server l h.level },
      ap (λ (x : List ℕ). address_of s.n (put_in l (get_or (digits s a) l 0) x))
          (ap (λ (m : ℕ). digits_of s.n m (address_of s.n (strike l (digits s a)))) (sym k)
          ∙ digits-address s.n (strike l (digits s a)) (strike_keeps s.n l (digits s a) (written_below v (written-digits h.server)) q))
          ∙ ap (address_of s.n) (put-strike l (digits s a) q)
          ∙ read_back h.server,
    )

-- ---- what the program's sums are below

pub record Sums (s : Shape) (l w v p : ℕ) : Type 0 where
  pub above : s.n * (w / p) < 4096
  pub upper : v + s.n * (w / p) < 4096
  pub weighed : p * (v + s.n * (w / p)) < 4096
  pub whole : w % p + p * (v + s.n * (w / p)) < 4096

pub port_sums : {s : Shape} {l w v : ℕ} → Port s l w v → (p : ℕ) → p ≡ s.n ^ l → Sums s l w v p
port_sums {s} {l} {w} {v} h p e =
    let whole = port_closed h p e in
    let one : 1 ≤ p = rw e (one-le-pow l s.n (positive h.valid)) in
    let y = v + s.n * (w / p) in
    let more : y * 1 ≤ y * p = mul-le-mul_left y one in
    let a = port-server h in
    record {
      above = omega (arith, a.below, a.valid.small, mul_comm y p);
      upper = omega (arith, a.below, a.valid.small, mul_comm y p);
      weighed = omega (arith, a.below, a.valid.small);
      whole = omega (arith, a.below, a.valid.small);
    }

-- ---- how many switches a level has: x servers, y at each

module _ (s : Shape) (l x y : ℕ) (z : shape_refusal s ≡ 0) (f : y ≡ bound s l) where
  pub switches-some : 0 < y
  switches-some = omega (arith, bound-two (valid_of s z) l)

  pub switches-made : x ≡ server_count s → x / y ≡ switches_at s l
  unfolding switches_at
  switches-made e = ap₂ (λ (u v : ℕ). u / v) (e ∙ count-servers (valid_of s z)) f

-- ---- a port as the program tests it: the shape is not refused, x is the number of servers, b the bound of the level, t of the tests in one go

-- the switches of a level, times the servers at each, are all servers
switches_times : {s : Shape} {l : ℕ} → Valid s → l ≤ s.k → switches_at s l * bound s l ≡ servers_of s
switches_times {s} {l} v h = elim (ℕ_discrete l s.k) [ yes e ↦ top e | no e ↦ below (s.k - 1) (omega arith) (omega arith) e ]
  where
    top : l ≡ s.k → switches_at s l * bound s l ≡ servers_of s
    top e =
        ap₂ (λ (x y : ℕ). x * y) (ap (switches_at s) e ∙ switches_top v) (ap (bound s) e ∙ bound-top s)
        ∙ mul_comm (s.n ^ s.k) s.m
        ∙ sym (servers_are s)

    below : (j : ℕ) → l ≤ j → s.k ≡ suc j → l ≢ s.k → switches_at s l * bound s l ≡ servers_of s
    below j b e n =
        ap₂ (λ (x y : ℕ). x * y) (switches-below v l j b e) (bound-other s l n)
        ∙ mul_assoc s.m (s.n ^ j) s.n
        ∙ ap (λ (x : ℕ). s.m * x) (sym (pow-suc s.n j) ∙ ap (λ (x : ℕ). s.n ^ x) (sym e))
        ∙ sym (servers_are s)

-- the tests in one go
abbrev pub port_fits : ℕ → ℕ → ℕ → ℕ → ℕ → ℕ → Bool
port_fits k l w x v b = ltb w 4096 && (ltb (w * b) x && (ltb v b && leb l k))

module _ (s : Shape) (l w v : ℕ) (e : 0 ≡ shape_refusal s) where
  module _ where
    valid : Valid s
    valid = valid_of s (sym e)

    module _ (b : ℕ) (f : b ≡ bound s l) where
      pub bound-few : b ≤ 64
      bound-few = omega (arith, bound_le valid l, valid.ports)

      module _ (x : ℕ) (n : x ≡ server_count s) (t : Bool) (g : t ≡ port_fits s.k l w x v b) where
        -- all switches of the level hold all servers
        all-servers : l ≤ s.k → switches_at s l * b ≡ x
        all-servers h = ap (λ (y : ℕ). switches_at s l * y) f ∙ switches_times valid h ∙ sym (n ∙ count-servers valid)

        pub port-there : t ≡ true → 0 ≡ port_refusal s l w v
        port-there h =
            let p = both_held (ltb w 4096) _ (sym g ∙ h) in
            let q = both_held (ltb (w * b) x) _ p.1 in
            let o = both_held (ltb v b) (leb l s.k) q.1 in
            let level = leb-true l s.k o.1 in
            let port = ltb-true v b o.0 in
            let all = all-servers level in
            let below = ltb-true (w * b) x q.0 in
            elim (dec_le (switches_at s l) w) [
              | yes m ↦ let i = mul-le-mul_right b m in let c : ⊥ = omega arith in absurd c
              | no m ↦ port-none (record { valid = valid; level = level; switch = omega arith; port = omega arith })
            ]

        pub port-not : t ≡ false → l ≤ s.k → 21 ≡ port_refusal s l w v
        port-not h k =
            let level = level-none valid k in
            let all = all-servers k in
            elim (dec_le (suc w) (switches_at s l)) [
              | no a ↦ no_switch s l w v level (omega arith)
              | yes a ↦
                  elim (dec_le (suc v) b) [
                    | no c ↦ no_port s l w v level (omega arith)
                    | yes c ↦
                        let i = mul-le-mul_right b a in
                        let j = suc-mul w b in
                        let few : w < 4096 = omega (arith, switches-small valid l) in
                        let some : w * b < x = omega arith in
                        absurd (true≢false (sym (le-leb l s.k k) ∙ below_holds w 4096 _ few _ (below_holds (w * b) x _ some _ (below_holds v b _ c _ refl)) ∙ sym g ∙ h))
                  ]
            ]
