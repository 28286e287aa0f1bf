-- Laws of counting: one link changed, the count by ports, the most that a switch counts, and the servers that it counts.
use Prim.Native.Nat.{ℕ, zero, suc, ◌+◌, ◌*◌, ◌≤◌, ◌<◌}
use mathlib.Core.Path.{◌≡◌, refl, sym, ap, ap₂, ◌∙◌}
use mathlib.Core.Logic.{◌≢◌, ◌↔◌}
use mathlib.Core.Bool.{Bool, true, false, ◌&&◌}
use mathlib.Core.List.{List}
use native.Mathlib.Omega.{arith}
use native.Mathlib.Decide.{ℕ_discrete}
use native.Mathlib.Numerals.{add-one}
use lib.Dec.{eqb}
use lib.ListN.{length}
use borrow.Author.Tests.{eq-eqb, ne_eqb, eqb-true}
use Rattle.lists.proofs.ListLaws.{both_held}
use Rattle.room.specs.declared.Shape.{Shape}
use Rattle.room.specs.declared.Side.{Side}
use Rattle.room.specs.Shapes.{servers_of, bound, Valid, Server, Link}
use Rattle.room.specs.Addresses.{digit, switch_of}
use Rattle.room.specs.Sides.{side_at}
use Rattle.room.specs.Wiring.{server_at, Port}
use Rattle.room.proofs.RoomLaws.{bound_le, bound-two}
use Rattle.room.proofs.SideLaws.{number-reach, number-count}
use Rattle.room.proofs.WiringLaws.{port-server, port-switch, port-digit, port-back}
use Rattle.links.specs.Table.{failed, changed}
use Rattle.links.proofs.TableLaws.{changed-own, changed-other}
use Rattle.summary.specs.Counts.{count_below, count_at, IsSwitch}
use Rattle.lists.proofs.ListCounts.{one, many, many_same, many_most, many_all, many_but, many_through, Listed, listed, listed-long}
use Rattle.summary.specs.Promises.{Those}

-- ---- the count as how many servers pass a test

-- server x is at switch w of level l, and its link there is failed
abbrev counts : Shape → List ℕ → ℕ → ℕ → ℕ → Bool
counts s t l w x = eqb (switch_of s l x) w && failed t x l

below_many : (s : Shape) (t : List ℕ) (l w m : ℕ) → count_below s t l w m ≡ many (counts s t l w) m
unfolding count_below many
below_many s t l w zero = refl
below_many s t l w (suc m) = ap (λ (x : ℕ). x + one (counts s t l w m)) (below_many s t l w m)

at_many : (s : Shape) (t : List ℕ) (l w : ℕ) → count_at s t l w ≡ many (counts s t l w) (servers_of s)
unfolding count_at
at_many s t l w = below_many s t l w (servers_of s)

-- a server at the switch, and one that is not
counts_there : (s : Shape) (t : List ℕ) (l w x : ℕ) → switch_of s l x ≡ w → counts s t l w x ≡ failed t x l
counts_there s t l w x e = rw (eq-eqb (switch_of s l x) w e)

counts_not : (s : Shape) (t : List ℕ) (l w x : ℕ) → switch_of s l x ≢ w → counts s t l w x ≡ false
counts_not s t l w x e = rw (ne_eqb (switch_of s l x) w e)

counts_same : (s : Shape) (t u : List ℕ) (l w x : ℕ) → (switch_of s l x ≡ w → failed t x l ≡ failed u x l) → counts s t l w x ≡ counts s u l w x
counts_same s t u l w x h =
    elim (ℕ_discrete (switch_of s l x) w) [
      | yes e ↦ counts_there s t l w x e ∙ h e ∙ sym (counts_there s u l w x e)
      | no e ↦ counts_not s t l w x e ∙ sym (counts_not s u l w x e)
    ]

-- ---- tables that agree, or agree but in one link

-- in the links that lead to the switch
pub count_same : (s : Shape) (t u : List ℕ) (l w : ℕ) → ((x : ℕ) → x < servers_of s → switch_of s l x ≡ w → failed t x l ≡ failed u x l) → count_at s t l w ≡ count_at s u l w
count_same s t u l w h =
    at_many s t l w
    ∙ many_same (counts s t l w) (counts s u l w) (servers_of s) (λ x i. counts_same s t u l w x (h x i))
    ∙ sym (at_many s u l w)

-- the link of server a is failed in u alone
pub count_more : {s : Shape} {a l : ℕ} → Link s a l → (t u : List ℕ) → failed t a l ≡ false → failed u a l ≡ true → ((x : ℕ) → x ≢ a → failed u x l ≡ failed t x l) → count_at s u l (switch_of s l a) ≡ suc (count_at s t l (switch_of s l a))
count_more {s} {a} {l} h t u none own other =
    let w = switch_of s l a in
    let more = many_but (counts s u l w) (counts s t l w) a (servers_of s) h.server.below (counts_there s t l w a refl ∙ none) (λ x n. counts_same s u t l w x (λ e. other x n)) in
    let first = ap one (counts_there s u l w a refl ∙ own) in
    omega (arith, at_many s u l w, at_many s t l w, more, first)

pub count-raised : {s : Shape} {a l : ℕ} → Link s a l → (t : List ℕ) → a < length t → failed t a l ≡ false → count_at s (changed true a l t) l (switch_of s l a) ≡ suc (count_at s t l (switch_of s l a))
count-raised {s} {a} {l} h t i e =
    count_more h t (changed true a l t) e (changed-own true a l t i) (λ x n. changed-other true a l x l t (λ p. absurd (n p)))

pub count-lowered : {s : Shape} {a l : ℕ} → Link s a l → (t : List ℕ) → a < length t → failed t a l ≡ true → count_at s t l (switch_of s l a) ≡ suc (count_at s (changed false a l t) l (switch_of s l a))
count-lowered {s} {a} {l} h t i e =
    count_more h (changed false a l t) t (changed-own false a l t i) e (λ x n. sym (changed-other false a l x l t (λ p. absurd (n p))))

-- ---- the count by ports

module _ {s : Shape} {l w : ℕ} (h : IsSwitch s l w) where
  switch-port : {v : ℕ} → v < bound s l → Port s l w v
  switch-port i = record { valid = h.valid; level = h.level; switch = h.number; port = i }

  -- a server at the switch is at one of its ports
  at-port : (x : ℕ) → x < servers_of s → switch_of s l x ≡ w → (v : ℕ) × (v < bound s l) × (server_at s l w v ≡ x)
  at-port x i e =
      let p = port-back (record { server = record { valid = h.valid; below = i }; level = h.level }) in
      (digit s l x, p.0.port, ap (λ (y : ℕ). server_at s l y (digit s l x)) (sym e) ∙ p.1)

  module _ (t : List ℕ) where
    -- the server at a port has its link there failed
    abbrev port_failed : ℕ → Bool
    port_failed v = failed t (server_at s l w v) l

    count-ports : count_at s t l w ≡ many port_failed (bound s l)
    count-ports =
        at_many s t l w
        ∙ many_through (server_at s l w) (servers_of s) (bound s l) (counts s t l w) (λ v i. (port-server (switch-port i)).below) apart each
        ∙ many_same (λ v. counts s t l w (server_at s l w v)) port_failed (bound s l) (λ v i. counts_there s t l w (server_at s l w v) (port-switch (switch-port i)))
      where
        apart : (u v : ℕ) → u < v → v < bound s l → server_at s l w u ≢ server_at s l w v
        apart u v i j e =
            let f : u ≡ v = sym (port-digit (switch-port (omega arith))) ∙ ap (digit s l) e ∙ port-digit (switch-port j) in omega arith

        each : (x : ℕ) → x < servers_of s → counts s t l w x ≡ true → (v : ℕ) × (v < bound s l) × (server_at s l w v ≡ x)
        each x i e = at-port x i (eqb-true _ _ (both_held (eqb (switch_of s l x) w) _ e).0)

    -- at most all
    pub count_most : count_at s t l w ≤ bound s l
    count_most = omega (arith, count-ports, many_most port_failed (bound s l))

    -- all exactly when each is failed
    pub count-full : (count_at s t l w ≡ bound s l) ↔ ((x : ℕ) → Server s x → switch_of s l x ≡ w → failed t x l ≡ true)
    count-full = (
      λ e x k f. let p = at-port x k.below f in ap (λ (y : ℕ). failed t y l) (sym p.2) ∙ (many_all port_failed (bound s l)).0 (sym count-ports ∙ e) p.0 p.1,
      λ g. count-ports ∙ (many_all port_failed (bound s l)).1 (λ v i. g (server_at s l w v) (port-server (switch-port i)) (port-switch (switch-port i))),
    )

-- ---- the servers that are counted

module _ {s : Shape} (h : Valid s) (t : List ℕ) (l w : ℕ) where
  counts_exactly : (x : ℕ) → ((x < servers_of s) × (counts s t l w x ≡ true)) ↔ (Server s x × (switch_of s l x ≡ w) × (failed t x l ≡ true))
  counts_exactly x = (
    λ k.
        let p = both_held (eqb (switch_of s l x) w) (failed t x l) k.1 in
        (record { valid = h; below = k.0 }, eqb-true (switch_of s l x) w p.0, p.1),
    λ k. (k.0.below, counts_there s t l w x k.1 ∙ k.2),
  )

  -- every list of them is as long as the count
  pub those_length : (xs : List ℕ) → Those s t l w xs → length xs ≡ count_at s t l w
  those_length xs k = listed-long list ∙ sym (at_many s t l w)
    where
      list : Listed (counts s t l w) (servers_of s) xs
      list = record { once = k.once; exactly = λ x. (λ e. (counts_exactly x).1 ((k.exactly x).0 e), λ q. (k.exactly x).1 ((counts_exactly x).0 q)) }

  -- and there is one
  pub those_count : (xs : List ℕ) × Those s t l w xs × (length xs ≡ count_at s t l w)
  those_count = (list.0, those, those_length list.0 those)
    where
      list : (xs : List ℕ) × Listed (counts s t l w) (servers_of s) xs
      list = listed (counts s t l w) (servers_of s)

      those : Those s t l w list.0
      those =
          record {
            once = list.1.once;
            exactly = λ x. (λ e. (counts_exactly x).0 ((list.1.exactly x).0 e), λ q. (list.1.exactly x).1 ((counts_exactly x).1 q));
          }

-- ---- the servers at a switch, looked at one after the other

-- the next is looked at: b is what was found of it, r the count after it
pub count-next : (p : ℕ → Bool) (v n r : ℕ) (b : Bool) → n ≡ many p v → b ≡ p v → r ≡ n + one b → r ≡ many p (v + 1)
unfolding many
count-next p v n r b h e f = f ∙ ap₂ (λ (x : ℕ) (y : Bool). x + one y) h e ∙ ap (many p) (sym (add-one v))

-- the side that the program found
module _ {s : Shape} {l w : ℕ} {side : Side} (h : IsSwitch s l w) (e : side ≡ side_at s l w) where
  found-ports : side.count ≡ bound s l
  found-ports = ap (λ (x : Side). x.count) e ∙ number-count {v = 0} (switch-port h (omega (arith, bound-two h.valid l)))

  found-reach : {v : ℕ} → v < bound s l → side.first + v * side.stride ≡ server_at s l w v
  found-reach {v} i = ap (λ (x : Side). x.first + v * x.stride) e ∙ number-reach (switch-port h i)

  -- each is a server
  pub found-near : (v : ℕ) → v < side.count → side.first + v * side.stride < 4096
  found-near v i =
      let q : v < bound s l = omega (arith, found-ports) in
      let x = port-server (switch-port h q) in
      omega (arith, found-reach q, x.below, x.valid.small)

  -- the way from one to the next is short
  pub found-stride : side.stride < 4096
  found-stride = omega (arith, found-near 1 (omega (arith, found-ports, bound-two h.valid l)))

  module _ (t : List ℕ) where
    abbrev test : ℕ → Bool
    test v = failed t (side.first + v * side.stride) l

    -- the count fits a byte
    pub found-small : (v : ℕ) → v ≤ side.count → many test v < 255
    found-small v i = omega (arith, many_most test v, found-ports, bound_le h.valid l, h.valid.ports)

    -- all are looked at
    pub found-all : (v : ℕ) → v ≡ side.count → many test v ≡ count_at s t l w
    found-all v i =
        ap (many test) (i ∙ found-ports)
        ∙ many_same test (port_failed h t) (bound s l) (λ u j. ap (λ (x : ℕ). failed t x l) (found-reach j))
        ∙ sym (count-ports h t)
