-- A server met again, a switch used again: 28 and 29, proved.
use Prim.Native.Nat.{ℕ, ◌-◌}
use mathlib.Core.Path.{◌≡◌, refl, sym, ap, subst}
use mathlib.Core.Logic.{◌≢◌, ◌↔◌, inl, inr}
use mathlib.Core.Bool.{true, false, not}
use lib.Dec.{eqb}
use mathlib.Core.List.{List, [], ◌∷◌, ◌++◌}
use native.Mathlib.Omega.{arith}
use lib.ListN.{length}
use Rattle.refusals.specs.Refusals.{Refusal, earlier_hop, plain, refused_at, with_earlier}
use Rattle.room.specs.declared.Shape.{Shape}
use Rattle.room.specs.Addresses.{Neighbours}
use Rattle.links.specs.Table.{failed}
use Rattle.path.specs.Routes.{switch_at, switch_to, switches_of, level_of}
use Rattle.path.specs.Walks.{hop_to}
use Rattle.path.specs.Answers.{walk_answer, write_answer}
use Rattle.demands.specs.Tests.{Tests, Hold}
use Rattle.demands.specs.Meetings.{Reached, Used, Earlier, server, switch, no-hop}
use Rattle.demands.specs.Refusals.{end_of, NotIn, hop_tests, read_tests, write_tests, FailsWith, array_tests, servers_tests, Along, Stops, hop_fails, never_arrives, goes_on, Reads, WriteStops, Writes, ComesTo, MeetsAgain, UsesAgain, WritesTo, WritesAgain, WritesOver}
use Rattle.demands.proofs.Chains.{all, numbers_of, chain_means, at_fails, fails_at, front, back, hold_both}
use Rattle.demands.proofs.Refusing.{other-numbers}
use Rattle.demands.proofs.Meetings.{used_place}
use Rattle.demands.proofs.Exactly.{refused-exactly}

-- ---- what 28 and 29 name

met-server : {s : Shape} {vs : List ℕ} {b w n h : ℕ} → n ≡ 28 → Earlier s vs b w n h → Reached vs b h
met-server e (server r) = r
met-server e (switch u) = let z : ⊥ = omega arith in absurd z
met-server e (no-hop x y) = absurd (x e)

used_switch : {s : Shape} {vs : List ℕ} {b w n h : ℕ} → n ≡ 29 → Earlier s vs b w n h → Used s vs w h
used_switch e (server r) = let z : ⊥ = omega arith in absurd z
used_switch e (switch u) = u
used_switch e (no-hop x y) = absurd (y e)

-- a server that was reached is not new, and a switch that was used neither
not_new : {vs : List ℕ} {b h : ℕ} → Reached vs b h → NotIn b vs → ⊥
not_new {h = h} r n = n h r.within r.there

not_unused : {s : Shape} {vs : List ℕ} {w h : ℕ} → Used s vs w h → NotIn w (switches_of s vs) → ⊥
not_unused {h = h} u n = let p = used_place u in n (h - 1) p.0 p.1

-- what a refusal says by its number, hop and earlier hop
module _ {n m x y g h : ℕ} (e : with_earlier 0 x (refused_at n 1 y) ≡ with_earlier 0 g (refused_at m 1 h)) where
  number_is : n ≡ m
  number_is = ap (λ (r : Refusal). r.number) e

  hop_is : y ≡ h
  hop_is = ap (λ (r : Refusal). r.hop) e

  earlier-hop_is : x ≡ g
  earlier-hop_is = ap earlier_hop e

-- ---- reading

module _ (s : Shape) (t : List ℕ) (a d : ℕ) (bs : List ℕ) where
  abbrev leads : List ℕ → ℕ → ℕ
  leads vs b = hop_to s (end_of vs) b

  abbrev over : List ℕ → ℕ → ℕ
  over vs b = switch_at s (level_of b) (end_of vs)

  -- the tests before 28, and 28 and 29
  abbrev links : List ℕ → ℕ → Tests
  links vs b = (11, (failed t (end_of vs) (level_of b) ≡ false) × (failed t (leads vs b) (level_of b) ≡ false)) ∷ []

  abbrev before : List ℕ → ℕ → Tests
  before vs b = hop_tests s (end_of vs) b ++ links vs b

  abbrev server-new : List ℕ → ℕ → Tests
  server-new vs b = (28, NotIn (leads vs b) vs) ∷ []

  abbrev switch-new : List ℕ → ℕ → Tests
  switch-new vs b = (29, NotIn (over vs b) (switches_of s vs)) ∷ []

  abbrev comes-to : {vs left : List ℕ} {b h : ℕ} → Along s t a d bs vs (b ∷ left) → length vs ≡ h → Hold (before vs b) → ComesTo s t a d bs h
  comes-to {vs} {left} {b} al c k =
      record { servers = vs; byte = b; left = left; along = al; count = c; hop = front (hop_tests s (end_of vs) b) (links vs b) k; links = (back (hop_tests s (end_of vs) b) (links vs b) k).0 }

  to-before : {h : ℕ} (c : ComesTo s t a d bs h) → Hold (before c.servers c.byte)
  to-before c = hold_both (hop_tests s (end_of c.servers) c.byte) (links c.servers c.byte) c.hop (c.links, tt)

  stops-met : {r : Refusal} (g h : ℕ) → Stops s t a d bs r → r ≡ with_earlier 0 g (refused_at 28 1 h) → MeetsAgain s t a d bs g h
  stops-met g h (hop_fails {vs} {b} {left} {n} al k e) q =
      let k' = subst (FailsWith (read_tests s t vs b)) (number_is q) k in
      let o = fails_at (before vs b) (switch-new vs b) 28 (NotIn (leads vs b) vs) (λ z. omega arith, (λ z. omega arith, (λ z. omega arith, (λ z. omega arith, tt)))) k' in
      record { comes = comes-to al (hop_is q) o; again = subst (Reached vs (leads vs b)) (earlier-hop_is q) (met-server (number_is q) e) }
  stops-met g h (never_arrives al) q = let z = ap (λ (r : Refusal). r.number) q in let n : ⊥ = omega arith in absurd n
  stops-met g h (goes_on f) q = let z = ap (λ (r : Refusal). r.number) q in let n : ⊥ = omega arith in absurd n

  met-stops : {g h : ℕ} → MeetsAgain s t a d bs g h → Stops s t a d bs (with_earlier 0 g (refused_at 28 1 h))
  met-stops {g} {h} m =
      let c = m.comes in
      let vs = c.servers in
      let b = c.byte in
      subst (λ (x : ℕ). Stops s t a d bs (with_earlier 0 g (refused_at 28 1 x))) c.count
      (hop_fails c.along (at_fails (before vs b) (switch-new vs b) 28 (NotIn (leads vs b) vs) (to-before c) (not_new m.again)) (server m.again))

  stops_used : {r : Refusal} (g h : ℕ) → Stops s t a d bs r → r ≡ with_earlier 0 g (refused_at 29 1 h) → UsesAgain s t a d bs g h
  stops_used g h (hop_fails {vs} {b} {left} {n} al k e) q =
      let k' = subst (FailsWith (read_tests s t vs b)) (number_is q) k in
      let o = fails_at (before vs b ++ server-new vs b) [] 29 (NotIn (over vs b) (switches_of s vs)) (λ z. omega arith, (λ z. omega arith, (λ z. omega arith, (λ z. omega arith, (λ z. omega arith, tt))))) k' in
      record { comes = comes-to al (hop_is q) (front (before vs b) (server-new vs b) o); new = (back (before vs b) (server-new vs b) o).0; again = subst (Used s vs (over vs b)) (earlier-hop_is q) (used_switch (number_is q) e) }
  stops_used g h (never_arrives al) q = let z = ap (λ (r : Refusal). r.number) q in let n : ⊥ = omega arith in absurd n
  stops_used g h (goes_on f) q = let z = ap (λ (r : Refusal). r.number) q in let n : ⊥ = omega arith in absurd n

  used_stops : {g h : ℕ} → UsesAgain s t a d bs g h → Stops s t a d bs (with_earlier 0 g (refused_at 29 1 h))
  used_stops {g} {h} m =
      let c = m.comes in
      let vs = c.servers in
      let b = c.byte in
      subst (λ (x : ℕ). Stops s t a d bs (with_earlier 0 g (refused_at 29 1 x))) c.count
      (hop_fails c.along (at_fails (before vs b ++ server-new vs b) [] 29 (NotIn (over vs b) (switches_of s vs)) (hold_both (before vs b) (server-new vs b) (to-before c) (m.new, tt)) (not_unused m.again)) (switch m.again))

  -- a number that no test of the array has is of its reading
  reads : (r : Refusal) → r.number ≢ 0 → all (λ n. not (eqb n r.number)) (numbers_of (array_tests s a d bs)) ≡ true → ((walk_answer s t a d bs).refusal ≡ r) ↔ (Hold (array_tests s a d bs) × Stops s t a d bs r)
  reads r n o = (λ q. let w = means.0 q in (w.0, go w.1), λ k. means.1 (k.0, inr k.1))
    where
      means : ((walk_answer s t a d bs).refusal ≡ r) ↔ (Hold (array_tests s a d bs) × Reads s t a d bs r)
      means = chain_means.otherwise plain (array_tests s a d bs) (Reads s t a d bs) (walk_answer s t a d bs).refusal r (refused-exactly.walk s t a d bs) (other-numbers plain (array_tests s a d bs) r (λ m. refl) o)

      go : Reads s t a d bs r → Stops s t a d bs r
      go (inl k) = absurd (n (ap (λ (x : Refusal). x.number) k.1))
      go (inr k) = k

  pub twenty_eight : (g h : ℕ) → ((walk_answer s t a d bs).refusal ≡ with_earlier 0 g (refused_at 28 1 h)) ↔ (Hold (array_tests s a d bs) × MeetsAgain s t a d bs g h)
  twenty_eight g h =
      let r = with_earlier 0 g (refused_at 28 1 h) in
      let m = reads r (λ z. omega arith) refl in
      (λ q. let w = m.0 q in (w.0, stops-met g h w.1 refl), λ k. m.1 (k.0, met-stops k.1))

  pub twenty_nine : (g h : ℕ) → ((walk_answer s t a d bs).refusal ≡ with_earlier 0 g (refused_at 29 1 h)) ↔ (Hold (array_tests s a d bs) × UsesAgain s t a d bs g h)
  twenty_nine g h =
      let r = with_earlier 0 g (refused_at 29 1 h) in
      let m = reads r (λ z. omega arith) refl in
      (λ q. let w = m.0 q in (w.0, stops_used g h w.1 refl), λ k. m.1 (k.0, used_stops k.1))

-- ---- writing

module _ (s : Shape) (vs : List ℕ) where
  abbrev neighbours : List ℕ → ℕ → Tests
  neighbours us b = (23, (l : ℕ) × Neighbours s l (end_of us) b) ∷ []

  abbrev written_new : List ℕ → ℕ → Tests
  written_new us b = (28, NotIn b us) ∷ []

  abbrev over-new : List ℕ → ℕ → Tests
  over-new us b = (29, NotIn (switch_to s (end_of us) b) (switches_of s us)) ∷ []

  abbrev writes_to : {r : Refusal} {h : ℕ} (w : WriteStops s vs r) → length w.before ≡ h → Hold (neighbours w.before w.next) → WritesTo s vs h
  writes_to w c k = record { before = w.before; next = w.next; rest = w.rest; servers = w.servers; count = c; way = w.way; hop = k.0 }

  write-met : {g h : ℕ} → WriteStops s vs (with_earlier 0 g (refused_at 28 1 h)) → WritesAgain s vs g h
  write-met {g} {h} w =
      let q = sym w.here in
      let us = w.before in
      let b = w.next in
      let k = subst (FailsWith (write_tests s us b)) (number_is q) w.refused in
      let o = fails_at (neighbours us b) (over-new us b) 28 (NotIn b us) (λ z. omega arith, tt) k in
      record { comes = writes_to w (hop_is q) o; again = subst (Reached us b) (earlier-hop_is q) (met-server (number_is q) w.names) }

  met-written : {g h : ℕ} → WritesAgain s vs g h → WriteStops s vs (with_earlier 0 g (refused_at 28 1 h))
  met-written {g} {h} m =
      let c = m.comes in
      record {
        before = c.before;
        next = c.next;
        rest = c.rest;
        servers = c.servers;
        way = c.way;
        number = 28;
        earlier = g;
        refused = at_fails (neighbours c.before c.next) (over-new c.before c.next) 28 (NotIn c.next c.before) (c.hop, tt) (not_new m.again);
        names = server m.again;
        here = ap (λ (x : ℕ). with_earlier 0 g (refused_at 28 1 x)) (sym c.count);
      }

  write_used : {g h : ℕ} → WriteStops s vs (with_earlier 0 g (refused_at 29 1 h)) → WritesOver s vs g h
  write_used {g} {h} w =
      let q = sym w.here in
      let us = w.before in
      let b = w.next in
      let k = subst (FailsWith (write_tests s us b)) (number_is q) w.refused in
      let o = fails_at (neighbours us b ++ written_new us b) [] 29 (NotIn (switch_to s (end_of us) b) (switches_of s us)) (λ z. omega arith, (λ z. omega arith, tt)) k in
      record { comes = writes_to w (hop_is q) (front (neighbours us b) (written_new us b) o); new = (back (neighbours us b) (written_new us b) o).0; again = subst (Used s us (switch_to s (end_of us) b)) (earlier-hop_is q) (used_switch (number_is q) w.names) }

  used_written : {g h : ℕ} → WritesOver s vs g h → WriteStops s vs (with_earlier 0 g (refused_at 29 1 h))
  used_written {g} {h} m =
      let c = m.comes in
      record {
        before = c.before;
        next = c.next;
        rest = c.rest;
        servers = c.servers;
        way = c.way;
        number = 29;
        earlier = g;
        refused = at_fails (neighbours c.before c.next ++ written_new c.before c.next) [] 29 (NotIn (switch_to s (end_of c.before) c.next) (switches_of s c.before)) (c.hop, (m.new, tt)) (not_unused m.again);
        names = switch m.again;
        here = ap (λ (x : ℕ). with_earlier 0 g (refused_at 29 1 x)) (sym c.count);
      }

  writes : (r : Refusal) → r.number ≢ 0 → all (λ n. not (eqb n r.number)) (numbers_of (servers_tests s vs)) ≡ true → ((write_answer s vs).refusal ≡ r) ↔ (Hold (servers_tests s vs) × WriteStops s vs r)
  writes r n o = (λ q. let w = means.0 q in (w.0, go w.1), λ k. means.1 (k.0, inr k.1))
    where
      means : ((write_answer s vs).refusal ≡ r) ↔ (Hold (servers_tests s vs) × Writes s vs r)
      means = chain_means.otherwise plain (servers_tests s vs) (Writes s vs) (write_answer s vs).refusal r (refused-exactly.write_path s vs) (other-numbers plain (servers_tests s vs) r (λ m. refl) o)

      go : Writes s vs r → WriteStops s vs r
      go (inl k) = absurd (n (ap (λ (x : Refusal). x.number) k.1))
      go (inr k) = k

  pub write_twenty_eight : (g h : ℕ) → ((write_answer s vs).refusal ≡ with_earlier 0 g (refused_at 28 1 h)) ↔ (Hold (servers_tests s vs) × WritesAgain s vs g h)
  write_twenty_eight g h =
      let r = with_earlier 0 g (refused_at 28 1 h) in
      let m = writes r (λ z. omega arith) refl in
      (λ q. let w = m.0 q in (w.0, write-met w.1), λ k. m.1 (k.0, met-written k.1))

  pub write_twenty_nine : (g h : ℕ) → ((write_answer s vs).refusal ≡ with_earlier 0 g (refused_at 29 1 h)) ↔ (Hold (servers_tests s vs) × WritesOver s vs g h)
  write_twenty_nine g h =
      let r = with_earlier 0 g (refused_at 29 1 h) in
      let m = writes r (λ z. omega arith) refl in
      (λ q. let w = m.0 q in (w.0, write_used w.1), λ k. m.1 (k.0, used_written k.1))
