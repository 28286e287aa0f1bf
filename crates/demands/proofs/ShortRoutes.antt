-- Two tests run over all ways of a few hops between two servers: where they pass, no route that avoids these switches comes before a route.
use Prim.Native.Nat.{ℕ, zero, suc, ◌-◌, ◌<◌, suc-le-suc, zero-le}
use mathlib.Core.Path.{◌≡◌, refl, sym, ap, ◌∙◌, subst}
use mathlib.Core.Logic.{⊎_elim}
use mathlib.Core.Bool.{Bool, true, false, not, ◌&&◌, ◌||◌}
use mathlib.Core.List.{List, [], ◌∷◌}
use native.Mathlib.Omega.{arith}
use native.Mathlib.Decide.{ℕ_discrete}
use lib.Dec.{ltb, eqb}
use lib.ListN.{length, get_or}
use borrow.Author.Tests.{eq-eqb, lt-ltb}
use Rattle.lists.proofs.ListLaws.{both_held, Missing, missing_in, length_turn, turn_at}
use Rattle.lists.specs.Lists.{is_in, in_turn}
use Rattle.room.specs.declared.Shape.{Shape}
use Rattle.room.specs.Shapes.{servers_of}
use Rattle.room.specs.Addresses.{differing}
use Rattle.room.proofs.RoomLaws.{neighbours-exactly}
use Rattle.links.specs.Table.{live}
use Rattle.path.specs.Routes.{level_to, switch_to, byte_to, switches_of, RouteTo, Parallel, level_of, value_of}
use Rattle.path.specs.Walks.{single}
use Rattle.finder.specs.Alternates.{hop_bytes, Sooner, HopByHop, Before}

-- ---- the test

-- of two hops, by their path bytes, whether the first comes sooner
abbrev sooner : ℕ → ℕ → Bool
sooner b c = ltb (level_of c) (level_of b) || (eqb (level_of b) (level_of c) && ltb (value_of b) (value_of c))

sooner_test : (b c : ℕ) → Sooner b c → sooner b c ≡ true
sooner_test b c = ⊎_elim (λ h. rw (lt-ltb (level_of c) (level_of b) h)) (λ h. either (ltb (level_of c) (level_of b)) (rw (eq-eqb (level_of b) (level_of c) h.0, lt-ltb (value_of b) (value_of c) h.1)))
  where
    either : (x : Bool) {y : Bool} → y ≡ true → x || y ≡ true
    either true e = refl
    either false e = e

-- whether f holds of each number below m of which `test` holds
abbrev each : (ℕ → Bool) → (ℕ → Bool) → ℕ → Bool
each test f zero = true
each test f (suc b) = elim (test b) [ true ↦ f b && each test f b | false ↦ each test f b ]

each_at : (test f : ℕ → Bool) (m : ℕ) → each test f m ≡ true → (b : ℕ) → b < m → test b ≡ true → f b ≡ true
each_at test f zero e b h t = let z : ⊥ = omega arith in absurd z
each_at test f (suc m) e b h t =
    elim (ℕ_discrete b m) [
      | yes q ↦ ap f q ∙ here (test m) e (sym (ap test q) ∙ t)
      | no q ↦ each_at test f m (rest (test m) e) b (omega arith) t
    ]
  where
    here : (x : Bool) → elim x [ true ↦ f m && each test f m | false ↦ each test f m ] ≡ true → x ≡ true → f m ≡ true
    here true g y = (both_held (f m) (each test f m) g).0
    here false g y = let z : ◌≡◌ {A = ℕ} 0 1 = cc in let n : ⊥ = omega arith in absurd n

    rest : (x : Bool) → elim x [ true ↦ f m && each test f m | false ↦ each test f m ] ≡ true → each test f m ≡ true
    rest true g = (both_held (f m) (each test f m) g).1
    rest false g = g

module _ (s : Shape) (t : List ℕ) (d : ℕ) (avoid : List ℕ) where
  -- whether b is a neighbour of a over two live links, by a switch that is not to be avoided
  abbrev pub goes_on : ℕ → ℕ → Bool
  goes_on a b = single (differing s a b) && (live t (level_to s a b) a b && not (is_in (switch_to s a b) avoid))

  -- whether no way of m hops leads from a to d
  abbrev pub far_off : ℕ → ℕ → Bool
  far_off zero a = not (eqb a d)
  far_off (suc m) a = each (goes_on a) (far_off m) (servers_of s)

  -- whether no way that comes before these bytes, hop by hop, leads from a to d in as many hops
  abbrev pub none_before : List ℕ → ℕ → Bool
  none_before [] a = true
  none_before (c ∷ cs) a =
      each (goes_on a) (λ b. elim (sooner (byte_to s a b) c) [ true ↦ far_off (length cs) b | false ↦ true ] && elim (eqb (byte_to s a b) c) [ true ↦ none_before cs b | false ↦ true ]) (servers_of s)

  -- ---- ways, server after server

  then : (x y : Bool) → elim x [ true ↦ y | false ↦ true ] ≡ true → x ≡ true → y ≡ true
  then true y h k = h
  then false y h k = let z : ◌≡◌ {A = ℕ} 0 1 = cc in let n : ⊥ = omega arith in absurd n

  abbrev GoesAlong : ℕ → List ℕ → Type 0
  GoesAlong a [] = Unit {0}
  GoesAlong a (b ∷ bs) = (b < servers_of s) × (goes_on a b ≡ true) × GoesAlong b bs

  abbrev last : ℕ → List ℕ → ℕ
  last a [] = a
  last a (b ∷ bs) = last b bs

  far : (m a : ℕ) (bs : List ℕ) → far_off m a ≡ true → length bs ≡ m → GoesAlong a bs → last a bs ≡ d → ⊥
  far zero a [] e l g q = let z : ◌≡◌ {A = ℕ} 0 1 = unlike (eqb a d) e (eq-eqb a d q) in omega arith
    where
      unlike : (x : Bool) → not x ≡ true → x ≡ true → ◌≡◌ {A = ℕ} 0 1
      unlike true h k = cc
      unlike false h k = cc
  far zero a (b ∷ bs) e l g q = omega arith
  far (suc m) a [] e l g q = omega arith
  far (suc m) a (b ∷ bs) e l g q =
      far m b bs (each_at (goes_on a) (far_off m) (servers_of s) e b g.0 g.1) (omega arith) g.2 q

  first : (cs : List ℕ) (a : ℕ) (bs : List ℕ) → none_before cs a ≡ true → length bs ≡ length cs → GoesAlong a bs → last a bs ≡ d → HopByHop (in_turn (byte_to s) (a ∷ bs)) cs → ⊥
  unfolding in_turn
  first [] a [] e l g q h = h
  first [] a (b ∷ bs) e l g q h = omega arith
  first (c ∷ cs) a [] e l g q h = omega arith
  first (c ∷ cs) a (b ∷ bs) e l g q h =
      let u = each_at (goes_on a) (λ b. elim (sooner (byte_to s a b) c) [ true ↦ far_off (length cs) b | false ↦ true ] && elim (eqb (byte_to s a b) c) [ true ↦ none_before cs b | false ↦ true ]) (servers_of s) e b g.0 g.1 in
      let w = both_held (elim (sooner (byte_to s a b) c) [ true ↦ far_off (length cs) b | false ↦ true ]) _ u in
      ⊎_elim (λ h. far (length cs) b bs (then (sooner (byte_to s a b) c) _ w.0 (sooner_test (byte_to s a b) c h)) (omega arith) g.2 q)
      (λ h. first cs b bs (then (eqb (byte_to s a b) c) _ w.1 (eq-eqb (byte_to s a b) c h.0)) (omega arith) g.2 q h.1)
      h

  -- ---- routes as such ways

  -- the hops of servers in turn use no switch that is to be avoided
  abbrev pub Free : List ℕ → Type 0
  Free us = (i : ℕ) → suc i < length us → Missing (switch_to s (get_or us i 0) (get_or us (suc i) 0)) avoid

  module _ {a : ℕ} {us : List ℕ} (r : RouteTo s t a d us) (f : Free us) where
    goes_at : (i : ℕ) → suc i < length us → (get_or us (suc i) 0 < servers_of s) × (goes_on (get_or us i 0) (get_or us (suc i) 0) ≡ true)
    goes_at i h = (
      (r.route.servers (suc i) h).below,
      rw ((neighbours-exactly (r.route.servers i (omega arith)) (r.route.servers (suc i) h) _).1 (r.route.hops i h), r.route.alive i h, missing_in (switch_to s (get_or us i 0) (get_or us (suc i) 0)) avoid (f i h)),
    )

  goes-all : (b : ℕ) (bs : List ℕ) → ((i : ℕ) → i < length bs → (get_or bs i 0 < servers_of s) × (goes_on (get_or (b ∷ bs) i 0) (get_or bs i 0) ≡ true)) → GoesAlong b bs
  goes-all b [] h = tt
  goes-all b (c ∷ cs) h =
      ((h 0 (suc-le-suc zero-le)).0, (h 0 (suc-le-suc zero-le)).1, goes-all c cs (λ i q. h (suc i) (suc-le-suc q)))

  last_at : (b : ℕ) (bs : List ℕ) → last b bs ≡ get_or (b ∷ bs) (suc (length bs) - 1) 0
  last_at b [] = refl
  last_at b (c ∷ cs) =
      let e : suc (suc (length cs) - 1) ≡ suc (suc (length cs)) - 1 = omega arith in
      last_at c cs ∙ ap (λ (m : ℕ). get_or (b ∷ c ∷ cs) m 0) e

  -- no route has m hops
  none_of : {a : ℕ} (us : List ℕ) (m : ℕ) → far_off m a ≡ true → RouteTo s t a d us → Free us → length us ≡ suc m → ⊥
  none_of [] m e r f l = omega arith
  none_of (b ∷ bs) m e r f l =
      far m b bs (rw r.source e) (omega arith) (goes-all b bs (λ i q. goes_at r f i (suc-le-suc q))) (last_at b bs ∙ r.arrives)

  -- nor as many hops as these bytes, and comes before them
  none_before_lem : {a : ℕ} (us cs : List ℕ) → none_before cs a ≡ true → RouteTo s t a d us → Free us → length us ≡ suc (length cs) → HopByHop (hop_bytes s us) cs → ⊥
  unfolding hop_bytes
  none_before_lem [] cs e r f l = omega arith
  none_before_lem (b ∷ bs) cs e r f l =
      first cs b bs (rw r.source e) (omega arith) (goes-all b bs (λ i q. goes_at r f i (suc-le-suc q))) (last_at b bs ∙ r.arrives)

  -- whether no way of fewer than m hops leads from a to d
  abbrev pub none_shorter : ℕ → ℕ → Bool
  none_shorter zero a = true
  none_shorter (suc m) a = far_off m a && none_shorter m a

  shorter_at : (m i a : ℕ) → none_shorter m a ≡ true → i < m → far_off i a ≡ true
  shorter_at zero i a e h = let z : ⊥ = omega arith in absurd z
  shorter_at (suc m) i a e h =
      let w = both_held (far_off m a) (none_shorter m a) e in
      elim (ℕ_discrete i m) [
        | yes q ↦ ap (λ (x : ℕ). far_off x a) q ∙ w.0
        | no q ↦ shorter_at m i a w.1 (omega arith)
      ]

  -- where both tests pass, no route comes before the one with these bytes
  pub least : {a : ℕ} (cs vs : List ℕ) → none_shorter (length cs) a ≡ true → none_before cs a ≡ true → cs ≡ hop_bytes s vs → length vs ≡ suc (length cs) → (us : List ℕ) → RouteTo s t a d us → Free us → Before s us vs → ⊥
  least {a} cs vs e g same l us r f =
      ⊎_elim
      (λ h. none_of us (length us - 1) (shorter_at (length cs) (length us - 1) a e (omega (arith, r.route.some))) r f (omega (arith, r.route.some)))
      (λ h. none_before_lem us cs g r f (omega (arith, h.0)) (rw (← same) at h.1))

-- where nothing is to be avoided
pub free_all : (s : Shape) (t : List ℕ) (d : ℕ) (us : List ℕ) → Free s t d [] us
free_all s t d us i h = record { not_at = λ j q e. omega arith }

-- the switches of a route are avoided by the routes that are parallel to it
pub free-parallel : (s : Shape) (t : List ℕ) (d : ℕ) {avoid us vs : List ℕ} → avoid ≡ switches_of s vs → Parallel s us vs → Free s t d avoid us
unfolding switches_of
free-parallel s t d {avoid} {us} {vs} same p i h =
    subst (Missing (switch_to s (get_or us i 0) (get_or us (suc i) 0))) (sym same)
    (record { not_at = λ j q e. p.switches.apart i j (omega (arith, length_turn (switch_to s) us)) q (turn_at (switch_to s) us i h ∙ sym e) })
