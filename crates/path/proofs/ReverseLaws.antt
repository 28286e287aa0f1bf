-- Routes backwards, parallel routes, and routes over fewer links.
use Prim.Native.Nat.{ℕ, suc, ◌-◌, ◌<◌}
use mathlib.Core.Path.{◌≡◌, sym, ap, ◌∙◌, subst}
use mathlib.Core.Logic.{◌≢◌}
use mathlib.Core.Bool.{true}
use mathlib.Core.List.{List, [], reverse}
use native.Mathlib.Omega.{arith}
use lib.ListN.{length, get_or, length-reverse}
use Rattle.lists.specs.Lists.{middle}
use Rattle.lists.proofs.ListLaws.{reverse-at, once-reverse, apart_sym, apart-reverse, turn_same, turn_reverse, middle-reverse}
use Rattle.room.specs.declared.Shape.{Shape}
use Rattle.room.specs.Shapes.{Server}
use Rattle.room.specs.Addresses.{Neighbours}
use Rattle.links.specs.Table.{live}
use Rattle.links.proofs.TableLaws.{live_swap, live_empty}
use Rattle.path.specs.Routes.{level_to, switch_to, switches_of, Route, RouteTo, Parallel}
use Rattle.path.proofs.HopLaws.{neighbours_sym, level_sym, switch_sym}
use Rattle.path.proofs.RouteLaws.{last_of}

-- ---- the ends of a route

pub source-server : {s : Shape} {t : List ℕ} {a d : ℕ} {vs : List ℕ} → RouteTo s t a d vs → Server s a
source-server {s} h = subst (Server s) h.source (h.route.servers 0 (omega (arith, h.route.some)))

pub dest_server : {s : Shape} {t : List ℕ} {a d : ℕ} {vs : List ℕ} → RouteTo s t a d vs → Server s d
dest_server {s} {t} {a} {d} {vs} h = subst (Server s) h.arrives (h.route.servers (length vs - 1) (omega (arith, h.route.some)))

pub ends_differ : {s : Shape} {t : List ℕ} {a d : ℕ} {vs : List ℕ} → RouteTo s t a d vs → a ≢ d
ends_differ {s} {t} {a} {d} {vs} h e =
    h.route.servers_once.apart 0 (length vs - 1) (omega (arith, h.route.some)) (omega (arith, h.route.some)) (h.source ∙ e ∙ sym h.arrives)

-- no server before the last is the destination
pub first_arrival : {s : Shape} {t : List ℕ} {a d : ℕ} {vs : List ℕ} → RouteTo s t a d vs → (i : ℕ) → suc i < length vs → get_or vs i 0 ≢ d
first_arrival {s} {t} {a} {d} {vs} h i p e =
    h.route.servers_once.apart i (length vs - 1) (omega arith) (omega arith) (e ∙ sym h.arrives)

-- ---- fewer failed links: with none failed, every route is one

pub route-plain : {s : Shape} {t vs : List ℕ} → Route s t vs → Route s [] vs
route-plain h =
    record { some = h.some; few = h.few; servers = h.servers; hops = h.hops; alive = λ i p. live_empty _ _ _; servers_once = h.servers_once; switches_once = h.switches_once }

pub route-to-plain : {s : Shape} {t : List ℕ} {a d : ℕ} {vs : List ℕ} → RouteTo s t a d vs → RouteTo s [] a d vs
route-to-plain h = record { route = route-plain h.route; source = h.source; arrives = h.arrives }

-- ---- a hop back

pub hop_back : {s : Shape} {a b : ℕ} → Neighbours s (level_to s a b) a b → Neighbours s (level_to s b a) b a
hop_back {s} {a} {b} h = subst (λ (l : ℕ). Neighbours s l b a) (level_sym s a b) (neighbours_sym h)

pub live_back : (s : Shape) (t : List ℕ) (a b : ℕ) → live t (level_to s a b) a b ≡ true → live t (level_to s b a) b a ≡ true
live_back s t a b h = ap (λ (l : ℕ). live t l b a) (level_sym s b a) ∙ live_swap t (level_to s a b) b a ∙ h

-- ---- a route backwards

pub first-reverse : (vs : List ℕ) → 0 < length vs → get_or (reverse vs) 0 0 ≡ last_of vs
first-reverse vs h = reverse-at vs 0 h

pub last_reverse : (vs : List ℕ) → 0 < length vs → last_of (reverse vs) ≡ get_or vs 0 0
last_reverse vs h =
    let e : length vs - suc (length (reverse vs) - 1) ≡ 0 = omega (arith, length-reverse vs) in
    reverse-at vs (length (reverse vs) - 1) (omega (arith, length-reverse vs)) ∙ ap (λ (k : ℕ). get_or vs k 0) e

-- the switches of a route backwards are its switches, the last first
pub switches-reverse : {s : Shape} {t vs : List ℕ} → Route s t vs → switches_of s (reverse vs) ≡ reverse (switches_of s vs)
unfolding switches_of
switches-reverse {s} {t} {vs} h =
    turn_reverse (switch_to s) vs
    ∙ ap (λ (l : List ℕ). reverse l) (turn_same (λ x y. switch_to s y x) (switch_to s) vs (λ i p. sym (switch_sym (h.hops i p))))

-- the reverse of a route is a route
pub route-reverse : {s : Shape} {t vs : List ℕ} → Route s t vs → Route s t (reverse vs)
route-reverse {s} {t} {vs} h =
    record {
      some = omega (arith, h.some, length-reverse vs);
      few = omega (arith, h.few, length-reverse vs);
      servers = λ i p.
          let q : i < length vs = omega (arith, length-reverse vs) in
          rw (reverse-at vs i q) (h.servers (length vs - suc i) (omega arith));
      hops = λ i p. let q : suc i < length vs = omega (arith, length-reverse vs) in rw (from i q, to i q) (hop_back (h.hops (length vs - suc (suc i)) (omega arith)));
      alive = λ i p. let q : suc i < length vs = omega (arith, length-reverse vs) in rw (from i q, to i q) (live_back s t _ _ (h.alive (length vs - suc (suc i)) (omega arith)));
      servers_once = once-reverse vs h.servers_once;
      switches_once = rw (switches-reverse h) (once-reverse (switches_of s vs) h.switches_once);
    }
  where
    from : (i : ℕ) → suc i < length vs → get_or (reverse vs) i 0 ≡ get_or vs (suc (length vs - suc (suc i))) 0
    from i q =
        let e : length vs - suc i ≡ suc (length vs - suc (suc i)) = omega arith in
        reverse-at vs i (omega arith) ∙ ap (λ (k : ℕ). get_or vs k 0) e

    to : (i : ℕ) → suc i < length vs → get_or (reverse vs) (suc i) 0 ≡ get_or vs (length vs - suc (suc i)) 0
    to i q = reverse-at vs (suc i) q

pub route-to-reverse : {s : Shape} {t : List ℕ} {a d : ℕ} {vs : List ℕ} → RouteTo s t a d vs → RouteTo s t d a (reverse vs)
route-to-reverse {s} {t} {a} {d} {vs} h =
    record {
      route = route-reverse h.route;
      source = first-reverse vs (omega (arith, h.route.some)) ∙ h.arrives;
      arrives = last_reverse vs (omega (arith, h.route.some)) ∙ h.source;
    }

-- ---- parallel routes

pub parallel_sym : {s : Shape} {us vs : List ℕ} → Parallel s us vs → Parallel s vs us
parallel_sym h = record { switches = apart_sym _ _ h.switches; servers = apart_sym _ _ h.servers }

-- the reverses of parallel routes are parallel
pub parallel-reverse : {s : Shape} {t us vs : List ℕ} → Route s t us → Route s t vs → Parallel s us vs → Parallel s (reverse us) (reverse vs)
parallel-reverse {s} {t} {us} {vs} hu hv h =
    record {
      switches = rw (switches-reverse hu, switches-reverse hv) (apart-reverse (switches_of s us) (switches_of s vs) h.switches);
      servers = rw (middle-reverse us, middle-reverse vs) (apart-reverse (middle us) (middle vs) h.servers);
    }
