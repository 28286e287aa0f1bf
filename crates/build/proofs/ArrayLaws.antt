-- The arrays of the built routes, slots k down to 0, and how a program gathers them.
use Prim.Native.Nat.{ℕ, zero, suc, ◌-◌, ◌≤◌, ◌<◌}
use mathlib.Core.Path.{◌≡◌, refl, sym, ap, ap₂, ◌∙◌, subst}
use mathlib.Core.Logic.{◌≢◌}
use mathlib.Core.List.{List, [], ◌∷◌, map}
use native.Mathlib.Omega.{arith}
use lib.ListN.{length, get_or, replicate, length-append, length-replicate, length-map}
use Rattle.lists.specs.Lists.{filled, down_from}
use Rattle.lists.proofs.ListLaws.{All, map_at, down_long, down_at}
use Rattle.room.specs.declared.Shape.{Shape}
use Rattle.room.specs.Shapes.{Ends}
use Rattle.room.specs.Refusals.{ends_refusal}
use Rattle.room.proofs.RefusalLaws.{ends_of}
use Rattle.path.specs.Routes.{encode, RouteTo, Parallel}
use Rattle.build.specs.declared.RouteSet.{RouteSet}
use Rattle.build.specs.Built.{built_hops, bytes_of, built_route, built_bytes, built_routes, built_arrays}
use Rattle.build.specs.Sets.{empty_set, added, set_of}
use Rattle.build.proofs.BuiltLaws.{built-short, built-encode, built-route, built-parallel}
use Rattle.build.proofs.SetLaws.{gathered, gathered_set}

-- ---- the arrays

bytes-long : (hs : List (ℕ × ℕ)) → length (bytes_of hs) ≡ length hs
unfolding bytes_of
bytes-long [] = refl
bytes-long (h ∷ hs) = ap suc (bytes-long hs)

down_all : {X : Type 0} (P : X → Type 0) (f : ℕ → X) (m : ℕ) → ((i : ℕ) → i < m → P (f i)) → All P (map f (down_from m))
down_all P f zero h = tt
down_all P f (suc m) h = (h m (omega arith), down_all P f m (λ i p. h i (omega arith)))

map-long : {X : Type 0} (f : ℕ → X) (m : ℕ) → length (map f (down_from m)) ≡ m
map-long f m = length-map (down_from m) f ∙ down_long m

-- slot j from the front is slot k - j
map-slot : {X : Type 0} (f : ℕ → X) (m j : ℕ) (o : X) → j < m → get_or (map f (down_from m)) j o ≡ f (m - suc j)
map-slot f m j o h = map_at f 0 o (down_from m) j (omega (arith, down_long m)) ∙ ap f (down_at m j h)

map_down : {X : Type 0} (f g : ℕ → X) (m : ℕ) → ((i : ℕ) → i < m → f i ≡ g i) → map f (down_from m) ≡ map g (down_from m)
map_down f g zero h = refl
map_down {X} f g (suc m) h = ap₂ (λ (x : X) (r : List X). x ∷ r) (h m (omega arith)) (map_down f g m (λ i p. h i (omega arith)))

map-map : {X : Type 0} (f : ℕ → List ℕ) (g : List ℕ → X) (is : List ℕ) → map g (map f is) ≡ map (λ i. g (f i)) is
map-map f g [] = refl
map-map {X} f g (i ∷ is) = ap (λ (r : List X). g (f i) ∷ r) (map-map f g is)

module _ {s : Shape} {a d : ℕ} (e : Ends s a d) where
  pub array_long : (i : ℕ) → i ≤ s.k → length (built_bytes s i a d) ≡ 8
  unfolding built_bytes filled
  array_long i h =
      let b = built-short s a d e.source e.destination e.differ i h in
      let l = e.source.valid.levels in
      length-append (bytes_of (built_hops s i a d)) (replicate (8 - length (bytes_of (built_hops s i a d))) 0)
      ∙ omega (arith, length-replicate {A = ℕ} (8 - length (bytes_of (built_hops s i a d))) 0, bytes-long (built_hops s i a d))

  pub arrays-eight : All (λ x. length x ≡ 8) (built_arrays s a d)
  unfolding built_arrays
  arrays-eight = down_all (λ (x : List ℕ). length x ≡ 8) (λ i. built_bytes s i a d) (suc s.k) (λ i h. array_long i (omega arith))

  -- they are the path bytes of the built routes
  pub arrays-encode : built_arrays s a d ≡ map (encode s) (built_routes s a d)
  unfolding built_arrays built_routes
  arrays-encode =
      map_down (λ i. built_bytes s i a d) (λ i. encode s (built_route s i a d)) (suc s.k)
      (λ i h. sym (built-encode s a d e.source e.destination e.differ i (omega arith)))
      ∙ sym (map-map (λ i. built_route s i a d) (encode s) (down_from (suc s.k)))

-- there are k + 1, and the one at place j is that of slot k - j
pub arrays-count : (s : Shape) (a d : ℕ) → length (built_arrays s a d) ≡ suc s.k
unfolding built_arrays
arrays-count s a d = map-long (λ i. built_bytes s i a d) (suc s.k)

pub routes-count : (s : Shape) (a d : ℕ) → length (built_routes s a d) ≡ suc s.k
unfolding built_routes
routes-count s a d = map-long (λ i. built_route s i a d) (suc s.k)

pub arrays-at : (s : Shape) (a d j : ℕ) → j ≤ s.k → get_or (built_arrays s a d) j [] ≡ built_bytes s (s.k - j) a d
unfolding built_arrays
arrays-at s a d j h =
    let e : suc s.k - suc j ≡ s.k - j = omega arith in
    map-slot (λ i. built_bytes s i a d) (suc s.k) j [] (omega arith) ∙ ap (λ (i : ℕ). built_bytes s i a d) e

pub routes-at : (s : Shape) (a d j : ℕ) → j ≤ s.k → get_or (built_routes s a d) j [] ≡ built_route s (s.k - j) a d
unfolding built_routes
routes-at s a d j h =
    let e : suc s.k - suc j ≡ s.k - j = omega arith in
    map-slot (λ i. built_route s i a d) (suc s.k) j [] (omega arith) ∙ ap (λ (i : ℕ). built_route s i a d) e

-- ---- the theorem of the built routes, by their places in the list

module _ {s : Shape} {a d : ℕ} (e : Ends s a d) where
  -- each is a route from a to d
  pub each-route : (j : ℕ) → j ≤ s.k → RouteTo s [] a d (get_or (built_routes s a d) j [])
  each-route j h =
      subst (RouteTo s [] a d) (sym (routes-at s a d j h))
      (built-route s a d e.source e.destination e.differ (s.k - j) (omega arith))

  -- and every two are parallel
  pub each-parallel : (i j : ℕ) → i ≤ s.k → j ≤ s.k → i ≢ j → Parallel s (get_or (built_routes s a d) i []) (get_or (built_routes s a d) j [])
  each-parallel i j hi hj q =
      rw (routes-at s a d i hi, routes-at s a d j hj)
      (built-parallel s a d e.source e.destination e.differ (s.k - i) (s.k - j) (omega arith) (omega arith) (λ z. q (omega arith)))

-- ---- gathering them, as the program does, from slot k down

gather_down : (s : Shape) (a d : ℕ) (r : RouteSet) (m : ℕ) (x : List ℕ) → x ≡ built_bytes s m a d → (y : RouteSet) → y ≡ added r x → gathered y (map (λ i. built_bytes s i a d) (down_from m)) ≡ gathered r (map (λ i. built_bytes s i a d) (down_from (suc m)))
unfolding gathered
gather_down s a d r m x p y q = ap (λ (z : RouteSet). gathered z (map (λ i. built_bytes s i a d) (down_from m))) (q ∙ ap (added r) p)

-- what the program's loop keeps: a set that the arrays of slots m-1, .. , 0 complete
pub record Gathering (s : Shape) (a d : ℕ) (r : RouteSet) (m : ℕ) : Type 0 where
  pub ends : Ends s a d
  pub rest : gathered r (map (λ i. built_bytes s i a d) (down_from m)) ≡ set_of (built_arrays s a d)

pub gather_start : (s : Shape) (a d : ℕ) (r : RouteSet) → ends_refusal s a d ≡ 0 → r ≡ empty_set → Gathering s a d r (suc s.k)
unfolding built_arrays
gather_start s a d r z p =
    let e = ends_of s a d z in
    record {
      ends = e;
      rest = ap (λ (x : RouteSet). gathered x (map (λ i. built_bytes s i a d) (down_from (suc s.k)))) p
          ∙ gathered_set (map (λ i. built_bytes s i a d) (down_from (suc s.k))) (arrays-eight e)
          (omega (arith, map-long (λ i. built_bytes s i a d) (suc s.k), e.source.valid.levels));
    }

pub gather_next : {s : Shape} {a d : ℕ} {r : RouteSet} {m : ℕ} → Gathering s a d r (suc m) → (y : RouteSet) (x : List ℕ) → y ≡ added r x → x ≡ built_bytes s m a d → Gathering s a d y m
gather_next {s} {a} {d} {r} {m} g y x q p = record { ends = g.ends; rest = gather_down s a d r m x p y q ∙ g.rest }

-- from a slot to the next lower one
pub gather_lower : {s : Shape} {a d : ℕ} {r : RouteSet} {m : ℕ} → Gathering s a d r m → 0 < m → Gathering s a d r (suc (m - 1))
gather_lower {s} {a} {d} {r} {m} g h = let q : m ≡ suc (m - 1) = omega arith in subst (Gathering s a d r) q g

pub gather_end : {s : Shape} {a d : ℕ} {r : RouteSet} {m : ℕ} → Gathering s a d r m → m ≤ 0 → r ≡ set_of (built_arrays s a d)
unfolding gathered
gather_end {s} {a} {d} {r} {m} g h =
    let e : 0 ≡ m = omega arith in
    ap (λ (i : ℕ). gathered r (map (λ i. built_bytes s i a d) (down_from i))) e ∙ g.rest
