-- The built routes of two different servers: each is a route, every two are parallel, and how many hops they have.
use Prim.Native.Nat.{ℕ, suc, ◌+◌, ◌-◌, ◌≤◌, ◌<◌}
use mathlib.Core.Path.{◌≡◌, sym, ap, ap₂, ◌∙◌, subst}
use mathlib.Core.Logic.{◌≢◌}
use mathlib.Core.Bool.{Bool, true, false, not, cond, ◌&&◌}
use mathlib.Core.List.{List, [], map}
use native.Mathlib.Omega.{arith}
use native.Mathlib.Decide.{ℕ_discrete}
use borrow.Author.Tests.{eq-eqb, ne_eqb, eqb-true, leb-true}
use lib.Dec.{T, eqb, leb}
use lib.ListN.{length, get_or, drop, length-map}
use Rattle.lists.specs.Lists.{Once, middle, filled}
use Rattle.lists.proofs.ListLaws.{All, all_drop, all_take}
use Rattle.room.specs.declared.Shape.{Shape}
use Rattle.room.specs.Shapes.{Server}
use Rattle.room.specs.Addresses.{digit, differing, Neighbours}
use Rattle.path.specs.Routes.{level_to, switches_of, encode, Route, RouteTo, Parallel}
use Rattle.build.specs.Built.{built_hops, met_by, built_route, built_bytes}
use Rattle.build.proofs.ListLaws.{and_left, and_right, or_right, T_true, once, apart, once-map, apart-map, inner, middle-map}
use Rattle.build.proofs.Symbolic.{Word, zeros_b, hops_b, met_b, left_b, last_b, fits_b, same_word, same_switch, count, route_holds, count_holds, pair_holds}
use Rattle.build.proofs.Lift.{lift_hop}
use Rattle.links.proofs.TableLaws.{live_empty}
use Rattle.build.proofs.HopLaws.{Fits, used_by, met_long, met-first, met-servers, met_next, switches-met, bytes-met}
use Rattle.build.proofs.Words.{same_word_lem}
use Rattle.build.proofs.ServerWords.{val, place, ends, zeros-long, ends_long, ends_at, place-source, place_target, hops_are, place_same, Linked, switch_b, switch-same, Long, met_are, used_are, fits_are, met_all, left-all, last_at, ends_count, ends_differ}

-- ---- the built route of a slot
module _ (s : Shape) (a d : ℕ) (ha : Server s a) (hd : Server s d) (ne : a ≢ d) (i : ℕ) (hi : i ≤ s.k) where
  abbrev hs : List (ℕ × Bool)
  hs = hops_b s.k i (ends s a d)

  abbrev zs : Word
  zs = zeros_b s.k

  zs_long : length zs ≡ suc s.k
  zs_long = zeros-long s a d ha hd

  abbrev fit_test : Bool
  fit_test = fits_b s.k zs hs

  abbrev last_test : Bool
  last_test = same_word (last_b zs hs) (ends s a d)

  abbrev met_test : Bool
  met_test = once same_word (met_b zs hs)

  abbrev left_test : Bool
  left_test = once same_switch (left_b zs hs)

  some : count (ends s a d) ≢ 0
  some = ends_differ s a d ha hd ne

  route_test : T (fit_test && (last_test && (met_test && left_test)))
  route_test = route_holds s.k ha.valid.levels (ends s a d) (ends_long s a d ha hd) some i hi

  pub fit-test : T fit_test
  fit-test = and_left fit_test (last_test && (met_test && left_test)) route_test

  rest_test : T (last_test && (met_test && left_test))
  rest_test = and_right fit_test (last_test && (met_test && left_test)) route_test

  last-test : T last_test
  last-test = and_left last_test (met_test && left_test) rest_test

  once_test : T (met_test && left_test)
  once_test = and_right last_test (met_test && left_test) rest_test

  -- each hop changes a digit of the room
  pub built-fits : Fits s a (built_hops s i a d)
  built-fits =
      subst (λ (x : List (ℕ × ℕ)). Fits s a x) (sym (hops_are s a d ha hd i))
      (subst (λ (x : ℕ). Fits s x (map (lift_hop (val s a d)) hs)) (place-source s a d ha hd) (fits_are s a d ha hd zs zs_long hs fit-test))

  pub route_is : built_route s i a d ≡ map (place s a d) (met_b zs hs)
  unfolding built_route
  route_is =
      ap₂ (λ (x : ℕ) (y : List (ℕ × ℕ)). met_by s x y) (sym (place-source s a d ha hd)) (hops_are s a d ha hd i)
      ∙ met_are s a d ha hd zs zs_long hs

  pub switches_are : switches_of s (built_route s i a d) ≡ map (switch_b s a d ha hd) (left_b zs hs)
  unfolding built_route
  switches_are =
      switches-met s a (built_hops s i a d) built-fits
      ∙ ap₂ (λ (x : ℕ) (y : List (ℕ × ℕ)). used_by s x y) (sym (place-source s a d ha hd)) (hops_are s a d ha hd i)
      ∙ used_are s a d ha hd zs zs_long hs

  hops-long : length (built_hops s i a d) ≡ length hs
  hops-long = ap length (hops_are s a d ha hd i) ∙ length-map hs (lift_hop (val s a d))

  -- ---- how many hops

  abbrev wanted : ℕ
  wanted = cond (get_or (ends s a d) i false) (count (ends s a d)) (count (ends s a d) + 2)

  count_test : T (eqb (length hs) wanted && leb (length hs) (s.k + 2))
  count_test = count_holds s.k ha.valid.levels (ends s a d) (ends_long s a d ha hd) some i hi

  hops_wanted : length (built_hops s i a d) ≡ wanted
  hops_wanted =
      hops-long ∙ eqb-true (length hs) wanted (T_true (eqb (length hs) wanted) (and_left (eqb (length hs) wanted) (leb (length hs) (s.k + 2)) count_test))

  -- never above k + 2
  pub built-short : length (built_hops s i a d) ≤ s.k + 2
  built-short =
      omega (arith, hops-long, leb-true (length hs) (s.k + 2) (T_true (leb (length hs) (s.k + 2)) (and_right (eqb (length hs) wanted) (leb (length hs) (s.k + 2)) count_test)))

  -- where the ends differ in digit i, as many hops as digits differ
  pub built-direct : digit s i a ≢ digit s i d → length (built_hops s i a d) ≡ length (differing s a d)
  built-direct q =
      let e : get_or (ends s a d) i false ≡ true = ends_at s a d ha hd i ∙ ap not (ne_eqb (digit s i a) (digit s i d) q) in
      hops_wanted
      ∙ ap (λ (t : Bool). cond t (count (ends s a d)) (count (ends s a d) + 2)) e
      ∙ sym (ends_count s a d ha hd)

  -- else two more
  pub built-detour : digit s i a ≡ digit s i d → length (built_hops s i a d) ≡ length (differing s a d) + 2
  built-detour q =
      let e : get_or (ends s a d) i false ≡ false = ends_at s a d ha hd i ∙ ap not (eq-eqb (digit s i a) (digit s i d) q) in
      hops_wanted
      ∙ ap (λ (t : Bool). cond t (count (ends s a d)) (count (ends s a d) + 2)) e
      ∙ ap (λ (x : ℕ). x + 2) (sym (ends_count s a d ha hd))

  built-some : 1 ≤ length (built_hops s i a d)
  built-some =
      elim (ℕ_discrete (digit s i a) (digit s i d)) [
        | yes q ↦ omega (arith, built-detour q)
        | no q ↦ omega (arith, built-direct q, ends_count s a d ha hd, some)
      ]

  pub route-long : length (built_route s i a d) ≡ suc (length (built_hops s i a d))
  unfolding built_route
  route-long = met_long s a (built_hops s i a d)

  -- ---- it is a route from a to d

  pub built_is_route : Route s [] (built_route s i a d)
  unfolding built_route
  built_is_route =
      record {
        some = omega (arith, route-long, built-some);
        few = omega (arith, route-long, built-short, ha.valid.levels);
        servers = servers_in;
        hops = hops-in;
        alive = λ j h. live_empty (level_to s (get_or (built_route s i a d) j 0) (get_or (built_route s i a d) (suc j) 0)) (get_or (built_route s i a d) j 0) (get_or (built_route s i a d) (suc j) 0);
        servers_once = subst Once (sym route_is) (once-map same_word (place s a d) (Long s a d ha hd) (place_same s a d ha hd) (met_b zs hs) (met_all s a d ha hd zs zs_long hs) (and_left met_test left_test once_test));
        switches_once = subst Once (sym switches_are) (once-map same_switch (switch_b s a d ha hd) (Linked s a d ha hd) (switch-same s a d ha hd) (left_b zs hs) (left-all s a d ha hd zs zs_long hs fit-test) (and_right met_test left_test once_test));
      }
    where
      servers_in : (j : ℕ) → j < length (built_route s i a d) → Server s (get_or (built_route s i a d) j 0)
      servers_in = met-servers s a (built_hops s i a d) ha built-fits

      hops-in : (j : ℕ) → suc j < length (built_route s i a d) → Neighbours s (level_to s (get_or (built_route s i a d) j 0) (get_or (built_route s i a d) (suc j) 0)) (get_or (built_route s i a d) j 0) (get_or (built_route s i a d) (suc j) 0)
      hops-in = met_next s a (built_hops s i a d) built-fits

  pub built-route : RouteTo s [] a d (built_route s i a d)
  unfolding built_route
  built-route =
      record {
        route = built_is_route;
        source = met-first s a (built_hops s i a d);
        arrives = last-in;
      }
    where
      last-in : get_or (built_route s i a d) (length (built_route s i a d) - 1) 0 ≡ d
      last-in =
          let e : length (built_route s i a d) - 1 ≡ length hs = omega (arith, route-long, hops-long) in
          ap (λ (j : ℕ). get_or (built_route s i a d) j 0) e
          ∙ ap (λ (x : List ℕ). get_or x (length hs) 0) route_is
          ∙ last_at s a d ha hd zs hs
          ∙ ap (place s a d) (same_word_lem (last_b zs hs) (ends s a d) last-test)
          ∙ place_target s a d ha hd

  -- its eight path bytes
  pub built-encode : encode s (built_route s i a d) ≡ built_bytes s i a d
  unfolding encode built_route built_bytes
  built-encode = ap (filled 8) (bytes-met s a (built_hops s i a d) built-fits)

-- ---- two slots

module _ (s : Shape) (a d : ℕ) (ha : Server s a) (hd : Server s d) (ne : a ≢ d) (i j : ℕ) (hi : i ≤ s.k) (hj : j ≤ s.k) (q : i ≢ j) where
  abbrev met_of : ℕ → List Word
  met_of m = met_b (zeros_b s.k) (hops_b s.k m (ends s a d))

  abbrev left_of : ℕ → List (ℕ × Word)
  left_of m = left_b (zeros_b s.k) (hops_b s.k m (ends s a d))

  abbrev servers_test : Bool
  servers_test = apart same_word (inner (met_of i)) (inner (met_of j))

  abbrev switches_test : Bool
  switches_test = apart same_switch (left_of i) (left_of j)

  pair_test : T (servers_test && switches_test)
  pair_test =
      or_right (eqb i j) (servers_test && switches_test) (ne_eqb i j q)
      (pair_holds s.k ha.valid.levels (ends s a d) (ends_long s a d ha hd) (some s a d ha hd ne i hi) i hi j hj)

  inner_all : (m : ℕ) → All (Long s a d ha hd) (inner (met_of m))
  inner_all m =
      all_take (Long s a d ha hd) (length (met_of m) - 2) (drop 1 (met_of m))
      (all_drop (Long s a d ha hd) 1 (met_of m) (met_all s a d ha hd (zeros_b s.k) (zeros-long s a d ha hd) (hops_b s.k m (ends s a d))))

  left-all_of : (m : ℕ) → m ≤ s.k → All (Linked s a d ha hd) (left_of m)
  left-all_of m h = left-all s a d ha hd (zeros_b s.k) (zeros-long s a d ha hd) (hops_b s.k m (ends s a d)) (fit-test s a d ha hd ne m h)

  middle_is : (m : ℕ) → m ≤ s.k → middle (built_route s m a d) ≡ map (place s a d) (inner (met_of m))
  middle_is m h = ap middle (route_is s a d ha hd ne m h) ∙ middle-map (place s a d) (met_of m)

  -- every two share no switch, and no server other than the ends
  pub built-parallel : Parallel s (built_route s i a d) (built_route s j a d)
  built-parallel =
      record {
        switches = rw (switches_are s a d ha hd ne i hi, switches_are s a d ha hd ne j hj)
            (apart-map same_switch (switch_b s a d ha hd) (Linked s a d ha hd) (switch-same s a d ha hd) (left_of i) (left_of j) (left-all_of i hi) (left-all_of j hj) (and_right servers_test switches_test pair_test));
        servers = rw (middle_is i hi, middle_is j hj)
            (apart-map same_word (place s a d) (Long s a d ha hd) (place_same s a d ha hd) (inner (met_of i)) (inner (met_of j)) (inner_all i) (inner_all j) (and_left servers_test switches_test pair_test));
      }
