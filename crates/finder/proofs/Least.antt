-- The least walk is the alternate; where no walk of eight hops or fewer is there is no route.
use Prim.Native.Nat.{ℕ, zero, suc, ◌+◌, ◌-◌, ◌*◌, ◌/◌, ◌<◌, ◌≤◌}
use native.Mathlib.Omega.{arith}
use mathlib.Core.Path.{◌≡◌, refl, sym, ap, ◌∙◌}
use mathlib.Core.Logic.{◌≢◌, ◌⊎◌, inl, inr, ⊎_elim}
use mathlib.Core.Bool.{false}
use mathlib.Core.List.{List, [], ◌∷◌, ◌++◌, map}
use lib.ListN.{length, get_or, take, drop, length-append, length-drop}
use lib.Seq.{length-take-le}
use Rattle.lists.specs.Lists.{Once, in_turn}
use Rattle.lists.proofs.ListLaws.{length_turn, turn_at}
use Rattle.room.specs.declared.Shape.{Shape}
use Rattle.room.specs.Shapes.{Server, Link}
use Rattle.room.specs.Addresses.{digit, switch_of, Beside}
use Rattle.room.proofs.RoomLaws.{same_switch, switch-same}
use Rattle.links.specs.Table.{failed}
use Rattle.links.proofs.TableLaws.{live-exactly}
use Rattle.path.specs.Routes.{switch_to, switch_at, switches_of, RouteTo}
use Rattle.path.proofs.HopLaws.{switch_id}
use Rattle.finder.specs.Alternates.{hop_bytes, Sooner, HopByHop, Before, Alternate}
use Rattle.finder.specs.Walks.{Leads, Lex, Least}
use Rattle.finder.specs.Hops.{turned, step_of, Ok}
use Rattle.finder.proofs.Repeats.{Twice, repeats}
use Rattle.finder.proofs.Walking.{beside-step, beside_ok, hop-neighbours, hop-level, hop-switch, met, met_long, met-first, met_last, met-bytes, part_to, part_from, hop-at, met-server, walk-append, labels_of, labels_long, route-walk}

-- ---- a walk with a repeat is cut short; one without is a route

module _ (s : Shape) (t : List ℕ) where
  abbrev Walks : ℕ → List ℕ → ℕ → Type 0
  Walks u xs w = Leads (step_of s) (Ok s t) u xs w

  -- between the servers met at i and at j, another way
  record Shorter (a : ℕ) (xs : List ℕ) (d : ℕ) : Type 0 where
    labels : List ℕ
    leads : Walks a labels d
    less : length labels < length xs

  module _ (a : ℕ) (xs : List ℕ) (d : ℕ) (ha : Server s a) (h : Walks a xs d) where
    abbrev at : ℕ → ℕ
    at i = get_or (met s a xs) i 0

    cut : (i j : ℕ) → i ≤ j → j ≤ length xs → (ds : List ℕ) → Walks (at i) ds (at j) → i + length ds < j → Shorter a xs d
    cut i j o b ds w l =
        record {
          labels = take i xs ++ (ds ++ drop j xs);
          leads =
              walk-append s t a (take i xs) (ds ++ drop j xs) (at i) d (part_to s t a xs d i (omega arith) h)
              (walk-append s t (at i) ds (drop j xs) (at j) d w (part_from s t a xs d j b h));
          less = omega (arith, length-append (take i xs) (ds ++ drop j xs), length-append ds (drop j xs), length-take-le i xs (omega arith), length-drop j xs);
        }

    -- a server met twice
    cut_server : Twice (met s a xs) → Shorter a xs d
    cut_server w =
        let b : w.j ≤ length xs = omega (arith, w.inside, met_long s a xs) in
        cut w.i w.j (omega (arith, w.order)) b [] w.same (omega (arith, w.order))

    -- a switch used twice: from the first server at it one hop leads to the last
    cut_switch : Once (met s a xs) → Twice (switches_of s (met s a xs)) → Shorter a xs d
    unfolding switches_of
    cut_switch once w =
        let n : length (in_turn (switch_to s) (met s a xs)) ≡ length xs = omega (arith, length_turn (switch_to s) (met s a xs), met_long s a xs) in
        let hj : w.j < length xs = omega (arith, w.inside, n) in
        let hi : w.i < length xs = omega (arith, w.order) in
        over w.i w.j w.order hi hj
        (sym (used w.i hi) ∙ w.same ∙ used w.j hj)
      where
        lev : ℕ → ℕ
        lev i = s.k - get_or xs i 0 / 64

        used : (i : ℕ) → i < length xs → get_or (in_turn (switch_to s) (met s a xs)) i 0 ≡ switch_at s (lev i) (at i)
        used i b =
            let o = hop-at s t a xs d i b h in
            turn_at (switch_to s) (met s a xs) i (omega (arith, met_long s a xs)) ∙ ap (switch_to s (at i)) o.1 ∙ hop-switch o.0

        over : (i j : ℕ) → i < j → i < length xs → j < length xs → switch_at s (lev i) (at i) ≡ switch_at s (lev j) (at j) → Shorter a xs d
        over i j o hi hj e = joined ((switch_id li lj).0 e)
          where
            oi : Ok s t (at i) (get_or xs i 0) × (at (suc i) ≡ step_of s (at i) (get_or xs i 0))
            oi = hop-at s t a xs d i hi h

            oj : Ok s t (at j) (get_or xs j 0) × (at (suc j) ≡ step_of s (at j) (get_or xs j 0))
            oj = hop-at s t a xs d j hj h

            li : Link s (at i) (lev i)
            li = record { server = oi.0.server; level = omega arith }

            lj : Link s (at j) (lev j)
            lj = record { server = oj.0.server; level = omega arith }

            last : Server s (at (suc j))
            last = met-server s t a xs d ha h (suc j) (omega (arith, met_long s a xs))

            joined : (lev i ≡ lev j) × (switch_of s (lev i) (at i) ≡ switch_of s (lev j) (at j)) → Shorter a xs d
            joined q =
                let nj : Beside s (lev j) (at j) (at (suc j)) = rw oj.1 (hop-neighbours oj.0).beside in
                let b : Beside s (lev i) (at i) (at (suc j)) = switch-same li last (q.1 ∙ ap (λ (m : ℕ). switch_of s m (at j)) (sym q.0) ∙ same_switch li.level (rw q.0 nj)) in
                let fi : failed t (at i) (lev i) ≡ false = ((live-exactly t _ _ _).0 oi.0.alive).0 in
                let fj : failed t (at (suc j)) (lev i) ≡ false = rw (q.0, oj.1) ((live-exactly t _ _ _).0 oj.0.alive).1 in
                let ne : at i ≢ at (suc j) = once.apart i (suc j) (omega arith) (omega (arith, met_long s a xs)) in
                let hop = beside_ok li.server last li.level b t ne fi fj in
                cut i (suc j) (omega arith) (omega arith) (((s.k - lev i) * 64 + digit s (lev i) (at (suc j))) ∷ [])
                (hop, beside-step li.server last li.level b) (omega arith)

    -- a walk from a to d that has no repeat is a route
    walk-route : a ≢ d → length xs ≤ 8 → Once (met s a xs) → Once (switches_of s (met s a xs)) → RouteTo s t a d (met s a xs)
    walk-route ne few once once' =
        record {
          route =
              record {
                some = omega (arith, met_long s a xs, some-hops xs h);
                few = omega (arith, met_long s a xs);
                servers = met-server s t a xs d ha h;
                hops = λ i b. let o = hop-at s t a xs d i (omega (arith, met_long s a xs)) h in rw (o.1, hop-level o.0) (hop-neighbours o.0);
                alive = λ i b. let o = hop-at s t a xs d i (omega (arith, met_long s a xs)) h in rw (o.1, hop-level o.0) o.0.alive;
                servers_once = once;
                switches_once = once';
              };
          source = met-first s a xs;
          arrives = let n : length (met s a xs) - 1 ≡ length xs = omega (arith, met_long s a xs) in ap at n ∙ met_last s t a xs d h;
        }
      where
        some-hops : (ys : List ℕ) → Walks a ys d → 0 < length ys
        some-hops [] e = absurd (ne e)
        some-hops (y ∷ ys) w = omega arith

    shorter_or : a ≢ d → length xs ≤ 8 → Shorter a xs d ⊎ RouteTo s t a d (met s a xs)
    shorter_or ne few =
        ⊎_elim (λ w. inl (cut_server w))
        (λ once. ⊎_elim (λ w. inl (cut_switch once w)) (λ once'. inr (walk-route ne few once once')) (repeats (switches_of s (met s a xs))))
        (repeats (met s a xs))

  -- a route that comes from a walk: the walk's own servers, or fewer hops
  pub record Within (a : ℕ) (xs : List ℕ) (d : ℕ) : Type 0 where
    pub servers : List ℕ
    pub route : RouteTo s t a d servers
    pub how : (servers ≡ met s a xs) ⊎ (length servers < suc (length xs))

  within : (m a : ℕ) (xs : List ℕ) (d : ℕ) → length xs ≤ m → Server s a → Walks a xs d → a ≢ d → length xs ≤ 8 → Within a xs d
  within zero a xs d b ha h ne few =
      ⊎_elim (λ w. absurd (omega (arith, w.less))) (λ r. record { servers = met s a xs; route = r; how = inl refl }) (shorter_or a xs d ha h ne few)
  within (suc m) a xs d b ha h ne few =
      ⊎_elim
      (λ w.
      let r = within m a w.labels d (omega (arith, w.less)) ha w.leads ne (omega (arith, w.less)) in
      record {
        servers = r.servers;
        route = r.route;
        how = inr (⊎_elim (λ e. omega (arith, ap length e, met_long s a w.labels, w.less)) (λ l. omega (arith, w.less)) r.how);
      })
      (λ r. record { servers = met s a xs; route = r; how = inl refl })
      (shorter_or a xs d ha h ne few)

  -- every walk of eight hops or fewer has a route within it
  pub walk-within : (a : ℕ) (xs : List ℕ) (d : ℕ) → Server s a → Walks a xs d → a ≢ d → length xs ≤ 8 → Within a xs d
  walk-within a xs d ha h ne few = within (length xs) a xs d (omega arith) ha h ne few

-- ---- the order of labels and the order of bytes

-- every byte's level is one of the room's
abbrev Levels : ℕ → List ℕ → Type 0
Levels k [] = Unit {0}
Levels k (x ∷ xs) = (x / 64 ≤ k) × Levels k xs

turned-twice : (k x : ℕ) → x / 64 ≤ k → turned k (turned k x) ≡ x
unfolding turned
turned-twice k x h = omega arith

-- a hop that comes sooner has a smaller label
not_sooner : (k x y : ℕ) → x / 64 ≤ k → y / 64 ≤ k → x ≤ y → Sooner (turned k y) (turned k x) → ⊥
unfolding turned
not_sooner k x y hx hy h e = ⊎_elim (λ lt. omega arith) (λ q. omega (arith, q.0, q.1)) e

-- where labels come no later, bytes do not come after
lex_not : (k : ℕ) (xs ys : List ℕ) → Levels k xs → Levels k ys → Lex xs ys → HopByHop (map (turned k) ys) (map (turned k) xs) → ⊥
lex_not k [] [] lx ly l h = h
lex_not k [] (y ∷ ys) lx ly l h = h
lex_not k (x ∷ xs) [] lx ly l h = h
lex_not k (x ∷ xs) (y ∷ ys) lx ly l h =
    ⊎_elim
    (λ lt. ⊎_elim (λ b. not_sooner k x y lx.0 ly.0 (omega arith) b) (λ b. let e : y ≡ x = sym (turned-twice k y ly.0) ∙ ap (turned k) b.0 ∙ turned-twice k x lx.0 in omega arith) h)
    (λ q. ⊎_elim (λ b. not_sooner k x y lx.0 ly.0 (omega (arith, q.0)) b) (λ b. lex_not k xs ys lx.1 ly.1 q.1 b.1) h)
    l

module _ (s : Shape) (t : List ℕ) (a d : ℕ) where
  walk-levels : (u : ℕ) (xs : List ℕ) → Leads (step_of s) (Ok s t) u xs d → Levels s.k xs
  walk-levels u [] h = tt
  walk-levels u (x ∷ xs) h = (h.0.level, walk-levels (step_of s u x) xs h.1)

  -- the bytes of a route, from its labels
  route-bytes : (vs : List ℕ) → RouteTo s t a d vs → hop_bytes s vs ≡ map (turned s.k) (labels_of s vs)
  route-bytes vs r =
      let w = route-walk s t vs r in
      ap (hop_bytes s) (sym w.1) ∙ met-bytes s t a (labels_of s vs) d w.0

  route-long : (vs : List ℕ) → RouteTo s t a d vs → length vs ≡ suc (length (labels_of s vs))
  route-long vs r = omega (arith, labels_long s vs, r.route.some)

  -- the least walk of one to eight hops is the alternate
  pub least_alternate : Server s a → a ≢ d → (xs : List ℕ) → length xs ≤ 8 → Least (step_of s) (Ok s t) a xs d → Alternate s t a d (met s a xs)
  least_alternate ha ne xs few least = from (walk-within s t a xs d ha least.leads ne few)
    where
      later : (us : List ℕ) → RouteTo s t a d us → Before s us (met s a xs) → ⊥
      later us r b =
          let w = route-walk s t us r in
          ⊎_elim
          (λ lt. ⊎_elim (λ l. omega (arith, met_long s a xs, route-long us r)) (λ l. omega (arith, l.0, met_long s a xs, route-long us r)) (least.first (labels_of s us) w.0))
          (λ e. ⊎_elim (λ l. omega (arith, e.0, met_long s a xs, route-long us r))
          (λ l. lex_not s.k xs (labels_of s us) (walk-levels a xs least.leads) (walk-levels a (labels_of s us) w.0) l.1
          (rw (← route-bytes us r, ← met-bytes s t a xs d least.leads) e.1))
          (least.first (labels_of s us) w.0))
          b

      from : Within s t a xs d → Alternate s t a d (met s a xs)
      from r =
          ⊎_elim (λ e. record { route = rw (← e) r.route; first = later })
          (λ lt.
          let w = route-walk s t r.servers r.route in
          absurd (⊎_elim (λ l. omega (arith, route-long r.servers r.route)) (λ l. omega (arith, l.0, route-long r.servers r.route)) (least.first (labels_of s r.servers) w.0)))
          r.how

  -- where no walk of eight hops or fewer is there is no route
  pub no_walk-no_route : ((xs : List ℕ) → length xs ≤ 8 → Leads (step_of s) (Ok s t) a xs d → ⊥) → (vs : List ℕ) → RouteTo s t a d vs → ⊥
  no_walk-no_route none vs r = none (labels_of s vs) (omega (arith, route-long vs r, r.route.few)) (route-walk s t vs r).0
