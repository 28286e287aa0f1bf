-- What holds at each turn of the three loops of the scan, and how one follows from another.
use Prim.Native.Nat.{ℕ, suc, ◌+◌, ◌-◌, ◌*◌, ◌/◌, ◌<◌, ◌≤◌}
use native.Mathlib.Omega.{arith}
use native.Mathlib.Nat.{add-mul}
use native.Mathlib.Decide.{ℕ_discrete}
use mathlib.Core.Path.{◌≡◌, refl, sym, ap, ◌∙◌, subst}
use mathlib.Core.Logic.{◌≢◌, ◌⊎◌, inl, inr, ⊎_elim}
use mathlib.Core.Bool.{true, false}
use mathlib.Core.List.{List}
use lib.ListN.{length, get_or, set, replicate, length-set, length-replicate}
use lib.Seq.{get_or-set_other}
use Rattle.lists.proofs.ListLaws.{same_at}
use Rattle.room.specs.declared.Shape.{Shape}
use Rattle.room.specs.declared.Side.{Side}
use Rattle.room.specs.Shapes.{servers_of, Valid, Server, Link, Value}
use Rattle.room.specs.Addresses.{digit, with_digit, switch_of, Beside}
use Rattle.room.proofs.RoomLaws.{bound_le, digit_lt, with_server, with_switch, switch-same}
use Rattle.links.specs.Table.{failed, room_refusal}
use Rattle.links.proofs.TableLaws.{room_of, live-exactly}
use Rattle.finder.specs.Hops.{step_of, Ok}
use Rattle.finder.specs.Kept.{no_parent, Kept}
use Rattle.finder.specs.Scan.{mark_at, Scanned, Swept, Sided, Visiting, Visited}
use Rattle.finder.proofs.Order.{split}
use Rattle.finder.proofs.Tables.{recast}
use Rattle.finder.proofs.Hops.{Kept_in, absurd_bool, seen, next_level, past-level, next-server}
use Rattle.finder.proofs.Walking.{beside-step, beside_ok, hop-server, step-switch}
use Rattle.finder.proofs.Finish.{Ended}

-- ---- marks

-- with no marks nothing has been scanned
swept_none : (s : Shape) (t queue : List ℕ) (n m : ℕ) → m ≡ 16384 → Swept s t (replicate m 0) queue n
swept_none s t queue n m e = record { long = length-replicate {A = ℕ} m 0 ∙ e; scanned = λ l u hl hu ne. absurd (ne (same_at 0 m (mark_at l u))) }

-- what is found stays found
scanned_more : {s : Shape} {t queue queue' : List ℕ} {n n' l u : ℕ} → Scanned s t queue n l u → n ≤ n' → ((i : ℕ) → i < n → get_or queue' i 0 ≡ get_or queue i 0) → Scanned s t queue' n' l u
scanned_more h le same = record { met = λ w hw q f. let i = h.met w hw q f in (i.0, omega (arith, i.1), same i.0 i.1 ∙ i.2) }

-- while the switch of server u at a level is scanned: the servers at it may be marked
pub record Sweeping (s : Shape) (t marks queue : List ℕ) (n level u count : ℕ) : Type 0 where
  pub long : length marks ≡ 16384
  pub scanned : (l w : ℕ) → l ≤ s.k → Server s w → get_or marks (mark_at l w) 0 ≢ 0 → ((0 < count) × (l ≡ level) × (switch_of s l w ≡ switch_of s l u)) ⊎ Scanned s t queue n l w

module _ {s : Shape} {t marks queue : List ℕ} {n level u count : ℕ} where
  sweep_starts : Swept s t marks queue n → Sweeping s t marks queue n level u count
  sweep_starts h = record { long = h.long; scanned = λ l w hl hw ne. inr (h.scanned l w hl hw ne) }

  module _ (h : Sweeping s t marks queue n level u count) where
    sweep_more : {queue' : List ℕ} {n' : ℕ} → n ≤ n' → ((i : ℕ) → i < n → get_or queue' i 0 ≡ get_or queue i 0) → Sweeping s t marks queue' n' level u count
    sweep_more le same =
        record { long = h.long; scanned = λ l w hl hw ne. ⊎_elim inl (λ m. inr (scanned_more m le same)) (h.scanned l w hl hw ne) }

    -- a server at the switch is marked
    sweep_mark : (w : ℕ) → level ≤ 3 → 0 < count → switch_of s level w ≡ switch_of s level u → Sweeping s t (set marks (mark_at level w) 1) queue n level u count
    sweep_mark w hl some q =
        record {
          long = length-set marks (mark_at level w) 1 ∙ h.long;
          scanned = λ l x hl' hx ne.
              elim (ℕ_discrete (mark_at l x) (mark_at level w)) [
                | yes e ↦
                    let k = hx.valid.levels in
                    let el : l ≡ level = omega arith in
                    let ex : x ≡ w = omega arith in
                    inl (some, el, rw (el, ex) q)
                | no away ↦ h.scanned l x hl' hx (λ z. ne (get_or-set_other marks (mark_at level w) (mark_at l x) 1 0 away ∙ z))
              ];
        }

    -- nothing was to try
    sweep_skipped : count ≤ 0 → Swept s t marks queue n
    sweep_skipped z = record { long = h.long; scanned = λ l w hl hw ne. ⊎_elim (λ m. absurd (omega (arith, m.0))) (λ m. m) (h.scanned l w hl hw ne) }

    -- all were tried
    sweep_ends : Scanned s t queue n level u → Swept s t marks queue n
    sweep_ends d =
        record {
          long = h.long;
          scanned = λ l w hl hw ne.
              ⊎_elim (λ m. record { met = λ x hx q f. d.met x hx (ap (λ (i : ℕ). switch_of s i x) (sym m.1) ∙ q ∙ m.2 ∙ ap (λ (i : ℕ). switch_of s i u) m.1) (rw m.1 at f) })
              (λ m. m)
              (h.scanned l w hl hw ne);
        }

module _ {s : Shape} {t queue : List ℕ} {n head level : ℕ} (valid : Valid s) (place : head < n) (hl : level ≤ s.k) (here : Server s (get_or queue head 0)) where
  -- where the switch has been scanned, every hop at it leads to what is found
  scanned-hop : Scanned s t queue n level (get_or queue head 0)
      → (x : ℕ) → s.k - x / 64 ≡ level → Ok s t (get_or queue head 0) x → (j : ℕ) × (j < n) × (get_or queue j 0 ≡ step_of s (get_or queue head 0) x)
  scanned-hop d x e o =
      let f : failed t (step_of s (get_or queue head 0) x) level ≡ false = rw e at ((live-exactly t _ _ _).0 o.alive).1 in
      let q : switch_of s level (step_of s (get_or queue head 0) x) ≡ switch_of s level (get_or queue head 0) = rw e at (step-switch o) in
      d.met (step_of s (get_or queue head 0) x) (hop-server o) q f

  -- where every hop at it has been tried, from a server with a live link, it has been scanned
  level_scans : {back : List ℕ} {root : ℕ} → Kept_in s t root back queue n (head * 256 + (s.k + 1 - level) * 64) → failed t (get_or queue head 0) level ≡ false
      → Scanned s t queue n level (get_or queue head 0)
  level_scans kept f =
      record {
        met = λ u hu q g.
            elim (ℕ_discrete (get_or queue head 0) u) [
              | yes e ↦ (head, place, e)
              | no ne ↦
                  let b : Beside s level (get_or queue head 0) u = switch-same (record { server = here; level = hl }) hu (sym q) in
                  let d : digit s level u < 64 = omega (arith, digit_lt hu level hl, bound_le valid level, valid.ports) in
                  let j = kept.state.done head ((s.k - level) * 64 + digit s level u) place (omega arith) (beside_ok here hu hl b t ne f g) in
                  (j.0, j.1, j.2 ∙ beside-step here hu hl b)
            ];
      }

-- ---- the loops

module _ (s : Shape) (t : List ℕ) (a d : ℕ) where
  -- between two servers of the queue
  pub record AtServer (back queue marks : List ℕ) (head tail : ℕ) : Type 0 where
    pub valid : Valid s
    pub ends : (a < 4096) × (d < 4096)
    pub swept : Swept s t marks queue tail
    pub kept : Kept_in s t a back queue tail (head * 256)

  -- between two levels
  pub record AtLevel (u : ℕ) (back queue marks : List ℕ) (head tail level : ℕ) : Type 0 where
    pub valid : Valid s
    pub ends : (a < 4096) × (d < 4096)
    pub place : head < tail
    pub here : get_or queue head 0 ≡ u
    pub server : u < servers_of s
    pub below : level ≤ s.k + 1
    pub swept : Swept s t marks queue tail
    pub kept : Kept_in s t a back queue tail (head * 256 + (s.k + 1 - level) * 64)

  -- between two values; `marks₀` is what was marked before the first
  pub record AtValue (u : ℕ) (side : Side) (marks₀ back queue marks : List ℕ) (head tail level v w : ℕ) : Type 0 where
    pub valid : Valid s
    pub ends : (a < 4096) × (d < 4096)
    pub place : head < tail
    pub here : get_or queue head 0 ≡ u
    pub server : u < servers_of s
    pub below : level ≤ s.k
    pub sided : Sided s t marks₀ u level side
    pub most : (v ≤ side.count) × (side.count ≤ 64)
    pub next : w ≡ side.first + v * side.stride
    pub passed : side.count ≡ 0 → (failed t u level ≡ true) ⊎ Scanned s t queue tail level u
    pub sweeping : Sweeping s t marks queue tail level u side.count
    pub kept : Kept_in s t a back queue tail (head * 256 + ((s.k - level) * 64 + v))

  pub scan_starts : room_refusal s t a d ≡ 0 → (back queue : List ℕ)
      → ((s' : Shape) (t' : List ℕ) → servers_of s' ≤ 4096 → a < servers_of s' → Kept (step_of s') (Ok s' t') (servers_of s') a back queue 1 0)
      → (m : ℕ) → m ≡ 16384 → AtServer back queue (replicate m 0) 0 1
  scan_starts pre back queue f m e =
      let r = (room_of s t a d pre).0 in
      let v = r.source.valid in
      record {
        valid = v;
        ends = (omega (arith, r.source.below, v.small), omega (arith, r.destination.below, v.small));
        swept = swept_none s t queue 1 m e;
        kept = f s t v.small r.source.below;
      }

module _ {s : Shape} {t : List ℕ} {a d : ℕ} {back queue marks : List ℕ} {head tail : ℕ} where
  pub here-small : AtServer s t a d back queue marks head tail → head < tail → get_or queue head 0 < 4096
  here-small h p = omega (arith, h.kept.inside head p, h.kept.within)

  pub levels-start : AtServer s t a d back queue marks head tail → head < tail → AtLevel s t a d (get_or queue head 0) back queue marks head tail (suc s.k)
  levels-start h p =
      record {
        valid = h.valid;
        ends = h.ends;
        place = p;
        here = refl;
        server = h.kept.inside head p;
        below = omega arith;
        swept = h.swept;
        kept = recast refl (omega arith) h.kept;
      }

  module _ {u level : ℕ} (h : AtLevel s t a d u back queue marks head tail (suc level)) where
    here-server : Server s u
    here-server = record { valid = h.valid; below = h.server }

    pub here-link : Link s u level
    here-link = record { server = here-server; level = omega (arith, h.below) }

    pub values_start : (side : Side) → Sided s t marks u level side → AtValue s t a d u side marks back queue marks head tail level 0 side.first
    values_start side sided =
        record {
          valid = h.valid;
          ends = h.ends;
          place = h.place;
          here = h.here;
          server = h.server;
          below = omega (arith, h.below);
          sided = sided;
          most = (omega arith, omega (arith, sided.most, bound_le h.valid level, h.valid.ports));
          next = omega arith;
          passed = λ z. ⊎_elim inl (λ ne. inr (h.swept.scanned level u (omega (arith, h.below)) here-server ne)) (sided.none z);
          sweeping = sweep_starts h.swept;
          kept = recast refl (omega (arith, h.below)) h.kept;
        }

  module _ {u : ℕ} {side : Side} {marks₀ : List ℕ} {level v w : ℕ} (h : AtValue s t a d u side marks₀ back queue marks head tail level v w) where
    server : Server s (get_or queue head 0)
    server = record { valid = h.valid; below = h.kept.inside head h.place }

    -- one value more
    module _ (p : v < side.count) where
      value : Value s u level v
      value = record { link = record { server = record { valid = h.valid; below = h.server }; level = h.below }; value = omega (arith, h.sided.most) }

      leads : w ≡ with_digit s level v u
      leads = h.next ∙ h.sided.reach v p

      -- the server has a place in each table, and the step to the next server is small
      pub near : (level ≤ 3) × (w < servers_of s) × (w < 4096) × (w * 4 + level < length marks) × (side.stride ≤ 16777216)
      near =
          let k : level ≤ 3 = omega (arith, h.below, h.valid.levels) in
          let i : w < servers_of s = omega (arith, leads, (with_server value).below) in
          let j : w < 4096 = omega (arith, h.valid.small) in
          (k, i, j, omega (arith, h.sweeping.long), h.sided.short)

      marked : Sweeping s t (set marks (w * 4 + level) 1) queue tail level u side.count
      marked = sweep_mark h.sweeping w near.0 (omega arith) (ap (switch_of s level) leads ∙ with_switch value)

      -- the next hop to try
      pub to_try : get_or back w 0 ≡ no_parent → Visiting s t back queue head tail level v w
      to_try free =
          record {
            valid = h.valid;
            place = h.place;
            level = h.below;
            value = value.value;
            small = omega (arith, h.most.1);
            leads = leads ∙ ap (with_digit s level v) (sym h.here);
            inside = near.2;
            alive = ap (λ (x : ℕ). failed t x level) h.here ∙ (h.sided.all (omega arith)).1;
            new = free;
            kept = recast (sym h.kept.state.start) refl h.kept;
          }

      -- it was tried
      pub value-tried : {back' queue' : List ℕ} {r : ℕ} → Visited s t queue back' queue' head tail r level v
          → AtValue s t a d u side marks₀ back' queue' (set marks (w * 4 + level) 1) head r level (v + 1) (w + side.stride)
      value-tried g =
          record {
            valid = h.valid;
            ends = h.ends;
            place = omega (arith, h.place, g.grows);
            here = g.same head h.place ∙ h.here;
            server = h.server;
            below = h.below;
            sided = h.sided;
            most = (omega arith, h.most.1);
            next = omega (arith, h.next, add-mul v 1 side.stride);
            passed = λ z. absurd (omega arith);
            sweeping = sweep_more marked g.grows g.same;
            kept = recast h.kept.state.start (omega arith) g.kept;
          }

      -- it leads to a server that is found
      pub value_seen : (get_or back w 0 ≡ no_parent → ⊥) → AtValue s t a d u side marks₀ back queue (set marks (w * 4 + level) 1) head tail level (v + 1) (w + side.stride)
      value_seen ne =
          value-tried
          (record {
            grows = omega arith;
            same = λ i q. refl;
            kept = recast (sym h.kept.state.start) refl (seen h.kept h.valid h.place h.below value.value w (leads ∙ ap (with_digit s level v) (sym h.here)) ne);
          })

      -- it led to the destination
      pub ended-found : {back' queue' : List ℕ} {r : ℕ} → Visited s t queue back' queue' head tail r level v → (get_or back' d 0 ≡ no_parent → ⊥) → Ended s t a back' queue' r d
      ended-found g ne = record { reach = head * 256 + ((s.k - level) * 64 + v) + 1; kept = recast h.kept.state.start refl g.kept; how = inr ne }

    -- the values are done
    pub level_ends : side.count ≤ v → AtLevel s t a d u back queue marks head tail level
    level_ends end = ⊎_elim all none (split 0 side.count)
      where
        level-done : Swept s t marks queue tail → Kept_in s t a back queue tail (head * 256 + (s.k + 1 - level) * 64) → AtLevel s t a d u back queue marks head tail level
        level-done y k =
            record {
              valid = h.valid;
              ends = h.ends;
              place = h.place;
              here = h.here;
              server = h.server;
              below = omega (arith, h.below);
              swept = y;
              kept = k;
            }

        hops : side.count ≤ 0 → (x : ℕ) → s.k - x / 64 ≡ level → Ok s t (get_or queue head 0) x → (j : ℕ) × (j < tail) × (get_or queue j 0 ≡ step_of s (get_or queue head 0) x)
        hops z =
            ⊎_elim (λ f x e o. absurd_bool (sym f ∙ ap (λ (y : ℕ). failed t y level) (sym h.here) ∙ (rw e at ((live-exactly t _ _ _).0 o.alive).0)))
            (λ y. scanned-hop h.valid h.place h.below server (subst (λ (x : ℕ). Scanned s t queue tail level x) (sym h.here) y))
            (h.passed (omega arith))

        -- nothing was to try
        none : side.count ≤ 0 → AtLevel s t a d u back queue marks head tail level
        none z = level-done (sweep_skipped h.sweeping z) (past-level h.valid head level h.below (hops z) (recast refl (omega (arith, h.most.0)) h.kept))

        -- all were tried
        all : 0 < side.count → AtLevel s t a d u back queue marks head tail level
        all z =
            let y = h.sided.all z in
            let k = next_level h.valid head level h.below (recast refl (omega (arith, h.most.0, y.0)) h.kept) in
            let m = level_scans h.valid h.place h.below server k (ap (λ (x : ℕ). failed t x level) h.here ∙ y.1) in
            level-done (sweep_ends h.sweeping (subst (λ (x : ℕ). Scanned s t queue tail level x) h.here m)) k

  -- from a level to the next lower one
  pub level-lower : {u level : ℕ} → AtLevel s t a d u back queue marks head tail level → 0 < level → AtLevel s t a d u back queue marks head tail (suc (level - 1))
  level-lower {u} {level} h p = let q : level ≡ suc (level - 1) = omega arith in subst (AtLevel s t a d u back queue marks head tail) q h

  pub levels-end : {u level : ℕ} → AtLevel s t a d u back queue marks head tail level → level ≤ 0 → AtServer s t a d back queue marks (head + 1) tail
  levels-end {level = level} h p = record { valid = h.valid; ends = h.ends; swept = h.swept; kept = next-server h.valid head (recast refl (omega arith) h.kept) }

  pub ended-all : AtServer s t a d back queue marks head tail → tail ≤ head → Ended s t a back queue tail d
  ended-all h p = record { reach = head * 256; kept = h.kept; how = inl (omega arith) }
