-- Where a route comes round and where two routes meet, proved.
use Prim.Native.Nat.{ℕ, suc, ◌-◌, ◌≤◌, ◌<◌}
use mathlib.Core.Path.{◌≡◌, refl, sym, ap, ◌∙◌, subst}
use mathlib.Core.Logic.{◌⊎◌, inl, inr, ⊎_elim}
use mathlib.Core.Bool.{Bool, true, false, false≢true}
use mathlib.Core.List.{List}
use native.Mathlib.Omega.{arith}
use native.Mathlib.Decide.{ℕ_discrete}
use lib.ListN.{length, get_or}
use Rattle.lists.specs.Lists.{is_in, place_in, Once, middle}
use Rattle.lists.proofs.ListLaws.{length_turn, turn_at, length-middle, middle-at}
use Rattle.lists.proofs.FirstPlaces.{place-in, place-there, place-once}
use Rattle.room.specs.declared.Shape.{Shape}
use Rattle.path.specs.Told.{Walked}
use Rattle.path.specs.Routes.{switch_to, switches_of, Parallel}
use Rattle.path.specs.Walks.{earlier_of}
use Rattle.path.proofs.RepeatLaws.{earlier-server, earlier-switch, earlier-none}
use Rattle.verdict.specs.Checks.{switches_in, between, parallel, same_at, meets, met_at, meets_first}
use Rattle.verdict.proofs.AcceptLaws.{walked_of, switches-of, between_of, parallel_of, of_parallel}
use Rattle.verdict.proofs.MeetingLaws.{same-there, there-same, meets_by, parallel-apart, first-there, first-first}
use Rattle.demands.specs.Meetings.{Used, Earlier, server, switch, no-hop, EarlierUnique, Meet, at_switch, at_server, ParallelExactly, MeetFirst, MeetingExists, MeetingUnique}

-- ---- the earlier hop

-- the switch of hop h + 1, in a list of switches
switch-at : (s : Shape) (vs : List ℕ) (h : ℕ) → suc h < length vs → get_or (switches_of s vs) h 0 ≡ switch_to s (get_or vs h 0) (get_or vs (suc h) 0)
unfolding switches_of
switch-at s vs h p = turn_at (switch_to s) vs h p

switches-long : (s : Shape) (vs : List ℕ) → length (switches_of s vs) ≡ length vs - 1
unfolding switches_of
switches-long s vs = length_turn (switch_to s) vs

module _ {s : Shape} {vs : List ℕ} where
  -- a hop that used a switch, by the switch's place
  pub used_place : {w h : ℕ} → Used s vs w h → (h - 1 < length (switches_of s vs)) × (get_or (switches_of s vs) (h - 1) 0 ≡ w)
  used_place {w} {h} u =
      let e : suc (h - 1) ≡ h = omega (arith, u.some) in (
        omega (arith, switches-long s vs, u.some, u.within),
        switch-at s vs (h - 1) (omega (arith, u.some, u.within)) ∙ ap (λ (x : ℕ). switch_to s (get_or vs (h - 1) 0) (get_or vs x 0)) e ∙ u.over,
      )

  place_used : {w : ℕ} (p : ℕ) → p < length (switches_of s vs) → get_or (switches_of s vs) p 0 ≡ w → Used s vs w (suc p)
  place_used {w} p h e =
      let q : suc p < length vs = omega (arith, switches-long s vs) in
      let z : suc p - 1 ≡ p = omega arith in
      record { some = omega arith; within = q; over = ap (λ (x : ℕ). switch_to s (get_or vs x 0) (get_or vs (suc p) 0)) z ∙ sym (switch-at s vs p q) ∙ e }

  -- where nothing stands twice, there is one such hop, and it is the one that is named
  module _ (servers : Once vs) (switches : Once (switches_of s vs)) where
    pub earlier_is : {b w n h : ℕ} → Earlier s vs b w n h → h ≡ earlier_of n vs (switches_of s vs) b w
    earlier_is {b} {w} {n} {h} (server r) = place-once b vs servers h r.within r.there ∙ sym (earlier-server vs (switches_of s vs) b w)
    earlier_is {b} {w} {n} {h} (switch u) =
        let p = used_place u in
        let e = place-once w (switches_of s vs) switches (h - 1) p.0 p.1 in
        let z : h ≡ suc (place_in w (switches_of s vs)) = omega (arith, e, u.some) in
        z ∙ sym (earlier-switch vs (switches_of s vs) b w)
    earlier_is {b} {w} {n} (no-hop x y) = sym (earlier-none vs (switches_of s vs) b w n x y)

  pub is_earlier : (b w n : ℕ) → (n ≡ 28 → is_in b vs ≡ true) → (n ≡ 29 → is_in w (switches_of s vs) ≡ true) → Earlier s vs b w n (earlier_of n vs (switches_of s vs) b w)
  is_earlier b w n f g =
      elim (ℕ_discrete n 28) [
        | yes x ↦ subst (λ (k : ℕ). Earlier s vs b w k (earlier_of k vs (switches_of s vs) b w)) (sym x)
            (subst (Earlier s vs b w 28) (sym (earlier-server vs (switches_of s vs) b w))
            (server (let p = place-in b vs (f x) in record { within = p; there = place-there b vs p })))
        | no x ↦ elim (ℕ_discrete n 29) [
          | yes y ↦ subst (λ (k : ℕ). Earlier s vs b w k (earlier_of k vs (switches_of s vs) b w)) (sym y)
              (subst (Earlier s vs b w 29) (sym (earlier-switch vs (switches_of s vs) b w))
              (switch (let p = place-in w (switches_of s vs) (g y) in place_used (place_in w (switches_of s vs)) p (place-there w (switches_of s vs) p))))
          | no y ↦ subst (Earlier s vs b w n) (sym (earlier-none vs (switches_of s vs) b w n x y)) (no-hop x y)
        ]
      ]

pub earlier-unique : EarlierUnique
earlier-unique s t vs b w n g h p x y = earlier_is p.servers_once p.switches_once x ∙ sym (earlier_is p.servers_once p.switches_once y)

-- ---- meetings

module _ (s : Shape) (us vs : List ℕ) where
  abbrev u : Walked
  u = walked_of s us

  abbrev v : Walked
  v = walked_of s vs

  -- hops that meet, as the walks of the two routes tell it
  of_meets : (p q : ℕ) → meets u v p q ≡ true → Meet s us vs (suc p) (suc q)
  of_meets p q e = ⊎_elim by_switch by_server ((meets_by u v p q).0 e)
    where
      by_switch : same_at (switches_in u) (switches_in v) p q ≡ true → Meet s us vs (suc p) (suc q)
      by_switch f =
          let z = same-there (switches_of s us) (switches_of s vs) p q (rw (← switches-of s us, ← switches-of s vs) f) in
          at_switch (get_or (switches_of s us) p 0) (place_used p z.0 refl) (place_used q z.1 (sym z.2))

      by_server : same_at (between u) (between v) p q ≡ true → Meet s us vs (suc p) (suc q)
      by_server f =
          let z = same-there (middle us) (middle vs) p q (rw (← between_of s us, ← between_of s vs) f) in
          let x : p < length us - 2 = omega (arith, z.0, length-middle us) in
          let y : q < length vs - 2 = omega (arith, z.1, length-middle vs) in
          at_server (get_or us (suc p) 0)
          (record { some = omega arith; within = omega arith; there = refl })
          (record { some = omega arith; within = omega arith; there = sym (middle-at vs q y) ∙ sym z.2 ∙ middle-at us p x })

  to-meets : {g h : ℕ} → Meet s us vs g h → (meets u v (g - 1) (h - 1) ≡ true) × (1 ≤ g) × (1 ≤ h)
  to-meets {g} {h} (at_switch w a b) =
      let x = used_place a in
      let y = used_place b in
      ((meets_by u v (g - 1) (h - 1)).1 (inl (rw (switches-of s us, switches-of s vs) (there-same (switches_of s us) (switches_of s vs) (g - 1) (h - 1) x.0 y.0 (x.1 ∙ sym y.1)))), a.some, b.some)
  to-meets {g} {h} (at_server w a b) =
      let x : suc (g - 1) ≡ g = omega (arith, a.some) in
      let y : suc (h - 1) ≡ h = omega (arith, b.some) in
      let m = middle-at us (g - 1) (omega (arith, a.some, a.within)) ∙ ap (λ (i : ℕ). get_or us i 0) x ∙ a.there in
      let n = middle-at vs (h - 1) (omega (arith, b.some, b.within)) ∙ ap (λ (i : ℕ). get_or vs i 0) y ∙ b.there in
      ((meets_by u v (g - 1) (h - 1)).1 (inr (rw (between_of s us, between_of s vs) (there-same (middle us) (middle vs) (g - 1) (h - 1) (omega (arith, a.some, a.within, length-middle us)) (omega (arith, b.some, b.within, length-middle vs)) (m ∙ sym n)))), a.some, b.some)

  -- the first meeting of two routes, as their walks tell it
  pub meet-first : parallel u v ≡ false → MeetFirst s us vs (suc (meets_first u v)) (suc (met_at u v (meets_first u v)))
  meet-first e = record { meet = of_meets (meets_first u v) (met_at u v (meets_first u v)) (first-there u v e); first = first }
    where
      first : (x y : ℕ) → Meet s us vs x y → (suc (meets_first u v) < x) ⊎ ((suc (meets_first u v) ≡ x) × (suc (met_at u v (meets_first u v)) ≤ y))
      first x y m =
          let z = to-meets m in
          ⊎_elim (λ k. inl (omega (arith, k, z.1))) (λ k. inr (omega (arith, k.0, z.1), omega (arith, k.1, z.2))) (first-first u v (x - 1) (y - 1) z.0)

  meets-not : parallel u v ≡ true → (g h : ℕ) → Meet s us vs g h → ⊥
  meets-not e g h m = false≢true (sym (parallel-apart u v e (g - 1) (h - 1)) ∙ (to-meets m).0)

  not-held : (b : Bool) → (b ≡ true → ⊥) → b ≡ false
  not-held true n = absurd (n refl)
  not-held false n = refl

  -- where they are not parallel, the test of their walks says so
  pub apart : (Parallel s us vs → ⊥) → parallel u v ≡ false
  apart n = not-held (parallel u v) (λ e. n (parallel_of s us vs e))

  -- where they meet nowhere, it says that they are
  all_apart : ((g h : ℕ) → Meet s us vs g h → ⊥) → parallel u v ≡ true
  all_apart n = go (parallel u v) refl
    where
      go : (b : Bool) → parallel u v ≡ b → parallel u v ≡ true
      go true e = e
      go false e = absurd (n _ _ (meet-first e).meet)

pub parallel-exactly : ParallelExactly
parallel-exactly s us vs = (λ p. meets-not s us vs (of_parallel s us vs p), λ n. parallel_of s us vs (all_apart s us vs n))

pub meeting_exists : MeetingExists
meeting_exists s us vs n = (_, _, meet-first s us vs (apart s us vs n))

pub meeting-unique : MeetingUnique
meeting-unique s us vs g h x y m k = ⊎_elim (λ a. absurd (other a)) same (m.first x y k.meet)
  where
    other : g < x → ⊥
    other a = ⊎_elim (λ b. let z : ⊥ = omega arith in z) (λ b. let z : ⊥ = omega (arith, b.0) in z) (k.first g h m.meet)

    same : (g ≡ x) × (h ≤ y) → (g ≡ x) × (h ≡ y)
    same a = (a.0, ⊎_elim (λ b. absurd (let z : ⊥ = omega (arith, a.0) in z)) (λ b. omega (arith, a.1, b.1)) (k.first g h m.meet))
