-- The theory of the search: in any state that it keeps, the way back from each server found is the first walk to it.
use Prim.Native.Nat.{ℕ, zero, suc, ◌+◌, ◌*◌, ◌/◌, ◌%◌, ◌<◌, ◌≤◌}
use native.Mathlib.Omega.{arith}
use mathlib.Core.Path.{◌≡◌, refl, sym, ap, ◌∙◌, subst}
use mathlib.Core.Logic.{⊎_elim}
use mathlib.Core.List.{List, [], ◌∷◌, ◌++◌}
use Rattle.finder.specs.Walks.{Leads, Least}
use Rattle.finder.specs.State.{State, trail}
use Rattle.finder.proofs.Trail.{trail-step}
use Rattle.finder.proofs.Order.{rank, rank_grows, rank_snoc, rank_shortlex, Low, split}

module _ (step : ℕ → ℕ → ℕ) (ok : ℕ → ℕ → Type 0) where
  pub walk_snoc : (u : ℕ) (xs : List ℕ) (v x : ℕ) → Leads step ok u xs v → ok v x → Leads step ok u (xs ++ (x ∷ [])) (step v x)
  walk_snoc u [] v x e h = (subst (λ (a : ℕ). ok a x) (sym e) h, ap (λ (a : ℕ). step a x) e)
  walk_snoc u (y ∷ xs) v x w h = (w.0, walk_snoc (step u y) xs v x w.1 h)

  walk-low : ((u x : ℕ) → ok u x → x < 256) → (u : ℕ) (xs : List ℕ) (w : ℕ) → Leads step ok u xs w → Low xs
  walk-low low u [] w h = tt
  walk-low low u (x ∷ xs) w h = (low u x h.0, walk-low low (step u x) xs w h.1)

  module _ (low : (u x : ℕ) → ok u x → x < 256) (root : ℕ) (q key : ℕ → ℕ) (n t : ℕ) (s : State step ok root q key n t) where
    path : ℕ → List ℕ
    path i = trail key i i

    path_step : (i : ℕ) → 0 < i → i < n → path i ≡ path (key i / 256) ++ (key i % 256 ∷ [])
    unfolding path
    path_step i h b = trail-step key n s.back i h b

    R : ℕ → ℕ
    R i = rank 0 (path i)

    R_zero : R 0 ≡ 0
    unfolding R path trail rank
    R_zero = refl

    R_step : (i : ℕ) → 0 < i → i < n → R i ≡ R (key i / 256) * 256 + key i % 256 + 1
    unfolding R
    R_step i h b = ap (rank 0) (path_step i h b) ∙ rank_snoc 0 (path (key i / 256)) (key i % 256)

    -- what is found later is reached later
    R_mono : (m i j : ℕ) → j ≤ m → i < j → j < n → R i < R j
    R_mono zero i j hm h b = omega arith
    R_mono (suc m) zero j hm h b = omega (arith, R_zero, R_step j h b)
    R_mono (suc m) (suc i) j hm h b =
        let kj : key j < j * 256 = s.back j (omega arith) b in
        let lt : key (suc i) < key j = s.order (suc i) j (omega arith) h b in
        let ri : R (suc i) ≡ R (key (suc i) / 256) * 256 + key (suc i) % 256 + 1 = R_step (suc i) (omega arith) (omega arith) in
        let rj : R j ≡ R (key j / 256) * 256 + key j % 256 + 1 = R_step j (omega arith) b in
        ⊎_elim
        (λ less. omega (arith, R_mono m (key (suc i) / 256) (key j / 256) (omega arith) less (omega arith)))
        (λ ge. let e : key (suc i) / 256 ≡ key j / 256 = omega arith in omega (arith, ap R e))
        (split (key (suc i) / 256) (key j / 256))

    -- whatever has a key up to that of a hop is reached no later than by that hop
    R_hop : (d a x : ℕ) → d < n → a < n → x < 256 → (0 < d → key d ≤ a * 256 + x) → R d ≤ R a * 256 + x + 1
    R_hop zero a x hd ha hx h = omega (arith, R_zero)
    R_hop (suc d) a x hd ha hx h =
        let k : key (suc d) ≤ a * 256 + x = h (omega arith) in
        let r : R (suc d) ≡ R (key (suc d) / 256) * 256 + key (suc d) % 256 + 1 = R_step (suc d) (omega arith) hd in
        ⊎_elim
        (λ less. omega (arith, R_mono a (key (suc d) / 256) a (omega arith) less ha))
        (λ ge. let e : key (suc d) / 256 ≡ a = omega arith in omega (arith, ap R e))
        (split (key (suc d) / 256) a)

    one_place : (i j : ℕ) → i < n → j < n → q i ≡ q j → i ≡ j
    one_place i j hi hj e =
        ⊎_elim (λ lt. absurd (s.apart i j lt hj e))
        (λ ge. ⊎_elim (λ gt. absurd (s.apart j i gt hi (sym e))) (λ le. omega arith) (split j i))
        (split i j)

    -- no walk to a server that is found comes before the way back from it
    R_least : (d : ℕ) → d < n → (xs : List ℕ) (j r : ℕ) → j < n → R j ≤ r → Leads step ok (q j) xs (q d) → R d ≤ rank r xs
    unfolding rank
    R_least d hd [] j r hj hr w = omega (arith, ap R (one_place j d hj hd w))
    R_least d hd (x ∷ xs) j r hj hr w =
        ⊎_elim
        (λ lt.
        let f : (i : ℕ) × (i < n) × (q i ≡ step (q j) x) × (0 < i → key i ≤ j * 256 + x) = s.done j x hj lt w.0 in
        R_least d hd xs f.0 (r * 256 + x + 1) f.1
        (omega (arith, R_hop f.0 j x f.1 hj (low _ _ w.0) f.3))
        (subst (λ (a : ℕ). Leads step ok a xs (q d)) (sym f.2) w.1))
        (λ ge.
        let h : R d ≤ R j * 256 + x + 1 = R_hop d j x hd hj (low _ _ w.0) (λ p. omega (arith, s.tried d p hd)) in
        omega (arith, rank_grows (r * 256 + x + 1) xs))
        (split (j * 256 + x) t)

    -- the way back is a walk
    leads : (m i : ℕ) → i ≤ m → i < n → Leads step ok root (path i) (q i)
    unfolding path trail
    leads zero zero h b = sym s.start
    leads zero (suc i) h b = absurd (omega arith)
    leads (suc m) zero h b = sym s.start
    leads (suc m) (suc i) h b =
        let k : key (suc i) < suc i * 256 = s.back (suc i) (omega arith) b in
        subst (λ (l : List ℕ). Leads step ok root l (q (suc i))) (sym (path_step (suc i) (omega arith) b))
        (subst (λ (a : ℕ). Leads step ok root (path (key (suc i) / 256) ++ (key (suc i) % 256 ∷ [])) a) (sym (s.made (suc i) (omega arith) b))
        (walk_snoc root (path (key (suc i) / 256)) (q (key (suc i) / 256)) (key (suc i) % 256)
        (leads m (key (suc i) / 256) (omega arith) (omega arith))
        (s.free (suc i) (omega arith) b)))

    pub found_least : (d : ℕ) → d < n → Least step ok root (trail key d d) (q d)
    unfolding R path
    found_least d hd =
        record {
          leads = leads d d (omega arith) hd;
          first = λ ys w. rank_shortlex (path d) ys (walk-low low root ys (q d) w)
              (R_least d hd ys 0 0 s.some (omega (arith, R_zero)) (subst (λ (a : ℕ). Leads step ok a ys (q d)) (sym s.start) w));
        }

    -- where all is tried, whatever a walk leads to is found
    all_found : n * 256 ≤ t → (xs : List ℕ) (j w : ℕ) → j < n → Leads step ok (q j) xs w → (d : ℕ) × (d < n) × (q d ≡ w)
    all_found all [] j w hj h = (j, hj, h)
    all_found all (x ∷ xs) j w hj h =
        let f : (i : ℕ) × (i < n) × (q i ≡ step (q j) x) × (0 < i → key i ≤ j * 256 + x) =
        s.done j x hj (omega (arith, low _ _ h.0)) h.0
        in all_found all xs f.0 w f.1 (subst (λ (a : ℕ). Leads step ok a xs w) (sym f.2) h.1)

    pub none-leads : n * 256 ≤ t → (w : ℕ) → ((d : ℕ) → d < n → q d ≡ w → ⊥) → (xs : List ℕ) → Leads step ok root xs w → ⊥
    none-leads all w out xs h =
        let f : (d : ℕ) × (d < n) × (q d ≡ w) =
        all_found all xs 0 w s.some (subst (λ (a : ℕ). Leads step ok a xs w) (sym s.start) h)
        in out f.0 f.1 f.2
