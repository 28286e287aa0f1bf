-- What a slot avoids, by its routes: the one place that knows of what it is made up.
use Prim.Native.Nat.{ℕ, zero, suc, ◌<◌}
use mathlib.Core.Path.{◌≡◌, ap}
use mathlib.Core.Logic.{◌⊎◌, ⊎_elim, ⊎_map}
use mathlib.Core.List.Memᴰ
use mathlib.Core.List.{List, [], map, Memᴰ as In}
use native.Mathlib.Omega.{arith}
use native.Mathlib.Decide.{ℕ_discrete}
use Rattle.lists.specs.Lists.{down_from}
use Rattle.room.specs.declared.Shape.{Shape}
use Rattle.path.specs.Routes.{Parallel}
use Rattle.build.specs.Built.{built_route}
use Rattle.laying.specs.Laid.{Laid}
use Rattle.laying.specs.Avoids.{Avoids}
use Rattle.laying.proofs.LaidLaws.{laid_both}
use Rattle.select.specs.Avoided.{avoided}
use Rattle.select.specs.Selection.{Unbroken}

-- ---- the built routes of the lower slots

abbrev pub lower : Shape → ℕ → ℕ → ℕ → List (List ℕ)
lower s a d i = map (λ (j : ℕ). built_route s j a d) (down_from i)

lower-has : (s : Shape) (a d i j : ℕ) → j < i → In (built_route s j a d) (lower s a d i)
lower-has s a d zero j h = let z : ⊥ = omega arith in absurd z
lower-has s a d (suc i) j h =
    elim (ℕ_discrete j i) [
      | yes e ↦ In.head (ap (λ (m : ℕ). built_route s m a d) e)
      | no n ↦ In.tail (lower-has s a d i j (omega arith))
    ]

pub lower-from : (s : Shape) (a d i : ℕ) {vs : List ℕ} → In vs (lower s a d i) → (j : ℕ) × (j < i) × (vs ≡ built_route s j a d)
lower-from s a d zero m = absurd (Memᴰ.not-nil m)
lower-from s a d (suc i) (In.head e) = (i, omega arith, e)
lower-from s a d (suc i) (In.tail m) = let r = lower-from s a d i m in (r.0, omega (arith, r.1), r.2)

-- ---- what a slot avoids

module _ (s : Shape) (t : List ℕ) (a d i : ℕ) (settled : List (List ℕ)) where
  -- each settled route, and each built route of a lower slot that has no failed link
  settled-avoided : {vs : List ℕ} → In vs settled → In vs (avoided s t a d i settled)
  unfolding avoided
  settled-avoided m = Memᴰ.append_left (lower s a d i) m

  lower-avoided : (j : ℕ) → j < i → Unbroken s t (built_route s j a d) → In (built_route s j a d) (avoided s t a d i settled)
  unfolding avoided
  lower-avoided j h u = Memᴰ.append_right settled (lower-has s a d i j h)

  -- and nothing else than settled routes and built routes of lower slots
  pub avoided-from : {vs : List ℕ} → In vs (avoided s t a d i settled) → In vs settled ⊎ ((j : ℕ) × (j < i) × (vs ≡ built_route s j a d))
  unfolding avoided
  avoided-from m = ⊎_map (λ n. n) (λ n. lower-from s a d i n) (Memᴰ.append_cases settled m)

  -- as the program lays it: the settled routes, then the built routes of the lower slots
  pub avoided-laid : {v w : List ℕ} → Laid s t settled v → Laid s v (lower s a d i) w → Laid s t (avoided s t a d i settled) w
  unfolding avoided
  avoided-laid p q = laid_both settled (lower s a d i) p q

  -- a route that avoids this is parallel to each settled route, and to each such built route
  module _ {us : List ℕ} (h : Avoids s (avoided s t a d i settled) us) where
    pub avoids-settled : {vs : List ℕ} → In vs settled → Parallel s us vs
    avoids-settled {vs} m = h.each vs (settled-avoided m)

    pub avoids-lower : (j : ℕ) → j < i → Unbroken s t (built_route s j a d) → Parallel s us (built_route s j a d)
    avoids-lower j p u = h.each (built_route s j a d) (lower-avoided j p u)

-- slot 0 avoids nothing where nothing is settled
pub none-avoided : (s : Shape) (t : List ℕ) (a d : ℕ) (us : List ℕ) → Avoids s (avoided s t a d 0 []) us
none-avoided s t a d us =
    record { each = λ vs m. absurd (⊎_elim (λ n. Memᴰ.not-nil n) (λ n. let z : ⊥ = omega (arith, n.1) in z) (avoided-from s t a d 0 [] m)) }
