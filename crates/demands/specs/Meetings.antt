-- Where a route comes round, and where two routes meet: the hops that refusals 28, 29 and 15 name. Hop h of a route, counted from 1, leads from its
-- server h - 1 to its server h; hop 0 stands for the source.
use Rattle.std.specs.Prelude.{ℕ, suc, ◌-◌, ◌≤◌, ◌<◌, ◌≡◌, ◌≢◌, ◌↔◌, ◌⊎◌, List, length, get_or}
use Rattle.room.specs.declared.Shape.{Shape}
use Rattle.path.specs.Routes.{switch_to, Prefix, Parallel}

-- ---- one route

-- hop h of the way vs reached server b, the source by hop 0
pub record Reached (vs : List ℕ) (b h : ℕ) : Type 0 where
  pub within : h < length vs
  pub there : get_or vs h 0 ≡ b

-- hop h of the way vs used switch w
pub record Used (s : Shape) (vs : List ℕ) (w h : ℕ) : Type 0 where
  pub some : 1 ≤ h
  pub within : h < length vs
  pub over : switch_to s (get_or vs (h - 1) 0) (get_or vs h 0) ≡ w

-- the earlier hop that refusal n of a hop to server b over switch w names, after the way vs: 28 the one that reached b, 29 the one that used w,
-- any other none
pub data Earlier (s : Shape) (vs : List ℕ) (b w : ℕ) : ℕ → ℕ → Type 0 where
  server : {h : ℕ} → Reached vs b h → Earlier s vs b w 28 h
  switch : {h : ℕ} → Used s vs w h → Earlier s vs b w 29 h
  no-hop : {n : ℕ} → n ≢ 28 → n ≢ 29 → Earlier s vs b w n 0

-- there is only one such hop
abbrev pub EarlierUnique : Type 0
EarlierUnique =
    (s : Shape) (t vs : List ℕ) (b w n g h : ℕ) → Prefix s t vs → Earlier s vs b w n g → Earlier s vs b w n h → g ≡ h

-- ---- two routes between the same ends

-- hop h of the route vs leads to server b, which is no end
pub record LeadsTo (vs : List ℕ) (b h : ℕ) : Type 0 where
  pub some : 1 ≤ h
  pub within : suc h < length vs
  pub there : get_or vs h 0 ≡ b

-- hop g of the first and hop h of the second meet: at a switch that both use, or at a server that both lead to (rule 3.2)
pub data Meet (s : Shape) (us vs : List ℕ) (g h : ℕ) : Type 0 where
  at_switch : (w : ℕ) → Used s us w g → Used s vs w h → Meet s us vs g h
  at_server : (b : ℕ) → LeadsTo us b g → LeadsTo vs b h → Meet s us vs g h

-- routes are parallel exactly where they meet nowhere
abbrev pub ParallelExactly : Type 0
ParallelExactly = (s : Shape) (us vs : List ℕ) → Parallel s us vs ↔ ((g h : ℕ) → Meet s us vs g h → ⊥)

-- the first meeting: by the first route's hop, then the second's. At the same two hops a switch and a server are one answer (rule 3.2)
pub record MeetFirst (s : Shape) (us vs : List ℕ) (g h : ℕ) : Type 0 where
  pub meet : Meet s us vs g h
  pub first : (x y : ℕ) → Meet s us vs x y → (g < x) ⊎ ((g ≡ x) × (h ≤ y))

-- two routes that are not parallel have a first meeting, and only one
abbrev pub MeetingExists : Type 0
MeetingExists = (s : Shape) (us vs : List ℕ) → (Parallel s us vs → ⊥) → (g : ℕ) × (h : ℕ) × MeetFirst s us vs g h

abbrev pub MeetingUnique : Type 0
MeetingUnique =
    (s : Shape) (us vs : List ℕ) (g h x y : ℕ) → MeetFirst s us vs g h → MeetFirst s us vs x y → (g ≡ x) × (h ≡ y)
