-- Walks over the hops of the room: the servers met on the way, and routes as walks.
use Prim.Native.Nat.{ℕ, zero, suc, ◌+◌, ◌-◌, ◌*◌, ◌/◌, ◌%◌, ◌<◌, ◌≤◌}
use native.Mathlib.Omega.{arith}
use mathlib.Core.Path.{◌≡◌, refl, sym, ap, ap₂, ◌∙◌}
use mathlib.Core.Logic.{◌≢◌}
use mathlib.Core.Bool.{true, false}
use mathlib.Core.List.{List, [], ◌∷◌, ◌++◌, map}
use lib.ListN.{length, get_or, take, drop, length-map}
use Rattle.lists.specs.Lists.{in_turn}
use Rattle.lists.proofs.ListLaws.{length_turn}
use Rattle.room.specs.declared.Shape.{Shape}
use Rattle.room.specs.Shapes.{Server, Value}
use Rattle.room.specs.Addresses.{digit, with_digit, switch_of, Beside, Neighbours}
use Rattle.room.proofs.RoomLaws.{bound_le, digit_lt, with_server, with_same, with_own, with_beside, with_switch, beside_with, neighbours-exactly}
use Rattle.links.specs.Table.{live, failed}
use Rattle.links.proofs.TableLaws.{live-exactly}
use Rattle.path.specs.Routes.{byte_of, switch_at, level_to, switch_to, byte_to, Route, RouteTo}
use Rattle.finder.specs.Alternates.{hop_bytes}
use Rattle.finder.specs.Walks.{Leads}
use Rattle.finder.specs.Hops.{turned, step_of, Ok}
use Rattle.finder.proofs.Hops.{label_level, label_value, step-at}

-- ---- one hop

-- a neighbour's level is the one in which they differ
pub level-to : {s : Shape} {l a b : ℕ} → Server s a → Server s b → Neighbours s l a b → level_to s a b ≡ l
unfolding level_to
level-to {s} {l} ha hb n = ap (λ (ls : List ℕ). get_or ls 0 0) ((neighbours-exactly ha hb l).1 n)

-- two servers that agree in every digit but l are one hop apart, where their links at level l are live
module _ {s : Shape} {l u w : ℕ} (hu : Server s u) (hw : Server s w) (hl : l ≤ s.k) (b : Beside s l u w) where
  abbrev label : ℕ
  label = (s.k - l) * 64 + digit s l w

  small : digit s l w < 64
  small = omega (arith, digit_lt hw l hl, bound_le hu.valid l, hu.valid.ports)

  back_level : s.k - label / 64 ≡ l
  back_level = omega (arith, label_level (s.k - l) (digit s l w) small)

  pub beside-step : step_of s u label ≡ w
  beside-step =
      step-at s u (s.k - l) (digit s l w) small
      ∙ ap (λ (m : ℕ). with_digit s m (digit s l w) u) (omega arith)
      ∙ beside_with (record { server = hu; level = hl }) hw b

  pub beside_ok : (t : List ℕ) → u ≢ w → failed t u l ≡ false → failed t w l ≡ false → Ok s t u label
  beside_ok t ne fu fw =
      record {
        server = hu;
        level = omega (arith, label_level (s.k - l) (digit s l w) small);
        value = rw (back_level, label_value (s.k - l) (digit s l w) small) (digit_lt hw l hl);
        moves = λ e. ne (sym e ∙ beside-step);
        alive = rw (back_level, beside-step) ((live-exactly t l u w).1 (fu, fw));
      }

-- what an allowed hop is
module _ {s : Shape} {t : List ℕ} {u x : ℕ} (o : Ok s t u x) where
  abbrev lev : ℕ
  lev = s.k - x / 64

  hop-value : Value s u lev (x % 64)
  hop-value = record { link = record { server = o.server; level = omega arith }; value = o.value }

  pub hop-server : Server s (step_of s u x)
  unfolding step_of
  hop-server = with_server hop-value

  pub hop-neighbours : Neighbours s lev u (step_of s u x)
  unfolding step_of
  hop-neighbours =
      record {
        level = omega arith;
        beside = with_beside hop-value;
        differ = λ e. o.moves (ap (λ (v : ℕ). with_digit s lev v u) (sym (with_same hop-value) ∙ sym e) ∙ with_own o.server lev);
      }

  pub hop-level : level_to s u (step_of s u x) ≡ lev
  hop-level = level-to o.server hop-server hop-neighbours

  hop-digit : digit s lev (step_of s u x) ≡ x % 64
  unfolding step_of
  hop-digit = with_same hop-value

  pub hop-byte : byte_to s u (step_of s u x) ≡ turned s.k x
  unfolding byte_to byte_of turned
  hop-byte = rw hop-level (omega (arith, hop-digit))

  pub hop-switch : switch_to s u (step_of s u x) ≡ switch_at s lev u
  unfolding switch_to
  hop-switch = ap (λ (l : ℕ). switch_at s l u) hop-level

  pub step-switch : switch_of s lev (step_of s u x) ≡ switch_of s lev u
  unfolding step_of
  step-switch = with_switch hop-value

-- ---- the servers met on a walk

unfoldable pub met : Shape → ℕ → List ℕ → List ℕ
met s u [] = u ∷ []
met s u (x ∷ xs) = u ∷ met s (step_of s u x) xs

pub met_long : (s : Shape) (u : ℕ) (xs : List ℕ) → length (met s u xs) ≡ suc (length xs)
unfolding met
met_long s u [] = refl
met_long s u (x ∷ xs) = ap suc (met_long s (step_of s u x) xs)

pub met-first : (s : Shape) (u : ℕ) (xs : List ℕ) → get_or (met s u xs) 0 0 ≡ u
unfolding met
met-first s u [] = refl
met-first s u (x ∷ xs) = refl

turn_met : (f : ℕ → ℕ → ℕ) (s : Shape) (u v : ℕ) (xs : List ℕ) → in_turn f (u ∷ met s v xs) ≡ f u v ∷ in_turn f (met s v xs)
unfolding met in_turn
turn_met f s u v [] = refl
turn_met f s u v (x ∷ xs) = refl

-- the labels of a route's hops
abbrev pub labels_of : Shape → List ℕ → List ℕ
labels_of s vs = map (turned s.k) (hop_bytes s vs)

pub labels_long : (s : Shape) (vs : List ℕ) → length (labels_of s vs) ≡ length vs - 1
unfolding hop_bytes
labels_long s vs = length-map (hop_bytes s vs) (turned s.k) ∙ length_turn (byte_to s) vs

module _ (s : Shape) (t : List ℕ) where
  abbrev pub Walks : ℕ → List ℕ → ℕ → Type 0
  Walks u xs w = Leads (step_of s) (Ok s t) u xs w

  pub met_last : (u : ℕ) (xs : List ℕ) (w : ℕ) → Walks u xs w → get_or (met s u xs) (length xs) 0 ≡ w
  unfolding met
  met_last u [] w h = h
  met_last u (x ∷ xs) w h = met_last (step_of s u x) xs w h.1

  -- the bytes of the servers met are the labels' bytes
  pub met-bytes : (u : ℕ) (xs : List ℕ) (w : ℕ) → Walks u xs w → hop_bytes s (met s u xs) ≡ map (turned s.k) xs
  unfolding met hop_bytes in_turn
  met-bytes u [] w h = refl
  met-bytes u (x ∷ xs) w h =
      turn_met (byte_to s) s u (step_of s u x) xs ∙ ap₂ ◌∷◌ (hop-byte h.0) (met-bytes (step_of s u x) xs w h.1)

  pub met_bytes' : (u : ℕ) (xs : List ℕ) (w : ℕ) → Walks u xs w → in_turn (byte_to s) (met s u xs) ≡ map (turned s.k) xs
  unfolding hop_bytes
  met_bytes' u xs w h = met-bytes u xs w h

  -- a walk up to the i-th server met, and from there on
  pub part_to : (u : ℕ) (xs : List ℕ) (w i : ℕ) → i ≤ length xs → Walks u xs w → Walks u (take i xs) (get_or (met s u xs) i 0)
  unfolding met
  part_to u [] w zero h k = refl
  part_to u [] w (suc i) h k = absurd (omega arith)
  part_to u (x ∷ xs) w zero h k = refl
  part_to u (x ∷ xs) w (suc i) h k = (k.0, part_to (step_of s u x) xs w i (omega arith) k.1)

  pub part_from : (u : ℕ) (xs : List ℕ) (w i : ℕ) → i ≤ length xs → Walks u xs w → Walks (get_or (met s u xs) i 0) (drop i xs) w
  unfolding met
  part_from u [] w zero h k = k
  part_from u [] w (suc i) h k = absurd (omega arith)
  part_from u (x ∷ xs) w zero h k = k
  part_from u (x ∷ xs) w (suc i) h k = part_from (step_of s u x) xs w i (omega arith) k.1

  -- the i-th hop
  pub hop-at : (u : ℕ) (xs : List ℕ) (w i : ℕ) → i < length xs → Walks u xs w
      → Ok s t (get_or (met s u xs) i 0) (get_or xs i 0) × (get_or (met s u xs) (suc i) 0 ≡ step_of s (get_or (met s u xs) i 0) (get_or xs i 0))
  unfolding met
  hop-at u [] w i h k = absurd (omega arith)
  hop-at u (x ∷ xs) w zero h k = (k.0, met-first s (step_of s u x) xs)
  hop-at u (x ∷ xs) w (suc i) h k = hop-at (step_of s u x) xs w i (omega arith) k.1

  pub met-server : (u : ℕ) (xs : List ℕ) (w : ℕ) → Server s u → Walks u xs w → (i : ℕ) → i < length (met s u xs) → Server s (get_or (met s u xs) i 0)
  unfolding met
  met-server u [] w hu k zero h = hu
  met-server u [] w hu k (suc i) h = absurd (omega arith)
  met-server u (x ∷ xs) w hu k zero h = hu
  met-server u (x ∷ xs) w hu k (suc i) h = met-server (step_of s u x) xs w (hop-server k.0) k.1 i (omega arith)

  pub walk-append : (u : ℕ) (xs ys : List ℕ) (v w : ℕ) → Walks u xs v → Walks v ys w → Walks u (xs ++ ys) w
  walk-append u [] ys v w e h = rw e h
  walk-append u (x ∷ xs) ys v w p h = (p.0, walk-append (step_of s u x) xs ys v w p.1 h)

  -- ---- a route's hops, as a walk

  pub record Hopping (u w : ℕ) : Type 0 where
    pub sender : Server s u
    pub receiver : Server s w
    pub hop : Neighbours s (level_to s u w) u w
    pub alive : live t (level_to s u w) u w ≡ true

  label_to : {u w : ℕ} → Hopping u w → turned s.k (byte_to s u w) ≡ (s.k - level_to s u w) * 64 + digit s (level_to s u w) w
  unfolding turned byte_to byte_of
  label_to {u} {w} h =
      let d : digit s (level_to s u w) w < 64 = omega (arith, digit_lt h.receiver (level_to s u w) h.hop.level, bound_le h.sender.valid (level_to s u w), h.sender.valid.ports) in
      omega (arith, h.hop.level)

  apart : {u w : ℕ} → Hopping u w → u ≢ w
  apart {u} {w} h e = h.hop.differ (ap (digit s (level_to s u w)) e)

  label_ok : {u w : ℕ} → Hopping u w → Ok s t u (turned s.k (byte_to s u w)) × (step_of s u (turned s.k (byte_to s u w)) ≡ w)
  label_ok {u} {w} h =
      let e = (live-exactly t (level_to s u w) u w).0 h.alive in
      rw (label_to h)
      (beside_ok h.sender h.receiver h.hop.level h.hop.beside t (apart h) e.0 e.1, beside-step h.sender h.receiver h.hop.level h.hop.beside)

  pub hopping_at : {vs : List ℕ} → Route s t vs → (i : ℕ) → suc i < length vs → Hopping (get_or vs i 0) (get_or vs (suc i) 0)
  hopping_at r i h = record { sender = r.servers i (omega arith); receiver = r.servers (suc i) h; hop = r.hops i h; alive = r.alive i h }

  hops-walk : (v : ℕ) (vs : List ℕ) → ((i : ℕ) → i < length vs → Hopping (get_or (v ∷ vs) i 0) (get_or vs i 0))
      → Walks v (labels_of s (v ∷ vs)) (get_or (v ∷ vs) (length vs) 0) × (met s v (labels_of s (v ∷ vs)) ≡ v ∷ vs)
  unfolding hop_bytes in_turn met
  hops-walk v [] f = (refl, refl)
  hops-walk v (w ∷ ws) f =
      let o = label_ok (f 0 (omega arith)) in
      let r = hops-walk w ws (λ i h. f (suc i) (omega arith)) in (
        (o.0, rw o.1 r.0),
        ap (λ (us : List ℕ). v ∷ us) (rw o.1 r.1),
      )

  -- a route is a walk, which meets the route's servers
  pub route-walk : {a d : ℕ} (vs : List ℕ) → RouteTo s t a d vs → Walks a (labels_of s vs) d × (met s a (labels_of s vs) ≡ vs)
  route-walk {a} {d} [] r = let z : ⊥ = omega (arith, r.route.some) in absurd z
  route-walk {a} {d} (v ∷ vs) r =
      let w = hops-walk v vs (λ i h. hopping_at r.route i (omega arith)) in
      let n : length vs ≡ suc (length vs) - 1 = omega arith in
      let e : get_or (v ∷ vs) (length vs) 0 ≡ d = ap (λ (m : ℕ). get_or (v ∷ vs) m 0) n ∙ r.arrives in
      rw (← r.source, ← e) w
