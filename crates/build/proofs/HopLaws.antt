-- Hops over addresses: a list of levels and new values, and the servers, switches and path bytes that it comes to.
use Prim.Native.Nat.{ℕ, zero, suc, ◌<◌}
use mathlib.Core.Path.{◌≡◌, refl, sym, ap, ap₂, ◌∙◌, subst}
use mathlib.Core.Logic.{◌≢◌}
use mathlib.Core.List.{List, [], ◌∷◌}
use native.Mathlib.Omega.{arith}
use native.Mathlib.Nat.{le_of_suc-le-suc}
use lib.ListN.{length, get_or}
use Rattle.lists.specs.Lists.{in_turn}
use Rattle.room.specs.declared.Shape.{Shape}
use Rattle.room.specs.Shapes.{Server, Link, Value}
use Rattle.room.specs.Addresses.{digit, with_digit, switch_of, Neighbours, Beside}
use Rattle.room.proofs.RoomLaws.{with_server, with_same, with_beside, neighbours-exactly, switch-small, switch-same}
use Rattle.path.specs.Routes.{byte_of, switch_at, level_to, switch_to, byte_to, switches_of}
use Rattle.build.specs.Built.{met_by, bytes_of}

-- ---- one hop

pub with_neighbours : {s : Shape} {a l v : ℕ} → Value s a l v → digit s l a ≢ v → Neighbours s l a (with_digit s l v a)
with_neighbours {s} {a} {l} {v} h q =
    record { level = h.link.level; beside = with_beside h; differ = λ e. q (e ∙ with_same h) }

pub level_with : {s : Shape} {a l v : ℕ} → Value s a l v → digit s l a ≢ v → level_to s a (with_digit s l v a) ≡ l
unfolding level_to
level_with {s} {a} {l} {v} h q =
    ap (λ (x : List ℕ). get_or x 0 0) ((neighbours-exactly h.link.server (with_server h) l).1 (with_neighbours h q))

pub switch_with : {s : Shape} {a l v : ℕ} → Value s a l v → digit s l a ≢ v → switch_to s a (with_digit s l v a) ≡ switch_at s l a
unfolding switch_to
switch_with {s} {a} h q = ap (λ (x : ℕ). switch_at s x a) (level_with h q)

pub byte_with : {s : Shape} {a l v : ℕ} → Value s a l v → digit s l a ≢ v → byte_to s a (with_digit s l v a) ≡ byte_of l v
unfolding byte_to
byte_with {s} {a} {l} {v} h q =
    ap (λ (x : ℕ). byte_of x (digit s x (with_digit s l v a))) (level_with h q) ∙ ap (byte_of l) (with_same h)

-- ---- the number of a switch tells its level and its number there

pub switch-at-level : {s : Shape} {a b l m : ℕ} → Link s a l → Link s b m → switch_at s l a ≡ switch_at s m b → l ≡ m
unfolding switch_at
switch-at-level ha hb e = omega (arith, switch-small ha, switch-small hb)

pub switch-at-same : {s : Shape} {a b l : ℕ} → Link s a l → Link s b l → switch_at s l a ≡ switch_at s l b → Beside s l a b
unfolding switch_at
switch-at-same {s} {a} {b} {l} ha hb e =
    let q : switch_of s l a ≡ switch_of s l b = omega arith in switch-same ha hb.server q

-- ---- hops that each change a digit of the room

abbrev pub Fits : Shape → ℕ → List (ℕ × ℕ) → Type 0
Fits s a [] = Unit {0}
Fits s a (h ∷ hs) = Value s a h.0 h.1 × (digit s h.0 a ≢ h.1) × Fits s (with_digit s h.0 h.1 a) hs

-- the switches that hops use from server a on
unfoldable pub used_by : Shape → ℕ → List (ℕ × ℕ) → List ℕ
used_by s a [] = []
used_by s a (h ∷ hs) = switch_at s h.0 a ∷ used_by s (with_digit s h.0 h.1 a) hs

pub met_long : (s : Shape) (a : ℕ) (hs : List (ℕ × ℕ)) → length (met_by s a hs) ≡ suc (length hs)
unfolding met_by
met_long s a [] = refl
met_long s a (h ∷ hs) = ap suc (met_long s (with_digit s h.0 h.1 a) hs)

pub met-first : (s : Shape) (a : ℕ) (hs : List (ℕ × ℕ)) → get_or (met_by s a hs) 0 0 ≡ a
unfolding met_by
met-first s a [] = refl
met-first s a (h ∷ hs) = refl

module _ (s : Shape) where
  pub met-servers : (a : ℕ) (hs : List (ℕ × ℕ)) → Server s a → Fits s a hs → (i : ℕ) → i < length (met_by s a hs) → Server s (get_or (met_by s a hs) i 0)
  unfolding met_by
  met-servers a [] v f zero h = v
  met-servers a [] v f (suc i) h = let z : ⊥ = omega arith in absurd z
  met-servers a (h ∷ hs) v f zero p = v
  met-servers a (h ∷ hs) v f (suc i) p = met-servers (with_digit s h.0 h.1 a) hs (with_server f.0) f.2 i (le_of_suc-le-suc p)

  abbrev Next : ℕ → ℕ → Type 0
  Next a b = Neighbours s (level_to s a b) a b

  next_with : (a : ℕ) (h : ℕ × ℕ) → Value s a h.0 h.1 → digit s h.0 a ≢ h.1 → Next a (with_digit s h.0 h.1 a)
  next_with a h v q = subst (λ (l : ℕ). Neighbours s l a (with_digit s h.0 h.1 a)) (sym (level_with v q)) (with_neighbours v q)

  pub met_next : (a : ℕ) (hs : List (ℕ × ℕ)) → Fits s a hs → (i : ℕ) → suc i < length (met_by s a hs) → Neighbours s (level_to s (get_or (met_by s a hs) i 0) (get_or (met_by s a hs) (suc i) 0)) (get_or (met_by s a hs) i 0) (get_or (met_by s a hs) (suc i) 0)
  unfolding met_by
  met_next a [] f i p = let z : ⊥ = omega arith in absurd z
  met_next a (h ∷ hs) f zero p =
      subst (λ (b : ℕ). Neighbours s (level_to s a b) a b) (sym (met-first s (with_digit s h.0 h.1 a) hs)) (next_with a h f.0 f.1)
  met_next a (h ∷ hs) f (suc i) p = met_next (with_digit s h.0 h.1 a) hs f.2 i (le_of_suc-le-suc p)

  -- in turn over the servers met: the head of the rest is the server that the hop leads to
  turn_met : (g : ℕ → ℕ → ℕ) (a : ℕ) (h : ℕ × ℕ) (hs : List (ℕ × ℕ)) → in_turn g (met_by s a (h ∷ hs)) ≡ g a (with_digit s h.0 h.1 a) ∷ in_turn g (met_by s (with_digit s h.0 h.1 a) hs)
  unfolding met_by in_turn
  turn_met g a h [] = refl
  turn_met g a h (h' ∷ hs) = refl

  turn_none : (g : ℕ → ℕ → ℕ) (a : ℕ) → in_turn g (met_by s a []) ≡ []
  unfolding met_by in_turn
  turn_none g a = refl

  pub switches-met : (a : ℕ) (hs : List (ℕ × ℕ)) → Fits s a hs → switches_of s (met_by s a hs) ≡ used_by s a hs
  unfolding switches_of used_by
  switches-met a [] f = turn_none (switch_to s) a
  switches-met a (h ∷ hs) f =
      turn_met (switch_to s) a h hs
      ∙ ap₂ (λ (x : ℕ) (r : List ℕ). x ∷ r) (switch_with f.0 f.1) (switches-met (with_digit s h.0 h.1 a) hs f.2)

  pub bytes-met : (a : ℕ) (hs : List (ℕ × ℕ)) → Fits s a hs → in_turn (byte_to s) (met_by s a hs) ≡ bytes_of hs
  unfolding bytes_of
  bytes-met a [] f = turn_none (byte_to s) a
  bytes-met a (h ∷ hs) f =
      turn_met (byte_to s) a h hs
      ∙ ap₂ (λ (x : ℕ) (r : List ℕ). x ∷ r) (byte_with f.0 f.1) (bytes-met (with_digit s h.0 h.1 a) hs f.2)
