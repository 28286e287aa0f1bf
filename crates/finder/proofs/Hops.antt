-- The hops of the search in the room: levels from k down, values from 0 up.
use Prim.Native.Nat.{ℕ, ◌+◌, ◌-◌, ◌*◌, ◌/◌, ◌%◌, ◌<◌, ◌≤◌}
use native.Mathlib.Omega.{arith}
use mathlib.Core.Path.{◌≡◌, refl, sym, ap, ◌∙◌}
use mathlib.Core.Bool.{Bool, true, false}
use mathlib.Core.List.{List}
use lib.ListN.{get_or, set}
use lib.Seq.{get_or-set_other}
use Rattle.room.specs.declared.Shape.{Shape}
use Rattle.room.specs.Shapes.{servers_of, bound, Valid, Server, Value}
use Rattle.room.specs.Addresses.{with_digit}
use Rattle.room.proofs.RoomLaws.{bound_le, with_server}
use Rattle.links.specs.Table.{failed, live}
use Rattle.links.proofs.TableLaws.{live-exactly, live_receiver}
use Rattle.finder.specs.Hops.{step_of, Ok}
use Rattle.finder.specs.Kept.{no_parent, Kept}
use Rattle.finder.specs.Scan.{Visiting, Visited}
use Rattle.finder.proofs.Tables.{pass, add}

pub absurd_bool : {X : Type 0} → true ≡ false → X
absurd_bool e = let q : ◌≡◌ {A = ℕ} 0 1 = cc in absurd (omega arith)

-- a link on both sides of a hop that is not live is failed
pub link_shut : (t : List ℕ) (l u : ℕ) → live t l u u ≡ false → failed t u l ≡ true
link_shut t l u z = by (failed t u l) refl
  where
    by : (q : Bool) → failed t u l ≡ q → failed t u l ≡ true
    by true q = q
    by false q = absurd_bool (sym ((live-exactly t l u u).1 (q, q)) ∙ z)

-- what the search keeps, in a room
abbrev pub Kept_in : Shape → List ℕ → ℕ → List ℕ → List ℕ → ℕ → ℕ → Type 0
Kept_in s t root back queue n m = Kept (step_of s) (Ok s t) (servers_of s) root back queue n m

pub ok_low : (s : Shape) → Valid s → (t : List ℕ) (u x : ℕ) → Ok s t u x → x < 256
ok_low s v t u x o = omega (arith, o.level, v.levels)

-- a label's level and value
pub label_level : (down v : ℕ) → v < 64 → (down * 64 + v) / 64 ≡ down
label_level down v h = omega arith

pub label_value : (down v : ℕ) → v < 64 → (down * 64 + v) % 64 ≡ v
label_value down v h = omega arith

pub step-at : (s : Shape) (u down v : ℕ) → v < 64 → step_of s u (down * 64 + v) ≡ with_digit s (s.k - down) v u
unfolding step_of
step-at s u down v h = rw (label_level down v h, label_value down v h)

-- one hop: from the server at place a, at a level, with the value v
module _ {s : Shape} {root : ℕ} {t back queue : List ℕ} {n a level v : ℕ} (kept : Kept_in s t root back queue n (a * 256 + ((s.k - level) * 64 + v)))
    (valid : Valid s) (ha : a < n) (hl : level ≤ s.k) (hv : v < bound s level) (w : ℕ) (ew : w ≡ with_digit s level v (get_or queue a 0)) where
  small : v < 64
  small = omega (arith, bound_le valid level, valid.ports)

  at_level : s.k - ((s.k - level) * 64 + v) / 64 ≡ level
  at_level = omega (arith, label_level (s.k - level) v small)

  at_value : ((s.k - level) * 64 + v) % 64 ≡ v
  at_value = label_value (s.k - level) v small

  to_w : w ≡ step_of s (get_or queue a 0) ((s.k - level) * 64 + v)
  unfolding step_of
  to_w = rw (at_level, at_value) ew

  here-server : Server s (get_or queue a 0)
  here-server = record { valid = valid; below = kept.inside a ha }

  a_value : Value s (get_or queue a 0) level v
  a_value = record { link = record { server = here-server; level = hl }; value = hv }

  pub hop-inside : w < servers_of s
  hop-inside = rw ew (with_server a_value).below

  one : ((b x : ℕ) → b ≡ a → x ≡ (s.k - level) * 64 + v → Ok s t (get_or queue b 0) x → (j : ℕ) × (j < n) × (get_or queue j 0 ≡ step_of s (get_or queue b 0) x))
      → Kept_in s t root back queue n (a * 256 + ((s.k - level) * 64 + v) + 1)
  one new =
      pass kept (a * 256 + ((s.k - level) * 64 + v) + 1) (omega arith)
      (λ b x hb h₁ h₂ o.
      let hx : x < 256 = ok_low s valid t (get_or queue b 0) x o in
      let hk : s.k ≤ 3 = valid.levels in
      let hs : v < 64 = small in
      new b x (omega arith) (omega arith) o)

  -- a link is failed
  pub shut : live t level (get_or queue a 0) w ≡ false → Kept_in s t root back queue n (a * 256 + ((s.k - level) * 64 + v) + 1)
  shut z = one (λ b x eb ex o. absurd_bool (sym o.alive ∙ rw (eb, ex, ← to_w, at_level) z))

  -- it leads to a server that is found
  pub seen : (get_or back w 0 ≡ no_parent → ⊥) → Kept_in s t root back queue n (a * 256 + ((s.k - level) * 64 + v) + 1)
  seen d =
      one
      (λ b x eb ex o.
      let f : (i : ℕ) × (i < n) × (get_or queue i 0 ≡ w) = kept.marked w (omega (arith, hop-inside, kept.within)) d in
      (f.0, f.1, rw (eb, ex, ← to_w) f.2))

  -- it leads to one that is not
  pub new : live t level (get_or queue a 0) w ≡ true → get_or back w 0 ≡ no_parent
      → Kept_in s t root (set back w (a * 256 + ((s.k - level) * 64 + v))) (set queue n w) (n + 1) (a * 256 + ((s.k - level) * 64 + v) + 1)
  new z free =
      add kept (ok_low s valid t) a ((s.k - level) * 64 + v) w ha refl to_w hop-inside
      (record {
        server = here-server;
        level = omega (arith, label_level (s.k - level) v small);
        value = rw (at_level, at_value) hv;
        moves = λ e. omega (arith, kept.known a ha, ap (λ (m : ℕ). get_or back m 0) (to_w ∙ e));
        alive = rw (← to_w, at_level) z;
      })
      free

-- and so where it is tried
module _ {s : Shape} {t back queue : List ℕ} {head tail l v w : ℕ} (h : Visiting s t back queue head tail l v w) where
  pub tried_shut : (f : Bool) → f ≡ live t l w w → f ≡ false → Visited s t queue back queue head tail tail l v
  tried_shut f e z =
      record {
        grows = omega arith;
        same = λ i p. refl;
        kept = shut h.kept h.valid h.place h.level h.value w h.leads (live_receiver t l (get_or queue head 0) w (link_shut t l w (sym e ∙ z)));
      }

  pub tried-new : (f : Bool) → f ≡ live t l w w → f ≡ true → Visited s t queue (set back w (head * 256 + ((s.k - l) * 64 + v))) (set queue tail w) head tail (tail + 1) l v
  tried-new f e z =
      record {
        grows = omega arith;
        same = λ i p. get_or-set_other queue tail i w 0 (omega arith);
        kept = new h.kept h.valid h.place h.level h.value w h.leads ((live-exactly t l (get_or queue head 0) w).1 (h.alive, ((live-exactly t l w w).0 (sym e ∙ z)).1)) h.new;
      }

-- past the last value of a level, and past the last level, nothing is allowed
module _ {s : Shape} {root : ℕ} {t back queue : List ℕ} {n : ℕ} (valid : Valid s) where
  pub next_level : (a level : ℕ) → level ≤ s.k → Kept_in s t root back queue n (a * 256 + ((s.k - level) * 64 + bound s level)) → Kept_in s t root back queue n (a * 256 + (s.k + 1 - level) * 64)
  next_level a level hl kept =
      let hb : bound s level ≤ 64 = omega (arith, bound_le valid level, valid.ports) in
      let hk : s.k ≤ 3 = valid.levels in
      pass kept (a * 256 + (s.k + 1 - level) * 64) (omega arith)
      (λ b x hb₁ h₁ h₂ o.
      let hx : x < 256 = ok_low s valid t (get_or queue b 0) x o in
      let ex : s.k - x / 64 ≡ level = omega arith in
      absurd (omega (arith, o.value, ap (bound s) ex)))

  -- a level at which every hop that is allowed leads to what is found
  pub past-level : (a level : ℕ) → level ≤ s.k
      → ((x : ℕ) → s.k - x / 64 ≡ level → Ok s t (get_or queue a 0) x → (j : ℕ) × (j < n) × (get_or queue j 0 ≡ step_of s (get_or queue a 0) x))
      → Kept_in s t root back queue n (a * 256 + ((s.k - level) * 64 + 0)) → Kept_in s t root back queue n (a * 256 + (s.k + 1 - level) * 64)
  past-level a level hl found kept =
      let hk : s.k ≤ 3 = valid.levels in
      pass kept (a * 256 + (s.k + 1 - level) * 64) (omega arith)
      (λ b x hb₁ h₁ h₂ o.
      let hx : x < 256 = ok_low s valid t (get_or queue b 0) x o in
      let ex : s.k - x / 64 ≡ level = omega arith in
      let eb : b ≡ a = omega arith in
      rw eb (found x ex (rw eb at o)))

  pub next-server : (a : ℕ) → Kept_in s t root back queue n (a * 256 + (s.k + 1) * 64) → Kept_in s t root back queue n ((a + 1) * 256)
  next-server a kept =
      let hk : s.k ≤ 3 = valid.levels in
      pass kept ((a + 1) * 256) (omega arith)
      (λ b x hb h₁ h₂ o. absurd (omega (arith, o.level, ok_low s valid t (get_or queue b 0) x o)))
