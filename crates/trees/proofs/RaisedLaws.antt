-- Laws of a digit raised, once and again.
use Prim.Native.Nat.{ℕ, zero, suc, ◌+◌, ◌-◌, ◌%◌, ◌≤◌}
use mathlib.Core.Path.{◌≡◌, refl, sym, ap, ◌∙◌}
use mathlib.Core.Logic.{◌≢◌}
use native.Mathlib.Omega.{arith}
use native.Mathlib.Nat.{mod-add-mod}
use native.Mathlib.Decide.{ℕ_discrete}
use Rattle.room.specs.declared.Shape.{Shape}
use Rattle.room.specs.Shapes.{bound, Server, Value}
use Rattle.room.specs.Addresses.{digit, with_digit}
use Rattle.room.proofs.RoomLaws.{digit_lt, same_digits, with_server, with_same, with_other}
use Rattle.trees.specs.Trees.{lowered}
use Rattle.trees.specs.Reach.{gap}
use Rattle.trees.specs.Figure.{raised, raised_by}
use Rattle.trees.proofs.RingLaws.{more_in, more_gap, less_more}
use Rattle.trees.proofs.ParentLaws.{round-value}
use Rattle.trees.proofs.HopLaws.{lowered-server, lowered-digit, lowered-other}

-- ---- raising a digit

pub raised_by_on : (s : Shape) (j t a : ℕ) → raised_by s j t (raised s j a) ≡ raised_by s j (suc t) a
unfolding raised_by
raised_by_on s j zero a = refl
raised_by_on s j (suc t) a = ap (raised s j) (raised_by_on s j t a)

module _ {s : Shape} {j : ℕ} (p : j ≤ s.k) where
  pub raised_by-server : (t x : ℕ) → Server s x → Server s (raised_by s j t x)
  unfolding raised_by raised
  raised_by-server zero x h = h
  raised_by-server (suc t) x h = with_server (round-value (raised_by-server t x h) p (digit s j (raised_by s j t x) + 1))

  pub raised_by-other : (t x : ℕ) → Server s x → (i : ℕ) → i ≢ j → digit s i (raised_by s j t x) ≡ digit s i x
  unfolding raised_by raised
  raised_by-other zero x h i q = refl
  raised_by-other (suc t) x h i q =
      with_other (round-value (raised_by-server t x h) p (digit s j (raised_by s j t x) + 1)) i q ∙ raised_by-other t x h i q

  pub raised_by-digit : (t x : ℕ) → Server s x → digit s j (raised_by s j t x) ≡ (digit s j x + t) % bound s j
  unfolding raised_by raised
  raised_by-digit zero x h = sym (more_in (bound s j) (digit s j x) 0 (omega (arith, digit_lt h j p)) ∙ omega arith)
  raised_by-digit (suc t) x h =
      let e : digit s j x + t + 1 ≡ digit s j x + suc t = omega arith in
      with_same (round-value (raised_by-server t x h) p (digit s j (raised_by s j t x) + 1))
      ∙ ap (λ (v : ℕ). (v + 1) % bound s j) (raised_by-digit t x h)
      ∙ mod-add-mod (digit s j x + t) (bound s j) 1
      ∙ ap (λ (v : ℕ). v % bound s j) e

  -- what is reached, told by its digits
  pub raised_by_is : (t x y : ℕ) → Server s x → Server s y → ((i : ℕ) → i ≤ s.k → i ≢ j → digit s i x ≡ digit s i y) → (digit s j x + t) % bound s j ≡ digit s j y → raised_by s j t x ≡ y
  raised_by_is t x y hx hy f e =
      same_digits (raised_by-server t x hx) hy
      (λ i q. elim (ℕ_discrete i j) [ yes u ↦ rw u (raised_by-digit t x hx ∙ e) | no u ↦ raised_by-other t x hx i u ∙ f i q u ])

  -- lowering undoes raising
  pub lowered-raised : (t x : ℕ) → Server s x → suc t ≤ bound s j → lowered s j (raised_by s j (suc t) x) ≡ raised_by s j t x
  lowered-raised t x h q =
      let c = raised_by-server (suc t) x h in
      same_digits (lowered-server c p) (raised_by-server t x h)
      (λ i w. elim (ℕ_discrete i j) [
        | yes u ↦ rw u (lowered-digit c p ∙ ap (λ (v : ℕ). (v + (bound s j - 1)) % bound s j) (raised_by-digit (suc t) x h) ∙ less_more (bound s j) (digit s j x) t (digit_lt h j p) q ∙ sym (raised_by-digit t x h))
        | no u ↦ lowered-other c p i u ∙ raised_by-other (suc t) x h i u ∙ sym (raised_by-other t x h i u)
      ])

  -- the source's digit can stand there
  pub base_value : {a x : ℕ} → Server s a → Server s x → Value s x j (digit s j a)
  base_value {a} {x} ha hx = record { link = record { server = hx; level = p }; value = digit_lt ha j p }

  -- from where digit j is the source's, as often as the gap says
  pub raised_by-gap : (a x : ℕ) → Server s a → Server s x → raised_by s j (gap s a x j) (with_digit s j (digit s j a) x) ≡ x
  unfolding gap
  raised_by-gap a x ha hx =
      let v = base_value ha hx in
      raised_by_is (gap s a x j) (with_digit s j (digit s j a) x) x (with_server v) hx (λ i q u. with_other v i u)
      (ap (λ (w : ℕ). (w + gap s a x j) % bound s j) (with_same v) ∙ more_gap (bound s j) (digit s j a) (digit s j x) (digit_lt ha j p) (digit_lt hx j p))

  -- and from the source's neighbour once less
  pub raised_by-root : (t a x : ℕ) → Server s a → Server s x → ((i : ℕ) → i ≤ s.k → i ≢ j → digit s i a ≡ digit s i x) → gap s a x j ≡ suc t → raised_by s j t (raised s j a) ≡ x
  unfolding gap
  raised_by-root t a x ha hx f e =
      raised_by_on s j t a
      ∙ raised_by_is (suc t) a x ha hx f
      (ap (λ (v : ℕ). (digit s j a + v) % bound s j) (sym e) ∙ more_gap (bound s j) (digit s j a) (digit s j x) (digit_lt ha j p) (digit_lt hx j p))
