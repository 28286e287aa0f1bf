-- Following parents from any server ends at the source, after exactly as many steps as `steps_of` says.
use Prim.Native.Nat.{ℕ, zero, suc, ◌+◌, ◌-◌, ◌*◌, ◌%◌, ◌≤◌, ◌<◌}
use mathlib.Core.Path.{◌≡◌, refl, sym, ap, ◌∙◌, subst}
use mathlib.Core.Logic.{◌≢◌, ◌↔◌}
use native.Mathlib.Omega.{arith}
use native.Mathlib.Nat.{mod-lt, suc-mul}
use native.Mathlib.Decide.{ℕ_discrete}
use borrow.Author.Tests.{eqb-true, eqb-false, eq-eqb, ne_eqb}
use Rattle.refusals.proofs.AnswerLaws.{answered}
use Rattle.room.specs.declared.Shape.{Shape}
use Rattle.room.specs.Told.{Number}
use Rattle.room.specs.Shapes.{bound, Valid}
use Rattle.room.specs.Addresses.{digit}
use Rattle.room.specs.Answers.{no_number, a_number}
use Rattle.room.proofs.RoomLaws.{digit_lt, bound-top, bound-other, bound-two, same_digits}
use Rattle.trees.specs.Trees.{alike, hangs_at, parent_of, Child}
use Rattle.trees.specs.Answers.{parent_refusal, parent_answer}
use Rattle.trees.specs.Reach.{Hands, Follows, here, up, total, gap, steps_of, most_steps}
use Rattle.trees.proofs.RingLaws.{gap-none, gap_less, gap_wrap}
use Rattle.trees.proofs.LevelLaws.{Last, lowered-own, last_found, last_only}
use Rattle.trees.proofs.ParentLaws.{child_made, child_of, parent-answered, hangs_le}
use Rattle.trees.proofs.HopLaws.{lowered-digit, parent-server, parent-neighbours}

-- ---- sums

pub total-same : (m : ℕ) (f g : ℕ → ℕ) → ((i : ℕ) → i < m → f i ≡ g i) → total m f ≡ total m g
unfolding total
total-same zero f g e = refl
total-same (suc m) f g e = omega (arith, total-same m f g (λ i h. e i (omega arith)), e m (omega arith))

total_le : (m : ℕ) (f g : ℕ → ℕ) → ((i : ℕ) → i < m → f i ≤ g i) → total m f ≤ total m g
unfolding total
total_le zero f g e = omega arith
total_le (suc m) f g e = omega (arith, total_le m f g (λ i h. e i (omega arith)), e m (omega arith))

total-none : (m : ℕ) (f : ℕ → ℕ) → ((i : ℕ) → i < m → f i ≡ 0) → total m f ≡ 0
unfolding total
total-none zero f e = refl
total-none (suc m) f e = omega (arith, total-none m f (λ i h. e i (omega arith)), e m (omega arith))

-- a sum of one number
total_const : (m c : ℕ) (f : ℕ → ℕ) → ((i : ℕ) → i < m → f i ≡ c) → total m f ≡ m * c
unfolding total
total_const zero c f e = omega arith
total_const (suc m) c f e = omega (arith, total_const m c f (λ i h. e i (omega arith)), e m (omega arith), suc-mul m c)

-- what every level's bound leaves, added up
pub total-bounds : (s : Shape) → total (suc s.k) (λ i. bound s i - 1) ≡ s.k * (s.n - 1) + (s.m - 1)
unfolding total
total-bounds s =
    omega (arith, total_const s.k (s.n - 1) (λ i. bound s i - 1) (λ i p. ap (λ (b : ℕ). b - 1) (bound-other s i (omega arith))), ap (λ (b : ℕ). b - 1) (bound-top s))

-- two sums that differ in one place
total-change : (m j : ℕ) (f g : ℕ → ℕ) → j < m → ((i : ℕ) → i ≢ j → f i ≡ g i) → total m f + g j ≡ total m g + f j
unfolding total
total-change zero j f g h e = let z : ⊥ = omega arith in absurd z
total-change (suc m) j f g h e =
    elim (ℕ_discrete j m) [
      | yes q ↦ omega (arith, total-same m f g (λ i p. e i (omega arith)), ap f q, ap g q)
      | no q ↦ omega (arith, total-change m j f g (omega arith) e, e m (λ w. q (sym w)))
    ]

-- ---- one step up

module _ {s : Shape} {a l x : ℕ} (h : Child s a l x) where
  own_le : hangs_at s a l x ≤ s.k
  own_le = hangs_le s a l x h.link.level

  up-digit : digit s (hangs_at s a l x) (parent_of s a l x) ≡ (digit s (hangs_at s a l x) x + (bound s (hangs_at s a l x) - 1)) % bound s (hangs_at s a l x)
  unfolding parent_of
  up-digit = lowered-digit h.link.server own_le

  gap-kept : (i : ℕ) → i ≢ hangs_at s a l x → gap s a (parent_of s a l x) i ≡ gap s a x i
  unfolding gap
  gap-kept i q = ap (λ (v : ℕ). (v + (bound s i - digit s i a)) % bound s i) ((parent-neighbours h).beside.agree i q)

  -- where the tree's own digit is the source's, it is that level's, and the digit goes to the far end
  pub own_same : digit s l a ≡ digit s l x → hangs_at s a l x ≡ l
  unfolding hangs_at
  own_same e = sym (lowered-own (alike s a x) s.k l (eq-eqb (digit s l a) (digit s l x) e))

  pub own_last : digit s l a ≢ digit s l x → Last (alike s a x) s.k l (hangs_at s a l x)
  unfolding hangs_at
  own_last ne = last_found (alike s a x) s.k l h.link.level (ne_eqb (digit s l a) (digit s l x) ne)

  gap-far : digit s l a ≡ digit s l x → suc (gap s a (parent_of s a l x) l) ≡ bound s l
  unfolding gap
  gap-far e =
      let q : digit s l (parent_of s a l x) ≡ (digit s l x + (bound s l - 1)) % bound s l = rw (own_same e) at up-digit in
      gap_wrap (bound s l) (digit s l a) (digit s l x) (digit s l (parent_of s a l x)) (digit_lt h.source l h.link.level) e q

  -- else it comes nearer by one
  gap_near : digit s l a ≢ digit s l x → suc (gap s a (parent_of s a l x) (hangs_at s a l x)) ≡ gap s a x (hangs_at s a l x)
  unfolding gap
  gap_near ne =
      let j = hangs_at s a l x in
      gap_less (bound s j) (digit s j a) (digit s j x) (digit s j (parent_of s a l x)) (digit_lt h.source j own_le) (digit_lt h.link.server j own_le)
      (eqb-false _ _ (own_last ne).differ) up-digit

  total-far : digit s l a ≡ digit s l x → suc (total (suc s.k) (gap s a (parent_of s a l x))) ≡ total (suc s.k) (gap s a x) + bound s l
  unfolding gap
  total-far e =
      let c = total-change (suc s.k) l (gap s a (parent_of s a l x)) (gap s a x) (omega (arith, h.link.level)) (λ i q. gap-kept i (λ w. q (w ∙ own_same e))) in
      omega (arith, c, gap-far e, gap-none (bound s l) (digit s l a) (digit s l x) (digit_lt h.source l h.link.level) e)

  total_near : digit s l a ≢ digit s l x → suc (total (suc s.k) (gap s a (parent_of s a l x))) ≡ total (suc s.k) (gap s a x)
  total_near ne =
      let c = total-change (suc s.k) (hangs_at s a l x) (gap s a (parent_of s a l x)) (gap s a x) (omega (arith, own_le)) gap-kept in
      omega (arith, c, gap_near ne)

  -- so the steps are one more than the gaps of the parent
  pub steps_up : steps_of s a l x ≡ suc (total (suc s.k) (gap s a (parent_of s a l x)))
  unfolding steps_of
  steps_up =
      elim (ℕ_discrete (digit s l a) (digit s l x)) [
        | yes e ↦ rw (eq-eqb (digit s l a) (digit s l x) e) (sym (total-far e))
        | no e ↦ rw (ne_eqb (digit s l a) (digit s l x) e) (omega (arith, total_near e))
      ]

  -- away from the source the parent has not the source's digit l
  up_apart : a ≢ parent_of s a l x → digit s l a ≢ digit s l (parent_of s a l x)
  unfolding parent_of
  up_apart ne q =
      elim (ℕ_discrete (digit s l a) (digit s l x)) [
        | yes e ↦ (parent-neighbours h).differ (ap (λ (j : ℕ). digit s j (parent_of s a l x)) (own_same e) ∙ sym q ∙ e ∙ ap (λ (j : ℕ). digit s j x) (sym (own_same e)))
        | no e ↦ elim (ℕ_discrete l (hangs_at s a l x)) [
          | yes w ↦ ne (same_digits h.source (parent-server h) (all e w))
          | no w ↦ e (q ∙ (parent-neighbours h).beside.agree l w)
        ]
      ]
    where
      all : digit s l a ≢ digit s l x → l ≡ hangs_at s a l x → (i : ℕ) → i ≤ s.k → digit s i a ≡ digit s i (parent_of s a l x)
      all e w i p =
          elim (ℕ_discrete i l) [
            | yes u ↦ rw u q
            | no u ↦ let f : Last (alike s a x) s.k l l = rw (← w) at (own_last e) in
                eqb-true (digit s i a) (digit s i x) (last_only (alike s a x) s.k l h.link.level f i p u)
                ∙ sym ((parent-neighbours h).beside.agree i (λ v. u (v ∙ sym w)))
          ]

  up_child : a ≢ parent_of s a l x → Child s a l (parent_of s a l x)
  up_child ne = child_made h.source (parent-server h) h.link.level ne

  steps_next : a ≢ parent_of s a l x → steps_of s a l x ≡ suc (steps_of s a l (parent_of s a l x))
  unfolding steps_of
  steps_next ne =
      steps_up ∙ rw (ne_eqb (digit s l a) (digit s l (parent_of s a l x)) (up_apart ne)) (omega arith)

  steps_last : a ≡ parent_of s a l x → steps_of s a l x ≡ 1
  unfolding gap
  steps_last e =
      steps_up
      ∙ ap suc (total-none (suc s.k) (gap s a (parent_of s a l x)) (λ i p. gap-none (bound s i) (digit s i a) (digit s i (parent_of s a l x)) (digit_lt h.source i (omega arith)) (ap (digit s i) e)))

-- ---- all the way up

-- the call answers p exactly where x has a parent and it is p
pub hands_exactly : (s : Shape) (a l p x : ℕ) → Hands s a l p x ↔ (Child s a l x × (parent_of s a l x ≡ p))
unfolding parent_answer
hands_exactly s a l p x = (there, λ h. parent-answered h.0 _ refl ∙ ap a_number h.1)
  where
    there : Hands s a l p x → Child s a l x × (parent_of s a l x ≡ p)
    there e =
        let w = answered (λ (y : Number). y.refusal.number) no_number (λ r. refl) (parent_refusal s a l x) (parent_answer s a l x) (a_number (parent_of s a l x)) refl (ap (λ (y : Number). y.refusal.number) e) in
        (child_of s a l x w.0, ap (λ (y : Number). y.value) (sym w.1 ∙ e))

module _ {s : Shape} {a l : ℕ} where
  -- nothing leads on from the source
  source_stays : (m y : ℕ) → Follows s a l m a y → m ≡ 0
  source_stays zero y f = refl
  source_stays (suc m) y (up {p = p} e f) = absurd (((hands_exactly s a l p a).0 e).0.apart refl)

  follows_up : (m x : ℕ) → Child s a l x → steps_of s a l x ≡ m → Follows s a l m x a
  follows_up zero x h e = let z : ⊥ = omega (arith, steps_up h) in absurd z
  follows_up (suc m) x h e =
      up {m = m} {y = a} ((hands_exactly s a l (parent_of s a l x) x).1 (h, refl))
      (elim (ℕ_discrete a (parent_of s a l x)) [
        | yes q ↦ let z : m ≡ 0 = omega (arith, steps_last h q) in subst (λ (y : ℕ). Follows s a l m y a) q (rw z here)
        | no q ↦ follows_up m (parent_of s a l x) (up_child h q) (omega (arith, steps_next h q))
      ])

  follows_steps : (m x : ℕ) → Child s a l x → Follows s a l m x a → m ≡ steps_of s a l x
  follows_steps zero x h here = absurd (h.apart refl)
  follows_steps (suc m) x h (up {p = p} e f) =
      let q = ((hands_exactly s a l p x).0 e).1 in
      let g : Follows s a l m (parent_of s a l x) a = rw q f in
      elim (ℕ_discrete a (parent_of s a l x)) [
        | yes w ↦ let k : Follows s a l m a a = subst (λ (y : ℕ). Follows s a l m y a) (sym w) g in omega (arith, source_stays m a k, steps_last h w)
        | no w ↦ omega (arith, follows_steps m (parent_of s a l x) (up_child h w) g, steps_next h w)
      ]

  -- following parents ends at the source, after exactly these steps
  pub follows_exactly : {x : ℕ} → Child s a l x → (m : ℕ) → Follows s a l m x a ↔ (m ≡ steps_of s a l x)
  follows_exactly {x} h m = (follows_steps m x h, λ e. follows_up m x h (sym e))

-- ---- how many steps at the most

pub gap_le : {s : Shape} → Valid s → (a x i : ℕ) → gap s a x i ≤ bound s i - 1
unfolding gap
gap_le {s} v a x i =
    omega (arith, bound-two v i, mod-lt (digit s i x + (bound s i - digit s i a)) {m = bound s i} (omega (arith, bound-two v i)))

-- the gaps of a server
total-most : {s : Shape} → Valid s → (a x : ℕ) → total (suc s.k) (gap s a x) ≤ s.k * (s.n - 1) + (s.m - 1)
total-most {s} v a x =
    omega (arith, total_le (suc s.k) (gap s a x) (λ i. bound s i - 1) (λ i p. gap_le v a x i), total-bounds s)

-- where there is one level only, a server that is not the source differs from it there
single-apart : {s : Shape} {a l x : ℕ} → Child s a l x → s.k ≡ 0 → digit s l a ≢ digit s l x
single-apart {l = l} h e q =
    h.apart (same_digits h.source h.link.server (λ i p. let w : i ≡ l = omega (arith, h.link.level) in rw w q))

pub steps-most : {s : Shape} {a l x : ℕ} → Child s a l x → steps_of s a l x ≤ most_steps s
unfolding most_steps steps_of
steps-most {s} {a} {l} {x} h =
    elim (ℕ_discrete s.k 0) [
      | yes e ↦ rw (eq-eqb s.k 0 e, ne_eqb (digit s l a) (digit s l x) (single-apart h e)) (omega (arith, total-most h.source.valid a x, ap (λ (i : ℕ). i * (s.n - 1)) e))
      | no e ↦ rw (ne_eqb s.k 0 e) (omega (arith, steps_up h, total-most h.source.valid a (parent_of s a l x), h.source.valid.some))
    ]
