-- Laws of the first dead switch: it is dead, none before it is, and none is found exactly when there is none.
use Prim.Native.Nat.{ℕ, zero, suc, ◌<◌}
use mathlib.Core.Path.{◌≡◌, refl, sym, ap, ap₂, ◌∙◌, subst}
use mathlib.Core.Logic.{◌≢◌, ◌↔◌, inl, inr}
use mathlib.Core.Bool.{Bool, true, false, cond, true≢false, false≢true}
use mathlib.Core.List.{List, [], ◌∷◌}
use native.Mathlib.Omega.{arith}
use native.Mathlib.Decide.{ℕ_discrete, dec_lt}
use lib.ListN.{length, get_or}
use borrow.Author.Tests.{eq-eqb, eqb-true}
use Rattle.refusals.specs.Refusals.{Refusal, answer}
use Rattle.refusals.proofs.AnswerLaws.{answer-none}
use Rattle.room.specs.declared.Shape.{Shape}
use Rattle.room.specs.Shapes.{bound, Valid}
use Rattle.links.specs.Table.{TableOf}
use Rattle.summary.specs.Told.{DeadSwitch}
use Rattle.summary.specs.Counts.{switches_in, place_of, is_dead, IsSwitch}
use Rattle.summary.specs.Refusals.{summary_refusal}
use Rattle.summary.specs.Promises.{DeadOne, TellsFirst}
use Rattle.summary.specs.Answers.{none_dead, dead_at, first_dead, dead_answer}
use Rattle.summary.proofs.PlaceLaws.{below-every, place_lt, place_at}
use Rattle.summary.proofs.CountLaws.{count-full}
use Rattle.summary.proofs.RefusalLaws.{summary-of, summary_none}
use Rattle.summary.proofs.AnswerLaws.{first-refusal, first-zeros, dead-refusal}
use Rattle.summary.proofs.KeptLaws.{place-before, Right, right_summary, summary_right}

-- ---- the first of some switches by their entries

-- whether the entry of the switch at place j of ps is full
abbrev full_at : Shape → List ℕ → List (ℕ × ℕ) → ℕ → Bool
full_at s c ps j = is_dead s c (get_or ps j (0, 0)).0 (get_or ps j (0, 0)).1

-- x is the first of the switches ps whose entry in summary c is full, or says that none is
record FirstFull (s : Shape) (c : List ℕ) (ps : List (ℕ × ℕ)) (x : DeadSwitch) : Type 0 where
  full : x.found ≡ true → is_dead s c x.level x.number ≡ true
  place : x.found ≡ true → (i : ℕ) × (i < length ps) × (get_or ps i (0, 0) ≡ (x.level, x.number)) × ((j : ℕ) → j < i → full_at s c ps j ≡ false)
  nothing : x.found ≡ false → (j : ℕ) → j < length ps → full_at s c ps j ≡ false

first-full : (s : Shape) (c : List ℕ) (ps : List (ℕ × ℕ)) → FirstFull s c ps (first_dead s c ps)
unfolding first_dead
first-full s c [] = record { full = λ e. absurd (false≢true e); place = λ e. absurd (false≢true e); nothing = λ e j h. absurd (omega arith) }
first-full s c (p ∷ ps) = step (is_dead s c p.0 p.1) refl (first-full s c ps)
  where
    step : (b : Bool) → is_dead s c p.0 p.1 ≡ b → FirstFull s c ps (first_dead s c ps) → FirstFull s c (p ∷ ps) (cond b (dead_at p.0 p.1) (first_dead s c ps))
    step true e h = record { full = λ f. e; place = λ f. (0, omega arith, refl, λ j i. absurd (omega arith)); nothing = λ f. absurd (true≢false f) }
    step false e h =
        record {
          full = h.full;
          place = λ f. let q = h.place f in (suc q.0, omega (arith, q.1), q.2, before q.0 q.3);
          nothing = λ f. before (length ps) (h.nothing f);
        }
      where
        -- p is not, and those of ps before place i are not
        before : (i : ℕ) → ((j : ℕ) → j < i → full_at s c ps j ≡ false) → (j : ℕ) → j < suc i → full_at s c (p ∷ ps) j ≡ false
        before i k zero q = e
        before i k (suc j) q = k j (omega arith)

-- ---- dead by its entry, and by its servers' links

module _ {s : Shape} {t c : List ℕ} (r : Right s t c) {l w : ℕ} (h : IsSwitch s l w) where
  pub entry-full : (get_or c (place_of s l w) 0 ≡ bound s l) ↔ DeadOne s t l w
  entry-full = (
    λ e. record { switch = h; all = (count-full h t).0 (sym (r.each l w h.level h.number) ∙ e) },
    λ d. r.each l w h.level h.number ∙ (count-full h t).1 d.all,
  )

  full-dead : is_dead s c l w ≡ true → DeadOne s t l w
  unfolding is_dead
  full-dead e = entry-full.0 (eqb-true _ _ e)

  dead-full : DeadOne s t l w → is_dead s c l w ≡ true
  unfolding is_dead
  dead-full d = eq-eqb _ _ (entry-full.1 d)

-- ---- the question

module _ {s : Shape} (v : Valid s) {t c : List ℕ} (r : Right s t c) where
  -- a dead switch's entry at its place among all
  dead-there : (l w : ℕ) → DeadOne s t l w → full_at s c (switches_in s) (place_of s l w) ≡ true
  dead-there l w d = ap (λ (p : ℕ × ℕ). is_dead s c p.0 p.1) (place_at d.switch) ∙ dead-full r d.switch d

  tells_first : TellsFirst s t (first_dead s c (switches_in s))
  unfolding switches_in
  tells_first =
      record {
        refusal = first-refusal s c (switches_in s);
        dead = λ e. let q = there e in full-dead r q.0 (f.full e);
        first = λ e l w p d.
            let q = there e in
            true≢false (sym (dead-there l w d) ∙ q.1 (place_of s l w) (place-before s l w _ _ d.switch.number p));
        nothing = λ e l w d. true≢false (sym (dead-there l w d) ∙ f.nothing e (place_of s l w) (place_lt d.switch));
        zeros = first-zeros s c (switches_in s);
      }
    where
      f : FirstFull s c (switches_in s) (first_dead s c (switches_in s))
      f = first-full s c (switches_in s)

      x : DeadSwitch
      x = first_dead s c (switches_in s)

      -- it is a switch of the room, and no entry before its own is full
      there : x.found ≡ true → IsSwitch s x.level x.number × ((j : ℕ) → j < place_of s x.level x.number → full_at s c (switches_in s) j ≡ false)
      there e =
          let q = f.place e in
          let y = below-every s (suc s.k) q.0 q.1 in
          let k : IsSwitch s y.0 y.1 = record { valid = v; level = omega (arith, y.2); number = y.3 } in
          subst
          (λ (p : ℕ × ℕ). IsSwitch s p.0 p.1 × ((j : ℕ) → j < place_of s p.0 p.1 → full_at s c (switches_in s) j ≡ false))
          (sym (place_at k) ∙ ap (λ (i : ℕ). get_or (switches_in s) i (0, 0)) y.4 ∙ q.2)
          (k, λ j i. q.3 j (omega (arith, y.4)))

-- there is one such answer
tells_one : {s : Shape} {t : List ℕ} {x y : DeadSwitch} → TellsFirst s t x → TellsFirst s t y → x ≡ y
tells_one {s} {t} {x} {y} p q = go x.found y.found refl refl
  where
    same : x.found ≡ y.found → x.level ≡ y.level → x.number ≡ y.number → x ≡ y
    same e f g =
        ap₂ (λ (a : Refusal × Bool) (b : ℕ × ℕ). record { refusal = a.0; found = a.1; level = b.0; number = b.1 })
        (ap₂ (λ (a : Refusal) (b : Bool). (a, b)) (p.refusal ∙ sym q.refusal) e)
        (ap₂ (λ (a b : ℕ). (a, b)) f g)

    -- two that are dead, and neither comes before the other
    level : x.found ≡ true → y.found ≡ true → x.level ≡ y.level
    level e f =
        elim (ℕ_discrete x.level y.level) [
          | yes g ↦ g
          | no n ↦ elim (dec_lt x.level y.level) [
            | yes l ↦ absurd (q.first f x.level x.number (inl l) (p.dead e))
            | no l ↦ absurd (p.first e y.level y.number (inl (omega (arith, n, l))) (q.dead f))
          ]
        ]

    number : x.found ≡ true → y.found ≡ true → x.number ≡ y.number
    number e f =
        elim (ℕ_discrete x.number y.number) [
          | yes g ↦ g
          | no n ↦ elim (dec_lt x.number y.number) [
            | yes l ↦ absurd (q.first f x.level x.number (inr (level e f, l)) (p.dead e))
            | no l ↦ absurd (p.first e y.level y.number (inr (sym (level e f), omega (arith, n, l))) (q.dead f))
          ]
        ]

    go : (b d : Bool) → x.found ≡ b → y.found ≡ d → x ≡ y
    go true true e f = same (e ∙ sym f) (level e f) (number e f)
    go true false e f = absurd (q.nothing f x.level x.number (p.dead e))
    go false true e f = absurd (p.nothing e y.level y.number (q.dead f))
    go false false e f = same (e ∙ sym f) ((p.zeros e).0 ∙ sym (q.zeros f).0) ((p.zeros e).1 ∙ sym (q.zeros f).1)

refused_with : (r : ℕ) (x : DeadSwitch) → r ≢ 0 → answer r none_dead x ≡ none_dead r
refused_with zero x n = absurd (n refl)
refused_with (suc r) x n = refl

module _ (s : Shape) (t c : List ℕ) where
  pub dead-number : (dead_answer s t c).refusal.number ≡ summary_refusal s t c
  dead-number = ap (λ (y : Refusal). y.number) (dead-refusal s t c)

  pub dead-refused_with : (dead_answer s t c).refusal.number ≢ 0 → dead_answer s t c ≡ none_dead (dead_answer s t c).refusal.number
  unfolding dead_answer
  dead-refused_with n =
      refused_with (summary_refusal s t c) (first_dead s c (switches_in s)) (λ e. n (dead-number ∙ e)) ∙ ap none_dead (sym dead-number)

  module _ (z : (dead_answer s t c).refusal.number ≡ 0) where
    asked : summary_refusal s t c ≡ 0
    asked = sym dead-number ∙ z

    pub dead_tells : TellsFirst s t (dead_answer s t c)
    unfolding dead_answer
    dead_tells =
        let q = summary-of s t c asked in
        subst (TellsFirst s t) (sym (answer-none _ none_dead _ (sym asked))) (tells_first q.0 (subst (Right s t) (sym q.2) (summary_right s t)))

    pub dead-only : (x : DeadSwitch) → TellsFirst s t x → x ≡ dead_answer s t c
    dead-only x p = tells_one p dead_tells

    -- none exactly when there is none
    pub none-exactly : ((dead_answer s t c).found ≡ false) ↔ ((l w : ℕ) → DeadOne s t l w → ⊥)
    none-exactly = (dead_tells.nothing, λ n. go n (dead_answer s t c).found refl)
      where
        go : ((l w : ℕ) → DeadOne s t l w → ⊥) → (b : Bool) → (dead_answer s t c).found ≡ b → b ≡ false
        go n true e = absurd (n _ _ (dead_tells.dead e))
        go n false e = refl

    pub some-exactly : ((dead_answer s t c).found ≡ true) ↔ ((l : ℕ) × (w : ℕ) × DeadOne s t l w)
    some-exactly = (λ e. (_, _, dead_tells.dead e), λ d. go d (dead_answer s t c).found refl)
      where
        go : ((l : ℕ) × (w : ℕ) × DeadOne s t l w) → (b : Bool) → (dead_answer s t c).found ≡ b → b ≡ true
        go d true e = refl
        go d false e = absurd (dead_tells.nothing e d.0 d.1 d.2)

-- the question is not refused exactly when the summary is right
pub question-exactly : (s : Shape) (t c : List ℕ) → ((dead_answer s t c).refusal.number ≡ 0) ↔ (Valid s × TableOf s t × Right s t c)
question-exactly s t c = (
  λ z. let q = summary-of s t c (sym (dead-number s t c) ∙ z) in (q.0, q.1, subst (Right s t) (sym q.2) (summary_right s t)),
  λ p. dead-number s t c ∙ ap (summary_refusal s t) (right_summary s t c p.2) ∙ sym (summary_none p.0 p.1),
)
