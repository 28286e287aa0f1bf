-- Laws of the entries, place by place: what a switch's entry is, all of them compared, the first that is full, all of them written.
use Prim.Native.Nat.{ℕ, suc, ◌+◌, ◌≤◌, ◌<◌}
use mathlib.Core.Path.{◌≡◌, refl, sym, ap, ap₂, ◌∙◌, subst}
use mathlib.Core.Bool.{Bool, true, false, cond}
use mathlib.Core.List.{List, ◌∷◌}
use native.Mathlib.Omega.{arith}
use lib.Dec.{eqb}
use lib.ListN.{length, get_or, drop, drop_of_length-le}
use lib.Seq.{ext_get_or}
use borrow.Author.Tests.{eq-eqb, ne_eqb}
use Rattle.std.specs.Prelude.{◌↔◌, IsTrue, Result, Ok, Err, Some}
use Rattle.std.specs.Result.{IsOk}
use Rattle.lists.specs.Lists.{same}
use Rattle.lists.proofs.ListLaws.{left, same_self, same_true}
use Rattle.refusals.specs.declared.Reason.{Reason}
use Rattle.refusals.specs.Reasons.{tells}
use Rattle.refusals.proofs.ReasonLaws.{reason-some}
use Rattle.room.specs.declared.Shape.{Shape}
use Rattle.room.specs.declared.Switch.{Switch as Named}
use Rattle.room.specs.Told.{Switch}
use Rattle.room.specs.Shapes.{bound, Link}
use Rattle.room.specs.Addresses.{switch_of}
use Rattle.room.specs.Answers.{no_switch, the_switch, switch_answer}
use Rattle.room.proofs.AnswerLaws.{switch-answered}
use Rattle.summary.specs.Told.{DeadSwitch}
use Rattle.summary.specs.Counts.{switches_in, place_of, count_at, summary_of, is_dead, IsSwitch}
use Rattle.summary.specs.Refusals.{has_entries, is_counted, are_counted}
use Rattle.summary.specs.Inside.{StandsAt}
use Rattle.summary.specs.Answers.{none_dead, dead_at, the_dead, first_dead}
use Rattle.summary.proofs.PlaceLaws.{place_lt, place_at, summary_at, summary_long, link-switch}
use Rattle.summary.proofs.RefusalLaws.{entries-long, counted-below, below-counted}

-- ---- the switch of a link of the room: it is not refused

pub switch-told : {s : Shape} {a l : ℕ} → Link s a l → (y : Result Named Reason) → tells no_switch the_switch y ≡ switch_answer s a l → IsOk y
switch-told h (Ok x) e = refl
switch-told h (Err r) e = absurd (reason-some r (ap (λ (z : Switch). z.refusal.number) (switch-answered h _ e)))

-- y is what the program was told, x the switch in it, i the place of its entry
module _ (s : Shape) (a l : ℕ) (h : Link s a l) (y : Result Named Reason) (e : tells no_switch the_switch y ≡ switch_answer s a l) (x : Named) (f : y ≡ Ok x) where
  number : x.number ≡ switch_of s l a
  number = ap (λ (z : Switch). z.number) (switch-answered h (the_switch x) (ap (tells no_switch the_switch) (sym f) ∙ e))

  pub found-switch : IsSwitch s l x.number
  found-switch = subst (IsSwitch s l) (sym number) (link-switch h)

  -- r is the shape of its order
  module _ (r : Shape) (q : r ≡ s) where
    pub order-switch : IsSwitch r l x.number
    order-switch = subst (λ (z : Shape). IsSwitch z l x.number) (sym q) found-switch

    module _ (i : ℕ) (p : i ≡ place_of r l x.number) (c : List ℕ) where
      pub found-place : i ≡ place_of s l (switch_of s l a)
      found-place = p ∙ ap₂ (λ (z : Shape) (w : ℕ). place_of z l w) q number

      pub found_inside : has_entries s c ≡ true → i < length c
      found_inside n = omega (arith, found-place, place_lt (link-switch h), entries-long s c n)

      pub found-counted : (t : List ℕ) (v : ℕ) → v ≡ count_at s t l x.number → eqb (get_or c i 0) v ≡ is_counted s t c a l
      unfolding is_counted
      found-counted t v f = ap₂ (λ (y z : ℕ). eqb (get_or c y 0) z) found-place (f ∙ ap (count_at s t l) number)

-- two tests that hold alike are the same
alike : (x y : Bool) → (x ≡ true → y ≡ true) → (y ≡ true → x ≡ true) → x ≡ y
alike true y f g = sym (f refl)
alike false true f g = g refl
alike false false f g = refl

-- ---- at all levels of a server: b says whether those at levels 0 to k are what the table counts

pub counted-levels : (s : Shape) (t c : List ℕ) (a : ℕ) (b : Bool) → IsTrue b ↔ ((l : ℕ) → l ≤ s.k → is_counted s t c a l ≡ true) → b ≡ are_counted s t c a (suc s.k)
counted-levels s t c a b h =
    alike b _
    (λ e. below-counted s t c a (suc s.k) (λ l p. h.0 e l (omega arith)))
    (λ e. h.1 (λ l p. counted-below s t c a (suc s.k) e l (omega arith)))

-- ---- an entry by its place: x is the switch that the program found there

module _ (s : Shape) (i : ℕ) (x : Named) (h : StandsAt s i x) where
  pub entry-count : (t : List ℕ) (r : ℕ) → r ≡ count_at s t x.level x.number → r ≡ get_or (summary_of s t) i 0
  entry-count t r e = e ∙ sym (summary_at h.switch t) ∙ ap (λ (j : ℕ). get_or (summary_of s t) j 0) h.place

  inside : i < length (switches_in s)
  inside = omega (arith, h.place, place_lt h.switch)

  -- that switch comes next
  comes : drop i (switches_in s) ≡ (x.level, x.number) ∷ drop (i + 1) (switches_in s)
  comes =
      left (switches_in s) i (0, 0) inside
      ∙ ap (λ (p : ℕ × ℕ). p ∷ drop (i + 1) (switches_in s)) (ap (λ (j : ℕ). get_or (switches_in s) j (0, 0)) (sym h.place) ∙ place_at h.switch)

  dead-next : (c : List ℕ) → first_dead s c (drop i (switches_in s)) ≡ cond (eqb (get_or c i 0) (bound s x.level)) (dead_at x.level x.number) (first_dead s c (drop (i + 1) (switches_in s)))
  unfolding first_dead is_dead
  dead-next c =
      ap (first_dead s c) comes
      ∙ ap (λ (j : ℕ). cond (eqb (get_or c j 0) (bound s x.level)) (dead_at x.level x.number) (first_dead s c (drop (i + 1) (switches_in s)))) h.place

-- the same, r being the shape of its order
module _ (s r : Shape) (q : r ≡ s) (i : ℕ) (x : Named) (g : StandsAt r i x) (c : List ℕ) (m : ℕ) (e : m ≡ bound s x.level) (y : DeadSwitch) (k : first_dead s c (drop i (switches_in s)) ≡ y) where
  next : first_dead s c (drop i (switches_in s)) ≡ cond (eqb (get_or c i 0) (bound s x.level)) (dead_at x.level x.number) (first_dead s c (drop (i + 1) (switches_in s)))
  next = dead-next s i x (subst (λ (z : Shape). StandsAt z i x) q g) c

  -- its entry is the bound, and it is the first; or it is not, and the first is one after it
  pub dead-here : get_or c i 0 ≡ m → the_dead (Some x) ≡ y
  dead-here f =
      let z : dead_at x.level x.number ≡ first_dead s c (drop i (switches_in s)) = rw (next, eq-eqb (get_or c i 0) (bound s x.level) (f ∙ e)) in
      z ∙ k

  pub dead_on : (get_or c i 0 ≡ m → ⊥) → first_dead s c (drop (i + 1) (switches_in s)) ≡ y
  dead_on n =
      let z : first_dead s c (drop (i + 1) (switches_in s)) ≡ first_dead s c (drop i (switches_in s)) = rw (next, ne_eqb (get_or c i 0) (bound s x.level) (λ f. n (f ∙ sym e))) in
      z ∙ k

pub dead-none : (s : Shape) (c : List ℕ) (i : ℕ) → has_entries s c ≡ true → length c ≤ i → (y : DeadSwitch) → first_dead s c (drop i (switches_in s)) ≡ y → none_dead 0 ≡ y
unfolding first_dead
dead-none s c i n h y k =
    let g : length (switches_in s) ≤ i = omega (arith, entries-long s c n) in
    sym (ap (first_dead s c) (drop_of_length-le (switches_in s) g)) ∙ k

pub entry-inside : (s r : Shape) (c : List ℕ) (i : ℕ) → r ≡ s → has_entries s c ≡ true → i < length c → i < length (switches_in r)
entry-inside s r c i q n h = rw q (omega (arith, entries-long s c n))

-- ---- all entries written, where d stood: each is what the table counts

pub all-written : (s r : Shape) (t c d : List ℕ) → r ≡ s → has_entries s d ≡ true → length c ≡ length d → ((j : ℕ) → j < length d → get_or c j 0 ≡ get_or (summary_of r t) j 0) → c ≡ summary_of s t
all-written s r t c d q n e h =
    ext_get_or 0 c (summary_of s t) (e ∙ entries-long s d n ∙ sym (summary_long s t))
    (λ j p. h j (omega (arith, e)) ∙ ap (λ (z : Shape). get_or (summary_of z t) j 0) q)

-- ---- all entries compared: b says whether each is what the table counts

pub counted-entries : (s r : Shape) (t c : List ℕ) → r ≡ s → has_entries s c ≡ true → (b : Bool) → IsTrue b ↔ ((i : ℕ) → i < length c → get_or c i 0 ≡ get_or (summary_of r t) i 0) → b ≡ same c (summary_of s t)
counted-entries s r t c q n b h =
    alike b _
    (λ e. ap (same c) (sym (all-written s r t c c q n refl (h.0 e))) ∙ same_self c)
    (λ e. h.1 (λ i p. ap (λ (d : List ℕ). get_or d i 0) (same_true c (summary_of s t) e) ∙ ap (λ (z : Shape). get_or (summary_of z t) i 0) (sym q)))
