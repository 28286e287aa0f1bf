-- Wrong answers of `step`, refuted.
use Prim.Native.Nat.{ℕ, zero, suc}
use mathlib.Core.Path.{◌≡◌, refl, sym, ap, ◌∙◌}
use mathlib.Core.Logic.{◌≢◌, ◌⊎◌, inl, inr}
use mathlib.Core.Bool.{Bool, true, false, cond}
use mathlib.Core.List.{List}
use lib.Dec.{eqb}
use lib.ListN.{get_or}
use borrow.Author.Tests.{ne_eqb}
use Rattle.lists.specs.Lists.{filled}
use Rattle.refusals.specs.Refusals.{◌or_else◌, answer}
use Rattle.room.specs.declared.Shape.{Shape}
use Rattle.room.specs.Shapes.{servers_of, bound}
use Rattle.room.specs.Digits.{digits_of, address_of}
use Rattle.room.specs.Addresses.{digits, digit, with_digit}
use Rattle.room.specs.Refusals.{shape_refusal, server_refusal, pair_refusal}
use Rattle.path.specs.Routes.{level_of}
use Rattle.path.specs.Walks.{hop_to, hop_refusal}
use Rattle.path.proofs.HopLaws.{hop-exactly, hop-neighbours}
use Rattle.step.specs.Told as declared
use Rattle.step.specs.Steps.{entry, mac_at, port_at, flag_at, given_refusal, byte_refusal, away_refusal, step_refusal, at_hop, with_place, no_step, delivery, forwarded, step_answer}
use Rattle.step.proofs.StepLaws.{goes_of}
use Rattle.wrong.specs.Never.{Loan}
use Rattle.wrong.specs.Step.{Step}
use Rattle.wrong.proofs.Clash.{differ, bit, clash_told}

-- ---- any step

-- the old value of a step that is made
old-left : (s : Shape) (a d i : ℕ) (bs es : List ℕ) {y : declared.Step} → step_refusal s a d i bs es ≡ 0 → a ≢ d → y ≡ step_answer s a d i bs es → y.old ≡ digit s (level_of (get_or bs i 0)) a
unfolding step_answer
old-left s a d i bs es z away p =
    let g : step_answer s a d i bs es ≡ forwarded s a i es (get_or bs i 0) = rw (z, ne_eqb a d away) in
    ap (λ (h : declared.Step). h.old) (p ∙ g)

-- a delivery, or a refusal: no level and no old value
pub nothing_left : (s : Shape) (a d i : ℕ) (bs es : List ℕ) {y : declared.Step} → y ≡ step_answer s a d i bs es → (y.delivered ≡ true) ⊎ (y.refusal.number ≢ 0) → (y.level ≡ 0) × (y.old ≡ 0)
unfolding step_answer
nothing_left s a d i bs es {y} e o = go (step_refusal s a d i bs es) (eqb a d) e o
  where
    go : (r : ℕ) (t : Bool) → y ≡ answer r (λ j. no_step (with_place i j)) (cond t delivery (forwarded s a i es (get_or bs i 0))) → (y.delivered ≡ true) ⊎ (y.refusal.number ≢ 0) → (y.level ≡ 0) × (y.old ≡ 0)
    go zero true f p = (ap (λ (h : declared.Step). h.level) f, ap (λ (h : declared.Step). h.old) f)
    go zero false f (inl t) = absurd (differ bit refl (sym (ap (λ (h : declared.Step). h.delivered) f) ∙ t))
    go zero false f (inr n) = absurd (n (ap (λ (h : declared.Step). h.refusal.number) f))
    go (suc r) t f p = (ap (λ (h : declared.Step). h.level) f, ap (λ (h : declared.Step). h.old) f)

-- ---- all of them

pub wrong-step : (q e : Loan) → Step q e
unfolding servers_of bound digits_of address_of digits digit with_digit ◌or_else◌ shape_refusal server_refusal pair_refusal filled hop_to hop_refusal entry mac_at port_at flag_at given_refusal byte_refusal away_refusal step_refusal at_hop with_place step_answer
wrong-step q e =
    record {
      index_before_arrival = clash_told _ (λ (y : declared.Step). y.refusal.number) refl;
      delivered_with_index = clash_told _ (λ (y : declared.Step). y.index) refl;
      index_not_raised = clash_told _ (λ (y : declared.Step). y.index) refl;
      flag_2_taken = clash_told _ (λ (y : declared.Step). y.refusal.number) refl;
      hop_is_the_index = clash_told _ (λ (y : declared.Step). y.refusal.hop) refl;
      index_told_as_hop = clash_told _ (λ (y : declared.Step). y.refusal.hop) refl;
      flag_before_no_change = clash_told _ (λ (y : declared.Step). y.refusal.number) refl;
      value_m_taken = clash_told _ (λ (y : declared.Step). y.refusal.number) refl;
      four_for_nine = clash_told _ (λ (y : declared.Step). y.refusal.number) refl;
      flag_before_value = clash_told _ (λ (y : declared.Step). y.refusal.number) refl;
      value_3_refused = clash_told _ (λ (y : declared.Step). y.refusal.number) refl;
      here_in_the_full_room = clash_told _ (λ (y : declared.Step). y.refusal.number) refl;
      new_value_told = clash_told _ (λ (y : declared.Step). y.old) refl;
      new_value_told_at_level_k = clash_told _ (λ (y : declared.Step). y.old) refl;
      any_new_value_told = λ s a d i bs es z away κ y x p f. let g = goes_of s a d i bs es z away in ((hop-exactly g.given.here (get_or bs i 0)).0 g.taken).1 (sym (old-left s a d i bs es z away p) ∙ f);
      old_of_the_destination = clash_told _ (λ (y : declared.Step). y.old) refl;
      any_digit_of_the_next_told = λ s a d i bs es z away κ y x p f. let g = goes_of s a d i bs es z away in (hop-neighbours g.given.here (get_or bs i 0) g.taken).differ (sym (old-left s a d i bs es z away p) ∙ f);
      step_fields_exchanged = λ κ x e. differ (λ (y : declared.Step). y.level) refl e;
      next_and_index_exchanged = λ κ x e. differ (λ (y : declared.Step). y.next) refl e;
      delivered_on_the_way = λ κ x e. differ (λ (y : declared.Step). bit y.delivered) refl e;
      level_and_old_exchanged = clash_told _ (λ (y : declared.Step). y.level) refl;
      level_from_1 = clash_told _ (λ (y : declared.Step). y.level) refl;
      level_of_the_next_byte = clash_told _ (λ (y : declared.Step). y.level) refl;
      old_of_the_next_byte = clash_told _ (λ (y : declared.Step). y.old) refl;
      port_told_as_level = clash_told _ (λ (y : declared.Step). y.level) refl;
      level_told_as_port = clash_told _ (λ (y : declared.Step). y.port) refl;
      level_not_told = clash_told _ (λ (y : declared.Step). y.level) refl;
      old_not_told = clash_told _ (λ (y : declared.Step). y.old) refl;
      level_of_the_first_byte = clash_told _ (λ (y : declared.Step). y.level) refl;
      old_of_the_hop_before = clash_told _ (λ (y : declared.Step). y.old) refl;
      level_at_delivery = clash_told _ (λ (y : declared.Step). y.level) refl;
      old_at_delivery = clash_told _ (λ (y : declared.Step). y.old) refl;
      last_level_at_delivery = clash_told _ (λ (y : declared.Step). y.level) refl;
      last_old_at_delivery = clash_told _ (λ (y : declared.Step). y.old) refl;
      any_level_at_delivery = λ s a d i bs es y t h κ r x p e. h (nothing_left s a d i bs es (sym e ∙ p) (inl t)).0;
      any_old_at_delivery = λ s a d i bs es y t h κ r x p e. h (nothing_left s a d i bs es (sym e ∙ p) (inl t)).1;
      level_with_19 = clash_told _ (λ (y : declared.Step). y.level) refl;
      old_with_19 = clash_told _ (λ (y : declared.Step). y.old) refl;
      level_with_18 = clash_told _ (λ (y : declared.Step). y.level) refl;
      old_with_18 = clash_told _ (λ (y : declared.Step). y.old) refl;
      level_with_10 = clash_told _ (λ (y : declared.Step). y.level) refl;
      old_with_10 = clash_told _ (λ (y : declared.Step). y.old) refl;
      old_with_9 = clash_told _ (λ (y : declared.Step). y.old) refl;
      level_with_8 = clash_told _ (λ (y : declared.Step). y.level) refl;
      any_level_on_refusal = λ s a d i bs es y n h κ r x p e. h (nothing_left s a d i bs es (sym e ∙ p) (inr n)).0;
      any_old_on_refusal = λ s a d i bs es y n h κ r x p e. h (nothing_left s a d i bs es (sym e ∙ p) (inr n)).1;
    }
