-- The answers of the calls with a summary fit the result word, and what the word then says.
use Prim.Native.Nat.{ℕ, ◌+◌, ◌*◌, ◌≤◌, ◌<◌}
use mathlib.Core.Path.{◌≡◌, refl, sym, ap, ◌∙◌, subst}
use mathlib.Core.List.{List}
use mathlib.Core.Bool.{Bool, true, false, cond}
use native.Mathlib.Omega.{arith}
use lib.Dec.{lit<}
use mir.Syntax.{w64}
use mir.Val.{Fits}
use Rattle.refusals.specs.Refusals.{Refusal}
use Rattle.refusals.proofs.NumberLaws.{one_le}
use Rattle.room.specs.declared.Shape.{Shape}
use Rattle.summary.specs.Told.{DeadSwitch}
use Rattle.summary.specs.Answers.{link_answer, server_answer, dead_answer, fresh_answer}
use Rattle.summary.proofs.NumberLaws.{counted-link-numbers, counted-server-numbers, summary-numbers, entries-numbers}
use Rattle.summary.proofs.AnswerLaws.{dead-small, dead-refusal}
use Rattle.driver.specs.declared.Answer.{Answer}
use Rattle.driver.specs.Words.{word, dead_word, Small}
use Rattle.driver.proofs.RoomSmall.{plain_fits}

-- marking and clearing, and counting afresh, say the refusal alone
module _ (s : Shape) (t c : List ℕ) {x : Refusal} where
  pub link_fits : (a l : ℕ) → x ≡ link_answer s t c a l → Small x 0
  unfolding link_answer
  link_fits a l e = plain_fits 0 (one_le 255 refl (counted-link-numbers s t c a l)) (lit< tt) refl e

  pub server-fits : (a : ℕ) → x ≡ server_answer s t c a → Small x 0
  unfolding server_answer
  server-fits a e = plain_fits 0 (one_le 255 refl (counted-server-numbers s t c a)) (lit< tt) refl e

  pub fresh-fits : x ≡ fresh_answer s t c → Small x 0
  unfolding fresh_answer
  fresh-fits e = plain_fits 0 (one_le 255 refl (entries-numbers s t c)) (lit< tt) refl e

-- the first dead switch: x is what the program found
module _ (s : Shape) (t c : List ℕ) {x : DeadSwitch} (e : x ≡ dead_answer s t c) where
  small : (x.level ≤ 3) × (x.number < 4096)
  small = subst (λ (z : DeadSwitch). (z.level ≤ 3) × (z.number < 4096)) (sym e) (dead-small s t c)

  pub level-fits : Fits w64 (65536 * x.level)
  level-fits = omega (arith, small.0)

  pub found-fits : Fits w64 (16777216 + 65536 * x.level)
  found-fits = omega (arith, small.0)

  pub number_fits : Fits w64 (16777216 + 65536 * x.level + x.number)
  number_fits = omega (arith, small.0, small.1)

  pub dead_with : (v : ℕ) → v < 4294967296 → Small x.refusal v
  dead_with v k = plain_fits v (one_le 255 refl (summary-numbers s t c)) k refl (ap (λ (y : DeadSwitch). y.refusal) e ∙ dead-refusal s t c)

  pub dead-fits : Small x.refusal (16777216 + 65536 * x.level + x.number)
  dead-fits = dead_with _ (omega (arith, small.0, small.1))

pub dead_said : (f : Shape → DeadSwitch) {s t : Shape} {x : DeadSwitch} {w : Answer} → w ≡ word x.refusal (16777216 + 65536 * x.level + x.number) → x.found ≡ true → x ≡ f s → s ≡ t → w ≡ dead_word (f t)
unfolding dead_word
dead_said f {s} {t} {x} {w} h q e g =
    h ∙ ap (λ (b : Bool). word x.refusal (cond b (16777216 + 65536 * x.level + x.number) 0)) (sym q) ∙ ap dead_word (e ∙ ap f g)

pub none_said : (f : Shape → DeadSwitch) {s t : Shape} {x : DeadSwitch} {w : Answer} → w ≡ word x.refusal 0 → x.found ≡ false → x ≡ f s → s ≡ t → w ≡ dead_word (f t)
unfolding dead_word
none_said f {s} {t} {x} {w} h q e g =
    h ∙ ap (λ (b : Bool). word x.refusal (cond b (16777216 + 65536 * x.level + x.number) 0)) (sym q) ∙ ap dead_word (e ∙ ap f g)
