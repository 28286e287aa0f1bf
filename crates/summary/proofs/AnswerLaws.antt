-- What each call with a summary answers and leaves: r is the reason that a test gave.
use Prim.Native.Nat.{ℕ, zero, suc, ◌≤◌, ◌<◌, suc-le-suc}
use mathlib.Core.Path.{◌≡◌, refl, sym, ap, ◌∙◌}
use mathlib.Core.Bool.{Bool, true, false, true≢false, cond}
use mathlib.Core.List.{List, [], ◌∷◌}
use native.Mathlib.Omega.{arith}
use lib.ListN.{length, get_or}
use Rattle.std.specs.Prelude.{Result, Option, Some, None, IsErrAnd}
use Rattle.refusals.specs.declared.Reason.{Reason}
use Rattle.refusals.specs.Refusals.{Refusal, none, plain, answer}
use Rattle.refusals.specs.Reasons.{number_of, told, tells}
use Rattle.refusals.proofs.ReasonLaws.{told-is, reason-some, told-same, tells-same}
use Rattle.refusals.proofs.AnswerLaws.{answer-refused, answer-given}
use Rattle.room.specs.declared.Shape.{Shape}
use Rattle.room.specs.declared.Switch.{Switch}
use Rattle.room.specs.Refusals.{shape_refusal}
use Rattle.room.proofs.RefusalLaws.{valid-none}
use Rattle.room.proofs.RoomLaws.{switches-small}
use Rattle.links.specs.Table.{changed}
use Rattle.summary.specs.Told.{DeadSwitch}
use Rattle.summary.specs.Counts.{switches_in, summary_of, is_dead, recounted, recounted_below}
use Rattle.summary.specs.Refusals.{has_entries, counted_link_refusal, counted_server_refusal, summary_refusal, entries_refusal}
use Rattle.summary.specs.Inside.{CountedLink, CountedServer}
use Rattle.summary.specs.Answers.{link_answer, link_table, link_summary, changed_server, server_answer, server_table, server_summary, none_dead, dead_at, the_dead, first_dead, dead_answer, fresh_answer, fresh_summary}
use Rattle.summary.proofs.RefusalLaws.{counted-link_of, counted-server_of, summary-of, long-entries}
use Rattle.summary.proofs.PlaceLaws.{place_at, place_onto, summary_long}

-- ---- a link marked or cleared

module _ (s : Shape) (t c : List ℕ) (a l : ℕ) where
  module _ (r : ℕ) (e : r ≡ counted_link_refusal s t c a l) (b : Bool) (n : r ≡ 0 → ⊥) where
    pub link_keeps : t ≡ link_table b s t c a l
    unfolding link_table
    link_keeps = answer-refused r _ (λ (q : ℕ). t) t _ refl e n

    pub link_keeps_summary : c ≡ link_summary b s t c a l
    unfolding link_summary
    link_keeps_summary = answer-refused r _ (λ (q : ℕ). c) c _ refl e n

  -- x passes on the reason of the test
  pub link-refused : (r : Reason) → number_of r ≡ counted_link_refusal s t c a l → (x : Result (Unit {0}) Reason) → IsErrAnd x (λ q. q ≡ r) → (b : Bool) → (plain (told x) ≡ link_answer s t c a l) × (t ≡ link_table b s t c a l) × (c ≡ link_summary b s t c a l)
  unfolding link_answer
  link-refused r e x h b =
      let n = reason-some r in
      (ap plain (told-is x r h ∙ e), link_keeps _ e b n, link_keeps_summary _ e b n)

  module _ (e : 0 ≡ counted_link_refusal s t c a l) where
    pub link-counted : CountedLink s t c a l
    link-counted = counted-link_of s t c a l (sym e)

    pub link-done : (b : Bool) (u d : List ℕ) → (u ≡ changed b a l t) × (d ≡ recounted s (changed b a l t) a l c) → (none ≡ link_answer s t c a l) × (u ≡ link_table b s t c a l) × (d ≡ link_summary b s t c a l)
    unfolding link_answer link_table link_summary
    link-done b u d q = (ap plain e, answer-given 0 _ (λ (y : ℕ). t) u _ e refl q.0, answer-given 0 _ (λ (y : ℕ). c) d _ e refl q.1)

-- ---- all links of a server

module _ (s : Shape) (t c : List ℕ) (a : ℕ) where
  module _ (r : ℕ) (e : r ≡ counted_server_refusal s t c a) (b : Bool) (n : r ≡ 0 → ⊥) where
    pub server_keeps : t ≡ server_table b s t c a
    unfolding server_table
    server_keeps = answer-refused r _ (λ (q : ℕ). t) t _ refl e n

    pub server_keeps_summary : c ≡ server_summary b s t c a
    unfolding server_summary
    server_keeps_summary = answer-refused r _ (λ (q : ℕ). c) c _ refl e n

  -- x passes on the reason of the test
  pub server-refused : (r : Reason) → number_of r ≡ counted_server_refusal s t c a → (x : Result (Unit {0}) Reason) → IsErrAnd x (λ q. q ≡ r) → (b : Bool) → (plain (told x) ≡ server_answer s t c a) × (t ≡ server_table b s t c a) × (c ≡ server_summary b s t c a)
  unfolding server_answer
  server-refused r e x h b =
      let n = reason-some r in
      (ap plain (told-is x r h ∙ e), server_keeps _ e b n, server_keeps_summary _ e b n)

  module _ (e : 0 ≡ counted_server_refusal s t c a) where
    pub server-counted : CountedServer s t c a
    server-counted = counted-server_of s t c a (sym e)

    pub server-done : (b : Bool) (u d : List ℕ) → (u ≡ changed_server b s a t) × (d ≡ recounted_below s (changed_server b s a t) a (suc s.k) c) → (none ≡ server_answer s t c a) × (u ≡ server_table b s t c a) × (d ≡ server_summary b s t c a)
    unfolding server_answer server_table server_summary
    server-done b u d q = (ap plain e, answer-given 0 _ (λ (y : ℕ). t) u _ e refl q.0, answer-given 0 _ (λ (y : ℕ). c) d _ e refl q.1)

-- ---- the first dead switch

module _ (s : Shape) (t c : List ℕ) (e : 0 ≡ summary_refusal s t c) where
  pub dead-room : shape_refusal s ≡ 0
  dead-room = sym (valid-none (summary-of s t c (sym e)).0)

  pub dead-entries : has_entries s c ≡ true
  dead-entries = long-entries s c (ap length (summary-of s t c (sym e)).2 ∙ summary_long s t)

  pub dead-given : (x : DeadSwitch) → x ≡ first_dead s c (switches_in s) → x ≡ dead_answer s t c
  unfolding dead_answer
  dead-given x f = answer-given 0 _ none_dead x _ e refl f

-- two results that tell the same are one
pub dead-same : (x y : Result (Option Switch) Reason) → tells none_dead the_dead x ≡ tells none_dead the_dead y → x ≡ y
dead-same = tells-same none_dead the_dead (λ (x : DeadSwitch). x.refusal.number) switch-in (λ r. refl) no_refusal switch-back
  where
    switch-in : DeadSwitch → Option Switch
    switch-in x = cond x.found (Some (record { level = x.level; number = x.number })) None

    no_refusal : (x : Option Switch) → (the_dead x).refusal.number ≡ 0
    no_refusal None = refl
    no_refusal (Some w) = refl

    switch-back : (x : Option Switch) → switch-in (the_dead x) ≡ x
    switch-back None = refl
    switch-back (Some w) = refl

-- the level and the number of the first are those of one of the switches, or 0
first_small : (s : Shape) (c : List ℕ) (ps : List (ℕ × ℕ)) → ((i : ℕ) → i < length ps → ((get_or ps i (0, 0)).0 ≤ 3) × ((get_or ps i (0, 0)).1 < 4096)) → ((first_dead s c ps).level ≤ 3) × ((first_dead s c ps).number < 4096)
unfolding first_dead
first_small s c [] h = (omega arith, omega arith)
first_small s c (p ∷ ps) h = go (is_dead s c p.0 p.1) (first_small s c ps (λ i q. h (suc i) (suc-le-suc q)))
  where
    go : (b : Bool) → ((first_dead s c ps).level ≤ 3) × ((first_dead s c ps).number < 4096) → ((cond b (dead_at p.0 p.1) (first_dead s c ps)).level ≤ 3) × ((cond b (dead_at p.0 p.1) (first_dead s c ps)).number < 4096)
    go true k = h 0 (omega arith)
    go false k = k

pub first-refusal : (s : Shape) (c : List ℕ) (ps : List (ℕ × ℕ)) → (first_dead s c ps).refusal ≡ none
unfolding first_dead
first-refusal s c [] = refl
first-refusal s c (p ∷ ps) = go (is_dead s c p.0 p.1) (first-refusal s c ps)
  where
    go : (b : Bool) → (first_dead s c ps).refusal ≡ none → (cond b (dead_at p.0 p.1) (first_dead s c ps)).refusal ≡ none
    go true k = refl
    go false k = k

pub dead-refusal : (s : Shape) (t c : List ℕ) → (dead_answer s t c).refusal ≡ plain (summary_refusal s t c)
unfolding dead_answer
dead-refusal s t c = go (summary_refusal s t c)
  where
    go : (r : ℕ) → (answer r none_dead (first_dead s c (switches_in s))).refusal ≡ plain r
    go zero = first-refusal s c (switches_in s)
    go (suc r) = refl

pub dead-small : (s : Shape) (t c : List ℕ) → ((dead_answer s t c).level ≤ 3) × ((dead_answer s t c).number < 4096)
unfolding dead_answer
dead-small s t c = go (summary_refusal s t c) refl
  where
    within : summary_refusal s t c ≡ 0 → (i : ℕ) → i < length (switches_in s) → ((get_or (switches_in s) i (0, 0)).0 ≤ 3) × ((get_or (switches_in s) i (0, 0)).1 < 4096)
    within z i q =
        let v = (summary-of s t c z).0 in
        let x = place_onto v i q in
        let w = x.1.switch in
        let e : get_or (switches_in s) i (0, 0) ≡ (x.0.level, x.0.number) = ap (λ (j : ℕ). get_or (switches_in s) j (0, 0)) (sym x.1.place) ∙ place_at w in
        let a = ap (λ (p : ℕ × ℕ). p.0) e in
        let b = ap (λ (p : ℕ × ℕ). p.1) e in
        (omega (arith, w.level, v.levels), omega (arith, w.number, switches-small v x.0.level))

    go : (r : ℕ) → summary_refusal s t c ≡ r → ((answer r none_dead (first_dead s c (switches_in s))).level ≤ 3) × ((answer r none_dead (first_dead s c (switches_in s))).number < 4096)
    go zero z = first_small s c (switches_in s) (within z)
    go (suc r) z = (omega arith, omega arith)

-- none found has level 0 and number 0
pub first-zeros : (s : Shape) (c : List ℕ) (ps : List (ℕ × ℕ)) → (first_dead s c ps).found ≡ false → ((first_dead s c ps).level ≡ 0) × ((first_dead s c ps).number ≡ 0)
unfolding first_dead
first-zeros s c [] h = (refl, refl)
first-zeros s c (p ∷ ps) h = go (is_dead s c p.0 p.1) (first-zeros s c ps) h
  where
    go : (b : Bool) → ((first_dead s c ps).found ≡ false → ((first_dead s c ps).level ≡ 0) × ((first_dead s c ps).number ≡ 0)) → (cond b (dead_at p.0 p.1) (first_dead s c ps)).found ≡ false → ((cond b (dead_at p.0 p.1) (first_dead s c ps)).level ≡ 0) × ((cond b (dead_at p.0 p.1) (first_dead s c ps)).number ≡ 0)
    go true k e = absurd (true≢false e)
    go false k e = k e

pub dead-zeros : (s : Shape) (t c : List ℕ) → (dead_answer s t c).found ≡ false → ((dead_answer s t c).level ≡ 0) × ((dead_answer s t c).number ≡ 0)
unfolding dead_answer
dead-zeros s t c = go (summary_refusal s t c)
  where
    go : (r : ℕ) → (answer r none_dead (first_dead s c (switches_in s))).found ≡ false → ((answer r none_dead (first_dead s c (switches_in s))).level ≡ 0) × ((answer r none_dead (first_dead s c (switches_in s))).number ≡ 0)
    go zero e = first-zeros s c (switches_in s) e
    go (suc r) e = (refl, refl)

-- ---- the summary counted afresh

module _ (s : Shape) (t c : List ℕ) where
  pub fresh_keeps : (r : ℕ) → r ≡ entries_refusal s t c → (r ≡ 0 → ⊥) → c ≡ fresh_summary s t c
  unfolding fresh_summary
  fresh_keeps r e n = answer-refused r _ (λ (q : ℕ). c) c _ refl e n

  -- x passes on the reason of the test
  pub fresh-refused : (r : Reason) → number_of r ≡ entries_refusal s t c → (x : Result (Unit {0}) Reason) → IsErrAnd x (λ q. q ≡ r) → (plain (told x) ≡ fresh_answer s t c) × (c ≡ fresh_summary s t c)
  unfolding fresh_answer
  fresh-refused r e x h = (ap plain (told-is x r h ∙ e), fresh_keeps _ e (reason-some r))

  pub fresh-done : 0 ≡ entries_refusal s t c → (d : List ℕ) → d ≡ summary_of s t → (none ≡ fresh_answer s t c) × (d ≡ fresh_summary s t c)
  unfolding fresh_answer fresh_summary
  fresh-done e d q = (ap plain e, answer-given 0 _ (λ (y : ℕ). c) d _ e refl q)

-- two results that tell the same refusal are one
pub plain-same : (x y : Result (Unit {0}) Reason) → plain (told x) ≡ plain (told y) → x ≡ y
plain-same x y e = told-same x y (ap (λ (z : Refusal). z.number) e)
