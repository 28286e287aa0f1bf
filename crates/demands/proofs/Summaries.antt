-- Demand 2, proved: the summary beside the failed-link table.
use Prim.Native.Nat.{ℕ, suc, ◌≤◌}
use mathlib.Core.Path.{◌≡◌, refl, sym, ap, ◌∙◌, subst}
use mathlib.Core.Bool.{true, false}
use mathlib.Core.List.{List, [], ◌∷◌}
use native.Mathlib.Omega.{arith}
use lib.ListN.{length, get_or, replicate}
use Rattle.refusals.specs.Refusals.{plain, answer}
use Rattle.room.specs.declared.Shape.{Shape}
use Rattle.room.specs.Shapes.{servers_of}
use Rattle.room.specs.Addresses.{switch_of}
use Rattle.links.specs.Table.{failed, changed, TableOf}
use Rattle.links.proofs.TableLaws.{zeros-table}
use Rattle.summary.specs.Counts.{switches_in, place_of, count_at}
use Rattle.summary.specs.Promises.{Moves, TellsFirst}
use Rattle.summary.specs.Answers.{link_answer, link_table, changed_server, server_answer, server_table, fresh_answer}
use Rattle.summary.proofs.PlaceLaws.{below-every, place_lt, place-one}
use Rattle.summary.proofs.CountLaws.{those_length, those_count, count_most}
use Rattle.summary.proofs.RefusalLaws.{counted-link_of, counted-link-none, counted-server_of, counted-server-none, entries_of, entries_none}
use Rattle.summary.proofs.AnswerLaws.{dead-refusal}
use Rattle.summary.proofs.KeptLaws.{place-before, before-place, place-each, place-power, total-power, total-single, Right, summary_right, right_summary, zeros_right, Recounts as Recounted, moves_by, link-kept, link-table-kept, link_long, link_stays, link-table_is, link-own, link-moves, link_left, link-only, link_right_kept, link-nothing, link-twice, server-kept, server-table-kept, server_long, server_stays, server-table_is, server-entry, server-moves, server-left, server-only, server_right_kept, server-nothing, server-twice, fresh_kept, fresh_right, fresh_long, fresh_right_kept, right_link, right_server, right_asked, right_fresh}
use Rattle.summary.proofs.MostSwitches.{total-most}
use Rattle.summary.proofs.DeadLaws.{entry-full, dead_tells, dead-only, dead-refused_with, dead-number, none-exactly, some-exactly, question-exactly}
use Rattle.demands.specs.Summaries.{EntriesPlaced, CountsExactly, Summarizes, SummarizesExactly, ZerosSummarize, NotRefusedExactly, RightAccepted, RefusedKept, TableChanged, OthersStay, Carries, EntriesCarried, NothingChanges, AgainNothing, Recounts, LeftExactly, FreshSummarizes, Call, mark_link, clear_link, mark_server, clear_server, dead_switch, summarize, left_by, run, KeptRight, CanMove, NoneMoves, StaysAsLent, FullExactly, FirstDeadExactly, NoneDeadExactly}
use Rattle.demands.proofs.Entries.{total, place, entry, entries-exactly, counted-exactly, all-counted-exactly}

-- ---- places

pub entries-placed : EntriesPlaced
unfolding switches_in
entries-placed s v =
    record {
      first = refl;
      at = λ l w h. place s l w ∙ place-each v l w h;
      at_power = λ l w h p. place s l w ∙ place-power v l w h p;
      total = λ h. total s ∙ total-power v h;
      single = λ e. total s ∙ total-single v e;
      most = omega (arith, total s, total-most v);
      order = λ l w j u h k. (
        λ p. before-place s l w j u k.number (omega (arith, p, place s l w, place s j u)),
        λ p. omega (arith, place-before s l w j u h.number p, place s l w, place s j u),
      );
      one = λ l w j u h k e. place-one h k (sym (place s l w) ∙ e ∙ place s j u);
      inside = λ l w h. omega (arith, place_lt h, place s l w, total s);
      every = λ i h.
          let q = below-every s (suc s.k) i (omega (arith, h, total s)) in
          (q.0, q.1, record { valid = v; level = omega (arith, q.2); number = q.3 }, place s q.0 q.1 ∙ q.4);
    }

-- ---- counts

pub counts_exactly : CountsExactly
counts_exactly s t l w v =
    let x = those_count v t l w in
    ((x.0, x.1), those_length v t l w)

module _ {s : Shape} {t c : List ℕ} where
  right : Summarizes s t c → Right s t c
  right h = record { long = h.long ∙ total s; each = λ l w p q. sym (entry s c l w) ∙ h.each l w p q }

  summarizes : Right s t c → Summarizes s t c
  summarizes h = record { long = h.long ∙ sym (total s); each = λ l w p q. entry s c l w ∙ h.each l w p q }

pub summarizes_exactly : SummarizesExactly
summarizes_exactly s t c = (
  λ h. right_summary s t c (right h),
  λ e. summarizes (subst (Right s t) (sym e) (summary_right s t)),
)

pub zeros-summarize : ZerosSummarize
zeros-summarize s = (
  zeros-table s,
  subst (λ (m : ℕ). Summarizes s (replicate (servers_of s) 0) (replicate m 0)) (sym (total s)) (summarizes (zeros_right s (servers_of s))),
)

-- ---- which summaries are refused

pub not-refused-exactly : NotRefusedExactly
unfolding link_answer server_answer fresh_answer
not-refused-exactly =
    record {
      link = λ s t c a l. (
        λ z. let h = counted-link_of s t c a l z in (h.link, h.table, (entries-exactly s c).0 h.entries, (counted-exactly s t c a l).0 h.counted),
        λ p. sym (counted-link-none (record { link = p.0; table = p.1; entries = (entries-exactly s c).1 p.2; counted = (counted-exactly s t c a l).1 p.3 })),
      );
      server = λ s t c a. (
        λ z. let h = counted-server_of s t c a z in (h.server, h.table, (entries-exactly s c).0 h.entries, (all-counted-exactly s t c a).0 h.counted),
        λ p. sym (counted-server-none (record { server = p.0; table = p.1; entries = (entries-exactly s c).1 p.2; counted = (all-counted-exactly s t c a).1 p.3 })),
      );
      asked = λ s t c. (
        λ z. let q = (question-exactly s t c).0 z in (q.0, q.1, summarizes q.2),
        λ p. (question-exactly s t c).1 (p.0, p.1, right p.2),
      );
      fresh = λ s t c. (
        λ z. let q = entries_of s t c z in (q.0, q.1, (entries-exactly s c).0 q.2),
        λ p. sym (entries_none p.0 p.1 c ((entries-exactly s c).1 p.2)),
      );
    }

pub right_accepted : RightAccepted
unfolding link_answer server_answer fresh_answer link_table server_table
right_accepted =
    record {
      link = λ s t c a l h. ap plain (right_link (right h) a l);
      server = λ s t c a h. ap plain (right_server (right h) a);
      asked = λ s t c h. dead-refusal s t c ∙ ap plain (right_asked (right h));
      fresh = λ s t c h. ap plain (right_fresh (right h));
      link-table = λ b s t c a l h. ap (λ (r : ℕ). answer r (λ q. t) (changed b a l t)) (right_link (right h) a l);
      server-table = λ b s t c a h. ap (λ (r : ℕ). answer r (λ q. t) (changed_server b s a t)) (right_server (right h) a);
    }

-- ---- a link, or all links of a server, marked and cleared

pub refused-kept : RefusedKept
unfolding link_answer server_answer fresh_answer
refused-kept = record { link = link-kept; server = server-kept; fresh = fresh_kept }

pub table-changed : TableChanged
unfolding link_answer server_answer
table-changed = record { link = link-table_is; server = server-table_is }

pub others_stay : OthersStay
others_stay =
    record {
      link_long = link_long;
      link = λ b s t c a l i n. link_stays b s t c a l i (λ e. n (e ∙ sym (place s l (switch_of s l a))));
      server_long = server_long;
      server = λ b s t c a i n. server_stays b s t c a i (λ l p e. n l p (e ∙ sym (place s l (switch_of s l a))));
      fresh_long = fresh_long;
    }

-- an entry by its place
carried : {s : Shape} {t c u d : List ℕ} {a l : ℕ} → Moves (failed t a l) (failed u a l) (get_or c (place_of s l (switch_of s l a)) 0) (get_or d (place_of s l (switch_of s l a)) 0) → get_or d (place_of s l (switch_of s l a)) 0 ≡ count_at s u l (switch_of s l a) → Carries s t c a l u d
carried {s = s} {c = c} {d = d} {a = a} {l = l} m e =
    let old = entry s c l (switch_of s l a) in
    let new = entry s d l (switch_of s l a) in
    record {
      moves = moves_by refl old new m;
      counted = new ∙ e;
    }

pub entries_carried : EntriesCarried
unfolding link_answer server_answer
entries_carried =
    record {
      link = λ b s t c a l z. carried (link-moves b s t c a l z) (link-own b s t c a l z);
      server = λ b s t c a l z p. carried (server-moves b s t c a z l p) (server-entry b s t c a z l p);
    }

pub nothing_changes : NothingChanges
nothing_changes = record { link = link-nothing; server = server-nothing }

pub again-nothing : AgainNothing
unfolding link_answer server_answer
again-nothing =
    record {
      link = λ b s t c a l. let q = link-twice b s t c a l in (ap plain q.0, q.1, q.2);
      server = λ b s t c a. let q = server-twice b s t c a in (ap plain q.0, q.1, q.2);
    }

module _ {s : Shape} {u c d : List ℕ} {a : ℕ} {named : ℕ → Type 0} where
  recounts : Recounted s u a named c d → Recounts s u a named c d
  recounts h =
      record {
        long = h.long;
        own = λ l n. entry s d l (switch_of s l a) ∙ h.own l n;
        others = λ i n. h.others i (λ l m e. n l m (e ∙ sym (place s l (switch_of s l a))));
      }

  counted : Recounts s u a named c d → Recounted s u a named c d
  counted h =
      record {
        long = h.long;
        own = λ l n. sym (entry s d l (switch_of s l a)) ∙ h.own l n;
        others = λ i n. h.others i (λ l m e. n l m (e ∙ place s l (switch_of s l a)));
      }

pub left-exactly : LeftExactly
unfolding link_answer server_answer
left-exactly =
    record {
      link = λ b s t c a l d z. (
        λ e. subst (Recounts s (link_table b s t c a l) a (λ j. j ≡ l) c) (sym e) (recounts (link_left b s t c a l z)),
        λ h. link-only b s t c a l z d (counted h),
      );
      server = λ b s t c a d z. (
        λ e. subst (Recounts s (server_table b s t c a) a (λ j. j ≤ s.k) c) (sym e) (recounts (server-left b s t c a z)),
        λ h. server-only b s t c a z d (counted h),
      );
    }

-- ---- right summaries stay right

pub fresh_summarizes : FreshSummarizes
unfolding fresh_answer
fresh_summarizes s t c z = summarizes (fresh_right s t c z)

pub kept_right : KeptRight
kept_right =
    record {
      call = call;
      calls = calls;
      table = table;
      asked = λ s xs t c v k h.
          let p = (not-refused-exactly.asked s _ _).1 (v, table s xs t c k, calls s xs t c h) in
          dead-refusal s _ _ ∙ ap plain (sym (dead-number s _ _) ∙ p);
    }
  where
    call : (s : Shape) (x : Call) (t c : List ℕ) → Summarizes s t c → Summarizes s (left_by s x (t, c)).0 (left_by s x (t, c)).1
    call s (mark_link a l) t c h = summarizes (link_right_kept true s t c a l (right h))
    call s (clear_link a l) t c h = summarizes (link_right_kept false s t c a l (right h))
    call s (mark_server a) t c h = summarizes (server_right_kept true s t c a (right h))
    call s (clear_server a) t c h = summarizes (server_right_kept false s t c a (right h))
    call s dead_switch t c h = h
    call s summarize t c h = summarizes (fresh_right_kept s t c (right h))

    kept : (s : Shape) (x : Call) (t c : List ℕ) → TableOf s t → TableOf s (left_by s x (t, c)).0
    kept s (mark_link a l) t c h = link-table-kept true s t c a l h
    kept s (clear_link a l) t c h = link-table-kept false s t c a l h
    kept s (mark_server a) t c h = server-table-kept true s t c a h
    kept s (clear_server a) t c h = server-table-kept false s t c a h
    kept s dead_switch t c h = h
    kept s summarize t c h = h

    table : (s : Shape) (xs : List Call) (t c : List ℕ) → TableOf s t → TableOf s (run s xs (t, c)).0
    table s [] t c h = h
    table s (x ∷ xs) t c h = table s xs _ _ (kept s x t c h)

    calls : (s : Shape) (xs : List Call) (t c : List ℕ) → Summarizes s t c → Summarizes s (run s xs (t, c)).0 (run s xs (t, c)).1
    calls s [] t c h = h
    calls s (x ∷ xs) t c h = calls s xs _ _ (call s x t c h)

pub stays_as_lent : StaysAsLent
stays_as_lent = record { long = long; entry = same }
  where
    left-long : (s : Shape) (x : Call) (t c : List ℕ) → length (left_by s x (t, c)).1 ≡ length c
    left-long s (mark_link a l) t c = link_long true s t c a l
    left-long s (clear_link a l) t c = link_long false s t c a l
    left-long s (mark_server a) t c = server_long true s t c a
    left-long s (clear_server a) t c = server_long false s t c a
    left-long s dead_switch t c = refl
    left-long s summarize t c = fresh_long s t c

    left-same : (s : Shape) (x : Call) (t c : List ℕ) (i : ℕ) → (CanMove s x i → ⊥) → get_or (left_by s x (t, c)).1 i 0 ≡ get_or c i 0
    left-same s (mark_link a l) t c i m = others_stay.link true s t c a l i m
    left-same s (clear_link a l) t c i m = others_stay.link false s t c a l i m
    left-same s (mark_server a) t c i m = others_stay.server true s t c a i (λ l p e. m (l, p, e))
    left-same s (clear_server a) t c i m = others_stay.server false s t c a i (λ l p e. m (l, p, e))
    left-same s dead_switch t c i m = refl
    left-same s summarize t c i m = absurd (m tt)

    long : (s : Shape) (xs : List Call) (t c : List ℕ) → length (run s xs (t, c)).1 ≡ length c
    long s [] t c = refl
    long s (x ∷ xs) t c = long s xs (left_by s x (t, c)).0 (left_by s x (t, c)).1 ∙ left-long s x t c

    same : (s : Shape) (xs : List Call) (t c : List ℕ) (i : ℕ) → NoneMoves s xs i → get_or (run s xs (t, c)).1 i 0 ≡ get_or c i 0
    same s [] t c i n = refl
    same s (x ∷ xs) t c i n = same s xs (left_by s x (t, c)).0 (left_by s x (t, c)).1 i n.1 ∙ left-same s x t c i n.0

-- ---- the first dead switch

pub full-exactly : FullExactly
full-exactly =
    record {
      most = λ s t l w h. count_most h t;
      full = λ s t c l w r h. (
        λ e. (entry-full (right r) h).0 (sym (entry s c l w) ∙ e),
        λ d. entry s c l w ∙ (entry-full (right r) h).1 d,
      );
    }

pub first-dead-exactly : FirstDeadExactly
first-dead-exactly =
    record {
      told = λ s t c x z. (λ e. subst (TellsFirst s t) (sym e) (dead_tells s t c z), dead-only s t c z x);
      refused = dead-refused_with;
    }

pub none-dead-exactly : NoneDeadExactly
none-dead-exactly = record { nothing = none-exactly; something = some-exactly }
