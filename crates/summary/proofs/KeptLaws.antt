-- Laws of a right summary: the place of each switch, every entry of it, what a call that is not refused leaves of it, and that it stays right.
use Prim.Native.Nat.{ℕ, zero, suc, ◌+◌, ◌-◌, ◌*◌, ◌/◌, ◌^◌, ◌≤◌, ◌<◌}
use mathlib.Core.Path.{◌≡◌, refl, sym, ap, ap₂, ◌∙◌, subst}
use mathlib.Core.Logic.{◌≢◌, ◌⊎◌, inl, inr}
use mathlib.Core.Bool.{Bool, true, false, cond, ◌&&◌, and-false}
use mathlib.Core.List.{List}
use native.Mathlib.Omega.{arith}
use native.Mathlib.Decide.{ℕ_discrete, dec_le, dec_lt}
use native.Mathlib.Nat.{zero-mul, pow-zero}
use lib.Dec.{eqb}
use lib.ListN.{length, get_or, replicate, length-replicate}
use lib.Seq.{ext_get_or, get_or-set_same, get_or-set_other}
use Rattle.lists.proofs.ListLaws.{same_at, same_self}
use Rattle.refusals.proofs.AnswerLaws.{answer-none}
use Rattle.refusals.proofs.ChainLaws.{or_else_passed}
use Rattle.room.specs.declared.Shape.{Shape}
use Rattle.room.specs.Shapes.{servers_of, Valid, Server, Link}
use Rattle.room.specs.Addresses.{switch_of, switches_at}
use Rattle.room.proofs.RoomLaws.{switches-below}
use Rattle.links.specs.Table.{bit, failed, changed, TableOf, room_table_refusal, table_link_refusal, table_server_refusal}
use Rattle.links.proofs.TableLaws.{changed-own, changed-other, changed_already, changed-table, table-above, failed-zeros, one_table, table-link_of, table-server_of}
use Rattle.summary.specs.Counts.{switches_below, switches_in, place_of, count_below, count_at, summary_of, recounted, recounted_below, IsSwitch}
use Rattle.summary.specs.Refusals.{has_entries, is_counted, counted_link_refusal, counted_server_refusal, summary_refusal, entries_refusal}
use Rattle.summary.specs.Inside.{CountedLink, CountedServer}
use Rattle.summary.specs.Promises.{Earlier, Moves}
use Rattle.summary.specs.Answers.{link_table, link_summary, changed_server, server_table, server_summary, fresh_summary}
use Rattle.summary.proofs.PlaceLaws.{below_next, below_le, place_is, below-every, place_lt, entry_at, place-one, summary_long, link-switch, each, below_each, total_is}
use Rattle.summary.proofs.CountLaws.{count_same, count-raised, count-lowered}
use Rattle.summary.proofs.RefusalLaws.{entries-long, long-entries, counted-entry, entry-counted, counted-below, below-counted, counted-link_of, counted-link-none, counted-server_of, counted-server-none, entries_of}
use Rattle.summary.proofs.ServerLaws.{server-own, server-other, server-table}
use Rattle.summary.proofs.ChangeLaws.{kept_table, kept_summary, recounted-long, recounted-below-long, recounted_stays}
use Rattle.summary.proofs.AnswerLaws.{link_keeps, link_keeps_summary, server_keeps, server_keeps_summary, fresh_keeps}

-- ---- places

module _ (s : Shape) where
  -- a switch that comes before another has its place before
  pub place-before : (l w j v : ℕ) → w < switches_at s l → Earlier l w j v → place_of s l w < place_of s j v
  place-before l w j v h (inl p) = omega (arith, place_is s l w, place_is s j v, below_next s l, below_le s (suc l) j p)
  place-before l w j v h (inr p) = omega (arith, place_is s l w, place_is s j v, ap (λ (x : ℕ). length (switches_below s x)) p.0, p.1)

  -- and the other way round
  pub before-place : (l w j v : ℕ) → v < switches_at s j → place_of s l w < place_of s j v → Earlier l w j v
  before-place l w j v h p =
      elim (dec_lt l j) [
        | yes q ↦ inl q
        | no q ↦ elim (ℕ_discrete l j) [
          | yes e ↦ inr (e, omega (arith, p, place_is s l w, place_is s j v, ap (λ (x : ℕ). length (switches_below s x)) e))
          | no e ↦ let z : ⊥ = omega (arith, p, place-before j v l w h (inl (omega (arith, q, e)))) in absurd z
        ]
      ]

-- as numbers: every level below k has m times n^(k-1) switches
module _ {s : Shape} (v : Valid s) where
  pub place-each : (l w : ℕ) → l ≤ s.k → place_of s l w ≡ l * (servers_of s / s.n) + w
  place-each l w h = omega (arith, place_is s l w, below_each v l h)

  each-power : 1 ≤ s.k → servers_of s / s.n ≡ s.m * s.n ^ (s.k - 1)
  each-power h = sym (each v 0 h) ∙ switches-below v 0 (s.k - 1) (omega arith) (omega arith)

  pub place-power : (l w : ℕ) → 1 ≤ s.k → l ≤ s.k → place_of s l w ≡ l * (s.m * s.n ^ (s.k - 1)) + w
  place-power l w h p = place-each l w p ∙ ap (λ (x : ℕ). l * x + w) (each-power h)

  pub total-power : 1 ≤ s.k → length (switches_in s) ≡ s.k * (s.m * s.n ^ (s.k - 1)) + s.n ^ s.k
  total-power h =
      total_is v ∙ ap (λ (x : ℕ). x + s.n ^ s.k) (below_each v s.k (omega arith) ∙ ap (λ (x : ℕ). s.k * x) (each-power h))

  pub total-single : s.k ≡ 0 → length (switches_in s) ≡ 1
  total-single e =
      omega (arith, total_is v, below_each v s.k (omega arith), ap (λ (x : ℕ). x * (servers_of s / s.n)) e, zero-mul (servers_of s / s.n), ap (λ (x : ℕ). s.n ^ x) e, pow-zero s.n)

-- ---- a right summary

-- every entry is the count
pub record Right (s : Shape) (t c : List ℕ) : Type 0 where
  pub long : length c ≡ length (switches_in s)
  pub each : (l w : ℕ) → l ≤ s.k → w < switches_at s l → get_or c (place_of s l w) 0 ≡ count_at s t l w

module _ (s : Shape) (t : List ℕ) where
  -- that of the table is, and no other
  pub summary_right : Right s t (summary_of s t)
  summary_right = record { long = summary_long s t; each = entry_at s t }

  pub right_summary : (c : List ℕ) → Right s t c → c ≡ summary_of s t
  unfolding switches_in
  right_summary c h = ext_get_or 0 c (summary_of s t) (h.long ∙ sym (summary_long s t)) same
    where
      same : (i : ℕ) → i < length c → get_or c i 0 ≡ get_or (summary_of s t) i 0
      same i p =
          let q = below-every s (suc s.k) i (omega (arith, h.long)) in
          let k : q.0 ≤ s.k = omega (arith, q.2) in
          ap (λ (j : ℕ). get_or c j 0) (sym q.4)
          ∙ h.each q.0 q.1 k q.3
          ∙ sym (entry_at s t q.0 q.1 k q.3)
          ∙ ap (λ (j : ℕ). get_or (summary_of s t) j 0) q.4

-- zeros are right for a table of zeros
none-counted : (s : Shape) (t : List ℕ) (l w m : ℕ) → ((x : ℕ) → failed t x l ≡ false) → count_below s t l w m ≡ 0
unfolding count_below
none-counted s t l w zero h = refl
none-counted s t l w (suc m) h =
    ap (λ (b : Bool). count_below s t l w m + cond (eqb (switch_of s l m) w && b) 1 0) (h m)
    ∙ ap₂ (λ (x : ℕ) (b : Bool). x + cond b 1 0) (none-counted s t l w m h) (and-false (eqb (switch_of s l m) w))

pub zeros_right : (s : Shape) (m : ℕ) → Right s (replicate m 0) (replicate (length (switches_in s)) 0)
unfolding count_at
zeros_right s m =
    record {
      long = length-replicate {A = ℕ} (length (switches_in s)) 0;
      each = λ l w p q. same_at 0 (length (switches_in s)) (place_of s l w) ∙ sym (none-counted s (replicate m 0) l w (servers_of s) (λ x. failed-zeros m x l));
    }

-- ---- the entries of a server's switches counted again

-- summary d is summary c but for the entries of the switches of server a at the levels named, which are the counts of table u
pub record Recounts (s : Shape) (u : List ℕ) (a : ℕ) (named : ℕ → Type 0) (c d : List ℕ) : Type 0 where
  pub long : length d ≡ length c
  pub own : (l : ℕ) → named l → get_or d (place_of s l (switch_of s l a)) 0 ≡ count_at s u l (switch_of s l a)
  pub others : (i : ℕ) → ((l : ℕ) → named l → i ≢ place_of s l (switch_of s l a)) → get_or d i 0 ≡ get_or c i 0

-- the levels named are the room's, and of each level it can be said whether it is
module _ {s : Shape} {a : ℕ} (h : Server s a) (named : ℕ → Type 0) (level : (l : ℕ) → named l → l ≤ s.k) (whether : (l : ℕ) → Dec (named l)) where
  -- switch w of level l is one of those, or it is not, and its place is none of theirs
  abbrev Touched : ℕ → ℕ → Type 0
  Touched l w = (named l × (switch_of s l a ≡ w)) ⊎ ((named l → switch_of s l a ≢ w) × ((j : ℕ) → named j → place_of s l w ≢ place_of s j (switch_of s j a)))

  touched : (l w : ℕ) → IsSwitch s l w → Touched l w
  touched l w k =
      elim (whether l) [
        | yes p ↦ elim (ℕ_discrete (switch_of s l a) w) [ yes e ↦ inl (p, e) | no e ↦ inr (λ q. e, apart (λ q. e)) ]
        | no p ↦ inr (λ q. absurd (p q), apart (λ q. absurd (p q)))
      ]
    where
      apart : (named l → switch_of s l a ≢ w) → (j : ℕ) → named j → place_of s l w ≢ place_of s j (switch_of s j a)
      apart n j q e =
          let z = place-one k (link-switch (record { server = h; level = level j q })) e in
          n (subst named (sym z.0) q) (ap (λ (x : ℕ). switch_of s x a) z.0 ∙ sym z.1)

  -- there is one such summary
  pub recounts_one : {u c d e : List ℕ} → length c ≡ length (switches_in s) → Recounts s u a named c d → Recounts s u a named c e → d ≡ e
  unfolding switches_in
  recounts_one {u} {c} {d} {e} long p q = ext_get_or 0 d e (p.long ∙ sym q.long) same
    where
      same : (i : ℕ) → i < length d → get_or d i 0 ≡ get_or e i 0
      same i r =
          let x = below-every s (suc s.k) i (omega (arith, long, p.long)) in
          let k : IsSwitch s x.0 x.1 = record { valid = h.valid; level = omega (arith, x.2); number = x.3 } in
          ap (λ (j : ℕ). get_or d j 0) (sym x.4) ∙ at x.0 x.1 (touched x.0 x.1 k) ∙ ap (λ (j : ℕ). get_or e j 0) x.4
        where
          at : (l w : ℕ) → Touched l w → get_or d (place_of s l w) 0 ≡ get_or e (place_of s l w) 0
          at l w (inl z) =
              ap (λ (v : ℕ). get_or d (place_of s l v) 0) (sym z.1)
              ∙ p.own l z.0
              ∙ sym (q.own l z.0)
              ∙ ap (λ (v : ℕ). get_or e (place_of s l v) 0) z.1
          at l w (inr z) = p.others (place_of s l w) z.1 ∙ sym (q.others (place_of s l w) z.1)

  -- it is right for u where c is right for t, and t and u have the same links failed but those of a at the levels named
  pub recounts_right : {t u c d : List ℕ} → ((x l : ℕ) → (x ≡ a → named l → ⊥) → failed t x l ≡ failed u x l) → Recounts s u a named c d → Right s t c → Right s u d
  recounts_right {t} {u} {c} {d} agree p r =
      record { long = p.long ∙ r.long; each = λ l w k i. at l w k i (touched l w (record { valid = h.valid; level = k; number = i })) }
    where
      at : (l w : ℕ) → l ≤ s.k → w < switches_at s l → Touched l w → get_or d (place_of s l w) 0 ≡ count_at s u l w
      at l w k i (inl z) = subst (λ (v : ℕ). get_or d (place_of s l v) 0 ≡ count_at s u l v) z.1 (p.own l z.0)
      at l w k i (inr z) =
          p.others (place_of s l w) z.1
          ∙ r.each l w k i
          ∙ count_same s t u l w (λ x q e. agree x l (λ f n. z.0 n (ap (switch_of s l) (sym f) ∙ e)))

-- ---- what a link's count does where the link is marked, b being true, or cleared

pub moves_by : {was now b : Bool} {old new x y : ℕ} → now ≡ b → old ≡ x → new ≡ y → Moves was b x y → Moves was now old new
moves_by e f g m =
    record {
      marked = λ p q. g ∙ m.marked p (sym e ∙ q) ∙ ap suc (sym f);
      cleared = λ p q. ap suc g ∙ m.cleared p (sym e ∙ q) ∙ sym f;
      same = λ p. g ∙ m.same (p ∙ e) ∙ sym f;
    }

count-moves : {s : Shape} {a l : ℕ} → Link s a l → (b : Bool) (t : List ℕ) → a < length t → Moves (failed t a l) b (count_at s t l (switch_of s l a)) (count_at s (changed b a l t) l (switch_of s l a))
count-moves {s} {a} {l} h b t i =
    let w = switch_of s l a in
    record {
      marked = λ e f. ap (λ (x : Bool). count_at s (changed x a l t) l w) f ∙ count-raised h t i e;
      cleared = λ e f. ap (λ (x : Bool). suc (count_at s (changed x a l t) l w)) f ∙ sym (count-lowered h t i e);
      same = λ e. ap (λ (u : List ℕ). count_at s u l w) (changed_already b a l t e);
    }

-- ---- a link marked or cleared, with its summary

module _ (b : Bool) (s : Shape) (t c : List ℕ) (a l : ℕ) where
  pub link-kept : counted_link_refusal s t c a l ≢ 0 → (link_table b s t c a l ≡ t) × (link_summary b s t c a l ≡ c)
  link-kept n = (sym (link_keeps s t c a l _ refl b n), sym (link_keeps_summary s t c a l _ refl b n))

  -- every entry but that of the link's switch stays, whatever is lent
  pub link_long : length (link_summary b s t c a l) ≡ length c
  unfolding link_summary
  link_long =
      elim (ℕ_discrete (counted_link_refusal s t c a l) 0) [
        | yes z ↦ ap length (answer-none _ (λ r. c) _ (sym z)) ∙ recounted-long s (changed b a l t) a l c
        | no n ↦ ap length (link-kept n).1
      ]

  pub link_stays : (i : ℕ) → i ≢ place_of s l (switch_of s l a) → get_or (link_summary b s t c a l) i 0 ≡ get_or c i 0
  unfolding link_summary recounted
  link_stays i p =
      elim (ℕ_discrete (counted_link_refusal s t c a l) 0) [
        | yes z ↦ ap (λ (x : List ℕ). get_or x i 0) (answer-none _ (λ r. c) _ (sym z)) ∙ get_or-set_other c (place_of s l (switch_of s l a)) i (count_at s (changed b a l t) l (switch_of s l a)) 0 p
        | no n ↦ ap (λ (x : List ℕ). get_or x i 0) (link-kept n).1
      ]

  module _ (z : counted_link_refusal s t c a l ≡ 0) where
    link_tested : CountedLink s t c a l
    link_tested = counted-link_of s t c a l z

    link_lent : Link s a l
    link_lent = link_tested.link

    link-within : a < length t
    link-within = omega (arith, link_lent.server.below, link_tested.table.long)

    pub link-table_is : link_table b s t c a l ≡ changed b a l t
    unfolding link_table
    link-table_is = answer-none _ (λ r. t) _ (sym z)

    link_summary_is : link_summary b s t c a l ≡ recounted s (changed b a l t) a l c
    unfolding link_summary
    link_summary_is = answer-none _ (λ r. c) _ (sym z)

    link_now : failed (link_table b s t c a l) a l ≡ b
    link_now = ap (λ (u : List ℕ). failed u a l) link-table_is ∙ changed-own b a l t link-within

    -- the entry of the link's switch
    pub link-own : get_or (link_summary b s t c a l) (place_of s l (switch_of s l a)) 0 ≡ count_at s (link_table b s t c a l) l (switch_of s l a)
    unfolding recounted
    link-own =
        let i : place_of s l (switch_of s l a) < length c = omega (arith, place_lt (link-switch link_lent), entries-long s c link_tested.entries) in
        ap (λ (x : List ℕ). get_or x (place_of s l (switch_of s l a)) 0) link_summary_is
        ∙ get_or-set_same c (place_of s l (switch_of s l a)) _ 0 i
        ∙ ap (λ (x : List ℕ). count_at s x l (switch_of s l a)) (sym link-table_is)

    pub link-moves : Moves (failed t a l) (failed (link_table b s t c a l) a l) (get_or c (place_of s l (switch_of s l a)) 0) (get_or (link_summary b s t c a l) (place_of s l (switch_of s l a)) 0)
    link-moves =
        let new = link-own ∙ ap (λ (x : List ℕ). count_at s x l (switch_of s l a)) link-table_is in
        let old = counted-entry s t c a l link_tested.counted in
        moves_by link_now old new (count-moves link_lent b t link-within)

    pub link_left : Recounts s (link_table b s t c a l) a (λ j. j ≡ l) c (link_summary b s t c a l)
    link_left =
        record {
          long = link_long;
          own = λ j e. subst (λ (x : ℕ). get_or (link_summary b s t c a l) (place_of s x (switch_of s x a)) 0 ≡ count_at s (link_table b s t c a l) x (switch_of s x a)) (sym e) link-own;
          others = λ i n. link_stays i (n l refl);
        }

    link-level : (j : ℕ) → j ≡ l → j ≤ s.k
    link-level j e = omega (arith, e, link_lent.level)

    pub link-only : (d : List ℕ) → Recounts s (link_table b s t c a l) a (λ j. j ≡ l) c d → d ≡ link_summary b s t c a l
    link-only d p =
        recounts_one link_lent.server (λ j. j ≡ l) link-level (λ j. ℕ_discrete j l) (entries-long s c link_tested.entries) p link_left

    link_right : Right s t c → Right s (link_table b s t c a l) (link_summary b s t c a l)
    link_right r =
        recounts_right link_lent.server (λ j. j ≡ l) link-level (λ j. ℕ_discrete j l)
        (λ x j n. sym (ap (λ (u : List ℕ). failed u x j) link-table_is ∙ changed-other b a l x j t n))
        link_left r

    -- the link and its summary are again not refused
    link-again : counted_link_refusal s (link_table b s t c a l) (link_summary b s t c a l) a l ≡ 0
    link-again =
        sym
        (counted-link-none
        (record {
          link = link_lent;
          table = subst (TableOf s) (sym link-table_is) (changed-table b link_tested.table a l link_lent.level);
          entries = long-entries s (link_summary b s t c a l) (link_long ∙ entries-long s c link_tested.entries);
          counted = entry-counted s _ (link_summary b s t c a l) a l link-own;
        }))

  pub link-table-kept : TableOf s t → TableOf s (link_table b s t c a l)
  link-table-kept k =
      elim (ℕ_discrete (counted_link_refusal s t c a l) 0) [
        | yes z ↦ subst (TableOf s) (sym (link-table_is z)) (changed-table b k a l (link_lent z).level)
        | no n ↦ subst (TableOf s) (sym (link-kept n).0) k
      ]

  pub link_right_kept : Right s t c → Right s (link_table b s t c a l) (link_summary b s t c a l)
  link_right_kept r =
      elim (ℕ_discrete (counted_link_refusal s t c a l) 0) [
        | yes z ↦ link_right z r
        | no n ↦ let p = link-kept n in subst (λ (x : List ℕ × List ℕ). Right s x.0 x.1) (ap₂ (λ (x y : List ℕ). (x, y)) (sym p.0) (sym p.1)) r
      ]

-- a link that is as it is wanted
pub link-nothing : (b : Bool) (s : Shape) (t c : List ℕ) (a l : ℕ) → failed t a l ≡ b → (link_table b s t c a l ≡ t) × (link_summary b s t c a l ≡ c)
link-nothing b s t c a l e =
    elim (ℕ_discrete (counted_link_refusal s t c a l) 0) [
      | yes z ↦ let h = link_tested b s t c a l z in (
        link-table_is b s t c a l z ∙ kept_table s t c a l h b e,
        link_summary_is b s t c a l z ∙ kept_summary s t c a l h b e,
      )
      | no n ↦ link-kept b s t c a l n
    ]

-- the same call again
pub link-twice : (b : Bool) (s : Shape) (t c : List ℕ) (a l : ℕ) → (let u = link_table b s t c a l in let d = link_summary b s t c a l in (counted_link_refusal s u d a l ≡ counted_link_refusal s t c a l) × (link_table b s u d a l ≡ u) × (link_summary b s u d a l ≡ d))
link-twice b s t c a l =
    elim (ℕ_discrete (counted_link_refusal s t c a l) 0) [
      | yes z ↦
          let q = link-nothing b s (link_table b s t c a l) (link_summary b s t c a l) a l (link_now b s t c a l z) in
          (link-again b s t c a l z ∙ sym z, q.0, q.1)
      | no n ↦ let p = link-kept b s t c a l n in (
        ap₂ (λ (x y : List ℕ). counted_link_refusal s x y a l) p.0 p.1,
        ap₂ (λ (x y : List ℕ). link_table b s x y a l) p.0 p.1,
        ap₂ (λ (x y : List ℕ). link_summary b s x y a l) p.0 p.1,
      )
    ]

-- ---- all links of a server, with the summary

module _ (b : Bool) (s : Shape) (t c : List ℕ) (a : ℕ) where
  pub server-kept : counted_server_refusal s t c a ≢ 0 → (server_table b s t c a ≡ t) × (server_summary b s t c a ≡ c)
  server-kept n = (sym (server_keeps s t c a _ refl b n), sym (server_keeps_summary s t c a _ refl b n))

  pub server_long : length (server_summary b s t c a) ≡ length c
  unfolding server_summary
  server_long =
      elim (ℕ_discrete (counted_server_refusal s t c a) 0) [
        | yes z ↦ ap length (answer-none _ (λ r. c) _ (sym z)) ∙ recounted-below-long s (changed_server b s a t) a (suc s.k) c
        | no n ↦ ap length (server-kept n).1
      ]

  pub server_stays : (i : ℕ) → ((l : ℕ) → l ≤ s.k → i ≢ place_of s l (switch_of s l a)) → get_or (server_summary b s t c a) i 0 ≡ get_or c i 0
  unfolding server_summary
  server_stays i p =
      elim (ℕ_discrete (counted_server_refusal s t c a) 0) [
        | yes z ↦ ap (λ (x : List ℕ). get_or x i 0) (answer-none _ (λ r. c) _ (sym z)) ∙ recounted_stays s (changed_server b s a t) a (suc s.k) c i (λ l q. p l (omega arith))
        | no n ↦ ap (λ (x : List ℕ). get_or x i 0) (server-kept n).1
      ]

  module _ (z : counted_server_refusal s t c a ≡ 0) where
    server_tested : CountedServer s t c a
    server_tested = counted-server_of s t c a z

    server-link : (l : ℕ) → l ≤ s.k → Link s a l
    server-link l p = record { server = server_tested.server; level = p }

    pub server-table_is : server_table b s t c a ≡ changed_server b s a t
    unfolding server_table
    server-table_is = answer-none _ (λ r. t) _ (sym z)

    server_summary_is : server_summary b s t c a ≡ recounted_below s (changed_server b s a t) a (suc s.k) c
    unfolding server_summary
    server_summary_is = answer-none _ (λ r. c) _ (sym z)

    -- the entries of its switches at the levels below j are counted
    own_below : (u : List ℕ) (j l : ℕ) → j ≤ suc s.k → l < j → get_or (recounted_below s u a j c) (place_of s l (switch_of s l a)) 0 ≡ count_at s u l (switch_of s l a)
    unfolding recounted_below recounted
    own_below u zero l p q = let y : ⊥ = omega arith in absurd y
    own_below u (suc j) l p q =
        elim (ℕ_discrete l j) [
          | yes e ↦ subst (λ (x : ℕ). get_or (recounted_below s u a (suc x) c) (place_of s l (switch_of s l a)) 0 ≡ count_at s u l (switch_of s l a)) e
              (get_or-set_same (recounted_below s u a l c) (place_of s l (switch_of s l a)) _ 0 (inside l (omega arith)))
          | no n ↦ get_or-set_other (recounted_below s u a j c) (place_of s j (switch_of s j a)) (place_of s l (switch_of s l a)) _ 0 (apart n)
              ∙ own_below u j l (omega arith) (omega (arith, n))
        ]
      where
        inside : (x : ℕ) → x ≤ s.k → place_of s x (switch_of s x a) < length (recounted_below s u a x c)
        inside x r = omega (arith, place_lt (link-switch (server-link x r)), entries-long s c server_tested.entries, recounted-below-long s u a x c)

        apart : l ≢ j → place_of s l (switch_of s l a) ≢ place_of s j (switch_of s j a)
        apart n e = n (place-one (link-switch (server-link l (omega arith))) (link-switch (server-link j (omega arith))) e).0

    pub server-entry : (l : ℕ) → l ≤ s.k → get_or (server_summary b s t c a) (place_of s l (switch_of s l a)) 0 ≡ count_at s (server_table b s t c a) l (switch_of s l a)
    server-entry l p =
        ap (λ (x : List ℕ). get_or x (place_of s l (switch_of s l a)) 0) server_summary_is
        ∙ own_below (changed_server b s a t) (suc s.k) l (omega arith) (omega arith)
        ∙ ap (λ (x : List ℕ). count_at s x l (switch_of s l a)) (sym server-table_is)

    server-old : (l : ℕ) → l ≤ s.k → get_or c (place_of s l (switch_of s l a)) 0 ≡ count_at s t l (switch_of s l a)
    server-old l p = counted-entry s t c a l (counted-below s t c a (suc s.k) server_tested.counted l (omega arith))

    -- at a level a server changed counts as its link there changed
    server-level : (l : ℕ) → l ≤ s.k → (x : ℕ) → failed (changed_server b s a t) x l ≡ failed (changed b a l t) x l
    unfolding failed
    server-level l p x =
        elim (ℕ_discrete x a) [
          | yes e ↦ rw e (server-own b server_tested.server server_tested.table l p ∙ sym (changed-own b a l t (omega (arith, server_tested.server.below, server_tested.table.long))))
          | no n ↦ ap (bit l) (server-other b s a x t n) ∙ sym (changed-other b a l x l t (λ e. absurd (n e)))
        ]

    server_now : (l : ℕ) → l ≤ s.k → failed (server_table b s t c a) a l ≡ b
    server_now l p = ap (λ (u : List ℕ). failed u a l) server-table_is ∙ server-own b server_tested.server server_tested.table l p

    pub server-moves : (l : ℕ) → l ≤ s.k → Moves (failed t a l) (failed (server_table b s t c a) a l) (get_or c (place_of s l (switch_of s l a)) 0) (get_or (server_summary b s t c a) (place_of s l (switch_of s l a)) 0)
    server-moves l p =
        let new =
        server-entry l p
        ∙ ap (λ (x : List ℕ). count_at s x l (switch_of s l a)) server-table_is
        ∙ count_same s _ (changed b a l t) l (switch_of s l a) (λ x q e. server-level l p x) in
        moves_by (server_now l p) (server-old l p) new
        (count-moves (server-link l p) b t (omega (arith, server_tested.server.below, server_tested.table.long)))

    pub server-left : Recounts s (server_table b s t c a) a (λ j. j ≤ s.k) c (server_summary b s t c a)
    server-left = record { long = server_long; own = server-entry; others = server_stays }

    pub server-only : (d : List ℕ) → Recounts s (server_table b s t c a) a (λ j. j ≤ s.k) c d → d ≡ server_summary b s t c a
    server-only d p =
        recounts_one server_tested.server (λ j. j ≤ s.k) (λ j q. q) (λ j. dec_le j s.k) (entries-long s c server_tested.entries) p server-left

    server-table_of : TableOf s (server_table b s t c a)
    server-table_of = subst (TableOf s) (sym server-table_is) (server-table b server_tested.server server_tested.table)

    server_agrees : (x l : ℕ) → (x ≡ a → l ≤ s.k → ⊥) → failed t x l ≡ failed (server_table b s t c a) x l
    unfolding failed
    server_agrees x l n =
        elim (ℕ_discrete x a) [
          | yes e ↦ let p : s.k < l = omega (arith, n e) in
              table-above server_tested.table x l p ∙ sym (table-above server-table_of x l p)
          | no m ↦ ap (bit l) (sym (server-other b s a x t m)) ∙ ap (λ (u : List ℕ). failed u x l) (sym server-table_is)
        ]

    server_right : Right s t c → Right s (server_table b s t c a) (server_summary b s t c a)
    server_right r =
        recounts_right server_tested.server (λ j. j ≤ s.k) (λ j q. q) (λ j. dec_le j s.k) server_agrees server-left r

    server_again : counted_server_refusal s (server_table b s t c a) (server_summary b s t c a) a ≡ 0
    server_again =
        sym
        (counted-server-none
        (record {
          server = server_tested.server;
          table = server-table_of;
          entries = long-entries s (server_summary b s t c a) (server_long ∙ entries-long s c server_tested.entries);
          counted = below-counted s _ _ a (suc s.k) (λ l p. entry-counted s _ (server_summary b s t c a) a l (server-entry l (omega arith)));
        }))

    -- its links are as they are wanted
    server_as : ((l : ℕ) → l ≤ s.k → failed t a l ≡ b) → (server_table b s t c a ≡ t) × (server_summary b s t c a ≡ c)
    unfolding failed
    server_as e = (same, sym (server-only c (record { long = refl; own = λ l p. server-old l p ∙ ap (λ (u : List ℕ). count_at s u l (switch_of s l a)) (sym same); others = λ i n. refl })))
      where
        same : server_table b s t c a ≡ t
        same =
            one_table server_tested.server.valid server-table_of server_tested.table
            (λ x l k. elim (ℕ_discrete x a) [
              | yes p ↦ rw p (ap (λ (u : List ℕ). failed u a l) server-table_is ∙ server-own b server_tested.server server_tested.table l k.level ∙ sym (e l k.level))
              | no n ↦ ap (λ (u : List ℕ). failed u x l) server-table_is ∙ ap (bit l) (server-other b s a x t n)
            ])

  pub server-table-kept : TableOf s t → TableOf s (server_table b s t c a)
  server-table-kept k =
      elim (ℕ_discrete (counted_server_refusal s t c a) 0) [ yes z ↦ server-table_of z | no n ↦ subst (TableOf s) (sym (server-kept n).0) k ]

  pub server_right_kept : Right s t c → Right s (server_table b s t c a) (server_summary b s t c a)
  server_right_kept r =
      elim (ℕ_discrete (counted_server_refusal s t c a) 0) [
        | yes z ↦ server_right z r
        | no n ↦ let p = server-kept n in subst (λ (x : List ℕ × List ℕ). Right s x.0 x.1) (ap₂ (λ (x y : List ℕ). (x, y)) (sym p.0) (sym p.1)) r
      ]

pub server-nothing : (b : Bool) (s : Shape) (t c : List ℕ) (a : ℕ) → ((l : ℕ) → l ≤ s.k → failed t a l ≡ b) → (server_table b s t c a ≡ t) × (server_summary b s t c a ≡ c)
server-nothing b s t c a e =
    elim (ℕ_discrete (counted_server_refusal s t c a) 0) [ yes z ↦ server_as b s t c a z e | no n ↦ server-kept b s t c a n ]

pub server-twice : (b : Bool) (s : Shape) (t c : List ℕ) (a : ℕ) → (let u = server_table b s t c a in let d = server_summary b s t c a in (counted_server_refusal s u d a ≡ counted_server_refusal s t c a) × (server_table b s u d a ≡ u) × (server_summary b s u d a ≡ d))
server-twice b s t c a =
    elim (ℕ_discrete (counted_server_refusal s t c a) 0) [
      | yes z ↦
          let q = server-nothing b s (server_table b s t c a) (server_summary b s t c a) a (server_now b s t c a z) in
          (server_again b s t c a z ∙ sym z, q.0, q.1)
      | no n ↦ let p = server-kept b s t c a n in (
        ap₂ (λ (x y : List ℕ). counted_server_refusal s x y a) p.0 p.1,
        ap₂ (λ (x y : List ℕ). server_table b s x y a) p.0 p.1,
        ap₂ (λ (x y : List ℕ). server_summary b s x y a) p.0 p.1,
      )
    ]

-- ---- the summary counted afresh

module _ (s : Shape) (t c : List ℕ) where
  pub fresh_right : entries_refusal s t c ≡ 0 → Right s t (fresh_summary s t c)
  unfolding fresh_summary
  fresh_right z = subst (Right s t) (sym (answer-none _ (λ r. c) _ (sym z))) (summary_right s t)

  pub fresh_kept : entries_refusal s t c ≢ 0 → fresh_summary s t c ≡ c
  fresh_kept n = sym (fresh_keeps s t c _ refl n)

  pub fresh_long : length (fresh_summary s t c) ≡ length c
  fresh_long =
      elim (ℕ_discrete (entries_refusal s t c) 0) [
        | yes z ↦ (fresh_right z).long ∙ sym (entries-long s c (entries_of s t c z).2)
        | no n ↦ ap length (fresh_kept n)
      ]

  pub fresh_right_kept : Right s t c → Right s t (fresh_summary s t c)
  fresh_right_kept r =
      elim (ℕ_discrete (entries_refusal s t c) 0) [
        | yes z ↦ fresh_right z
        | no n ↦ subst (Right s t) (sym (fresh_kept n)) r
      ]

-- ---- a right summary is refused by no call: each refuses what it refuses of a table alone

module _ {s : Shape} {t c : List ℕ} (r : Right s t c) where
  right_entries : has_entries s c ≡ true
  right_entries = long-entries s c r.long

  right_counted : (a l : ℕ) → Link s a l → is_counted s t c a l ≡ true
  right_counted a l h = entry-counted s t c a l (r.each l (switch_of s l a) h.level (link-switch h).number)

  pub right_link : (a l : ℕ) → counted_link_refusal s t c a l ≡ table_link_refusal s t a l
  unfolding counted_link_refusal
  right_link a l =
      or_else_passed (table_link_refusal s t a l) _ (λ z. rw (right_entries, right_counted a l (table-link_of s t a l z).0))

  pub right_server : (a : ℕ) → counted_server_refusal s t c a ≡ table_server_refusal s t a
  unfolding counted_server_refusal
  right_server a =
      or_else_passed (table_server_refusal s t a) _
      (λ z. let h = (table-server_of s t a z).0 in
      rw (right_entries, below-counted s t c a (suc s.k) (λ l p. right_counted a l (record { server = h; level = omega arith }))))

  pub right_asked : summary_refusal s t c ≡ room_table_refusal s t
  unfolding summary_refusal
  right_asked = or_else_passed (room_table_refusal s t) _ (λ z. rw (right_summary s t c r, same_self (summary_of s t)))

  pub right_fresh : entries_refusal s t c ≡ room_table_refusal s t
  unfolding entries_refusal
  right_fresh = or_else_passed (room_table_refusal s t) _ (λ z. rw right_entries)
