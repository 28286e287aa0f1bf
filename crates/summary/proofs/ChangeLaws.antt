-- Laws of a link changed with its summary: the switch of the link counts one more, or one less, or as many as before.
use Prim.Native.Nat.{ℕ, zero, suc, ◌+◌, ◌-◌, ◌≤◌, ◌<◌}
use mathlib.Core.Path.{◌≡◌, refl, sym, ap, ap₂, ◌∙◌, subst}
use mathlib.Core.Logic.{◌≢◌}
use mathlib.Core.Bool.{Bool, true, false, not, beq, true≢false}
use mathlib.Core.List.{List}
use native.Mathlib.Numerals.{add-one}
use native.Mathlib.Omega.{arith}
use native.Mathlib.Decide.{ℕ_discrete}
use lib.ListN.{length, get_or, set, length-set}
use lib.Seq.{set-get_or, get_or-set_other}
use Rattle.std.specs.Prelude.{Result, Ok}
use Rattle.std.specs.Cmp.{booleans_Decides}
use Rattle.refusals.specs.declared.Reason.{Reason}
use Rattle.refusals.specs.Reasons.{tells}
use Rattle.room.specs.declared.Shape.{Shape}
use Rattle.room.specs.declared.Switch.{Switch}
use Rattle.room.specs.Shapes.{Link}
use Rattle.room.specs.Addresses.{switch_of}
use Rattle.room.specs.Answers.{no_switch, the_switch, switch_answer}
use Rattle.room.proofs.RoomLaws.{bound_le}
use Rattle.links.specs.Table.{bit, failed, changed, changed_in, TableOf}
use Rattle.links.proofs.TableLaws.{changed-in, changed-long, changed_already, changed-other, changed_below, below-own, below_other, below-table}
use Rattle.summary.specs.Counts.{place_of, count_at, recounted, recounted_below}
use Rattle.summary.specs.Refusals.{is_counted}
use Rattle.summary.specs.Inside.{CountedLink, CountedServer}
use Rattle.summary.specs.Answers.{changed_server}
use Rattle.summary.proofs.PlaceLaws.{place-one, link-switch}
use Rattle.summary.proofs.CountLaws.{count_same, count_more, count_most}
use Rattle.summary.proofs.RefusalLaws.{entries-long, long-entries, counted-entry, entry-counted, counted-below}
use Rattle.summary.proofs.EntryLaws.{found-place}
use Rattle.summary.proofs.ServerLaws.{server-own, server-other, server-all}

-- where the count of a link's switch is as before, so is the summary: u is the table after it
counted_still : (s : Shape) (t u c : List ℕ) (a l : ℕ) → is_counted s t c a l ≡ true → count_at s u l (switch_of s l a) ≡ count_at s t l (switch_of s l a) → recounted s u a l c ≡ c
unfolding recounted
counted_still s t u c a l h e =
    let p = place_of s l (switch_of s l a) in
    ap (set c p) (e ∙ sym (counted-entry s t c a l h)) ∙ set-get_or c p 0

-- a link that is as it is wanted
module _ (s : Shape) (t c : List ℕ) (a l : ℕ) (h : CountedLink s t c a l) (b : Bool) (e : failed t a l ≡ b) where
  pub kept_table : changed b a l t ≡ t
  kept_table = changed_already b a l t e

  pub kept_summary : recounted s (changed b a l t) a l c ≡ c
  kept_summary = counted_still s t (changed b a l t) c a l h.counted (ap (λ (u : List ℕ). count_at s u l (switch_of s l a)) kept_table)

-- of two that differ, one is what the other is not
differs : (b d : Bool) → beq b d ≡ false → b ≡ not d
differs true false e = refl
differs false true e = refl
differs true true e = absurd (true≢false e)
differs false false e = absurd (true≢false e)

-- as the program changes it: u is the table that it left, f what the link is to be
module _ (s : Shape) (t c : List ℕ) (a l : ℕ) (h : CountedLink s t c a l) (f : Bool) (u : List ℕ) (r : u ≡ changed_in f a l t) where
  pub made_table : u ≡ changed f a l t
  made_table = r ∙ changed-in f a l t (omega (arith, h.link.level, h.link.server.valid.levels))

  others : (x : ℕ) → x ≢ a → failed u x l ≡ failed t x l
  others x n = ap (λ (y : List ℕ). failed y x l) made_table ∙ changed-other f a l x l t (λ q. absurd (n q))

  -- the summary by the count in u
  by_left : (d : List ℕ) → d ≡ recounted s u a l c → d ≡ recounted s (changed f a l t) a l c
  by_left d q = q ∙ ap (λ (y : List ℕ). recounted s y a l c) made_table

  -- b is what it found of the link before, d after
  module _ (b d : Bool) (e : b ≡ failed t a l) (v : d ≡ failed u a l) where
    pub same_summary : beq b d ≡ true → c ≡ recounted s (changed f a l t) a l c
    same_summary m =
        by_left c
        (sym
        (counted_still s t u c a l h.counted
        (count_same s u t l (switch_of s l a)
        (λ x q k. elim (ℕ_discrete x a) [ yes z ↦ rw z (sym v ∙ sym ((booleans_Decides b d).0 m) ∙ e) | no z ↦ others x z ]))))

    -- q is what it was told of the link's switch, x the switch in it, i the place of its entry
    module _ (q : Result Switch Reason) (g : tells no_switch the_switch q ≡ switch_answer s a l) (x : Switch) (k : q ≡ Ok x) (z : Shape) (j : z ≡ s) (i : ℕ) (p : i ≡ place_of z l x.number) where
      place : i ≡ place_of s l (switch_of s l a)
      place = found-place s a l h.link q g x k z j i p c

      entry : get_or c i 0 ≡ count_at s t l (switch_of s l a)
      entry = ap (λ (j : ℕ). get_or c j 0) place ∙ counted-entry s t c a l h.counted

      stored : (w : ℕ) → w ≡ count_at s u l (switch_of s l a) → set c i w ≡ recounted s (changed f a l t) a l c
      unfolding recounted
      stored w y = by_left (set c i w) (ap₂ (set c) place y)

      -- failed now, and not before
      module _ (n : beq b d ≡ false) (m : d ≡ true) where
        raised : get_or c i 0 + 1 ≡ count_at s u l (switch_of s l a)
        raised = omega (arith, entry, count_more h.link t u (sym e ∙ differs b d n ∙ ap not m) (sym v ∙ m) others)

        pub raise_fits : get_or c i 0 + 1 < 256
        raise_fits =
            let valid = h.link.server.valid in
            omega (arith, raised, count_most (link-switch h.link) u, bound_le valid l, valid.ports)

        pub raise_made : set c i (get_or c i 0 + 1) ≡ recounted s (changed f a l t) a l c
        raise_made = stored _ raised

      -- failed before, and not now
      module _ (n : beq b d ≡ false) (m : d ≡ false) where
        lowered : get_or c i 0 ≡ suc (count_at s u l (switch_of s l a))
        lowered = entry ∙ count_more h.link u t (sym v ∙ m) (sym e ∙ differs b d n ∙ ap not m) (λ y q. sym (others y q))

        pub lower-fits : 1 ≤ get_or c i 0
        lower-fits = omega (arith, lowered)

        pub lower-made : set c i (get_or c i 0 - 1) ≡ recounted s (changed f a l t) a l c
        lower-made = stored _ (omega (arith, lowered))

-- ---- all links of a server, level after level: t and c as they were lent, u and d as they are with the levels below l changed

pub record Changing (b : Bool) (s : Shape) (a : ℕ) (t c : List ℕ) (l : ℕ) (u d : List ℕ) : Type 0 where
  pub upto : l ≤ suc s.k
  pub wide : length u ≡ length t
  pub long : length d ≡ length c
  pub table : u ≡ changed_below b a l t
  pub summary : d ≡ recounted_below s (changed_server b s a t) a l c

pub recounted-long : (s : Shape) (u : List ℕ) (a l : ℕ) (c : List ℕ) → length (recounted s u a l c) ≡ length c
unfolding recounted
recounted-long s u a l c = length-set c (place_of s l (switch_of s l a)) (count_at s u l (switch_of s l a))

pub recounted-below-long : (s : Shape) (u : List ℕ) (a l : ℕ) (c : List ℕ) → length (recounted_below s u a l c) ≡ length c
unfolding recounted_below
recounted-below-long s u a zero c = refl
recounted-below-long s u a (suc l) c = recounted-long s u a l (recounted_below s u a l c) ∙ recounted-below-long s u a l c

-- an entry that is none of the server's at the levels below l stays
pub recounted_stays : (s : Shape) (u : List ℕ) (a l : ℕ) (c : List ℕ) (i : ℕ) → ((m : ℕ) → m < l → i ≢ place_of s m (switch_of s m a)) → get_or (recounted_below s u a l c) i 0 ≡ get_or c i 0
unfolding recounted_below recounted
recounted_stays s u a zero c i h = refl
recounted_stays s u a (suc l) c i h =
    get_or-set_other (recounted_below s u a l c) (place_of s l (switch_of s l a)) i (count_at s u l (switch_of s l a)) 0 (h l (omega arith))
    ∙ recounted_stays s u a l c i (λ m p. h m (omega arith))

module _ (b : Bool) (s : Shape) (a : ℕ) (t c : List ℕ) where
  pub changing_start : Changing b s a t c 0 t c
  unfolding changed_below recounted_below
  changing_start = record { upto = omega arith; wide = refl; long = refl; table = refl; summary = refl }

  module _ (h : CountedServer s t c a) (l : ℕ) (u d : List ℕ) (i : Changing b s a t c l u d) where
    module _ (p : l ≤ s.k) where
      link : Link s a l
      link = record { server = h.server; level = p }

      pub changing_counted : CountedLink s u d a l
      changing_counted =
          record {
            link = link;
            table = subst (TableOf s) (sym i.table) (below-table b a t h.table l (omega arith));
            entries = long-entries s d (i.long ∙ entries-long s c h.entries);
            counted =
                entry-counted s u d a l
                (ap (λ (x : List ℕ). get_or x (place_of s l (switch_of s l a)) 0) i.summary
                ∙ recounted_stays s (changed_server b s a t) a l c (place_of s l (switch_of s l a)) apart
                ∙ counted-entry s t c a l (counted-below s t c a (suc s.k) h.counted l (omega arith))
                ∙ count_same s t u l (switch_of s l a) (λ x q e. sym (ap (λ (y : List ℕ). failed y x l) i.table ∙ below_other b a t l x l (λ f r. omega arith))));
          }
        where
          -- at another level its switch has another place
          apart : (m : ℕ) → m < l → place_of s l (switch_of s l a) ≢ place_of s m (switch_of s m a)
          apart m q e =
              let other : Link s a m = record { server = h.server; level = omega arith } in
              let z = (place-one (link-switch link) (link-switch other) e).0 in
              omega arith

      pub changing_next : (v e : List ℕ) → (v ≡ changed b a l u) × (e ≡ recounted s (changed b a l u) a l d) → Changing b s a t c (l + 1) v e
      unfolding changed_below recounted_below recounted failed
      changing_next v e q =
          let w = switch_of s l a in
          let f : changed b a l u ≡ changed_below b a (suc l) t = ap (changed b a l) i.table in
          record {
            upto = omega arith;
            wide = ap length q.0 ∙ changed-long b a l u ∙ i.wide;
            long = ap length q.1 ∙ recounted-long s (changed b a l u) a l d ∙ i.long;
            table = q.0 ∙ f ∙ ap (λ (x : ℕ). changed_below b a x t) (sym (add-one l));
            summary =
                q.1
                ∙ ap₂ (λ (x : List ℕ) (y : ℕ). set x (place_of s l w) y) i.summary (ap (λ (x : List ℕ). count_at s x l w) f ∙ count_same s _ (changed_server b s a t) l w (λ x r g. agree x))
                ∙ ap (λ (x : ℕ). recounted_below s (changed_server b s a t) a x c) (sym (add-one l));
          }
        where
          agree : (x : ℕ) → failed (changed_below b a (suc l) t) x l ≡ failed (changed_server b s a t) x l
          agree x =
              elim (ℕ_discrete x a) [
                | yes e ↦ rw e (below-own b a t (omega (arith, h.server.below, h.table.long)) (suc l) l (omega arith) ∙ sym (server-own b h.server h.table l p))
                | no n ↦ below_other b a t (suc l) x l (λ e r. n e) ∙ ap (bit l) (sym (server-other b s a x t n))
              ]

    -- all of them
    module _ (p : s.k < l) where
      last : l ≡ suc s.k
      last = omega (arith, i.upto)

      pub all_changed : u ≡ changed_server b s a t
      all_changed = i.table ∙ ap (λ (x : ℕ). changed_below b a x t) last ∙ server-all b h.server h.table

      pub all-recounted : d ≡ recounted_below s (changed_server b s a t) a (suc s.k) c
      all-recounted = i.summary ∙ ap (λ (x : ℕ). recounted_below s (changed_server b s a t) a x c) last
