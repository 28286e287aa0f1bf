-- Laws of the refusals with a summary: what each chain lets through, and as the program tests it.
use Prim.Native.Nat.{ℕ, zero, suc, ◌<◌}
use mathlib.Core.Path.{◌≡◌, refl, sym, ap, ◌∙◌}
use mathlib.Core.Bool.{Bool, true, false, true≢false}
use mathlib.Core.List.{List}
use native.Mathlib.Omega.{arith}
use native.Mathlib.Decide.{ℕ_discrete}
use lib.Dec.{eqb}
use lib.ListN.{length, get_or}
use borrow.Author.Tests.{eqb-true, eq-eqb}
use Rattle.lists.specs.Lists.{same}
use Rattle.lists.proofs.ListLaws.{both_held, same_self, same_true}
use Rattle.refusals.specs.Refusals.{◌unless◌}
use Rattle.refusals.proofs.ChainLaws.{or_else_zero, chain_stops, chain_goes, chain_on, test_held, test_passed, test_failed}
use Rattle.room.specs.declared.Shape.{Shape}
use Rattle.room.specs.Shapes.{Valid, Server, Link}
use Rattle.room.specs.Addresses.{switch_of}
use Rattle.room.specs.Refusals.{shape_refusal}
use Rattle.room.proofs.RefusalLaws.{valid-none}
use Rattle.links.specs.Table.{TableOf, room_table_refusal, table_link_refusal, table_server_refusal}
use Rattle.links.proofs.TableLaws.{room-table_of, room-table-none, table-link_of, table-link-none, table-server_of, table-server-none}
use Rattle.summary.specs.Counts.{switches_in, place_of, count_at, summary_of}
use Rattle.summary.specs.Refusals.{has_entries, is_counted, are_counted, counted_link_refusal, counted_server_refusal, summary_refusal, entries_refusal}
use Rattle.summary.specs.Inside.{CountedLink, CountedServer}
use Rattle.summary.proofs.PlaceLaws.{summary_long}

-- ---- what the tests tell

pub entries-long : (s : Shape) (c : List ℕ) → has_entries s c ≡ true → length c ≡ length (switches_in s)
unfolding has_entries
entries-long s c h = eqb-true _ _ h

pub long-entries : (s : Shape) (c : List ℕ) → length c ≡ length (switches_in s) → has_entries s c ≡ true
unfolding has_entries
long-entries s c h = eq-eqb _ _ h

pub counted-entry : (s : Shape) (t c : List ℕ) (a l : ℕ) → is_counted s t c a l ≡ true → get_or c (place_of s l (switch_of s l a)) 0 ≡ count_at s t l (switch_of s l a)
unfolding is_counted
counted-entry s t c a l h = eqb-true _ _ h

pub entry-counted : (s : Shape) (t c : List ℕ) (a l : ℕ) → get_or c (place_of s l (switch_of s l a)) 0 ≡ count_at s t l (switch_of s l a) → is_counted s t c a l ≡ true
unfolding is_counted
entry-counted s t c a l h = eq-eqb _ _ h

-- at the levels below l: each of them
pub counted-below : (s : Shape) (t c : List ℕ) (a l : ℕ) → are_counted s t c a l ≡ true → (m : ℕ) → m < l → is_counted s t c a m ≡ true
unfolding are_counted
counted-below s t c a zero h m p = let z : ⊥ = omega arith in absurd z
counted-below s t c a (suc l) h m p =
    let q = both_held (are_counted s t c a l) (is_counted s t c a l) h in
    elim (ℕ_discrete m l) [ yes e ↦ ap (is_counted s t c a) e ∙ q.1 | no e ↦ counted-below s t c a l q.0 m (omega (arith, e)) ]

pub below-counted : (s : Shape) (t c : List ℕ) (a l : ℕ) → ((m : ℕ) → m < l → is_counted s t c a m ≡ true) → are_counted s t c a l ≡ true
unfolding are_counted
below-counted s t c a zero h = refl
below-counted s t c a (suc l) h = rw (below-counted s t c a l (λ m p. h m (omega arith)), h l (omega arith))

-- ---- what a summary that is not refused is

pub counted-link_of : (s : Shape) (t c : List ℕ) (a l : ℕ) → counted_link_refusal s t c a l ≡ 0 → CountedLink s t c a l
unfolding counted_link_refusal
counted-link_of s t c a l z =
    let p = or_else_zero (table_link_refusal s t a l) _ z in
    let q = table-link_of s t a l p.0 in
    let r = both_held (has_entries s c) (is_counted s t c a l) (test_held _ 29 p.1) in
    record { link = q.0; table = q.1; entries = r.0; counted = r.1 }

pub counted-link-none : {s : Shape} {t c : List ℕ} {a l : ℕ} → CountedLink s t c a l → 0 ≡ counted_link_refusal s t c a l
unfolding counted_link_refusal
counted-link-none h = chain_goes _ _ _ _ (table-link-none h.link h.table) refl (rw (h.entries, h.counted))

pub counted-server_of : (s : Shape) (t c : List ℕ) (a : ℕ) → counted_server_refusal s t c a ≡ 0 → CountedServer s t c a
unfolding counted_server_refusal
counted-server_of s t c a z =
    let p = or_else_zero (table_server_refusal s t a) _ z in
    let q = table-server_of s t a p.0 in
    let r = both_held (has_entries s c) (are_counted s t c a (suc s.k)) (test_held _ 29 p.1) in
    record { server = q.0; table = q.1; entries = r.0; counted = r.1 }

pub counted-server-none : {s : Shape} {t c : List ℕ} {a : ℕ} → CountedServer s t c a → 0 ≡ counted_server_refusal s t c a
unfolding counted_server_refusal
counted-server-none h = chain_goes _ _ _ _ (table-server-none h.server h.table) refl (rw (h.entries, h.counted))

pub summary-of : (s : Shape) (t c : List ℕ) → summary_refusal s t c ≡ 0 → Valid s × TableOf s t × (c ≡ summary_of s t)
unfolding summary_refusal
summary-of s t c z =
    let p = or_else_zero (room_table_refusal s t) _ z in
    let q = room-table_of s t p.0 in
    (q.0, q.1, same_true c (summary_of s t) (test_held _ 29 p.1))

pub summary_none : {s : Shape} {t : List ℕ} → Valid s → TableOf s t → 0 ≡ summary_refusal s t (summary_of s t)
unfolding summary_refusal
summary_none {s} {t} v k = chain_goes _ _ _ _ (room-table-none v k) refl (rw (same_self (summary_of s t)))

pub entries_of : (s : Shape) (t c : List ℕ) → entries_refusal s t c ≡ 0 → Valid s × TableOf s t × (has_entries s c ≡ true)
unfolding entries_refusal
entries_of s t c z =
    let p = or_else_zero (room_table_refusal s t) _ z in
    let q = room-table_of s t p.0 in
    (q.0, q.1, test_held _ 29 p.1)

pub entries_none : {s : Shape} {t : List ℕ} → Valid s → TableOf s t → (c : List ℕ) → has_entries s c ≡ true → 0 ≡ entries_refusal s t c
unfolding entries_refusal
entries_none v k c h = chain_goes _ _ _ _ (room-table-none v k) refl (rw h)

-- ---- as the program tests: what it passed of the tests before

pub entries-made : (s r : Shape) (c : List ℕ) (x : ℕ) → r ≡ s → x ≡ length (switches_in r) → eqb (length c) x ≡ has_entries s c
unfolding has_entries
entries-made s r c x q e = ap (eqb (length c)) (e ∙ ap (λ (z : Shape). length (switches_in z)) q)

module _ (s : Shape) (t : List ℕ) (a l : ℕ) (e : 0 ≡ table_link_refusal s t a l) where
  pub link-there : Link s a l
  link-there = (table-link_of s t a l (sym e)).0

  pub link-room : shape_refusal s ≡ 0
  link-room = sym (valid-none link-there.server.valid)

module _ (s : Shape) (t : List ℕ) (a : ℕ) (e : 0 ≡ table_server_refusal s t a) where
  pub server-there : Server s a
  server-there = (table-server_of s t a (sym e)).0

  pub server-room : shape_refusal s ≡ 0
  server-room = sym (valid-none server-there.valid)

pub table-room : (s : Shape) (t : List ℕ) → 0 ≡ room_table_refusal s t → shape_refusal s ≡ 0
table-room s t e = sym (valid-none (room-table_of s t (sym e)).0)

module _ (s : Shape) (t c : List ℕ) (e : 0 ≡ entries_refusal s t c) where
  pub entries-room : shape_refusal s ≡ 0
  entries-room = sym (valid-none (entries_of s t c (sym e)).0)

  pub entries-there : has_entries s c ≡ true
  entries-there = (entries_of s t c (sym e)).2

  pub summary_goes : (b : Bool) → b ≡ same c (summary_of s t) → b ≡ true → 0 ≡ summary_refusal s t c
  unfolding summary_refusal
  summary_goes b f h =
      let q = entries_of s t c (sym e) in
      chain_on _ _ _ (room-table-none q.0 q.1) (test_passed 30 b _ f h)

  pub summary_differs : (b : Bool) → b ≡ same c (summary_of s t) → b ≡ false → 30 ≡ summary_refusal s t c
  unfolding summary_refusal
  summary_differs b f h =
      let q = entries_of s t c (sym e) in
      chain_on _ _ _ (room-table-none q.0 q.1) (test_failed 30 b _ f h)

module _ (s : Shape) (t c : List ℕ) (r : ℕ) (e : r ≡ entries_refusal s t c) where
  pub summary_stops : (r ≡ 0 → ⊥) → r ≡ summary_refusal s t c
  unfolding summary_refusal entries_refusal
  summary_stops n =
      elim (ℕ_discrete (room_table_refusal s t) 0) [
        | yes p ↦
            let q = e ∙ sym (chain_goes _ _ (30 unless has_entries s c) _ refl p refl) in
            chain_goes _ _ _ r refl p (short (has_entries s c) refl q)
        | no p ↦ chain_stops r _ _ (e ∙ sym (chain_stops _ _ (30 unless has_entries s c) refl p)) n
      ]
    where
      -- a summary of another length is not that of the table
      differs : (b : Bool) → same c (summary_of s t) ≡ b → has_entries s c ≡ false → 30 ≡ 30 unless same c (summary_of s t)
      differs false f h = rw f
      differs true f h =
          let d = same_true c (summary_of s t) f in
          absurd (true≢false (sym (long-entries s c (ap length d ∙ summary_long s t)) ∙ h))

      short : (b : Bool) → has_entries s c ≡ b → r ≡ 30 unless has_entries s c → r ≡ 30 unless same c (summary_of s t)
      short true h q = absurd (n (q ∙ rw h refl))
      short false h q = (q ∙ rw h refl) ∙ differs (same c (summary_of s t)) refl h
