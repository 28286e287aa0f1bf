-- Places, entries and the tests of a summary, in the words of the demands.
use Prim.Native.Nat.{ℕ, zero, suc, ◌+◌, ◌≤◌}
use mathlib.Core.Path.{◌≡◌, refl, sym, ap, ◌∙◌}
use mathlib.Core.Logic.{◌↔◌}
use mathlib.Core.Bool.{true}
use mathlib.Core.List.{List}
use native.Mathlib.Omega.{arith}
use lib.ListN.{length, get_or}
use Rattle.room.specs.declared.Shape.{Shape}
use Rattle.room.specs.Addresses.{switch_of, switches_at}
use Rattle.summary.specs.Counts.{switches_below, switches_in, place_of}
use Rattle.summary.specs.Refusals.{has_entries, is_counted, are_counted}
use Rattle.summary.proofs.PlaceLaws.{below_next, place_is}
use Rattle.summary.proofs.RefusalLaws.{entries-long, long-entries, counted-entry, entry-counted, counted-below, below-counted}
use Rattle.demands.specs.Summaries.{switches_under, switch_total, entry_place, entry_of, EntryCounts}

module _ (s : Shape) where
  under_long : (l : ℕ) → switches_under s l ≡ length (switches_below s l)
  unfolding switches_below
  under_long zero = refl
  under_long (suc l) = ap (λ (x : ℕ). x + switches_at s l) (under_long l) ∙ sym (below_next s l)

  pub total : switch_total s ≡ length (switches_in s)
  unfolding switches_in
  total = under_long (suc s.k)

  pub place : (l w : ℕ) → entry_place s l w ≡ place_of s l w
  place l w = ap (λ (x : ℕ). x + w) (under_long l) ∙ sym (place_is s l w)

  pub entry : (c : List ℕ) (l w : ℕ) → entry_of s c l w ≡ get_or c (place_of s l w) 0
  entry c l w = ap (λ (i : ℕ). get_or c i 0) (place l w)

pub entries-exactly : (s : Shape) (c : List ℕ) → (has_entries s c ≡ true) ↔ (length c ≡ switch_total s)
entries-exactly s c = (λ h. entries-long s c h ∙ sym (total s), λ h. long-entries s c (h ∙ total s))

module _ (s : Shape) (t c : List ℕ) (a : ℕ) where
  pub counted-exactly : (l : ℕ) → (is_counted s t c a l ≡ true) ↔ EntryCounts s t c a l
  counted-exactly l = (
    λ h. entry s c l (switch_of s l a) ∙ counted-entry s t c a l h,
    λ h. entry-counted s t c a l (sym (entry s c l (switch_of s l a)) ∙ h),
  )

  pub all-counted-exactly : (are_counted s t c a (suc s.k) ≡ true) ↔ ((l : ℕ) → l ≤ s.k → EntryCounts s t c a l)
  all-counted-exactly = (
    λ h l p. (counted-exactly l).0 (counted-below s t c a (suc s.k) h l (omega arith)),
    λ h. below-counted s t c a (suc s.k) (λ l p. (counted-exactly l).1 (h l (omega arith))),
  )
