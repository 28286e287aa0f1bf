-- Wrong answers of `laying`, refuted: a link is marked that should not be, or the other way round.
use Prim.Native.Nat.{ℕ}
use mathlib.Core.Path.{◌≡◌, refl, sym, ap, ◌∙◌}
use mathlib.Core.Bool.{false, ◌||◌}
use mathlib.Core.List.{List, [], ◌∷◌}
use lib.Dec.{eqb}
use Rattle.lists.specs.Lists.{is_in, in_turn, middle, filled}
use Rattle.refusals.specs.Refusals.{Refusal, ◌or_else◌}
use Rattle.room.specs.declared.Shape.{Shape}
use Rattle.room.specs.Shapes.{servers_of, bound}
use Rattle.room.specs.Digits.{digits_of, address_of, differ_from}
use Rattle.room.specs.Addresses.{digits, digit, with_digit, switch_of, differing}
use Rattle.room.specs.Refusals.{shape_refusal, level_refusal, server_refusal, pair_refusal, link_refusal, ends_refusal}
use Rattle.room.proofs.RefusalLaws.{link_of}
use Rattle.links.specs.Table.{bit, failed, live, bits_fit, fits_levels, table_refusal, room_refusal}
use Rattle.path.specs.Routes.{byte_of, switch_at, level_to, switch_to, byte_to, switches_of, encode}
use Rattle.path.specs.Walks.{hop_to, hop_refusal, again, fault, ended, walk_from, walk}
use Rattle.path.specs.Answers.{array_refusal, walk_answer, read_answer}
use Rattle.laying.specs.Laid.{takes, taken}
use Rattle.laying.specs.Answers.{lay_refusal, Lays}
use Rattle.wrong.specs.Never.{Loan}
use Rattle.wrong.specs.Examples.{array, direct}
use Rattle.wrong.specs.Laying.{Laying}
use Rattle.wrong.proofs.Clash.{differ, clash_left, bit as truth}
use Rattle.wrong.proofs.Routes.{Walks, walks}

module _ {s : Shape} {t : List ℕ} {a d : ℕ} {bs : List ℕ} {r : Refusal} {u : List ℕ} (p : Lays s t a d bs r u) where
  number : r.number ≡ (lay_refusal s t a d bs).number
  number = ap (λ (x : Refusal). x.number) p.refusal

  -- where the array is that of the route vs, what is left is not w, which has the link of server x at level l otherwise
  not-laid : {vs ws w : List ℕ} → Walks s [] a d vs ws → (lay_refusal s t a d bs).number ≡ 0 → bs ≡ encode s vs → (x l : ℕ) → link_refusal s x l ≡ 0 → eqb (truth (failed w x l)) (truth (failed t x l || taken s (vs ∷ []) x l)) ≡ false → u ≡ w → ⊥
  not-laid {vs} {w = w} k z e x l h n q =
      differ truth n (ap (λ (y : List ℕ). failed y x l) (sym q) ∙ (p.laid (number ∙ z) vs (record { route = k.route; bytes = e })).marks x l (link_of s x l h))

pub wrong_laying : (o q : Loan) → Laying o q
unfolding servers_of bound digits_of address_of differ_from digits digit with_digit switch_of differing ◌or_else◌ shape_refusal level_refusal server_refusal pair_refusal link_refusal bit failed live bits_fit fits_levels table_refusal is_in in_turn middle filled byte_of switch_at level_to switch_to byte_to switches_of encode hop_to hop_refusal again fault ended walk_from walk ends_refusal array_refusal walk_answer read_answer takes taken room_refusal lay_refusal
wrong_laying o q =
    record {
      short_table_taken = λ κ r x p e. differ (λ (y : Refusal). y.number) refl (sym e ∙ p.refusal);
      array_before_table = λ κ r x p e. differ (λ (y : Refusal). y.number) refl (sym e ∙ p.refusal);
      failed_link_refused = λ κ r x p e. differ (λ (y : Refusal). y.number) refl (sym e ∙ p.refusal);
      lays_nothing = λ κ r x p. not-laid p (walks direct _ _ refl refl refl) refl refl 4 0 refl refl;
      switches_forgotten = λ κ r x p. not-laid p (walks direct _ _ refl refl refl) refl refl 5 0 refl refl;
      middle_servers_forgotten = λ κ r x p. not-laid p (walks (array (0x81 ∷ 0x41 ∷ [])) _ _ refl refl refl) refl refl 4 0 refl refl;
      last_switch_forgotten = λ κ r x p. not-laid p (walks direct _ _ refl refl refl) refl refl 7 0 refl refl;
      own_links_only = λ κ r x p. not-laid p (walks direct _ _ refl refl refl) refl refl 8 1 refl refl;
      ends_laid = λ κ r x p. not-laid p (walks direct _ _ refl refl refl) refl refl 0 0 refl refl;
      bits_exchanged = λ κ r x p. not-laid p (walks direct _ _ refl refl refl) refl refl 0 0 refl refl;
      earlier_mark_lost = λ κ r x p. not-laid p (walks direct _ _ refl refl refl) refl refl 15 0 refl refl;
      laid_on_refusal = λ κ r x p. clash_left 0 refl (p.kept (λ z. differ (λ y. y) refl (sym z ∙ number p)));
      full_table_taken = λ κ r x p e. differ (λ (y : Refusal). y.number) refl (sym e ∙ p.refusal);
      value_m_laid = λ κ r x p e. differ (λ (y : Refusal). y.number) refl (sym e ∙ p.refusal);
      m_servers_at_level_0 = λ κ r x p. not-laid p (walks direct _ _ refl refl refl) refl refl 6 0 refl refl;
    }
