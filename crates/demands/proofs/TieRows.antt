-- The rows in which the tie rule decides, proved.
use Prim.Native.Nat.{ℕ, suc, ◌-◌}
use mathlib.Core.Path.{◌≡◌, refl, sym, ap, ap₂, ◌∙◌, subst}
use mathlib.Core.Bool.{true, false}
use mathlib.Core.List.Memᴰ
use mathlib.Core.List.{List, [], ◌∷◌, Memᴰ}
use native.Mathlib.Omega.{arith}
use lib.ListN.{length, replicate}
use Rattle.lists.specs.Lists.{is_in, in_turn, middle, filled}
use Rattle.lists.proofs.ListLaws.{length_turn}
use Rattle.refusals.specs.Refusals.{none, ◌or_else◌}
use Rattle.refusals.proofs.ChainLaws.{chain_goes}
use Rattle.room.specs.declared.Shape.{Shape}
use Rattle.room.specs.Shapes.{servers_of, bound, full_room}
use Rattle.room.specs.Digits.{digits_of, address_of, differ_from}
use Rattle.room.specs.Addresses.{digits, digit, with_digit, switch_of, differing}
use Rattle.room.specs.Refusals.{shape_refusal, server_refusal, pair_refusal, ends_refusal}
use Rattle.room.proofs.RefusalLaws.{ends_of}
use Rattle.links.specs.Table.{bit, failed, live, bits_fit, fits_levels, table_refusal, room_refusal}
use Rattle.path.specs.Routes.{byte_of, switch_at, level_to, switch_to, byte_to, switches_of, encode, RouteTo, Parallel}
use Rattle.path.specs.Walks.{arrived, hop_to, hop_refusal, again, fault, ended, walk_from, walk}
use Rattle.path.proofs.RouteLaws.{read_sound}
use Rattle.verdict.specs.Checks.{disjoint}
use Rattle.verdict.proofs.AcceptLaws.{disjoint-apart}
use Rattle.build.specs.Built.{plus_one, built_hops, met_by, built_route}
use Rattle.build.specs.Sets.{set_of}
use Rattle.finder.specs.Alternates.{hop_bytes}
use Rattle.finder.specs.Answers.{a_route, Finding}
use Rattle.finder.proofs.Unique.{finding-unique}
use Rattle.select.specs.Avoided.{avoided}
use Rattle.select.specs.Selection.{Unbroken, Replaces, replaced, SlotBySlot, Selecting}
use Rattle.select.proofs.OneAnswer.{selecting-unique}
use Rattle.demands.specs.ProvedTable.{array}
use Rattle.demands.specs.TieRows.{Finds, three_failed, many_failed, TieRows}
use Rattle.demands.proofs.Slots.{broken_gives_way, one-selection}
use Rattle.demands.proofs.ShortRoutes.{none_before, none_shorter, least, free_all, free-parallel}

-- ---- a route by its path bytes, its servers and its switches

pub record Row (s : Shape) (t : List ℕ) (a d : ℕ) (bs vs ws : List ℕ) : Type 0 where
  pub ends : ends_refusal s a d ≡ 0
  pub table : table_refusal s t ≡ 0
  pub eight : length (array bs) ≡ 8
  pub walked : walk s t a d (array bs) ≡ arrived vs ws
  pub bytes : bs ≡ hop_bytes s vs

module _ {s : Shape} {t : List ℕ} {a d : ℕ} {bs vs ws : List ℕ} (w : Row s t a d bs vs ws) where
  sound : RouteTo s t a d vs × (ws ≡ switches_of s vs) × (array bs ≡ encode s vs)
  sound =
      let e = ends_of s a d w.ends in
      read_sound t (array bs) vs ws e.source e.differ w.eight w.walked

  long : length vs ≡ suc (length bs)
  unfolding hop_bytes
  long = omega (arith, sound.0.route.some, length_turn (byte_to s) vs, ap length w.bytes)

  -- where the two tests pass, the search answers the route and nothing else
  finds : none_shorter s t d [] (length bs) a ≡ true → none_before s t d [] bs a ≡ true → Finds s t a d bs
  unfolding room_refusal
  finds e f r = (λ h. finding-unique s t a d r (a_route s vs) h given ∙ answer, λ h. subst (Finding s t a d) (sym (h ∙ sym answer)) given)
    where
      answer : a_route s vs ≡ record { refusal = none; hops = length bs; bytes = array bs }
      answer =
          let h : length vs - 1 ≡ length bs = omega (arith, long) in
          ap₂ (λ (m : ℕ) (x : List ℕ). record { refusal = none; hops = m; bytes = x }) h (sym sound.2)

      given : Finding s t a d (a_route s vs)
      given =
          record {
            refused = λ n. absurd (n (sym (chain_goes 0 (ends_refusal s a d) _ 0 (sym w.ends) refl (sym w.table))));
            given = λ z h.
                record {
                  servers = vs;
                  alternate = record { route = sound.0; first = λ us r. least s t d [] bs vs e f w.bytes long us r (free_all s t d us) };
                  answer = refl;
                };
            none = λ z h. let n : ⊥ = omega (arith, sound.0.route.some) in absurd n;
          }

  -- and where they pass with the switches of another route avoided, it is the alternate to that route
  replaces : {us : List ℕ} (avoid : List ℕ) → avoid ≡ switches_of s us → Parallel s vs us → none_shorter s t d avoid (length bs) a ≡ true → none_before s t d avoid bs a ≡ true → Replaces s t a d (us ∷ []) vs
  replaces {us} avoid same p e f =
      record {
        route = sound.0;
        avoids = record { each = apart };
        first = λ xs r g. least s t d avoid bs vs e f w.bytes long xs r (free-parallel s t d same (g.each us (Memᴰ.head refl)));
      }
    where
      apart : (xs : List ℕ) → Memᴰ xs (us ∷ []) → Parallel s vs xs
      apart xs h = subst (Parallel s vs) (sym (Memᴰ.eq_of_singleton h)) p

-- ---- the search

level_then_value : Row (full_room 3 1) (replicate 9 0) 0 7 (0x42 ∷ 0x01 ∷ []) (0 ∷ 6 ∷ 7 ∷ []) (4096 ∷ 2 ∷ [])
unfolding ends_refusal pair_refusal server_refusal shape_refusal servers_of table_refusal bits_fit fits_levels bound ◌or_else◌ walk walk_from fault again hop_refusal hop_to with_digit digit digits digits_of address_of live failed bit is_in switch_at switch_of ended filled hop_bytes in_turn byte_to byte_of level_to differing differ_from
level_then_value = record { ends = refl; table = refl; eight = refl; walked = refl; bytes = refl }

lower_value : Row (full_room 3 1) (1 ∷ replicate 8 0) 0 1 (0x41 ∷ 0x01 ∷ 0x40 ∷ []) (0 ∷ 3 ∷ 4 ∷ 1 ∷ []) (4096 ∷ 1 ∷ 4097 ∷ [])
unfolding ends_refusal pair_refusal server_refusal shape_refusal servers_of table_refusal bits_fit fits_levels bound ◌or_else◌ walk walk_from fault again hop_refusal hop_to with_digit digit digits digits_of address_of live failed bit is_in switch_at switch_of ended filled hop_bytes in_turn byte_to byte_of level_to differing differ_from
lower_value = record { ends = refl; table = refl; eight = refl; walked = refl; bytes = refl }

from_the_source : Row (full_room 2 2) (0 ∷ 0 ∷ 0 ∷ 0 ∷ 0 ∷ 0 ∷ 2 ∷ 0 ∷ []) 0 7 (0x81 ∷ 0x01 ∷ 0x41 ∷ []) (0 ∷ 4 ∷ 5 ∷ 7 ∷ []) (8192 ∷ 2 ∷ 4099 ∷ [])
unfolding ends_refusal pair_refusal server_refusal shape_refusal servers_of table_refusal bits_fit fits_levels bound ◌or_else◌ walk walk_from fault again hop_refusal hop_to with_digit digit digits digits_of address_of live failed bit is_in switch_at switch_of ended filled hop_bytes in_turn byte_to byte_of level_to differing differ_from
from_the_source = record { ends = refl; table = refl; eight = refl; walked = refl; bytes = refl }

level_and_value : Row (full_room 3 2) three_failed 0 24 (0x01 ∷ 0x82 ∷ 0x00 ∷ 0x42 ∷ []) (0 ∷ 1 ∷ 19 ∷ 18 ∷ 24 ∷ []) (0 ∷ 8193 ∷ 6 ∷ 4102 ∷ [])
unfolding ends_refusal pair_refusal server_refusal shape_refusal servers_of table_refusal bits_fit fits_levels bound ◌or_else◌ walk walk_from fault again hop_refusal hop_to with_digit digit digits digits_of address_of live failed bit is_in switch_at switch_of ended filled hop_bytes in_turn byte_to byte_of level_to differing differ_from
level_and_value = record { ends = refl; table = refl; eight = refl; walked = refl; bytes = refl }

-- ---- selection, both built routes broken

-- the alternates 42 01 41 03 and 02 43 03 41, by their servers
abbrev high : List ℕ
high = 0 ∷ 8 ∷ 9 ∷ 5 ∷ 7 ∷ []

abbrev low : List ℕ
low = 0 ∷ 2 ∷ 14 ∷ 15 ∷ 7 ∷ []

alternates : Row (full_room 4 1) many_failed 0 7 (0x42 ∷ 0x01 ∷ 0x41 ∷ 0x03 ∷ []) high (4096 ∷ 2 ∷ 4097 ∷ 1 ∷ []) × Row (full_room 4 1) many_failed 0 7 (0x02 ∷ 0x43 ∷ 0x03 ∷ 0x41 ∷ []) low (0 ∷ 4098 ∷ 3 ∷ 4099 ∷ [])
unfolding ends_refusal pair_refusal server_refusal shape_refusal servers_of table_refusal bits_fit fits_levels bound ◌or_else◌ walk walk_from fault again hop_refusal hop_to with_digit digit digits digits_of address_of live failed bit is_in switch_at switch_of ended filled hop_bytes in_turn byte_to byte_of level_to differing differ_from
alternates = (
  record { ends = refl; table = refl; eight = refl; walked = refl; bytes = refl },
  record { ends = refl; table = refl; eight = refl; walked = refl; bytes = refl },
)

built : (built_route (full_room 4 1) 1 0 7 ≡ 0 ∷ 4 ∷ 7 ∷ []) × (built_route (full_room 4 1) 0 0 7 ≡ 0 ∷ 3 ∷ 7 ∷ [])
unfolding built_route built_hops met_by plus_one bound with_digit digits digits_of address_of
built = (refl, refl)

-- the second hop of each built route crosses a failed link
high_broken : Unbroken (full_room 4 1) many_failed (0 ∷ 4 ∷ 7 ∷ []) → ⊥
unfolding live failed bit level_to differing differ_from digits digits_of
high_broken u = let e : false ≡ true = u.alive 1 (omega arith) in let z : ◌≡◌ {A = ℕ} 0 1 = cc in omega arith

low_broken : Unbroken (full_room 4 1) many_failed (0 ∷ 3 ∷ 7 ∷ []) → ⊥
unfolding live failed bit level_to differing differ_from digits digits_of
low_broken u = let e : false ≡ true = u.alive 1 (omega arith) in let z : ◌≡◌ {A = ℕ} 0 1 = cc in omega arith

-- slot 1 avoids the built route of slot 0, broken though it is; slot 0 avoids what slot 1 gave
built-switches : 0 ∷ 4099 ∷ [] ≡ switches_of (full_room 4 1) (0 ∷ 3 ∷ 7 ∷ [])
unfolding switches_of in_turn switch_to switch_at level_to differing differ_from switch_of digits digits_of address_of
built-switches = refl

high_parallel : Parallel (full_room 4 1) high (0 ∷ 3 ∷ 7 ∷ [])
unfolding disjoint is_in middle
high_parallel =
    record {
      switches = rw (← (sound alternates.0).1, ← built-switches) (disjoint-apart (4096 ∷ 2 ∷ 4097 ∷ 1 ∷ []) (0 ∷ 4099 ∷ []) refl);
      servers = disjoint-apart (middle high) (middle (0 ∷ 3 ∷ 7 ∷ [])) refl;
    }

low-parallel : Parallel (full_room 4 1) low high
unfolding disjoint is_in middle
low-parallel =
    record {
      switches = rw (← (sound alternates.0).1, ← (sound alternates.1).1) (disjoint-apart (0 ∷ 4098 ∷ 3 ∷ 4099 ∷ []) (4096 ∷ 2 ∷ 4097 ∷ 1 ∷ []) refl);
      servers = disjoint-apart (middle low) (middle high) refl;
    }

high_given : Replaces (full_room 4 1) many_failed 0 7 ((0 ∷ 3 ∷ 7 ∷ []) ∷ []) high
unfolding servers_of live failed bit is_in switch_to switch_at level_to byte_to byte_of digit differing differ_from switch_of digits digits_of address_of
high_given = replaces alternates.0 (0 ∷ 4099 ∷ []) built-switches high_parallel refl refl

low-given : Replaces (full_room 4 1) many_failed 0 7 (high ∷ []) low
unfolding servers_of live failed bit is_in switch_to switch_at level_to byte_to byte_of digit differing differ_from switch_of digits digits_of address_of
low-given = replaces alternates.1 (4096 ∷ 2 ∷ 4097 ∷ 1 ∷ []) (sound alternates.0).1 low-parallel refl refl

slots : SlotBySlot (full_room 4 1) many_failed 0 7 2 [] (high ∷ low ∷ [])
unfolding avoided
slots = (
  high ∷ [],
  replaced {vs = high} (λ u. high_broken (rw built.0 at u)) (rw built.1 high_given),
  (low ∷ [], replaced (λ u. low_broken (rw built.1 at u)) low-given, refl),
)

selecting : Selecting (full_room 4 1) many_failed 0 7 (record { refusal = none; routes = set_of (array (0x42 ∷ 0x01 ∷ 0x41 ∷ 0x03 ∷ []) ∷ array (0x02 ∷ 0x43 ∷ 0x03 ∷ 0x41 ∷ []) ∷ []) })
unfolding room_refusal ends_refusal pair_refusal server_refusal shape_refusal servers_of ◌or_else◌ table_refusal bits_fit fits_levels encode in_turn byte_to byte_of level_to digit differing differ_from digits digits_of filled
selecting =
    record {
      refused = λ n. absurd (n refl);
      given = λ e. record { routes = high ∷ low ∷ []; slots = slots; answer = refl };
    }

-- ---- the rows

pub tie_rows : TieRows
unfolding servers_of live failed bit is_in switch_to switch_at level_to byte_to byte_of digit differing differ_from switch_of digits digits_of address_of
tie_rows =
    record {
      level_then_value = finds level_then_value refl refl;
      lower_value = finds lower_value refl refl;
      from_the_source = finds from_the_source refl refl;
      level_and_value = finds level_and_value refl refl;
      both-broken = λ r. (λ h. selecting-unique h selecting, λ e. subst (Selecting (full_room 4 1) many_failed 0 7) (sym e) selecting);
      no_other = λ r h. one-selection (full_room 4 1) many_failed 0 7 r _ h (broken_gives_way (full_room 4 1) many_failed 0 7 _ selecting refl);
    }
