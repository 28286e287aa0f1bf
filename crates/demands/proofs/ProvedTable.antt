-- The proved table, proved.
use Prim.Native.Nat.{ℕ, ◌-◌}
use mathlib.Core.Path.{◌≡◌, refl, sym, ap, subst}
use mathlib.Core.Bool.{true, false}
use mathlib.Core.List.Memᴰ
use mathlib.Core.List.{List, [], ◌∷◌, Memᴰ}
use native.Mathlib.Omega.{arith}
use lib.ListN.{replicate}
use Rattle.lists.specs.Lists.{first_where, place_in, filled, is_in, in_turn, middle}
use Rattle.refusals.specs.Refusals.{none, refused_at, with_earlier, ◌or_else◌}
use Rattle.room.specs.declared.Shape.{Shape}
use Rattle.room.specs.Shapes.{servers_of, bound, Server, full_room}
use Rattle.room.specs.Digits.{digits_of, address_of, differ_from}
use Rattle.room.specs.Addresses as addresses
use Rattle.room.specs.Refusals.{shape_refusal, server_refusal, pair_refusal, place_bound, places_fit, places_refusal, ends_refusal}
use Rattle.room.specs.Answers.{a_number, some_digits, address_answer, digits_answer}
use Rattle.room.proofs.RefusalLaws.{server_of}
use Rattle.links.specs.Table.{bit, failed, live, marked, bits_fit, fits_levels, table_refusal, with_bit, room_refusal, changed}
use Rattle.path.specs.Routes.{byte_of, switch_at, level_to, switch_to, byte_to, switches_of, encode, RouteTo, Parallel}
use Rattle.path.specs.Walks.{arrived, hop_to, hop_refusal, again, earlier_of, fault, ended, walk_from, walk}
use Rattle.path.specs.Answers.{array_refusal, walk_answer, read_answer, a_writing, reverse_answer}
use Rattle.path.proofs.RouteLaws.{read_sound}
use Rattle.verdict.specs.Checks.{disjoint}
use Rattle.verdict.proofs.AcceptLaws.{disjoint-apart}
use Rattle.build.specs.Told.{Building}
use Rattle.build.specs.Built as build
use Rattle.build.specs.Sets.{joined, set_of, array_in}
use Rattle.build.specs.Answers.{no_building, a_building, build_answer}
use Rattle.finder.specs.Alternates.{hop_bytes}
use Rattle.select.specs.Avoided.{avoided}
use Rattle.select.specs.Selection.{Unbroken, Replaces, Slot, kept, replaced, SlotBySlot, Selecting}
use Rattle.select.proofs.OneAnswer.{selecting-unique}
use Rattle.desk_line.specs.Answers.{desk_text}
use Rattle.desk_line.proofs.Vectors.{worked_line}
use Rattle.demands.specs.ProvedTable.{digits, ascii, array, Built, dead03, ProvedTable}
use Rattle.demands.proofs.ShortRoutes.{none_before, none_shorter, least, free-parallel}

-- ---- addresses

is_1 : address_answer (full_room 8 3) (digits 0 0 0 1) ≡ a_number 1
unfolding address_answer places_refusal places_fit place_bound shape_refusal servers_of bound ◌or_else◌ address_of
is_1 = refl

is_521 : address_answer (full_room 8 3) (digits 1 0 1 1) ≡ a_number 521
unfolding address_answer places_refusal places_fit place_bound shape_refusal servers_of bound ◌or_else◌ address_of
is_521 = refl

is_3 : address_answer (full_room 4 1) (digits 0 0 0 3) ≡ a_number 3
unfolding address_answer places_refusal places_fit place_bound shape_refusal servers_of bound ◌or_else◌ address_of
is_3 = refl

is_7 : address_answer (full_room 4 1) (digits 0 0 1 3) ≡ a_number 7
unfolding address_answer places_refusal places_fit place_bound shape_refusal servers_of bound ◌or_else◌ address_of
is_7 = refl

of_1 : digits_answer (full_room 8 3) 1 ≡ some_digits (digits 0 0 0 1)
unfolding digits_answer server_refusal shape_refusal servers_of ◌or_else◌ filled addresses.digits digits_of
of_1 = refl

of_521 : digits_answer (full_room 8 3) 521 ≡ some_digits (digits 1 0 1 1)
unfolding digits_answer server_refusal shape_refusal servers_of ◌or_else◌ filled addresses.digits digits_of
of_521 = refl

-- ---- built routes

figure_4 : build_answer (full_room 8 3) 1 521
    ≡ a_building (set_of (array (0xc1 ∷ 0x41 ∷ []) ∷ array (0x81 ∷ 0x41 ∷ 0xc1 ∷ 0x80 ∷ []) ∷ array (0x41 ∷ 0xc1 ∷ []) ∷ array (0x02 ∷ 0xc1 ∷ 0x41 ∷ 0x01 ∷ []) ∷ []))
unfolding build_answer ends_refusal pair_refusal server_refusal shape_refusal servers_of ◌or_else◌ build.built_arrays build.built_bytes build.built_hops build.bytes_of byte_of filled build.plus_one bound addresses.digits digits_of
figure_4 = refl

printed : desk_text (ascii "8 3 1 521\n") ≡ ascii "c141000000000000 2\n8141c18000000000 4\n41c1000000000000 2\n02c1410100000000 4\n"
printed = worked_line

testbed : build_answer (full_room 4 1) 0 7 ≡ a_building (set_of (array (0x41 ∷ 0x03 ∷ []) ∷ array (0x03 ∷ 0x41 ∷ []) ∷ []))
unfolding build_answer ends_refusal pair_refusal server_refusal shape_refusal servers_of ◌or_else◌ build.built_arrays build.built_bytes build.built_hops build.bytes_of byte_of filled build.plus_one bound addresses.digits digits_of
testbed = refl

only_zeros : build_answer (full_room 2 0) 1 0 ≡ a_building (set_of (replicate 8 0 ∷ []))
unfolding build_answer ends_refusal pair_refusal server_refusal shape_refusal servers_of ◌or_else◌ build.built_arrays build.built_bytes build.built_hops build.bytes_of byte_of filled build.plus_one bound addresses.digits digits_of
only_zeros = refl

same_ends : build_answer (full_room 2 0) 0 0 ≡ no_building 5
unfolding build_answer ends_refusal pair_refusal server_refusal shape_refusal servers_of ◌or_else◌
same_ends = refl

-- ---- reading and reversal

-- an array with the reading rule run over it
abbrev Reads : Shape → ℕ → ℕ → List ℕ → ℕ → Type 0
Reads s a d bs hops = ((read_answer s a d (array bs)).refusal ≡ none) × ((read_answer s a d (array bs)).count - 1 ≡ hops)

reads : Reads (full_room 8 3) 1 521 (0xc1 ∷ 0x41 ∷ []) 2 × Reads (full_room 8 3) 1 521 (0x81 ∷ 0x41 ∷ 0xc1 ∷ 0x80 ∷ []) 4 × Reads (full_room 8 3) 1 521 (0x41 ∷ 0xc1 ∷ []) 2 × Reads (full_room 8 3) 1 521 (0x02 ∷ 0xc1 ∷ 0x41 ∷ 0x01 ∷ []) 4 × Reads (full_room 2 0) 1 0 [] 1
unfolding read_answer walk_answer array_refusal ends_refusal pair_refusal server_refusal shape_refusal servers_of bound ◌or_else◌ walk walk_from fault again hop_refusal hop_to addresses.with_digit addresses.digit addresses.digits digits_of address_of live failed bit is_in switch_at addresses.switch_of ended filled
reads = ((refl, refl), (refl, refl), (refl, refl), (refl, refl), (refl, refl))

twice : read_answer (full_room 4 1) 0 3 (array (0x01 ∷ 0x03 ∷ [])) ≡ record { refusal = with_earlier 0 1 (refused_at 29 1 2); count = 0; servers = replicate 9 0 }
unfolding read_answer walk_answer array_refusal ends_refusal pair_refusal server_refusal shape_refusal servers_of bound ◌or_else◌ walk walk_from fault again earlier_of place_in first_where hop_refusal hop_to addresses.with_digit addresses.digit addresses.digits digits_of address_of live failed bit is_in switch_at addresses.switch_of ended filled
twice = refl

same_switch : switch_to (full_room 4 1) 0 1 ≡ switch_to (full_room 4 1) 1 3
unfolding switch_to switch_at level_to addresses.differing differ_from addresses.switch_of addresses.digits digits_of address_of
same_switch = refl

reversed : reverse_answer (full_room 8 3) 1 521 (array (0xc1 ∷ 0x41 ∷ [])) ≡ a_writing (array (0x40 ∷ 0xc0 ∷ []))
unfolding reverse_answer array_refusal ends_refusal pair_refusal server_refusal shape_refusal servers_of bound ◌or_else◌ walk walk_from fault again hop_refusal hop_to addresses.with_digit addresses.digit addresses.digits digits_of address_of live failed bit is_in switch_at addresses.switch_of ended filled encode in_turn byte_to byte_of level_to addresses.differing differ_from
reversed = refl

-- a row of bytes and hops, of an answer that holds them
row : (s : Shape) (a d i : ℕ) (bs : List ℕ) (hops : ℕ) → array_in i (build_answer s a d).routes ≡ array bs → Reads s a d bs hops → Built s a d i bs hops
row s a d i bs hops e r = record { bytes = e; read = r.0; count = r.1 }

-- ---- selection around the dead server

-- the routes 41 03 and 01 42 03 41, by their servers
abbrev direct : List ℕ
direct = 0 ∷ 4 ∷ 7 ∷ []

abbrev around : List ℕ
around = 0 ∷ 1 ∷ 9 ∷ 11 ∷ 7 ∷ []

source : Server (full_room 4 1) 0
unfolding server_refusal shape_refusal servers_of ◌or_else◌
source = server_of (full_room 4 1) 0 refl

walks : (walk (full_room 4 1) dead03 0 7 (array (0x41 ∷ 0x03 ∷ [])) ≡ arrived direct (4096 ∷ 1 ∷ [])) × (walk (full_room 4 1) dead03 0 7 (array (0x01 ∷ 0x42 ∷ 0x03 ∷ 0x41 ∷ [])) ≡ arrived around (0 ∷ 4097 ∷ 2 ∷ 4099 ∷ []))
unfolding bound ◌or_else◌ walk walk_from fault again hop_refusal hop_to addresses.with_digit addresses.digit addresses.digits digits_of address_of live failed bit is_in switch_at addresses.switch_of ended filled
walks = (refl, refl)

direct-route : RouteTo (full_room 4 1) dead03 0 7 direct
unfolding filled
direct-route = (read_sound dead03 (array (0x41 ∷ 0x03 ∷ [])) direct (4096 ∷ 1 ∷ []) source (λ e. omega arith) refl walks.0).0

around-route : RouteTo (full_room 4 1) dead03 0 7 around
unfolding filled
around-route = (read_sound dead03 (array (0x01 ∷ 0x42 ∷ 0x03 ∷ 0x41 ∷ [])) around (0 ∷ 4097 ∷ 2 ∷ 4099 ∷ []) source (λ e. omega arith) refl walks.1).0

switches : (4096 ∷ 1 ∷ [] ≡ switches_of (full_room 4 1) direct) × (0 ∷ 4097 ∷ 2 ∷ 4099 ∷ [] ≡ switches_of (full_room 4 1) around)
unfolding switches_of in_turn switch_to switch_at level_to addresses.differing differ_from addresses.switch_of addresses.digits digits_of address_of
switches = (refl, refl)

around-direct : Parallel (full_room 4 1) around direct
unfolding disjoint is_in middle
around-direct =
    record {
      switches = rw (← switches.0, ← switches.1) (disjoint-apart (0 ∷ 4097 ∷ 2 ∷ 4099 ∷ []) (4096 ∷ 1 ∷ []) refl);
      servers = disjoint-apart (middle around) (middle direct) refl;
    }

bytes : hop_bytes (full_room 4 1) around ≡ 0x01 ∷ 0x42 ∷ 0x03 ∷ 0x41 ∷ []
unfolding hop_bytes in_turn byte_to byte_of level_to addresses.digit addresses.differing differ_from addresses.digits digits_of
bytes = refl

-- no way of fewer hops leads around, nor one of as many that comes before
tests : (none_shorter (full_room 4 1) dead03 7 (4096 ∷ 1 ∷ []) 4 0 ≡ true) × (none_before (full_room 4 1) dead03 7 (4096 ∷ 1 ∷ []) (0x01 ∷ 0x42 ∷ 0x03 ∷ 0x41 ∷ []) 0 ≡ true)
unfolding servers_of live failed bit is_in switch_to switch_at level_to byte_to byte_of addresses.digit addresses.differing differ_from addresses.switch_of addresses.digits digits_of address_of
tests = (refl, refl)

alternate : Replaces (full_room 4 1) dead03 0 7 (direct ∷ []) around
alternate =
    record {
      route = around-route;
      avoids = record { each = apart };
      first = λ us r f. least (full_room 4 1) dead03 7 (4096 ∷ 1 ∷ []) _ around tests.0 tests.1 (sym bytes) refl us r (free-parallel (full_room 4 1) dead03 7 switches.0 (f.each direct (Memᴰ.head refl)));
    }
  where
    apart : (vs : List ℕ) → Memᴰ vs (direct ∷ []) → Parallel (full_room 4 1) around vs
    apart vs m = subst (Parallel (full_room 4 1) around) (sym (Memᴰ.eq_of_singleton m)) around-direct

-- slot 1 keeps its built route, slot 0 gets the alternate
built : (build.built_route (full_room 4 1) 1 0 7 ≡ direct) × (build.built_route (full_room 4 1) 0 0 7 ≡ 0 ∷ 3 ∷ 7 ∷ [])
unfolding build.built_route build.built_hops build.met_by build.plus_one bound addresses.with_digit addresses.digits digits_of address_of
built = (refl, refl)

broken : Unbroken (full_room 4 1) dead03 (0 ∷ 3 ∷ 7 ∷ []) → ⊥
unfolding live failed bit level_to addresses.differing differ_from addresses.digits digits_of
broken u = let e : false ≡ true = u.alive 0 (omega arith) in let z : ◌≡◌ {A = ℕ} 0 1 = cc in omega arith

slots : SlotBySlot (full_room 4 1) dead03 0 7 2 [] (direct ∷ around ∷ [])
unfolding avoided
slots = (
  direct ∷ [],
  subst (λ (x : List ℕ). Slot (full_room 4 1) dead03 0 7 1 [] (x ∷ [])) built.0 (kept (rw built.0 (record { alive = direct-route.route.alive }))),
  (around ∷ [], replaced (λ u. broken (rw built.1 at u)) alternate, refl),
)

selecting : Selecting (full_room 4 1) dead03 0 7 (record { refusal = none; routes = set_of (array (0x41 ∷ 0x03 ∷ []) ∷ array (0x01 ∷ 0x42 ∷ 0x03 ∷ 0x41 ∷ []) ∷ []) })
unfolding room_refusal ends_refusal pair_refusal server_refusal shape_refusal servers_of ◌or_else◌ table_refusal bits_fit fits_levels encode in_turn byte_to byte_of level_to addresses.digit addresses.differing differ_from addresses.digits digits_of filled
selecting =
    record {
      refused = λ n. absurd (n refl);
      given = λ e. record { routes = direct ∷ around ∷ []; slots = slots; answer = refl };
    }

all_marked : dead03 ≡ marked 3 1 (marked 3 0 (replicate 16 0))
unfolding changed with_bit bit
all_marked = refl

-- ---- the table

pub proved_table : ProvedTable
unfolding array_in set_of joined filled
proved_table =
    record {
      is_1 = is_1;
      of_1 = of_1;
      is_521 = is_521;
      of_521 = of_521;
      figure_4_1 = row (full_room 8 3) 1 521 0 (0xc1 ∷ 0x41 ∷ []) 2 (ap (λ (x : Building). array_in 0 x.routes) figure_4) reads.0;
      figure_4_2 = row (full_room 8 3) 1 521 1 (0x81 ∷ 0x41 ∷ 0xc1 ∷ 0x80 ∷ []) 4 (ap (λ (x : Building). array_in 1 x.routes) figure_4) reads.1;
      figure_4_3 = row (full_room 8 3) 1 521 2 (0x41 ∷ 0xc1 ∷ []) 2 (ap (λ (x : Building). array_in 2 x.routes) figure_4) reads.2;
      figure_4_4 = row (full_room 8 3) 1 521 3 (0x02 ∷ 0xc1 ∷ 0x41 ∷ 0x01 ∷ []) 4 (ap (λ (x : Building). array_in 3 x.routes) figure_4) reads.3;
      figure_4 = figure_4;
      printed = printed;
      reversed = reversed;
      is_3 = is_3;
      is_7 = is_7;
      testbed = testbed;
      all_marked = all_marked;
      selected = λ r. (λ h. selecting-unique h selecting, λ e. subst (Selecting (full_room 4 1) dead03 0 7) (sym e) selecting);
      zeros = row (full_room 2 0) 1 0 0 [] 1 (ap (λ (x : Building). array_in 0 x.routes) only_zeros) reads.4;
      only_zeros = only_zeros;
      same_ends = same_ends;
      twice = twice;
      same_switch = same_switch;
    }
