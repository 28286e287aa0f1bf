-- Reasons and the functions that serve the layers above them, proved.
use Prim.Native.Nat.{ℕ, ◌*◌, ◌^◌, ◌≤◌, ◌<◌}
use mathlib.Core.Path.{◌≡◌, refl, sym, ap, ◌∙◌, subst}
use mathlib.Core.Logic.{◌⊎◌, inl, inr}
use mathlib.Core.Bool.{Bool, true}
use mathlib.Core.List.{List, [], ◌∷◌}
use native.Mathlib.Omega.{arith}
use native.Mathlib.Decide.{ℕ_discrete, dec_le}
use native.Mathlib.Nat.{mul-zero}
use lib.ListN.{length, get_or}
use Rattle.lists.specs.Lists.{is_in}
use Rattle.lists.proofs.ListLaws.{in_exactly, map_at}
use Rattle.lists.proofs.FirstPlaces.{place-most, place-there, place-before}
use Rattle.refusals.specs.declared.Reason.{Reason}
use Rattle.refusals.specs.declared.Reason.TheVariants.{Ports, Levels, Servers, Address, SameEnds, Table, List as Listed, Position, Value as Valued, NoChange, FailedLink, NotArrived, AfterArrival, NotParallel, NoRoute, NeighbourTable, HopIndex, Unavailable, Level, Digit, ServerCount, NotNeighbours, Fill, ServerAgain, SwitchAgain, Summary}
use Rattle.refusals.specs.Reasons.{number_of}
use Rattle.refusals.proofs.ReasonLaws.{reason-same, reason-some, told-same, tells-same, refused-same, told_where-same, tells_where-same}
use Rattle.room.specs.declared.Shape.{Shape}
use Rattle.room.specs.Shapes.{bound, power_of, server_count, Link, Value}
use Rattle.room.specs.Sides.{side_of, side_at}
use Rattle.room.specs.Wiring.{Port}
use Rattle.room.proofs.PowerLaws.{no_ports, past-ports, past-levels, power-within, count_none, count-made}
use Rattle.room.proofs.RoomLaws.{servers_are, bound-top, bound-other, with_server, with_same, with_beside}
use Rattle.room.proofs.WiringLaws.{port-server, port-switch, port-digit}
use Rattle.room.proofs.SideLaws.{side_none, side_count, side_reach, number-none, number_past, number-count, number-reach}
use Rattle.links.specs.Table.{changed_in}
use Rattle.links.proofs.TableLaws.{changed-in, changed-long, changed-own, changed-other}
use Rattle.links.proofs.LinkLaws.{change-past, change-above, failed-past}
use Rattle.demands.specs.Demand2.{Sets}
use Rattle.demands.specs.Calls.{AtPort}
use Rattle.demands.specs.Helpers.{taken, reasons, EveryReason, NoPower, OneLink, ServersAt, ServersOf, EveryHelper}

-- ---- reasons

number-taken : (r : Reason) → is_in (number_of r) taken ≡ true
unfolding is_in
number-taken Ports = refl
number-taken Levels = refl
number-taken Servers = refl
number-taken Address = refl
number-taken SameEnds = refl
number-taken Table = refl
number-taken Listed = refl
number-taken Position = refl
number-taken Valued = refl
number-taken NoChange = refl
number-taken FailedLink = refl
number-taken NotArrived = refl
number-taken AfterArrival = refl
number-taken NotParallel = refl
number-taken NoRoute = refl
number-taken NeighbourTable = refl
number-taken HopIndex = refl
number-taken Unavailable = refl
number-taken Level = refl
number-taken Digit = refl
number-taken ServerCount = refl
number-taken NotNeighbours = refl
number-taken Fill = refl
number-taken ServerAgain = refl
number-taken SwitchAgain = refl
number-taken Summary = refl

pub every_reason : EveryReason
every_reason =
    record {
      each = refl;
      numbers = λ n. (
        λ e.
            let p = (in_exactly n taken).0 e in
            (get_or reasons p.place Ports, sym (map_at number_of Ports 0 reasons p.place p.inside) ∙ p.there),
        λ q. subst (λ (m : ℕ). is_in m taken ≡ true) q.1 (number-taken q.0),
      );
      one_reason = reason-same;
      not_zero = reason-some;
      one_test = told-same;
      one_answer = λ refused given b. tells-same refused given b.refusal b.value b.refused_back b.not_refused b.value_back;
      one_refusal = refused-same;
      one_check = told_where-same;
      one_placed = λ refused given b. tells_where-same refused given b.refusal b.value b.refused_back b.not_refused b.value_back;
    }

-- ---- the functions that serve the layers above them

no_power : (n l : ℕ) → NoPower n l → 0 ≡ power_of n l
no_power n l (inl h) = no_ports n l h
no_power n l (inr (inl h)) = past-ports n l (omega arith) h
no_power n l (inr (inr h)) =
    elim (dec_le 1 n) [
      | yes a ↦ elim (dec_le n 64) [ yes b ↦ past-levels n l a b h | no b ↦ past-ports n l a (omega arith) ]
      | no a ↦ no_ports n l (omega arith)
    ]

server-count : (s : Shape) → 1 ≤ s.n → s.n ≤ 64 → s.k ≤ 3 → s.m ≤ s.n → server_count s ≡ s.m * s.n ^ s.k
server-count s a b d h =
    sym (count-made s h (power_of s.n s.k) refl) ∙ ap (λ (x : ℕ). s.m * x) (power-within s.n s.k a b d)

no_server_count : (s : Shape) → NoPower s.n s.k ⊎ (s.n < s.m) → server_count s ≡ 0
no_server_count s (inl h) =
    elim (dec_le s.m s.n) [
      | yes e ↦ sym (count-made s e 0 (no_power s.n s.k h)) ∙ mul-zero s.m
      | no e ↦ sym (count_none s (omega arith))
    ]
no_server_count s (inr h) = sym (count_none s h)

servers-at : (s : Shape) (a l : ℕ) → Link s a l → ServersAt s a l (side_of s a l)
servers-at s a l h =
    record {
      count = side_count h;
      each = λ v p.
          let k : Value s a l v = record { link = h; value = p } in
          subst (Sets s a l v) (sym (side_reach h v p)) (record { server = with_server k; own = with_same k; others = with_beside k });
    }

servers-of : (s : Shape) (l w : ℕ) → Port s l w 0 → ServersOf s l w (side_at s l w)
servers-of s l w h =
    record {
      count = number-count h;
      each = λ v p.
          let k : Port s l w v = record { valid = h.valid; level = h.level; switch = h.switch; port = p } in
          subst (AtPort s l w v) (sym (number-reach k)) (record { server = port-server k; switch = port-switch k; port = port-digit k });
    }

no_side_at : (s : Shape) (l w : ℕ) → NoPower s.n l ⊎ (4096 ≤ w) → side_at s l w ≡ record { first = 0; stride = 0; count = 0 }
no_side_at s l w (inl h) = sym (number-none s l w 0 (no_power s.n l h) refl _ refl)
no_side_at s l w (inr h) =
    elim (ℕ_discrete (power_of s.n l) 0) [
      | yes z ↦ sym (number-none s l w (power_of s.n l) refl z _ refl)
      | no z ↦ sym (number_past s l w (power_of s.n l) refl z h _ refl)
    ]

one_link : (b : Bool) (a l : ℕ) (t : List ℕ) → a < length t → l < 8 → OneLink b a l t (changed_in b a l t)
one_link b a l t p q =
    subst (OneLink b a l t) (sym (changed-in b a l t q))
    (record { long = changed-long b a l t; own = changed-own b a l t p; others = λ c m. changed-other b a l c m t })

no_link : (b : Bool) (a l : ℕ) (t : List ℕ) → (length t ≤ a) ⊎ (8 ≤ l) → changed_in b a l t ≡ t
no_link b a l t (inl h) = sym (change-past b a l t h)
no_link b a l t (inr h) = sym (change-above b a l t h)

pub every_helper : EveryHelper
every_helper =
    record {
      of-route = λ r i. record { number = refl; route = refl; hop = refl; earlier = (refl, refl) };
      with-earlier = λ r i h. record { number = refl; place = (refl, refl); earlier = (refl, refl) };
      place-in = λ x xs. record { most = place-most x xs; there = place-there x xs; before = place-before x xs };
      shape_new = λ n k m. refl;
      shape_full = λ n k. refl;
      power = power-within;
      no_power = λ n l h. sym (no_power n l h);
      server-count = server-count;
      no_server_count = no_server_count;
      servers = servers_are;
      digit_bound = λ s l. (bound-other s l, λ e. ap (bound s) e ∙ bound-top s);
      side-of = servers-at;
      no-side = λ s a l h. sym (side_none s a l 0 (no_power s.n l h) refl _ refl);
      side-at = servers-of;
      no_side_at = no_side_at;
      none-failed = λ t a l h. sym (failed-past t a l h);
      one_link = one_link;
      no_link = no_link;
      level-of = λ b. refl;
      value-of = λ b. refl;
    }
