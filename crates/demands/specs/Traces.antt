-- What a hop leaves behind, and the trace of a packet: the path byte of the way back of a hop, and the bytes of the way back of a packet's
-- steps, in turn, which read backwards are the reversed array of the route that it came by.
use Rattle.std.specs.Prelude.{ℕ, suc, ◌+◌, ◌-◌, ◌*◌, ◌/◌, ◌≤◌, ◌<◌, ◌≡◌, ◌≢◌, ◌⊎◌, true, List, [], reverse, length, get_or}
use Rattle.lists.specs.Lists.{filled}
use Rattle.refusals.specs.Refusals.{none}
use Rattle.room.specs.declared.Shape.{Shape}
use Rattle.room.specs.Shapes.{Server}
use Rattle.room.specs.Addresses.{digit, Neighbours}
use Rattle.path.specs.Told.{Hop}
use Rattle.path.specs.Routes.{byte_to, value_of, Encodes}
use Rattle.path.specs.Answers.{hop_answer, read_answer, reverse_answer}
use Rattle.verdict.specs.Checks.{check_answer}
use Rattle.pick.specs.Picks.{array_at}
use Rattle.step.specs.Told.{Step}
use Rattle.step.specs.Steps.{step_answer}
use Rattle.step.specs.Delivery.{Tables, step_after, trace_of}
use Rattle.driver.specs.Words.{value_in, hop_word}
use Rattle.driver.specs.Packed.{packed, Bytes}

-- ---- the way back of a hop

-- the byte of a hop's level and old value, and of a step's
abbrev pub back_of_hop : Hop → ℕ
back_of_hop x = 64 * x.level + x.old

abbrev pub back_of_step : Step → ℕ
back_of_step x = 64 * x.level + x.old

-- `BytesExactly` of the way back, from server b to its neighbour a at level l: 64 times the level, and the value that a hop from a to b
-- replaces
abbrev pub ByteBack : Type 0
ByteBack = (s : Shape) (a b l : ℕ) → Server s a → Server s b → Neighbours s l a b → byte_to s b a ≡ 64 * l + digit s l a

-- x is the hop by byte b from server a, and this is its way back
pub record WayBack (s : Shape) (a b : ℕ) (x : Hop) : Type 0 where
  -- the byte of its level and old value is a byte, and the path byte from the next server to a
  pub small : back_of_hop x < 256
  pub byte : byte_to s x.next a ≡ back_of_hop x
  -- by it the next server hops to a, at the same level, and the value replaced is the one that the hop had set
  pub undone : hop_answer s x.next (back_of_hop x) ≡ record { refusal = none; next = a; level = x.level; old = value_of b }
  -- so the way back of the way back is the hop itself
  pub again : 64 * x.level + value_of b ≡ b
  -- and no other number leads back
  pub only : (c : ℕ) → (hop_answer s x.next c).refusal.number ≡ 0 → (hop_answer s x.next c).next ≡ a → c ≡ back_of_hop x

-- a hop that is not refused is undone by the hop by its path byte of the way back
abbrev pub HopBack : Type 0
HopBack = (s : Shape) (a b : ℕ) → (hop_answer s a b).refusal.number ≡ 0 → WayBack s a b (hop_answer s a b)

-- ---- the trace of a packet

-- away from the destination a step that is not refused is the hop by the byte that its index names, so that HopBack speaks of it
abbrev pub StepHops : Type 0
StepHops =
    (s : Shape) (a d i : ℕ) (bs e : List ℕ) →
    a ≢ d →
    (let x = step_answer s a d i bs e in
    x.refusal.number ≡ 0 → hop_answer s a (get_or bs i 0) ≡ record { refusal = none; next = x.next; level = x.level; old = x.old })

-- a step that is refused, or delivers, has no hop: its level and its old value are zero
abbrev pub NoTrace : Type 0
NoTrace =
    (s : Shape) (a d i : ℕ) (bs e : List ℕ) →
    (let x = step_answer s a d i bs e in (x.refusal.number ≢ 0) ⊎ (x.delivered ≡ true) → (x.level ≡ 0) × (x.old ≡ 0))

-- bytes that are those of the way back of m steps of a packet for d, from server a with index i, in turn
pub record IsTrace (s : Shape) (d : ℕ) (bs : List ℕ) (tables : ℕ → List ℕ) (m a i : ℕ) (trace : List ℕ) : Type 0 where
  pub long : length trace ≡ m
  pub at : (j : ℕ) → j < m → get_or trace j 0 ≡ back_of_step (step_after s d bs tables j a i)

-- the trace is such bytes
abbrev pub TraceSteps : Type 0
TraceSteps =
    (s : Shape) (d : ℕ) (bs : List ℕ) (tables : ℕ → List ℕ) (m a i : ℕ) → IsTrace s d bs tables m a i (trace_of s d bs tables m a i)

-- the trace of m steps of a packet, from server a with index 0, read backwards is the reversed array: the last step's byte first, and zeros
-- past them
pub record TracesBack (s : Shape) (d : ℕ) (bs : List ℕ) (tables : ℕ → List ℕ) (a m : ℕ) : Type 0 where
  pub whole : reverse_answer s a d bs ≡ record { refusal = none; bytes = filled 8 (reverse (trace_of s d bs tables m a 0)) }
  -- byte by byte: that of step j, counted from 0, stands at place m - 1 - j
  pub each : (j : ℕ) → j < m → get_or (reverse_answer s a d bs).bytes (m - suc j) 0 ≡ back_of_step (step_after s d bs tables j a 0)
  pub past : (j : ℕ) → m ≤ j → get_or (reverse_answer s a d bs).bytes j 0 ≡ 0

-- of every array of an accepted list, with tables that agree, and the steps being exactly the hops that reading counts
abbrev pub ReverseTrace : Type 0
ReverseTrace =
    (s : Shape) (t : List ℕ) (a d : ℕ) (bs : List ℕ) (tables : ℕ → List ℕ) →
    check_answer s t a d bs ≡ none →
    Tables s t tables →
    (i : ℕ) →
    i < length bs / 8 →
    TracesBack s d (array_at i bs) tables a ((read_answer s a d (array_at i bs)).count - 1)

-- and of every route over live links, by its hops
abbrev pub RouteTrace : Type 0
RouteTrace =
    (s : Shape) (t : List ℕ) (a d : ℕ) (bs vs : List ℕ) (tables : ℕ → List ℕ) →
    Encodes s t a d bs vs →
    Tables s t tables →
    TracesBack s d bs tables a (length vs - 1)

-- and of every packet by the array of a route, whatever the tables hold, if none of as many steps as the route has hops is refused; the step
-- after them, if that is not refused either, delivers
abbrev pub FollowedTrace : Type 0
FollowedTrace =
    (s : Shape) (a d : ℕ) (bs vs : List ℕ) (tables : ℕ → List ℕ) →
    Encodes s [] a d bs vs →
    ((j : ℕ) → suc j < length vs → (step_after s d bs tables j a 0).refusal.number ≡ 0) →
    TracesBack s d bs tables a (length vs - 1)
    × (let x = step_after s d bs tables (length vs - 1) a 0 in x.refusal.number ≡ 0 → x.delivered ≡ true)

-- ---- the same from C

-- the highest byte of the word of a step
abbrev pub back_in_step : Step → ℕ
back_in_step x = (packed x).word / 72057594037927936

-- what stands above the next server in the number of a hop
abbrev pub back_in_hop : Hop → ℕ
back_in_hop x = value_in (hop_word x) / 65536

pub record WordTrace : Type 0 where
  -- the highest byte of a step's word, which by `EveryWord` is of its level and old value, is the path byte of the way back where the step goes
  -- on from a
  pub goes : (s : Shape) (a d i : ℕ) (bs e : List ℕ) → Bytes e
      → (let x = step_answer s a d i bs e in a ≢ d → x.refusal.number ≡ 0 → back_in_step x ≡ byte_to s x.next a)
  -- and 0 where it is refused or delivers
  pub stands : (s : Shape) (a d i : ℕ) (bs e : List ℕ) → Bytes e
      → (let x = step_answer s a d i bs e in (x.refusal.number ≢ 0) ⊎ (x.delivered ≡ true) → back_in_step x ≡ 0)
  -- so of a hop by itself
  pub hop : (s : Shape) (a b : ℕ) → (let x = hop_answer s a b in x.refusal.number ≡ 0 → back_in_hop x ≡ byte_to s x.next a)
  pub no-hop : (s : Shape) (a b : ℕ) → (let x = hop_answer s a b in x.refusal.number ≢ 0 → value_in (hop_word x) ≡ 0)
  -- the highest bytes of the words of a packet's steps, by an array of an accepted list, are the reversed array backwards
  pub reversed : (s : Shape) (t : List ℕ) (a d : ℕ) (bs : List ℕ) (tables : ℕ → List ℕ) → check_answer s t a d bs ≡ none → Tables s t tables → ((x : ℕ) → Bytes (tables x)) → (i : ℕ) → i < length bs / 8
      → (let m = (read_answer s a d (array_at i bs)).count - 1 in
      (j : ℕ) → j < m → back_in_step (step_after s d (array_at i bs) tables j a 0) ≡ get_or (reverse_answer s a d (array_at i bs)).bytes (m - suc j) 0)

-- ---- all of it

pub record EveryTrace : Type 0 where
  pub byte_back : ByteBack
  pub hop_back : HopBack
  pub step_hops : StepHops
  pub no_trace : NoTrace
  pub trace_steps : TraceSteps
  pub reverse_trace : ReverseTrace
  pub route_trace : RouteTrace
  pub followed_trace : FollowedTrace
  pub word_trace : WordTrace
