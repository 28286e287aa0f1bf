-- Demand 3: a list is accepted exactly when it meets the declarative words; what the builder answers in a healthy room, and all that
-- selection writes, is accepted; stepping an accepted route delivers after exactly its hops.
use Rattle.std.specs.Prelude.{ℕ, suc, ◌+◌, ◌-◌, ◌/◌, ◌≤◌, ◌<◌, ◌≡◌, ◌↔◌, false, List, length, get_or, take}
use Rattle.refusals.specs.Refusals.{none}
use Rattle.room.specs.declared.Shape.{Shape}
use Rattle.room.specs.Shapes.{Valid}
use Rattle.room.specs.Addresses.{digit}
use Rattle.links.specs.Table.{failed, TableOf}
use Rattle.path.specs.Routes.{level_to}
use Rattle.path.specs.Answers.{read_answer}
use Rattle.verdict.specs.Checks.{check_answer}
use Rattle.verdict.specs.Accepted.{Accepted}
use Rattle.build.specs.Sets.{held}
use Rattle.build.specs.Answers.{build_answer}
use Rattle.select.specs.Told.{Selection}
use Rattle.select.specs.Selection.{Selecting}
use Rattle.pick.specs.Picks.{array_at}
use Rattle.step.specs.Steps.{mac_at, port_at, delivery}
use Rattle.step.specs.Delivery.{Tables, step_after}
use Rattle.driver.specs.Packed.{Bytes}

-- a list is accepted exactly when the table is one of the room, and the list is 1 to k + 1 arrays, each the encoding of a route
-- from source to destination over live links, every two of them parallel
abbrev pub AcceptedExactly : Type 0
AcceptedExactly =
    (s : Shape) (t : List ℕ) (a d : ℕ) (bs : List ℕ) →
    (check_answer s t a d bs ≡ none) ↔ (TableOf s t × Accepted s t a d bs)

-- a failed-link table of the room in which no link is failed
pub record Healthy (s : Shape) (t : List ℕ) : Type 0 where
  pub table : TableOf s t
  pub all : (a l : ℕ) → failed t a l ≡ false

-- every room can be healthy
abbrev pub HealthyExists : Type 0
HealthyExists = (s : Shape) → Valid s → (t : List ℕ) × Healthy s t

-- what the builder answers in a healthy room is k + 1 arrays, and the list of them is accepted
abbrev pub BuiltAccepted : Type 0
BuiltAccepted =
    (s : Shape) (t : List ℕ) (a d : ℕ) →
    (build_answer s a d).refusal.number ≡ 0 →
    Healthy s t →
    ((build_answer s a d).routes.count ≡ suc s.k) × (check_answer s t a d (held (build_answer s a d).routes) ≡ none)

-- all that selection writes is accepted, on every shape, table and pair
abbrev pub SelectionAccepted : Type 0
SelectionAccepted =
    (s : Shape) (t : List ℕ) (a d : ℕ) (r : Selection) →
    Selecting s t a d r →
    r.refusal.number ≡ 0 →
    check_answer s t a d (held r.routes) ≡ none

-- stepping an array of path bytes from server a with index 0, each step made where the one before it led, with that server's table:
-- at each hop no refusal, the next of these servers, the next index, the MAC and OutPort that the table holds for the hop's byte, the level
-- of the hop, and the digit there of the server hopped from; after exactly their hops a delivery
pub record Delivers (s : Shape) (d : ℕ) (bs : List ℕ) (tables : ℕ → List ℕ) (a : ℕ) (vs : List ℕ) : Type 0 where
  pub hop : (i : ℕ) → suc i < length vs → step_after s d bs tables i a 0 ≡ record { refusal = none; delivered = false; next = get_or vs (suc i) 0; index = i + 1; mac = mac_at (tables (get_or vs i 0)) (get_or bs i 0); port = port_at (tables (get_or vs i 0)) (get_or bs i 0); level = level_to s (get_or vs i 0) (get_or vs (suc i) 0); old = digit s (level_to s (get_or vs i 0) (get_or vs (suc i) 0)) (get_or vs i 0) }
  pub delivered : step_after s d bs tables (length vs - 1) a 0 ≡ delivery

-- for every failed-link table there are neighbour tables, of bytes, that agree with it
abbrev pub TablesExist : Type 0
TablesExist = (s : Shape) (t : List ℕ) → (tables : ℕ → List ℕ) × Tables s t tables × ((a : ℕ) → Bytes (tables a))

-- the servers that reading answers for an array
abbrev pub servers_read : Shape → ℕ → ℕ → List ℕ → List ℕ
servers_read s a d bs = take (read_answer s a d bs).count (read_answer s a d bs).servers

-- stepping any array of an accepted list, with tables that agree, delivers after exactly the hops that reading counts
abbrev pub Delivery : Type 0
Delivery =
    (s : Shape) (t : List ℕ) (a d : ℕ) (bs : List ℕ) (tables : ℕ → List ℕ) →
    check_answer s t a d bs ≡ none →
    Tables s t tables →
    (i : ℕ) →
    i < length bs / 8 →
    (2 ≤ (read_answer s a d (array_at i bs)).count)
    × (length (servers_read s a d (array_at i bs)) ≡ (read_answer s a d (array_at i bs)).count)
    × Delivers s d (array_at i bs) tables a (servers_read s a d (array_at i bs))
