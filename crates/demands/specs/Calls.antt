-- Demand 2, of switches and their ports, whole servers, single path bytes, and a route laid into a table.
use Rattle.std.specs.Prelude.{ℕ, suc, ◌+◌, ◌-◌, ◌*◌, ◌^◌, ◌≤◌, ◌<◌, ◌≡◌, ◌↔◌, ◌≢◌, ◌⊎◌, Bool, true, false, List, [], length, get_or}
use Rattle.refusals.specs.Refusals.{Refusal}
use Rattle.room.specs.declared.Shape.{Shape}
use Rattle.room.specs.Shapes.{bound, Valid, Server, Link}
use Rattle.room.specs.Addresses.{digit, switch_of, Beside, Neighbours}
use Rattle.room.specs.Answers.{a_number}
use Rattle.room.specs.Wiring.{switches_answer, server_at_answer}
use Rattle.links.specs.Table.{failed, TableOf, Dead}
use Rattle.summary.specs.Answers.{server_answer, server_table, server_summary}
use Rattle.path.specs.Routes.{RouteTo, Parallel, Encodes}
use Rattle.path.specs.Bytes.{byte_answer, some_parts, parts_answer}
use Rattle.laying.specs.Answers.{Lays}

-- ---- switches and their ports

-- the server at port v of switch w of level l: it has that switch there, and the port is its digit
pub record AtPort (s : Shape) (l w v a : ℕ) : Type 0 where
  pub server : Server s a
  pub switch : switch_of s l a ≡ w
  pub port : digit s l a ≡ v

pub record EveryPort : Type 0 where
  -- level k has n^k switches, and a level below it m times n^(k-1); they are numbered from 0 without a gap (`SwitchesNumbered`)
  pub switches_top : (s : Shape) → Valid s → switches_answer s s.k ≡ a_number (s.n ^ s.k)
  pub switches-below : (s : Shape) (l : ℕ) → Valid s → l < s.k → switches_answer s l ≡ a_number (s.m * s.n ^ (s.k - 1))
  -- every port of every switch has its server
  pub there : (s : Shape) (l w v : ℕ) → Valid s → l ≤ s.k → w < (switches_answer s l).value → v < bound s l → (a : ℕ) × (server_at_answer s l w v ≡ a_number a) × AtPort s l w v a
  -- and no other server is there: a server is at the port of its digit of its switch
  pub back : (s : Shape) (a l : ℕ) → Link s a l → server_at_answer s l (switch_of s l a) (digit s l a) ≡ a_number a

-- ---- all links of a server

-- a whole server of a table, where the call is not refused: marked it is dead, cleared none of its links is failed; no other server's byte moves,
-- the table stays one of the room, and again changes nothing. What becomes of the summary is in Summaries.
pub record WholeServer : Type 0 where
  pub dead : (s : Shape) (t c : List ℕ) (a : ℕ) → (server_answer s t c a).number ≡ 0 → Dead s (server_table true s t c a) a
  pub live : (s : Shape) (t c : List ℕ) (a l : ℕ) → (server_answer s t c a).number ≡ 0 → failed (server_table false s t c a) a l ≡ false
  pub others : (b : Bool) (s : Shape) (t c : List ℕ) (a x : ℕ) → (server_answer s t c a).number ≡ 0 → x ≢ a → get_or (server_table b s t c a) x 0 ≡ get_or t x 0
  pub table : (b : Bool) (s : Shape) (t c : List ℕ) (a : ℕ) → (server_answer s t c a).number ≡ 0 → TableOf s (server_table b s t c a)
  pub again : (b : Bool) (s : Shape) (t c : List ℕ) (a : ℕ) → (let u = server_table b s t c a in server_table b s u (server_summary b s t c a) a ≡ u)

-- ---- one path byte

-- a path byte is 64 times its level plus its value; making one and taking it apart undo each other
pub record EveryByte : Type 0 where
  pub made : (s : Shape) (l v : ℕ) → Valid s → l ≤ s.k → v < bound s l → byte_answer s l v ≡ a_number (64 * l + v)
  pub apart : (s : Shape) (l v : ℕ) → Valid s → l ≤ s.k → v < bound s l → parts_answer s (64 * l + v) ≡ some_parts l v
  pub again : (s : Shape) (b : ℕ) → (parts_answer s b).refusal.number ≡ 0 → byte_answer s (parts_answer s b).level (parts_answer s b).value ≡ a_number b

-- ---- a route laid into a table

-- route vs takes up the link of server x at level l: x is a middle server of it, or a hop of it at level l goes over x's switch there
abbrev pub TakesUp : Shape → List ℕ → ℕ → ℕ → Type 0
TakesUp s vs x l =
    ((i : ℕ) × (suc (suc i) < length vs) × (get_or vs (suc i) 0 ≡ x))
    ⊎ ((i : ℕ) × (suc i < length vs) × Neighbours s l (get_or vs i 0) (get_or vs (suc i) 0) × Beside s l (get_or vs i 0) x)

-- u is table t with a route vs from a to d laid into it
pub record LaidInto (s : Shape) (t : List ℕ) (a d : ℕ) (vs u : List ℕ) : Type 0 where
  pub table : TableOf s u
  -- a link is failed exactly when it was before, or the route takes it up
  pub links : (x l : ℕ) → Link s x l → (failed u x l ≡ true) ↔ ((failed t x l ≡ true) ⊎ TakesUp s vs x l)
  -- so the routes over u are the routes over t that are parallel to it
  pub routes : (ws : List ℕ) → RouteTo s u a d ws ↔ (RouteTo s t a d ws × Parallel s ws vs)

-- laying that is not refused lays the route that the array writes
abbrev pub LaysExactly : Type 0
LaysExactly =
    (s : Shape) (t : List ℕ) (a d : ℕ) (bs : List ℕ) (r : Refusal) (u : List ℕ) →
    Lays s t a d bs r u →
    r.number ≡ 0 →
    (vs : List ℕ) × Encodes s [] a d bs vs × LaidInto s t a d vs u
