-- Demand 1: a number only where it applies, and at its place. For each call, exactly which refusal it gives: that of the first test that
-- fails, in the rules' order. What a chain of tests means is in Tests.
use Rattle.std.specs.Prelude.{ℕ, suc, ◌+◌, ◌-◌, ◌*◌, ◌/◌, ◌%◌, ◌≤◌, ◌<◌, ◌≡◌, ◌≢◌, ◌↔◌, ◌⊎◌, false, List, [], ◌∷◌, ◌++◌, length, get_or}
use Rattle.lists.specs.Lists.{in_turn}
use Rattle.refusals.specs.Refusals.{Refusal, none, plain, refused_at, of_route, with_earlier}
use Rattle.room.specs.declared.Shape.{Shape}
use Rattle.room.specs.Shapes.{servers_of, bound}
use Rattle.room.specs.Addresses.{digit, switches_at, Neighbours}
use Rattle.room.specs.Refusals.{shape_refusal, server_refusal, pair_refusal, ends_refusal, link_refusal}
use Rattle.room.specs.Answers.{servers_answer, bound_answer, digits_answer, digit_answer, address_answer, switch_answer, neighbour_answer, between_answer}
use Rattle.room.specs.Wiring.{switches_answer, server_at_answer}
use Rattle.trees.specs.Answers.{parent_answer, tree_answer}
use Rattle.links.specs.Table.{failed, room_table_refusal, TableOf, room_refusal, table_link_refusal, table_server_refusal}
use Rattle.links.specs.Answers.{failed_answer}
use Rattle.summary.specs.Answers.{link_answer, server_answer, dead_answer, fresh_answer}
use Rattle.path.specs.Bytes.{byte_answer, parts_answer}
use Rattle.path.specs.Routes.{byte_to, switch_at, switch_to, switches_of, Route, Prefix, RouteTo, Parallel, Encodes, level_of, value_of}
use Rattle.path.specs.Walks.{hop_to}
use Rattle.path.specs.Answers.{hop_answer, walk_answer, read_answer, write_answer, reverse_answer}
use Rattle.verdict.specs.Checks.{check_answer}
use Rattle.verdict.specs.Accepted.{Accepted}
use Rattle.build.specs.Answers.{build_answer}
use Rattle.laying.specs.Answers.{Lays}
use Rattle.finder.specs.Told.{Found}
use Rattle.finder.specs.Answers.{Finding}
use Rattle.select.specs.Told.{Selection}
use Rattle.select.specs.Selection.{Selecting}
use Rattle.pick.specs.Picks.{pick_answer, array_at}
use Rattle.pick.specs.Places.{place_answer}
use Rattle.step.specs.Steps.{flag_at, step_answer}
use Rattle.demands.specs.Meetings.{Reached, Used, Earlier, MeetFirst}
use Rattle.demands.specs.Tests.{Tests, ◌then◌, Refused, Number, Whole, Exactly, Hold}
use Rattle.demands.specs.Summaries.{switch_total, EntryCounts, Summarizes}

-- ---- shapes, servers, links, values, digits

abbrev pub shape_tests : Shape → Tests
shape_tests s = (1, (2 ≤ s.n) × (s.n ≤ 64)) ∷ (2, s.k ≤ 3) ∷ (26, (2 ≤ s.m) × (s.m ≤ s.n)) ∷ (3, servers_of s ≤ 4096) ∷ []

abbrev pub level_tests : Shape → ℕ → Tests
level_tests s l = shape_tests s then (20, l ≤ s.k)

abbrev pub server_tests : Shape → ℕ → Tests
server_tests s a = shape_tests s then (4, a < servers_of s)

abbrev pub pair_tests : Shape → ℕ → ℕ → Tests
pair_tests s a b = shape_tests s then (4, (a < servers_of s) × (b < servers_of s))

abbrev pub link_tests : Shape → ℕ → ℕ → Tests
link_tests s a l = server_tests s a then (20, l ≤ s.k)

abbrev pub value_tests : Shape → ℕ → ℕ → ℕ → Tests
value_tests s a l v = link_tests s a l then (21, v < bound s l)

-- places that write an address: each digit below its bound, zeros above k
pub record Fits (s : Shape) (ds : List ℕ) : Type 0 where
  pub digits : (i : ℕ) → i < length ds → i ≤ s.k → get_or ds i 0 < bound s i
  pub above : (i : ℕ) → i < length ds → s.k < i → get_or ds i 0 ≡ 0

abbrev pub places_tests : Shape → List ℕ → Tests
places_tests s ds = shape_tests s then (21, Fits s ds)

-- a port of a switch of a level
abbrev pub port_tests : Shape → ℕ → ℕ → ℕ → Tests
port_tests s l w v = level_tests s l then (21, (w < switches_at s l) × (v < bound s l))

-- a level and a value, of which a path byte is made
abbrev pub made_tests : Shape → ℕ → ℕ → Tests
made_tests s l v = level_tests s l then (21, v < bound s l)

-- a number that is taken for a path byte
abbrev pub parts_tests : Shape → ℕ → Tests
parts_tests s b = (8, level_of b ≤ s.k) ∷ (9, value_of b < bound s (level_of b)) ∷ []

-- ---- tables, ends, lists

abbrev pub table_tests : Shape → List ℕ → Tests
table_tests s t = shape_tests s then (6, TableOf s t)

abbrev pub table_link_tests : Shape → List ℕ → ℕ → ℕ → Tests
table_link_tests s t a l = link_tests s a l then (6, TableOf s t)

abbrev pub table_server_tests : Shape → List ℕ → ℕ → Tests
table_server_tests s t a = server_tests s a then (6, TableOf s t)

-- and a summary: an entry for each switch, and that of the link's switch is the count
abbrev pub counted_link_tests : Shape → List ℕ → List ℕ → ℕ → ℕ → Tests
counted_link_tests s t c a l =
    table_link_tests s t a l then (30, (length c ≡ switch_total s) × EntryCounts s t c a l)

-- those of the server's switches at all levels
abbrev pub counted_server_tests : Shape → List ℕ → List ℕ → ℕ → Tests
counted_server_tests s t c a =
    table_server_tests s t a
    then (30, (length c ≡ switch_total s) × ((l : ℕ) → l ≤ s.k → EntryCounts s t c a l))

-- every entry
abbrev pub summary_tests : Shape → List ℕ → List ℕ → Tests
summary_tests s t c = table_tests s t then (30, Summarizes s t c)

-- none of them
abbrev pub entries_tests : Shape → List ℕ → List ℕ → Tests
entries_tests s t c = table_tests s t then (30, length c ≡ switch_total s)

-- source and destination
abbrev pub ends_tests : Shape → ℕ → ℕ → Tests
ends_tests s a d = pair_tests s a d then (5, a ≢ d)

-- the source, a tree and the server whose parent is asked for: the tree is tested before the two servers are told apart
abbrev pub parent_tests : Shape → ℕ → ℕ → ℕ → Tests
parent_tests s a l x = pair_tests s a x then (20, l ≤ s.k) then (5, a ≢ x)

-- source and destination, and a table
abbrev pub room_tests : Shape → List ℕ → ℕ → ℕ → Tests
room_tests s t a d = ends_tests s a d then (6, TableOf s t)

-- and one array
abbrev pub array_tests : Shape → ℕ → ℕ → List ℕ → Tests
array_tests s a d bs = ends_tests s a d then (7, length bs ≡ 8)

-- and a table too
abbrev pub lay_tests : Shape → List ℕ → ℕ → ℕ → List ℕ → Tests
lay_tests s t a d bs = room_tests s t a d then (7, length bs ≡ 8)

-- a list is whole arrays, at most k + 1 of them
abbrev pub Arrays : Shape → List ℕ → Type 0
Arrays s bs = (length bs % 8 ≡ 0) × (length bs ≤ 8 * (s.k + 1))

abbrev pub check_tests : Shape → List ℕ → ℕ → ℕ → List ℕ → Tests
check_tests s t a d bs = room_tests s t a d then (7, Arrays s bs × (1 ≤ length bs))

-- some route of eight hops or fewer crosses only live links
abbrev pub Joined : Shape → List ℕ → ℕ → ℕ → Type 0
Joined s t a d = (vs : List ℕ) × RouteTo s t a d vs

abbrev pub select_tests : Shape → List ℕ → ℕ → ℕ → Tests
select_tests s t a d = room_tests s t a d then (16, Joined s t a d)

-- the array at place i of a list is that of a route from source to destination over live links
abbrev pub IsRead : Shape → List ℕ → ℕ → ℕ → List ℕ → ℕ → Type 0
IsRead s t a d bs i = (vs : List ℕ) × Encodes s t a d (array_at i bs) vs

-- some array of a list is
abbrev pub SomeRead : Shape → List ℕ → ℕ → ℕ → List ℕ → Type 0
SomeRead s t a d bs = (i : ℕ) × (i < length bs / 8) × IsRead s t a d bs i

abbrev pub pick_tests : Shape → List ℕ → ℕ → ℕ → List ℕ → List ℕ → Tests
pick_tests s t a d fs ks =
    room_tests s t a d then (7, Arrays s fs × Arrays s ks) then (16, SomeRead s t a d fs ⊎ SomeRead s t a d ks)

-- ---- one hop

-- x is not in a list
abbrev pub NotIn : ℕ → List ℕ → Type 0
NotIn x xs = (i : ℕ) → i < length xs → get_or xs i 0 ≢ x

-- the last server of a way
abbrev pub end_of : List ℕ → ℕ
end_of vs = get_or vs (length vs - 1) 0

-- byte b from server a: its level and its value are the room's, and the value is not a's own
abbrev pub hop_tests : Shape → ℕ → ℕ → Tests
hop_tests s a b = (8, level_of b ≤ s.k) ∷ (9, value_of b < bound s (level_of b)) ∷ (10, digit s (level_of b) a ≢ value_of b) ∷ []

-- byte b after the way vs, when an array is read: neither link of the hop is failed; its server is not met yet, nor its switch used
abbrev pub read_tests : Shape → List ℕ → List ℕ → ℕ → Tests
read_tests s t vs b =
    let a = end_of vs in
    let next = hop_to s a b in
    hop_tests s a b
    then (11, (failed t a (level_of b) ≡ false) × (failed t next (level_of b) ≡ false))
    then (28, NotIn next vs)
    then (29, NotIn (switch_at s (level_of b) a) (switches_of s vs))

-- server b after the way vs, when servers are written: it differs from the last in exactly one digit
abbrev pub write_tests : Shape → List ℕ → ℕ → Tests
write_tests s vs b =
    let a = end_of vs in
    (23, (l : ℕ) × Neighbours s l a b) ∷ (28, NotIn b vs) ∷ (29, NotIn (switch_to s a b) (switches_of s vs)) ∷ []

-- n is the number of the first of these tests that fails
abbrev pub FailsWith : Tests → ℕ → Type 0
FailsWith tests = Refused (λ x. x) tests (λ x. ⊥)

-- ---- reading an array

-- the first bytes of an array are the hops of the way vs, the beginning of a route from a over live links that has not met d; `left` are
-- the bytes after them
pub record Along (s : Shape) (t : List ℕ) (a d : ℕ) (bs vs left : List ℕ) : Type 0 where
  pub way : Prefix s t vs
  pub source : get_or vs 0 0 ≡ a
  pub away : (i : ℕ) → i < length vs → get_or vs i 0 ≢ d
  pub bytes : bs ≡ in_turn (byte_to s) vs ++ left

-- the first bytes of an array are the hops of a route from a to d; the byte at place p, counted from 0, comes after them and is the first
-- after them that is not zero
pub record FirstAfterArrival (s : Shape) (t : List ℕ) (a d : ℕ) (bs : List ℕ) (p : ℕ) : Type 0 where
  pub servers : List ℕ
  pub left : List ℕ
  pub route : RouteTo s t a d servers
  pub bytes : bs ≡ in_turn (byte_to s) servers ++ left
  pub arrived : length servers - 1 ≤ p
  pub zeros : (j : ℕ) → length servers - 1 ≤ j → j < p → get_or bs j 0 ≡ 0
  pub here : get_or bs p 0 ≢ 0

-- why and where reading an array stops
pub data Stops (s : Shape) (t : List ℕ) (a d : ℕ) (bs : List ℕ) : Refusal → Type 0 where
  -- a test of the next byte fails: the hop is the number of servers met; 28 and 29 name an earlier hop beside it
  hop_fails : {vs : List ℕ} {b : ℕ} {left : List ℕ} {n h : ℕ}
      → Along s t a d bs vs (b ∷ left)
      → FailsWith (read_tests s t vs b) n
      → Earlier s vs (hop_to s (end_of vs) b) (switch_at s (level_of b) (end_of vs)) n h
      → Stops s t a d bs (with_earlier 0 h (refused_at n 1 (length vs)))
  -- all eight bytes are hops, and it has not arrived
  never_arrives : {vs : List ℕ} → Along s t a d bs vs [] → Stops s t a d bs (refused_at 13 1 8)
  -- a byte after arrival is not zero: the hop is its place
  goes_on : {p : ℕ} → FirstAfterArrival s t a d bs p → Stops s t a d bs (refused_at 14 1 (suc p))

-- an array of eight bytes is that of a route, or it stops
abbrev pub Reads : Shape → List ℕ → ℕ → ℕ → List ℕ → Refusal → Type 0
Reads s t a d bs r = (((vs : List ℕ) × Encodes s t a d bs vs) × (r ≡ none)) ⊎ Stops s t a d bs r

-- ---- writing servers

abbrev pub servers_tests : Shape → List ℕ → Tests
servers_tests s vs =
    shape_tests s
    then (22, (2 ≤ length vs) × (length vs ≤ 9))
    then (4, (i : ℕ) → i < length vs → get_or vs i 0 < servers_of s)
    then (5, get_or vs 0 0 ≢ end_of vs)

-- the first server that is no hop from those before it, which are the beginning of a route: the hop is their number; 28 and 29 name an
-- earlier hop beside it
pub record WriteStops (s : Shape) (vs : List ℕ) (r : Refusal) : Type 0 where
  pub before : List ℕ
  pub next : ℕ
  pub rest : List ℕ
  pub servers : vs ≡ before ++ (next ∷ rest)
  pub way : Prefix s [] before
  pub number : ℕ
  pub earlier : ℕ
  pub refused : FailsWith (write_tests s before next) number
  pub names : Earlier s before next (switch_to s (end_of before) next) number earlier
  pub here : r ≡ with_earlier 0 earlier (refused_at number 1 (length before))

-- servers are a route, or writing them stops
abbrev pub Writes : Shape → List ℕ → Refusal → Type 0
Writes s vs r = (Route s [] vs × (r ≡ none)) ⊎ WriteStops s vs r

-- ---- checking a list

-- the first array that is not read, with its own refusal; routes count from 1
pub record FirstRefused (s : Shape) (t : List ℕ) (a d : ℕ) (bs : List ℕ) (r : Refusal) : Type 0 where
  pub place : ℕ
  pub own : Refusal
  pub within : place < length bs / 8
  pub before : (i : ℕ) → i < place → IsRead s t a d bs i
  pub stops : Stops s t a d (array_at place bs) own
  pub here : r ≡ of_route (suc place) own

-- all are read; of the pairs, by first, then second route, the first that is not parallel: route and hop are those of the later of the two where
-- they first meet, and the earlier ones those of the other
pub record FirstPair (s : Shape) (t : List ℕ) (a d : ℕ) (bs : List ℕ) (r : Refusal) : Type 0 where
  pub routes : ℕ → List ℕ
  pub read : (i : ℕ) → i < length bs / 8 → Encodes s t a d (array_at i bs) (routes i)
  pub first : ℕ
  pub second : ℕ
  pub order : first < second
  pub within : second < length bs / 8
  pub before : (i j : ℕ) → i < j → j < length bs / 8 → (i < first) ⊎ ((i ≡ first) × (j < second)) → Parallel s (routes i) (routes j)
  pub first_hop : ℕ
  pub second_hop : ℕ
  pub meet : MeetFirst s (routes first) (routes second) first_hop second_hop
  pub here : r ≡ with_earlier (suc first) first_hop (refused_at 15 (suc second) second_hop)

-- a list is accepted; or an array of it is not read; or all are, and two are not parallel
abbrev pub Checks : Shape → List ℕ → ℕ → ℕ → List ℕ → Refusal → Type 0
Checks s t a d bs r =
    (Accepted s t a d bs × (r ≡ none)) ⊎ FirstRefused s t a d bs r ⊎ FirstPair s t a d bs r

-- ---- one step

abbrev pub given_tests : Shape → ℕ → ℕ → List ℕ → List ℕ → Tests
given_tests s a d bs e = pair_tests s a d then (17, length e ≡ 2048) then (7, length bs ≡ 8)

-- byte b from server a, by a's neighbour table
abbrev pub step_tests : Shape → ℕ → List ℕ → ℕ → Tests
step_tests s a e b = hop_tests s a b then (19, flag_at e b ≡ 1)

-- at the destination any index is delivered; elsewhere 18 comes first, then the byte that the index names, at the hop index + 1
abbrev pub Steps : Shape → ℕ → ℕ → ℕ → List ℕ → List ℕ → Refusal → Type 0
Steps s a d i bs e r =
    ((a ≡ d) × (r ≡ none))
    ⊎ ((a ≢ d) × Refused plain ((18, i < 8) ∷ []) (Refused (λ n. refused_at n 1 (i + 1)) (step_tests s a e (get_or bs i 0)) (λ x. x ≡ none)) r)

-- ---- a server met again, a switch used again

-- reading comes to its hop h: after the way over these servers the next byte is a hop of the room, over two live links
pub record ComesTo (s : Shape) (t : List ℕ) (a d : ℕ) (bs : List ℕ) (h : ℕ) : Type 0 where
  pub servers : List ℕ
  pub byte : ℕ
  pub left : List ℕ
  pub along : Along s t a d bs servers (byte ∷ left)
  pub count : length servers ≡ h
  pub hop : Hold (hop_tests s (end_of servers) byte)
  pub links : (failed t (end_of servers) (level_of byte) ≡ false) × (failed t (hop_to s (end_of servers) byte) (level_of byte) ≡ false)

-- it leads to the server that hop g reached
pub record MeetsAgain (s : Shape) (t : List ℕ) (a d : ℕ) (bs : List ℕ) (g h : ℕ) : Type 0 where
  pub comes : ComesTo s t a d bs h
  pub again : Reached comes.servers (hop_to s (end_of comes.servers) comes.byte) g

-- it leads to a server not met before, over the switch that hop g used
pub record UsesAgain (s : Shape) (t : List ℕ) (a d : ℕ) (bs : List ℕ) (g h : ℕ) : Type 0 where
  pub comes : ComesTo s t a d bs h
  pub new : NotIn (hop_to s (end_of comes.servers) comes.byte) comes.servers
  pub again : Used s comes.servers (switch_at s (level_of comes.byte) (end_of comes.servers)) g

-- writing comes to its hop h: the first h servers are the beginning of a route, and the next is a neighbour of the last of them
pub record WritesTo (s : Shape) (vs : List ℕ) (h : ℕ) : Type 0 where
  pub before : List ℕ
  pub next : ℕ
  pub rest : List ℕ
  pub servers : vs ≡ before ++ (next ∷ rest)
  pub count : length before ≡ h
  pub way : Prefix s [] before
  pub hop : (l : ℕ) × Neighbours s l (end_of before) next

-- that is the server that hop g reached
pub record WritesAgain (s : Shape) (vs : List ℕ) (g h : ℕ) : Type 0 where
  pub comes : WritesTo s vs h
  pub again : Reached comes.before comes.next g

-- it is new, and the hop to it is over the switch that hop g used
pub record WritesOver (s : Shape) (vs : List ℕ) (g h : ℕ) : Type 0 where
  pub comes : WritesTo s vs h
  pub new : NotIn comes.next comes.before
  pub again : Used s comes.before (switch_to s (end_of comes.before) comes.next) g

-- ---- every call

-- a line for each call: exactly which refusal it gives
pub record RefusedExactly : Type 0 where
  -- room
  pub shape-refusal : (s : Shape) → Exactly (shape_refusal s) (Number (shape_tests s))
  pub server-refusal : (s : Shape) (a : ℕ) → Exactly (server_refusal s a) (Number (server_tests s a))
  pub pair-refusal : (s : Shape) (a b : ℕ) → Exactly (pair_refusal s a b) (Number (pair_tests s a b))
  pub ends-refusal : (s : Shape) (a d : ℕ) → Exactly (ends_refusal s a d) (Number (ends_tests s a d))
  pub link-refusal : (s : Shape) (a l : ℕ) → Exactly (link_refusal s a l) (Number (link_tests s a l))
  pub servers-of : (s : Shape) → Exactly (servers_answer s).refusal (Whole (shape_tests s))
  pub bound_of : (s : Shape) (l : ℕ) → Exactly (bound_answer s l).refusal (Whole (level_tests s l))
  pub digits_of : (s : Shape) (a : ℕ) → Exactly (digits_answer s a).refusal (Whole (server_tests s a))
  pub digit_of : (s : Shape) (a l : ℕ) → Exactly (digit_answer s a l).refusal (Whole (link_tests s a l))
  pub address-of : (s : Shape) (ds : List ℕ) → Exactly (address_answer s ds).refusal (Whole (places_tests s ds))
  pub switch-of : (s : Shape) (a l : ℕ) → Exactly (switch_answer s a l).refusal (Whole (link_tests s a l))
  pub neighbour_of : (s : Shape) (a l v : ℕ) → Exactly (neighbour_answer s a l v).refusal (Whole (value_tests s a l v))
  pub level_between : (s : Shape) (a b : ℕ) → Exactly (between_answer s a b).refusal (Whole (pair_tests s a b))
  pub switches-of : (s : Shape) (l : ℕ) → Exactly (switches_answer s l).refusal (Whole (level_tests s l))
  pub server-at : (s : Shape) (l w v : ℕ) → Exactly (server_at_answer s l w v).refusal (Whole (port_tests s l w v))
  -- trees
  pub parent-of : (s : Shape) (a l x : ℕ) → Exactly (parent_answer s a l x).refusal (Whole (parent_tests s a l x))
  pub write_tree : (s : Shape) (a l : ℕ) → Exactly (tree_answer s a l).refusal (Whole (link_tests s a l))
  -- links
  pub table-refusal : (s : Shape) (t : List ℕ) → Exactly (room_table_refusal s t) (Number (table_tests s t))
  pub room-refusal : (s : Shape) (t : List ℕ) (a d : ℕ) → Exactly (room_refusal s t a d) (Number (room_tests s t a d))
  pub failed_link : (s : Shape) (t : List ℕ) (a l : ℕ) → Exactly (failed_answer s t a l).refusal (Whole (table_link_tests s t a l))
  pub table-link-refusal : (s : Shape) (t : List ℕ) (a l : ℕ) → Exactly (table_link_refusal s t a l) (Number (table_link_tests s t a l))
  pub table-server-refusal : (s : Shape) (t : List ℕ) (a : ℕ) → Exactly (table_server_refusal s t a) (Number (table_server_tests s t a))
  -- summary
  pub mark_or_clear : (s : Shape) (t c : List ℕ) (a l : ℕ) → Exactly (link_answer s t c a l) (Whole (counted_link_tests s t c a l))
  pub mark_or_clear_server : (s : Shape) (t c : List ℕ) (a : ℕ) → Exactly (server_answer s t c a) (Whole (counted_server_tests s t c a))
  pub dead-switch : (s : Shape) (t c : List ℕ) → Exactly (dead_answer s t c).refusal (Whole (summary_tests s t c))
  pub summarize : (s : Shape) (t c : List ℕ) → Exactly (fresh_answer s t c) (Whole (entries_tests s t c))
  -- path: a byte or a hop alone is hop 1 of route 1; plain reading and reversal are over the table with no bytes, in which no link is failed
  pub byte-of : (s : Shape) (l v : ℕ) → Exactly (byte_answer s l v).refusal (Whole (made_tests s l v))
  pub parts_of : (s : Shape) (b : ℕ) → Exactly (parts_answer s b).refusal (Refused plain (shape_tests s) (Refused (λ n. refused_at n 1 1) (parts_tests s b) (λ r. r ≡ none)))
  pub hop_of : (s : Shape) (a b : ℕ) → Exactly (hop_answer s a b).refusal (Refused plain (server_tests s a) (Refused (λ n. refused_at n 1 1) (hop_tests s a b) (λ r. r ≡ none)))
  pub walk : (s : Shape) (t : List ℕ) (a d : ℕ) (bs : List ℕ) → Exactly (walk_answer s t a d bs).refusal (Refused plain (array_tests s a d bs) (Reads s t a d bs))
  pub read_path : (s : Shape) (a d : ℕ) (bs : List ℕ) → Exactly (read_answer s a d bs).refusal (Refused plain (array_tests s a d bs) (Reads s [] a d bs))
  pub reverse_path : (s : Shape) (a d : ℕ) (bs : List ℕ) → Exactly (reverse_answer s a d bs).refusal (Refused plain (array_tests s a d bs) (Reads s [] a d bs))
  pub write_path : (s : Shape) (vs : List ℕ) → Exactly (write_answer s vs).refusal (Refused plain (servers_tests s vs) (Writes s vs))
  -- verdict
  pub check_list : (s : Shape) (t : List ℕ) (a d : ℕ) (bs : List ℕ) → Exactly (check_answer s t a d bs) (Refused plain (check_tests s t a d bs) (Checks s t a d bs))
  -- build, laying, finder, select
  pub build_routes : (s : Shape) (a d : ℕ) → Exactly (build_answer s a d).refusal (Whole (ends_tests s a d))
  pub lay_route : (s : Shape) (t : List ℕ) (a d : ℕ) (bs : List ℕ) (r : Refusal) (u : List ℕ) → Lays s t a d bs r u → Exactly r (Refused plain (lay_tests s t a d bs) (Reads s [] a d bs))
  pub find_route : (s : Shape) (t : List ℕ) (a d : ℕ) (x : Found) → Finding s t a d x → Exactly x.refusal (Whole (room_tests s t a d))
  pub select_routes : (s : Shape) (t : List ℕ) (a d : ℕ) (x : Selection) → Selecting s t a d x → Exactly x.refusal (Whole (select_tests s t a d))
  -- pick
  pub pick-refusal : (s : Shape) (t : List ℕ) (a d : ℕ) (fs ks : List ℕ) → Exactly (pick_answer s t a d fs ks) (Whole (pick_tests s t a d fs ks))
  pub pick_place : (s : Shape) (t : List ℕ) (a d : ℕ) (fs ks : List ℕ) → Exactly (place_answer s t a d fs ks).refusal (Whole (pick_tests s t a d fs ks))
  -- step
  pub step_once : (s : Shape) (a d i : ℕ) (bs e : List ℕ) → Exactly (step_answer s a d i bs e).refusal (Refused plain (given_tests s a d bs e) (Steps s a d i bs e))

-- ---- some numbers spelled out

-- what lines of `RefusedExactly` say of a number, by `ChainMeans`
pub record SpelledOut : Type 0 where
  -- a shape is refused with 26 exactly when n and k are as they must be, and m is not, however many servers it would give
  pub twenty_six : (s : Shape)
      → (shape_refusal s ≡ 26) ↔ (Hold ((1, (2 ≤ s.n) × (s.n ≤ 64)) ∷ (2, s.k ≤ 3) ∷ []) × ((2 ≤ s.m) × (s.m ≤ s.n) → ⊥))
  -- asked for a parent, 4 is said exactly when the shape is right and the source or the server is not the room's; 20 exactly when both are and the
  -- room has no such tree; 5 exactly when it has, and the server is the source
  pub parent_four : (s : Shape) (a l x : ℕ) → ((parent_answer s a l x).refusal ≡ plain 4) ↔ (Hold (shape_tests s) × ((a < servers_of s) × (x < servers_of s) → ⊥))
  pub parent_twenty : (s : Shape) (a l x : ℕ) → ((parent_answer s a l x).refusal ≡ plain 20) ↔ (Hold (pair_tests s a x) × (s.k < l))
  pub parent_five : (s : Shape) (a l x : ℕ) → ((parent_answer s a l x).refusal ≡ plain 5) ↔ (Hold (pair_tests s a x) × (l ≤ s.k) × (a ≡ x))
  -- marking or clearing a link says 30 exactly when the link and the table are right, and the summary has not an entry for each switch or that of
  -- the link's switch is not the count
  pub thirty : (s : Shape) (t c : List ℕ) (a l : ℕ)
      → (link_answer s t c a l ≡ plain 30) ↔ (Hold (table_link_tests s t a l) × ((length c ≡ switch_total s) × EntryCounts s t c a l → ⊥))
  -- the question says it exactly when the shape and the table are right, and the summary, its length or some entry, is not
  pub asked_thirty : (s : Shape) (t c : List ℕ) → ((dead_answer s t c).refusal ≡ plain 30) ↔ (Hold (table_tests s t) × (Summarizes s t c → ⊥))
  -- a check says 7 exactly when the tests of the room hold and the length of the list is not as it must be
  pub seven : (s : Shape) (t : List ℕ) (a d : ℕ) (bs : List ℕ)
      → (check_answer s t a d bs ≡ plain 7) ↔ (Hold (room_tests s t a d) × ((Arrays s bs × (1 ≤ length bs)) → ⊥))
  -- a step says 8, at the hop index + 1, exactly when what it is given is right, it is away from the destination, its index names a byte, and
  -- the level of that byte is above k
  pub eight : (s : Shape) (a d i : ℕ) (bs e : List ℕ)
      → ((step_answer s a d i bs e).refusal ≡ refused_at 8 1 (i + 1)) ↔ (Hold (given_tests s a d bs e) × (a ≢ d) × (i < 8) × (s.k < level_of (get_or bs i 0)))
  -- a hop alone says 8, at hop 1 of route 1, exactly when the server is right and the level of its byte is above k
  pub hop_eight : (s : Shape) (a b : ℕ) → ((hop_answer s a b).refusal ≡ refused_at 8 1 1) ↔ (Hold (server_tests s a) × (s.k < level_of b))
  -- and so of every number that is no byte
  pub no_byte : (s : Shape) (a b : ℕ) → Hold (server_tests s a) → 255 < b → (hop_answer s a b).refusal ≡ refused_at 8 1 1
  -- 9 exactly when the server is right, the level of the byte is the room's, and its value is not below the level's bound
  pub hop_nine : (s : Shape) (a b : ℕ)
      → ((hop_answer s a b).refusal ≡ refused_at 9 1 1) ↔ (Hold (server_tests s a) × (level_of b ≤ s.k) × (bound s (level_of b) ≤ value_of b))
  -- 10 exactly when the server is right, the level and the value of the byte are the room's, and the value is the server's own
  pub hop_ten : (s : Shape) (a b : ℕ)
      → ((hop_answer s a b).refusal ≡ refused_at 10 1 1) ↔ (Hold (server_tests s a) × (level_of b ≤ s.k) × (value_of b < bound s (level_of b)) × (digit s (level_of b) a ≡ value_of b))
  -- 14 at hop p + 1, exactly when the byte at place p, counted from 0, is the first after arrival that is not zero
  pub fourteen : (s : Shape) (t : List ℕ) (a d : ℕ) (bs : List ℕ) (p : ℕ)
      → ((walk_answer s t a d bs).refusal ≡ refused_at 14 1 (suc p)) ↔ (Hold (array_tests s a d bs) × FirstAfterArrival s t a d bs p)
  -- 28 at hop h, which reading came to over live links, exactly when that hop leads to the server that hop g reached
  pub twenty_eight : (s : Shape) (t : List ℕ) (a d : ℕ) (bs : List ℕ) (g h : ℕ)
      → ((walk_answer s t a d bs).refusal ≡ with_earlier 0 g (refused_at 28 1 h)) ↔ (Hold (array_tests s a d bs) × MeetsAgain s t a d bs g h)
  -- 29, exactly when it leads to a server not met before, over the switch that hop g used
  pub twenty_nine : (s : Shape) (t : List ℕ) (a d : ℕ) (bs : List ℕ) (g h : ℕ)
      → ((walk_answer s t a d bs).refusal ≡ with_earlier 0 g (refused_at 29 1 h)) ↔ (Hold (array_tests s a d bs) × UsesAgain s t a d bs g h)
  -- and so the writer, whose first server is hop 0
  pub write_twenty_eight : (s : Shape) (vs : List ℕ) (g h : ℕ)
      → ((write_answer s vs).refusal ≡ with_earlier 0 g (refused_at 28 1 h)) ↔ (Hold (servers_tests s vs) × WritesAgain s vs g h)
  pub write_twenty_nine : (s : Shape) (vs : List ℕ) (g h : ℕ)
      → ((write_answer s vs).refusal ≡ with_earlier 0 g (refused_at 29 1 h)) ↔ (Hold (servers_tests s vs) × WritesOver s vs g h)
  -- 15 at hop h of route j, with hop g of route i, exactly when these are the first pair that is not parallel and they first meet there
  pub fifteen : (s : Shape) (t : List ℕ) (a d : ℕ) (bs : List ℕ) (i g j h : ℕ)
      → (let r = with_earlier i g (refused_at 15 j h) in (check_answer s t a d bs ≡ r) ↔ (Hold (check_tests s t a d bs) × FirstPair s t a d bs r))
