-- Demand 1, of buffers and words: every lent buffer keeps its bytes where a call refuses, and holds what it answers else; the words that the
-- calls from C give back say all of the answer.
use Rattle.std.specs.Prelude.{ℕ, suc, ◌+◌, ◌*◌, ◌/◌, ◌%◌, ◌≤◌, ◌≡◌, ◌≢◌, List, [], ◌∷◌, true, false, cond, eqb, set}
use Rattle.refusals.specs.Refusals.{Refusal, earlier_route, earlier_hop, plain}
use Rattle.room.specs.declared.Shape.{Shape}
use Rattle.room.specs.Refusals.{shape_refusal}
use Rattle.room.specs.Answers.{servers_answer, bound_answer, digits_answer, digit_answer, address_answer, switch_answer, neighbour_answer, between_answer}
use Rattle.room.specs.Wiring.{switches_answer, server_at_answer}
use Rattle.trees.specs.Answers.{parent_answer, tree_of, tree_answer, tree_left}
use Rattle.links.specs.Table.{changed}
use Rattle.links.specs.Answers.{failed_answer}
use Rattle.summary.specs.Told.{DeadSwitch}
use Rattle.summary.specs.Counts.{summary_of, recounted, recounted_below}
use Rattle.summary.specs.Answers.{all_bits, link_answer, link_table, link_summary, server_answer, server_table, server_summary, dead_answer, fresh_answer, fresh_summary}
use Rattle.path.specs.Bytes.{byte_answer, parts_answer}
use Rattle.path.specs.Told.{Hop}
use Rattle.path.specs.Answers.{hop_answer, read_answer, write_answer, reverse_answer}
use Rattle.verdict.specs.Checks.{check_answer}
use Rattle.build.specs.Answers.{build_answer}
use Rattle.laying.specs.Answers.{Lays}
use Rattle.pick.specs.Places.{place_answer}
use Rattle.step.specs.Told.{Step}
use Rattle.step.specs.Steps.{step_answer}
use Rattle.driver.specs.declared.Answer.{Answer}
use Rattle.driver.specs.declared.Stepped.{Stepped}
use Rattle.driver.specs.declared.Room.{Room}
use Rattle.driver.specs.Rooms.{room_of, shape_in}
use Rattle.driver.specs.Words.{word, refusal_in, value_in, number_word, digits_word, digits_left, switch_word, between_word, asked_word, dead_word, parts_word, hop_word, reading_word, reading_left, writing_word, writing_left, building_word, building_left, place_word}
use Rattle.driver.specs.Routes.{FoundWord, SelectedWord}
use Rattle.driver.specs.Packed.{packed, unpacked, Bytes}

-- ---- lent buffers

-- what a call leaves in a lent buffer: what it answers where its refusal's number is 0, else what was lent
pub record Holds (number : ℕ) (lent answered left : List ℕ) : Type 0 where
  pub written : number ≡ 0 → left ≡ answered
  pub kept : number ≢ 0 → left ≡ lent

-- the calls that can write to what they are lent; all others are lent it to read
pub record EveryBuffer : Type 0 where
  -- marking and clearing: the table with the link marked, and cleared; the summary with its switch's entry counted in that table
  pub marked : (s : Shape) (t c : List ℕ) (a l : ℕ) → Holds (link_answer s t c a l).number t (changed true a l t) (link_table true s t c a l)
  pub marked_summary : (s : Shape) (t c : List ℕ) (a l : ℕ) → Holds (link_answer s t c a l).number c (recounted s (changed true a l t) a l c) (link_summary true s t c a l)
  pub cleared : (s : Shape) (t c : List ℕ) (a l : ℕ) → Holds (link_answer s t c a l).number t (changed false a l t) (link_table false s t c a l)
  pub cleared_summary : (s : Shape) (t c : List ℕ) (a l : ℕ) → Holds (link_answer s t c a l).number c (recounted s (changed false a l t) a l c) (link_summary false s t c a l)
  -- a whole server: its byte has the bits of all levels, and none; the summary with the entries of its switches counted in that table
  pub marked_server : (s : Shape) (t c : List ℕ) (a : ℕ) → Holds (server_answer s t c a).number t (set t a (all_bits s.k)) (server_table true s t c a)
  pub marked_server_summary : (s : Shape) (t c : List ℕ) (a : ℕ)
      → Holds (server_answer s t c a).number c (recounted_below s (set t a (all_bits s.k)) a (suc s.k) c) (server_summary true s t c a)
  pub cleared_server : (s : Shape) (t c : List ℕ) (a : ℕ) → Holds (server_answer s t c a).number t (set t a 0) (server_table false s t c a)
  pub cleared_server_summary : (s : Shape) (t c : List ℕ) (a : ℕ)
      → Holds (server_answer s t c a).number c (recounted_below s (set t a 0) a (suc s.k) c) (server_summary false s t c a)
  -- the summary counted afresh
  pub summarized : (s : Shape) (t c : List ℕ) → Holds (fresh_answer s t c).number c (summary_of s t) (fresh_summary s t c)
  -- the numbers of a tree
  pub tree : (s : Shape) (a l : ℕ) (lent : List ℕ) → Holds (tree_answer s a l).refusal.number lent (tree_of s a l) (tree_left s a l lent)
  -- laying a route: on a refusal t, as it was lent, is u, which is left; what is left else is `LaysExactly` in Calls
  pub laid : (s : Shape) (t : List ℕ) (a d : ℕ) (bs : List ℕ) (r : Refusal) (u : List ℕ) → Lays s t a d bs r u → r.number ≢ 0 → u ≡ t
  -- the calls from C, by what their contracts say is left: four digits, nine servers, eight path bytes, four arrays
  pub digits : (s : Shape) (a : ℕ) (lent : List ℕ) → (let x = digits_answer s a in Holds x.refusal.number lent x.places (digits_left lent x))
  pub read : (s : Shape) (a d : ℕ) (bs lent : List ℕ) → (let x = read_answer s a d bs in Holds x.refusal.number lent x.servers (reading_left lent x))
  pub write : (s : Shape) (vs lent : List ℕ) → (let x = write_answer s vs in Holds x.refusal.number lent x.bytes (writing_left lent x))
  pub reversed : (s : Shape) (a d : ℕ) (bs lent : List ℕ) → (let x = reverse_answer s a d bs in Holds x.refusal.number lent x.bytes (writing_left lent x))
  pub build : (s : Shape) (a d : ℕ) (lent : List ℕ) → (let x = build_answer s a d in Holds x.refusal.number lent x.routes.bytes (building_left lent x))
  -- w is the word that the call gives back, and the last list what it leaves
  pub find : (s : Shape) (t : List ℕ) (a d : ℕ) (w : Answer) (lent path : List ℕ) (x : FoundWord s t a d w lent path) → Holds (refusal_in w).number lent x.answer.bytes path
  pub select : (s : Shape) (t : List ℕ) (a d : ℕ) (w : Answer) (lent routes : List ℕ) (x : SelectedWord s t a d w lent routes) → Holds (refusal_in w).number lent x.answer.routes.bytes routes

-- ---- the rooms that the calls from C take

-- a room of any three numbers is refused as they are, and where they are not refused, its shape is theirs
pub record EveryRoom : Type 0 where
  pub refused : (n k m : ℕ) → shape_refusal (shape_in (room_of n k m)) ≡ shape_refusal (record { n = n; k = k; m = m })
  pub shape : (n k m : ℕ) → shape_refusal (record { n = n; k = k; m = m }) ≡ 0 → shape_in (room_of n k m) ≡ record { n = n; k = k; m = m }
  -- numbers of at most 255 stand in it side by side
  pub number : (n k m : ℕ) → n ≤ 255 → k ≤ 255 → m ≤ 255 → (room_of n k m).number ≡ n + (256 * k + 65536 * m)
  -- and a number that is not refused is the room of its shape
  pub only : (r : Room) → shape_refusal (shape_in r) ≡ 0 → room_of (shape_in r).n (shape_in r).k (shape_in r).m ≡ r

-- ---- the words that the calls from C give back

-- a driver reads this refusal and this number out of a word; the fourth byte is 16 times the earlier route plus the earlier hop
pub record Tells (w : Answer) (r : Refusal) (v : ℕ) : Type 0 where
  pub refusal : refusal_in w ≡ r
  pub value : value_in w ≡ v
  pub earlier : w.word / 16777216 % 256 ≡ 16 * earlier_route r + earlier_hop r

-- the two numbers of a step. The first, from its lowest byte: the refusal's number, its hop, 1 if delivered, the next index, the next server
-- in two bytes, the OutPort, and the path byte of the way back, which is 64 times the level plus the old value. The second: the MAC, its first
-- byte highest. The refusal's route is 1 where its hop is
-- not 0.
pub record TellsStep (w : Stepped) (x : Step) : Type 0 where
  pub number : w.word % 256 ≡ x.refusal.number
  pub hop : w.word / 256 % 256 ≡ x.refusal.hop
  pub delivered : w.word / 65536 % 256 ≡ cond x.delivered 1 0
  pub index : w.word / 16777216 % 256 ≡ x.index
  pub next : w.word / 4294967296 % 65536 ≡ x.next
  pub port : w.word / 281474976710656 % 256 ≡ x.port
  pub back : w.word / 72057594037927936 ≡ 64 * x.level + x.old
  -- and so its two parts
  pub level : w.word / 72057594037927936 / 64 ≡ x.level
  pub old : w.word / 72057594037927936 % 64 ≡ x.old
  pub mac : w.mac / 1099511627776 ∷ w.mac / 4294967296 % 256 ∷ w.mac / 16777216 % 256 ∷ w.mac / 65536 % 256 ∷ w.mac / 256 % 256 ∷ w.mac % 256 ∷ [] ≡ x.mac
  pub route : x.refusal.route ≡ cond (eqb x.refusal.hop 0) 0 1
  pub no_earlier : (earlier_route x.refusal ≡ 0) × (earlier_hop x.refusal ≡ 0)

-- a driver reads out of a number whether a dead switch is found, its level and its number
pub record DeadParts (v : ℕ) (x : DeadSwitch) : Type 0 where
  pub found : v / 16777216 ≡ cond x.found 1 0
  pub level : v / 65536 % 256 ≡ x.level
  pub number : v % 65536 ≡ x.number

-- the next server of a hop, its level and its old value
pub record HopParts (v : ℕ) (x : Hop) : Type 0 where
  pub next : v % 65536 ≡ x.next
  pub level : v / 65536 / 64 ≡ x.level
  pub old : v / 65536 % 64 ≡ x.old

-- the word of each call gives back the answer's refusal and number; the two numbers of a step, the whole step
pub record EveryWord : Type 0 where
  pub shape : (s : Shape) → Tells (word (plain (shape_refusal s)) 0) (plain (shape_refusal s)) 0
  pub servers : (s : Shape) → Tells (number_word (servers_answer s)) (servers_answer s).refusal (servers_answer s).value
  pub bounds : (s : Shape) (l : ℕ) → Tells (number_word (bound_answer s l)) (bound_answer s l).refusal (bound_answer s l).value
  pub switches : (s : Shape) (l : ℕ) → Tells (number_word (switches_answer s l)) (switches_answer s l).refusal (switches_answer s l).value
  pub server-at : (s : Shape) (l w v : ℕ) → (let x = server_at_answer s l w v in Tells (number_word x) x.refusal x.value)
  pub path_byte : (s : Shape) (l v : ℕ) → Tells (number_word (byte_answer s l v)) (byte_answer s l v).refusal (byte_answer s l v).value
  pub path_byte_parts : (s : Shape) (b : ℕ) → (let x = parts_answer s b in Tells (parts_word x) x.refusal (256 * x.level + x.value))
  -- the next server in two bytes of the number, and the path byte of the way back above them
  pub hop_of : (s : Shape) (a b : ℕ) → (let x = hop_answer s a b in Tells (hop_word x) x.refusal (x.next + 65536 * (64 * x.level + x.old)))
  -- whose parts are read back
  pub hop_parts : (s : Shape) (a b : ℕ) → (let x = hop_answer s a b in HopParts (value_in (hop_word x)) x)
  pub digits : (s : Shape) (a : ℕ) → Tells (digits_word (digits_answer s a)) (digits_answer s a).refusal 0
  pub one_digit : (s : Shape) (a l : ℕ) → Tells (number_word (digit_answer s a l)) (digit_answer s a l).refusal (digit_answer s a l).value
  pub address : (s : Shape) (d0 d1 d2 d3 : ℕ) → (let x = address_answer s (d0 ∷ d1 ∷ d2 ∷ d3 ∷ []) in Tells (number_word x) x.refusal x.value)
  pub switch : (s : Shape) (a l : ℕ) → Tells (switch_word (switch_answer s a l)) (switch_answer s a l).refusal (switch_answer s a l).number
  pub neighbour : (s : Shape) (a l v : ℕ) → Tells (number_word (neighbour_answer s a l v)) (neighbour_answer s a l v).refusal (neighbour_answer s a l v).value
  pub between : (s : Shape) (a b : ℕ) → (let x = between_answer s a b in Tells (between_word x) x.refusal (cond x.adjacent (suc x.level) 0))
  pub parent : (s : Shape) (a l x : ℕ) → (let y = parent_answer s a l x in Tells (number_word y) y.refusal y.value)
  pub tree : (s : Shape) (a l : ℕ) → Tells (number_word (tree_answer s a l)) (tree_answer s a l).refusal (tree_answer s a l).value
  pub failed_link : (s : Shape) (t : List ℕ) (a l : ℕ) → (let x = failed_answer s t a l in Tells (asked_word x) x.refusal (cond x.failed 1 0))
  pub mark_or_clear : (s : Shape) (t c : List ℕ) (a l : ℕ) → Tells (word (link_answer s t c a l) 0) (link_answer s t c a l) 0
  pub mark_or_clear_server : (s : Shape) (t c : List ℕ) (a : ℕ) → Tells (word (server_answer s t c a) 0) (server_answer s t c a) 0
  -- one that is found: 1 in the highest byte of the number, the level in the next, and the switch's number in the other two
  pub dead-switch : (s : Shape) (t c : List ℕ) → (let x = dead_answer s t c in Tells (dead_word x) x.refusal (cond x.found (16777216 + 65536 * x.level + x.number) 0))
  -- whose parts are read back
  pub dead_parts : (s : Shape) (t c : List ℕ) → (let x = dead_answer s t c in DeadParts (value_in (dead_word x)) x)
  pub summarize : (s : Shape) (t c : List ℕ) → Tells (word (fresh_answer s t c) 0) (fresh_answer s t c) 0
  pub read : (s : Shape) (a d : ℕ) (bs : List ℕ) → Tells (reading_word (read_answer s a d bs)) (read_answer s a d bs).refusal (read_answer s a d bs).count
  pub write : (s : Shape) (vs : List ℕ) → Tells (writing_word (write_answer s vs)) (write_answer s vs).refusal 0
  pub reversed : (s : Shape) (a d : ℕ) (bs : List ℕ) → Tells (writing_word (reverse_answer s a d bs)) (reverse_answer s a d bs).refusal 0
  pub check : (s : Shape) (t : List ℕ) (a d : ℕ) (bs : List ℕ) → Tells (word (check_answer s t a d bs) 0) (check_answer s t a d bs) 0
  pub build : (s : Shape) (a d : ℕ) → Tells (building_word (build_answer s a d)) (build_answer s a d).refusal (build_answer s a d).routes.count
  pub find : (s : Shape) (t : List ℕ) (a d : ℕ) (w : Answer) (lent path : List ℕ) (x : FoundWord s t a d w lent path) → Tells w x.answer.refusal x.answer.hops
  pub select : (s : Shape) (t : List ℕ) (a d : ℕ) (w : Answer) (lent routes : List ℕ) (x : SelectedWord s t a d w lent routes) → Tells w x.answer.refusal x.answer.routes.count
  pub pick : (s : Shape) (t : List ℕ) (a d : ℕ) (fs ks : List ℕ) → (let x = place_answer s t a d fs ks in Tells (place_word x) x.refusal (256 * x.list + x.route))
  pub step : (s : Shape) (a d i : ℕ) (bs e : List ℕ) → Bytes e → (let x = step_answer s a d i bs e in TellsStep (packed x) x × (unpacked (packed x) ≡ x))
