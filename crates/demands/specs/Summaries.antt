-- Demand 2, of the summary beside the failed-link table: where the entry of a switch stands and what it counts, that every call carries the
-- summary along, and the first dead switch.
use Rattle.std.specs.Prelude.{ℕ, zero, suc, ◌+◌, ◌-◌, ◌*◌, ◌/◌, ◌^◌, ◌≤◌, ◌<◌, ◌≡◌, ◌↔◌, ◌≢◌, Bool, true, false, List, [], ◌∷◌, length, get_or, replicate}
use Rattle.refusals.specs.Refusals.{none, plain, answer}
use Rattle.room.specs.declared.Shape.{Shape}
use Rattle.room.specs.Shapes.{servers_of, bound, Valid, Server, Link}
use Rattle.room.specs.Addresses.{switch_of, switches_at}
use Rattle.links.specs.Table.{failed, changed, TableOf, room_table_refusal, table_link_refusal, table_server_refusal}
use Rattle.summary.specs.Told.{DeadSwitch}
use Rattle.summary.specs.Counts.{count_at, summary_of, IsSwitch}
-- declared with the summary, whose laws use them too: which of two switches is earlier, a list of the servers that are counted, how an entry
-- moves, a dead switch, and an answer that tells the first
use Rattle.summary.specs.Promises.{Earlier, Those, Moves, DeadOne, TellsFirst}
use Rattle.summary.specs.Answers.{link_answer, link_table, link_summary, changed_server, server_answer, server_table, server_summary, dead_answer, fresh_answer, fresh_summary}

-- ---- the switches of a room, and where their entries stand

-- how many switches the levels below l have
abbrev pub switches_under : Shape → ℕ → ℕ
switches_under s zero = 0
switches_under s (suc l) = switches_under s l + switches_at s l

-- how many the levels 0 to k have: the room's
abbrev pub switch_total : Shape → ℕ
switch_total s = switches_under s (suc s.k)

-- where the entry of switch w of level l stands: after those of the lower levels, and of the lower numbers of its own
abbrev pub entry_place : Shape → ℕ → ℕ → ℕ
entry_place s l w = switches_under s l + w

-- that entry of summary c
abbrev pub entry_of : Shape → List ℕ → ℕ → ℕ → ℕ
entry_of s c l w = get_or c (entry_place s l w) 0

-- the places of a room's entries
pub record EntryPlaces (s : Shape) : Type 0 where
  -- the first is that of switch 0 of level 0
  pub first : entry_place s 0 0 ≡ 0
  -- each level below k has N / n switches, which is m times n^(k-1), and level l begins after l times so many
  pub at : (l w : ℕ) → l ≤ s.k → entry_place s l w ≡ l * (servers_of s / s.n) + w
  pub at_power : (l w : ℕ) → 1 ≤ s.k → l ≤ s.k → entry_place s l w ≡ l * (s.m * s.n ^ (s.k - 1)) + w
  -- with the n^k of level k the room has so many; with no level but 0 it has one
  pub total : 1 ≤ s.k → switch_total s ≡ s.k * (s.m * s.n ^ (s.k - 1)) + s.n ^ s.k
  pub single : s.k ≡ 0 → switch_total s ≡ 1
  -- no room has more than 2,592, so that so many bytes hold the summary of any
  pub most : switch_total s ≤ 2592
  -- the entries stand in the order of the switches, so that no two stand at one place
  pub order : (l w j v : ℕ) → IsSwitch s l w → IsSwitch s j v → (entry_place s l w < entry_place s j v) ↔ Earlier l w j v
  pub one : (l w j v : ℕ) → IsSwitch s l w → IsSwitch s j v → entry_place s l w ≡ entry_place s j v → (l ≡ j) × (w ≡ v)
  -- every switch has a place below the number of switches, and every such place is a switch's
  pub inside : (l w : ℕ) → IsSwitch s l w → entry_place s l w < switch_total s
  pub every : (i : ℕ) → i < switch_total s → (l : ℕ) × (w : ℕ) × IsSwitch s l w × (entry_place s l w ≡ i)

abbrev pub EntriesPlaced : Type 0
EntriesPlaced = (s : Shape) → Valid s → EntryPlaces s

-- ---- what an entry counts

-- the count is how many `Those` are, the servers at the switch whose link there is failed: they can be listed, and every list of them is so long
abbrev pub CountsExactly : Type 0
CountsExactly =
    (s : Shape) (t : List ℕ) (l w : ℕ) →
    Valid s →
    ((xs : List ℕ) × Those s t l w xs) × ((xs : List ℕ) → Those s t l w xs → length xs ≡ count_at s t l w)

-- in summary c the entry of the switch of server a at level l is what table t counts there
abbrev pub EntryCounts : Shape → List ℕ → List ℕ → ℕ → ℕ → Type 0
EntryCounts s t c a l = entry_of s c l (switch_of s l a) ≡ count_at s t l (switch_of s l a)

-- summary c is right for table t: an entry for each switch, and each is the count
pub record Summarizes (s : Shape) (t c : List ℕ) : Type 0 where
  pub long : length c ≡ switch_total s
  pub each : (l w : ℕ) → l ≤ s.k → w < switches_at s l → entry_of s c l w ≡ count_at s t l w

-- a table has one right summary
abbrev pub SummarizesExactly : Type 0
SummarizesExactly = (s : Shape) (t c : List ℕ) → Summarizes s t c ↔ (c ≡ summary_of s t)

-- a driver begins with zeros: no link is failed, and each switch counts none
abbrev pub ZerosSummarize : Type 0
ZerosSummarize = (s : Shape) → TableOf s (replicate (servers_of s) 0) × Summarizes s (replicate (servers_of s) 0) (replicate (switch_total s) 0)

-- ---- which summaries are refused

-- a call is not refused exactly when the room's part is right, the summary has an entry for each switch, and the entries that the call
-- tests are right, whatever the others hold
pub record NotRefusedExactly : Type 0 where
  -- a link marked or cleared: the entry of its switch
  pub link : (s : Shape) (t c : List ℕ) (a l : ℕ) → ((link_answer s t c a l).number ≡ 0)
      ↔ (Link s a l × TableOf s t × (length c ≡ switch_total s) × EntryCounts s t c a l)
  -- a server: the entries of its switches at all levels
  pub server : (s : Shape) (t c : List ℕ) (a : ℕ) → ((server_answer s t c a).number ≡ 0)
      ↔ (Server s a × TableOf s t × (length c ≡ switch_total s) × ((l : ℕ) → l ≤ s.k → EntryCounts s t c a l))
  -- the question: all entries
  pub asked : (s : Shape) (t c : List ℕ) → ((dead_answer s t c).refusal.number ≡ 0) ↔ (Valid s × TableOf s t × Summarizes s t c)
  -- the summary counted afresh: none
  pub fresh : (s : Shape) (t c : List ℕ) → ((fresh_answer s t c).number ≡ 0) ↔ (Valid s × TableOf s t × (length c ≡ switch_total s))

-- a right summary is never refused: each call answers as for the table alone, and marking and clearing leave the table as they would
pub record RightAccepted : Type 0 where
  pub link : (s : Shape) (t c : List ℕ) (a l : ℕ) → Summarizes s t c → link_answer s t c a l ≡ plain (table_link_refusal s t a l)
  pub server : (s : Shape) (t c : List ℕ) (a : ℕ) → Summarizes s t c → server_answer s t c a ≡ plain (table_server_refusal s t a)
  pub asked : (s : Shape) (t c : List ℕ) → Summarizes s t c → (dead_answer s t c).refusal ≡ plain (room_table_refusal s t)
  pub fresh : (s : Shape) (t c : List ℕ) → Summarizes s t c → fresh_answer s t c ≡ plain (room_table_refusal s t)
  pub link-table : (b : Bool) (s : Shape) (t c : List ℕ) (a l : ℕ) → Summarizes s t c
      → link_table b s t c a l ≡ answer (table_link_refusal s t a l) (λ r. t) (changed b a l t)
  pub server-table : (b : Bool) (s : Shape) (t c : List ℕ) (a : ℕ) → Summarizes s t c
      → server_table b s t c a ≡ answer (table_server_refusal s t a) (λ r. t) (changed_server b s a t)

-- ---- a link, or all links of a server, marked and cleared

-- where a call is refused, table and summary stay as lent
pub record RefusedKept : Type 0 where
  pub link : (b : Bool) (s : Shape) (t c : List ℕ) (a l : ℕ) → (link_answer s t c a l).number ≢ 0
      → (link_table b s t c a l ≡ t) × (link_summary b s t c a l ≡ c)
  pub server : (b : Bool) (s : Shape) (t c : List ℕ) (a : ℕ) → (server_answer s t c a).number ≢ 0
      → (server_table b s t c a ≡ t) × (server_summary b s t c a ≡ c)
  pub fresh : (s : Shape) (t c : List ℕ) → (fresh_answer s t c).number ≢ 0 → fresh_summary s t c ≡ c

-- where a call is not refused, the table is changed as a table alone is
pub record TableChanged : Type 0 where
  pub link : (b : Bool) (s : Shape) (t c : List ℕ) (a l : ℕ) → (link_answer s t c a l).number ≡ 0 → link_table b s t c a l ≡ changed b a l t
  pub server : (b : Bool) (s : Shape) (t c : List ℕ) (a : ℕ) → (server_answer s t c a).number ≡ 0 → server_table b s t c a ≡ changed_server b s a t

-- whatever is lent, refused or not, a summary keeps its length, counted afresh too, and every entry that is not of a switch of the link, or of
-- the server, stays as lent
pub record OthersStay : Type 0 where
  pub link_long : (b : Bool) (s : Shape) (t c : List ℕ) (a l : ℕ) → length (link_summary b s t c a l) ≡ length c
  pub link : (b : Bool) (s : Shape) (t c : List ℕ) (a l i : ℕ) → i ≢ entry_place s l (switch_of s l a) → get_or (link_summary b s t c a l) i 0 ≡ get_or c i 0
  pub server_long : (b : Bool) (s : Shape) (t c : List ℕ) (a : ℕ) → length (server_summary b s t c a) ≡ length c
  pub server : (b : Bool) (s : Shape) (t c : List ℕ) (a i : ℕ) → ((l : ℕ) → l ≤ s.k → i ≢ entry_place s l (switch_of s l a))
      → get_or (server_summary b s t c a) i 0 ≡ get_or c i 0
  pub fresh_long : (s : Shape) (t c : List ℕ) → length (fresh_summary s t c) ≡ length c

-- the entry of the switch at level l of server a: table t and summary c are lent, u and d are left, the entry moves as the link there does from
-- t to u, and is what u counts
pub record Carries (s : Shape) (t c : List ℕ) (a l : ℕ) (u d : List ℕ) : Type 0 where
  pub moves : Moves (failed t a l) (failed u a l) (entry_of s c l (switch_of s l a)) (entry_of s d l (switch_of s l a))
  pub counted : EntryCounts s u d a l

-- where a call is not refused, it carries the entry of the link's switch, and of each of the server's
pub record EntriesCarried : Type 0 where
  pub link : (b : Bool) (s : Shape) (t c : List ℕ) (a l : ℕ) → (link_answer s t c a l).number ≡ 0
      → Carries s t c a l (link_table b s t c a l) (link_summary b s t c a l)
  pub server : (b : Bool) (s : Shape) (t c : List ℕ) (a l : ℕ) → (server_answer s t c a).number ≡ 0 → l ≤ s.k
      → Carries s t c a l (server_table b s t c a) (server_summary b s t c a)

-- marking what is marked, and clearing what is not, changes nothing
pub record NothingChanges : Type 0 where
  pub link : (b : Bool) (s : Shape) (t c : List ℕ) (a l : ℕ) → failed t a l ≡ b → (link_table b s t c a l ≡ t) × (link_summary b s t c a l ≡ c)
  pub server : (b : Bool) (s : Shape) (t c : List ℕ) (a : ℕ) → ((l : ℕ) → l ≤ s.k → failed t a l ≡ b)
      → (server_table b s t c a ≡ t) × (server_summary b s t c a ≡ c)

-- a call that is made again, refused or not, gives the same answer, and leaves table and summary as the first left them
pub record AgainNothing : Type 0 where
  pub link : (b : Bool) (s : Shape) (t c : List ℕ) (a l : ℕ)
      → (let u = link_table b s t c a l in let d = link_summary b s t c a l in (link_answer s u d a l ≡ link_answer s t c a l) × (link_table b s u d a l ≡ u) × (link_summary b s u d a l ≡ d))
  pub server : (b : Bool) (s : Shape) (t c : List ℕ) (a : ℕ)
      → (let u = server_table b s t c a in let d = server_summary b s t c a in (server_answer s u d a ≡ server_answer s t c a) × (server_table b s u d a ≡ u) × (server_summary b s u d a ≡ d))

-- summary d is summary c but for the entries of the switches of server a at the levels that are named, which are the counts of table u
pub record Recounts (s : Shape) (u : List ℕ) (a : ℕ) (named : ℕ → Type 0) (c d : List ℕ) : Type 0 where
  pub long : length d ≡ length c
  pub own : (l : ℕ) → named l → EntryCounts s u d a l
  pub others : (i : ℕ) → ((l : ℕ) → named l → i ≢ entry_place s l (switch_of s l a)) → get_or d i 0 ≡ get_or c i 0

-- such a summary, and no other, is left where a call is not refused
pub record LeftExactly : Type 0 where
  pub link : (b : Bool) (s : Shape) (t c : List ℕ) (a l : ℕ) (d : List ℕ) → (link_answer s t c a l).number ≡ 0
      → (d ≡ link_summary b s t c a l) ↔ Recounts s (link_table b s t c a l) a (λ j. j ≡ l) c d
  pub server : (b : Bool) (s : Shape) (t c : List ℕ) (a : ℕ) (d : List ℕ) → (server_answer s t c a).number ≡ 0
      → (d ≡ server_summary b s t c a) ↔ Recounts s (server_table b s t c a) a (λ j. j ≤ s.k) c d

-- ---- right summaries stay right

-- the summary counted afresh is right where it is not refused, whatever it held
abbrev pub FreshSummarizes : Type 0
FreshSummarizes = (s : Shape) (t c : List ℕ) → (fresh_answer s t c).number ≡ 0 → Summarizes s t (fresh_summary s t c)

-- a call that is lent a table and its summary: a link marked and cleared, by server and level; all links of a server; the question; the summary
-- counted afresh
pub data Call : Type 0 where
  mark_link : ℕ → ℕ → Call
  clear_link : ℕ → ℕ → Call
  mark_server : ℕ → Call
  clear_server : ℕ → Call
  dead_switch : Call
  summarize : Call

-- the table and the summary that a call leaves
abbrev pub left_by : Shape → Call → List ℕ × List ℕ → List ℕ × List ℕ
left_by s (mark_link a l) p = (link_table true s p.0 p.1 a l, link_summary true s p.0 p.1 a l)
left_by s (clear_link a l) p = (link_table false s p.0 p.1 a l, link_summary false s p.0 p.1 a l)
left_by s (mark_server a) p = (server_table true s p.0 p.1 a, server_summary true s p.0 p.1 a)
left_by s (clear_server a) p = (server_table false s p.0 p.1 a, server_summary false s p.0 p.1 a)
left_by s dead_switch p = p
left_by s summarize p = (p.0, fresh_summary s p.0 p.1)

-- what calls one after another leave
abbrev pub run : Shape → List Call → List ℕ × List ℕ → List ℕ × List ℕ
run s [] p = p
run s (x ∷ xs) p = run s xs (left_by s x p)

-- a right summary is right after every call, refused or not, and so after every sequence of calls; a table of the room stays one; and so the
-- question can be asked after every sequence
pub record KeptRight : Type 0 where
  pub call : (s : Shape) (x : Call) (t c : List ℕ) → Summarizes s t c → (let p = left_by s x (t, c) in Summarizes s p.0 p.1)
  pub calls : (s : Shape) (xs : List Call) (t c : List ℕ) → Summarizes s t c → (let p = run s xs (t, c) in Summarizes s p.0 p.1)
  pub table : (s : Shape) (xs : List Call) (t c : List ℕ) → TableOf s t → TableOf s (run s xs (t, c)).0
  pub asked : (s : Shape) (xs : List Call) (t c : List ℕ) → Valid s → TableOf s t → Summarizes s t c
      → (let p = run s xs (t, c) in (dead_answer s p.0 p.1).refusal ≡ none)

-- a call can move the entry at place i: it is that of the link's switch, or of one of the server's; the question moves none, and the count
-- afresh can move all
abbrev pub CanMove : Shape → Call → ℕ → Type 0
CanMove s (mark_link a l) i = i ≡ entry_place s l (switch_of s l a)
CanMove s (clear_link a l) i = i ≡ entry_place s l (switch_of s l a)
CanMove s (mark_server a) i = (l : ℕ) × (l ≤ s.k) × (i ≡ entry_place s l (switch_of s l a))
CanMove s (clear_server a) i = (l : ℕ) × (l ≤ s.k) × (i ≡ entry_place s l (switch_of s l a))
CanMove s dead_switch i = ⊥
CanMove s summarize i = Unit

-- none of some calls can
abbrev pub NoneMoves : Shape → List Call → ℕ → Type 0
NoneMoves s [] i = Unit
NoneMoves s (x ∷ xs) i = (CanMove s x i → ⊥) × NoneMoves s xs i

-- after a sequence of calls a summary is as long as it was lent, and an entry that none of them can move, right or wrong, is as it was lent
pub record StaysAsLent : Type 0 where
  pub long : (s : Shape) (xs : List Call) (t c : List ℕ) → length (run s xs (t, c)).1 ≡ length c
  pub entry : (s : Shape) (xs : List Call) (t c : List ℕ) (i : ℕ) → NoneMoves s xs i → get_or (run s xs (t, c)).1 i 0 ≡ get_or c i 0

-- ---- the first dead switch

-- an entry is at most the bound of its level, which is m at level k and n below it, and a switch is dead, the link there of every server at it
-- being failed, exactly when its entry is the bound
pub record FullExactly : Type 0 where
  pub most : (s : Shape) (t : List ℕ) (l w : ℕ) → IsSwitch s l w → count_at s t l w ≤ bound s l
  pub full : (s : Shape) (t c : List ℕ) (l w : ℕ) → Summarizes s t c → IsSwitch s l w → (entry_of s c l w ≡ bound s l) ↔ DeadOne s t l w

-- the question, where it is not refused, tells the first dead switch, or with zeros that there is none, and no other answer does; on a refusal
-- it says none, with zeros
pub record FirstDeadExactly : Type 0 where
  pub told : (s : Shape) (t c : List ℕ) (x : DeadSwitch) → (dead_answer s t c).refusal.number ≡ 0 → (x ≡ dead_answer s t c) ↔ TellsFirst s t x
  pub refused : (s : Shape) (t c : List ℕ) → (dead_answer s t c).refusal.number ≢ 0
      → dead_answer s t c ≡ record { refusal = plain (dead_answer s t c).refusal.number; found = false; level = 0; number = 0 }

-- where the question is not refused, `found` is false exactly when no switch is dead, and true exactly when some switch is
pub record NoneDeadExactly : Type 0 where
  pub nothing : (s : Shape) (t c : List ℕ) → (dead_answer s t c).refusal.number ≡ 0 → ((dead_answer s t c).found ≡ false) ↔ ((l w : ℕ) → DeadOne s t l w → ⊥)
  pub something : (s : Shape) (t c : List ℕ) → (dead_answer s t c).refusal.number ≡ 0 → ((dead_answer s t c).found ≡ true) ↔ ((l : ℕ) × (w : ℕ) × DeadOne s t l w)
