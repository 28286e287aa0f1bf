-- The result word of a call, and what a call leaves in a lent buffer.
use Rattle.std.specs.Prelude.{ℕ, zero, suc, ◌+◌, ◌*◌, ◌/◌, ◌%◌, ◌<◌, List, cond}
use Rattle.refusals.specs.Refusals.{Refusal}
use Rattle.refusals.specs.Refusals.{refusal, earlier_route, earlier_hop}
use Rattle.room.specs.Told.{Number}
use Rattle.room.specs.Told.{Digits}
use Rattle.room.specs.Told.{Switch}
use Rattle.room.specs.Told.{Between}
use Rattle.links.specs.Told.{Asked}
use Rattle.summary.specs.Told.{DeadSwitch}
use Rattle.path.specs.Told.{Parts}
use Rattle.path.specs.Told.{Hop}
use Rattle.path.specs.Told.{Reading}
use Rattle.path.specs.Told.{Writing}
use Rattle.path.specs.Routes.{byte_of}
use Rattle.build.specs.Told.{Building}
use Rattle.pick.specs.Told.{Place}
use Rattle.driver.specs.declared.Answer.{Answer}

-- from the lowest byte: the refusal's number, its route, its hop, 16 times the earlier route plus the earlier hop, and a number of four bytes
unfoldable pub word : Refusal → ℕ → Answer
word r v =
    record { word = 4294967296 * v + (16777216 * (16 * earlier_route r + earlier_hop r) + (65536 * r.hop + (256 * r.route + r.number))) }

-- what a driver reads back of a word
unfoldable pub refusal_in : Answer → Refusal
refusal_in a = refusal (a.word % 256) (a.word / 256 % 256) (a.word / 65536 % 256) (a.word / 268435456 % 16) (a.word / 16777216 % 16)

unfoldable pub value_in : Answer → ℕ
value_in a = a.word / 4294967296

-- each part fits its place in a word
pub record Small (r : Refusal) (v : ℕ) : Type 0 where
  pub number : r.number < 256
  pub route : r.route < 256
  pub hop : r.hop < 256
  pub earlier-route : earlier_route r < 16
  pub earlier-hop : earlier_hop r < 16
  pub value : v < 4294967296

-- what a call leaves in a buffer: what it writes where it refuses nothing, its number being 0, else what was lent
abbrev pub left : ℕ → List ℕ → List ℕ → List ℕ
left zero lent written = written
left (suc r) lent written = lent

-- ---- the words of the answers, and the buffers left

abbrev pub number_word : Number → Answer
number_word x = word x.refusal x.value

-- the digits in the buffer
abbrev pub digits_word : Digits → Answer
digits_word x = word x.refusal 0

abbrev pub digits_left : List ℕ → Digits → List ℕ
digits_left lent x = left x.refusal.number lent x.places

-- the switch's number
abbrev pub switch_word : Switch → Answer
switch_word x = word x.refusal x.number

-- the level counted from 1 where two servers are neighbours, else 0
unfoldable pub between_word : Between → Answer
between_word x = word x.refusal (cond x.adjacent (suc x.level) 0)

-- 1 where the link is failed, else 0
unfoldable pub asked_word : Asked → Answer
asked_word x = word x.refusal (cond x.failed 1 0)

-- a dead switch that is found: 1 in the highest of four bytes, its level in the next, and its number in the other two; else 0
unfoldable pub dead_word : DeadSwitch → Answer
dead_word x = word x.refusal (cond x.found (16777216 + 65536 * x.level + x.number) 0)

-- the level of a path byte and its value
abbrev pub parts_word : Parts → Answer
parts_word x = word x.refusal (256 * x.level + x.value)

-- the next server of a hop in two bytes, and the path byte of its way back in the byte above
abbrev pub hop_word : Hop → Answer
hop_word x = word x.refusal (x.next + 65536 * byte_of x.level x.old)

-- the count of the servers in the word, the servers in the buffer
abbrev pub reading_word : Reading → Answer
reading_word x = word x.refusal x.count

abbrev pub reading_left : List ℕ → Reading → List ℕ
reading_left lent x = left x.refusal.number lent x.servers

-- the path bytes in the buffer
abbrev pub writing_word : Writing → Answer
writing_word x = word x.refusal 0

abbrev pub writing_left : List ℕ → Writing → List ℕ
writing_left lent x = left x.refusal.number lent x.bytes

-- the count of the routes in the word, the routes in the buffer
abbrev pub building_word : Building → Answer
building_word x = word x.refusal x.routes.count

abbrev pub building_left : List ℕ → Building → List ℕ
building_left lent x = left x.refusal.number lent x.routes.bytes

-- the list that holds a picked route, and its place there
abbrev pub place_word : Place → Answer
place_word x = word x.refusal (256 * x.list + x.route)
