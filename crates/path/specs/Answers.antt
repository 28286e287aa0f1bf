-- What each call on path bytes answers. On a refusal all but the refusal is zero.
use Rattle.std.specs.Prelude.{ℕ, ◌-◌, List, [], ◌∷◌, ◌++◌, reverse, not, cond, ◌&&◌, leb, eqb, length, get_or, replicate}
use Rattle.lists.specs.Lists.{filled}
use Rattle.refusals.specs.Refusals.{Refusal}
use Rattle.refusals.specs.Refusals.{none, plain, refused_at, ◌or_else◌, ◌unless◌, answer}
use Rattle.room.specs.declared.Shape.{Shape}
use Rattle.room.specs.Addresses.{digit}
use Rattle.room.specs.Refusals.{shape_refusal, shape_numbers, server_refusal, ends_refusal, ends_numbers}
use Rattle.path.specs.declared.Hop.{Hop as Hopped}
use Rattle.path.specs.declared.Walked.{Walked as WalkedArray}
use Rattle.path.specs.declared.Reading.{Reading as ReadArray}
use Rattle.path.specs.Told.{Hop}
use Rattle.path.specs.Told.{Walked}
use Rattle.path.specs.Told.{Reading}
use Rattle.path.specs.Told.{Writing}
use Rattle.path.specs.Routes.{level_of, encode}
use Rattle.path.specs.Walks.{Walk, stopped, arrived, hop_to, hop_refusal, walk, write_from}

-- ---- one hop: where it leads, its level, and the old value, which is the digit of the server hopped from at that level

abbrev pub no_hop : Refusal → Hop
no_hop r = record { refusal = r; next = 0; level = 0; old = 0 }

abbrev pub a_hop : ℕ → ℕ → ℕ → Hop
a_hop a l v = record { refusal = none; next = a; level = l; old = v }

-- what is told of a hop
abbrev pub the_hop : Hopped → Hop
the_hop h = a_hop h.next h.level h.old

-- no hop, by a number that is refused at hop 1 of route 1
abbrev pub stops_hop : ℕ → Hop
stops_hop r = no_hop (refused_at r 1 1)

-- by byte b from server a, where nothing refuses it
abbrev pub hop_by : Shape → ℕ → ℕ → Hop
hop_by s a b = a_hop (hop_to s a b) (level_of b) (digit s (level_of b) a)

-- from a server of the room: 8, 9, 10, at hop 1 of route 1
unfoldable pub hop_from : Shape → ℕ → ℕ → Hop
hop_from s a b = answer (hop_refusal s a b) (λ r. no_hop (refused_at r 1 1)) (hop_by s a b)

-- before them 1, 2, 26, 3, 4
unfoldable pub hop_answer : Shape → ℕ → ℕ → Hop
hop_answer s a b = answer (server_refusal s a) (λ r. no_hop (plain r)) (hop_from s a b)

-- ---- walking an array: 1, 2, 26, 3, 4, 5, 7, then hop after hop

-- one array of eight bytes: 7
unfoldable pub array_refusal : Shape → ℕ → ℕ → List ℕ → ℕ
array_refusal s a d bs = ends_refusal s a d or_else 7 unless eqb (length bs) 8

abbrev pub array_numbers : List ℕ
array_numbers = ends_numbers ++ (7 ∷ [])

abbrev pub no_walk : Refusal → Walked
no_walk r = record { refusal = r; count = 0; servers = replicate 9 0; switches = replicate 8 0 }

-- what is told of an array that was walked
abbrev pub the_walk : WalkedArray → Walked
the_walk w = record { refusal = none; count = w.count; servers = w.servers; switches = w.switches }

abbrev pub walked : Walk → Walked
walked (stopped r) = no_walk r
walked (arrived vs ws) = record { refusal = none; count = length vs; servers = filled 9 vs; switches = filled 8 ws }

unfoldable pub walk_answer : Shape → List ℕ → ℕ → ℕ → List ℕ → Walked
walk_answer s t a d bs = answer (array_refusal s a d bs) (λ r. no_walk (plain r)) (walked (walk s t a d bs))

-- ---- plain reading and reversal: no link is failed

abbrev pub no_reading : Refusal → Reading
no_reading r = record { refusal = r; count = 0; servers = replicate 9 0 }

-- what is told of an array that was read
abbrev pub the_reading : ReadArray → Reading
the_reading w = record { refusal = none; count = w.count; servers = w.servers }

abbrev pub reading : Walked → Reading
reading w = record { refusal = w.refusal; count = w.count; servers = w.servers }

unfoldable pub read_answer : Shape → ℕ → ℕ → List ℕ → Reading
read_answer s a d bs = reading (walk_answer s [] a d bs)

abbrev pub no_writing : Refusal → Writing
no_writing r = record { refusal = r; bytes = replicate 8 0 }

abbrev pub a_writing : List ℕ → Writing
a_writing bs = record { refusal = none; bytes = bs }

abbrev pub reversed : Shape → Walk → Writing
reversed s (stopped r) = no_writing r
reversed s (arrived vs ws) = a_writing (encode s (reverse vs))

unfoldable pub reverse_answer : Shape → ℕ → ℕ → List ℕ → Writing
reverse_answer s a d bs = answer (array_refusal s a d bs) (λ r. no_writing (plain r)) (reversed s (walk s [] a d bs))

-- ---- writing: 1, 2, 26, 3, 22, 4, 5, then 23, 28, 29 at each hop

-- the first refusal of an address in a list: 4
unfoldable pub servers_refusal : Shape → List ℕ → ℕ
servers_refusal s [] = 0
servers_refusal s (a ∷ bs) = server_refusal s a or_else servers_refusal s bs

unfoldable pub write_refusal : Shape → List ℕ → ℕ
write_refusal s vs =
    shape_refusal s or_else 22 unless (leb 2 (length vs) && leb (length vs) 9) or_else servers_refusal s vs or_else 5 unless not (eqb (get_or vs 0 0) (get_or vs (length vs - 1) 0))

abbrev pub write_numbers : List ℕ
write_numbers = shape_numbers ++ (22 ∷ 4 ∷ 5 ∷ [])

-- what is written where no refusal arises on the way
abbrev pub written : Shape → List ℕ → Refusal → Writing
written s vs r = cond (eqb r.number 0) (a_writing (encode s vs)) (no_writing r)

unfoldable pub on_the_way : Shape → List ℕ → Refusal
on_the_way s [] = none
on_the_way s (a ∷ bs) = write_from s 0 (a ∷ []) [] a bs

unfoldable pub write_answer : Shape → List ℕ → Writing
write_answer s vs = answer (write_refusal s vs) (λ r. no_writing (plain r)) (written s vs (on_the_way s vs))
