-- What the wrong answers are given to: tables, path bytes, texts.
use Rattle.std.specs.Prelude.{ℕ, ◌*◌, ◌-◌, ◌^◌, List, [], ◌∷◌, ◌++◌, replicate, set}
use Prim.Native.Char.{code}
use Prim.Native.String.{String, [] as empty, ◌∷◌ as ◌then◌}
use Rattle.lists.specs.Lists.{filled}
use Rattle.room.specs.declared.Shape.{Shape}

-- an array: path bytes, with zeros past them
abbrev pub array : List ℕ → List ℕ
array bs = filled 8 bs

-- the failed-link table of the (4,1) room, its 16 servers all live
abbrev pub healthy : List ℕ
healthy = replicate 16 0

-- the same with the byte b for server a: 1 where its level-0 link is failed, 2 where its level-1 link is, 3 where it is dead
abbrev pub failing : ℕ → ℕ → List ℕ
failing a b = set healthy a b

-- the failed-link table of a room, its servers all live
abbrev pub none_failed : Shape → List ℕ
none_failed s = replicate (s.m * s.n ^ s.k) 0

-- the summary of `healthy`, an entry for each of its 8 switches, and the same with the entry c at place i: places 0 to 3 are those of
-- level 0, and 4 to 7 those of level 1
abbrev pub unmarked : List ℕ
unmarked = replicate 8 0

abbrev pub counting : ℕ → ℕ → List ℕ
counting i c = set unmarked i c

-- the same of the (4,1,2) room: its table with the byte b for server a, and its summary with the entry c at place i, of which 0 and 1
-- are those of level 0, and 2 to 5 those of level 1
abbrev pub half_healthy : List ℕ
half_healthy = replicate 8 0

abbrev pub half_failing : ℕ → ℕ → List ℕ
half_failing a b = set half_healthy a b

abbrev pub half_unmarked : List ℕ
half_unmarked = replicate 6 0

abbrev pub half_counting : ℕ → ℕ → List ℕ
half_counting i c = set half_unmarked i c

-- eight hops of the (4,1) room from 00, by 01, 11, 12, 22, 23, 33 and 30 to 20, over all its eight switches
abbrev pub eight_hops : List ℕ
eight_hops = 0x01 ∷ 0x41 ∷ 0x02 ∷ 0x42 ∷ 0x03 ∷ 0x43 ∷ 0x00 ∷ 0x42 ∷ []

-- path bytes from 00 whose last hop comes again on the route, in the (4,1) and the (4,1,2) room:
-- by 01 to 03, over the switch of hop 1; by 01 back to 00 at once, over that switch too
abbrev pub switch_twice : List ℕ
switch_twice = array (0x01 ∷ 0x03 ∷ [])

abbrev pub straight_back : List ℕ
straight_back = array (0x01 ∷ 0x00 ∷ [])

-- by 01, 11 and 10 to 00, over a new switch
abbrev pub round_to_source : List ℕ
round_to_source = array (0x01 ∷ 0x41 ∷ 0x00 ∷ 0x40 ∷ [])

-- by 01, 11, 12 and 02 to 01, which hop 1 reached, or to 03, over the switch of hop 1
abbrev pub round_to_server : List ℕ
round_to_server = array (0x01 ∷ 0x41 ∷ 0x02 ∷ 0x40 ∷ 0x01 ∷ [])

abbrev pub switch_later : List ℕ
switch_later = array (0x01 ∷ 0x41 ∷ 0x02 ∷ 0x40 ∷ 0x03 ∷ [])

-- seven of the eight hops above, and the eighth from 30 to 00, over a new switch
abbrev pub eight_round : List ℕ
eight_round = 0x01 ∷ 0x41 ∷ 0x02 ∷ 0x42 ∷ 0x03 ∷ 0x43 ∷ 0x00 ∷ 0x40 ∷ []

-- the built routes from 00 to 13 in the (4,1) room: of slot 1, by server 10, and of slot 0, by server 03
abbrev pub direct : List ℕ
direct = array (0x41 ∷ 0x03 ∷ [])

abbrev pub other : List ℕ
other = array (0x03 ∷ 0x41 ∷ [])

-- a MAC, and the neighbour table whose one entry, of path byte b, has it, OutPort 7 and this StatusFlag
abbrev pub mac : List ℕ
mac = 0x02 ∷ 0x00 ∷ 0x5e ∷ 0x10 ∷ 0x00 ∷ 0x04 ∷ []

abbrev pub neighbour : ℕ → ℕ → List ℕ
neighbour b flag = replicate (8 * b) 0 ++ mac ++ (7 ∷ flag ∷ []) ++ replicate (8 * (255 - b)) 0

-- a text by its characters' numbers, which are its bytes in ASCII
abbrev pub ascii : String → List ℕ
ascii empty = []
ascii (c then cs) = code c ∷ ascii cs

-- the table of the (2,2) room in which the level-1 link of server 001 is failed: of the routes of three hops from 000 to 111, first is
-- 81 41 01 by the rule, 01 81 41 with the lower level first, and 41 01 81 by the last hop first
abbrev pub tied : List ℕ
tied = 0 ∷ 2 ∷ 0 ∷ 0 ∷ 0 ∷ 0 ∷ 0 ∷ 0 ∷ []

-- what m places of a lent buffer hold before the call
abbrev pub stale : ℕ → List ℕ
stale m = replicate m 0xee

-- a table of the (4,1) room in which both built routes from 00 to 13 are broken, and each slot has an alternate: 42 01 41 03, then
-- 02 43 03 41
abbrev pub both_broken : List ℕ
both_broken = 0 ∷ 2 ∷ 0 ∷ 2 ∷ 1 ∷ 0 ∷ 1 ∷ 0 ∷ 0 ∷ 0 ∷ 0 ∷ 1 ∷ 1 ∷ 0 ∷ 0 ∷ 0 ∷ []

-- the (4,1) room's table into which the route `direct` is laid: all links of server 10, the level-1 links of 00, 10, 20 and 30, and the
-- level-0 links of 10, 11, 12 and 13
abbrev pub laid : List ℕ
laid = 2 ∷ 0 ∷ 0 ∷ 0 ∷ 3 ∷ 1 ∷ 1 ∷ 1 ∷ 2 ∷ 0 ∷ 0 ∷ 0 ∷ 2 ∷ 0 ∷ 0 ∷ 0 ∷ []

-- a table of the (4,1,2) room in which no route leads from 00 to 01: the level-0 link of 00 is failed, and 10 is dead
abbrev pub cut_off : List ℕ
cut_off = 1 ∷ 0 ∷ 0 ∷ 0 ∷ 3 ∷ 0 ∷ 0 ∷ 0 ∷ []
