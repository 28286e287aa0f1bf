-- Demand 2: addresses, switches, built routes and path bytes are the paper's; servers to bytes and bytes to servers undo each other; a
-- broken route gives way to the alternate where one exists; "no route" is said exactly when there is none; marking, clearing and one
-- step change what the rules say.
use Rattle.std.specs.Prelude.{ℕ, suc, ◌+◌, ◌-◌, ◌*◌, ◌/◌, ◌%◌, ◌^◌, ◌≤◌, ◌<◌, ◌≡◌, ◌↔◌, ◌≢◌, ◌⊎◌, Bool, true, false, cond, List, [], ◌∷◌, ◌++◌, map, reverse, eqb, length, get_or, take, drop, replicate}
use Rattle.lists.specs.Lists.{is_in, filled, down_from}
use Rattle.refusals.specs.Refusals.{none}
use Rattle.room.specs.declared.Shape.{Shape}
use Rattle.room.specs.Told.{Between}
use Rattle.room.specs.Shapes.{servers_of, bound, Valid, Server, Link, Ends}
use Rattle.room.specs.Digits.{strike}
use Rattle.room.specs.Addresses.{digits, digit, switch_of, switches_at, differing, Written, Beside, Neighbours}
use Rattle.room.specs.Answers.{servers_answer, bound_answer, digits_answer, digit_answer, address_answer, switch_answer, neighbour_answer, between_answer}
use Rattle.links.specs.Table.{failed, live, TableOf}
use Rattle.links.specs.Answers.{failed_answer}
use Rattle.summary.specs.Answers.{link_answer, link_table, link_summary}
use Rattle.path.specs.Told.{Hop}
use Rattle.path.specs.Routes.{switch_to, byte_to, switches_of, encode, Route, RouteTo, Encodes, level_of, value_of}
use Rattle.path.specs.Answers.{hop_answer, walk_answer, read_answer, write_answer, reverse_answer}
use Rattle.verdict.specs.Checks.{check_answer}
use Rattle.build.specs.declared.RouteSet.{RouteSet}
use Rattle.build.specs.Built.{built_route}
use Rattle.build.specs.Sets.{added, array_in, set_of}
use Rattle.build.specs.Answers.{build_answer}
use Rattle.laying.specs.Avoids.{Avoids}
use Rattle.finder.specs.Told.{Found}
use Rattle.finder.specs.Alternates.{Before}
use Rattle.finder.specs.Answers.{Finding}
use Rattle.select.specs.Told.{Selection}
use Rattle.select.specs.Avoided.{avoided}
use Rattle.select.specs.Selection.{Unbroken, Replaces, Selecting}
use Rattle.pick.specs.Picks.{pick_source, pick_answer, picked_bytes, picked_at}
use Rattle.pick.specs.Places.{place_answer}
use Rattle.step.specs.Told.{Step}
use Rattle.step.specs.Steps.{step_answer}
use Rattle.demands.specs.Refusals.{Arrays}

-- ---- addresses, digits, switches and neighbours

-- the sum of digit i times n^i over a list of digits, the first of which is digit i
abbrev pub weighed : ℕ → ℕ → List ℕ → ℕ
weighed n i [] = 0
weighed n i (d ∷ ds) = d * n ^ i + weighed n (suc i) ds

-- a server has a digit for each level, each below its bound, and is the sum of digit i times n^i
abbrev pub AddressesExactly : Type 0
AddressesExactly = (s : Shape) (a : ℕ) → Server s a → Written s (digits s a) × (weighed s.n 0 (digits s a) ≡ a)

-- and each such list of digits is a server's
abbrev pub DigitsExactly : Type 0
DigitsExactly =
    (s : Shape) (ds : List ℕ) → Valid s → Written s ds → Server s (weighed s.n 0 ds) × (digits s (weighed s.n 0 ds) ≡ ds)

-- digit l of a server counts its n^l
abbrev pub DigitExactly : Type 0
DigitExactly = (s : Shape) (a l : ℕ) → Link s a l → digit s l a ≡ a / s.n ^ l % s.n

-- two servers have the same switch at a level exactly when they agree in every other digit
abbrev pub SwitchesExactly : Type 0
SwitchesExactly = (s : Shape) (l a b : ℕ) → Link s a l → Server s b → (switch_of s l a ≡ switch_of s l b) ↔ Beside s l a b

-- the switches of a level are numbered from 0 without a gap
pub record SwitchNumbers (s : Shape) (l : ℕ) : Type 0 where
  pub below : (a : ℕ) → Server s a → switch_of s l a < switches_at s l
  pub all : (w : ℕ) → w < switches_at s l → (a : ℕ) × Server s a × (switch_of s l a ≡ w)

abbrev pub SwitchesNumbered : Type 0
SwitchesNumbered = (s : Shape) (l : ℕ) → Valid s → l ≤ s.k → SwitchNumbers s l

-- two servers are neighbours at a level exactly when that is the one level in which they differ
abbrev pub NeighboursExactly : Type 0
NeighboursExactly = (s : Shape) (a b l : ℕ) → Server s a → Server s b → (differing s a b ≡ l ∷ []) ↔ Neighbours s l a b

-- four places that write server a: for each level a digit below its bound, zeros above k, and the sum of digit i times n^i is a
pub record FourPlaces (s : Shape) (a : ℕ) (ds : List ℕ) : Type 0 where
  pub long : length ds ≡ 4
  pub small : (l : ℕ) → l ≤ s.k → get_or ds l 0 < bound s l
  pub above : (l : ℕ) → s.k < l → get_or ds l 0 ≡ 0
  pub sum : weighed s.n 0 ds ≡ a

-- server b is server a with digit l set to v
pub record Sets (s : Shape) (a l v b : ℕ) : Type 0 where
  pub server : Server s b
  pub own : digit s l b ≡ v
  pub others : Beside s l a b

-- x tells whether servers a and b are neighbours, and at which level; level 0 where they are not
pub record TellsLevel (s : Shape) (a b : ℕ) (x : Between) : Type 0 where
  pub level : (l : ℕ) → ((x.adjacent ≡ true) × (x.level ≡ l)) ↔ Neighbours s l a b
  pub zero : x.adjacent ≡ false → x.level ≡ 0

-- what each call of the room answers where it refuses nothing
pub record RoomAnswers : Type 0 where
  pub servers-of : (s : Shape) → (servers_answer s).refusal.number ≡ 0 → (servers_answer s).value ≡ s.m * s.n ^ s.k
  -- n below level k, and m at k
  pub bound_of : (s : Shape) (l : ℕ) → (bound_answer s l).refusal.number ≡ 0
      → (l < s.k → (bound_answer s l).value ≡ s.n) × (l ≡ s.k → (bound_answer s l).value ≡ s.m)
  pub digits_of : (s : Shape) (a : ℕ) → (digits_answer s a).refusal.number ≡ 0 → FourPlaces s a (digits_answer s a).places
  pub digit_of : (s : Shape) (a l : ℕ) → (digit_answer s a l).refusal.number ≡ 0 → (digit_answer s a l).value ≡ get_or (digits_answer s a).places l 0
  pub address-of : (s : Shape) (ds : List ℕ) → (address_answer s ds).refusal.number ≡ 0 → (address_answer s ds).value ≡ weighed s.n 0 ds
  -- the digits with digit l struck out and the rest closed up
  pub switch-of : (s : Shape) (a l : ℕ) → (switch_answer s a l).refusal.number ≡ 0
      → ((switch_answer s a l).level ≡ l) × ((switch_answer s a l).number ≡ weighed s.n 0 (strike l (digits s a)))
  pub neighbour_of : (s : Shape) (a l v : ℕ) → (neighbour_answer s a l v).refusal.number ≡ 0 → Sets s a l v (neighbour_answer s a l v).value
  pub level_between : (s : Shape) (a b : ℕ) → (between_answer s a b).refusal.number ≡ 0 → TellsLevel s a b (between_answer s a b)

-- ---- the route set and built routes

-- the set r with array x added: it stands after the last, no other array changes
pub record Adds (r : RouteSet) (x : List ℕ) (q : RouteSet) : Type 0 where
  pub count : q.count ≡ r.count + 1
  pub long : length q.bytes ≡ 32
  pub own : array_in r.count q ≡ x
  pub others : (j : ℕ) → j < 4 → j ≢ r.count → array_in j q ≡ array_in j r

-- adding an array to a set that is not full; a set whose count is 4 or more comes back unchanged
abbrev pub AddingExactly : Type 0
AddingExactly =
    (r : RouteSet) (x : List ℕ) → length r.bytes ≡ 32 → length x ≡ 8 → (r.count < 4 → Adds r x (added r x)) × (4 ≤ r.count → added r x ≡ r)

-- the levels above level i, from k down: k, .. , i+1
abbrev pub above : ℕ → ℕ → List ℕ
above k i = take (k - i) (down_from (suc k))

-- the levels of a list in which servers a and d differ, in the list's order
abbrev pub wrong : Shape → ℕ → ℕ → List ℕ → List ℕ
wrong s a d [] = []
wrong s a d (l ∷ ls) = cond (eqb (digit s l a) (digit s l d)) (wrong s a d ls) (l ∷ wrong s a d ls)

-- the path bytes that set the digits of these levels to those of server d
abbrev pub corrections : Shape → ℕ → List ℕ → List ℕ
corrections s d ls = map (λ l. 64 * l + digit s l d) ls

-- the array of slot i from server a to server d: the eight path bytes of the slot's route
pub record BuiltArray (s : Shape) (a d i : ℕ) (bs : List ℕ) : Type 0 where
  pub route : Encodes s [] a d bs (built_route s i a d)
  -- where the ends differ in digit i, the digits are corrected in the order i, i-1, .. , 0, k, .. , i+1, skipping those already right
  pub direct : digit s i a ≢ digit s i d → bs ≡ filled 8 (corrections s d (wrong s a d (i ∷ (down_from i ++ above s.k i))))
  -- otherwise digit i is first set to its own value + 1 modulo its bound, then in the order i-1, .. , 0, k, .. , i, so that it comes last
  pub detour : digit s i a ≡ digit s i d
      → bs ≡ filled 8 ((64 * i + (digit s i a + 1) % bound s i) ∷ (corrections s d (wrong s a d (down_from i ++ above s.k i)) ++ ((64 * i + digit s i d) ∷ [])))
  -- with h differing digits, h or h + 2 hops, never above k + 2
  pub direct_hops : digit s i a ≢ digit s i d → length (built_route s i a d) - 1 ≡ length (differing s a d)
  pub detour_hops : digit s i a ≡ digit s i d → length (built_route s i a d) - 1 ≡ length (differing s a d) + 2
  pub short : length (built_route s i a d) - 1 ≤ s.k + 2

-- a set that holds the arrays of slots k down to 0, and zeros past them
pub record BuiltSet (s : Shape) (a d : ℕ) (r : RouteSet) : Type 0 where
  pub count : r.count ≡ s.k + 1
  pub slot : (i : ℕ) → i ≤ s.k → BuiltArray s a d i (array_in (s.k - i) r)
  pub past : drop (8 * r.count) r.bytes ≡ replicate (32 - 8 * r.count) 0

-- what building answers where it refuses nothing
abbrev pub BuiltExactly : Type 0
BuiltExactly = (s : Shape) (a d : ℕ) → (build_answer s a d).refusal.number ≡ 0 → BuiltSet s a d (build_answer s a d).routes

-- ---- servers to bytes and bytes to servers

-- the path byte of a hop to a neighbour: 64 times the level, and the new value
abbrev pub BytesExactly : Type 0
BytesExactly = (s : Shape) (a b l : ℕ) → Server s a → Server s b → Neighbours s l a b → byte_to s a b ≡ 64 * l + digit s l b

-- two hops, from a to b at level l and from c to e at level m, use one switch exactly when they are at one level and a and c agree in every
-- other digit
abbrev pub HopSwitches : Type 0
HopSwitches =
    (s : Shape) (a b l c e m : ℕ) →
    Server s a × Server s b × Neighbours s l a b →
    Server s c × Server s e × Neighbours s m c e →
    (switch_to s a b ≡ switch_to s c e) ↔ ((l ≡ m) × Beside s l a c)

-- byte b leads from server a to the neighbour at the byte's level whose digit there is the byte's value
pub record LeadsTo (s : Shape) (a b next : ℕ) : Type 0 where
  pub server : Server s next
  pub neighbour : Neighbours s (level_of b) a next
  pub value : digit s (level_of b) next ≡ value_of b

-- and so does a hop that is not refused
abbrev pub HopExactly : Type 0
HopExactly = (s : Shape) (a b : ℕ) → (hop_answer s a b).refusal.number ≡ 0 → LeadsTo s a b (hop_answer s a b).next

-- what the hop by byte b from server a leaves behind: it leads where the byte leads, its level is the byte's, and its old value, which it
-- replaces, is the digit of the server hopped from at that level
pub record HopIs (s : Shape) (a b : ℕ) (x : Hop) : Type 0 where
  pub refusal : x.refusal ≡ none
  pub leads : LeadsTo s a b x.next
  pub level : x.level ≡ level_of b
  pub old : x.old ≡ digit s (level_of b) a

-- a hop that is not refused is so, and no other answer is
abbrev pub HopLeaves : Type 0
HopLeaves = (s : Shape) (a b : ℕ) (x : Hop) → (hop_answer s a b).refusal.number ≡ 0 → (x ≡ hop_answer s a b) ↔ HopIs s a b x

-- a number is among others exactly when it stands at one of their places
abbrev pub AmongExactly : Type 0
AmongExactly = (x : ℕ) (xs : List ℕ) → (is_in x xs ≡ true) ↔ ((i : ℕ) × (i < length xs) × (get_or xs i 0 ≡ x))

-- what is answered for the path bytes bs of a route from a to d that meets the servers vs: walking over the live links of a table, the
-- servers and the switches, with zeros past them; reading, the servers; reversal, the path bytes of the servers backwards; writing the servers,
-- the bytes
pub record Answered (s : Shape) (a d : ℕ) (bs vs : List ℕ) : Type 0 where
  pub walked : (t : List ℕ) → RouteTo s t a d vs → walk_answer s t a d bs ≡ record { refusal = none; count = length vs; servers = filled 9 vs; switches = filled 8 (switches_of s vs) }
  pub read : read_answer s a d bs ≡ record { refusal = none; count = length vs; servers = filled 9 vs }
  pub reversed : reverse_answer s a d bs ≡ record { refusal = none; bytes = encode s (reverse vs) }
  pub written : write_answer s vs ≡ record { refusal = none; bytes = bs }

abbrev pub RoutesAnswered : Type 0
RoutesAnswered = (s : Shape) (a d : ℕ) (bs vs : List ℕ) → Encodes s [] a d bs vs → Answered s a d bs vs

-- an array is read without refusal exactly when it is the encoding of a route
abbrev pub ReadExactly : Type 0
ReadExactly =
    (s : Shape) (a d : ℕ) (bs : List ℕ) →
    ((read_answer s a d bs).refusal.number ≡ 0) ↔ ((vs : List ℕ) × Encodes s [] a d bs vs)

-- servers are written without refusal exactly when they are a route
abbrev pub WriteExactly : Type 0
WriteExactly = (s : Shape) (vs : List ℕ) → ((write_answer s vs).refusal.number ≡ 0) ↔ Route s [] vs

-- what reading answers, writing turns back into the same eight bytes
abbrev pub ReadThenWrite : Type 0
ReadThenWrite =
    (s : Shape) (a d : ℕ) (bs : List ℕ) →
    (read_answer s a d bs).refusal.number ≡ 0 →
    write_answer s (take (read_answer s a d bs).count (read_answer s a d bs).servers) ≡ record { refusal = none; bytes = bs }

-- what writing answers, reading turns back into the same servers
abbrev pub WriteThenRead : Type 0
WriteThenRead =
    (s : Shape) (vs : List ℕ) →
    (write_answer s vs).refusal.number ≡ 0 →
    read_answer s (get_or vs 0 0) (get_or vs (length vs - 1) 0) (write_answer s vs).bytes
    ≡ record { refusal = none; count = length vs; servers = filled 9 vs }

-- what reversing answers, reading turns into the same servers backwards
abbrev pub ReverseThenRead : Type 0
ReverseThenRead =
    (s : Shape) (a d : ℕ) (bs : List ℕ) →
    (reverse_answer s a d bs).refusal.number ≡ 0 →
    read_answer s d a (reverse_answer s a d bs).bytes
    ≡ record { refusal = none; count = (read_answer s a d bs).count; servers = filled 9 (reverse (take (read_answer s a d bs).count (read_answer s a d bs).servers)) }

-- reversing twice gives the first bytes again
abbrev pub ReverseTwice : Type 0
ReverseTwice =
    (s : Shape) (a d : ℕ) (bs : List ℕ) →
    (reverse_answer s a d bs).refusal.number ≡ 0 →
    reverse_answer s d a (reverse_answer s a d bs).bytes ≡ record { refusal = none; bytes = bs }

-- ---- the search for the alternate

-- the search answers a route over live links that no route comes before: how many hops it has, and its path bytes
pub record FindsFirst (s : Shape) (t : List ℕ) (a d : ℕ) (r : Found) : Type 0 where
  pub servers : List ℕ
  pub route : RouteTo s t a d servers
  pub first : (us : List ℕ) → RouteTo s t a d us → Before s us servers → ⊥
  pub answer : r ≡ record { refusal = none; hops = length servers - 1; bytes = encode s servers }

-- there is no route over live links, and the search answers no hops and zeros
pub record FindsNone (s : Shape) (t : List ℕ) (a d : ℕ) (r : Found) : Type 0 where
  pub missing : (vs : List ℕ) → RouteTo s t a d vs → ⊥
  pub answer : r ≡ record { refusal = none; hops = 0; bytes = replicate 8 0 }

-- a search that is not refused answers the one or the other
abbrev pub FindsExactly : Type 0
FindsExactly =
    (s : Shape) (t : List ℕ) (a d : ℕ) (r : Found) →
    Finding s t a d r →
    r.refusal.number ≡ 0 →
    FindsFirst s t a d r ⊎ FindsNone s t a d r

-- ---- selection

-- what slot i gives after what the higher slots have given
pub record SlotGives (s : Shape) (t : List ℕ) (a d i : ℕ) (higher given : List (List ℕ)) : Type 0 where
  -- a built route without a failed link is kept
  pub kept : Unbroken s t (built_route s i a d) → given ≡ built_route s i a d ∷ []
  -- a broken one gives way to the alternate where a route exists that avoids what the slot has to avoid
  pub replaced : (Unbroken s t (built_route s i a d) → ⊥)
      → (vs : List ℕ) → RouteTo s t a d vs → Avoids s (avoided s t a d i higher) vs → (us : List ℕ) × (given ≡ us ∷ []) × Replaces s t a d (avoided s t a d i higher) us
  -- and to nothing where none exists
  pub nothing : (Unbroken s t (built_route s i a d) → ⊥) → ((vs : List ℕ) → RouteTo s t a d vs → Avoids s (avoided s t a d i higher) vs → ⊥) → given ≡ []

-- what these slots give, in this order
abbrev pub together : (ℕ → List (List ℕ)) → List ℕ → List (List ℕ)
together gives [] = []
together gives (i ∷ is) = gives i ++ together gives is

-- one family of what each slot gives: each after what the slots k down to i+1 give, and the routes are those of slots k down to 0
pub record Slots (s : Shape) (t : List ℕ) (a d : ℕ) (routes : List (List ℕ)) : Type 0 where
  pub gives : ℕ → List (List ℕ)
  pub slot : (i : ℕ) → i ≤ s.k → SlotGives s t a d i (together gives (above s.k i)) (gives i)
  pub whole : routes ≡ together gives (down_from (suc s.k))

-- selection answers the routes of the slots, by their path bytes, with their count and zeros past them
pub record Selected (s : Shape) (t : List ℕ) (a d : ℕ) (r : Selection) : Type 0 where
  pub routes : List (List ℕ)
  pub slots : Slots s t a d routes
  pub written : r.routes ≡ set_of (map (encode s) routes)

-- a built route that is broken gives way to the alternate of rule 5.1 where one exists
abbrev pub BrokenGivesWay : Type 0
BrokenGivesWay = (s : Shape) (t : List ℕ) (a d : ℕ) (r : Selection) → Selecting s t a d r → r.refusal.number ≡ 0 → Selected s t a d r

-- and no other answer is so
abbrev pub OneSelection : Type 0
OneSelection = (s : Shape) (t : List ℕ) (a d : ℕ) (q r : Selection) → Selected s t a d q → Selected s t a d r → q.routes ≡ r.routes

-- selection says 16 exactly when refusals 1, 2, 26 and 3 to 6 do not apply, the ends and the table being the room's, and no route of eight
-- hops or fewer crosses only live links
abbrev pub NoRouteExactly : Type 0
NoRouteExactly =
    (s : Shape) (t : List ℕ) (a d : ℕ) (r : Selection) →
    Selecting s t a d r →
    (r.refusal.number ≡ 16) ↔ (Ends s a d × TableOf s t × ((vs : List ℕ) → RouteTo s t a d vs → ⊥))

-- array i of a list is the first that checking takes as a list of one
pub record FirstTaken (s : Shape) (t : List ℕ) (a d : ℕ) (bs : List ℕ) (i : ℕ) : Type 0 where
  pub within : i < length bs / 8
  pub here : check_answer s t a d (take 8 (drop (8 * i) bs)) ≡ none
  pub before : (j : ℕ) → j < i → check_answer s t a d (take 8 (drop (8 * j) bs)) ≢ none

-- checking takes none of a list's arrays as a list of one
abbrev pub NoneTaken : Shape → List ℕ → ℕ → ℕ → List ℕ → Type 0
NoneTaken s t a d bs = (j : ℕ) → j < length bs / 8 → check_answer s t a d (take 8 (drop (8 * j) bs)) ≢ none

-- picking from a fresh list fs and a kept list ks gives array i of the list bs, which is list m of the two: its eight bytes; its list and
-- its place, both counted from 1; and where it lies, within the buffer that held it, if the two lists lie at p and q, each a block and an
-- offset, of which `held` takes that of bs
pub record PicksAt (s : Shape) (t : List ℕ) (a d : ℕ) (fs ks : List ℕ) (m : ℕ) (bs : List ℕ) (held : ℕ × ℕ → ℕ × ℕ → ℕ × ℕ) (i : ℕ) : Type 0 where
  pub first : FirstTaken s t a d bs i
  pub bytes : picked_bytes (pick_source s t a d fs ks) fs ks ≡ take 8 (drop (8 * i) bs)
  pub told : place_answer s t a d fs ks ≡ record { refusal = none; list = m; route = i + 1 }
  pub lies : (p q : ℕ × ℕ) → picked_at (pick_source s t a d fs ks) p q ≡ ((held p q).0, 8 * i + (held p q).1)

-- picking gives the first usable route of the fresh list, else of the kept list
abbrev pub PicksFirst : Type 0
PicksFirst =
    (s : Shape) (t : List ℕ) (a d : ℕ) (fs ks : List ℕ) →
    (pick_answer s t a d fs ks).number ≡ 0 →
    ((i : ℕ) × PicksAt s t a d fs ks 1 fs (λ p q. p) i) ⊎ (NoneTaken s t a d fs × ((i : ℕ) × PicksAt s t a d fs ks 2 ks (λ p q. q) i))

-- picking says 16 exactly when refusals 1, 2, 26 and 3 to 7 do not apply, the ends and the table being the room's and both lists whole
-- arrays, at most k + 1, and no array of either list is usable
abbrev pub NonePickedExactly : Type 0
NonePickedExactly =
    (s : Shape) (t : List ℕ) (a d : ℕ) (fs ks : List ℕ) →
    ((pick_answer s t a d fs ks).number ≡ 16)
    ↔ (Ends s a d × TableOf s t × (Arrays s fs × Arrays s ks) × (NoneTaken s t a d fs × NoneTaken s t a d ks))

-- ---- the failed-link table

-- a link is failed exactly when its level's bit is set in its server's byte
abbrev pub FailedExactly : Type 0
FailedExactly = (t : List ℕ) (a l : ℕ) → (failed t a l ≡ true) ↔ (get_or t a 0 / 2 ^ l % 2 ≡ 1)

-- a table is one of the room exactly when it has a byte for each server and no byte has a bit above k, of whatever weight
abbrev pub TableExactly : Type 0
TableExactly =
    (s : Shape) (t : List ℕ) →
    TableOf s t ↔ ((length t ≡ servers_of s) × ((a l : ℕ) → a < servers_of s → s.k < l → failed t a l ≡ false))

-- and so the call answers
abbrev pub AskedExactly : Type 0
AskedExactly =
    (s : Shape) (t : List ℕ) (a l : ℕ) → (failed_answer s t a l).refusal.number ≡ 0 → (failed_answer s t a l).failed ≡ failed t a l

-- a hop from a to b at a level is live exactly when neither the sender's nor the receiver's link there is failed
abbrev pub LiveExactly : Type 0
LiveExactly = (t : List ℕ) (l a b : ℕ) → (live t l a b ≡ true) ↔ ((failed t a l ≡ false) × (failed t b l ≡ false))

-- table u is table t but for the link of server a at level l, which is failed in u if `now`; it is a table of the room
pub record Changes (s : Shape) (t : List ℕ) (a l : ℕ) (now : Bool) (u : List ℕ) : Type 0 where
  pub own : failed u a l ≡ now
  pub other : (b m : ℕ) → (b ≡ a → m ≡ l → ⊥) → failed u b m ≡ failed t b m
  pub bytes : (b : ℕ) → b ≢ a → get_or u b 0 ≡ get_or t b 0
  pub long : length u ≡ length t
  pub table : TableOf s u

-- a call that marks a link, b being true, or clears it, changes its own bit and no other, and again it changes nothing. What becomes of the
-- summary is in Summaries.
abbrev pub ChangesOwn : Bool → Type 0
ChangesOwn b =
    (s : Shape) (t c : List ℕ) (a l : ℕ) →
    (link_answer s t c a l).number ≡ 0 →
    (let u = link_table b s t c a l in Changes s t a l b u × (link_table b s u (link_summary b s t c a l) a l ≡ u))

abbrev pub Marking : Type 0
Marking = ChangesOwn true

abbrev pub Clearing : Type 0
Clearing = ChangesOwn false

-- ---- one forwarding step

-- the step by byte b at server a goes where the byte leads, with the next index
-- and the six bytes MAC and the OutPort of the byte's entry, eight bytes of the table, whose last is 1: the neighbour is available;
-- its level is the byte's, and its old value the digit of the server hopped from at that level
pub record Goes (s : Shape) (a i : ℕ) (e : List ℕ) (b : ℕ) (x : Step) : Type 0 where
  pub refusal : x.refusal ≡ none
  pub delivered : x.delivered ≡ false
  pub leads : LeadsTo s a b x.next
  pub index : x.index ≡ i + 1
  pub mac : x.mac ≡ take 6 (drop (8 * b) e)
  pub port : x.port ≡ get_or e (8 * b + 6) 0
  pub available : get_or e (8 * b + 7) 0 ≡ 1
  pub level : x.level ≡ level_of b
  pub old : x.old ≡ digit s (level_of b) a

-- away from the destination a step that is not refused goes by the byte that its index names
abbrev pub StepGoes : Type 0
StepGoes =
    (s : Shape) (a d i : ℕ) (bs e : List ℕ) →
    a ≢ d →
    (step_answer s a d i bs e).refusal.number ≡ 0 →
    (i < 8) × Goes s a i e (get_or bs i 0) (step_answer s a d i bs e)

-- at the destination a step that is not refused is a delivery, whatever its index
abbrev pub StepDelivers : Type 0
StepDelivers =
    (s : Shape) (a d i : ℕ) (bs e : List ℕ) →
    a ≡ d →
    (step_answer s a d i bs e).refusal.number ≡ 0 →
    step_answer s a d i bs e ≡ record { refusal = none; delivered = true; next = 0; index = 0; mac = replicate 6 0; port = 0; level = 0; old = 0 }
