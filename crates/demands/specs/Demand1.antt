-- Demand 1: every call takes every input: it answers, or refuses with the rules' number and place and nothing else, and every lent
-- buffer keeps its bytes. That a call may be made with every input is `EveryInput` in Uniqueness; here stands what it then answers, in
-- Refusals exactly when it refuses, and in Buffers what it leaves of what it was lent.
use Rattle.std.specs.Prelude.{ℕ, ◌/◌, ◌≤◌, ◌<◌, ◌≡◌, ◌≢◌, List, [], ◌∷◌, Bool, true, false, ◌&&◌, ◌||◌, leb, eqb, length, replicate}
use Rattle.refusals.specs.Refusals.{Refusal, plain, refused_at, with_earlier, OneOf}
use Rattle.room.specs.declared.Shape.{Shape}
use Rattle.room.specs.Told.{Number, Digits, Switch, Between}
use Rattle.room.specs.Refusals.{shape_refusal, server_refusal, pair_refusal, ends_refusal, link_refusal}
use Rattle.room.specs.Answers.{servers_answer, bound_answer, digits_answer, digit_answer, address_answer, switch_answer, neighbour_answer, between_answer}
use Rattle.room.specs.Wiring.{switches_answer, server_at_answer}
use Rattle.trees.specs.Answers.{parent_answer, tree_answer}
use Rattle.links.specs.Told.{Asked}
use Rattle.links.specs.Table.{room_table_refusal, room_refusal, table_link_refusal, table_server_refusal}
use Rattle.links.specs.Answers.{failed_answer}
use Rattle.summary.specs.Told.{DeadSwitch}
use Rattle.summary.specs.Answers.{link_answer, server_answer, dead_answer, fresh_answer}
use Rattle.path.specs.Told.{Hop, Parts, Walked, Reading, Writing}
use Rattle.path.specs.Bytes.{byte_answer, parts_answer}
use Rattle.path.specs.Answers.{hop_answer, walk_answer, read_answer, write_answer, reverse_answer}
use Rattle.verdict.specs.Checks.{check_answer}
use Rattle.build.specs.Told.{Building}
use Rattle.build.specs.Sets.{empty_set}
use Rattle.build.specs.Answers.{build_answer}
use Rattle.laying.specs.Answers.{Lays}
use Rattle.finder.specs.Told.{Found}
use Rattle.finder.specs.Answers.{Finding}
use Rattle.select.specs.Told.{Selection}
use Rattle.select.specs.Selection.{Selecting}
use Rattle.pick.specs.Told.{Place}
use Rattle.pick.specs.Picks.{pick_source, pick_answer, picked_bytes}
use Rattle.pick.specs.Places.{place_answer}
use Rattle.step.specs.Told.{Step}
use Rattle.step.specs.Steps.{step_answer}

-- ---- the place of a refusal

-- 0, which is no refusal, 1 to 7, 16 to 18, 20 to 22, 26 and 30 are refusals of a call as a whole
abbrev pub of_the_whole : ℕ → Bool
of_the_whole r = leb r 7 || ((leb 16 r && leb r 18) || ((leb 20 r && leb r 22) || (eqb r 26 || eqb r 30)))

-- 8 to 11, 14, 19 and 23 arise at a hop
abbrev pub of_a_hop : ℕ → Bool
of_a_hop r = (leb 8 r && leb r 11) || (eqb r 14 || (eqb r 19 || eqb r 23))

-- the form of a refusal of m routes, by rule 8.3: routes and hops count from 1; both are zero for a refusal of the whole; for 13 the
-- hop is 8; 28 names an earlier hop of the same route, from 0 on, 29 one from 1 on, 15 an earlier route and its hop, and no other number
-- names an earlier route or hop. Which number is given, and at which routes and hops, is said exactly in Refusals.
pub data RefusalForm (m : ℕ) : Refusal → Type 0 where
  whole : {r : ℕ} → of_the_whole r ≡ true → RefusalForm m (plain r)
  at-hop : {r i h : ℕ} → of_a_hop r ≡ true → 1 ≤ i → i ≤ m → 1 ≤ h → h ≤ 8 → RefusalForm m (refused_at r i h)
  no_arrival : {i : ℕ} → 1 ≤ i → i ≤ m → RefusalForm m (refused_at 13 i 8)
  server_again : {i g h : ℕ} → 1 ≤ i → i ≤ m → g < h → h ≤ 8 → RefusalForm m (with_earlier 0 g (refused_at 28 i h))
  switch_again : {i g h : ℕ} → 1 ≤ i → i ≤ m → 1 ≤ g → g < h → h ≤ 8 → RefusalForm m (with_earlier 0 g (refused_at 29 i h))
  meeting : {i g j h : ℕ} → 1 ≤ i → i < j → j ≤ m → 1 ≤ g → g ≤ 8 → 1 ≤ h → h ≤ 8 → RefusalForm m (with_earlier i g (refused_at 15 j h))

-- ---- an answer, or a refusal and nothing else

-- an answer over m routes, which holds a refusal: its number is one of these, its place has the rules' form, and where it is not 0
-- all the rest of the answer is zero; `bare` is the answer that holds a refusal and zeros
pub record Refuses {X : Type 0} (refusal : X → Refusal) (bare : Refusal → X) (m : ℕ) (numbers : List ℕ) (x : X) : Type 0 where
  pub number : OneOf numbers (refusal x).number
  pub form : RefusalForm m (refusal x)
  pub nothing_else : (refusal x).number ≢ 0 → x ≡ bare (refusal x)

abbrev pub RefusalOf : ℕ → List ℕ → Refusal → Type 0
RefusalOf = Refuses (λ x. x) (λ r. r)

abbrev pub NumberOf : List ℕ → Number → Type 0
NumberOf = Refuses (λ x. x.refusal) (λ r. record { refusal = r; value = 0 }) 0

abbrev pub DigitsOf : List ℕ → Digits → Type 0
DigitsOf = Refuses (λ x. x.refusal) (λ r. record { refusal = r; places = replicate 4 0 }) 0

abbrev pub SwitchOf : List ℕ → Switch → Type 0
SwitchOf = Refuses (λ x. x.refusal) (λ r. record { refusal = r; level = 0; number = 0 }) 0

abbrev pub BetweenOf : List ℕ → Between → Type 0
BetweenOf = Refuses (λ x. x.refusal) (λ r. record { refusal = r; adjacent = false; level = 0 }) 0

abbrev pub AskedOf : List ℕ → Asked → Type 0
AskedOf = Refuses (λ x. x.refusal) (λ r. record { refusal = r; failed = false }) 0

abbrev pub DeadOf : List ℕ → DeadSwitch → Type 0
DeadOf = Refuses (λ x. x.refusal) (λ r. record { refusal = r; found = false; level = 0; number = 0 }) 0

-- a single byte, a single hop and a single array are route 1
abbrev pub PartsOf : List ℕ → Parts → Type 0
PartsOf = Refuses (λ x. x.refusal) (λ r. record { refusal = r; level = 0; value = 0 }) 1

abbrev pub HopOf : List ℕ → Hop → Type 0
HopOf = Refuses (λ x. x.refusal) (λ r. record { refusal = r; next = 0; level = 0; old = 0 }) 1

abbrev pub WalkedOf : List ℕ → Walked → Type 0
WalkedOf = Refuses (λ x. x.refusal) (λ r. record { refusal = r; count = 0; servers = replicate 9 0; switches = replicate 8 0 }) 1

abbrev pub ReadingOf : List ℕ → Reading → Type 0
ReadingOf = Refuses (λ x. x.refusal) (λ r. record { refusal = r; count = 0; servers = replicate 9 0 }) 1

abbrev pub WritingOf : List ℕ → Writing → Type 0
WritingOf = Refuses (λ x. x.refusal) (λ r. record { refusal = r; bytes = replicate 8 0 }) 1

abbrev pub BuildingOf : List ℕ → Building → Type 0
BuildingOf = Refuses (λ x. x.refusal) (λ r. record { refusal = r; routes = empty_set }) 0

abbrev pub FoundOf : List ℕ → Found → Type 0
FoundOf = Refuses (λ x. x.refusal) (λ r. record { refusal = r; hops = 0; bytes = replicate 8 0 }) 0

abbrev pub SelectionOf : List ℕ → Selection → Type 0
SelectionOf = Refuses (λ x. x.refusal) (λ r. record { refusal = r; routes = empty_set }) 0

abbrev pub PlaceOf : List ℕ → Place → Type 0
PlaceOf = Refuses (λ x. x.refusal) (λ r. record { refusal = r; list = 0; route = 0 }) 0

abbrev pub StepOf : List ℕ → Step → Type 0
StepOf = Refuses (λ x. x.refusal) (λ r. record { refusal = r; delivered = false; next = 0; index = 0; mac = replicate 6 0; port = 0; level = 0; old = 0 }) 1

-- ---- every call, for every input

-- a line for each call: the numbers that it can refuse with. When it gives each of them is `RefusedExactly` in Refusals.
pub record EveryCall : Type 0 where
  -- room
  pub shape-refusal : (s : Shape) → OneOf (1 ∷ 2 ∷ 26 ∷ 3 ∷ []) (shape_refusal s)
  pub server-refusal : (s : Shape) (a : ℕ) → OneOf (1 ∷ 2 ∷ 26 ∷ 3 ∷ 4 ∷ []) (server_refusal s a)
  pub pair-refusal : (s : Shape) (a b : ℕ) → OneOf (1 ∷ 2 ∷ 26 ∷ 3 ∷ 4 ∷ []) (pair_refusal s a b)
  pub ends-refusal : (s : Shape) (a d : ℕ) → OneOf (1 ∷ 2 ∷ 26 ∷ 3 ∷ 4 ∷ 5 ∷ []) (ends_refusal s a d)
  pub link-refusal : (s : Shape) (a l : ℕ) → OneOf (1 ∷ 2 ∷ 26 ∷ 3 ∷ 4 ∷ 20 ∷ []) (link_refusal s a l)
  pub servers-of : (s : Shape) → NumberOf (1 ∷ 2 ∷ 26 ∷ 3 ∷ []) (servers_answer s)
  pub bound_of : (s : Shape) (l : ℕ) → NumberOf (1 ∷ 2 ∷ 26 ∷ 3 ∷ 20 ∷ []) (bound_answer s l)
  pub digits_of : (s : Shape) (a : ℕ) → DigitsOf (1 ∷ 2 ∷ 26 ∷ 3 ∷ 4 ∷ []) (digits_answer s a)
  pub digit_of : (s : Shape) (a l : ℕ) → NumberOf (1 ∷ 2 ∷ 26 ∷ 3 ∷ 4 ∷ 20 ∷ []) (digit_answer s a l)
  pub address-of : (s : Shape) (ds : List ℕ) → NumberOf (1 ∷ 2 ∷ 26 ∷ 3 ∷ 21 ∷ []) (address_answer s ds)
  pub switch-of : (s : Shape) (a l : ℕ) → SwitchOf (1 ∷ 2 ∷ 26 ∷ 3 ∷ 4 ∷ 20 ∷ []) (switch_answer s a l)
  pub neighbour_of : (s : Shape) (a l v : ℕ) → NumberOf (1 ∷ 2 ∷ 26 ∷ 3 ∷ 4 ∷ 20 ∷ 21 ∷ []) (neighbour_answer s a l v)
  pub level_between : (s : Shape) (a b : ℕ) → BetweenOf (1 ∷ 2 ∷ 26 ∷ 3 ∷ 4 ∷ []) (between_answer s a b)
  pub switches-of : (s : Shape) (l : ℕ) → NumberOf (1 ∷ 2 ∷ 26 ∷ 3 ∷ 20 ∷ []) (switches_answer s l)
  pub server-at : (s : Shape) (l w v : ℕ) → NumberOf (1 ∷ 2 ∷ 26 ∷ 3 ∷ 20 ∷ 21 ∷ []) (server_at_answer s l w v)
  -- trees
  pub parent-of : (s : Shape) (a l x : ℕ) → NumberOf (1 ∷ 2 ∷ 26 ∷ 3 ∷ 4 ∷ 20 ∷ 5 ∷ []) (parent_answer s a l x)
  pub write_tree : (s : Shape) (a l : ℕ) → NumberOf (1 ∷ 2 ∷ 26 ∷ 3 ∷ 4 ∷ 20 ∷ []) (tree_answer s a l)
  -- links
  pub table-refusal : (s : Shape) (t : List ℕ) → OneOf (1 ∷ 2 ∷ 26 ∷ 3 ∷ 6 ∷ []) (room_table_refusal s t)
  pub room-refusal : (s : Shape) (t : List ℕ) (a d : ℕ) → OneOf (1 ∷ 2 ∷ 26 ∷ 3 ∷ 4 ∷ 5 ∷ 6 ∷ []) (room_refusal s t a d)
  pub failed_link : (s : Shape) (t : List ℕ) (a l : ℕ) → AskedOf (1 ∷ 2 ∷ 26 ∷ 3 ∷ 4 ∷ 20 ∷ 6 ∷ []) (failed_answer s t a l)
  pub table-link-refusal : (s : Shape) (t : List ℕ) (a l : ℕ) → OneOf (1 ∷ 2 ∷ 26 ∷ 3 ∷ 4 ∷ 20 ∷ 6 ∷ []) (table_link_refusal s t a l)
  pub table-server-refusal : (s : Shape) (t : List ℕ) (a : ℕ) → OneOf (1 ∷ 2 ∷ 26 ∷ 3 ∷ 4 ∷ 6 ∷ []) (table_server_refusal s t a)
  -- summary
  pub mark_or_clear : (s : Shape) (t c : List ℕ) (a l : ℕ) → RefusalOf 0 (1 ∷ 2 ∷ 26 ∷ 3 ∷ 4 ∷ 20 ∷ 6 ∷ 30 ∷ []) (link_answer s t c a l)
  pub mark_or_clear_server : (s : Shape) (t c : List ℕ) (a : ℕ) → RefusalOf 0 (1 ∷ 2 ∷ 26 ∷ 3 ∷ 4 ∷ 6 ∷ 30 ∷ []) (server_answer s t c a)
  pub dead-switch : (s : Shape) (t c : List ℕ) → DeadOf (1 ∷ 2 ∷ 26 ∷ 3 ∷ 6 ∷ 30 ∷ []) (dead_answer s t c)
  pub summarize : (s : Shape) (t c : List ℕ) → RefusalOf 0 (1 ∷ 2 ∷ 26 ∷ 3 ∷ 6 ∷ 30 ∷ []) (fresh_answer s t c)
  -- path
  pub byte-of : (s : Shape) (l v : ℕ) → NumberOf (1 ∷ 2 ∷ 26 ∷ 3 ∷ 20 ∷ 21 ∷ []) (byte_answer s l v)
  pub parts_of : (s : Shape) (b : ℕ) → PartsOf (1 ∷ 2 ∷ 26 ∷ 3 ∷ 8 ∷ 9 ∷ []) (parts_answer s b)
  pub hop_of : (s : Shape) (a b : ℕ) → HopOf (1 ∷ 2 ∷ 26 ∷ 3 ∷ 4 ∷ 8 ∷ 9 ∷ 10 ∷ []) (hop_answer s a b)
  pub walk : (s : Shape) (t : List ℕ) (a d : ℕ) (bs : List ℕ) → WalkedOf (1 ∷ 2 ∷ 26 ∷ 3 ∷ 4 ∷ 5 ∷ 7 ∷ 8 ∷ 9 ∷ 10 ∷ 11 ∷ 28 ∷ 29 ∷ 13 ∷ 14 ∷ []) (walk_answer s t a d bs)
  pub read_path : (s : Shape) (a d : ℕ) (bs : List ℕ) → ReadingOf (1 ∷ 2 ∷ 26 ∷ 3 ∷ 4 ∷ 5 ∷ 7 ∷ 8 ∷ 9 ∷ 10 ∷ 28 ∷ 29 ∷ 13 ∷ 14 ∷ []) (read_answer s a d bs)
  pub reverse_path : (s : Shape) (a d : ℕ) (bs : List ℕ) → WritingOf (1 ∷ 2 ∷ 26 ∷ 3 ∷ 4 ∷ 5 ∷ 7 ∷ 8 ∷ 9 ∷ 10 ∷ 28 ∷ 29 ∷ 13 ∷ 14 ∷ []) (reverse_answer s a d bs)
  pub write_path : (s : Shape) (vs : List ℕ) → WritingOf (1 ∷ 2 ∷ 26 ∷ 3 ∷ 22 ∷ 4 ∷ 5 ∷ 23 ∷ 28 ∷ 29 ∷ []) (write_answer s vs)
  -- verdict: the routes are the arrays of the list
  pub check_list : (s : Shape) (t : List ℕ) (a d : ℕ) (bs : List ℕ)
      → RefusalOf (length bs / 8) (1 ∷ 2 ∷ 26 ∷ 3 ∷ 4 ∷ 5 ∷ 6 ∷ 7 ∷ 8 ∷ 9 ∷ 10 ∷ 11 ∷ 28 ∷ 29 ∷ 13 ∷ 14 ∷ 15 ∷ []) (check_answer s t a d bs)
  -- build, laying, finder, select
  pub build_routes : (s : Shape) (a d : ℕ) → BuildingOf (1 ∷ 2 ∷ 26 ∷ 3 ∷ 4 ∷ 5 ∷ []) (build_answer s a d)
  pub lay_route : (s : Shape) (t : List ℕ) (a d : ℕ) (bs : List ℕ) (r : Refusal) (u : List ℕ)
      → Lays s t a d bs r u → RefusalOf 1 (1 ∷ 2 ∷ 26 ∷ 3 ∷ 4 ∷ 5 ∷ 6 ∷ 7 ∷ 8 ∷ 9 ∷ 10 ∷ 28 ∷ 29 ∷ 13 ∷ 14 ∷ []) r
  pub find_route : (s : Shape) (t : List ℕ) (a d : ℕ) (x : Found) → Finding s t a d x → FoundOf (1 ∷ 2 ∷ 26 ∷ 3 ∷ 4 ∷ 5 ∷ 6 ∷ []) x
  pub select_routes : (s : Shape) (t : List ℕ) (a d : ℕ) (x : Selection) → Selecting s t a d x → SelectionOf (1 ∷ 2 ∷ 26 ∷ 3 ∷ 4 ∷ 5 ∷ 6 ∷ 16 ∷ []) x
  -- pick: the number through the companion, and on a refusal the part is empty
  pub pick-refusal : (s : Shape) (t : List ℕ) (a d : ℕ) (fs ks : List ℕ) → RefusalOf 0 (1 ∷ 2 ∷ 26 ∷ 3 ∷ 4 ∷ 5 ∷ 6 ∷ 7 ∷ 16 ∷ []) (pick_answer s t a d fs ks)
  pub pick_place : (s : Shape) (t : List ℕ) (a d : ℕ) (fs ks : List ℕ) → PlaceOf (1 ∷ 2 ∷ 26 ∷ 3 ∷ 4 ∷ 5 ∷ 6 ∷ 7 ∷ 16 ∷ []) (place_answer s t a d fs ks)
  pub pick_route : (s : Shape) (t : List ℕ) (a d : ℕ) (fs ks : List ℕ) → (pick_answer s t a d fs ks).number ≢ 0 → picked_bytes (pick_source s t a d fs ks) fs ks ≡ []
  pub step_once : (s : Shape) (a d i : ℕ) (bs e : List ℕ) → StepOf (1 ∷ 2 ∷ 26 ∷ 3 ∷ 4 ∷ 17 ∷ 7 ∷ 18 ∷ 8 ∷ 9 ∷ 10 ∷ 19 ∷ []) (step_answer s a d i bs e)
