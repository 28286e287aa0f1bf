-- Demand 1, of reasons: their numbers are those of the rules, and a call tells by them all that it answers.
-- Demand 2, of the functions that serve the layers above them: a refusal moved to a route and with an earlier hop, the numbers of a shape, the
-- servers at a switch, one link changed with no test, what a path byte names, and the place of a number in a list.
use Rattle.std.specs.Prelude.{ℕ, ◌+◌, ◌*◌, ◌/◌, ◌%◌, ◌^◌, ◌≤◌, ◌<◌, ◌≡◌, ◌≢◌, ◌⊎◌, ◌↔◌, Bool, true, false, List, [], ◌∷◌, map, length, get_or, Result}
use Rattle.lists.specs.Lists.{is_in, place_in}
use Rattle.refusals.specs.declared.Reason.{Reason}
use Rattle.refusals.specs.declared.Reason.TheVariants.{Ports, Levels, Servers, Address, SameEnds, Table, List as Listed, Position, Value, NoChange, FailedLink, NotArrived, AfterArrival, NotParallel, NoRoute, NeighbourTable, HopIndex, Unavailable, Level, Digit, ServerCount, NotNeighbours, Fill, ServerAgain, SwitchAgain, Summary}
use Rattle.refusals.specs.declared.Refused.{Refused}
use Rattle.refusals.specs.Refusals.{Refusal, none, earlier_route, earlier_hop, of_route, with_earlier}
use Rattle.refusals.specs.Reasons.{number_of, refusal_of, told, tells, tells_where, told_where}
use Rattle.room.specs.declared.Shape.{Shape}
use Rattle.room.specs.declared.Side.{Side}
use Rattle.room.specs.Shapes.{shape_of, full_room, servers_of, bound, power_of, server_count, Link}
use Rattle.room.specs.Sides.{side_of, side_at}
use Rattle.room.specs.Wiring.{Port}
use Rattle.links.specs.Table.{failed, changed_in}
use Rattle.path.specs.Routes.{level_of, value_of}
use Rattle.demands.specs.Demand2.{Sets}
use Rattle.demands.specs.Calls.{AtPort}

-- ---- reasons

-- the numbers that the rules have taken (rule 8.2); 12 is retired
abbrev pub taken : List ℕ
taken = 1 ∷ 2 ∷ 3 ∷ 4 ∷ 5 ∷ 6 ∷ 7 ∷ 8 ∷ 9 ∷ 10 ∷ 11 ∷ 13 ∷ 14 ∷ 15 ∷ 16 ∷ 17 ∷ 18 ∷ 19 ∷ 20 ∷ 21 ∷ 22 ∷ 23 ∷ 26 ∷ 28 ∷ 29 ∷ 30 ∷ []

-- the reasons by name, in the order of their numbers
abbrev pub reasons : List Reason
reasons = Ports ∷ Levels ∷ Servers ∷ Address ∷ SameEnds ∷ Table ∷ Listed ∷ Position ∷ Value ∷ NoChange ∷ FailedLink ∷ NotArrived ∷ AfterArrival ∷ NotParallel ∷ NoRoute ∷ NeighbourTable ∷ HopIndex ∷ Unavailable ∷ Level ∷ Digit ∷ ServerCount ∷ NotNeighbours ∷ Fill ∷ ServerAgain ∷ SwitchAgain ∷ Summary ∷ []

-- a refusal and an answer are read back from what is told of them, and in what is told of an answer there is no refusal
pub record ReadBack {A R X : Type 0} (refused : R → X) (given : A → X) (nothing : R) : Type 0 where
  pub refusal : X → R
  pub value : X → A
  pub refused_back : (r : R) → refusal (refused r) ≡ r
  pub not_refused : (x : A) → refusal (given x) ≡ nothing
  pub value_back : (x : A) → value (given x) ≡ x

-- the reasons are those of the rules by their numbers, and a call tells by them all that it answers
pub record EveryReason : Type 1 where
  -- each by its name has its number
  pub each : map number_of reasons ≡ taken
  -- each number that is taken is that of a reason, and no other number is
  pub numbers : (n : ℕ) → (is_in n taken ≡ true) ↔ ((r : Reason) × (number_of r ≡ n))
  -- no two reasons have one number, and none has 0, which is no refusal
  pub one_reason : (r q : Reason) → number_of r ≡ number_of q → r ≡ q
  pub not_zero : (r : Reason) → number_of r ≢ 0
  -- so two results that tell the same are one: of a test, which tells a number
  pub one_test : (x y : Result (Unit {0}) Reason) → told x ≡ told y → x ≡ y
  -- of a call, where both are read back
  pub one_answer : {A X : Type 0} (refused : ℕ → X) (given : A → X) → ReadBack refused given 0 → (x y : Result A Reason) → tells refused given x ≡ tells refused given y → x ≡ y
  -- and where refusals have a place, of which none is lost
  pub one_refusal : (x y : Refused) → refusal_of x ≡ refusal_of y → x ≡ y
  pub one_check : (x y : Result (Unit {0}) Refused) → told_where x ≡ told_where y → x ≡ y
  pub one_placed : {A X : Type 0} (refused : Refusal → X) (given : A → X) → ReadBack refused given none → (x y : Result A Refused) → tells_where refused given x ≡ tells_where refused given y → x ≡ y

-- ---- the functions that serve the layers above them

-- n ports and level l have no power: n is not among 1 to 64, or l is above 3
abbrev pub NoPower : ℕ → ℕ → Type 0
NoPower n l = (n < 1) ⊎ (64 < n) ⊎ (3 < l)

-- the refusal q is r at route i
pub record OfRoute (r : Refusal) (i : ℕ) (q : Refusal) : Type 0 where
  pub number : q.number ≡ r.number
  pub route : q.route ≡ i
  pub hop : q.hop ≡ r.hop
  pub earlier : (earlier_route q ≡ earlier_route r) × (earlier_hop q ≡ earlier_hop r)

-- the refusal q is r, with hop h of route i as the earlier one
pub record WithEarlier (r : Refusal) (i h : ℕ) (q : Refusal) : Type 0 where
  pub number : q.number ≡ r.number
  pub place : (q.route ≡ r.route) × (q.hop ≡ r.hop)
  pub earlier : (earlier_route q ≡ i) × (earlier_hop q ≡ h)

-- p is the first place of x in a list, counted from 0, or its length where x is not in it
pub record FirstPlace (x : ℕ) (xs : List ℕ) (p : ℕ) : Type 0 where
  pub most : p ≤ length xs
  pub there : p < length xs → get_or xs p 0 ≡ x
  pub before : (i : ℕ) → i < p → get_or xs i 0 ≢ x

-- the servers at the switch of server a at level l, as many as digit l has values, by the value that they have there
pub record ServersAt (s : Shape) (a l : ℕ) (x : Side) : Type 0 where
  pub count : x.count ≡ bound s l
  pub each : (v : ℕ) → v < bound s l → Sets s a l v (x.first + v * x.stride)

-- the servers at switch w of level l, as many as digit l has values, by their ports
pub record ServersOf (s : Shape) (l w : ℕ) (x : Side) : Type 0 where
  pub count : x.count ≡ bound s l
  pub each : (v : ℕ) → v < bound s l → AtPort s l w v (x.first + v * x.stride)

-- table u is table t with the link of server a at level l failed, or not, and no other link changed
pub record OneLink (b : Bool) (a l : ℕ) (t u : List ℕ) : Type 0 where
  pub long : length u ≡ length t
  pub own : failed u a l ≡ b
  pub others : (c m : ℕ) → (c ≡ a → m ≡ l → ⊥) → failed u c m ≡ failed t c m

pub record EveryHelper : Type 0 where
  pub of-route : (r : Refusal) (i : ℕ) → OfRoute r i (of_route i r)
  pub with-earlier : (r : Refusal) (i h : ℕ) → WithEarlier r i h (with_earlier i h r)
  pub place-in : (x : ℕ) (xs : List ℕ) → FirstPlace x xs (place_in x xs)
  pub shape_new : (n k m : ℕ) → shape_of n k m ≡ record { n = n; k = k; m = m }
  pub shape_full : (n k : ℕ) → full_room n k ≡ record { n = n; k = k; m = n }
  pub power : (n l : ℕ) → 1 ≤ n → n ≤ 64 → l ≤ 3 → power_of n l ≡ n ^ l
  pub no_power : (n l : ℕ) → NoPower n l → power_of n l ≡ 0
  pub server-count : (s : Shape) → 1 ≤ s.n → s.n ≤ 64 → s.k ≤ 3 → s.m ≤ s.n → server_count s ≡ s.m * s.n ^ s.k
  pub no_server_count : (s : Shape) → NoPower s.n s.k ⊎ (s.n < s.m) → server_count s ≡ 0
  pub servers : (s : Shape) → servers_of s ≡ s.m * s.n ^ s.k
  pub digit_bound : (s : Shape) (l : ℕ) → (l ≢ s.k → bound s l ≡ s.n) × (l ≡ s.k → bound s l ≡ s.m)
  pub side-of : (s : Shape) (a l : ℕ) → Link s a l → ServersAt s a l (side_of s a l)
  pub no-side : (s : Shape) (a l : ℕ) → NoPower s.n l → side_of s a l ≡ record { first = 0; stride = 0; count = 0 }
  pub side-at : (s : Shape) (l w : ℕ) → Port s l w 0 → ServersOf s l w (side_at s l w)
  pub no_side_at : (s : Shape) (l w : ℕ) → NoPower s.n l ⊎ (4096 ≤ w) → side_at s l w ≡ record { first = 0; stride = 0; count = 0 }
  -- past the table's end no link is failed; which are before it is `FailedExactly`
  pub none-failed : (t : List ℕ) (a l : ℕ) → length t ≤ a → failed t a l ≡ false
  -- a link put to failed or not, so marking and clearing too; past the table's end and above level 7 nothing changes
  pub one_link : (b : Bool) (a l : ℕ) (t : List ℕ) → a < length t → l < 8 → OneLink b a l t (changed_in b a l t)
  pub no_link : (b : Bool) (a l : ℕ) (t : List ℕ) → (length t ≤ a) ⊎ (8 ≤ l) → changed_in b a l t ≡ t
  pub level-of : (b : ℕ) → level_of b ≡ b / 64
  pub value-of : (b : ℕ) → value_of b ≡ b % 64
