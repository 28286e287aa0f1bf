-- What the private functions of this crate answer and ask. No public contract cites this file.
use Rattle.std.specs.Prelude.{ℕ, ◌+◌, ◌-◌, ◌*◌, ◌≡◌, Result, Ok, Err, List, [], ◌∷◌, ◌++◌, reverse, cond, ltb, leb, eqb, length, replicate}
use Rattle.lists.specs.Lists.{in_turn}
use Rattle.refusals.specs.Refusals.{Refusal, none, plain, refused_at, ◌or_else◌, ◌unless◌, answer}
use Rattle.room.specs.declared.Shape.{Shape}
use Rattle.room.specs.Shapes.{Server}
use Rattle.room.specs.Addresses.{Neighbours}
use Rattle.refusals.specs.Reasons.{number_of}
use Rattle.path.specs.declared.faults.Fault.{Fault}
use Rattle.path.specs.declared.walks.Taken.{Taken}
use Rattle.path.specs.declared.Way.{Way as Gone}
use Rattle.path.specs.Told.{Tried, Way}
use Rattle.path.specs.Routes.{level_of, level_to, switch_at, switch_to, byte_to}
use Rattle.path.specs.Walks.{Walk, stopped, arrived, hop_to, again, earlier_of, fault, walk, write_fault}
use Rattle.path.specs.Answers.{the_hop, hop_by, array_refusal, walk_answer}

-- ---- one hop

-- why level l and value v are no hop in a room with highest level k and bound m there: 8, 9, and 10 where it is neither
unfoldable pub hop_fault : ℕ → ℕ → ℕ → ℕ → ℕ
hop_fault k l v m = 8 unless leb l k or_else 9 unless ltb v m or_else 10

-- ---- what a hop adds to a route that has met these servers and used these switches

-- refused, with the earlier hop that the refusal names
abbrev pub no_try : ℕ → ℕ → Tried
no_try e r = record { number = r; earlier = e; switch = 0 }

abbrev pub adds : ℕ → Tried
adds w = record { number = 0; earlier = 0; switch = w }

-- what a try tells: the switch that the hop adds, or why it adds none
abbrev pub tried_as : Result ℕ Fault → Tried
tried_as (Ok w) = adds w
tried_as (Err f) = no_try f.earlier (number_of f.reason)

-- server b and switch w, where r is what refuses the hop
abbrev pub added : ℕ → List ℕ → List ℕ → ℕ → ℕ → Tried
added r met used b w = answer r (λ x. no_try (earlier_of x met used b w) x) (adds w)

-- 28, 29
unfoldable pub newly : List ℕ → List ℕ → ℕ → ℕ → Tried
newly met used b w = added (again met used b w) met used b w

-- the hop by byte b from server a, when an array is walked, after the servers met and a itself: nothing refuses it
pub record Takes (s : Shape) (t met used : List ℕ) (a b : ℕ) (h : Taken) : Type 0 where
  pub free : 0 ≡ fault s t (met ++ (a ∷ [])) used a b
  pub hop : the_hop h.hop ≡ hop_by s a b
  pub switch : h.switch ≡ switch_at s (level_of b) a

-- or why it is refused: 8 to 11, 28, 29
pub record Faults (s : Shape) (t met used : List ℕ) (a b : ℕ) (f : Fault) : Type 0 where
  pub number : number_of f.reason ≡ fault s t (met ++ (a ∷ [])) used a b
  pub earlier : f.earlier ≡ earlier_of (fault s t (met ++ (a ∷ [])) used a b) (met ++ (a ∷ [])) used (hop_to s a b) (switch_at s (level_of b) a)

-- the hop from server a to server b, when servers are written: 23, 28, 29
unfoldable pub tried_to : Shape → List ℕ → List ℕ → ℕ → ℕ → Tried
tried_to s met used a b = added (write_fault s met used a b) met used b (switch_to s a b)

-- servers a and b of the room are neighbours
pub record Next (s : Shape) (a b : ℕ) : Type 0 where
  pub from : Server s a
  pub to : Server s b
  pub hop : Neighbours s (level_to s a b) a b

-- ---- the way of an array, and back

-- bytes as one number, the first lowest
unfoldable pub low_first : List ℕ → ℕ
low_first [] = 0
low_first (b ∷ bs) = b + 256 * low_first bs

-- the path bytes of the way back over these servers
unfoldable pub back_over : Shape → List ℕ → ℕ
back_over s vs = low_first (in_turn (byte_to s) (reverse vs))

abbrev pub no_way : Refusal → Way
no_way r = record { refusal = r; hops = 0; back = 0 }

abbrev pub a_way : ℕ → ℕ → Way
a_way h x = record { refusal = none; hops = h; back = x }

-- what is told of a way
abbrev pub the_way : Gone → Way
the_way w = a_way w.hops w.back

-- arrived after h hops, with the way back x; the bytes left begin at place i, counted from 0: 14
unfoldable pub ended_way : ℕ → ℕ → ℕ → List ℕ → Way
ended_way h x i [] = a_way h x
ended_way h x i (b ∷ bs) = cond (eqb b 0) (ended_way h x (i + 1) bs) (no_way (refused_at 14 1 (i + 1)))

abbrev pub way_of : Shape → Walk → Way
way_of s (stopped r) = no_way r
way_of s (arrived vs ws) = a_way (length vs - 1) (back_over s vs)

unfoldable pub way_answer : Shape → List ℕ → ℕ → ℕ → List ℕ → Way
way_answer s t a d bs = answer (array_refusal s a d bs) (λ r. no_way (plain r)) (way_of s (walk s t a d bs))

-- arrays of zeros, in which a walk puts down servers and switches; their lengths are said for arithmetic
pub record Blank (met used : List ℕ) : Type 0 where
  pub met_long : length met ≡ 9
  pub used_long : length used ≡ 8
  pub met_zeros : met ≡ replicate 9 0
  pub used_zeros : used ≡ replicate 8 0

-- what a walk leaves: way w, and on arrival the servers met and the switches used; on a refusal the arrays may hold anything
pub record WalkLeaves (s : Shape) (t : List ℕ) (a d : ℕ) (bs : List ℕ) (w : Way) (met used : List ℕ) : Type 0 where
  pub way : w ≡ way_answer s t a d bs
  pub servers : w.refusal.number ≡ 0 → met ≡ (walk_answer s t a d bs).servers
  pub switches : w.refusal.number ≡ 0 → used ≡ (walk_answer s t a d bs).switches
