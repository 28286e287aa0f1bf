-- The reading rule: from the source, byte after byte, to the first arrival; the bytes after that are zero.
use Rattle.std.specs.Prelude.{ℕ, suc, ◌+◌, List, [], ◌∷◌, ◌++◌, Bool, true, false, not, cond, ltb, leb, eqb}
use Rattle.lists.specs.Lists.{is_in, place_in}
use Rattle.refusals.specs.Refusals.{Refusal}
use Rattle.refusals.specs.Refusals.{none, refused_at, with_earlier, ◌or_else◌, ◌unless◌}
use Rattle.room.specs.declared.Shape.{Shape}
use Rattle.room.specs.Shapes.{bound}
use Rattle.room.specs.Addresses.{digit, with_digit, differing}
use Rattle.links.specs.Table.{live}
use Rattle.path.specs.Routes.{level_of, value_of, switch_at, switch_to}

-- what a walk comes to: a refusal; or arrival, with the servers met and the switches used
pub data Walk : Type 0 where
  stopped : Refusal → Walk
  arrived : List ℕ → List ℕ → Walk

-- where the hop by byte b from server a leads
unfoldable pub hop_to : Shape → ℕ → ℕ → ℕ
hop_to s a b = with_digit s (level_of b) (value_of b) a

-- why byte b is no hop from server a: 8, 9, 10
unfoldable pub hop_refusal : Shape → ℕ → ℕ → ℕ
hop_refusal s a b =
    8 unless leb (level_of b) s.k or_else 9 unless ltb (value_of b) (bound s (level_of b)) or_else 10 unless not (eqb (digit s (level_of b) a) (value_of b))

abbrev pub hop_numbers : List ℕ
hop_numbers = 8 ∷ 9 ∷ 10 ∷ []

-- why a route that has met these servers and used these switches takes no hop to server b over switch w: 28, 29
unfoldable pub again : List ℕ → List ℕ → ℕ → ℕ → ℕ
again met used b w = 28 unless not (is_in b met) or_else 29 unless not (is_in w used)

abbrev pub again_numbers : List ℕ
again_numbers = 28 ∷ 29 ∷ []

-- the earlier hop that refusal r of such a hop names: for 28 the one that reached b, the source being hop 0; for 29 the one that used w;
-- for any other 0 (rule 8.3)
unfoldable pub earlier_of : ℕ → List ℕ → List ℕ → ℕ → ℕ → ℕ
earlier_of r met used b w = cond (eqb r 28) (place_in b met) (cond (eqb r 29) (suc (place_in w used)) 0)

-- refusal r of such a hop, which is hop h of route 1
abbrev pub stops_at : ℕ → ℕ → List ℕ → List ℕ → ℕ → ℕ → Refusal
stops_at r h met used b w = with_earlier 0 (earlier_of r met used b w) (refused_at r 1 h)

-- why a walk that has met these servers and used these switches does not take the hop by byte b from a: 8, 9, 10, 11, 28, 29 (rule 8.4)
unfoldable pub fault : Shape → List ℕ → List ℕ → List ℕ → ℕ → ℕ → ℕ
fault s t met used a b =
    hop_refusal s a b or_else 11 unless live t (level_of b) a (hop_to s a b) or_else again met used (hop_to s a b) (switch_at s (level_of b) a)

abbrev pub fault_numbers : List ℕ
fault_numbers = hop_numbers ++ (11 ∷ again_numbers)

-- arrived after h hops, with these bytes left: each must be zero, else 14 at the first that is not (rule 3.4)
unfoldable pub ended : ℕ → List ℕ → List ℕ → List ℕ → Walk
ended h met used [] = arrived met used
ended h met used (b ∷ bs) = cond (eqb b 0) (ended (h + 1) met used bs) (stopped (refused_at 14 1 (h + 1)))

-- walking on to d from server a after h hops, with these bytes left (rule 3.4)
unfoldable pub walk_from : Shape → List ℕ → ℕ → ℕ → List ℕ → List ℕ → ℕ → List ℕ → Walk
walk_from s t d h met used a [] = stopped (refused_at 13 1 8)
walk_from s t d h met used a (b ∷ bs) =
    let r = fault s t met used a b in
    let next = hop_to s a b in
    let switch = switch_at s (level_of b) a in
    let met' = met ++ (next ∷ []) in
    let used' = used ++ (switch ∷ []) in
    cond (eqb r 0)
    (cond (eqb next d) (ended (h + 1) met' used' bs) (walk_from s t d (h + 1) met' used' next bs))
    (stopped (stops_at r (h + 1) met used next switch))

-- walking the bytes of an array from server a to server d over the live links of a table
unfoldable pub walk : Shape → List ℕ → ℕ → ℕ → List ℕ → Walk
walk s t a d bs = walk_from s t d 0 (a ∷ []) [] a bs

-- whether a list has exactly one element
abbrev pub single : List ℕ → Bool
single [] = false
single (x ∷ []) = true
single (x ∷ y ∷ ys) = false

-- why a route that has met these servers and used these switches is not written on from a to b: 23, 28, 29
unfoldable pub write_fault : Shape → List ℕ → List ℕ → ℕ → ℕ → ℕ
write_fault s met used a b = 23 unless single (differing s a b) or_else again met used b (switch_to s a b)

abbrev pub write_fault_numbers : List ℕ
write_fault_numbers = 23 ∷ again_numbers

-- the first refusal of writing the servers of a list after server a and h hops: 23, 28, 29, at each hop (rule 3.5)
unfoldable pub write_from : Shape → ℕ → List ℕ → List ℕ → ℕ → List ℕ → Refusal
write_from s h met used a [] = none
write_from s h met used a (b ∷ bs) =
    let r = write_fault s met used a b in
    cond (eqb r 0)
    (write_from s (h + 1) (met ++ (b ∷ [])) (used ++ (switch_to s a b ∷ [])) b bs)
    (stops_at r (h + 1) met used b (switch_to s a b))
