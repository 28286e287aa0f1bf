-- Checking a list of arrays: each is walked in list order, then every two are held against each other.
use Rattle.std.specs.Prelude.{ℕ, zero, suc, ◌+◌, ◌-◌, ◌*◌, ◌/◌, ◌%◌, List, [], ◌∷◌, ◌++◌, map, Bool, true, not, cond, ◌&&◌, ◌||◌, ltb, leb, eqb, length, get_or, take, drop}
use Rattle.lists.specs.Lists.{is_in, first_where, middle}
use Rattle.refusals.specs.Refusals.{Refusal}
use Rattle.refusals.specs.Refusals.{none, plain, refused_at, of_route, with_earlier, ◌or_else◌, ◌unless◌, answer}
use Rattle.room.specs.declared.Shape.{Shape}
use Rattle.links.specs.Table.{room_refusal, room_numbers}
use Rattle.path.specs.Told.{Walked}
use Rattle.path.specs.Answers.{walk_answer}

-- the arrays of a list: m of them, eight bytes each
unfoldable pub arrays : ℕ → List ℕ → List (List ℕ)
arrays zero bs = []
arrays (suc m) bs = take 8 bs ∷ arrays m (drop 8 bs)

-- whether no element of the first list is in the second
unfoldable pub disjoint : List ℕ → List ℕ → Bool
disjoint [] ys = true
disjoint (x ∷ xs) ys = not (is_in x ys) && disjoint xs ys

-- the switches that a walked array uses, and the servers that it meets between its ends
unfoldable pub switches_in : Walked → List ℕ
switches_in w = take (w.count - 1) w.switches

unfoldable pub between : Walked → List ℕ
between w = middle (take w.count w.servers)

-- whether two walked arrays are parallel: they share no switch, and no server other than the ends
unfoldable pub parallel : Walked → Walked → Bool
parallel u v = disjoint (switches_in u) (switches_in v) && disjoint (between u) (between v)

-- ---- where two walked arrays meet; p is a place of a hop of u, and q of v, counted from 0

-- how many hops a walked array has
abbrev pub hops_in : Walked → ℕ
hops_in w = w.count - 1

-- whether the same stands at place p of one list and place q of the other
unfoldable pub same_at : List ℕ → List ℕ → ℕ → ℕ → Bool
same_at xs ys p q = ltb p (length xs) && (ltb q (length ys) && eqb (get_or xs p 0) (get_or ys q 0))

-- whether the two hops meet: they use the same switch, or lead to the same server other than the ends
unfoldable pub meets : Walked → Walked → ℕ → ℕ → Bool
meets u v p q = same_at (switches_in u) (switches_in v) p q || same_at (between u) (between v) p q

-- the first hop of v that meets the hop of u at p; past all where none does
unfoldable pub met_at : Walked → Walked → ℕ → ℕ
met_at u v p = first_where (meets u v p) (hops_in v)

-- the first hop of u that meets some hop of v; past all where they are parallel
unfoldable pub meets_first : Walked → Walked → ℕ
meets_first u v = first_where (λ p. ltb (met_at u v p) (hops_in v)) (hops_in u)

-- 15, of u as route i and v as route j: by the first route's hop, then the second's, where they first meet (rule 3.2)
unfoldable pub meeting : ℕ → Walked → ℕ → Walked → Refusal
meeting i u j v = with_earlier i (meets_first u v + 1) (refused_at 15 j (met_at u v (meets_first u v) + 1))

-- ---- the first refusal

-- the first refusal of walked arrays, the first of which is route i (rule 8.4)
unfoldable pub first_stop : ℕ → List Walked → Refusal
first_stop i [] = none
first_stop i (w ∷ ws) =
    cond (eqb w.refusal.number 0) (first_stop (i + 1) ws) (of_route i w.refusal)

-- the first of walked arrays, the first of which is route j, that is not parallel to w, which is route i: 15
unfoldable pub first_meeting : ℕ → Walked → ℕ → List Walked → Refusal
first_meeting i w j [] = none
first_meeting i w j (v ∷ vs) = cond (parallel w v) (first_meeting i w (j + 1) vs) (meeting i w j v)

-- the first of two refusals whose number is not 0
unfoldable pub first_of : Refusal → Refusal → Refusal
first_of r q = cond (eqb r.number 0) q r

-- pairs of walked arrays by first, then second route; the first is route i (rule 8.4)
unfoldable pub first_pair : ℕ → List Walked → Refusal
first_pair i [] = none
first_pair i (w ∷ ws) = first_of (first_meeting i w (i + 1) ws) (first_pair (i + 1) ws)

unfoldable pub list_refusal : Shape → List ℕ → ℕ → ℕ → List ℕ → ℕ
list_refusal s t a d bs =
    room_refusal s t a d or_else 7 unless (eqb (length bs % 8) 0 && (leb 1 (length bs) && leb (length bs) (8 * suc s.k)))

abbrev pub list_numbers : List ℕ
list_numbers = room_numbers ++ (7 ∷ [])

-- the arrays of a list, each walked
unfoldable pub walks_of : Shape → List ℕ → ℕ → ℕ → List ℕ → List Walked
walks_of s t a d bs = map (walk_answer s t a d) (arrays (length bs / 8) bs)

-- what checking answers: no refusal where the list is accepted (rule 6.1)
unfoldable pub check_answer : Shape → List ℕ → ℕ → ℕ → List ℕ → Refusal
check_answer s t a d bs =
    answer (list_refusal s t a d bs) plain (first_of (first_stop 1 (walks_of s t a d bs)) (first_pair 1 (walks_of s t a d bs)))
