-- The answers on path bytes fit the result word.
use Prim.Native.Nat.{ℕ, zero, suc, ◌+◌, ◌*◌, ◌/◌, ◌≤◌, ◌<◌, zero-le}
use native.Mathlib.Omega.{arith}
use mathlib.Core.Path.{◌≡◌, refl, sym, ap, subst}
use mathlib.Core.Bool.{Bool, true, false, cond}
use mathlib.Core.List.{List, [], ◌∷◌, ◌++◌, map}
use lib.Dec.{eqb, lit≤, lit<}
use lib.ListN.{length, drop}
use Rattle.lists.proofs.ListLaws.{length_snoc}
use Rattle.refusals.specs.Refusals.{Refusal}
use Rattle.refusals.specs.Refusals.{refusal, plain, refused_at, of_route, answer}
use Rattle.refusals.proofs.NumberLaws.{one_le}
use Rattle.room.specs.declared.Shape.{Shape}
use Rattle.room.specs.Addresses.{digit}
use Rattle.room.specs.Refusals.{shape_refusal, server_refusal}
use Rattle.room.proofs.NumberLaws.{shape-numbers, server-numbers}
use Rattle.room.proofs.RefusalLaws.{server_of}
use Rattle.room.proofs.RoomLaws.{bound_le}
use Rattle.path.specs.Told.{Walked}
use Rattle.path.specs.Told.{Writing}
use Rattle.path.specs.Told.{Parts}
use Rattle.path.specs.Told.{Hop}
use Rattle.path.specs.Bytes.{made_refusal, byte_answer, parts_refusal, no_parts, some_parts, parts_answer}
use Rattle.path.specs.Routes.{byte_of, switch_at, switch_to, level_of, value_of}
use Rattle.path.specs.Walks.{Walk, stopped, arrived, hop_to, hop_refusal, stops_at, fault, ended, walk_from, walk, write_fault, write_from}
use Rattle.path.specs.Answers.{no_hop, hop_by, hop_from, hop_answer, array_refusal, no_walk, walked, walk_answer, read_answer, no_writing, reversed, reverse_answer, write_refusal, written, on_the_way, write_answer}
use Rattle.path.proofs.HopLaws.{hop-level-low, hop-old-low, hop-server}
use Rattle.path.proofs.NumberLaws.{hop-numbers, made-numbers, parts-numbers, fault-numbers, array-numbers, write-numbers, write-fault-numbers}
use Rattle.path.proofs.ByteLaws.{made_of, parts_of}
use Rattle.path.proofs.CodecLaws.{array_of, listed_of}
use Rattle.path.proofs.RepeatLaws.{earlier-most}
use Rattle.verdict.specs.Checks.{arrays, parallel, met_at, meets_first, meeting, first_stop, first_meeting, first_of, first_pair, list_refusal, walks_of, check_answer}
use Rattle.verdict.proofs.NumberLaws.{list-numbers}
use Rattle.verdict.proofs.LengthLaws.{list_few}
use Rattle.verdict.proofs.MeetingLaws.{met-most, first-most}
use Rattle.driver.specs.Words.{Small}
use Rattle.driver.proofs.WordLaws.{none-small, plain-small, number_small}

-- what is so of both arms is so of the one taken
pub either : {X : Type 0} (P : X → Type 0) (b : Bool) (x y : X) → P x → P y → P (cond b x y)
either P true x y p q = p
either P false x y p q = q

-- what is so of each refusal and of what is asked for where there is none is so of the answer
answer_so : {X : Type 0} (P : X → Type 0) (q : ℕ) (refused : ℕ → X) (x : X) → ((r : ℕ) → r ≤ 255 → P (refused r)) → q ≤ 255 → (q ≡ 0 → P x) → P (answer q refused x)
answer_so P zero refused x f h g = g refl
answer_so P (suc q) refused x f h g = f (suc q) h

with_small : (r i h j g : ℕ) → r ≤ 255 → i < 256 → h < 256 → j < 16 → g < 16 → Small (refusal r i h j g) 0
with_small r i h j g a b c d e = record { number = omega arith; route = b; hop = c; earlier-route = d; earlier-hop = e; value = lit< tt }

at_small : (r i h : ℕ) → r ≤ 255 → i < 256 → h < 256 → Small (refused_at r i h) 0
at_small r i h a b c = with_small r i h 0 0 a b c (lit< tt) (lit< tt)

-- ---- one path byte

pub byte_small : (s : Shape) (l v : ℕ) → Small (byte_answer s l v).refusal (byte_answer s l v).value
unfolding byte_answer byte_of
byte_small s l v =
    number_small (made_refusal s l v) (byte_of l v) (one_le 255 refl (made-numbers s l v))
    (λ z. let h = made_of s l v z in omega (arith, h.level, h.value, bound_le h.valid l, h.valid.ports, h.valid.levels))

-- the value of the word is 256 times the level plus the value
pub record PartsFit (x : Parts) : Type 0 where
  pub level : x.level ≤ 3
  pub value : x.value < 64
  pub small : Small x.refusal (256 * x.level + x.value)

pub parts_small : (s : Shape) (b : ℕ) → PartsFit (parts_answer s b)
unfolding parts_answer
parts_small s b =
    answer_so PartsFit (shape_refusal s) (λ r. no_parts (plain r)) _
    (λ r h. record { level = lit≤ tt; value = lit< tt; small = plain-small r h })
    (one_le 255 refl (shape-numbers s))
    (λ v.
    answer_so PartsFit (parts_refusal s b) (λ r. no_parts (refused_at r 1 1)) (some_parts (level_of b) (value_of b))
    (λ r h. record { level = lit≤ tt; value = lit< tt; small = at_small r 1 1 h (lit< tt) (lit< tt) })
    (one_le 255 refl (parts-numbers s b))
    (λ z. let h = parts_of s b v z in let l : level_of b ≤ 3 = omega (arith, h.level, h.valid.levels) in let q : value_of b < 64 = omega arith in record { level = l; value = q; small = none-small (256 * level_of b + value_of b) (omega arith) }))

pub parts_found : (s : Shape) (b : ℕ) (x : Parts) → x ≡ parts_answer s b → PartsFit x
parts_found s b x e = subst PartsFit (sym e) (parts_small s b)

-- ---- one hop

-- the value of the word is the next server plus 65536 times the path byte of the way back
pub record HopFit (x : Hop) : Type 0 where
  pub next : x.next < 65536
  pub level : x.level ≤ 3
  pub old : x.old < 64
  pub small : Small x.refusal (x.next + 65536 * byte_of x.level x.old)

pub hop-small : (s : Shape) (a b : ℕ) → HopFit (hop_answer s a b)
unfolding hop_answer hop_from byte_of
hop-small s a b =
    answer_so HopFit (server_refusal s a) (λ r. no_hop (plain r)) _
    (λ r h. record { next = lit< tt; level = lit≤ tt; old = lit< tt; small = plain-small r h })
    (one_le 255 refl (server-numbers s a))
    (λ v.
    answer_so HopFit (hop_refusal s a b) (λ r. no_hop (refused_at r 1 1)) (hop_by s a b)
    (λ r h. record { next = lit< tt; level = lit≤ tt; old = lit< tt; small = at_small r 1 1 h (lit< tt) (lit< tt) })
    (one_le 255 refl (hop-numbers s a b))
    (λ z.
    let here = server_of s a v in
    let there = hop-server here b z in
    let n : hop_to s a b < 65536 = omega (arith, there.below, there.valid.small) in
    let l = hop-level-low here b z in
    let o = hop-old-low here b z in
    record { next = n; level = l; old = o; small = none-small (hop_to s a b + 65536 * (64 * level_of b + digit s (level_of b) a)) (omega arith) }))

pub hop-found : (s : Shape) (a b : ℕ) (x : Hop) → x ≡ hop_answer s a b → HopFit x
hop-found s a b x e = subst HopFit (sym e) (hop-small s a b)

-- ---- a walk

-- the refusal that a walk comes to and the count of the servers met fit
record Fits (w : Walk) : Type 0 where
  small : Small (walked w).refusal (walked w).count
  few : (walked w).count ≤ 9

stop_fits : (r : Refusal) → Small r 0 → Fits (stopped r)
stop_fits r h = record { small = h; few = omega arith }

ended-fits : (h : ℕ) (met used bs : List ℕ) → h + length bs ≤ 8 → length met ≤ 9 → Fits (ended h met used bs)
unfolding ended
ended-fits h met used [] l m = record { small = none-small (length met) (omega arith); few = m }
ended-fits h met used (b ∷ bs) l m =
    either Fits (eqb b 0) (ended (h + 1) met used bs) (stopped (refused_at 14 1 (h + 1)))
    (ended-fits (h + 1) met used bs (omega arith) m)
    (stop_fits _ (at_small 14 1 (h + 1) (lit≤ tt) (lit< tt) (omega arith)))

-- the refusal of a hop of a route that has met so many servers and used so many switches
hop-refusal-small : (r h : ℕ) (met used : List ℕ) (b w : ℕ) → r ≤ 255 → h ≤ 9 → length met ≤ 9 → length used ≤ 8 → Small (stops_at r h met used b w) 0
hop-refusal-small r h met used b w a k m u = with_small r 1 h 0 _ a (lit< tt) (omega arith) (lit< tt) (omega (arith, earlier-most met used b w r 9 m (omega arith)))

walk-fits : (s : Shape) (t : List ℕ) (d h : ℕ) (met used : List ℕ) (a : ℕ) (bs : List ℕ) → h + length bs ≤ 8 → length met ≡ h + 1 → length used ≡ h → Fits (walk_from s t d h met used a bs)
unfolding walk_from
walk-fits s t d h met used a [] l m u = stop_fits _ (at_small 13 1 8 (lit≤ tt) (lit< tt) (lit< tt))
walk-fits s t d h met used a (b ∷ bs) l m u =
    let r = fault s t met used a b in
    let next = hop_to s a b in
    let switch = switch_at s (level_of b) a in
    let met' = met ++ (next ∷ []) in
    let used' = used ++ (switch ∷ []) in
    let k : length met' ≡ h + 1 + 1 = omega (arith, length_snoc met next) in
    let n : length used' ≡ h + 1 = omega (arith, length_snoc used switch) in
    let e = ended (h + 1) met' used' bs in
    let w = walk_from s t d (h + 1) met' used' next bs in
    either Fits (eqb r 0) (cond (eqb next d) e w) (stopped (stops_at r (h + 1) met used next switch))
    (either Fits (eqb next d) e w (ended-fits (h + 1) met' used' bs (omega arith) (omega arith)) (walk-fits s t d (h + 1) met' used' next bs (omega arith) k n))
    (stop_fits _ (hop-refusal-small r (h + 1) met used next switch (one_le 255 refl (fault-numbers s t met used a b)) (omega arith) (omega arith) (omega arith)))

eight_fit : (s : Shape) (t : List ℕ) (a d : ℕ) (bs : List ℕ) → array_refusal s a d bs ≡ 0 → Fits (walk s t a d bs)
unfolding walk
eight_fit s t a d bs e = let l = (array_of s a d bs e).1 in walk-fits s t d 0 (a ∷ []) [] a bs (omega arith) refl refl

pub walk-small : (s : Shape) (t : List ℕ) (a d : ℕ) (bs : List ℕ) → Small (walk_answer s t a d bs).refusal (walk_answer s t a d bs).count
unfolding walk_answer
walk-small s t a d bs =
    answer_so (λ (w : Walked). Small w.refusal w.count) (array_refusal s a d bs) (λ r. no_walk (plain r)) (walked (walk s t a d bs))
    plain-small (one_le 255 refl (array-numbers s a d bs)) (λ e. (eight_fit s t a d bs e).small)

walk-few : (s : Shape) (t : List ℕ) (a d : ℕ) (bs : List ℕ) → (walk_answer s t a d bs).count ≤ 9
unfolding walk_answer
walk-few s t a d bs =
    answer_so (λ (w : Walked). w.count ≤ 9) (array_refusal s a d bs) (λ r. no_walk (plain r)) (walked (walk s t a d bs))
    (λ r h. zero-le) (one_le 255 refl (array-numbers s a d bs)) (λ e. (eight_fit s t a d bs e).few)

-- ---- reading and reversal

pub read_small : (s : Shape) (a d : ℕ) (bs : List ℕ) → Small (read_answer s a d bs).refusal (read_answer s a d bs).count
unfolding read_answer
read_small s a d bs = walk-small s [] a d bs

reversed-fits : (s : Shape) (w : Walk) → Fits w → Small (reversed s w).refusal 0
reversed-fits s (stopped r) f = f.small
reversed-fits s (arrived vs ws) f = none-small 0 (lit< tt)

pub reverse-small : (s : Shape) (a d : ℕ) (bs : List ℕ) → Small (reverse_answer s a d bs).refusal 0
unfolding reverse_answer
reverse-small s a d bs =
    answer_so (λ (w : Writing). Small w.refusal 0) (array_refusal s a d bs) (λ r. no_writing (plain r)) (reversed s (walk s [] a d bs))
    plain-small (one_le 255 refl (array-numbers s a d bs)) (λ e. reversed-fits s (walk s [] a d bs) (eight_fit s [] a d bs e))

-- ---- writing

way-small : (s : Shape) (h : ℕ) (met used : List ℕ) (a : ℕ) (bs : List ℕ) → h + length bs ≤ 8 → length met ≡ h + 1 → length used ≡ h → Small (write_from s h met used a bs) 0
unfolding write_from
way-small s h met used a [] l m u = none-small 0 (lit< tt)
way-small s h met used a (b ∷ bs) l m u =
    let r = write_fault s met used a b in
    let switch = switch_to s a b in
    let met' = met ++ (b ∷ []) in
    let used' = used ++ (switch ∷ []) in
    either (λ (x : Refusal). Small x 0) (eqb r 0) (write_from s (h + 1) met' used' b bs) (stops_at r (h + 1) met used b switch)
    (way-small s (h + 1) met' used' b bs (omega arith) (omega (arith, length_snoc met b)) (omega (arith, length_snoc used switch)))
    (hop-refusal-small r (h + 1) met used b switch (one_le 255 refl (write-fault-numbers s met used a b)) (omega arith) (omega arith) (omega arith))

on_the_way-small : (s : Shape) (vs : List ℕ) → length vs ≤ 9 → Small (on_the_way s vs) 0
unfolding on_the_way
on_the_way-small s [] l = none-small 0 (lit< tt)
on_the_way-small s (a ∷ bs) l = way-small s 0 (a ∷ []) [] a bs (omega arith) refl refl

pub write-small : (s : Shape) (vs : List ℕ) → Small (write_answer s vs).refusal 0
unfolding write_answer
write-small s vs =
    let P : Writing → Type 0 = λ w. Small w.refusal 0 in
    answer_so P (write_refusal s vs) (λ r. no_writing (plain r)) (written s vs (on_the_way s vs)) plain-small (one_le 255 refl (write-numbers s vs))
    (λ e.
    let o = on_the_way s vs in
    either P (eqb o.number 0) _ (no_writing o) (none-small 0 (lit< tt)) (on_the_way-small s vs (listed_of s vs e).few))

-- ---- checking

first_small : (r q : Refusal) → Small r 0 → Small q 0 → Small (first_of r q) 0
unfolding first_of
first_small r q a b = either (λ (x : Refusal). Small x 0) (eqb r.number 0) q r b a

stop_small : (s : Shape) (t : List ℕ) (a d i : ℕ) (bss : List (List ℕ)) → i + length bss < 256 → Small (first_stop i (map (walk_answer s t a d) bss)) 0
unfolding first_stop
stop_small s t a d i [] l = none-small 0 (lit< tt)
stop_small s t a d i (bs ∷ bss) l =
    let w = walk_answer s t a d bs in
    let f = walk-small s t a d bs in
    either (λ (x : Refusal). Small x 0) (eqb w.refusal.number 0) (first_stop (i + 1) (map (walk_answer s t a d) bss)) (of_route i w.refusal)
    (stop_small s t a d (i + 1) bss (omega arith))
    (record { number = f.number; route = omega arith; hop = f.hop; earlier-route = f.earlier-route; earlier-hop = f.earlier-hop; value = lit< tt })

-- arrays walked, of which route i is one and route j the first of the others
module _ (s : Shape) (t : List ℕ) (a d : ℕ) where
  abbrev walks : List (List ℕ) → List Walked
  walks = map (walk_answer s t a d)

  met-small : (i : ℕ) (u : Walked) (j : ℕ) (v : Walked) → i < 16 → j < 256 → u.count ≤ 9 → v.count ≤ 9 → Small (meeting i u j v) 0
  unfolding meeting
  met-small i u j v hi hj hu hv =
      let p = meets_first u v in
      with_small 15 j (met_at u v p + 1) i (p + 1) (lit≤ tt) hj (omega (arith, met-most u v p)) hi (omega (arith, first-most u v))

  meeting-small : (i : ℕ) (w : Walked) (j : ℕ) (bss : List (List ℕ)) → i < 16 → w.count ≤ 9 → j + length bss < 256 → Small (first_meeting i w j (walks bss)) 0
  unfolding first_meeting
  meeting-small i w j [] h c l = none-small 0 (lit< tt)
  meeting-small i w j (bs ∷ bss) h c l =
      let v = walk_answer s t a d bs in
      either (λ (x : Refusal). Small x 0) (parallel w v) (first_meeting i w (j + 1) (walks bss)) (meeting i w j v)
      (meeting-small i w (j + 1) bss h c (omega arith))
      (met-small i w j v h (omega arith) c (walk-few s t a d bs))

  pair_small : (i : ℕ) (bss : List (List ℕ)) → i + length bss < 16 → Small (first_pair i (walks bss)) 0
  unfolding first_pair
  pair_small i [] l = none-small 0 (lit< tt)
  pair_small i (bs ∷ bss) l =
      let w = walk_answer s t a d bs in
      first_small (first_meeting i w (i + 1) (walks bss)) (first_pair (i + 1) (walks bss)) (meeting-small i w (i + 1) bss (omega arith) (walk-few s t a d bs) (omega arith)) (pair_small (i + 1) bss (omega arith))

arrays-long : (m : ℕ) (bs : List ℕ) → length (arrays m bs) ≡ m
unfolding arrays
arrays-long zero bs = refl
arrays-long (suc m) bs = ap suc (arrays-long m (drop 8 bs))

pub check-small : (s : Shape) (t : List ℕ) (a d : ℕ) (bs : List ℕ) → Small (check_answer s t a d bs) 0
unfolding check_answer walks_of
check-small s t a d bs =
    let m = length bs / 8 in
    let l = arrays-long m bs in
    let W = map (walk_answer s t a d) (arrays m bs) in
    answer_so (λ (x : Refusal). Small x 0) (list_refusal s t a d bs) plain (first_of (first_stop 1 W) (first_pair 1 W)) plain-small (one_le 255 refl (list-numbers s t a d bs))
    (λ e.
    let f = list_few s t a d bs e in
    first_small (first_stop 1 W) (first_pair 1 W)
    (stop_small s t a d 1 (arrays m bs) (omega (arith, f.most)))
    (pair_small s t a d 1 (arrays m bs) (omega (arith, f.most))))

-- ---- what the numbers of the answers are below

pub ruleset path_numbers = (byte_small, parts_small, hop-small, read_small, reverse-small, write-small, check-small)
