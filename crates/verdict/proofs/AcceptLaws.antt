-- A list is accepted exactly when it is the encoding of 1 to k + 1 parallel routes over live links.
use Prim.Native.Nat.{ℕ, zero, suc, ◌+◌, ◌*◌, ◌/◌, ◌%◌, ◌≤◌, ◌<◌, suc-le-suc, zero-le}
use mathlib.Core.Path.{◌≡◌, refl, sym, ap, ap₂, ◌∙◌}
use mathlib.Core.Logic.{◌≢◌, ◌↔◌}
use mathlib.Core.Bool.{Bool, true, false, not, cond}
use mathlib.Core.List.{List, [], ◌∷◌, ◌++◌, map}
use native.Mathlib.Omega.{arith}
use native.Mathlib.Nat.{le_of_suc-le-suc}
use native.Mathlib.Decide.{ℕ_discrete}
use lib.Dec.{leb, eqb}
use lib.ListN.{length, get_or, take, drop, length-append, length-drop, take-append-drop}
use lib.Seq.{take_at, drop_at}
use borrow.Author.Tests.{eq-eqb, ne_eqb, eqb-true, leb-true, le-leb, not-true}
use Rattle.lists.proofs.ListLaws.{both_held, Missing, in_missing, missing_in, length_turn, take-filled}
use Rattle.lists.specs.Lists.{is_in, middle, filled, in_turn, Apart}
use Rattle.refusals.specs.Refusals.{Refusal}
use Rattle.refusals.specs.Refusals.{none, plain, of_route}
use Rattle.refusals.proofs.ChainLaws.{or_else_zero, chain_goes, test_held}
use Rattle.refusals.proofs.AnswerLaws.{answered, answer-none}
use Rattle.room.specs.declared.Shape.{Shape}
use Rattle.links.specs.Table.{room_refusal}
use Rattle.path.specs.Told.{Walked}
use Rattle.path.specs.Routes.{RouteTo, Parallel, encode, switches_of, switch_to}
use Rattle.path.specs.Answers.{walk_answer}
use Rattle.path.proofs.CodecLaws.{walk-given, walk-exactly, encode-long}
use Rattle.path.specs.Routes.{Encodes}
use Rattle.verdict.specs.Checks.{arrays, disjoint, switches_in, between, parallel, meeting, first_stop, first_meeting, first_of, first_pair, list_refusal, walks_of, check_answer}
use Rattle.verdict.specs.Accepted.{encode_all, Accepted}

-- ---- sharing nothing

pub disjoint-apart : (xs ys : List ℕ) → disjoint xs ys ≡ true → Apart xs ys
unfolding disjoint
disjoint-apart [] ys e = record { apart = λ i j p q. omega arith }
disjoint-apart (x ∷ xs) ys e =
    let z = both_held (not (is_in x ys)) (disjoint xs ys) e in
    record { apart = at (in_missing x ys (not-true (is_in x ys) z.0)) (disjoint-apart xs ys z.1) }
  where
    at : Missing x ys → Apart xs ys → (i j : ℕ) → i < length (x ∷ xs) → j < length ys → get_or (x ∷ xs) i 0 ≢ get_or ys j 0
    at m h zero j p q = λ e. m.not_at j q (sym e)
    at m h (suc i) j p q = h.apart i j (le_of_suc-le-suc p) q

pub apart-disjoint : (xs ys : List ℕ) → Apart xs ys → disjoint xs ys ≡ true
unfolding disjoint
apart-disjoint [] ys h = refl
apart-disjoint (x ∷ xs) ys h =
    let m : is_in x ys ≡ false = missing_in x ys (record { not_at = λ j q e. h.apart zero j (suc-le-suc zero-le) q (sym e) }) in
    rw m (apart-disjoint xs ys (record { apart = λ i j p q. h.apart (suc i) j (suc-le-suc p) q }))

-- ---- a route, as a walk answers it

abbrev pub walked_of : Shape → List ℕ → Walked
walked_of s vs = record { refusal = none; count = length vs; servers = filled 9 vs; switches = filled 8 (switches_of s vs) }

pub switches-of : (s : Shape) (vs : List ℕ) → switches_in (walked_of s vs) ≡ switches_of s vs
unfolding switches_in switches_of
switches-of s vs =
    ap (λ (m : ℕ). take m (filled 8 (in_turn (switch_to s) vs))) (sym (length_turn (switch_to s) vs)) ∙ take-filled 8 (in_turn (switch_to s) vs)

pub between_of : (s : Shape) (vs : List ℕ) → between (walked_of s vs) ≡ middle vs
unfolding between
between_of s vs = ap middle (take-filled 9 vs)

pub parallel_of : (s : Shape) (us vs : List ℕ) → parallel (walked_of s us) (walked_of s vs) ≡ true → Parallel s us vs
unfolding parallel
parallel_of s us vs e =
    let z = both_held (disjoint (switches_in (walked_of s us)) (switches_in (walked_of s vs))) _ e in
    record {
      switches = disjoint-apart (switches_of s us) (switches_of s vs) (rw (switches-of s us, switches-of s vs) at z.0);
      servers = disjoint-apart (middle us) (middle vs) (rw (between_of s us, between_of s vs) at z.1);
    }

pub of_parallel : (s : Shape) (us vs : List ℕ) → Parallel s us vs → parallel (walked_of s us) (walked_of s vs) ≡ true
unfolding parallel
of_parallel s us vs h =
    rw (switches-of s us, switches-of s vs, between_of s us, between_of s vs, apart-disjoint (switches_of s us) (switches_of s vs) h.switches, apart-disjoint (middle us) (middle vs) h.servers)

-- ---- no refusal on the way

number-zero : (b : Bool) (r q : Refusal) → (q.number ≡ 0 → ⊥) → (cond b r q).number ≡ 0 → (b ≡ true) × (r.number ≡ 0)
number-zero true r q n e = (refl, e)
number-zero false r q n e = absurd (n e)

-- every array is that of a route
pub record Read (s : Shape) (t : List ℕ) (a d : ℕ) (bss vss : List (List ℕ)) : Type 0 where
  pub long : length vss ≡ length bss
  pub each : (i : ℕ) → i < length bss → Encodes s t a d (get_or bss i []) (get_or vss i [])

read_none : (s : Shape) (t : List ℕ) (a d : ℕ) → Read s t a d [] []
read_none s t a d = record { long = refl; each = λ i p. absurd (let z : ⊥ = omega arith in z) }

read_more : {s : Shape} {t : List ℕ} {a d : ℕ} {bs vs : List ℕ} {bss vss : List (List ℕ)} → Encodes s t a d bs vs → Read s t a d bss vss → Read s t a d (bs ∷ bss) (vs ∷ vss)
read_more {s} {t} {a} {d} {bs} {vs} {bss} {vss} h r = record { long = ap suc r.long; each = at }
  where
    at : (i : ℕ) → i < length (bs ∷ bss) → Encodes s t a d (get_or (bs ∷ bss) i []) (get_or (vs ∷ vss) i [])
    at zero p = h
    at (suc i) p = r.each i (le_of_suc-le-suc p)

read_tail : {s : Shape} {t : List ℕ} {a d : ℕ} {bs vs : List ℕ} {bss vss : List (List ℕ)} → Read s t a d (bs ∷ bss) (vs ∷ vss) → Read s t a d bss vss
read_tail r = record { long = omega (arith, r.long); each = λ i p. r.each (suc i) (suc-le-suc p) }

pub all_read : (s : Shape) (t : List ℕ) (a d i : ℕ) (bss : List (List ℕ)) → (first_stop i (map (walk_answer s t a d) bss)).number ≡ 0 → (vss : List (List ℕ)) × Read s t a d bss vss
unfolding first_stop
all_read s t a d i [] e = ([], read_none s t a d)
all_read s t a d i (bs ∷ bss) e =
    let w = walk_answer s t a d bs in
    let z = test (first_stop (i + 1) (map (walk_answer s t a d) bss)) (of_route i w.refusal) e in
    let h = (walk-exactly s t a d bs).0 z.0 in
    let r = all_read s t a d (i + 1) bss z.1 in
    (h.0 ∷ r.0, read_more h.1 r.1)
  where
    test : (q r : Refusal) → (cond (eqb r.number 0) q r).number ≡ 0 → (r.number ≡ 0) × (q.number ≡ 0)
    test q r g =
        elim (ℕ_discrete r.number 0) [
          | yes e ↦ (e, ap (λ (b : Bool). (cond b q r).number) (sym (eq-eqb r.number 0 e)) ∙ g)
          | no n ↦ absurd (n (ap (λ (b : Bool). (cond b q r).number) (sym (ne_eqb r.number 0 n)) ∙ g))
        ]

pub walks_read : {s : Shape} {t : List ℕ} {a d : ℕ} (bss vss : List (List ℕ)) → Read s t a d bss vss → map (walk_answer s t a d) bss ≡ map (walked_of s) vss
walks_read [] [] r = refl
walks_read [] (vs ∷ vss) r = let z : ⊥ = omega (arith, r.long) in absurd z
walks_read (bs ∷ bss) [] r = let z : ⊥ = omega (arith, r.long) in absurd z
walks_read (bs ∷ bss) (vs ∷ vss) r =
    ap₂ (λ (x : Walked) (xs : List Walked). x ∷ xs) (walk-given (r.each zero (suc-le-suc zero-le))) (walks_read bss vss (read_tail r))

pub none_stop : (s : Shape) (i : ℕ) (vss : List (List ℕ)) → first_stop i (map (walked_of s) vss) ≡ none
unfolding first_stop
none_stop s i [] = refl
none_stop s i (vs ∷ vss) = none_stop s (i + 1) vss

first-zero : (r q : Refusal) → (first_of r q).number ≡ 0 → (r.number ≡ 0) × (q.number ≡ 0)
unfolding first_of
first-zero r q g =
    elim (ℕ_discrete r.number 0) [
      | yes e ↦ (e, ap (λ (b : Bool). (cond b q r).number) (sym (eq-eqb r.number 0 e)) ∙ g)
      | no n ↦ absurd (n (ap (λ (b : Bool). (cond b q r).number) (sym (ne_eqb r.number 0 n)) ∙ g))
    ]

-- ---- every two parallel

-- a route against others
pub record Clear (s : Shape) (us : List ℕ) (vss : List (List ℕ)) : Type 0 where
  pub each : (i : ℕ) → i < length vss → Parallel s us (get_or vss i [])

pub meeting-clear : (s : Shape) (i : ℕ) (us : List ℕ) (j : ℕ) (vss : List (List ℕ)) → (first_meeting i (walked_of s us) j (map (walked_of s) vss)).number ≡ 0 → Clear s us vss
unfolding first_meeting meeting
meeting-clear s i us j [] e = record { each = λ x p. absurd (let z : ⊥ = omega arith in z) }
meeting-clear s i us j (vs ∷ vss) e =
    let z = number-zero (parallel (walked_of s us) (walked_of s vs)) _ _ (λ q. omega arith) e in
    record { each = at (parallel_of s us vs z.0) (meeting-clear s i us (j + 1) vss z.1) }
  where
    at : Parallel s us vs → Clear s us vss → (i : ℕ) → i < length (vs ∷ vss) → Parallel s us (get_or (vs ∷ vss) i [])
    at h r zero p = h
    at h r (suc i) p = r.each i (le_of_suc-le-suc p)

pub clear-meeting : (s : Shape) (i : ℕ) (us : List ℕ) (j : ℕ) (vss : List (List ℕ)) → Clear s us vss → first_meeting i (walked_of s us) j (map (walked_of s) vss) ≡ none
unfolding first_meeting
clear-meeting s i us j [] h = refl
clear-meeting s i us j (vs ∷ vss) h =
    rw (of_parallel s us vs (h.each zero (suc-le-suc zero-le)))
    (clear-meeting s i us (j + 1) vss (record { each = λ i p. h.each (suc i) (suc-le-suc p) }))

-- every two of a list of routes
pub record AllClear (s : Shape) (vss : List (List ℕ)) : Type 0 where
  pub pair : (i j : ℕ) → i < j → j < length vss → Parallel s (get_or vss i []) (get_or vss j [])

pub pair_clear : (s : Shape) (i : ℕ) (vss : List (List ℕ)) → (first_pair i (map (walked_of s) vss)).number ≡ 0 → AllClear s vss
unfolding first_pair
pair_clear s i [] e = record { pair = λ i j p q. absurd (let z : ⊥ = omega arith in z) }
pair_clear s i (vs ∷ vss) e =
    let z = first-zero (first_meeting i (walked_of s vs) (i + 1) (map (walked_of s) vss)) (first_pair (i + 1) (map (walked_of s) vss)) e in
    record { pair = at (meeting-clear s i vs (i + 1) vss z.0) (pair_clear s (i + 1) vss z.1) }
  where
    at : Clear s vs vss → AllClear s vss → (i j : ℕ) → i < j → j < length (vs ∷ vss) → Parallel s (get_or (vs ∷ vss) i []) (get_or (vs ∷ vss) j [])
    at h r i zero p q = absurd (let z : ⊥ = omega arith in z)
    at h r zero (suc j) p q = h.each j (le_of_suc-le-suc q)
    at h r (suc i) (suc j) p q = r.pair i j (le_of_suc-le-suc p) (le_of_suc-le-suc q)

pub clear_pair : (s : Shape) (i : ℕ) (vss : List (List ℕ)) → AllClear s vss → first_pair i (map (walked_of s) vss) ≡ none
unfolding first_pair first_of
clear_pair s i [] h = refl
clear_pair s i (vs ∷ vss) h =
    rw (clear-meeting s i vs (i + 1) vss (record { each = λ j p. h.pair zero (suc j) (suc-le-suc zero-le) (suc-le-suc p) }))
    (clear_pair s (i + 1) vss (record { pair = λ j m p q. h.pair (suc j) (suc m) (suc-le-suc p) (suc-le-suc q) }))

-- ---- one array after another

pub arrays_encoded : (s : Shape) (vss : List (List ℕ)) → ((i : ℕ) → i < length vss → length (get_or vss i []) ≤ 9) → arrays (length vss) (encode_all s vss) ≡ map (encode s) vss
unfolding arrays encode_all
arrays_encoded s [] h = refl
arrays_encoded s (vs ∷ vss) h =
    let l : length (encode s vs) ≡ 8 = encode-long s vs (h zero (suc-le-suc zero-le)) in
    rw (take_at (encode s vs) (encode_all s vss) 8 l, drop_at (encode s vs) (encode_all s vss) 8 l)
    (ap (λ (x : List (List ℕ)). encode s vs ∷ x) (arrays_encoded s vss (λ i p. h (suc i) (suc-le-suc p))))

pub encoded_long : (s : Shape) (vss : List (List ℕ)) → ((i : ℕ) → i < length vss → length (get_or vss i []) ≤ 9) → length (encode_all s vss) ≡ 8 * length vss
unfolding encode_all
encoded_long s [] h = refl
encoded_long s (vs ∷ vss) h =
    length-append (encode s vs) (encode_all s vss)
    ∙ omega (arith, encode-long s vs (h zero (suc-le-suc zero-le)), encoded_long s vss (λ i p. h (suc i) (suc-le-suc p)))

-- what is read of the arrays of a list writes the list
pub list_encoded : {s : Shape} {t : List ℕ} {a d : ℕ} (m : ℕ) (bs : List ℕ) (vss : List (List ℕ)) → length bs ≡ 8 * m → Read s t a d (arrays m bs) vss → bs ≡ encode_all s vss
unfolding arrays encode_all
list_encoded zero [] [] l r = refl
list_encoded zero (b ∷ bs) vss l r = let z : ⊥ = omega arith in absurd z
list_encoded zero [] (vs ∷ vss) l r = let z : ⊥ = omega (arith, r.long) in absurd z
list_encoded (suc m) bs [] l r = let z : ⊥ = omega (arith, r.long) in absurd z
list_encoded {s} {t} {a} {d} (suc m) bs (vs ∷ vss) l r =
    sym (take-append-drop 8 bs)
    ∙ ap₂ (λ (x y : List ℕ). x ++ y) (r.each zero (suc-le-suc zero-le)).bytes
    (list_encoded m (drop 8 bs) vss (length-drop 8 bs ∙ omega arith) (read_tail r))

pub arrays-long : (m : ℕ) (bs : List ℕ) → length (arrays m bs) ≡ m
unfolding arrays
arrays-long zero bs = refl
arrays-long (suc m) bs = ap suc (arrays-long m (drop 8 bs))

read_encoded : {s : Shape} {t : List ℕ} {a d : ℕ} (vss : List (List ℕ)) → ((i : ℕ) → i < length vss → RouteTo s t a d (get_or vss i [])) → Read s t a d (map (encode s) vss) vss
read_encoded {s} {t} {a} {d} [] h = read_none s t a d
read_encoded (vs ∷ vss) h =
    read_more (record { route = h zero (suc-le-suc zero-le); bytes = refl }) (read_encoded vss (λ i p. h (suc i) (suc-le-suc p)))

-- ---- the acceptance theorem

-- a list whose length is not refused
record Lengths (s : Shape) (bs : List ℕ) : Type 0 where
  pub whole : length bs % 8 ≡ 0
  pub some : 1 ≤ length bs
  pub most : length bs ≤ 8 * suc s.k

lengths_of : (s : Shape) (t : List ℕ) (a d : ℕ) (bs : List ℕ) → list_refusal s t a d bs ≡ 0 → Lengths s bs
unfolding list_refusal
lengths_of s t a d bs e =
    let z = or_else_zero (room_refusal s t a d) _ e in
    let w = both_held (eqb (length bs % 8) 0) _ (test_held _ 6 z.1) in
    let v = both_held (leb 1 (length bs)) (leb (length bs) (8 * suc s.k)) w.1 in
    record { whole = eqb-true _ _ w.0; some = leb-true _ _ v.0; most = leb-true _ _ v.1 }

lengths_none : (s : Shape) (t : List ℕ) (a d : ℕ) (bs : List ℕ) → room_refusal s t a d ≡ 0 → Lengths s bs → 0 ≡ list_refusal s t a d bs
unfolding list_refusal
lengths_none s t a d bs e h =
    chain_goes _ _ _ _ (sym e) refl
    (rw (eq-eqb (length bs % 8) 0 h.whole, le-leb 1 (length bs) h.some, le-leb (length bs) (8 * suc s.k) h.most))

pub accepted_of : (s : Shape) (t : List ℕ) (a d : ℕ) (bs : List ℕ) → check_answer s t a d bs ≡ none → Accepted s t a d bs
unfolding check_answer walks_of
accepted_of s t a d bs e =
    let z = answered (λ (r : Refusal). r.number) plain (λ r. refl) (list_refusal s t a d bs) (check_answer s t a d bs) _ refl (ap (λ (r : Refusal). r.number) e) in
    let l = lengths_of s t a d bs z.0 in
    let m = length bs / 8 in
    let W = map (walk_answer s t a d) (arrays m bs) in
    let n = first-zero (first_stop 1 W) (first_pair 1 W) (ap (λ (r : Refusal). r.number) (sym z.1 ∙ e)) in
    let r = all_read s t a d 1 (arrays m bs) n.0 in
    let u = ap (first_pair 1) (walks_read (arrays m bs) r.0 r.1) in
    let c = pair_clear s 1 r.0 (ap (λ (x : Refusal). x.number) (sym u) ∙ n.1) in
    let k : length r.0 ≡ m = r.1.long ∙ arrays-long m bs in
    record {
      routes = r.0;
      some = omega (arith, l.whole, l.some);
      most = omega (arith, l.most);
      bytes = list_encoded m bs r.0 (omega (arith, l.whole)) r.1;
      each = λ i p. (r.1.each i (omega (arith, r.1.long))).route;
      apart = c.pair;
    }

pub of_accepted : (s : Shape) (t : List ℕ) (a d : ℕ) (bs : List ℕ) → room_refusal s t a d ≡ 0 → Accepted s t a d bs → check_answer s t a d bs ≡ none
unfolding check_answer walks_of first_of
of_accepted s t a d bs e h =
    let few : (i : ℕ) → i < length h.routes → length (get_or h.routes i []) ≤ 9 = λ i p. (h.each i p).route.few in
    let l : length bs ≡ 8 * length h.routes = ap length h.bytes ∙ encoded_long s h.routes few in
    let m : length bs / 8 ≡ length h.routes = omega arith in
    let x : arrays (length bs / 8) bs ≡ map (encode s) h.routes = ap₂ arrays m h.bytes ∙ arrays_encoded s h.routes few in
    let w : map (walk_answer s t a d) (arrays (length bs / 8) bs) ≡ map (walked_of s) h.routes = ap (map (walk_answer s t a d)) x ∙ walks_read (map (encode s) h.routes) h.routes (read_encoded h.routes h.each) in
    answer-none _ plain _ (lengths_none s t a d bs e (record { whole = omega arith; some = omega (arith, h.some); most = omega (arith, h.most) }))
    ∙ ap (λ (ws : List Walked). first_of (first_stop 1 ws) (first_pair 1 ws)) w
    ∙ ap₂ first_of (none_stop s 1 h.routes) (clear_pair s 1 h.routes (record { pair = h.apart }))

-- where refusals 1, 2, 26 and 3 to 6 do not apply, checking accepts a list exactly when it is 1 to k + 1 arrays, each of them the
-- encoding of a route over live links, every two parallel
pub accept_exactly : (s : Shape) (t : List ℕ) (a d : ℕ) (bs : List ℕ) → room_refusal s t a d ≡ 0 → (check_answer s t a d bs ≡ none) ↔ Accepted s t a d bs
accept_exactly s t a d bs e = (accepted_of s t a d bs, of_accepted s t a d bs e)
