-- Demand 3, proved.
use Prim.Native.Nat.{ℕ, zero, suc, ◌+◌, ◌-◌, ◌*◌, ◌/◌, ◌%◌, ◌≤◌, ◌<◌, suc-le-suc, zero-le}
use mathlib.Core.Path.{◌≡◌, refl, sym, ap, ap₂, subst, ◌∙◌}
use mathlib.Core.Logic.{◌↔◌}
use mathlib.Core.Bool.{Bool, true, false, cond}
use mathlib.Core.List.{List, [], ◌∷◌, ◌++◌, map}
use native.Mathlib.Omega.{arith}
use native.Mathlib.Decide.{ℕ_discrete, dec_lt}
use native.Mathlib.Nat.{le_of_suc-le-suc, le_refl, zero-add, suc-add}
use lib.Dec.{eqb, lit<}
use lib.ListN.{length, get_or, take, drop, replicate, length-append, get_or-append, get_or-eq_default}
use lib.Seq.{take_at, get_or-append_seam}
use Rattle.lists.specs.Lists.{filled, down_from}
use Rattle.lists.proofs.ListLaws.{take-filled}
use Rattle.refusals.specs.Refusals.{Refusal, none, plain}
use Rattle.refusals.proofs.ChainLaws.{chain_goes, or_else_zero}
use Rattle.refusals.proofs.AnswerLaws.{answered}
use Rattle.room.specs.declared.Shape.{Shape}
use Rattle.room.specs.Shapes.{servers_of, Ends}
use Rattle.room.specs.Refusals.{ends_refusal}
use Rattle.room.proofs.RefusalLaws.{ends_of, ends_none}
use Rattle.links.specs.Table.{live, table_refusal, room_refusal}
use Rattle.links.proofs.TableLaws.{table_of, table_none, zeros-table, failed-zeros}
use Rattle.path.specs.Told.{Reading}
use Rattle.path.specs.Routes.{RouteTo, Parallel, Encodes, encode, level_of}
use Rattle.path.specs.Walks.{hop_to}
use Rattle.path.specs.Answers.{read_answer}
use Rattle.path.proofs.ReverseLaws.{source-server, dest_server, ends_differ, route-to-plain}
use Rattle.path.proofs.CodecLaws.{encode-long, read-given}
use Rattle.verdict.specs.Checks.{list_refusal, check_answer}
use Rattle.verdict.specs.Accepted.{encode_all, Accepted}
use Rattle.verdict.proofs.AcceptLaws.{accepted_of, of_accepted, encoded_long}
use Rattle.build.specs.Told.{Building}
use Rattle.build.specs.Built.{built_route, built_bytes, built_arrays}
use Rattle.build.specs.Sets.{joined, set_of, held}
use Rattle.build.specs.Answers.{build_answer, no_building, a_building}
use Rattle.build.proofs.ArrayLaws.{arrays-count}
use Rattle.build.proofs.BuiltLaws.{built-route, built-encode, built-parallel}
use Rattle.select.proofs.SelectLaws.{selection_checked}
use Rattle.pick.specs.Picks.{array_at}
use Rattle.step.specs.Steps.{entry, flag_at}
use Rattle.step.specs.Delivery.{Tables}
use Rattle.step.proofs.DeliveryLaws.{each-hop, then-delivered}
use Rattle.driver.specs.Packed.{flag_of}
use Rattle.demands.specs.Demand3.{servers_read, AcceptedExactly, Healthy, HealthyExists, BuiltAccepted, TablesExist, SelectionAccepted, Delivers, Delivery}

-- a list that is accepted is not refused as a whole
checked_room : (s : Shape) (t : List ℕ) (a d : ℕ) (bs : List ℕ) → check_answer s t a d bs ≡ none → table_refusal s t ≡ 0
unfolding check_answer list_refusal room_refusal
checked_room s t a d bs e =
    let z = answered (λ (r : Refusal). r.number) plain (λ r. refl) (list_refusal s t a d bs) (check_answer s t a d bs) _ refl (ap (λ (r : Refusal). r.number) e) in
    (or_else_zero (ends_refusal s a d) (table_refusal s t) (or_else_zero (room_refusal s t a d) _ z.0).0).1

-- the ends of an accepted list are servers, and differ
accepted_room : (s : Shape) (t : List ℕ) (a d : ℕ) (bs : List ℕ) → table_refusal s t ≡ 0 → Accepted s t a d bs → room_refusal s t a d ≡ 0
unfolding room_refusal
accepted_room s t a d bs e h =
    let r = h.each 0 h.some in
    sym (chain_goes _ _ _ _ (ends_none (record { source = source-server r; destination = dest_server r; differ = ends_differ r })) refl (sym e))

pub accepted_exactly : AcceptedExactly
accepted_exactly s t a d bs = (
  λ e. (table_of s t (checked_room s t a d bs e), accepted_of s t a d bs e),
  λ p. of_accepted s t a d bs (accepted_room s t a d bs (sym (table_none p.0)) p.1) p.1,
)

-- a route is one over every table in which no link is failed
healthy-route : {s : Shape} {t vs : List ℕ} {a d : ℕ} → Healthy s t → RouteTo s [] a d vs → RouteTo s t a d vs
unfolding live
healthy-route {s} {t} h r =
    record {
      route =
          record {
            some = r.route.some;
            few = r.route.few;
            servers = r.route.servers;
            hops = r.route.hops;
            alive = λ i p. rw (h.all _ _, h.all _ _);
            servers_once = r.route.servers_once;
            switches_once = r.route.switches_once;
          };
      source = r.source;
      arrives = r.arrives;
    }

pub healthy_exists : HealthyExists
healthy_exists s v =
    let n = servers_of s in (
      replicate n 0,
      record {
        table = zeros-table s;
        all = λ a l. failed-zeros n a l;
      },
    )

-- a list over the slots m - 1 down to 0
slot_at : {A : Type 0} (f : ℕ → A) (m i : ℕ) (x : A) → i < m → get_or (map f (down_from m)) i x ≡ f (m - suc i)
slot_at f zero i x h = let z : ⊥ = omega arith in absurd z
slot_at f (suc m) zero x h = let e : m ≡ suc m - 1 = omega arith in ap f e
slot_at f (suc m) (suc i) x h =
    let e : m - suc i ≡ suc m - suc (suc i) = omega arith in slot_at f m i x (le_of_suc-le-suc h) ∙ ap f e

slots-long : {A : Type 0} (f : ℕ → A) (m : ℕ) → length (map f (down_from m)) ≡ m
slots-long f zero = refl
slots-long f (suc m) = ap suc (slots-long f m)

joined_encoded : (s : Shape) (a d m : ℕ) → ((i : ℕ) → i < m → encode s (built_route s i a d) ≡ built_bytes s i a d) → joined (map (λ i. built_bytes s i a d) (down_from m)) ≡ encode_all s (map (λ i. built_route s i a d) (down_from m))
unfolding joined encode_all
joined_encoded s a d zero h = refl
joined_encoded s a d (suc m) h =
    ap₂ (λ (x y : List ℕ). x ++ y) (sym (h m (le_refl (suc m)))) (joined_encoded s a d m (λ i p. h i (omega arith)))

pub built_list : (s : Shape) (t : List ℕ) (a d : ℕ) → Ends s a d → Healthy s t → Accepted s t a d (joined (built_arrays s a d))
unfolding built_arrays
built_list s t a d e h = record { routes = R; some = omega (arith, R_long); most = omega (arith, R_long); bytes = joined_encoded s a d (suc s.k) (λ i p. built-encode s a d e.source e.destination e.differ i (le_of_suc-le-suc p)); each = each; apart = apart }
  where
    R : List (List ℕ)
    R = map (λ i. built_route s i a d) (down_from (suc s.k))

    R_long : length R ≡ suc s.k
    R_long = slots-long (λ i. built_route s i a d) (suc s.k)

    R_at : (i : ℕ) → i < length R → get_or R i [] ≡ built_route s (suc s.k - suc i) a d
    R_at i p = slot_at (λ i. built_route s i a d) (suc s.k) i [] (omega (arith, R_long))

    each : (i : ℕ) → i < length R → RouteTo s t a d (get_or R i [])
    each i p = rw (R_at i p) (healthy-route h (built-route s a d e.source e.destination e.differ (suc s.k - suc i) (omega arith)))

    apart : (i j : ℕ) → i < j → j < length R → Parallel s (get_or R i []) (get_or R j [])
    apart i j p q =
        rw (R_at i (omega arith), R_at j q)
        (built-parallel s a d e.source e.destination e.differ (suc s.k - suc i) (suc s.k - suc j) (omega arith) (omega arith) (λ z. omega (arith, R_long)))

-- the list of the arrays that building puts into a set
joined-long : (s : Shape) (a d m : ℕ) → ((i : ℕ) → i < m → length (built_bytes s i a d) ≡ 8) → length (joined (map (λ i. built_bytes s i a d) (down_from m))) ≡ 8 * m
unfolding joined
joined-long s a d zero h = refl
joined-long s a d (suc m) h =
    length-append (built_bytes s m a d) (joined (map (λ i. built_bytes s i a d) (down_from m)))
    ∙ omega (arith, h m (le_refl (suc m)), joined-long s a d m (λ i p. h i (omega arith)))

built-held : (s : Shape) (a d : ℕ) → Ends s a d → held (set_of (built_arrays s a d)) ≡ joined (built_arrays s a d)
unfolding set_of filled built_arrays
built-held s a d e =
    take_at (joined (built_arrays s a d)) (replicate (32 - length (joined (built_arrays s a d))) 0) (8 * length (built_arrays s a d))
    (joined-long s a d (suc s.k) long ∙ ap (λ (m : ℕ). 8 * m) (sym (arrays-count s a d)))
  where
    long : (i : ℕ) → i < suc s.k → length (built_bytes s i a d) ≡ 8
    long i p =
        let q = le_of_suc-le-suc p in
        sym (ap length (built-encode s a d e.source e.destination e.differ i q))
        ∙ encode-long s (built_route s i a d) (built-route s a d e.source e.destination e.differ i q).route.few

pub built_accepted : BuiltAccepted
unfolding room_refusal build_answer set_of
built_accepted s t a d z h =
    let p = answered (λ (x : Building). x.refusal.number) no_building (λ r. refl) (ends_refusal s a d) (build_answer s a d) (a_building (set_of (built_arrays s a d))) refl z in
    let e = ends_of s a d p.0 in
    let q : check_answer s t a d (held (set_of (built_arrays s a d))) ≡ none =
    ap (check_answer s t a d) (built-held s a d e)
    ∙ of_accepted s t a d (joined (built_arrays s a d)) (sym (chain_goes _ _ _ _ refl p.0 (table_none h.table))) (built_list s t a d e h) in (
      ap (λ (x : Building). x.routes.count) p.1 ∙ arrays-count s a d,
      ap (λ (x : Building). check_answer s t a d (held x.routes)) p.1 ∙ q,
    )

pub selection_accepted : SelectionAccepted
selection_accepted = selection_checked

-- ---- delivery

-- the numbers f 0, .. , f (m - 1)
up_to : (ℕ → ℕ) → ℕ → List ℕ
up_to f zero = []
up_to f (suc m) = up_to f m ++ (f m ∷ [])

up-long : (f : ℕ → ℕ) (m : ℕ) → length (up_to f m) ≡ m
unfolding up_to
up-long f zero = refl
up-long f (suc m) = length-append (up_to f m) (f m ∷ []) ∙ omega (arith, up-long f m)

up_at : (f : ℕ → ℕ) (m j : ℕ) → j < m → get_or (up_to f m) j 0 ≡ f j
unfolding up_to
up_at f zero j h = let z : ⊥ = omega arith in absurd z
up_at f (suc m) j h =
    elim (ℕ_discrete j m) [
      | yes e ↦ ap (λ (i : ℕ). get_or (up_to f m ++ (f m ∷ [])) i 0) (e ∙ sym (up-long f m)) ∙ get_or-append_seam (up_to f m) (f m) [] 0 ∙ ap f (sym e)
      | no e ↦ get_or-append (up_to f m) (f m ∷ []) 0 j (omega (arith, up-long f m)) ∙ up_at f m j (omega arith)
    ]

-- the neighbour table of server a: each flag 1 where both links of its hop are live, all else zero
pub table_for : Shape → List ℕ → ℕ → List ℕ
table_for s t a = up_to (λ j. cond (eqb (j % 8) 7) (flag_of (live t (j / 8 / 64) a (hop_to s a (j / 8)))) 0) 2048

table_flag : (s : Shape) (t : List ℕ) (a b : ℕ) → b < 256 → flag_at (table_for s t a) b ≡ flag_of (live t (level_of b) a (hop_to s a b))
unfolding flag_at entry table_for
table_flag s t a b h =
    let m : (8 * b + 7) % 8 ≡ 7 = omega arith in
    let n : (8 * b + 7) / 8 ≡ b = omega arith in
    up_at _ 2048 (8 * b + 7) (omega arith)
    ∙ ap₂ (λ (x y : ℕ). cond (eqb x 7) (flag_of (live t (level_of y) a (hop_to s a y))) 0) m n

table-bytes : (s : Shape) (t : List ℕ) (a j : ℕ) → get_or (table_for s t a) j 0 < 256
unfolding table_for
table-bytes s t a j =
    elim (dec_lt j 2048) [
      | yes h ↦ rw (up_at (λ j. cond (eqb (j % 8) 7) (flag_of (live t (j / 8 / 64) a (hop_to s a (j / 8)))) 0) 2048 j h) (small (eqb (j % 8) 7) (live t (j / 8 / 64) a (hop_to s a (j / 8))))
      | no h ↦ let z : length (table_for s t a) ≤ j = omega (arith, up-long (λ j. cond (eqb (j % 8) 7) (flag_of (live t (j / 8 / 64) a (hop_to s a (j / 8)))) 0) 2048) in rw (get_or-eq_default (table_for s t a) 0 z) (lit< tt)
    ]
  where
    small : (x y : Bool) → cond x (flag_of y) 0 < 256
    small true true = lit< tt
    small true false = lit< tt
    small false y = lit< tt

pub tables_exist : TablesExist
unfolding table_for
tables_exist s t = (
  table_for s t,
  record { long = λ a h. up-long _ 2048; agree = λ a h. record { flags = λ b p e. flags a b p } },
  λ a. record { at = table-bytes s t a },
)
  where
    one : (x : Bool) → (flag_of x ≡ 1) ↔ (x ≡ true)
    one true = (λ e. refl, λ e. refl)
    one false = (λ e. let z : ⊥ = omega arith in absurd z, λ e. let z : ◌≡◌ {A = ℕ} 0 1 = cc in let n : ⊥ = omega arith in absurd n)

    flags : (a b : ℕ) → b < 256 → (flag_at (table_for s t a) b ≡ 1) ↔ (live t (level_of b) a (hop_to s a b) ≡ true)
    flags a b p =
        let q = one (live t (level_of b) a (hop_to s a b)) in
        (λ e. q.0 (sym (table_flag s t a b p) ∙ e), λ e. table_flag s t a b p ∙ q.1 e)

-- bytes that are those of a route over live links
pub encoded_delivery : (s : Shape) (t : List ℕ) (a d : ℕ) (bs vs : List ℕ) (tables : ℕ → List ℕ) → Encodes s t a d bs vs → Tables s t tables → Delivers s d bs tables a vs
encoded_delivery s t a d bs vs tables e h = record { hop = each-hop e h; delivered = then-delivered e h }

-- the array at a place of an encoded list is that of the route there
encoded_at : (s : Shape) (vss : List (List ℕ)) → ((i : ℕ) → i < length vss → length (get_or vss i []) ≤ 9) → (i : ℕ) → i < length vss → array_at i (encode_all s vss) ≡ encode s (get_or vss i [])
unfolding encode_all
encoded_at s [] h i p = let z : ⊥ = omega arith in absurd z
encoded_at s (vs ∷ vss) h zero p = take_at (encode s vs) (encode_all s vss) 8 (encode-long s vs (h zero p))
encoded_at s (vs ∷ vss) h (suc i) p =
    let l : length (encode s vs) ≡ 8 = encode-long s vs (h zero (suc-le-suc zero-le)) in
    let m : 8 * suc i ≡ 8 + 8 * i = omega arith in
    ap (λ (j : ℕ). take 8 (drop j (encode s vs ++ encode_all s vss))) m
    ∙ ap (take 8) (past (encode s vs) (encode_all s vss) 8 (8 * i) l)
    ∙ encoded_at s vss (λ j q. h (suc j) (suc-le-suc q)) i (le_of_suc-le-suc p)
  where
    past : (xs ys : List ℕ) (m j : ℕ) → length xs ≡ m → drop (m + j) (xs ++ ys) ≡ drop j ys
    past [] ys zero j l = rw (zero-add j)
    past [] ys (suc m) j l = let z : ⊥ = omega arith in absurd z
    past (x ∷ xs) ys zero j l = let z : ⊥ = omega arith in absurd z
    past (x ∷ xs) ys (suc m) j l = rw (suc-add m j) (past xs ys m j (omega (arith, l)))

-- an array of an accepted list is that of a route over live links
pub accepted_at : (s : Shape) (t : List ℕ) (a d : ℕ) (bs : List ℕ) → check_answer s t a d bs ≡ none → (i : ℕ) → i < length bs / 8 → (vs : List ℕ) × Encodes s t a d (array_at i bs) vs
accepted_at s t a d bs e i p =
    (get_or A.routes i [], record { route = A.each i inside; bytes = ap (array_at i) A.bytes ∙ encoded_at s A.routes few i inside })
  where
    A : Accepted s t a d bs
    A = accepted_of s t a d bs e

    few : (j : ℕ) → j < length A.routes → length (get_or A.routes j []) ≤ 9
    few j q = (A.each j q).route.few

    inside : i < length A.routes
    inside = omega (arith, ap length A.bytes ∙ encoded_long s A.routes few)

-- what reading answers for the bytes of a route
pub encoded_read : {s : Shape} {t : List ℕ} {a d : ℕ} {bs vs : List ℕ} → Encodes s t a d bs vs → read_answer s a d bs ≡ record { refusal = none; count = length vs; servers = filled 9 vs }
encoded_read v = read-given (record { route = route-to-plain v.route; bytes = v.bytes })

pub delivery : Delivery
delivery s t a d bs tables e h i p =
    (rw (ap (λ (x : Reading). x.count) g) v.route.route.some, long, subst (Delivers s d (array_at i bs) tables a) (sym same) (encoded_delivery s t a d (array_at i bs) vs tables v h))
  where
    vs : List ℕ
    vs = (accepted_at s t a d bs e i p).0

    v : Encodes s t a d (array_at i bs) vs
    v = (accepted_at s t a d bs e i p).1

    g : read_answer s a d (array_at i bs) ≡ record { refusal = none; count = length vs; servers = filled 9 vs }
    g = encoded_read v

    same : servers_read s a d (array_at i bs) ≡ vs
    same = ap (λ (x : Reading). take x.count x.servers) g ∙ take-filled 9 vs

    long : length (servers_read s a d (array_at i bs)) ≡ (read_answer s a d (array_at i bs)).count
    long = ap length same ∙ sym (ap (λ (x : Reading). x.count) g)
