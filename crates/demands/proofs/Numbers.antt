-- The number that each chain of tests gives.
use Prim.Native.Nat.{ℕ, zero, suc, ◌+◌, ◌*◌, ◌%◌, ◌≤◌, ◌<◌, suc-le-suc, zero-le}
use mathlib.Core.Path.{◌≡◌, refl, sym, ap, ◌∙◌, subst}
use mathlib.Core.Logic.{◌≢◌, ◌↔◌, inl}
use mathlib.Core.Bool.{Bool, true, false, not, cond, ◌&&◌}
use mathlib.Core.List.{List, [], ◌∷◌, ◌++◌}
use native.Mathlib.Omega.{arith}
use native.Mathlib.Nat.{le_of_suc-le-suc}
use native.Mathlib.Decide.{dec_lt}
use lib.Dec.{ltb, leb, eqb}
use lib.ListN.{length, get_or}
use borrow.Author.Tests.{le-leb, lt-leb, not-true}
use Rattle.lists.proofs.ListLaws.{both_held, in_missing, missing_in, same_self, same_true}
use Rattle.lists.specs.Lists.{is_in, same}
use Rattle.refusals.specs.Refusals.{◌or_else◌, ◌unless◌, OneOf}
use Rattle.refusals.proofs.ChainLaws.{or_else_zero, chain_goes, test_held}
use Rattle.room.specs.declared.Shape.{Shape}
use Rattle.room.specs.Shapes.{servers_of, bound, Valid, Server, Ends}
use Rattle.room.specs.Addresses.{digit, switches_at, differing, Neighbours}
use Rattle.room.specs.Wiring.{port_refusal}
use Rattle.room.specs.Refusals.{shape_refusal, level_refusal, server_refusal, pair_refusal, link_refusal, value_refusal, place_bound, places_fit, places_refusal, ends_refusal}
use Rattle.room.proofs.RefusalLaws.{valid-none, Places, places_of, places_none, ends_of}
use Rattle.room.proofs.RoomLaws.{neighbours-exactly}
use Rattle.trees.specs.Answers.{parent_refusal}
use Rattle.links.specs.Table.{failed, live, bits_fit, table_refusal, room_table_refusal, table_link_refusal, table_server_refusal, TableOf, room_refusal}
use Rattle.links.proofs.TableLaws.{table_of, table_none, live_empty}
use Rattle.summary.specs.Counts.{summary_of}
use Rattle.summary.specs.Refusals.{has_entries, is_counted, are_counted, counted_link_refusal, counted_server_refusal, summary_refusal, entries_refusal}
use Rattle.path.specs.Bytes.{made_refusal, parts_refusal}
use Rattle.path.specs.Routes.{switch_at, switch_to, switches_of, level_of, value_of}
use Rattle.path.specs.Walks.{hop_to, hop_refusal, again, fault, single, write_fault}
use Rattle.path.specs.Answers.{array_refusal, servers_refusal, write_refusal}
use Rattle.verdict.specs.Checks.{list_refusal}
use Rattle.pick.specs.Picks.{fits, lists_refusal}
use Rattle.step.specs.Steps.{flag_at, given_refusal, byte_refusal}
use Rattle.demands.specs.Tests.{Tests, ◌then◌, Number, Hold}
use Rattle.demands.specs.Refusals.{shape_tests, level_tests, server_tests, pair_tests, link_tests, value_tests, port_tests, made_tests, parts_tests, table_server_tests, Fits, places_tests, table_tests, table_link_tests, counted_link_tests, counted_server_tests, summary_tests, entries_tests, ends_tests, parent_tests, room_tests, array_tests, Arrays, check_tests, NotIn, end_of, hop_tests, read_tests, write_tests, servers_tests, given_tests, step_tests}
use Rattle.demands.specs.Summaries.{switch_total, EntryCounts, Summarizes}
use Rattle.demands.proofs.Entries.{entries-exactly, counted-exactly, all-counted-exactly}
use Rattle.demands.proofs.Summaries.{summarizes_exactly}
use Rattle.demands.proofs.Chains.{front, test, chain, after, under, merge, reword, idle, zero_of, one-listed, le, lt, eq, ne, both}

-- ---- conditions in other words

-- a hop crosses two links that are not failed
live-links : (t : List ℕ) (l a b : ℕ) → (live t l a b ≡ true) ↔ ((failed t a l ≡ false) × (failed t b l ≡ false))
unfolding live
live-links t l a b = (
  λ e. let w = both_held (not (failed t a l)) (not (failed t b l)) e in (not-true _ w.0, not-true _ w.1),
  λ p. rw (p.0, p.1),
)

not_in : (x : ℕ) (xs : List ℕ) → (not (is_in x xs) ≡ true) ↔ NotIn x xs
not_in x xs = (λ e. (in_missing x xs (not-true _ e)).not_at, λ h. ap not (missing_in x xs (record { not_at = h })))

-- what comes on a route again
again-number : (met used : List ℕ) (b w : ℕ) → Number ((28, NotIn b met) ∷ (29, NotIn w used) ∷ []) (again met used b w)
unfolding again
again-number met used b w =
    chain ((28, NotIn b met) ∷ []) ((29, NotIn w used) ∷ []) _ _ refl (test 28 (not (is_in b met)) (not_in b met)) (λ h. test 29 (not (is_in w used)) (not_in w used))

valid-held : {s : Shape} → Hold (shape_tests s) → Valid s
valid-held h =
    record { two = h.0.0; ports = h.0.1; levels = h.1.0; some = h.1.1.0.0; most = h.1.1.0.1; small = h.1.1.1.0 }

single-one : (xs : List ℕ) → (single xs ≡ true) ↔ ((x : ℕ) × (xs ≡ x ∷ []))
single-one [] = (λ e. let z : ◌≡◌ {A = ℕ} 0 1 = cc in let n : ⊥ = omega arith in absurd n, λ p. let e = p.1 in let z : ◌≡◌ {A = ℕ} 0 1 = cc in let n : ⊥ = omega arith in absurd n)
single-one (x ∷ []) = (λ e. (x, refl), λ p. refl)
single-one (x ∷ y ∷ xs) = (λ e. let z : ◌≡◌ {A = ℕ} 0 1 = cc in let n : ⊥ = omega arith in absurd n, λ p. let e = p.1 in let z : ◌≡◌ {A = ℕ} 0 1 = cc in let n : ⊥ = omega arith in absurd n)

-- ---- shapes, servers, links, values, digits

module _ (s : Shape) where
  pub shape-number : Number (shape_tests s) (shape_refusal s)
  unfolding shape_refusal
  shape-number =
      chain ((1, (2 ≤ s.n) × (s.n ≤ 64)) ∷ (2, s.k ≤ 3) ∷ (26, (2 ≤ s.m) × (s.m ≤ s.n)) ∷ []) ((3, servers_of s ≤ 4096) ∷ []) _ _ refl
      (chain ((1, (2 ≤ s.n) × (s.n ≤ 64)) ∷ (2, s.k ≤ 3) ∷ []) ((26, (2 ≤ s.m) × (s.m ≤ s.n)) ∷ []) _ _ refl
      (chain ((1, (2 ≤ s.n) × (s.n ≤ 64)) ∷ []) ((2, s.k ≤ 3) ∷ []) _ _ refl
      (test 1 (leb 2 s.n && leb s.n 64) (both _ _ (le 2 s.n) (le s.n 64)))
      (λ h. test 2 (leb s.k 3) (le s.k 3)))
      (λ h. test 26 (leb 2 s.m && leb s.m s.n) (both _ _ (le 2 s.m) (le s.m s.n))))
      (λ h. test 3 (leb (servers_of s) 4096) (le (servers_of s) 4096))

  pub level-number : (l : ℕ) → Number (level_tests s l) (level_refusal s l)
  unfolding level_refusal
  level-number l = chain (shape_tests s) ((20, l ≤ s.k) ∷ []) _ _ refl shape-number (λ h. test 20 (leb l s.k) (le l s.k))

  pub server-number : (a : ℕ) → Number (server_tests s a) (server_refusal s a)
  unfolding server_refusal
  server-number a = chain (shape_tests s) ((4, a < servers_of s) ∷ []) _ _ refl shape-number (λ h. test 4 (ltb a (servers_of s)) (lt a (servers_of s)))

  -- in a valid room
  server_alone : (a : ℕ) → Hold (shape_tests s) → Number ((4, a < servers_of s) ∷ []) (server_refusal s a)
  server_alone a h = after (shape_tests s) ((4, a < servers_of s) ∷ []) (server_refusal s a) h (server-number a)

  pub pair_number : (a b : ℕ) → Number (pair_tests s a b) (pair_refusal s a b)
  unfolding pair_refusal
  pair_number a b =
      under (shape_tests s) ((4, a < servers_of s) ∷ (4, b < servers_of s) ∷ []) (pair_refusal s a b) ((4, (a < servers_of s) × (b < servers_of s)) ∷ []) (λ h. merge 4 (a < servers_of s) (b < servers_of s) [] (pair_refusal s a b))
      (chain (server_tests s a) ((4, b < servers_of s) ∷ []) _ _ refl (server-number a) (λ h. server_alone b (front (shape_tests s) ((4, a < servers_of s) ∷ []) h)))

  pub link-number : (a l : ℕ) → Number (link_tests s a l) (link_refusal s a l)
  unfolding link_refusal
  link-number a l =
      chain (server_tests s a) ((20, l ≤ s.k) ∷ []) _ _ refl (server-number a)
      (λ h. after (shape_tests s) ((20, l ≤ s.k) ∷ []) (level_refusal s l) (front (shape_tests s) ((4, a < servers_of s) ∷ []) h) (level-number l))

  pub parent-number : (a l x : ℕ) → Number (parent_tests s a l x) (parent_refusal s a l x)
  unfolding parent_refusal
  parent-number a l x =
      chain (pair_tests s a x then (20, l ≤ s.k)) ((5, a ≢ x) ∷ []) _ _ refl
      (chain (pair_tests s a x) ((20, l ≤ s.k) ∷ []) _ _ refl (pair_number a x) (λ h. test 20 (leb l s.k) (le l s.k)))
      (λ h. test 5 (not (eqb a x)) (ne a x))

  pub value-number : (a l v : ℕ) → Number (value_tests s a l v) (value_refusal s a l v)
  unfolding value_refusal
  value-number a l v = chain (link_tests s a l) ((21, v < bound s l) ∷ []) _ _ refl (link-number a l) (λ h. test 21 (ltb v (bound s l)) (lt v (bound s l)))

  pub port-number : (l w v : ℕ) → Number (port_tests s l w v) (port_refusal s l w v)
  unfolding port_refusal
  port-number l w v =
      chain (level_tests s l) ((21, (w < switches_at s l) × (v < bound s l)) ∷ []) _ _ refl (level-number l)
      (λ h. test 21 (ltb w (switches_at s l) && ltb v (bound s l)) (both _ _ (lt w (switches_at s l)) (lt v (bound s l))))

  pub made-number : (l v : ℕ) → Number (made_tests s l v) (made_refusal s l v)
  unfolding made_refusal
  made-number l v = chain (level_tests s l) ((21, v < bound s l) ∷ []) _ _ refl (level-number l) (λ h. test 21 (ltb v (bound s l)) (lt v (bound s l)))

  pub parts_number : (b : ℕ) → Number (parts_tests s b) (parts_refusal s b)
  unfolding parts_refusal
  parts_number b =
      chain ((8, level_of b ≤ s.k) ∷ []) ((9, value_of b < bound s (level_of b)) ∷ []) _ _ refl
      (test 8 (leb (level_of b) s.k) (le (level_of b) s.k))
      (λ h. test 9 (ltb (value_of b) (bound s (level_of b))) (lt (value_of b) (bound s (level_of b))))

  fits_of : {ds : List ℕ} → Places s ds → Fits s ds
  unfolding place_bound
  fits_of {ds} h =
      record {
        digits = λ i p q. subst (λ (x : Bool). get_or ds i 0 < cond x (bound s i) 1) (le-leb i s.k q) (h.at i p);
        above = λ i p q. let w : get_or ds i 0 < 1 = subst (λ (x : Bool). get_or ds i 0 < cond x (bound s i) 1) (lt-leb i s.k q) (h.at i p) in omega arith;
      }

  of_fits : {ds : List ℕ} → Valid s → Fits s ds → Places s ds
  unfolding place_bound
  of_fits {ds} v h = record { valid = v; at = at }
    where
      at : (i : ℕ) → i < length ds → get_or ds i 0 < cond (leb i s.k) (bound s i) 1
      at i p =
          elim (dec_lt s.k i) [
            | yes q ↦ let z = h.above i p q in
                let w : get_or ds i 0 < 1 = omega arith in subst (λ (x : Bool). get_or ds i 0 < cond x (bound s i) 1) (sym (lt-leb i s.k q)) w
            | no q ↦ let r : i ≤ s.k = omega arith in
                subst (λ (x : Bool). get_or ds i 0 < cond x (bound s i) 1) (sym (le-leb i s.k r)) (h.digits i p r)
          ]

  pub places_number : (ds : List ℕ) → Number (places_tests s ds) (places_refusal s ds)
  unfolding places_refusal
  places_number ds =
      chain (shape_tests s) ((21, Fits s ds) ∷ []) _ _ refl shape-number
      (λ h. test 21 (places_fit s 0 ds) (
        λ e. fits_of (places_of s ds (sym (chain_goes _ _ _ _ (valid-none (valid-held h)) refl (ap (λ (x : Bool). 21 unless x) (sym e))))),
        λ f. test_held (places_fit s 0 ds) 20 (or_else_zero (shape_refusal s) (21 unless places_fit s 0 ds) (sym (places_none (of_fits (valid-held h) f)))).1,
      ))

  -- ---- tables, ends, lists

  table_alone : (t : List ℕ) → Number ((6, TableOf s t) ∷ []) (table_refusal s t)
  unfolding table_refusal
  table_alone t =
      test 6 (eqb (length t) (servers_of s) && bits_fit s.k t)
      (λ e. table_of s t (ap (λ (x : Bool). 6 unless x) e), λ h. test_held _ 5 (sym (table_none h)))

  pub table-number : (t : List ℕ) → Number (table_tests s t) (room_table_refusal s t)
  unfolding room_table_refusal
  table-number t = chain (shape_tests s) ((6, TableOf s t) ∷ []) _ _ refl shape-number (λ h. table_alone t)

  pub table-link-number : (t : List ℕ) (a l : ℕ) → Number (table_link_tests s t a l) (table_link_refusal s t a l)
  unfolding table_link_refusal
  table-link-number t a l = chain (link_tests s a l) ((6, TableOf s t) ∷ []) _ _ refl (link-number a l) (λ h. table_alone t)

  pub table-server-number : (t : List ℕ) (a : ℕ) → Number (table_server_tests s t a) (table_server_refusal s t a)
  unfolding table_server_refusal
  table-server-number t a = chain (server_tests s a) ((6, TableOf s t) ∷ []) _ _ refl (server-number a) (λ h. table_alone t)

  pub counted-link-number : (t c : List ℕ) (a l : ℕ) → Number (counted_link_tests s t c a l) (counted_link_refusal s t c a l)
  unfolding counted_link_refusal
  counted-link-number t c a l =
      chain (table_link_tests s t a l) ((30, (length c ≡ switch_total s) × EntryCounts s t c a l) ∷ []) _ _ refl (table-link-number t a l)
      (λ h. test 30 (has_entries s c && is_counted s t c a l) (both _ _ (entries-exactly s c) (counted-exactly s t c a l)))

  pub counted-server-number : (t c : List ℕ) (a : ℕ) → Number (counted_server_tests s t c a) (counted_server_refusal s t c a)
  unfolding counted_server_refusal
  counted-server-number t c a =
      chain (table_server_tests s t a) ((30, (length c ≡ switch_total s) × ((l : ℕ) → l ≤ s.k → EntryCounts s t c a l)) ∷ []) _ _ refl (table-server-number t a)
      (λ h. test 30 (has_entries s c && are_counted s t c a (suc s.k)) (both _ _ (entries-exactly s c) (all-counted-exactly s t c a)))

  pub summary_number : (t c : List ℕ) → Number (summary_tests s t c) (summary_refusal s t c)
  unfolding summary_refusal
  summary_number t c =
      chain (table_tests s t) ((30, Summarizes s t c) ∷ []) _ _ refl (table-number t)
      (λ h. test 30 (same c (summary_of s t)) (
        λ e. (summarizes_exactly s t c).1 (same_true c (summary_of s t) e),
        λ e. ap (same c) (sym ((summarizes_exactly s t c).0 e)) ∙ same_self c,
      ))

  pub entries-number : (t c : List ℕ) → Number (entries_tests s t c) (entries_refusal s t c)
  unfolding entries_refusal
  entries-number t c =
      chain (table_tests s t) ((30, length c ≡ switch_total s) ∷ []) _ _ refl (table-number t) (λ h. test 30 (has_entries s c) (entries-exactly s c))

  pub ends_number : (a d : ℕ) → Number (ends_tests s a d) (ends_refusal s a d)
  unfolding ends_refusal
  ends_number a d = chain (pair_tests s a d) ((5, a ≢ d) ∷ []) _ _ refl (pair_number a d) (λ h. test 5 (not (eqb a d)) (ne a d))

  pub ends_hold : (a d : ℕ) → Hold (ends_tests s a d) → Ends s a d
  ends_hold a d h = ends_of s a d (zero_of (ends_tests s a d) (ends_refusal s a d) (ends_number a d) h)

  pub array-number : (a d : ℕ) (bs : List ℕ) → Number (array_tests s a d bs) (array_refusal s a d bs)
  unfolding array_refusal
  array-number a d bs = chain (ends_tests s a d) ((7, length bs ≡ 8) ∷ []) _ _ refl (ends_number a d) (λ h. test 7 (eqb (length bs) 8) (eq (length bs) 8))

  pub room-number : (t : List ℕ) (a d : ℕ) → Number (room_tests s t a d) (room_refusal s t a d)
  unfolding room_refusal
  room-number t a d = chain (ends_tests s a d) ((6, TableOf s t) ∷ []) _ _ refl (ends_number a d) (λ h. table_alone t)

  pub list_number : (t : List ℕ) (a d : ℕ) (bs : List ℕ) → Number (check_tests s t a d bs) (list_refusal s t a d bs)
  unfolding list_refusal room_refusal
  list_number t a d bs =
      chain (room_tests s t a d) ((7, Arrays s bs × (1 ≤ length bs)) ∷ []) _ _ refl (room-number t a d)
      (λ h. test 7 (eqb (length bs % 8) 0 && (leb 1 (length bs) && leb (length bs) (8 * suc s.k))) (
        λ e. let w = b.0 e in ((w.0, omega (arith, w.1.1)), w.1.0),
        λ p. b.1 (p.0.0, (p.1, omega (arith, p.0.1))),
      ))
    where
      b : ((eqb (length bs % 8) 0 && (leb 1 (length bs) && leb (length bs) (8 * suc s.k))) ≡ true) ↔ ((length bs % 8 ≡ 0) × ((1 ≤ length bs) × (length bs ≤ 8 * suc s.k)))
      b = both _ _ (eq (length bs % 8) 0) (both _ _ (le 1 (length bs)) (le (length bs) (8 * suc s.k)))

  fits-arrays : (bs : List ℕ) → (fits s (length bs) ≡ true) ↔ Arrays s bs
  unfolding fits
  fits-arrays bs = both _ _ (eq (length bs % 8) 0) (le (length bs) (8 * (s.k + 1)))

  pub lists_number : (t : List ℕ) (a d : ℕ) (fs ks : List ℕ) → Number (room_tests s t a d ++ ((7, Arrays s fs × Arrays s ks) ∷ [])) (lists_refusal s t a d fs ks)
  unfolding lists_refusal room_refusal
  lists_number t a d fs ks =
      chain (room_tests s t a d) ((7, Arrays s fs × Arrays s ks) ∷ []) _ _ refl (room-number t a d)
      (λ h. test 7 (fits s (length fs) && fits s (length ks)) (both _ _ (fits-arrays fs) (fits-arrays ks)))

  -- ---- hops

  pub hop-number : (a b : ℕ) → Number (hop_tests s a b) (hop_refusal s a b)
  unfolding hop_refusal
  hop-number a b =
      chain ((8, level_of b ≤ s.k) ∷ (9, value_of b < bound s (level_of b)) ∷ []) ((10, digit s (level_of b) a ≢ value_of b) ∷ []) _ _ refl
      (chain ((8, level_of b ≤ s.k) ∷ []) ((9, value_of b < bound s (level_of b)) ∷ []) _ _ refl
      (test 8 (leb (level_of b) s.k) (le (level_of b) s.k))
      (λ h. test 9 (ltb (value_of b) (bound s (level_of b))) (lt (value_of b) (bound s (level_of b)))))
      (λ h. test 10 (not (eqb (digit s (level_of b) a) (value_of b))) (ne (digit s (level_of b) a) (value_of b)))

  module _ (t met used : List ℕ) (a b : ℕ) where
    abbrev links : Type 0
    links = (failed t a (level_of b) ≡ false) × (failed t (hop_to s a b) (level_of b) ≡ false)

    abbrev new-server : Type 0
    new-server = NotIn (hop_to s a b) met

    abbrev new-switch : Type 0
    new-switch = NotIn (switch_at s (level_of b) a) used

    -- the tests of a walk that has met these servers and used these switches
    pub fault-number : Number (hop_tests s a b ++ ((11, links) ∷ (28, new-server) ∷ (29, new-switch) ∷ [])) (fault s t met used a b)
    unfolding fault
    fault-number =
        chain (hop_tests s a b ++ ((11, links) ∷ [])) ((28, new-server) ∷ (29, new-switch) ∷ []) _ _ refl
        (chain (hop_tests s a b) ((11, links) ∷ []) _ _ refl (hop-number a b) (λ h. test 11 (live t (level_of b) a (hop_to s a b)) (live-links t (level_of b) a (hop_to s a b))))
        (λ h. again-number met used (hop_to s a b) (switch_at s (level_of b) a))

  -- plain reading has no 11
  pub plain-numbers : (met used : List ℕ) (a b : ℕ) → OneOf (8 ∷ 9 ∷ 10 ∷ 28 ∷ 29 ∷ []) (fault s [] met used a b)
  plain-numbers met used a b =
      let q = fault s [] met used a b in
      let l = links [] met used a b in
      let f : Tests = (28, new-server [] met used a b) ∷ (29, new-switch [] met used a b) ∷ [] in
      one-listed (hop_tests s a b ++ f) q
      (under (hop_tests s a b) ((11, l) ∷ f) q f (λ h. idle 11 l f q ((live-links [] (level_of b) a (hop_to s a b)).0 (live_empty (level_of b) a (hop_to s a b)))) (fault-number [] met used a b))

  pub read_number : (t vs : List ℕ) (b : ℕ) → Number (read_tests s t vs b) (fault s t vs (switches_of s vs) (end_of vs) b)
  read_number t vs b = fault-number t vs (switches_of s vs) (end_of vs) b

  -- ---- writing

  module _ (met used : List ℕ) (a b : ℕ) where
    abbrev fresh : Tests
    fresh = (28, NotIn b met) ∷ (29, NotIn (switch_to s a b) used) ∷ []

    write-fault-number : Number ((23, single (differing s a b) ≡ true) ∷ fresh) (write_fault s met used a b)
    unfolding write_fault
    write-fault-number =
        chain ((23, single (differing s a b) ≡ true) ∷ []) fresh _ _ refl (test 23 (single (differing s a b)) (λ e. e, λ e. e))
        (λ h. again-number met used b (switch_to s a b))

  single-neighbours : {a b : ℕ} → Server s a → Server s b → (single (differing s a b) ≡ true) ↔ ((l : ℕ) × Neighbours s l a b)
  single-neighbours {a} {b} ha hb = (
    λ e. let w = (single-one (differing s a b)).0 e in (w.0, (neighbours-exactly ha hb w.0).0 w.1),
    λ p. (single-one (differing s a b)).1 (p.0, (neighbours-exactly ha hb p.0).1 p.1),
  )

  pub write-hop-number : (vs : List ℕ) (b : ℕ) → Server s (end_of vs) → Server s b → Number (write_tests s vs b) (write_fault s vs (switches_of s vs) (end_of vs) b)
  write-hop-number vs b ha hb =
      reword 23 (single (differing s (end_of vs) b) ≡ true) ((l : ℕ) × Neighbours s l (end_of vs) b) (fresh vs (switches_of s vs) (end_of vs) b) (write_fault s vs (switches_of s vs) (end_of vs) b) (single-neighbours ha hb)
      (write-fault-number vs (switches_of s vs) (end_of vs) b)

  -- each of these is below N
  abbrev below : List ℕ → Type 0
  below vs = (i : ℕ) → i < length vs → get_or vs i 0 < servers_of s

  below_all : (v : ℕ) (vs : List ℕ) → ((v < servers_of s) × below vs) ↔ below (v ∷ vs)
  below_all v vs = (λ p. at p.0 p.1, λ f. (f zero (suc-le-suc zero-le), λ i h. f (suc i) (suc-le-suc h)))
    where
      at : v < servers_of s → below vs → below (v ∷ vs)
      at h f zero p = h
      at h f (suc i) p = f i (le_of_suc-le-suc p)

  servers_alone : (vs : List ℕ) → Hold (shape_tests s) → Number ((4, below vs) ∷ []) (servers_refusal s vs)
  unfolding servers_refusal
  servers_alone [] h = inl (λ i p. let z : ⊥ = omega arith in absurd z, refl)
  servers_alone (v ∷ vs) h =
      let q = server_refusal s v or_else servers_refusal s vs in
      reword 4 ((v < servers_of s) × below vs) (below (v ∷ vs)) [] q (below_all v vs)
      (merge 4 (v < servers_of s) (below vs) [] q (chain ((4, v < servers_of s) ∷ []) ((4, below vs) ∷ []) _ _ refl (server_alone v h) (λ k. servers_alone vs h)))

  pub write-number : (vs : List ℕ) → Number (servers_tests s vs) (write_refusal s vs)
  unfolding write_refusal
  write-number vs =
      let count = (2 ≤ length vs) × (length vs ≤ 9) in
      chain (shape_tests s ++ ((22, count) ∷ (4, below vs) ∷ [])) ((5, get_or vs 0 0 ≢ end_of vs) ∷ []) _ _ refl
      (chain (shape_tests s ++ ((22, count) ∷ [])) ((4, below vs) ∷ []) _ _ refl
      (chain (shape_tests s) ((22, count) ∷ []) _ _ refl shape-number (λ h. test 22 (leb 2 (length vs) && leb (length vs) 9) (both _ _ (le 2 (length vs)) (le (length vs) 9))))
      (λ h. servers_alone vs (front (shape_tests s) ((22, count) ∷ []) h)))
      (λ h. test 5 (not (eqb (get_or vs 0 0) (end_of vs))) (ne (get_or vs 0 0) (end_of vs)))

  -- ---- a step

  pub given-number : (a d : ℕ) (bs e : List ℕ) → Number (given_tests s a d bs e) (given_refusal s a d bs e)
  unfolding given_refusal
  given-number a d bs e =
      chain (pair_tests s a d ++ ((17, length e ≡ 2048) ∷ [])) ((7, length bs ≡ 8) ∷ []) _ _ refl
      (chain (pair_tests s a d) ((17, length e ≡ 2048) ∷ []) _ _ refl (pair_number a d) (λ h. test 17 (eqb (length e) 2048) (eq (length e) 2048)))
      (λ h. test 7 (eqb (length bs) 8) (eq (length bs) 8))

  pub byte-number : (a : ℕ) (e : List ℕ) (b : ℕ) → Number (step_tests s a e b) (byte_refusal s a e b)
  unfolding byte_refusal
  byte-number a e b = chain (hop_tests s a b) ((19, flag_at e b ≡ 1) ∷ []) _ _ refl (hop-number a b) (λ h. test 19 (eqb (flag_at e b) 1) (eq (flag_at e b) 1))
