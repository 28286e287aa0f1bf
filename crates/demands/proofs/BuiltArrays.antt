-- Demand 2, proved: the route set, and what building answers.
use Prim.Native.Nat.{ℕ, zero, suc, ◌+◌, ◌-◌, ◌*◌, ◌%◌, ◌≤◌, ◌<◌}
use mathlib.Core.Path.{◌≡◌, refl, sym, ap, subst, ◌∙◌}
use mathlib.Core.Logic.{◌≢◌}
use mathlib.Core.Bool.{Bool, true, false, cond, ◌||◌}
use mathlib.Core.List.{List, [], ◌∷◌, ◌++◌}
use native.Mathlib.Omega.{arith}
use native.Mathlib.Numerals.{add-one}
use native.Mathlib.Nat.{mod_self, mod-eq_of_lt}
use native.Mathlib.Decide.{dec_lt}
use borrow.Author.Tests.{eq-eqb, ne_eqb, eqb-false}
use lib.Dec.{eqb}
use lib.ListN.{length, get_or, set}
use lib.Seq.{get_or-set_same, get_or-set_other}
use Rattle.lists.specs.Lists.{is_in, filled, down_from}
use Rattle.refusals.proofs.AnswerLaws.{answered}
use Rattle.room.specs.declared.Shape.{Shape}
use Rattle.room.specs.Shapes.{bound, Ends}
use Rattle.room.specs.Addresses.{digits, digit}
use Rattle.room.proofs.RoomLaws.{bound-two, digits_long, digit_lt}
use Rattle.room.specs.Refusals.{ends_refusal}
use Rattle.room.proofs.RefusalLaws.{ends_of}
use Rattle.path.specs.Routes.{byte_of}
use Rattle.build.specs.declared.RouteSet.{RouteSet}
use Rattle.build.specs.Told.{Building}
use Rattle.build.specs.Built.{first_in, last_in, correct, plus_one, built_hops, bytes_of, built_route, built_bytes, built_arrays}
use Rattle.build.specs.Sets.{array_in, set_of}
use Rattle.build.specs.Answers.{no_building, a_building, build_answer}
use Rattle.build.proofs.SetLaws.{added_full, added_is, added-array, added-others, placed-long, set-array, set_rest}
use Rattle.build.proofs.ArrayLaws.{arrays-eight, arrays-count, arrays-at}
use Rattle.build.proofs.BuiltLaws.{built-route, built-encode, built-direct, built-detour, built-short, route-long}
use Rattle.demands.specs.Demand2.{AddingExactly, above, wrong, corrections, BuiltArray, BuiltSet, BuiltExactly}

-- ---- the route set

pub adding_exactly : AddingExactly
adding_exactly r x l e = (
  λ h.
      let i = added_is r x h in
      record {
        count = ap (λ (q : RouteSet). q.count) i;
        long = ap (λ (q : RouteSet). length q.bytes) i ∙ placed-long (8 * r.count) x r.bytes e (omega arith) ∙ l;
        own = added-array r x l e h;
        others = added-others r x l e;
      },
  λ h. sym (added_full r x h),
)

-- ---- the two orders

-- the levels other than i in the order of both rules: i-1, .. , 0, k, .. , i+1
abbrev others : ℕ → ℕ → List ℕ
others k i = down_from i ++ above k i

record Orders (k i : ℕ) : Type 0 where
  first : first_in k i ≡ i ∷ others k i
  last : last_in k i ≡ others k i ++ (i ∷ [])
  once : is_in i (others k i) ≡ false

orders : (k i : ℕ) → k ≤ 3 → i ≤ k → Orders k i
unfolding is_in
orders zero zero h p = record { first = refl; last = refl; once = refl }
orders (suc zero) zero h p = record { first = refl; last = refl; once = refl }
orders (suc zero) (suc zero) h p = record { first = refl; last = refl; once = refl }
orders (suc (suc zero)) zero h p = record { first = refl; last = refl; once = refl }
orders (suc (suc zero)) (suc zero) h p = record { first = refl; last = refl; once = refl }
orders (suc (suc zero)) (suc (suc zero)) h p = record { first = refl; last = refl; once = refl }
orders (suc (suc (suc zero))) zero h p = record { first = refl; last = refl; once = refl }
orders (suc (suc (suc zero))) (suc zero) h p = record { first = refl; last = refl; once = refl }
orders (suc (suc (suc zero))) (suc (suc zero)) h p = record { first = refl; last = refl; once = refl }
orders (suc (suc (suc zero))) (suc (suc (suc zero))) h p = record { first = refl; last = refl; once = refl }
orders zero (suc i) h p = let z : ⊥ = omega arith in absurd z
orders (suc zero) (suc (suc i)) h p = let z : ⊥ = omega arith in absurd z
orders (suc (suc zero)) (suc (suc (suc i))) h p = let z : ⊥ = omega arith in absurd z
orders (suc (suc (suc zero))) (suc (suc (suc (suc i)))) h p = let z : ⊥ = omega arith in absurd z
orders (suc (suc (suc (suc k)))) i h p = let z : ⊥ = omega arith in absurd z

-- ---- corrections in an order

-- one level of an order
step : (b : Bool) (l v : ℕ) (hs : List (ℕ × ℕ)) (bs : List ℕ) → bytes_of hs ≡ bs → bytes_of (cond b hs ((l, v) ∷ hs)) ≡ cond b bs ((64 * l + v) ∷ bs)
unfolding bytes_of byte_of
step true l v hs bs e = e
step false l v hs bs e = ap (λ (x : List ℕ). (64 * l + v) ∷ x) e

fixed : (b : Bool) (s : Shape) (d l : ℕ) (ls : List ℕ) → cond b (corrections s d ls) ((64 * l + digit s l d) ∷ corrections s d ls) ≡ corrections s d (cond b ls (l ∷ ls))
fixed true s d l ls = refl
fixed false s d l ls = refl

corrected : (s : Shape) (a d : ℕ) (ls : List ℕ) → bytes_of (correct eqb 0 ls (digits s a) (digits s d)) ≡ corrections s d (wrong s a d ls)
unfolding bytes_of digit
corrected s a d [] = refl
corrected s a d (l ∷ ls) =
    step (eqb (digit s l a) (digit s l d)) l (digit s l d) _ _ (corrected s a d ls)
    ∙ fixed (eqb (digit s l a) (digit s l d)) s d l (wrong s a d ls)

-- with digit i set to v, which is not d's, and i coming last
corrected_last : (s : Shape) (a d i v : ℕ) (ls : List ℕ) → i ≤ s.k → v ≢ digit s i d → is_in i ls ≡ false → bytes_of (correct eqb 0 (ls ++ (i ∷ [])) (set (digits s a) i v) (digits s d)) ≡ corrections s d (wrong s a d ls) ++ ((64 * i + digit s i d) ∷ [])
unfolding bytes_of byte_of digit is_in
corrected_last s a d i v [] p n e =
    let q : get_or (set (digits s a) i v) i 0 ≡ v = get_or-set_same (digits s a) i v 0 (omega (arith, digits_long s a)) in
    let w : eqb (get_or (set (digits s a) i v) i 0) (get_or (digits s d) i 0) ≡ false = ap (λ (x : ℕ). eqb x (digit s i d)) q ∙ ne_eqb v (digit s i d) n in
    ap (λ (b : Bool). bytes_of (cond b [] ((i, get_or (digits s d) i 0) ∷ []))) w
corrected_last s a d i v (l ∷ ls) p n e =
    let o = or-false (eqb i l) (is_in i ls) e in
    let q : get_or (set (digits s a) i v) l 0 ≡ get_or (digits s a) l 0 = get_or-set_other (digits s a) i l v 0 (λ w. eqb-false i l o.0 (sym w)) in
    let w : eqb (get_or (set (digits s a) i v) l 0) (get_or (digits s d) l 0) ≡ eqb (digit s l a) (digit s l d) = ap (λ (x : ℕ). eqb x (digit s l d)) q in
    let b = eqb (digit s l a) (digit s l d) in
    ap (λ (c : Bool). bytes_of (cond c (correct eqb 0 (ls ++ (i ∷ [])) (set (digits s a) i v) (digits s d)) ((l, digit s l d) ∷ correct eqb 0 (ls ++ (i ∷ [])) (set (digits s a) i v) (digits s d)))) w
    ∙ step b l (digit s l d) _ _ (corrected_last s a d i v ls p n o.1)
    ∙ joined b (64 * l + digit s l d) (corrections s d (wrong s a d ls)) ((64 * i + digit s i d) ∷ [])
    ∙ ap (λ (x : List ℕ). x ++ ((64 * i + digit s i d) ∷ [])) (fixed b s d l (wrong s a d ls))
  where
    or-false : (x y : Bool) → x || y ≡ false → (x ≡ false) × (y ≡ false)
    or-false true y h = let z : ◌≡◌ {A = ℕ} 0 1 = cc in let n : ⊥ = omega arith in absurd n
    or-false false y h = (refl, h)

    joined : (c : Bool) (x : ℕ) (xs ys : List ℕ) → cond c (xs ++ ys) (x ∷ (xs ++ ys)) ≡ cond c xs (x ∷ xs) ++ ys
    joined true x xs ys = refl
    joined false x xs ys = refl

-- the value of a detour is another one
other-value : (n x : ℕ) → 2 ≤ n → x < n → (x + 1) % n ≢ x
other-value n x h p =
    elim (dec_lt (x + 1) n) [
      | yes q ↦ λ e. omega (arith, mod-eq_of_lt q)
      | no q ↦ λ e. let w : x + 1 ≡ n = omega arith in let z : (x + 1) % n ≡ 0 = ap (λ (y : ℕ). y % n) w ∙ mod_self n in omega arith
    ]

-- ---- the arrays

module _ {s : Shape} {a d : ℕ} (h : Ends s a d) (i : ℕ) (p : i ≤ s.k) where
  order : Orders s.k i
  order = orders s.k i h.source.valid.levels p

  direct : digit s i a ≢ digit s i d → built_bytes s i a d ≡ filled 8 (corrections s d (wrong s a d (i ∷ others s.k i)))
  unfolding built_bytes built_hops digit
  direct n =
      ap (λ (b : Bool). filled 8 (bytes_of (cond b ((i, plus_one s i (digit s i a)) ∷ correct eqb 0 (last_in s.k i) (set (digits s a) i (plus_one s i (digit s i a))) (digits s d)) (correct eqb 0 (first_in s.k i) (digits s a) (digits s d))))) (ne_eqb (digit s i a) (digit s i d) n)
      ∙ ap (λ (ls : List ℕ). filled 8 (bytes_of (correct eqb 0 ls (digits s a) (digits s d)))) order.first
      ∙ ap (filled 8) (corrected s a d (i ∷ others s.k i))

  detour : digit s i a ≡ digit s i d → built_bytes s i a d ≡ filled 8 ((64 * i + (digit s i a + 1) % bound s i) ∷ (corrections s d (wrong s a d (others s.k i)) ++ ((64 * i + digit s i d) ∷ [])))
  unfolding built_bytes built_hops bytes_of byte_of digit plus_one
  detour e =
      let v : ℕ = (digit s i a + 1) % bound s i in
      let n : v ≢ digit s i d = λ q. other-value (bound s i) (digit s i a) (bound-two h.source.valid i) (digit_lt h.source i p) (q ∙ sym e) in
      ap (λ (b : Bool). filled 8 (bytes_of (cond b ((i, v) ∷ correct eqb 0 (last_in s.k i) (set (digits s a) i v) (digits s d)) (correct eqb 0 (first_in s.k i) (digits s a) (digits s d))))) (eq-eqb (digit s i a) (digit s i d) e)
      ∙ ap (λ (ls : List ℕ). filled 8 ((64 * i + v) ∷ bytes_of (correct eqb 0 ls (set (digits s a) i v) (digits s d)))) order.last
      ∙ ap (λ (x : List ℕ). filled 8 ((64 * i + v) ∷ x)) (corrected_last s a d i v (others s.k i) p n order.once)

  long : length (built_route s i a d) ≡ suc (length (built_hops s i a d))
  long = route-long s a d h.source h.destination h.differ i p

  array : BuiltArray s a d i (built_bytes s i a d)
  array =
      record {
        route = record {
          route = built-route s a d h.source h.destination h.differ i p;
          bytes = sym (built-encode s a d h.source h.destination h.differ i p);
        };
        direct = direct;
        detour = detour;
        direct_hops = λ q. omega (arith, long, built-direct s a d h.source h.destination h.differ i p q);
        detour_hops = λ q. omega (arith, long, built-detour s a d h.source h.destination h.differ i p q);
        short = omega (arith, long, built-short s a d h.source h.destination h.differ i p);
      }

-- the array of slot i in the set
pub slot-array : {s : Shape} {a d : ℕ} → Ends s a d → (i : ℕ) → i ≤ s.k → array_in (s.k - i) (set_of (built_arrays s a d)) ≡ built_bytes s i a d
slot-array {s} {a} {d} h i p =
    let e : s.k - (s.k - i) ≡ i = omega arith in
    set-array (built_arrays s a d) (arrays-eight h) (s.k - i) (omega (arith, arrays-count s a d))
    ∙ arrays-at s a d (s.k - i) (omega arith)
    ∙ ap (λ (j : ℕ). built_bytes s j a d) e

built-set : {s : Shape} {a d : ℕ} → Ends s a d → BuiltSet s a d (set_of (built_arrays s a d))
unfolding set_of
built-set {s} {a} {d} h =
    record {
      count = arrays-count s a d ∙ sym (add-one s.k);
      slot = λ i p. subst (BuiltArray s a d i) (sym (slot-array h i p)) (array h i p);
      past = set_rest (built_arrays s a d) (arrays-eight h);
    }

pub built-exactly : BuiltExactly
unfolding build_answer
built-exactly s a d z =
    let p = answered (λ (x : Building). x.refusal.number) no_building (λ r. refl) (ends_refusal s a d) (build_answer s a d) (a_building (set_of (built_arrays s a d))) refl z in
    subst (λ (x : Building). BuiltSet s a d x.routes) (sym p.1) (built-set (ends_of s a d p.0))
