-- Laws of the route set: adding arrays one after another to the empty set makes the set of them.
use Prim.Native.Nat.{ℕ, zero, suc, ◌+◌, ◌-◌, ◌*◌, ◌≤◌, ◌<◌}
use mathlib.Core.Path.{◌≡◌, refl, sym, ap, ap₂, ◌∙◌}
use mathlib.Core.Logic.{◌≢◌}
use mathlib.Core.Bool.{Bool, cond}
use mathlib.Core.List.{List, [], ◌∷◌, ◌++◌, append_assoc, append-nil}
use native.Mathlib.Omega.{arith}
use borrow.Author.Tests.{lt-ltb, le-ltb}
use native.Mathlib.Decide.{dec_lt}
use lib.ListN.{length, get_or, take, drop, replicate, length-append, length-drop, get_or-append}
use lib.Seq.{take_at, drop_at, drop-append-add, take_all, length-take-le, get_or-take, get_or-drop, get_or-append-add, ext_get_or, paste}
use Rattle.lists.specs.Lists.{filled}
use Rattle.lists.proofs.ListLaws.{All, all_snoc, length_snoc, drop-zeros}
use Rattle.build.specs.declared.RouteSet.{RouteSet}
use Rattle.build.specs.Sets.{empty_set, placed, added, array_in, joined, set_of}

abbrev pub set_from : List ℕ → ℕ → RouteSet
set_from bytes count = record { bytes = bytes; count = count }

-- ---- one array

pub added_full : (r : RouteSet) (route : List ℕ) → 4 ≤ r.count → r ≡ added r route
unfolding added
added_full r route h = sym (ap (λ (t : Bool). cond t (set_from (placed (8 * r.count) route r.bytes) (r.count + 1)) r) (le-ltb r.count 4 h))

pub added_more : (r : RouteSet) (route bytes : List ℕ) → r.count < 4 → bytes ≡ placed (8 * r.count) route r.bytes → set_from bytes (r.count + 1) ≡ added r route
unfolding added
added_more r route bytes h e =
    ap (λ (x : List ℕ). set_from x (r.count + 1)) e
    ∙ sym (ap (λ (t : Bool). cond t (set_from (placed (8 * r.count) route r.bytes) (r.count + 1)) r) (lt-ltb r.count 4 h))

pub added_is : (r : RouteSet) (route : List ℕ) → r.count < 4 → added r route ≡ set_from (placed (8 * r.count) route r.bytes) (r.count + 1)
added_is r route h = sym (added_more r route (placed (8 * r.count) route r.bytes) h refl)

placed-before : (p : ℕ) (route bytes : List ℕ) (i : ℕ) → i < p → p ≤ length bytes → get_or (placed p route bytes) i 0 ≡ get_or bytes i 0
unfolding placed
placed-before p route bytes i h q =
    let l : length (take p bytes) ≡ p = length-take-le p bytes q in
    get_or-append (take p bytes ++ route) (drop (p + 8) bytes) 0 i (omega (arith, length-append (take p bytes) route))
    ∙ get_or-append (take p bytes) route 0 i (omega arith)
    ∙ get_or-take p bytes i 0 h

placed-within : (p : ℕ) (route bytes : List ℕ) (i : ℕ) → i < length route → p ≤ length bytes → get_or (placed p route bytes) (p + i) 0 ≡ get_or route i 0
unfolding placed
placed-within p route bytes i h q =
    let l : length (take p bytes) ≡ p = length-take-le p bytes q in
    get_or-append (take p bytes ++ route) (drop (p + 8) bytes) 0 (p + i) (omega (arith, length-append (take p bytes) route))
    ∙ ap (λ (m : ℕ). get_or (take p bytes ++ route) (m + i) 0) (sym l)
    ∙ get_or-append-add (take p bytes) route i 0

placed-after : (p : ℕ) (route bytes : List ℕ) (i : ℕ) → length route ≡ 8 → p ≤ length bytes → get_or (placed p route bytes) (p + 8 + i) 0 ≡ get_or bytes (p + 8 + i) 0
unfolding placed
placed-after p route bytes i h q =
    let l : length (take p bytes ++ route) ≡ p + 8 = omega (arith, length-append (take p bytes) route, length-take-le p bytes q) in
    ap (λ (m : ℕ). get_or (take p bytes ++ route ++ drop (p + 8) bytes) (m + i) 0) (sym l)
    ∙ get_or-append-add (take p bytes ++ route) (drop (p + 8) bytes) i 0
    ∙ get_or-drop (p + 8) bytes i 0

pub placed-long : (p : ℕ) (route bytes : List ℕ) → length route ≡ 8 → p + 8 ≤ length bytes → length (placed p route bytes) ≡ length bytes
unfolding placed
placed-long p route bytes h q =
    omega (arith, length-append (take p bytes ++ route) (drop (p + 8) bytes), length-append (take p bytes) route, length-take-le p bytes (omega arith), length-drop (p + 8) bytes)

eight : (p : ℕ) (bytes : List ℕ) → p + 8 ≤ length bytes → length (take 8 (drop p bytes)) ≡ 8
eight p bytes h = length-take-le 8 (drop p bytes) (omega (arith, length-drop p bytes))

eight-at : (p : ℕ) (bytes : List ℕ) (i : ℕ) → i < 8 → get_or (take 8 (drop p bytes)) i 0 ≡ get_or bytes (p + i) 0
eight-at p bytes i h = get_or-take 8 (drop p bytes) i 0 h ∙ get_or-drop p bytes i 0

-- what adding does to a set of 32 bytes that is not full: the array stands after the last, and no other changes
module _ (r : RouteSet) (route : List ℕ) (long : length r.bytes ≡ 32) (whole : length route ≡ 8) where
  pub added-array : r.count < 4 → array_in r.count (added r route) ≡ route
  unfolding array_in
  added-array h =
      let p : ℕ = 8 * r.count in
      let b : List ℕ = placed p route r.bytes in
      let l : length b ≡ 32 = placed-long p route r.bytes whole (omega arith) ∙ long in
      ap (λ (x : RouteSet). take 8 (drop (8 * r.count) x.bytes)) (added_is r route h)
      ∙ ext_get_or 0 (take 8 (drop p b)) route (eight p b (omega arith) ∙ sym whole)
      (λ i q. let w : i < 8 = omega (arith, eight p b (omega arith)) in eight-at p b i w ∙ placed-within p route r.bytes i (omega arith) (omega arith))

  pub added-others : (j : ℕ) → j < 4 → j ≢ r.count → array_in j (added r route) ≡ array_in j r
  unfolding array_in
  added-others j h ne =
      elim (dec_lt r.count 4) [
        | yes y ↦ put y
        | no y ↦ ap (array_in j) (sym (added_full r route (omega arith)))
      ]
    where
      at : r.count < 4 → (i : ℕ) → i < 8 → get_or (placed (8 * r.count) route r.bytes) (8 * j + i) 0 ≡ get_or r.bytes (8 * j + i) 0
      at y i w =
          elim (dec_lt j r.count) [
            | yes q ↦ placed-before (8 * r.count) route r.bytes (8 * j + i) (omega arith) (omega arith)
            | no q ↦ let e : 8 * j + i ≡ 8 * r.count + 8 + (8 * j + i - (8 * r.count + 8)) = omega (arith, ne) in
                ap (λ (m : ℕ). get_or (placed (8 * r.count) route r.bytes) m 0) e
                ∙ placed-after (8 * r.count) route r.bytes (8 * j + i - (8 * r.count + 8)) whole (omega arith)
                ∙ ap (λ (m : ℕ). get_or r.bytes m 0) (sym e)
          ]

      put : r.count < 4 → array_in j (added r route) ≡ array_in j r
      put y =
          let p : ℕ = 8 * j in
          let b : List ℕ = placed (8 * r.count) route r.bytes in
          let l : length b ≡ 32 = placed-long (8 * r.count) route r.bytes whole (omega arith) ∙ long in
          let w : length (take 8 (drop p b)) ≡ 8 = eight p b (omega arith) in
          ap (λ (x : RouteSet). take 8 (drop (8 * j) x.bytes)) (added_is r route y)
          ∙ ext_get_or 0 (take 8 (drop p b)) (take 8 (drop p r.bytes)) (w ∙ sym (eight p r.bytes (omega arith)))
          (λ i q. let v : i < 8 = omega arith in eight-at p b i v ∙ at y i v ∙ sym (eight-at p r.bytes i v))

-- as the program puts it: the bytes over those that stood there
pub placed-all : (p : ℕ) (route bytes : List ℕ) (j : ℕ) → length route ≡ 8 → j ≡ 8 → paste bytes p route j ≡ placed p route bytes
unfolding placed
placed-all p route bytes j e h = rw h (ap (λ (x : List ℕ). take p bytes ++ x ++ drop (p + 8) bytes) (take_all 8 route (omega arith)))

-- ---- one array after another

unfoldable pub gathered : RouteSet → List (List ℕ) → RouteSet
gathered r [] = r
gathered r (x ∷ xs) = gathered (added r x) xs

pub joined-long : (xs : List (List ℕ)) → All (λ x. length x ≡ 8) xs → length (joined xs) ≡ 8 * length xs
unfolding joined
joined-long [] a = refl
joined-long (x ∷ xs) a = omega (arith, length-append x (joined xs), joined-long xs a.1, a.0)

pub joined_snoc : (xs : List (List ℕ)) (x : List ℕ) → joined (xs ++ (x ∷ [])) ≡ joined xs ++ x
unfolding joined
joined_snoc [] x = append-nil x
joined_snoc (y ∷ xs) x = ap (λ (r : List ℕ). y ++ r) (joined_snoc xs x) ∙ sym (append_assoc y (joined xs) x)

-- eight bytes put right after the first bytes of a list that holds zeros from there on
placed-filled : (js x : List ℕ) → length x ≡ 8 → length js + 8 ≤ 32 → placed (length js) x (filled 32 js) ≡ filled 32 (js ++ x)
unfolding placed filled
placed-filled js x e h =
    let q : 32 - length js - 8 ≡ 32 - length (js ++ x) = omega (arith, length-append js x) in
    ap₂ (λ (u v : List ℕ). u ++ x ++ v) (take_at js (replicate (32 - length js) 0) (length js) refl)
    (drop-append-add js (replicate (32 - length js) 0) 8 ∙ drop-zeros 8 (32 - length js) ∙ ap (λ (m : ℕ). replicate {A = ℕ} m 0) q)

added-set : (xs : List (List ℕ)) (x : List ℕ) → All (λ y. length y ≡ 8) xs → length x ≡ 8 → length xs < 4 → added (set_of xs) x ≡ set_of (xs ++ (x ∷ []))
unfolding set_of
added-set xs x a e h =
    let j : length (joined xs) ≡ 8 * length xs = joined-long xs a in
    let p : placed (8 * length xs) x (filled 32 (joined xs)) ≡ filled 32 (joined (xs ++ (x ∷ []))) =
    ap (λ (m : ℕ). placed m x (filled 32 (joined xs))) (sym j) ∙ placed-filled (joined xs) x e (omega arith) ∙ ap (filled 32) (sym (joined_snoc xs x)) in
    sym (added_more (set_from (filled 32 (joined xs)) (length xs)) x _ h refl)
    ∙ ap₂ set_from p (omega (arith, length_snoc xs x))

gather_on : (xs ys : List (List ℕ)) → All (λ y. length y ≡ 8) xs → All (λ y. length y ≡ 8) ys → length xs + length ys ≤ 4 → gathered (set_of xs) ys ≡ set_of (xs ++ ys)
unfolding gathered
gather_on xs [] a b h = ap set_of (sym (append-nil xs))
gather_on xs (y ∷ ys) a b h =
    ap (λ (r : RouteSet). gathered r ys) (added-set xs y a b.0 (omega arith))
    ∙ gather_on (xs ++ (y ∷ [])) ys (all_snoc (λ z. length z ≡ 8) xs y a b.0) b.1 (omega (arith, length_snoc xs y))
    ∙ ap set_of (append_assoc xs (y ∷ []) ys)

none_yet : empty_set ≡ set_of []
unfolding set_of filled joined
none_yet = refl

-- added to the empty set in their order, four arrays or fewer are the set of them
pub gathered_set : (xs : List (List ℕ)) → All (λ y. length y ≡ 8) xs → length xs ≤ 4 → gathered empty_set xs ≡ set_of xs
gathered_set xs a h = ap (λ (r : RouteSet). gathered r xs) none_yet ∙ gather_on [] xs tt a (omega arith)

-- ---- the bytes of a set: its arrays one after another, then zeros

module _ (xs : List (List ℕ)) (a : All (λ x. length x ≡ 8) xs) where
  pub set_list : take (8 * length xs) (set_of xs).bytes ≡ joined xs
  unfolding set_of filled
  set_list = take_at (joined xs) (replicate (32 - length (joined xs)) 0) (8 * length xs) (joined-long xs a)

  pub set_rest : drop (8 * length xs) (set_of xs).bytes ≡ replicate (32 - 8 * length xs) 0
  unfolding set_of filled
  set_rest =
      drop_at (joined xs) (replicate (32 - length (joined xs)) 0) (8 * length xs) (joined-long xs a)
      ∙ ap (λ (m : ℕ). replicate {A = ℕ} (32 - m) 0) (joined-long xs a)

joined-array : (xs : List (List ℕ)) (zs : List ℕ) → All (λ x. length x ≡ 8) xs → (j : ℕ) → j < length xs → take 8 (drop (8 * j) (joined xs ++ zs)) ≡ get_or xs j []
unfolding joined
joined-array [] zs a j h = let z : ⊥ = omega arith in absurd z
joined-array (x ∷ xs) zs a zero h = ap (take 8) (append_assoc x (joined xs) zs) ∙ take_at x (joined xs ++ zs) 8 a.0
joined-array (x ∷ xs) zs a (suc j) h =
    let e : 8 * suc j ≡ length x + 8 * j = omega (arith, a.0) in
    ap₂ (λ (m : ℕ) (y : List ℕ). take 8 (drop m y)) e (append_assoc x (joined xs) zs)
    ∙ ap (take 8) (drop-append-add x (joined xs ++ zs) (8 * j))
    ∙ joined-array xs zs a.1 j (omega arith)

pub set-array : (xs : List (List ℕ)) → All (λ x. length x ≡ 8) xs → (j : ℕ) → j < length xs → array_in j (set_of xs) ≡ get_or xs j []
unfolding array_in set_of filled
set-array xs a j h = joined-array xs (replicate (32 - length (joined xs)) 0) a j h
