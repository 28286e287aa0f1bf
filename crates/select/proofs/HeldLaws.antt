-- Routes held in a set, array after array, and laid into a table.
use Prim.Native.Nat.{ℕ, zero, suc, ◌+◌, ◌*◌, ◌/◌, ◌≤◌, ◌<◌}
use mathlib.Core.Path.{◌≡◌, refl, sym, ap, ◌∙◌}
use mathlib.Core.List.{List, [], ◌∷◌, ◌++◌, map, map-append, Memᴰ as In}
use native.Mathlib.Omega.{arith}
use native.Mathlib.Numerals.{add-one}
use lib.ListN.{length, get_or, take, drop, length-drop, length-map, drop_of_length-le}
use lib.Seq.{slice, slice-cons, get_or-take, get_or-drop, length-take-le, drop-drop}
use Rattle.std.specs.Simd.{first_chunks}
use Rattle.lists.proofs.ListLaws.{All, map_at, all_snoc, length_snoc}
use Rattle.refusals.specs.Refusals.{Refusal}
use Rattle.room.specs.declared.Shape.{Shape}
use Rattle.links.specs.Table.{TableOf}
use Rattle.path.specs.Routes.{Encodes, encode}
use Rattle.path.proofs.CodecLaws.{encode-long}
use Rattle.build.specs.declared.RouteSet.{RouteSet}
use Rattle.build.specs.Sets.{empty_set, added, array_in, set_of}
use Rattle.build.proofs.SetLaws.{gathered, gathered_set, set-array}
use Rattle.laying.specs.Laid.{taken, Laid}
use Rattle.laying.specs.Answers.{Lays}
use Rattle.laying.proofs.MarkLaws.{marks-none}
use Rattle.laying.proofs.LaidLaws.{laid_both}
use Rattle.laying.proofs.LayLaws.{lays_laid}
use Rattle.select.specs.Inside.{Holds}
use Rattle.select.proofs.SlotLaws.{member_at}

-- ---- eight bytes of a list, by their places

eight : (xs : List ℕ) → length xs ≡ 8 → get_or xs 0 0 ∷ get_or xs 1 0 ∷ get_or xs 2 0 ∷ get_or xs 3 0 ∷ get_or xs 4 0 ∷ get_or xs 5 0 ∷ get_or xs 6 0 ∷ get_or xs 7 0 ∷ [] ≡ xs
eight [] e = let z : ⊥ = omega arith in absurd z
eight (a ∷ []) e = let z : ⊥ = omega arith in absurd z
eight (a ∷ b ∷ []) e = let z : ⊥ = omega arith in absurd z
eight (a ∷ b ∷ c ∷ []) e = let z : ⊥ = omega arith in absurd z
eight (a ∷ b ∷ c ∷ d ∷ []) e = let z : ⊥ = omega arith in absurd z
eight (a ∷ b ∷ c ∷ d ∷ f ∷ []) e = let z : ⊥ = omega arith in absurd z
eight (a ∷ b ∷ c ∷ d ∷ f ∷ g ∷ []) e = let z : ⊥ = omega arith in absurd z
eight (a ∷ b ∷ c ∷ d ∷ f ∷ g ∷ h ∷ []) e = let z : ⊥ = omega arith in absurd z
eight (a ∷ b ∷ c ∷ d ∷ f ∷ g ∷ h ∷ i ∷ []) e = refl
eight (a ∷ b ∷ c ∷ d ∷ f ∷ g ∷ h ∷ i ∷ j ∷ xs) e = let z : ⊥ = omega arith in absurd z

pub eight-bytes : (p : ℕ) (bs : List ℕ) → p + 8 ≤ length bs → get_or bs p 0 ∷ get_or bs (p + 1) 0 ∷ get_or bs (p + 2) 0 ∷ get_or bs (p + 3) 0 ∷ get_or bs (p + 4) 0 ∷ get_or bs (p + 5) 0 ∷ get_or bs (p + 6) 0 ∷ get_or bs (p + 7) 0 ∷ [] ≡ take 8 (drop p bs)
eight-bytes p bs h =
    rw (first, at 1 (omega arith), at 2 (omega arith), at 3 (omega arith), at 4 (omega arith), at 5 (omega arith), at 6 (omega arith), at 7 (omega arith))
    (eight (take 8 (drop p bs)) (length-take-le 8 (drop p bs) (omega (arith, length-drop p bs))))
  where
    at : (i : ℕ) → i < 8 → get_or bs (p + i) 0 ≡ get_or (take 8 (drop p bs)) i 0
    at i q = sym (get_or-take 8 (drop p bs) i 0 q ∙ get_or-drop p bs i 0)

    first : get_or bs p 0 ≡ get_or (take 8 (drop p bs)) 0 0
    first = let e : p ≡ p + 0 = omega arith in ap (λ (m : ℕ). get_or bs m 0) e ∙ at 0 (omega arith)

-- ---- the bytes of a set in eights

chunk_at : (n m j : ℕ) (xs : List ℕ) → j < m → get_or (first_chunks n m xs) j [] ≡ take n (drop (n * j) xs)
chunk_at n zero j xs h = let z : ⊥ = omega arith in absurd z
chunk_at n (suc m) zero xs h = let e : 0 ≡ n * 0 = omega arith in ap (λ (i : ℕ). take n (drop i xs)) e
chunk_at n (suc m) (suc j) xs h =
    let e : n + n * j ≡ n * suc j = omega arith in
    chunk_at n m j (drop n xs) (omega arith) ∙ ap (take n) (drop-drop (n * j) n xs ∙ ap (λ (i : ℕ). drop i xs) e)

pub array_of_chunks : (j : ℕ) (r : RouteSet) → j < 4 → length r.bytes ≡ 32 → {arrays : List (List ℕ)} → arrays ≡ first_chunks 8 (length r.bytes / 8) r.bytes → get_or arrays j [] ≡ array_in j r
unfolding array_in
array_of_chunks j r h l e = ap (λ (x : List (List ℕ)). get_or x j []) e ∙ chunk_at 8 (length r.bytes / 8) j r.bytes (omega arith)

-- ---- a set of the arrays of routes

map-eight : (s : Shape) (vss : List (List ℕ)) → ((vs : List ℕ) → In vs vss → length vs ≤ 9) → All (λ (x : List ℕ). length x ≡ 8) (map (encode s) vss)
map-eight s [] h = tt
map-eight s (vs ∷ vss) h = (encode-long s vs (h vs (In.head refl)), map-eight s vss (λ us m. h us (In.tail m)))

gathered_snoc : (r : RouteSet) (xs : List (List ℕ)) (x : List ℕ) → gathered r (xs ++ (x ∷ [])) ≡ added (gathered r xs) x
unfolding gathered
gathered_snoc r [] x = refl
gathered_snoc r (y ∷ ys) x = gathered_snoc (added r y) ys x

-- an array added after others
set_more : (xs : List (List ℕ)) (x : List ℕ) → All (λ (y : List ℕ). length y ≡ 8) xs → length x ≡ 8 → length xs < 4 → added (set_of xs) x ≡ set_of (xs ++ (x ∷ []))
set_more xs x h e l =
    ap (λ (r : RouteSet). added r x) (sym (gathered_set xs h (omega arith)))
    ∙ sym (gathered_snoc empty_set xs x)
    ∙ gathered_set (xs ++ (x ∷ [])) (all_snoc (λ (y : List ℕ). length y ≡ 8) xs x h e) (omega (arith, length_snoc xs x))

module _ (s : Shape) (vss : List (List ℕ)) (few : (vs : List ℕ) → In vs vss → length vs ≤ 9) where
  pub route_more : (vs : List ℕ) → length vs ≤ 9 → length vss < 4 → added (set_of (map (encode s) vss)) (encode s vs) ≡ set_of (map (encode s) (vss ++ (vs ∷ [])))
  route_more vs h l =
      set_more (map (encode s) vss) (encode s vs) (map-eight s vss few) (encode-long s vs h) (omega (arith, length-map vss (encode s)))
      ∙ ap set_of (sym (map-append (encode s) vss (vs ∷ [])))

  pub route-array : (j : ℕ) → j < length vss → array_in j (set_of (map (encode s) vss)) ≡ encode s (get_or vss j [])
  route-array j h =
      set-array (map (encode s) vss) (map-eight s vss few) j (omega (arith, length-map vss (encode s)))
      ∙ map_at (encode s) [] [] vss j h

pub set-count : (s : Shape) (vss : List (List ℕ)) → (set_of (map (encode s) vss)).count ≡ length vss
unfolding set_of
set-count s vss = length-map vss (encode s)

module _ {s : Shape} {a d : ℕ} {set : RouteSet} {routes : List (List ℕ)} (h : Holds s a d set routes) where
  pub holds_count : set.count ≡ length routes
  holds_count = ap (λ (r : RouteSet). r.count) h.written ∙ set-count s routes

  pub holds_array : (j : ℕ) → j < length routes → array_in j set ≡ encode s (get_or routes j [])
  holds_array j p = ap (array_in j) h.written ∙ route-array s routes (λ vs m. (h.each vs m).route.few) j p

  holds_encodes : (j : ℕ) → j < length routes → (x : List ℕ) → x ≡ array_in j set → Encodes s [] a d x (get_or routes j [])
  holds_encodes j p x e = record { route = h.each (get_or routes j []) (member_at routes j p); bytes = e ∙ holds_array j p }

-- ---- the routes of a set laid, one after another

-- with those from place j on still to be laid into table u, where table t had none: what that comes to, the whole comes to
pub record StillToLay (s : Shape) (a d : ℕ) (set : RouteSet) (first end : ℕ) (t : List ℕ) (j : ℕ) (u : List ℕ) : Type 0 where
  pub still : (routes : List (List ℕ)) → Holds s a d set routes → end ≤ length routes → TableOf s t
      → TableOf s u × ((v : List ℕ) → Laid s u (slice j end routes) v → Laid s t (slice first end routes) v)

module _ {s : Shape} {a d : ℕ} {set : RouteSet} {first end : ℕ} {t : List ℕ} where
  module _ {j : ℕ} {u : List ℕ} (y : StillToLay s a d set first end t j u) where
    pub lay_more : j < end → (x : List ℕ) → x ≡ array_in j set → {r : Refusal} {v : List ℕ} → Lays s u a d x r v → StillToLay s a d set first end t (j + 1) v
    lay_more p x e {r} {v} l = record { still = λ routes h q k. more routes h q (y.still routes h q k) }
      where
        more : (routes : List (List ℕ)) → Holds s a d set routes → end ≤ length routes
            → TableOf s u × ((w : List ℕ) → Laid s u (slice j end routes) w → Laid s t (slice first end routes) w)
            → TableOf s v × ((w : List ℕ) → Laid s v (slice (j + 1) end routes) w → Laid s t (slice first end routes) w)
        more routes h q z =
            let o : Laid s u (get_or routes j [] ∷ []) v = lays_laid l z.0 (holds_encodes h j (omega arith) x e) in
            (o.table, λ w m. z.1 w (rw (slice-cons j end routes [] p q) (laid_both (get_or routes j [] ∷ []) (slice (suc j) end routes) o (rw add-one at m))))

    pub lay_ends : end ≤ j → (routes : List (List ℕ)) → Holds s a d set routes → end ≤ length routes → TableOf s t → Laid s t (slice first end routes) u
    unfolding taken
    lay_ends p routes h q k =
        let z = y.still routes h q k in
        let l : length (take end routes) ≤ j = omega (arith, length-take-le end routes q) in
        z.1 u (rw (drop_of_length-le (take end routes) l) (marks-none (taken s []) z.0 (λ x m. refl)))
