-- Walking the arrays of a list in turn: what the loop keeps.
use Prim.Native.Nat.{ℕ, zero, suc, ◌+◌, ◌/◌, ◌≤◌, ◌<◌}
use mathlib.Core.Path.{◌≡◌, refl, sym, ap, ◌∙◌}
use mathlib.Core.List.{List, [], ◌∷◌, ◌++◌, map}
use native.Mathlib.Omega.{arith}
use native.Mathlib.Numerals.{add-one}
use native.Mathlib.Decide.{dec_lt}
use lib.ListN.{length, get_or, set, take, drop, length-map, length-set, drop_of_length-le}
use lib.Seq.{take-suc-set, take-suc, take_all, get_or-set_same, get_or-set_other}
use borrow.Author.Tests.{ne_eqb}
use Rattle.std.specs.Prelude.{Result, Ok, Err, MatchResult}
use Rattle.std.specs.Simd.{first_chunks}
use Rattle.std.proofs.lemmas.List.{map-append}
use Rattle.lists.specs.Lists.{in_turn}
use Rattle.lists.proofs.ListLaws.{left, map_at, length-filled, length_turn}
use Rattle.refusals.specs.declared.Refused.{Refused}
use Rattle.refusals.specs.Refusals.{Refusal, none, of_route}
use Rattle.refusals.specs.Reasons.{number_of, refusal_of, tells_where}
use Rattle.refusals.proofs.ReasonLaws.{reason-some}
use Rattle.room.specs.declared.Shape.{Shape}
use Rattle.path.specs.declared.Walked.{Walked as WalkedArray}
use Rattle.path.specs.Told.{Walked}
use Rattle.path.specs.Answers.{no_walk, the_walk, walk_answer}
use Rattle.path.specs.Routes.{switches_of, switch_to}
use Rattle.path.proofs.CodecLaws.{walk-given, walk-exactly}
use Rattle.verdict.specs.Checks.{arrays, first_stop, first_pair, first_of, list_refusal, walks_of}
use Rattle.verdict.specs.Arrived.{past_end, Arrived, AllArrived}
use Rattle.verdict.proofs.AcceptLaws.{arrays-long}
use Rattle.verdict.proofs.LengthLaws.{list_few}
use Rattle.verdict.proofs.ScanLaws.{first_told, first_right}

-- a walked array with no refusal has arrived
pub arrived_of : (s : Shape) (t : List ℕ) (a d : ℕ) (bs : List ℕ) (w : Walked) → w ≡ walk_answer s t a d bs → w.refusal.number ≡ 0 → Arrived w
unfolding switches_of
arrived_of s t a d bs w e n =
    let h = (walk-exactly s t a d bs).0 (ap (λ (x : Walked). x.refusal.number) (sym e) ∙ n) in
    let g = e ∙ walk-given h.1 in
    let r = h.1.route.route in
    record {
      some = omega (arith, ap (λ (x : Walked). x.count) g, r.some);
      few = omega (arith, ap (λ (x : Walked). x.count) g, r.few);
      long_servers = ap (λ (x : Walked). length x.servers) g ∙ length-filled 9 h.0 r.few;
      long_switches = ap (λ (x : Walked). length x.switches) g ∙ length-filled 8 (in_turn (switch_to s) h.0) (omega (arith, length_turn (switch_to s) h.0, r.few));
    }

-- the bytes of a list in eights are its arrays
pub chunks_are : (m : ℕ) (bs : List ℕ) → first_chunks 8 m bs ≡ arrays m bs
unfolding arrays
chunks_are zero bs = refl
chunks_are (suc m) bs = ap (λ (x : List (List ℕ)). take 8 bs ∷ x) (chunks_are m (drop 8 bs))

module _ (s : Shape) (t : List ℕ) (a d : ℕ) (bs : List ℕ) where
  abbrev pub W : List Walked
  W = walks_of s t a d bs

  W_long : length W ≡ length bs / 8
  unfolding walks_of
  W_long = length-map (arrays (length bs / 8) bs) (walk_answer s t a d) ∙ arrays-long (length bs / 8) bs

  W_at : (i : ℕ) → i < length bs / 8 → get_or W i (the_walk past_end) ≡ walk_answer s t a d (get_or (arrays (length bs / 8) bs) i [])
  unfolding walks_of
  W_at i h = map_at (walk_answer s t a d) [] (the_walk past_end) (arrays (length bs / 8) bs) i (rw (arrays-long (length bs / 8) bs) h)

  -- the first i arrays have been walked, and none was refused
  pub record Walking (walks : List WalkedArray) (i : ℕ) : Type 0 where
    pub few : length bs / 8 ≤ 4
    pub within : i ≤ length bs / 8
    pub arrived : AllArrived i walks
    pub same : first_told i walks ≡ take i W
    pub rest : first_stop (i + 1) (drop i W) ≡ first_stop 1 W

  pub walking_none : (walks : List WalkedArray) → length walks ≡ 4 → list_refusal s t a d bs ≡ 0 → Walking walks 0
  walking_none walks l e =
      record {
        few = omega (arith, (list_few s t a d bs e).most);
        within = omega arith;
        arrived = record { long = l; each = λ i p. absurd (let z : ⊥ = omega arith in z) };
        same = refl;
        rest = refl;
      }

  module _ (walks : List WalkedArray) (i : ℕ) (g : Walking walks i) (more : i < length bs / 8) {chunks : List (List ℕ)} (front : chunks ≡ first_chunks 8 (length bs / 8) bs) where
    chunk : walk_answer s t a d (get_or chunks i []) ≡ walk_answer s t a d (get_or (arrays (length bs / 8) bs) i [])
    chunk = ap (λ (x : List (List ℕ)). walk_answer s t a d (get_or x i [])) (front ∙ chunks_are (length bs / 8) bs)

    cut : (w : Walked) → w ≡ walk_answer s t a d (get_or chunks i []) → drop i W ≡ w ∷ drop (i + 1) W
    cut w e =
        left W i (the_walk past_end) (rw W_long more)
        ∙ ap (λ (x : Walked). x ∷ drop (i + 1) W) (W_at i more ∙ sym (e ∙ chunk))

    -- a refused array is the answer
    stops : (e : Refused) → no_walk (refusal_of e) ≡ walk_answer s t a d (get_or chunks i []) → (r : Refusal) → r ≡ of_route (i + 1) (refusal_of e) → r ≡ first_of (first_stop 1 W) (first_pair 1 W)
    unfolding first_stop first_of
    stops e f r k =
        let n = reason-some e.reason in
        let h : first_stop 1 W ≡ of_route (i + 1) (refusal_of e) = sym g.rest ∙ rw (cut (no_walk (refusal_of e)) f, ne_eqb (number_of e.reason) 0 n) in
        k ∙ rw (h, ne_eqb (number_of e.reason) 0 n)

    -- x is what the walk gave, and r is what was made of its refusal
    pub walking_stops : {change : Refused → Type 0} (x : Result WalkedArray Refused) → tells_where no_walk the_walk x ≡ walk_answer s t a d (get_or chunks i []) → (r : Refused) → MatchResult x (λ w. ◌≡◌ {A = Result WalkedArray Refused} (Err r) (Ok w)) change → ((e : Refused) → change e → refusal_of r ≡ of_route (i + 1) (refusal_of e)) → refusal_of r ≡ first_of (first_stop 1 W) (first_pair 1 W)
    walking_stops (Ok w) f r m h = cc
    walking_stops (Err e) f r m h = stops e f (refusal_of r) (h e m)

    goes : (w : WalkedArray) → the_walk w ≡ walk_answer s t a d (get_or chunks i []) → Walking (set walks i w) (i + 1)
    unfolding first_stop
    goes w e =
        let l : i < length walks = omega (arith, g.arrived.long, g.few) in
        record {
          few = g.few;
          within = omega arith;
          arrived = record { long = length-set walks i w ∙ g.arrived.long; each = at l };
          same =
              rw add-one
              (ap (map the_walk) (take-suc-set walks i w l) ∙ map-append the_walk (take i walks) (w ∷ []) ∙ ap (λ (x : List Walked). x ++ (the_walk w ∷ [])) g.same
              ∙ sym (take-suc W i (the_walk past_end) (rw W_long more) ∙ ap (λ (x : Walked). take i W ++ (x ∷ [])) (W_at i more ∙ sym (e ∙ chunk))));
          rest = sym (rw (cut (the_walk w) e)) ∙ g.rest;
        }
      where
        at : i < length walks → (j : ℕ) → j < i + 1 → Arrived (the_walk (get_or (set walks i w) j past_end))
        at l j p =
            elim (dec_lt j i) [
              | yes y ↦ rw (get_or-set_other walks i j w past_end (λ q. omega arith)) (g.arrived.each j y)
              | no y ↦ let q : j ≡ i = omega arith in rw (q, get_or-set_same walks i w past_end l) (arrived_of s t a d _ (the_walk w) (e ∙ chunk) refl)
            ]

    -- what the walk gave is kept
    pub walking_goes : (x : Result WalkedArray Refused) → tells_where no_walk the_walk x ≡ walk_answer s t a d (get_or chunks i []) → (w : WalkedArray) → MatchResult x (λ v. ◌≡◌ {A = Result WalkedArray Refused} (Ok w) (Ok v)) (λ e. ⊥) → Walking (set walks i w) (i + 1)
    walking_goes (Ok v) f w m = let e : w ≡ v = cc in goes w (ap the_walk e ∙ f)
    walking_goes (Err e) f w m = absurd m

  -- after the last, every two are held against each other
  pub walking_ends : (walks : List WalkedArray) (i : ℕ) → Walking walks i → (m : ℕ) → m ≡ length bs / 8 → m ≤ i → (r : Refusal) → r ≡ first_pair 1 (first_told m walks) → r ≡ first_of (first_stop 1 W) (first_pair 1 W)
  unfolding first_stop
  walking_ends walks i g m q h r k =
      let l : m ≡ i = omega (arith, g.within) in
      let f : first_told m walks ≡ W = ap (λ (x : ℕ). first_told x walks) l ∙ g.same ∙ take_all i W (omega (arith, W_long)) in
      let z : length W ≤ i = omega (arith, W_long) in
      let n : first_stop 1 W ≡ none = sym g.rest ∙ rw (drop_of_length-le W z) in
      k ∙ ap (first_pair 1) f ∙ sym (ap (λ (q : Refusal). first_of q (first_pair 1 W)) n ∙ first_right none (first_pair 1 W) refl)
