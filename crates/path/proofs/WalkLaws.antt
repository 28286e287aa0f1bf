-- Laws of walking, as the program walks: one test, one hop, one byte at a time.
use Prim.Native.Nat.{ℕ, ◌+◌, ◌-◌, ◌*◌, ◌^◌, ◌≤◌, ◌<◌}
use mathlib.Core.Path.{◌≡◌, refl, sym, ap, ap₂, ◌∙◌, subst}
use mathlib.Core.Logic.{◌≢◌}
use mathlib.Core.Bool.{Bool, true, false}
use mathlib.Core.List.{List, [], ◌∷◌, ◌++◌, reverse}
use native.Mathlib.Omega.{arith}
use native.Mathlib.Nat.{mul_comm, pow-suc, pow-le-pow_right}
use native.Mathlib.Numerals.{add-one}
use native.Mathlib.Decide.{ℕ_discrete}
use lib.Dec.{lit<}
use mir.Syntax.{w64}
use mir.Val.{Fits}
use lib.ListN.{length, get_or, set, take, drop, replicate, drop_of_length-le, length-set}
use lib.Seq.{length-take-le, take-set-le}
use borrow.Author.Tests.{eq-eqb, ne_eqb}
use Rattle.std.specs.Prelude.{Result, Ok, Err, IsErrAnd, MatchResult}
use Rattle.lists.specs.Lists.{in_turn, filled}
use Rattle.lists.proofs.ListLaws.{left, filled_is, rest_on, taken_on, turn_back, length_snoc}
use Rattle.refusals.specs.Refusals.{Refusal, none, plain, refused_at, with_earlier}
use Rattle.refusals.specs.declared.Reason.{Reason}
use Rattle.refusals.specs.declared.Refused.{Refused}
use Rattle.refusals.specs.Reasons.{number_of, refusal_of}
use Rattle.refusals.proofs.ReasonLaws.{reason-some}
use Rattle.refusals.proofs.ChainLaws.{chain_stops, chain_goes}
use Rattle.refusals.proofs.AnswerLaws.{answer-refused, answer-given}
use Rattle.refusals.proofs.NumberLaws.{one-not}
use Rattle.room.specs.declared.Shape.{Shape}
use Rattle.room.specs.Shapes.{Server}
use Rattle.room.specs.Addresses.{digit}
use Rattle.room.specs.Refusals.{server_refusal, link_refusal}
use Rattle.room.proofs.RefusalLaws.{server-none, link-none}
use Rattle.links.specs.Table.{live}
use Rattle.path.specs.declared.Hop.{Hop as Hopped}
use Rattle.path.specs.declared.faults.Fault.{Fault}
use Rattle.path.specs.declared.walks.Taken.{Taken}
use Rattle.path.specs.Told.{Hop, Tried, Walked, Way}
use Rattle.path.specs.Routes.{byte_of, level_of, switch_at, byte_to}
use Rattle.path.specs.Walks.{stopped, arrived, hop_to, hop_refusal, again, earlier_of, stops_at, fault, ended, walk_from, walk}
use Rattle.path.specs.Answers.{stops_hop, the_hop, hop_by, hop_from, array_refusal, no_walk, walked, walk_answer}
use Rattle.path.specs.Inside.{no_try, adds, added, newly, Takes, Faults, low_first, back_over, no_way, a_way, ended_way, way_of, way_answer, Blank, WalkLeaves}
use Rattle.path.proofs.RepeatLaws.{earlier-none, newly_snoc, added-number, added-switch, added-earlier}
use Rattle.path.proofs.NumberLaws.{hop-numbers}
use Rattle.path.proofs.HopLaws.{hop-value, hop-level-low, hop-old-low, hop-server, hop-neighbours, hop-byte-back, hop-number, hop-made}
use Rattle.path.proofs.CodecLaws.{array_of}
use Rattle.path.proofs.RouteLaws.{fault-hop, walk_refused, walk-arrives, walk-goes}

-- ---- taking the hop by byte b from server a, after the servers met and a itself

module _ {s : Shape} {a : ℕ} (here : Server s a) (t met used : List ℕ) (b : ℕ) where
  abbrev on : List ℕ
  on = met ++ (a ∷ [])

  -- where it leads, and its switch
  abbrev to : ℕ
  to = hop_to s a b

  abbrev over : ℕ
  over = switch_at s (level_of b) a

  -- what refuses the hop itself, and 11, name no earlier hop
  no_earlier : (f : Fault) → number_of f.reason ≡ fault s t on used a b → f.earlier ≡ 0 → number_of f.reason ≢ 28 → number_of f.reason ≢ 29 → Faults s t met used a b f
  no_earlier f e z m n = record { number = e; earlier = z ∙ sym (earlier-none on used to over _ m n) ∙ ap (λ (r : ℕ). earlier_of r on used to over) e }

  -- 8, 9, 10
  pub take_none : (r : Reason) → stops_hop (number_of r) ≡ hop_from s a b → (f : Fault) → no_try f.earlier (number_of f.reason) ≡ no_try 0 (number_of r) → Faults s t met used a b f
  unfolding fault
  take_none r e f g =
      let n : number_of f.reason ≡ hop_refusal s a b = ap (λ (x : Tried). x.number) g ∙ hop-number s a b _ e in
      let some = reason-some f.reason in
      let numbers = hop-numbers s a b in
      no_earlier f (chain_stops _ _ _ (chain_stops _ _ _ n some) some) (ap (λ (x : Tried). x.earlier) g) (λ z. one-not 28 refl refl numbers (sym n ∙ z)) (λ z. one-not 29 refl refl numbers (sym n ∙ z))

  -- h is the hop
  module _ (h : Hopped) (e : the_hop h ≡ hop_from s a b) where
    free : hop_refusal s a b ≡ 0
    free = sym (hop-number s a b (the_hop h) e)

    made : the_hop h ≡ hop_by s a b
    made = hop-made s a b (the_hop h) e refl

    pub take_link : link_refusal s a h.level ≡ 0
    take_link = ap (λ (y : Hop). link_refusal s a y.level) made ∙ sym (link-none (hop-value here b free).link)

    module _ (y : Bool) (alive : y ≡ live t h.level a h.next) where
      lives : y ≡ live t (level_of b) a to
      lives = alive ∙ ap (λ (x : Hop). live t x.level a x.next) made

      pub take_failed : y ≡ false → (f : Fault) → no_try f.earlier (number_of f.reason) ≡ no_try 0 11 → Faults s t met used a b f
      unfolding fault
      take_failed k f g =
          let n : number_of f.reason ≡ 11 = ap (λ (x : Tried). x.number) g in
          no_earlier f (chain_stops _ _ _ (chain_goes _ _ _ _ (sym free) refl (rw (← lives, k) n)) (reason-some f.reason)) (ap (λ (x : Tried). x.earlier) g) (λ z. omega arith) (λ z. omega arith)

      -- x is what was found of the server that it leads to and of its switch, which is not that of a: a hop never leads to where it starts
      module _ (k : y ≡ true) (w : ℕ) (u : w ≡ switch_at s h.level a) (x : Tried) (g : x ≡ newly met used h.next w) where
        abbrev q : ℕ
        q = again on used to over

        found : x ≡ added q on used to over
        unfolding newly
        found =
            g
            ∙ ap₂ (newly met used) (ap (λ (i : Hop). i.next) made) (u ∙ ap (λ (i : Hop). switch_at s i.level a) made)
            ∙ newly_snoc met used to over a (λ z. (hop-neighbours here b free).differ (ap (digit s (level_of b)) (sym z)))

        faulty : x.number ≡ fault s t on used a b
        unfolding fault
        faulty = chain_goes _ _ _ _ (chain_goes _ _ _ _ (sym free) refl (rw (← lives, k))) refl (added-number q on used to over x found)

        pub take_again : (o : Fault) → no_try o.earlier (number_of o.reason) ≡ x → (f : Fault) → f ≡ o → Faults s t met used a b f
        take_again o m f e =
            let n : number_of o.reason ≡ x.number = ap (λ (i : Tried). i.number) m in
            let c = added-earlier q on used to over x found (λ z. reason-some o.reason (n ∙ z)) in
            subst (Faults s t met used a b) (sym e) (record { number = n ∙ faulty; earlier = ap (λ (i : Tried). i.earlier) m ∙ c ∙ ap (λ (r : ℕ). earlier_of r on used to over) (sym (added-number q on used to over x found) ∙ faulty) })

        pub take_on : (v : ℕ) → adds v ≡ x → Takes s t met used a b (record { hop = h; switch = v })
        take_on v m =
            let z : 0 ≡ x.number = ap (λ (i : Tried). i.number) m in
            record { free = z ∙ faulty; hop = made; switch = ap (λ (i : Tried). i.switch) m ∙ added-switch q on used to over x found (sym z) }

-- of a hop that was tried: what a `?` passes on, what it gives, and what was made of a fault
module _ (P : Taken → Type 0) (Q : Fault → Type 0) (x : Result Taken Fault) where
  pub passes : {change : Fault → Type 0} → IsErrAnd x change → ((f : Fault) → change f → Q f) → MatchResult x P Q
  passes {change} h k = go x h
    where
      go : (y : Result Taken Fault) → IsErrAnd y change → MatchResult y P Q
      go (Ok v) h = absurd h
      go (Err f) h = k f h

  taken_is : MatchResult x P Q → (h : Taken) → MatchResult x (λ v. ◌≡◌ {A = Result Taken Refused} (Ok h) (Ok v)) (λ f. ⊥) → P h
  taken_is e h m = go x e m
    where
      go : (y : Result Taken Fault) → MatchResult y P Q → MatchResult y (λ v. ◌≡◌ {A = Result Taken Refused} (Ok h) (Ok v)) (λ f. ⊥) → P h
      go (Ok v) p m = let e : v ≡ h = cc in subst P e p
      go (Err f) p m = absurd m

  fault_is : {change : Fault → Type 0} → MatchResult x P Q → (r : Refused) → MatchResult x (λ v. ◌≡◌ {A = Result Taken Refused} (Err r) (Ok v)) change → (f : Fault) × Q f × change f
  fault_is {change} e r m = go x e m
    where
      go : (y : Result Taken Fault) → MatchResult y P Q → MatchResult y (λ v. ◌≡◌ {A = Result Taken Refused} (Err r) (Ok v)) change → (f : Fault) × Q f × change f
      go (Ok v) p m = cc
      go (Err f) p m = (f, p, m)

-- ---- on arrival: 14

-- the loop's invariant: what the bytes from i on tell is what all bytes after the arrival tell
pub record Ending (path : List ℕ) (h x i : ℕ) : Type 0 where
  pub same : ended_way h x i (drop i path) ≡ ended_way h x h (drop h path)

module _ {path : List ℕ} {h x i : ℕ} (g : Ending path h x i) (hl : length path ≡ 8) where
  -- a byte that is not zero
  pub ending_stop : i < 8 → (get_or path i 0 ≡ 0 → ⊥) → (r : Refusal) → r ≡ refused_at 14 1 (i + 1) → (w : Way) → w ≡ no_way r → w ≡ ended_way h x h (drop h path)
  unfolding ended_way
  ending_stop hi n r f w k =
      let q : i < length path = omega arith in
      let z : ended_way h x i (drop i path) ≡ no_way (refused_at 14 1 (i + 1)) = rw (left path i 0 q, ne_eqb (get_or path i 0) 0 n) in
      k ∙ ap no_way f ∙ sym z ∙ g.same

  pub ending_next : i < 8 → get_or path i 0 ≡ 0 → Ending path h x (i + 1)
  unfolding ended_way
  ending_next hi e =
      let q : i < length path = omega arith in
      record { same = sym (rw (left path i 0 q, eq-eqb (get_or path i 0) 0 e)) ∙ g.same }

  -- none is left
  pub ending_done : 8 ≤ i → (r : Refusal) → r ≡ none → record { refusal = r; hops = h; back = x } ≡ ended_way h x h (drop h path)
  unfolding ended_way
  ending_done hi r e =
      let b : length path ≤ i = omega arith in
      let z : ended_way h x i (drop i path) ≡ a_way h x = rw (drop_of_length-le path b) in
      ap (λ (q : Refusal). record { refusal = q; hops = h; back = x }) e ∙ sym z ∙ g.same

-- the way of what the walk comes to after its arrival; where it is not refused, the servers and switches are those of the arrival
ended-way : (s : Shape) (i : ℕ) (met used bs : List ℕ) → way_of s (ended i met used bs) ≡ ended_way (length met - 1) (back_over s met) i bs
unfolding ended ended_way
ended-way s i met used [] = refl
ended-way s i met used (b ∷ bs) =
    elim (ℕ_discrete b 0) [
      | yes y ↦ rw (eq-eqb b 0 y) (ended-way s (i + 1) met used bs)
      | no y ↦ rw (ne_eqb b 0 y)
    ]

ended-there : (s : Shape) (i : ℕ) (met used bs : List ℕ) → (ended_way (length met - 1) (back_over s met) i bs).refusal.number ≡ 0 → ended i met used bs ≡ arrived met used
unfolding ended ended_way
ended-there s i met used [] z = refl
ended-there s i met used (b ∷ bs) z =
    elim (ℕ_discrete b 0) [
      | yes y ↦ rw (eq-eqb b 0 y) (ended-there s (i + 1) met used bs (rw (eq-eqb b 0 y) at z))
      | no y ↦ let w : ◌≡◌ {A = ℕ} 14 0 = rw (ne_eqb b 0 y) at z in let n : ⊥ = omega arith in absurd n
    ]

-- ---- what a walk answers and leaves

module _ (s : Shape) (t : List ℕ) (a d : ℕ) (bs : List ℕ) where
  -- refused: nothing is asked of what it leaves
  walks_stopped : (r : Refusal) (w : Way) → w ≡ no_way r → no_way r ≡ way_answer s t a d bs → r.number ≢ 0 → (met used : List ℕ) → WalkLeaves s t a d bs w met used
  walks_stopped r w k e n met used =
      let z : w.refusal.number ≢ 0 = λ q. n (sym (ap (λ (x : Way). x.refusal.number) k) ∙ q) in
      record { way = k ∙ e; servers = λ q. absurd (z q); switches = λ q. absurd (z q) }

  -- before the first byte: 1, 2, 26, 3, 4, 5, 7; r is what a `?` met
  pub walks_refused : (r : Reason) → number_of r ≡ array_refusal s a d bs → (w : Way) → w ≡ no_way (plain (number_of r)) → (met used : List ℕ) → WalkLeaves s t a d bs w met used
  unfolding way_answer
  walks_refused r e w k =
      walks_stopped (plain (number_of r)) w k (answer-refused (number_of r) _ (λ (x : ℕ). no_way (plain x)) _ _ refl e (reason-some r)) (reason-some r)

  module _ (e : 0 ≡ array_refusal s a d bs) where
    pub walks_source : Server s a
    walks_source = (array_of s a d bs (sym e)).0.source

    pub walks_long : length bs ≡ 8
    walks_long = (array_of s a d bs (sym e)).1

    by_way : way_of s (walk s t a d bs) ≡ way_answer s t a d bs
    unfolding way_answer
    by_way = answer-given 0 _ (λ (x : ℕ). no_way (plain x)) _ _ e refl refl

    by_walk : walked (walk s t a d bs) ≡ walk_answer s t a d bs
    unfolding walk_answer
    by_walk = answer-given 0 _ (λ (x : ℕ). no_walk (plain x)) _ _ e refl refl

-- ---- the loop over the bytes

-- its invariant: what is left to walk from here gives the whole walk; x is the way back so far
pub record Going (s : Shape) (t : List ℕ) (source d : ℕ) (path met used : List ℕ) (x server i : ℕ) : Type 0 where
  pub bytes : length path ≡ 8
  pub here : Server s server
  pub long : length met ≡ 9
  pub wide : length used ≡ 8
  pub blank : drop (i + 1) met ≡ replicate (9 - (i + 1)) 0
  pub unused : drop i used ≡ replicate (8 - i) 0
  pub last : take (i + 1) met ≡ take i met ++ (server ∷ [])
  pub back : x ≡ back_over s (take (i + 1) met)
  pub small : x < 256 ^ i
  pub same : walk_from s t d i (take (i + 1) met) (take i used) server (drop i path) ≡ walk s t source d path

from-zeros : {s : Shape} {a : ℕ} → Server s a → (t : List ℕ) (d : ℕ) (path : List ℕ) → length path ≡ 8 → Going s t a d path (set (replicate 9 0) 0 a) (replicate 8 0) 0 a 0
unfolding walk back_over in_turn low_first
from-zeros h t d path e =
    record { bytes = e; here = h; long = refl; wide = refl; blank = refl; unused = refl; last = refl; back = refl; small = omega arith; same = refl }

pub going_start : (s : Shape) (t : List ℕ) (a d : ℕ) (path met used : List ℕ) → 0 ≡ array_refusal s a d path → Blank met used → Going s t a d path (set met 0 a) used 0 a 0
going_start s t a d path met used e zeros =
    subst (λ (m : List ℕ). Going s t a d path (set m 0 a) used 0 a 0) (sym zeros.met_zeros)
    (subst (λ (u : List ℕ). Going s t a d path (set (replicate 9 0) 0 a) u 0 a 0) (sym zeros.used_zeros) (from-zeros (walks_source s t a d path e) t d path (walks_long s t a d path e)))

pub going-server : {s : Shape} {t : List ℕ} {source d : ℕ} {path met used : List ℕ} {x a i : ℕ} → Going s t source d path met used x a i → server_refusal s a ≡ 0
going-server g = sym (server-none g.here)

-- one byte more of the way back
back_on : {s : Shape} {a : ℕ} → Server s a → (b : ℕ) → hop_refusal s a b ≡ 0 → (vs : List ℕ) → back_over s ((vs ++ (a ∷ [])) ++ (hop_to s a b ∷ [])) ≡ byte_of (level_of b) (digit s (level_of b) a) + 256 * back_over s (vs ++ (a ∷ []))
unfolding back_over low_first
back_on {s} {a} h b z vs =
    ap low_first (turn_back (byte_to s) vs a (hop_to s a b))
    ∙ ap (λ (y : ℕ). y + 256 * low_first (in_turn (byte_to s) (reverse (vs ++ (a ∷ []))))) (hop-byte-back h b z)

module _ {s : Shape} {t : List ℕ} {source d : ℕ} {path met used : List ℕ} {x a i : ℕ} (g : Going s t source d path met used x a i) (eq : 0 ≡ array_refusal s source d path) where
  -- all eight bytes were walked: 13
  pub going_end : length path ≤ i → (r : Refusal) → r ≡ refused_at 13 1 8 → WalkLeaves s t source d path (no_way r) met used
  unfolding walk_from
  going_end h r f =
      let e : stopped (refused_at 13 1 8) ≡ walk s t source d path = ap (walk_from s t d i (take (i + 1) met) (take i used) a) (sym (drop_of_length-le path h)) ∙ g.same in
      walks_stopped s t source d path r _ refl (ap no_way f ∙ ap (way_of s) e ∙ by_way s t source d path eq) (λ z. let n : ◌≡◌ {A = ℕ} 13 0 = sym (ap (λ (y : Refusal). y.number) f) ∙ z in omega arith) met used

  module _ (hi : i < length path) where
    abbrev b : ℕ
    b = get_or path i 0

    abbrev M : List ℕ
    M = take i met

    abbrev U : List ℕ
    U = take i used

    -- the walk from byte i on is the whole walk
    whole : walk_from s t d i (M ++ (a ∷ [])) U a (b ∷ drop (i + 1) path) ≡ walk s t source d path
    whole =
        ap₂ (λ (m : List ℕ) (bs : List ℕ). walk_from s t d i m U a bs) (sym g.last) (sym (left path i 0 hi))
        ∙ g.same

    -- y is what was found of the hop by the byte
    module _ (y : Result Taken Fault) (e : MatchResult y (Takes s t M U a b) (Faults s t M U a b)) where
      pub going-refused : {change : Fault → Type 0} (r : Refused) → MatchResult y (λ v. ◌≡◌ {A = Result Taken Refused} (Err r) (Ok v)) change → ((f : Fault) → change f → refusal_of r ≡ with_earlier 0 f.earlier (refused_at (number_of f.reason) 1 (i + 1))) → (w : Way) → w ≡ no_way (refusal_of r) → (met' used' : List ℕ) → WalkLeaves s t source d path w met' used'
      going-refused r m j w k =
          let f = fault_is _ _ y e r m in
          let c : refusal_of r ≡ stops_at (fault s t (M ++ (a ∷ [])) U a b) (i + 1) (M ++ (a ∷ [])) U (hop_to s a b) (switch_at s (level_of b) a) = j f.0 f.2 ∙ ap₂ (λ (o n : ℕ). with_earlier 0 o (refused_at n 1 (i + 1))) f.1.earlier f.1.number in
          let n : fault s t (M ++ (a ∷ [])) U a b ≢ 0 = λ z. reason-some f.0.reason (f.1.number ∙ z) in
          let v : stopped (refusal_of r) ≡ walk s t source d path = ap stopped c ∙ sym (walk_refused s t d i (M ++ (a ∷ [])) U a b (drop (i + 1) path) n) ∙ whole in
          walks_stopped s t source d path (refusal_of r) w k (ap (way_of s) v ∙ by_way s t source d path eq) (reason-some r.reason)

      module _ (h : Taken) (m : MatchResult y (λ v. ◌≡◌ {A = Result Taken Refused} (Ok h) (Ok v)) (λ f. ⊥)) where
        took : Takes s t M U a b h
        took = taken_is _ _ y e h m

        number : fault s t (M ++ (a ∷ [])) U a b ≡ 0
        number = sym took.free

        hops : hop_refusal s a b ≡ 0
        hops = fault-hop s t (M ++ (a ∷ [])) U a b number

        next : h.hop.next ≡ hop_to s a b
        next = ap (λ (p : Hop). p.next) took.hop

        level-low : h.hop.level ≤ 3
        level-low = omega (arith, ap (λ (p : Hop). p.level) took.hop, hop-level-low g.here b hops)

        old-low : h.hop.old < 64
        old-low = omega (arith, ap (λ (p : Hop). p.old) took.hop, hop-old-low g.here b hops)

        -- the way back with this hop's byte
        abbrev Back : ℕ
        Back = 256 * x + (64 * h.hop.level + h.hop.old)

        back-small : Back < 256 ^ (i + 1)
        back-small = omega (arith, g.small, level-low, old-low, power_on)
          where
            power_on : 256 ^ (i + 1) ≡ 256 * 256 ^ i
            power_on = rw (add-one, pow-suc) (mul_comm (256 ^ i) 256)

        -- the numbers on the way to it
        pub back_fits : Fits w64 Back
        back_fits = let k : i + 1 ≤ 8 = omega arith in omega (arith, back-small, pow-le-pow_right {n = 256} (lit< tt) k)

        pub shift_fits : Fits w64 (256 * x)
        shift_fits = omega (arith, back_fits)

        pub byte_fits : Fits w64 (64 * h.hop.level + h.hop.old)
        byte_fits = omega (arith, level-low, old-low)

        -- the servers met and the switches used with those of this hop
        met' : take (i + 1 + 1) (set met (i + 1) h.hop.next) ≡ (M ++ (a ∷ [])) ++ (hop_to s a b ∷ [])
        met' =
            taken_on met (i + 1) h.hop.next (omega (arith, g.long))
            ∙ ap₂ (λ (m : List ℕ) (p : ℕ). m ++ (p ∷ [])) g.last next

        used' : take (i + 1) (set used i h.switch) ≡ U ++ (switch_at s (level_of b) a ∷ [])
        used' = taken_on used i h.switch (omega (arith, g.wide)) ∙ ap (λ (p : ℕ). U ++ (p ∷ [])) took.switch

        back' : Back ≡ back_over s ((M ++ (a ∷ [])) ++ (hop_to s a b ∷ []))
        unfolding byte_of
        back' =
            let f = back_on g.here b hops M in
            let m = g.back ∙ ap (back_over s) g.last in
            omega (arith, f, m, ap (λ (p : Hop). p.level) took.hop, ap (λ (p : Hop). p.old) took.hop)

        -- the servers and the switches with zeros past them
        met-filled : set met (i + 1) h.hop.next ≡ filled 9 ((M ++ (a ∷ [])) ++ (hop_to s a b ∷ []))
        met-filled =
            sym (filled_is 9 (set met (i + 1) h.hop.next) (i + 1 + 1) (omega arith) (length-set met (i + 1) h.hop.next ∙ g.long) (rest_on 9 met (i + 1) h.hop.next g.blank))
            ∙ ap (filled 9) met'

        used_filled : set used i h.switch ≡ filled 8 (U ++ (switch_at s (level_of b) a ∷ []))
        used_filled =
            sym (filled_is 8 (set used i h.switch) (i + 1) (omega arith) (length-set used i h.switch ∙ g.wide) (rest_on 8 used i h.switch g.unused))
            ∙ ap (filled 8) used'

        pub going-arrived : h.hop.next ≡ d → (w : Way) → w ≡ ended_way (i + 1) Back (i + 1) (drop (i + 1) path) → WalkLeaves s t source d path w (set met (i + 1) h.hop.next) (set used i h.switch)
        going-arrived f w k = record { way = way; servers = servers; switches = switches }
          where
            vs : List ℕ
            vs = (M ++ (a ∷ [])) ++ (hop_to s a b ∷ [])

            ws : List ℕ
            ws = U ++ (switch_at s (level_of b) a ∷ [])

            count : i + 1 ≡ length vs - 1
            count = omega (arith, length_snoc (M ++ (a ∷ [])) (hop_to s a b), length_snoc M a, length-take-le i met (omega (arith, g.long)))

            walks : ended (i + 1) vs ws (drop (i + 1) path) ≡ walk s t source d path
            walks = sym (walk-arrives s t d i (M ++ (a ∷ [])) U a b (drop (i + 1) path) number (sym next ∙ f)) ∙ whole

            as_said : w ≡ ended_way (length vs - 1) (back_over s vs) (i + 1) (drop (i + 1) path)
            as_said = k ∙ ap₂ (λ (n m : ℕ). ended_way n m (i + 1) (drop (i + 1) path)) count back'

            way : w ≡ way_answer s t source d path
            way = as_said ∙ sym (ended-way s (i + 1) vs ws (drop (i + 1) path)) ∙ ap (way_of s) walks ∙ by_way s t source d path eq

            answer_is : w.refusal.number ≡ 0 → walked (arrived vs ws) ≡ walk_answer s t source d path
            answer_is n =
                ap walked (sym (ended-there s (i + 1) vs ws (drop (i + 1) path) (sym (ap (λ (p : Way). p.refusal.number) as_said) ∙ n)) ∙ walks)
                ∙ by_walk s t source d path eq

            servers : w.refusal.number ≡ 0 → set met (i + 1) h.hop.next ≡ (walk_answer s t source d path).servers
            servers n = met-filled ∙ ap (λ (p : Walked). p.servers) (answer_is n)

            switches : w.refusal.number ≡ 0 → set used i h.switch ≡ (walk_answer s t source d path).switches
            switches n = used_filled ∙ ap (λ (p : Walked). p.switches) (answer_is n)

        pub going_on : (h.hop.next ≡ d → ⊥) → Going s t source d path (set met (i + 1) h.hop.next) (set used i h.switch) Back h.hop.next (i + 1)
        going_on f =
            record {
              bytes = g.bytes;
              here = rw next (hop-server g.here b hops);
              long = length-set met (i + 1) h.hop.next ∙ g.long;
              wide = length-set used i h.switch ∙ g.wide;
              blank = rest_on 9 met (i + 1) h.hop.next g.blank;
              unused = rest_on 8 used i h.switch g.unused;
              last = taken_on met (i + 1) h.hop.next (omega (arith, g.long)) ∙ ap (λ (m : List ℕ). m ++ (h.hop.next ∷ [])) (sym (take-set-le (i + 1) met (i + 1) h.hop.next (omega arith)));
              back = back' ∙ ap (back_over s) (sym met');
              small = back-small;
              same =
                  rw (met', used')
                  (ap (λ (p : ℕ). walk_from s t d (i + 1) ((M ++ (a ∷ [])) ++ (hop_to s a b ∷ [])) (U ++ (switch_at s (level_of b) a ∷ [])) p (drop (i + 1) path)) next
                  ∙ sym (walk-goes s t d i (M ++ (a ∷ [])) U a b (drop (i + 1) path) number (λ p. f (next ∙ p)))
                  ∙ whole);
            }
