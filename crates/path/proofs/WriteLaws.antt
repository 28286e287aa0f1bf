-- Laws of writing: the byte of one hop, servers in turn, and what is refused on the way.
use Prim.Native.Nat.{ℕ, ◌+◌, ◌-◌, ◌*◌, ◌≤◌, ◌<◌}
use mathlib.Core.Path.{◌≡◌, refl, sym, ap, ap₂, ◌∙◌}
use mathlib.Core.Logic.{◌≢◌}
use mathlib.Core.Bool.{Bool, true, false, ◌&&◌}
use mathlib.Core.List.{List, [], ◌∷◌, ◌++◌, append-nil}
use native.Mathlib.Numerals.{add-one}
use native.Mathlib.Omega.{arith}
use lib.Dec.{leb}
use lib.ListN.{length, get_or, set, take, drop, replicate, drop_of_length-le, length-set, length-drop}
use lib.Seq.{take-suc, append_snoc}
use mir.Syntax.{w64}
use mir.Val.{Fits}
use borrow.Author.Tests.{eq-eqb, ne_eqb, le-leb, lt-leb}
use Rattle.std.specs.Prelude.{Result, Ok, Err, MatchResult}
use Rattle.lists.proofs.ListLaws.{left, filled_is, rest_on, taken_on}
use Rattle.lists.specs.Lists.{in_turn, filled}
use Rattle.refusals.specs.declared.Reason.{Reason}
use Rattle.refusals.specs.declared.Refused.{Refused}
use Rattle.refusals.specs.Reasons.{number_of, refusal_of}
use Rattle.refusals.proofs.ReasonLaws.{reason-some}
use Rattle.refusals.specs.Refusals.{Refusal, none, plain, refused_at, with_earlier, ◌or_else◌, ◌unless◌, answer}
use Rattle.refusals.proofs.AnswerLaws.{answer-same, answer_chain, answer-given}
use Rattle.refusals.proofs.ChainLaws.{or_else_left, chain_stops, chain_goes, same-refused, apart-passed}
use Rattle.room.specs.declared.Shape.{Shape}
use Rattle.room.specs.Told.{Number, Between}
use Rattle.room.specs.Shapes.{Server}
use Rattle.room.specs.Addresses.{digit, differing}
use Rattle.room.specs.Refusals.{shape_refusal, server_refusal, pair_refusal, link_refusal}
use Rattle.room.specs.Answers.{no_number, no_between, only_level, between_answer, digit_answer}
use Rattle.room.proofs.RefusalLaws.{link-none, pair_of, pair_none}
use Rattle.room.proofs.AnswerLaws.{between-answered, digit-answered}
use Rattle.room.proofs.RoomLaws.{digit_lt, bound_le, neighbours-exactly}
use Rattle.path.specs.declared.faults.Fault.{Fault}
use Rattle.path.specs.Told.{Tried, Writing}
use Rattle.path.specs.Routes.{byte_of, level_to, switch_at, switch_to, byte_to, encode, Route}
use Rattle.path.specs.Walks.{single, earlier_of, stops_at, write_fault, write_from}
use Rattle.path.specs.Answers.{servers_refusal, write_refusal, no_writing, a_writing, written, on_the_way, write_answer}
use Rattle.path.specs.Inside.{no_try, adds, tried_as, newly, tried_to, Next}
use Rattle.path.proofs.HopLaws.{digit-found}
use Rattle.path.proofs.CodecLaws.{Listed, listed_of, way-route, single-one}
use Rattle.path.proofs.RepeatLaws.{earlier-none, added-number, added-switch, added-refusal}

-- ---- two servers in a row

-- the level of a hop is the one in which its servers differ
pub next-differing : {s : Shape} {a b : ℕ} → Next s a b → differing s a b ≡ level_to s a b ∷ []
next-differing {s} {a} {b} n = (neighbours-exactly n.from n.to (level_to s a b)).1 n.hop

pub next_level : {s : Shape} {a b : ℕ} → Next s a b → (x : Between) → x ≡ between_answer s a b → x.level ≡ level_to s a b
next_level n x e =
    ap (λ (y : Between). y.level) (between-answered n.from n.to x e ∙ ap only_level (next-differing n))

-- the digit of the server hopped to is not refused
pub byte-there : {s : Shape} {a b : ℕ} (n : Next s a b) (l : ℕ) → l ≡ level_to s a b → (r : Reason) → no_number (number_of r) ≡ digit_answer s b l → ⊥
byte-there {s} {a} {b} n l e r f =
    reason-some r (ap (λ (x : Number). x.refusal.number) (digit-answered (record { server = n.to; level = n.hop.level }) _ (f ∙ ap (digit_answer s b) e)))

-- what the code finds of a hop: its level l and the new value
module _ {s : Shape} {a b : ℕ} (n : Next s a b) (l : ℕ) (e : l ≡ level_to s a b) (y : Number) (f : y ≡ digit_answer s b l) where
  byte-value : y.value ≡ digit s (level_to s a b) b
  byte-value = digit-found (record { server = n.to; level = n.hop.level }) y (f ∙ ap (digit_answer s b) e)

  pub byte_small : 64 * l + y.value < 256
  byte_small =
      let v = byte-value in
      let d = level_to s a b in
      omega (arith, n.hop.level, n.to.valid.levels, digit_lt n.to d n.hop.level, bound_le n.to.valid d, n.to.valid.ports)

  pub byte_fits : Fits w64 (64 * l + y.value)
  byte_fits = omega (arith, byte_small)

  pub byte_is : 64 * l + y.value ≡ byte_to s a b
  unfolding byte_to byte_of
  byte_is = ap₂ (λ (i v : ℕ). 64 * i + v) e byte-value

-- ---- one after the other

turn_on : (f : ℕ → ℕ → ℕ) (vs : List ℕ) (i : ℕ) → i + 1 < length vs → in_turn f (drop i vs) ≡ f (get_or vs i 0) (get_or vs (i + 1) 0) ∷ in_turn f (drop (i + 1) vs)
unfolding in_turn
turn_on f vs i h =
    let p : i < length vs = omega arith in
    rw (left vs i 0 p, left vs (i + 1) 0 h)

turn_short : (f : ℕ → ℕ → ℕ) (xs : List ℕ) → length xs ≤ 1 → in_turn f xs ≡ []
unfolding in_turn
turn_short f [] h = refl
turn_short f (x ∷ []) h = refl
turn_short f (x ∷ y ∷ ys) h = let z : ⊥ = omega arith in absurd z

-- the loop's invariant: the bytes put so far and those of the servers left are the whole
pub record Putting (s : Shape) (vs bytes : List ℕ) (i : ℕ) : Type 0 where
  pub within : i ≤ 8
  pub long : length bytes ≡ 8
  pub blank : drop i bytes ≡ replicate (8 - i) 0
  pub same : take i bytes ++ in_turn (byte_to s) (drop i vs) ≡ in_turn (byte_to s) vs

pub put_next : {s : Shape} {vs bytes : List ℕ} {i : ℕ} → Putting s vs bytes i → Route s [] vs → i + 1 < length vs → (x : ℕ) → x ≡ byte_to s (get_or vs i 0) (get_or vs (i + 1) 0) → Putting s vs (set bytes i x) (i + 1)
put_next {s} {vs} {bytes} {i} g v h x e =
    record {
      within = omega (arith, v.few);
      long = length-set bytes i x ∙ g.long;
      blank = rest_on 8 bytes i x g.blank;
      same =
          rw (taken_on bytes i x (omega (arith, v.few, g.long)), append_snoc)
          (ap (λ (xs : List ℕ). take i bytes ++ xs) (rw e (sym (turn_on (byte_to s) vs i h))) ∙ g.same);
    }

pub put-end : {s : Shape} {vs bytes : List ℕ} {i : ℕ} → Putting s vs bytes i → length vs ≤ i + 1 → bytes ≡ encode s vs
unfolding encode
put-end {s} {vs} {bytes} {i} g h =
    let q : length (drop i vs) ≤ 1 = rw length-drop (omega arith) in
    let e : take i bytes ≡ in_turn (byte_to s) vs = sym (append-nil (take i bytes)) ∙ ap (λ (xs : List ℕ). take i bytes ++ xs) (sym (turn_short (byte_to s) (drop i vs) q)) ∙ g.same in
    sym (filled_is 8 bytes i g.within g.long g.blank) ∙ ap (filled 8) e

-- ---- what is refused before the way: the first of the servers, by 1, 2, 26, 3, 4

-- the loop's invariant: what refuses the servers from i on refuses the list
pub record FineTo (s : Shape) (vs : List ℕ) (i : ℕ) : Type 0 where
  pub same : servers_refusal s (drop i vs) ≡ servers_refusal s vs

module _ {s : Shape} {vs : List ℕ} {i : ℕ} (g : FineTo s vs i) where
  pub fine_end : length vs ≤ i → 0 ≡ servers_refusal s vs
  unfolding servers_refusal
  fine_end h = (rw (drop_of_length-le vs h)) ∙ g.same

  module _ (h : i < length vs) where
    pub fine_stop : (r : Reason) → number_of r ≡ server_refusal s (get_or vs i 0) → number_of r ≡ servers_refusal s vs
    unfolding servers_refusal
    fine_stop r e = (rw (left vs i 0 h, ← e) (sym (or_else_left (number_of r) _ (reason-some r)))) ∙ g.same

    pub fine_next : 0 ≡ server_refusal s (get_or vs i 0) → FineTo s vs (i + 1)
    unfolding servers_refusal ◌or_else◌
    fine_next e = record { same = sym (rw (left vs i 0 h, ← e)) ∙ g.same }

-- ---- and the list

module _ (s : Shape) (vs : List ℕ) where
  pub write_shape : (r : Reason) → number_of r ≡ shape_refusal s → number_of r ≡ write_refusal s vs
  unfolding write_refusal
  write_shape r e = chain_stops _ _ _ (chain_stops _ _ _ (chain_stops _ _ _ e (reason-some r)) (reason-some r)) (reason-some r)

  module _ (e : 0 ≡ shape_refusal s) where
    count_refused : 22 ≡ 22 unless (leb 2 (length vs) && leb (length vs) 9) → 22 ≡ write_refusal s vs
    unfolding write_refusal
    count_refused h = chain_stops _ _ _ (chain_stops _ _ _ (chain_goes _ _ _ _ e refl h) (λ y. omega arith)) (λ y. omega arith)

    pub write-few : length vs < 2 → 22 ≡ write_refusal s vs
    write-few h = count_refused (simp (lt-leb 2 (length vs) h))

    pub write_many : 2 ≤ length vs → 9 < length vs → 22 ≡ write_refusal s vs
    write_many h p = count_refused (simp (le-leb 2 (length vs) h, lt-leb (length vs) 9 p))

    module _ (some : 2 ≤ length vs) (few : length vs ≤ 9) where
      passed : 0 ≡ shape_refusal s or_else 22 unless (leb 2 (length vs) && leb (length vs) 9)
      passed = chain_goes _ _ _ _ e refl (simp (le-leb 2 (length vs) some, le-leb (length vs) 9 few))

      pub write-server : (r : Reason) → number_of r ≡ servers_refusal s vs → number_of r ≡ write_refusal s vs
      unfolding write_refusal
      write-server r f = chain_stops _ _ _ (chain_goes _ _ _ _ passed refl f) (reason-some r)

      module _ (f : 0 ≡ servers_refusal s vs) where
        pub write_same : get_or vs 0 0 ≡ get_or vs (length vs - 1) 0 → 5 ≡ write_refusal s vs
        unfolding write_refusal
        write_same h = chain_goes _ _ _ _ (chain_goes _ _ _ _ passed refl f) refl (same-refused _ _ _ h)

        pub write-apart : (get_or vs 0 0 ≡ get_or vs (length vs - 1) 0 → ⊥) → 0 ≡ write_refusal s vs
        unfolding write_refusal
        write-apart h = chain_goes _ _ _ _ (chain_goes _ _ _ _ passed refl f) refl (apart-passed _ _ _ h)

-- ---- one hop: 23, then 28 and 29

level-single : (ls : List ℕ) → (only_level ls).adjacent ≡ single ls
level-single [] = refl
level-single (l ∷ []) = refl
level-single (l ∷ m ∷ ls) = refl

single-next : {s : Shape} {a b : ℕ} → Server s a → Server s b → single (differing s a b) ≡ true → Next s a b
unfolding level_to
single-next {s} {a} {b} ha hb e =
    record { from = ha; to = hb; hop = (neighbours-exactly ha hb (get_or (differing s a b) 0 0)).0 (single-one (differing s a b) e) }

-- two servers of the room are not refused
pub between-there : (s : Shape) (a b : ℕ) → pair_refusal s a b ≡ 0 → (r : Reason) → no_between (number_of r) ≡ between_answer s a b → ⊥
between-there s a b p r e =
    let h = pair_of s a b p in
    reason-some r (ap (λ (x : Between). x.refusal.number) (between-answered h.0 h.1 _ e) ∙ none-between (differing s a b))
  where
    none-between : (ls : List ℕ) → (only_level ls).refusal.number ≡ 0
    none-between [] = refl
    none-between (l ∷ []) = refl
    none-between (l ∷ m ∷ ls) = refl

module _ (s : Shape) (a b : ℕ) (p : pair_refusal s a b ≡ 0) (x : Between) (e : x ≡ between_answer s a b) where
  adjacent_single : x.adjacent ≡ single (differing s a b)
  adjacent_single =
      let h = pair_of s a b p in
      ap (λ (y : Between). y.adjacent) (between-answered h.0 h.1 x e) ∙ level-single (differing s a b)

  adjacent_next : x.adjacent ≡ true → Next s a b
  adjacent_next h = let v = pair_of s a b p in single-next v.0 v.1 (sym adjacent_single ∙ h)

  pub adjacent_link : x.adjacent ≡ true → link_refusal s a x.level ≡ 0
  adjacent_link h =
      let n = adjacent_next h in
      ap (link_refusal s a) (next_level n x e) ∙ sym (link-none (record { server = n.from; level = n.hop.level }))

  module _ (met used : List ℕ) where
    abbrev after : Tried
    after = newly met used b (switch_to s a b)

    -- 23 names no earlier hop
    split : answer (23 unless single (differing s a b)) (no_try 0) after ≡ tried_to s met used a b
    unfolding tried_to write_fault newly
    split = answer-same _ (no_try 0) _ after _ (λ n. apart (single (differing s a b)) n) refl ∙ sym (answer_chain _ _ _ _)
      where
        apart : (t : Bool) → 23 unless t ≢ 0 → no_try 0 (23 unless t) ≡ no_try (earlier_of (23 unless t) met used b (switch_to s a b)) (23 unless t)
        apart true n = absurd (n refl)
        apart false n = ap (λ (e : ℕ). no_try e 23) (sym (earlier-none met used b (switch_to s a b) 23 (λ q. omega arith) (λ q. omega arith)))

    pub next-refused : x.adjacent ≡ false → (y : Tried) → y ≡ no_try 0 23 → y ≡ tried_to s met used a b
    next-refused h y f = (let l : single (differing s a b) ≡ false = sym adjacent_single ∙ h in rw l f) ∙ split

    pub next-tried : x.adjacent ≡ true → (w : ℕ) → w ≡ switch_at s x.level a → (y : Tried) → y ≡ newly met used b w → y ≡ tried_to s met used a b
    unfolding switch_to
    next-tried h w u y f =
        let l : single (differing s a b) ≡ true = sym adjacent_single ∙ h in
        let z : w ≡ switch_at s (level_to s a b) a = u ∙ ap (λ (v : ℕ). switch_at s v a) (next_level (adjacent_next h) x e) in
        (rw l (f ∙ ap (newly met used b) z)) ∙ split

-- what was found of a try
module _ (s : Shape) (met used : List ℕ) (a b : ℕ) (x : Tried) (e : x ≡ tried_to s met used a b) where
  to_number : x.number ≡ write_fault s met used a b
  unfolding tried_to
  to_number = added-number (write_fault s met used a b) met used b (switch_to s a b) x e

  to-switch : x.number ≡ 0 → x.switch ≡ switch_to s a b
  unfolding tried_to
  to-switch = added-switch (write_fault s met used a b) met used b (switch_to s a b) x e

  to-refusal : x.number ≢ 0 → (h : ℕ) (n : Refusal) → n ≡ refused_at x.number 1 h → (m : Refusal) → m ≡ with_earlier 0 x.earlier n → m ≡ stops_at (write_fault s met used a b) h met used b (switch_to s a b)
  unfolding tried_to
  to-refusal = added-refusal (write_fault s met used a b) met used b (switch_to s a b) x e

-- ---- one turn of the way

module _ (s : Shape) (vs used : List ℕ) (i : ℕ) (h : i + 1 < length vs) (x : Tried) (e : x ≡ tried_to s (take (i + 1) vs) (take i used) (get_or vs i 0) (get_or vs (i + 1) 0)) where
  abbrev faulty : ℕ
  faulty = write_fault s (take (i + 1) vs) (take i used) (get_or vs i 0) (get_or vs (i + 1) 0)

  way-refused : (x.number ≡ 0 → ⊥) → stops_at faulty (i + 1) (take (i + 1) vs) (take i used) (get_or vs (i + 1) 0) (switch_to s (get_or vs i 0) (get_or vs (i + 1) 0)) ≡ write_from s i (take (i + 1) vs) (take i used) (get_or vs i 0) (drop (i + 1) vs)
  unfolding write_from
  way-refused n =
      let r = to_number s (take (i + 1) vs) (take i used) (get_or vs i 0) (get_or vs (i + 1) 0) x e in
      sym (rw (left vs (i + 1) 0 h, ne_eqb faulty 0 (λ z. n (r ∙ z))))

  way_on : i < length used → x.number ≡ 0 → write_from s (i + 1) (take (i + 1 + 1) vs) (take (i + 1) (set used i x.switch)) (get_or vs (i + 1) 0) (drop (i + 1 + 1) vs) ≡ write_from s i (take (i + 1) vs) (take i used) (get_or vs i 0) (drop (i + 1) vs)
  unfolding write_from
  way_on u z =
      let r = to_number s (take (i + 1) vs) (take i used) (get_or vs i 0) (get_or vs (i + 1) 0) x e in
      let w = to-switch s (take (i + 1) vs) (take i used) (get_or vs i 0) (get_or vs (i + 1) 0) x e z in
      let m : take (i + 1 + 1) vs ≡ take (i + 1) vs ++ (get_or vs (i + 1) 0 ∷ []) = rw (add-one (i + 1)) (take-suc vs (i + 1) 0 h) in
      rw (m, taken_on used i x.switch u) (sym (rw (left vs (i + 1) 0 h, ← r, eq-eqb x.number 0 z, ← w)))

-- the loop's invariant: what is left to write from here gives the whole answer
pub record Way (s : Shape) (vs used : List ℕ) (i : ℕ) : Type 0 where
  pub fine : Listed s vs
  pub wide : length used ≡ 8
  pub same : write_from s i (take (i + 1) vs) (take i used) (get_or vs i 0) (drop (i + 1) vs) ≡ on_the_way s vs

pub way-start : (s : Shape) (vs : List ℕ) → write_refusal s vs ≡ 0 → Way s vs (replicate 8 0) 0
unfolding on_the_way
way-start s vs e = go vs (listed_of s vs e)
  where
    go : (vs : List ℕ) → Listed s vs → Way s vs (replicate 8 0) 0
    go [] h = let z : ⊥ = omega (arith, h.some) in absurd z
    go (v ∷ vs) h = record { fine = h; wide = refl; same = refl }

module _ {s : Shape} {vs used : List ℕ} {i : ℕ} (g : Way s vs used i) where
  pub way_end : length vs ≤ i + 1 → none ≡ on_the_way s vs
  unfolding write_from
  way_end h = (rw (drop_of_length-le vs h)) ∙ g.same

  module _ (h : i + 1 < length vs) where
    pub way_pair : pair_refusal s (get_or vs i 0) (get_or vs (i + 1) 0) ≡ 0
    way_pair = sym (pair_none (g.fine.servers.each i (omega arith)) (g.fine.servers.each (i + 1) h))

    -- x is what was found of the hop
    module _ (x : Result ℕ Fault) (e : tried_as x ≡ tried_to s (take (i + 1) vs) (take i used) (get_or vs i 0) (get_or vs (i + 1) 0)) where
      -- r is what was made of its fault
      pub way_stop : {change : Fault → Type 0} (r : Refused) → MatchResult x (λ v. ◌≡◌ {A = Result ℕ Refused} (Err r) (Ok v)) change → ((f : Fault) → change f → refusal_of r ≡ with_earlier 0 f.earlier (refused_at (number_of f.reason) 1 (i + 1))) → refusal_of r ≡ on_the_way s vs
      way_stop {change} r m k = go x e m
        where
          go : (y : Result ℕ Fault) → tried_as y ≡ tried_to s (take (i + 1) vs) (take i used) (get_or vs i 0) (get_or vs (i + 1) 0) → MatchResult y (λ v. ◌≡◌ {A = Result ℕ Refused} (Err r) (Ok v)) change → refusal_of r ≡ on_the_way s vs
          go (Ok w) f p = cc
          go (Err w) f p =
              let n = reason-some w.reason in
              to-refusal s (take (i + 1) vs) (take i used) (get_or vs i 0) (get_or vs (i + 1) 0) (tried_as (Err w)) f n (i + 1) _ refl _ (k w p) ∙ way-refused s vs used i h (tried_as (Err w)) f n ∙ g.same

      -- w is the switch that a `?` gave
      pub way_next : (w : ℕ) → MatchResult x (λ v. ◌≡◌ {A = Result ℕ Refused} (Ok w) (Ok v)) (λ f. ⊥) → Way s vs (set used i w) (i + 1)
      way_next w m = go x e m
        where
          goes : adds w ≡ tried_to s (take (i + 1) vs) (take i used) (get_or vs i 0) (get_or vs (i + 1) 0) → Way s vs (set used i w) (i + 1)
          goes f = record { fine = g.fine; wide = length-set used i w ∙ g.wide; same = way_on s vs used i h (adds w) f (omega (arith, g.fine.few)) refl ∙ g.same }

          go : (y : Result ℕ Fault) → tried_as y ≡ tried_to s (take (i + 1) vs) (take i used) (get_or vs i 0) (get_or vs (i + 1) 0) → MatchResult y (λ v. ◌≡◌ {A = Result ℕ Refused} (Ok w) (Ok v)) (λ f. ⊥) → Way s vs (set used i w) (i + 1)
          go (Ok v) f p = let q : w ≡ v = cc in goes (ap adds q ∙ f)
          go (Err v) f p = absurd p

-- ---- what is answered

module _ (s : Shape) (vs : List ℕ) (e : 0 ≡ write_refusal s vs) where
  written_is : (r : Refusal) → r ≡ on_the_way s vs → (x : Writing) → x ≡ written s vs r → x ≡ write_answer s vs
  unfolding write_answer
  written_is r f x k = answer-given 0 _ (λ (m : ℕ). no_writing (plain m)) x _ e refl (k ∙ ap (written s vs) f)

  pub way_refuses : (r : Refused) → refusal_of r ≡ on_the_way s vs → no_writing (refusal_of r) ≡ write_answer s vs
  way_refuses r f = written_is (refusal_of r) f _ (rw (ne_eqb (number_of r.reason) 0 (reason-some r.reason)))

  module _ (f : none ≡ on_the_way s vs) where
    pub way-taken : Route s [] vs
    way-taken = way-route vs (listed_of s vs (sym e)) (sym (ap (λ (q : Refusal). q.number) f))

    pub way-written : (bs : List ℕ) → bs ≡ encode s vs → a_writing bs ≡ write_answer s vs
    way-written bs k = written_is none f _ (ap a_writing k)
