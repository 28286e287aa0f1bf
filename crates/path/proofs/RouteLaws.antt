-- Reading gives exactly the routes: what a walk arrives with is a route, and a walk over the bytes of a route arrives with it.
use Prim.Native.Nat.{ℕ, zero, suc, ◌+◌, ◌-◌, ◌≤◌, ◌<◌, zero-le, suc-le-suc}
use mathlib.Core.Path.{◌≡◌, refl, sym, ap, ap₂, ◌∙◌, subst}
use mathlib.Core.Logic.{◌≢◌, ◌↔◌}
use mathlib.Core.Bool.{true, false}
use mathlib.Core.List.{List, [], ◌∷◌, ◌++◌, append-nil}
use native.Mathlib.Omega.{arith}
use native.Mathlib.Nat.{add-zero}
use native.Mathlib.Decide.{ℕ_discrete}
use lib.ListN.{length, get_or, take, replicate, length-append, drop_of_length-le, get_or-append}
use lib.Seq.{get_or-append_seam, append_snoc, split_at, length-take-le}
use borrow.Author.Tests.{eq-eqb, ne_eqb}
use Rattle.lists.proofs.ListLaws.{length_snoc, snoc_last, snoc_at, once_snoc, once-front, length_turn, turn_snoc, turn_front}
use Rattle.lists.specs.Lists.{is_in, in_turn, filled}
use Rattle.refusals.specs.Refusals.{refused_at, ◌or_else◌, ◌unless◌}
use Rattle.refusals.proofs.ChainLaws.{or_else_zero, test_held}
use Rattle.room.specs.declared.Shape.{Shape}
use Rattle.room.specs.Shapes.{Server}
use Rattle.room.specs.Addresses.{Neighbours}
use Rattle.links.specs.Table.{live}
use Rattle.path.specs.Routes.{level_of, switch_at, level_to, switch_to, byte_to, switches_of, encode, Route, Prefix, RouteTo}
use Rattle.path.specs.Walks.{stopped, arrived, hop_to, hop_refusal, again, stops_at, fault, ended, walk_from, walk}
use Rattle.path.proofs.HopLaws.{hop-server, hop-neighbours, hop-level, hop-byte, hop-switch, byte-hop, byte-taken, byte-switch, byte-level}
use Rattle.path.proofs.RepeatLaws.{again-none, again-new}

-- the last of a list
abbrev pub last_of : List ℕ → ℕ
last_of vs = get_or vs (length vs - 1) 0

-- ---- the beginnings of routes, hop after hop

pub route_prefix : {s : Shape} {t vs : List ℕ} → Route s t vs → Prefix s t vs
route_prefix h =
    record { some = omega (arith, h.some); servers = h.servers; hops = h.hops; alive = h.alive; servers_once = h.servers_once; switches_once = h.switches_once }

pub prefix_route : {s : Shape} {t vs : List ℕ} → Prefix s t vs → 2 ≤ length vs → length vs ≤ 9 → Route s t vs
prefix_route h p q =
    record { some = p; few = q; servers = h.servers; hops = h.hops; alive = h.alive; servers_once = h.servers_once; switches_once = h.switches_once }

-- a server alone
pub prefix_one : {s : Shape} {a : ℕ} (t : List ℕ) → Server s a → Prefix s t (a ∷ [])
unfolding switches_of in_turn
prefix_one {s} {a} t h =
    record {
      some = suc-le-suc zero-le;
      servers = λ i p. let e : i ≡ 0 = omega arith in rw e h;
      hops = λ i p. let z : ⊥ = omega arith in absurd z;
      alive = λ i p. let z : ⊥ = omega arith in absurd z;
      servers_once = record { apart = λ i j p q e. let z : ⊥ = omega arith in z };
      switches_once = record { apart = λ i j p q e. let z : ⊥ = omega arith in z };
    }

-- a beginning of a beginning
pub prefix_front : {s : Shape} {t : List ℕ} (xs ys : List ℕ) → 0 < length xs → Prefix s t (xs ++ ys) → Prefix s t xs
unfolding switches_of
prefix_front {s} {t} xs ys o h =
    record {
      some = o;
      servers = λ i p. rw (at i p) at (h.servers i (longer i p));
      hops = λ i p. rw (at i (omega arith), at (suc i) p) at (h.hops i (longer (suc i) p));
      alive = λ i p. rw (at i (omega arith), at (suc i) p) at (h.alive i (longer (suc i) p));
      servers_once = once-front xs ys h.servers_once;
      switches_once = turn_front (switch_to s) xs ys h.switches_once;
    }
  where
    at : (i : ℕ) → i < length xs → get_or (xs ++ ys) i 0 ≡ get_or xs i 0
    at i p = get_or-append xs ys 0 i p

    longer : (i : ℕ) → i < length xs → i < length (xs ++ ys)
    longer i p = omega (arith, length-append xs ys)

-- the hop from server a to b goes on from the servers met so far
pub record Step (s : Shape) (t vs : List ℕ) (a b : ℕ) : Type 0 where
  pub server : Server s b
  pub hop : Neighbours s (level_to s a b) a b
  pub alive : live t (level_to s a b) a b ≡ true
  pub fresh : is_in b vs ≡ false
  pub unused : is_in (switch_to s a b) (switches_of s vs) ≡ false

pub switches_snoc : (s : Shape) (vs : List ℕ) (b : ℕ) → 0 < length vs → switches_of s (vs ++ (b ∷ [])) ≡ switches_of s vs ++ (switch_to s (last_of vs) b ∷ [])
unfolding switches_of
switches_snoc s vs b h = turn_snoc (switch_to s) vs b h

pub prefix_step : {s : Shape} {t : List ℕ} (vs : List ℕ) (b : ℕ) → 0 < length vs → Prefix s t (vs ++ (b ∷ [])) → Step s t vs (last_of vs) b
prefix_step {s} {t} vs b o h =
    record {
      server = rw here at (h.servers (length vs) (omega (arith, length_snoc vs b)));
      hop = rw (before, after) at (h.hops i p);
      alive = rw (before, after) at (h.alive i p);
      fresh = ((once_snoc vs b).0 h.servers_once).1;
      unused = ((once_snoc (switches_of s vs) (switch_to s (last_of vs) b)).0 (rw (switches_snoc s vs b o) at h.switches_once)).1;
    }
  where
    i : ℕ
    i = length vs - 1

    p : suc i < length (vs ++ (b ∷ []))
    p = omega (arith, length_snoc vs b)

    here : get_or (vs ++ (b ∷ [])) (length vs) 0 ≡ b
    here = get_or-append_seam vs b [] 0

    before : get_or (vs ++ (b ∷ [])) i 0 ≡ last_of vs
    before = snoc_at vs b i (omega arith)

    after : get_or (vs ++ (b ∷ [])) (suc i) 0 ≡ b
    after = let e : suc i ≡ length vs = omega arith in ap (λ (k : ℕ). get_or (vs ++ (b ∷ [])) k 0) e ∙ here

pub prefix_snoc : {s : Shape} {t : List ℕ} (vs : List ℕ) (b : ℕ) → Prefix s t vs → Step s t vs (last_of vs) b → Prefix s t (vs ++ (b ∷ []))
prefix_snoc {s} {t} vs b h st =
    record {
      some = omega (arith, length_snoc vs b);
      servers = λ i p.
          elim (ℕ_discrete i (length vs)) [
            | yes y ↦ rw (at-end i y) st.server
            | no y ↦ let q : i < length vs = omega (arith, length_snoc vs b) in rw (snoc_at vs b i q) (h.servers i q)
          ];
      hops = λ i p.
          elim (ℕ_discrete (suc i) (length vs)) [
            | yes y ↦ rw (at_last i y, at-end (suc i) y) st.hop
            | no y ↦ let q : suc i < length vs = omega (arith, length_snoc vs b) in
                rw (snoc_at vs b i (omega arith), snoc_at vs b (suc i) q) (h.hops i q)
          ];
      alive = λ i p.
          elim (ℕ_discrete (suc i) (length vs)) [
            | yes y ↦ rw (at_last i y, at-end (suc i) y) st.alive
            | no y ↦ let q : suc i < length vs = omega (arith, length_snoc vs b) in
                rw (snoc_at vs b i (omega arith), snoc_at vs b (suc i) q) (h.alive i q)
          ];
      servers_once = (once_snoc vs b).1 (h.servers_once, st.fresh);
      switches_once = rw (switches_snoc s vs b h.some) ((once_snoc (switches_of s vs) (switch_to s (last_of vs) b)).1 (h.switches_once, st.unused));
    }
  where
    at-end : (i : ℕ) → i ≡ length vs → get_or (vs ++ (b ∷ [])) i 0 ≡ b
    at-end i y = ap (λ (k : ℕ). get_or (vs ++ (b ∷ [])) k 0) y ∙ get_or-append_seam vs b [] 0

    at_last : (i : ℕ) → suc i ≡ length vs → get_or (vs ++ (b ∷ [])) i 0 ≡ last_of vs
    at_last i y =
        let e : i ≡ length vs - 1 = omega arith in
        snoc_at vs b i (omega arith) ∙ ap (λ (k : ℕ). get_or vs k 0) e

-- ---- a hop that is not refused on the way, and back

pub fault-hop : (s : Shape) (t met used : List ℕ) (a b : ℕ) → fault s t met used a b ≡ 0 → hop_refusal s a b ≡ 0
unfolding fault
fault-hop s t met used a b e =
    let p = or_else_zero (hop_refusal s a b or_else 11 unless live t (level_of b) a (hop_to s a b)) _ e in
    (or_else_zero (hop_refusal s a b) _ p.0).0

pub fault-step : {s : Shape} {a : ℕ} → Server s a → (t vs : List ℕ) (x : ℕ) → fault s t vs (switches_of s vs) a x ≡ 0 → (hop_refusal s a x ≡ 0) × Step s t vs a (hop_to s a x)
unfolding fault
fault-step {s} {a} h t vs x e =
    let b = hop_to s a x in
    let p = or_else_zero (hop_refusal s a x or_else 11 unless live t (level_of x) a b) (again vs (switches_of s vs) b (switch_at s (level_of x) a)) e in
    let q = or_else_zero (hop_refusal s a x) (11 unless live t (level_of x) a b) p.0 in
    let w = again-none vs (switches_of s vs) b (switch_at s (level_of x) a) p.1 in (
      q.0,
      record {
        server = hop-server h x q.0;
        hop = rw (hop-level h x q.0) (hop-neighbours h x q.0);
        alive = rw (hop-level h x q.0) (test_held _ 10 q.1);
        fresh = w.0;
        unused = rw (hop-switch h x q.0) w.1;
      },
    )

pub step-fault : {s : Shape} {t vs : List ℕ} {a b : ℕ} → Server s a → Step s t vs a b → fault s t vs (switches_of s vs) a (byte_to s a b) ≡ 0
unfolding fault ◌or_else◌
step-fault {s} {t} {vs} {a} {b} h st =
    rw (byte-taken h st.server st.hop, byte-switch h st.server st.hop, byte-level h st.server st.hop, byte-hop h st.server st.hop, st.alive)
    (again-new vs (switches_of s vs) b (switch_to s a b) st.fresh st.unused)

-- ---- the ways through one byte of a walk

module _ (s : Shape) (t : List ℕ) (d h : ℕ) (met used : List ℕ) (a b : ℕ) (bs : List ℕ) where
  pub walk_refused : fault s t met used a b ≢ 0 → walk_from s t d h met used a (b ∷ bs) ≡ stopped (stops_at (fault s t met used a b) (h + 1) met used (hop_to s a b) (switch_at s (level_of b) a))
  unfolding walk_from
  walk_refused r = rw (ne_eqb (fault s t met used a b) 0 r)

  pub walk-arrives : fault s t met used a b ≡ 0 → hop_to s a b ≡ d → walk_from s t d h met used a (b ∷ bs) ≡ ended (h + 1) (met ++ (hop_to s a b ∷ [])) (used ++ (switch_at s (level_of b) a ∷ [])) bs
  unfolding walk_from
  walk-arrives r e = rw (eq-eqb (fault s t met used a b) 0 r, eq-eqb (hop_to s a b) d e)

  pub walk-goes : fault s t met used a b ≡ 0 → hop_to s a b ≢ d → walk_from s t d h met used a (b ∷ bs) ≡ walk_from s t d (h + 1) (met ++ (hop_to s a b ∷ [])) (used ++ (switch_at s (level_of b) a ∷ [])) (hop_to s a b) bs
  unfolding walk_from
  walk-goes r e = rw (eq-eqb (fault s t met used a b) 0 r, ne_eqb (hop_to s a b) d e)

pub ended-arrived : (h : ℕ) (met used bs vs ws : List ℕ) → ended h met used bs ≡ arrived vs ws → (met ≡ vs) × (used ≡ ws) × (bs ≡ replicate (length bs) 0)
unfolding ended
ended-arrived h met used [] vs ws e = (cc, cc, refl)
ended-arrived h met used (b ∷ bs) vs ws e =
    elim (ℕ_discrete b 0) [
      | yes y ↦ let r : ended (h + 1) met used bs ≡ arrived vs ws = rw (eq-eqb b 0 y) at e in
          let w = ended-arrived (h + 1) met used bs vs ws r in
          (w.0, w.1, ap (λ (x : ℕ). x ∷ bs) y ∙ ap (λ (l : List ℕ). 0 ∷ l) w.2)
      | no y ↦ let r : stopped (refused_at 14 1 (h + 1)) ≡ arrived vs ws = rw (ne_eqb b 0 y) at e in
          let z : ◌≡◌ {A = ℕ} 0 1 = cc in let n : ⊥ = omega arith in absurd n
    ]

pub ended-zeros : (h : ℕ) (met used : List ℕ) (m : ℕ) → ended h met used (replicate m 0) ≡ arrived met used
unfolding ended
ended-zeros h met used zero = refl
ended-zeros h met used (suc m) = ended-zeros (h + 1) met used m

-- ---- what a walk arrives with is a route

-- from the servers vs, over the bytes bs, a walk came to d by the servers us and the switches ws
pub record Came (s : Shape) (t : List ℕ) (d : ℕ) (vs bs us ws : List ℕ) : Type 0 where
  pub whole : Prefix s t us
  pub source : get_or us 0 0 ≡ get_or vs 0 0
  pub arrives : last_of us ≡ d
  pub switches : ws ≡ switches_of s us
  pub longer : length vs ≤ length us
  pub few : length us ≤ length vs + length bs
  pub bytes : in_turn (byte_to s) us ++ replicate (length vs + length bs - length us) 0 ≡ in_turn (byte_to s) vs ++ bs

came_step : {s : Shape} {t : List ℕ} {d : ℕ} {us ws : List ℕ} (vs : List ℕ) (next b : ℕ) (bs : List ℕ) → 0 < length vs → byte_to s (last_of vs) next ≡ b → Came s t d (vs ++ (next ∷ [])) bs us ws → Came s t d vs (b ∷ bs) us ws
came_step {s} {t} {d} {us} {ws} vs next b bs o e h =
    record {
      whole = h.whole;
      source = h.source ∙ snoc_at vs next 0 o;
      arrives = h.arrives;
      switches = h.switches;
      longer = omega (arith, h.longer, length_snoc vs next);
      few = omega (arith, h.few, length_snoc vs next);
      bytes = ap (λ (k : ℕ). in_turn (byte_to s) us ++ replicate k 0) same
          ∙ h.bytes
          ∙ ap (λ (l : List ℕ). l ++ bs) (turn_snoc (byte_to s) vs next o)
          ∙ ap (λ (x : ℕ). in_turn (byte_to s) vs ++ (x ∷ []) ++ bs) e
          ∙ append_snoc (in_turn (byte_to s) vs) b bs;
    }
  where
    same : length vs + length (b ∷ bs) - length us ≡ length (vs ++ (next ∷ [])) + length bs - length us
    same = omega (arith, length_snoc vs next)

came_here : {s : Shape} {t : List ℕ} {d : ℕ} (vs bs : List ℕ) → Prefix s t vs → last_of vs ≡ d → bs ≡ replicate (length bs) 0 → Came s t d vs bs vs (switches_of s vs)
came_here {s} vs bs h e z =
    record {
      whole = h;
      source = refl;
      arrives = e;
      switches = refl;
      longer = omega arith;
      few = omega arith;
      bytes = let q : length vs + length bs - length vs ≡ length bs = omega arith in
          ap (λ (k : ℕ). in_turn (byte_to s) vs ++ replicate k 0) q ∙ ap (λ (l : List ℕ). in_turn (byte_to s) vs ++ l) (sym z);
    }

pub walk_came : (s : Shape) (t : List ℕ) (d h : ℕ) (vs : List ℕ) (a : ℕ) (bs us ws : List ℕ) → Prefix s t vs → last_of vs ≡ a → walk_from s t d h vs (switches_of s vs) a bs ≡ arrived us ws → Came s t d vs bs us ws
unfolding walk_from
walk_came s t d h vs a [] us ws p l e = let z : ◌≡◌ {A = ℕ} 0 1 = cc in let n : ⊥ = omega arith in absurd n
walk_came s t d h vs a (b ∷ bs) us ws p l e =
    elim (ℕ_discrete (fault s t vs (switches_of s vs) a b) 0) [
      | no y ↦ let r = sym (walk_refused s t d h vs (switches_of s vs) a b bs y) ∙ e in
          let z : ◌≡◌ {A = ℕ} 0 1 = cc in let n : ⊥ = omega arith in absurd n
      | yes y ↦ came_step vs next b bs p.some (ap (λ (x : ℕ). byte_to s x next) l ∙ hop-byte ha b (step y).0) (elim (ℕ_discrete next d) [
        | yes q ↦ let w = ended-arrived (h + 1) _ _ bs us ws (sym (walk-arrives s t d h vs (switches_of s vs) a b bs y q) ∙ e) in
            let c : Came s t d (vs ++ (next ∷ [])) bs (vs ++ (next ∷ [])) (switches_of s (vs ++ (next ∷ []))) = came_here (vs ++ (next ∷ [])) bs (on y) (snoc_last vs next ∙ q) w.2 in
            subst (λ (x : List ℕ). Came s t d (vs ++ (next ∷ [])) bs x ws) w.0
            (subst (λ (x : List ℕ). Came s t d (vs ++ (next ∷ [])) bs (vs ++ (next ∷ [])) x) (used y ∙ w.1) c)
        | no q ↦ walk_came s t d (h + 1) (vs ++ (next ∷ [])) next bs us ws (on y) (snoc_last vs next)
            (ap (λ (x : List ℕ). walk_from s t d (h + 1) (vs ++ (next ∷ [])) x next bs) (used y)
            ∙ sym (walk-goes s t d h vs (switches_of s vs) a b bs y q)
            ∙ e)
      ])
    ]
  where
    next : ℕ
    next = hop_to s a b

    ha : Server s a
    ha = subst (Server s) l (p.servers (length vs - 1) (omega (arith, p.some)))

    step : fault s t vs (switches_of s vs) a b ≡ 0 → (hop_refusal s a b ≡ 0) × Step s t vs a next
    step y = fault-step ha t vs b y

    on : fault s t vs (switches_of s vs) a b ≡ 0 → Prefix s t (vs ++ (next ∷ []))
    on y = prefix_snoc vs next p (subst (λ (x : ℕ). Step s t vs x next) (sym l) (step y).1)

    used : fault s t vs (switches_of s vs) a b ≡ 0 → switches_of s (vs ++ (next ∷ [])) ≡ switches_of s vs ++ (switch_at s (level_of b) a ∷ [])
    used y =
        switches_snoc s vs next p.some
        ∙ ap (λ (x : ℕ). switches_of s vs ++ (switch_to s x next ∷ [])) l
        ∙ ap (λ (x : ℕ). switches_of s vs ++ (x ∷ [])) (hop-switch ha b (step y).0)

-- what a walk of eight bytes arrives with is a route from its source to its destination, and the bytes are those of the route
pub read_sound : {s : Shape} {a d : ℕ} (t bs vs ws : List ℕ) → Server s a → a ≢ d → length bs ≡ 8 → walk s t a d bs ≡ arrived vs ws → RouteTo s t a d vs × (ws ≡ switches_of s vs) × (bs ≡ encode s vs)
unfolding walk switches_of in_turn encode filled
read_sound {s} {a} {d} t bs vs ws ha ne l e =
    (record { route = prefix_route c.whole some (omega (arith, c.few)); source = c.source; arrives = c.arrives }, c.switches, bytes)
  where
    c : Came s t d (a ∷ []) bs vs ws
    c = walk_came s t d 0 (a ∷ []) a bs vs ws (prefix_one t ha) refl e

    some : 2 ≤ length vs
    some =
        elim (ℕ_discrete (length vs - 1) 0) [
          | yes y ↦ let r : a ≡ d = sym c.source ∙ ap (λ (k : ℕ). get_or vs k 0) (sym y) ∙ c.arrives in absurd (ne r)
          | no y ↦ omega arith
        ]

    zeros : 8 - length (in_turn (byte_to s) vs) ≡ length (a ∷ []) + length bs - length vs
    zeros = omega (arith, some, length_turn (byte_to s) vs)

    bytes : bs ≡ in_turn (byte_to s) vs ++ replicate (8 - length (in_turn (byte_to s) vs)) 0
    bytes = sym c.bytes ∙ ap (λ (k : ℕ). in_turn (byte_to s) vs ++ replicate k 0) (sym zeros)

-- ---- a walk over the bytes of a way goes along it

module _ {s : Shape} {t vs : List ℕ} {a b : ℕ} (ha : Server s a) (st : Step s t vs a b) (d h : ℕ) (bs : List ℕ) where
  pub step-arrives : b ≡ d → walk_from s t d h vs (switches_of s vs) a (byte_to s a b ∷ bs) ≡ ended (h + 1) (vs ++ (b ∷ [])) (switches_of s vs ++ (switch_to s a b ∷ [])) bs
  step-arrives e =
      walk-arrives s t d h vs (switches_of s vs) a (byte_to s a b) bs (step-fault ha st) (byte-hop ha st.server st.hop ∙ e)
      ∙ ap₂ (λ (x y : ℕ). ended (h + 1) (vs ++ (x ∷ [])) (switches_of s vs ++ (y ∷ [])) bs) (byte-hop ha st.server st.hop) (byte-switch ha st.server st.hop)

  pub step-goes : b ≢ d → walk_from s t d h vs (switches_of s vs) a (byte_to s a b ∷ bs) ≡ walk_from s t d (h + 1) (vs ++ (b ∷ [])) (switches_of s vs ++ (switch_to s a b ∷ [])) b bs
  step-goes e =
      walk-goes s t d h vs (switches_of s vs) a (byte_to s a b) bs (step-fault ha st) (λ q. e (sym (byte-hop ha st.server st.hop) ∙ q))
      ∙ ap₂ (λ (x y : ℕ). walk_from s t d (h + 1) (vs ++ (x ∷ [])) (switches_of s vs ++ (y ∷ [])) x bs) (byte-hop ha st.server st.hop) (byte-switch ha st.server st.hop)

-- hop after hop over the bytes of a way, where none of its servers is the destination
walk-along : (s : Shape) (t : List ℕ) (d h : ℕ) (vs rest left : List ℕ) → 0 < length vs → Prefix s t (vs ++ rest) → ((i : ℕ) → i < length rest → get_or rest i 0 ≢ d) → walk_from s t d h vs (switches_of s vs) (last_of vs) (in_turn (byte_to s) (last_of vs ∷ rest) ++ left) ≡ walk_from s t d (h + length rest) (vs ++ rest) (switches_of s (vs ++ rest)) (last_of (vs ++ rest)) left
unfolding in_turn
walk-along s t d h vs [] left o p n = rw (append-nil vs, add-zero h)
walk-along s t d h vs (b ∷ rest) left o p n =
    step-goes ha (prefix_step vs b o front) d h bytes (n zero (suc-le-suc zero-le))
    ∙ ap (λ (l : List ℕ). walk_from s t d (h + 1) vs' l b bytes) (sym (switches_snoc s vs b o))
    ∙ ap (λ (x : ℕ). walk_from s t d (h + 1) vs' (switches_of s vs') x (in_turn (byte_to s) (x ∷ rest) ++ left)) (sym (snoc_last vs b))
    ∙ walk-along s t d (h + 1) vs' rest left longer p' (λ i k. n (suc i) (suc-le-suc k))
    ∙ ap₂ (λ (k : ℕ) (l : List ℕ). walk_from s t d k l (switches_of s l) (last_of l) left) (let e : h + 1 + length rest ≡ h + suc (length rest) = omega arith in e) join
  where
    vs' : List ℕ
    vs' = vs ++ (b ∷ [])

    bytes : List ℕ
    bytes = in_turn (byte_to s) (b ∷ rest) ++ left

    join : vs ++ (b ∷ []) ++ rest ≡ vs ++ (b ∷ rest)
    join = append_snoc vs b rest

    p' : Prefix s t (vs ++ (b ∷ []) ++ rest)
    p' = subst (Prefix s t) (sym join) p

    longer : 0 < length (vs ++ (b ∷ []))
    longer = omega (arith, length_snoc vs b)

    front : Prefix s t (vs ++ (b ∷ []))
    front = prefix_front (vs ++ (b ∷ [])) rest longer p'

    ha : Server s (last_of vs)
    ha = (prefix_front vs (b ∷ []) o front).servers (length vs - 1) (omega arith)

-- from the source to the end of a way that has not met the destination
pub walk-there : {s : Shape} {t : List ℕ} {a d : ℕ} (vs left : List ℕ) → Prefix s t vs → get_or vs 0 0 ≡ a → ((i : ℕ) → i < length vs → get_or vs i 0 ≢ d) → walk s t a d (in_turn (byte_to s) vs ++ left) ≡ walk_from s t d (length vs - 1) vs (switches_of s vs) (last_of vs) left
unfolding walk switches_of in_turn
walk-there [] left p e n = let z : ⊥ = omega (arith, p.some) in absurd z
walk-there {s} {t} {a} {d} (x ∷ rest) left p e n =
    ap (λ (y : ℕ). walk_from s t d 0 (y ∷ []) [] y (in_turn (byte_to s) (x ∷ rest) ++ left)) (sym e)
    ∙ walk-along s t d 0 (x ∷ []) rest left (suc-le-suc zero-le) p (λ i k. n (suc i) (suc-le-suc k))
    ∙ ap (λ (k : ℕ). walk_from s t d k (x ∷ rest) (switches_of s (x ∷ rest)) (last_of (x ∷ rest)) left) (let z : 0 + length rest ≡ length (x ∷ rest) - 1 = omega arith in z)

-- and by a route to the destination, whatever bytes are left
pub walk-to : {s : Shape} {t : List ℕ} {a d : ℕ} (vs left : List ℕ) → RouteTo s t a d vs → walk s t a d (in_turn (byte_to s) vs ++ left) ≡ ended (length vs - 1) vs (switches_of s vs) left
walk-to {s} {t} {a} {d} vs left h =
    ap (walk s t a d) bytes
    ∙ walk-there front (byte_to s (last_of front) d ∷ left) begin (at 0 some ∙ h.source) away
    ∙ step-arrives (begin.servers (length front - 1) (omega (arith, some))) (prefix_step front d some whole) d (length front - 1) left refl
    ∙ ap₂ (λ (k : ℕ) (w : List ℕ). ended k (front ++ (d ∷ [])) w left) (let z : length front - 1 + 1 ≡ length vs - 1 = omega (arith, long, some) in z) (sym (switches_snoc s front d some))
    ∙ ap (λ (l : List ℕ). ended (length vs - 1) l (switches_of s l) left) (sym cut)
  where
    front : List ℕ
    front = take (length vs - 1) vs

    long : length front ≡ length vs - 1
    long = length-take-le (length vs - 1) vs (omega arith)

    some : 0 < length front
    some = omega (arith, long, h.route.some)

    cut : vs ≡ front ++ (d ∷ [])
    cut =
        split_at vs (length vs - 1) 0 (omega (arith, h.route.some))
        ∙ ap₂ (λ (x : ℕ) (l : List ℕ). front ++ (x ∷ l)) h.arrives (drop_of_length-le vs (let z : length vs ≤ suc (length vs - 1) = omega arith in z))

    whole : Prefix s t (front ++ (d ∷ []))
    whole = subst (Prefix s t) cut (route_prefix h.route)

    begin : Prefix s t front
    begin = prefix_front front (d ∷ []) some whole

    at : (i : ℕ) → i < length front → get_or front i 0 ≡ get_or vs i 0
    at i p = sym (snoc_at front d i p) ∙ ap (λ (l : List ℕ). get_or l i 0) (sym cut)

    away : (i : ℕ) → i < length front → get_or front i 0 ≢ d
    away i p e = whole.servers_once.apart i (length front) p (omega (arith, length_snoc front d)) (snoc_at front d i p ∙ e ∙ sym (get_or-append_seam front d [] 0))

    bytes : in_turn (byte_to s) vs ++ left ≡ in_turn (byte_to s) front ++ (byte_to s (last_of front) d ∷ left)
    bytes =
        ap (λ (l : List ℕ). in_turn (byte_to s) l ++ left) cut
        ∙ ap (λ (l : List ℕ). l ++ left) (turn_snoc (byte_to s) front d some)
        ∙ append_snoc (in_turn (byte_to s) front) (byte_to s (last_of front) d) left

-- a walk over the bytes of a route arrives with its servers and its switches
pub read_complete : {s : Shape} {t : List ℕ} {a d : ℕ} {vs : List ℕ} → RouteTo s t a d vs → walk s t a d (encode s vs) ≡ arrived vs (switches_of s vs)
unfolding encode filled
read_complete {s} {t} {a} {d} {vs} h =
    walk-to vs (replicate (8 - length (in_turn (byte_to s) vs)) 0) h ∙ ended-zeros (length vs - 1) vs (switches_of s vs) (8 - length (in_turn (byte_to s) vs))

-- the reading rule is exactly this: the servers are those of a route, the switches are its switches, and the bytes are its bytes
pub read_exact : {s : Shape} {a d : ℕ} (t bs vs ws : List ℕ) → Server s a → a ≢ d → length bs ≡ 8 → (walk s t a d bs ≡ arrived vs ws) ↔ (RouteTo s t a d vs × (ws ≡ switches_of s vs) × (bs ≡ encode s vs))
read_exact {s} {a} {d} t bs vs ws ha ne l =
    (read_sound t bs vs ws ha ne l, λ p. ap (walk s t a d) p.2 ∙ read_complete p.0 ∙ ap (arrived vs) (sym p.1))
