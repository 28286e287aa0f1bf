-- The routes over a table into which other routes are laid are the routes over the table that avoid those.
use Prim.Native.Nat.{ℕ, zero, suc, ◌+◌, ◌-◌, ◌*◌, ◌<◌, suc-le-suc, zero-le}
use mathlib.Core.Path.{◌≡◌, refl, sym, ap, ◌∙◌, subst}
use mathlib.Core.Logic.{◌↔◌}
use mathlib.Core.Bool.{Bool, true, false, ◌||◌, or_assoc}
use mathlib.Core.List.{List, [], ◌∷◌, ◌++◌, Memᴰ as In}
use native.Mathlib.Omega.{arith}
use native.Mathlib.Decide.{dec_lt}
use lib.ListN.{length, get_or}
use Rattle.lists.specs.Lists.{is_in, middle}
use Rattle.lists.proofs.ListLaws.{Missing, in_missing, missing_in, turn_at, length-middle, middle-at}
use Rattle.room.specs.declared.Shape.{Shape}
use Rattle.room.specs.Shapes.{Link}
use Rattle.room.specs.Addresses.{Neighbours}
use Rattle.room.proofs.RoomLaws.{same_switch}
use Rattle.links.specs.Table.{failed, live}
use Rattle.links.proofs.TableLaws.{live-exactly}
use Rattle.path.specs.Routes.{switch_at, level_to, switch_to, switches_of, Route, RouteTo}
use Rattle.laying.specs.Avoids.{Avoids}
use Rattle.laying.specs.Laid.{takes, taken, Marks, Laid}
use Rattle.laying.proofs.MarkLaws.{marks_then, switches-long}

-- ---- tests that fail

neither : (p q : Bool) → p || q ≡ false → (p ≡ false) × (q ≡ false)
neither true q e = let z : ◌≡◌ {A = ℕ} 0 1 = cc in let n : ⊥ = omega arith in absurd n
neither false q e = (refl, e)

both_fail : (p q : Bool) → p ≡ false → q ≡ false → p || q ≡ false
both_fail p q e f = ap (λ (x : Bool). x || q) e ∙ f

-- ---- any links marked: a route over the table with them is a route over the table that crosses none of them

-- a route whose hops are live over another table
pub route-over : {s : Shape} {t u : List ℕ} {a d : ℕ} {vs : List ℕ} → RouteTo s t a d vs → ((i : ℕ) → suc i < length vs → live u (level_to s (get_or vs i 0) (get_or vs (suc i) 0)) (get_or vs i 0) (get_or vs (suc i) 0) ≡ true) → RouteTo s u a d vs
route-over r alive =
    record {
      route = record {
        some = r.route.some;
        few = r.route.few;
        servers = r.route.servers;
        hops = r.route.hops;
        alive = alive;
        servers_once = r.route.servers_once;
        switches_once = r.route.switches_once;
      };
      source = r.source;
      arrives = r.arrives;
    }

-- no hop of route vs crosses one of these links
pub record CrossesNone (s : Shape) (links : ℕ → ℕ → Bool) (vs : List ℕ) : Type 0 where
  pub sender : (i : ℕ) → suc i < length vs → links (get_or vs i 0) (level_to s (get_or vs i 0) (get_or vs (suc i) 0)) ≡ false
  pub receiver : (i : ℕ) → suc i < length vs → links (get_or vs (suc i) 0) (level_to s (get_or vs i 0) (get_or vs (suc i) 0)) ≡ false

module _ {s : Shape} {t : List ℕ} {links : ℕ → ℕ → Bool} {u : List ℕ} (marks : Marks s t links u) where
  marks-link : (x l : ℕ) → Link s x l → (failed u x l ≡ false) ↔ ((failed t x l ≡ false) × (links x l ≡ false))
  marks-link x l h = (
    λ e. neither (failed t x l) (links x l) (sym (marks.marks x l h) ∙ e),
    λ p. marks.marks x l h ∙ both_fail (failed t x l) (links x l) p.0 p.1,
  )

  marks-hop : (l x y : ℕ) → Link s x l → Link s y l → (live u l x y ≡ true) ↔ ((live t l x y ≡ true) × (links x l ≡ false) × (links y l ≡ false))
  marks-hop l x y hx hy = (
    λ e.
        let p = (live-exactly u l x y).0 e in
        let px = (marks-link x l hx).0 p.0 in
        let py = (marks-link y l hy).0 p.1 in
        ((live-exactly t l x y).1 (px.0, py.0), px.1, py.1),
    λ p.
        let q = (live-exactly t l x y).0 p.0 in
        (live-exactly u l x y).1 ((marks-link x l hx).1 (q.0, p.1), (marks-link y l hy).1 (q.1, p.2)),
  )

  module _ {w vs : List ℕ} (r : Route s w vs) (i : ℕ) (h : suc i < length vs) where
    abbrev x : ℕ
    x = get_or vs i 0

    abbrev y : ℕ
    y = get_or vs (suc i) 0

    abbrev l : ℕ
    l = level_to s x y

    hop-exactly : (live u l x y ≡ true) ↔ ((live t l x y ≡ true) × (links x l ≡ false) × (links y l ≡ false))
    hop-exactly = marks-hop l x y (record { server = r.servers i (omega arith); level = (r.hops i h).level }) (record { server = r.servers (suc i) h; level = (r.hops i h).level })

  pub marks-exactly : (a d : ℕ) (vs : List ℕ) → RouteTo s u a d vs ↔ (RouteTo s t a d vs × CrossesNone s links vs)
  marks-exactly a d vs = (
    λ r. (
      route-over r (λ i h. ((hop-exactly r.route i h).0 (r.route.alive i h)).0),
      record {
        sender = λ i h. ((hop-exactly r.route i h).0 (r.route.alive i h)).1;
        receiver = λ i h. ((hop-exactly r.route i h).0 (r.route.alive i h)).2;
      },
    ),
    λ p. route-over p.0 (λ i h. (hop-exactly p.0.route i h).1 (p.0.route.alive i h, p.1.sender i h, p.1.receiver i h)),
  )

-- ---- one list of routes laid after another

taken-append : (s : Shape) (xs ys : List (List ℕ)) (x l : ℕ) → taken s (xs ++ ys) x l ≡ taken s xs x l || taken s ys x l
unfolding taken
taken-append s [] ys x l = refl
taken-append s (v ∷ vs) ys x l =
    ap (λ (b : Bool). takes s v x l || b) (taken-append s vs ys x l) ∙ sym (or_assoc (takes s v x l) (taken s vs x l) (taken s ys x l))

pub laid_both : {s : Shape} {t u v : List ℕ} (xs ys : List (List ℕ)) → Laid s t xs u → Laid s u ys v → Laid s t (xs ++ ys) v
laid_both {s} xs ys p q = marks_then (taken s xs) (taken s ys) (taken s (xs ++ ys)) p q (λ x l k. taken-append s xs ys x l)

-- ---- one link

-- route vs spares the link of x at level l: x is no middle server of it, and it does not use the link's switch
pub record Spares (s : Shape) (vs : List ℕ) (x l : ℕ) : Type 0 where
  pub server : Missing x (middle vs)
  pub switch : Missing (switch_at s l x) (switches_of s vs)

spares_exactly : (s : Shape) (vs : List ℕ) (x l : ℕ) → (takes s vs x l ≡ false) ↔ Spares s vs x l
unfolding takes
spares_exactly s vs x l = (
  λ e. let p = neither (is_in x (middle vs)) (is_in (switch_at s l x) (switches_of s vs)) e in
      record { server = in_missing x (middle vs) p.0; switch = in_missing (switch_at s l x) (switches_of s vs) p.1 },
  λ h.
      both_fail (is_in x (middle vs)) (is_in (switch_at s l x) (switches_of s vs)) (missing_in x (middle vs) h.server) (missing_in (switch_at s l x) (switches_of s vs) h.switch),
)

-- a link is taken by no route exactly when each route spares it
untaken : {s : Shape} {x l : ℕ} {vs : List ℕ} {routes : List (List ℕ)} → taken s routes x l ≡ false → In vs routes → Spares s vs x l
unfolding taken
untaken {s} {x} {l} {vs} {routes = []} e h = elim h [ ]
untaken {s} {x} {l} {routes = us ∷ uss} e (In.head q) =
    subst (λ (v : List ℕ). Spares s v x l) (sym q) ((spares_exactly s us x l).0 (neither (takes s us x l) (taken s uss x l) e).0)
untaken {s} {x} {l} {routes = us ∷ uss} e (In.tail m) = untaken (neither (takes s us x l) (taken s uss x l) e).1 m

all_spare : (s : Shape) (routes : List (List ℕ)) (x l : ℕ) → ((vs : List ℕ) → In vs routes → Spares s vs x l) → taken s routes x l ≡ false
unfolding taken
all_spare s [] x l h = refl
all_spare s (vs ∷ vss) x l h =
    both_fail (takes s vs x l) (taken s vss x l) ((spares_exactly s vs x l).1 (h vs (In.head refl))) (all_spare s vss x l (λ us m. h us (In.tail m)))

-- ---- whole routes: to cross none of the links that routes take up is to avoid the routes

switches-at : (s : Shape) (vs : List ℕ) (i : ℕ) → suc i < length vs → get_or (switches_of s vs) i 0 ≡ switch_at s (level_to s (get_or vs i 0) (get_or vs (suc i) 0)) (get_or vs i 0)
unfolding switches_of switch_to
switches-at s vs i h = turn_at (switch_to s) vs i h

beside-switch : {s : Shape} {l x y : ℕ} → Neighbours s l x y → switch_at s l x ≡ switch_at s l y
unfolding switch_at
beside-switch {s} {l} {x} {y} h = ap (λ (w : ℕ). 4096 * l + w) (same_switch h.level h.beside)

-- the ends are no middle servers of a route between them
source-missing : {s : Shape} {t : List ℕ} {a d : ℕ} {vs : List ℕ} → RouteTo s t a d vs → Missing a (middle vs)
source-missing {vs = vs} h =
    record { not_at = λ i p e. h.route.servers_once.apart 0 (suc i) (suc-le-suc zero-le) (omega (arith, length-middle vs)) (h.source ∙ sym e ∙ middle-at vs i (omega (arith, length-middle vs))) }

dest_missing : {s : Shape} {t : List ℕ} {a d : ℕ} {vs : List ℕ} → RouteTo s t a d vs → Missing d (middle vs)
dest_missing {vs = vs} h =
    record { not_at = λ i p e. h.route.servers_once.apart (suc i) (length vs - 1) (omega (arith, length-middle vs)) (omega (arith, length-middle vs)) (sym (middle-at vs i (omega (arith, length-middle vs))) ∙ e ∙ sym h.arrives) }

module _ {s : Shape} {t : List ℕ} {a d : ℕ} {routes : List (List ℕ)} (between : (vs : List ℕ) → In vs routes → RouteTo s [] a d vs) {vs : List ℕ} (r : RouteTo s t a d vs) where
  crossing-avoids : CrossesNone s (taken s routes) vs → Avoids s routes vs
  crossing-avoids c =
      record {
        each = λ us m. record {
          switches = record {
            apart = λ i j p q e.
                let h : suc i < length vs = omega (arith, switches-long s vs) in
                (untaken (c.sender i h) m).switch.not_at j q (sym e ∙ switches-at s vs i h);
          };
          servers = record {
            apart = λ i j p q e.
                let h : suc (suc i) < length vs = omega (arith, length-middle vs) in
                (untaken (c.sender (suc i) h) m).server.not_at j q (sym e ∙ middle-at vs i (omega arith));
          };
        };
      }

  module _ (f : Avoids s routes vs) where
    -- no route has a server of a route that avoids it as a middle server
    clear-server : {us : List ℕ} → In us routes → (i : ℕ) → i < length vs → Missing (get_or vs i 0) (middle us)
    clear-server {us} m zero h = subst (λ (z : ℕ). Missing z (middle us)) (sym r.source) (source-missing (between us m))
    clear-server {us} m (suc i) h =
        elim (dec_lt (suc (suc i)) (length vs)) [
          | yes y ↦ record { not_at = λ j w e. (f.each us m).servers.apart i j (omega (arith, length-middle vs)) w (middle-at vs i (omega arith) ∙ sym e) }
          | no y ↦ let k : suc i ≡ length vs - 1 = omega arith in
              subst (λ (z : ℕ). Missing z (middle us)) (sym (ap (λ (j : ℕ). get_or vs j 0) k ∙ r.arrives)) (dest_missing (between us m))
        ]

    clear-switch : {us : List ℕ} → In us routes → (i : ℕ) → suc i < length vs → Missing (switch_at s (level_to s (get_or vs i 0) (get_or vs (suc i) 0)) (get_or vs i 0)) (switches_of s us)
    clear-switch {us} m i h = record { not_at = λ j w e. (f.each us m).switches.apart i j (omega (arith, switches-long s vs)) w (switches-at s vs i h ∙ sym e) }

    avoids-crossing : CrossesNone s (taken s routes) vs
    avoids-crossing =
        record {
          sender = λ i h. all_spare s routes _ _ (λ us m. record { server = clear-server m i (omega arith); switch = clear-switch m i h });
          receiver = λ i h. all_spare s routes _ _
              (λ us m. record { server = clear-server m (suc i) h; switch = subst (λ (w : ℕ). Missing w (switches_of s us)) (beside-switch (r.route.hops i h)) (clear-switch m i h) });
        }

-- a route over the table with routes laid into it is a route over the table that is parallel to each of them
pub laid-exactly : {s : Shape} {t : List ℕ} {a d : ℕ} {routes : List (List ℕ)} {u : List ℕ} → Laid s t routes u → ((vs : List ℕ) → In vs routes → RouteTo s [] a d vs) → (vs : List ℕ) → RouteTo s u a d vs ↔ (RouteTo s t a d vs × Avoids s routes vs)
laid-exactly {a = a} {d} laid between vs = (
  λ r. let p = (marks-exactly laid a d vs).0 r in (p.0, crossing-avoids between p.0 p.1),
  λ p. (marks-exactly laid a d vs).1 (p.0, avoids-crossing between p.0 p.1),
)
