-- The call: what it refuses, what it reads, and what it lays.
use Prim.Native.Nat.{ℕ, ◌≤◌}
use mathlib.Core.Path.{◌≡◌, refl, sym, ap, ◌∙◌, subst}
use mathlib.Core.Logic.{◌↔◌}
use mathlib.Core.Bool.{or-false}
use mathlib.Core.List.{List, [], ◌∷◌}
use native.Mathlib.Omega.{arith}
use lib.ListN.{take}
use Rattle.lists.proofs.ListLaws.{take-filled}
use Rattle.refusals.specs.Refusals.{Refusal}
use Rattle.refusals.specs.Refusals.{none, plain}
use Rattle.refusals.proofs.AnswerLaws.{answer-refused, answer-given, answered, answer-none}
use Rattle.room.specs.declared.Shape.{Shape}
use Rattle.room.specs.Shapes.{Ends}
use Rattle.links.specs.Table.{room_refusal, TableOf}
use Rattle.links.proofs.TableLaws.{room_of, room-none}
use Rattle.path.specs.Told.{Reading}
use Rattle.path.specs.Routes.{Route, Encodes}
use Rattle.path.specs.Answers.{read_answer}
use Rattle.path.proofs.ReverseLaws.{source-server, dest_server, ends_differ}
use Rattle.path.proofs.CodecLaws.{encodes_unique, read-given, read-exactly}
use Rattle.laying.specs.Laid.{takes, taken, Marks, Laid}
use Rattle.laying.specs.Answers.{lay_refusal, Lays}
use Rattle.laying.proofs.MarkLaws.{marks-same}

-- ---- where nothing is refused

pub room-table : (s : Shape) (t : List ℕ) (a d : ℕ) → 0 ≡ room_refusal s t a d → TableOf s t
room-table s t a d e = (room_of s t a d (sym e)).1

-- ---- the route that is read, laid

laid_one : {s : Shape} {t u : List ℕ} (vs : List ℕ) → Marks s t (takes s vs) u → Laid s t (vs ∷ []) u
unfolding taken
laid_one {s} vs h = marks-same (takes s vs) (taken s (vs ∷ [])) (λ x l k. sym (or-false (takes s vs x l))) h

module _ (s : Shape) (t : List ℕ) (a d : ℕ) (bs : List ℕ) where
  pub lays_refused : (n : ℕ) → n ≡ room_refusal s t a d → (n ≡ 0 → ⊥) → (r : Refusal) → r ≡ plain n → Lays s t a d bs r t
  unfolding lay_refusal
  lays_refused n e ne r q =
      record { refusal = answer-refused n _ plain r _ q e ne; kept = λ m. refl; laid = λ z. absurd (ne (sym (ap (λ (x : Refusal). x.number) q) ∙ z)) }

  module _ (e : 0 ≡ room_refusal s t a d) (x : Reading) (q : x ≡ read_answer s a d bs) where
    lay_read : x.refusal ≡ lay_refusal s t a d bs
    unfolding lay_refusal
    lay_read = answer-given 0 _ plain _ _ e refl (ap (λ (y : Reading). y.refusal) q)

    pub lays_unread : (x.refusal.number ≡ 0 → ⊥) → (r : Refusal) → r ≡ x.refusal → Lays s t a d bs r t
    lays_unread ne r p = record { refusal = p ∙ lay_read; kept = λ m. refl; laid = λ y. absurd (ne (sym (ap (λ (w : Refusal). w.number) p) ∙ y)) }

    module _ (y : x.refusal.number ≡ 0) where
      read_is : (vs : List ℕ) × Encodes s [] a d bs vs
      read_is = (read-exactly s a d bs).0 (sym (ap (λ (w : Reading). w.refusal.number) q) ∙ y)

      read-servers : take x.count x.servers ≡ read_is.0
      read-servers = ap (λ (w : Reading). take w.count w.servers) (q ∙ read-given read_is.1) ∙ take-filled 9 read_is.0

      pub read-inside : x.count ≤ 9
      read-inside =
          let f = read_is.1.route.route.few in
          omega (arith, ap (λ (v : Reading). v.count) (q ∙ read-given read_is.1))

      pub read-route : Route s [] (take x.count x.servers)
      read-route = subst (Route s []) (sym read-servers) read_is.1.route.route

      pub lays_done : {u : List ℕ} → Marks s t (takes s (take x.count x.servers)) u → Lays s t a d bs none u
      lays_done {u} h =
          record {
            refusal = sym (ap (λ (w : Reading). w.refusal) (q ∙ read-given read_is.1)) ∙ lay_read;
            kept = λ m. absurd (m refl);
            laid = λ w vs k. laid_one vs (subst (λ (us : List ℕ). Marks s t (takes s us) u) (read-servers ∙ encodes_unique read_is.1 k) h);
          }

-- ---- for the layers above

-- nothing is refused exactly where the table is the room's and the array writes a route
lay_none : {s : Shape} {t : List ℕ} {a d : ℕ} {bs vs : List ℕ} → TableOf s t → Encodes s [] a d bs vs → (lay_refusal s t a d bs).number ≡ 0
unfolding lay_refusal
lay_none {s} {t} {a} {d} {bs} {vs} h e =
    ap (λ (r : Refusal). r.number) (answer-none (room_refusal s t a d) plain (read_answer s a d bs).refusal (room-none ends h)) ∙ (read-exactly s a d bs).1 (vs, e)
  where
    ends : Ends s a d
    ends = record { source = source-server e.route; destination = dest_server e.route; differ = ends_differ e.route }

pub lay_exactly : (s : Shape) (t : List ℕ) (a d : ℕ) (bs : List ℕ) → ((lay_refusal s t a d bs).number ≡ 0) ↔ (TableOf s t × ((vs : List ℕ) × Encodes s [] a d bs vs))
unfolding lay_refusal
lay_exactly s t a d bs = (
  λ z.
      let w = answered (λ (r : Refusal). r.number) plain (λ r. refl) (room_refusal s t a d) _ (read_answer s a d bs).refusal refl z in
      ((room_of s t a d w.0).1, (read-exactly s a d bs).0 (sym (ap (λ (r : Refusal). r.number) w.1) ∙ z)),
  λ p. lay_none p.0 p.1.1,
)

pub lays_laid : {s : Shape} {t u : List ℕ} {a d : ℕ} {bs vs : List ℕ} {r : Refusal} → Lays s t a d bs r u → TableOf s t → Encodes s [] a d bs vs → Laid s t (vs ∷ []) u
lays_laid {vs = vs} l h e = l.laid (ap (λ (r : Refusal). r.number) l.refusal ∙ lay_none h e) vs e
