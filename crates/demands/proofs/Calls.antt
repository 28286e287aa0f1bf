-- Demand 2, proved: switches and their ports, whole servers, single path bytes, and a route laid into a table.
use Prim.Native.Nat.{ℕ, suc, ◌-◌, ◌≤◌, ◌<◌}
use mathlib.Core.Path.{◌≡◌, refl, sym, ap, ◌∙◌, subst}
use mathlib.Core.Logic.{◌↔◌, ◌⊎◌, inl, inr}
use mathlib.Core.Bool.{Bool, true, false, ◌||◌}
use mathlib.Core.List.Memᴰ
use mathlib.Core.List.{List, [], ◌∷◌}
use native.Mathlib.Omega.{arith}
use native.Mathlib.Nat.{le_refl}
use lib.ListN.{length, get_or}
use Rattle.lists.specs.Lists.{is_in, middle}
use Rattle.lists.proofs.ListLaws.{in_exactly, at_in, turn_at, length_turn, length-middle, middle-at}
use Rattle.refusals.specs.Refusals.{Refusal}
use Rattle.refusals.proofs.AnswerLaws.{answer-none}
use Rattle.room.specs.declared.Shape.{Shape}
use Rattle.room.specs.Told.{Number}
use Rattle.room.specs.Shapes.{bound, Valid, Server, Link}
use Rattle.room.specs.Addresses.{switch_of, switches_at, Beside, Neighbours}
use Rattle.room.specs.Answers.{a_number}
use Rattle.room.specs.Wiring.{server_at, Port, switches_answer, server_at_answer}
use Rattle.room.proofs.RefusalLaws.{level-none}
use Rattle.room.proofs.RoomLaws.{switches_top, switches-below, switch-same, same_switch}
use Rattle.room.proofs.WiringLaws.{port-none, port-server, port-switch, port-digit, port-back}
use Rattle.links.specs.Table.{failed, TableOf}
use Rattle.summary.specs.Answers.{server_answer}
use Rattle.summary.proofs.RefusalLaws.{counted-server_of}
use Rattle.summary.proofs.ServerLaws.{server-own, server-other, server-none, server-table}
use Rattle.summary.proofs.KeptLaws.{server-table_is, server-twice}
use Rattle.path.specs.Routes.{byte_of, switch_at, level_to, switch_to, switches_of, Route, RouteTo, Parallel}
use Rattle.path.specs.Bytes.{Made}
use Rattle.path.proofs.HopLaws.{switch_id, level-only}
use Rattle.path.proofs.ByteLaws.{made_parts, parts_made}
use Rattle.laying.specs.Avoids.{Avoids}
use Rattle.laying.specs.Laid.{takes, taken, Laid}
use Rattle.laying.proofs.LayLaws.{lay_exactly}
use Rattle.laying.proofs.LaidLaws.{laid-exactly}
use Rattle.demands.specs.Calls.{EveryPort, WholeServer, EveryByte, TakesUp, LaysExactly}

-- ---- switches and their ports

port-at : {s : Shape} {l w v : ℕ} → Valid s → l ≤ s.k → w < switches_at s l → v < bound s l → Port s l w v
port-at valid p q h = record { valid = valid; level = p; switch = q; port = h }

counted : {s : Shape} {l : ℕ} → Valid s → l ≤ s.k → switches_answer s l ≡ a_number (switches_at s l)
unfolding switches_answer
counted v p = answer-none _ _ _ (level-none v p)

pub every-port : EveryPort
unfolding server_at_answer
every-port =
    record {
      switches_top = λ s v. counted v (le_refl s.k) ∙ ap a_number (switches_top v);
      switches-below = λ s l v p. counted v (omega arith) ∙ ap a_number (switches-below v l (s.k - 1) (omega arith) (omega arith));
      there = λ s l w v h p q o.
          let n : w < switches_at s l = subst (λ (x : Number). w < x.value) (counted h p) q in
          let k = port-at h p n o in
          (server_at s l w v, answer-none _ _ _ (port-none k), record { server = port-server k; switch = port-switch k; port = port-digit k });
      back = λ s a l h. let p = port-back h in answer-none _ _ _ (port-none p.0) ∙ ap a_number p.1;
    }

-- ---- all links of a server

pub whole-server : WholeServer
unfolding server_answer
whole-server =
    record {
      dead = λ s t c a z.
          let h = counted-server_of s t c a z in
          record { all = λ l p. ap (λ (u : List ℕ). failed u a l) (server-table_is true s t c a z) ∙ server-own true h.server h.table l p };
      live = λ s t c a l z. let h = counted-server_of s t c a z in ap (λ (u : List ℕ). failed u a l) (server-table_is false s t c a z) ∙ server-none h.server h.table l;
      others = λ b s t c a x z n. ap (λ (u : List ℕ). get_or u x 0) (server-table_is b s t c a z) ∙ server-other b s a x t n;
      table = λ b s t c a z. let h = counted-server_of s t c a z in subst (TableOf s) (sym (server-table_is b s t c a z)) (server-table b h.server h.table);
      again = λ b s t c a. (server-twice b s t c a).1;
    }

-- ---- one path byte

made_at : {s : Shape} {l v : ℕ} → Valid s → l ≤ s.k → v < bound s l → Made s l v
made_at valid p h = record { valid = valid; level = p; value = h }

pub every_byte : EveryByte
unfolding byte_of
every_byte =
    record {
      made = λ s l v h p q. (made_parts (made_at h p q)).0;
      apart = λ s l v h p q. (made_parts (made_at h p q)).1;
      again = parts_made;
    }

-- ---- a route laid into a table

or-exactly : (p q : Bool) → (p || q ≡ true) ↔ ((p ≡ true) ⊎ (q ≡ true))
or-exactly p q = (there p, back p)
  where
    there : (x : Bool) → x || q ≡ true → (x ≡ true) ⊎ (q ≡ true)
    there true e = inl refl
    there false e = inr e

    back : (x : Bool) → (x ≡ true) ⊎ (q ≡ true) → x || q ≡ true
    back true e = refl
    back false (inl e) = let z : ◌≡◌ {A = ℕ} 0 1 = cc in let n : ⊥ = omega arith in absurd n
    back false (inr e) = e

module _ {s : Shape} {t vs : List ℕ} (r : Route s t vs) {x l : ℕ} (h : Link s x l) where
  module _ (i : ℕ) (p : suc i < length vs) where
    abbrev a : ℕ
    a = get_or vs i 0

    abbrev b : ℕ
    b = get_or vs (suc i) 0

    sender : Server s a
    sender = r.servers i (omega arith)

    used : get_or (switches_of s vs) i 0 ≡ switch_at s (level_to s a b) a
    unfolding switches_of switch_to
    used = turn_at (switch_to s) vs i p

    -- the switch of a hop is that of x at level l exactly when the hop is at level l, and x has the same other digits
    over-switch : (get_or (switches_of s vs) i 0 ≡ switch_at s l x) ↔ (Neighbours s l a b × Beside s l a x)
    over-switch = (
      λ e.
          let k = (switch_id (record { server = sender; level = (r.hops i p).level }) h).0 (sym used ∙ e) in
          let m : Neighbours s l a b = subst (λ (j : ℕ). Neighbours s j a b) k.0 (r.hops i p) in
          (m, switch-same (record { server = sender; level = m.level }) h.server (ap (λ (j : ℕ). switch_of s j a) (sym k.0) ∙ k.1)),
      λ q.
          used
          ∙ ap (λ (j : ℕ). switch_at s j a) (level-only sender (r.servers (suc i) p) q.0)
          ∙ (switch_id (record { server = sender; level = q.0.level }) h).1 (refl, same_switch q.0.level q.1),
    )

  takes-exactly : (takes s vs x l ≡ true) ↔ TakesUp s vs x l
  unfolding takes switches_of
  takes-exactly = (λ e. there ((or-exactly _ _).0 e), λ q. (or-exactly (is_in x (middle vs)) (is_in (switch_at s l x) (switches_of s vs))).1 (back q))
    where
      there : (is_in x (middle vs) ≡ true) ⊎ (is_in (switch_at s l x) (switches_of s vs) ≡ true) → TakesUp s vs x l
      there (inl e) =
          let m = (in_exactly x (middle vs)).0 e in
          let q : m.place < length vs - 2 = omega (arith, m.inside, length-middle vs) in
          inl (m.place, omega arith, sym (middle-at vs m.place q) ∙ m.there)
      there (inr e) =
          let m = (in_exactly (switch_at s l x) (switches_of s vs)).0 e in
          let q : suc m.place < length vs = omega (arith, m.inside, length_turn (switch_to s) vs) in
          let k = (over-switch m.place q).0 m.there in
          inr (m.place, q, k.0, k.1)

      back : TakesUp s vs x l → (is_in x (middle vs) ≡ true) ⊎ (is_in (switch_at s l x) (switches_of s vs) ≡ true)
      back (inl q) = inl (at_in x (middle vs) q.0 (omega (arith, q.1, length-middle vs)) (middle-at vs q.0 (omega (arith, q.1)) ∙ q.2))
      back (inr q) =
          inr (at_in (switch_at s l x) (switches_of s vs) q.0 (omega (arith, q.1, length_turn (switch_to s) vs)) ((over-switch q.0 q.1).1 (q.2, q.3)))

module _ {s : Shape} {t : List ℕ} {a d : ℕ} {vs u : List ℕ} (r : RouteTo s [] a d vs) (laid : Laid s t (vs ∷ []) u) where
  laid-links : (x l : ℕ) → Link s x l → (failed u x l ≡ true) ↔ ((failed t x l ≡ true) ⊎ TakesUp s vs x l)
  unfolding taken
  laid-links x l h = (
    λ e. there ((or-exactly (failed t x l) (takes s vs x l || false)).0 (sym (laid.marks x l h) ∙ e)),
    λ q. laid.marks x l h ∙ (or-exactly (failed t x l) (takes s vs x l || false)).1 (back q),
  )
    where
      there : (failed t x l ≡ true) ⊎ (takes s vs x l || false ≡ true) → (failed t x l ≡ true) ⊎ TakesUp s vs x l
      there (inl e) = inl e
      there (inr e) = inr ((takes-exactly r.route h).0 (one ((or-exactly (takes s vs x l) false).0 e)))
        where
          one : (takes s vs x l ≡ true) ⊎ (◌≡◌ {A = Bool} false true) → takes s vs x l ≡ true
          one (inl k) = k
          one (inr k) = let z : ◌≡◌ {A = ℕ} 0 1 = cc in let n : ⊥ = omega arith in absurd n

      back : (failed t x l ≡ true) ⊎ TakesUp s vs x l → (failed t x l ≡ true) ⊎ (takes s vs x l || false ≡ true)
      back (inl e) = inl e
      back (inr q) = inr ((or-exactly (takes s vs x l) false).1 (inl ((takes-exactly r.route h).1 q)))

  laid-routes : (ws : List ℕ) → RouteTo s u a d ws ↔ (RouteTo s t a d ws × Parallel s ws vs)
  laid-routes ws =
      let e = laid-exactly laid (λ us m. subst (RouteTo s [] a d) (sym (Memᴰ.eq_of_singleton m)) r) ws in
      (λ k. let p = e.0 k in (p.0, p.1.each vs (Memᴰ.head refl)), λ p. e.1 (p.0, avoids p.1))
    where
      avoids : Parallel s ws vs → Avoids s (vs ∷ []) ws
      avoids p = record { each = λ us m. subst (Parallel s ws) (sym (Memᴰ.eq_of_singleton m)) p }

pub lays_exactly : LaysExactly
lays_exactly s t a d bs r u h z =
    let w = ((lay_exactly s t a d bs).0 (sym (ap (λ (x : Refusal). x.number) h.refusal) ∙ z)).1 in
    let laid = h.laid z w.0 w.1 in
    (w.0, w.1, record { table = laid.table; links = laid-links w.1.route laid; routes = laid-routes w.1.route laid })
