-- Demand 2, proved: what each slot of a selection gives, and that this determines the answer.
use Prim.Native.Nat.{ℕ, zero, suc, ◌+◌, ◌-◌, ◌≤◌, ◌<◌}
use mathlib.Core.Path.{◌≡◌, refl, sym, ap, ap₂, subst, ◌∙◌}
use mathlib.Core.List.{List, [], ◌∷◌, ◌++◌, map, append-nil, append_assoc, List-discrete}
use native.Mathlib.Omega.{arith}
use native.Mathlib.Decide.{ℕ_discrete}
use lib.ListN.{take}
use Rattle.lists.specs.Lists.{down_from}
use Rattle.room.specs.declared.Shape.{Shape}
use Rattle.path.specs.Routes.{encode, RouteTo}
use Rattle.build.specs.Built.{built_route}
use Rattle.build.specs.Sets.{set_of}
use Rattle.laying.specs.Avoids.{Avoids}
use Rattle.select.specs.Avoided.{avoided}
use Rattle.select.specs.Selection.{Unbroken, Replaces, Slot, kept, replaced, nothing, SlotBySlot}
use Rattle.select.proofs.SelectLaws.{gives}
use Rattle.select.proofs.OneAnswer.{replaces_unique}
use Rattle.demands.specs.Demand2.{above, SlotGives, together, Slots, BrokenGivesWay, OneSelection}

-- ---- what slots give together

-- families that agree in the first n of the slots m-1, .. , 0 give the same together
same_first : (f g : ℕ → List (List ℕ)) (m n : ℕ) → ((i : ℕ) → m ≤ i + n → i < m → f i ≡ g i) → together f (take n (down_from m)) ≡ together g (take n (down_from m))
same_first f g m zero h = refl
same_first f g zero (suc n) h = refl
same_first f g (suc m) (suc n) h =
    ap₂ (λ (x y : List (List ℕ)). x ++ y) (h m (omega arith) (omega arith)) (same_first f g m n (λ i p q. h i (omega arith) (omega arith)))

same-all : (f g : ℕ → List (List ℕ)) (m : ℕ) → ((i : ℕ) → i < m → f i ≡ g i) → together f (down_from m) ≡ together g (down_from m)
same-all f g zero h = refl
same-all f g (suc m) h = ap₂ (λ (x y : List (List ℕ)). x ++ y) (h m (omega arith)) (same-all f g m (λ i p. h i (omega arith)))

-- ---- the family of a selection

-- slots m-1, .. , 0 after the routes settled so far
record Family (s : Shape) (t : List ℕ) (a d m : ℕ) (settled routes : List (List ℕ)) : Type 0 where
  gives : ℕ → List (List ℕ)
  slot : (i : ℕ) → i < m → Slot s t a d i (settled ++ together gives (take (m - suc i) (down_from m))) (gives i)
  whole : routes ≡ settled ++ together gives (down_from m)

-- one slot more, slot m, before them
one_more : {s : Shape} {t : List ℕ} {a d m : ℕ} {settled routes given : List (List ℕ)} → Slot s t a d m settled given → Family s t a d m (settled ++ given) routes → Family s t a d (suc m) settled routes
one_more {s} {t} {a} {d} {m} {settled} {routes} {given} c f = record { gives = gives'; slot = slot'; whole = whole' }
  where
    gives' : ℕ → List (List ℕ)
    gives' i = elim (ℕ_discrete i m) [ yes e ↦ given | no e ↦ f.gives i ]

    here : gives' m ≡ given
    here = elim (ℕ_discrete m m) as (λ x. elim x [ yes e ↦ given | no e ↦ f.gives m ] ≡ given) [ yes e ↦ refl | no e ↦ absurd (e refl) ]

    below : (i : ℕ) → i < m → gives' i ≡ f.gives i
    below i p = elim (ℕ_discrete i m) as (λ x. elim x [ yes e ↦ given | no e ↦ f.gives i ] ≡ f.gives i) [ yes e ↦ (let z : ⊥ = omega arith in absurd z) | no e ↦ refl ]

    whole' : routes ≡ settled ++ together gives' (down_from (suc m))
    whole' =
        f.whole
        ∙ append_assoc settled (given) (together f.gives (down_from m))
        ∙ ap₂ (λ (x y : List (List ℕ)). settled ++ (x ++ y)) (sym here) (sym (same-all gives' f.gives m below))

    slot' : (i : ℕ) → i < suc m → Slot s t a d i (settled ++ together gives' (take (suc m - suc i) (down_from (suc m)))) (gives' i)
    slot' i p =
        elim (ℕ_discrete i m) [
          | yes e ↦
              let n : suc m - suc m ≡ 0 = omega arith in
              let q : settled ≡ settled ++ together gives' (take (suc m - suc m) (down_from (suc m))) =
              sym (append-nil settled) ∙ ap (λ (x : ℕ). settled ++ together gives' (take x (down_from (suc m)))) (sym n) in
              subst (λ (j : ℕ). Slot s t a d j (settled ++ together gives' (take (suc m - suc j) (down_from (suc m)))) (gives' j)) (sym e)
              (subst (Slot s t a d m _) (sym here) (subst (λ (x : List (List ℕ)). Slot s t a d m x (given)) q c))
          | no e ↦
              let l : i < m = omega arith in
              let n : suc (m - suc i) ≡ suc m - suc i = omega arith in
              let q : settled ++ given ++ together f.gives (take (m - suc i) (down_from m)) ≡ settled ++ together gives' (take (suc m - suc i) (down_from (suc m))) =
              append_assoc settled (given) (together f.gives (take (m - suc i) (down_from m)))
              ∙ ap₂ (λ (x y : List (List ℕ)). settled ++ (x ++ y)) (sym here) (sym (same_first gives' f.gives m (m - suc i) (λ j w. below j)))
              ∙ ap (λ (x : ℕ). settled ++ together gives' (take x (down_from (suc m)))) n in
              subst (Slot s t a d i _) (sym (below i l)) (subst (λ (x : List (List ℕ)). Slot s t a d i x (f.gives i)) q (f.slot i l))
        ]

family : (s : Shape) (t : List ℕ) (a d m : ℕ) {settled routes : List (List ℕ)} → SlotBySlot s t a d m settled routes → Family s t a d m settled routes
family s t a d zero {settled} e =
    record { gives = λ i. []; slot = λ i p. let z : ⊥ = omega arith in absurd z; whole = sym e ∙ sym (append-nil settled) }
family s t a d (suc m) c = one_more c.1 (family s t a d m c.2)

-- a slot, in the words of the demand
slot-gives : {s : Shape} {t : List ℕ} {a d i : ℕ} {higher given : List (List ℕ)} → Slot s t a d i higher given → SlotGives s t a d i higher given
slot-gives (kept u) = record { kept = λ x. refl; replaced = λ n vs p q. absurd (n u); nothing = λ n x. absurd (n u) }
slot-gives (replaced {vs} n g) =
    record { kept = λ x. absurd (n x); replaced = λ m us p q. (vs, refl, g); nothing = λ m x. absurd (x vs g.route g.avoids) }
slot-gives (nothing n x) = record { kept = λ y. absurd (n y); replaced = λ m vs p q. absurd (x vs p q); nothing = λ m y. refl }

pub broken_gives_way : BrokenGivesWay
broken_gives_way s t a d r h z =
    let g = gives h z in
    let f = family s t a d (suc s.k) g.slots in
    record {
      routes = g.routes;
      slots =
          record {
            gives = f.gives;
            slot = λ i p.
                let n : suc s.k - suc i ≡ s.k - i = omega arith in
                slot-gives (subst (λ (x : ℕ). Slot s t a d i (together f.gives (take x (down_from (suc s.k)))) (f.gives i)) n (f.slot i (omega arith)));
            whole = f.whole;
          };
      written = g.written;
    }

-- ---- one answer

-- what a slot gives is determined by what the higher slots gave
one-slot : {s : Shape} {t : List ℕ} {a d i : ℕ} {higher g h : List (List ℕ)} → SlotGives s t a d i higher g → SlotGives s t a d i higher h → g ≡ h
one-slot {s} {t} {a} {d} {i} {higher} {g} {h} p q =
    elim (List-discrete (List-discrete ℕ_discrete) g h) [
      | yes e ↦ e
      | no n ↦
          let broken : Unbroken s t (built_route s i a d) → ⊥ = λ u. n (p.kept u ∙ sym (q.kept u)) in
          let none : (vs : List ℕ) → RouteTo s t a d vs → Avoids s (avoided s t a d i higher) vs → ⊥ = λ vs r f. n (alike (p.replaced broken vs r f) (q.replaced broken vs r f)) in
          absurd (n (p.nothing broken none ∙ sym (q.nothing broken none)))
    ]
  where
    OneReplaces : List (List ℕ) → Type 0
    OneReplaces x = (us : List ℕ) × (x ≡ us ∷ []) × Replaces s t a d (avoided s t a d i higher) us

    alike : OneReplaces g → OneReplaces h → g ≡ h
    alike x y = x.1 ∙ ap (λ (vs : List ℕ). vs ∷ []) (replaces_unique x.2 y.2) ∙ sym y.1

-- slot after slot from k down, two families are the same
module _ {s : Shape} {t : List ℕ} {a d : ℕ} {us vs : List (List ℕ)} (f : Slots s t a d us) (g : Slots s t a d vs) where
  agree : (m i : ℕ) → suc s.k ≤ i + m → i ≤ s.k → f.gives i ≡ g.gives i
  agree zero i p q = let z : ⊥ = omega arith in absurd z
  agree (suc m) i p q =
      let e : together f.gives (above s.k i) ≡ together g.gives (above s.k i) =
      same_first f.gives g.gives (suc s.k) (s.k - i) (λ j x y. agree m j (omega arith) (omega arith)) in
      one-slot (subst (λ (x : List (List ℕ)). SlotGives s t a d i x (f.gives i)) e (f.slot i q)) (g.slot i q)

  same-routes : us ≡ vs
  same-routes =
      f.whole ∙ same-all f.gives g.gives (suc s.k) (λ i p. agree (suc s.k) i (omega arith) (omega arith)) ∙ sym g.whole

pub one-selection : OneSelection
one-selection s t a d q r x y =
    x.written ∙ ap (λ (routes : List (List ℕ)). set_of (map (encode s) routes)) (same-routes x.slots y.slots) ∙ sym y.written
