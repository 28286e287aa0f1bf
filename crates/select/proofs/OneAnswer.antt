-- There is one answer: each slot gives one thing, and the slots one after another too.
use Prim.Native.Nat.{ℕ, zero, suc}
use mathlib.Core.Path.{◌≡◌, refl, sym, ap, ◌∙◌, subst}
use mathlib.Core.Logic.{⊎_elim}
use mathlib.Core.List.{List, [], ◌∷◌, ◌++◌}
use native.Mathlib.Decide.{ℕ_discrete}
use Rattle.room.specs.declared.Shape.{Shape}
use Rattle.links.specs.Table.{room_refusal}
use Rattle.finder.proofs.OneAlternate.{route-order}
use Rattle.select.specs.Told.{Selection}
use Rattle.select.specs.Selection.{Replaces, Slot, kept, replaced, nothing, SlotBySlot, selection, Selecting}

-- ---- one alternate

pub replaces_unique : {s : Shape} {t : List ℕ} {a d : ℕ} {routes : List (List ℕ)} {us vs : List ℕ} → Replaces s t a d routes us → Replaces s t a d routes vs → us ≡ vs
replaces_unique {s} {t} {a} {d} {routes} {us} {vs} h k =
    ⊎_elim
    (⊎_elim (λ b. absurd (k.first us h.route h.avoids b)) (λ b. absurd (h.first vs k.route k.avoids b)))
    (λ e. e) (route-order h.route k.route)

-- ---- one thing that a slot gives

pub slot-unique : {s : Shape} {t : List ℕ} {a d i : ℕ} {settled g h : List (List ℕ)} → Slot s t a d i settled g → Slot s t a d i settled h → g ≡ h
slot-unique (kept u) (kept v) = refl
slot-unique (kept u) (replaced b r) = absurd (b u)
slot-unique (kept u) (nothing b r) = absurd (b u)
slot-unique (replaced b r) (kept u) = absurd (b u)
slot-unique (replaced b r) (replaced c q) = ap (λ (x : List ℕ). x ∷ []) (replaces_unique r q)
slot-unique (replaced {vs} b r) (nothing c q) = absurd (q vs r.route r.avoids)
slot-unique (nothing b r) (kept u) = absurd (b u)
slot-unique (nothing b r) (replaced {vs} c q) = absurd (r vs q.route q.avoids)
slot-unique (nothing b r) (nothing c q) = refl

pub slots-unique : (s : Shape) (t : List ℕ) (a d m : ℕ) (settled us vs : List (List ℕ)) → SlotBySlot s t a d m settled us → SlotBySlot s t a d m settled vs → us ≡ vs
slots-unique s t a d zero settled us vs e f = sym e ∙ f
slots-unique s t a d (suc i) settled us vs c e =
    slots-unique s t a d i (settled ++ c.0) us vs c.2
    (subst (λ (g : List (List ℕ)). SlotBySlot s t a d i (settled ++ g) vs) (slot-unique e.1 c.1) e.2)

-- ---- two answers that meet what selection promises are equal

pub selecting-unique : {s : Shape} {t : List ℕ} {a d : ℕ} {q r : Selection} → Selecting s t a d q → Selecting s t a d r → q ≡ r
selecting-unique {s} {t} {a} {d} {q} {r} h k =
    elim (ℕ_discrete (room_refusal s t a d) 0) [
      | yes e ↦ let x = h.given e in
          let y = k.given e in
          x.answer ∙ ap (selection s) (slots-unique s t a d (suc s.k) [] x.routes y.routes x.slots y.slots) ∙ sym y.answer
      | no e ↦ h.refused e ∙ sym (k.refused e)
    ]
