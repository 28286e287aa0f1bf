-- There is one table with given links marked, so there is one that laying leaves.
use Prim.Native.Nat.{ℕ}
use mathlib.Core.Path.{◌≡◌, sym, ap, ◌∙◌}
use mathlib.Core.Bool.{Bool}
use mathlib.Core.List.{List}
use native.Mathlib.Decide.{ℕ_discrete}
use Rattle.refusals.specs.Refusals.{Refusal}
use Rattle.room.specs.declared.Shape.{Shape}
use Rattle.room.specs.Shapes.{Valid}
use Rattle.links.proofs.TableLaws.{one_table}
use Rattle.path.proofs.ReverseLaws.{source-server}
use Rattle.laying.specs.Laid.{Marks}
use Rattle.laying.specs.Answers.{Lays}
use Rattle.laying.proofs.LayLaws.{lay_exactly}

pub marks-unique : {s : Shape} {t : List ℕ} {links : ℕ → ℕ → Bool} {u v : List ℕ} → Valid s → Marks s t links u → Marks s t links v → u ≡ v
marks-unique valid p q = one_table valid p.table q.table (λ x l z. p.marks x l z ∙ sym (q.marks x l z))

pub lays_unique : {s : Shape} {t : List ℕ} {a d : ℕ} {bs : List ℕ} {q r : Refusal} {u v : List ℕ} → Lays s t a d bs q u → Lays s t a d bs r v → (q ≡ r) × (u ≡ v)
lays_unique {s} {t} {a} {d} {bs} {q} {r} {u} {v} h k =
    let e : q ≡ r = h.refusal ∙ sym k.refusal in
    let n = ap (λ (x : Refusal). x.number) e in (
      e,
      elim (ℕ_discrete q.number 0) [
        | yes z ↦
            let vs = ((lay_exactly s t a d bs).0 (sym (ap (λ (x : Refusal). x.number) h.refusal) ∙ z)).1 in
            marks-unique (source-server vs.1.route).valid (h.laid z vs.0 vs.1) (k.laid (sym n ∙ z) vs.0 vs.1)
        | no o ↦ h.kept o ∙ sym (k.kept (λ z. o (n ∙ z)))
      ],
    )
