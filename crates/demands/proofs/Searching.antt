-- Demand 2, proved: what the search for the alternate answers.
use mathlib.Core.Path.{sym, ap, ◌∙◌}
use mathlib.Core.Logic.{inl, inr}
use native.Mathlib.Omega.{arith}
use native.Mathlib.Decide.{ℕ_discrete}
use Rattle.links.specs.Table.{room_refusal}
use Rattle.finder.specs.Told.{Found}
use Rattle.demands.specs.Demand2.{FindsExactly}

pub finds_exactly : FindsExactly
finds_exactly s t a d r f z =
    elim (ℕ_discrete (room_refusal s t a d) 0) [
      | no n ↦ absurd (n (sym (ap (λ (y : Found). y.refusal.number) (f.refused n)) ∙ z))
      | yes e ↦ elim (ℕ_discrete r.hops 0) [
        | yes o ↦ let p = f.none e o in inr (record { missing = p.1; answer = p.0 })
        | no o ↦ let g = f.given e (omega arith) in
            inl (record { servers = g.servers; route = g.alternate.route; first = g.alternate.first; answer = g.answer })
      ]
    ]
