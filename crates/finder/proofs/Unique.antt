-- The contract of the search determines its answer: there is one alternate at most, and its bytes are one array.
use Prim.Native.Nat.{ℕ, ◌<◌}
use native.Mathlib.Omega.{arith}
use native.Mathlib.Decide.{ℕ_discrete}
use mathlib.Core.Path.{◌≡◌, sym, ap, ◌∙◌}
use mathlib.Core.Logic.{⊎_elim}
use mathlib.Core.List.{List}
use Rattle.refusals.specs.Determined.{Determined}
use Rattle.room.specs.declared.Shape.{Shape}
use Rattle.links.specs.Table.{room_refusal}
use Rattle.finder.specs.Told.{Found}
use Rattle.finder.specs.Answers.{a_route, GivesAlternate, Finding}
use Rattle.finder.proofs.Order.{split}
use Rattle.finder.proofs.AnswerLaws.{found-same}
use Rattle.finder.proofs.OneAlternate.{alternate-unique}
use Rattle.finder.proofs.finding.find_route.Reads as find_route
use Rattle.finder.proofs.finding.find_route.Kinds as find_route_kinds

-- two answers to one question are the same
pub finding-unique : (s : Shape) (t : List ℕ) (a d : ℕ) (x y : Found) → Finding s t a d x → Finding s t a d y → x ≡ y
finding-unique s t a d x y f g =
    elim (ℕ_discrete (room_refusal s t a d) 0) [
      | yes z ↦ ⊎_elim (λ p. ⊎_elim (λ q. both z p q) (λ q. absurd ((g.none z (omega arith)).1 (f.given z p).servers (f.given z p).alternate.route)) (split 0 y.hops))
          (λ p. ⊎_elim (λ q. absurd ((f.none z (omega arith)).1 (g.given z q).servers (g.given z q).alternate.route)) (λ q. (f.none z (omega arith)).0 ∙ sym (g.none z (omega arith)).0) (split 0 y.hops))
          (split 0 x.hops)
      | no n ↦ f.refused n ∙ sym (g.refused n)
    ]
  where
    both : room_refusal s t a d ≡ 0 → 0 < x.hops → 0 < y.hops → x ≡ y
    both z p q =
        let u : GivesAlternate s t a d x = f.given z p in
        let v : GivesAlternate s t a d y = g.given z q in
        u.answer ∙ ap (a_route s) (alternate-unique u.alternate v.alternate) ∙ sym v.answer

pub find-route-unique : Determined 1 find_route_kinds.ps find_route_kinds.r find_route.Post
find-route-unique κs a x y s t e f = found-same x y e.1 f.1 (finding-unique _ _ _ _ _ _ e.0 f.0)
