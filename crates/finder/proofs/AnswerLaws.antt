-- For the layers above: what an answer of the search tells.
use Prim.Native.Nat.{ℕ, ◌-◌, ◌<◌, ◌≤◌}
use native.Mathlib.Omega.{arith}
use native.Mathlib.Decide.{ℕ_discrete}
use mathlib.Core.Path.{◌≡◌, refl, sym, ap, ◌∙◌}
use mathlib.Core.Logic.{◌⊎◌, inl, inr, ⊎_elim, ◌↔◌}
use mathlib.Core.List.{List}
use lib.ListN.{length}
use Rattle.std.specs.Prelude.{Result, Ok, Err, Option, Some, None}
use Rattle.refusals.specs.declared.Reason.{Reason}
use Rattle.refusals.specs.Refusals.{plain}
use Rattle.refusals.specs.Reasons.{tells}
use Rattle.refusals.proofs.ReasonLaws.{reason-same, reason-some}
use Rattle.room.specs.declared.Shape.{Shape}
use Rattle.links.specs.Table.{room_refusal}
use Rattle.path.specs.Routes.{encode, RouteTo}
use Rattle.finder.specs.Told.{Found}
use Rattle.finder.specs.declared.Found.{Found as Route}
use Rattle.finder.specs.Answers.{no_route, what_found, HasHops, GivesAlternate, Finding}
use Rattle.finder.proofs.Order.{split}

module _ {s : Shape} {t : List ℕ} {a d : ℕ} {r : Found} where
  -- the hops and bytes of the alternate
  pub given-hops : (g : GivesAlternate s t a d r) → r.hops ≡ length g.servers - 1
  given-hops g = ap (λ (x : Found). x.hops) g.answer

  pub given-bytes : (g : GivesAlternate s t a d r) → r.bytes ≡ encode s g.servers
  given-bytes g = ap (λ (x : Found). x.bytes) g.answer

  pub given-some : GivesAlternate s t a d r → (0 < r.hops) × (r.hops ≤ 8)
  given-some g =
      (omega (arith, given-hops g, g.alternate.route.route.some), omega (arith, given-hops g, g.alternate.route.route.few))

  module _ (f : Finding s t a d r) where
    -- the refusal is the test's
    pub found-refusal : r.refusal ≡ plain (room_refusal s t a d)
    found-refusal =
        elim (ℕ_discrete (room_refusal s t a d) 0) [
          | yes z ↦
              ⊎_elim (λ p. ap (λ (x : Found). x.refusal) (f.given z p).answer) (λ p. ap (λ (x : Found). x.refusal) (f.none z (omega arith)).0) (split 0 r.hops) ∙ ap plain (sym z)
          | no n ↦ ap (λ (x : Found). x.refusal) (f.refused n)
        ]

    module _ (z : room_refusal s t a d ≡ 0) where
      -- the alternate, or no route
      pub found-or-none : GivesAlternate s t a d r ⊎ ((r ≡ no_route 0) × ((vs : List ℕ) → RouteTo s t a d vs → ⊥))
      found-or-none = ⊎_elim (λ p. inl (f.given z p)) (λ p. inr (f.none z (omega arith))) (split 0 r.hops)

      -- no hops exactly where there is no route
      pub none-exactly : (r.hops ≡ 0) ↔ ((vs : List ℕ) → RouteTo s t a d vs → ⊥)
      none-exactly = (
        λ e. (f.none z e).1,
        λ no-route. ⊎_elim (λ p. absurd (no-route (f.given z p).servers (f.given z p).alternate.route)) (λ p. omega arith) (split 0 r.hops),
      )

-- two results that tell the same are one, where a route that is found has a hop
pub found-same : (x y : Result (Option Route) Reason) → HasHops x → HasHops y → tells no_route what_found x ≡ tells no_route what_found y → x ≡ y
found-same (Err r) (Err q) p h e = ap Err (reason-same r q (ap (λ (x : Found). x.refusal.number) e))
found-same (Err r) (Ok None) p h e = absurd (reason-some r (ap (λ (x : Found). x.refusal.number) e))
found-same (Err r) (Ok (Some g)) p h e = absurd (reason-some r (ap (λ (x : Found). x.refusal.number) e))
found-same (Ok None) (Err q) p h e = absurd (reason-some q (sym (ap (λ (x : Found). x.refusal.number) e)))
found-same (Ok (Some f)) (Err q) p h e = absurd (reason-some q (sym (ap (λ (x : Found). x.refusal.number) e)))
found-same (Ok None) (Ok None) p h e = refl
found-same (Ok None) (Ok (Some g)) p h e = absurd (omega (arith, ap (λ (x : Found). x.hops) e, h))
found-same (Ok (Some f)) (Ok None) p h e = absurd (omega (arith, ap (λ (x : Found). x.hops) e, p))
found-same (Ok (Some f)) (Ok (Some g)) p h e = rw (ap (λ (x : Found). x.hops) e, ap (λ (x : Found). x.bytes) e) refl
