-- The next hop and the step as the program finds them: what each way of the code answers, by what the code found on that way.
use Prim.Native.Nat.{ℕ, ◌+◌}
use mathlib.Core.Path.{◌≡◌, refl, sym, ap, ◌∙◌}
use mathlib.Core.Logic.{◌≢◌}
use mathlib.Core.List.{List}
use Rattle.refusals.specs.Refusals.{Refusal}
use Rattle.refusals.specs.Refusals.{refused_at}
use Rattle.room.specs.declared.Shape.{Shape}
use Rattle.room.specs.Refusals.{server_refusal}
use Rattle.room.proofs.RefusalLaws.{server_of}
use Rattle.path.specs.declared.Hop.{Hop as Hopped}
use Rattle.path.specs.Answers.{no_hop, the_hop, hop_answer}
use Rattle.path.specs.Walks.{hop_refusal}
use Rattle.path.proofs.HopLaws.{hop-number, hop-made, hop-known}
use Rattle.step.specs.Steps.{flag_at}
use Rattle.step.specs.Inside.{next_answer}
use Rattle.step.proofs.StepLaws.{next-hop, next_closed, next_open}

module _ (s : Shape) (a : ℕ) (e : List ℕ) (b i : ℕ) (tested : server_refusal s a ≡ 0) where
  -- the byte's hop is refused
  pub refuses_hop : (q : Refusal) → no_hop q ≡ hop_answer s a b → q.number ≢ 0 → (x : Refusal) → x ≡ refused_at q.number 1 (i + 1) → no_hop x ≡ next_answer s a e b i
  refuses_hop q f n x g =
      ap no_hop g ∙ next-hop s a e b i q.number (hop-number _ _ _ _ (hop-known (server_of s a tested) _ _ f)) n

  module _ (x : Hopped) (found : the_hop x ≡ hop_answer s a b) where
    taken : hop_refusal s a b ≡ 0
    taken = sym (hop-number _ _ _ _ (hop-known (server_of s a tested) _ _ found))

    -- its neighbour is not available; it goes
    pub refuses_closed : flag_at e b ≢ 1 → (y : Refusal) → y ≡ refused_at 19 1 (i + 1) → no_hop y ≡ next_answer s a e b i
    refuses_closed n y g = ap no_hop g ∙ next_closed s a e b i taken n

    pub takes : flag_at e b ≡ 1 → the_hop x ≡ next_answer s a e b i
    takes flag = hop-made _ _ _ _ (hop-known (server_of s a tested) _ _ found) refl ∙ next_open s a e b i taken flag
