-- What laying a route answers, and the table that it leaves.
use Rattle.std.specs.Prelude.{ℕ, ◌≡◌, ◌≢◌, List, [], ◌∷◌}
use Rattle.refusals.specs.Refusals.{Refusal}
use Rattle.refusals.specs.Refusals.{plain, answer}
use Rattle.room.specs.declared.Shape.{Shape}
use Rattle.links.specs.Table.{room_refusal}
use Rattle.path.specs.Routes.{Encodes}
use Rattle.path.specs.Answers.{read_answer}
use Rattle.laying.specs.Laid.{Laid}

-- 1, 2, 26, 3, 4, 5, 6, then what reading the array refuses
unfoldable pub lay_refusal : Shape → List ℕ → ℕ → ℕ → List ℕ → Refusal
lay_refusal s t a d bs = answer (room_refusal s t a d) plain (read_answer s a d bs).refusal

-- what is answered, r, and the table that is left, u: on a refusal t as it was lent, else t with the route that the array writes laid
-- into it
pub record Lays (s : Shape) (t : List ℕ) (a d : ℕ) (bs : List ℕ) (r : Refusal) (u : List ℕ) : Type 0 where
  pub refusal : r ≡ lay_refusal s t a d bs
  pub kept : r.number ≢ 0 → u ≡ t
  pub laid : r.number ≡ 0 → (vs : List ℕ) → Encodes s [] a d bs vs → Laid s t (vs ∷ []) u
