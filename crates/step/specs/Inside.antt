-- What the private functions of this crate answer. No public contract cites this file.
use Rattle.std.specs.Prelude.{ℕ, ◌+◌, List}
use Rattle.refusals.specs.Refusals.{refused_at, answer}
use Rattle.room.specs.declared.Shape.{Shape}
use Rattle.path.specs.Told.{Hop}
use Rattle.path.specs.Answers.{no_hop, hop_by}
use Rattle.step.specs.Steps.{byte_refusal}

-- the hop by path byte b, which index i names, to a neighbour that is available
unfoldable pub next_answer : Shape → ℕ → List ℕ → ℕ → ℕ → Hop
next_answer s a e b i = answer (byte_refusal s a e b) (λ r. no_hop (refused_at r 1 (i + 1))) (hop_by s a b)
