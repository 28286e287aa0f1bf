-- Forwarding a packet from server to server, step after step, over neighbour tables that agree with a failed-link table.
use Rattle.std.specs.Prelude.{ℕ, zero, suc, ◌<◌, ◌≡◌, ◌↔◌, List, [], ◌∷◌, true, length}
use Rattle.room.specs.declared.Shape.{Shape}
use Rattle.room.specs.Shapes.{Server}
use Rattle.links.specs.Table.{live}
use Rattle.path.specs.Routes.{byte_of, level_of}
use Rattle.path.specs.Walks.{hop_to, hop_refusal}
use Rattle.step.specs.Told.{Step}
use Rattle.step.specs.Steps.{flag_at, step_answer}

-- the neighbour table e of server a agrees with the failed-link table t: for each neighbour, by its path byte b, the flag is 1
-- exactly if both links of that hop are live (rule 7.4)
pub record Agrees (s : Shape) (t : List ℕ) (a : ℕ) (e : List ℕ) : Type 0 where
  pub flags : (b : ℕ) → b < 256 → hop_refusal s a b ≡ 0 → (flag_at e b ≡ 1) ↔ (live t (level_of b) a (hop_to s a b) ≡ true)

-- every server's neighbour table, given by the server, has its length and agrees
pub record Tables (s : Shape) (t : List ℕ) (tables : ℕ → List ℕ) : Type 0 where
  pub long : (a : ℕ) → Server s a → length (tables a) ≡ 2048
  pub agree : (a : ℕ) → Server s a → Agrees s t a (tables a)

-- the step that a packet for d makes after m steps, if it starts at server a with index i and each step is made where the one
-- before it led, with the index that it gave
unfoldable pub step_after : Shape → ℕ → List ℕ → (ℕ → List ℕ) → ℕ → ℕ → ℕ → Step
step_after s d bs tables zero a i = step_answer s a d i bs (tables a)
step_after s d bs tables (suc m) a i =
    let x = step_answer s a d i bs (tables a) in step_after s d bs tables m x.next x.index

-- the trace of m steps from there: of each in turn the path byte of the way back, of its level and old value. It is that of a packet where
-- none of them is refused or a delivery
unfoldable pub trace_of : Shape → ℕ → List ℕ → (ℕ → List ℕ) → ℕ → ℕ → ℕ → List ℕ
trace_of s d bs tables zero a i = []
trace_of s d bs tables (suc m) a i =
    let x = step_answer s a d i bs (tables a) in byte_of x.level x.old ∷ trace_of s d bs tables m x.next x.index
