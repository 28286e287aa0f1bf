-- The search and the selection as a driver in C sees them.
use Rattle.std.specs.Prelude.{ℕ, ◌≡◌, List}
use Rattle.room.specs.declared.Shape.{Shape}
use Rattle.finder.specs.Told.{Found}
use Rattle.finder.specs.Answers.{Finding}
use Rattle.select.specs.Told.{Selection}
use Rattle.select.specs.Selection.{Selecting}
use Rattle.driver.specs.declared.Answer.{Answer}
use Rattle.driver.specs.Words.{word, left}

-- w and the buffer left are read off the search's answer: its refusal and hops, and its path bytes
pub record FoundWord (s : Shape) (t : List ℕ) (a d : ℕ) (w : Answer) (lent path : List ℕ) : Type 0 where
  pub answer : Found
  pub finding : Finding s t a d answer
  pub says : w ≡ word answer.refusal answer.hops
  pub leaves : path ≡ left answer.refusal.number lent answer.bytes

-- w and the buffer left are read off the selection's answer: its refusal and count, and its routes
pub record SelectedWord (s : Shape) (t : List ℕ) (a d : ℕ) (w : Answer) (lent routes : List ℕ) : Type 0 where
  pub answer : Selection
  pub selecting : Selecting s t a d answer
  pub says : w ≡ word answer.refusal answer.routes.count
  pub leaves : routes ≡ left answer.refusal.number lent answer.routes.bytes
