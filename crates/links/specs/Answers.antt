-- What asking for a link of the failed-link table answers.
use Rattle.std.specs.Prelude.{ℕ, List, Bool, false}
use Rattle.refusals.specs.Refusals.{none, plain, answer}
use Rattle.room.specs.declared.Shape.{Shape}
use Rattle.links.specs.Told.{Asked}
use Rattle.links.specs.Table.{failed, table_link_refusal}

abbrev pub not_asked : ℕ → Asked
not_asked r = record { refusal = plain r; failed = false }

abbrev pub asked : Bool → Asked
asked b = record { refusal = none; failed = b }

unfoldable pub failed_answer : Shape → List ℕ → ℕ → ℕ → Asked
failed_answer s t a l = answer (table_link_refusal s t a l) not_asked (asked (failed t a l))
