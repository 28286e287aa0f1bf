-- The chain of a list of arrays gives one of its numbers.
use Prim.Native.Nat.{ℕ, suc, ◌*◌, ◌%◌}
use mathlib.Core.Bool.{◌&&◌}
use mathlib.Core.List.{List}
use lib.Dec.{leb, eqb}
use lib.ListN.{length}
use Rattle.refusals.specs.Refusals.{OneOf}
use Rattle.refusals.proofs.NumberLaws.{test_one, chain_one}
use Rattle.room.specs.declared.Shape.{Shape}
use Rattle.links.proofs.NumberLaws.{room-numbers}
use Rattle.verdict.specs.Checks.{list_refusal, list_numbers}

pub list-numbers : (s : Shape) (t : List ℕ) (a d : ℕ) (bs : List ℕ) → OneOf list_numbers (list_refusal s t a d bs)
unfolding list_refusal
list-numbers s t a d bs =
    chain_one _ _ (room-numbers s t a d) (test_one 7 (eqb (length bs % 8) 0 && (leb 1 (length bs) && leb (length bs) (8 * suc s.k))))
