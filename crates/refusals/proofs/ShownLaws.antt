-- Laws of what is written, where a part of it may be left out: what all of it is after two writes, and after one; and no two reasons are
-- shown the same.
use Prim.Native.Nat.{ℕ, ◌^◌, ◌<◌}
use mathlib.Core.Path.{◌≡◌, ap}
use mathlib.Core.List.{List, ◌++◌}
use native.Mathlib.Omega.{arith}
use lib.ListN.{drop}
use Rattle.std.specs.Fmt.{HasWritten}
use Rattle.std.specs.declared.fmt.Formatter.{Formatter}
use Rattle.std.proofs.Output.{has_written_append, has_written_of_eq, has_written_to_eq}
use Rattle.std.proofs.lemmas.Fmt.{decimal_injective}
use Rattle.refusals.specs.declared.Reason.{Reason}
use Rattle.refusals.specs.Reasons.{number_of}
use Rattle.refusals.specs.Shown.{reason_text}
use Rattle.refusals.proofs.ReasonLaws.{reason-same}

module _ {W : Type 0} {took : W → List ℕ → W → Type 0} {f g j : Formatter W} {a all : List ℕ} where
  -- j is the formatter after both writes
  pub then_written : {h : Formatter W} (b : List ℕ) → j ≡ h → HasWritten took f a g → HasWritten took g b h → a ++ b ≡ all → HasWritten took f all j
  then_written b e p q s = has_written_to_eq _ _ _ _ _ e (has_written_of_eq _ _ _ _ _ s (has_written_append _ _ _ _ _ _ p q))

  -- j is the formatter after the first, and no other is made
  pub nothing_written : j ≡ g → HasWritten took f a g → a ≡ all → HasWritten took f all j
  nothing_written e p s = has_written_to_eq _ _ _ _ _ e (has_written_of_eq _ _ _ _ _ s p)

number-small : (r : Reason) → number_of r < 2 ^ 64
number-small r = grind arith

-- two reasons that are shown the same are one
pub reason_text-same : (r q : Reason) → reason_text r ≡ reason_text q → r ≡ q
unfolding reason_text
reason_text-same r q e = reason-same r q (decimal_injective (number_of r) (number_of q) (number-small r) (number-small q) (ap (drop 8) e))
