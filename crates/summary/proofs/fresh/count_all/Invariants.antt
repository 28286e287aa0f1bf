-- The entries passed are what the table counts.
use Rattle.std.proofs.Common.{◌≡◌, ℕ, ◌<◌, get_or}
use Rattle.summary.specs.Counts.{summary_of}
use Rattle.summary.proofs.fresh.count_all.Given as goal

abbrev pub invariant-loop-place : goal.invariant-loop-place
invariant-loop-place l = (j : ℕ) → j < l.place → get_or l.summary j 0 ≡ get_or (summary_of l.order.shape l.table) j 0
