-- `verdict::pairs::Walks::first_pair`: what the pairs from this place on come to, all come to.
use Rattle.std.proofs.Common.{◌≡◌, ◌+◌, drop}
use Rattle.verdict.specs.Checks.{first_pair}
use Rattle.verdict.proofs.ScanLaws.{first_told}
use Rattle.verdict.proofs.pairs.Walks.first_pair.Given as goal

abbrev pub invariant-loop-i : goal.invariant-loop-i
invariant-loop-i l = first_pair (l.i + 1) (drop l.i (first_told l.self.count l.self.walks)) ≡ first_pair 1 (first_told l.self.count l.self.walks)
