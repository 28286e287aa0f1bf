-- `verdict::pairs::Walks::first_meeting`: what the arrays from this one on come to, all after place i come to.
use Rattle.std.proofs.Common.{◌≡◌, ◌+◌, drop}
use Rattle.path.specs.Answers.{the_walk}
use Rattle.verdict.specs.Checks.{first_meeting}
use Rattle.verdict.proofs.ScanLaws.{first_told}
use Rattle.verdict.proofs.pairs.Walks.first_meeting.Given as goal

abbrev pub invariant-loop-j : goal.invariant-loop-j
invariant-loop-j l =
    first_meeting (l.i + 1) (the_walk l.one) (l.j + 1) (drop l.j (first_told l.self.count l.self.walks)) ≡ first_meeting (l.i + 1) (the_walk l.one) (l.i + 1 + 1) (drop (l.i + 1) (first_told l.self.count l.self.walks))
