-- No switch passed is dead.
use Rattle.std.proofs.Common.{◌≡◌, drop}
use Rattle.summary.specs.Counts.{switches_in}
use Rattle.summary.specs.Answers.{first_dead}
use Rattle.summary.proofs.entries.Entries.first_dead.Given as goal

abbrev pub invariant-loop-place : goal.invariant-loop-place
invariant-loop-place l = first_dead l.self.shape l.self.summary.now (drop l.place (switches_in l.self.shape)) ≡ first_dead l.self.shape l.self.summary.now (switches_in l.self.shape)
