use Rattle.std.proofs.Common.{rules, ◌≡◌, ℕ, true, ◌≤◌, ◌↔◌, IsTrue}
use Rattle.std.proofs.iter.runs.Sources.{ranges}
use Rattle.summary.specs.Refusals.{is_counted}
use Rattle.summary.proofs.EntryLaws.{counted-levels}
use Rattle.summary.proofs.entries.Entries.are_counted.Goals as goal

pub returns : goal.returns
returns c =
    counted-levels _ _ _ _ _ (let e : IsTrue c.all.result ↔ ((l : ℕ) → l ≤ c.args.self.now.shape.k → is_counted c.args.self.now.shape c.args.table.now c.args.self.now.summary.now c.args.server l ≡ true) = search (rules, ranges) in e)
