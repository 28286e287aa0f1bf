use Rattle.std.proofs.Common.{rules, ◌≡◌, ◌↔◌, ◌<◌, ℕ, length, get_or, IsTrue}
use Rattle.std.proofs.iter.Serving.{serving}
use Rattle.summary.specs.Counts.{switches_in, summary_of}
use Rattle.summary.proofs.RefusalLaws.{entries-long}
use Rattle.summary.proofs.EntryLaws.{counted-entries}
use Rattle.summary.proofs.entries.Entries.all_counted.Goals as goal

pub all-requires-clause-callable : goal.all-requires-clause-callable
all-requires-clause-callable c =
    let long : length c.args.self.now.summary.now ≡ length (switches_in c.args.self.now.shape) = entries-long _ _ c.args.self.now.each in
    grind serving

pub returns : goal.returns
returns c =
    counted-entries _ _ _ _ c.of-order.ensures c.args.self.now.each _ (let e : IsTrue c.all.result ↔ ((i : ℕ) → i < length c.args.self.now.summary.now → get_or c.args.self.now.summary.now i 0 ≡ get_or (summary_of c.of-order.result.shape c.args.table.now) i 0) = search rules in e)
