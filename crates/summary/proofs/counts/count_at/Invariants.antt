-- `server` is the next to look at, and the count is how many of those looked at have their link failed.
use Rattle.std.proofs.Common.{◌≡◌, ◌+◌, ◌*◌}
use Rattle.lists.proofs.ListCounts.{many}
use Rattle.links.specs.Table.{failed}
use Rattle.summary.proofs.counts.count_at.Given as goal

abbrev pub invariant-loop-port : goal.invariant-loop-port
invariant-loop-port l =
    (l.server ≡ l.side.first + l._port * l.side.stride) × (l.count ≡ many (λ v. failed l.table (l.side.first + v * l.side.stride) l.level) l._port)
