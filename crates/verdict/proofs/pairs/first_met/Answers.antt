-- `verdict::pairs::first_met`: the hop uses the switch, or leads to the server; the last uses it, or none does.
use Rattle.std.proofs.Common.{arith}
use Rattle.verdict.proofs.MeetingLaws.{unmet_switch, unmet_server, unmet_all, unmet_end}
use Rattle.verdict.proofs.pairs.first_met.Goals as goal

pub returns-then-used-i : goal.returns-then-used-i
returns-then-used-i c = unmet_switch _ _ _ _ c.requires _ c.loop-i.invariant c.if-used-i.true

pub returns-then-leads-server : goal.returns-then-leads-server
returns-then-leads-server c = unmet_server _ _ _ _ c.requires _ c.loop-i.invariant c.loop-i-test.true c.if-leads-server.true

pub returns-then-used-last : goal.returns-then-used-last
returns-then-used-last c =
    unmet_switch _ _ _ _ c.requires _ (unmet_all _ _ _ _ _ c.loop-i.invariant c.loop-i-test.false) c.if-used-last.true

pub returns : goal.returns
returns c =
    unmet_end _ _ _ _ c.requires _ (unmet_all _ _ _ _ _ c.loop-i.invariant c.loop-i-test.false) (omega arith) c.if-used-last.false
