-- `verdict::pairs::first_met`: no hop before this one uses the switch or leads to the server.
use Rattle.verdict.proofs.MeetingLaws.{Unmet}
use Rattle.verdict.proofs.pairs.first_met.Given as goal

abbrev pub invariant-loop-i : goal.invariant-loop-i
invariant-loop-i l = Unmet l.used l.met l.switch l.server l.i
