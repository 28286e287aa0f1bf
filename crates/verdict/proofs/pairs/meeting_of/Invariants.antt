-- `verdict::pairs::meeting_of`: no hop before this one meets one of the other's.
use Rattle.path.specs.Answers.{the_walk}
use Rattle.verdict.proofs.MeetingLaws.{NoneMet}
use Rattle.verdict.proofs.pairs.meeting_of.Given as goal

abbrev pub invariant-loop-i : goal.invariant-loop-i
invariant-loop-i l = NoneMet (the_walk l.one) (the_walk l.other) l.i
