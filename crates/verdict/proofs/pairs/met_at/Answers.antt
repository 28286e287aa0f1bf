-- `verdict::pairs::met_at`: a hop that leads to a server between the ends, or the last, whose switch alone counts.
use Rattle.verdict.proofs.MeetingLaws.{met-middle, met_last}
use Rattle.verdict.proofs.pairs.met_at.Goals as goal

pub returns-then-next-one : goal.returns-then-next-one
returns-then-next-one c = met-middle _ _ c.requires.0 c.requires.1 _ c.if-next-one.true _ c.first_met.ensures

pub returns : goal.returns
returns c = met_last _ _ c.requires.0 c.requires.1 _ c.requires.2 _ c.place_in.ensures c.if-next-one.false
