-- `verdict::pairs::Walks::first_meeting`: an array meets the one at place i, or none does.
use Rattle.verdict.proofs.ScanLaws.{meeting-here, meeting_on, meeting-end}
use Rattle.verdict.proofs.pairs.Walks.first_meeting.Goals as goal

pub returns-in-Some : goal.returns-in-Some
returns-in-Some c = meeting-here _ _ _ _ _ c.loop-j.invariant c.args.self.now.arrived c.args.self.now.few c.loop-j-test.true _ c.in-Some.ensures _ c.at-refused.ensures _ c.with_earlier.ensures

pub loop-j-preserved : goal.loop-j-preserved
loop-j-preserved c = meeting_on _ _ _ _ _ c.loop-j.invariant c.args.self.now.arrived c.args.self.now.few c.loop-j-test.true c.in_default.ensures

pub returns : goal.returns
returns c = meeting-end _ _ _ _ _ c.loop-j.invariant c.loop-j-test.false
