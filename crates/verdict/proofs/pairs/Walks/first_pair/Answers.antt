-- `verdict::pairs::Walks::first_pair`: an array is not parallel to a later one, or is to all, or each is.
use mathlib.Core.Path.{◌∙◌}
use Rattle.refusals.specs.Refusals.{none}
use Rattle.refusals.proofs.ReasonLaws.{where-passed}
use Rattle.verdict.proofs.ScanLaws.{pair_here, pair_on, pair_end}
use Rattle.verdict.proofs.pairs.Walks.first_pair.Goals as goal

pub returns-in_err-first_meeting : goal.returns-in_err-first_meeting
returns-in_err-first_meeting c = where-passed (λ r. r) (λ x. none) _ _ c.from_residual.ensures.1 ∙ pair_here _ _ _ c.loop-i.invariant c.args.self.now.arrived c.args.self.now.few c.loop-i-test.true _ c.in_err-first_meeting.ensures

pub loop-i-preserved : goal.loop-i-preserved
loop-i-preserved c = pair_on _ _ _ c.loop-i.invariant c.args.self.now.arrived c.args.self.now.few c.loop-i-test.true c.in_ok-first_meeting.ensures

pub returns : goal.returns
returns c = pair_end _ _ _ c.loop-i.invariant c.loop-i-test.false
