-- `verdict::checks::check_arrays`: an array is refused, or kept; after the last, every two are held against each other.
use Rattle.std.proofs.Common.{arith, refl, ◌∙◌}
use borrow.Author.Rules.{rules}
use Rattle.refusals.specs.Refusals.{none}
use Rattle.refusals.proofs.ReasonLaws.{where-passed}
use Rattle.verdict.proofs.ListWalk.{walking_none, walking_stops, walking_goes, walking_ends}
use Rattle.verdict.proofs.checks.check_arrays.Goals as goal

pub loop-i-init : goal.loop-i-init
loop-i-init c = walking_none _ _ _ _ _ _ refl c.requires

pub returns-in_err-walks : goal.returns-in_err-walks
returns-in_err-walks c =
    where-passed (λ q. q) (λ w. none) _ _ c.from_residual.ensures.1
    ∙ walking_stops _ _ _ _ _ _ _ c.loop-i.invariant (omega (arith, c.as_chunks.ensures.front_len)) c.as_chunks.ensures.front _ c.walk.ensures _ c.in_err-walks.ensures.cases (λ e h. search rules)

pub bounds-walks-i : goal.bounds-walks-i
bounds-walks-i c = omega (arith, c.loop-i.invariant.few, c.as_chunks.ensures.front_len)

pub loop-i-preserved : goal.loop-i-preserved
loop-i-preserved c =
    walking_goes _ _ _ _ _ _ _ c.loop-i.invariant (omega (arith, c.as_chunks.ensures.front_len)) c.as_chunks.ensures.front _ c.walk.ensures _ c.in_ok-walks.ensures.cases

pub returns : goal.returns
returns c = walking_ends _ _ _ _ _ _ _ c.loop-i.invariant _ c.as_chunks.ensures.front_len c.loop-i-test.false _ c.first_pair.ensures
