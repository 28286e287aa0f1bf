use Rattle.summary.proofs.EntryLaws.{entry-inside, dead-here, dead_on, dead-none}
use Rattle.summary.proofs.entries.Entries.first_dead.Goals as goal

pub switch_in-switch-requires : goal.switch_in-switch-requires
switch_in-switch-requires c = search entry-inside

pub returns-then-entry-digit_bound : goal.returns-then-entry-digit_bound
returns-then-entry-digit_bound c = search dead-here

pub loop-place-preserved : goal.loop-place-preserved
loop-place-preserved c = search dead_on

pub returns : goal.returns
returns c = search dead-none
