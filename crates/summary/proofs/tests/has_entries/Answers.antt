-- `summary::tests::has_entries`: an entry for each switch.
use Rattle.summary.proofs.RefusalLaws.{entries-made}
use Rattle.summary.proofs.tests.has_entries.Goals as goal

pub returns : goal.returns
returns c = search entries-made
