-- `step::steps::mac_at`: the bytes of the entry, one by one.
use native.Mathlib.Nat.{add-zero}
use Rattle.step.specs.Steps.{entry, mac_at}
use Rattle.step.proofs.steps.mac_at.Goals as goal

pub returns : goal.returns
unfolding entry mac_at
returns c = simp add-zero
