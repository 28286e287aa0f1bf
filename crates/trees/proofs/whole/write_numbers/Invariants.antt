-- `trees::whole::write_numbers`: the numbers of the servers before this one are written, and these are its digits.
use Rattle.trees.proofs.WholeLaws.{Writing}
use Rattle.trees.proofs.whole.write_numbers.Given as goal

abbrev pub invariant-loop-server : goal.invariant-loop-server
invariant-loop-server l = Writing l.shape l.source l.tree l.numbers l.own l.server
