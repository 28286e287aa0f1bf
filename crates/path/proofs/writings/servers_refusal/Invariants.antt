-- The servers passed are in the room.
use Rattle.path.proofs.WriteLaws.{FineTo}
use Rattle.path.proofs.writings.servers_refusal.Given as goal

abbrev pub invariant-loop-server : goal.invariant-loop-server
invariant-loop-server l = FineTo l.shape l.servers l.server-index
