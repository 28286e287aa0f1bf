use Rattle.std.proofs.Common.{arith}
use Rattle.path.proofs.WriteLaws.{put_next, put-end}
use Rattle.path.proofs.writings.put_bytes.Goals as goal

pub loop-i-preserved : goal.loop-i-preserved
loop-i-preserved c =
    put_next c.loop-i.invariant c.requires (omega arith) _ c.byte_to.ensures

pub returns : goal.returns
returns c = put-end c.loop-i.invariant (omega arith)
