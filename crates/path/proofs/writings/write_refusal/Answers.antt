-- `path::writings::write_refusal`: the shape; 22; 4; 5.
use Rattle.std.proofs.Common.{arith}
use mathlib.Core.Path.{◌∙◌}
use Rattle.refusals.proofs.ReasonLaws.{told-is}
use Rattle.path.proofs.WriteLaws.{write_shape, write-few, write_many, write-server, write_same, write-apart}
use Rattle.path.proofs.writings.write_refusal.Goals as goal
use Rattle.path.proofs.writings.write_refusal.Goals.{then-count-lt2-via-then-count-lt2, then-count-lt2-via-else-count-lt2+then-count-gt9}

pub returns-in_err-shape_refusal : goal.returns-in_err-shape_refusal
returns-in_err-shape_refusal c = told-is _ _ c.from_residual.ensures.1 ∙ write_shape _ _ _ c.in_err-shape_refusal.ensures

pub returns-then-count-lt2 : goal.returns-then-count-lt2
returns-then-count-lt2 c = elim c.then-count-lt2.branch [
  | then-count-lt2-via-then-count-lt2 w ↦ write-few _ _ c.in_ok-shape_refusal.ensures w.if-count-lt2.true
  | then-count-lt2-via-else-count-lt2+then-count-gt9 w ↦ write_many _ _ c.in_ok-shape_refusal.ensures w.if-count-lt2.false w.if-count-gt9.true
]

pub returns-in_err-servers_refusal : goal.returns-in_err-servers_refusal
returns-in_err-servers_refusal c = told-is _ _ c.from_residual-in_err-servers_refusal.ensures.1 ∙ write-server _ _ c.in_ok-shape_refusal.ensures (omega arith) (omega arith) _ c.in_err-servers_refusal.ensures

pub returns-then-servers-count : goal.returns-then-servers-count
returns-then-servers-count c = write_same _ _ c.in_ok-shape_refusal.ensures (omega arith) (omega arith) c.in_ok-servers_refusal.ensures c.if-servers-count.true

pub returns : goal.returns
returns c = write-apart _ _ c.in_ok-shape_refusal.ensures (omega arith) (omega arith) c.in_ok-servers_refusal.ensures c.if-servers-count.false
