-- `summary::counts::count_at`: the servers at the switch are looked at one after the other, a stride apart.
use native.Mathlib.Nat.{add-mul}
use Rattle.std.proofs.Common.{true, false, refl, sym, ap, ◌∙◌, arith}
use Rattle.lists.proofs.ListCounts.{many}
use Rattle.links.specs.Table.{failed}
use Rattle.summary.proofs.CountLaws.{count-next, found-near, found-stride, found-small, found-all}
use Rattle.summary.proofs.counts.count_at.Goals as goal
use Rattle.summary.proofs.counts.count_at.Goals.{then-is_failed, else-is_failed}

pub loop-port-init : goal.loop-port-init
unfolding many
loop-port-init c = (omega arith, refl)

pub overflow_add-count : goal.overflow_add-count
overflow_add-count c =
    omega (arith, c.loop-port.invariant.1, found-small c.requires c.side_at-side.ensures c.args.table.now c.loop-port._port (omega arith))

pub overflow_add-server : goal.overflow_add-server
overflow_add-server c =
    omega (arith, c.loop-port.invariant.0, found-near c.requires c.side_at-side.ensures c.loop-port._port c.loop-port-test.true, found-stride c.requires c.side_at-side.ensures)

pub loop-port-preserved : goal.loop-port-preserved
loop-port-preserved c =
    let looked = c.is_failed.ensures ∙ ap (λ x. failed c.args.table.now x c.args.level) c.loop-port.invariant.0 in (
      omega (arith, c.loop-port.invariant.0, add-mul c.loop-port._port 1 c.side_at-side.result.stride),
      elim c.if-is_failed.branch [
        | then-is_failed w ↦ count-next _ _ _ _ true c.loop-port.invariant.1 (sym w.if-is_failed.true ∙ looked) (omega arith)
        | else-is_failed w ↦ count-next _ _ _ _ false c.loop-port.invariant.1 (sym w.if-is_failed.false ∙ looked) (omega arith)
      ],
    )

pub returns : goal.returns
returns c =
    c.loop-port.invariant.1 ∙ found-all c.requires c.side_at-side.ensures c.args.table.now c.loop-port._port (omega arith)
