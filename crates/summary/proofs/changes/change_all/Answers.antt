use Rattle.std.proofs.Common.{◌+◌, ◌<◌, arith}
use Rattle.summary.proofs.ChangeLaws.{Changing, changing_start, changing_counted, changing_next, all_changed, all-recounted}
use Rattle.summary.proofs.changes.change_all.Goals as goal

pub loop-level-init : goal.loop-level-init
loop-level-init c = search changing_start

pub change-requires : goal.change-requires
change-requires c = search changing_counted

pub loop-level-preserved : goal.loop-level-preserved
loop-level-preserved c = search changing_next

pub returns-2 : goal.returns-2
returns-2 c =
    let all : Changing c.args.failed c.args.shape c.args.server c.args.table.now c.args.summary.now (c.loop-level.level + 1) c.change.new.table c.change.new.summary = search changing_next in
    let last : c.args.shape.k < c.loop-level.level + 1 = omega arith in
    (search all_changed, search all-recounted)
