-- `driver::marks::bcube_failed_link`: failed; live; refused.
use mathlib.Core.Path.{refl}
use Rattle.links.specs.Answers.{failed_answer}
use Rattle.driver.proofs.RoomSmall.{failed_said, live_said}
use Rattle.driver.proofs.marks.bcube_failed_link.Goals as goal

pub returns-in-Ok-true : goal.returns-in-Ok-true
returns-in-Ok-true c = failed_said (λ s. failed_answer s c.args.table.now c.args.server c.args.level) c.value_word.ensures c.in-Ok-true.field-0-test c.in-Ok-true.ensures c.shape_in.ensures

pub returns-in-Ok-false : goal.returns-in-Ok-false
returns-in-Ok-false c = live_said (λ s. failed_answer s c.args.table.now c.args.server c.args.level) c.value_word-in-Ok-false.ensures c.in-Ok-false.field-0-test c.in-Ok-false.ensures c.shape_in.ensures

pub returns-in-Err : goal.returns-in-Err
returns-in-Err c = live_said (λ s. failed_answer s c.args.table.now c.args.server c.args.level) c.reason_word.ensures refl c.in-Err.ensures c.shape_in.ensures
