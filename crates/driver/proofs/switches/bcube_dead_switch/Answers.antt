-- `driver::switches::bcube_dead_switch`: one is found; none is; refused.
use mathlib.Core.Path.{refl}
use Rattle.summary.specs.Answers.{dead_answer}
use Rattle.driver.proofs.SummarySmall.{level-fits, found-fits, number_fits, dead-fits, dead_said, none_said}
use Rattle.driver.proofs.switches.bcube_dead_switch.Goals as goal

pub overflow_mul-switch : goal.overflow_mul-switch
overflow_mul-switch c = level-fits _ _ _ (rw c.in-Ok-Some.field-0-is at c.in-Ok-Some.ensures)

pub overflow_add-switch : goal.overflow_add-switch
overflow_add-switch c = found-fits _ _ _ (rw c.in-Ok-Some.field-0-is at c.in-Ok-Some.ensures)

pub overflow_add-switch-in-Ok-Some : goal.overflow_add-switch-in-Ok-Some
overflow_add-switch-in-Ok-Some c = number_fits _ _ _ (rw c.in-Ok-Some.field-0-is at c.in-Ok-Some.ensures)

pub value_word-requires : goal.value_word-requires
value_word-requires c = (dead-fits _ _ _ (rw c.in-Ok-Some.field-0-is at c.in-Ok-Some.ensures)).value

pub returns-in-Ok-Some : goal.returns-in-Ok-Some
returns-in-Ok-Some c = dead_said (λ s. dead_answer s c.args.table.now c.args.summary.now) c.value_word.ensures refl (rw c.in-Ok-Some.field-0-is at c.in-Ok-Some.ensures) c.shape_in.ensures

pub returns-in-Ok-None : goal.returns-in-Ok-None
returns-in-Ok-None c = none_said (λ s. dead_answer s c.args.table.now c.args.summary.now) c.value_word-in-Ok-None.ensures refl (rw c.in-Ok-None.field-0-is at c.in-Ok-None.ensures) c.shape_in.ensures

pub returns-in-Err : goal.returns-in-Err
returns-in-Err c = none_said (λ s. dead_answer s c.args.table.now c.args.summary.now) c.reason_word.ensures refl c.in-Err.ensures c.shape_in.ensures
