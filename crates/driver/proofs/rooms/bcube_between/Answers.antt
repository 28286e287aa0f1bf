-- `driver::rooms::bcube_between`: neighbours, at a level counted from 1; not neighbours; refused.
use Rattle.std.proofs.Common.{arith}
use mathlib.Core.Path.{refl}
use Rattle.room.specs.Answers.{between_answer}
use Rattle.driver.proofs.RoomSmall.{between-level, between_said, apart_said}
use Rattle.driver.proofs.rooms.bcube_between.Goals as goal

pub overflow_add-level : goal.overflow_add-level
overflow_add-level c = let h = between-level _ _ _ (rw c.in-Ok-Some.field-0-is at c.in-Ok-Some.ensures) in omega (arith, h)

pub value_word-requires : goal.value_word-requires
value_word-requires c = let h = between-level _ _ _ (rw c.in-Ok-Some.field-0-is at c.in-Ok-Some.ensures) in omega (arith, h)

pub returns-in-Ok-Some : goal.returns-in-Ok-Some
returns-in-Ok-Some c = between_said (λ s. between_answer s c.args.one c.args.other) c.value_word.ensures refl (rw c.in-Ok-Some.field-0-is at c.in-Ok-Some.ensures) c.shape_in.ensures

pub returns-in-Ok-None : goal.returns-in-Ok-None
returns-in-Ok-None c = apart_said (λ s. between_answer s c.args.one c.args.other) c.value_word-in-Ok-None.ensures refl (rw c.in-Ok-None.field-0-is at c.in-Ok-None.ensures) c.shape_in.ensures

pub returns-in-Err : goal.returns-in-Err
returns-in-Err c = apart_said (λ s. between_answer s c.args.one c.args.other) c.reason_word.ensures refl c.in-Err.ensures c.shape_in.ensures
