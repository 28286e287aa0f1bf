-- `driver::steps::bcube_step`: delivered; on; refused.
use mathlib.Core.Path.{refl}
use Rattle.refusals.proofs.ReasonLaws.{reason-some}
use Rattle.driver.proofs.PackLaws.{pack_refused, pack_here, pack_goes, refused-pack}
use Rattle.driver.proofs.steps.bcube_step.Goals as goal

pub returns-in-Ok-Delivered : goal.returns-in-Ok-Delivered
returns-in-Ok-Delivered c = pack_here _ _ _ _ _ _ _ (rw c.in-Ok-Delivered.field-0-is at c.in-Ok-Delivered.ensures) _ c.shape_in.ensures refl

pub returns-in-Ok-Onward : goal.returns-in-Ok-Onward
returns-in-Ok-Onward c = pack_goes _ _ _ _ _ _ _ (rw c.in-Ok-Onward.field-0-is at c.in-Ok-Onward.ensures) _ c.shape_in.ensures _ _ refl refl c.wide.ensures.0 c.mac_number.ensures

pub returns-in-Err : goal.returns-in-Err
returns-in-Err c = refused-pack _ c.number.ensures (pack_refused _ _ _ _ _ _ _ c.in-Err.ensures _ c.shape_in.ensures (reason-some _))
