-- `pick::usable::Ends::is_usable`: checking takes an array as a list of one exactly when its walk meets no refusal.
use Rattle.std.proofs.Common.{◌∙◌}
use Rattle.pick.proofs.UsableLaws.{walk-usable}
use Rattle.pick.proofs.usable.Ends.is_usable.Goals as goal

pub returns : goal.returns
returns c = c.is_ok.ensures.value ∙ walk-usable _ _ _ _ _ c.args.self.now.room c.told-array _ c.walk.ensures
