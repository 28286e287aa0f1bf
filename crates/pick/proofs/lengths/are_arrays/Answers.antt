-- `pick::lengths::are_arrays`: no whole arrays, or at most k + 1 of them, or more.
use Rattle.pick.proofs.LengthLaws.{fits_not, fits_by}
use Rattle.pick.proofs.lengths.are_arrays.Goals as goal

pub returns-then-bytes-eq0 : goal.returns-then-bytes-eq0
returns-then-bytes-eq0 c = fits_by _ _ c.if-bytes-eq0.true

pub returns-else-bytes-eq0 : goal.returns-else-bytes-eq0
returns-else-bytes-eq0 c = fits_not _ _ c.if-bytes-eq0.false
