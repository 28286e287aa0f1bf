-- `links::tables::bits_fit`: none so far fits; the greater of two fits where both do; at the end no bytes are to come.
use Rattle.std.proofs.Common.{◌∙◌}
use Rattle.links.proofs.LinkLaws.{fits_start, fits_next, fits_end}
use Rattle.links.proofs.tables.bits_fit.Goals as goal

pub loop-byte-init : goal.loop-byte-init
loop-byte-init c = fits_start _ _

pub loop-byte-preserved : goal.loop-byte-preserved
loop-byte-preserved c = rw c.max-most.ensures (fits_next _ _ _ _ c.loop-byte-test.true ∙ c.loop-byte.invariant)

pub returns : goal.returns
returns c = fits_end _ _ _ _ c.requires c.loop-byte-test.false c.loop-byte.invariant
