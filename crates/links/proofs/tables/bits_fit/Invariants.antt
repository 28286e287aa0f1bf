-- `links::tables::bits_fit`: where the greatest so far fits and so do the bytes to come, all do.
use Rattle.std.proofs.Common.{◌≡◌, ◌&&◌, drop}
use Rattle.links.specs.Table.{fits_levels, bits_fit}
use Rattle.links.proofs.tables.bits_fit.Given as goal

abbrev pub invariant-loop-byte : goal.invariant-loop-byte
invariant-loop-byte l = (fits_levels l.k l.most && bits_fit l.k (drop l.byte-index l.table)) ≡ bits_fit l.k l.table
