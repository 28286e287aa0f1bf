-- `trees::whole::number_at`: no number at the source; elsewhere the parent, which fits.
use Rattle.std.proofs.Common.{arith}
use Rattle.trees.proofs.WholeLaws.{number_source, number-parent, number-link, number_fits}
use Rattle.trees.proofs.whole.number_at.Goals as goal

pub returns-then-source-server : goal.returns-then-source-server
returns-then-source-server c = search number_source

pub parent_by-requires : goal.parent_by-requires
parent_by-requires c = let h = c.requires in let w = number-link _ _ _ _ _ _ h.0 in (w.0, w.1, h.1)

pub overflow_cast-result : goal.overflow_cast-result
overflow_cast-result c = let w = number_fits _ _ _ _ _ _ c.requires.0 _ c.parent_by.ensures in omega arith

pub returns : goal.returns
returns c = number-parent _ _ _ _ c.if-source-server.false _ _ c.requires.0 _ c.parent_by.ensures
