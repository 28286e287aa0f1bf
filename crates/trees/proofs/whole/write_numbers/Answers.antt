-- `trees::whole::write_numbers`: each number is that of its server, whose digits are carried on; at the end all are written.
use Rattle.std.proofs.Common.{arith}
use Rattle.trees.proofs.WholeLaws.{writing_start, writing-asked, writing-below, writing-inside, writing_on, writing-all}
use Rattle.trees.proofs.whole.write_numbers.Goals as goal

pub loop-server-init : goal.loop-server-init
loop-server-init c = writing_start _ _ _ c.requires.0 _ c.requires.2

pub number_at-requires : goal.number_at-requires
number_at-requires c =
    (writing-asked _ _ _ c.requires.0 _ c.server_count-count.ensures _ _ _ c.loop-server.invariant c.loop-server-test.true _ c.requires.1, c.strides_of-strides.ensures)

pub offset_bounds-numbers-server : goal.offset_bounds-numbers-server
offset_bounds-numbers-server c =
    omega (arith, writing-inside _ _ _ c.requires.0 _ c.server_count-count.ensures _ _ _ c.loop-server.invariant c.loop-server-test.true)

pub bounds-numbers-server : goal.bounds-numbers-server
bounds-numbers-server c = writing-inside _ _ _ c.requires.0 _ c.server_count-count.ensures _ _ _ c.loop-server.invariant c.loop-server-test.true

pub raise_digits-requires : goal.raise_digits-requires
raise_digits-requires c = writing-below _ _ _ c.requires.0 _ c.server_count-count.ensures _ _ _ c.loop-server.invariant

pub loop-server-preserved : goal.loop-server-preserved
loop-server-preserved c =
    writing_on _ _ _ c.requires.0 _ c.server_count-count.ensures _ _ _ c.loop-server.invariant c.loop-server-test.true _ c.number_at.ensures _ c.raise_digits.ensures

pub returns : goal.returns
returns c = writing-all _ _ _ c.requires.0 _ c.server_count-count.ensures _ _ _ c.loop-server.invariant c.loop-server-test.false
