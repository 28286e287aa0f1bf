-- `room::Shape` as `{}` writes it: two numbers of a full room, three of any other.
use Rattle.std.proofs.Common.{◌++◌}
use borrow.Author.Tests.{eq-eqb, ne_eqb}
use Rattle.std.proofs.Output.{has_written_of_eq}
use Rattle.std.specs.Fmt.{HasWritten, decimal}
use Rattle.std.specs.Prelude.{codes}
use Rattle.room.specs.ShapeText.{comma_text, shape_text}
use Rattle.room.proofs.ShapeDisplay.fmt.Goals as goal

pub returns-then-self-clause-writes : goal.returns-then-self-clause-writes
unfolding shape_text
returns-then-self-clause-writes g c plain ok =
    let s = c.args.self.now in
    let wrote : HasWritten g.W.Write.write_str_gives c.args.f.now (codes "(" ++ (decimal s.n ++ (comma_text s.k ++ codes ")"))) c.write.new.self =
    c.write.ensures.writes plain ok in
    has_written_of_eq _ _ _ _ _ (simp (eq-eqb s.m s.n c.if-self.true)) wrote

pub returns-else-self-clause-writes : goal.returns-else-self-clause-writes
unfolding shape_text
returns-else-self-clause-writes g c plain ok =
    let s = c.args.self.now in
    let wrote : HasWritten g.W.Write.write_str_gives c.args.f.now (codes "(" ++ (decimal s.n ++ (comma_text s.k ++ (comma_text s.m ++ codes ")")))) c.write-else-self.new.self =
    c.write-else-self.ensures.writes plain ok in
    has_written_of_eq _ _ _ _ _ (simp (ne_eqb s.m s.n c.if-self.false)) wrote
