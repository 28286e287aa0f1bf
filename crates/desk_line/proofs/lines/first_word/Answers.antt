-- `desk_line::lines::first_word`: the space's place is how long the word before it is.
use Rattle.std.proofs.Common.{arith}
use Rattle.desk_line.specs.Lines.{space}
use Rattle.desk_line.proofs.LineLaws.{found_none, found_within, found-long, before_all, part_before, part-after}
use Rattle.desk_line.proofs.lines.first_word.Goals as goal

pub returns-in-None-clause-word : goal.returns-in-None-clause-word
returns-in-None-clause-word c = before_all space _ (found_none space _ c.place_of.ensures c.in-None.is)

pub returns-in-None-clause-rest : goal.returns-in-None-clause-rest
returns-in-None-clause-rest c = omega (arith, found_none space c.args.line.now c.place_of.ensures c.in-None.is)

pub returns-in-Some-clause-word : goal.returns-in-Some-clause-word
returns-in-Some-clause-word c = part_before space _ _ (found-long space _ c.place_of.ensures _ c.in-Some.is)

pub returns-in-Some-clause-rest : goal.returns-in-Some-clause-rest
returns-in-Some-clause-rest c =
    let e = found-long space _ c.place_of.ensures _ c.in-Some.is in
    let h = found_within space _ c.place_of.ensures _ c.in-Some.is in
    (omega arith, part-after space _ _ e h)
