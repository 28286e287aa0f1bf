-- `desk_line::lines::line_of`: how many bytes stand before the newline tells how long the line is.
use Rattle.std.proofs.Common.{arith, ap, sym, ◌∙◌, length}
use Rattle.desk_line.specs.Lines.{newline}
use Rattle.desk_line.proofs.LineLaws.{before_le, line-long, part_before, found-end}
use Rattle.desk_line.proofs.lines.line_of.Goals as goal

pub overflow_add-end : goal.overflow_add-end
overflow_add-end c =
    let f = found-end newline c.args.input.now c.place_of.ensures c.unwrap_or-end.ensures in
    omega (arith, before_le newline c.args.input.now)

pub slice_bounds-result-end : goal.slice_bounds-result-end
slice_bounds-result-end c =
    let f = found-end newline c.args.input.now c.place_of.ensures c.unwrap_or-end.ensures in
    f ∙ sym (ap length (part_before newline _ _ f))

pub returns-then-min-gt-MOST_LINE : goal.returns-then-min-gt-MOST_LINE
returns-then-min-gt-MOST_LINE c =
    let e = line-long _ _ (found-end newline c.args.input.now c.place_of.ensures c.unwrap_or-end.ensures) in omega arith

pub returns : goal.returns
returns c =
    let f = found-end newline c.args.input.now c.place_of.ensures c.unwrap_or-end.ensures in
    let e = line-long _ _ f in
    (omega arith, part_before newline _ _ f)
