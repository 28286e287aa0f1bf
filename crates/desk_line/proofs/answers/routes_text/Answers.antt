-- `desk_line::answers::routes_text`: a line for each route of the set.
use Rattle.std.proofs.Common.{arith}
use Rattle.desk_line.proofs.AnswerLaws.{levels-few, print_start, print_room, print_next, print_end}
use Rattle.desk_line.proofs.answers.routes_text.Goals as goal

pub overflow_add-place-end : goal.overflow_add-place-end
overflow_add-place-end c = omega (arith, levels-few _ _ _ c.requires.taken)

pub loop-place-init : goal.loop-place-init
loop-place-init c = rw c.new-text.ensures (print_start _ _ _)

pub push_place-requires-clause-room : goal.push_place-requires-clause-room
push_place-requires-clause-room c = print_room c.requires.taken c.loop-place.invariant (omega arith)

pub loop-place-preserved : goal.loop-place-preserved
loop-place-preserved c = rw c.push_place.ensures (print_next c.requires.taken c.loop-place.invariant (omega arith))

pub returns : goal.returns
returns c = print_end c.requires.taken c.loop-place.invariant (omega arith)
