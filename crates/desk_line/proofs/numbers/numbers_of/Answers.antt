-- `desk_line::numbers::numbers_of`: a word at each place, and none behind the last.
use Rattle.desk_line.proofs.NumberLaws.{words_start, words_short, words_stop, words_next, words_whole, words_long}
use Rattle.desk_line.proofs.numbers.numbers_of.Goals as goal

pub loop-value-init : goal.loop-value-init
loop-value-init g c = words_start c.args.line g.row.N c.requires.some

pub returns-in_err-rest : goal.returns-in_err-rest
returns-in_err-rest g c = rw c.from_residual.ensures (words_short c.loop-value.invariant c.loop-value-test.true c.in_err-rest.was)

pub returns-in_err-value : goal.returns-in_err-value
returns-in_err-value g c =
    rw c.from_residual-in_err-value.ensures
    (words_stop c.loop-value.invariant c.loop-value-test.true _ _ c.in_ok-rest.was _ c.first_word.ensures.word c.first_word.ensures.rest c.in_err-value.ensures)

pub loop-value-preserved : goal.loop-value-preserved
loop-value-preserved g c =
    words_next c.loop-value.invariant c.loop-value-test.true _ _ c.in_ok-rest.was _ c.first_word.ensures.word c.first_word.ensures.rest _ c.in_ok-value.ensures

pub returns-in-None : goal.returns-in-None
returns-in-None g c = words_whole c.loop-value.invariant c.loop-value-test.false c.in-None.is

pub returns-in-Some : goal.returns-in-Some
returns-in-Some g c = words_long c.loop-value.invariant c.loop-value-test.false _ c.in-Some.is
