-- `desk_line::numbers::number_of`: each byte is a digit more, or ends the reading.
use Rattle.std.proofs.Common.{◌≡◌, ◌≢◌, arith, rules, length}
use Rattle.desk_line.proofs.NumberLaws.{word_empty, word_some, read_other, read-large, read_more, read-end}
use Rattle.desk_line.proofs.numbers.number_of.Goals as goal

pub returns-then-is_empty : goal.returns-then-is_empty
returns-then-is_empty c = let e : length c.args.word.now ≡ 0 = search rules in word_empty _ e

pub loop-byte-init : goal.loop-byte-init
loop-byte-init c =
    let n : length c.args.word.now ≢ 0 = search rules in record { small = omega arith; same = word_some _ n }

pub returns-then-not-is_ascii_digit : goal.returns-then-not-is_ascii_digit
returns-then-not-is_ascii_digit c =
    read_other _ _ _ c.loop-byte.invariant.same c.loop-byte-test.true c.if-not-is_ascii_digit.ensures.cases

pub returns-then-value-gt-MOST_NUMBER : goal.returns-then-value-gt-MOST_NUMBER
returns-then-value-gt-MOST_NUMBER c = read-large _ _ _ c.loop-byte.invariant.same c.loop-byte-test.true (omega arith)

pub loop-byte-preserved : goal.loop-byte-preserved
loop-byte-preserved c =
    let d = c.if-not-is_ascii_digit.ensures.cases in
    record {
      small = omega arith;
      same = rw c.from.ensures (read_more _ _ _ c.loop-byte.invariant.same c.loop-byte-test.true (omega (arith, d)) (omega (arith, d)));
    }

pub returns : goal.returns
returns c = read-end _ _ _ c.loop-byte.invariant.same c.loop-byte-test.false c.loop-byte.invariant.small
