-- `trees::whole::raise_digits`: the places passed are carried, and the rest is left to carry.
use Rattle.std.proofs.Common.{◌≡◌, ◌++◌, length, take, drop}
use Rattle.room.specs.Digits.{Below}
use Rattle.trees.specs.Inside.{next_digits}
use Rattle.trees.proofs.whole.raise_digits.Given as goal

abbrev pub invariant-loop-digit : goal.invariant-loop-digit
invariant-loop-digit l = record {
  long : length l.digits ≡ 4;
  below : Below l.n l.digits;
  carried : take l.digit-index l.digits ++ next_digits l.n (drop l.digit-index l.digits) ≡ next_digits l.n l.fn.digits;
}
