-- `desk_line::tree_lines::push_server`: the number, a space and the digits.
use Rattle.std.proofs.Common.{ℕ, List, ◌++◌, [], ◌∷◌, ap, length, length-append, append_assoc, reverse, arith}
use Rattle.refusals.proofs.ReasonLaws.{reason-some}
use Rattle.room.specs.Told.{Digits}
use Rattle.room.proofs.AnswerLaws.{digits-answered}
use Rattle.desk_line.specs.Lines.{space}
use Rattle.desk_line.specs.Texts.{decimal}
use Rattle.desk_line.specs.TreeLines.{pointed}
use Rattle.desk_line.proofs.TreeLineLaws.{own-digits, own_words, words_long}
use Rattle.desk_line.proofs.tree_lines.push_server.Goals as goal

pub unreachable-requires : goal.unreachable-requires
unreachable-requires c =
    reason-some _ (ap (λ (x : Digits). x.refusal.number) (digits-answered c.requires.there _ c.in_default.ensures))

pub push_decimal-requires : goal.push_decimal-requires
push_decimal-requires c = omega (arith, c.requires.room, words_long c.args.shape c.args.server)

pub push-requires : goal.push-requires
push-requires c =
    omega (arith, c.requires.room, words_long c.args.shape c.args.server, ap length c.push_decimal.ensures, length-append c.args.text.now (decimal c.args.server))

pub push_digits-requires : goal.push_digits-requires
push_digits-requires c =
    omega (arith, c.requires.room, words_long c.args.shape c.args.server, ap length c.push_decimal.ensures, length-append c.args.text.now (decimal c.args.server), ap length c.push.ensures, length-append c.push_decimal.new.self (space ∷ []), ap (λ (l : List ℕ). length (pointed (reverse l))) (own-digits c.requires.there c.in-Ok.ensures))

pub returns : goal.returns
returns c =
    rw (c.push_digits.ensures, c.push.ensures, c.push_decimal.ensures)
    (simp append_assoc (ap (λ (l : List ℕ). c.args.text.now ++ l) (own_words c.requires.there c.in-Ok.ensures)))
