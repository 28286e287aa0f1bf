-- `desk_line::texts::Text::refused`: the word, the number and the newline.
use Rattle.std.proofs.Common.{◌≡◌, ◌++◌, List, ℕ, ◌∙◌, ap, length, length-append, arith}
use Rattle.desk_line.specs.Texts.{decimal, refused_line}
use Rattle.desk_line.proofs.TextLaws.{decimal-two, refused_word}
use Rattle.desk_line.proofs.texts.Text.refused.Goals as goal

pub push_decimal-requires : goal.push_decimal-requires
push_decimal-requires c =
    let e : c.push_word.new.self ≡ refused_word = c.push_word.ensures ∙ ap (λ (l : List ℕ). l ++ refused_word) c.new-text.ensures in
    omega (arith, ap length e, decimal-two c.args.number c.requires)

pub push-requires : goal.push-requires
push-requires c =
    let e : c.push_word.new.self ≡ refused_word = c.push_word.ensures ∙ ap (λ (l : List ℕ). l ++ refused_word) c.new-text.ensures in
    omega (arith, ap length e, ap length c.push_decimal.ensures, length-append c.push_word.new.self (decimal c.args.number), decimal-two c.args.number c.requires)

pub returns : goal.returns
unfolding refused_line
returns c =
    let e : c.push_word.new.self ≡ refused_word = c.push_word.ensures ∙ ap (λ (l : List ℕ). l ++ refused_word) c.new-text.ensures in
    rw (c.push.ensures, c.push_decimal.ensures, e)
