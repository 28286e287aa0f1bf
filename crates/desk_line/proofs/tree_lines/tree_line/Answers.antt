-- `desk_line::tree_lines::tree_line`: "input", a refusal, or a server's line.
use Rattle.std.proofs.Common.{ℕ, List, ◌∷◌, [], ◌∙◌, refl, ap, get_or}
use Rattle.refusals.proofs.ReasonLaws.{reason-some}
use Rattle.desk_line.specs.Texts.{refused_line}
use Rattle.desk_line.proofs.TreeLineLaws.{line_input, line_refused, tree-link, place-server, line-server, line-past}
use Rattle.desk_line.proofs.tree_lines.tree_line.Goals as goal

pub returns-in_default : goal.returns-in_default
returns-in_default c =
    rw c.in_default.is
    (c.only_line.ensures
    ∙ ap (λ (l : List ℕ). get_or (l ∷ []) c.args.place []) c.input.ensures
    ∙ line_input c.args.place)

pub returns-in-Err : goal.returns-in-Err
returns-in-Err c =
    rw c.in-Some.is
    (c.only_line-in-Err.ensures
    ∙ ap (λ (l : List ℕ). get_or (l ∷ []) c.args.place []) (c.refused.ensures ∙ ap refused_line c.number.ensures)
    ∙ line_refused c.in-Some.asked _ _ c.new-shape.ensures _ c.in-Err.ensures (reason-some _))

pub server_line-requires-clause-link : goal.server_line-requires-clause-link
server_line-requires-clause-link c =
    tree-link c.in-Some.asked c.args.place _ c.new-shape.ensures _ c.in_default-link_refusal.ensures refl

pub server_line-requires-clause-there : goal.server_line-requires-clause-there
server_line-requires-clause-there c =
    place-server c.in-Some.asked _ _ c.new-shape.ensures _ c.in_default-link_refusal.ensures refl _ c.server_count.ensures c.if-place-server_count.true

pub returns-then-place-server_count : goal.returns-then-place-server_count
returns-then-place-server_count c =
    rw c.in-Some.is
    (c.server_line.ensures
    ∙ line-server c.in-Some.asked _ _ c.new-shape.ensures _ c.in_default-link_refusal.ensures refl _ c.server_count.ensures c.if-place-server_count.true)

pub returns : goal.returns
returns c =
    rw c.in-Some.is
    (c.new.ensures
    ∙ line-past c.in-Some.asked _ _ c.new-shape.ensures _ c.in_default-link_refusal.ensures refl _ c.server_count.ensures c.if-place-server_count.false)
