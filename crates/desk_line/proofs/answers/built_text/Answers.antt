-- `desk_line::answers::built_text`: the routes' lines, or a refusal.
use Rattle.std.proofs.Common.{refl, ap, ◌∙◌}
use Rattle.refusals.proofs.ReasonLaws.{reason-some}
use Rattle.desk_line.specs.Texts.{refused_line}
use Rattle.desk_line.proofs.AnswerLaws.{built_ends, built-routes, text-refused, text-built}
use Rattle.desk_line.proofs.answers.built_text.Goals as goal

pub routes_text-requires-clause-taken : goal.routes_text-requires-clause-taken
routes_text-requires-clause-taken c = built_ends _ _ _ _ c.in-Ok.ensures refl

pub routes_text-requires-clause-built : goal.routes_text-requires-clause-built
routes_text-requires-clause-built c = built-routes _ _ _ _ c.in-Ok.ensures refl

pub returns-in-Ok : goal.returns-in-Ok
returns-in-Ok c = c.routes_text.ensures ∙ text-built _ _ _ _ c.in-Ok.ensures refl

pub returns-in-Err : goal.returns-in-Err
returns-in-Err c =
    c.refused.ensures
    ∙ ap refused_line c.number.ensures
    ∙ text-refused _ _ _ _ c.in-Err.ensures (reason-some _)
