-- `pick::usable::Ends::first_usable`: the list's bytes in eights are its arrays.
use Rattle.std.proofs.Common.{ap, ◌∙◌, position}
use Rattle.verdict.proofs.ListWalk.{chunks_are}
use Rattle.pick.specs.Picks.{usable}
use Rattle.pick.proofs.usable.Ends.first_usable.Goals as goal

pub returns : goal.returns
returns c =
    c.first_place.ensures
    ∙ ap (position (usable c.args.self.now.shape c.args.self.now.table.now c.args.self.now.source c.args.self.now.destination)) (c.as_chunks.ensures.front ∙ chunks_are _ _)
