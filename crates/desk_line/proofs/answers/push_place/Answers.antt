-- `desk_line::answers::push_place`: the route's eight bytes lie in the set, and reading them finds its hops.
use Rattle.std.proofs.Common.{◌≡◌, ◌++◌, List, ℕ, ◌∙◌, ap, length, arith, rules}
use Rattle.desk_line.proofs.AnswerLaws.{levels-few, set_long, read_some, read-few, read-line}
use Rattle.desk_line.proofs.answers.push_place.Goals as goal

pub overflow_mul-start : goal.overflow_mul-start
overflow_mul-start c = omega (arith, levels-few _ _ _ c.requires.taken, c.requires.within)

pub overflow_add-end : goal.overflow_add-end
overflow_add-end c = omega (arith, levels-few _ _ _ c.requires.taken, c.requires.within)

pub slice_bounds-route-end : goal.slice_bounds-route-end
slice_bounds-route-end c =
    let h = levels-few _ _ _ c.requires.taken in
    let l : length c.args.routes.bytes ≡ 32 = set_long _ _ _ _ c.requires.taken c.requires.built in
    search rules

pub unreachable-requires : goal.unreachable-requires
unreachable-requires c = let h = read_some _ _ _ _ _ c.requires.taken c.requires.built c.requires.within _ c.in_default.ensures in omega (arith, h)

pub overflow_sub-reading : goal.overflow_sub-reading
overflow_sub-reading c = read_some _ _ _ _ _ c.requires.taken c.requires.built c.requires.within _ c.in-Ok.ensures

pub push_route-requires-clause-few : goal.push_route-requires-clause-few
push_route-requires-clause-few c = read-few _ _ _ _ _ c.requires.taken c.requires.built c.requires.within _ c.in-Ok.ensures

pub returns : goal.returns
returns c =
    c.push_route.ensures
    ∙ ap (λ (l : List ℕ). c.args.text.now ++ l) (read-line _ _ _ _ _ c.requires.taken c.requires.built c.requires.within _ c.in-Ok.ensures)
