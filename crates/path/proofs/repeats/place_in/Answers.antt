use Rattle.std.proofs.Common.{rules, ◌≡◌, ◌≢◌, ℕ, ◌<◌, ◌∙◌, length, get_or, MatchOption}
use Rattle.path.proofs.RepeatLaws.{place-of}
use Rattle.path.proofs.repeats.place_in.Goals as goal

pub returns : goal.returns
returns c =
    let x = c.args.x in
    let xs = c.args.list.now in
    let first : MatchOption c.position.result ((j : ℕ) → j < length xs → get_or xs j 0 ≢ x) (λ i. (i < length xs) × (get_or xs i 0 ≡ x) × ((j : ℕ) → j < i → get_or xs j 0 ≢ x)) = search rules in
    c.unwrap_or.ensures ∙ place-of x xs c.position.result first
