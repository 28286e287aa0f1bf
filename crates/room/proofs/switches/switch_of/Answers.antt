-- `room::switches::switch_of`: a refused link, and the switch of one that is not: four digits below n, the level's struck out.
use Rattle.std.proofs.Common.{rules, ℕ, arith, sym, ap, ◌∙◌}
use mathlib.Core.List.{List, [], ◌∷◌, ◌++◌}
use Rattle.refusals.proofs.ReasonLaws.{tells-passed, tells-given}
use Rattle.room.specs.Digits.{address_of, strike}
use Rattle.room.specs.Answers.{no_switch, the_switch, switch_answer}
use Rattle.room.proofs.RefusalLaws.{link_of, server-none}
use Rattle.room.proofs.RoomLaws.{strike-four, strike-four-below}
use Rattle.room.proofs.switches.switch_of.Goals as goal

pub returns-in_err-link_refusal : goal.returns-in_err-link_refusal
unfolding switch_answer
returns-in_err-link_refusal c = search (rules, tells-passed no_switch the_switch)

pub digit_places-places-requires : goal.digit_places-places-requires
digit_places-places-requires c = let h = link_of _ _ _ (sym c.in_ok-link_refusal.ensures) in sym (server-none h.server)

pub struck-requires : goal.struck-requires
struck-requires c = let h = link_of _ _ _ (sym c.in_ok-link_refusal.ensures) in omega arith

pub number_of-requires : goal.number_of-requires
number_of-requires c =
    let h = link_of _ _ _ (sym c.in_ok-link_refusal.ensures) in
    let e = c.struck.ensures ∙ ap (λ (x : List ℕ). strike c.args.level x ++ (0 ∷ [])) c.digit_places-places.ensures in
    (omega arith, rw e (strike-four-below h))

pub returns : goal.returns
unfolding switch_answer
returns c =
    let r = c.in_ok-link_refusal.ensures in
    let e = c.struck.ensures ∙ ap (λ (x : List ℕ). strike c.args.level x ++ (0 ∷ [])) c.digit_places-places.ensures in
    let w = c.number_of.ensures ∙ ap (address_of c.args.shape.n) e ∙ strike-four (link_of _ _ _ (sym r)) in
    tells-given no_switch the_switch _ _ _ r (ap (λ (v : ℕ). record { level = c.args.level; number = v }) w)
