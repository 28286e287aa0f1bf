-- `room::wiring::switches_of`: a refused level, and the switches of one that is not: some servers are at each.
use Rattle.std.proofs.Common.{rules, sym}
use Rattle.refusals.proofs.ReasonLaws.{tells-passed, tells-given}
use Rattle.room.specs.Answers.{no_number, a_number}
use Rattle.room.specs.Wiring.{switches_answer}
use Rattle.room.proofs.RefusalLaws.{level-of, valid-none}
use Rattle.room.proofs.WiringLaws.{switches-some, switches-made}
use Rattle.room.proofs.wiring.switches_of.Goals as goal

pub returns-in_err-level_refusal : goal.returns-in_err-level_refusal
unfolding switches_answer
returns-in_err-level_refusal c = search (rules, tells-passed no_number a_number)

pub nonzero_div-result : goal.nonzero_div-result
nonzero_div-result c =
    let z = sym (valid-none (level-of _ _ (sym c.in_ok-level_refusal.ensures)).0) in search (rules, switches-some, z)

pub returns : goal.returns
unfolding switches_answer
returns c =
    let z = sym (valid-none (level-of _ _ (sym c.in_ok-level_refusal.ensures)).0) in
    search (rules, tells-given no_number a_number, switches-made, z)
