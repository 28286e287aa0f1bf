-- `pick::lengths::lists_refusal`: 1, 2, 26, 3 to 6; then both lists fit, or one does not: 7.
use Rattle.refusals.proofs.ReasonLaws.{told-passed}
use Rattle.refusals.proofs.ChainLaws.{chain_on, first-failed, second-failed, both_passed}
use Rattle.verdict.proofs.LengthLaws.{room-levels}
use Rattle.pick.specs.Picks.{lists_refusal}
use Rattle.pick.proofs.lengths.lists_refusal.Goals.{else-are_arrays-via-then-are_arrays+else-are_arrays-2, else-are_arrays-via-else-are_arrays}
use Rattle.pick.proofs.lengths.lists_refusal.Goals as goal

pub returns-in_err-room_refusal : goal.returns-in_err-room_refusal
unfolding lists_refusal
returns-in_err-room_refusal c = told-passed _ _ c.from_residual.ensures.1 _ _ c.in_err-room_refusal.ensures

pub are_arrays-requires : goal.are_arrays-requires
are_arrays-requires c = room-levels _ _ _ _ c.in_ok-room_refusal.ensures

pub are_arrays-requires-then-are_arrays : goal.are_arrays-requires-then-are_arrays
are_arrays-requires-then-are_arrays c = room-levels _ _ _ _ c.in_ok-room_refusal.ensures

pub returns-then-are_arrays-2 : goal.returns-then-are_arrays-2
unfolding lists_refusal
returns-then-are_arrays-2 c = chain_on _ _ _ c.in_ok-room_refusal.ensures (both_passed 7 _ _ _ c.are_arrays.ensures c.if-are_arrays.true _ c.are_arrays-then-are_arrays.ensures c.if-are_arrays-2.true)

pub returns : goal.returns
unfolding lists_refusal
returns c =
    chain_on _ _ _ c.in_ok-room_refusal.ensures
    (elim c.else-are_arrays.branch [
      | else-are_arrays-via-then-are_arrays+else-are_arrays-2 w ↦ second-failed 7 _ _ _ c.are_arrays.ensures w.if-are_arrays.true _ w.are_arrays-then-are_arrays.ensures w.if-are_arrays-2.false
      | else-are_arrays-via-else-are_arrays w ↦ first-failed 7 _ _ _ c.are_arrays.ensures w.if-are_arrays.false
    ])
