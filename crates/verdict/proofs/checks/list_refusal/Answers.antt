-- `verdict::checks::list_refusal`: 1, 2, 26, 3 to 6; then the length: no whole arrays, none at all, more than the shape allows, or 1 to k + 1 of them.
use Rattle.std.proofs.Common.{arith}
use Rattle.refusals.proofs.ReasonLaws.{told-passed}
use Rattle.refusals.proofs.ChainLaws.{chain_on}
use Rattle.verdict.specs.Checks.{list_refusal}
use Rattle.verdict.proofs.LengthLaws.{room-levels, length_odd, length_none, length_over, length-fits}
use Rattle.verdict.proofs.checks.list_refusal.Goals as goal

pub returns-in_err-room_refusal : goal.returns-in_err-room_refusal
unfolding list_refusal
returns-in_err-room_refusal c = told-passed _ _ c.from_residual.ensures.1 _ _ c.in_err-room_refusal.ensures

pub returns-then-bytes-ne0 : goal.returns-then-bytes-ne0
unfolding list_refusal
returns-then-bytes-ne0 c = chain_on _ _ _ c.in_ok-room_refusal.ensures (length_odd _ _ c.if-bytes-ne0.true)

pub returns-then-bytes-lt1 : goal.returns-then-bytes-lt1
unfolding list_refusal
returns-then-bytes-lt1 c = chain_on _ _ _ c.in_ok-room_refusal.ensures (length_none _ _ c.if-bytes-ne0.false c.if-bytes-lt1.true)

pub overflow_add-shape : goal.overflow_add-shape
overflow_add-shape c = omega (arith, room-levels _ _ _ _ c.in_ok-room_refusal.ensures)

pub overflow_mul-shape : goal.overflow_mul-shape
overflow_mul-shape c = omega (arith, room-levels _ _ _ _ c.in_ok-room_refusal.ensures)

pub returns-then-shape-bytes : goal.returns-then-shape-bytes
unfolding list_refusal
returns-then-shape-bytes c = chain_on _ _ _ c.in_ok-room_refusal.ensures (length_over _ _ c.if-bytes-ne0.false c.if-bytes-lt1.false c.if-shape-bytes.true)

pub returns : goal.returns
unfolding list_refusal
returns c = chain_on _ _ _ c.in_ok-room_refusal.ensures (length-fits _ _ c.if-bytes-ne0.false c.if-bytes-lt1.false c.if-shape-bytes.false)
