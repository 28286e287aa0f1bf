-- What a loop over a list finds: one law for each way through a turn.
use Prim.Native.Nat.{ℕ, ◌+◌, ◌≤◌, ◌<◌}
use mathlib.Core.Path.{◌≡◌, refl, sym, ap, ◌∙◌}
use mathlib.Core.Bool.{cond}
use mathlib.Core.List.{List, [], ◌∷◌, map}
use native.Mathlib.Omega.{arith}
use lib.ListN.{length, get_or, drop, take, length-map, length-take, drop_of_length-le}
use lib.Seq.{length-take-le, get_or-take}
use borrow.Author.Tests.{eq-eqb, ne_eqb}
use Rattle.std.specs.Prelude.{Some, None}
use Rattle.lists.proofs.ListLaws.{left, map_at}
use Rattle.refusals.specs.declared.Refused.{Refused}
use Rattle.refusals.specs.Refusals.{Refusal, none, refused_at, with_earlier}
use Rattle.refusals.specs.Reasons.{refusal_of}
use Rattle.refusals.proofs.ReasonLaws.{reason-some}
use Rattle.path.specs.declared.Walked.{Walked as WalkedArray}
use Rattle.path.specs.Told.{Walked}
use Rattle.path.specs.Answers.{the_walk}
use Rattle.verdict.specs.declared.Meeting.{Meeting}
use Rattle.verdict.specs.Checks.{parallel, meeting, first_meeting, first_pair, first_of}
use Rattle.verdict.specs.Arrived.{past_end, AllArrived, meeting_of}
use Rattle.verdict.proofs.MeetingLaws.{meeting-none, meeting-some, meeting-told}

-- ---- one walked array against those after it

-- the first m walked arrays, as they are told
abbrev pub first_told : ℕ → List WalkedArray → List Walked
first_told m ws = map the_walk (take m ws)

-- the walked array at place j
abbrev pub told_at : ℕ → List WalkedArray → Walked
told_at j ws = the_walk (get_or ws j past_end)

-- place j of the first m
from : (j m : ℕ) (ws : List WalkedArray) → j < m → m ≤ length ws → drop j (first_told m ws) ≡ told_at j ws ∷ drop (j + 1) (first_told m ws)
from j m ws h l =
    let k : j < length (take m ws) = rw (length-take-le m ws l) h in
    left (first_told m ws) j (the_walk past_end) (rw (length-map (take m ws) the_walk) k)
    ∙ ap (λ (x : Walked). x ∷ drop (j + 1) (first_told m ws)) (map_at the_walk past_end (the_walk past_end) (take m ws) j k ∙ ap the_walk (get_or-take m ws j past_end h))

past : (j m : ℕ) (ws : List WalkedArray) → m ≤ j → drop j (first_told m ws) ≡ []
past j m ws h =
    let e : length (first_told m ws) ≤ j = omega (arith, length-map (take m ws) the_walk, length-take m ws) in
    drop_of_length-le (first_told m ws) e

-- the arrays after place i, from place j on
module _ (w : Walked) (i j m : ℕ) (ws : List WalkedArray) (e : first_meeting (i + 1) w (j + 1) (drop j (first_told m ws)) ≡ first_meeting (i + 1) w (i + 1 + 1) (drop (i + 1) (first_told m ws))) where
  module _ (p : AllArrived m ws) (q : m ≤ 4) (h : j < m) where
    at : first_meeting (i + 1) w (j + 1) (drop j (first_told m ws)) ≡ cond (parallel w (told_at j ws)) (first_meeting (i + 1) w (j + 1 + 1) (drop (j + 1) (first_told m ws))) (meeting (i + 1) w (j + 1) (told_at j ws))
    unfolding first_meeting
    at = rw (from j m ws h (omega (arith, p.long)))

    pub meeting_on : None ≡ meeting_of w (told_at j ws) → first_meeting (i + 1) w (j + 1 + 1) (drop (j + 1) (first_told m ws)) ≡ first_meeting (i + 1) w (i + 1 + 1) (drop (i + 1) (first_told m ws))
    meeting_on f = sym (at ∙ rw (meeting-none w (told_at j ws) f)) ∙ e

    -- w meets the one at j there
    pub meeting-here : (x : Meeting) → Some x ≡ meeting_of w (told_at j ws) → (r : Refusal) → r ≡ refused_at 15 (j + 1) x.later → (y : Refusal) → y ≡ with_earlier (i + 1) x.first r → y ≡ first_meeting (i + 1) w (i + 1 + 1) (drop (i + 1) (first_told m ws))
    meeting-here x f r g y k =
        let t = meeting-some w (told_at j ws) x f in
        k ∙ ap (with_earlier (i + 1) x.first) g ∙ meeting-told w (told_at j ws) x f (i + 1) (j + 1) ∙ sym (at ∙ rw t) ∙ e

  pub meeting-end : m ≤ j → none ≡ first_meeting (i + 1) w (i + 1 + 1) (drop (i + 1) (first_told m ws))
  unfolding first_meeting
  meeting-end h = rw (past j m ws h) at e

pub first_left : (r q : Refusal) → (r.number ≡ 0 → ⊥) → first_of r q ≡ r
unfolding first_of
first_left r q h = rw (ne_eqb r.number 0 h)

pub first_right : (r q : Refusal) → r.number ≡ 0 → first_of r q ≡ q
unfolding first_of
first_right r q h = rw (eq-eqb r.number 0 h)

-- ---- pairs

-- the pairs from place j on
module _ (j m : ℕ) (ws : List WalkedArray) (e : first_pair (j + 1) (drop j (first_told m ws)) ≡ first_pair 1 (first_told m ws)) where
  module _ (p : AllArrived m ws) (q : m ≤ 4) (h : j < m) where
    pair_at : (r : Refusal) → r ≡ first_meeting (j + 1) (told_at j ws) (j + 1 + 1) (drop (j + 1) (first_told m ws)) → first_of r (first_pair (j + 1 + 1) (drop (j + 1) (first_told m ws))) ≡ first_pair 1 (first_told m ws)
    unfolding first_pair
    pair_at r f = rw (from j m ws h (omega (arith, p.long)), ← f) at e

    pub pair_here : (r : Refused) → refusal_of r ≡ first_meeting (j + 1) (told_at j ws) (j + 1 + 1) (drop (j + 1) (first_told m ws)) → refusal_of r ≡ first_pair 1 (first_told m ws)
    pair_here r f = sym (first_left (refusal_of r) _ (reason-some r.reason)) ∙ pair_at (refusal_of r) f

    pub pair_on : none ≡ first_meeting (j + 1) (told_at j ws) (j + 1 + 1) (drop (j + 1) (first_told m ws)) → first_pair (j + 1 + 1) (drop (j + 1) (first_told m ws)) ≡ first_pair 1 (first_told m ws)
    pair_on f = sym (first_right none _ refl) ∙ pair_at none f

  pub pair_end : m ≤ j → none ≡ first_pair 1 (first_told m ws)
  unfolding first_pair
  pair_end h = rw (past j m ws h) at e
