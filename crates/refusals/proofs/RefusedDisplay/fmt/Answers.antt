-- `refusals::Refused` as `{}` writes it: the reason, the place, and the earlier hop.
use Rattle.std.proofs.Common.{◌++◌, refl, append_assoc}
use mathlib.Core.List.{append-nil}
use borrow.Author.Tests.{eq-eqb, ne_eqb}
use Rattle.std.specs.Fmt.{HasWritten}
use Rattle.std.specs.Prelude.{codes}
use Rattle.refusals.specs.Shown.{reason_text, route_text, hop_text, place_text, earlier_route_text, refused_text}
use Rattle.refusals.proofs.ShownLaws.{then_written, nothing_written}
use Rattle.refusals.proofs.RefusedDisplay.fmt.Goals as goal
use Rattle.refusals.proofs.RefusedDisplay.fmt.Goals.{then-self-ne0+in_ok-write-2, else-self-ne0, then-self-ne0-2+in_ok-write-3, else-self-ne0-2}

pub returns-in_ok-write-4-clause-writes : goal.returns-in_ok-write-4-clause-writes
unfolding refused_text
returns-in_ok-write-4-clause-writes g c plain ok =
    let r = c.args.self.now in
    let number = c.in_ok-write.ensures.writes plain ok in
    let placed : HasWritten g.W.Write.write_str_gives c.args.f.now (reason_text r.reason ++ place_text r) c.if-self-ne0.f =
    elim c.if-self-ne0.branch [
      | then-self-ne0+in_ok-write-2 w ↦
          then_written (route_text r.route ++ hop_text r.hop) w.f-is number (w.in_ok-write-2.ensures.writes number.plain ok)
          (simp (ne_eqb r.route 0 w.if-self-ne0.true))
      | else-self-ne0 w ↦ nothing_written w.f-is number (simp (eq-eqb r.route 0 w.if-self-ne0.false, append-nil))
    ] in
    let word = c.in_ok-write_str.ensures.writes placed.plain ok in
    let routed : HasWritten g.W.Write.write_str_gives c.if-self-ne0.f (codes " earlier" ++ earlier_route_text r) c.if-self-ne0-2.f =
    elim c.if-self-ne0-2.branch [
      | then-self-ne0-2+in_ok-write-3 w ↦
          then_written (route_text r.earlier_route) w.f-is word (w.in_ok-write-3.ensures.writes word.plain ok)
          (simp (ne_eqb r.earlier_route 0 w.if-self-ne0-2.true))
      | else-self-ne0-2 w ↦ nothing_written w.f-is word (simp (eq-eqb r.earlier_route 0 w.if-self-ne0-2.false))
    ] in
    let earlier = then_written (hop_text r.earlier_hop) refl routed (c.in_ok-write-4.ensures.writes routed.plain ok) refl in
    then_written _ refl placed earlier (rw (← c.if-names_earlier.ensures) (simp append_assoc))

pub returns-else-names_earlier-clause-writes : goal.returns-else-names_earlier-clause-writes
unfolding refused_text
returns-else-names_earlier-clause-writes g c plain ok =
    let r = c.args.self.now in
    let number = c.in_ok-write.ensures.writes plain ok in
    let placed : HasWritten g.W.Write.write_str_gives c.args.f.now (reason_text r.reason ++ place_text r) c.if-self-ne0.f =
    elim c.if-self-ne0.branch [
      | then-self-ne0+in_ok-write-2 w ↦
          then_written (route_text r.route ++ hop_text r.hop) w.f-is number (w.in_ok-write-2.ensures.writes number.plain ok)
          (simp (ne_eqb r.route 0 w.if-self-ne0.true))
      | else-self-ne0 w ↦ nothing_written w.f-is number (simp (eq-eqb r.route 0 w.if-self-ne0.false, append-nil))
    ] in
    nothing_written refl placed (rw (← c.if-names_earlier.ensures) (simp append-nil))
