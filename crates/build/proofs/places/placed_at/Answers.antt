-- `build::places::placed_at`: a route has eight bytes.
use Rattle.std.proofs.Common.{rules, arith, ◌≡◌, refl, ◌∙◌, length}
use Rattle.std.proofs.lemmas.Slice.{put_mid-paste}
use Rattle.build.proofs.SetLaws.{placed-all}
use Rattle.build.proofs.places.placed_at.Goals as goal

pub returns : goal.returns
returns c =
    let m : length c.args.route ≡ 8 = search rules in
    put_mid-paste _ _ _ _ c.args.route 8 c.copy_from_slice.ensures.after (omega arith) (omega arith) ∙ placed-all _ _ _ 8 m refl
