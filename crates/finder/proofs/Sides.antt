-- The servers at a switch that are to be tried: all, or none.
use Prim.Native.Nat.{ℕ}
use native.Mathlib.Omega.{arith}
use mathlib.Core.Path.{◌≡◌, sym, ◌∙◌, subst}
use mathlib.Core.Logic.{inl}
use mathlib.Core.Bool.{Bool, true, false}
use mathlib.Core.List.{List}
use Rattle.room.specs.declared.Shape.{Shape}
use Rattle.room.specs.declared.Side.{Side}
use Rattle.room.specs.Shapes.{Link}
use Rattle.room.specs.Sides.{side_of}
use Rattle.room.proofs.RoomLaws.{bound-two}
use Rattle.room.proofs.SideLaws.{side_reach, side_count, side_small}
use Rattle.links.specs.Table.{live}
use Rattle.links.proofs.TableLaws.{live-exactly}
use Rattle.finder.specs.Scan.{Sided}
use Rattle.finder.proofs.Hops.{link_shut}

module _ {s : Shape} {u l : ℕ} (h : Link s u l) (t marks : List ℕ) where
  pub sided_live : (f : Bool) → f ≡ live t l u u → f ≡ true → (x : Side) → x ≡ side_of s u l → Sided s t marks u l x
  sided_live f i z x e =
      subst (Sided s t marks u l) (sym e)
      (record {
        reach = λ v b. side_reach h v (omega (arith, side_count h));
        short = (side_small h).1;
        most = omega (arith, side_count h);
        all = λ m. (side_count h, ((live-exactly t l u u).0 (sym i ∙ z)).0);
        none = λ m. absurd (omega (arith, side_count h, bound-two h.server.valid l));
      })

  -- nothing to try, where the link is failed
  pub sided_dead : (f : Bool) → f ≡ live t l u u → f ≡ false → Sided s t marks u l (record { first = 0; stride = 0; count = 0 })
  sided_dead f i z =
      record {
        reach = λ v b. absurd (omega arith);
        short = omega arith;
        most = omega arith;
        all = λ m. absurd (omega arith);
        none = λ m. inl (link_shut t l u (sym i ∙ z));
      }
