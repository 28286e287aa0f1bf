-- The answers of building, of the search and of selection fit the result word, and what a call says of them.
use Prim.Native.Nat.{ℕ, zero, suc, ◌≤◌, ◌<◌}
use native.Mathlib.Omega.{arith}
use native.Mathlib.Decide.{ℕ_discrete}
use mathlib.Core.Path.{◌≡◌, refl, sym, ap, ◌∙◌, subst}
use mathlib.Core.Logic.{⊎_elim}
use mathlib.Core.List.{List, [], ◌∷◌, map}
use lib.ListN.{length}
use lib.Dec.{lit≤}
use Rattle.refusals.specs.Refusals.{Refusal}
use Rattle.refusals.specs.Refusals.{plain, answer}
use Rattle.refusals.proofs.NumberLaws.{one_le}
use Rattle.room.specs.declared.Shape.{Shape}
use Rattle.room.specs.Refusals.{ends_refusal}
use Rattle.room.specs.Shapes.{Ends}
use Rattle.room.proofs.RefusalLaws.{ends_of}
use Rattle.room.proofs.NumberLaws.{ends-numbers}
use Rattle.links.specs.Table.{room_refusal}
use Rattle.links.proofs.TableLaws.{room_of}
use Rattle.links.proofs.NumberLaws.{room-numbers}
use Rattle.path.specs.Routes.{encode}
use Rattle.build.specs.Told.{Building}
use Rattle.build.specs.declared.RouteSet.{RouteSet}
use Rattle.build.specs.Built.{built_arrays}
use Rattle.build.specs.Sets.{set_of}
use Rattle.build.specs.Answers.{no_building, a_building, build_answer}
use Rattle.build.proofs.ArrayLaws.{arrays-count}
use Rattle.finder.specs.Told.{Found}
use Rattle.finder.specs.Answers.{Finding}
use Rattle.finder.proofs.AnswerLaws.{given-some, found-refusal, found-or-none}
use Rattle.select.specs.Told.{Selection}
use Rattle.select.specs.Selection.{Selecting, GivesRoutes, selection}
use Rattle.select.proofs.SlotLaws.{all_settled}
use Rattle.driver.specs.Words.{Small}
use Rattle.driver.proofs.WordLaws.{none-small, plain-small}

-- ---- built routes

abbrev SmallSet : Refusal → RouteSet → Type 0
SmallSet r x = Small r x.count

building_small : (r : ℕ) (x : RouteSet) → r ≤ 255 → (r ≡ 0 → x.count < 4294967296) → SmallSet (answer r no_building (a_building x)).refusal (answer r no_building (a_building x)).routes
building_small zero x h f = none-small x.count (f refl)
building_small (suc r) x h f = plain-small (suc r) h

pub build-small : (s : Shape) (a d : ℕ) (x : Building) → x ≡ build_answer s a d → Small x.refusal x.routes.count
unfolding build_answer set_of
build-small s a d x e =
    subst (λ (y : Building). SmallSet y.refusal y.routes) (sym e)
    (building_small (ends_refusal s a d) (set_of (built_arrays s a d)) (one_le 255 refl (ends-numbers s a d)) (λ z. let h = ends_of s a d z in omega (arith, arrays-count s a d, h.source.valid.levels)))

-- ---- the alternate

pub find-small : {s : Shape} {t : List ℕ} {a d : ℕ} (x : Found) → Finding s t a d x → Small x.refusal x.hops
find-small {s} {t} {a} {d} x f =
    elim (ℕ_discrete (room_refusal s t a d) 0) [
      | yes z ↦ subst (λ (r : Refusal). Small r x.hops) (sym (found-refusal f ∙ ap plain z)) (none-small x.hops (few z))
      | no n ↦ subst (λ (y : Found). Small y.refusal y.hops) (sym (f.refused n)) (plain-small (room_refusal s t a d) (one_le 255 refl (room-numbers s t a d)))
    ]
  where
    few : room_refusal s t a d ≡ 0 → x.hops < 4294967296
    few z =
        ⊎_elim (λ g. let h = (given-some g).1 in omega arith) (λ g. omega (arith, ap (λ (y : Found). y.hops) g.0)) (found-or-none f z)

-- ---- selection

chosen_small : (s : Shape) (routes : List (List ℕ)) → length routes ≤ 4 → Small (selection s routes).refusal (selection s routes).routes.count
unfolding set_of
chosen_small s [] h = plain-small 16 (lit≤ tt)
chosen_small s (vs ∷ vss) h = none-small (length (map (encode s) (vs ∷ vss))) (few (vs ∷ vss) h)
  where
    few : (xs : List (List ℕ)) → length xs ≤ 4 → length (map (encode s) xs) < 4294967296
    few xs p = let e : length (map (encode s) xs) ≡ length xs = long xs in omega arith
      where
        long : (ys : List (List ℕ)) → length (map (encode s) ys) ≡ length ys
        long [] = refl
        long (y ∷ ys) = ap suc (long ys)

pub select-small : {s : Shape} {t : List ℕ} {a d : ℕ} (x : Selection) → Selecting s t a d x → Small x.refusal x.routes.count
select-small {s} {t} {a} {d} x f =
    elim (ℕ_discrete (room_refusal s t a d) 0) [
      | yes z ↦ given (f.given z) (room_of s t a d z).0
      | no n ↦ subst (λ (y : Selection). Small y.refusal y.routes.count) (sym (f.refused n)) (plain-small (room_refusal s t a d) (one_le 255 refl (room-numbers s t a d)))
    ]
  where
    given : GivesRoutes s t a d x → Ends s a d → Small x.refusal x.routes.count
    given c e =
        let h = all_settled t e c.slots in
        subst (λ (y : Selection). Small y.refusal y.routes.count) (sym c.answer) (chosen_small s c.routes (omega (arith, h.few, e.source.valid.levels)))
