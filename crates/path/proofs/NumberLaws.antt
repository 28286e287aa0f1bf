-- Each chain of a path byte, of an array and of the writer gives one of its numbers.
use Prim.Native.Nat.{ℕ, ◌-◌}
use mathlib.Core.Bool.{true, not, ◌&&◌}
use mathlib.Core.Path.{◌≡◌, refl}
use mathlib.Core.List.{List, [], ◌∷◌, ◌++◌}
use lib.Dec.{ltb, leb, eqb}
use lib.ListN.{length, get_or}
use Rattle.lists.specs.Lists.{is_in}
use Rattle.refusals.specs.Refusals.{OneOf, nought, ◌or_else◌, ◌unless◌}
use Rattle.refusals.proofs.NumberLaws.{test_one, chain_one, one_of, one-not}
use Rattle.room.specs.declared.Shape.{Shape}
use Rattle.room.specs.Shapes.{bound}
use Rattle.room.specs.Addresses.{digit, differing}
use Rattle.room.specs.Refusals.{server_numbers}
use Rattle.room.proofs.NumberLaws.{shape-numbers, level-numbers, server-numbers, ends-numbers}
use Rattle.links.specs.Table.{live}
use Rattle.path.specs.Routes.{level_of, value_of, switch_at, switch_to}
use Rattle.path.specs.Bytes.{made_refusal, made_numbers, parts_refusal, parts_numbers}
use Rattle.path.specs.Walks.{hop_to, hop_refusal, hop_numbers, fault, fault_numbers, single, write_fault, write_fault_numbers}
use Rattle.path.specs.Answers.{array_refusal, array_numbers, servers_refusal, write_refusal, write_numbers}
use Rattle.path.proofs.RepeatLaws.{again-one, again-met, again_used, again_last}

module _ (s : Shape) where
  pub made-numbers : (l v : ℕ) → OneOf made_numbers (made_refusal s l v)
  unfolding made_refusal
  made-numbers l v = chain_one _ _ (level-numbers s l) (test_one 21 (ltb v (bound s l)))

  pub parts-numbers : (b : ℕ) → OneOf parts_numbers (parts_refusal s b)
  unfolding parts_refusal
  parts-numbers b = chain_one _ _ (test_one 8 (leb (level_of b) s.k)) (test_one 9 (ltb (value_of b) (bound s (level_of b))))

  pub hop-numbers : (a b : ℕ) → OneOf hop_numbers (hop_refusal s a b)
  unfolding hop_refusal
  hop-numbers a b =
      chain_one _ _ (chain_one _ _ (test_one 8 (leb (level_of b) s.k)) (test_one 9 (ltb (value_of b) (bound s (level_of b)))))
      (test_one 10 (not (eqb (digit s (level_of b) a) (value_of b))))

  pub fault-numbers : (t met used : List ℕ) (a b : ℕ) → OneOf fault_numbers (fault s t met used a b)
  unfolding fault
  fault-numbers t met used a b =
      chain_one _ _ (chain_one _ _ (hop-numbers a b) (test_one 11 (live t (level_of b) a (hop_to s a b))))
      (again-one met used (hop_to s a b) (switch_at s (level_of b) a))

  -- 28 and 29 are of what comes on the route again
  module _ (t met used : List ℕ) (a b : ℕ) where
    before-again : OneOf (hop_numbers ++ (11 ∷ [])) (hop_refusal s a b or_else 11 unless live t (level_of b) a (hop_to s a b))
    before-again = chain_one _ _ (hop-numbers a b) (test_one 11 (live t (level_of b) a (hop_to s a b)))

    pub fault-met : fault s t met used a b ≡ 28 → is_in (hop_to s a b) met ≡ true
    unfolding fault
    fault-met e = again-met met used _ _ (again_last met used _ _ _ 28 (one-not 28 refl refl before-again) e)

    pub fault_used : fault s t met used a b ≡ 29 → is_in (switch_at s (level_of b) a) used ≡ true
    unfolding fault
    fault_used e = again_used met used _ _ (again_last met used _ _ _ 29 (one-not 29 refl refl before-again) e)

  pub array-numbers : (a d : ℕ) (bs : List ℕ) → OneOf array_numbers (array_refusal s a d bs)
  unfolding array_refusal
  array-numbers a d bs = chain_one _ _ (ends-numbers s a d) (test_one 7 (eqb (length bs) 8))

  servers-numbers : (vs : List ℕ) → OneOf server_numbers (servers_refusal s vs)
  unfolding servers_refusal is_in
  servers-numbers [] = nought refl
  servers-numbers (v ∷ vs) = one_of refl (chain_one _ _ (server-numbers s v) (servers-numbers vs))

  pub write-numbers : (vs : List ℕ) → OneOf write_numbers (write_refusal s vs)
  unfolding write_refusal is_in
  write-numbers vs =
      one_of refl
      (chain_one _ _ (chain_one _ _ (chain_one _ _ (shape-numbers s) (test_one 22 (leb 2 (length vs) && leb (length vs) 9))) (servers-numbers vs))
      (test_one 5 (not (eqb (get_or vs 0 0) (get_or vs (length vs - 1) 0)))))

  pub write-fault-numbers : (met used : List ℕ) (a b : ℕ) → OneOf write_fault_numbers (write_fault s met used a b)
  unfolding write_fault
  write-fault-numbers met used a b =
      chain_one _ _ (test_one 23 (single (differing s a b))) (again-one met used b (switch_to s a b))

  module _ (met used : List ℕ) (a b : ℕ) where
    pub write-fault-met : write_fault s met used a b ≡ 28 → is_in b met ≡ true
    unfolding write_fault
    write-fault-met e = again-met met used b (switch_to s a b) (again_last met used b (switch_to s a b) _ 28 (one-not 28 refl refl (test_one 23 (single (differing s a b)))) e)

    pub write-fault_used : write_fault s met used a b ≡ 29 → is_in (switch_to s a b) used ≡ true
    unfolding write_fault
    write-fault_used e = again_used met used b (switch_to s a b) (again_last met used b (switch_to s a b) _ 29 (one-not 29 refl refl (test_one 23 (single (differing s a b)))) e)
