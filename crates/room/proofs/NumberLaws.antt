-- Each chain of the room gives one of its numbers.
use Prim.Native.Nat.{ℕ}
use mathlib.Core.Path.{◌≡◌, refl}
use mathlib.Core.Bool.{not, ◌&&◌}
use mathlib.Core.List.{List, [], ◌∷◌}
use lib.Dec.{ltb, leb, eqb}
use Rattle.lists.specs.Lists.{is_in}
use Rattle.refusals.specs.Refusals.{OneOf}
use Rattle.refusals.proofs.NumberLaws.{test_one, chain_one, one_of}
use Rattle.room.specs.declared.Shape.{Shape}
use Rattle.room.specs.Shapes.{servers_of, bound}
use Rattle.room.specs.Addresses.{switches_at}
use Rattle.room.proofs.RefusalLaws.{full-refusal}
use Rattle.room.specs.Wiring.{port_refusal, port_numbers}
use Rattle.room.specs.Refusals.{shape_refusal, shape_numbers, level_refusal, level_numbers, server_refusal, pair_refusal, server_numbers, ends_refusal, ends_numbers, link_refusal, link_numbers, value_refusal, value_numbers, places_fit, places_refusal, places_numbers}

module _ (s : Shape) where
  pub shape-numbers : OneOf shape_numbers (shape_refusal s)
  unfolding shape_refusal
  shape-numbers =
      chain_one _ _
      (chain_one _ _ (chain_one _ _ (test_one 1 (leb 2 s.n && leb s.n 64)) (test_one 2 (leb s.k 3))) (test_one 26 (leb 2 s.m && leb s.m s.n)))
      (test_one 3 (leb (servers_of s) 4096))

  -- 26 is no number of a full room
  pub full-numbers : s.m ≡ s.n → (a d : ℕ) → OneOf (1 ∷ 2 ∷ 3 ∷ 4 ∷ 5 ∷ []) (ends_refusal s a d)
  unfolding ends_refusal pair_refusal server_refusal is_in
  full-numbers full a d =
      one_of refl
      (chain_one _ _
      (chain_one _ _ (chain_one _ _ shape (test_one 4 (ltb a (servers_of s)))) (chain_one _ _ shape (test_one 4 (ltb d (servers_of s)))))
      (test_one 5 (not (eqb a d))))
    where
      shape : OneOf (1 ∷ 2 ∷ 3 ∷ []) (shape_refusal s)
      shape =
          rw (full-refusal s full)
          (chain_one _ _ (chain_one _ _ (test_one 1 (leb 2 s.n && leb s.n 64)) (test_one 2 (leb s.k 3))) (test_one 3 (leb (servers_of s) 4096)))

  pub level-numbers : (l : ℕ) → OneOf level_numbers (level_refusal s l)
  unfolding level_refusal
  level-numbers l = chain_one _ _ shape-numbers (test_one 20 (leb l s.k))

  pub server-numbers : (a : ℕ) → OneOf server_numbers (server_refusal s a)
  unfolding server_refusal
  server-numbers a = chain_one _ _ shape-numbers (test_one 4 (ltb a (servers_of s)))

  pub pair_numbers : (a b : ℕ) → OneOf server_numbers (pair_refusal s a b)
  unfolding pair_refusal is_in
  pair_numbers a b = one_of refl (chain_one _ _ (server-numbers a) (server-numbers b))

  pub ends-numbers : (a d : ℕ) → OneOf ends_numbers (ends_refusal s a d)
  unfolding ends_refusal
  ends-numbers a d = chain_one _ _ (pair_numbers a d) (test_one 5 (not (eqb a d)))

  pub link-numbers : (a l : ℕ) → OneOf link_numbers (link_refusal s a l)
  unfolding link_refusal is_in
  link-numbers a l = one_of refl (chain_one _ _ (server-numbers a) (level-numbers l))

  pub value-numbers : (a l v : ℕ) → OneOf value_numbers (value_refusal s a l v)
  unfolding value_refusal
  value-numbers a l v = chain_one _ _ (link-numbers a l) (test_one 21 (ltb v (bound s l)))

  pub places-numbers : (ds : List ℕ) → OneOf places_numbers (places_refusal s ds)
  unfolding places_refusal
  places-numbers ds = chain_one _ _ shape-numbers (test_one 21 (places_fit s 0 ds))

  pub port-numbers : (l w v : ℕ) → OneOf port_numbers (port_refusal s l w v)
  unfolding port_refusal
  port-numbers l w v = chain_one _ _ (level-numbers l) (test_one 21 (ltb w (switches_at s l) && ltb v (bound s l)))
