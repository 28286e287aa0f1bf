-- The worked numbers, from the definitions.
use Prim.Native.Nat.{ℕ, suc, ◌-◌}
use mathlib.Core.Path.{◌≡◌, refl}
use mathlib.Core.List.{List, [], ◌∷◌, ◌++◌}
use lib.ListN.{take}
use Rattle.lists.specs.Lists.{filled, down_from}
use Rattle.refusals.specs.Refusals.{◌or_else◌}
use Rattle.room.specs.Shapes.{servers_of, bound, full_room}
use Rattle.room.specs.Digits.{digits_of, address_of}
use Rattle.room.specs.Addresses.{digits, with_digit}
use Rattle.room.specs.Refusals.{shape_refusal, server_refusal, pair_refusal, ends_refusal}
use Rattle.path.specs.Routes.{byte_of}
use Rattle.build.specs.Answers.{no_building, build_answer}
use Rattle.build.specs.Built.{first_in, last_in, plus_one, built_hops, met_by, bytes_of, built_route, built_bytes, built_routes, built_arrays}

-- Figure 4: (8,3), 1 to 521
pub figure_4 : built_arrays (full_room 8 3) 1 521 ≡
    (193 ∷ 65 ∷ 0 ∷ 0 ∷ 0 ∷ 0 ∷ 0 ∷ 0 ∷ []) ∷ (129 ∷ 65 ∷ 193 ∷ 128 ∷ 0 ∷ 0 ∷ 0 ∷ 0 ∷ []) ∷ (65 ∷ 193 ∷ 0 ∷ 0 ∷ 0 ∷ 0 ∷ 0 ∷ 0 ∷ []) ∷ (2 ∷ 193 ∷ 65 ∷ 1 ∷ 0 ∷ 0 ∷ 0 ∷ 0 ∷ []) ∷ []
unfolding built_arrays built_bytes built_hops bytes_of byte_of filled plus_one bound digits digits_of
figure_4 = refl

-- the servers that they meet: 0001, 1001, 1011, and so on
pub figure_4_servers : built_routes (full_room 8 3) 1 521 ≡
    (1 ∷ 513 ∷ 521 ∷ []) ∷ (1 ∷ 65 ∷ 73 ∷ 585 ∷ 521 ∷ []) ∷ (1 ∷ 9 ∷ 521 ∷ []) ∷ (1 ∷ 2 ∷ 514 ∷ 522 ∷ 521 ∷ []) ∷ []
unfolding built_routes built_route built_hops met_by plus_one bound with_digit digits digits_of address_of
figure_4_servers = refl

-- (4,1), 00 to 13
pub testbed : built_arrays (full_room 4 1) 0 7 ≡ (65 ∷ 3 ∷ 0 ∷ 0 ∷ 0 ∷ 0 ∷ 0 ∷ 0 ∷ []) ∷ (3 ∷ 65 ∷ 0 ∷ 0 ∷ 0 ∷ 0 ∷ 0 ∷ 0 ∷ []) ∷ []
unfolding built_arrays built_bytes built_hops bytes_of byte_of filled plus_one bound digits digits_of
testbed = refl

-- (2,0), 1 to 0: eight zero bytes, and one hop
pub smallest : built_arrays (full_room 2 0) 1 0 ≡ (0 ∷ 0 ∷ 0 ∷ 0 ∷ 0 ∷ 0 ∷ 0 ∷ 0 ∷ []) ∷ []
unfolding built_arrays built_bytes built_hops bytes_of byte_of filled plus_one bound digits digits_of
smallest = refl

pub one-hop : built_hops (full_room 2 0) 0 1 0 ≡ (0, 0) ∷ []
unfolding built_hops plus_one bound digits digits_of
one-hop = refl

-- (2,0), 0 to 0: refusal 5
pub same_ends : build_answer (full_room 2 0) 0 0 ≡ no_building 5
unfolding build_answer ends_refusal pair_refusal server_refusal shape_refusal servers_of ◌or_else◌
same_ends = refl

-- the two orders, written out: i, i-1, .. , 0, k, .. , i+1 and i-1, .. , 0, k, .. , i
abbrev above : ℕ → ℕ → List ℕ
above k i = take (k - i) (down_from (suc k))

abbrev Orders : ℕ → ℕ → Type 0
Orders k i = (first_in k i ≡ i ∷ (down_from i ++ above k i)) × (last_in k i ≡ down_from i ++ (above k i ++ (i ∷ [])))

pub orders_3 : Orders 3 3 × Orders 3 2 × Orders 3 1 × Orders 3 0
orders_3 = ((refl, refl), (refl, refl), (refl, refl), (refl, refl))

pub orders_2 : Orders 2 2 × Orders 2 1 × Orders 2 0
orders_2 = ((refl, refl), (refl, refl), (refl, refl))

pub orders_1 : Orders 1 1 × Orders 1 0
orders_1 = ((refl, refl), (refl, refl))

pub orders_0 : Orders 0 0
orders_0 = (refl, refl)
