-- Addresses: the digits of a server, its switches and its neighbours.
use Rattle.std.specs.Prelude.{ℕ, suc, ◌/◌, ◌≤◌, ◌<◌, ◌≡◌, ◌≢◌, List, length, get_or, set}
use Rattle.room.specs.declared.Shape.{Shape}
use Rattle.room.specs.Digits.{digits_of, address_of, strike, differ_from}
use Rattle.room.specs.Shapes.{servers_of, bound}

-- the digits of server a, one for each level, digit 0 first (rule 1.2)
unfoldable pub digits : Shape → ℕ → List ℕ
digits s a = digits_of s.n (suc s.k) a

-- digit l of server a
unfoldable pub digit : Shape → ℕ → ℕ → ℕ
digit s l a = get_or (digits s a) l 0

-- server a with digit l set to v
unfoldable pub with_digit : Shape → ℕ → ℕ → ℕ → ℕ
with_digit s l v a = address_of s.n (set (digits s a) l v)

-- the number of the switch at level l of server a: its digits with digit l struck out and the rest closed up (rule 1.4)
unfoldable pub switch_of : Shape → ℕ → ℕ → ℕ
switch_of s l a = address_of s.n (strike l (digits s a))

-- how many switches a level has: each joins as many servers as digit l has values (rule 1.4)
unfoldable pub switches_at : Shape → ℕ → ℕ
switches_at s l = servers_of s / bound s l

-- the levels in which servers a and b differ
unfoldable pub differing : Shape → ℕ → ℕ → List ℕ
differing s a b = differ_from 0 (digits s a) (digits s b)

-- a list of digits that some server has
pub record Written (s : Shape) (ds : List ℕ) : Type 0 where
  pub long : length ds ≡ suc s.k
  pub small : (l : ℕ) → l ≤ s.k → get_or ds l 0 < bound s l

-- servers a and b agree in every digit but l
pub record Beside (s : Shape) (l a b : ℕ) : Type 0 where
  pub agree : (i : ℕ) → i ≢ l → digit s i a ≡ digit s i b

-- servers a and b are neighbours at level l: they differ in digit l only (rule 1.5)
pub record Neighbours (s : Shape) (l a b : ℕ) : Type 0 where
  pub level : l ≤ s.k
  pub beside : Beside s l a b
  pub differ : digit s l a ≢ digit s l b
