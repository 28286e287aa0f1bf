-- Refusals, by number, route and hop, and an earlier route and hop; chains of tests, whose first refusal counts; and answers. The number 0 is no refusal.
use Rattle.std.specs.Prelude.{ℕ, zero, suc, ◌≡◌, List, Bool, true, cond}
use Rattle.lists.specs.Lists.{is_in}

infixl 30 ◌or_else◌
infix 35 ◌unless◌
-- a refusal as the rules tell it: its number, the route and hop where it arose, and the earlier route and hop that it names (rule 8.1)
pub record Refusal : Type 0 where
  pub number : ℕ
  pub route : ℕ
  pub hop : ℕ
  pub earlier_route : ℕ
  pub earlier_hop : ℕ

-- a refusal by its number, its route and hop, and the earlier route and hop beside them
abbrev pub refusal : ℕ → ℕ → ℕ → ℕ → ℕ → Refusal
refusal r i h j g = record { number = r; route = i; hop = h; earlier_route = j; earlier_hop = g }

-- the earlier route that a refusal names, and the hop of it
abbrev pub earlier_route : Refusal → ℕ
earlier_route r = r.earlier_route

abbrev pub earlier_hop : Refusal → ℕ
earlier_hop r = r.earlier_hop

abbrev pub none : Refusal
none = refusal 0 0 0 0 0

-- a refusal of a call as a whole
abbrev pub plain : ℕ → Refusal
plain r = refusal r 0 0 0 0

-- a refusal at a hop of a route
abbrev pub refused_at : ℕ → ℕ → ℕ → Refusal
refused_at r i h = refusal r i h 0 0

-- the same refusal, of route i
abbrev pub of_route : ℕ → Refusal → Refusal
of_route i r = refusal r.number i r.hop (earlier_route r) (earlier_hop r)

-- the same refusal, with hop h of route i as the earlier one; i is 0 where that is the same route
abbrev pub with_earlier : ℕ → ℕ → Refusal → Refusal
with_earlier i h r = refusal r.number r.route r.hop i h

-- ---- chains

-- the first of two that is not 0
unfoldable pub ◌or_else◌ : ℕ → ℕ → ℕ
zero or_else q = q
suc p or_else q = suc p

-- r where the test fails
abbrev pub ◌unless◌ : ℕ → Bool → ℕ
r unless t = cond t 0 r

-- no refusal, or one of these numbers
pub data OneOf (numbers : List ℕ) (r : ℕ) : Type 0 where
  nought : r ≡ 0 → OneOf numbers r
  listed : is_in r numbers ≡ true → OneOf numbers r

-- ---- answers

-- the answer x where the refusal number is 0, else what `refused` makes of the number
abbrev pub answer : {X : Type 0} → ℕ → (ℕ → X) → X → X
answer zero refused x = x
answer (suc r) refused x = refused (suc r)
