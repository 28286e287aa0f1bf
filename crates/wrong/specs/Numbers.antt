-- Wrong refusals as the rules tell them, of every number: also of those that are no `Reason`'s.
use Rattle.std.specs.Prelude.{ℕ, ◌+◌, ◌≢◌}
use Rattle.refusals.specs.Refusals.{Refusal, none, plain, refused_at, of_route, with_earlier, earlier_route, earlier_hop}

pub record Numbers : Type 0 where
  -- ---- plain
  -- the number lost
  pub number_lost : (r : ℕ) → r ≢ 0 → plain r ≢ none
  -- route 1, as a single array is, though the call as a whole is refused
  pub plain_at_route_1 : (r : ℕ) → plain r ≢ refused_at r 1 0
  -- an earlier hop, though the call as a whole is refused
  pub plain_with_earlier_hop : (r g : ℕ) → g ≢ 0 → plain r ≢ with_earlier 0 g (plain r)
  -- ---- refused_at
  -- route and hop exchanged
  pub route_and_hop_exchanged : (r i h : ℕ) → i ≢ h → refused_at r i h ≢ refused_at r h i
  -- the hop counted from 0
  pub hop_from_0 : (r i h : ℕ) → refused_at r i (h + 1) ≢ refused_at r i h
  -- its own route and hop as the earlier ones
  pub at_with_earlier_route : (r i h : ℕ) → i ≢ 0 → refused_at r i h ≢ with_earlier i 0 (refused_at r i h)
  pub at_with_earlier_hop : (r i h : ℕ) → h ≢ 0 → refused_at r i h ≢ with_earlier 0 h (refused_at r i h)
  -- ---- of_route
  -- the route that it had kept
  pub route_kept : (r i j h : ℕ) → i ≢ j → of_route j (refused_at r i h) ≢ refused_at r i h
  -- the hop lost
  pub hop_lost : (r i j h : ℕ) → h ≢ 0 → of_route j (refused_at r i h) ≢ refused_at r j 0
  -- the earlier hop lost, or the earlier route
  pub earlier_hop_lost : (r i h j g k : ℕ) → g ≢ 0 → of_route k (with_earlier j g (refused_at r i h)) ≢ with_earlier j 0 (refused_at r k h)
  pub earlier_route_lost : (r i h j g k : ℕ) → j ≢ 0 → of_route k (with_earlier j g (refused_at r i h)) ≢ with_earlier 0 g (refused_at r k h)
  -- the route given to the earlier hop too, or to it alone
  pub earlier_route_given : (r i h j g k : ℕ) → j ≢ k → of_route k (with_earlier j g (refused_at r i h)) ≢ with_earlier k g (refused_at r k h)
  pub earlier_route_alone_given : (r i h j g k : ℕ) → i ≢ k → of_route k (with_earlier j g (refused_at r i h)) ≢ with_earlier k g (refused_at r i h)
  -- ---- with_earlier
  -- nothing set
  pub earlier_route_not_set : (y : Refusal) (i h : ℕ) → earlier_route y ≢ i → with_earlier i h y ≢ y
  pub earlier_hop_not_set : (y : Refusal) (i h : ℕ) → earlier_hop y ≢ h → with_earlier i h y ≢ y
  -- route and hop exchanged
  pub earlier_exchanged : (y : Refusal) (i h : ℕ) → i ≢ h → with_earlier i h y ≢ with_earlier h i y
  -- the hop counted from 0
  pub earlier_hop_from_0 : (y : Refusal) (i h : ℕ) → with_earlier i (h + 1) y ≢ with_earlier i h y
  -- the refusal's own route and hop set, or lost
  pub own_route_set : (y : Refusal) (i h : ℕ) → y.route ≢ i → with_earlier i h y ≢ refused_at y.number i h
  pub own_hop_set : (y : Refusal) (i h : ℕ) → y.hop ≢ h → with_earlier i h y ≢ refused_at y.number i h
  pub own_hop_lost : (y : Refusal) (i h : ℕ) → y.hop ≢ 0 → with_earlier i h y ≢ with_earlier i h (plain y.number)
  -- the number lost
  pub own_number_lost : (y : Refusal) (i h : ℕ) → y.number ≢ 0 → with_earlier i h y ≢ with_earlier i h (refused_at 0 y.route y.hop)
