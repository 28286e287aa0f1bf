-- One file to all servers: the k+1 spanning trees of a source, in terms of what asking for a parent answers. `Hands s a l p x` says that, asked for
-- the parent of server x in tree l of source a, the call answers p.
use Rattle.std.specs.Prelude.{ℕ, suc, ◌+◌, ◌-◌, ◌*◌, ◌%◌, ◌≤◌, ◌<◌, ◌≡◌, ◌≢◌, ◌↔◌, ◌⊎◌, List, length, get_or}
use Rattle.room.specs.declared.Shape.{Shape}
use Rattle.room.specs.Shapes.{servers_of, bound, Server, Ends}
use Rattle.room.specs.Addresses.{digit, Beside, Neighbours}
use Rattle.trees.specs.Answers.{tree_answer, tree_left}
use Rattle.trees.specs.Reach.{Hands, Follows, steps_of, most_steps}
use Rattle.trees.specs.Figure.{Hop}

-- ---- the rule

-- server x is server p with digit j raised by one, round the bound of level j; so p is x with digit j lowered by one
pub record OneUp (s : Shape) (j p x : ℕ) : Type 0 where
  pub lower : Server s p
  pub upper : Server s x
  pub others : Beside s j p x
  pub own : digit s j x ≡ (digit s j p + 1) % bound s j

-- level j is the last of l, l+1, .. (mod k+1) at which servers a and x differ
pub record LastApart (s : Shape) (a l x j : ℕ) : Type 0 where
  pub place : ℕ
  pub within : place ≤ s.k
  pub here : j ≡ (l + place) % suc s.k
  pub differ : digit s j a ≢ digit s j x
  pub later : (i : ℕ) → place < i → i ≤ s.k → (let h = (l + i) % suc s.k in digit s h a ≡ digit s h x)

-- the level at which server x hangs: l where it has the source's own digit l, else the last of the order at which it differs from the source
abbrev pub HangsAt : Shape → ℕ → ℕ → ℕ → ℕ → Type 0
HangsAt s a l x j =
    ((digit s l a ≡ digit s l x) × (j ≡ l)) ⊎ ((digit s l a ≢ digit s l x) × LastApart s a l x j)

-- p is answered exactly when source and server are two servers, the room has the tree, and p is the server with the digit at which it hangs
-- lowered by one
abbrev pub ParentExactly : Type 0
ParentExactly =
    (s : Shape) (a l x p : ℕ) → Hands s a l p x ↔ (Ends s a x × (l ≤ s.k) × ((j : ℕ) × HangsAt s a l x j × OneUp s j p x))

-- each server but the source has a parent, and the source has none
pub record EveryParent : Type 0 where
  pub has : (s : Shape) (a l x : ℕ) → Ends s a x → l ≤ s.k → (p : ℕ) × Hands s a l p x
  pub none : (s : Shape) (a l p : ℕ) → Hands s a l p a → ⊥

-- a tree hangs from its source through one server, the neighbour with digit l raised by one
abbrev pub RootExactly : Type 0
RootExactly = (s : Shape) (a l x : ℕ) → Server s a → l ≤ s.k → Hands s a l a x ↔ OneUp s l a x

-- a parent and its child are neighbours
abbrev pub HopsJoin : Type 0
HopsJoin = (s : Shape) (a l p x : ℕ) → Hands s a l p x → Server s p × ((j : ℕ) × Neighbours s j p x)

-- ---- every server is reached

-- following parents from any server ends at the source, after exactly as many steps as the gaps say, and not earlier
abbrev pub ReachExactly : Type 0
ReachExactly =
    (s : Shape) (a l x : ℕ) → Ends s a x → l ≤ s.k → (m : ℕ) → Follows s a l m x a ↔ (m ≡ steps_of s a l x)

-- within k(n-1)+m steps, and within m-1 where there is one level only
pub record StepsBound : Type 0 where
  pub most : (s : Shape) (a l x : ℕ) → Ends s a x → l ≤ s.k → steps_of s a l x ≤ most_steps s
  pub levels : (s : Shape) → 0 < s.k → most_steps s ≡ s.k * (s.n - 1) + s.m
  pub one_level : (s : Shape) → s.k ≡ 0 → most_steps s ≡ s.m - 1
  -- in every tree of every source some server needs as many
  pub met : (s : Shape) (a l : ℕ) → Server s a → l ≤ s.k → (x : ℕ) × Ends s a x × (steps_of s a l x ≡ most_steps s)

-- ---- the trees side by side

-- the parents of a server in different trees are its neighbours at different levels
abbrev pub OtherLevels : Type 0
OtherLevels =
    (s : Shape) (a l m x p q j : ℕ) →
    Hands s a l p x →
    Hands s a m q x →
    Neighbours s j p x →
    Neighbours s j q x →
    l ≡ m

-- so at all its levels, and each of its links is taken by one tree
abbrev pub EveryLevel : Type 0
EveryLevel =
    (s : Shape) (a x j : ℕ) → Ends s a x → j ≤ s.k → (l : ℕ) × (p : ℕ) × Hands s a l p x × Neighbours s j p x

-- and no directed hop stands in two trees
abbrev pub OneTree : Type 0
OneTree = (s : Shape) (a l m p x : ℕ) → Hands s a l p x → Hands s a m p x → l ≡ m

-- two servers that hand each other a file, in different trees, do it at a level whose bound is 2
abbrev pub BothWays : Type 0
BothWays =
    (s : Shape) (a l m p x : ℕ) → Hands s a l p x → Hands s a m x p → (j : ℕ) × Neighbours s j p x × (bound s j ≡ 2)

-- ---- the paper's figure

-- the hops of a tree are those that the figure's passes make
abbrev pub AsInFigure : Type 0
AsInFigure = (s : Shape) (a l : ℕ) → Server s a → l ≤ s.k → (p x : ℕ) → Hands s a l p x ↔ Hop s a l p x

-- ---- a whole tree

-- the numbers of tree l of source a: the parent of each server, 4,294,967,295 at the source, and zeros past the last server
pub record WholeTree (s : Shape) (a l : ℕ) (ps : List ℕ) : Type 0 where
  pub long : length ps ≡ 4096
  pub parents : (p x : ℕ) → Hands s a l p x → get_or ps x 0 ≡ p
  pub source : get_or ps a 0 ≡ 4294967295
  pub past : (x : ℕ) → servers_of s ≤ x → get_or ps x 0 ≡ 0

pub record EveryTree : Type 0 where
  -- a call that is not refused leaves them, whatever was lent, and answers how many servers the room has
  pub left : (s : Shape) (a l : ℕ) (lent : List ℕ) → (tree_answer s a l).refusal.number ≡ 0 → WholeTree s a l (tree_left s a l lent)
  pub count : (s : Shape) (a l : ℕ) → (tree_answer s a l).refusal.number ≡ 0 → (tree_answer s a l).value ≡ servers_of s
  -- there are no others
  pub unique : (s : Shape) (a l : ℕ) (ps qs : List ℕ) → Server s a → l ≤ s.k → WholeTree s a l ps → WholeTree s a l qs → ps ≡ qs
