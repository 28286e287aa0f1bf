-- Following parents to the source: which steps there are, and how many lead there (rule 13.4). No call's contract needs it.
use Rattle.std.specs.Prelude.{ℕ, zero, suc, ◌+◌, ◌-◌, ◌*◌, ◌%◌, ◌≡◌, cond, eqb}
use Rattle.room.specs.declared.Shape.{Shape}
use Rattle.room.specs.Shapes.{bound}
use Rattle.room.specs.Addresses.{digit}
use Rattle.room.specs.Answers.{a_number}
use Rattle.trees.specs.Trees.{alike}
use Rattle.trees.specs.Answers.{parent_answer}

-- in tree l of source a server p hands the file to server x: asked for the parent of x, the call answers p
abbrev pub Hands : Shape → ℕ → ℕ → ℕ → ℕ → Type 0
Hands s a l p x = parent_answer s a l x ≡ a_number p

-- following parents, m steps lead from server x to server y
pub data Follows (s : Shape) (a l : ℕ) : ℕ → ℕ → ℕ → Type 0 where
  here : {x : ℕ} → Follows s a l 0 x x
  up : {m p x y : ℕ} → Hands s a l p x → Follows s a l m p y → Follows s a l (suc m) x y

-- f 0 + .. + f (m-1)
unfoldable pub total : ℕ → (ℕ → ℕ) → ℕ
total zero f = 0
total (suc m) f = total m f + f m

-- how often digit i of server x has to be lowered to be that of source a
unfoldable pub gap : Shape → ℕ → ℕ → ℕ → ℕ
gap s a x i = (digit s i x + (bound s i - digit s i a)) % bound s i

-- the steps from server x to source a, which is another, in tree l: the gaps of all digits, and once round digit l where it has no gap
unfoldable pub steps_of : Shape → ℕ → ℕ → ℕ → ℕ
steps_of s a l x = total (suc s.k) (gap s a x) + cond (alike s a x l) (bound s l) 0

-- and the most of any server in any tree: k(n-1)+m, or m-1 where there is one level only
unfoldable pub most_steps : Shape → ℕ
most_steps s = cond (eqb s.k 0) (s.m - 1) (s.k * (s.n - 1) + s.m)
