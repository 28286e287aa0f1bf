-- What an accepted list is, in words that know nothing of the checker.
use Rattle.std.specs.Prelude.{ℕ, suc, ◌≤◌, ◌<◌, ◌≡◌, List, [], ◌∷◌, ◌++◌, length, get_or}
use Rattle.room.specs.declared.Shape.{Shape}
use Rattle.path.specs.Routes.{RouteTo, Parallel, encode}

-- one array after another
unfoldable pub encode_all : Shape → List (List ℕ) → List ℕ
encode_all s [] = []
encode_all s (vs ∷ vss) = encode s vs ++ encode_all s vss

-- a list of 1 to k + 1 arrays, each the encoding of a route from server a to server d over the live links of table t, every two of them parallel (rule 6.1)
pub record Accepted (s : Shape) (t : List ℕ) (a d : ℕ) (bs : List ℕ) : Type 0 where
  pub routes : List (List ℕ)
  pub some : 1 ≤ length routes
  pub most : length routes ≤ suc s.k
  pub bytes : bs ≡ encode_all s routes
  pub each : (i : ℕ) → i < length routes → RouteTo s t a d (get_or routes i [])
  pub apart : (i j : ℕ) → i < j → j < length routes → Parallel s (get_or routes i []) (get_or routes j [])
