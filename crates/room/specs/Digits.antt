-- Numbers written to a base, least digit first.
use Rattle.std.specs.Prelude.{ℕ, zero, suc, ◌+◌, ◌*◌, ◌/◌, ◌%◌, ◌<◌, List, [], ◌∷◌, ◌++◌, cond, eqb, length, get_or, take, drop}

-- the m lowest digits of a to the base n (rule 1.2)
unfoldable pub digits_of : ℕ → ℕ → ℕ → List ℕ
digits_of n zero a = []
digits_of n (suc m) a = a % n ∷ digits_of n m (a / n)

-- the number that a list of digits writes (rule 1.2)
unfoldable pub address_of : ℕ → List ℕ → ℕ
address_of n [] = 0
address_of n (d ∷ ds) = d + n * address_of n ds

-- a list with place l struck out and the rest closed up
abbrev pub strike : ℕ → List ℕ → List ℕ
strike l ds = take l ds ++ drop (suc l) ds

-- the places, the first counted as l, in which two lists differ
unfoldable pub differ_from : ℕ → List ℕ → List ℕ → List ℕ
differ_from l [] es = []
differ_from l (d ∷ ds) [] = []
differ_from l (d ∷ ds) (e ∷ es) =
    cond (eqb d e) (differ_from (suc l) ds es) (l ∷ differ_from (suc l) ds es)

-- every digit is below n
pub record Below (n : ℕ) (ds : List ℕ) : Type 0 where
  pub at : (i : ℕ) → i < length ds → get_or ds i 0 < n
