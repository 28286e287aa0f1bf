-- What it is for a contract to determine the answer, and the bytes left in a lent buffer: two results that it allows for the same arguments
-- are the same.
use Rattle.std.specs.Prelude.{ℕ, ◌≡◌, List}
use borrow.Fn.Kinds.{ParamKind, ResultKind, Out, Dens, ended_of, res_t}
use denote.Triple.Clauses.{AtExit}
use contract.Lifetimes.{Lfts}

-- `post` is what a function ensures of its arguments, its result and its parameters at exit
abbrev pub Determined : (n : ℕ) (ps : List (ParamKind n)) (r : ResultKind n) → Out n ps r → Type 0
Determined n ps r post =
    (κs : Lfts n) (a : Dens κs ps) (x y : (res_t r κs).Denot) (s t : AtExit (ended_of n ps r) κs) → post κs a x s → post κs a y t → x ≡ y

-- the same of what `left` gives of the parameters at exit
abbrev pub Leaves : (n : ℕ) (ps : List (ParamKind n)) (r : ResultKind n) → Out n ps r → ((κs : Lfts n) → AtExit (ended_of n ps r) κs → List ℕ) → Type 0
Leaves n ps r post left =
    (κs : Lfts n) (a : Dens κs ps) (x y : (res_t r κs).Denot) (s t : AtExit (ended_of n ps r) κs) → post κs a x s → post κs a y t → left κs s ≡ left κs t
