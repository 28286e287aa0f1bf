-- What `{}` writes of a shape, in bytes.
use Rattle.std.specs.Prelude.{ℕ, List, [], ◌++◌, cond, eqb, codes}
use Rattle.std.specs.Fmt.{decimal}
use Rattle.room.specs.declared.Shape.{Shape}

-- ",NUMBER"
abbrev pub comma_text : ℕ → List ℕ
comma_text i = codes "," ++ decimal i

-- "(n,k)" of a full room, "(n,k,m)" of any other
unfoldable pub shape_text : Shape → List ℕ
shape_text s = codes "(" ++ (decimal s.n ++ (comma_text s.k ++ (cond (eqb s.m s.n) [] (comma_text s.m) ++ codes ")")))
