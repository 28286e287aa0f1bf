-- The route set: room for four arrays of eight path bytes, and a count.
use Rattle.std.specs.Prelude.{ℕ, ◌+◌, ◌*◌, List, [], ◌∷◌, ◌++◌, cond, ltb, length, take, drop, replicate}
use Rattle.lists.specs.Lists.{filled}
use Rattle.build.specs.declared.RouteSet.{RouteSet}

-- the set that holds no array
abbrev pub empty_set : RouteSet
empty_set = record { bytes = replicate 32 0; count = 0 }

-- a list with eight bytes put at place p, the others as they are
unfoldable pub placed : ℕ → List ℕ → List ℕ → List ℕ
placed p route bytes = take p bytes ++ route ++ drop (p + 8) bytes

-- the set with an array put after the last; a set whose count is 4 or more is unchanged (rule 4.5)
unfoldable pub added : RouteSet → List ℕ → RouteSet
added r route =
    cond (ltb r.count 4) (record { bytes = placed (8 * r.count) route r.bytes; count = r.count + 1 }) r

-- the array at place j of a set
unfoldable pub array_in : ℕ → RouteSet → List ℕ
array_in j r = take 8 (drop (8 * j) r.bytes)

-- arrays one after another
unfoldable pub joined : List (List ℕ) → List ℕ
joined [] = []
joined (x ∷ xs) = x ++ joined xs

-- the set of these arrays in their order, with zeros past them (rule 4.5)
unfoldable pub set_of : List (List ℕ) → RouteSet
set_of xs = record { bytes = filled 32 (joined xs); count = length xs }

-- the arrays that a set holds, one after another
abbrev pub held : RouteSet → List ℕ
held r = take (8 * r.count) r.bytes
