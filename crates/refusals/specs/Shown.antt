-- What `{}` writes of a reason and of a refusal, in bytes: its number, and what it names.
use Rattle.std.specs.Prelude.{ℕ, List, [], ◌∷◌, ◌++◌, Bool, not, cond, ◌||◌, eqb, codes}
use Rattle.std.specs.Fmt.{decimal}
use Rattle.lists.specs.Lists.{is_in}
use Rattle.refusals.specs.declared.Reason.{Reason}
use Rattle.refusals.specs.declared.Refused.{Refused}
use Rattle.refusals.specs.Reasons.{number_of}

-- "refused NUMBER"
unfoldable pub reason_text : Reason → List ℕ
reason_text r = codes "refused " ++ decimal (number_of r)

-- " route R"
abbrev pub route_text : ℕ → List ℕ
route_text i = codes " route " ++ decimal i

-- " hop H"
abbrev pub hop_text : ℕ → List ℕ
hop_text h = codes " hop " ++ decimal h

-- whether an earlier hop is shown: the reason is 15, 28 or 29, or an earlier route or hop is not zero
unfoldable pub names_earlier : Refused → Bool
names_earlier r = is_in (number_of r.reason) (15 ∷ 28 ∷ 29 ∷ []) || not (eqb r.earlier_route 0) || not (eqb r.earlier_hop 0)

-- " route R hop H", where the route is not zero
abbrev pub place_text : Refused → List ℕ
place_text r = cond (eqb r.route 0) [] (route_text r.route ++ hop_text r.hop)

-- the earlier " route R", where it is not zero
abbrev pub earlier_route_text : Refused → List ℕ
earlier_route_text r = cond (eqb r.earlier_route 0) [] (route_text r.earlier_route)

-- " earlier", its route and " hop H", where an earlier hop is shown
abbrev pub earlier_text : Refused → List ℕ
earlier_text r = cond (names_earlier r) (codes " earlier" ++ earlier_route_text r ++ hop_text r.earlier_hop) []

-- "refused NUMBER", and the two that follow
unfoldable pub refused_text : Refused → List ℕ
refused_text r = reason_text r.reason ++ place_text r ++ earlier_text r
