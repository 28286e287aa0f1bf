-- Routes by their path bytes: what walking an array computes is the route that it writes.
use Prim.Native.Nat.{ℕ}
use mathlib.Core.Path.{◌≡◌, sym, ap, ◌∙◌}
use mathlib.Core.Bool.{true}
use mathlib.Core.List.{List}
use native.Mathlib.Omega.{arith}
use lib.ListN.{length}
use Rattle.lists.specs.Lists.{middle}
use Rattle.refusals.specs.Refusals.{Refusal}
use Rattle.room.specs.declared.Shape.{Shape}
use Rattle.room.specs.Refusals.{ends_refusal}
use Rattle.room.proofs.RefusalLaws.{ends_of}
use Rattle.path.specs.Routes.{switches_of, encode, RouteTo, Parallel}
use Rattle.path.specs.Walks.{stopped, arrived, walk}
use Rattle.path.proofs.RouteLaws.{read_sound, read_complete}
use Rattle.verdict.specs.Checks.{disjoint}
use Rattle.verdict.proofs.AcceptLaws.{disjoint-apart}

-- a route and its switches, by an array that walks to its end
pub record Walks (s : Shape) (t : List ℕ) (a d : ℕ) (vs ws : List ℕ) : Type 0 where
  pub route : RouteTo s t a d vs
  pub switches : ws ≡ switches_of s vs

pub walks : {s : Shape} {t : List ℕ} {a d : ℕ} (bs vs ws : List ℕ) → ends_refusal s a d ≡ 0 → length bs ≡ 8 → walk s t a d bs ≡ arrived vs ws → Walks s t a d vs ws
walks {s} {t} {a} {d} bs vs ws r l e =
    let ends = ends_of s a d r in
    let z = read_sound t bs vs ws ends.source ends.differ l e in
    record { route = z.0; switches = z.1 }

-- two such that share nothing are parallel, each over a table of its own
pub parallel_walks : {s : Shape} {t u : List ℕ} {a d : ℕ} {us ws vs xs : List ℕ} → Walks s t a d us ws → Walks s u a d vs xs → disjoint ws xs ≡ true → disjoint (middle us) (middle vs) ≡ true → Parallel s us vs
parallel_walks {us = us} {ws} {vs} {xs} h k e f =
    record { switches = rw (← h.switches, ← k.switches) (disjoint-apart ws xs e); servers = disjoint-apart (middle us) (middle vs) f }

module _ {s : Shape} {t : List ℕ} {a d : ℕ} {bs vs : List ℕ} (r : RouteTo s t a d vs) (e : bs ≡ encode s vs) where
  read : walk s t a d bs ≡ arrived vs (switches_of s vs)
  read = ap (walk s t a d) e ∙ read_complete r

  -- the array of a route is not refused
  pub never_stops : {q : Refusal} → walk s t a d bs ≡ stopped q → ⊥
  never_stops w = let x = sym w ∙ read in let z : ◌≡◌ {A = ℕ} 0 1 = cc in omega arith

  -- and walks to that route alone
  pub same_route : {us ws : List ℕ} → walk s t a d bs ≡ arrived us ws → vs ≡ us
  same_route w = let x = sym w ∙ read in cc
