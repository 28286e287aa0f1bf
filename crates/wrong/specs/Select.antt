-- Wrong answers of `select`, wherever the table lies.
use Rattle.std.specs.Prelude.{ℕ, List, [], ◌∷◌, replicate}
use Rattle.refusals.specs.Refusals.{none}
use Rattle.room.specs.Shapes.{shape_of, full_room}
use Rattle.build.specs.Sets.{set_of}
use Rattle.select.specs.Told.{Selection}
use Rattle.select.specs.Selection.{no_selection}
use Rattle.select.proofs.select_routes.Reads as select_routes
use Rattle.wrong.specs.Never.{NeverTells, Loan, ◌&◌, ◌lends◌}
use Rattle.wrong.specs.Examples.{array, healthy, failing, both_broken, direct, other, cut_off}
use Rattle.wrong.specs.Told.{selection_told}

-- these arrays in their order
abbrev pub selecting : List (List ℕ) → Selection
selecting bss = record { refusal = none; routes = set_of bss }

-- 00 to 13 of (4,1) with server 03 dead, where not said otherwise: slot 1 keeps 41 03, slot 0 gets 01 42 03 41
pub record Select (o : Loan) : Type 0 where
  -- ---- select_routes
  -- a broken route kept
  pub broken_kept : NeverTells select_routes.Post (full_room 4 1 & o lends failing 3 3 & 0 & 7 & tt) selection_told (selecting (direct ∷ other ∷ []))
  -- an alternate that exists denied
  pub alternate_denied : NeverTells select_routes.Post (full_room 4 1 & o lends failing 3 3 & 0 & 7 & tt) selection_told (selecting (direct ∷ []))
  -- the second of two alternates denied, both built routes being broken
  pub second_alternate_denied : NeverTells select_routes.Post (full_room 4 1 & o lends both_broken & 0 & 7 & tt) selection_told (selecting (array (0x42 ∷ 0x01 ∷ 0x41 ∷ 0x03 ∷ []) ∷ []))
  -- the tie rule with the higher value first
  pub higher_value_first : NeverTells select_routes.Post (full_room 4 1 & o lends failing 3 3 & 0 & 7 & tt) selection_told (selecting (direct ∷ array (0x02 ∷ 0x43 ∷ 0x03 ∷ 0x41 ∷ []) ∷ []))
  -- the settled routes not avoided: the route of the fewest hops, which slot 1 has
  pub settled_not_avoided : NeverTells select_routes.Post (full_room 4 1 & o lends failing 3 3 & 0 & 7 & tt) selection_told (selecting (direct ∷ direct ∷ []))
  -- middle servers avoided only: 42 03 41 meets 41 03 at the switch of its first hop
  pub switches_not_avoided : NeverTells select_routes.Post (full_room 4 1 & o lends failing 3 3 & 0 & 7 & tt) selection_told (selecting (direct ∷ array (0x42 ∷ 0x03 ∷ 0x41 ∷ []) ∷ []))
  -- lower slots first
  pub lower_slots_first : NeverTells select_routes.Post (full_room 4 1 & o lends failing 3 3 & 0 & 7 & tt) selection_told (selecting (array (0x01 ∷ 0x42 ∷ 0x03 ∷ 0x41 ∷ []) ∷ direct ∷ []))
  -- 16 since one route is broken
  pub sixteen_with_a_route : NeverTells select_routes.Post (full_room 4 1 & o lends failing 3 3 & 0 & 7 & tt) selection_told (no_selection 16)
  -- no route, and no refusal: 13 is dead
  pub sixteen_not_told : NeverTells select_routes.Post (full_room 4 1 & o lends failing 7 3 & 0 & 7 & tt) selection_told (no_selection 0)
  -- an empty slot not closed up: 00 to 11 of (2,1) with server 10 dead, where slot 1 gets nothing
  pub not_closed_up : NeverTells select_routes.Post (full_room 2 1 & o lends 0 ∷ 0 ∷ 3 ∷ 0 ∷ [] & 0 & 3 & tt) selection_told (selecting (array [] ∷ array (0x01 ∷ 0x41 ∷ []) ∷ []))
  -- the detour at level k taken mod n: 10 to 13 of (4,1,2), from 1 to 2
  pub detour_mod_n : NeverTells select_routes.Post (shape_of 4 1 2 & o lends replicate 8 0 & 4 & 7 & tt) selection_told (selecting (array (0x42 ∷ 0x03 ∷ 0x41 ∷ []) ∷ array (0x03 ∷ []) ∷ []))
  -- a value from m to n - 1 tried at level k: 00 to 01 of (4,1,2), where only 42 01 40 of (4,1) is left
  pub value_m_tried : NeverTells select_routes.Post (shape_of 4 1 2 & o lends cut_off & 0 & 1 & tt) selection_told (selecting (array (0x42 ∷ 0x01 ∷ 0x40 ∷ []) ∷ []))
  -- 16, since value 3 is not below m: 00 to 03 of (4,1,2)
  pub sixteen_for_value_3 : NeverTells select_routes.Post (shape_of 4 1 2 & o lends replicate 8 0 & 0 & 3 & tt) selection_told (no_selection 16)
  -- N as n to the power k + 1: 8 to 0 of (4,1,2) with sixteen bytes of table
  pub selected_in_the_full_room : NeverTells select_routes.Post (shape_of 4 1 2 & o lends healthy & 8 & 0 & tt) selection_told (selecting (array (0x40 ∷ []) ∷ array (0x01 ∷ 0x40 ∷ 0x00 ∷ []) ∷ []))
  -- the same of 0 to 7, servers of the room
  pub selected_over_full_table : NeverTells select_routes.Post (shape_of 4 1 2 & o lends healthy & 0 & 7 & tt) selection_told (selecting (direct ∷ other ∷ []))
