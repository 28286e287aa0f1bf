-- Wrong answers of `finder`, wherever the table lies.
use Rattle.std.specs.Prelude.{ℕ, List, [], ◌∷◌, Ok, Some, replicate}
use Rattle.refusals.specs.Refusals.{none}
use Rattle.room.specs.declared.Shape.{Shape}
use Rattle.room.specs.Shapes.{shape_of, full_room}
use Rattle.finder.specs.Told.{Found}
use Rattle.finder.specs.Answers.{no_route}
use Rattle.finder.proofs.find_route.Reads as find_route
use Rattle.wrong.specs.Never.{Never, NeverTells, Loan, ◌&◌, ◌lends◌}
use Rattle.wrong.specs.Examples.{array, healthy, failing, tied, cut_off}
use Rattle.wrong.specs.Told.{found_told}

-- a route of so many hops, by these path bytes
abbrev pub going : ℕ → List ℕ → Found
going h bs = record { refusal = none; hops = h; bytes = array bs }

pub record Finder (o : Loan) : Type 0 where
  -- ---- find_route
  -- the tie rule with the lower level first: 000 to 111 of (2,2), where 81 41 01 comes first
  pub lower_level_first : NeverTells find_route.Post (full_room 2 2 & o lends tied & 0 & 7 & tt) found_told (going 3 (0x01 ∷ 0x81 ∷ 0x41 ∷ []))
  -- the tie rule from the other end, by the last hop first
  pub tie_from_the_other_end : NeverTells find_route.Post (full_room 2 2 & o lends tied & 0 & 7 & tt) found_told (going 3 (0x41 ∷ 0x01 ∷ 0x81 ∷ []))
  -- the tie rule with the higher value first: 00 to 01 of (4,1), where the level-0 link of 00 is failed, and 41 01 40 comes first
  pub higher_value_first : NeverTells find_route.Post (full_room 4 1 & o lends failing 0 1 & 0 & 1 & tt) found_told (going 3 (0x43 ∷ 0x01 ∷ 0x40 ∷ []))
  -- more hops than are needed: 00 to 13 of (4,1), where 41 03 is a route
  pub not_the_fewest_hops : NeverTells find_route.Post (full_room 4 1 & o lends healthy & 0 & 7 & tt) found_told (going 3 (0x42 ∷ 0x03 ∷ 0x41 ∷ []))
  -- an alternate that exists denied
  pub alternate_denied : NeverTells find_route.Post (full_room 4 1 & o lends failing 0 1 & 0 & 1 & tt) found_told (no_route 0)
  -- the receiver's link forgotten: 00 to 13 of (4,1), where the level-1 link of 10 is failed
  pub receiver_forgotten : NeverTells find_route.Post (full_room 4 1 & o lends failing 4 2 & 0 & 7 & tt) found_told (going 2 (0x41 ∷ 0x03 ∷ []))
  -- the hops made up: the servers counted, and not the hops
  pub servers_for_hops : NeverTells find_route.Post (full_room 4 1 & o lends healthy & 0 & 7 & tt) found_told (going 3 (0x41 ∷ 0x03 ∷ []))
  -- 16 told, which is selection's to say: 13 is dead
  pub sixteen_told : NeverTells find_route.Post (full_room 4 1 & o lends failing 7 3 & 0 & 7 & tt) found_told (no_route 16)
  -- a value from m to n - 1 tried at level k: 00 to 01 of (4,1,2), where only 42 01 40 of (4,1) is left
  pub value_m_tried : NeverTells find_route.Post (shape_of 4 1 2 & o lends cut_off & 0 & 1 & tt) found_told (going 3 (0x42 ∷ 0x01 ∷ 0x40 ∷ []))
  -- no value from m on tried at level 0: 00 to 03 of (4,1,2)
  pub value_3_not_tried : NeverTells find_route.Post (shape_of 4 1 2 & o lends replicate 8 0 & 0 & 3 & tt) found_told (no_route 0)
  -- N as n to the power k + 1: 8 to 0 of (4,1,2) with sixteen bytes of table
  pub found_in_the_full_room : NeverTells find_route.Post (shape_of 4 1 2 & o lends healthy & 8 & 0 & tt) found_told (going 1 (0x40 ∷ []))
  -- the same of 0 to 1, servers of the room
  pub found_over_full_table : NeverTells find_route.Post (shape_of 4 1 2 & o lends healthy & 0 & 1 & tt) found_told (going 1 (0x01 ∷ []))
  -- a route of no hops, for none
  pub route_of_no_hops : (s : Shape) (t : List ℕ) (a d : ℕ) (bs : List ℕ) → Never find_route.Post (s & o lends t & a & d & tt) (Ok (Some (record { hops = 0; bytes = bs })))
