-- Wrong answers of `laying`, wherever the table and the array lie.
use Rattle.std.specs.Prelude.{[], ◌∷◌, replicate, set}
use Rattle.refusals.specs.Refusals.{none, plain, refused_at}
use Rattle.refusals.specs.Reasons.{told_where}
use Rattle.room.specs.Shapes.{shape_of, full_room}
use Rattle.laying.proofs.lay_route.Reads as lay_route
use Rattle.wrong.specs.Never.{NeverLeaves, Loan, second, ◌&◌, ◌lends◌, ◌lends_mut◌, NeverTells}
use Rattle.wrong.specs.Examples.{array, healthy, failing, direct, laid}

-- the route 41 03 from 00 by 10 to 13 of (4,1), where not said otherwise
pub record Laying (o q : Loan) : Type 0 where
  -- ---- lay_route
  -- 6 not tested: a table of 15 bytes taken
  pub short_table_taken : NeverTells lay_route.Post (full_room 4 1 & o lends_mut replicate 15 0 & 0 & 7 & q lends direct & tt) told_where none
  -- 7 tested before 6: seven bytes, a table of none
  pub array_before_table : NeverTells lay_route.Post (full_room 4 1 & o lends_mut [] & 0 & 7 & q lends replicate 7 0 & tt) told_where (plain 7)
  -- 11, which plain reading does not have: the level-1 link of 10 is failed already
  pub failed_link_refused : NeverTells lay_route.Post (full_room 4 1 & o lends_mut failing 4 2 & 0 & 7 & q lends direct & tt) told_where (refused_at 11 1 1)
  -- nothing laid
  pub lays_nothing : NeverLeaves lay_route.Post (full_room 4 1 & o lends_mut healthy & 0 & 7 & q lends direct & tt) second healthy
  -- middle servers laid only
  pub switches_forgotten : NeverLeaves lay_route.Post (full_room 4 1 & o lends_mut healthy & 0 & 7 & q lends direct & tt) second (failing 4 3)
  -- switches laid only: 000 by 100 to 110 of (2,2), by 81 41, where the level-0 link of 100 goes to a third switch
  pub middle_servers_forgotten : NeverLeaves lay_route.Post (full_room 2 2 & o lends_mut replicate 8 0 & 0 & 6 & q lends array (0x81 ∷ 0x41 ∷ []) & tt) second
      (4 ∷ 0 ∷ 0 ∷ 0 ∷ 6 ∷ 0 ∷ 2 ∷ 0 ∷ [])
  -- the last switch, the receiver's, forgotten
  pub last_switch_forgotten : NeverLeaves lay_route.Post (full_room 4 1 & o lends_mut healthy & 0 & 7 & q lends direct & tt) second
      (2 ∷ 0 ∷ 0 ∷ 0 ∷ 3 ∷ 0 ∷ 0 ∷ 0 ∷ 2 ∷ 0 ∷ 0 ∷ 0 ∷ 2 ∷ 0 ∷ 0 ∷ 0 ∷ [])
  -- of each switch the links of the route's own servers only
  pub own_links_only : NeverLeaves lay_route.Post (full_room 4 1 & o lends_mut healthy & 0 & 7 & q lends direct & tt) second
      (2 ∷ 0 ∷ 0 ∷ 0 ∷ 3 ∷ 0 ∷ 0 ∷ 1 ∷ 0 ∷ 0 ∷ 0 ∷ 0 ∷ 0 ∷ 0 ∷ 0 ∷ 0 ∷ [])
  -- the ends counted as avoided: all links of 00 and of 13 marked
  pub ends_laid : NeverLeaves lay_route.Post (full_room 4 1 & o lends_mut healthy & 0 & 7 & q lends direct & tt) second (set (set laid 0 3) 7 3)
  -- the bits of the two levels exchanged
  pub bits_exchanged : NeverLeaves lay_route.Post (full_room 4 1 & o lends_mut healthy & 0 & 7 & q lends direct & tt) second
      (1 ∷ 0 ∷ 0 ∷ 0 ∷ 3 ∷ 2 ∷ 2 ∷ 2 ∷ 1 ∷ 0 ∷ 0 ∷ 0 ∷ 1 ∷ 0 ∷ 0 ∷ 0 ∷ [])
  -- what was failed before lost: server 33
  pub earlier_mark_lost : NeverLeaves lay_route.Post (full_room 4 1 & o lends_mut failing 15 3 & 0 & 7 & q lends direct & tt) second laid
  -- the table touched on refusal: the first hop of 41 41, whose second changes nothing
  pub laid_on_refusal : NeverLeaves lay_route.Post (full_room 4 1 & o lends_mut healthy & 0 & 7 & q lends array (0x41 ∷ 0x41 ∷ []) & tt) second
      (2 ∷ 0 ∷ 0 ∷ 0 ∷ 2 ∷ 0 ∷ 0 ∷ 0 ∷ 2 ∷ 0 ∷ 0 ∷ 0 ∷ 2 ∷ 0 ∷ 0 ∷ 0 ∷ [])
  -- N as n to the power k + 1: a table of 16 bytes for (4,1,2) taken
  pub full_table_taken : NeverTells lay_route.Post (shape_of 4 1 2 & o lends_mut healthy & 0 & 7 & q lends direct & tt) told_where none
  -- the bound of level k as n: 0 to 3 of (4,1,2) by 42 03 40
  pub value_m_laid : NeverTells lay_route.Post (shape_of 4 1 2 & o lends_mut replicate 8 0 & 0 & 3 & q lends array (0x42 ∷ 0x03 ∷ 0x40 ∷ []) & tt) told_where none
  -- m servers at a switch of level 0: 00 by 10 to 13 of (4,1,2), the links of 12 and 13 forgotten
  pub m_servers_at_level_0 : NeverLeaves lay_route.Post (shape_of 4 1 2 & o lends_mut replicate 8 0 & 0 & 7 & q lends direct & tt) second (2 ∷ 0 ∷ 0 ∷ 0 ∷ 3 ∷ 1 ∷ 0 ∷ 0 ∷ [])
