-- Wrong answers of `pick`, wherever the table, the fresh list and the kept list lie.
use Rattle.std.specs.Prelude.{◌≢◌, [], ◌∷◌, ◌++◌, replicate, Ok, Err}
use Rattle.refusals.specs.declared.Reason.TheVariants.{FailedLink}
use Rattle.refusals.specs.Refusals.{none, plain, refused_at}
use Rattle.room.specs.Shapes.{shape_of, full_room}
use Rattle.pick.specs.declared.List.TheVariants.{Kept}
use Rattle.pick.specs.Places.{no_place, a_place}
use Rattle.pick.proofs.pick_route.Reads as pick_route
use Rattle.pick.proofs.pick_place.Reads as pick_place
use Rattle.pick.proofs.pick_refusal.Reads as pick-refusal
use Rattle.wrong.specs.Never.{Never, Loan, ◌&◌, ◌lends◌, NeverTells}
use Rattle.wrong.specs.Examples.{array, healthy, failing, direct, other}
use Rattle.wrong.specs.Told.{place_told, refusal_told}

-- 00 to 13 of (4,1), where not said otherwise; with server 03 dead, the route `other` is not usable
pub record Pick (o f k : Loan) : Type 0 where
  -- ---- pick_route, whatever part p it returns
  -- kept before fresh
  pub kept_before_fresh : (p : Loan) → Never pick_route.Post (full_room 4 1 & o lends healthy & 0 & 7 & f lends direct & k lends other & tt) (p lends other)
  -- the right bytes, but not those within the fresh list: the kept list has them too
  pub part_elsewhere : (p : Loan) → p.place ≢ f.place → Never pick_route.Post (full_room 4 1 & o lends healthy & 0 & 7 & f lends direct & k lends direct & tt) (p lends direct)
  -- the first route, usable or not
  pub first_route_given : (p : Loan) → Never pick_route.Post (full_room 4 1 & o lends failing 3 3 & 0 & 7 & f lends other ++ direct & k lends [] & tt) (p lends other)
  -- nothing, since the first route is not usable
  pub first_route_only : (p : Loan) → Never pick_route.Post (full_room 4 1 & o lends failing 3 3 & 0 & 7 & f lends other ++ direct & k lends [] & tt) (p lends [])
  -- the bound of level k as n: 0 to 3 of (4,1,2), 42 03 40 usable
  pub value_m_given : (p : Loan) → Never pick_route.Post (shape_of 4 1 2 & o lends replicate 8 0 & 0 & 3 & f lends array (0x42 ∷ 0x03 ∷ 0x40 ∷ []) & k lends array (0x03 ∷ []) & tt) (p lends array (0x42 ∷ 0x03 ∷ 0x40 ∷ []))
  -- the bound of level 0 as m: 0 to 3 of (4,1,2), 03 not usable
  pub value_3_not_given : (p : Loan) → Never pick_route.Post (shape_of 4 1 2 & o lends replicate 8 0 & 0 & 3 & f lends array (0x03 ∷ []) & k lends [] & tt) (p lends [])
  -- N as n to the power k + 1: a table of 16 bytes for (4,1,2)
  pub given_over_full_table : (p : Loan) → Never pick_route.Post (shape_of 4 1 2 & o lends healthy & 0 & 3 & f lends array (0x03 ∷ []) & k lends [] & tt) (p lends array (0x03 ∷ []))
  -- m = n refused: nothing, though the fresh list has a route
  pub full_room_refused : (p : Loan) → Never pick_route.Post (full_room 4 1 & o lends healthy & 0 & 7 & f lends direct & k lends [] & tt) (p lends [])
  -- m = 1 taken: 0 to 1 of (4,1,1)
  pub fill_1_taken : (p : Loan) → Never pick_route.Post (shape_of 4 1 1 & o lends replicate 4 0 & 0 & 1 & f lends array (0x01 ∷ []) & k lends [] & tt) (p lends array (0x01 ∷ []))
  -- ---- pick_place
  -- kept before fresh
  pub kept_told_first : NeverTells pick_place.Post (full_room 4 1 & o lends healthy & 0 & 7 & f lends direct & k lends other & tt) place_told (a_place 2 1)
  -- the kept list named in the result itself, for the fresh one
  pub kept_named_first : Never pick_place.Post (full_room 4 1 & o lends healthy & 0 & 7 & f lends direct & k lends other & tt) (Ok (record { list = Kept; route = 1 }))
  -- the place counted from 0
  pub place_from_0 : NeverTells pick_place.Post (full_room 4 1 & o lends healthy & 0 & 7 & f lends direct & k lends other & tt) place_told (a_place 1 0)
  -- the place in the kept list counted on from the fresh one
  pub places_counted_on : NeverTells pick_place.Post (full_room 4 1 & o lends failing 3 3 & 0 & 7 & f lends other & k lends direct & tt) place_told (a_place 2 2)
  -- the bound of level k as n: 0 to 3 of (4,1,2), 42 03 40 usable
  pub value_m_told : NeverTells pick_place.Post (shape_of 4 1 2 & o lends replicate 8 0 & 0 & 3 & f lends array (0x42 ∷ 0x03 ∷ 0x40 ∷ []) & k lends array (0x03 ∷ []) & tt) place_told (a_place 1 1)
  -- the bound of level 0 as m: 0 to 3 of (4,1,2), 03 not usable
  pub value_3_not_told : NeverTells pick_place.Post (shape_of 4 1 2 & o lends replicate 8 0 & 0 & 3 & f lends array (0x03 ∷ []) & k lends [] & tt) place_told (no_place 16)
  -- N as n to the power k + 1: a table of 16 bytes for (4,1,2)
  pub told_over_full_table : NeverTells pick_place.Post (shape_of 4 1 2 & o lends healthy & 0 & 7 & f lends direct & k lends [] & tt) place_told (a_place 1 1)
  -- ---- pick_refusal
  -- 16 tested before 7: a fresh list of nine bytes
  pub sixteen_before_seven : NeverTells pick-refusal.Post (full_room 4 1 & o lends healthy & 0 & 7 & f lends replicate 9 0 & k lends [] & tt) refusal_told (plain 16)
  -- empty lists refused as the check refuses them
  pub empty_lists_refused : NeverTells pick-refusal.Post (full_room 4 1 & o lends healthy & 0 & 7 & f lends [] & k lends [] & tt) refusal_told (plain 7)
  -- the kept list not tested, since the fresh one has a route
  pub kept_not_tested : NeverTells pick-refusal.Post (full_room 4 1 & o lends healthy & 0 & 7 & f lends direct & k lends replicate 9 0 & tt) refusal_told none
  -- why the last route is not usable, for why there is none, in the result itself
  pub check_given : Never pick-refusal.Post (full_room 4 1 & o lends failing 3 3 & 0 & 7 & f lends other & k lends [] & tt) (Err FailedLink)
  -- the same told with its place
  pub check_told : NeverTells pick-refusal.Post (full_room 4 1 & o lends failing 3 3 & 0 & 7 & f lends other & k lends [] & tt) refusal_told (refused_at 11 1 1)
  -- the bound of level k as n: 0 to 3 of (4,1,2), 42 03 40 usable
  pub value_m_usable : NeverTells pick-refusal.Post (shape_of 4 1 2 & o lends replicate 8 0 & 0 & 3 & f lends array (0x42 ∷ 0x03 ∷ 0x40 ∷ []) & k lends [] & tt) refusal_told none
  -- the bound of level 0 as m: 0 to 3 of (4,1,2), 03 not usable
  pub value_3_not_usable : NeverTells pick-refusal.Post (shape_of 4 1 2 & o lends replicate 8 0 & 0 & 3 & f lends array (0x03 ∷ []) & k lends [] & tt) refusal_told (plain 16)
  -- N as n to the power k + 1: a table of 16 bytes for (4,1,2)
  pub usable_over_full_table : NeverTells pick-refusal.Post (shape_of 4 1 2 & o lends healthy & 0 & 7 & f lends direct & k lends [] & tt) refusal_told none
