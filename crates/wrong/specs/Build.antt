-- Wrong answers of `build`.
use Rattle.std.specs.Prelude.{[], ◌∷◌, replicate}
use Rattle.room.specs.Shapes.{shape_of, full_room}
use Rattle.build.specs.Sets.{empty_set, set_of}
use Rattle.build.specs.Answers.{no_building, a_building}
use Rattle.build.proofs.RouteSet.new.Reads as route_set_new
use Rattle.build.proofs.RouteSet.with_route.Reads as with_route
use Rattle.build.proofs.build_routes.Reads as build_routes
use Rattle.wrong.specs.Never.{Never, ◌&◌, NeverTells}
use Rattle.wrong.specs.Examples.{array, direct, other}
use Rattle.wrong.specs.Told.{building_told}

pub record Build : Type 0 where
  -- ---- RouteSet::new
  -- its room counted for routes
  pub room_counted : Never route_set_new.Post tt (record { bytes = replicate 32 0; count = 4 })
  -- 255 for "nothing here"
  pub not_blank : Never route_set_new.Post tt (record { bytes = replicate 32 0xff; count = 0 })
  -- ---- RouteSet::with_route
  -- an all-zero array taken for an empty slot
  pub zero_array_not_counted : Never with_route.Post (empty_set & array [] & tt) empty_set
  -- put in the first place, and not after the last
  pub put_first : Never with_route.Post (set_of (direct ∷ []) & other & tt) (set_of (other ∷ direct ∷ []))
  -- the count not raised
  pub count_not_raised : Never with_route.Post (empty_set & direct & tt) (record { bytes = (set_of (direct ∷ [])).bytes; count = 0 })
  -- a full set's last array overwritten
  pub full_set_overwritten : Never with_route.Post (set_of (direct ∷ direct ∷ direct ∷ direct ∷ []) & other & tt) (set_of (direct ∷ direct ∷ direct ∷ other ∷ []))
  -- ---- build_routes
  -- lower slots first: 00 to 13 of (4,1)
  pub lower_slots_first : NeverTells build_routes.Post (full_room 4 1 & 0 & 7 & tt) building_told (a_building (set_of (other ∷ direct ∷ [])))
  -- digits corrected upwards: 000 to 111 of (4,2)
  pub digits_upwards : NeverTells build_routes.Post (full_room 4 2 & 0 & 21 & tt) building_told
      (a_building (set_of (array (0x81 ∷ 0x01 ∷ 0x41 ∷ []) ∷ array (0x41 ∷ 0x81 ∷ 0x01 ∷ []) ∷ array (0x01 ∷ 0x41 ∷ 0x81 ∷ []) ∷ [])))
  -- digit i set right at once in a detour: 0001 to 1011 of (8,3), slots 2 and 0
  pub detour_right_at_once : NeverTells build_routes.Post (full_room 8 3 & 1 & 521 & tt) building_told
      (a_building (set_of (array (0xc1 ∷ 0x41 ∷ []) ∷ array (0x81 ∷ 0x80 ∷ 0x41 ∷ 0xc1 ∷ []) ∷ array (0x41 ∷ 0xc1 ∷ []) ∷ array (0x02 ∷ 0x01 ∷ 0xc1 ∷ 0x41 ∷ []) ∷ [])))
  -- a detour by the value below: 7 for 1 at slot 2, 0 for 2 at slot 0
  pub detour_to_value_below : NeverTells build_routes.Post (full_room 8 3 & 1 & 521 & tt) building_told
      (a_building (set_of (array (0xc1 ∷ 0x41 ∷ []) ∷ array (0x87 ∷ 0x41 ∷ 0xc1 ∷ 0x80 ∷ []) ∷ array (0x41 ∷ 0xc1 ∷ []) ∷ array (0x00 ∷ 0xc1 ∷ 0x41 ∷ 0x01 ∷ []) ∷ [])))
  -- an all-zero array taken for an empty slot: 1 to 0 of (2,0)
  pub zero_array_left_out : NeverTells build_routes.Post (full_room 2 0 & 1 & 0 & tt) building_told (a_building empty_set)
  -- no routes from a server to itself, and no refusal
  pub same_ends_built : NeverTells build_routes.Post (full_room 2 0 & 0 & 0 & tt) building_told (no_building 0)
  -- the detour at level k taken mod n: 3001 to 3011 of (8,3,4), from 3 to 4
  pub detour_mod_n : NeverTells build_routes.Post (shape_of 8 3 4 & 1537 & 1545 & tt) building_told
      (a_building (set_of (array (0xc4 ∷ 0x41 ∷ 0xc3 ∷ []) ∷ array (0x81 ∷ 0x41 ∷ 0x80 ∷ []) ∷ array (0x41 ∷ []) ∷ array (0x02 ∷ 0x41 ∷ 0x01 ∷ []) ∷ [])))
  -- the same where m is 2: 1001 to 1002 of (8,3,2), from 1 to 2
  pub detour_mod_n_of_two : NeverTells build_routes.Post (shape_of 8 3 2 & 513 & 514 & tt) building_told
      (a_building (set_of (array (0xc2 ∷ 0x02 ∷ 0xc1 ∷ []) ∷ array (0x81 ∷ 0x02 ∷ 0x80 ∷ []) ∷ array (0x41 ∷ 0x02 ∷ 0x40 ∷ []) ∷ array (0x02 ∷ []) ∷ [])))
  -- the detour at level 0 taken mod m: 0003 to 0013 of (8,3,4), from 3 to 0
  pub detour_mod_m : NeverTells build_routes.Post (shape_of 8 3 4 & 3 & 11 & tt) building_told
      (a_building (set_of (array (0xc1 ∷ 0x41 ∷ 0xc0 ∷ []) ∷ array (0x81 ∷ 0x41 ∷ 0x80 ∷ []) ∷ array (0x41 ∷ []) ∷ array (0x00 ∷ 0x41 ∷ 0x03 ∷ []) ∷ [])))
  -- N as n to the power k + 1: 8 to 0 of (4,1,2)
  pub built_in_the_full_room : NeverTells build_routes.Post (shape_of 4 1 2 & 8 & 0 & tt) building_told (a_building (set_of (array (0x40 ∷ []) ∷ array (0x01 ∷ 0x40 ∷ 0x00 ∷ []) ∷ [])))
