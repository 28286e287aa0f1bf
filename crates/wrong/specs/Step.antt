-- Wrong answers of `step`, wherever the path bytes and the neighbour table lie.
use Rattle.std.specs.Prelude.{ℕ, ◌≡◌, ◌≢◌, Ok, Bool, true, false, List, [], ◌∷◌, get_or, replicate}
use Rattle.refusals.specs.Refusals.{Refusal, none, plain, refused_at}
use Rattle.room.specs.declared.Shape.{Shape}
use Rattle.room.specs.Shapes.{shape_of, full_room}
use Rattle.room.specs.Addresses.{digit}
use Rattle.path.specs.Routes.{level_of, value_of}
use Rattle.path.specs.Walks.{hop_to}
use Rattle.step.specs.Told as declared
use Rattle.step.specs.declared.Step.TheVariants.{Delivered, Onward}
use Rattle.step.specs.Steps.{step_refusal, no_step}
use Rattle.step.proofs.step_once.Reads as step_once
use Rattle.wrong.specs.Never.{Never, NeverTells, Loan, ◌&◌, ◌lends◌}
use Rattle.wrong.specs.Examples.{array, direct, mac, neighbour}
use Rattle.wrong.specs.Told.{step_told}

-- the path bytes c4 41 c1, from 2567 of (8,3) by 4567 and 4517 to 1517
abbrev pub around : List ℕ
around = array (0xc4 ∷ 0x41 ∷ 0xc1 ∷ [])

-- the step from 2567 of (8,3) to 4567, by byte c4 and OutPort 7, with this level and old value: right are 3 and 2
abbrev pub left_with : ℕ → ℕ → declared.Step
left_with l v = record { refusal = none; delivered = false; next = 2423; index = 1; mac = mac; port = 7; level = l; old = v }

-- a step that goes nowhere, refused or delivered, with this level and old value: right are 0 and 0
abbrev pub stood_with : Refusal → Bool → ℕ → ℕ → declared.Step
stood_with r t l v =
    record { refusal = r; delivered = t; next = 0; index = 0; mac = replicate 6 0; port = 0; level = l; old = v }

-- a packet for 13 of (4,1) with the path bytes 41 03, where not said otherwise: from 00 it goes on to 10, by OutPort 7
pub record Step (q e : Loan) : Type 0 where
  -- ---- step_once
  -- the index tested before arrival: 8, at the destination
  pub index_before_arrival : NeverTells step_once.Post (full_room 4 1 & 7 & 7 & 8 & q lends direct & e lends neighbour 0x41 1 & tt) step_told (no_step (plain 18))
  -- the next index told at a delivery, whose room is zero
  pub delivered_with_index : NeverTells step_once.Post (full_room 4 1 & 7 & 7 & 2 & q lends direct & e lends neighbour 0x41 1 & tt) step_told
      (record { refusal = none; delivered = true; next = 0; index = 3; mac = replicate 6 0; port = 0; level = 0; old = 0 })
  -- the index not raised
  pub index_not_raised : NeverTells step_once.Post (full_room 4 1 & 0 & 7 & 0 & q lends direct & e lends neighbour 0x41 1 & tt) step_told
      (record { refusal = none; delivered = false; next = 4; index = 0; mac = mac; port = 7; level = 1; old = 0 })
  -- every flag but 0 taken for available
  pub flag_2_taken : NeverTells step_once.Post (full_room 4 1 & 0 & 7 & 0 & q lends direct & e lends neighbour 0x41 2 & tt) step_told
      (record { refusal = none; delivered = false; next = 4; index = 1; mac = mac; port = 7; level = 1; old = 0 })
  -- the place one off: the hop is the index, and not the index + 1
  pub hop_is_the_index : NeverTells step_once.Post (full_room 4 1 & 0 & 7 & 0 & q lends direct & e lends neighbour 0x41 0 & tt) step_told (no_step (refused_at 19 1 0))
  -- a hop told with 18, which has none
  pub index_told_as_hop : NeverTells step_once.Post (full_room 4 1 & 0 & 7 & 8 & q lends direct & e lends neighbour 0x41 1 & tt) step_told (no_step (refused_at 18 1 9))
  -- 19 tested before 10: byte 40 from 00 changes nothing, and has no flag
  pub flag_before_no_change : NeverTells step_once.Post (full_room 4 1 & 0 & 7 & 0 & q lends array (0x40 ∷ []) & e lends neighbour 0x41 1 & tt) step_told (no_step (refused_at 19 1 1))
  -- 9 not given at a value from m to n - 1: byte 42 from 00 of (4,1,2), whose flag is 1
  pub value_m_taken : NeverTells step_once.Post (shape_of 4 1 2 & 0 & 3 & 0 & q lends array (0x42 ∷ 0x03 ∷ 0x40 ∷ []) & e lends neighbour 0x42 1 & tt) step_told
      (record { refusal = none; delivered = false; next = 8; index = 1; mac = mac; port = 7; level = 1; old = 0 })
  -- 4 for 9: server 8 is not below N
  pub four_for_nine : NeverTells step_once.Post (shape_of 4 1 2 & 0 & 3 & 0 & q lends array (0x42 ∷ 0x03 ∷ 0x40 ∷ []) & e lends neighbour 0x42 1 & tt) step_told (no_step (plain 4))
  -- 19 tested before 9: byte 42, whose flag is 0
  pub flag_before_value : NeverTells step_once.Post (shape_of 4 1 2 & 0 & 3 & 0 & q lends array (0x42 ∷ 0x03 ∷ 0x40 ∷ []) & e lends neighbour 0x42 0 & tt) step_told (no_step (refused_at 19 1 1))
  -- the bound of level 0 as m: byte 03 from 00 of (4,1,2) refused
  pub value_3_refused : NeverTells step_once.Post (shape_of 4 1 2 & 0 & 3 & 0 & q lends array (0x03 ∷ []) & e lends neighbour 0x03 1 & tt) step_told (no_step (refused_at 9 1 1))
  -- N as n to the power k + 1: at server 8 of (4,1,2)
  pub here_in_the_full_room : NeverTells step_once.Post (shape_of 4 1 2 & 8 & 3 & 0 & q lends array (0x40 ∷ 0x03 ∷ []) & e lends neighbour 0x40 1 & tt) step_told
      (record { refusal = none; delivered = false; next = 0; index = 1; mac = mac; port = 7; level = 1; old = 2 })
  -- ---- what the hop leaves behind, of a packet at 2567 of (8,3) for 1517 with the path bytes c4 41 c1, where not said otherwise: it
  -- goes on to 4567, at level 3, and the old value is 2
  -- the new value told as the old
  pub new_value_told : NeverTells step_once.Post (full_room 8 3 & 1399 & 847 & 0 & q lends around & e lends neighbour 0xc4 1 & tt) step_told (left_with 3 4)
  -- the same in a room that is not full: at 3001 of (8,3,4) for 3011 by c0 41 c3, where the old value is 3
  pub new_value_told_at_level_k : NeverTells step_once.Post (shape_of 8 3 4 & 1537 & 1545 & 0 & q lends array (0xc0 ∷ 0x41 ∷ 0xc3 ∷ []) & e lends neighbour 0xc0 1 & tt) step_told
      (record { refusal = none; delivered = false; next = 1; index = 1; mac = mac; port = 7; level = 3; old = 0 })
  -- the same of any step that is made
  pub any_new_value_told : (s : Shape) (a d i : ℕ) (bs es : List ℕ) → step_refusal s a d i bs es ≡ 0 → a ≢ d → NeverTells step_once.Post (s & a & d & i & q lends bs & e lends es & tt) (λ y. (step_told y).old) (value_of (get_or bs i 0))
  -- the old value of the destination: the digit of 1517 at level 3
  pub old_of_the_destination : NeverTells step_once.Post (full_room 8 3 & 1399 & 847 & 0 & q lends around & e lends neighbour 0xc4 1 & tt) step_told (left_with 3 1)
  -- the digit, at the hop's level, of the next server, of any step that is made
  pub any_digit_of_the_next_told : (s : Shape) (a d i : ℕ) (bs es : List ℕ) → step_refusal s a d i bs es ≡ 0 → a ≢ d → NeverTells step_once.Post (s & a & d & i & q lends bs & e lends es & tt) (λ y. (step_told y).old) (digit s (level_of (get_or bs i 0)) (hop_to s a (get_or bs i 0)))
  -- level and old value exchanged in the result itself, next server and index, or a delivery for a step
  pub step_fields_exchanged : Never step_once.Post (full_room 8 3 & 1399 & 847 & 0 & q lends around & e lends neighbour 0xc4 1 & tt) (Ok (Onward (record { next = 2423; index = 1; mac = mac; port = 7; level = 2; old = 3 })))
  pub next_and_index_exchanged : Never step_once.Post (full_room 8 3 & 1399 & 847 & 0 & q lends around & e lends neighbour 0xc4 1 & tt) (Ok (Onward (record { next = 1; index = 2423; mac = mac; port = 7; level = 3; old = 2 })))
  pub delivered_on_the_way : Never step_once.Post (full_room 8 3 & 1399 & 847 & 0 & q lends around & e lends neighbour 0xc4 1 & tt) (Ok Delivered)
  -- level and old value exchanged
  pub level_and_old_exchanged : NeverTells step_once.Post (full_room 8 3 & 1399 & 847 & 0 & q lends around & e lends neighbour 0xc4 1 & tt) step_told (left_with 2 3)
  -- the level counted from 1
  pub level_from_1 : NeverTells step_once.Post (full_room 8 3 & 1399 & 847 & 0 & q lends around & e lends neighbour 0xc4 1 & tt) step_told (left_with 4 2)
  -- the level of the next byte
  pub level_of_the_next_byte : NeverTells step_once.Post (full_room 8 3 & 1399 & 847 & 0 & q lends around & e lends neighbour 0xc4 1 & tt) step_told (left_with 1 2)
  -- the old value at the level of the next byte
  pub old_of_the_next_byte : NeverTells step_once.Post (full_room 8 3 & 1399 & 847 & 0 & q lends around & e lends neighbour 0xc4 1 & tt) step_told (left_with 3 6)
  -- the OutPort told as the level
  pub port_told_as_level : NeverTells step_once.Post (full_room 8 3 & 1399 & 847 & 0 & q lends around & e lends neighbour 0xc4 1 & tt) step_told (left_with 7 2)
  -- the level told as the OutPort
  pub level_told_as_port : NeverTells step_once.Post (full_room 8 3 & 1399 & 847 & 0 & q lends around & e lends neighbour 0xc4 1 & tt) step_told
      (record { refusal = none; delivered = false; next = 2423; index = 1; mac = mac; port = 3; level = 3; old = 2 })
  -- the level not told
  pub level_not_told : NeverTells step_once.Post (full_room 8 3 & 1399 & 847 & 0 & q lends around & e lends neighbour 0xc4 1 & tt) step_told (left_with 0 2)
  -- the old value not told
  pub old_not_told : NeverTells step_once.Post (full_room 8 3 & 1399 & 847 & 0 & q lends around & e lends neighbour 0xc4 1 & tt) step_told (left_with 3 0)
  -- the level of the first byte at every step: at 4567, with index 1
  pub level_of_the_first_byte : NeverTells step_once.Post (full_room 8 3 & 2423 & 847 & 1 & q lends around & e lends neighbour 0x41 1 & tt) step_told
      (record { refusal = none; delivered = false; next = 2383; index = 2; mac = mac; port = 7; level = 3; old = 6 })
  -- the old value of the hop before
  pub old_of_the_hop_before : NeverTells step_once.Post (full_room 8 3 & 2423 & 847 & 1 & q lends around & e lends neighbour 0x41 1 & tt) step_told
      (record { refusal = none; delivered = false; next = 2383; index = 2; mac = mac; port = 7; level = 1; old = 2 })
  -- the level of the byte that the index names told at a delivery
  pub level_at_delivery : NeverTells step_once.Post (full_room 8 3 & 847 & 847 & 0 & q lends around & e lends neighbour 0xc4 1 & tt) step_told (stood_with none true 3 0)
  -- the digit there told as an old value at a delivery
  pub old_at_delivery : NeverTells step_once.Post (full_room 8 3 & 847 & 847 & 0 & q lends around & e lends neighbour 0xc4 1 & tt) step_told (stood_with none true 0 1)
  -- the level of the hop that led there told at a delivery, after three hops
  pub last_level_at_delivery : NeverTells step_once.Post (full_room 8 3 & 847 & 847 & 3 & q lends around & e lends neighbour 0xc1 1 & tt) step_told (stood_with none true 3 0)
  -- the old value of that hop told at a delivery
  pub last_old_at_delivery : NeverTells step_once.Post (full_room 8 3 & 847 & 847 & 3 & q lends around & e lends neighbour 0xc1 1 & tt) step_told (stood_with none true 0 4)
  -- any level or old value told at a delivery
  pub any_level_at_delivery : (s : Shape) (a d i : ℕ) (bs es : List ℕ) (y : declared.Step) → y.delivered ≡ true → y.level ≢ 0 → NeverTells step_once.Post (s & a & d & i & q lends bs & e lends es & tt) step_told y
  pub any_old_at_delivery : (s : Shape) (a d i : ℕ) (bs es : List ℕ) (y : declared.Step) → y.delivered ≡ true → y.old ≢ 0 → NeverTells step_once.Post (s & a & d & i & q lends bs & e lends es & tt) step_told y
  -- the level told with 19
  pub level_with_19 : NeverTells step_once.Post (full_room 8 3 & 1399 & 847 & 0 & q lends around & e lends neighbour 0xc4 0 & tt) step_told (stood_with (refused_at 19 1 1) false 3 0)
  -- the old value told with 19
  pub old_with_19 : NeverTells step_once.Post (full_room 8 3 & 1399 & 847 & 0 & q lends around & e lends neighbour 0xc4 0 & tt) step_told (stood_with (refused_at 19 1 1) false 0 2)
  -- the level of the last byte told with 18
  pub level_with_18 : NeverTells step_once.Post (full_room 8 3 & 1399 & 847 & 8 & q lends replicate 8 0xc4 & e lends neighbour 0xc4 1 & tt) step_told (stood_with (plain 18) false 3 0)
  -- the old value there told with 18
  pub old_with_18 : NeverTells step_once.Post (full_room 8 3 & 1399 & 847 & 8 & q lends replicate 8 0xc4 & e lends neighbour 0xc4 1 & tt) step_told (stood_with (plain 18) false 0 2)
  -- the level told with 10: byte c2 changes nothing
  pub level_with_10 : NeverTells step_once.Post (full_room 8 3 & 1399 & 847 & 0 & q lends array (0xc2 ∷ []) & e lends neighbour 0xc2 1 & tt) step_told (stood_with (refused_at 10 1 1) false 3 0)
  -- the old value, which is the new one, told with 10
  pub old_with_10 : NeverTells step_once.Post (full_room 8 3 & 1399 & 847 & 0 & q lends array (0xc2 ∷ []) & e lends neighbour 0xc2 1 & tt) step_told (stood_with (refused_at 10 1 1) false 0 2)
  -- the old value told with 9: byte c8
  pub old_with_9 : NeverTells step_once.Post (full_room 8 3 & 1399 & 847 & 0 & q lends array (0xc8 ∷ []) & e lends neighbour 0xc8 1 & tt) step_told (stood_with (refused_at 9 1 1) false 0 2)
  -- the level told with 8: byte 80 at 00 of (4,1)
  pub level_with_8 : NeverTells step_once.Post (full_room 4 1 & 0 & 7 & 0 & q lends array (0x80 ∷ []) & e lends neighbour 0x80 1 & tt) step_told (stood_with (refused_at 8 1 1) false 2 0)
  -- any level or old value told on a refusal
  pub any_level_on_refusal : (s : Shape) (a d i : ℕ) (bs es : List ℕ) (y : declared.Step) → y.refusal.number ≢ 0 → y.level ≢ 0 → NeverTells step_once.Post (s & a & d & i & q lends bs & e lends es & tt) step_told y
  pub any_old_on_refusal : (s : Shape) (a d i : ℕ) (bs es : List ℕ) (y : declared.Step) → y.refusal.number ≢ 0 → y.old ≢ 0 → NeverTells step_once.Post (s & a & d & i & q lends bs & e lends es & tt) step_told y
