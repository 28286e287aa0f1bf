-- The fill of a room wrongly tested or counted, refuted of every call.
use Prim.Native.Nat.{ℕ}
use mathlib.Core.Path.{◌≡◌, refl, sym, ap, ◌∙◌}
use mathlib.Core.Logic.{◌≢◌}
use mathlib.Core.Bool.{Bool, true, false, not, ◌&&◌, not-not}
use mathlib.Core.List.Memᴰ
use mathlib.Core.List.{List, [], ◌∷◌, Memᴰ as In}
use lib.Dec.{eqb}
use lib.ListN.{replicate}
use Rattle.lists.specs.Lists.{filled, is_in}
use Rattle.lists.proofs.ListLaws.{both_held}
use Rattle.refusals.specs.Refusals.{Refusal, plain, ◌or_else◌}
use Rattle.room.specs.declared.Shape.{Shape}
use Rattle.room.specs.Told.{Number, Digits, Switch, Between}
use Rattle.room.specs.Shapes.{servers_of, bound}
use Rattle.room.specs.Digits.{digits_of, address_of, differ_from}
use Rattle.room.specs.Addresses.{digits, digit, with_digit, switch_of, switches_at, differing}
use Rattle.room.specs.Refusals.{shape_refusal, level_refusal, server_refusal, pair_refusal, link_refusal, value_refusal, place_bound, places_fit, places_refusal, ends_refusal}
use Rattle.room.specs.Answers.{servers_answer, bound_answer, digits_answer, digit_answer, address_answer, switch_answer, neighbour_answer, between_answer}
use Rattle.room.specs.Wiring.{server_at, port_refusal, switches_answer, server_at_answer}
use Rattle.links.specs.Told.{Asked}
use Rattle.links.specs.Table as links
use Rattle.links.specs.Table.{room_refusal}
use Rattle.links.specs.Answers.{failed_answer}
use Rattle.trees.specs.Trees.{level_at, last_apart, lowered_at, hangs_at, lowered, parent_of}
use Rattle.trees.specs.Answers.{parent_refusal, parent_answer, tree_answer}
use Rattle.summary.specs.Told.{DeadSwitch}
use Rattle.summary.specs.Refusals.{counted_link_refusal, counted_server_refusal, summary_refusal, entries_refusal}
use Rattle.summary.specs.Answers.{link_answer, server_answer, dead_answer, fresh_answer}
use Rattle.path.specs.Told.{Parts, Hop, Walked, Reading, Writing}
use Rattle.path.specs.Routes.{byte_of}
use Rattle.path.specs.Walks.{hop_to, hop_refusal, again, fault, ended, walk_from, walk, write_fault, write_from}
use Rattle.path.specs.Bytes.{made_refusal, byte_answer, parts_refusal, parts_answer}
use Rattle.path.specs.Answers.{array_refusal, walk_answer, read_answer, reverse_answer, hop_from, hop_answer, servers_refusal, write_refusal, on_the_way, write_answer}
use Rattle.verdict.specs.Checks.{list_refusal, check_answer}
use Rattle.build.specs.Told.{Building}
use Rattle.build.specs.Built.{built_arrays}
use Rattle.build.specs.Sets.{set_of}
use Rattle.build.specs.Answers.{build_answer}
use Rattle.laying.specs.Answers.{lay_refusal}
use Rattle.finder.specs.Told.{Found}
use Rattle.finder.specs.Answers.{no_route}
use Rattle.select.specs.Told.{Selection}
use Rattle.select.specs.Selection.{no_selection}
use Rattle.pick.specs.Told.{Place}
use Rattle.pick.specs.Picks.{lists_refusal, pick_source, pick_refusal, pick_answer}
use Rattle.pick.specs.Places.{place_answer}
use Rattle.step.specs.Told as declared
use Rattle.step.specs.Steps.{given_refusal, step_refusal, at_hop, with_place, step_answer}
use Rattle.driver.specs.declared.Answer.{Answer}
use Rattle.driver.specs.declared.Stepped.{Stepped}
use Rattle.driver.specs.Rooms.{held, room_of, shape_in}
use Rattle.driver.specs.Words.{word, refusal_in, number_word, digits_word, switch_word, parts_word, hop_word, reading_word, writing_word, building_word, place_word, between_word, asked_word, dead_word}
use Rattle.driver.specs.Packed.{step_word, packed, step_in, unpacked}
use Rattle.wrong.specs.Never.{Loan}
use Rattle.wrong.specs.Examples.{array}
use Rattle.wrong.specs.Fill.{Fill}
use Rattle.wrong.proofs.Clash.{differ, tells, bit as truth}
use Rattle.wrong.proofs.Driver.{find-refused, select-refused}

-- ---- rooms, each with a number

-- whether all of them pass a test
abbrev every : {S : Type 0} → (S → ℕ → Bool) → List (S × ℕ) → Bool
every p [] = true
every p (x ∷ xs) = p x.0 x.1 && every p xs

of_every : {S : Type 0} (p : S → ℕ → Bool) (xs : List (S × ℕ)) → every p xs ≡ true → (s : S) (v : ℕ) → In (s, v) xs → p s v ≡ true
of_every p [] e s v m = absurd (Memᴰ.not-nil m)
of_every {S} p (x ∷ xs) e s v (In.head q) = ap (λ (y : S × ℕ). p y.0 y.1) q ∙ (both_held (p x.0 x.1) (every p xs) e).0
of_every p (x ∷ xs) e s v (In.tail m) = of_every p xs (both_held (p x.0 x.1) (every p xs) e).1 s v m

-- whether f gives of none of them the number that stands with it
abbrev misses : {S : Type 0} → (S → ℕ) → List (S × ℕ) → Bool
misses f xs = every (λ s v. not (eqb (f s) v)) xs

missed : {S : Type 0} (f : S → ℕ) (xs : List (S × ℕ)) → misses f xs ≡ true → (s : S) (v : ℕ) → In (s, v) xs → eqb (f s) v ≡ false
missed f xs e s v m = sym (not-not (eqb (f s) v)) ∙ ap not (of_every (λ s v. not (eqb (f s) v)) xs e s v m)

-- a result that is the answer, whichever of them the room is, does not tell the number that stands with it
never : {S R : Type 0} (f : R → ℕ) (answer : S → R) {xs : List (S × ℕ)} → misses (λ s. f (answer s)) xs ≡ true → (s : S) (v : ℕ) → In (s, v) xs → {y : R} → y ≡ answer s → f y ≡ v → ⊥
never f answer {xs} e s v m = tells f (missed (λ s. f (answer s)) xs e s v m)

-- each of them is refused, with servers 0 and 1 and a table of no bytes
refused : {S : Type 0} (shape : S → Shape) {xs : List (S × ℕ)} → every (λ s v. not (eqb (room_refusal (shape s) [] 0 1) 0)) xs ≡ true → (s : S) (v : ℕ) → In (s, v) xs → room_refusal (shape s) [] 0 1 ≢ 0
refused shape {xs} e s v m z = differ truth refl (sym (of_every (λ s v. not (eqb (room_refusal (shape s) [] 0 1) 0)) xs e s v m) ∙ ap (λ (r : ℕ). not (eqb r 0)) z)

-- ---- all of them

-- the number of a refusal, and of the refusal in a word
abbrev number : Refusal → ℕ
number y = y.number

abbrev said : Answer → ℕ
said y = (refusal_in y).number

pub wrong_fill : (o q b : Loan) → Fill o q b
unfolding servers_of bound digits_of address_of filled differ_from digits digit with_digit switch_of differing ◌or_else◌ shape_refusal level_refusal server_refusal pair_refusal link_refusal value_refusal place_bound places_fit places_refusal servers_answer bound_answer digits_answer digit_answer address_answer switch_answer neighbour_answer between_answer links.bit links.failed links.live links.table_refusal links.table_link_refusal links.table_server_refusal links.room_table_refusal failed_answer counted_link_refusal counted_server_refusal summary_refusal entries_refusal link_answer server_answer dead_answer fresh_answer is_in byte_of hop_to hop_refusal again fault ended walk_from walk write_fault write_from ends_refusal hop_from hop_answer array_refusal walk_answer read_answer reverse_answer servers_refusal write_refusal on_the_way write_answer room_refusal list_refusal check_answer built_arrays set_of build_answer lists_refusal pick_source pick_refusal place_answer given_refusal step_refusal at_hop with_place step_answer switches_at server_at port_refusal switches_answer server_at_answer made_refusal byte_answer parts_refusal parts_answer level_at last_apart lowered_at hangs_at lowered parent_of parent_refusal parent_answer tree_answer held room_of shape_in word refusal_in between_word asked_word dead_word step_word packed lay_refusal pick_answer step_in unpacked
wrong_fill o q b =
    record {
      shape-refusal = λ s v m κ y x. never (λ y. y) shape_refusal refl s v m;
      server-refusal = λ s v m κ y x. never (λ y. y) (λ s. server_refusal s 0) refl s v m;
      pair-refusal = λ s v m κ y x. never (λ y. y) (λ s. pair_refusal s 0 1) refl s v m;
      ends-refusal = λ s v m κ y x. never (λ y. y) (λ s. ends_refusal s 0 1) refl s v m;
      link-refusal = λ s v m κ y x. never (λ y. y) (λ s. link_refusal s 0 0) refl s v m;
      servers-of = λ s v m κ y x. never (λ (y : Number). y.refusal.number) servers_answer refl s v m;
      bound_of = λ s v m κ y x. never (λ (y : Number). y.refusal.number) (λ s. bound_answer s 0) refl s v m;
      digits-of = λ s v m κ y x. never (λ (y : Digits). y.refusal.number) (λ s. digits_answer s 0) refl s v m;
      digit_of = λ s v m κ y x. never (λ (y : Number). y.refusal.number) (λ s. digit_answer s 0 0) refl s v m;
      address-of = λ s v m κ y x. never (λ (y : Number). y.refusal.number) (λ s. address_answer s (replicate 4 0)) refl s v m;
      switch-of = λ s v m κ y x. never (λ (y : Switch). y.refusal.number) (λ s. switch_answer s 0 0) refl s v m;
      switches-of = λ s v m κ y x. never (λ (y : Number). y.refusal.number) (λ s. switches_answer s 0) refl s v m;
      server-at = λ s v m κ y x. never (λ (y : Number). y.refusal.number) (λ s. server_at_answer s 0 0 0) refl s v m;
      neighbour_of = λ s v m κ y x. never (λ (y : Number). y.refusal.number) (λ s. neighbour_answer s 0 0 1) refl s v m;
      level_between = λ s v m κ y x. never (λ (y : Between). y.refusal.number) (λ s. between_answer s 0 1) refl s v m;
      table-refusal = λ s v m κ y x. never (λ y. y) (λ s. links.room_table_refusal s []) refl s v m;
      room-refusal = λ s v m κ y x. never (λ y. y) (λ s. room_refusal s [] 0 1) refl s v m;
      failed_link = λ s v m κ y x. never (λ (y : Asked). y.refusal.number) (λ s. failed_answer s [] 0 0) refl s v m;
      table-link-refusal = λ s v m κ y x. never (λ y. y) (λ s. links.table_link_refusal s [] 0 0) refl s v m;
      table-server-refusal = λ s v m κ y x. never (λ y. y) (λ s. links.table_server_refusal s [] 0) refl s v m;
      parent-of = λ s v m κ y x. never (λ (y : Number). y.refusal.number) (λ s. parent_answer s 0 0 1) refl s v m;
      write_tree = λ s v m κ y x p. never (λ (y : Number). y.refusal.number) (λ s. tree_answer s 0 0) refl s v m p.0;
      mark-link = λ s v m κ y x p. never number (λ s. link_answer s [] [] 0 0) refl s v m p.0;
      clear-link = λ s v m κ y x p. never number (λ s. link_answer s [] [] 0 0) refl s v m p.0;
      mark-server = λ s v m κ y x p. never number (λ s. server_answer s [] [] 0) refl s v m p.0;
      clear-server = λ s v m κ y x p. never number (λ s. server_answer s [] [] 0) refl s v m p.0;
      dead-switch = λ s v m κ y x. never (λ (y : DeadSwitch). y.refusal.number) (λ s. dead_answer s [] []) refl s v m;
      summarize = λ s v m κ y x p. never number (λ s. fresh_answer s [] []) refl s v m p.0;
      byte-of = λ s v m κ y x. never (λ (y : Number). y.refusal.number) (λ s. byte_answer s 0 1) refl s v m;
      parts_of = λ s v m κ y x. never (λ (y : Parts). y.refusal.number) (λ s. parts_answer s 0x01) refl s v m;
      hop_of = λ s v m κ y x. never (λ (y : Hop). y.refusal.number) (λ s. hop_answer s 0 0x01) refl s v m;
      walk = λ s v m κ y x. never (λ (y : Walked). y.refusal.number) (λ s. walk_answer s [] 0 1 (array (0x01 ∷ []))) refl s v m;
      read_path = λ s v m κ y x. never (λ (y : Reading). y.refusal.number) (λ s. read_answer s 0 1 (array (0x01 ∷ []))) refl s v m;
      write_path = λ s v m κ y x. never (λ (y : Writing). y.refusal.number) (λ s. write_answer s (0 ∷ 1 ∷ [])) refl s v m;
      reverse_path = λ s v m κ y x. never (λ (y : Writing). y.refusal.number) (λ s. reverse_answer s 0 1 (array (0x01 ∷ []))) refl s v m;
      check_list = λ s v m κ y x. never number (λ s. check_answer s [] 0 1 (array (0x01 ∷ []))) refl s v m;
      build_routes = λ s v m κ y x. never (λ (y : Building). y.refusal.number) (λ s. build_answer s 0 1) refl s v m;
      lay_route = λ s v m κ y x p. never number (λ s. lay_refusal s [] 0 1 (array (0x01 ∷ []))) refl s v m p.refusal;
      find_route = λ s v m κ y x p. never (λ (y : Found). y.refusal.number) (λ s. no_route (room_refusal s [] 0 1)) refl s v m (p.0.refused (refused (λ s. s) refl s v m));
      select_routes = λ s v m κ y x p. never (λ (y : Selection). y.refusal.number) (λ s. no_selection (room_refusal s [] 0 1)) refl s v m (p.refused (refused (λ s. s) refl s v m));
      pick_place = λ s v m κ y x. never (λ (y : Place). y.refusal.number) (λ s. place_answer s [] 0 1 (array (0x01 ∷ [])) []) refl s v m;
      pick-refusal = λ s v m κ y x. never number (λ s. pick_answer s [] 0 1 (array (0x01 ∷ [])) []) refl s v m;
      step_once = λ s v m κ y x. never (λ (y : declared.Step). y.refusal.number) (λ s. step_answer s 0 1 0 (array (0x01 ∷ [])) []) refl s v m;
      bcube_shape = λ c v m κ y x. never said (λ c. word (plain (shape_refusal (shape_in c))) 0) refl c v m;
      bcube_servers = λ c v m κ y x. never said (λ c. number_word (servers_answer (shape_in c))) refl c v m;
      bcube_bound = λ c v m κ y x. never said (λ c. number_word (bound_answer (shape_in c) 0)) refl c v m;
      bcube_switches = λ c v m κ y x. never said (λ c. number_word (switches_answer (shape_in c) 0)) refl c v m;
      bcube_digits = λ c v m κ y x p. never said (λ c. digits_word (digits_answer (shape_in c) 0)) refl c v m p.0;
      bcube_digit = λ c v m κ y x. never said (λ c. number_word (digit_answer (shape_in c) 0 0)) refl c v m;
      bcube_address = λ c v m κ y x. never said (λ c. number_word (address_answer (shape_in c) (replicate 4 0))) refl c v m;
      bcube_switch = λ c v m κ y x. never said (λ c. switch_word (switch_answer (shape_in c) 0 0)) refl c v m;
      bcube_server_at = λ c v m κ y x. never said (λ c. number_word (server_at_answer (shape_in c) 0 0 0)) refl c v m;
      bcube_neighbour = λ c v m κ y x. never said (λ c. number_word (neighbour_answer (shape_in c) 0 0 1)) refl c v m;
      bcube_between = λ c v m κ y x. never said (λ c. between_word (between_answer (shape_in c) 0 1)) refl c v m;
      bcube_failed_link = λ c v m κ y x. never said (λ c. asked_word (failed_answer (shape_in c) [] 0 0)) refl c v m;
      bcube_mark = λ c v m κ y x p. never said (λ c. word (link_answer (shape_in c) [] [] 0 0) 0) refl c v m p.0;
      bcube_clear = λ c v m κ y x p. never said (λ c. word (link_answer (shape_in c) [] [] 0 0) 0) refl c v m p.0;
      bcube_mark_all = λ c v m κ y x p. never said (λ c. word (server_answer (shape_in c) [] [] 0) 0) refl c v m p.0;
      bcube_clear_all = λ c v m κ y x p. never said (λ c. word (server_answer (shape_in c) [] [] 0) 0) refl c v m p.0;
      bcube_dead_switch = λ c v m κ y x. never said (λ c. dead_word (dead_answer (shape_in c) [] [])) refl c v m;
      bcube_summarize = λ c v m κ y x p. never said (λ c. word (fresh_answer (shape_in c) [] []) 0) refl c v m p.0;
      bcube_path_byte = λ c v m κ y x. never said (λ c. number_word (byte_answer (shape_in c) 0 1)) refl c v m;
      bcube_path_byte_parts = λ c v m κ y x. never said (λ c. parts_word (parts_answer (shape_in c) 0x01)) refl c v m;
      bcube_hop_of = λ c v m κ y x. never said (λ c. hop_word (hop_answer (shape_in c) 0 0x01)) refl c v m;
      bcube_read = λ c v m κ y x p. never said (λ c. reading_word (read_answer (shape_in c) 0 1 (array (0x01 ∷ [])))) refl c v m p.0;
      bcube_write = λ c v m κ y x p. never said (λ c. writing_word (write_answer (shape_in c) (0 ∷ 1 ∷ []))) refl c v m p.0;
      bcube_reverse = λ c v m κ y x p. never said (λ c. writing_word (reverse_answer (shape_in c) 0 1 (array (0x01 ∷ [])))) refl c v m p.0;
      bcube_check = λ c v m κ y x. never said (λ c. word (check_answer (shape_in c) [] 0 1 (array (0x01 ∷ []))) 0) refl c v m;
      bcube_build = λ c v m κ y x p. never said (λ c. building_word (build_answer (shape_in c) 0 1)) refl c v m p.0;
      bcube_find = λ c v m κ y x p. never said (λ c. word (plain (room_refusal (shape_in c) [] 0 1)) 0) refl c v m (find-refused (refused shape_in refl c v m) p);
      bcube_select = λ c v m κ y x p. never said (λ c. word (plain (room_refusal (shape_in c) [] 0 1)) 0) refl c v m (select-refused (refused shape_in refl c v m) p);
      bcube_pick = λ c v m κ y x. never said (λ c. place_word (place_answer (shape_in c) [] 0 1 (array (0x01 ∷ [])) [])) refl c v m;
      bcube_step = λ c v m κ y x. never (λ (y : Stepped). (unpacked y).refusal.number) (λ c. packed (step_answer (shape_in c) 0 1 0 (array (0x01 ∷ [])) [])) refl c v m;
      bcube_parent = λ c v m κ y x. never said (λ c. number_word (parent_answer (shape_in c) 0 0 1)) refl c v m;
      bcube_tree = λ c v m κ y x p. never said (λ c. number_word (tree_answer (shape_in c) 0 0)) refl c v m p.0;
    }
