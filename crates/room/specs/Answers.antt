-- What each call of the room answers. On a refusal all but the refusal is zero.
use Rattle.std.specs.Prelude.{ℕ, Option, Some, None, List, [], ◌∷◌, true, false, replicate}
use Rattle.lists.specs.Lists.{filled}
use Rattle.refusals.specs.Refusals.{none, plain, answer}
use Rattle.room.specs.declared.Shape.{Shape}
use Rattle.room.specs.declared.Switch.{Switch as Named}
use Rattle.room.specs.Told.{Number, Digits, Switch, Between}
use Rattle.room.specs.Digits.{address_of}
use Rattle.room.specs.Shapes.{servers_of, bound}
use Rattle.room.specs.Addresses.{digits, digit, with_digit, switch_of, differing}
use Rattle.room.specs.Refusals.{shape_refusal, level_refusal, server_refusal, pair_refusal, link_refusal, value_refusal, places_refusal}

abbrev pub no_number : ℕ → Number
no_number r = record { refusal = plain r; value = 0 }

abbrev pub a_number : ℕ → Number
a_number v = record { refusal = none; value = v }

abbrev pub no_digits : ℕ → Digits
no_digits r = record { refusal = plain r; places = replicate 4 0 }

abbrev pub some_digits : List ℕ → Digits
some_digits ds = record { refusal = none; places = ds }

abbrev pub no_switch : ℕ → Switch
no_switch r = record { refusal = plain r; level = 0; number = 0 }

abbrev pub a_switch : ℕ → ℕ → Switch
a_switch l w = record { refusal = none; level = l; number = w }

abbrev pub no_between : ℕ → Between
no_between r = record { refusal = plain r; adjacent = false; level = 0 }

-- what is told of a switch
abbrev pub the_switch : Named → Switch
the_switch w = a_switch w.level w.number

-- neighbours at a level, or none
abbrev pub between : Option ℕ → Between
between None = no_between 0
between (Some l) = record { refusal = none; adjacent = true; level = l }

-- neighbours at level l, where that is the one level in which they differ
abbrev pub only_level : List ℕ → Between
only_level [] = no_between 0
only_level (l ∷ []) = record { refusal = none; adjacent = true; level = l }
only_level (l ∷ m ∷ ls) = no_between 0

unfoldable pub servers_answer : Shape → Number
servers_answer s = answer (shape_refusal s) no_number (a_number (servers_of s))

unfoldable pub bound_answer : Shape → ℕ → Number
bound_answer s l = answer (level_refusal s l) no_number (a_number (bound s l))

unfoldable pub digits_answer : Shape → ℕ → Digits
digits_answer s a = answer (server_refusal s a) no_digits (some_digits (filled 4 (digits s a)))

unfoldable pub digit_answer : Shape → ℕ → ℕ → Number
digit_answer s a l = answer (link_refusal s a l) no_number (a_number (digit s l a))

unfoldable pub address_answer : Shape → List ℕ → Number
address_answer s ds = answer (places_refusal s ds) no_number (a_number (address_of s.n ds))

unfoldable pub switch_answer : Shape → ℕ → ℕ → Switch
switch_answer s a l = answer (link_refusal s a l) no_switch (a_switch l (switch_of s l a))

unfoldable pub neighbour_answer : Shape → ℕ → ℕ → ℕ → Number
neighbour_answer s a l v = answer (value_refusal s a l v) no_number (a_number (with_digit s l v a))

unfoldable pub between_answer : Shape → ℕ → ℕ → Between
between_answer s a b = answer (pair_refusal s a b) no_between (only_level (differing s a b))
