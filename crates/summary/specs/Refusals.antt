-- Refusals of the calls with a summary, each chain with its numbers: 30 comes right after 6 (rules 8.2 and 8.4).
use Rattle.std.specs.Prelude.{ℕ, zero, suc, List, [], ◌∷◌, ◌++◌, Bool, true, ◌&&◌, eqb, length, get_or}
use Rattle.lists.specs.Lists.{same}
use Rattle.refusals.specs.Refusals.{◌or_else◌, ◌unless◌}
use Rattle.room.specs.declared.Shape.{Shape}
use Rattle.room.specs.Addresses.{switch_of}
use Rattle.links.specs.Table.{room_table_refusal, room_table_numbers, table_link_refusal, table_link_numbers, table_server_refusal, table_server_numbers}
use Rattle.summary.specs.Counts.{switches_in, place_of, count_at, summary_of}

-- ---- what is tested of a summary

-- whether there is an entry for each switch
unfoldable pub has_entries : Shape → List ℕ → Bool
has_entries s c = eqb (length c) (length (switches_in s))

-- whether the entry of the switch of server a at level l is what the table counts
unfoldable pub is_counted : Shape → List ℕ → List ℕ → ℕ → ℕ → Bool
is_counted s t c a l = eqb (get_or c (place_of s l (switch_of s l a)) 0) (count_at s t l (switch_of s l a))

-- whether those at all levels below l are
unfoldable pub are_counted : Shape → List ℕ → List ℕ → ℕ → ℕ → Bool
are_counted s t c a zero = true
are_counted s t c a (suc l) = are_counted s t c a l && is_counted s t c a l

-- ---- refusals

abbrev pub summary_numbers : List ℕ
summary_numbers = 30 ∷ []

-- a link marked or cleared: the entry of its switch alone is tested
unfoldable pub counted_link_refusal : Shape → List ℕ → List ℕ → ℕ → ℕ → ℕ
counted_link_refusal s t c a l = table_link_refusal s t a l or_else 30 unless (has_entries s c && is_counted s t c a l)

abbrev pub counted_link_numbers : List ℕ
counted_link_numbers = table_link_numbers ++ summary_numbers

-- a server marked or cleared: those of its switches at all levels are
unfoldable pub counted_server_refusal : Shape → List ℕ → List ℕ → ℕ → ℕ
counted_server_refusal s t c a = table_server_refusal s t a or_else 30 unless (has_entries s c && are_counted s t c a (suc s.k))

abbrev pub counted_server_numbers : List ℕ
counted_server_numbers = table_server_numbers ++ summary_numbers

-- the question: all entries are tested
unfoldable pub summary_refusal : Shape → List ℕ → List ℕ → ℕ
summary_refusal s t c = room_table_refusal s t or_else 30 unless same c (summary_of s t)

-- the summary counted afresh: its length alone is tested
unfoldable pub entries_refusal : Shape → List ℕ → List ℕ → ℕ
entries_refusal s t c = room_table_refusal s t or_else 30 unless has_entries s c

abbrev pub room_summary_numbers : List ℕ
room_summary_numbers = room_table_numbers ++ summary_numbers
