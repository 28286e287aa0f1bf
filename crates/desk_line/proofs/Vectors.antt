-- Worked lines and their answers, and one line of each other kind, from the definitions.
use mathlib.Core.Path.{◌≡◌, refl}
use mathlib.Core.List.{[], ◌∷◌, ◌++◌}
use Rattle.lists.specs.Lists.{filled, in_order}
use Rattle.refusals.specs.Refusals.{◌or_else◌}
use Rattle.room.specs.Shapes.{shape_of, servers_of, bound}
use Rattle.room.specs.Digits.{digits_of, address_of}
use Rattle.room.specs.Addresses.{digits, digit, with_digit}
use Rattle.room.specs.Refusals.{shape_refusal, server_refusal, pair_refusal, ends_refusal, level_refusal, link_refusal}
use Rattle.trees.specs.Trees.{level_at, last_apart, lowered_at, hangs_at, lowered, parent_of}
use Rattle.path.specs.Routes.{byte_of}
use Rattle.build.specs.Built.{plus_one, built_hops, bytes_of, built_bytes}
use Rattle.build.specs.Sets.{joined}
use Rattle.desk_line.specs.Lines.{before, after, line_size}
use Rattle.desk_line.specs.Numbers.{digits_only, value_from, word_of, words_of, all_numbers, numbers_by, numbers_of, numbers_in, question_of, tree_question_of}
use Rattle.desk_line.specs.Texts.{hex_digit, hex_of, decimal_in, decimal, refused_line, route_line}
use Rattle.desk_line.specs.Answers.{slot_line, routes_text, built_text, desk_text}
use Rattle.desk_line.specs.TreeLines.{pointed, server_words, parent_words, server_line, lines_of, tree_lines, tree_text}

-- "8 3 1 521"
pub worked_line : desk_text (56 ∷ 32 ∷ 51 ∷ 32 ∷ 49 ∷ 32 ∷ 53 ∷ 50 ∷ 49 ∷ 10 ∷ []) ≡
    (99 ∷ 49 ∷ 52 ∷ 49 ∷ 48 ∷ 48 ∷ 48 ∷ 48 ∷ 48 ∷ 48 ∷ 48 ∷ 48 ∷ 48 ∷ 48 ∷ 48 ∷ 48 ∷ 32 ∷ 50 ∷ 10 ∷ [])
    ++ (56 ∷ 49 ∷ 52 ∷ 49 ∷ 99 ∷ 49 ∷ 56 ∷ 48 ∷ 48 ∷ 48 ∷ 48 ∷ 48 ∷ 48 ∷ 48 ∷ 48 ∷ 48 ∷ 32 ∷ 52 ∷ 10 ∷ [])
    ++ (52 ∷ 49 ∷ 99 ∷ 49 ∷ 48 ∷ 48 ∷ 48 ∷ 48 ∷ 48 ∷ 48 ∷ 48 ∷ 48 ∷ 48 ∷ 48 ∷ 48 ∷ 48 ∷ 32 ∷ 50 ∷ 10 ∷ [])
    ++ (48 ∷ 50 ∷ 99 ∷ 49 ∷ 52 ∷ 49 ∷ 48 ∷ 49 ∷ 48 ∷ 48 ∷ 48 ∷ 48 ∷ 48 ∷ 48 ∷ 48 ∷ 48 ∷ 32 ∷ 52 ∷ 10 ∷ [])
unfolding desk_text built_text routes_text slot_line question_of numbers_in numbers_of numbers_by all_numbers words_of word_of value_from digits_only line_size before after ends_refusal pair_refusal server_refusal shape_refusal ◌or_else◌ servers_of refused_line route_line decimal decimal_in hex_of hex_digit joined built_bytes built_hops bytes_of byte_of filled plus_one bound digits digits_of
worked_line = refl

-- "8 3 1 1": refused 5
pub same_ends-line : desk_text (56 ∷ 32 ∷ 51 ∷ 32 ∷ 49 ∷ 32 ∷ 49 ∷ 10 ∷ []) ≡ 114 ∷ 101 ∷ 102 ∷ 117 ∷ 115 ∷ 101 ∷ 100 ∷ 32 ∷ 53 ∷ 10 ∷ []
unfolding desk_text built_text routes_text slot_line question_of numbers_in numbers_of numbers_by all_numbers words_of word_of value_from digits_only line_size before after ends_refusal pair_refusal server_refusal shape_refusal ◌or_else◌ servers_of refused_line route_line decimal decimal_in hex_of hex_digit joined built_bytes built_hops bytes_of byte_of filled plus_one bound digits digits_of
same_ends-line = refl

-- nothing: input
pub no_line : desk_text [] ≡ 105 ∷ 110 ∷ 112 ∷ 117 ∷ 116 ∷ 10 ∷ []
unfolding desk_text built_text routes_text slot_line question_of numbers_in numbers_of numbers_by all_numbers words_of word_of value_from digits_only line_size before after ends_refusal pair_refusal server_refusal shape_refusal ◌or_else◌ servers_of refused_line route_line decimal decimal_in hex_of hex_digit joined built_bytes built_hops bytes_of byte_of filled plus_one bound digits digits_of
no_line = refl

-- ---- trees

-- "2 1 2 0 0": the tree 0, 1, 3, 2
pub worked_tree : tree_text (50 ∷ 32 ∷ 49 ∷ 32 ∷ 50 ∷ 32 ∷ 48 ∷ 32 ∷ 48 ∷ 10 ∷ []) ≡
    (48 ∷ 32 ∷ 48 ∷ 46 ∷ 48 ∷ 32 ∷ 45 ∷ 32 ∷ 45 ∷ 10 ∷ [])
    ++ (49 ∷ 32 ∷ 48 ∷ 46 ∷ 49 ∷ 32 ∷ 48 ∷ 32 ∷ 48 ∷ 46 ∷ 48 ∷ 10 ∷ [])
    ++ (50 ∷ 32 ∷ 49 ∷ 46 ∷ 48 ∷ 32 ∷ 51 ∷ 32 ∷ 49 ∷ 46 ∷ 49 ∷ 10 ∷ [])
    ++ (51 ∷ 32 ∷ 49 ∷ 46 ∷ 49 ∷ 32 ∷ 49 ∷ 32 ∷ 48 ∷ 46 ∷ 49 ∷ 10 ∷ [])
unfolding tree_text tree_lines lines_of in_order server_line parent_words server_words pointed tree_question_of numbers_in numbers_of numbers_by all_numbers words_of word_of value_from digits_only line_size before after link_refusal server_refusal level_refusal shape_refusal ◌or_else◌ servers_of refused_line decimal decimal_in joined filled bound digits digits_of address_of digit with_digit parent_of lowered hangs_at lowered_at last_apart level_at
worked_tree = refl

-- server 521 of the half-filled room (8,3,4) in tree 3 of source 1: "521 1.0.1.1 513 1.0.0.1"
pub half_filled-line : server_line (shape_of 8 3 4) 1 3 521 ≡
    53 ∷ 50 ∷ 49 ∷ 32 ∷ 49 ∷ 46 ∷ 48 ∷ 46 ∷ 49 ∷ 46 ∷ 49 ∷ 32 ∷ 53 ∷ 49 ∷ 51 ∷ 32 ∷ 49 ∷ 46 ∷ 48 ∷ 46 ∷ 48 ∷ 46 ∷ 49 ∷ 10 ∷ []
unfolding tree_text tree_lines lines_of in_order server_line parent_words server_words pointed tree_question_of numbers_in numbers_of numbers_by all_numbers words_of word_of value_from digits_only line_size before after link_refusal server_refusal level_refusal shape_refusal ◌or_else◌ servers_of refused_line decimal decimal_in joined filled bound digits digits_of address_of digit with_digit parent_of lowered hangs_at lowered_at last_apart level_at
half_filled-line = refl

-- "4 1 1 16 2": refused 26
pub refused-tree : tree_text (52 ∷ 32 ∷ 49 ∷ 32 ∷ 49 ∷ 32 ∷ 49 ∷ 54 ∷ 32 ∷ 50 ∷ 10 ∷ []) ≡ 114 ∷ 101 ∷ 102 ∷ 117 ∷ 115 ∷ 101 ∷ 100 ∷ 32 ∷ 50 ∷ 54 ∷ 10 ∷ []
unfolding tree_text tree_lines lines_of in_order server_line parent_words server_words pointed tree_question_of numbers_in numbers_of numbers_by all_numbers words_of word_of value_from digits_only line_size before after link_refusal server_refusal level_refusal shape_refusal ◌or_else◌ servers_of refused_line decimal decimal_in joined filled bound digits digits_of address_of digit with_digit parent_of lowered hangs_at lowered_at last_apart level_at
refused-tree = refl

-- "2 1 2 0": input
pub four-numbers : tree_text (50 ∷ 32 ∷ 49 ∷ 32 ∷ 50 ∷ 32 ∷ 48 ∷ 10 ∷ []) ≡ 105 ∷ 110 ∷ 112 ∷ 117 ∷ 116 ∷ 10 ∷ []
unfolding tree_text tree_lines lines_of in_order server_line parent_words server_words pointed tree_question_of numbers_in numbers_of numbers_by all_numbers words_of word_of value_from digits_only line_size before after link_refusal server_refusal level_refusal shape_refusal ◌or_else◌ servers_of refused_line decimal decimal_in joined filled bound digits digits_of address_of digit with_digit parent_of lowered hangs_at lowered_at last_apart level_at
four-numbers = refl
