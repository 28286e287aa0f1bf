-- The numbers of a line.
use Rattle.std.specs.Prelude.{ℕ, zero, suc, ◌+◌, ◌-◌, ◌*◌, List, [], ◌∷◌, map, Bool, true, false, Option, None, Some, cond, ◌&&◌, ltb, leb, length, get_or, replicate}
use Rattle.lists.specs.Lists.{filled}
use Rattle.desk_line.specs.declared.Question as asked
use Rattle.desk_line.specs.declared.TreeQuestion as tree_asked
use Rattle.desk_line.specs.Lines.{newline, space, before, after, line_size}

-- whether every byte is a decimal digit
unfoldable pub digits_only : List ℕ → Bool
digits_only [] = true
digits_only (b ∷ bs) = leb 48 b && leb b 57 && digits_only bs

-- the number that decimal digits write after those that wrote v
unfoldable pub value_from : ℕ → List ℕ → ℕ
value_from v [] = v
value_from v (b ∷ bs) = value_from (10 * v + (b - 48)) bs

-- ---- a word: one digit or more, and not above 65,535

-- a word of a line read as a number; or false and 0
pub record Word : Type 0 where
  pub number : Bool
  pub value : ℕ

abbrev pub no_word : Word
no_word = record { number = false; value = 0 }

abbrev pub a_word : ℕ → Word
a_word v = record { number = true; value = v }

unfoldable pub word_of : List ℕ → Word
word_of w =
    cond (ltb 0 (length w) && digits_only w && leb (value_from 0 w) 65535) (a_word (value_from 0 w)) no_word

-- ---- a line: numbers with single spaces, and nothing else

-- the words of a line that has m spaces: those before each, and all that follows the last
unfoldable pub words_of : ℕ → List ℕ → List Word
words_of zero line = word_of line ∷ []
words_of (suc m) line = word_of (before space line) ∷ words_of m (after space line)

-- whether each word is a number
unfoldable pub all_numbers : List Word → Bool
all_numbers [] = true
all_numbers (w ∷ ws) = w.number && all_numbers ws

-- the words of a line read as numbers, at most five, with zeros past the last; or false and zeros
pub record Words : Type 0 where
  pub numbers : Bool
  pub values : List ℕ

-- words that are not all numbers
abbrev pub no_numbers : Words
no_numbers = record { numbers = false; values = replicate 5 0 }

-- the numbers of these words, where each is one
unfoldable pub numbers_by : List Word → Words
numbers_by ws = cond (all_numbers ws) (record { numbers = true; values = filled 5 (map (λ w. w.value) ws) }) no_numbers

-- the numbers of a line that has m spaces
unfoldable pub numbers_of : ℕ → List ℕ → Words
numbers_of m line = numbers_by (words_of m line)

-- those of the first line of an input, of at most 64 bytes, read without its newline; what follows is ignored
unfoldable pub numbers_in : ℕ → List ℕ → Words
numbers_in m input = cond (leb (line_size input) 64) (numbers_of m (before newline input)) no_numbers

-- ---- what an input asks

-- number i of a line
abbrev pub value_at : Words → ℕ → ℕ
value_at r i = get_or r.values i 0

-- the four numbers of the desk's line; or false and zeros
pub record Question : Type 0 where
  pub taken : Bool
  pub n : ℕ
  pub k : ℕ
  pub source : ℕ
  pub destination : ℕ

-- the five numbers of the line of `tree`; or false and zeros
pub record TreeQuestion : Type 0 where
  pub taken : Bool
  pub n : ℕ
  pub k : ℕ
  pub m : ℕ
  pub source : ℕ
  pub tree : ℕ

-- of the desk: n, k, source and destination
abbrev pub question_by : Words → Question
question_by r = record { taken = r.numbers; n = value_at r 0; k = value_at r 1; source = value_at r 2; destination = value_at r 3 }

unfoldable pub question_of : List ℕ → Question
question_of input = question_by (numbers_in 3 input)

-- of `tree`: n, k, m, source and tree
abbrev pub tree_question_by : Words → TreeQuestion
tree_question_by r =
    record { taken = r.numbers; n = value_at r 0; k = value_at r 1; m = value_at r 2; source = value_at r 3; tree = value_at r 4 }

unfoldable pub tree_question_of : List ℕ → TreeQuestion
tree_question_of input = tree_question_by (numbers_in 4 input)

-- ---- each answer of the code, with what it stands for: nothing is false and zeros

abbrev pub as_word : Option ℕ → Word
as_word None = no_word
as_word (Some v) = a_word v

abbrev pub as_words : Option (List ℕ) → Words
as_words None = no_numbers
as_words (Some vs) = record { numbers = true; values = filled 5 vs }

abbrev pub as_question : Option asked.Question → Question
as_question None = record { taken = false; n = 0; k = 0; source = 0; destination = 0 }
as_question (Some q) = record { taken = true; n = q.n; k = q.k; source = q.source; destination = q.destination }

abbrev pub as_tree_question : Option tree_asked.TreeQuestion → TreeQuestion
as_tree_question None = record { taken = false; n = 0; k = 0; m = 0; source = 0; tree = 0 }
as_tree_question (Some q) = record { taken = true; n = q.n; k = q.k; m = q.m; source = q.source; tree = q.tree }
