-- Laws of words and numbers: a word read on from a place, and the words of a line.
use Prim.Native.Nat.{ℕ, zero, suc, ◌+◌, ◌-◌, ◌*◌, ◌≤◌, ◌<◌}
use mathlib.Core.Path.{◌≡◌, refl, sym, ap, ap₂, ◌∙◌}
use mathlib.Core.Logic.{◌≢◌, ◌⊎◌, inl, inr}
use mathlib.Core.Bool.{Bool, true, false, cond, ◌&&◌}
use mathlib.Core.List.{List, [], ◌∷◌, ◌++◌, map, append_assoc, append-nil}
use native.Mathlib.Numerals.{add-one, sub-one}
use native.Mathlib.Omega.{arith}
use native.Mathlib.Decide.{ℕ_discrete}
use lib.Dec.{ltb, leb}
use lib.ListN.{length, get_or, set, take, drop, replicate, length-set, length-replicate, drop_of_length-le}
use lib.Seq.{drop-cons, take_all}
use Rattle.std.specs.Prelude.{Option, None, Some, MatchOption}
use Rattle.std.specs.Borrow.{Bor}
use borrow.Author.Tests.{lt-ltb, le-ltb, le-leb, lt-leb}
use Rattle.lists.specs.Lists.{filled}
use Rattle.lists.proofs.ListLaws.{taken_on, filled_at}
use Rattle.desk_line.specs.Lines.{newline, space, before, after, line_size}
use Rattle.desk_line.specs.Numbers.{Word, Words, Question, TreeQuestion, digits_only, value_from, no_word, a_word, word_of, words_of, all_numbers, no_numbers, numbers_by, numbers_of, numbers_in, question_by, question_of, tree_question_by, tree_question_of, as_words, as_question, as_tree_question}
use Rattle.desk_line.proofs.LineLaws.{before_more, before_le, before_all, after_none}

-- the word that is left, after digits that wrote v
unfoldable pub read_on : ℕ → List ℕ → Word
read_on v w = cond (digits_only w && leb (value_from v w) 65535) (a_word (value_from v w)) no_word

and-false : (t : Bool) → t && false ≡ false
and-false true = refl
and-false false = refl

pub value_grows : (v : ℕ) (w : List ℕ) → v ≤ value_from v w
unfolding value_from
value_grows v [] = omega arith
value_grows v (b ∷ bs) = omega (arith, value_grows (10 * v + (b - 48)) bs)

-- ---- one byte

low : (v b : ℕ) (bs : List ℕ) → b < 48 → read_on v (b ∷ bs) ≡ no_word
unfolding read_on digits_only
low v b bs h = rw (lt-leb 48 b h)

high : (v b : ℕ) (bs : List ℕ) → 48 ≤ b → 57 < b → read_on v (b ∷ bs) ≡ no_word
unfolding read_on digits_only
high v b bs h k = rw (le-leb 48 b h, lt-leb b 57 k)

large : (v b : ℕ) (bs : List ℕ) → 65535 < 10 * v + (b - 48) → read_on v (b ∷ bs) ≡ no_word
unfolding read_on value_from
large v b bs h =
    let k : 65535 < value_from (10 * v + (b - 48)) bs = omega (arith, value_grows (10 * v + (b - 48)) bs) in
    rw (lt-leb (value_from (10 * v + (b - 48)) bs) 65535 k, and-false (digits_only (b ∷ bs)))

more : (v b : ℕ) (bs : List ℕ) → 48 ≤ b → b ≤ 57 → read_on v (b ∷ bs) ≡ read_on (10 * v + (b - 48)) bs
unfolding read_on digits_only value_from
more v b bs h k = rw (le-leb 48 b h, le-leb b 57 k)

-- ---- from place i on: what is left there is the whole word's answer

module _ (v : ℕ) (w : List ℕ) (i : ℕ) (e : read_on v (drop i w) ≡ word_of w) (h : i < length w) where
  at_place : read_on v (get_or w i 0 ∷ drop (suc i) w) ≡ word_of w
  at_place = ap (read_on v) (sym (drop-cons w i 0 h)) ∙ e

  pub read_other : (get_or w i 0 < 48) ⊎ (57 < get_or w i 0) → no_word ≡ word_of w
  read_other (inl k) = sym (low v (get_or w i 0) (drop (suc i) w) k) ∙ at_place
  read_other (inr k) = sym (high v (get_or w i 0) (drop (suc i) w) (omega arith) k) ∙ at_place

  pub read-large : 65535 < 10 * v + (get_or w i 0 - 48) → no_word ≡ word_of w
  read-large k = sym (large v (get_or w i 0) (drop (suc i) w) k) ∙ at_place

  pub read_more : 48 ≤ get_or w i 0 → get_or w i 0 ≤ 57 → read_on (10 * v + (get_or w i 0 - 48)) (drop (i + 1) w) ≡ word_of w
  read_more k l = rw add-one (sym (more v (get_or w i 0) (drop (suc i) w) k l) ∙ at_place)

pub read-end : (v : ℕ) (w : List ℕ) (i : ℕ) → read_on v (drop i w) ≡ word_of w → length w ≤ i → v ≤ 65535 → a_word v ≡ word_of w
unfolding read_on digits_only value_from
read-end v w i e h k = sym (ap (read_on v) (drop_of_length-le w h) ∙ rw (le-leb v 65535 k)) ∙ e

-- ---- the whole word

pub word_empty : (w : List ℕ) → length w ≡ 0 → no_word ≡ word_of w
unfolding word_of
word_empty w e = rw (le-ltb 0 (length w) (omega arith))

pub word_some : (w : List ℕ) → length w ≢ 0 → read_on 0 w ≡ word_of w
unfolding word_of read_on
word_some w h = let k : 0 < length w = omega arith in rw (lt-ltb 0 (length w) k)

-- ---- the words of a line

-- the numbers of a line of which words were read already, with the values xs: those and the words ws
unfoldable pub numbers_after : List ℕ → List Word → Words
numbers_after xs ws = cond (all_numbers ws) (record { numbers = true; values = filled 5 (xs ++ map (λ w. w.value) ws) }) no_numbers

-- where one is no number, there are none
word-missing : (xs : List ℕ) (ws : List Word) → all_numbers ws ≡ false → numbers_after xs ws ≡ no_numbers
unfolding numbers_after
word-missing xs ws e = rw e

word-there : (xs : List ℕ) (v : ℕ) (ws : List Word) → numbers_after xs (a_word v ∷ ws) ≡ numbers_after (xs ++ (v ∷ [])) ws
unfolding numbers_after all_numbers
word-there xs v ws = rw append_assoc

words_end : (xs : List ℕ) → numbers_after xs [] ≡ as_words (Some xs)
unfolding numbers_after all_numbers
words_end xs = rw (append-nil xs)

first-missing : (ws : List Word) → all_numbers (no_word ∷ ws) ≡ false
unfolding all_numbers
first-missing ws = refl

second-missing : (w : Word) → all_numbers (w ∷ no_word ∷ []) ≡ false
unfolding all_numbers
second-missing w = and-false w.number

-- no word can be read of nothing, nor of a text with a space
empty-missing : (w : Word) (m : ℕ) → all_numbers (w ∷ words_of m []) ≡ false
unfolding all_numbers words_of word_of before
empty-missing w zero = and-false w.number
empty-missing w (suc m) = and-false w.number

digits_none : (xs : List ℕ) → length (before space xs) < length xs → digits_only xs ≡ false
unfolding digits_only
digits_none [] h = let z : ⊥ = omega arith in absurd z
digits_none (b ∷ xs) h =
    elim (ℕ_discrete b space) [
      | yes q ↦ let l : b < 48 = omega arith in rw (lt-leb 48 b l)
      | no q ↦ let k : length (before space xs) < length xs = omega (arith, ap length (before_more space b xs q)) in
          rw (digits_none xs k) (and-false (leb 48 b && leb b 57))
    ]

spaced-missing : (xs : List ℕ) → length (before space xs) < length xs → all_numbers (word_of xs ∷ []) ≡ false
unfolding all_numbers word_of
spaced-missing xs h = rw (digits_none xs h, and-false (ltb 0 (length xs)))

-- the words that are still to be read of a line, of which this rest is left; where there are more or fewer, one that is no number
unfoldable pub words_left : ℕ → Option (Bor (List ℕ)) → List Word
words_left zero None = []
words_left zero (Some rest) = no_word ∷ []
words_left (suc m) None = no_word ∷ []
words_left (suc m) (Some rest) = words_of m rest.now

-- what the program finds behind the first word
abbrev pub After : List ℕ → Option (Bor (List ℕ)) → Type 0
After xs o = MatchOption o (length xs ≤ length (before space xs)) (λ rest. (length (before space xs) < length xs) × (rest.now ≡ after space xs))

word_step : (xs : List ℕ) (m : ℕ) (r : List ℕ) (o : Option (Bor (List ℕ))) → After r o → numbers_after xs (words_of m r) ≡ numbers_after xs (word_of (before space r) ∷ words_left m o)
unfolding words_of words_left
word_step xs zero r None h = ap (λ (w : List ℕ). numbers_after xs (word_of w ∷ [])) (before_all space r (omega (arith, before_le space r)))
word_step xs zero r (Some rest) h =
    word-missing xs (word_of r ∷ []) (spaced-missing r h.0)
    ∙ sym (word-missing xs (word_of (before space r) ∷ no_word ∷ []) (second-missing (word_of (before space r))))
word_step xs (suc m) r None h =
    rw (after_none space r h)
    (word-missing xs (word_of (before space r) ∷ words_of m []) (empty-missing (word_of (before space r)) m)
    ∙ sym (word-missing xs (word_of (before space r) ∷ no_word ∷ []) (second-missing (word_of (before space r)))))
word_step xs (suc m) r (Some rest) h = ap (λ (l : List ℕ). numbers_after xs (word_of (before space r) ∷ words_of m l)) (sym h.1)

-- the first i of n words are read: their values stand in vs, and this rest of the line is left
pub record WordsRead (line : List ℕ) (n : ℕ) (vs : List ℕ) (rest : Option (Bor (List ℕ))) (i : ℕ) : Type 0 where
  pub long : length vs ≡ n
  pub same : numbers_after (take i vs) (words_left (n - i) rest) ≡ numbers_of (n - 1) line

-- a line read in n words, from what is left of it
begun : (n : ℕ) (line : Bor (List ℕ)) → 0 < n → words_left n (Some line) ≡ words_of (n - 1) line.now
unfolding words_left
begun zero line h = let z : ⊥ = omega arith in absurd z
begun (suc m) line h = rw sub-one

pub words_start : (line : Bor (List ℕ)) (n : ℕ) → 0 < n → WordsRead line.now n (replicate n 0) (Some line) 0
unfolding numbers_of numbers_by numbers_after
words_start line n h =
    let e : n - 0 ≡ n = omega arith in
    record { long = length-replicate n 0; same = ap (numbers_after []) (ap (λ (m : ℕ). words_left m (Some line)) e ∙ begun n line h) }

module _ {line : List ℕ} {n : ℕ} {vs : List ℕ} {left : Option (Bor (List ℕ))} {i : ℕ} (p : WordsRead line n vs left i) where
  -- what is still read of it
  of_left : {o : Option (Bor (List ℕ))} {m : ℕ} → left ≡ o → n - i ≡ m → numbers_after (take i vs) (words_left m o) ≡ numbers_of (n - 1) line
  of_left e q = ap₂ (λ (o : Option (Bor (List ℕ))) (m : ℕ). numbers_after (take i vs) (words_left m o)) (sym e) (sym q) ∙ p.same

  module _ (h : i < n) where
    here : n - i ≡ suc (n - (i + 1))
    here = omega arith

    pub words_short : left ≡ None → no_numbers ≡ numbers_of (n - 1) line
    unfolding words_left
    words_short e = sym (word-missing (take i vs) (no_word ∷ []) (first-missing [])) ∙ of_left e here

    module _ (o : Option (Bor (List ℕ))) (rest : Bor (List ℕ)) (l : left ≡ Some rest) (word : List ℕ) (e : word ≡ before space rest.now) (a : After rest.now o) where
      next : numbers_after (take i vs) (word_of word ∷ words_left (n - (i + 1)) o) ≡ numbers_of (n - 1) line
      unfolding words_left
      next =
          ap (λ (w : List ℕ). numbers_after (take i vs) (word_of w ∷ words_left (n - (i + 1)) o)) e
          ∙ sym (word_step (take i vs) (n - (i + 1)) rest.now o a)
          ∙ of_left l here

      pub words_stop : no_word ≡ word_of word → no_numbers ≡ numbers_of (n - 1) line
      words_stop f =
          sym (word-missing (take i vs) (no_word ∷ words_left (n - (i + 1)) o) (first-missing (words_left (n - (i + 1)) o)))
          ∙ ap (λ (w : Word). numbers_after (take i vs) (w ∷ words_left (n - (i + 1)) o)) f
          ∙ next

      pub words_next : (v : ℕ) → a_word v ≡ word_of word → WordsRead line n (set vs i v) o (i + 1)
      words_next v f =
          record {
            long = length-set vs i v ∙ p.long;
            same = ap (λ (xs : List ℕ). numbers_after xs (words_left (n - (i + 1)) o)) (taken_on vs i v (omega (arith, p.long)))
                ∙ sym (word-there (take i vs) v (words_left (n - (i + 1)) o))
                ∙ ap (λ (w : Word). numbers_after (take i vs) (w ∷ words_left (n - (i + 1)) o)) f
                ∙ next;
          }

  module _ (h : n ≤ i) where
    over : n - i ≡ 0
    over = omega arith

    pub words_whole : left ≡ None → as_words (Some vs) ≡ numbers_of (n - 1) line
    unfolding words_left
    words_whole e =
        sym (words_end vs)
        ∙ ap (λ (xs : List ℕ). numbers_after xs []) (sym (take_all i vs (omega (arith, p.long))))
        ∙ of_left e over

    pub words_long : (rest : Bor (List ℕ)) → left ≡ Some rest → no_numbers ≡ numbers_of (n - 1) line
    unfolding words_left
    words_long rest e = sym (word-missing (take i vs) (no_word ∷ []) (first-missing [])) ∙ of_left e over

-- ---- the whole line

pub numbers_fit : (input : List ℕ) (m : ℕ) (o : Option (List ℕ)) (line : List ℕ) → line_size input ≤ 64 → line ≡ before newline input → as_words o ≡ numbers_of m line → as_words o ≡ numbers_in m input
unfolding numbers_in
numbers_fit input m o line h l f = rw (le-leb (line_size input) 64 h) (f ∙ ap (numbers_of m) l)

pub numbers-long : (input : List ℕ) (m : ℕ) → 64 < line_size input → no_numbers ≡ numbers_in m input
unfolding numbers_in
numbers-long input m h = rw (lt-leb (line_size input) 64 h)

-- ---- what is asked

abbrev pub question_from : List ℕ → Question
question_from vs = record { taken = true; n = get_or vs 0 0; k = get_or vs 1 0; source = get_or vs 2 0; destination = get_or vs 3 0 }

pub question-made : (input vs : List ℕ) → as_words (Some vs) ≡ numbers_in 3 input → question_from vs ≡ question_of input
unfolding question_of
question-made input vs e = rw (← filled_at 5 vs 0, ← filled_at 5 vs 1, ← filled_at 5 vs 2, ← filled_at 5 vs 3) (ap question_by e)

pub question-none : (input : List ℕ) → no_numbers ≡ numbers_in 3 input → as_question None ≡ question_of input
unfolding question_of
question-none input e = ap question_by e

abbrev pub tree_question_from : List ℕ → TreeQuestion
tree_question_from vs =
    record { taken = true; n = get_or vs 0 0; k = get_or vs 1 0; m = get_or vs 2 0; source = get_or vs 3 0; tree = get_or vs 4 0 }

pub tree-question-made : (input vs : List ℕ) → as_words (Some vs) ≡ numbers_in 4 input → tree_question_from vs ≡ tree_question_of input
unfolding tree_question_of
tree-question-made input vs e =
    rw (← filled_at 5 vs 0, ← filled_at 5 vs 1, ← filled_at 5 vs 2, ← filled_at 5 vs 3, ← filled_at 5 vs 4) (ap tree_question_by e)

pub tree-question-none : (input : List ℕ) → no_numbers ≡ numbers_in 4 input → as_tree_question None ≡ tree_question_of input
unfolding tree_question_of
tree-question-none input e = ap tree_question_by e
