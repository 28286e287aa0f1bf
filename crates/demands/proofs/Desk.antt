-- What the programs print, proved.
use Prim.Native.Nat.{ℕ, zero, suc, ◌-◌, ◌≤◌, ◌<◌}
use mathlib.Core.Path.{◌≡◌, refl, sym, ap, ap₂, subst, ◌∙◌}
use mathlib.Core.Logic.{◌≢◌, ◌⊎◌, inl, inr}
use mathlib.Core.Bool.{Bool, true, false, false≢true, cond, ◌&&◌}
use mathlib.Core.List.{List, [], ◌∷◌, ◌++◌, map, reverse, append-nil}
use native.Mathlib.Numerals.{add-one}
use native.Mathlib.Omega.{arith}
use native.Mathlib.Decide.{dec_lt, ℕ_discrete}
use native.Mathlib.Nat.{le_refl}
use lib.Dec.{ltb, leb, eqb}
use lib.ListN.{length, get_or, take, get_or-eq_default}
use borrow.Author.Tests.{lt-ltb, le-ltb, ltb-true, le-leb, leb-true, eq-eqb, ne_eqb}
use Rattle.lists.specs.Lists.{down_from, filled, in_order}
use Rattle.lists.proofs.ListLaws.{both_held, order-long, order-at, order_same}
use Rattle.refusals.proofs.AnswerLaws.{answer-refused, answer-none, answer-number, answered}
use Rattle.refusals.specs.Refusals.{answer}
use Rattle.room.specs.declared.Shape.{Shape}
use Rattle.room.specs.Told.{Number}
use Rattle.room.specs.Shapes.{shape_of, full_room, servers_of, Server, Link, Ends}
use Rattle.room.specs.Refusals.{ends_refusal, link_refusal}
use Rattle.room.specs.Answers.{no_number, a_number, digits_answer}
use Rattle.room.proofs.RefusalLaws.{pair_none, ends_of, link_of}
use Rattle.trees.specs.Trees.{parent_of}
use Rattle.trees.specs.Answers.{parent_refusal, parent_answer, tree_answer}
use Rattle.trees.proofs.ParentLaws.{source-asked, parent-answered}
use Rattle.trees.proofs.HopLaws.{parent-server}
use Rattle.trees.proofs.WholeLaws.{tree-answered}
use Rattle.path.specs.Answers.{read_answer}
use Rattle.build.specs.declared.RouteSet.{RouteSet}
use Rattle.build.specs.Told.{Building}
use Rattle.build.specs.Built.{built_hops, built_bytes, built_arrays}
use Rattle.build.specs.Sets.{array_in, joined, set_of}
use Rattle.build.specs.Answers.{no_building, a_building, build_answer}
use Rattle.desk_line.specs.Lines.{newline, space, before, after, line_size}
use Rattle.desk_line.specs.Numbers.{Word, Words, TreeQuestion, digits_only, value_from, no_word, a_word, word_of, words_of, all_numbers, no_numbers, numbers_by, numbers_of, numbers_in, question_by, question_of, tree_question_by, tree_question_of}
use Rattle.desk_line.specs.Texts.{decimal, input_line, refused_line, route_line}
use Rattle.desk_line.specs.Answers.{slot_line, routes_text, built_text, desk_text}
use Rattle.desk_line.specs.TreeLines.{pointed, server_words, parent_words, server_line, lines_of, tree_lines, tree_line, tree_text}
use Rattle.desk_line.proofs.LineLaws.{before_stop, before_more, before_le, size_stop, size_on}
use Rattle.desk_line.proofs.InputLaws.{desk_never_26, line_last, tree-few, lines-whole}
use Rattle.desk_line.proofs.AnswerLaws.{slot_read}
use Rattle.desk_line.proofs.TreeLineLaws.{own-digits, parent-none, parent-some, child}
use Rattle.demands.specs.Desk.{Each, Decimal, FourNumbers, Spaced, FirstLine, Asks, AsksWith, route_lines, DeskPrints, server_shown, parent_shown, line_shown, question, TreeAnswers, TreePrints}
use Rattle.demands.proofs.BuiltArrays.{slot-array}

-- ---- a text that has no byte c, and what follows it

module _ (c : ℕ) where
  before-all : (w rest : List ℕ) → Each (λ b. b ≢ c) w → before c (w ++ (c ∷ rest)) ≡ w
  before-all [] rest h = before_stop c c rest refl
  before-all (b ∷ w) rest h = before_more c b (w ++ (c ∷ rest)) h.0 ∙ ap (λ (x : List ℕ). b ∷ x) (before-all w rest h.1)

  before-none : (w : List ℕ) → Each (λ b. b ≢ c) w → before c w ≡ w
  unfolding before
  before-none [] h = refl
  before-none (b ∷ w) h = before_more c b w h.0 ∙ ap (λ (x : List ℕ). b ∷ x) (before-none w h.1)

  after-all : (w rest : List ℕ) → Each (λ b. b ≢ c) w → after c (w ++ (c ∷ rest)) ≡ rest
  unfolding after
  after-all [] rest h = rw (eq-eqb c c refl)
  after-all (b ∷ w) rest h = rw (ne_eqb b c h.0) (after-all w rest h.1)

  before-each : (xs : List ℕ) → Each (λ b. b ≢ c) (before c xs)
  unfolding before
  before-each [] = tt
  before-each (b ∷ xs) =
      elim (ℕ_discrete b c) [
        | yes q ↦ subst (Each (λ x. x ≢ c)) (sym (before_stop c b xs q)) tt
        | no q ↦ subst (Each (λ x. x ≢ c)) (sym (before_more c b xs q)) (q, before-each xs)
      ]

  ended : (xs : List ℕ) → (xs ≡ before c xs) ⊎ ((rest : List ℕ) × (xs ≡ before c xs ++ (c ∷ rest)))
  unfolding before
  ended [] = inl refl
  ended (b ∷ xs) =
      elim (ℕ_discrete b c) [
        | yes q ↦ inr (xs, ap (λ (y : ℕ). y ∷ xs) q ∙ sym (ap (λ (x : List ℕ). x ++ (c ∷ xs)) (before_stop c b xs q)))
        | no q ↦ on q (ended xs)
      ]
    where
      on : b ≢ c → (xs ≡ before c xs) ⊎ ((rest : List ℕ) × (xs ≡ before c xs ++ (c ∷ rest))) → (b ∷ xs ≡ before c (b ∷ xs)) ⊎ ((rest : List ℕ) × (b ∷ xs ≡ before c (b ∷ xs) ++ (c ∷ rest)))
      on q (inl e) = inl (ap (λ (x : List ℕ). b ∷ x) e ∙ sym (before_more c b xs q))
      on q (inr p) = inr (p.0, ap (λ (x : List ℕ). b ∷ x) p.1 ∙ sym (ap (λ (x : List ℕ). x ++ (c ∷ p.0)) (before_more c b xs q)))

  parts : (xs : List ℕ) → 0 < length (after c xs) → xs ≡ before c xs ++ (c ∷ after c xs)
  unfolding before after
  parts [] h = let z : ⊥ = omega arith in absurd z
  parts (b ∷ xs) h =
      elim (ℕ_discrete b c) [
        | yes q ↦ rw (eq-eqb b c q) (ap (λ (y : ℕ). y ∷ xs) q)
        | no q ↦ let e : after c (b ∷ xs) ≡ after c xs = rw (ne_eqb b c q) in
            rw (ne_eqb b c q) (ap (λ (x : List ℕ). b ∷ x) (parts xs (omega (arith, ap length e))))
      ]

size_all : (w rest : List ℕ) → Each (λ b. b ≢ newline) w → line_size (w ++ (newline ∷ rest)) ≡ suc (length w)
size_all [] rest h = size_stop newline rest refl
size_all (b ∷ w) rest h = size_on b (w ++ (newline ∷ rest)) h.0 ∙ ap suc (size_all w rest h.1)

size_none : (w : List ℕ) → Each (λ b. b ≢ newline) w → line_size w ≡ length w
unfolding line_size
size_none [] h = refl
size_none (b ∷ w) h = size_on b w h.0 ∙ ap suc (size_none w h.1)

-- ---- numbers

digits-true : (w : List ℕ) → Each (λ b. (48 ≤ b) × (b ≤ 57)) w → digits_only w ≡ true
unfolding digits_only
digits-true [] h = refl
digits-true (b ∷ w) h = rw (le-leb 48 b h.0.0, le-leb b 57 h.0.1) (digits-true w h.1)

digits_of : (w : List ℕ) → digits_only w ≡ true → Each (λ b. (48 ≤ b) × (b ≤ 57)) w
unfolding digits_only
digits_of [] e = tt
digits_of (b ∷ w) e =
    let p = both_held (leb 48 b && leb b 57) (digits_only w) e in
    let q = both_held (leb 48 b) (leb b 57) p.0 in
    ((leb-true 48 b q.0, leb-true b 57 q.1), digits_of w p.1)

no_space : (w : List ℕ) → Each (λ b. (48 ≤ b) × (b ≤ 57)) w → Each (λ b. b ≢ space) w
no_space [] h = tt
no_space (b ∷ w) h = (λ e. omega (arith, h.0.0), no_space w h.1)

word-of : {w : List ℕ} {v : ℕ} → Decimal w v → word_of w ≡ a_word v
unfolding word_of
word-of {w} {v} h =
    let s : value_from 0 w ≤ 65535 = omega (arith, h.value, h.small) in
    rw (lt-ltb 0 (length w) h.some, digits-true w h.digits, le-leb (value_from 0 w) 65535 s) (ap a_word h.value)

taken_word : (b : Bool) (v : ℕ) → (cond b (a_word v) no_word).number ≡ true → (b ≡ true) × (v ≡ (cond b (a_word v) no_word).value)
taken_word true v e = (refl, refl)
taken_word false v e = absurd (false≢true e)

word-decimal : (w : List ℕ) → (word_of w).number ≡ true → Decimal w (word_of w).value
unfolding word_of
word-decimal w e =
    let p = taken_word (ltb 0 (length w) && digits_only w && leb (value_from 0 w) 65535) (value_from 0 w) e in
    let q = both_held (ltb 0 (length w) && digits_only w) (leb (value_from 0 w) 65535) p.0 in
    let r = both_held (ltb 0 (length w)) (digits_only w) q.0 in
    record {
      some = ltb-true 0 (length w) r.0;
      digits = digits_of w r.1;
      value = p.1;
      small = subst (λ (x : ℕ). x ≤ 65535) p.1 (leb-true (value_from 0 w) 65535 q.1);
    }

-- ---- the numbers of a line

some : List ℕ → Words
some vs = record { numbers = true; values = filled 5 vs }

words-of : (m : ℕ) (line vs : List ℕ) → Spaced line vs → length vs ≡ suc m → words_of m line ≡ map (λ v. a_word v) vs
unfolding words_of
words-of m line [] h e = absurd h
words-of zero line (v ∷ []) h e = ap (λ (w : Word). w ∷ []) (word-of h)
words-of (suc m) line (v ∷ []) h e = let z : ⊥ = omega arith in absurd z
words-of zero line (v ∷ w ∷ vs) h e = let z : ⊥ = omega arith in absurd z
words-of (suc m) line (v ∷ w ∷ vs) h e =
    let first = h.0 in
    let rest = h.1 in
    let s = no_space first h.3.digits in
    let b : before space line ≡ first = ap (before space) h.2 ∙ before-all space first rest s in
    let a : after space line ≡ rest = ap (after space) h.2 ∙ after-all space first rest s in
    ap₂ (λ (x : Word) (ws : List Word). x ∷ ws) (ap word_of b ∙ word-of h.3) (ap (words_of m) a ∙ words-of m rest (w ∷ vs) h.4 (omega arith))

all_words : (vs : List ℕ) → numbers_by (map (λ v. a_word v) vs) ≡ some vs
unfolding numbers_by some all_numbers
all_words vs = rw (taken vs) (ap (λ (xs : List ℕ). record { numbers = true; values = filled 5 xs }) (values vs))
  where
    taken : (xs : List ℕ) → all_numbers (map (λ v. a_word v) xs) ≡ true
    taken [] = refl
    taken (x ∷ xs) = taken xs

    values : (xs : List ℕ) → map (λ w. w.value) (map (λ v. a_word v) xs) ≡ xs
    values [] = refl
    values (x ∷ xs) = ap (λ (l : List ℕ). x ∷ l) (values xs)

numbers-asked : {input vs : List ℕ} (m : ℕ) → AsksWith input vs → length vs ≡ suc m → numbers_in m input ≡ some vs
unfolding numbers_in numbers_of
numbers-asked {input} {vs} m h e = go h.first.whole
  where
    fits : line_size input ≤ 64 → before newline input ≡ h.line → numbers_in m input ≡ some vs
    fits s b = rw (le-leb (line_size input) 64 s, b) (ap numbers_by (words-of m h.line vs h.numbers e) ∙ all_words vs)

    go : ((input ≡ h.line) × (length h.line ≤ 64)) ⊎ ((rest : List ℕ) × (input ≡ h.line ++ (newline ∷ rest)) × (suc (length h.line) ≤ 64)) → numbers_in m input ≡ some vs
    go (inl p) = fits (omega (arith, ap line_size p.0 ∙ size_none h.line h.first.one, p.1)) (ap (before newline) p.0 ∙ before-none newline h.line h.first.one)
    go (inr p) = fits (omega (arith, ap line_size p.1 ∙ size_all h.line p.0 h.first.one, p.2)) (ap (before newline) p.1 ∙ before-all newline h.line p.0 h.first.one)

-- ---- and back

first-line : (input : List ℕ) → line_size input ≤ 64 → FirstLine input (before newline input)
first-line input h = record { one = before-each newline input; whole = go (ended newline input) }
  where
    go : (input ≡ before newline input) ⊎ ((rest : List ℕ) × (input ≡ before newline input ++ (newline ∷ rest))) → ((input ≡ before newline input) × (length (before newline input) ≤ 64)) ⊎ ((rest : List ℕ) × (input ≡ before newline input ++ (newline ∷ rest)) × (suc (length (before newline input)) ≤ 64))
    go (inl e) = inl (e, omega (arith, ap line_size e ∙ size_none (before newline input) (before-each newline input)))
    go (inr p) = inr (p.0, p.1, omega (arith, ap line_size p.1 ∙ size_all (before newline input) p.0 (before-each newline input)))

-- the words of a line, where all are numbers: the first of them is some text, and so the line has the space before it
words_numbered : (m : ℕ) (line : List ℕ) → all_numbers (words_of m line) ≡ true → (v : ℕ) × (vs : List ℕ) × (length vs ≡ m) × Spaced line (v ∷ vs) × (0 < length line)
unfolding words_of all_numbers
words_numbered zero line e =
    let d = word-decimal line (both_held (word_of line).number true e).0 in ((word_of line).value, [], refl, d, d.some)
words_numbered (suc m) line e =
    let w = word_of (before space line) in
    let t = both_held w.number (all_numbers (words_of m (after space line))) e in
    let d = word-decimal (before space line) t.0 in
    let r = words_numbered m (after space line) t.1 in (
      w.value,
      r.0 ∷ r.1,
      ap suc r.2,
      (before space line, after space line, parts space line r.4, d, r.3),
      omega (arith, d.some, before_le space line),
    )

taken_by : (b : Bool) (x : Words) → (cond b x no_numbers).numbers ≡ true → (b ≡ true) × (x.numbers ≡ true)
taken_by true x e = (refl, e)
taken_by false x e = absurd (false≢true e)

asks_of : (m : ℕ) (input : List ℕ) → (numbers_in m input).numbers ≡ true → (v : ℕ) × (vs : List ℕ) × (length vs ≡ m) × AsksWith input (v ∷ vs)
unfolding numbers_in numbers_of numbers_by
asks_of m input e =
    let line = before newline input in
    let p = taken_by (leb (line_size input) 64) (numbers_by (words_of m line)) e in
    let r = words_numbered m line (taken_by (all_numbers (words_of m line)) _ p.1).0 in
    (r.0, r.1, r.2, record { line = line; first = first-line input (leb-true (line_size input) 64 p.0); numbers = r.3 })

-- ---- four of them

four-numbered : {line : List ℕ} {n k a d : ℕ} → FourNumbers line n k a d → Spaced line (n ∷ k ∷ a ∷ d ∷ [])
four-numbered h =
    let third = h.third ++ (space ∷ h.fourth) in
    let second = h.second ++ (space ∷ third) in
    (h.first, second, h.whole, h.n_written, (h.second, third, refl, h.k_written, (h.third, h.fourth, refl, h.source_written, h.destination_written)))

numbered-four : {line : List ℕ} {n k a d : ℕ} → Spaced line (n ∷ k ∷ a ∷ d ∷ []) → FourNumbers line n k a d
numbered-four {n = n} {k = k} {a = a} {d = d} h =
    record {
      first = h.0;
      second = h.4.0;
      third = h.4.4.0;
      fourth = h.4.4.1;
      whole = h.2 ∙ ap (λ (xs : List ℕ). h.0 ++ (space ∷ xs)) (h.4.2 ∙ ap (λ (ys : List ℕ). h.4.0 ++ (space ∷ ys)) h.4.4.2);
      n_written = h.3;
      k_written = h.4.3;
      source_written = h.4.4.3;
      destination_written = h.4.4.4;
    }

asks_four : {input : List ℕ} {n k a d : ℕ} → Asks input n k a d → AsksWith input (n ∷ k ∷ a ∷ d ∷ [])
asks_four h = record { line = h.line; first = h.first; numbers = four-numbered h.numbers }

four_asks : {input : List ℕ} {n k a d : ℕ} → AsksWith input (n ∷ k ∷ a ∷ d ∷ []) → Asks input n k a d
four_asks h = record { line = h.line; first = h.first; numbers = numbered-four h.numbers }

-- ---- the text

number_of : (r : ℕ) (x : RouteSet) → (answer r no_building (a_building x)).refusal.number ≡ r
number_of zero x = refl
number_of (suc r) x = refl

build-number : (s : Shape) (a d : ℕ) → (build_answer s a d).refusal.number ≡ ends_refusal s a d
unfolding build_answer
build-number s a d = number_of (ends_refusal s a d) (set_of (built_arrays s a d))

map_below : (f g : ℕ → List ℕ) (m : ℕ) → ((i : ℕ) → i < m → f i ≡ g i) → map f (down_from m) ≡ map g (down_from m)
map_below f g zero h = refl
map_below f g (suc m) h = ap₂ (λ (x : List ℕ) (xs : List (List ℕ)). x ∷ xs) (h m (le_refl (suc m))) (map_below f g m (λ i p. h i (omega arith)))

routes-text : (s : Shape) (a d : ℕ) → (build_answer s a d).refusal.number ≡ 0 → routes_text s a d ≡ route_lines s a d (build_answer s a d).routes
unfolding routes_text slot_line build_answer
routes-text s a d z =
    let p = answered (λ (x : Building). x.refusal.number) no_building (λ r. refl) (ends_refusal s a d) (build_answer s a d) (a_building (set_of (built_arrays s a d))) refl z in
    ap joined (map_below _ _ (suc s.k) (λ i h. one (ends_of s a d p.0) i (omega arith)))
    ∙ ap (λ (x : Building). route_lines s a d x.routes) (sym p.1)
  where
    one : Ends s a d → (i : ℕ) → i ≤ s.k → route_line (built_bytes s i a d) (length (built_hops s i a d)) ≡ (let x = array_in (s.k - i) (set_of (built_arrays s a d)) in route_line x ((read_answer s a d x).count - 1))
    one e i h =
        let r : length (built_hops s i a d) ≡ (read_answer s a d (built_bytes s i a d)).count - 1 = omega (arith, slot_read e i h) in
        ap (route_line (built_bytes s i a d)) r
        ∙ ap (λ (x : List ℕ). route_line x ((read_answer s a d x).count - 1)) (sym (slot-array e i h))

asked-text : {input : List ℕ} {n k a d : ℕ} → Asks input n k a d → desk_text input ≡ built_text (full_room n k) a d
unfolding desk_text question_of some filled
asked-text {input} h =
    ap
    (λ (r : Words). let q = question_by r in cond q.taken (built_text (full_room q.n q.k) q.source q.destination) input_line)
    (numbers-asked 3 (asks_four h) refl)

pub desk_prints : DeskPrints
unfolding built_text desk_text question_of
desk_prints =
    record {
      routes = λ input n k a d h z.
          let s = full_room n k in
          asked-text h ∙ answer-none (ends_refusal s a d) refused_line (routes_text s a d) (sym (sym (build-number s a d) ∙ z)) ∙ routes-text s a d z;
      refused = λ input n k a d h z.
          let s = full_room n k in
          asked-text h ∙ sym (answer-refused (build_answer s a d).refusal.number (ends_refusal s a d) refused_line _ (routes_text s a d) refl (build-number s a d) z);
      never_26 = desk_never_26;
      otherwise = λ input h. off input h (numbers_in 3 input).numbers refl;
    }
  where
    four : (input : List ℕ) (v : ℕ) (vs : List ℕ) → length vs ≡ 3 → AsksWith input (v ∷ vs) → ((n k a d : ℕ) → Asks input n k a d → ⊥) → ⊥
    four input n (k ∷ a ∷ d ∷ []) e h never = never n k a d (four_asks h)
    four input n [] e h never = omega arith
    four input n (k ∷ []) e h never = omega arith
    four input n (k ∷ a ∷ []) e h never = omega arith
    four input n (k ∷ a ∷ d ∷ x ∷ vs) e h never = omega arith

    off : (input : List ℕ) → ((n k a d : ℕ) → Asks input n k a d → ⊥) → (b : Bool) → (numbers_in 3 input).numbers ≡ b → desk_text input ≡ input_line
    off input h true e = let p = asks_of 3 input e in absurd (four input p.0 p.1 p.2 p.3 h)
    off input h false e = rw e

-- ---- what `tree` prints

server-shown : {s : Shape} {x : ℕ} → Server s x → server_words s x ≡ server_shown s x
unfolding server_words
server-shown {s} {x} z =
    ap (λ (ds : List ℕ). decimal x ++ (space ∷ pointed (reverse ds))) (sym (own-digits z refl) ∙ ap (λ (m : ℕ). take m (digits_answer s x).places) (add-one s.k))

module _ {s : Shape} {a l x : ℕ} (k : Link s a l) (z : Server s x) where
  parent-shown : parent_words s a l x ≡ parent_shown s (parent_answer s a l x)
  unfolding parent_answer
  parent-shown =
      elim (ℕ_discrete a x) [
        | yes e ↦ let f : 5 ≡ parent_refusal s a l x = source-asked s a l x (pair_none k.server z) k.level e in
            let g = answer-number (λ (y : Number). y.refusal.number) no_number (λ r. refl) (parent_refusal s a l x) (a_number (parent_of s a l x)) refl in
            parent-none s a l x e ∙ sym (rw (eq-eqb (parent_answer s a l x).refusal.number 5 (g ∙ sym f)))
        | no n ↦ let c = child k z n in
            parent-some s a l x n ∙ server-shown (parent-server c) ∙ ap (parent_shown s) (sym (parent-answered c (parent_answer s a l x) refl))
      ]

  line-shown : server_line s a l x ≡ line_shown s a l x
  unfolding server_line
  line-shown = ap₂ (λ (u v : List ℕ). u ++ (space ∷ v ++ (newline ∷ []))) (server-shown z) parent-shown

tree-number : (s : Shape) (a l : ℕ) → (tree_answer s a l).refusal.number ≡ link_refusal s a l
unfolding tree_answer
tree-number s a l = answer-number (λ (y : Number). y.refusal.number) no_number (λ r. refl) (link_refusal s a l) (a_number (servers_of s)) refl

question-asked : {input : List ℕ} {n k m a l : ℕ} → AsksWith input (n ∷ k ∷ m ∷ a ∷ l ∷ []) → tree_question_of input ≡ question n k m a l
unfolding tree_question_of some filled
question-asked h = ap tree_question_by (numbers-asked 4 h refl)

asked-lines : {input : List ℕ} {n k m a l : ℕ} → AsksWith input (n ∷ k ∷ m ∷ a ∷ l ∷ []) → tree_text input ≡ joined (lines_of (shape_of n k m) a l)
unfolding tree_text tree_lines
asked-lines h = ap (λ (q : TreeQuestion). joined (tree_lines q)) (question-asked h)

all_shown : (s : Shape) (a l : ℕ) → (tree_answer s a l).refusal.number ≡ 0 → lines_of s a l ≡ in_order (line_shown s a l) (tree_answer s a l).value
unfolding lines_of
all_shown s a l z =
    let p = tree-answered s a l z in
    let k = link_of s a l p.0 in
    answer-none (link_refusal s a l) (λ r. refused_line r ∷ []) (in_order (server_line s a l) (servers_of s)) (sym p.0)
    ∙ order_same (server_line s a l) (line_shown s a l) (servers_of s) (λ i h. line-shown k (record { valid = k.server.valid; below = h }))
    ∙ ap (λ (y : Number). in_order (line_shown s a l) y.value) (sym p.1)

refused-lines : (s : Shape) (a l : ℕ) → (tree_answer s a l).refusal.number ≢ 0 → lines_of s a l ≡ refused_line (tree_answer s a l).refusal.number ∷ []
unfolding lines_of
refused-lines s a l n =
    sym (answer-refused (tree_answer s a l).refusal.number (link_refusal s a l) (λ r. refused_line r ∷ []) _ (in_order (server_line s a l) (servers_of s)) refl (tree-number s a l) n)

five : (input : List ℕ) (v : ℕ) (vs : List ℕ) → length vs ≡ 4 → AsksWith input (v ∷ vs) → ((n k m a l : ℕ) → AsksWith input (n ∷ k ∷ m ∷ a ∷ l ∷ []) → ⊥) → ⊥
five input n (k ∷ m ∷ a ∷ l ∷ []) e h never = never n k m a l h
five input n [] e h never = omega arith
five input n (k ∷ []) e h never = omega arith
five input n (k ∷ m ∷ []) e h never = omega arith
five input n (k ∷ m ∷ a ∷ []) e h never = omega arith
five input n (k ∷ m ∷ a ∷ l ∷ x ∷ vs) e h never = omega arith

not-numbers : (b : Bool) (x : Words) → (cond b x no_numbers).numbers ≡ false → (x.numbers ≡ false → x ≡ no_numbers) → cond b x no_numbers ≡ no_numbers
not-numbers true x e f = f e
not-numbers false x e f = refl

-- an input that does not ask has no numbers
no-numbers : (m : ℕ) (input : List ℕ) → (numbers_in m input).numbers ≡ false → numbers_in m input ≡ no_numbers
unfolding numbers_in numbers_of numbers_by
no-numbers m input e =
    not-numbers (leb (line_size input) 64) (numbers_by (words_of m (before newline input))) e
    (λ f. not-numbers (all_numbers (words_of m (before newline input))) _ f (λ g. absurd (false≢true (sym g))))

unasked : (input : List ℕ) → ((n k m a l : ℕ) → AsksWith input (n ∷ k ∷ m ∷ a ∷ l ∷ []) → ⊥) → numbers_in 4 input ≡ no_numbers
unasked input h = go (numbers_in 4 input).numbers refl
  where
    go : (b : Bool) → (numbers_in 4 input).numbers ≡ b → numbers_in 4 input ≡ no_numbers
    go true e = let p = asks_of 4 input e in absurd (five input p.0 p.1 p.2 p.3 h)
    go false e = no-numbers 4 input e

not-asked : (input : List ℕ) → ((n k m a l : ℕ) → AsksWith input (n ∷ k ∷ m ∷ a ∷ l ∷ []) → ⊥) → tree_question_of input ≡ record { taken = false; n = 0; k = 0; m = 0; source = 0; tree = 0 }
unfolding tree_question_of
not-asked input h = ap tree_question_by (unasked input h)

-- the only line of an answer
only-line : (x : List ℕ) (i : ℕ) → get_or (x ∷ []) i [] ≡ cond (eqb i 0) x []
only-line x zero = refl
only-line x (suc i) = rw (ne_eqb (suc i) 0 (λ e. omega arith))

line_at : (f : ℕ → List ℕ) (m i : ℕ) → get_or (in_order f m) i [] ≡ cond (ltb i m) (f i) []
line_at f m i =
    elim (dec_lt i m) [
      | yes h ↦ rw (lt-ltb i m h) (order-at f [] m i h)
      | no h ↦ rw (le-ltb i m (omega arith)) (get_or-eq_default (in_order f m) [] (omega (arith, order-long f m)))
    ]

pub tree_answers : TreeAnswers
unfolding tree_line tree_lines
tree_answers =
    record {
      asked = λ input n k m a l h. question-asked h;
      not-asked = not-asked;
      line = λ n k m a l i z.
          let s = shape_of n k m in
          ap (λ (ls : List (List ℕ)). get_or ls i []) (all_shown s a l z) ∙ line_at (line_shown s a l) (tree_answer s a l).value i;
      refused = λ n k m a l i z.
          ap (λ (ls : List (List ℕ)). get_or ls i []) (refused-lines (shape_of n k m) a l z) ∙ only-line _ i;
      not_taken = λ q i e. rw e (only-line input_line i);
    }

pub tree_prints : TreePrints
unfolding tree_text tree_lines joined
tree_prints =
    record {
      lines = λ input n k m a l h z. asked-lines h ∙ ap joined (all_shown (shape_of n k m) a l z);
      refused = λ input n k m a l h z.
          asked-lines h ∙ ap joined (refused-lines (shape_of n k m) a l z) ∙ append-nil (refused_line (tree_answer (shape_of n k m) a l).refusal.number);
      otherwise = λ input h. ap (λ (q : TreeQuestion). joined (tree_lines q)) (not-asked input h);
      all = λ input. sym (lines-whole input 4096 (tree-few (tree_question_of input)));
      stops = λ input i j h e.
          let q = tree_question_of input in
          let n = (line_last q i).0 e in (line_last q j).1 (omega arith);
    }
