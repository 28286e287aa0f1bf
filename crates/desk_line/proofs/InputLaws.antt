-- What of an input is printed for: its first line alone, its first 65 bytes alone. The desk prints at most 76 bytes, and never 26; `tree`
-- at most 4,096 lines.
use Prim.Native.Nat.{ℕ, zero, suc, ◌*◌, ◌≤◌, ◌<◌}
use mathlib.Core.Path.{◌≡◌, refl, sym, ap, ap₂, ◌∙◌}
use mathlib.Core.Logic.{◌≢◌, ◌↔◌}
use mathlib.Core.Bool.{Bool, true, false, cond}
use mathlib.Core.List.{List, [], ◌∷◌, ◌++◌, append-nil}
use native.Mathlib.Omega.{arith}
use native.Mathlib.Decide.{ℕ_discrete, dec_lt}
use lib.Dec.{leb}
use lib.ListN.{length, get_or, take, length-append, get_or-eq_default}
use lib.Seq.{take-suc, take_all}
use borrow.Author.Tests.{lt-leb}
use Rattle.lists.specs.Lists.{in_order}
use Rattle.lists.proofs.ListLaws.{order-long, order-at}
use Rattle.refusals.specs.Refusals.{answer}
use Rattle.refusals.proofs.NumberLaws.{one_le}
use Rattle.room.specs.declared.Shape.{Shape}
use Rattle.room.specs.Shapes.{shape_of, full_room, servers_of}
use Rattle.room.specs.Refusals.{ends_refusal, link_refusal}
use Rattle.room.proofs.RefusalLaws.{ends_of, link_of}
use Rattle.room.proofs.NumberLaws.{full-numbers}
use Rattle.build.specs.Sets.{joined}
use Rattle.build.proofs.SetLaws.{joined_snoc}
use Rattle.desk_line.specs.Lines.{newline, space, before, line_size}
use Rattle.desk_line.specs.Numbers.{TreeQuestion, Words, no_numbers, numbers_of, numbers_in, question_by, question_of, tree_question_by, tree_question_of}
use Rattle.desk_line.specs.Texts.{decimal_in, decimal, input_line, refused_line}
use Rattle.desk_line.specs.Answers.{slot_line, routes_text, built_text, desk_text}
use Rattle.desk_line.specs.TreeLines.{server_words, parent_words, server_line, lines_of, tree_lines, tree_line, tree_text}
use Rattle.desk_line.proofs.LineLaws.{before_stop, before_more, size_stop, size_on}
use Rattle.desk_line.proofs.TextLaws.{decimal-small}
use Rattle.desk_line.proofs.AnswerLaws.{slot-long, lines_below}

-- ---- what follows the newline

line-size : (xs ys : List ℕ) → line_size (xs ++ newline ∷ ys) ≡ line_size (xs ++ newline ∷ [])
line-size [] ys = size_stop newline ys refl ∙ sym (size_stop newline [] refl)
line-size (b ∷ xs) ys =
    elim (ℕ_discrete b newline) [
      | yes q ↦ size_stop b (xs ++ newline ∷ ys) q ∙ sym (size_stop b (xs ++ newline ∷ []) q)
      | no q ↦ size_on b (xs ++ newline ∷ ys) q ∙ ap suc (line-size xs ys) ∙ sym (size_on b (xs ++ newline ∷ []) q)
    ]

line_before : (xs ys : List ℕ) → before newline (xs ++ newline ∷ ys) ≡ before newline (xs ++ newline ∷ [])
line_before [] ys = before_stop newline newline ys refl ∙ sym (before_stop newline newline [] refl)
line_before (b ∷ xs) ys =
    elim (ℕ_discrete b newline) [
      | yes q ↦ before_stop newline b (xs ++ newline ∷ ys) q ∙ sym (before_stop newline b (xs ++ newline ∷ []) q)
      | no q ↦ before_more newline b (xs ++ newline ∷ ys) q ∙ ap (λ (l : List ℕ). b ∷ l) (line_before xs ys) ∙ sym (before_more newline b (xs ++ newline ∷ []) q)
    ]

same_numbers : (m : ℕ) (xs ys : List ℕ) → line_size xs ≡ line_size ys → before newline xs ≡ before newline ys → numbers_in m xs ≡ numbers_in m ys
unfolding numbers_in
same_numbers m xs ys e f = ap₂ (λ (z : ℕ) (l : List ℕ). cond (leb z 64) (numbers_of m l) no_numbers) e f

-- what follows a newline is ignored
numbers-rest : (m : ℕ) (xs ys : List ℕ) → numbers_in m (xs ++ newline ∷ ys) ≡ numbers_in m (xs ++ newline ∷ [])
numbers-rest m xs ys =
    same_numbers m (xs ++ newline ∷ ys) (xs ++ newline ∷ []) (line-size xs ys) (line_before xs ys)

-- ---- 65 bytes

within : (xs ys : List ℕ) → line_size xs < length xs → (line_size (xs ++ ys) ≡ line_size xs) × (before newline (xs ++ ys) ≡ before newline xs)
within [] ys h = let z : ⊥ = omega arith in absurd z
within (b ∷ xs) ys h =
    elim (ℕ_discrete b newline) [
      | yes q ↦ (size_stop b (xs ++ ys) q ∙ sym (size_stop b xs q), before_stop newline b (xs ++ ys) q ∙ sym (before_stop newline b xs q))
      | no q ↦ let w = within xs ys (omega (arith, size_on b xs q)) in
          (size_on b (xs ++ ys) q ∙ ap suc w.0 ∙ sym (size_on b xs q), before_more newline b (xs ++ ys) q ∙ ap (λ (l : List ℕ). b ∷ l) w.1 ∙ sym (before_more newline b xs q))
    ]

beyond : (xs ys : List ℕ) → length xs ≤ line_size xs → length xs ≤ line_size (xs ++ ys)
beyond [] ys h = omega arith
beyond (b ∷ xs) ys h =
    elim (ℕ_discrete b newline) [
      | yes q ↦ omega (arith, size_stop b (xs ++ ys) q, size_stop b xs q)
      | no q ↦ omega (arith, size_on b (xs ++ ys) q, beyond xs ys (omega (arith, size_on b xs q)))
    ]

too_long : (m : ℕ) (xs : List ℕ) → 64 < line_size xs → numbers_in m xs ≡ no_numbers
unfolding numbers_in
too_long m xs h = rw (lt-leb (line_size xs) 64 h)

-- what follows the first 65 bytes is ignored
numbers_65 : (m : ℕ) (xs ys : List ℕ) → 65 ≤ length xs → numbers_in m (xs ++ ys) ≡ numbers_in m xs
numbers_65 m xs ys h =
    elim (dec_lt (line_size xs) (length xs)) [
      | yes k ↦ let w = within xs ys k in same_numbers m (xs ++ ys) xs w.0 w.1
      | no k ↦ let b = beyond xs ys (omega arith) in
          too_long m (xs ++ ys) (omega arith) ∙ sym (too_long m xs (omega arith))
    ]

-- ---- what is printed

desk_same : (xs ys : List ℕ) → numbers_in 3 xs ≡ numbers_in 3 ys → desk_text xs ≡ desk_text ys
unfolding desk_text question_of
desk_same xs ys e =
    ap
    (λ (r : Words). let q = question_by r in cond q.taken (built_text (full_room q.n q.k) q.source q.destination) input_line)
    e

pub rest_ignored : (xs ys : List ℕ) → desk_text (xs ++ newline ∷ ys) ≡ desk_text (xs ++ newline ∷ [])
rest_ignored xs ys = desk_same (xs ++ newline ∷ ys) (xs ++ newline ∷ []) (numbers-rest 3 xs ys)

pub first_65 : (xs ys : List ℕ) → 65 ≤ length xs → desk_text (xs ++ ys) ≡ desk_text xs
first_65 xs ys h = desk_same (xs ++ ys) xs (numbers_65 3 xs ys h)

tree-same : (xs ys : List ℕ) → numbers_in 4 xs ≡ numbers_in 4 ys → tree_text xs ≡ tree_text ys
unfolding tree_text tree_question_of
tree-same xs ys e = ap (λ (r : Words). joined (tree_lines (tree_question_by r))) e

pub tree-rest_ignored : (xs ys : List ℕ) → tree_text (xs ++ newline ∷ ys) ≡ tree_text (xs ++ newline ∷ [])
tree-rest_ignored xs ys = tree-same (xs ++ newline ∷ ys) (xs ++ newline ∷ []) (numbers-rest 4 xs ys)

pub tree-first_65 : (xs ys : List ℕ) → 65 ≤ length xs → tree_text (xs ++ ys) ≡ tree_text xs
tree-first_65 xs ys h = tree-same (xs ++ ys) xs (numbers_65 4 xs ys h)

-- ---- how much is printed

-- each line of `tree` has a byte: so the first that is empty is past the last
lines-some : (s : Shape) (a l r i : ℕ) → (let ls = answer r (λ x. refused_line x ∷ []) (in_order (server_line s a l) (servers_of s)) in
    i < length ls → 0 < length (get_or ls i []))
unfolding refused_line server_line
lines-some s a l zero i h =
    omega (arith, ap length (order-at (server_line s a l) [] (servers_of s) i (omega (arith, order-long (server_line s a l) (servers_of s)))), length-append (server_words s i) (space ∷ parent_words s a l i ++ (newline ∷ [])))
lines-some s a l (suc r) zero h = omega arith
lines-some s a l (suc r) (suc i) h = let z : ⊥ = omega arith in absurd z

line-some : (q : TreeQuestion) (i : ℕ) → i < length (tree_lines q) → 0 < length (tree_line q i)
unfolding tree_line tree_lines lines_of
line-some q i h = go q.taken i h
  where
    s : Shape
    s = shape_of q.n q.k q.m

    go : (b : Bool) (j : ℕ) → (let ls = cond b (lines_of s q.source q.tree) (input_line ∷ []) in j < length ls → 0 < length (get_or ls j []))
    go true j k = lines-some s q.source q.tree (link_refusal s q.source q.tree) j k
    go false zero k = omega arith
    go false (suc j) k = let z : ⊥ = omega arith in absurd z

pub line_last : (q : TreeQuestion) (i : ℕ) → (tree_line q i ≡ []) ↔ (length (tree_lines q) ≤ i)
unfolding tree_line
line_last q i = (last, λ h. get_or-eq_default (tree_lines q) [] h)
  where
    last : tree_line q i ≡ [] → length (tree_lines q) ≤ i
    last e =
        elim (dec_lt i (length (tree_lines q))) [
          | yes k ↦ let z : ⊥ = omega (arith, line-some q i k, ap length e) in absurd z
          | no k ↦ omega arith
        ]

-- at most 4,096 stand before it
lines-few : (s : Shape) (a l r : ℕ) → link_refusal s a l ≡ r → length (answer r (λ x. refused_line x ∷ []) (in_order (server_line s a l) (servers_of s))) ≤ 4096
lines-few s a l zero e = omega (arith, order-long (server_line s a l) (servers_of s), (link_of s a l e).server.valid.small)
lines-few s a l (suc r) e = omega arith

pub tree-few : (q : TreeQuestion) → length (tree_lines q) ≤ 4096
unfolding tree_lines lines_of
tree-few q = go q.taken
  where
    s : Shape
    s = shape_of q.n q.k q.m

    go : (b : Bool) → length (cond b (lines_of s q.source q.tree) (input_line ∷ [])) ≤ 4096
    go true = lines-few s q.source q.tree (link_refusal s q.source q.tree) refl
    go false = omega arith

-- and they are all that is printed
in_order_lem : (xs : List (List ℕ)) (m : ℕ) → joined (in_order (λ i. get_or xs i []) m) ≡ joined (take m xs)
unfolding in_order
in_order_lem xs zero = refl
in_order_lem xs (suc m) =
    joined_snoc (in_order (λ i. get_or xs i []) m) (get_or xs m [])
    ∙ ap (λ (l : List ℕ). l ++ get_or xs m []) (in_order_lem xs m)
    ∙ elim (dec_lt m (length xs)) [
      | yes h ↦ sym (joined_snoc (take m xs) (get_or xs m [])) ∙ ap joined (sym (take-suc xs m [] h))
      | no h ↦ ap (λ (l : List ℕ). joined (take m xs) ++ l) (get_or-eq_default xs [] (omega arith))
          ∙ append-nil (joined (take m xs))
          ∙ ap joined (take_all m xs (omega arith) ∙ sym (take_all (suc m) xs (omega arith)))
    ]

pub lines-whole : (input : List ℕ) (m : ℕ) → length (tree_lines (tree_question_of input)) ≤ m → joined (in_order (tree_line (tree_question_of input)) m) ≡ tree_text input
unfolding tree_text tree_line
lines-whole input m h =
    let xs = tree_lines (tree_question_of input) in in_order_lem xs m ∙ ap joined (take_all m xs h)

refused-short : (r : ℕ) → r ≤ 9 → length (refused_line r) ≡ 10
unfolding refused_line
refused-short r h =
    let t = decimal-small r (omega arith) in
    omega (arith, length-append (decimal r) (newline ∷ []), ap length t)

lines-short : (s : Shape) (a d m : ℕ) → ((i : ℕ) → i < m → length (slot_line s a d i) ≡ 19) → length (lines_below s a d m) ≡ 19 * m
unfolding joined
lines-short s a d zero h = refl
lines-short s a d (suc m) h =
    length-append (slot_line s a d m) (lines_below s a d m) ∙ omega (arith, h m (omega arith), lines-short s a d m (λ i p. h i (omega arith)))

-- the desk's rooms are full, and so its refusals have one digit
ends_le : (s : Shape) (a d : ℕ) → s.m ≡ s.n → ends_refusal s a d ≤ 9
ends_le s a d full = one_le 9 refl (full-numbers s full a d)

-- "input" is 6 bytes, a refusal of one digit 10, and a line 19; so 11, which a refusal of two digits would be, is none
Printed : List ℕ → Type 0
Printed xs = (length xs ≤ 76) × (length xs ≢ 11)

built_by : (s : Shape) (a d r : ℕ) → s.m ≡ s.n → ends_refusal s a d ≡ r → Printed (answer r refused_line (routes_text s a d))
unfolding routes_text Printed
built_by s a d zero f e =
    let p = ends_of s a d e in
    let n = lines-short s a d (suc s.k) (λ i h. slot-long p i (omega arith)) in
    (omega (arith, n, p.source.valid.levels), λ q. omega (arith, n))
built_by s a d (suc r) f e =
    let n = refused-short (suc r) (omega (arith, ends_le s a d f)) in (omega arith, λ q. omega arith)

asked_by : (b : Bool) (s : Shape) (a d : ℕ) → s.m ≡ s.n → Printed (cond b (built_text s a d) input_line)
unfolding built_text Printed
asked_by true s a d f = built_by s a d (ends_refusal s a d) f refl
asked_by false s a d f = (omega arith, λ q. omega arith)

printed : (input : List ℕ) → Printed (desk_text input)
unfolding desk_text
printed input =
    let q = question_of input in
    asked_by q.taken (full_room q.n q.k) q.source q.destination refl

-- four lines of 19 bytes at most
pub desk_short : (input : List ℕ) → length (desk_text input) ≤ 76
unfolding Printed
desk_short input = (printed input).0

pub desk_never_26 : (input : List ℕ) → desk_text input ≢ refused_line 26
unfolding Printed refused_line decimal decimal_in
desk_never_26 input e = (printed input).1 (ap length e)
