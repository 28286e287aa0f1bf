-- Laws of the lines of `tree`: digits with points between them, a server's words, its line, and the line at a place.
use Prim.Native.Nat.{ℕ, suc, ◌+◌, ◌-◌, ◌*◌, ◌≤◌, ◌<◌}
use mathlib.Core.Path.{◌≡◌, refl, sym, ap, ap₂, subst, ◌∙◌}
use mathlib.Core.Logic.{◌≢◌}
use Rattle.std.specs.Prelude.{None, Some}
use mathlib.Core.List.{List, [], ◌∷◌, ◌++◌, reverse, reverse-append, append_assoc, append-nil}
use native.Mathlib.Omega.{arith}
use native.Mathlib.Decide.{ℕ_discrete}
use lib.ListN.{length, get_or, take, length-append, length-reverse, get_or-eq_default}
use lib.Seq.{take-suc, take_all}
use borrow.Author.Tests.{eq-eqb, ne_eqb}
use Rattle.lists.specs.Lists.{filled, in_order}
use Rattle.lists.proofs.ListLaws.{order-long, order-at, reverse-at, take-filled}
use Rattle.refusals.proofs.NumberLaws.{one_le}
use Rattle.refusals.proofs.AnswerLaws.{answer-refused, answer-none}
use Rattle.refusals.specs.declared.Reason.{Reason}
use Rattle.refusals.specs.Reasons.{number_of}
use Rattle.refusals.proofs.ReasonLaws.{reason-some}
use Rattle.room.specs.Answers.{no_number}
use Rattle.room.specs.declared.Shape.{Shape}
use Rattle.room.specs.Told.{Number}
use Rattle.room.specs.Told.{Digits}
use Rattle.room.specs.Shapes.{shape_of, servers_of, server_count, Server, Link}
use Rattle.room.specs.Addresses.{digits}
use Rattle.room.specs.Refusals.{link_refusal}
use Rattle.room.specs.Answers.{digits_answer}
use Rattle.room.proofs.PowerLaws.{count-servers}
use Rattle.room.proofs.RefusalLaws.{link_of}
use Rattle.room.proofs.NumberLaws.{link-numbers}
use Rattle.room.proofs.RoomLaws.{digits_long, written-digits, written_below}
use Rattle.room.proofs.AnswerLaws.{digits-answered}
use Rattle.trees.specs.Trees.{parent_of, Child}
use Rattle.trees.specs.Answers.{parent_answer}
use Rattle.trees.proofs.ParentLaws.{child_made, parent-answered}
use Rattle.trees.proofs.HopLaws.{parent-server}
use Rattle.desk_line.specs.declared.TreeQuestion as tree_asked
use Rattle.desk_line.specs.Lines.{space}
use Rattle.desk_line.specs.Numbers.{as_tree_question}
use Rattle.desk_line.specs.Texts.{decimal, input_line, refused_line}
use Rattle.desk_line.specs.TreeLines.{point, dash, pointed, server_words, parent_words, server_line, lines_of, tree_lines, tree_line}
use Rattle.desk_line.proofs.TextLaws.{decimal-two, decimal-four}

-- ---- digits with points

-- digits, each behind a point
unfoldable pub tails : List ℕ → List ℕ
tails [] = []
tails (d ∷ ds) = (point ∷ decimal d) ++ tails ds

pub pointed-tails : (d : ℕ) (ds : List ℕ) → pointed (d ∷ ds) ≡ decimal d ++ tails ds
unfolding pointed tails
pointed-tails d [] = sym (append-nil (decimal d))
pointed-tails d (e ∷ ds) = ap (λ (l : List ℕ). decimal d ++ (point ∷ l)) (pointed-tails e ds)

-- the last digit comes first
pub pointed_last : (ds : List ℕ) → 0 < length ds → pointed (reverse ds) ≡ decimal (get_or ds (length ds - 1) 0) ++ tails (reverse (take (length ds - 1) ds))
pointed_last ds h =
    let n = length ds - 1 in
    let m : length ds ≤ suc n = omega arith in
    ap (λ (l : List ℕ). pointed (reverse l)) (sym (take_all (suc n) ds m) ∙ take-suc ds n 0 (omega arith))
    ∙ ap pointed (reverse-append (take n ds) (get_or ds n 0 ∷ []))
    ∙ pointed-tails (get_or ds n 0) (reverse (take n ds))

-- the digits are taken from the back
pub tails_back : (xs ys : List ℕ) (d : ℕ) → xs ≡ ys ++ (d ∷ []) → tails (reverse xs) ≡ (point ∷ decimal d) ++ tails (reverse ys)
unfolding tails
tails_back xs ys d e = ap (λ (l : List ℕ). tails (reverse l)) e ∙ ap tails (reverse-append ys (d ∷ []))

-- the text xs, with the digits ds still to be written behind it, is the whole text zs
pub record DigitsLeft (xs ds zs : List ℕ) : Type 0 where
  pub whole : xs ++ tails (reverse ds) ≡ zs
  pub room : length xs + length (tails (reverse ds)) ≤ 128

module _ (s ds : List ℕ) (r : length s + length (pointed (reverse ds)) ≤ 128) (h : 0 < length ds) where
  pub last-space : length s + length (decimal (get_or ds (length ds - 1) 0)) ≤ 128
  last-space =
      omega (arith, ap length (pointed_last ds h), length-append (decimal (get_or ds (length ds - 1) 0)) (tails (reverse (take (length ds - 1) ds))))

  pub digits-start : {t lower : List ℕ} → t ≡ s ++ decimal (get_or ds (length ds - 1) 0) → lower ≡ take (length ds - 1) ds → DigitsLeft t lower (s ++ pointed (reverse ds))
  digits-start {t} {lower} e f =
      let d = decimal (get_or ds (length ds - 1) 0) in
      let g = ap (λ (l : List ℕ). tails (reverse l)) f in
      record {
        whole = ap₂ (λ (x y : List ℕ). x ++ y) e g ∙ append_assoc s d (tails (reverse (take (length ds - 1) ds))) ∙ ap (λ (l : List ℕ). s ++ l) (sym (pointed_last ds h));
        room = omega (arith, r, ap length e, length-append s d, ap length g, ap length (pointed_last ds h), length-append d (tails (reverse (take (length ds - 1) ds))));
      }

module _ (t xs ys zs : List ℕ) (d : ℕ) (p : DigitsLeft t xs zs) (e : xs ≡ ys ++ (d ∷ [])) where
  pub point-space : length t + suc (length (decimal d)) ≤ 128
  point-space = omega (arith, p.room, ap length (tails_back xs ys d e), length-append (point ∷ decimal d) (tails (reverse ys)))

  pub digits-next : {u v : List ℕ} → u ≡ t ++ (point ∷ []) → v ≡ u ++ decimal d → DigitsLeft v ys zs
  digits-next {u} {v} f g =
      let k : v ≡ t ++ (point ∷ decimal d) = g ∙ ap (λ (l : List ℕ). l ++ decimal d) f ∙ append_assoc t (point ∷ []) (decimal d) in
      record {
        whole = ap (λ (l : List ℕ). l ++ tails (reverse ys)) k ∙ append_assoc t (point ∷ decimal d) (tails (reverse ys)) ∙ ap (λ (l : List ℕ). t ++ l) (sym (tails_back xs ys d e)) ∙ p.whole;
        room = omega (arith, p.room, ap length k, length-append t (point ∷ decimal d), ap length (tails_back xs ys d e), length-append (point ∷ decimal d) (tails (reverse ys)));
      }

pub digits-end : (t xs zs : List ℕ) → DigitsLeft t xs zs → length xs ≡ 0 → t ≡ zs
unfolding tails
digits-end t [] zs p e = sym (append-nil t) ∙ p.whole
digits-end t (x ∷ xs) zs p e = let z : ⊥ = omega arith in absurd z

-- no digits
pub no-digits : (s ds : List ℕ) → length ds ≤ 0 → s ≡ s ++ pointed (reverse ds)
unfolding pointed
no-digits s [] h = sym (append-nil s)
no-digits s (d ∷ ds) h = let z : ⊥ = omega arith in absurd z

-- ---- a server's words

module _ {s : Shape} {x : ℕ} (z : Server s x) where
  -- the digits that are asked for are the places 0 to k
  module _ {d : Digits} (e : d ≡ digits_answer s x) where
    pub own-digits : take (s.k + 1) d.places ≡ digits s x
    own-digits =
        let n : s.k + 1 ≡ length (digits s x) = omega (arith, digits_long s x) in
        ap (λ (y : Digits). take (s.k + 1) y.places) (digits-answered z d e)
        ∙ ap (λ (m : ℕ). take m (filled 4 (digits s x))) n
        ∙ take-filled 4 (digits s x)

    pub own_words : decimal x ++ (space ∷ pointed (reverse (take (s.k + 1) d.places))) ≡ server_words s x
    unfolding server_words
    own_words = ap (λ (l : List ℕ). decimal x ++ (space ∷ pointed (reverse l))) own-digits

-- the number, the space behind it, and the digits
pub words_long : (s : Shape) (x : ℕ) → length (server_words s x) ≡ length (decimal x) + suc (length (pointed (reverse (digits s x))))
unfolding server_words
words_long s x = length-append (decimal x) (space ∷ pointed (reverse (digits s x)))

-- ---- how long they are: the number has four digits at most, each digit of the server two

pointed-short : (ds : List ℕ) → ((i : ℕ) → i < length ds → get_or ds i 0 < 100) → length (pointed ds) ≤ 3 * length ds
unfolding pointed
pointed-short [] h = omega arith
pointed-short (d ∷ []) h = omega (arith, decimal-two d (h 0 (omega arith)))
pointed-short (d ∷ e ∷ ds) h =
    omega (arith, decimal-two d (h 0 (omega arith)), length-append (decimal d) (point ∷ pointed (e ∷ ds)), pointed-short (e ∷ ds) (λ i p. h (suc i) (omega arith)))

words_short : {s : Shape} {x : ℕ} → Server s x → length (server_words s x) ≤ 17
words_short {s} {x} z =
    let ds = digits s x in
    let b = written_below z.valid (written-digits z) in
    let p = pointed-short (reverse ds) (λ i h.
    omega (arith, reverse-at ds i (omega (arith, length-reverse ds)), b.at (length ds - suc i) (omega (arith, length-reverse ds)), z.valid.ports)) in
    omega (arith, words_long s x, decimal-four x (omega (arith, z.below, z.valid.small)), p, length-reverse ds, digits_long s x, z.valid.levels)

-- ---- a parent's words

pub parent-none : (s : Shape) (a l x : ℕ) → a ≡ x → parent_words s a l x ≡ dash ∷ space ∷ dash ∷ []
unfolding parent_words
parent-none s a l x e = rw (eq-eqb a x e)

pub parent-some : (s : Shape) (a l x : ℕ) → a ≢ x → parent_words s a l x ≡ server_words s (parent_of s a l x)
unfolding parent_words
parent-some s a l x n = rw (ne_eqb a x n)

module _ {s : Shape} {a l x : ℕ} (k : Link s a l) (z : Server s x) (n : a ≢ x) where
  pub child : Child s a l x
  child = child_made k.server z k.level n

  -- the parent is not refused
  pub parent-given : (r : Reason) → no_number (number_of r) ≡ parent_answer s a l x → ⊥
  parent-given r e = reason-some r (ap (λ (w : Number). w.refusal.number) (parent-answered child _ e))

  module _ (y : Number) (e : y ≡ parent_answer s a l x) where
    value : y.value ≡ parent_of s a l x
    value = ap (λ (w : Number). w.value) (parent-answered child y e)

    pub parent_words_is : server_words s y.value ≡ parent_words s a l x
    parent_words_is = ap (server_words s) value ∙ sym (parent-some s a l x n)

    pub parent-there : Server s y.value
    parent-there = subst (Server s) (sym value) (parent-server child)

parent_short : {s : Shape} {a l x : ℕ} → Link s a l → Server s x → length (parent_words s a l x) ≤ 17
parent_short {s} {a} {l} {x} k z =
    elim (ℕ_discrete a x) [
      | yes e ↦ omega (arith, ap length (parent-none s a l x e))
      | no n ↦ omega (arith, ap length (parent-some s a l x n), words_short (parent-server (child k z n)))
    ]

-- a line's words have room in a text with nothing in it
pub line-long : {s : Shape} {a l x : ℕ} → Link s a l → Server s x → length (server_words s x) + length (parent_words s a l x) ≤ 34
line-long k z = omega (arith, words_short z, parent_short k z)

-- ---- the line at a place

pub line_input : (i : ℕ) → get_or (input_line ∷ []) i [] ≡ tree_line (as_tree_question None) i
unfolding tree_line tree_lines
line_input i = refl

-- a line that was taken
module _ (q : tree_asked.TreeQuestion) (i : ℕ) (s : Shape) (e : s ≡ shape_of q.n q.k q.m) (r : ℕ) (f : r ≡ link_refusal s q.source q.tree) where
  of_tree : get_or (lines_of s q.source q.tree) i [] ≡ tree_line (as_tree_question (Some q)) i
  unfolding tree_line tree_lines
  of_tree = ap (λ (w : Shape). get_or (lines_of w q.source q.tree) i []) e

  pub number_small : r < 100
  number_small = omega (arith, one_le 99 refl (link-numbers s q.source q.tree))

  pub line_refused : r ≢ 0 → get_or (refused_line r ∷ []) i [] ≡ tree_line (as_tree_question (Some q)) i
  unfolding lines_of
  line_refused n =
      ap (λ (ls : List (List ℕ)). get_or ls i []) (answer-refused r (link_refusal s q.source q.tree) (λ x. refused_line x ∷ []) (refused_line r ∷ []) (in_order (server_line s q.source q.tree) (servers_of s)) refl f n)
      ∙ of_tree

  module _ (z : r ≡ 0) where
    pub tree-link : Link s q.source q.tree
    tree-link = link_of s q.source q.tree (sym f ∙ z)

    all_lines : get_or (in_order (server_line s q.source q.tree) (servers_of s)) i [] ≡ tree_line (as_tree_question (Some q)) i
    unfolding lines_of
    all_lines =
        ap (λ (ls : List (List ℕ)). get_or ls i []) (sym (answer-none (link_refusal s q.source q.tree) (λ x. refused_line x ∷ []) (in_order (server_line s q.source q.tree) (servers_of s)) (sym z ∙ f)))
        ∙ of_tree

    module _ (c : ℕ) (g : c ≡ server_count s) where
      servers : c ≡ servers_of s
      servers = g ∙ count-servers tree-link.server.valid

      pub place-server : i < c → Server s i
      place-server h = record { valid = tree-link.server.valid; below = omega (arith, servers) }

      pub line-server : i < c → server_line s q.source q.tree i ≡ tree_line (as_tree_question (Some q)) i
      line-server h = sym (order-at (server_line s q.source q.tree) [] (servers_of s) i (omega (arith, servers))) ∙ all_lines

      pub line-past : c ≤ i → [] ≡ tree_line (as_tree_question (Some q)) i
      line-past h =
          sym (get_or-eq_default (in_order (server_line s q.source q.tree) (servers_of s)) [] (omega (arith, servers, order-long (server_line s q.source q.tree) (servers_of s))))
          ∙ all_lines
