-- Laws of a tree written whole: digits carried from server to server, and the numbers written one after the other.
use Prim.Native.Nat.{ℕ, zero, suc, ◌+◌, ◌-◌, ◌*◌, ◌/◌, ◌%◌, ◌≤◌, ◌<◌}
use mathlib.Core.Path.{◌≡◌, refl, sym, ap, ap₂, ◌∙◌, subst}
use mathlib.Core.List.{List, [], ◌∷◌, ◌++◌, append_assoc}
use native.Mathlib.Omega.{arith}
use native.Mathlib.Numerals.{add-one}
use native.Mathlib.Nat.{mod-lt, mod-add-div, mul-add, pow-zero}
use native.Mathlib.Decide.{dec_lt, ℕ_discrete}
use lib.ListN.{length, get_or, set, take, drop, replicate, length-set, length-replicate, drop_of_length-le, take-append-drop}
use Rattle.std.proofs.lemmas.List.{set_split, drop-set-lt, get_or-set_same, get_or-set_other}
use borrow.Author.Tests.{eq-eqb, ne_eqb, lt-ltb, le-ltb}
use Rattle.lists.specs.Lists.{filled, in_order}
use Rattle.lists.proofs.ListLaws.{left, order-long, order-at, taken_on, rest_on, filled_is, length-filled, filled_at, filled-past}
use Rattle.refusals.specs.declared.Reason.{Reason}
use Rattle.refusals.specs.Reasons.{number_of}
use Rattle.refusals.proofs.AnswerLaws.{answer-refused, answer-given, answered}
use Rattle.refusals.proofs.ReasonLaws.{tells-given}
use Rattle.room.specs.declared.Shape.{Shape}
use Rattle.room.specs.Told.{Number}
use Rattle.room.specs.Shapes.{servers_of, server_count, Valid, Server, Link}
use Rattle.room.specs.Digits.{digits_of, Below}
use Rattle.room.specs.Addresses.{digits}
use Rattle.room.specs.Refusals.{link_refusal}
use Rattle.room.specs.Answers.{no_number, a_number, no_digits, some_digits, digits_answer}
use Rattle.room.proofs.DigitLaws.{low, high, digits_more, padded_digits, digits-below}
use Rattle.room.proofs.PowerLaws.{count-servers}
use Rattle.room.proofs.RefusalLaws.{link_of}
use Rattle.room.proofs.RoomLaws.{positive, servers_le}
use Rattle.trees.specs.Trees.{parent_of, Child}
use Rattle.trees.specs.Inside.{next_digits, parent_by}
use Rattle.trees.specs.Answers.{no_parent, number_at, tree_of, tree_answer, tree_left}
use Rattle.trees.proofs.ParentLaws.{parent_by-digits, digits-there, found-digits}
use Rattle.trees.proofs.HopLaws.{parent-server-at}

-- ---- the digits of the next number: those before place i are carried, and the rest is left to carry

module _ (n i : ℕ) (xs : List ℕ) (h : i < length xs) where
  pub carry_here : get_or xs i 0 + 1 < n → set xs i (get_or xs i 0 + 1) ≡ take i xs ++ next_digits n (drop i xs)
  unfolding next_digits
  carry_here p = rw (left xs i 0 h, lt-ltb (get_or xs i 0 + 1) n p, add-one i) (set_split xs i (get_or xs i 0 + 1) h)

  pub carry_on : n ≤ get_or xs i 0 + 1 → take (i + 1) (set xs i 0) ++ next_digits n (drop (i + 1) (set xs i 0)) ≡ take i xs ++ next_digits n (drop i xs)
  unfolding next_digits
  carry_on p =
      rw (left xs i 0 h, le-ltb (get_or xs i 0 + 1) n p, taken_on xs i 0 h, drop-set-lt (i + 1) xs i 0 (omega arith), append_assoc)

  pub carried_below : Below n xs → Below n (set xs i 0)
  carried_below b =
      record {
        at = λ j q.
            elim (ℕ_discrete j i) [
              | yes e ↦ rw (e, get_or-set_same xs i 0 0 h) (omega (arith, b.at i h))
              | no e ↦ rw (get_or-set_other xs i j 0 0 e) (b.at j (omega (arith, length-set xs i 0)))
            ];
      }

pub carry_end : (n i : ℕ) (xs : List ℕ) → length xs ≤ i → xs ≡ take i xs ++ next_digits n (drop i xs)
unfolding next_digits
carry_end n i xs h = sym (rw (drop_of_length-le xs h) at (take-append-drop i xs)) ∙ rw (drop_of_length-le xs h)

-- what they are
next_here : (n a : ℕ) → a % n + 1 < n → ((a + 1) % n ≡ a % n + 1) × ((a + 1) / n ≡ a / n)
next_here n a p =
    let e : a + 1 ≡ (a % n + 1) + n * (a / n) = omega (arith, mod-add-div a n) in
    (ap (λ (y : ℕ). y % n) e ∙ low (a / n) p, ap (λ (y : ℕ). y / n) e ∙ high (a / n) p)

next-over : (n a : ℕ) → 0 < n → n ≤ a % n + 1 → ((a + 1) % n ≡ 0) × ((a + 1) / n ≡ a / n + 1)
next-over n a z p =
    let l = mod-lt a z in
    let m : n * (a / n + 1) ≡ n * (a / n) + n = mul-add n (a / n) 1 ∙ omega arith in
    let e : a + 1 ≡ 0 + n * (a / n + 1) = omega (arith, mod-add-div a n, l, m) in
    (ap (λ (y : ℕ). y % n) e ∙ low (a / n + 1) z, ap (λ (y : ℕ). y / n) e ∙ high (a / n + 1) z)

next-digits : (n m a : ℕ) → 0 < n → next_digits n (digits_of n m a) ≡ digits_of n m (a + 1)
unfolding next_digits digits_of
next-digits n zero a z = refl
next-digits n (suc m) a z =
    elim (dec_lt (a % n + 1) n) [
      | yes p ↦ let h = next_here n a p in rw (lt-ltb (a % n + 1) n p, h.0, h.1)
      | no p ↦ let h = next-over n a z (omega arith) in rw (le-ltb (a % n + 1) n (omega arith), h.0, h.1, next-digits n m (a / n) z)
    ]

-- ---- the number of a server, as the program finds it

module _ (s : Shape) (a l x : ℕ) where
  pub number_source : a ≡ x → no_parent ≡ number_at s a l x
  unfolding number_at
  number_source e = rw (eq-eqb a x e)

  pub number-parent : (a ≡ x → ⊥) → (es ds : List ℕ) → (link_refusal s a l ≡ 0) × Server s x × (es ≡ filled 4 (digits s a)) × (ds ≡ filled 4 (digits s x)) → (v : ℕ) → v ≡ parent_by s l es ds x → v ≡ number_at s a l x
  unfolding number_at
  number-parent ne es ds h v e = rw (ne_eqb a x ne) (e ∙ parent_by-digits s a l x es ds h.2 h.3)

  pub number-link : (es ds : List ℕ) → (link_refusal s a l ≡ 0) × Server s x × (es ≡ filled 4 (digits s a)) × (ds ≡ filled 4 (digits s x)) → Link s x l × (ds ≡ filled 4 (digits s x))
  number-link es ds h = (record { server = h.1; level = (link_of s a l h.0).level }, h.3)

  pub number_fits : (es ds : List ℕ) → (link_refusal s a l ≡ 0) × Server s x × (es ≡ filled 4 (digits s a)) × (ds ≡ filled 4 (digits s x)) → (v : ℕ) → v ≡ parent_by s l es ds x → v < 4096
  number_fits es ds h v e =
      let p = parent-server-at s a l x h.1 (link_of s a l h.0).level in
      omega (arith, e, parent_by-digits s a l x es ds h.2 h.3, p.below, p.valid.small)

-- ---- all of them, one after the other

-- the numbers of the servers before x are written, and ds are the digits of x
pub record Writing (s : Shape) (a l : ℕ) (ps ds : List ℕ) (x : ℕ) : Type 0 where
  pub long : length ps ≡ 4096
  pub upto : x ≤ servers_of s
  pub own : ds ≡ digits_of s.n 4 x
  pub done : take x ps ≡ in_order (number_at s a l) x
  pub rest : drop x ps ≡ replicate (4096 - x) 0

four-digits : {s : Shape} {x : ℕ} → Server s x → digits_of s.n 4 x ≡ filled 4 (digits s x)
unfolding digits
four-digits {s} {x} h =
    let v = h.valid in
    padded_digits s.n (suc s.k) x (positive v) (omega (arith, v.levels)) (omega (arith, h.below, servers_le v))

module _ (s : Shape) (a l : ℕ) (z : link_refusal s a l ≡ 0) where
  valid : Valid s
  valid = (link_of s a l z).server.valid

  pub writing_start : (ps : List ℕ) → ps ≡ replicate 4096 0 → Writing s a l ps (replicate 4 0) 0
  unfolding in_order digits_of
  writing_start ps e =
      record {
        long = ap length e ∙ length-replicate {A = ℕ} 4096 0;
        upto = omega arith;
        own = sym (digits_more s.n 0 4 0 (positive valid) (omega (arith, pow-zero s.n)));
        done = refl;
        rest = e;
      }

  module _ (m : ℕ) (e : m ≡ server_count s) (qs ds : List ℕ) (x : ℕ) (h : Writing s a l qs ds x) where
    count : m ≡ servers_of s
    count = e ∙ count-servers valid

    writing-server : x < m → Server s x
    writing-server p = record { valid = valid; below = omega (arith, count) }

    writing-digits : x < m → ds ≡ filled 4 (digits s x)
    writing-digits p = h.own ∙ four-digits (writing-server p)

    -- what is asked before a number is found
    pub writing-asked : x < m → (es : List ℕ) → es ≡ filled 4 (digits s a) → (link_refusal s a l ≡ 0) × Server s x × (es ≡ filled 4 (digits s a)) × (ds ≡ filled 4 (digits s x))
    writing-asked p es f = (z, writing-server p, f, writing-digits p)

    pub writing-below : Below s.n ds
    writing-below = subst (Below s.n) (sym h.own) (digits-below s.n 4 x (positive valid))

    pub writing-inside : x < m → x < 4096
    writing-inside p = omega (arith, count, valid.small)

    pub writing_on : x < m → (v : ℕ) → v ≡ number_at s a l x → (es : List ℕ) → es ≡ next_digits s.n ds → Writing s a l (set qs x v) es (x + 1)
    unfolding in_order
    writing_on p v f es g =
        record {
          long = length-set qs x v ∙ h.long;
          upto = omega (arith, count);
          own = g ∙ ap (next_digits s.n) h.own ∙ next-digits s.n 4 x (positive valid);
          done = taken_on qs x v (omega (arith, h.long, writing-inside p)) ∙ ap₂ (λ (ys : List ℕ) (y : ℕ). ys ++ (y ∷ [])) h.done f ∙ ap (in_order (number_at s a l)) (sym (add-one x));
          rest = rest_on 4096 qs x v h.rest;
        }

    pub writing-all : m ≤ x → qs ≡ tree_of s a l
    unfolding tree_of
    writing-all p =
        let q : x ≡ servers_of s = omega (arith, count, h.upto) in
        let t = valid.small in
        sym (filled_is 4096 qs x (omega arith) h.long h.rest) ∙ ap (filled 4096) (h.done ∙ ap (in_order (number_at s a l)) q)

-- ---- the answer as the program gives it

module _ (s : Shape) (a l : ℕ) where
  pub tree_keeps : (r : ℕ) → r ≡ link_refusal s a l → (r ≡ 0 → ⊥) → (ps : List ℕ) → ps ≡ tree_left s a l ps
  unfolding tree_left
  tree_keeps r e h ps = answer-refused r _ (λ q. ps) ps _ refl e h

  module _ (e : 0 ≡ link_refusal s a l) where
    link : Link s a l
    link = link_of s a l (sym e)

    pub root-there : (r : Reason) → no_digits (number_of r) ≡ digits_answer s a → ⊥
    root-there = digits-there link.server

    pub root-digits : (es : List ℕ) → some_digits es ≡ digits_answer s a → es ≡ filled 4 (digits s a)
    root-digits = found-digits link.server

    pub tree-given : (m : ℕ) → m ≡ server_count s → a_number m ≡ tree_answer s a l
    unfolding tree_answer
    tree-given m f = tells-given no_number a_number _ m _ e (f ∙ count-servers link.server.valid)

    pub tree-written : (ps qs : List ℕ) → qs ≡ tree_of s a l → qs ≡ tree_left s a l ps
    unfolding tree_left
    tree-written ps qs g = answer-given 0 _ (λ q. ps) _ _ e refl g

-- ---- the numbers of a tree, one by one

module _ {s : Shape} {a l : ℕ} (h : Link s a l) where
  pub tree-long : length (tree_of s a l) ≡ 4096
  unfolding tree_of
  tree-long =
      length-filled 4096 (in_order (number_at s a l) (servers_of s)) (omega (arith, order-long (number_at s a l) (servers_of s), h.server.valid.small))

  pub tree-at : (x : ℕ) → x < servers_of s → get_or (tree_of s a l) x 0 ≡ number_at s a l x
  unfolding tree_of
  tree-at x p = filled_at 4096 (in_order (number_at s a l) (servers_of s)) x ∙ order-at (number_at s a l) 0 (servers_of s) x p

  pub tree-past : (x : ℕ) → servers_of s ≤ x → get_or (tree_of s a l) x 0 ≡ 0
  unfolding tree_of
  tree-past x p =
      filled-past 4096 (in_order (number_at s a l) (servers_of s)) x (omega (arith, order-long (number_at s a l) (servers_of s)))

  pub tree-source : get_or (tree_of s a l) a 0 ≡ no_parent
  tree-source = tree-at a h.server.below ∙ sym (number_source s a l a refl)

  pub tree-parent : (x : ℕ) → Child s a l x → get_or (tree_of s a l) x 0 ≡ parent_of s a l x
  unfolding number_at
  tree-parent x c = tree-at x c.link.server.below ∙ rw (ne_eqb a x c.apart)

-- ---- an answer that is not refused

pub tree-answered : (s : Shape) (a l : ℕ) → (tree_answer s a l).refusal.number ≡ 0 → (link_refusal s a l ≡ 0) × (tree_answer s a l ≡ a_number (servers_of s))
unfolding tree_answer
tree-answered s a l e =
    answered (λ (y : Number). y.refusal.number) no_number (λ r. refl) (link_refusal s a l) (tree_answer s a l) (a_number (servers_of s)) refl e
