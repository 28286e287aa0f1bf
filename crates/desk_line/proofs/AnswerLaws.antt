-- Laws of the answer: the built routes read, their lines one after another, and refusals.
use Prim.Native.Nat.{ℕ, zero, suc, ◌+◌, ◌-◌, ◌*◌, ◌≤◌, ◌<◌}
use mathlib.Core.Path.{◌≡◌, refl, sym, ap, ap₂, ◌∙◌}
use mathlib.Core.Logic.{◌≢◌}
use mathlib.Core.Bool.{cond}
use mathlib.Core.List.{List, [], ◌∷◌, ◌++◌, map, append_assoc, append-nil}
use native.Mathlib.Omega.{arith}
use lib.ListN.{length, take, drop, replicate, length-append, length-replicate}
use Rattle.lists.specs.Lists.{down_from, filled}
use Rattle.refusals.specs.Refusals.{answer}
use Rattle.refusals.proofs.NumberLaws.{one_le}
use Rattle.refusals.proofs.AnswerLaws.{answer-refused, answer-none}
use Rattle.room.specs.declared.Shape.{Shape}
use Rattle.room.specs.Shapes.{full_room, Ends}
use Rattle.room.specs.Refusals.{ends_refusal}
use Rattle.room.proofs.RefusalLaws.{ends_of}
use Rattle.room.proofs.NumberLaws.{ends-numbers}
use Rattle.path.specs.Told.{Reading}
use Rattle.path.specs.Answers.{read_answer}
use Rattle.path.proofs.CodecLaws.{read-given}
use Rattle.build.specs.Told.{Building}
use Rattle.build.specs.declared.RouteSet.{RouteSet}
use Rattle.build.specs.Built.{built_hops, built_bytes, built_arrays}
use Rattle.build.specs.Sets.{joined, array_in, set_of}
use Rattle.build.specs.Answers.{no_building, a_building, build_answer}
use Rattle.build.proofs.BuiltLaws.{built-short, built-route, built-encode, route-long}
use Rattle.build.proofs.SetLaws.{joined-long, set-array}
use Rattle.build.proofs.ArrayLaws.{array_long, arrays-eight, arrays-count, arrays-at}
use Rattle.desk_line.specs.Lines.{newline, space}
use Rattle.desk_line.specs.declared.Question as asked
use Rattle.desk_line.specs.Numbers.{Question, question_of, as_question}
use Rattle.std.specs.Prelude.{None, Some}
use Rattle.desk_line.specs.Texts.{hex_of, decimal, input_line, refused_line, route_line}
use Rattle.desk_line.specs.Answers.{slot_line, routes_text, built_text, desk_text}
use Rattle.desk_line.proofs.TextLaws.{hex-long, decimal-small}

-- ---- one built route

module _ {s : Shape} {a d : ℕ} (e : Ends s a d) (i : ℕ) (h : i ≤ s.k) where
  -- the hops of a built route are those that reading its bytes finds
  pub slot_read : (read_answer s a d (built_bytes s i a d)).count ≡ suc (length (built_hops s i a d))
  slot_read =
      ap (λ (r : Reading). r.count)
      (read-given (record { route = built-route s a d e.source e.destination e.differ i h; bytes = sym (built-encode s a d e.source e.destination e.differ i h) }))
      ∙ route-long s a d e.source e.destination e.differ i h

  pub slot-few : length (built_hops s i a d) ≤ 5
  slot-few = omega (arith, built-short s a d e.source e.destination e.differ i h, e.source.valid.levels)

  -- its line has 19 bytes
  pub slot-long : length (slot_line s a d i) ≡ 19
  unfolding slot_line route_line
  slot-long =
      let x = length (built_hops s i a d) in
      let t = decimal-small x (omega (arith, slot-few)) in
      length-append (hex_of (built_bytes s i a d)) (space ∷ decimal x ++ (newline ∷ []))
      ∙ omega (arith, hex-long (built_bytes s i a d), array_long e i h, length-append (decimal x) (newline ∷ []), ap length t)

-- ---- as the program finds it at a place of the set

pub levels-few : (s : Shape) (a d : ℕ) → ends_refusal s a d ≡ 0 → s.k ≤ 3
levels-few s a d e = (ends_of s a d e).source.valid.levels

-- the eight bytes at place j of the set
abbrev pub part_at : RouteSet → ℕ → List ℕ
part_at r j = take (8 * j + 8 - 8 * j) (drop (8 * j) r.bytes)

module _ (s : Shape) (a d : ℕ) (r : RouteSet) (j : ℕ) (e : ends_refusal s a d ≡ 0) (f : r ≡ set_of (built_arrays s a d)) (h : j ≤ s.k) where
  part_is : part_at r j ≡ built_bytes s (s.k - j) a d
  unfolding array_in
  part_is =
      let m : 8 * j + 8 - 8 * j ≡ 8 = omega arith in
      ap (λ (x : ℕ). take x (drop (8 * j) r.bytes)) m
      ∙ ap (array_in j) f
      ∙ set-array (built_arrays s a d) (arrays-eight (ends_of s a d e)) j (omega (arith, arrays-count s a d))
      ∙ arrays-at s a d j h

  -- what reading it tells
  module _ (x : Reading) (g : x ≡ read_answer s a d (part_at r j)) where
    counted : x.count ≡ suc (length (built_hops s (s.k - j) a d))
    counted =
        ap (λ (y : Reading). y.count) (g ∙ ap (read_answer s a d) part_is)
        ∙ slot_read (ends_of s a d e) (s.k - j) (omega arith)

    pub read_some : 1 ≤ x.count
    read_some = omega (arith, counted)

    pub read-few : x.count - 1 < 10
    read-few = omega (arith, counted, slot-few (ends_of s a d e) (s.k - j) (omega arith))

    pub read-line : route_line (part_at r j) (x.count - 1) ≡ slot_line s a d (s.k - j)
    unfolding slot_line
    read-line =
        let m : x.count - 1 ≡ length (built_hops s (s.k - j) a d) = omega (arith, counted) in ap₂ route_line part_is m

-- ---- all the lines, one after another

-- the lines of the slots below m, the highest first
abbrev pub lines_below : Shape → ℕ → ℕ → ℕ → List ℕ
lines_below s a d m = joined (map (λ i. slot_line s a d i) (down_from m))

lines_next : (s : Shape) (a d m : ℕ) → lines_below s a d (suc m) ≡ slot_line s a d m ++ lines_below s a d m
unfolding joined
lines_next s a d m = refl

-- the lines xs are those of the first j routes
pub record Printed (s : Shape) (a d : ℕ) (xs : List ℕ) (j : ℕ) : Type 0 where
  pub long : length xs ≡ 19 * j
  pub rest : xs ++ lines_below s a d (suc s.k - j) ≡ routes_text s a d

pub print_start : (s : Shape) (a d : ℕ) → Printed s a d [] 0
unfolding routes_text
print_start s a d =
    let m : suc s.k - 0 ≡ suc s.k = omega arith in
    record { long = refl; rest = ap (lines_below s a d) m }

module _ {s : Shape} {a d : ℕ} (e : ends_refusal s a d ≡ 0) {xs : List ℕ} {j : ℕ} (p : Printed s a d xs j) where
  pub print_room : j ≤ s.k → length xs + 19 ≤ 128
  print_room h = omega (arith, p.long, levels-few s a d e)

  pub print_next : j ≤ s.k → Printed s a d (xs ++ slot_line s a d (s.k - j)) (j + 1)
  print_next h =
      let l = slot-long (ends_of s a d e) (s.k - j) (omega arith) in
      let m : suc s.k - j ≡ suc (s.k - j) = omega arith in
      let n : suc s.k - (j + 1) ≡ s.k - j = omega arith in
      let line = slot_line s a d (s.k - j) in
      record {
        long = omega (arith, p.long, length-append xs line);
        rest = ap (λ (y : ℕ). (xs ++ line) ++ lines_below s a d y) n
            ∙ append_assoc xs line (lines_below s a d (s.k - j))
            ∙ ap (λ (y : List ℕ). xs ++ y) (sym (lines_next s a d (s.k - j)) ∙ ap (lines_below s a d) (sym m))
            ∙ p.rest;
      }

  pub print_end : s.k < j → xs ≡ routes_text s a d
  unfolding joined
  print_end h =
      let m : suc s.k - j ≡ 0 = omega arith in
      sym (append-nil xs) ∙ ap (λ (n : ℕ). xs ++ lines_below s a d n) (sym m) ∙ p.rest

-- ---- refusals

number_of : (r : ℕ) (x : RouteSet) → (answer r no_building (a_building x)).refusal.number ≡ r
number_of zero x = refl
number_of (suc r) x = refl

-- what building answers, and the text that is made of it
module _ (s : Shape) (a d : ℕ) (x : Building) (e : x ≡ build_answer s a d) where
  built-number : x.refusal.number ≡ ends_refusal s a d
  unfolding build_answer
  built-number = ap (λ (y : Building). y.refusal.number) e ∙ number_of (ends_refusal s a d) (set_of (built_arrays s a d))

  pub built-few : x.refusal.number < 100
  built-few = omega (arith, built-number, one_le 99 refl (ends-numbers s a d))

  pub text-refused : x.refusal.number ≢ 0 → refused_line x.refusal.number ≡ built_text s a d
  unfolding built_text
  text-refused h =
      answer-refused x.refusal.number (ends_refusal s a d) refused_line (refused_line x.refusal.number) (routes_text s a d) refl built-number h

  module _ (z : x.refusal.number ≡ 0) where
    pub built_ends : ends_refusal s a d ≡ 0
    built_ends = sym built-number ∙ z

    pub built-routes : x.routes ≡ set_of (built_arrays s a d)
    unfolding build_answer
    built-routes =
        ap (λ (y : Building). y.routes) (e ∙ answer-none (ends_refusal s a d) no_building (a_building (set_of (built_arrays s a d))) (sym built_ends))

    pub text-built : routes_text s a d ≡ built_text s a d
    unfolding built_text
    text-built = sym (answer-none (ends_refusal s a d) refused_line (routes_text s a d) (sym built_ends))

-- ---- the whole input

pub desk_asked : (input : List ℕ) (q : asked.Question) (s : Shape) → as_question (Some q) ≡ question_of input → s ≡ full_room q.n q.k → built_text s q.source q.destination ≡ desk_text input
unfolding desk_text
desk_asked input q s e g =
    ap (λ (x : Shape). built_text x q.source q.destination) g
    ∙ ap (λ (x : Question). cond x.taken (built_text (full_room x.n x.k) x.source x.destination) input_line) e

pub desk_other : (input : List ℕ) → as_question None ≡ question_of input → input_line ≡ desk_text input
unfolding desk_text
desk_other input e =
    ap (λ (x : Question). cond x.taken (built_text (full_room x.n x.k) x.source x.destination) input_line) e

pub set_long : (s : Shape) (a d : ℕ) (r : RouteSet) → ends_refusal s a d ≡ 0 → r ≡ set_of (built_arrays s a d) → length r.bytes ≡ 32
unfolding set_of filled
set_long s a d r e f =
    let p = ends_of s a d e in
    let j = joined (built_arrays s a d) in
    ap (λ (x : RouteSet). length x.bytes) f
    ∙ length-append j (replicate (32 - length j) 0)
    ∙ omega (arith, length-replicate {A = ℕ} (32 - length j) 0, joined-long (built_arrays s a d) (arrays-eight p), arrays-count s a d, p.source.valid.levels)
