-- For the layers above: what the answers of the room are where nothing is refused, and that digits and addresses undo each other.
use Prim.Native.Nat.{ℕ, suc, ◌-◌}
use mathlib.Core.Path.{◌≡◌, refl, ap, ap₂, ◌∙◌}
use mathlib.Core.List.{List}
use lib.ListN.{length, take}
use Rattle.lists.specs.Lists.{filled}
use mathlib.Core.Bool.{cond}
use Rattle.std.specs.Prelude.{Result, Option, Some, None}
use Rattle.refusals.specs.declared.Reason.{Reason}
use Rattle.refusals.specs.Reasons.{tells}
use Rattle.refusals.proofs.ReasonLaws.{tells-same}
use Rattle.room.specs.declared.Switch.{Switch as Named}
use Rattle.refusals.proofs.AnswerLaws.{answer-none, answer-given}
use Rattle.room.specs.declared.Shape.{Shape}
use Rattle.room.specs.Told.{Number, Digits, Switch, Between}
use Rattle.room.specs.Digits.{address_of, differ_from}
use Rattle.room.specs.Shapes.{servers_of, Valid, Server, Link, Value}
use Rattle.room.specs.Addresses.{digits, digit, with_digit, switch_of, differing}
use Rattle.room.specs.Refusals.{pair_refusal}
use Rattle.room.specs.Answers.{no_number, a_number, no_digits, some_digits, no_switch, the_switch, a_switch, between, no_between, only_level, servers_answer, digits_answer, digit_answer, address_answer, switch_answer, neighbour_answer, between_answer}
use Rattle.room.proofs.DigitLaws.{address_padded}
use Rattle.room.proofs.RefusalLaws.{Places, valid-none, server-none, pair_none, link-none, value_none, places_none}
use Rattle.room.proofs.RoomLaws.{differ-four, read_back, write-back, written-server, places_digits, places_written, places_padded, places_address}

-- ---- as the program answers

-- two servers compared in four places each, where neither is refused
pub between-given : (s : Shape) (a b : ℕ) → 0 ≡ pair_refusal s a b → (ds es : List ℕ) → ds ≡ filled 4 (digits s a) → es ≡ filled 4 (digits s b) → (x : Between) → x ≡ only_level (differ_from 0 ds es) → x ≡ between_answer s a b
unfolding between_answer
between-given s a b e ds es f g x h = answer-given 0 _ no_between x _ e refl (h ∙ ap only_level (ap₂ (differ_from 0) f g ∙ differ-four s a b))

-- ---- two results that tell the same are one

pub number-same : (x y : Result ℕ Reason) → tells no_number a_number x ≡ tells no_number a_number y → x ≡ y
number-same = tells-same no_number a_number (λ (x : Number). x.refusal.number) (λ (x : Number). x.value) (λ r. refl) (λ x. refl) (λ x. refl)

pub digits-same : (x y : Result (List ℕ) Reason) → tells no_digits some_digits x ≡ tells no_digits some_digits y → x ≡ y
digits-same = tells-same no_digits some_digits (λ (x : Digits). x.refusal.number) (λ (x : Digits). x.places) (λ r. refl) (λ x. refl) (λ x. refl)

pub switch-same : (x y : Result Named Reason) → tells no_switch the_switch x ≡ tells no_switch the_switch y → x ≡ y
switch-same = tells-same no_switch the_switch (λ (x : Switch). x.refusal.number) (λ (x : Switch). record { level = x.level; number = x.number }) (λ r. refl) (λ x. refl) (λ x. refl)

pub between-same : (x y : Result (Option ℕ) Reason) → tells no_between between x ≡ tells no_between between y → x ≡ y
between-same = tells-same no_between between (λ (x : Between). x.refusal.number) level_in (λ r. refl) no_refusal level_back
  where
    level_in : Between → Option ℕ
    level_in x = cond x.adjacent (Some x.level) None

    no_refusal : (x : Option ℕ) → (between x).refusal.number ≡ 0
    no_refusal None = refl
    no_refusal (Some l) = refl

    level_back : (x : Option ℕ) → level_in (between x) ≡ x
    level_back None = refl
    level_back (Some l) = refl

-- ---- where nothing is refused, an answer is what was asked for

pub servers-answered : {s : Shape} → Valid s → (x : Number) → x ≡ servers_answer s → x ≡ a_number (servers_of s)
unfolding servers_answer
servers-answered {s} h x e = e ∙ answer-none _ no_number _ (valid-none h)

pub digits-answered : {s : Shape} {a : ℕ} → Server s a → (x : Digits) → x ≡ digits_answer s a → x ≡ some_digits (filled 4 (digits s a))
unfolding digits_answer
digits-answered h x e = e ∙ answer-none _ no_digits _ (server-none h)

pub digit-answered : {s : Shape} {a l : ℕ} → Link s a l → (x : Number) → x ≡ digit_answer s a l → x ≡ a_number (digit s l a)
unfolding digit_answer
digit-answered h x e = e ∙ answer-none _ no_number _ (link-none h)

pub address-answered : {s : Shape} {ds : List ℕ} → Places s ds → (x : Number) → x ≡ address_answer s ds → x ≡ a_number (address_of s.n ds)
unfolding address_answer
address-answered h x e = e ∙ answer-none _ no_number _ (places_none h)

pub switch-answered : {s : Shape} {a l : ℕ} → Link s a l → (x : Switch) → x ≡ switch_answer s a l → x ≡ a_switch l (switch_of s l a)
unfolding switch_answer
switch-answered h x e = e ∙ answer-none _ no_switch _ (link-none h)

pub neighbour-answered : {s : Shape} {a l v : ℕ} → Value s a l v → (x : Number) → x ≡ neighbour_answer s a l v → x ≡ a_number (with_digit s l v a)
unfolding neighbour_answer
neighbour-answered h x e = e ∙ answer-none _ no_number _ (value_none h)

pub between-answered : {s : Shape} {a b : ℕ} → Server s a → Server s b → (x : Between) → x ≡ between_answer s a b → x ≡ only_level (differing s a b)
unfolding between_answer
between-answered ha hb x e = e ∙ answer-none _ no_between _ (pair_none ha hb)

-- ---- digits and address undo each other, as the two calls answer

-- the digits of a server, read back as an address, are that server
pub address_of-digits : {s : Shape} {a : ℕ} → Server s a → address_answer s (filled 4 (digits s a)) ≡ a_number a
unfolding filled
address_of-digits {s} {a} h =
    address-answered (places_digits h) _ refl
    ∙ ap a_number (address_padded s.n (digits s a) (4 - length (digits s a)) ∙ read_back h)

-- the address of digits that are not refused, taken apart again, has those digits
pub digits_of-address : {s : Shape} {ds : List ℕ} → Places s ds → length ds ≡ 4 → digits_answer s (address_of s.n ds) ≡ some_digits ds
digits_of-address {s} {ds} h l =
    let w = places_written h l in
    let e = places_address h l in
    let v : Server s (address_of s.n (take (suc s.k) ds)) = written-server h.valid w in
    ap (digits_answer s) e ∙ digits-answered v _ refl ∙ ap some_digits (ap (filled 4) (write-back h.valid w) ∙ places_padded h l)
