-- Demand 2, proved: addresses, digits, switches and neighbours, and what the calls of the room answer.
use Prim.Native.Nat.{ℕ, suc, ◌-◌, ◌*◌, ◌^◌}
use mathlib.Core.Path.{◌≡◌, refl, sym, ap, subst, ◌∙◌}
use mathlib.Core.Logic.{◌↔◌}
use mathlib.Core.Bool.{true, false}
use mathlib.Core.List.{List, [], ◌∷◌}
use native.Mathlib.Omega.{arith}
use native.Mathlib.Nat.{pow-suc, pow-zero, mul-zero, mul-add, mul_assoc, mul_comm, one-mul}
use lib.ListN.{length, get_or}
use Rattle.lists.proofs.ListLaws.{length-filled}
use Rattle.lists.specs.Lists.{filled}
use Rattle.refusals.specs.Refusals.{answer}
use Rattle.refusals.proofs.AnswerLaws.{answered}
use Rattle.room.specs.declared.Shape.{Shape}
use Rattle.room.specs.Told.{Number, Digits, Switch, Between}
use Rattle.room.specs.Shapes.{servers_of, bound, Server}
use Rattle.room.specs.Digits.{address_of}
use Rattle.room.specs.Addresses.{digits, digit, with_digit, switch_of, differing}
use Rattle.room.specs.Refusals.{shape_refusal, level_refusal, server_refusal, pair_refusal, link_refusal, value_refusal, places_refusal}
use Rattle.room.specs.Answers.{no_number, a_number, no_digits, some_digits, no_switch, a_switch, no_between, only_level, servers_answer, bound_answer, digits_answer, digit_answer, address_answer, switch_answer, neighbour_answer, between_answer}
use Rattle.room.proofs.DigitLaws.{address_padded}
use Rattle.room.proofs.RefusalLaws.{server_of, pair_of, link_of, value-of}
use Rattle.room.proofs.RoomLaws as rooms
use Rattle.room.proofs.WiringLaws as wiring
use Rattle.room.proofs.AnswerLaws.{digits-answered}
use Rattle.demands.specs.Demand2.{weighed, AddressesExactly, DigitsExactly, DigitExactly, SwitchesExactly, SwitchesNumbered, NeighboursExactly, FourPlaces, TellsLevel, RoomAnswers}

-- a number read from the top is the sum of its digits times their weights
weighed-from : (n i : ℕ) (ds : List ℕ) → weighed n i ds ≡ n ^ i * address_of n ds
unfolding address_of
weighed-from n i [] = sym (mul-zero (n ^ i))
weighed-from n i (d ∷ ds) = rw (weighed-from n (suc i) ds, pow-suc n i, mul-add (n ^ i) d (n * address_of n ds), mul_comm (n ^ i) d, mul_assoc (n ^ i) n (address_of n ds))

weighed-sum : (n : ℕ) (ds : List ℕ) → weighed n 0 ds ≡ address_of n ds
weighed-sum n ds = weighed-from n 0 ds ∙ rw (pow-zero n, one-mul (address_of n ds))

pub addresses-exactly : AddressesExactly
addresses-exactly s a h = (rooms.written-digits h, weighed-sum s.n _ ∙ rooms.read_back h)

pub digits-exactly : DigitsExactly
digits-exactly s ds v w =
    let e = weighed-sum s.n ds in
    (subst (Server s) (sym e) (rooms.written-server v w), ap (digits s) e ∙ rooms.write-back v w)

pub digit-exactly : DigitExactly
digit-exactly s a l h = sym (rooms.digit_closed_at h (s.n ^ l) refl)

pub switches-exactly : SwitchesExactly
switches-exactly s l a b h g = rooms.switch-exactly h g

pub switches-numbered : SwitchesNumbered
switches-numbered s l v p = record { below = λ a h. rooms.switch_lt (record { server = h; level = p }); all = λ w q. let j = wiring.switch-all v p w q in (j.who, j.server, j.there) }

pub neighbours-exactly : NeighboursExactly
neighbours-exactly s a b l h g = rooms.neighbours-exactly h g l

-- ---- the calls

-- an answer with no refusal is the number asked for
number : (q v : ℕ) (x : Number) → x ≡ answer q no_number (a_number v) → x.refusal.number ≡ 0 → (q ≡ 0) × (x.value ≡ v)
number q v x e z =
    let p = answered (λ (y : Number). y.refusal.number) no_number (λ r. refl) q x (a_number v) e z in
    (p.0, ap (λ (y : Number). y.value) p.1)

four_places : {s : Shape} {a : ℕ} → Server s a → FourPlaces s a (filled 4 (digits s a))
unfolding filled
four_places {s} {a} h =
    record {
      long = length-filled 4 (digits s a) (omega (arith, rooms.digits_long s a, h.valid.levels));
      small = λ l p. rw (rooms.place-digit s a l) (rooms.digit_lt h l p);
      above = λ l p. rooms.place-digit s a l ∙ rooms.digit-past s a l p;
      sum = weighed-sum s.n _ ∙ address_padded s.n (digits s a) (4 - length (digits s a)) ∙ rooms.read_back h;
    }

-- the one level of a list, told
only-exactly : (ls : List ℕ) (l : ℕ) → (((only_level ls).adjacent ≡ true) × ((only_level ls).level ≡ l)) ↔ (ls ≡ l ∷ [])
only-exactly [] l = (λ p. let z : ◌≡◌ {A = ℕ} 0 1 = (let e = p.0 in cc) in let n : ⊥ = omega arith in absurd n, λ e. let z : ◌≡◌ {A = ℕ} 0 1 = cc in let n : ⊥ = omega arith in absurd n)
only-exactly (m ∷ []) l = (λ p. ap (λ (x : ℕ). x ∷ []) p.1, λ e. (refl, cc))
only-exactly (m ∷ n ∷ ms) l = (λ p. let z : ◌≡◌ {A = ℕ} 0 1 = (let e = p.0 in cc) in let n : ⊥ = omega arith in absurd n, λ e. let z : ◌≡◌ {A = ℕ} 0 1 = (let q = ap length e in omega arith) in let n : ⊥ = omega arith in absurd n)

only_zero : (ls : List ℕ) → (only_level ls).adjacent ≡ false → (only_level ls).level ≡ 0
only_zero [] e = refl
only_zero (m ∷ []) e = let z : ◌≡◌ {A = ℕ} 0 1 = cc in let n : ⊥ = omega arith in absurd n
only_zero (m ∷ n ∷ ms) e = refl

tells_level : {s : Shape} {a b : ℕ} → Server s a → Server s b → TellsLevel s a b (only_level (differing s a b))
tells_level {s} {a} {b} h g =
    record {
      level = λ l. (λ p. (rooms.neighbours-exactly h g l).0 ((only-exactly (differing s a b) l).0 p), λ n. (only-exactly (differing s a b) l).1 ((rooms.neighbours-exactly h g l).1 n));
      zero = only_zero (differing s a b);
    }

pub room_answers : RoomAnswers
unfolding servers_answer bound_answer digits_answer digit_answer address_answer switch_answer neighbour_answer between_answer switch_of
room_answers =
    record {
      servers-of = λ s z. (number (shape_refusal s) (servers_of s) _ refl z).1 ∙ rooms.servers_are s;
      bound_of = λ s l z.
          let p = (number (level_refusal s l) (bound s l) _ refl z).1 in
          (λ h. p ∙ rooms.bound-other s l (λ e. omega arith), λ e. p ∙ ap (bound s) e ∙ rooms.bound-top s);
      digits_of = λ s a z.
          let p = answered (λ (x : Digits). x.refusal.number) no_digits (λ r. refl) (server_refusal s a) (digits_answer s a) (some_digits (filled 4 (digits s a))) refl z in
          subst (λ (x : Digits). FourPlaces s a x.places) (sym p.1) (four_places (server_of s a p.0));
      digit_of = λ s a l z.
          let p = number (link_refusal s a l) (digit s l a) _ refl z in
          p.1 ∙ sym (ap (λ (x : Digits). get_or x.places l 0) (digits-answered (link_of s a l p.0).server (digits_answer s a) refl) ∙ rooms.place-digit s a l);
      address-of = λ s ds z. (number (places_refusal s ds) (address_of s.n ds) _ refl z).1 ∙ sym (weighed-sum s.n ds);
      switch-of = λ s a l z.
          let p = (answered (λ (x : Switch). x.refusal.number) no_switch (λ r. refl) (link_refusal s a l) (switch_answer s a l) (a_switch l (switch_of s l a)) refl z).1 in
          (ap (λ (x : Switch). x.level) p, ap (λ (x : Switch). x.number) p ∙ sym (weighed-sum s.n _));
      neighbour_of = λ s a l v z.
          let p = number (value_refusal s a l v) (with_digit s l v a) _ refl z in
          let h = value-of s a l v p.0 in
          rw p.1 (record { server = rooms.with_server h; own = rooms.with_same h; others = rooms.with_beside h });
      level_between = λ s a b z.
          let p = answered (λ (x : Between). x.refusal.number) no_between (λ r. refl) (pair_refusal s a b) (between_answer s a b) (only_level (differing s a b)) refl z in
          let h = pair_of s a b p.0 in
          subst (TellsLevel s a b) (sym p.1) (tells_level h.0 h.1);
    }
