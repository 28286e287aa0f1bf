-- The answers of the room and of the failed-link table fit the result word, and what the word then says.
use Prim.Native.Nat.{ℕ, zero, suc, ◌+◌, ◌≤◌, ◌<◌}
use native.Mathlib.Numerals.{add-one}
use native.Mathlib.Omega.{arith}
use mathlib.Core.Path.{◌≡◌, refl, sym, ap, ◌∙◌, subst}
use mathlib.Core.Bool.{Bool, true, false, cond}
use mathlib.Core.List.{List, [], ◌∷◌}
use lib.Dec.{lit<, lit≤}
use lib.ListN.{length}
use Rattle.lists.specs.Lists.{filled}
use Rattle.refusals.specs.Refusals.{Refusal}
use Rattle.refusals.specs.Refusals.{plain, answer}
use Rattle.refusals.proofs.NumberLaws.{one_le}
use Rattle.room.specs.declared.Shape.{Shape}
use Rattle.room.specs.Told.{Digits}
use Rattle.room.specs.Told.{Between}
use Rattle.room.specs.Digits.{address_of}
use Rattle.room.specs.Shapes.{servers_of, bound, Server, Link}
use Rattle.room.specs.Addresses.{digits, digit, with_digit, switch_of, switches_at, differing}
use Rattle.room.specs.Refusals.{shape_refusal, level_refusal, server_refusal, pair_refusal, link_refusal, value_refusal, places_refusal}
use Rattle.room.specs.Answers.{no_digits, some_digits, no_switch, a_switch, no_between, only_level, servers_answer, bound_answer, digits_answer, digit_answer, address_answer, switch_answer, neighbour_answer, between_answer}
use Rattle.room.specs.Wiring.{server_at, port_refusal, switches_answer, server_at_answer}
use Rattle.room.proofs.RefusalLaws.{valid_of, level-of, pair_of, link_of, value-of, places_of}
use Rattle.room.proofs.NumberLaws.{shape-numbers, level-numbers, server-numbers, pair_numbers, link-numbers, value-numbers, places-numbers, port-numbers}
use Rattle.room.proofs.FourPlaces.{four_small}
use Rattle.room.proofs.RoomLaws as rooms
use Rattle.room.proofs.RoomLaws.{bound_le, digit_lt, with_server, neighbours-exactly, places_below}
use Rattle.room.proofs.WiringLaws.{port_of, port-server}
use Rattle.links.specs.Told.{Asked}
use Rattle.links.specs.Table.{failed, table_link_refusal}
use Rattle.links.specs.Answers.{not_asked, asked, failed_answer}
use Rattle.links.proofs.NumberLaws.{table-link-numbers}
use Rattle.driver.specs.declared.Answer.{Answer}
use Rattle.driver.specs.Words.{word, Small, between_word, asked_word}
use Rattle.driver.proofs.WordLaws.{none-small, plain-small, number_small}

-- ---- a refusal of a call as a whole, with any number

plain_with : (r v : ℕ) → r ≤ 255 → v < 4294967296 → Small (plain r) v
plain_with r v h k = record { number = omega arith; route = lit< tt; hop = lit< tt; earlier-route = lit< tt; earlier-hop = lit< tt; value = k }

pub plain_fits : {r q : ℕ} {x : Refusal} (v : ℕ) → q ≤ 255 → v < 4294967296 → r ≡ q → x ≡ plain r → Small x v
plain_fits {r} {q} {x} v h k e g = subst (λ (z : Refusal). Small z v) (sym (g ∙ ap plain e)) (plain_with q v h k)

-- ---- numbers

pub servers-small : (s : Shape) → Small (servers_answer s).refusal (servers_answer s).value
unfolding servers_answer
servers-small s =
    number_small (shape_refusal s) (servers_of s) (one_le 255 refl (shape-numbers s)) (λ z. let v = valid_of s z in omega (arith, v.small))

pub bound-small : (s : Shape) (l : ℕ) → Small (bound_answer s l).refusal (bound_answer s l).value
unfolding bound_answer
bound-small s l =
    number_small (level_refusal s l) (bound s l) (one_le 255 refl (level-numbers s l))
    (λ z. let v = level-of s l z in omega (arith, bound_le v.0 l, v.0.ports))

pub switches-small : (s : Shape) (l : ℕ) → Small (switches_answer s l).refusal (switches_answer s l).value
unfolding switches_answer
switches-small s l =
    number_small (level_refusal s l) (switches_at s l) (one_le 255 refl (level-numbers s l))
    (λ z. omega (arith, rooms.switches-small (level-of s l z).0 l))

pub server-at-small : (s : Shape) (l w v : ℕ) → Small (server_at_answer s l w v).refusal (server_at_answer s l w v).value
unfolding server_at_answer
server-at-small s l w v =
    number_small (port_refusal s l w v) (server_at s l w v) (one_le 255 refl (port-numbers s l w v))
    (λ z. let a = port-server (port_of s l w v z) in omega (arith, a.below, a.valid.small))

digit_lt_64 : {s : Shape} {a : ℕ} → Server s a → (l : ℕ) → l ≤ s.k → digit s l a < 64
digit_lt_64 h l p = omega (arith, digit_lt h l p, bound_le h.valid l, h.valid.ports)

pub digit-small : (s : Shape) (a l : ℕ) → Small (digit_answer s a l).refusal (digit_answer s a l).value
unfolding digit_answer
digit-small s a l =
    number_small (link_refusal s a l) (digit s l a) (one_le 255 refl (link-numbers s a l))
    (λ z. let h = link_of s a l z in omega (arith, digit_lt_64 h.server l h.level))

pub address-small : (s : Shape) (ds : List ℕ) → length ds ≡ 4 → Small (address_answer s ds).refusal (address_answer s ds).value
unfolding address_answer
address-small s ds e =
    number_small (places_refusal s ds) (address_of s.n ds) (one_le 255 refl (places-numbers s ds))
    (λ z.
    let p = places_of s ds z in
    omega (arith, four_small s.n ds p.valid.ports (places_below p) e))

pub neighbour-small : (s : Shape) (a l v : ℕ) → Small (neighbour_answer s a l v).refusal (neighbour_answer s a l v).value
unfolding neighbour_answer
neighbour-small s a l v =
    number_small (value_refusal s a l v) (with_digit s l v a) (one_le 255 refl (value-numbers s a l v))
    (λ z. let h = with_server (value-of s a l v z) in omega (arith, h.below, h.valid.small))

-- ---- switches

switch_lt_word : {s : Shape} {a l : ℕ} → Link s a l → switch_of s l a < 4294967296
switch_lt_word h = omega (arith, rooms.switch-small h)

switch_part : (r l w : ℕ) → r ≤ 255 → (r ≡ 0 → w < 4294967296) → Small (answer r no_switch (a_switch l w)).refusal (answer r no_switch (a_switch l w)).number
switch_part zero l w h f = none-small w (f refl)
switch_part (suc r) l w h f = plain-small (suc r) h

pub switch-small : (s : Shape) (a l : ℕ) → Small (switch_answer s a l).refusal (switch_answer s a l).number
unfolding switch_answer
switch-small s a l = switch_part (link_refusal s a l) l (switch_of s l a) (one_le 255 refl (link-numbers s a l)) (λ z. switch_lt_word (link_of s a l z))

-- ---- the level between two servers

only_part : (ls : List ℕ) → ((l : ℕ) → ls ≡ l ∷ [] → l ≤ 3) → (only_level ls).level ≤ 3
only_part [] f = lit≤ tt
only_part (l ∷ []) f = f l refl
only_part (l ∷ m ∷ ls) f = lit≤ tt

level_part : (r : ℕ) (y : Between) → (r ≡ 0 → y.level ≤ 3) → (answer r no_between y).level ≤ 3
level_part zero y f = f refl
level_part (suc r) y f = lit≤ tt

level-at : (s : Shape) (a b : ℕ) → (between_answer s a b).level ≤ 3
unfolding between_answer
level-at s a b =
    level_part (pair_refusal s a b) (only_level (differing s a b))
    (λ z.
    let h = pair_of s a b z in
    only_part (differing s a b)
    (λ l e. omega (arith, ((neighbours-exactly h.0 h.1 l).0 e).level, h.0.valid.levels)))

pub between-level : (s : Shape) (a b : ℕ) {x : Between} → x ≡ between_answer s a b → x.level ≤ 3
between-level s a b {x} e = subst (λ (z : Between). z.level ≤ 3) (sym e) (level-at s a b)

only-refusal : (ls : List ℕ) (v : ℕ) → v < 4294967296 → Small (only_level ls).refusal v
only-refusal [] v k = none-small v k
only-refusal (l ∷ []) v k = none-small v k
only-refusal (l ∷ m ∷ ls) v k = none-small v k

between_part : (r v : ℕ) (y : Between) → r ≤ 255 → v < 4294967296 → Small y.refusal v → Small (answer r no_between y).refusal v
between_part zero v y h k f = f
between_part (suc r) v y h k f = plain_with (suc r) v h k

between-at : (s : Shape) (a b v : ℕ) → v < 4294967296 → Small (between_answer s a b).refusal v
unfolding between_answer
between-at s a b v k =
    between_part (pair_refusal s a b) v (only_level (differing s a b)) (one_le 255 refl (pair_numbers s a b)) k (only-refusal (differing s a b) v k)

pub between-fits : (s : Shape) (a b v : ℕ) {x : Between} → v < 4294967296 → x ≡ between_answer s a b → Small x.refusal v
between-fits s a b v {x} k e = subst (λ (z : Between). Small z.refusal v) (sym e) (between-at s a b v k)

pub between_said : (f : Shape → Between) {s t : Shape} {x : Between} {w : Answer} → w ≡ word x.refusal (x.level + 1) → x.adjacent ≡ true → x ≡ f s → s ≡ t → w ≡ between_word (f t)
unfolding between_word
between_said f {s} {t} {x} {w} h q e g =
    h
    ∙ ap (word x.refusal) (add-one x.level)
    ∙ ap (λ (b : Bool). word x.refusal (cond b (suc x.level) 0)) (sym q)
    ∙ ap between_word (e ∙ ap f g)

pub apart_said : (f : Shape → Between) {s t : Shape} {x : Between} {w : Answer} → w ≡ word x.refusal 0 → x.adjacent ≡ false → x ≡ f s → s ≡ t → w ≡ between_word (f t)
unfolding between_word
apart_said f {s} {t} {x} {w} h q e g =
    h
    ∙ ap (λ (b : Bool). word x.refusal (cond b (suc x.level) 0)) (sym q)
    ∙ ap between_word (e ∙ ap f g)

-- ---- digits

digits-refusal : (r v : ℕ) (ds : List ℕ) → r ≤ 255 → v < 4294967296 → Small (answer r no_digits (some_digits ds)).refusal v
digits-refusal zero v ds h k = none-small v k
digits-refusal (suc r) v ds h k = plain_with (suc r) v h k

digits_with : (s : Shape) (a v : ℕ) → v < 4294967296 → Small (digits_answer s a).refusal v
unfolding digits_answer
digits_with s a v k = digits-refusal (server_refusal s a) v (filled 4 (digits s a)) (one_le 255 refl (server-numbers s a)) k

pub digits-fits : (s : Shape) (a v : ℕ) {x : Digits} → v < 4294967296 → x ≡ digits_answer s a → Small x.refusal v
digits-fits s a v {x} k e = subst (λ (z : Digits). Small z.refusal v) (sym e) (digits_with s a v k)

-- ---- the failed-link table

asked_part : (r v : ℕ) (b : Bool) → r ≤ 255 → v < 4294967296 → Small (answer r not_asked (asked b)).refusal v
asked_part zero v b h k = none-small v k
asked_part (suc r) v b h k = plain_with (suc r) v h k

asked-at : (s : Shape) (t : List ℕ) (a l v : ℕ) → v < 4294967296 → Small (failed_answer s t a l).refusal v
unfolding failed_answer
asked-at s t a l v k = asked_part (table_link_refusal s t a l) v (failed t a l) (one_le 255 refl (table-link-numbers s t a l)) k

pub asked-fits : (s : Shape) (t : List ℕ) (a l v : ℕ) {x : Asked} → v < 4294967296 → x ≡ failed_answer s t a l → Small x.refusal v
asked-fits s t a l v {x} k e = subst (λ (z : Asked). Small z.refusal v) (sym e) (asked-at s t a l v k)

pub failed_said : (f : Shape → Asked) {s t : Shape} {x : Asked} {w : Answer} → w ≡ word x.refusal 1 → x.failed ≡ true → x ≡ f s → s ≡ t → w ≡ asked_word (f t)
unfolding asked_word
failed_said f {s} {t} {x} {w} h q e g =
    h ∙ ap (λ (b : Bool). word x.refusal (cond b 1 0)) (sym q) ∙ ap asked_word (e ∙ ap f g)

pub live_said : (f : Shape → Asked) {s t : Shape} {x : Asked} {w : Answer} → w ≡ word x.refusal 0 → x.failed ≡ false → x ≡ f s → s ≡ t → w ≡ asked_word (f t)
unfolding asked_word
live_said f {s} {t} {x} {w} h q e g =
    h ∙ ap (λ (b : Bool). word x.refusal (cond b 1 0)) (sym q) ∙ ap asked_word (e ∙ ap f g)

-- ---- what the numbers of a room are below

pub ruleset room_numbers = (servers-small, bound-small, switches-small, server-at-small, digit-small, address-small, neighbour-small, switch-small)
