-- Laws of refusals: the form of what a chain of tests gives, and of an answer that may be a refusal.
use Prim.Native.Nat.{ℕ, zero, suc, ◌≤◌}
use mathlib.Core.Path.{◌≡◌, refl, sym, ap, ◌∙◌, subst}
use mathlib.Core.Logic.{◌≢◌, ◌⊎◌, inl, inr, ⊎_elim}
use mathlib.Core.Bool.{Bool, true, false, not, ◌||◌}
use mathlib.Core.List.{List, [], ◌∷◌, ◌++◌}
use native.Mathlib.Omega.{arith}
use lib.Dec.{eqb}
use borrow.Author.Tests.{eq-eqb, ne_eqb, eqb-true, eqb-false, not-true}
use Rattle.lists.proofs.ListLaws.{both_held}
use Rattle.lists.specs.Lists.{is_in}
use Rattle.refusals.specs.Refusals.{Refusal, none, plain, refused_at, answer, OneOf, nought, listed}
use Rattle.demands.specs.Tests.{Tests, Refused, Whole, Hold, Others}
use Rattle.demands.specs.Demand1.{of_the_whole, of_a_hop, RefusalForm, whole, at-hop, Refuses}
use Rattle.demands.proofs.Chains.{or_right, all, numbers_of}

-- ---- numbers

either : (x y : Bool) → x || y ≡ true → (x ≡ true) ⊎ (y ≡ true)
either true y e = inl refl
either false y e = inr e

or_left : (x y : Bool) → x ≡ true → x || y ≡ true
or_left x y e = rw e

pub all-at : (f : ℕ → Bool) (A : List ℕ) (r : ℕ) → all f A ≡ true → is_in r A ≡ true → f r ≡ true
unfolding is_in
all-at f [] r h e = let z : ◌≡◌ {A = ℕ} 0 1 = cc in let n : ⊥ = omega arith in absurd n
all-at f (a ∷ A) r h e =
    let w = both_held (f a) (all f A) h in
    ⊎_elim (λ g. ap f (eqb-true r a g) ∙ w.0) (λ g. all-at f A r w.1 g) (either (eqb r a) (is_in r A) e)

-- none of the numbers but 28 and 29
pub apart_in : (F : List ℕ) (n : ℕ) → n ≢ 28 → n ≢ 29 → is_in n (F ++ (28 ∷ 29 ∷ [])) ≡ true → is_in n F ≡ true
unfolding is_in
apart_in [] n x y e = rw (ne_eqb n 28 x, ne_eqb n 29 y) at e
apart_in (a ∷ F) n x y e =
    ⊎_elim (λ g. or_left (eqb n a) (is_in n F) g) (λ g. or_right (eqb n a) (is_in n F) (apart_in F n x y g)) (either (eqb n a) (is_in n (F ++ (28 ∷ 29 ∷ []))) e)

-- a refusal with a number that no test has is none of theirs
pub other-numbers : (refused : ℕ → Refusal) (A : Tests) (r : Refusal) → ((n : ℕ) → (refused n).number ≡ n) → all (λ n. not (eqb n r.number)) (numbers_of A) ≡ true → Others refused A r
other-numbers refused [] r f u = tt
other-numbers refused (t ∷ A) r f u =
    let w = both_held (not (eqb t.0 r.number)) (all (λ n. not (eqb n r.number)) (numbers_of A)) u in
    (λ e. eqb-false t.0 r.number (not-true _ w.0) (sym (f t.0) ∙ ap (λ (x : Refusal). x.number) e), other-numbers refused A r f w.1)

-- ---- refusals

-- a refusal of m routes with one of these numbers
abbrev pub Of : ℕ → List ℕ → Refusal → Type 0
Of m F r = OneOf F r.number × RefusalForm m r

pub none_of : {m : ℕ} {F : List ℕ} {r : Refusal} → r ≡ none → Of m F r
none_of {m} {F} e = subst (Of m F) (sym e) (nought refl, whole refl)

pub some_of : {F : List ℕ} {r : ℕ} → OneOf F r → r ≢ 0 → is_in r F ≡ true
some_of (nought e) n = absurd (n e)
some_of (listed e) n = e

-- a number of a hop, at route i and hop h
pub hop_of : {m : ℕ} (F B : List ℕ) (r i h : ℕ) → all of_a_hop F ≡ true → all (λ x. is_in x B) F ≡ true → is_in r F ≡ true → 1 ≤ i → i ≤ m → 1 ≤ h → h ≤ 8 → Of m B (refused_at r i h)
hop_of F B r i h low u e p q x y = (listed (all-at (λ z. is_in z B) F r u e), at-hop (all-at of_a_hop F r low e) p q x y)

-- a chain gives what each of its tests gives, or its end
pub chain_of : (refused : ℕ → Refusal) (m : ℕ) (F : List ℕ) (A : Tests) (Else : Refusal → Type 0) (r : Refusal) → ((n : ℕ) → is_in n (numbers_of A) ≡ true → Of m F (refused n)) → (Hold A → Else r → Of m F r) → Refused refused A Else r → Of m F r
unfolding is_in
chain_of refused m F [] Else r f g h = g tt h
chain_of refused m F (t ∷ A) Else r f g (inl h) =
    chain_of refused m F A Else r (λ n e. f n (or_right (eqb n t.0) (is_in n (numbers_of A)) e)) (λ a. g (h.0, a)) h.1
chain_of refused m F (t ∷ A) Else r f g (inr h) =
    subst (Of m F) (sym h.1) (f t.0 (or_left (eqb t.0 t.0) (is_in t.0 (numbers_of A)) (eq-eqb t.0 t.0 refl)))

-- a chain of the whole
pub whole_of : (m : ℕ) (F : List ℕ) (A : Tests) (Else : Refusal → Type 0) (r : Refusal) → all of_the_whole (numbers_of A) ≡ true → all (λ x. is_in x F) (numbers_of A) ≡ true → (Hold A → Else r → Of m F r) → Refused plain A Else r → Of m F r
whole_of m F A Else r w u = chain_of plain m F A Else r (λ n e. (listed (all-at (λ x. is_in x F) (numbers_of A) n u e), whole (all-at of_the_whole (numbers_of A) n w e)))

-- ---- answers

module _ {X : Type 0} (refusal : X → Refusal) (bare : Refusal → X) (same : (r : Refusal) → refusal (bare r) ≡ r) where
  -- where there is a refusal, there is nothing else
  abbrev pub Bare : X → Type 0
  Bare x = (refusal x).number ≢ 0 → x ≡ bare (refusal x)

  pub bare_none : (x : X) → refusal x ≡ none → Bare x
  bare_none x e n = absurd (n (ap (λ (r : Refusal). r.number) e))

  pub bare_only : (r : Refusal) → Bare (bare r)
  bare_only r n = ap bare (sym (same r))

  pub bare_is : (x : X) (r : Refusal) → x ≡ bare r → Bare x
  bare_is x r e n = e ∙ ap bare (sym (ap refusal e ∙ same r))

  pub bare_answer : (at : ℕ → Refusal) (q : ℕ) (x : X) → Bare x → Bare (answer q (λ r. bare (at r)) x)
  bare_answer at zero x h = h
  bare_answer at (suc q) x h = bare_only (at (suc q))

  pub refuses : (m : ℕ) (F : List ℕ) (x : X) → Of m F (refusal x) → Bare x → Refuses refusal bare m F x
  refuses m F x h k = record { number = h.0; form = h.1; nothing_else = k }

  -- an answer, or a refusal of the whole
  pub answer_refuses : (m : ℕ) (F : List ℕ) (A : Tests) (q : ℕ) (x : X) → all of_the_whole (numbers_of A) ≡ true → all (λ a. is_in a F) (numbers_of A) ≡ true → Whole A (refusal (answer q (λ r. bare (plain r)) x)) → refusal x ≡ none → Refuses refusal bare m F (answer q (λ r. bare (plain r)) x)
  answer_refuses m F A q x w u h e = refuses m F _ (whole_of m F A (λ r. r ≡ none) _ w u (λ a. none_of) h) (bare_answer plain q x (bare_none x e))
