-- What it is for a wrong answer to be refuted: the contract, as the prover reads it from the source, never allows it.
use Rattle.std.specs.Prelude.{ℕ, ◌≡◌, List, get_or}
use Rattle.std.specs.Borrow.{GName, Bor, MutBor}

infixr 20 ◌&◌
infix 35 ◌lends◌
infix 35 ◌lends_mut◌
-- the contract `post` never allows the result r at the arguments a, whatever the lifetimes κ and the parameters at exit x
abbrev pub Never : {K A R X : Type 0} → (K → A → R → X → Type 0) → A → R → Type 0
Never {K} {A} {R} {X} post a r = (κ : K) (x : X) → post κ a r x → ⊥

-- the contract never allows that a buffer holds these bytes at exit, whatever the result; `buffer` is which parameter it is
abbrev pub NeverLeaves : {K A R X : Type 0} → (K → A → R → X → Type 0) → A → (X → List ℕ) → List ℕ → Type 0
NeverLeaves {K} {A} {R} {X} post a buffer bs = (κ : K) (r : R) (x : X) → post κ a r x → buffer x ≡ bs → ⊥

-- the contract never allows that a buffer holds this number at place i at exit, whatever the result and the other places
abbrev pub NeverLeavesAt : {K A R X : Type 0} → (K → A → R → X → Type 0) → A → (X → List ℕ) → ℕ → ℕ → Type 0
NeverLeavesAt {K} {A} {R} {X} post a buffer i v = (κ : K) (r : R) (x : X) → post κ a r x → get_or (buffer x) i 0 ≡ v → ⊥

-- the contract never allows a result of which `told` is this, whatever else it holds: what a call tells by its answer, or its number or refusal
abbrev pub NeverTells : {K A R X Y : Type 0} → (K → A → R → X → Type 0) → A → (R → Y) → Y → Type 0
NeverTells {K} {A} {R} {X} post a told v = (κ : K) (r : R) (x : X) → post κ a r x → told r ≡ v → ⊥

-- the contract never allows a result of which `wrong` is so
abbrev pub NeverSo : {K A R X : Type 0} → (K → A → R → X → Type 0) → A → (R → Type 0) → Type 0
NeverSo {K} {A} {R} {X} post a wrong = (κ : K) (r : R) (x : X) → post κ a r x → wrong r → ⊥

-- ---- arguments

-- arguments in turn; tt stands after the last
abbrev pub ◌&◌ : {A B : Type 0} → A → B → A × B
a & b = (a, b)

-- where a lent buffer lies, a block and an offset, and the ghost name of the loan: the statements hold for every loan
pub record Loan : Type 0 where
  pub place : ℕ × ℕ
  pub name : GName

-- a buffer of these bytes, lent to be read
abbrev pub ◌lends◌ : Loan → List ℕ → Bor (List ℕ)
o lends bs = record { ref_ptr = o.place; now = bs }

-- a buffer of these bytes, lent to be written; such a loan has a ghost name
abbrev pub ◌lends_mut◌ : Loan → List ℕ → MutBor (List ℕ)
o lends_mut bs = record { ref_ptr = o.place; ghost_name = o.name; now = bs }

-- ---- a buffer at exit, by which parameter it is

abbrev pub second : {A B : Type 0} → A × (MutBor (List ℕ) × B) → List ℕ
second x = x.1.0.now

abbrev pub third : {A B C : Type 0} → A × (B × (MutBor (List ℕ) × C)) → List ℕ
third x = x.1.1.0.now

abbrev pub fourth : {A B C D : Type 0} → A × (B × (C × (MutBor (List ℕ) × D))) → List ℕ
fourth x = x.1.1.1.0.now

abbrev pub fifth : {A B C D E : Type 0} → A × (B × (C × (D × (MutBor (List ℕ) × E)))) → List ℕ
fifth x = x.1.1.1.1.0.now
