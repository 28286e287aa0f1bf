-- From words to digits: f has the two values that each digit takes, and what is built over words is built over the digits that f gives.
use Prim.Native.Nat.{ℕ, zero, suc, ◌≤◌, suc-le-suc, zero-le}
use mathlib.Core.Path.{◌≡◌, refl, sym, ap, ap₂, ◌∙◌}
use mathlib.Core.Logic.{◌≢◌}
use mathlib.Core.Bool.{Bool, true, false, not, cond, beq}
use mathlib.Core.List.{List, [], ◌∷◌, map}
use native.Mathlib.Omega.{arith}
use borrow.Author.Tests.{eq-eqb, ne_eqb}
use lib.Dec.{eqb}
use lib.ListN.{length, get_or, set, length-set}
use Rattle.build.specs.Built.{first_in, last_in, correct, detour, route_over}
use Rattle.build.proofs.Symbolic.{Word}

abbrev pub lift : (ℕ → Bool → ℕ) → Word → List ℕ
lift f [] = []
lift f (x ∷ xs) = f 0 x ∷ lift (λ l. f (suc l)) xs

abbrev pub lift_hop : (ℕ → Bool → ℕ) → ℕ × Bool → ℕ × ℕ
lift_hop f h = (h.0, f h.0 h.1)

pub length_lift : (f : ℕ → Bool → ℕ) (x : Word) → length (lift f x) ≡ length x
length_lift f [] = refl
length_lift f (b ∷ x) = ap suc (length_lift (λ l. f (suc l)) x)

pub set_lift : (f : ℕ → Bool → ℕ) (x : Word) (l : ℕ) (b : Bool) → set (lift f x) l (f l b) ≡ lift f (set x l b)
set_lift f [] l b = refl
set_lift f (y ∷ x) zero b = refl
set_lift f (y ∷ x) (suc l) b = ap (λ (r : List ℕ). f 0 y ∷ r) (set_lift (λ j. f (suc j)) x l b)

-- past the end a digit is 0, and so is the source's value there
pub get_d_lift : (f : ℕ → Bool → ℕ) (x : Word) → ((l : ℕ) → length x ≤ l → f l false ≡ 0) → (l : ℕ) → get_or (lift f x) l 0 ≡ f l (get_or x l false)
get_d_lift f [] past l = sym (past l zero-le)
get_d_lift f (b ∷ x) past zero = refl
get_d_lift f (b ∷ x) past (suc l) = get_d_lift (λ j. f (suc j)) x (λ j h. past (suc j) (suc-le-suc h)) l

pub pick_same : (u v : ℕ) → u ≢ v → (f : Bool → ℕ) → f false ≡ u → f true ≡ v → (x y : Bool) → eqb (f x) (f y) ≡ beq x y
pick_same u v ne f e g true true = eq-eqb (f true) (f true) refl
pick_same u v ne f e g true false = ne_eqb (f true) (f false) (λ q. ne (sym e ∙ sym q ∙ g))
pick_same u v ne f e g false true = ne_eqb (f false) (f true) (λ q. ne (sym e ∙ q ∙ g))
pick_same u v ne f e g false false = eq-eqb (f false) (f false) refl

cond_map : {X Y : Type 0} (f : X → Y) (b c : Bool) → b ≡ c → {A B : List Y} (A' B' : List X) → (c ≡ true → A ≡ map f A') → B ≡ map f B' → cond b A B ≡ map f (cond c A' B')
cond_map f b true e A' B' p q = rw e (p refl)
cond_map f b false e A' B' p q = rw e q

-- the two values of each digit differ, and the source's is 0 past the end of m digits
module _ (f : ℕ → Bool → ℕ) (two : (l : ℕ) → f l false ≢ f l true) (m : ℕ) (past : (l : ℕ) → m ≤ l → f l false ≡ 0) where
  get_d_is : (x : Word) → length x ≡ m → (l : ℕ) → get_or (lift f x) l 0 ≡ f l (get_or x l false)
  get_d_is x e l = get_d_lift f x (λ j h. past j (omega arith)) l

  same_is : (x y : Word) → length x ≡ m → length y ≡ m → (l : ℕ) → eqb (get_or (lift f x) l 0) (get_or (lift f y) l 0) ≡ beq (get_or x l false) (get_or y l false)
  same_is x y hx hy l =
      ap₂ eqb (get_d_is x hx l) (get_d_is y hy l)
      ∙ pick_same (f l false) (f l true) (two l) (f l) refl refl (get_or x l false) (get_or y l false)

  pub correct_lift : (ls : List ℕ) (x y : Word) → length x ≡ m → length y ≡ m → correct eqb 0 ls (lift f x) (lift f y) ≡ map (lift_hop f) (correct beq false ls x y)
  correct_lift [] x y hx hy = refl
  correct_lift (l ∷ ls) x y hx hy =
      cond_map (lift_hop f) _ _ (same_is x y hx hy l) _ _
      (λ e. correct_lift ls x y hx hy)
      (rw (get_d_is y hy l) (ap (λ (r : List (ℕ × ℕ)). (l, f l (get_or y l false)) ∷ r) (correct_lift ls x y hx hy)))

  pub route_lift : (other : ℕ → ℕ → ℕ) (k i : ℕ) (x y : Word) → length x ≡ m → length y ≡ m → (beq (get_or x i false) (get_or y i false) ≡ true → other i (f i (get_or x i false)) ≡ f i (not (get_or x i false))) → route_over eqb 0 other k i (lift f x) (lift f y) ≡ map (lift_hop f) (route_over beq false (λ l b. not b) k i x y)
  route_lift other k i x y hx hy o =
      cond_map (lift_hop f) _ _ (same_is x y hx hy i) _ _ (λ e. around (o e)) (correct_lift (first_in k i) x y hx hy)
    where
      around : other i (f i (get_or x i false)) ≡ f i (not (get_or x i false)) → detour eqb 0 other k i (lift f x) (lift f y) ≡ map (lift_hop f) (detour beq false (λ l b. not b) k i x y)
      around e =
          rw (get_d_is x hx i, e, set_lift f x i (not (get_or x i false)))
          (ap (λ (r : List (ℕ × ℕ)). (i, f i (not (get_or x i false))) ∷ r)
          (correct_lift (last_in k i) (set x i (not (get_or x i false))) y (length-set x i (not (get_or x i false)) ∙ hx) hy))
