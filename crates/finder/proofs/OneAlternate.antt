-- Of two routes one comes before the other, so there is one alternate at most.
use Prim.Native.Nat.{ℕ, ◌-◌, ◌/◌, ◌%◌}
use mathlib.Core.Path.{◌≡◌, refl, sym, ap, ap₂}
use mathlib.Core.Logic.{◌⊎◌, inl, inr, ⊎_elim}
use mathlib.Core.List.{List, [], ◌∷◌}
use native.Mathlib.Omega.{arith}
use native.Mathlib.Decide.{dec_lt}
use lib.ListN.{length}
use Rattle.lists.specs.Lists.{filled}
use Rattle.lists.proofs.ListLaws.{length_turn}
use Rattle.room.specs.declared.Shape.{Shape}
use Rattle.path.specs.Routes.{byte_to, encode, RouteTo}
use Rattle.path.proofs.CodecLaws.{encodes_unique}
use Rattle.finder.specs.Alternates.{hop_bytes, Sooner, HopByHop, Before, Alternate}

hop-order : (b c : ℕ) → (Sooner b c ⊎ Sooner c b) ⊎ (b ≡ c)
hop-order b c =
    elim (dec_lt (c / 64) (b / 64)) [
      | yes h ↦ inl (inl (inl h))
      | no h ↦ elim (dec_lt (b / 64) (c / 64)) [
        | yes k ↦ inl (inr (inl k))
        | no k ↦ elim (dec_lt (b % 64) (c % 64)) [
          | yes p ↦ inl (inl (inr (omega arith, p)))
          | no p ↦ elim (dec_lt (c % 64) (b % 64)) [
            | yes q ↦ inl (inr (inr (omega arith, q)))
            | no q ↦ inr (omega arith)
          ]
        ]
      ]
    ]

hops-order : (bs cs : List ℕ) → length bs ≡ length cs → (HopByHop bs cs ⊎ HopByHop cs bs) ⊎ (bs ≡ cs)
hops-order [] [] e = inr refl
hops-order [] (c ∷ cs) e = let z : ⊥ = omega arith in absurd z
hops-order (b ∷ bs) [] e = let z : ⊥ = omega arith in absurd z
hops-order (b ∷ bs) (c ∷ cs) e =
    ⊎_elim
    (⊎_elim (λ h. inl (inl (inl h))) (λ h. inl (inr (inl h))))
    (λ h.
    ⊎_elim (⊎_elim (λ k. inl (inl (inr (h, k)))) (λ k. inl (inr (inr (sym h, k))))) (λ k. inr (ap₂ (λ (x : ℕ) (y : List ℕ). x ∷ y) h k)) (hops-order bs cs (omega arith)))
    (hop-order b c)

-- routes of the same bytes are the same
same_bytes : {s : Shape} {t : List ℕ} {a d : ℕ} {us vs : List ℕ} → RouteTo s t a d us → RouteTo s t a d vs → hop_bytes s us ≡ hop_bytes s vs → us ≡ vs
unfolding hop_bytes encode
same_bytes {s} {t} {a} {d} {us} {vs} hu hv e =
    encodes_unique {bs = encode s us} (record { route = hu; bytes = refl }) (record { route = hv; bytes = ap (filled 8) e })

bytes-long : (s : Shape) (vs : List ℕ) → length (hop_bytes s vs) ≡ length vs - 1
unfolding hop_bytes
bytes-long s vs = length_turn (byte_to s) vs

pub route-order : {s : Shape} {t : List ℕ} {a d : ℕ} {us vs : List ℕ} → RouteTo s t a d us → RouteTo s t a d vs → (Before s us vs ⊎ Before s vs us) ⊎ (us ≡ vs)
route-order {s} {t} {a} {d} {us} {vs} hu hv =
    elim (dec_lt (length us) (length vs)) [
      | yes h ↦ inl (inl (inl h))
      | no h ↦ elim (dec_lt (length vs) (length us)) [
        | yes k ↦ inl (inr (inl k))
        | no k ↦ let e : length us ≡ length vs = omega arith in
            ⊎_elim (⊎_elim (λ p. inl (inl (inr (e, p)))) (λ p. inl (inr (inr (sym e, p))))) (λ p. inr (same_bytes hu hv p))
            (hops-order (hop_bytes s us) (hop_bytes s vs) (omega (arith, bytes-long s us, bytes-long s vs)))
      ]
    ]

pub alternate-unique : {s : Shape} {t : List ℕ} {a d : ℕ} {us vs : List ℕ} → Alternate s t a d us → Alternate s t a d vs → us ≡ vs
alternate-unique {us = us} {vs = vs} h k =
    ⊎_elim (⊎_elim (λ b. absurd (k.first us h.route b)) (λ b. absurd (h.first vs k.route b))) (λ e. e) (route-order h.route k.route)
