-- How the state grows: a hop that leads to nothing new, and one that does.
use Prim.Native.Nat.{ℕ, ◌+◌, ◌*◌, ◌/◌, ◌%◌, ◌<◌, ◌≤◌}
use native.Mathlib.Omega.{arith}
use mathlib.Core.Path.{◌≡◌, sym, ap, ◌∙◌, subst, subst₂}
use mathlib.Core.Logic.{⊎_elim}
use borrow.Author.Count.{below_more}
use Rattle.finder.specs.State.{State}
use Rattle.finder.proofs.Order.{split}

module _ {step : ℕ → ℕ → ℕ} {ok : ℕ → ℕ → Type 0} {root : ℕ} {q key : ℕ → ℕ} {n t : ℕ} (s : State step ok root q key n t) where
  -- up to `t'` every hop that is allowed leads to what is found
  pub advance : (t' : ℕ) → t ≤ t'
      → ((a x : ℕ) → a < n → t ≤ a * 256 + x → a * 256 + x < t' → ok (q a) x → (j : ℕ) × (j < n) × (q j ≡ step (q a) x))
      → State step ok root q key n t'
  advance t' le new =
      record {
        some = s.some;
        start = s.start;
        back = s.back;
        made = s.made;
        free = s.free;
        order = s.order;
        tried = λ i p b. omega (arith, s.tried i p b);
        apart = s.apart;
        done = λ a x ha hx o.
            ⊎_elim (λ lt. s.done a x ha lt o)
            (λ ge. let f : (j : ℕ) × (j < n) × (q j ≡ step (q a) x) = new a x ha ge hx o in (f.0, f.1, f.2, λ p. omega (arith, s.tried f.0 p f.1)))
            (split (a * 256 + x) t);
      }

  module _ (low : (u x : ℕ) → ok u x → x < 256) (q' key' : ℕ → ℕ) (sq : (i : ℕ) → i < n → q' i ≡ q i) (sk : (i : ℕ) → i < n → key' i ≡ key i)
      (a x : ℕ) (ha : a < n) (et : t ≡ a * 256 + x) (eq : q' n ≡ step (q a) x) (ek : key' n ≡ t) (o : ok (q a) x)
      (fresh : (i : ℕ) → i < n → q i ≡ step (q a) x → ⊥) where
    key_n : (key' n / 256 ≡ a) × (key' n % 256 ≡ x)
    key_n = let h : x < 256 = low (q a) x o in omega arith

    low_i : (i : ℕ) → 0 < i → i < n → key' i / 256 < n
    low_i i p b = omega (arith, sk i b, s.back i p b)

    from : (i : ℕ) → 0 < i → i < n → (q' (key' i / 256) ≡ q (key i / 256)) × (key' i % 256 ≡ key i % 256)
    from i p b = (sq (key' i / 256) (low_i i p b) ∙ ap (λ (m : ℕ). q (m / 256)) (sk i b), ap (λ (m : ℕ). m % 256) (sk i b))

    from-n : (q' (key' n / 256) ≡ q a)
    from-n = ap q' key_n.0 ∙ sq a ha

    done' : (b y : ℕ) → b < n → b * 256 + y < t + 1 → ok (q b) y → (j : ℕ) × (j < n + 1) × (q' j ≡ step (q b) y) × (0 < j → key' j ≤ b * 256 + y)
    done' b y hb hy o' =
        ⊎_elim
        (λ lt.
        let f : (j : ℕ) × (j < n) × (q j ≡ step (q b) y) × (0 < j → key j ≤ b * 256 + y) = s.done b y hb lt o' in
        (f.0, omega (arith, f.1), sq f.0 f.1 ∙ f.2, λ p. omega (arith, sk f.0 f.1, f.3 p)))
        (λ ge.
        let hx : x < 256 = low (q a) x o in
        let hy' : y < 256 = low (q b) y o' in
        let eb : b ≡ a = omega arith in
        let ey : y ≡ x = omega arith in
        (n, omega arith, cc, λ p. omega arith))
        (split (b * 256 + y) t)

    -- the hop with the key `t` leads to a server that is new
    pub push : State step ok root q' key' (n + 1) (t + 1)
    push =
        record {
          some = omega arith;
          start = sq 0 s.some ∙ s.start;
          back = λ i p b.
              below_more (λ (m : ℕ). 0 < m → key' m < m * 256) n (λ m h p'. omega (arith, sk m h, s.back m p' h)) (λ p'. omega (arith, low (q a) x o)) i b p;
          made = λ i p b.
              below_more (λ (m : ℕ). 0 < m → q' m ≡ step (q' (key' m / 256)) (key' m % 256)) n
              (λ m h p'. cc (sq m h, s.made m p' h, (from m p' h).0, (from m p' h).1))
              (λ p'. cc (eq, from-n, key_n.1))
              i b p;
          free = λ i p b.
              below_more (λ (m : ℕ). 0 < m → ok (q' (key' m / 256)) (key' m % 256)) n
              (λ m h p'. subst₂ ok (sym (from m p' h).0) (sym (from m p' h).1) (s.free m p' h))
              (λ p'. subst₂ ok (sym from-n) (sym key_n.1) o)
              i b p;
          order = λ i j p h b.
              below_more (λ (m : ℕ). i < m → key' i < key' m) n
              (λ m hm h'. omega (arith, sk i (omega arith), sk m hm, s.order i m p h' hm))
              (λ h'. omega (arith, sk i h', s.tried i p h'))
              j b h;
          tried = λ i p b.
              below_more (λ (m : ℕ). 0 < m → key' m < t + 1) n (λ m h p'. omega (arith, sk m h, s.tried m p' h)) (λ p'. omega arith) i b p;
          apart = λ i j h b.
              below_more (λ (m : ℕ). i < m → q' i ≡ q' m → ⊥) n
              (λ m hm h' e. s.apart i m h' hm (sym (sq i (omega arith)) ∙ e ∙ sq m hm))
              (λ h' e. fresh i h' (sym (sq i h') ∙ e ∙ eq))
              j b h;
          done = λ b y hb hy o'.
              let hb' : b < n = omega (arith, low (q a) x o) in
              let e : q' b ≡ q b = sq b hb' in
              subst (λ (u : ℕ). (j : ℕ) × (j < n + 1) × (q' j ≡ step u y) × (0 < j → key' j ≤ b * 256 + y)) (sym e)
              (done' b y hb' hy (subst (λ (u : ℕ). ok u y) e o'));
        }
