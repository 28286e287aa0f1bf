-- The way back, read out of the tables.
use Prim.Native.Nat.{ℕ, zero, suc, ◌+◌, ◌-◌, ◌*◌, ◌/◌, ◌%◌, ◌<◌, ◌≤◌}
use native.Mathlib.Omega.{arith}
use native.Mathlib.Numerals.{add-one}
use mathlib.Core.Path.{◌≡◌, refl, sym, ap, ◌∙◌}
use mathlib.Core.Logic.{⊎_elim}
use mathlib.Core.List.{List, [], ◌∷◌, ◌++◌, append-nil, append_assoc, map, map-append}
use lib.ListN.{length, get_or, take, replicate, length-append, length-replicate}
use lib.Seq.{take-take, length-take-le}
use Rattle.std.specs.Prelude.{Some}
use Rattle.lists.proofs.ListLaws.{same_at}
use Rattle.finder.specs.declared.Found.{Found as Route}
use Rattle.finder.specs.Answers.{no_route, what_found}
use Rattle.finder.specs.Hops.{turned}
use Rattle.finder.specs.State.{trail}
use Rattle.finder.specs.Kept.{keyed}
use Rattle.finder.specs.Trace.{Reached, TracedBack}
use Rattle.finder.proofs.Trail.{trail-step, trail-zero}
use Rattle.finder.proofs.Order.{split}

take-zero : (m : ℕ) (l : List ℕ) (j : ℕ) → get_or l j 0 ≡ 0 → get_or (take m l) j 0 ≡ 0
take-zero zero l j e = refl
take-zero (suc m) [] j e = refl
take-zero (suc m) (x ∷ l) zero e = e
take-zero (suc m) (x ∷ l) (suc j) e = take-zero m l j e

pub rest-front : (x : ℕ) (l : List ℕ) (h : ℕ) → ((i : ℕ) → h ≤ i → get_or l i 0 ≡ 0) → (i : ℕ) → h + 1 ≤ i → get_or (x ∷ take 7 l) i 0 ≡ 0
rest-front x l h z zero b = absurd (omega arith)
rest-front x l h z (suc i) b = take-zero 7 l i (z i (omega arith))

pub long-front : (x : ℕ) (l : List ℕ) → length l ≡ 8 → length (x ∷ take 7 l) ≡ 8
long-front x l e = ap suc (length-take-le 7 l (omega arith))

-- what one turn of the way back reads
pub record InTables (back queue : List ℕ) (k at : ℕ) : Type 0 where
  pub place : at < 4096
  pub key : get_or back at 0 < 1048576
  pub next : get_or queue (get_or back at 0 / 256) 0 < 4096
  pub level : get_or back at 0 % 256 / 64 ≤ k
  pub levels : k ≤ 3
  pub long : (length back ≡ 4096) × (length queue ≡ 4096)

module _ {k root : ℕ} {back queue : List ℕ} {dst : ℕ} (p : Reached k root back queue dst) where
  -- the path bytes on the way to the i-th
  abbrev pub way-to : ℕ → List ℕ
  way-to i = map (turned k) (trail (keyed back queue) i i)

  pub record Along (bytes : List ℕ) (hops at : ℕ) : Type 0 where
    pub i : ℕ
    pub found : i < p.n
    pub here : get_or queue i 0 ≡ at
    pub way : way-to p.d ≡ way-to i ++ take hops bytes

  pub along-start : (bytes : List ℕ) → Along bytes 0 dst
  along-start bytes = record { i = p.d; found = p.found; here = p.here; way = sym (append-nil (way-to p.d)) }

  way_step : (i : ℕ) → 0 < i → i < p.n → way-to i ≡ way-to (keyed back queue i / 256) ++ (turned k (keyed back queue i % 256) ∷ [])
  way_step i h b =
      ap (map (turned k)) (trail-step (keyed back queue) p.n p.links.earlier i h b)
      ∙ map-append (turned k) (trail (keyed back queue) (keyed back queue i / 256) (keyed back queue i / 256)) (keyed back queue i % 256 ∷ [])

  module _ {bytes : List ℕ} {hops at : ℕ} (s : Along bytes hops at) (away : at ≡ root → ⊥) where
    later : 0 < s.i
    later =
        ⊎_elim (λ lt. lt)
        (λ ge. let e : s.i ≡ 0 = omega arith in absurd (away (sym s.here ∙ ap (λ (m : ℕ). get_or queue m 0) e ∙ p.links.start)))
        (split 0 s.i)

    key_at : get_or back (get_or queue s.i 0) 0 ≡ get_or back at 0
    key_at = ap (λ (m : ℕ). get_or back m 0) s.here

    before_i : get_or back at 0 / 256 < p.n
    before_i = omega (arith, key_at, p.links.earlier s.i later s.found, s.found)

    -- what the code reads is in the tables
    pub in_tables : InTables back queue k at
    in_tables =
        record {
          place = rw (← s.here) (p.links.inside s.i s.found);
          key = rw (← s.here) (p.links.known s.i s.found);
          next = p.links.inside (get_or back at 0 / 256) before_i;
          level = omega (arith, key_at, p.links.level s.i later s.found);
          levels = p.levels;
          long = (p.links.long_back, p.links.long_queue);
        }

    -- a hop that is left to go makes the way longer than the bytes
    pub more : length bytes ≡ 8 → hops ≤ 8 → hops < length (way-to p.d)
    more l h =
        rw (s.way, way_step s.i later s.found, length-append, length-append, length-take-le hops bytes (omega arith))
        (omega arith)

    pub along-step : hops ≤ 7 → (b : ℕ) → b ≡ turned k (get_or back at 0 % 256) → Along (b ∷ take 7 bytes) (hops + 1) (get_or queue (get_or back at 0 / 256) 0)
    along-step h b eb =
        record {
          i = get_or back at 0 / 256;
          found = before_i;
          here = refl;
          way =
              s.way
              ∙ ap (λ (l : List ℕ). l ++ take hops bytes) (way_step s.i later s.found)
              ∙ rw (key_at, append_assoc, add-one, take-take hops 7 bytes h, eb);
        }

  -- at the root the bytes are the whole way
  pub along-end : {bytes : List ℕ} {hops at : ℕ} → Along bytes hops at → at ≡ root → way-to p.d ≡ take hops bytes
  along-end {bytes} {hops} {at} s e =
      ⊎_elim
      (λ lt. absurd (p.links.apart 0 s.i lt s.found (p.links.start ∙ sym e ∙ sym s.here)))
      (λ ge.
      let z : s.i ≡ 0 = omega arith in
      s.way ∙ ap (λ (m : ℕ). way-to m ++ take hops bytes) z ∙ ap (λ (l : List ℕ). map (turned k) l ++ take hops bytes) (trail-zero (keyed back queue)))
      (split 0 s.i)

-- ---- hop after hop, back from the destination

-- what holds at each turn: `bytes` are those of the last hops, and `at` is where they begin, the destination before the first
pub record Tracing (k root : ℕ) (back queue : List ℕ) (dst : ℕ) (bytes : List ℕ) (hops at : ℕ) : Type 0 where
  pub few : hops ≤ 8
  pub long : length bytes ≡ 8
  pub rest : (i : ℕ) → hops ≤ i → get_or bytes i 0 ≡ 0
  pub starts : hops ≡ 0 → at ≡ dst
  pub along : (p : Reached k root back queue dst) → Along p bytes hops at

module _ {k root : ℕ} {back queue : List ℕ} {dst : ℕ} where
  pub tracing_starts : (m : ℕ) → m ≡ 8 → Tracing k root back queue dst (replicate m 0) 0 dst
  tracing_starts m e =
      record { few = omega arith; long = length-replicate {A = ℕ} m 0 ∙ e; rest = λ i h. same_at 0 m i; starts = λ z. refl; along = λ p. along-start p (replicate m 0) }

  module _ {bytes : List ℕ} {hops at : ℕ} (h : Tracing k root back queue dst bytes hops at) where
    -- the hop before, put in front
    pub tracing_more : (at ≡ root → ⊥) → (hops ≡ 8 → ⊥) → (next : List ℕ) → next ≡ ((k - get_or back at 0 % 256 / 64) * 64 + get_or back at 0 % 256 % 64) ∷ take 7 bytes
        → Tracing k root back queue dst next (hops + 1) (get_or queue (get_or back at 0 / 256) 0)
    unfolding turned
    tracing_more away less next e =
        rw e
        (record {
          few = omega (arith, h.few);
          long = long-front b bytes h.long;
          rest = rest-front b bytes hops h.rest;
          starts = λ z. absurd (omega arith);
          along = λ p. along-step p (h.along p) away (omega (arith, h.few)) b refl;
        })
      where
        b : ℕ
        b = turned k (get_or back at 0 % 256)

    -- a ninth hop
    pub tracing_over : (at ≡ root → ⊥) → hops ≡ 8 → TracedBack k root back queue dst (no_route 0)
    tracing_over away full =
        record {
          refusal = refl;
          traced = λ p. record { fits = λ few. absurd (omega (arith, more p (h.along p) away h.long h.few)); over = λ many. refl; long = refl; rest = λ i few. same_at 0 8 i };
        }

    -- the root
    pub tracing_ends : at ≡ root → (f : Route) → f ≡ record { hops = hops; bytes = bytes } → (root ≡ dst → ⊥) → TracedBack k root back queue dst (what_found (Some f)) × (0 < f.hops)
    tracing_ends here f e differ =
        rw e (
          record {
            refusal = refl;
            traced = λ p.
                let w = along-end p (h.along p) here in
                let l = ap length w ∙ length-take-le hops bytes (omega (arith, h.few, h.long)) in
                record { fits = λ few. (sym l, sym w); over = λ many. absurd (omega (arith, h.few)); long = h.long; rest = h.rest };
          },
          ⊎_elim (λ lt. lt) (λ ge. absurd (differ (sym here ∙ h.starts (omega arith)))) (split 0 hops),
        )

-- the same up to the eighth hop, and after a ninth that there is no route of eight
pub record Retracing (k root : ℕ) (back queue : List ℕ) (dst : ℕ) (bytes : List ℕ) (hops at : ℕ) : Type 0 where
  pub tracing : hops ≤ 8 → Tracing k root back queue dst bytes hops at
  pub over : 8 < hops → TracedBack k root back queue dst (no_route 0)

module _ {k root : ℕ} {back queue : List ℕ} {dst : ℕ} where
  pub retracing_starts : (m : ℕ) → m ≡ 8 → Retracing k root back queue dst (replicate m 0) 0 dst
  retracing_starts m e = record { tracing = λ h. tracing_starts m e; over = λ h. absurd (let z : ⊥ = omega arith in z) }

  pub retracing_more : {bytes : List ℕ} {hops at : ℕ} → Tracing k root back queue dst bytes hops at → (at ≡ root → ⊥) → (next : List ℕ)
      → next ≡ ((k - get_or back at 0 % 256 / 64) * 64 + get_or back at 0 % 256 % 64) ∷ take 7 bytes
      → Retracing k root back queue dst next (hops + 1) (get_or queue (get_or back at 0 / 256) 0)
  retracing_more t away next e =
      record { tracing = λ h. tracing_more t away (λ z. omega arith) next e; over = λ h. tracing_over t away (omega (arith, t.few)) }
