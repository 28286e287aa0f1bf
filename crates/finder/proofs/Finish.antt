-- From the tables, where the scan ends, to the answer.
use Prim.Native.Nat.{ℕ, ◌+◌, ◌-◌, ◌*◌, ◌<◌, ◌≤◌}
use native.Mathlib.Omega.{arith}
use mathlib.Core.Path.{◌≡◌, refl, sym, ap, ap₂, ◌∙◌, subst}
use mathlib.Core.Logic.{◌⊎◌, ⊎_elim}
use mathlib.Core.List.{List, [], ◌∷◌, ◌++◌, map}
use lib.ListN.{length, get_or, take, drop, replicate, length-map, length-drop, length-replicate, get_or-replicate, take-append-drop}
use lib.Seq.{ext_get_or, get_or-drop}
use Rattle.lists.specs.Lists.{in_turn, filled}
use Rattle.refusals.specs.Refusals.{none}
use Rattle.room.specs.declared.Shape.{Shape}
use Rattle.room.specs.Shapes.{Ends}
use Rattle.links.specs.Table.{room_refusal}
use Rattle.links.proofs.TableLaws.{room_of}
use Rattle.path.specs.Routes.{byte_to, encode}
use Rattle.finder.specs.Told.{Found}
use Rattle.finder.specs.Answers.{no_route, a_route, Finding}
use Rattle.finder.specs.Walks.{Leads, Least}
use Rattle.finder.specs.Hops.{turned, step_of, Ok}
use Rattle.finder.specs.State.{trail}
use Rattle.finder.specs.Kept.{no_parent, queued, keyed}
use Rattle.finder.specs.Trace.{BackLinks, Reached, Traced, TracedBack}
use Rattle.finder.proofs.Order.{split}
use Rattle.finder.proofs.Theory.{found_least, none-leads}
use Rattle.finder.proofs.Hops.{Kept_in, ok_low}
use Rattle.finder.proofs.Walking.{met, met_long, met_bytes'}
use Rattle.finder.proofs.Least.{least_alternate, no_walk-no_route}

-- ---- eight bytes

-- bytes that begin with bs and are zero past it
pub eight : (bs bytes : List ℕ) (hops : ℕ) → length bytes ≡ 8 → hops ≡ length bs → take hops bytes ≡ bs → ((i : ℕ) → hops ≤ i → get_or bytes i 0 ≡ 0) → bytes ≡ filled 8 bs
unfolding filled
eight bs bytes hops long e front rest =
    sym (take-append-drop hops bytes)
    ∙ ap₂ ◌++◌ front
    (ext_get_or 0 (drop hops bytes) (replicate (8 - length bs) 0)
    (omega (arith, length-drop hops bytes, length-replicate {A = ℕ} (8 - length bs) 0))
    (λ i h. get_or-drop hops bytes i 0 ∙ rest (hops + i) (omega arith) ∙ sym (get_or-replicate {A = ℕ} (8 - length bs) i 0 0 (omega (arith, length-drop hops bytes)))))

no_bytes : filled 8 [] ≡ replicate 8 0
unfolding filled
no_bytes = refl

-- ---- how the scan ends: all is tried, or the destination is found

pub record Ended (s : Shape) (t : List ℕ) (a : ℕ) (back queue : List ℕ) (n d : ℕ) : Type 0 where
  pub reach : ℕ
  pub kept : Kept_in s t a back queue n reach
  pub how : (n * 256 ≤ reach) ⊎ (get_or back d 0 ≡ no_parent → ⊥)

module _ {s : Shape} {t : List ℕ} {a d : ℕ} {back queue : List ℕ} {n : ℕ} (pre : room_refusal s t a d ≡ 0) (e : Ended s t a back queue n d) where
  given : Ends s a d
  given = (room_of s t a d pre).0

  low : (u x : ℕ) → Ok s t u x → x < 256
  low = ok_low s given.source.valid t

  links : BackLinks s.k a back queue n
  links =
      record {
        start = e.kept.state.start;
        earlier = e.kept.state.back;
        level = λ i p h. (e.kept.state.free i p h).level;
        apart = e.kept.state.apart;
        inside = λ i h. omega (arith, e.kept.inside i h, e.kept.within);
        known = e.kept.known;
        long_back = e.kept.long_back;
        long_queue = e.kept.long_queue;
      }

  at-d : d < 4096
  at-d = omega (arith, given.destination.below, given.destination.valid.small)

  -- the destination is not found: there is no route
  pub none_found : get_or back d 0 ≡ no_parent → Finding s t a d (no_route 0)
  none_found free =
      record {
        refused = λ ne. absurd (ne pre);
        given = λ z h. absurd (omega arith);
        none = λ z h. (refl, no_walk-no_route s t a d no_walk);
      }
    where
      no_walk : (xs : List ℕ) → length xs ≤ 8 → Leads (step_of s) (Ok s t) a xs d → ⊥
      no_walk xs few w =
          ⊎_elim
          (λ all.
          none-leads (step_of s) (Ok s t) low a (queued queue) (keyed back queue) n e.reach e.kept.state all d
          (λ i hi here. omega (arith, e.kept.known i hi, ap (λ (m : ℕ). get_or back m 0) here)) xs w)
          (λ ne. ne free)
          e.how

  -- it is found
  module _ (ne : get_or back d 0 ≡ no_parent → ⊥) where
    place : (i : ℕ) × (i < n) × (get_or queue i 0 ≡ d)
    place = e.kept.marked d at-d ne

    pub reached : Reached s.k a back queue d
    reached = record { n = n; d = place.0; levels = given.source.valid.levels; links = links; found = place.1; here = place.2 }

    way : List ℕ
    way = trail (keyed back queue) place.0 place.0

    least : Least (step_of s) (Ok s t) a way d
    unfolding way
    least =
        subst (λ (w : ℕ). Least (step_of s) (Ok s t) a (trail (keyed back queue) place.0 place.0) w) place.2
        (found_least (step_of s) (Ok s t) low a (queued queue) (keyed back queue) n e.reach e.kept.state place.0 place.1)

    -- the answer that was traced
    traced-answer : (r : Found) → r.refusal ≡ none → (xs : List ℕ) → Least (step_of s) (Ok s t) a xs d → Traced (map (turned s.k) xs) r.hops r.bytes → Finding s t a d r
    unfolding encode
    traced-answer r er xs l tr =
        ⊎_elim
        (λ over.
        let z : r.hops ≡ 0 = tr.over (omega (arith, long)) in
        let b : r.bytes ≡ replicate 8 0 = eight [] r.bytes r.hops tr.long z (ap (λ (m : ℕ). take m r.bytes) z) tr.rest ∙ no_bytes in
        record {
          refused = λ q. absurd (q pre);
          given = λ q h. absurd (omega arith);
          none = λ q h. (whole r (no_route 0) er z b, no_walk-no_route s t a d (λ ys few w. ⊎_elim (λ lt. omega arith) (λ m. omega (arith, m.0)) (l.first ys w)));
        })
        (λ fits.
        let f = tr.fits (omega (arith, long)) in
        let m : r.hops ≡ length (met s a xs) - 1 = omega (arith, f.0, long, met_long s a xs) in
        let b : r.bytes ≡ filled 8 (in_turn (byte_to s) (met s a xs)) = eight (map (turned s.k) xs) r.bytes r.hops tr.long f.0 f.1 tr.rest ∙ ap (filled 8) (sym same) in
        record {
          refused = λ q. absurd (q pre);
          given = λ q h. record { servers = met s a xs; alternate = least_alternate s t a d given.source given.differ xs fits l; answer = whole r (a_route s (met s a xs)) er m b };
          none = λ q h. absurd (omega (arith, f.0, long, some-hops xs l.leads));
        })
        (split 8 (length xs))
      where
        long : length (map (turned s.k) xs) ≡ length xs
        long = length-map xs (turned s.k)

        same : in_turn (byte_to s) (met s a xs) ≡ map (turned s.k) xs
        same = met_bytes' s t a xs d l.leads

        some-hops : (ys : List ℕ) → Leads (step_of s) (Ok s t) a ys d → 0 < length ys
        some-hops [] w = absurd (given.differ w)
        some-hops (y ∷ ys) w = omega arith

        whole : (x y : Found) → x.refusal ≡ y.refusal → x.hops ≡ y.hops → x.bytes ≡ y.bytes → x ≡ y
        whole x y p q b = λ i. record { refusal = p i; hops = q i; bytes = b i }

    pub found-answer : (r : Found) → TracedBack s.k a back queue d r → Finding s t a d r
    unfolding way place reached
    found-answer r b = traced-answer r b.refusal way least (b.traced reached)
