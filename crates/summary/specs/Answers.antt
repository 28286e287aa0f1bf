-- What each call with a summary answers, and the table and the summary that it leaves. On a refusal both keep their bytes.
use Rattle.std.specs.Prelude.{ℕ, Option, Some, None, suc, ◌-◌, ◌^◌, List, [], ◌∷◌, Bool, true, false, cond, set}
use Rattle.refusals.specs.Refusals.{Refusal, none, plain, answer}
use Rattle.room.specs.declared.Shape.{Shape}
use Rattle.room.specs.declared.Switch.{Switch}
use Rattle.links.specs.Table.{changed}
use Rattle.summary.specs.Told.{DeadSwitch}
use Rattle.summary.specs.Counts.{switches_in, summary_of, is_dead, recounted, recounted_below}
use Rattle.summary.specs.Refusals.{counted_link_refusal, counted_server_refusal, summary_refusal, entries_refusal}

-- ---- a link marked, b being true, or cleared

unfoldable pub link_answer : Shape → List ℕ → List ℕ → ℕ → ℕ → Refusal
link_answer s t c a l = plain (counted_link_refusal s t c a l)

unfoldable pub link_table : Bool → Shape → List ℕ → List ℕ → ℕ → ℕ → List ℕ
link_table b s t c a l = answer (counted_link_refusal s t c a l) (λ r. t) (changed b a l t)

unfoldable pub link_summary : Bool → Shape → List ℕ → List ℕ → ℕ → ℕ → List ℕ
link_summary b s t c a l = answer (counted_link_refusal s t c a l) (λ r. c) (recounted s (changed b a l t) a l c)

-- ---- all links of a server marked, or cleared

-- a byte with the bits 0 to k set
unfoldable pub all_bits : ℕ → ℕ
all_bits k = 2 ^ suc k - 1

-- the table with the byte of server a all bits, or none
unfoldable pub changed_server : Bool → Shape → ℕ → List ℕ → List ℕ
changed_server b s a t = set t a (cond b (all_bits s.k) 0)

unfoldable pub server_answer : Shape → List ℕ → List ℕ → ℕ → Refusal
server_answer s t c a = plain (counted_server_refusal s t c a)

unfoldable pub server_table : Bool → Shape → List ℕ → List ℕ → ℕ → List ℕ
server_table b s t c a = answer (counted_server_refusal s t c a) (λ r. t) (changed_server b s a t)

unfoldable pub server_summary : Bool → Shape → List ℕ → List ℕ → ℕ → List ℕ
server_summary b s t c a =
    answer (counted_server_refusal s t c a) (λ r. c) (recounted_below s (changed_server b s a t) a (suc s.k) c)

-- ---- the first dead switch

abbrev pub none_dead : ℕ → DeadSwitch
none_dead r = record { refusal = plain r; found = false; level = 0; number = 0 }

abbrev pub dead_at : ℕ → ℕ → DeadSwitch
dead_at l w = record { refusal = none; found = true; level = l; number = w }

-- what is told of the first dead switch, or that there is none
abbrev pub the_dead : Option Switch → DeadSwitch
the_dead None = none_dead 0
the_dead (Some w) = dead_at w.level w.number

-- the first dead one of some switches
unfoldable pub first_dead : Shape → List ℕ → List (ℕ × ℕ) → DeadSwitch
first_dead s c [] = none_dead 0
first_dead s c (p ∷ ps) = cond (is_dead s c p.0 p.1) (dead_at p.0 p.1) (first_dead s c ps)

unfoldable pub dead_answer : Shape → List ℕ → List ℕ → DeadSwitch
dead_answer s t c = answer (summary_refusal s t c) none_dead (first_dead s c (switches_in s))

-- ---- the summary counted afresh

unfoldable pub fresh_answer : Shape → List ℕ → List ℕ → Refusal
fresh_answer s t c = plain (entries_refusal s t c)

unfoldable pub fresh_summary : Shape → List ℕ → List ℕ → List ℕ
fresh_summary s t c = answer (entries_refusal s t c) (λ r. c) (summary_of s t)
