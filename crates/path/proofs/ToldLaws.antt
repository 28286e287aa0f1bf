-- Two results of a call on path bytes that tell the same are one.
use Prim.Native.Nat.{ℕ}
use mathlib.Core.Path.{◌≡◌, refl}
use mathlib.Core.List.{List}
use Rattle.std.specs.Prelude.{Result}
use Rattle.refusals.specs.declared.Refused.{Refused}
use Rattle.refusals.specs.Reasons.{tells_where}
use Rattle.refusals.proofs.ReasonLaws.{tells_where-same}
use Rattle.path.specs.declared.Parts.{Parts as Taken}
use Rattle.path.specs.declared.Hop.{Hop as Hopped}
use Rattle.path.specs.declared.Walked.{Walked as WalkedArray}
use Rattle.path.specs.declared.Reading.{Reading as ReadArray}
use Rattle.path.specs.Told.{Parts, Hop, Walked, Reading, Writing}
use Rattle.path.specs.Answers.{no_hop, the_hop, no_walk, the_walk, no_reading, the_reading, no_writing, a_writing}
use Rattle.path.specs.Bytes.{no_parts, the_parts}

pub parts-same : (x y : Result Taken Refused) → tells_where no_parts the_parts x ≡ tells_where no_parts the_parts y → x ≡ y
parts-same = tells_where-same no_parts the_parts (λ (x : Parts). x.refusal) (λ (x : Parts). record { level = x.level; value = x.value }) (λ r. refl) (λ x. refl) (λ x. refl)

pub hop-same : (x y : Result Hopped Refused) → tells_where no_hop the_hop x ≡ tells_where no_hop the_hop y → x ≡ y
hop-same = tells_where-same no_hop the_hop (λ (x : Hop). x.refusal) (λ (x : Hop). record { next = x.next; level = x.level; old = x.old }) (λ r. refl) (λ x. refl) (λ x. refl)

pub walk-same : (x y : Result WalkedArray Refused) → tells_where no_walk the_walk x ≡ tells_where no_walk the_walk y → x ≡ y
walk-same = tells_where-same no_walk the_walk (λ (x : Walked). x.refusal) (λ (x : Walked). record { count = x.count; servers = x.servers; switches = x.switches }) (λ r. refl) (λ x. refl) (λ x. refl)

pub reading-same : (x y : Result ReadArray Refused) → tells_where no_reading the_reading x ≡ tells_where no_reading the_reading y → x ≡ y
reading-same = tells_where-same no_reading the_reading (λ (x : Reading). x.refusal) (λ (x : Reading). record { count = x.count; servers = x.servers }) (λ r. refl) (λ x. refl) (λ x. refl)

pub writing-same : (x y : Result (List ℕ) Refused) → tells_where no_writing a_writing x ≡ tells_where no_writing a_writing y → x ≡ y
writing-same = tells_where-same no_writing a_writing (λ (x : Writing). x.refusal) (λ (x : Writing). x.bytes) (λ r. refl) (λ x. refl) (λ x. refl)
