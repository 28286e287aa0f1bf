-- One forwarding step: at server a, of a packet for server d, with next hop index i, path bytes bs and a's neighbour table e.
use Rattle.std.specs.Prelude.{ℕ, ◌+◌, ◌*◌, List, [], ◌∷◌, ◌++◌, Bool, true, false, cond, ◌||◌, ltb, eqb, length, get_or, replicate}
use Rattle.refusals.specs.Refusals.{Refusal}
use Rattle.refusals.specs.Refusals.{none, plain, refused_at, ◌or_else◌, ◌unless◌, answer}
use Rattle.room.specs.declared.Shape.{Shape}
use Rattle.room.specs.Refusals.{pair_refusal, server_numbers}
use Rattle.path.specs.Walks.{hop_refusal, hop_numbers}
use Rattle.path.specs.Answers.{hop_by}
use Rattle.step.specs.declared.Step.{Step as Stepped}
use Rattle.step.specs.declared.Step.TheVariants.{Delivered, Onward}
use Rattle.step.specs.Told.{Step}

-- byte j of the entry of path byte b in a neighbour table
unfoldable pub entry : List ℕ → ℕ → ℕ → ℕ
entry e b j = get_or e (8 * b + j) 0

-- its six bytes MAC, its OutPort, its StatusFlag (rule 7.1)
unfoldable pub mac_at : List ℕ → ℕ → List ℕ
mac_at e b = entry e b 0 ∷ entry e b 1 ∷ entry e b 2 ∷ entry e b 3 ∷ entry e b 4 ∷ entry e b 5 ∷ []

unfoldable pub port_at : List ℕ → ℕ → ℕ
port_at e b = entry e b 6

unfoldable pub flag_at : List ℕ → ℕ → ℕ
flag_at e b = entry e b 7

-- what is refused before it is asked whether the packet has arrived: 1, 2, 26, 3, 4, 17, 7
unfoldable pub given_refusal : Shape → ℕ → ℕ → List ℕ → List ℕ → ℕ
given_refusal s a d bs e = pair_refusal s a d or_else 17 unless eqb (length e) 2048 or_else 7 unless eqb (length bs) 8

abbrev pub given_numbers : List ℕ
given_numbers = server_numbers ++ (17 ∷ 7 ∷ [])

-- why the hop by byte b is not taken: 8, 9, 10, and 19 unless its flag is exactly 1
unfoldable pub byte_refusal : Shape → ℕ → List ℕ → ℕ → ℕ
byte_refusal s a e b = hop_refusal s a b or_else 19 unless eqb (flag_at e b) 1

abbrev pub byte_numbers : List ℕ
byte_numbers = hop_numbers ++ (19 ∷ [])

-- away from the destination: 18, then the byte that the index names
unfoldable pub away_refusal : Shape → ℕ → ℕ → List ℕ → List ℕ → ℕ
away_refusal s a i bs e = 18 unless ltb i 8 or_else byte_refusal s a e (get_or bs i 0)

abbrev pub away_numbers : List ℕ
away_numbers = 18 ∷ byte_numbers

-- the chain: at the destination there is no refusal more, whatever the index (rule 8.4)
unfoldable pub step_refusal : Shape → ℕ → ℕ → ℕ → List ℕ → List ℕ → ℕ
step_refusal s a d i bs e = given_refusal s a d bs e or_else cond (eqb a d) 0 (away_refusal s a i bs e)

abbrev pub step_numbers : List ℕ
step_numbers = given_numbers ++ away_numbers

-- whether a step's refusal arises at its hop: 8, 9, 10, 19
unfoldable pub at_hop : ℕ → Bool
at_hop r = eqb r 8 || eqb r 9 || eqb r 10 || eqb r 19

-- a step's refusal with its place: route 1 and hop i + 1, or zeros
unfoldable pub with_place : ℕ → ℕ → Refusal
with_place i r = cond (at_hop r) (refused_at r 1 (i + 1)) (plain r)

-- a step that goes nowhere, refused or delivered: all else is zero
abbrev pub standing : Refusal → Bool → Step
standing r t = record { refusal = r; delivered = t; next = 0; index = 0; mac = replicate 6 0; port = 0; level = 0; old = 0 }

abbrev pub no_step : Refusal → Step
no_step r = standing r false

abbrev pub delivery : Step
delivery = standing none true

-- what is told of a step that nothing refuses, by its cases: of a delivery no more than that it is one
abbrev pub the_step : Stepped → Step
the_step Delivered = standing none true
the_step (Onward x) =
    record { refusal = none; delivered = false; next = x.next; index = x.index; mac = x.mac; port = x.port; level = x.level; old = x.old }

-- the hop by byte b: the next server, i + 1, the MAC and the OutPort as stored, the level and the old value (rule 7.3)
abbrev pub forwarded : Shape → ℕ → ℕ → List ℕ → ℕ → Step
forwarded s a i e b =
    let h = hop_by s a b in
    record { refusal = none; delivered = false; next = h.next; index = i + 1; mac = mac_at e b; port = port_at e b; level = h.level; old = h.old }

unfoldable pub step_answer : Shape → ℕ → ℕ → ℕ → List ℕ → List ℕ → Step
step_answer s a d i bs e =
    answer (step_refusal s a d i bs e) (λ r. no_step (with_place i r)) (cond (eqb a d) delivery (forwarded s a i e (get_or bs i 0)))
