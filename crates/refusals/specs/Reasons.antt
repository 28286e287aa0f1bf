-- Reasons, by the numbers of the rules, and what a call tells by them.
use Rattle.std.specs.Prelude.{ℕ, Result, Ok, Err}
use Rattle.refusals.specs.declared.Reason.{Reason}
use Rattle.refusals.specs.declared.Refused.{Refused}
use Rattle.refusals.specs.Refusals.{Refusal, refusal, none}
use Rattle.refusals.specs.declared.Reason.TheVariants.{Ports, Levels, Servers, Address, SameEnds, Table, List, Position, Value, NoChange, FailedLink, NotArrived, AfterArrival, NotParallel, NoRoute, NeighbourTable, HopIndex, Unavailable, Level, Digit, ServerCount, NotNeighbours, Fill, ServerAgain, SwitchAgain, Summary}

-- the number of a reason (rule 8.2)
abbrev pub number_of : Reason → ℕ
number_of Ports = 1
number_of Levels = 2
number_of Servers = 3
number_of Address = 4
number_of SameEnds = 5
number_of Table = 6
number_of List = 7
number_of Position = 8
number_of Value = 9
number_of NoChange = 10
number_of FailedLink = 11
number_of NotArrived = 13
number_of AfterArrival = 14
number_of NotParallel = 15
number_of NoRoute = 16
number_of NeighbourTable = 17
number_of HopIndex = 18
number_of Unavailable = 19
number_of Level = 20
number_of Digit = 21
number_of ServerCount = 22
number_of NotNeighbours = 23
number_of Fill = 26
number_of ServerAgain = 28
number_of SwitchAgain = 29
number_of Summary = 30

-- a refusal, as the rules tell it
abbrev pub refusal_of : Refused → Refusal
refusal_of r = refusal (number_of r.reason) r.route r.hop r.earlier_route r.earlier_hop

-- the number that a test tells: 0 where it refuses nothing
abbrev pub told : Result (Unit {0}) Reason → ℕ
told (Ok x) = 0
told (Err r) = number_of r

-- what a call tells: what `given` makes of its answer, or `refused` of the number of its reason
abbrev pub tells : {A X : Type 0} → (ℕ → X) → (A → X) → Result A Reason → X
tells refused given (Ok x) = given x
tells refused given (Err r) = refused (number_of r)

-- the same of a call whose refusals have a place
abbrev pub tells_where : {A X : Type 0} → (Refusal → X) → (A → X) → Result A Refused → X
tells_where refused given (Ok x) = given x
tells_where refused given (Err r) = refused (refusal_of r)

-- the refusal of a call that answers nothing else
abbrev pub told_where : Result (Unit {0}) Refused → Refusal
told_where = tells_where (λ r. r) (λ x. none)
