-- What each call tells by its answer: the record of which the wrong answers are.
use Rattle.std.specs.Prelude.{ℕ, Bool, Option, List, Result}
use Rattle.refusals.specs.declared.Reason.{Reason}
use Rattle.refusals.specs.declared.Refused.{Refused}
use Rattle.refusals.specs.Refusals.{Refusal, plain}
use Rattle.refusals.specs.Reasons.{told, tells, tells_where}
use Rattle.room.specs.declared.Switch.{Switch as Named}
use Rattle.room.specs.Told.{Number, Digits, Switch, Between}
use Rattle.room.specs.Answers.{no_number, a_number, no_digits, some_digits, no_switch, the_switch, no_between, between}
use Rattle.links.specs.Told.{Asked}
use Rattle.links.specs.Answers.{not_asked, asked}
use Rattle.summary.specs.Told.{DeadSwitch}
use Rattle.summary.specs.Answers.{none_dead, the_dead}
use Rattle.path.specs.declared.Parts.{Parts as Taken}
use Rattle.path.specs.declared.Hop.{Hop as Hopped}
use Rattle.path.specs.declared.Walked.{Walked as WalkedArray}
use Rattle.path.specs.declared.Reading.{Reading as ReadArray}
use Rattle.path.specs.Told.{Parts, Hop, Walked, Reading, Writing}
use Rattle.path.specs.Bytes.{no_parts, the_parts}
use Rattle.path.specs.Answers.{no_hop, the_hop, no_walk, the_walk, no_reading, the_reading, no_writing, a_writing}
use Rattle.build.specs.declared.RouteSet.{RouteSet}
use Rattle.build.specs.Told.{Building}
use Rattle.build.specs.Answers.{no_building, a_building}
use Rattle.finder.specs.declared.Found.{Found as Route}
use Rattle.finder.specs.Told.{Found}
use Rattle.finder.specs.Answers.{no_route, what_found}
use Rattle.step.specs.declared.Step.{Step as Stepped}
use Rattle.step.specs.Told.{Step}
use Rattle.step.specs.Steps.{no_step, the_step}
use Rattle.select.specs.Told.{Selection}
use Rattle.select.specs.Selection.{no_selection, a_selection}
use Rattle.pick.specs.declared.Place.{Place as PlaceIn}
use Rattle.pick.specs.Told.{Place}
use Rattle.pick.specs.Places.{no_place, the_place}

-- the refusal of a call that answers nothing else, where it has no place
abbrev pub refusal_told : Result (Unit {0}) Reason → Refusal
refusal_told x = plain (told x)

abbrev pub number_told : Result ℕ Reason → Number
number_told = tells no_number a_number

abbrev pub digits_told : Result (List ℕ) Reason → Digits
digits_told = tells no_digits some_digits

abbrev pub switch_told : Result Named Reason → Switch
switch_told = tells no_switch the_switch

abbrev pub between_told : Result (Option ℕ) Reason → Between
between_told = tells no_between between

abbrev pub asked_told : Result Bool Reason → Asked
asked_told = tells not_asked asked

abbrev pub dead_told : Result (Option Named) Reason → DeadSwitch
dead_told = tells none_dead the_dead

abbrev pub parts_told : Result Taken Refused → Parts
parts_told = tells_where no_parts the_parts

abbrev pub hop_told : Result Hopped Refused → Hop
hop_told = tells_where no_hop the_hop

abbrev pub walk_told : Result WalkedArray Refused → Walked
walk_told = tells_where no_walk the_walk

abbrev pub reading_told : Result ReadArray Refused → Reading
reading_told = tells_where no_reading the_reading

abbrev pub writing_told : Result (List ℕ) Refused → Writing
writing_told = tells_where no_writing a_writing

abbrev pub building_told : Result RouteSet Reason → Building
building_told = tells no_building a_building

abbrev pub found_told : Result (Option Route) Reason → Found
found_told = tells no_route what_found

abbrev pub selection_told : Result RouteSet Reason → Selection
selection_told = tells no_selection a_selection

abbrev pub place_told : Result PlaceIn Reason → Place
place_told = tells no_place the_place

abbrev pub step_told : Result Stepped Refused → Step
step_told = tells_where no_step the_step
