-- Each public function's contract determines its answer: whatever meets it on some arguments is the one answer to them.
use mathlib.Core.Path.{◌∙◌, sym}
use Rattle.refusals.specs.Determined.{Determined}
use Rattle.refusals.proofs.ReasonLaws.{told-same}
use Rattle.room.proofs.AnswerLaws.{number-same, digits-same, switch-same, between-same}
use Rattle.room.proofs.Shape.new.Reads as new
use Rattle.room.proofs.Shape.new.Kinds as new_kinds
use Rattle.room.proofs.Shape.full.Reads as full
use Rattle.room.proofs.Shape.full.Kinds as full_kinds
use Rattle.room.proofs.tests.shape_refusal.Reads as shape-refusal
use Rattle.room.proofs.tests.shape_refusal.Kinds as shape_refusal_kinds
use Rattle.room.proofs.tests.server_refusal.Reads as server-refusal
use Rattle.room.proofs.tests.server_refusal.Kinds as server_refusal_kinds
use Rattle.room.proofs.tests.pair_refusal.Reads as pair-refusal
use Rattle.room.proofs.tests.pair_refusal.Kinds as pair_refusal_kinds
use Rattle.room.proofs.tests.ends_refusal.Reads as ends-refusal
use Rattle.room.proofs.tests.ends_refusal.Kinds as ends_refusal_kinds
use Rattle.room.proofs.tests.link_refusal.Reads as link-refusal
use Rattle.room.proofs.tests.link_refusal.Kinds as link_refusal_kinds
use Rattle.room.proofs.shapes.power.Reads as power
use Rattle.room.proofs.shapes.power.Kinds as power_kinds
use Rattle.room.proofs.shapes.server_count.Reads as server-count
use Rattle.room.proofs.shapes.server_count.Kinds as server_count_kinds
use Rattle.room.proofs.shapes.digit_bound.Reads as digit_bound
use Rattle.room.proofs.shapes.digit_bound.Kinds as digit_bound_kinds
use Rattle.room.proofs.measures.servers_of.Reads as servers-of
use Rattle.room.proofs.measures.servers_of.Kinds as servers_of_kinds
use Rattle.room.proofs.measures.bound_of.Reads as bound_of
use Rattle.room.proofs.measures.bound_of.Kinds as bound_of_kinds
use Rattle.room.proofs.addresses.digits_of.Reads as digits_of
use Rattle.room.proofs.addresses.digits_of.Kinds as digits_of_kinds
use Rattle.room.proofs.addresses.digit_of.Reads as digit_of
use Rattle.room.proofs.addresses.digit_of.Kinds as digit_of_kinds
use Rattle.room.proofs.addresses.address_of.Reads as address-of
use Rattle.room.proofs.addresses.address_of.Kinds as address_of_kinds
use Rattle.room.proofs.wiring.switches_of.Reads as switches-of
use Rattle.room.proofs.wiring.switches_of.Kinds as switches_of_kinds
use Rattle.room.proofs.wiring.server_at.Reads as server-at
use Rattle.room.proofs.wiring.server_at.Kinds as server_at_kinds
use Rattle.room.proofs.switches.switch_of.Reads as switch-of
use Rattle.room.proofs.switches.switch_of.Kinds as switch_of_kinds
use Rattle.room.proofs.sides.side_at.Reads as side-at
use Rattle.room.proofs.sides.side_at.Kinds as side_at_kinds
use Rattle.room.proofs.sides.side_of.Reads as side-of
use Rattle.room.proofs.sides.side_of.Kinds as side_of_kinds
use Rattle.room.proofs.neighbours.neighbour_of.Reads as neighbour_of
use Rattle.room.proofs.neighbours.neighbour_of.Kinds as neighbour_of_kinds
use Rattle.room.proofs.neighbours.level_between.Reads as level_between
use Rattle.room.proofs.neighbours.level_between.Kinds as level_between_kinds

pub new-unique : Determined 0 new_kinds.ps new_kinds.r new.Post
new-unique κs a x y s t e f = e ∙ sym f

pub full-unique : Determined 0 full_kinds.ps full_kinds.r full.Post
full-unique κs a x y s t e f = e ∙ sym f

pub shape-refusal-unique : Determined 0 shape_refusal_kinds.ps shape_refusal_kinds.r shape-refusal.Post
shape-refusal-unique κs a x y s t e f = told-same x y (e ∙ sym f)

pub server-refusal-unique : Determined 0 server_refusal_kinds.ps server_refusal_kinds.r server-refusal.Post
server-refusal-unique κs a x y s t e f = told-same x y (e ∙ sym f)

pub pair_refusal-unique : Determined 0 pair_refusal_kinds.ps pair_refusal_kinds.r pair-refusal.Post
pair_refusal-unique κs a x y s t e f = told-same x y (e ∙ sym f)

pub ends_refusal-unique : Determined 0 ends_refusal_kinds.ps ends_refusal_kinds.r ends-refusal.Post
ends_refusal-unique κs a x y s t e f = told-same x y (e ∙ sym f)

pub link-refusal-unique : Determined 0 link_refusal_kinds.ps link_refusal_kinds.r link-refusal.Post
link-refusal-unique κs a x y s t e f = told-same x y (e ∙ sym f)

pub power-unique : Determined 0 power_kinds.ps power_kinds.r power.Post
power-unique κs a x y s t e f = e ∙ sym f

pub server-count-unique : Determined 0 server_count_kinds.ps server_count_kinds.r server-count.Post
server-count-unique κs a x y s t e f = e ∙ sym f

pub digit-bound-unique : Determined 0 digit_bound_kinds.ps digit_bound_kinds.r digit_bound.Post
digit-bound-unique κs a x y s t e f = e ∙ sym f

pub servers_of-unique : Determined 0 servers_of_kinds.ps servers_of_kinds.r servers-of.Post
servers_of-unique κs a x y s t e f = number-same x y (e ∙ sym f)

pub bound_of-unique : Determined 0 bound_of_kinds.ps bound_of_kinds.r bound_of.Post
bound_of-unique κs a x y s t e f = number-same x y (e ∙ sym f)

pub digits_of-unique : Determined 0 digits_of_kinds.ps digits_of_kinds.r digits_of.Post
digits_of-unique κs a x y s t e f = digits-same x y (e ∙ sym f)

pub digit_of-unique : Determined 0 digit_of_kinds.ps digit_of_kinds.r digit_of.Post
digit_of-unique κs a x y s t e f = number-same x y (e ∙ sym f)

pub address_of-unique : Determined 0 address_of_kinds.ps address_of_kinds.r address-of.Post
address_of-unique κs a x y s t e f = number-same x y (e ∙ sym f)

pub switch_of-unique : Determined 0 switch_of_kinds.ps switch_of_kinds.r switch-of.Post
switch_of-unique κs a x y s t e f = switch-same x y (e ∙ sym f)

pub side_at-unique : Determined 0 side_at_kinds.ps side_at_kinds.r side-at.Post
side_at-unique κs a x y s t e f = e ∙ sym f

pub side_of-unique : Determined 0 side_of_kinds.ps side_of_kinds.r side-of.Post
side_of-unique κs a x y s t e f = e ∙ sym f

pub neighbour_of-unique : Determined 0 neighbour_of_kinds.ps neighbour_of_kinds.r neighbour_of.Post
neighbour_of-unique κs a x y s t e f = number-same x y (e ∙ sym f)

pub level-between-unique : Determined 0 level_between_kinds.ps level_between_kinds.r level_between.Post
level-between-unique κs a x y s t e f = between-same x y (e ∙ sym f)

pub switches_of-unique : Determined 0 switches_of_kinds.ps switches_of_kinds.r switches-of.Post
switches_of-unique κs a x y s t e f = number-same x y (e ∙ sym f)

pub server-at-unique : Determined 0 server_at_kinds.ps server_at_kinds.r server-at.Post
server-at-unique κs a x y s t e f = number-same x y (e ∙ sym f)
