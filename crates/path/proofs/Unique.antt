-- Each public function's contract determines its answer: whatever meets it on some arguments is the one answer to them.
use mathlib.Core.Path.{◌∙◌, sym}
use Rattle.room.proofs.AnswerLaws.{number-same}
use Rattle.path.proofs.ToldLaws.{hop-same, walk-same, reading-same, writing-same, parts-same}
use Rattle.refusals.specs.Determined.{Determined}
use Rattle.path.proofs.bytes.byte_of.Reads as byte_of
use Rattle.path.proofs.bytes.byte_of.Kinds as byte_of_kinds
use Rattle.path.proofs.bytes.parts_of.Reads as parts_of
use Rattle.path.proofs.bytes.parts_of.Kinds as parts_of_kinds
use Rattle.path.proofs.hops.hop_of.Reads as hop_of
use Rattle.path.proofs.hops.hop_of.Kinds as hop_of_kinds
use Rattle.path.proofs.hops.level_of.Reads as level-of
use Rattle.path.proofs.hops.level_of.Kinds as level_of_kinds
use Rattle.path.proofs.hops.value_of.Reads as value-of
use Rattle.path.proofs.hops.value_of.Kinds as value_of_kinds
use Rattle.path.proofs.repeats.place_in.Reads as place-in
use Rattle.path.proofs.repeats.place_in.Kinds as place_in_kinds
use Rattle.path.proofs.walks.walk.Reads as walk
use Rattle.path.proofs.walks.walk.Kinds as walk_kinds
use Rattle.path.proofs.readings.read_path.Reads as read_path
use Rattle.path.proofs.readings.read_path.Kinds as read_path_kinds
use Rattle.path.proofs.reversals.reverse_path.Reads as reverse_path
use Rattle.path.proofs.reversals.reverse_path.Kinds as reverse_path_kinds
use Rattle.path.proofs.writings.write_path.Reads as write_path
use Rattle.path.proofs.writings.write_path.Kinds as write_path_kinds

pub hop_of-unique : Determined 0 hop_of_kinds.ps hop_of_kinds.r hop_of.Post
hop_of-unique κs a x y s t e f = hop-same x y (e ∙ sym f)

pub level_of-unique : Determined 0 level_of_kinds.ps level_of_kinds.r level-of.Post
level_of-unique κs a x y s t e f = e ∙ sym f

pub value_of-unique : Determined 0 value_of_kinds.ps value_of_kinds.r value-of.Post
value_of-unique κs a x y s t e f = e ∙ sym f

pub walk-unique : Determined 2 walk_kinds.ps walk_kinds.r walk.Post
walk-unique κs a x y s t e f = walk-same x y (e ∙ sym f)

pub read_path-unique : Determined 1 read_path_kinds.ps read_path_kinds.r read_path.Post
read_path-unique κs a x y s t e f = reading-same x y (e ∙ sym f)

pub reverse_path-unique : Determined 1 reverse_path_kinds.ps reverse_path_kinds.r reverse_path.Post
reverse_path-unique κs a x y s t e f = writing-same x y (e ∙ sym f)

pub write_path-unique : Determined 1 write_path_kinds.ps write_path_kinds.r write_path.Post
write_path-unique κs a x y s t e f = writing-same x y (e ∙ sym f)

pub place_in-unique : Determined 1 place_in_kinds.ps place_in_kinds.r place-in.Post
place_in-unique κs a x y s t e f = e ∙ sym f

pub byte_of-unique : Determined 0 byte_of_kinds.ps byte_of_kinds.r byte_of.Post
byte_of-unique κs a x y s t e f = number-same x y (e ∙ sym f)

pub parts_of-unique : Determined 0 parts_of_kinds.ps parts_of_kinds.r parts_of.Post
parts_of-unique κs a x y s t e f = parts-same x y (e ∙ sym f)
