-- `trees::parents::parent_by`: the level is one of the room, a place of the strides and of the digits.
use Rattle.std.proofs.Common.{arith}
use Rattle.trees.proofs.ParentLaws.{stride_by, level_by, digit_by}
use Rattle.trees.proofs.parents.parent_by.Goals as goal

pub offset_bounds-strides-level : goal.offset_bounds-strides-level
offset_bounds-strides-level c = let w = level_by _ _ _ _ c.requires.0 _ c.lowered_level-level.ensures in omega (arith, w.level, w.server.valid.levels)

pub bounds-strides-level : goal.bounds-strides-level
bounds-strides-level c = let w = level_by _ _ _ _ c.requires.0 _ c.lowered_level-level.ensures in omega (arith, w.level, w.server.valid.levels)

pub offset_bounds-own-level : goal.offset_bounds-own-level
offset_bounds-own-level c = let w = level_by _ _ _ _ c.requires.0 _ c.lowered_level-level.ensures in omega (arith, w.level, w.server.valid.levels)

pub bounds-own-level : goal.bounds-own-level
bounds-own-level c = let w = level_by _ _ _ _ c.requires.0 _ c.lowered_level-level.ensures in omega (arith, w.level, w.server.valid.levels)

pub lower-requires : goal.lower-requires
lower-requires c =
    let h = c.requires in
    let w = level_by _ _ _ _ c.requires.0 _ c.lowered_level-level.ensures in
    ((w, digit_by _ _ _ h.1 _), stride_by _ _ (omega (arith, w.level, w.server.valid.levels)) _ h.2)
