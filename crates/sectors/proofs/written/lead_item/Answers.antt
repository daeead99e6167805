-- `lead_item` meets its contract.
-- Rests on: the laws in Packing/Items.
-- Assumes nothing.
use mathlib.Core.Path.{sym}
use native.Mathlib.Omega.{arith}
use Rattle.sector_rules.specs.Packed.{image_side}
use Rattle.sectors.specs.Laws.Packing.Items.{side_gap, side_zeros, side_index, side_mark, side_gap2}
use Rattle.sectors.proofs.written.lead_item.Goals as goal

pub returns-in-0-to-79 : goal.returns-in-0-to-79
unfolding image_side
returns-in-0-to-79 c = λ image t s. sym (side_gap _ _ _ _ (omega arith))

pub returns-in-80-to-91 : goal.returns-in-80-to-91
unfolding image_side
returns-in-80-to-91 c = λ image t s. sym (side_zeros _ _ _ _ (omega arith) (omega arith))

pub returns-in-92-to-94 : goal.returns-in-92-to-94
unfolding image_side
returns-in-92-to-94 c = λ image t s. sym (side_index _ _ _ _ (omega arith) (omega arith))

pub returns-in-95 : goal.returns-in-95
unfolding image_side
returns-in-95 c = λ image t s. sym (side_mark _ _ _ _ (omega arith) (omega arith))

pub returns-in_default : goal.returns-in_default
unfolding image_side
returns-in_default c = λ image t s. sym (side_gap2 _ _ _ _ (omega arith) (omega arith))
