-- `side_item` meets its contract.
-- Rests on: the laws in Packing/Items and sector_rules::Base/Packed; the contracts of lead_item and
-- sector_item.
-- Assumes nothing.
use mathlib.Core.Path.{sym, ◌∙◌}
use native.Mathlib.Omega.{arith}
use Rattle.sector_rules.specs.Packed.{image_side}
use Rattle.sector_rules.proofs.Laws.Base.Packed.{side_sector}
use Rattle.sectors.specs.Laws.Packing.Items.{side_tail}
use Rattle.sectors.proofs.written.WrittenSide.side_item.Goals as goal

pub returns-in-0-to-145 : goal.returns-in-0-to-145
returns-in-0-to-145 c = c.lead_item.ensures _ _ _

pub returns-in-146-to-6067 : goal.returns-in-146-to-6067
unfolding image_side
returns-in-146-to-6067 c = c.sector_item.ensures ∙ sym (side_sector _ _ _ _ (omega arith) (omega arith))

pub returns-in_default : goal.returns-in_default
unfolding image_side
returns-in_default c = sym (side_tail _ _ _ _ (omega arith) (omega arith))
