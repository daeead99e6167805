-- `sector_item` meets its contract.
-- Rests on: the laws in Packing/Items and sector_rules::Base/Packed; the contracts of header_item, image_start
-- and field_byte.
-- Assumes nothing.
use mathlib.Core.Path.{sym, ap, ◌∙◌}
use native.Mathlib.Omega.{arith}
use Rattle.cells.specs.declared.Item.TheVariants.{Plain}
use Rattle.sector_rules.specs.Packed.{sector_data}
use Rattle.sector_rules.proofs.Laws.Base.Packed.{sector_field}
use Rattle.sectors.specs.Laws.Packing.Items.{sector_tail}
use Rattle.sectors.proofs.written.WrittenSide.sector_item.Goals as goal

pub returns-in-0-to-58 : goal.returns-in-0-to-58
returns-in-0-to-58 c = c.header_item.ensures _

pub returns-in-59-to-573 : goal.returns-in-59-to-573
unfolding sector_data
returns-in-59-to-573 c = ap Plain (c.field_byte.ensures ∙ rw c.image_start.ensures) ∙ sym (sector_field _ _ _ _ _ (omega arith) (omega arith))

pub returns-in_default : goal.returns-in_default
returns-in_default c = sym (sector_tail _ _ _ _ _ (omega arith))
