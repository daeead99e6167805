-- `header_item` meets its contract.
-- Rests on: the laws in sector_rules::Base/Packed; the contract of header_byte.
-- Assumes nothing.
use mathlib.Core.Path.{sym, ap, ◌∙◌}
use native.Mathlib.Omega.{arith}
use Rattle.cells.specs.declared.Item.TheVariants.{Plain}
use Rattle.sector_rules.proofs.Laws.Base.Packed.{sector_lead, sector_sync, sector_header, sector_gap, sector_zeros, sector_mark}
use Rattle.sectors.proofs.sector_place.SectorPlace.header_item.Goals as goal

pub returns-in-0-to-11 : goal.returns-in-0-to-11
returns-in-0-to-11 c = λ d. sym (sector_lead _ _ _ d _ (omega arith))

pub returns-in-12-to-14 : goal.returns-in-12-to-14
returns-in-12-to-14 c = λ d. sym (sector_sync _ _ _ d _ (omega arith) (omega arith))

pub returns-in-15-to-21 : goal.returns-in-15-to-21
returns-in-15-to-21 c = λ d. ap Plain c.header_byte.ensures ∙ sym (sector_header _ _ _ d _ (omega arith) (omega arith))

pub returns-in-22-to-43 : goal.returns-in-22-to-43
returns-in-22-to-43 c = λ d. sym (sector_gap _ _ _ d _ (omega arith) (omega arith))

pub returns-in-44-to-55 : goal.returns-in-44-to-55
returns-in-44-to-55 c = λ d. sym (sector_zeros _ _ _ d _ (omega arith) (omega arith))

pub returns-in_default : goal.returns-in_default
returns-in_default c = λ d. sym (sector_mark _ _ _ d _ (omega arith) (omega arith))
