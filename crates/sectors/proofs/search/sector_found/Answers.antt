-- `sector_found` meets its contract.
-- Rests on: the contract of field_of.
-- Assumes nothing.
use mathlib.Core.Path.{refl}
use Rattle.sector_rules.specs.Search.{sector_found}
use Rattle.sector_rules.specs.Rewritten.{data_place_of}
use Rattle.sectors.proofs.search.sector_found.Goals as goal

pub returns-in-One : goal.returns-in-One
unfolding sector_found data_place_of
returns-in-One c = rw c.in-One.is c.field_of.ensures

pub returns-in-Nothing : goal.returns-in-Nothing
unfolding sector_found data_place_of
returns-in-Nothing c = rw c.in-Nothing.is (refl, refl)

pub returns-in-Several : goal.returns-in-Several
unfolding sector_found data_place_of
returns-in-Several c = rw c.in-Several.is (refl, refl)
