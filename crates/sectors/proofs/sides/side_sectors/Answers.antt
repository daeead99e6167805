-- `side_sectors` meets its contract.
-- Rests on: the laws in Unpacking/Sides and Reading/Search; the contracts of scan and sector_found.
-- Assumes nothing.
use mathlib.Core.Path.{◌≡◌}
use borrow.Author.Rules.{rules}
use Rattle.sector_rules.specs.declared.Found.TheVariants.{Nothing}
use Rattle.sector_rules.specs.Geometry.{sectors}
use Rattle.sector_rules.specs.Search.{sector_found}
use Rattle.sector_rules.specs.Rewritten.{data_place_of}
use Rattle.sectors.specs.Laws.Reading.Search.{mapped_each}
use Rattle.sectors.specs.Laws.Unpacking.Sides.{no_field, fields_found}
use Rattle.sectors.proofs.sides.side_sectors.Goals as goal

pub returns : goal.returns
returns c = fields_found c.scan.result _ _ _ _ c.scan.ensures c.map.ensures.items.long
    (mapped_each _ _ (λ x y. (y.sector ≡ sector_found c.args.cells.now x) × (y.place ≡ data_place_of c.args.cells.now x)) (λ x y q k. search rules)
    _ _ Nothing no_field sectors c.map.ensures.items)
