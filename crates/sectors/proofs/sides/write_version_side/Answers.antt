-- `write_version_side` meets its contract.
-- Rests on: the laws in Unpacking/Sides; the contracts of nth_cells and write_side.
-- Assumes nothing.
use Rattle.sectors.specs.Laws.Unpacking.Sides.{side_written}
use Rattle.sectors.proofs.sides.write_version_side.Goals as goal

pub returns : goal.returns
returns c = side_written _ _ _ _ _ _ c.nth_cells-cells.ensures c.write_side.ensures
