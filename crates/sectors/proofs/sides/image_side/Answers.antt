-- `image_side` meets its contract.
-- Rests on: the laws in Unpacking/Sides; the contracts of stored_cells and nth_side.
-- Assumes nothing.
use Rattle.sectors.specs.Laws.Unpacking.Sides.{image_gives}
use Rattle.sectors.proofs.sides.image_side.Goals as goal

pub returns : goal.returns
returns c = image_gives _ _ _ c.stored_cells-cells.ensures _ c.nth_side.ensures
