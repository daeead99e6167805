-- `stored_cells` meets its contract.
-- Rests on: the laws in Unpacking/Sides; the contracts of track_part, track_side and Cells::new.
-- Assumes nothing.
use mathlib.Core.Path.{◌∙◌}
use Rattle.sectors.specs.Laws.Unpacking.Sides.{plain_cells}
use Rattle.sectors.proofs.sides.stored_cells.Goals as goal

pub returns : goal.returns
returns c = c.new.ensures ∙ plain_cells _ c.requires.0 _ _ _ _ c.track_part.ensures c.track_side.ensures
