-- `read_sector` meets its contract.
-- Rests on: the laws in Rewriting/Compared; the contracts of sector_cells and write_sector.
-- Assumes nothing.
use mathlib.Core.Path.{refl}
use Rattle.sectors.specs.Laws.Rewriting.Compared.{bytes_read}
use Rattle.sectors.proofs.comparing.read_sector.Goals as goal

pub returns : goal.returns
returns c = bytes_read _ _ _ _ c.sector_cells-cells.ensures _ _ refl c.write_sector.ensures
