-- `cells::row_cell` meets its contract.
-- Rests on: the contracts of row_bit_before, byte_in and item_cell.
-- Assumes nothing.
use mathlib.Core.Path.{◌∙◌}
use Rattle.cells.specs.Written.{written_cell}
use Rattle.cells.proofs.mfm.row_cell.Goals as goal

pub returns : goal.returns
unfolding written_cell
returns c = c.item_cell.ensures ∙ rw (c.row_bit_before.ensures, c.byte_in.ensures)
